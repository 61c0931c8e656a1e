use Rattle.std.proofs.Common.{◌*◌, length, arith}
use Rattle.uf_cid.proofs.Messages.{pieces_fit}
use Rattle.uf_cid.proofs.lanes.apart.write_groups.Goals as goal

pub write_group-requires-clause-inside : goal.write_group-requires-clause-inside
write_group-requires-clause-inside c =
    pieces_fit (8 * c.groups.g) 8 (length c.args.out.now) c.args.size (length c.args.bytes.now) (omega arith) c.requires.pieces
