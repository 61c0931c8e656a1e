use Rattle.std.proofs.Common.{◌-◌, ◌%◌, arith, ◌∙◌}
use Rattle.sha2.proofs.Absorbing256.{padding-take}
use Rattle.uf_cid.proofs.Padded.{padded_is}
use Rattle.uf_cid.proofs.lanes.apart.pad.Goals as goal

pub returns-clause-padded : goal.returns-clause-padded
returns-clause-padded c =
    padded_is c.args.piece.now _ _ c.args.end _ _ c.requires (omega arith)
    (c.copy_from_slice.ensures.after ∙ padding-take 0x80 0 ((119 - c.args.end % 64) % 64) (omega arith))
    (c.copy_from_slice-2.ensures.after ∙ c.to_be_bytes.ensures)
