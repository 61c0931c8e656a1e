use Rattle.std.proofs.Common.{ℕ, ◌+◌, ◌*◌, ◌-◌, ap, arith, ◌∙◌}
use Rattle.sha2.specs.Sha256.{sha256}
use Rattle.uf_cid.proofs.Messages.{part_in_piece, piece_fits}
use Rattle.uf_cid.proofs.lanes.write_group.Goals as goal

pub returns-clause-written : goal.returns-clause-written
returns-clause-written c = λ j lt.
    let size = c.args.size in
    let at = c.args.at in
    let w : ℕ = at + 8 * size - at in
    c.places.invariant.2 j (omega arith) ∙ c.sha256_group-digests.ensures j lt
    ∙ ap sha256 (part_in_piece c.args.bytes.now at w (j * size) size (piece_fits size w (omega arith) j lt))
