use Rattle.std.proofs.Common.{◌-◌, ◌*◌, ◌/◌, ◌%◌, length, arith, refl, ◌∙◌, replicate}
use Rattle.std.proofs.lemmas.List.{take_rest}
use Rattle.sha2.proofs.Absorbing256.{padding-take}
use Rattle.uf_cid.proofs.Messages.{tail_is}
use Rattle.uf_cid.proofs.lanes.tail.Goals as goal

pub returns : goal.returns
returns c =
    let m = c.args.message.now in
    tail_is m (replicate 128 0) _ _ _ _ _ _ refl refl (omega arith)
    (c.copy_from_slice.ensures.after ∙ take_rest m (length m / 64 * 64))
    (c.copy_from_slice-2.ensures.after ∙ padding-take 0x80 0 ((119 - length m % 64) % 64) (omega arith))
    (c.copy_from_slice-3.ensures.after ∙ c.to_be_bytes.ensures)
