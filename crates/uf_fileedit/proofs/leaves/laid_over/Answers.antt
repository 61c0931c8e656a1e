use Rattle.std.proofs.Common.{ap, sym, ◌∙◌, length, ◌≡◌, List, ℕ}
use Rattle.uf_fileedit.specs.Changes.{overlaid}
use Rattle.uf_fileedit.proofs.Bytes.{length-changed}
use Rattle.uf_fileedit.proofs.Steps.{laid-bytes, written-back}
use Rattle.uf_fileedit.proofs.leaves.laid_over.Goals as goal

pub returns-clause-bytes : goal.returns-clause-bytes
returns-clause-bytes c =
    let laid : c.put.new.out ≡ overlaid c.args.size c.args.old.now c.args.offset c.args.piece.now
    = laid-bytes c.args.size c.args.offset c.min-from.result c.args.old.now c.args.piece.now c.as_mut_slice.result.now c.put.new.out c.requires.within c.min-from.ensures (c.as_mut_slice.ensures.value ∙ c.in_ok-bytes.ensures.bytes) c.put.ensures in
    written-back c.in_ok-bytes.bytes.len c.put.new.out c.in_ok-bytes.bytes.items (c.in_ok-bytes.bytes.ok.0 ∙ c.in_ok-bytes.ensures.size ∙ sym (ap (λ (l : List ℕ). length l) laid ∙ length-changed c.args.size c.args.old.now c.args.offset c.args.piece.now)) ∙ laid
