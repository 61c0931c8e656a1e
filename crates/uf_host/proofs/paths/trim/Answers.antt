use Rattle.std.proofs.Common.{◌≡◌, ℕ, ◌-◌, List, get_or, ap, ◌∙◌, arith}
use Rattle.uf_host.specs.Paths.{kept_length}
use Rattle.uf_host.proofs.Texts.{kept-first, kept-other, trimmed-is}
use Rattle.uf_host.proofs.paths.trim.Goals.{then-loop-end-test+else-bytes-end-eq47, else-loop-end-test}
use Rattle.uf_host.proofs.paths.trim.Goals as goal

pub range-requires-clause-end_boundary : goal.range-requires-clause-end_boundary
range-requires-clause-end_boundary c = (c.loop-end.invariant.fits, λ less high. let is = c.loop-end.invariant.cut less in omega (arith, is, high))

pub returns : goal.returns
returns c =
    let path = c.args.path.now in
    let end = c.loop-end.end in
    let stays : kept_length path end ≡ end = elim c.loop-end-test.branch [
      | then-loop-end-test+else-bytes-end-eq47 w ↦ kept-other path end w.loop-end-test.true
          (λ e. w.if-bytes-end-eq47.false (ap (λ (bs : List ℕ). get_or bs (end - 1) 0) c.as_bytes-bytes.ensures.value ∙ e))
      | else-loop-end-test w ↦ kept-first path end (omega (arith, w.loop-end-test.false))
    ] in
    let is = trimmed-is path end (c.loop-end.invariant.same ∙ stays) in
    grind (arith, is, c.range.ensures.value)
