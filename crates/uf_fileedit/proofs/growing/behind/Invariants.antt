use Rattle.std.proofs.Common.{◌≡◌, ◌∷◌, take}
use Rattle.uf_fileedit.proofs.growing.behind.Given as goal

abbrev pub invariant-loop-part : goal.invariant-loop-part
invariant-loop-part l = l.parts ≡ l.fn.first ∷ take l.part-index l.rest
