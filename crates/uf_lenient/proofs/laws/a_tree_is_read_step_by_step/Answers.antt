use Rattle.std.proofs.Common.{◌≡◌, ◌+◌, ℕ, suc, subst, arith, Ok}
use Rattle.uf_lenient.specs.Denoted.{denotes_within}
use Rattle.uf_lenient.proofs.Denoting.{denoted-step}
use Rattle.uf_lenient.proofs.laws.a_tree_is_read_step_by_step.Goals as goal

pub returns : goal.returns
returns c = λ held limits room start t is.
    let same : room + 1 ≡ suc room = omega arith in
    denoted-step held limits room start t (subst (λ (n : ℕ). denotes_within held limits n start ≡ Ok t) same is)
