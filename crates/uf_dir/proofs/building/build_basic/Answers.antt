use Rattle.std.proofs.Common.{◌≡◌, ℕ, ◌<◌, ◌≤◌, ◌^◌, ap, subst, arith, true, false, cond, Some, None}
use Rattle.std.specs.Prelude.{nat_lt}
use Rattle.std.proofs.lemmas.Bool.Decides.{nat_tests}
use Rattle.uf_tree.specs.declared.nodes.Entry.{Entry}
use Rattle.uf_tree.specs.TreePlan.{TooBig, too_big}
use Rattle.uf_dir.proofs.building.build_basic.Goals as goal

more : (n : ℕ) → 2 ^ 62 < n → nat_lt (2 ^ 62) n ≡ true
more n h = grind (arith, nat_tests)

less : (n : ℕ) → n ≤ 2 ^ 62 → nat_lt (2 ^ 62) n ≡ false
less n h = grind (arith, nat_tests)

is-big : (n m : ℕ) → n ≡ m → 2 ^ 62 < n → too_big m ≡ Some TooBig
is-big n m same h = ap (λ b. cond b (Some TooBig) None) (more m (subst (λ (x : ℕ). 2 ^ 62 < x) same h))

is-small : (n m : ℕ) → n ≡ m → n ≤ 2 ^ 62 → too_big m ≡ None
is-small n m same h = ap (λ b. cond b (Some TooBig) None) (less m (subst (λ (x : ℕ). x ≤ 2 ^ 62) same h))

pub returns-then-entry-gt-MOST_TSIZE-clause-answer : goal.returns-then-entry-gt-MOST_TSIZE-clause-answer
returns-then-entry-gt-MOST_TSIZE-clause-answer g c = λ N. is-big c.in_ok-entry.entry.tsize _ (ap (λ (e : Entry). e.tsize) (c.in_ok-entry.ensures.entry N)) c.if-entry-gt-MOST_TSIZE.true

pub returns-clause-answer : goal.returns-clause-answer
returns-clause-answer g c = λ N. (is-small c.in_ok-entry.entry.tsize _ (ap (λ (e : Entry). e.tsize) (c.in_ok-entry.ensures.entry N)) c.if-entry-gt-MOST_TSIZE.false, c.in_ok-entry.ensures.entry N)
