-- Tests that hold, as facts.
use Rattle.std.proofs.Common.{◌≡◌, ◌≤◌, Bool, true, false, T, arith}
use Rattle.std.specs.Prelude.{IsTrue}
use Rattle.std.proofs.lemmas.Bool.Decides.{nat_tests}
use Rattle.uf_tree.specs.declared.profile.Profile.{Profile}
use Rattle.uf_tree.specs.Profiles.{is_profile}

pub as_T : (b : Bool) → IsTrue b → T b
as_T true h = tt
as_T false h = absurd (no h)
  where
    no : false ≡ true → ⊥
    no e = cc

pub as_true : (b : Bool) → T b → IsTrue b
as_true true h = λ i. true
as_true false h = absurd h

-- what an accepted profile keeps
pub record Kept (p : Profile) : Type 0 where
  pub some : 1 ≤ p.chunk
  pub short : p.chunk ≤ 1048576
  pub two : 2 ≤ p.width
  pub few : p.width ≤ 1024
  pub threshold : p.threshold ≤ 1048576

pub kept : (p : Profile) → IsTrue (is_profile p) → Kept p
kept p h = record {
  some = grind (arith, nat_tests);
  short = grind (arith, nat_tests);
  two = grind (arith, nat_tests);
  few = grind (arith, nat_tests);
  threshold = grind (arith, nat_tests);
}
