-- What the tests of pairs and items say.
use Rattle.std.proofs.Common.{◌≡◌, ◌≤◌, List, [], ◌∷◌, length, ap, arith, subst, sym, ◌∙◌, Bool, true, false}
use Rattle.std.specs.Prelude.{IsTrue, ◌==◌}
use Rattle.std.specs.Cmp.{nat_cmp_total}
use Rattle.std.specs.List.{AllByRecursion}
use Rattle.std.specs.Ordering.{nat_cmp}
use Rattle.uf_tree.specs.Names.{names_cmp}
use Rattle.uf_tree.specs.Nodes.{Named, InSlot}
use Rattle.uf_tree.specs.Rising.{rises}
use Rattle.uf_tree.specs.Validity.{IsDirectory, IsInSlot, IsNamed, IsShard}
use Rattle.uf_tree.proofs.Rises.{rises-sorted}
use Rattle.uf_tree.proofs.ShardLaws.{names_total}

pub directory_iff : (l slice : List Named) (b : Bool) → slice ≡ l → AllByRecursion IsNamed slice → b ≡ rises names_cmp slice → (IsTrue b → IsDirectory l) × (IsDirectory l → IsTrue b)
directory_iff l slice b e all is = (
  λ t. record { sorted = sym (rises-sorted names_total l) ∙ ap (rises names_cmp) (sym e) ∙ sym is ∙ t; each = subst (λ (x : List Named). AllByRecursion IsNamed x) e all },
  λ h. is ∙ ap (rises names_cmp) e ∙ rises-sorted names_total l ∙ h.sorted,
)

some_of : {A : Type 0} (l : List A) (empty : Bool) → empty ≡ (length l == 0) → empty ≡ false → 1 ≤ length l
some_of [] empty is fails = absurd (let e : true ≡ false = sym is ∙ fails in cc)
some_of (x ∷ l) empty is fails = omega arith

pub shard_iff : (l slice : List InSlot) (empty b : Bool) → slice ≡ l → AllByRecursion IsInSlot slice → empty ≡ (length slice == 0) → empty ≡ false → b ≡ rises nat_cmp slice
    → (IsTrue b → IsShard l) × (IsShard l → IsTrue b)
shard_iff l slice empty b e all is fails rising = (
  λ t. record {
    some = subst (λ (x : List InSlot). 1 ≤ length x) e (some_of slice empty is fails);
    sorted = sym (rises-sorted nat_cmp_total l) ∙ ap (rises nat_cmp) (sym e) ∙ sym rising ∙ t;
    each = subst (λ (x : List InSlot). AllByRecursion IsInSlot x) e all;
  },
  λ h. rising ∙ ap (rises nat_cmp) e ∙ rises-sorted nat_cmp_total l ∙ h.sorted,
)
