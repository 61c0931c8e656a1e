-- CIDs that are compared.
use Rattle.std.proofs.Common.{◌≡◌, ℕ, List, Bool, true, false, not, refl, sym, ◌∙◌}
use Rattle.std.specs.Cmp.{unsigned_tied}
use Rattle.std.specs.Cmp.Lexicographic.{lists_ties}
use Rattle.std.specs.Ordering.{eq_by_cmp, nat_cmp}
use Rattle.uf_cid.specs.declared.cid.Codec.{Codec}
use Rattle.uf_cid.specs.declared.cid.Codec.TheVariants.{Raw, DagPb}
use Rattle.uf_cid.specs.declared.cid.Cid.{Cid}
use Rattle.uf_cid.specs.Cid.{cid_cmp}
use Rattle.uf_cid.specs.contracts.cid.CidPartialEq.TheImpl.{eq-value}

same_cid : (x y : Codec) (d e : List ℕ) → eq-value.it (record { codec = x; digest = d }) (record { codec = y; digest = e }) ≡ eq_by_cmp cid_cmp (record { codec = x; digest = d }) (record { codec = y; digest = e })
same_cid Raw Raw d e = lists_ties nat_cmp (λ (a b : ℕ). sym (unsigned_tied a b)) d e
same_cid Raw DagPb d e = refl
same_cid DagPb Raw d e = refl
same_cid DagPb DagPb d e = lists_ties nat_cmp (λ (a b : ℕ). sym (unsigned_tied a b)) d e

-- two CIDs are equal where they tie in their order
pub eq_is : (a b : Cid) → eq-value.it a b ≡ eq_by_cmp cid_cmp a b
eq_is a b = same_cid a.codec b.codec a.digest b.digest

pub tie_is : (a b : Cid) (r x : Bool) → r ≡ not (eq-value.it a b) → r ≡ not x → eq_by_cmp cid_cmp a b ≡ x
tie_is a b r x is e = sym (eq_is a b) ∙ both (eq-value.it a b) x (sym is ∙ e)
  where
    both : (p q : Bool) → not p ≡ not q → p ≡ q
    both true true h = refl
    both false false h = refl
    both true false h = cc
    both false true h = cc
