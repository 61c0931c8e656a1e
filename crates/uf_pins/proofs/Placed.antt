-- The place of a CID among others.
use Rattle.std.proofs.Common.{◌≡◌, ◌≢◌, ℕ, zero, suc, ◌+◌, ◌<◌, ◌≤◌, List, [], ◌∷◌, ◌++◌, get_or, length, take, take-suc, take_all, slice_get, Bool, true, false, refl, sym, ap, subst, ◌∙◌, Contains, inl, inr, arith, add-one}
use Rattle.std.specs.Prelude.{IfSome, Option, Some, None}
use Rattle.std.specs.List.{AllByRecursion}
use Rattle.std.specs.Cmp.{eq_by_cmp_equiv, unsigned_tied}
use Rattle.std.specs.Cmp.Lexicographic.{lists_ties}
use Rattle.std.specs.Ordering.{eq_by_cmp, nat_cmp}
use Rattle.std.proofs.lemmas.List.Elements.{Contains-append_left, Contains-append_right, Contains-push, Contains-push_cases}
use Rattle.uf_cid.specs.declared.cid.Codec.{Codec}
use Rattle.uf_cid.specs.declared.cid.Codec.TheVariants.{Raw, DagPb}
use Rattle.uf_cid.specs.declared.cid.Cid.{Cid}
use Rattle.uf_cid.specs.Cid.{cid_cmp}
use Rattle.uf_cid.specs.contracts.cid.CidPartialEq.TheImpl.{eq-value}
use Rattle.uf_store.proofs.Holding.{cid_cmp_total}
use Rattle.uf_walk.proofs.Members.{ties}
use Rattle.uf_pins.specs.Calls.{IsFront}
use Rattle.uf_pins.specs.Texts.{IsAbove, IsBefore}
use Rattle.uf_pins.proofs.Written.{all-more}

same_cid : (x y : Codec) (d e : List ℕ) → eq-value.it (record { codec = x; digest = d }) (record { codec = y; digest = e }) ≡ eq_by_cmp cid_cmp (record { codec = x; digest = d }) (record { codec = y; digest = e })
same_cid Raw Raw d e = lists_ties nat_cmp (λ (a b : ℕ). sym (unsigned_tied a b)) d e
same_cid Raw DagPb d e = refl
same_cid DagPb Raw d e = refl
same_cid DagPb DagPb d e = lists_ties nat_cmp (λ (a b : ℕ). sym (unsigned_tied a b)) d e

eq_is : (a b : Cid) → eq-value.it a b ≡ eq_by_cmp cid_cmp a b
eq_is a b = same_cid a.codec b.codec a.digest b.digest

pub same-is : (a b : Cid) (r : Bool) → r ≡ eq-value.it a b → r ≡ true → a ≡ b
same-is a b r is holds = ties a b (sym (eq_is a b) ∙ sym is ∙ holds)

pub other-is : (a b : Cid) (r : Bool) → r ≡ eq-value.it a b → r ≡ false → a ≡ b → ⊥
other-is a b r is fails e =
    let tied : eq_by_cmp cid_cmp a b ≡ true = ap (λ x. eq_by_cmp cid_cmp x b) e ∙ (eq_by_cmp_equiv cid_cmp_total).refl b in
    let no : true ≡ false = sym tied ∙ sym (eq_is a b) ∙ sym is ∙ fails in absurd cc

pub got : (cids : List Cid) (place : ℕ) (d c : Cid) → place < length cids → get_or cids place d ≡ c → slice_get cids place ≡ Some c
got [] place d c inside is = absurd (omega (arith, inside))
got (x ∷ cids) zero d c inside is = ap (λ (y : Cid). Some y) is
got (x ∷ cids) (suc place) d c inside is = got cids place d c (omega (arith, inside)) is

pub not-next : (cids : List Cid) (place : ℕ) (d c : Cid) → place < length cids → (Contains (take place cids) c → ⊥) → (get_or cids place d ≡ c → ⊥) → Contains (take (place + 1) cids) c → ⊥
not-next cids place d c inside none differ there =
    elim (Contains-push_cases (take place cids) (get_or cids place d) c
    (subst (λ (l : List Cid). Contains l c) (ap (λ n. take n cids) (add-one place) ∙ take-suc cids place d inside) there)) [ inl a ↦ none a | inr e ↦ differ e ]

pub not-all : (cids all : List Cid) (place : ℕ) (c : Cid) → length cids ≤ place → cids ≡ all → (Contains (take place cids) c → ⊥) → Contains all c → ⊥
not-all cids all place c past is none there = none (subst (λ (l : List Cid). Contains l c) (sym (take_all place cids past ∙ is)) there)

pub there-at : (cids : List Cid) (place : ℕ) (c : Cid) → slice_get cids place ≡ Some c → Contains cids c
there-at [] place c is = cc
there-at (x ∷ cids) zero c is = let same : x ≡ c = cc in subst (Contains (x ∷ cids)) same (Contains-append_left (x ∷ []) cids x (Contains-push [] x))
there-at (x ∷ cids) (suc place) c is = Contains-append_right (x ∷ []) cids c (there-at cids place c is)

-- ---- how many are before a CID

pub above-next : (cids : List Cid) (place : ℕ) (d c : Cid) → place < length cids → IsAbove (take place cids) c → IsBefore (get_or cids place d) c → IsAbove (take (place + 1) cids) c
above-next cids place d c inside above before =
    subst (λ (l : List Cid). IsAbove l c) (sym (ap (λ n. take n cids) (add-one place) ∙ take-suc cids place d inside))
    (all-more (λ p. IsBefore p c) (take place cids) (get_or cids place d) above before)

pub front-here : (cids all : List Cid) (place : ℕ) (d c : Cid) → cids ≡ all → place < length cids → IsAbove (take place cids) c → (IsBefore (get_or cids place d) c → ⊥) → IsFront c all place
front-here cids all place d c is inside above not_before = subst (λ (l : List Cid). IsFront c l place) is (record {
  fits = omega (arith, inside);
  above = above;
  last = subst (λ (o : Option Cid). IfSome o (λ p. IsBefore p c → ⊥)) (sym (got cids place d (get_or cids place d) inside refl)) not_before;
})

none-at : (cids : List Cid) (n : ℕ) → n ≡ length cids → slice_get cids n ≡ None
none-at [] n is = refl
none-at (x ∷ cids) zero is = absurd (omega (arith, is))
none-at (x ∷ cids) (suc n) is = none-at cids n (omega (arith, is))

pub front-end : (cids all : List Cid) (place n : ℕ) (c : Cid) → cids ≡ all → length cids ≤ place → n ≡ length cids → IsAbove (take place cids) c → IsFront c all n
front-end cids all place n c is past len above = subst (λ (l : List Cid). IsFront c l n) is (record {
  fits = omega (arith, len);
  above = subst (λ (l : List Cid). IsAbove l c) (take_all place cids past ∙ sym (take_all n cids (omega (arith, len)))) above;
  last = subst (λ (o : Option Cid). IfSome o (λ p. IsBefore p c → ⊥)) (sym (none-at cids n len)) tt;
})
