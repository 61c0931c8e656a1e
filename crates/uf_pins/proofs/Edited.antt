-- Pins with one more and with one less.
use Rattle.std.proofs.Common.{◌≡◌, ◌≢◌, ℕ, zero, suc, ◌+◌, ◌<◌, ◌≤◌, List, [], ◌∷◌, ◌++◌, get_or, length, take, drop, refl, sym, ap, subst, subst₂, length-append, append_assoc, ◌∙◌, ◌⊎◌, ◌↔◌, inl, inr, Contains, arith, slice_get, take-append-drop, Option, is_some, Bool, true, false, cond}
use mir.Val.{bool_byte}
use Rattle.std.specs.Prelude.{Some, None, IfSome}
use Rattle.std.specs.List.{AllByRecursion}
use Rattle.std.specs.Ordering.{nat_cmp, ordering_reverse}
use Rattle.std.specs.Cmp.Lexicographic.{slice_cmp, nat_list_cmp_total}
use Rattle.std.specs.FinMap.{slice_cmp-IsAntisymmetric, nat_cmp-IsAntisymmetric}
use Rattle.std.specs.declared.cmp.Ordering.{Ordering}
use Rattle.std.specs.declared.cmp.Ordering.TheVariants.{Less, Equal, Greater}
use Rattle.std.proofs.lemmas.List.Elements.{Contains-append_cases, Contains-append_left, Contains-append_right, Contains-push, Contains-push_cases, All-contains, All-from_recursion}
use Rattle.uf_cid.specs.Cid.{cid_text}
use Rattle.uf_cid.specs.Read.{IsCid}
use Rattle.uf_cid.specs.declared.cid.Cid.{Cid}
use Rattle.std.specs.Cmp.{eq_by_cmp_equiv}
use Rattle.std.specs.Ordering.{eq_by_cmp}
use Rattle.uf_cid.specs.Cid.{cid_cmp}
use Rattle.uf_store.proofs.Holding.{cid_cmp_total}
use Rattle.uf_walk.proofs.Members.{ties}
use Rattle.uf_pins.specs.Calls.{IsFront, IsPlaceOf, others}
use Rattle.uf_pins.specs.Notes.{IsWith, IsWithout}
use Rattle.uf_pins.specs.Texts.{AreAscending, ArePins, IsAbove, IsBefore}
use Rattle.uf_pins.proofs.Placed.{there-at}
use Rattle.uf_pins.proofs.Written.{before-trans, same_cid}

-- ---- the order of texts

irreflexive : (a : Cid) → IsBefore a a → ⊥
irreflexive a h = let turned : Less ≡ ordering_reverse Less = sym h ∙ nat_list_cmp_total.antisymm (cid_text a) (cid_text a) ∙ ap ordering_reverse h in cc

-- one of two CIDs is before the other
module _ (a b : Cid) (p : IsCid a) (q : IsCid b) (differ : a ≢ b) where
  pub turned : (IsBefore b a → ⊥) → IsBefore a b
  turned not_before = by (slice_cmp nat_cmp (cid_text b) (cid_text a)) refl
    where
      by : (r : Ordering) → slice_cmp nat_cmp (cid_text b) (cid_text a) ≡ r → IsBefore a b
      by Less is = absurd (not_before is)
      by Equal is = absurd (differ (same_cid a b p q (sym (slice_cmp-IsAntisymmetric nat_cmp-IsAntisymmetric (cid_text b) (cid_text a) is))))
      by Greater is = nat_list_cmp_total.antisymm (cid_text a) (cid_text b) ∙ ap ordering_reverse is

-- ---- lists cut in two

each-append : (P : Cid → Type 0) (xs ys : List Cid) → AllByRecursion P xs → AllByRecursion P ys → AllByRecursion P (xs ++ ys)
each-append P [] ys p q = q
each-append P (x ∷ xs) ys p q = (p.0, each-append P xs ys p.1 q)

each-front : (P : Cid → Type 0) (xs ys : List Cid) → AllByRecursion P (xs ++ ys) → AllByRecursion P xs
each-front P [] ys h = tt
each-front P (x ∷ xs) ys h = (h.0, each-front P xs ys h.1)

each-back : (P : Cid → Type 0) (xs ys : List Cid) → AllByRecursion P (xs ++ ys) → AllByRecursion P ys
each-back P [] ys h = h
each-back P (x ∷ xs) ys h = each-back P xs ys h.1

ascending-back : (xs ys : List Cid) → AreAscending (xs ++ ys) → AreAscending ys
ascending-back [] ys h = h
ascending-back (x ∷ xs) ys h = ascending-back xs ys h.1

-- one more between
ascending-with : (front behind : List Cid) (c : Cid) → AreAscending (front ++ behind) → IsAbove front c → AllByRecursion (IsBefore c) behind → AreAscending (front ++ c ∷ behind)
ascending-with [] behind c h above below = (below, h)
ascending-with (p ∷ front) behind c h above below = (
  each-append (IsBefore p) front (c ∷ behind) (each-front (IsBefore p) front behind h.0) (above.0, each-back (IsBefore p) front behind h.0),
  ascending-with front behind c h.1 above.1 below,
)

-- one less between
ascending-without : (front behind : List Cid) (c : Cid) → AreAscending (front ++ c ∷ behind) → AreAscending (front ++ behind)
ascending-without [] behind c h = h.1
ascending-without (p ∷ front) behind c h = (
  each-append (IsBefore p) front behind (each-front (IsBefore p) front (c ∷ behind) h.0) (each-back (IsBefore p) front (c ∷ behind) h.0).1,
  ascending-without front behind c h.1,
)

-- the CID between is in no other place
above-not : (front : List Cid) (c : Cid) → IsAbove front c → Contains front c → ⊥
above-not front c above there = irreflexive c (All-contains (λ p. IsBefore p c) front c (All-from_recursion (λ p. IsBefore p c) front above) there)

below-not : (behind : List Cid) (c : Cid) → AllByRecursion (IsBefore c) behind → Contains behind c → ⊥
below-not behind c below there = irreflexive c (All-contains (IsBefore c) behind c (All-from_recursion (IsBefore c) behind below) there)

above-of : (front behind : List Cid) (c : Cid) → AreAscending (front ++ c ∷ behind) → IsAbove front c
above-of [] behind c h = tt
above-of (p ∷ front) behind c h = ((each-back (IsBefore p) front (c ∷ behind) h.0).0, above-of front behind c h.1)

only : (x y : Cid) → Contains (x ∷ []) y → x ≡ y
only x y h = elim (Contains-push_cases [] x y h) [ inl none ↦ absurd (let k : ℕ = none.0 in omega (arith, none.1)) | inr e ↦ e ]

contains-with : (front behind : List Cid) (c d : Cid) → Contains (front ++ c ∷ behind) d ↔ (Contains (front ++ behind) d ⊎ (d ≡ c))
contains-with front behind c d = (
  λ h. elim (Contains-append_cases front (c ∷ behind) d h) [
    | inl a ↦ inl (Contains-append_left front behind d a)
    | inr b ↦ elim (Contains-append_cases (c ∷ []) behind d b) [ inl one ↦ inr (sym (only c d one)) | inr r ↦ inl (Contains-append_right front behind d r) ]
  ],
  λ h. elim h [
    | inl a ↦ elim (Contains-append_cases front behind d a) [
      | inl f ↦ Contains-append_left front (c ∷ behind) d f
      | inr b ↦ Contains-append_right front (c ∷ behind) d (Contains-append_right (c ∷ []) behind d b)
    ]
    | inr e ↦ subst (λ (x : Cid). Contains (front ++ c ∷ behind) x) (sym e) (Contains-append_right front (c ∷ behind) c (Contains-append_left (c ∷ []) behind c (Contains-push [] c)))
  ],
)

-- ---- how many are others

module _ (c : Cid) where
  others-none : (pins : List Cid) → (Contains pins c → ⊥) → others c pins ≡ length pins
  others-none [] none = refl
  others-none (p ∷ pins) none = by (others-none pins (λ h. none (Contains-append_right (p ∷ []) pins c h))) (eq_by_cmp cid_cmp c p) refl
    where
      by : others c pins ≡ length pins → (b : Bool) → eq_by_cmp cid_cmp c p ≡ b → cond b (others c pins) (1 + others c pins) ≡ length (p ∷ pins)
      by all true same = absurd (none (subst (Contains (p ∷ pins)) (sym (ties c p same)) (Contains-append_left (p ∷ []) pins p (Contains-push [] p))))
      by all false differ = omega (arith, all)

  others-append : (xs ys : List Cid) → others c (xs ++ ys) ≡ others c xs + others c ys
  others-append [] ys = omega arith
  others-append (x ∷ xs) ys = by (others-append xs ys) (eq_by_cmp cid_cmp c x)
    where
      by : others c (xs ++ ys) ≡ others c xs + others c ys → (b : Bool) → cond b (others c (xs ++ ys)) (1 + others c (xs ++ ys)) ≡ cond b (others c xs) (1 + others c xs) + others c ys
      by sum true = sum
      by sum false = omega (arith, sum)

  others-self : (pins : List Cid) → others c (c ∷ pins) ≡ others c pins
  others-self pins = ap (λ b. cond b (others c pins) (1 + others c pins)) ((eq_by_cmp_equiv cid_cmp_total).refl c)

-- ---- one more

all-after : (c d : Cid) → IsBefore c d → (xs : List Cid) → AllByRecursion (IsBefore d) xs → AllByRecursion (IsBefore c) xs
all-after c d first [] h = tt
all-after c d first (x ∷ xs) h = (before-trans c d x first h.0, all-after c d first xs h.1)

first-of : (pins : List Cid) (at : ℕ) (d : Cid) (rest : List Cid) → drop at pins ≡ d ∷ rest → slice_get pins at ≡ Some d
first-of [] zero d rest is = cc
first-of [] (suc at) d rest is = cc
first-of (p ∷ pins) zero d rest is = let one : p ≡ d = cc in ap (λ (x : Cid). Some x) one
first-of (p ∷ pins) (suc at) d rest is = first-of pins at d rest is

module _ (pins : List Cid) (c : Cid) (at : ℕ) (are : ArePins pins) (whole : IsCid c) (new : Contains pins c → ⊥) (front : IsFront c pins at) where
  parts : take at pins ++ drop at pins ≡ pins
  parts = take-append-drop at pins

  ascending-parts : AreAscending (take at pins ++ drop at pins)
  ascending-parts = subst AreAscending (sym parts) are.ascending

  whole-parts : AllByRecursion IsCid (take at pins ++ drop at pins)
  whole-parts = subst (AllByRecursion IsCid) (sym parts) are.whole

  below-all : (behind : List Cid) → drop at pins ≡ behind → AreAscending behind → AllByRecursion IsCid behind → AllByRecursion (IsBefore c) behind
  below-all [] is up good = tt
  below-all (d ∷ rest) is up good =
      let there : Contains pins d = subst (λ (l : List Cid). Contains l d) (ap (λ (l : List Cid). take at pins ++ l) (sym is) ∙ parts) (Contains-append_right (take at pins) (d ∷ rest) d (Contains-append_left (d ∷ []) rest d (Contains-push [] d))) in
      let differ : c ≢ d = λ e. new (subst (Contains pins) (sym e) there) in
      let behind_it : IsBefore d c → ⊥ = subst (λ (o : Option Cid). IfSome o (λ p. IsBefore p c → ⊥)) (first-of pins at d rest is) front.last in
      let first : IsBefore c d = turned c d whole good.0 differ behind_it in
      (first, all-after c d first rest up.0)

  below : AllByRecursion (IsBefore c) (drop at pins)
  below = below-all (drop at pins) refl (ascending-back (take at pins) (drop at pins) ascending-parts) (each-back IsCid (take at pins) (drop at pins) whole-parts)

  pub with-one : (now : List Cid) → now ≡ take at pins ++ c ∷ drop at pins → IsWith c pins now
  with-one now is = record {
    are = record {
      ascending = subst AreAscending (sym is) (ascending-with (take at pins) (drop at pins) c ascending-parts front.above below);
      whole = subst (AllByRecursion IsCid) (sym is) (each-append IsCid (take at pins) (c ∷ drop at pins) (each-front IsCid (take at pins) (drop at pins) whole-parts) (whole, each-back IsCid (take at pins) (drop at pins) whole-parts));
    };
    each = λ d. subst₂ (λ (x y : List Cid). Contains x d ↔ (Contains y d ⊎ (d ≡ c))) (sym is) parts (contains-with (take at pins) (drop at pins) c d);
  }

-- ---- one less

pub cut-at : (pins : List Cid) (at : ℕ) (c : Cid) → slice_get pins at ≡ Some c → (rest : List Cid) × (drop at pins ≡ c ∷ rest)
cut-at [] at c is = cc
cut-at (p ∷ pins) zero c is = let one : p ≡ c = cc in (pins, λ i. one i ∷ pins)
cut-at (p ∷ pins) (suc at) c is = cut-at pins at c is

module _ (pins : List Cid) (c : Cid) (at : ℕ) (are : ArePins pins) (rest : List Cid) (there : drop at pins ≡ c ∷ rest) where
  whole-list : take at pins ++ c ∷ rest ≡ pins
  whole-list = ap (λ (l : List Cid). take at pins ++ l) (sym there) ∙ take-append-drop at pins

  ascends : AreAscending (take at pins ++ c ∷ rest)
  ascends = subst AreAscending (sym whole-list) are.ascending

  wholes : AllByRecursion IsCid (take at pins ++ c ∷ rest)
  wholes = subst (AllByRecursion IsCid) (sym whole-list) are.whole

  no_more : (d : Cid) → Contains (take at pins ++ rest) d → d ≢ c
  no_more d h e = elim (Contains-append_cases (take at pins) rest d h) [
    | inl a ↦ above-not (take at pins) c (above-of (take at pins) rest c ascends) (subst (Contains (take at pins)) e a)
    | inr b ↦ below-not rest c (ascending-back (take at pins) (c ∷ rest) ascends).0 (subst (Contains rest) e b)
  ]

  pub without-one : (now : List Cid) → now ≡ take at pins ++ rest → IsWithout c pins now
  without-one now is = record {
    are = record {
      ascending = subst AreAscending (sym is) (ascending-without (take at pins) rest c ascends);
      whole = subst (AllByRecursion IsCid) (sym is) (each-append IsCid (take at pins) rest (each-front IsCid (take at pins) (c ∷ rest) wholes) (each-back IsCid (take at pins) (c ∷ rest) wholes).1);
    };
    each = λ d. subst₂ (λ (x y : List Cid). Contains x d ↔ (Contains y d × (d ≢ c))) (sym is) whole-list (
      λ h. ((contains-with (take at pins) rest c d).1 (inl h), no_more d h),
      λ h. elim ((contains-with (take at pins) rest c d).0 h.0) [ inl a ↦ a | inr e ↦ absurd (h.1 e) ],
    );
  }

  others-one : others c pins + 1 ≡ length pins
  others-one =
      let front = others-none c (take at pins) (above-not (take at pins) c (above-of (take at pins) rest c ascends)) in
      let behind = others-none c rest (below-not rest c (ascending-back (take at pins) (c ∷ rest) ascends).0) in
      let sum = others-append c (take at pins) (c ∷ rest) in
      let mine = others-self c rest in
      let all = length-append (take at pins) (c ∷ rest) in
      let long : length (take at pins ++ c ∷ rest) ≡ length pins = ap length whole-list in
      let same : others c (take at pins ++ c ∷ rest) ≡ others c pins = ap (others c) whole-list in
      omega (arith, front, behind, sum, mine, all, long, same)

-- what was pushed, piece by piece
pub three : (none front behind first second third : List Cid) (c : Cid) → none ≡ [] → first ≡ none ++ front → second ≡ first ++ c ∷ [] → third ≡ second ++ behind → third ≡ front ++ c ∷ behind
three none front behind first second third c n a b d =
    d ∙ ap (λ (l : List Cid). l ++ behind) (b ∙ ap (λ (l : List Cid). l ++ c ∷ []) (a ∙ ap (λ (l : List Cid). l ++ front) n)) ∙ append_assoc front (c ∷ []) behind

pub two : (none front behind first second : List Cid) → none ≡ [] → first ≡ none ++ front → second ≡ first ++ behind → second ≡ front ++ behind
two none front behind first second n a b = b ∙ ap (λ (l : List Cid). l ++ behind) (a ∙ ap (λ (l : List Cid). l ++ front) n)

-- how many of the pins are other CIDs, wherever the CID is
pub others-of : (pins : List Cid) (c : Cid) (o : Option ℕ) → ArePins pins → IsPlaceOf c pins o → others c pins + cond (is_some o) 1 0 ≡ length pins
others-of pins c None are none = (let all = others-none c pins none in omega (arith, all))
others-of pins c (Some at) are there =
    let cut = cut-at pins at c there in
    let one = others-one pins c at are cut.0 cut.1 in
    omega (arith, one)

pub contains-of : (pins : List Cid) (c : Cid) (o : Option ℕ) → IsPlaceOf c pins o → is_some o ≡ true → Contains pins c
contains-of pins c None none is = cc
contains-of pins c (Some at) there is = there-at pins at c there

pub new-of : (pins : List Cid) (c : Cid) (o : Option ℕ) → IsPlaceOf c pins o → is_some o ≡ false → Contains pins c → ⊥
new-of pins c None none is = none
new-of pins c (Some at) there is = cc

-- a test as a number
pub byte-is : (b : Bool) → ◌≡◌ {A = ℕ} (bool_byte b) (cond b 1 0)
byte-is true = refl
byte-is false = refl
