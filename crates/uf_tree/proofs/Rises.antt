-- Keys that strictly rise, from neighbour to neighbour.
use Rattle.std.proofs.Common.{◌≡◌, ℕ, ◌+◌, ◌-◌, ◌<◌, ◌≤◌, List, [], ◌∷◌, length, drop, get_or, refl, ap, arith, sym, ◌∙◌, Bool, true, false, Ordering, Less, Equal, Greater}
use Rattle.std.specs.Prelude.{◌&&◌}
use Rattle.std.specs.Cmp.{IsTotalOrder}
use Rattle.std.specs.FinMap.Entries.{is_sorted, below_all}
use Rattle.std.specs.Ordering.{is_lt}
use Rattle.std.proofs.lemmas.List.{drop_more, length-drop}
use Rattle.uf_tree.specs.Rising.{rises}
use Rattle.uf_tree.proofs.Twins.{both_true}

less_is : (r : Ordering) → is_lt r ≡ true → r ≡ Less
less_is Less e = refl
less_is Equal e = absurd cc
less_is Greater e = absurd cc

first_decides : (t x s : Bool) → (t ≡ true → s ≡ true → x ≡ true) → (t && s) ≡ ((t && x) && s)
first_decides false x s h = refl
first_decides true true s h = refl
first_decides true false true h = sym (h refl refl)
first_decides true false false h = refl

module _ {K X : Type 0} {R : K → K → Ordering} (o : IsTotalOrder R) where
  below_further : (a b : K) (l : List (K × X)) → R a b ≡ Less → below_all R b l ≡ true → below_all R a l ≡ true
  below_further a b [] lt h = refl
  below_further a b (e ∷ l) lt h =
      let parts = both_true (is_lt (R b e.0)) (below_all R b l) h in
      let first : is_lt (R a e.0) ≡ true = ap is_lt (o.trans a b e.0 lt (less_is (R b e.0) parts.0)) in
      ap (λ (x : Bool). x && below_all R a l) first ∙ below_further a b l lt parts.1

  pub rises-sorted : (l : List (K × X)) → rises R l ≡ is_sorted R l
  rises-sorted [] = refl
  rises-sorted (a ∷ []) = refl
  rises-sorted (a ∷ b ∷ l) =
      let again = rises-sorted (b ∷ l) in
      ap (λ (s : Bool). is_lt (R a.0 b.0) && s) again
      ∙ first_decides (is_lt (R a.0 b.0)) (below_all R a.0 l) (is_sorted R (b ∷ l))
      (λ lt s. below_further a.0 b.0 l (less_is (R a.0 b.0) lt) (both_true (below_all R b.0 l) (is_sorted R l) s).0)

module _ {K X : Type 0} (R : K → K → Ordering) where
  rises_more : (l : List (K × X)) (i : ℕ) (a b : K × X) → 1 ≤ i → i < length l → a ≡ get_or l (i - 1) a → b ≡ get_or l i b
      → rises R (drop (i - 1) l) ≡ (is_lt (R a.0 b.0) && rises R (drop i l))
  rises_more l i a b le lt first second =
      let j : i - 1 + 1 ≡ i = omega arith in
      let one : drop (i - 1) l ≡ a ∷ drop i l =
      drop_more l (i - 1) a (omega arith) ∙ ap (λ (x : K × X). x ∷ drop (i - 1 + 1) l) (sym first) ∙ ap (λ (k : ℕ). a ∷ drop k l) j in
      let two : drop i l ≡ b ∷ drop (i + 1) l = drop_more l i b lt ∙ ap (λ (x : K × X). x ∷ drop (i + 1) l) (sym second) in
      ap (rises R) (one ∙ ap (λ (ls : List (K × X)). a ∷ ls) two) ∙ ap (λ (ls : List (K × X)). is_lt (R a.0 b.0) && rises R ls) (sym two)

  pub rises_go_on : (l : List (K × X)) (i : ℕ) (a b : K × X) (test all : Bool) → 1 ≤ i → i < length l → a ≡ get_or l (i - 1) a → b ≡ get_or l i b
      → test ≡ is_lt (R a.0 b.0) → test ≡ true → rises R (drop (i - 1) l) ≡ all → rises R (drop (i + 1 - 1) l) ≡ all
  rises_go_on l i a b test all le lt first second is holds so_far =
      let j : i + 1 - 1 ≡ i = omega arith in
      ap (λ (k : ℕ). rises R (drop k l)) j
      ∙ sym (ap (λ (t : Bool). t && rises R (drop i l)) (sym is ∙ holds))
      ∙ sym (rises_more l i a b le lt first second) ∙ so_far

  pub rises_break : (l : List (K × X)) (i : ℕ) (a b : K × X) (test all : Bool) → 1 ≤ i → i < length l → a ≡ get_or l (i - 1) a → b ≡ get_or l i b
      → test ≡ is_lt (R a.0 b.0) → test ≡ false → rises R (drop (i - 1) l) ≡ all → false ≡ all
  rises_break l i a b test all le lt first second is fails so_far =
      sym (rises_more l i a b le lt first second ∙ ap (λ (t : Bool). t && rises R (drop i l)) (sym is ∙ fails)) ∙ so_far

  short_rises : (l : List (K × X)) → length l ≤ 1 → rises R l ≡ true
  short_rises [] le = refl
  short_rises (a ∷ []) le = refl
  short_rises (a ∷ b ∷ l) le = absurd (omega arith)

  pub rises_end : (l : List (K × X)) (i : ℕ) (all : Bool) → length l ≤ i → rises R (drop (i - 1) l) ≡ all → true ≡ all
  rises_end l i all le so_far = sym (short_rises (drop (i - 1) l) (omega (arith, length-drop (i - 1) l))) ∙ so_far
