-- A file from the root down.
use Rattle.std.proofs.Common.{◌≡◌, ℕ, zero, suc, ◌+◌, ◌*◌, ◌<◌, ◌≤◌, List, [], ◌∷◌, ◌++◌, length, refl, ap, arith, sym, ◌∙◌, map, subst}
use Rattle.std.proofs.Math.Nat.{mul-le-mul, mul-le-mul_left}
use Rattle.std.proofs.lemmas.List.{append-nil}
use Rattle.uf_tree.specs.FilePlan.{split_from, groups, node_part}
use Rattle.uf_tree.specs.Cutting.{joined, room_after}
use Rattle.uf_tree.specs.FileSub.{span, part_over}
use Rattle.uf_tree.proofs.Groups.{length-split, width-split, joined-split, room-below}
use Rattle.uf_tree.proofs.Nested.{groups-product, groups-map}

pub span-pos : (c w k : ℕ) → 1 ≤ c → 1 ≤ w → 1 ≤ span c w k
unfolding span
span-pos c w zero h j = h
span-pos c w (suc k) h j = let more : 1 * 1 ≤ w * span c w k = mul-le-mul j (span-pos c w k h j) in omega (arith, more)

module _ (X : List ℕ → List ℕ) (c w : ℕ) (pos : 1 ≤ c) (two : 2 ≤ w) where
  fuse : (k : ℕ) (gs : List (List ℕ)) → map (node_part X) (map (map (part_over X c w k)) (map (groups (span c w k)) gs)) ≡ map (part_over X c w (suc k)) gs
  unfolding part_over
  fuse k [] = refl
  fuse k (g ∷ gs) = ap (λ ms. part_over X c w (suc k) g ∷ ms) (fuse k gs)

  -- one row up, from the root down
  pub row-up : (k : ℕ) (b : List ℕ) → map (node_part X) (groups w (map (part_over X c w k) (groups (span c w k) b))) ≡ map (part_over X c w (suc k)) (groups (span c w (suc k)) b)
  unfolding span
  row-up k b =
      ap (map (node_part X)) (groups-map (part_over X c w k) w (groups (span c w k) b) ∙ ap (map (map (part_over X c w k))) (groups-product w (span c w k) (omega arith) (span-pos c w k pos (omega arith)) b))
      ∙ fuse k (groups (span c w (suc k)) b)

  pub all : (k : ℕ) (b a : List ℕ) → split_from (span c w k) (span c w k) b ≡ (a, []) → a ≡ b
  all k b a e = sym (append-nil a) ∙ ap (λ (s : List ℕ × List (List ℕ)). s.0 ++ joined s.1) (sym e) ∙ joined-split (span c w k) (span c w k) b

  pub fits : (k : ℕ) (b a : List ℕ) → split_from (span c w k) (span c w k) b ≡ (a, []) → length b ≤ span c w k
  fits k b a e =
      let first = (width-split (span c w k) (span c w k) b (span-pos c w k pos (omega arith)) (omega arith)).0 in
      let same = ap (λ (s : List ℕ × List (List ℕ)). length s.0) e in
      omega (arith, first, same, ap length (all k b a e))

  -- where there is a group behind the first, the bytes don't fit one
  pub more : (s : ℕ) → 1 ≤ s → (b : List ℕ) (a g : List ℕ) (rest : List (List ℕ)) → split_from s s b ≡ (a, g ∷ rest) → s < length b
  more s h [] a g rest e = absurd (nothing_more (ap (λ (z : List ℕ × List (List ℕ)). z.1) e))
    where
      nothing_more : {A : Type 0} {g : A} {rest : List A} → [] ≡ g ∷ rest → ⊥
      nothing_more e = cc
  more s h (x ∷ xs) a g rest e =
      let count = length-split s s (x ∷ xs) h (omega arith) in
      let room = room-below s s x xs h (omega arith) in
      over s (length rest) (length (x ∷ xs)) (room_after s s (x ∷ xs)) (subst (λ n. s * n + s ≡ length (x ∷ xs) + room_after s s (x ∷ xs)) (ap (λ (z : List ℕ × List (List ℕ)). length z.1) e) count) room
    where
      over : (s n l r : ℕ) → s * suc n + s ≡ l + r → r < s → s < l
      over s n l r e k = let again : s * 1 ≤ s * suc n = mul-le-mul_left s (omega arith) in omega arith
