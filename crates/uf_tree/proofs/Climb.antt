-- Rows up to the first that is one group.
use Rattle.std.proofs.Common.{◌≡◌, ℕ, zero, suc, ◌+◌, ◌*◌, ◌<◌, ◌≤◌, List, [], ◌∷◌, length, refl, ap, arith, sym, ◌∙◌, map, ◌⊎◌, inl, inr}
use Rattle.std.proofs.lemmas.Bool.{cases_lt}
use Rattle.std.proofs.lemmas.List.{length-map}
use Rattle.uf_tree.specs.FilePlan.{split_from, groups, climb, with_row, node_part, node_held}
use Rattle.uf_cid.specs.Blocks.{Held}
use Rattle.uf_tree.specs.Cutting.{room_after}
use Rattle.uf_tree.specs.declared.nodes.Part.{Part}
use Rattle.uf_tree.proofs.Behind.{split-short}
use Rattle.uf_tree.proofs.Groups.{fewer, length-split, room-bound}

-- more than one group has no fewer groups behind the first
pub some-behind : {A : Type 0} (w : ℕ) (xs : List A) → 1 ≤ w → w < length xs → 1 ≤ length (split_from w w xs).1
some-behind w xs h more = by (length (split_from w w xs).1) (length-split w w xs h (omega arith)) (room-bound w w xs (omega arith))
  where
    by : (n : ℕ) → w * n + w ≡ length xs + room_after w w xs → room_after w w xs ≤ w → 1 ≤ n
    by zero e room = absurd (omega arith)
    by (suc n) e room = omega arith

-- of more than one group the row above has fewer parts
pub groups-fewer : {A : Type 0} (w : ℕ) (xs : List A) → 2 ≤ w → 2 ≤ length xs → length (groups w xs) < length xs
groups-fewer w [] h k = absurd (omega arith)
groups-fewer w (x ∷ []) h k = absurd (omega arith)
groups-fewer w (x ∷ y ∷ xs) h k = let less = fewer w x y xs h in omega arith

module _ (X : List ℕ → List ℕ) (w : ℕ) where
  abbrev pub above : ℕ → List Part → List Held × List Part
  above fuel parts = with_row (map (node_held X) (groups w parts)) (climb X w fuel (map (node_part X) (groups w parts)))

  abbrev pub by_rest : ℕ → List Part → List (List Part) → List Held × List Part
  by_rest fuel parts rest = elim rest [
    | [] ↦ ([], parts)
    | g ∷ gs ↦ above fuel parts
  ]

  pub climb-one : (fuel : ℕ) (parts : List Part) → length parts ≤ w → climb X w fuel parts ≡ ([], parts)
  unfolding climb
  climb-one zero parts h = refl
  climb-one (suc fuel) parts h = ap (λ (s : List Part × List (List Part)). by_rest fuel parts s.1) (split-short w w parts h)

  pub climb-more : (fuel : ℕ) (parts : List Part) → 1 ≤ w → w < length parts → climb X w (suc fuel) parts ≡ above fuel parts
  unfolding climb
  climb-more fuel parts h more = by (split_from w w parts).1 (some-behind w parts h more)
    where
      by : (rest : List (List Part)) → 1 ≤ length rest → by_rest fuel parts rest ≡ above fuel parts
      by [] some = absurd (omega arith)
      by (g ∷ gs) some = refl

  -- the rows don't depend on the fuel
  pub climb-fuel : (j k : ℕ) (parts : List Part) → 2 ≤ w → length parts ≤ j → length parts ≤ k → climb X w j parts ≡ climb X w k parts
  climb-fuel zero k parts h p q = climb-one zero parts (omega arith) ∙ sym (climb-one k parts (omega arith))
  climb-fuel (suc j) zero parts h p q = climb-one (suc j) parts (omega arith) ∙ sym (climb-one zero parts (omega arith))
  climb-fuel (suc j) (suc k) parts h p q = by (cases_lt w (length parts)) (λ more less. climb-fuel j k (map (node_part X) (groups w parts)) h (omega (arith, length-map (groups w parts) (node_part X), less)) (omega (arith, length-map (groups w parts) (node_part X), less)))
    where
      by : (w < length parts) ⊎ (length parts ≤ w)
          → (w < length parts → length (groups w parts) < length parts → climb X w j (map (node_part X) (groups w parts)) ≡ climb X w k (map (node_part X) (groups w parts)))
          → climb X w (suc j) parts ≡ climb X w (suc k) parts
      by (inl more) later =
          climb-more j parts (omega arith) more
          ∙ ap (with_row (map (node_held X) (groups w parts))) (later more (groups-fewer w parts h (omega arith)))
          ∙ sym (climb-more k parts (omega arith) more)
      by (inr le) later = climb-one (suc j) parts le ∙ sym (climb-one (suc k) parts le)
