-- Groups behind a full one.
use Rattle.std.proofs.Common.{◌≡◌, ℕ, zero, suc, ◌≤◌, List, [], ◌∷◌, ◌++◌, length, refl, ap, arith}
use Rattle.uf_tree.specs.FilePlan.{split_from, groups}

pub split-short : {A : Type 0} (v r : ℕ) (h : List A) → length h ≤ r → split_from v r h ≡ (h, [])
split-short v r [] k = refl
split-short v zero (x ∷ h) k = absurd (omega arith)
split-short {A} v (suc r) (x ∷ h) k = ap (λ (s : List A × List (List A)). (x ∷ s.0, s.1)) (split-short v r h (omega arith))

-- behind a full group the rest is cut afresh
split-behind : {A : Type 0} (v r : ℕ) (f : List A) (x : A) (h : List A) → length f ≡ r → split_from (suc v) r (f ++ x ∷ h) ≡ (f, groups (suc v) (x ∷ h))
split-behind v zero [] x h e = refl
split-behind v (suc r) [] x h e = absurd (omega arith)
split-behind v zero (y ∷ f) x h e = absurd (omega arith)
split-behind {A} v (suc r) (y ∷ f) x h e = ap (λ (s : List A × List (List A)). (y ∷ s.0, s.1)) (split-behind v r f x h (omega arith))

pub groups-behind : {A : Type 0} (v : ℕ) → 1 ≤ v → (f h : List A) → length f ≡ v → 1 ≤ length h → groups v (f ++ h) ≡ f ∷ groups v h
groups-behind zero k f h e j = absurd (omega arith)
groups-behind (suc v) k f [] e j = absurd (omega arith)
groups-behind {A} (suc v) k f (x ∷ h) e j = ap (λ (s : List A × List (List A)). s.0 ∷ s.1) (split-behind v (suc v) f x h e)
