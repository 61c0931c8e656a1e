-- Groups of groups are groups of the product.
use Rattle.std.proofs.Common.{◌≡◌, ℕ, zero, suc, pred, ◌+◌, ◌*◌, ◌≤◌, List, [], ◌∷◌, refl, ap, arith, map}
use Rattle.uf_tree.specs.FilePlan.{split_from, groups}

-- a split as a list
abbrev pub whole : {A : Type 0} → List A × List (List A) → List (List A)
whole s = s.0 ∷ s.1

abbrev front_more : {A : Type 0} → A → List (List A) → List (List A)
front_more x [] = []
front_more x (g ∷ gs) = (x ∷ g) ∷ gs

-- the members of the first outer group after the open inner one, and the other outer groups
pub split-nested : {A : Type 0} (w m W : ℕ) → W ≡ suc w * suc m → (R r q : ℕ) → q ≡ R * suc m + r → (xs : List A)
    → split_from (suc w) (suc R) (whole (split_from (suc m) r xs))
    ≡ (whole (split_from (suc m) r (split_from W q xs).0), map (groups (suc m)) (split_from W q xs).1)
split-nested w m W h R r q e [] = refl
split-nested w m W h R (suc r) zero e (x ∷ xs) = absurd (omega arith)
split-nested {A} w m W h R (suc r) (suc q) e (x ∷ xs) =
    ap (λ (z : List (List A) × List (List (List A))). (front_more x z.0, z.1)) (split-nested w m W h R r q (omega arith) xs)
split-nested {A} w m W h (suc R) zero zero e (x ∷ xs) = absurd (omega arith)
split-nested {A} w m W h (suc R) zero (suc q) e (x ∷ xs) =
    ap (λ (z : List (List A) × List (List (List A))). ([] ∷ front_more x z.0, z.1)) (split-nested w m W h R m q (omega arith) xs)
split-nested {A} w m W h zero zero (suc q) e (x ∷ xs) = absurd (omega arith)
split-nested {A} w m W h zero zero zero e (x ∷ xs) =
    ap (λ (z : List (List A) × List (List (List A))). ([] ∷ [], front_more x z.0 ∷ z.1)) (split-nested w m W h w m (pred W) (omega arith) xs)

-- groups of groups, as lists
pub groups-groups : {A : Type 0} (w m : ℕ) (xs : List A) → groups (suc w) (groups (suc m) xs) ≡ map (groups (suc m)) (groups (suc w * suc m) xs)
groups-groups w m xs = ap whole (split-nested w m (suc w * suc m) refl w (suc m) (suc w * suc m) (omega arith) xs)

-- of one who looks through a function, the groups are those of the arguments
pub split-map : {A B : Type 0} (f : A → B) (w r : ℕ) (xs : List A) → split_from w r (map f xs) ≡ (map f (split_from w r xs).0, map (map f) (split_from w r xs).1)
split-map f w r [] = refl
split-map {A} {B} f w zero (x ∷ xs) = ap (λ (s : List B × List (List B)). ([], (f x ∷ s.0) ∷ s.1)) (split-map f w (pred w) xs)
split-map {A} {B} f w (suc r) (x ∷ xs) = ap (λ (s : List B × List (List B)). (f x ∷ s.0, s.1)) (split-map f w r xs)

pub groups-product : {A : Type 0} (w v : ℕ) → 1 ≤ w → 1 ≤ v → (xs : List A) → groups w (groups v xs) ≡ map (groups v) (groups (w * v) xs)
groups-product zero v h k xs = absurd (omega arith)
groups-product (suc w) zero h k xs = absurd (omega arith)
groups-product (suc w) (suc v) h k xs = groups-groups w v xs

pub groups-map : {A B : Type 0} (f : A → B) (w : ℕ) (xs : List A) → groups w (map f xs) ≡ map (map f) (groups w xs)
groups-map f w xs = ap whole (split-map f w w xs)

map-map : {A B C : Type 0} (f : A → B) (g : B → C) (xs : List A) → map g (map f xs) ≡ map (λ x. g (f x)) xs
map-map f g [] = refl
map-map f g (x ∷ xs) = ap (λ ys. g (f x) ∷ ys) (map-map f g xs)
