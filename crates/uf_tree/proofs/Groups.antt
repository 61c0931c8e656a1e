-- Laws of `split_from`.
use Rattle.std.proofs.Common.{◌≡◌, ℕ, zero, suc, pred, ◌+◌, ◌*◌, ◌<◌, ◌≤◌, List, [], ◌∷◌, ◌++◌, length, refl, ap, arith, sym, ◌∙◌}
use Rattle.std.proofs.Math.Nat.{mul-le-mul_right}
use Rattle.std.specs.List.{AllByRecursion}
use Rattle.uf_tree.specs.FilePlan.{split_from}
use Rattle.uf_tree.specs.Cutting.{joined, room_after, glue}

-- nothing is lost
pub joined-split : {A : Type 0} (w r : ℕ) (xs : List A) → (split_from w r xs).0 ++ joined (split_from w r xs).1 ≡ xs
joined-split w r [] = refl
joined-split w zero (x ∷ xs) = ap (λ ys. x ∷ ys) (joined-split w (pred w) xs)
joined-split w (suc r) (x ∷ xs) = ap (λ ys. x ∷ ys) (joined-split w r xs)

glue_more : {A : Type 0} (x : A) (a : List A) (gs : List (List A)) (t : List A × List (List A)) → glue (x ∷ a) gs t ≡ (x ∷ (glue a gs t).0, (glue a gs t).1)
glue_more x a [] t = refl
glue_more x a (g ∷ gs) t = refl

-- cutting goes on where it stopped, so it doesn't depend on how the list came
pub split-append : {A : Type 0} (w r : ℕ) (xs ys : List A) → split_from w r (xs ++ ys) ≡ glue (split_from w r xs).0 (split_from w r xs).1 (split_from w (room_after w r xs) ys)
split-append w r [] ys = refl
split-append {A} w zero (x ∷ xs) ys =
    ap (λ (s : List A × List (List A)). ([], (x ∷ s.0) ∷ s.1)) (split-append w (pred w) xs ys)
    ∙ ap (λ (s : List A × List (List A)). ([], s.0 ∷ s.1)) (sym (glue_more x (split_from w (pred w) xs).0 (split_from w (pred w) xs).1 _))
split-append {A} w (suc r) (x ∷ xs) ys =
    ap (λ (s : List A × List (List A)). (x ∷ s.0, s.1)) (split-append w r xs ys)
    ∙ sym (glue_more x (split_from w r xs).0 (split_from w r xs).1 _)

-- the room never exceeds the width
pub room-bound : {A : Type 0} (w r : ℕ) (xs : List A) → r ≤ w → room_after w r xs ≤ w
room-bound w r [] h = h
room-bound w zero (x ∷ xs) h = room-bound w (pred w) xs (omega arith)
room-bound w (suc r) (x ∷ xs) h = room-bound w r xs (omega arith)

-- how many groups there are: with the room in front, all but the last are full
pub length-split : {A : Type 0} (w r : ℕ) (xs : List A) → 1 ≤ w → r ≤ w → w * length (split_from w r xs).1 + r ≡ length xs + room_after w r xs
length-split w r [] h k = omega arith
length-split w zero (x ∷ xs) h k = omega (arith, length-split w (pred w) xs h (omega arith))
length-split w (suc r) (x ∷ xs) h k = omega (arith, length-split w r xs h (omega arith))

-- no group has more than the width
pub width-split : {A : Type 0} (w r : ℕ) (xs : List A) → 1 ≤ w → r ≤ w → (length (split_from w r xs).0 ≤ r) × AllByRecursion (λ g. length g ≤ w) (split_from w r xs).1
width-split w r [] h k = (omega arith, tt)
width-split w zero (x ∷ xs) h k = let ih = width-split w (pred w) xs h (omega arith) in (omega arith, (omega arith, ih.1))
width-split w (suc r) (x ∷ xs) h k = let ih = width-split w r xs h (omega arith) in (omega arith, ih.1)

-- behind a first element the open group has one
pub room-below : {A : Type 0} (w r : ℕ) (x : A) (xs : List A) → 1 ≤ w → r ≤ w → room_after w r (x ∷ xs) < w
room-below w zero x [] h k = pred_below w h
  where
    pred_below : (w : ℕ) → 1 ≤ w → pred w < w
    pred_below w h = omega arith
room-below w (suc r) x [] h k = omega arith
room-below w zero x (y ∷ xs) h k = room-below w (pred w) y xs h (omega arith)
room-below w (suc r) x (y ∷ xs) h k = room-below w r y xs h (omega arith)

-- two members or more have fewer nodes above them
pub fewer : {A : Type 0} (w : ℕ) (x y : A) (xs : List A) → 2 ≤ w → length (split_from w w (x ∷ y ∷ xs)).1 ≤ length xs
fewer w x y xs h =
    let count = length-split w w (x ∷ y ∷ xs) (omega arith) (omega arith) in
    let room = room-below w w x (y ∷ xs) (omega arith) (omega arith) in
    fewer_by w (length (split_from w w (x ∷ y ∷ xs)).1) (length xs) (room_after w w (x ∷ y ∷ xs)) h count room
  where
    fewer_by : (w n l r : ℕ) → 2 ≤ w → w * n + w ≡ suc (suc l) + r → r < w → n ≤ l
    fewer_by w zero l r h e k = omega arith
    fewer_by w (suc zero) l r h e k = omega arith
    fewer_by w (suc (suc n)) l r h e k = let more : 2 * n ≤ w * n = mul-le-mul_right n h in omega arith
