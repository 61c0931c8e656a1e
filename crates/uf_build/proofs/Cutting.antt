-- Bytes that are taken from the front, and lists that are cut into groups.
use Rattle.std.proofs.Common.{◌≡◌, ℕ, ◌+◌, ◌-◌, ◌*◌, ◌<◌, ◌≤◌, List, [], ◌∷◌, ◌++◌, length, refl, ap, arith, sym, ◌∙◌, take, drop, append_assoc, length-append, length-take, length-drop}
use Rattle.std.proofs.Math.Seq.{take-add}
use Rattle.std.proofs.Math.Nat.{mul-le-mul_right}
use Rattle.std.specs.List.{AllByRecursion}
use Rattle.std.proofs.lemmas.List.{append-nil, take-append-drop, take_all}
use Rattle.uf_tree.specs.Cutting.{joined}
use Rattle.uf_tree.specs.FilePlan.{groups}
use Rattle.uf_tree.proofs.Behind.{split-short, groups-behind}

pub more : (bytes : List ℕ) (i c : ℕ) → take ((i + 1) * c) bytes ≡ take (i * c) bytes ++ take (i * c + c - i * c) (drop (i * c) bytes)
more bytes i c =
    let sum : (i + 1) * c ≡ i * c + c = omega arith in
    let one : c ≡ i * c + c - i * c = omega arith in
    ap (λ n. take n bytes) sum ∙ take-add (i * c) c bytes ∙ ap (λ n. take (i * c) bytes ++ take n (drop (i * c) bytes)) one

pub piece-size : (bytes : List ℕ) (i c count : ℕ) → i < count → length bytes ≡ count * c → length (take (i * c + c - i * c) (drop (i * c) bytes)) ≡ c
piece-size bytes i c count lt all =
    let fits : (i + 1) * c ≤ count * c = mul-le-mul_right c (omega arith) in
    omega (arith, length-take (i * c + c - i * c) (drop (i * c) bytes), length-drop (i * c) bytes)

pub whole : (bytes : List ℕ) (i c count : ℕ) → i ≡ count → length bytes ≡ count * c → take (i * c) bytes ≡ bytes
whole bytes i c count is all = ap (λ n. take (n * c) bytes) is ∙ ap (λ n. take n bytes) (sym all) ∙ take_all (length bytes) bytes (omega arith)

pub goes-on : (bytes done rest group behind : List ℕ) (n : ℕ) → bytes ≡ done ++ rest → group ≡ take n rest → behind ≡ drop n rest → bytes ≡ (done ++ group) ++ behind
goes-on bytes done rest group behind n is front back =
    is ∙ ap (λ l. done ++ l) (sym (take-append-drop n rest)) ∙ sym (append_assoc done (take n rest) (drop n rest))
    ∙ ap (λ l. (done ++ l) ++ drop n rest) (sym front) ∙ ap (λ l. (done ++ group) ++ l) (sym back)

pub splits : (bytes group behind : List ℕ) (front n : ℕ) → front ≤ length bytes → group ≡ take n (take (length bytes - front) (drop front bytes)) → behind ≡ drop n (take (length bytes - front) (drop front bytes))
    → bytes ≡ (take front bytes ++ group) ++ behind
splits bytes group behind front n fits is back =
    let rest : take (length bytes - front) (drop front bytes) ≡ drop front bytes = take_all (length bytes - front) (drop front bytes) (omega (arith, length-drop front bytes)) in
    goes-on bytes (take front bytes) (drop front bytes) group behind n (sym (take-append-drop front bytes)) (is ∙ ap (take n) rest) (back ∙ ap (drop n) rest)

pub no-length : {A : Type 0} (xs : List A) → length xs ≡ 0 → xs ≡ []
no-length [] h = refl
no-length (x ∷ xs) h = absurd (omega arith)

-- what is left behind some of so many pieces
pub left-behind : (left few c rest behind : ℕ) → few ≤ left → rest ≡ left * c → behind ≡ rest - few * c → behind ≡ (left - few) * c
left-behind left few c rest behind h is back = by (left - few) (omega (arith, h))
  where
    by : (k : ℕ) → left ≡ few + k → behind ≡ k * c
    by k e = let whole : rest ≡ (few + k) * c = is ∙ ap (λ n. n * c) e in omega (arith, whole, back)

module _ {A : Type 0} (w : ℕ) (pos : 1 ≤ w) where
  abbrev IsFull : List A → Type 0
  IsFull f = length f ≡ w

  -- full groups and a shorter one behind them
  pub groups-full : (full : List (List A)) (h : List A) → AllByRecursion IsFull full → 1 ≤ length h → length h ≤ w → groups w (joined full ++ h) ≡ full ++ h ∷ []
  groups-full [] h all j k = ap (λ (s : List A × List (List A)). s.0 ∷ s.1) (split-short w w h k)
  groups-full (f ∷ full) h all j k =
      ap (groups w) (append_assoc f (joined full) h)
      ∙ groups-behind w pos f (joined full ++ h) all.0 (omega (arith, length-append (joined full) h))
      ∙ ap (λ gs. f ∷ gs) (groups-full full h all.1 j k)

  -- full groups, and those of what comes behind them
  pub groups-front : (full : List (List A)) (t : List A) → AllByRecursion IsFull full → 1 ≤ length t → groups w (joined full ++ t) ≡ full ++ groups w t
  groups-front [] t all j = refl
  groups-front (f ∷ full) t all j =
      ap (groups w) (append_assoc f (joined full) t)
      ∙ groups-behind w pos f (joined full ++ t) all.0 (omega (arith, j, length-append (joined full) t))
      ∙ ap (λ gs. f ∷ gs) (groups-front full t all.1 j)

  -- full groups alone
  pub groups-exact : (f : List A) (full : List (List A)) → AllByRecursion IsFull (f ∷ full) → groups w (joined (f ∷ full)) ≡ f ∷ full
  groups-exact f [] all = ap (groups w) (append-nil f) ∙ ap (λ (s : List A × List (List A)). s.0 ∷ s.1) (split-short w w f (omega (arith, all.0)))
  groups-exact f (g ∷ full) all =
      groups-behind w pos f (joined (g ∷ full)) all.0 (omega (arith, length-append g (joined full), all.1.0)) ∙ ap (λ gs. f ∷ gs) (groups-exact g full all.1)
