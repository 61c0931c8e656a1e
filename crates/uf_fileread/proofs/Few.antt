-- A range needs few blocks.
use Rattle.std.proofs.Common.{◌≡◌, ◌≢◌, ℕ, zero, suc, ◌+◌, ◌-◌, ◌*◌, ◌<◌, ◌≤◌, List, [], ◌∷◌, ◌++◌, length, map, refl, ap, arith, sym, ◌∙◌, subst, length-append, Bool, true, false}
use Rattle.std.specs.Prelude.{if◌then◌else◌}
use Rattle.std.proofs.lemmas.Bool.Decides.{nat_tests}
use Rattle.uf_tree.specs.declared.meta.Meta.{Meta}
use Rattle.uf_tree.specs.Cutting.{joined}
use Rattle.uf_tree.specs.FilePlan.{groups}
use Rattle.uf_tree.specs.FileSub.{span}
use Rattle.uf_tree.specs.Metas.{none}
use Rattle.uf_tree.proofs.Groups.{joined-split}
use Rattle.uf_tree.proofs.Nested.{groups-product}
use Rattle.uf_tree.proofs.Sub.{span-pos}
use Rattle.uf_fileread.specs.Ranges.{blocks_met, blocks_read, meets, met_among, pieces_met}

-- what is met of two lists is what is met of the first and of the second
met_append : (o n : ℕ) (xs ys : List (List ℕ)) → met_among o n (xs ++ ys) ≡ met_among o n xs + met_among (o - length (joined xs)) (n - (length (joined xs) - o)) ys
met_append o n [] ys =
    let place : o ≡ o - 0 = omega arith in
    let rest : n ≡ n - (0 - o) = omega arith in
    let same = ap (λ k. met_among k n ys) place ∙ ap (λ k. met_among (o - 0) k ys) rest in
    omega (arith, same)
met_append o n (x ∷ xs) ys =
    let j = length (joined xs) in
    let both : length (x ++ joined xs) ≡ length x + j = length-append x (joined xs) in
    let place : (o - length x) - j ≡ o - length (x ++ joined xs) = omega arith in
    let rest : (n - (length x - o)) - (j - (o - length x)) ≡ n - (length (x ++ joined xs) - o) = omega arith in
    let behind = ap (λ k. met_among k ((n - (length x - o)) - (j - (o - length x))) ys) place ∙ ap (λ k. met_among (o - length (x ++ joined xs)) k ys) rest in
    let ih = met_append (o - length x) (n - (length x - o)) xs ys in
    omega (arith, ih, behind)

-- a range that meets some of the bytes meets a group
some_met : (o n : ℕ) (xs : List (List ℕ)) → o < length (joined xs) → n ≢ 0 → 1 ≤ met_among o n xs
some_met o n [] low some = absurd (omega arith)
some_met o n (x ∷ xs) low some =
    by (meets o n x) refl (λ h. some_met (o - length x) (n - (length x - o)) xs (omega (arith, all)) (λ e. some (sym (same h) ∙ e)))
  where
    all : length (x ++ joined xs) ≡ length x + length (joined xs)
    all = length-append x (joined xs)

    same : length x ≤ o → n - (length x - o) ≡ n
    same h = omega arith

    past : meets o n x ≡ false → length x ≤ o
    past e = grind (arith, nat_tests)

    by : (t : Bool) → meets o n x ≡ t → (length x ≤ o → 1 ≤ met_among (o - length x) (n - (length x - o)) xs) → 1 ≤ met_among o n (x ∷ xs)
    by true e behind = let one : (if meets o n x then 1 else 0) ≡ 1 = ap {B = ℕ} (λ t. if t then 1 else 0) e in omega (arith, one)
    by false e behind = let more = behind (past e) in omega (arith, more)

-- a part is as many pieces as its height has room for
span_in_pieces : (c w k : ℕ) → span c w k ≡ span 1 w k * c
unfolding span
span_in_pieces c w zero = omega arith
span_in_pieces c w (suc k) = ap (λ s. w * s) (span_in_pieces c w k) ∙ mul_assoc w (span 1 w k) c
  where
    mul_assoc : (a b d : ℕ) → a * (b * d) ≡ (a * b) * d
    mul_assoc a b d = omega arith

-- the pieces of the groups are the pieces of the whole
pieces_in_groups : (c w k : ℕ) → 1 ≤ c → 1 ≤ w → (bytes : List ℕ) → joined (map (groups c) (groups (span c w k) bytes)) ≡ groups c bytes
pieces_in_groups c w k some wide bytes =
    let wider = span 1 w k in
    ap (λ s. joined (map (groups c) (groups s bytes))) (span_in_pieces c w k)
    ∙ ap joined (sym (groups-product wider c (span-pos 1 w k (omega arith) wide) some bytes))
    ∙ joined-split wider wider (groups c bytes)

module _ (X : List ℕ → List ℕ) (c w : ℕ) (some : 1 ≤ c) (wide : 1 ≤ w) where
  -- no more blocks than for each piece one in each row, and the part's own
  abbrev pub IsFew : ℕ → Type 0
  IsFew k = (o n : ℕ) (g : List ℕ) → length (blocks_read X c w none k o n g) ≤ 1 + pieces_met c o n g * k

  one_group : (k : ℕ) → IsFew k → (o n : ℕ) (g : List ℕ) → length (if meets o n g then blocks_read X c w none k o n g else []) ≤ pieces_met c o n g * suc k
  one_group k few o n g = by (meets o n g) refl
    where
      many : (m l : ℕ) → l ≤ 1 + m * k → 1 ≤ m → l ≤ m * suc k
      many m l a b = omega arith

      low : meets o n g ≡ true → o < length (joined (groups c g))
      low e = let whole = ap length (joined-split c c g) in let inside : o < length g = grind (arith, nat_tests) in omega arith

      asked : meets o n g ≡ true → n ≢ 0
      asked e = grind (arith, nat_tests)

      by : (t : Bool) → meets o n g ≡ t → length (if meets o n g then blocks_read X c w none k o n g else []) ≤ pieces_met c o n g * suc k
      by true e =
          subst (λ t. length (if t then blocks_read X c w none k o n g else []) ≤ pieces_met c o n g * suc k) (sym e)
          (many (pieces_met c o n g) (length (blocks_read X c w none k o n g)) (few o n g) (some_met o n (groups c g) (low e) (asked e)))
      by false e = subst (λ t. length (if t then blocks_read X c w none k o n g else []) ≤ pieces_met c o n g * suc k) (sym e) (omega arith)

  all_groups : (k : ℕ) → IsFew k → (o n : ℕ) (gs : List (List ℕ))
      → length (blocks_met (λ o n g. blocks_read X c w none k o n g) o n gs) ≤ met_among o n (joined (map (groups c) gs)) * suc k
  all_groups k few o n [] = omega arith
  all_groups k few o n (g ∷ gs) =
      let front = if meets o n g then blocks_read X c w none k o n g else [] in
      let back = blocks_met (λ o n g. blocks_read X c w none k o n g) (o - length g) (n - (length g - o)) gs in
      let rest = joined (map (groups c) gs) in
      let whole : length (joined (groups c g)) ≡ length g = ap length (joined-split c c g) in
      let two = met_append o n (groups c g) rest ∙ ap (λ l. pieces_met c o n g + met_among (o - l) (n - (l - o)) rest) whole in
      let first = one_group k few o n g in
      let others = all_groups k few (o - length g) (n - (length g - o)) gs in
      subst (λ m. length (front ++ back) ≤ m * suc k) (sym two)
      (sums (length front) (length back) (pieces_met c o n g) (met_among (o - length g) (n - (length g - o)) rest) (length (front ++ back)) first others (length-append front back))
    where
      sums : (a b m l s : ℕ) → a ≤ m * suc k → b ≤ l * suc k → s ≡ a + b → s ≤ (m + l) * suc k
      sums a b m l s p q e = omega arith

  few_bare : (k : ℕ) → IsFew k
  unfolding blocks_read
  few_bare zero o n g = omega arith
  few_bare (suc k) o n g =
      let gs = groups (span c w k) g in
      let below = all_groups k (few_bare k) o n gs in
      let same = ap (λ ps. met_among o n ps * suc k) (pieces_in_groups c w k some wide g) in
      omega (arith, below, same)

  -- metadata changes no number
  pub few_are_read : (meta : Meta) (k : ℕ) (o n : ℕ) (g : List ℕ) → length (blocks_read X c w meta k o n g) ≤ 1 + pieces_met c o n g * k
  unfolding blocks_read
  few_are_read meta zero o n g = omega arith
  few_are_read meta (suc k) o n g = few_bare (suc k) o n g
