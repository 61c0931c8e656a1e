-- The rows of a file, and the file from the root down.
use Rattle.std.proofs.Common.{◌≡◌, ℕ, zero, suc, ◌+◌, ◌*◌, ◌<◌, ◌≤◌, List, [], ◌∷◌, ◌++◌, length, refl, ap, arith, sym, ◌∙◌, map, subst, ◌⊎◌, inl, inr, append_assoc, Bool, true, false, cond, mul_comm}
use Rattle.std.proofs.Math.Nat.{mul-le-mul_left}
use Rattle.std.proofs.lemmas.List.{length-map, append-nil}
use Rattle.std.proofs.lemmas.Bool.{cases_lt}
use Rattle.std.specs.List.{AllByRecursion, flat_map}
use Rattle.uf_cid.specs.Blocks.{Held}
use Rattle.uf_tree.specs.Cutting.{joined, room_after}
use Rattle.uf_tree.specs.declared.meta.Meta.{Meta}
use Rattle.uf_tree.specs.declared.nodes.Part.{Part}
use Rattle.uf_tree.specs.declared.profile.Profile.{Profile}
use Rattle.uf_tree.specs.FilePlan.{split_from, groups, chunks, climb, row, row_held, rows_held, leaf_part, leaf_held, node_part, node_held, root_part, root_held, top_part, top_held, with_row, file_plan}
use Rattle.uf_tree.specs.FileSub.{span, part_over, blocks_over, whole_part, whole_blocks, IsHeight, IsFileHeight, IsTop, lowest}
use Rattle.uf_tree.specs.Metas.{is_bare}
use Rattle.uf_tree.proofs.Behind.{split-short}
use Rattle.uf_tree.proofs.Climb.{climb-one, climb-more, groups-fewer, some-behind}
use Rattle.uf_tree.proofs.Groups.{joined-split, length-split}
use Rattle.uf_tree.proofs.Nested.{groups-product, groups-map, whole}
use Rattle.uf_tree.proofs.Sub.{span-pos, row-up, more}

-- of more than one height at which the bytes fit, there is one least
pub height-unique : (c w n h k : ℕ) → IsHeight c w n h → IsHeight c w n k → h ≡ k
height-unique c w n h k a b = by (cases_lt h k) (cases_lt k h)
  where
    by : (h < k) ⊎ (k ≤ h) → (k < h) ⊎ (h ≤ k) → h ≡ k
    by (inl less) other = let past : span c w h < n = b.least h less in let f : n ≤ span c w h = a.fits in absurd (omega arith)
    by (inr le) (inl less) = let past : span c w k < n = a.least k less in let f : n ≤ span c w k = b.fits in absurd (omega arith)
    by (inr le) (inr ge) = omega arith

-- and of a file with its metadata
pub file-height-unique : (c w : ℕ) (meta : Meta) (n h k : ℕ) → IsFileHeight c w meta n h → IsFileHeight c w meta n k → h ≡ k
file-height-unique c w meta n h k a b = by (cases_lt h k) (cases_lt k h)
  where
    by : (h < k) ⊎ (k ≤ h) → (k < h) ⊎ (h ≤ k) → h ≡ k
    by (inl less) other = let past : span c w h < n = b.least h a.enough less in let f : n ≤ span c w h = a.fits in absurd (omega arith)
    by (inr le) (inl less) = let past : span c w k < n = a.least k b.enough less in let f : n ≤ span c w k = b.fits in absurd (omega arith)
    by (inr le) (inr ge) = omega arith

pub lowest-one : (meta : Meta) → lowest meta ≤ 1
lowest-one meta = elim (is_bare meta) as (λ b. cond b 0 1 ≤ 1) [ true ↦ let e : 0 ≤ 1 = omega arith in e | false ↦ let e : 1 ≤ 1 = omega arith in e ]

pub lowest-bare : (meta : Meta) → is_bare meta ≡ true → lowest meta ≡ 0
lowest-bare meta e = ap (λ b. cond b 0 1) e

pub lowest-carried : (meta : Meta) → is_bare meta ≡ false → lowest meta ≡ 1
lowest-carried meta e = ap (λ b. cond b 0 1) e

module _ (X : List ℕ → List ℕ) (p : Profile) (meta : Meta) (b : List ℕ) (pos : 1 ≤ p.chunk) (two : 2 ≤ p.width) where
  -- the parts of a height
  abbrev part : ℕ → List ℕ → Part
  part k = part_over X p.chunk p.width k

  abbrev cut : ℕ → ℕ
  cut k = span p.chunk p.width k

  -- a row is the parts of its height
  pub row-sub : (k : ℕ) → row X p b k ≡ map (part k) (groups (cut k) b)
  unfolding row part_over span
  row-sub zero = refl
  row-sub (suc k) = ap (λ r. map (node_part X) (groups p.width r)) (row-sub k) ∙ row-up X p.chunk p.width pos two k b

  row-groups : (k : ℕ) → length (row X p b k) ≡ length (groups (cut k) b)
  row-groups k = ap length (row-sub k) ∙ length-map (groups (cut k) b) (part k)

  next_row : (k : ℕ) → map (node_part X) (groups p.width (row X p b k)) ≡ row X p b (suc k)
  unfolding row
  next_row k = refl

  next_held : (k : ℕ) → rows_held X p b k ++ map (node_held X) (groups p.width (row X p b k)) ≡ rows_held X p b (suc k)
  unfolding rows_held row_held
  next_held k = refl

  zero_row : map (leaf_part X) (chunks p b) ≡ row X p b 0
  unfolding row
  zero_row = refl

  leaves : (l : List Held) → map (leaf_held X) (chunks p b) ++ l ≡ rows_held X p b 0 ++ l
  unfolding rows_held row_held
  leaves l = refl

  first_few : length (row X p b 0) ≤ length (chunks p b)
  unfolding row
  first_few = omega (arith, length-map (chunks p b) (leaf_part X))

  up_length : (k : ℕ) → length (row X p b (suc k)) ≡ length (groups p.width (row X p b k))
  unfolding row
  up_length k = length-map (groups p.width (row X p b k)) (node_part X)

  -- where the climb from a row ends, with the blocks of all rows
  pub climb-rows : (fuel k : ℕ) → length (row X p b k) ≤ fuel → ((j : ℕ) → j < k → p.width < length (row X p b j))
      → (n : ℕ) × ((climb X p.width fuel (row X p b k)).1 ≡ row X p b n) × (length (row X p b n) ≤ p.width) × ((j : ℕ) → j < n → p.width < length (row X p b j))
      × (rows_held X p b k ++ (climb X p.width fuel (row X p b k)).0 ≡ rows_held X p b n)
  climb-rows zero k few before = (k, ap (λ (z : List Held × List Part). z.1) (climb-one X p.width zero (row X p b k) (omega arith)), omega arith, before, ap (λ (z : List Held × List Part). rows_held X p b k ++ z.0) (climb-one X p.width zero (row X p b k) (omega arith)) ∙ append-nil _)
  climb-rows (suc fuel) k few before = by (cases_lt p.width (length (row X p b k))) (λ more. climb-rows fuel (suc k) (less more) (below more))
    where
      next : map (node_part X) (groups p.width (row X p b k)) ≡ row X p b (suc k)
      next = next_row k

      nodes : rows_held X p b k ++ map (node_held X) (groups p.width (row X p b k)) ≡ rows_held X p b (suc k)
      nodes = next_held k

      less : p.width < length (row X p b k) → length (row X p b (suc k)) ≤ fuel
      less more =
          let few_groups : length (groups p.width (row X p b k)) < length (row X p b k) = groups-fewer p.width (row X p b k) two (omega arith) in
          let count : length (row X p b (suc k)) ≡ length (groups p.width (row X p b k)) = sym (ap length next) ∙ length-map (groups p.width (row X p b k)) (node_part X) in
          omega arith

      below : p.width < length (row X p b k) → (j : ℕ) → j < suc k → p.width < length (row X p b j)
      below more j h = elim (cases_lt j k) [
        | inl lt ↦ before j lt
        | inr ge ↦ let same : k ≡ j = omega arith in subst (λ j. p.width < length (row X p b j)) same more
      ]

      Ends : List Held × List Part → Type 0
      Ends z = (n : ℕ) × (z.1 ≡ row X p b n) × (length (row X p b n) ≤ p.width) × ((j : ℕ) → j < n → p.width < length (row X p b j)) × (rows_held X p b k ++ z.0 ≡ rows_held X p b n)

      up : List Held × List Part
      up = climb X p.width fuel (row X p b (suc k))

      by : (p.width < length (row X p b k)) ⊎ (length (row X p b k) ≤ p.width)
          → (p.width < length (row X p b k) → (n : ℕ) × (up.1 ≡ row X p b n) × (length (row X p b n) ≤ p.width) × ((j : ℕ) → j < n → p.width < length (row X p b j)) × (rows_held X p b (suc k) ++ up.0 ≡ rows_held X p b n))
          → Ends (climb X p.width (suc fuel) (row X p b k))
      by (inl more) later =
          let r = later more in
          let nodes_at = map (node_held X) (groups p.width (row X p b k)) in
          subst Ends (sym (climb-more X p.width fuel (row X p b k) (omega arith) more ∙ ap (λ r. with_row nodes_at (climb X p.width fuel r)) next))
          (r.0, r.1, r.2, r.3, sym (append_assoc (rows_held X p b k) nodes_at up.0) ∙ ap (λ l. l ++ up.0) nodes ∙ r.4)
      by (inr le) later = subst Ends (sym (climb-one X p.width (suc fuel) (row X p b k) le)) (k, refl, le, before, append-nil _)

  pub file_plan-top : (n : ℕ) × IsTop X p meta b (file_plan X p meta b) n
  unfolding file_plan
  file_plan-top =
      let under = climb X p.width (length (chunks p b)) (map (leaf_part X) (chunks p b)) in
      let r = climb-rows (length (chunks p b)) 0 (first_few) (λ j h. absurd (none j h)) in (
        r.0,
        record {
          one = r.2;
          first = r.3;
          entry = ap (λ (l : List Part). (top_part X meta l).entry) (ap (λ (l : List Part). (climb X p.width (length (chunks p b)) l).1) zero_row ∙ r.1);
          blocks = sym (append_assoc (map (leaf_held X) (chunks p b)) under.0 (top_held X meta under.1))
              ∙ ap (λ l. l ++ top_held X meta under.1) (leaves under.0 ∙ ap (λ (l : List Part). rows_held X p b 0 ++ (climb X p.width (length (chunks p b)) l).0) zero_row ∙ r.4)
              ∙ ap (λ l. rows_held X p b r.0 ++ top_held X meta l) (ap (λ (l : List Part). (climb X p.width (length (chunks p b)) l).1) zero_row ∙ r.1);
        },
      )
    where
      none : (j : ℕ) → j < 0 → ⊥
      none j h = omega arith

  -- the bytes that fit a height are one group of it, and those that don't are more
  one_group : (h : ℕ) → length b ≤ cut h → groups (cut h) b ≡ b ∷ []
  one_group h fit = ap whole (split-short (cut h) (cut h) b fit)

  at_least : (k : ℕ) → 1 ≤ cut k
  at_least k = span-pos p.chunk p.width k pos (omega arith)

  past : (k : ℕ) → 2 ≤ length (groups (cut k) b) → cut k < length b
  past k many = by (cases_lt (cut k) (length b))
    where
      by : (cut k < length b) ⊎ (length b ≤ cut k) → cut k < length b
      by (inl lt) = lt
      by (inr le) = absurd (omega (arith, many, ap length (one_group k le)))

  wide : (k : ℕ) → length (groups (cut k) b) ≤ p.width → length b ≤ cut (suc k)
  unfolding span
  wide k few = by (cut k) (length (split_from (cut k) (cut k) b).1) (length b) (room_after (cut k) (cut k) b) p.width (length-split (cut k) (cut k) b (at_least k) (omega arith)) few
    where
      by : (s n l r w : ℕ) → s * n + s ≡ l + r → suc n ≤ w → l ≤ w * s
      by s n l r w e h = let more : s * suc n ≤ s * w = mul-le-mul_left s h in let turned : w * s ≡ s * w = mul_comm w s in omega arith

  -- what stands over a row is the whole file: by its root, or as one piece
  abbrev pub plan_rows : ℕ → List Held
  plan_rows zero = rows_held X p b 0
  plan_rows (suc k) = rows_held X p b k ++ root_held X meta (row X p b k) ∷ []

  abbrev Wholes : List Part → List Held → Type 0
  Wholes parts held = (h : ℕ) × ((top_part X meta parts).entry ≡ (whole_part X p.chunk p.width meta h b).entry) × IsFileHeight p.chunk p.width meta (length b) h × (held ++ top_held X meta parts ≡ plan_rows h)

  root_over_row : (k : ℕ) → root_part X meta (row X p b k) ≡ whole_part X p.chunk p.width meta (suc k) b
  unfolding whole_part
  root_over_row k = ap (root_part X meta) (row-sub k)

  -- the row is more than one part, and the root stands over it
  pub under_root : (k : ℕ) → length (row X p b k) ≤ p.width → ((j : ℕ) → j < k → p.width < length (row X p b j)) → (2 ≤ length (row X p b k)) ⊎ ((k ≡ 0) × (is_bare meta ≡ false))
      → IsFileHeight p.chunk p.width meta (length b) (suc k)
  under_root k few before over = record {
    fits = wide k (omega (arith, few, row-groups k));
    enough = let one : lowest meta ≤ 1 = lowest-one meta in omega arith;
    least = λ j low less. by j low (cases_lt j k) less over;
  }
    where
      by : (j : ℕ) → lowest meta ≤ j → (j < k) ⊎ (k ≤ j) → j < suc k → (2 ≤ length (row X p b k)) ⊎ ((k ≡ 0) × (is_bare meta ≡ false)) → cut j < length b
      by j low (inl lt) less over = past j (let more : p.width < length (row X p b j) = before j lt in omega (arith, more, row-groups j))
      by j low (inr ge) less (inl many) = let same : k ≡ j = omega arith in subst (λ j. cut j < length b) same (past k (omega (arith, many, row-groups k)))
      by j low (inr ge) less (inr bottom) = let one : lowest meta ≡ 1 = lowest-carried meta bottom.1 in let z : k ≡ 0 = bottom.0 in absurd (omega arith)

  -- a row of one part is the lowest
  alone : (k : ℕ) → length (row X p b k) ≤ 1 → ((j : ℕ) → j < k → p.width < length (row X p b j)) → k ≡ 0
  alone zero few before = refl
  alone (suc k) few before =
      let more : p.width < length (row X p b k) = before k (omega arith) in
      let many : 1 ≤ length (split_from p.width p.width (row X p b k)).1 = some-behind p.width (row X p b k) (omega arith) more in
      let count : length (row X p b (suc k)) ≡ length (groups p.width (row X p b k)) = up_length k in
      absurd (omega arith)

  pub whole-at : (k : ℕ) (parts : List Part) → parts ≡ row X p b k → length parts ≤ p.width → ((j : ℕ) → j < k → p.width < length (row X p b j)) → Wholes parts (rows_held X p b k)
  unfolding whole_part part_over
  whole-at k [] e few before = absurd (omega (arith, ap length e, row-groups k))
  whole-at k (m ∷ []) e few before = by (is_bare meta) refl (alone k (omega (arith, ap length e)) before)
    where
      single : (k : ℕ) → k ≡ 0 → m ∷ [] ≡ row X p b k → (m ≡ part 0 b) × (length b ≤ cut 0)
      single k z e =
          let fit : length b ≤ cut 0 = (elim (cases_lt (cut 0) (length b)) [
            | inl lt ↦ let many : 2 ≤ length (groups (cut 0) b) = more_groups lt in absurd (omega (arith, ap length (e ∙ ap (row X p b) z), row-groups 0))
            | inr le ↦ le
          ]) in
          (head_of (e ∙ ap (row X p b) z ∙ row-sub 0 ∙ ap (map (part 0)) (one_group 0 fit)), fit)
        where
          more_groups : cut 0 < length b → 2 ≤ length (groups (cut 0) b)
          more_groups lt = let some : 1 ≤ length (split_from (cut 0) (cut 0) b).1 = some-behind (cut 0) b (at_least 0) lt in omega arith

          head_of : {a c : Part} → a ∷ [] ≡ c ∷ [] → a ≡ c
          head_of e = cc

      Whole_as : Bool → Type 0
      Whole_as t = (h : ℕ) × ((cond t m (root_part X meta (m ∷ []))).entry ≡ (whole_part X p.chunk p.width meta h b).entry) × IsFileHeight p.chunk p.width meta (length b) h × (rows_held X p b k ++ cond t [] (root_held X meta (m ∷ []) ∷ []) ≡ plan_rows h)

      by : (t : Bool) → is_bare meta ≡ t → k ≡ 0 → Whole_as (is_bare meta)
      by true bare z =
          let s = single k z e in
          subst Whole_as (sym bare) (
            0,
            ap (λ (m : Part). m.entry) s.0,
            record { fits = s.1; enough = let low : lowest meta ≡ 0 = lowest-bare meta bare in omega arith; least = λ j low less. absurd (omega arith) },
            append-nil (rows_held X p b k) ∙ ap (rows_held X p b) z,
          )
      by false carried z =
          subst Whole_as (sym carried) (
            suc k,
            ap (λ (m : Part). m.entry) (ap (root_part X meta) e ∙ root_over_row k),
            under_root k (omega (arith, few, ap length e)) before (inr (z, carried)),
            ap (λ l. rows_held X p b k ++ root_held X meta l ∷ []) e,
          )
  whole-at k (m ∷ n ∷ ms) e few before = (
    suc k,
    ap (λ (m : Part). m.entry) (ap (root_part X meta) e ∙ root_over_row k),
    under_root k (omega (arith, few, ap length e)) before (inl (omega (arith, ap length e))),
    ap (λ l. rows_held X p b k ++ root_held X meta l ∷ []) e,
  )

  -- a file's plan is that of the whole file at its height, with the blocks of all rows and of the root
  pub file_plan-rows : (h : ℕ) × ((file_plan X p meta b).entry ≡ (whole_part X p.chunk p.width meta h b).entry) × IsFileHeight p.chunk p.width meta (length b) h × ((file_plan X p meta b).blocks ≡ plan_rows h)
  file_plan-rows =
      let r = file_plan-top in
      let w = whole-at r.0 (row X p b r.0) refl r.1.one r.1.first in
      (w.0, r.1.entry ∙ w.1, w.2, r.1.blocks ∙ w.3)

  module _ (P : Held → Type 0) where
    abbrev Each : List Held → Type 0
    Each l = AllByRecursion P l

    both : (xs ys : List Held) → Each xs → Each ys → Each (xs ++ ys)
    both [] ys a b = b
    both (x ∷ xs) ys a b = (a.0, both xs ys a.1 b)

    front : (xs ys : List Held) → Each (xs ++ ys) → Each xs
    front [] ys a = tt
    front (x ∷ xs) ys a = (a.0, front xs ys a.1)

    back : (xs ys : List Held) → Each (xs ++ ys) → Each ys
    back [] ys a = a
    back (x ∷ xs) ys a = back xs ys a.1

    -- one block and further ones for each group: first the ones, and then the others
    module _ (f : List ℕ → Held) (h : List ℕ → List Held) where
      apart : (gs : List (List ℕ)) → Each (flat_map (λ g. f g ∷ h g) gs) → Each (map f gs) × Each (flat_map h gs)
      apart [] a = (tt, tt)
      apart (g ∷ gs) a = let rest = apart gs (back (h g) _ a.1) in ((a.0, rest.0), both (h g) (flat_map h gs) (front (h g) _ a.1) rest.1)

      together : (gs : List (List ℕ)) → Each (map f gs) → Each (flat_map h gs) → Each (flat_map (λ g. f g ∷ h g) gs)
      together [] a b = tt
      together (g ∷ gs) a b = (a.0, both (h g) _ (front (h g) _ b) (together gs a.1 (back (h g) _ b)))

  flat-append : {A B : Type 0} (f : A → List B) (xs ys : List A) → flat_map f (xs ++ ys) ≡ flat_map f xs ++ flat_map f ys
  flat-append f [] ys = refl
  flat-append f (x ∷ xs) ys = ap (λ l. f x ++ l) (flat-append f xs ys) ∙ sym (append_assoc (f x) (flat_map f xs) (flat_map f ys))

  flat-joined : (f : List ℕ → List Held) (q : List ℕ → List (List ℕ)) (gs : List (List ℕ)) → flat_map f (joined (map q gs)) ≡ flat_map (λ g. flat_map f (q g)) gs
  flat-joined f q [] = refl
  flat-joined f q (g ∷ gs) = flat-append f (q g) (joined (map q gs)) ∙ ap (λ l. flat_map f (q g) ++ l) (flat-joined f q gs)

  -- the blocks of the parts of a height, each with those below it
  abbrev below_row : ℕ → List Held
  below_row k = flat_map (blocks_over X p.chunk p.width k) (groups (cut k) b)

  abbrev node_at : ℕ → List ℕ → Held
  node_at k g = node_held X (map (part k) (groups (cut k) g))

  held_fuse : (k : ℕ) (gs : List (List ℕ)) → map (node_held X) (map (map (part k)) (map (groups (cut k)) gs)) ≡ map (node_at k) gs
  held_fuse k [] = refl
  held_fuse k (g ∷ gs) = ap (λ l. node_at k g ∷ l) (held_fuse k gs)

  row_held-sub : (k : ℕ) → row_held X p b (suc k) ≡ map (node_at k) (groups (cut (suc k)) b)
  unfolding row_held span
  row_held-sub k =
      ap (λ r. map (node_held X) (groups p.width r)) (row-sub k)
      ∙ ap (map (node_held X)) (groups-map (part k) p.width (groups (cut k) b) ∙ ap (map (map (part k))) (groups-product p.width (cut k) (omega arith) (span-pos p.chunk p.width k pos (omega arith)) b))
      ∙ held_fuse k (groups (cut (suc k)) b)

  below_flat : (k : ℕ) → flat_map (λ g. flat_map (blocks_over X p.chunk p.width k) (groups (cut k) g)) (groups (cut (suc k)) b) ≡ below_row k
  unfolding span
  below_flat k =
      sym (flat-joined (blocks_over X p.chunk p.width k) (groups (cut k)) (groups (cut (suc k)) b))
      ∙ ap (λ gs. flat_map (blocks_over X p.chunk p.width k) (joined gs)) (sym (groups-product p.width (cut k) (omega arith) (span-pos p.chunk p.width k pos (omega arith)) b))
      ∙ ap (flat_map (blocks_over X p.chunk p.width k)) (joined-split p.width p.width (groups (cut k) b))

  module _ (P : Held → Type 0) where
    singles : (gs : List (List ℕ)) → map (leaf_held X) gs ≡ flat_map (λ g. leaf_held X g ∷ []) gs
    singles [] = refl
    singles (g ∷ gs) = ap (λ l. leaf_held X g ∷ l) (singles gs)

    -- what holds of the blocks of all rows holds of the blocks from the root down, and the other way
    pub rows-below : (k : ℕ) → Each P (rows_held X p b k) → Each P (below_row k)
    unfolding rows_held row_held blocks_over span
    rows-below zero a = subst (Each P) (singles (groups p.chunk b)) a
    rows-below (suc k) a =
        together P (node_at k) (λ g. flat_map (blocks_over X p.chunk p.width k) (groups (cut k) g)) (groups (cut (suc k)) b)
        (subst (Each P) (row_held-sub k) (back P (rows_held X p b k) (row_held X p b (suc k)) a))
        (subst (Each P) (sym (below_flat k)) (rows-below k (front P (rows_held X p b k) (row_held X p b (suc k)) a)))

    pub below-rows : (k : ℕ) → Each P (below_row k) → Each P (rows_held X p b k)
    unfolding rows_held row_held blocks_over span
    below-rows zero a = subst (Each P) (sym (singles (groups p.chunk b))) a
    below-rows (suc k) a =
        let parts = apart P (node_at k) (λ g. flat_map (blocks_over X p.chunk p.width k) (groups (cut k) g)) (groups (cut (suc k)) b) a in
        both P (rows_held X p b k) (row_held X p b (suc k)) (below-rows k (subst (Each P) (below_flat k) parts.1)) (subst (Each P) (sym (row_held-sub k)) parts.0)

    root_again : (k : ℕ) → root_held X meta (row X p b k) ≡ root_held X meta (map (part k) (groups (cut k) b))
    root_again k = ap (root_held X meta) (row-sub k)

    pub plan-sub : (h : ℕ) → length b ≤ cut h → (blocks : List Held) → blocks ≡ plan_rows h → Each P blocks → Each P (whole_blocks X p.chunk p.width meta h b)
    unfolding whole_blocks blocks_over
    plan-sub zero fit blocks e a = subst (Each P) (ap (flat_map (blocks_over X p.chunk p.width 0)) (one_group 0 fit)) (rows-below 0 (subst (Each P) e a))
    plan-sub (suc k) fit blocks e a =
        let all = subst (Each P) e a in
        (subst P (root_again k) (back P (rows_held X p b k) (root_held X meta (row X p b k) ∷ []) all).0, rows-below k (front P (rows_held X p b k) (root_held X meta (row X p b k) ∷ []) all))

    pub sub-plan : (h : ℕ) → length b ≤ cut h → (blocks : List Held) → blocks ≡ plan_rows h → Each P (whole_blocks X p.chunk p.width meta h b) → Each P blocks
    unfolding whole_blocks blocks_over
    sub-plan zero fit blocks e a = subst (Each P) (sym e) (below-rows 0 (subst (Each P) (sym (ap (flat_map (blocks_over X p.chunk p.width 0)) (one_group 0 fit))) a))
    sub-plan (suc k) fit blocks e a =
        subst (Each P) (sym e) (both P (rows_held X p b k) (root_held X meta (row X p b k) ∷ []) (below-rows k a.1) (subst P (sym (root_again k)) a.0, tt))
