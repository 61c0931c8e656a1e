-- The directory of the files that are left.
use Rattle.std.proofs.Common.{◌≡◌, ℕ, zero, suc, ◌+◌, ◌%◌, ◌^◌, ◌<◌, ◌≤◌, List, [], ◌∷◌, ◌++◌, refl, ap, ◌∙◌, arith, Bool, true, false, length, map, Some, None, ◌==◌, if◌then◌else◌}
use Rattle.std.specs.Prelude.{IsTrue, ◌&&◌, nat_lt}
use Rattle.std.specs.FinMap.Entries.{below_all, is_sorted}
use Rattle.std.specs.List.{AllByRecursion, flat_map, list_all, range_with_len}
use Rattle.std.specs.Ordering.{is_lt}
use Rattle.std.proofs.lemmas.Bool.Decides.{nat_tests}
use Rattle.std.proofs.lemmas.Grind.{flat_map-append}
use Rattle.std.proofs.lemmas.List.{append-nil, map-append}
use Rattle.std.proofs.lemmas.List.FromFn.{length-map-range_with_len}
use Rattle.std.proofs.lemmas.Nat.{mod_below}
use Rattle.uf_tree.specs.Laying.{laid}
use Rattle.uf_tree.proofs.Laid.{all-laid, length-laid}
use Rattle.uf_plain.proofs.Plans.{first-none, named, plans, refusal-is}
use Rattle.uf_tree.specs.Metas.{none}
use Rattle.uf_tree.specs.FilePlan.{file_plan}
use Rattle.uf_tree.specs.Names.{is_name, names_cmp}
use Rattle.uf_tree.specs.Profiles.{is_profile, most_bytes}
use Rattle.uf_tree.specs.Tree.{File, are_trees, entries, fold, is_tree, own_meta, pairs}
use Rattle.uf_tree.specs.TreePlan.{dir_refusal, first_refusal, named_entries, or_else, planned, refusal, too_long}
use Rattle.uf_tree.specs.TreePlan.{FileTooLong as IsTooLong}
use Rattle.uf_tree.specs.declared.meta.Meta.{Meta}
use Rattle.uf_tree.specs.declared.profile.Profile.{Profile}
use Rattle.uf_tree.proofs.Told.{kept}
use Rattle.uf_tree.proofs.TreeLaws.{meta-entries, pairs-entries}
use Rattle.uf_gen.specs.Fresh.{left_entries, left_entry, left_tree}
use Rattle.uf_gen.specs.Grown.{left_file, left_files}
use Rattle.uf_gen.specs.Rules.{file_name, first_bytes, last_bytes, late_offset, late_piece, mixed}
use Rattle.uf_gen.proofs.Names.{name-good}
use Rattle.uf_gen.proofs.Places.{AreBehind, Row}
use Rattle.uf_gen.proofs.Steps.{both-parts, counting, named-left, rows, rows-behind}

true_both : (a b : Bool) → a ≡ true → b ≡ true → a && b ≡ true
true_both true b p q = q
true_both false b p q = p

-- ---- the bytes of a file in the end

is_byte : ℕ → Bool
is_byte b = nat_lt b 256

few-first : (seed i : ℕ) → length (first_bytes seed i) ≤ 4096
few-first seed i =
    omega (arith, length-map-range_with_len (λ j. (mixed seed i + j) % 256) 0 (mixed seed i % 4096), mod_below (mixed seed i) 4096 (omega arith))

pub few-last : (seed i : ℕ) → length (last_bytes seed i) ≤ 16384
few-last seed i = by (i % 3 == 1)
  where
    by : (b : Bool) → length (if b then laid (first_bytes seed i) (late_offset seed i) late_piece else first_bytes seed i) ≤ 16384
    by true = omega (arith, few-first seed i, length-laid (first_bytes seed i) (late_offset seed i) 120 [], mod_below (mixed seed i) 8192 (omega arith))
    by false = omega (arith, few-first seed i)

below-byte : (b : ℕ) → b < 256 → is_byte b ≡ true
unfolding is_byte
below-byte b h = grind (arith, nat_tests)

all-rising : (from count start : ℕ) → list_all is_byte (map (λ j. (from + j) % 256) (range_with_len start count)) ≡ true
all-rising from zero start = refl
all-rising from (suc count) start = true_both (is_byte ((from + start) % 256)) _ (below-byte ((from + start) % 256) (mod_below (from + start) 256 (omega arith))) (all-rising from count (start + 1))

bytes-last : (seed i : ℕ) → list_all is_byte (last_bytes seed i) ≡ true
unfolding is_byte
bytes-last seed i = by (i % 3 == 1)
  where
    first : list_all is_byte (first_bytes seed i) ≡ true
    first = all-rising (mixed seed i) (mixed seed i % 4096) 0

    by : (b : Bool) → list_all is_byte (if b then laid (first_bytes seed i) (late_offset seed i) late_piece else first_bytes seed i) ≡ true
    by true = all-laid is_byte (first_bytes seed i) (late_offset seed i) late_piece refl first refl
    by false = first

-- ---- the tree of them

behind-below : (name : List ℕ) (l : List Row) → AreBehind name l → below_all names_cmp name l ≡ true
behind-below name [] h = refl
behind-below name (e ∷ l) h = true_both (is_lt (names_cmp name e.0)) _ (ap is_lt h.0) (behind-below name l h.1)

all-rows : (P : Row → Type 0) (f : ℕ → List Row) → ((i : ℕ) → AllByRecursion P (f i)) → (a n : ℕ) → AllByRecursion P (rows f a n)
all-rows P f h a zero = tt
all-rows P f h a (suc n) = both-parts P (f a) (rows f (a + 1) n) (h a) (all-rows P f h (a + 1) n)

sorted-left : (seed a n : ℕ) → a + n ≤ 10 ^ 8 → is_sorted names_cmp (rows (left_file seed) a n) ≡ true
sorted-left seed a zero most = refl
sorted-left seed a (suc n) most = by (a % 3 == 0) (sorted-left seed (a + 1) n (omega arith))
  where
    rest : List Row
    rest = rows (left_file seed) (a + 1) n

    by : (b : Bool) → is_sorted names_cmp rest ≡ true
        → is_sorted names_cmp ((if b then [] else ((file_name a, File none (last_bytes seed a)) ∷ [])) ++ rest) ≡ true
    by true h = h
    by false h =
        true_both (below_all names_cmp (file_name a) rest) (is_sorted names_cmp rest)
        (behind-below (file_name a) rest (rows-behind (left_file seed) (named-left seed) (a + 1) n a (omega arith) (omega arith))) h

trees-all : (l : List Row) → AllByRecursion (λ (e : Row). (is_name e.0 ≡ true) × (is_tree e.1 ≡ true)) l → are_trees (entries none l) ≡ true
unfolding is_tree
trees-all [] h = refl
trees-all (e ∷ l) h = true_both _ _ (true_both _ _ h.0.0 h.0.1) (trees-all l h.1)

pub tree-left : (seed n : ℕ) → n ≤ 10 ^ 8 → is_tree (left_tree seed n) ≡ true
unfolding is_tree is_byte
tree-left seed n most =
    true_both _ _
    (ap (is_sorted names_cmp) (pairs-entries none (left_files seed n)) ∙ sorted-left seed 0 n (omega arith))
    (trees-all (left_files seed n) (all-rows (λ (e : Row). (is_name e.0 ≡ true) × (is_tree e.1 ≡ true)) (left_file seed) good 0 n))
  where
    good : (i : ℕ) → AllByRecursion (λ (e : Row). (is_name e.0 ≡ true) × (is_tree e.1 ≡ true)) (left_file seed i)
    good i = by (i % 3 == 0)
      where
        by : (b : Bool) → AllByRecursion (λ (e : Row). (is_name e.0 ≡ true) × (is_tree e.1 ≡ true)) (if b then [] else ((file_name i, File none (last_bytes seed i)) ∷ []))
        by true = tt
        by false = ((name-good i, bytes-last seed i), tt)

-- ---- its plan

not-less : (m n : ℕ) → n ≤ m → nat_lt m n ≡ false
not-less m n h = grind (arith, nat_tests)

module _ (X : List ℕ → List ℕ) (N : List ℕ → ℕ) (p : Profile) (seed : ℕ) where
  entry-left : (i : ℕ) → named X N p (left_file seed i) ≡ left_entry X p seed i
  unfolding planned fold
  entry-left i = by (i % 3 == 0)
    where
      by : (b : Bool) → named X N p (if b then [] else ((file_name i, File none (last_bytes seed i)) ∷ []))
          ≡ (if b then [] else ((file_name i, (file_plan X p none (last_bytes seed i)).entry) ∷ []))
      by true = refl
      by false = refl

  entries-left : (a n : ℕ) → named X N p (rows (left_file seed) a n) ≡ flat_map (left_entry X p seed) (range_with_len a n)
  entries-left a zero = refl
  entries-left a (suc n) =
      map-append _ (left_file seed a) (rows (left_file seed) (a + 1) n)
      ∙ ap (λ l. l ++ named X N p (rows (left_file seed) (a + 1) n)) (entry-left a)
      ∙ ap (λ l. left_entry X p seed a ++ l) (entries-left (a + 1) n)

  pub named-entries : (n : ℕ) → named_entries X N p (entries none (left_files seed n)) ≡ left_entries X p seed n
  named-entries n = ap (named X N p) (pairs-entries none (left_files seed n)) ∙ entries-left 0 n

  fits : IsTrue (is_profile p) → (i : ℕ) → too_long p (last_bytes seed i) ≡ None
  fits ok i = ap (λ b. if b then Some IsTooLong else None) (not-less (most_bytes p) (length (last_bytes seed i)) (omega (arith, few-last seed i, (kept p ok).some)))

  pub refusal-left : IsTrue (is_profile p) → (n : ℕ) → refusal X N p (left_tree seed n) ≡ dir_refusal X N p none (left_entries X p seed n)
  unfolding planned fold
  refusal-left ok n =
      refusal-is X N p (entries none (left_files seed n))
      ∙ ap (λ o. or_else o (dir_refusal X N p (own_meta (entries none (left_files seed n))) (named X N p (pairs (entries none (left_files seed n)))))) unrefused
      ∙ ap (λ (m : Meta). dir_refusal X N p m (named X N p (pairs (entries none (left_files seed n))))) (meta-entries none (left_files seed n))
      ∙ ap (dir_refusal X N p none) (named-entries n)
    where
      unrefused : first_refusal (plans X N p (pairs (entries none (left_files seed n)))) ≡ None
      unrefused = ap (λ l. first_refusal (plans X N p l)) (pairs-entries none (left_files seed n))
          ∙ first-none X N p (left_files seed n) (all-rows (λ (e : Row). refusal X N p e.1 ≡ None) (left_file seed) each 0 n)
        where
          each : (i : ℕ) → AllByRecursion (λ (e : Row). refusal X N p e.1 ≡ None) (left_file seed i)
          each i = by (i % 3 == 0)
            where
              by : (b : Bool) → AllByRecursion (λ (e : Row). refusal X N p e.1 ≡ None) (if b then [] else ((file_name i, File none (last_bytes seed i)) ∷ []))
              by true = tt
              by false = (fits ok i, tt)

  pub entries-more : (i : ℕ) → left_entries X p seed (i + 1) ≡ left_entries X p seed i ++ left_entry X p seed i
  entries-more i =
      ap (λ n. flat_map (left_entry X p seed) (range_with_len 0 n)) {x = i + 1} {y = suc i} (omega arith)
      ∙ ap (flat_map (left_entry X p seed)) (counting 0 i)
      ∙ flat_map-append (left_entry X p seed) (range_with_len 0 i) ((0 + i) ∷ [])
      ∙ ap (λ l. left_entries X p seed i ++ l) (append-nil (left_entry X p seed (0 + i)))
      ∙ ap (λ k. left_entries X p seed i ++ left_entry X p seed k) {x = 0 + i} {y = i} (omega arith)
