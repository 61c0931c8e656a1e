-- The tree that the generator's commands make is that of the files that are left.
use Rattle.std.proofs.Common.{◌≡◌, ℕ, zero, suc, ◌+◌, ◌-◌, ◌%◌, ◌^◌, ◌<◌, ◌≤◌, List, [], ◌∷◌, ◌++◌, refl, ap, sym, ◌∙◌, subst, arith, length, drop, Bool, true, false, Option, Some, None, Result, Ok, Err, ◌==◌, if◌then◌else◌}
use Rattle.std.specs.List.{AllByRecursion, flat_map, range_with_len}
use Rattle.std.specs.FinMap.Entries.{find}
use Rattle.std.proofs.lemmas.List.{append-nil, append_assoc}
use Rattle.std.proofs.lemmas.Grind.{flat_map-append}
use Rattle.std.proofs.lemmas.List.Concat.{flat_map-cons}
use Rattle.uf_tree.specs.Laying.{laid}
use Rattle.uf_plain.specs.declared.file.FileEdit.TheVariants.{Write}
use Rattle.uf_plain.specs.declared.file.WriteHow.{WriteHow}
use Rattle.uf_plain.specs.declared.rule.Refused.{Refused}
use Rattle.uf_plain.specs.declared.rule.Rule.{Rule}
use Rattle.uf_plain.specs.Edits.{and_then, as_removable, child, removed, with_child, without_child}
use Rattle.uf_plain.specs.Files.{kept_meta, new_bytes}
use Rattle.uf_plain.specs.Moves.{then_go, told_of}
use Rattle.uf_plain.specs.Rules.{allowed, unless}
use Rattle.uf_tree.specs.Metas.{none}
use Rattle.uf_tree.specs.Changes.{with_name, without}
use Rattle.uf_tree.specs.Names.{names_cmp}
use Rattle.uf_tree.specs.declared.meta.Meta.{Meta}
use Rattle.uf_tree.specs.declared.profile.Profile.{Profile}
use Rattle.uf_tree.specs.Tree.{File, Dir, Entries, entries, pairs}
use Rattle.uf_tree.specs.TreePlan.{Refusal, refusal}
use Rattle.uf_tree.proofs.TreeLaws.{meta-entries, pairs-entries}
use Rattle.uf_gen.specs.Rules.{file_name, first_bytes, last_bytes, late_offset, late_piece}
use Rattle.uf_gen.specs.Grown.{after_change, after_make, after_write, changed_files, file_path, first_file, grown, left_file, left_files, made_files, making, writing_at}
use Rattle.uf_gen.proofs.Order.{names-less}
use Rattle.uf_gen.proofs.Places.{AreBefore, AreBehind, Row, find-end, find-there, put-end, put-there, without-there}

-- the rows of a file all have its name
abbrev pub AreNamed : ℕ → List Row → Type 0
AreNamed i l = AllByRecursion (λ (e : Row). e.0 ≡ file_name i) l

pub both-parts : (P : Row → Type 0) (xs ys : List Row) → AllByRecursion P xs → AllByRecursion P ys → AllByRecursion P (xs ++ ys)
both-parts P [] ys h g = g
both-parts P (x ∷ xs) ys h g = (h.0, both-parts P xs ys h.1 g)

named-before : (i k : ℕ) (l : List Row) → i < k → k < 10 ^ 8 → AreNamed i l → AreBefore (file_name k) l
named-before i k [] lt le h = tt
named-before i k (e ∷ l) lt le h =
    (ap (λ name. names_cmp name (file_name k)) h.0 ∙ names-less i k lt le, named-before i k l lt le h.1)

named-behind : (i k : ℕ) (l : List Row) → k < i → i < 10 ^ 8 → AreNamed i l → AreBehind (file_name k) l
named-behind i k [] lt le h = tt
named-behind i k (e ∷ l) lt le h =
    (ap (names_cmp (file_name k)) h.0 ∙ names-less k i lt le, named-behind i k l lt le h.1)

-- rows of files in turn
abbrev pub rows : (ℕ → List Row) → ℕ → ℕ → List Row
rows f a n = flat_map f (range_with_len a n)

pub rows-before : (f : ℕ → List Row) → ((i : ℕ) → AreNamed i (f i)) → (a n k : ℕ) → a + n ≤ k → k < 10 ^ 8
    → AreBefore (file_name k) (rows f a n)
rows-before f named a zero k le most = tt
rows-before f named a (suc n) k le most =
    subst (AreBefore (file_name k)) (sym (flat_map-cons f a (range_with_len (a + 1) n)))
    (both-parts _ (f a) _ (named-before a k (f a) (omega arith) most (named a))
    (rows-before f named (a + 1) n k (omega arith) most))

pub rows-behind : (f : ℕ → List Row) → ((i : ℕ) → AreNamed i (f i)) → (a n k : ℕ) → k < a → a + n ≤ 10 ^ 8
    → AreBehind (file_name k) (rows f a n)
rows-behind f named a zero k lt most = tt
rows-behind f named a (suc n) k lt most =
    subst (AreBehind (file_name k)) (sym (flat_map-cons f a (range_with_len (a + 1) n)))
    (both-parts _ (f a) _ (named-behind a k (f a) lt (omega arith) (named a))
    (rows-behind f named (a + 1) n k (omega arith) (omega arith)))

pub counting : (a n : ℕ) → range_with_len a (suc n) ≡ range_with_len a n ++ (a + n) ∷ []
counting a zero = ap (λ k. k ∷ []) {x = a} {y = a + 0} (omega arith)
counting a (suc n) =
    ap (λ l. a ∷ l) (counting (a + 1) n)
    ∙ ap (λ k. a ∷ (range_with_len (a + 1) n ++ k ∷ [])) {x = (a + 1) + n} {y = a + suc n} (omega arith)

pub rows-more : (f : ℕ → List Row) (a n : ℕ) → rows f a (suc n) ≡ rows f a n ++ f (a + n)
rows-more f a n =
    ap (flat_map f) (counting a n)
    ∙ flat_map-append f (range_with_len a n) ((a + n) ∷ [])
    ∙ ap (λ l. rows f a n ++ l) (append-nil (f (a + n)))

-- a step that isn't refused gives what it makes
told-unless : (names : List (List ℕ)) (es fs : Entries) (o : Option Refusal) → told_of names (unless es o) ≡ Ok fs → es ≡ fs
told-unless names es fs None e = cc
told-unless names es fs (Some why) e = absurd cc

ok-same : (a b : Entries) (r : Result Entries Rule) → r ≡ Ok a → r ≡ Ok b → b ≡ a
ok-same a b r e h = cc

laid-new : (x : List ℕ) → laid [] 0 x ≡ x
laid-new [] = refl
laid-new (z ∷ x) = ap (λ l. (z ∷ x) ++ l) (drop-nil (0 + length (z ∷ x))) ∙ append-nil (z ∷ x)
  where
    drop-nil : (n : ℕ) → drop {A = ℕ} n [] ≡ []
    drop-nil zero = refl
    drop-nil (suc n) = refl

pub named-left : (seed i : ℕ) → AreNamed i (left_file seed i)
named-left seed i = by (i % 3 == 0)
  where
    by : (b : Bool) → AreNamed i (if b then [] else ((file_name i, File none (last_bytes seed i)) ∷ []))
    by true = tt
    by false = (refl, tt)

module _ (X : List ℕ → List ℕ) (N : List ℕ → ℕ) (p : Profile) (seed : ℕ) where
  write-row : (how : WriteHow) (piece : List ℕ) (i : ℕ) (es fs : Entries) (b : List ℕ)
      → new_bytes (Write how) piece 1 (child (file_name i) es) ≡ Ok b → kept_meta (child (file_name i) es) ≡ none → after_write X N p seed how piece i es ≡ Ok fs
      → with_child (file_name i) (File none b) es ≡ fs
  write-row how piece i es fs b e bare h =
      let there = with_child (file_name i) (File none b) es in
      told-unless (file_path i) there fs (refusal X N p (Dir there))
      (ap (λ (m : Meta). told_of (file_path i) (allowed X N p (Ok (with_child (file_name i) (File m b) es)))) (sym bare)
      ∙ ap (λ (r : Result (List ℕ) Refused). told_of (file_path i) (allowed X N p
      (and_then r (λ bytes. Ok (with_child (file_name i) (File (kept_meta (child (file_name i) es)) bytes) es))))) (sym e) ∙ h)

  -- what follows a step that isn't refused wasn't refused either
  then-parts : (step : Result Entries Rule) (go : Entries → Result Entries Rule) (fs : Entries) → then_go step go ≡ Ok fs
      → (es : Entries) × (step ≡ Ok es) × (go es ≡ Ok fs)
  then-parts (Ok es) go fs e = (es, refl, e)
  then-parts (Err rule) go fs e = absurd cc

  named-first : (i : ℕ) → AreNamed i (first_file seed i)
  named-first i = (refl, tt)

  after-made : (i : ℕ) (fs : Entries) → i < 10 ^ 8 → after_make X N p seed i (entries none (rows (first_file seed) 0 i)) ≡ Ok fs
      → fs ≡ entries none (rows (first_file seed) 0 (suc i))
  after-made i fs lt h =
      let l = rows (first_file seed) 0 i in
      let before = rows-before (first_file seed) named-first 0 i i (omega arith) lt in
      let absent : child (file_name i) (entries none l) ≡ None = ap (find names_cmp (file_name i)) (pairs-entries none l) ∙ find-end (file_name i) l before in
      sym (write-row making (first_bytes seed i) i (entries none l) fs (laid [] 0 (first_bytes seed i)) (ap (new_bytes (Write making) (first_bytes seed i) 1) absent) (ap kept_meta absent) h)
      ∙ ap (λ b. with_child (file_name i) (File none b) (entries none l)) (laid-new (first_bytes seed i))
      ∙ ap (λ (m : Meta). entries m (with_name (file_name i) (File none (first_bytes seed i)) (pairs (entries none l)))) (meta-entries none l)
      ∙ ap (λ l. entries none (with_name (file_name i) (File none (first_bytes seed i)) l)) (pairs-entries none l)
      ∙ ap (entries none) (put-end (file_name i) (File none (first_bytes seed i)) l before)
      ∙ ap (entries none) (sym (rows-more (first_file seed) 0 i ∙ ap (λ k. l ++ first_file seed k) {x = 0 + i} {y = i} (omega arith)))

  made : (i : ℕ) (es : Entries) → i ≤ 10 ^ 8 → made_files X N p seed i ≡ Ok es → es ≡ entries none (rows (first_file seed) 0 i)
  unfolding made_files
  made zero es le e = cc
  made (suc i) es le e =
      let parts = then-parts (made_files X N p seed i) (after_make X N p seed i) es e in
      after-made i es (omega arith) (ap (after_make X N p seed i) (sym (made i parts.0 (omega arith) parts.1)) ∙ parts.2)

  -- the files so far that are left, and those that aren't changed yet
  abbrev half : (n i : ℕ) → List Row
  half n i = left_files seed i ++ rows (first_file seed) i (n - i)

  -- a step of a file that is there, by what is done to it
  after-changed : (n i : ℕ) (fs : Entries) → i < n → n ≤ 10 ^ 8 → after_change X N p seed i (entries none (half n i)) ≡ Ok fs
      → fs ≡ entries none (half n (suc i))
  after-changed n i fs lt le h =
      by (i % 3 == 0) (i % 3 == 1) (ap (λ l. after_change X N p seed i (entries none l)) (sym now) ∙ h)
      ∙ ap (entries none) (sym (append_assoc left (left_file seed i) rest)
      ∙ ap (λ l. l ++ rest) (ap (λ k. left ++ left_file seed k) {x = i} {y = 0 + i} (omega arith) ∙ sym (rows-more (left_file seed) 0 i))
      ∙ ap (λ k. left_files seed (suc i) ++ rows (first_file seed) k (n - suc i)) {x = i + 1} {y = suc i} (omega arith))
    where
      left : List Row
      left = left_files seed i

      rest : List Row
      rest = rows (first_file seed) (i + 1) (n - suc i)

      name : List ℕ
      name = file_name i

      row : Row
      row = (name, File none (first_bytes seed i))

      all : List Row
      all = left ++ row ∷ rest

      changed_bytes : List ℕ
      changed_bytes = laid (first_bytes seed i) (late_offset seed i) late_piece

      now : half n i ≡ all
      now = ap (λ m. left ++ rows (first_file seed) i m) {x = n - i} {y = suc (n - suc i)} (omega arith)

      before : AreBefore name left
      before = rows-before (left_file seed) (named-left seed) 0 i i (omega arith) (omega arith)

      behind : AreBehind name rest
      behind = rows-behind (first_file seed) named-first (i + 1) (n - suc i) i (omega arith) (omega arith)

      there : child name (entries none all) ≡ Some (File none (first_bytes seed i))
      there = ap (find names_cmp name) (pairs-entries none all) ∙ find-there name (File none (first_bytes seed i)) left rest before

      left_by : Bool → Bool → List Row
      left_by a b = if a then [] else ((name, File none (if b then changed_bytes else first_bytes seed i)) ∷ [])

      by : (a b : Bool) → (if a then told_of (file_path i) (removed false (file_path i) (entries none all))
          else (if b then after_write X N p seed (writing_at (late_offset seed i)) late_piece i (entries none all) else Ok (entries none all))) ≡ Ok fs
          → fs ≡ entries none (left ++ (left_by a b ++ rest))
      by true b h =
          ok-same (without_child name (entries none all)) fs (told_of (file_path i) (removed false (file_path i) (entries none all)))
          (ap (λ o. told_of (file_path i) (and_then (as_removable false 1 o) (λ may. Ok (without_child name (entries none all))))) there) h
          ∙ ap (λ (m : Meta). entries m (without name (pairs (entries none all)))) (meta-entries none all)
          ∙ ap (λ l. entries none (without name l)) (pairs-entries none all)
          ∙ ap (entries none) (without-there name (File none (first_bytes seed i)) left rest before behind)
      by false true h =
          sym (write-row (writing_at (late_offset seed i)) late_piece i (entries none all) fs changed_bytes
          (ap (new_bytes (Write (writing_at (late_offset seed i))) late_piece 1) there) (ap kept_meta there) h)
          ∙ ap (λ (m : Meta). entries m (with_name name (File none changed_bytes) (pairs (entries none all)))) (meta-entries none all)
          ∙ ap (λ l. entries none (with_name name (File none changed_bytes) l)) (pairs-entries none all)
          ∙ ap (entries none) (put-there name (File none (first_bytes seed i)) (File none changed_bytes) left rest before)
      by false false h = cc

  changed : (n i : ℕ) (es : Entries) → i ≤ n → n ≤ 10 ^ 8 → changed_files X N p seed n i ≡ Ok es → es ≡ entries none (half n i)
  unfolding changed_files
  changed n zero es le most e = made n es most e ∙ ap (λ m. entries none (rows (first_file seed) 0 m)) {x = n} {y = n - 0} (omega arith)
  changed n (suc i) es le most e =
      let parts = then-parts (changed_files X N p seed n i) (after_change X N p seed i) es e in
      after-changed n i es (omega arith) most (ap (after_change X N p seed i) (sym (changed n i parts.0 (omega arith) most parts.1)) ∙ parts.2)

  pub grown-left : (n : ℕ) (es : Entries) → n ≤ 10 ^ 8 → grown X N p seed n ≡ Ok es → es ≡ entries none (left_files seed n)
  grown-left n es le e =
      changed n n es (omega arith) le e
      ∙ ap (λ m. entries none (left_files seed n ++ rows (first_file seed) n m)) {x = n - n} {y = 0} (omega arith)
      ∙ ap (entries none) (append-nil (left_files seed n))
