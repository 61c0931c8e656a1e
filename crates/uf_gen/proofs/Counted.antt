-- The files that are left, counted.
use Rattle.std.proofs.Common.{◌≡◌, ℕ, suc, ◌+◌, ◌%◌, List, [], ◌∷◌, ◌++◌, ap, ◌∙◌, arith, Bool, true, false, length, ◌==◌, if◌then◌else◌}
use Rattle.std.specs.Prelude.{◌≢◌, max}
use Rattle.std.specs.List.{sum_by}
use Rattle.std.proofs.lemmas.Bool.Decides.{nat_tests}
use Rattle.std.proofs.lemmas.List.FromFn.{length-map-range_with_len}
use Rattle.std.proofs.lemmas.List.Sums.{sum_by-append}
use Rattle.uf_tree.specs.Laying.{laid}
use Rattle.uf_tree.proofs.Laid.{length-laid}
use Rattle.std.proofs.lemmas.List.{length-append}
use Rattle.uf_tree.specs.Metas.{none}
use Rattle.uf_tree.specs.Tree.{File}
use Rattle.uf_gen.specs.Grown.{file_size, left_file, left_files, left_size}
use Rattle.uf_gen.specs.Rules.{file_name, first_bytes, last_bytes, late_offset, late_piece, mixed}
use Rattle.uf_gen.proofs.Places.{Row}
use Rattle.uf_gen.proofs.Steps.{rows-more}

more-left : (seed i : ℕ) → left_files seed (i + 1) ≡ left_files seed i ++ left_file seed i
more-left seed i =
    ap (left_files seed) {x = i + 1} {y = suc i} (omega arith) ∙ rows-more (left_file seed) 0 i
    ∙ ap (λ k. left_files seed i ++ left_file seed k) {x = 0 + i} {y = i} (omega arith)

abbrev size : Row → ℕ
size row = file_size row.1

module _ (seed i : ℕ) where
  count-more : length (left_files seed (i + 1)) ≡ length (left_files seed i) + length (left_file seed i)
  count-more = ap length (more-left seed i) ∙ length-append (left_files seed i) (left_file seed i)

  size-more : left_size seed (i + 1) ≡ left_size seed i + sum_by size (left_file seed i)
  size-more = ap (sum_by size) (more-left seed i) ∙ sum_by-append size (left_files seed i) (left_file seed i)

  abbrev file_by : Bool → List Row
  file_by b = if b then [] else ((file_name i, File none (last_bytes seed i)) ∷ [])

  is-gone : i % 3 ≡ 0 → (i % 3 == 0) ≡ true
  is-gone gone = grind (arith, nat_tests)

  is-left : i % 3 ≢ 0 → (i % 3 == 0) ≡ false
  is-left left = grind (arith, nat_tests)

  pub count-gone : i % 3 ≡ 0 → length (left_files seed (i + 1)) ≡ length (left_files seed i)
  count-gone gone = omega (arith, count-more, ap (λ b. length (file_by b)) (is-gone gone))

  pub count-left : i % 3 ≢ 0 → length (left_files seed (i + 1)) ≡ length (left_files seed i) + 1
  count-left left = omega (arith, count-more, ap (λ b. length (file_by b)) (is-left left))

  pub size-gone : i % 3 ≡ 0 → left_size seed (i + 1) ≡ left_size seed i
  size-gone gone = omega (arith, size-more, ap (λ b. sum_by size (file_by b)) (is-gone gone))

  pub size-left : i % 3 ≢ 0 → left_size seed (i + 1) ≡ left_size seed i + length (last_bytes seed i)
  size-left left = omega (arith, size-more, ap (λ b. sum_by size (file_by b)) (is-left left))

  length-first : length (first_bytes seed i) ≡ mixed seed i % 4096
  length-first = length-map-range_with_len (λ j. (mixed seed i + j) % 256) 0 (mixed seed i % 4096)

  abbrev last_by : Bool → List ℕ
  last_by b = if b then laid (first_bytes seed i) (late_offset seed i) late_piece else first_bytes seed i

  pub length-changed : i % 3 ≡ 1 → (most : ℕ) → most ≡ max (mixed seed i % 4096) (late_offset seed i + 1)
      → most ≡ length (last_bytes seed i)
  length-changed one most e =
      let is : (i % 3 == 1) ≡ true = grind (arith, nat_tests) in
      omega (arith, e, length-first, length-laid (first_bytes seed i) (late_offset seed i) 120 [], ap (λ b. length (last_by b)) is)

  pub length-kept : i % 3 ≢ 1 → mixed seed i % 4096 ≡ length (last_bytes seed i)
  length-kept other =
      let is : (i % 3 == 1) ≡ false = grind (arith, nat_tests) in
      omega (arith, length-first, ap (λ b. length (last_by b)) is)
