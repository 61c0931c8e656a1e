-- The generated tree: as its commands make it, and as it is at once.
use Rattle.std.specs.Prelude.{ℕ, zero, suc, ◌%◌, ◌==◌, List, [], ◌∷◌, length, if◌then◌else◌, true, false}
use Rattle.std.specs.declared.result.Result.{Result}
use Rattle.std.specs.declared.result.Result.TheVariants.{Ok}
use Rattle.std.specs.List.{flat_map, range_with_len, sum_by}
use Rattle.uf_plain.specs.declared.file.WriteHow.{WriteHow}
use Rattle.uf_plain.specs.declared.rule.Rule.{Rule}
use Rattle.uf_plain.specs.Edits.{removed}
use Rattle.uf_plain.specs.Files.{written}
use Rattle.uf_plain.specs.Moves.{then_go, told_of}
use Rattle.uf_plain.specs.Rules.{allowed}
use Rattle.uf_tree.specs.Metas.{none}
use Rattle.uf_tree.specs.declared.profile.Profile.{Profile}
use Rattle.uf_tree.specs.Tree.{Tree, File, Dir, Entries, Nothing}
use Rattle.uf_gen.specs.Rules.{file_name, first_bytes, last_bytes, late_offset, late_piece}
use Rattle.uf_gen.specs.declared.step.Step.{Step}
use Rattle.uf_gen.specs.declared.step.Step.TheVariants.{Make, Change}

-- a write that makes the file
abbrev pub making : WriteHow
making = record { offset = 0; create = true; cut = false }

-- a write into a file that is there
abbrev pub writing_at : ℕ → WriteHow
writing_at offset = record { offset = offset; create = false; cut = false }

-- the path of a file
abbrev pub file_path : ℕ → List (List ℕ)
file_path i = file_name i ∷ []

-- a file as it is made
abbrev pub first_file : (seed i : ℕ) → List (List ℕ × Tree)
first_file seed i = (file_name i, File none (first_bytes seed i)) ∷ []

-- a file in the end: each third is gone
abbrev pub left_file : (seed i : ℕ) → List (List ℕ × Tree)
left_file seed i = if i % 3 == 0 then [] else ((file_name i, File none (last_bytes seed i)) ∷ [])

-- the files that are left of the first n
abbrev pub left_files : (seed n : ℕ) → List (List ℕ × Tree)
left_files seed n = flat_map (left_file seed) (range_with_len 0 n)

-- how many bytes a file has
abbrev pub file_size : Tree → ℕ
file_size (File m bytes) = length bytes
file_size (Dir es) = 0

-- how many bytes the files have that are left of the first n
abbrev pub left_size : (seed n : ℕ) → ℕ
left_size seed n = sum_by (λ (row : List ℕ × Tree). file_size row.1) (left_files seed n)

module _ (X : List ℕ → List ℕ) (N : List ℕ → ℕ) (p : Profile) (seed : ℕ) where
  -- a file is written into a tree, unless a rule refuses it
  abbrev pub after_write : WriteHow → List ℕ → ℕ → Entries → Result Entries Rule
  after_write how piece i es = told_of (file_path i) (allowed X N p (written how piece (file_path i) es))

  -- a file is made
  abbrev pub after_make : ℕ → Entries → Result Entries Rule
  after_make i es = after_write making (first_bytes seed i) i es

  -- a file is changed: each third is removed, and into the one after it a byte is written
  abbrev pub after_change : ℕ → Entries → Result Entries Rule
  after_change i es =
      if i % 3 == 0 then told_of (file_path i) (removed false (file_path i) es)
      else (if i % 3 == 1 then after_write (writing_at (late_offset seed i)) late_piece i es else Ok es)

  -- a file is made, or changed
  abbrev pub after_step : Step → ℕ → Entries → Result Entries Rule
  after_step Make i = after_make i
  after_step Change i = after_change i

  -- the tree once i files are made
  unfoldable pub made_files : ℕ → Result Entries Rule
  made_files zero = Ok (Nothing none)
  made_files (suc i) = then_go (made_files i) (after_make i)

  -- the tree once n files are made and i of them are changed
  unfoldable pub changed_files : (n i : ℕ) → Result Entries Rule
  changed_files n zero = made_files n
  changed_files n (suc i) = then_go (changed_files n i) (after_change i)

  -- the tree of n files once this step was done to i of them
  abbrev pub stepped : Step → (n i : ℕ) → Result Entries Rule
  stepped Make n i = made_files i
  stepped Change n i = changed_files n i

  -- the tree of n files, unless a rule refuses one of the steps
  abbrev pub grown : ℕ → Result Entries Rule
  grown n = changed_files n n
