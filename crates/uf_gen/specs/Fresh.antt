-- The generated tree built afresh, from its files as they are in the end.
use Rattle.std.specs.Prelude.{ℕ, ◌%◌, ◌==◌, List, [], ◌∷◌, if◌then◌else◌}
use Rattle.std.specs.List.{flat_map, range_with_len}
use Rattle.uf_cid.specs.Blocks.{Held}
use Rattle.uf_tree.specs.Metas.{none}
use Rattle.uf_tree.specs.FilePlan.{file_plan}
use Rattle.uf_tree.specs.Nodes.{Named}
use Rattle.uf_tree.specs.Tree.{Tree, Dir, entries}
use Rattle.uf_tree.specs.declared.profile.Profile.{Profile}
use Rattle.uf_gen.specs.Grown.{left_files}
use Rattle.uf_gen.specs.Rules.{file_name, last_bytes}

-- the tree of the files that are left
abbrev pub left_tree : (seed n : ℕ) → Tree
left_tree seed n = Dir (entries none (left_files seed n))

module _ (X : List ℕ → List ℕ) (p : Profile) (seed : ℕ) where
  -- the entry of a file as it is in the end, which each third is not
  abbrev pub left_entry : ℕ → List Named
  left_entry i = if i % 3 == 0 then [] else ((file_name i, (file_plan X p none (last_bytes seed i)).entry) ∷ [])

  -- the entries of the files that are left
  abbrev pub left_entries : ℕ → List Named
  left_entries n = flat_map left_entry (range_with_len 0 n)

  -- the blocks of a file as it is in the end, which each third is not
  abbrev pub left_blocks : ℕ → List Held
  left_blocks i = if i % 3 == 0 then [] else (file_plan X p none (last_bytes seed i)).blocks
