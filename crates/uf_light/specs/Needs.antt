-- What a light proof needs of a tree, and how often it touches the store at most.
use Rattle.std.specs.Prelude.{ℕ, ◌+◌, ◌*◌, List, [], ◌++◌, length, Bool, true, false}
use Rattle.std.specs.declared.result.Result.{Result}
use Rattle.uf_cid.specs.Blocks.{Held}
use Rattle.uf_plain.specs.Edits.{at}
use Rattle.uf_plain.specs.Needs.{way}
use Rattle.uf_plain.specs.declared.rule.Refused.{Refused}
use Rattle.uf_tree.specs.Tree.{Tree}
use Rattle.uf_tree.specs.declared.profile.Profile.{Profile}
use Rattle.uf_light.specs.Light.{file_blocks}

module _ (X : List ℕ → List ℕ) (N : List ℕ → ℕ) (p : Profile) (height : ℕ) where
  -- the blocks of the file that a proof contains: none where it shows that nothing is there
  abbrev pub shown_blocks : Bool → Result Tree Refused → List Held
  shown_blocks true found = []
  shown_blocks false found = file_blocks X N p height found

  module _ (absent : Bool) (names : List (List ℕ)) (t : Tree) where
    -- the blocks that a proof needs of a tree: those that decide what is at the path, and those of the file that it
    -- contains
    abbrev pub proof_needs : List Held
    proof_needs = way X N p names t ++ shown_blocks absent (at 0 names t)

    -- the most touches before a proof is written: one for the root, nine for each name, and one for each block of the
    -- file
    abbrev pub finding_touches : ℕ
    finding_touches = 1 + 9 * length names + length (shown_blocks absent (at 0 names t))

    -- the most touches of a proof: to write it, eight more for each name, and one for each block of the file
    abbrev pub proof_touches : ℕ
    proof_touches = finding_touches + 8 * length names + length (shown_blocks absent (at 0 names t))
