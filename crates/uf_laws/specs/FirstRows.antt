-- The plan of a file without metadata by its rows.
use Rattle.std.specs.Prelude.{◌≡◌, ℕ, ◌<◌, ◌≤◌, List, [], ◌∷◌, length}
use Rattle.uf_tree.specs.FilePlan.{Plan, row, rows_held}
use Rattle.uf_tree.specs.declared.nodes.Part.{Part}
use Rattle.uf_tree.specs.declared.profile.Profile.{Profile}

-- a row of the file is the first that has one part, and the plan is this part with the blocks of all rows up to it
pub record IsFirst (X : List ℕ → List ℕ) (p : Profile) (bytes : List ℕ) (plan : Plan) (top : ℕ) : Type 0 where
  pub part : Part
  pub one : row X p bytes top ≡ part ∷ []
  pub first : (k : ℕ) → k < top → 2 ≤ length (row X p bytes k)
  pub entry : plan.entry ≡ part.entry
  pub blocks : plan.blocks ≡ rows_held X p bytes top
