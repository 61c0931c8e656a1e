-- A light proof, as a check is given it.
use Rattle.std.specs.Prelude.{◌≡◌, ℕ, List, Bool}
use Rattle.std.specs.declared.result.Result.TheVariants.{Ok}
use Rattle.uf_cid.specs.Blocks.{Holds, Lookup}
use Rattle.uf_cid.specs.declared.cid.Cid.{Cid}
use Rattle.uf_tree.specs.Tree.{Tree}
use Rattle.uf_tree.specs.TreePlan.{blocks}
use Rattle.uf_tree.specs.declared.profile.Profile.{Profile}
use Rattle.uf_plain.specs.Edits.{at}
use Rattle.uf_light.specs.Light.{HasHeight, light_says, light_text}
use Rattle.uf_light.specs.Standing.{IsTreeAt}

-- these bytes are the light proof of what a tree with this root has at these names, of which this is said; one store may
-- hold all blocks of the tree
pub record IsProof (X : List ℕ → List ℕ) (N : List ℕ → ℕ) (root : Cid) (names : List (List ℕ)) (absent : Bool)
    (said bytes : List ℕ) : Type 0 where
  pub p : Profile
  pub t : Tree
  pub height : ℕ
  pub held : Lookup
  pub tree : IsTreeAt X N p root t
  pub blocks_held : Holds held (blocks X N p t)
  pub tall : HasHeight p height (at 0 names t)
  pub says : light_says absent names (at 0 names t) ≡ Ok said
  pub text : bytes ≡ light_text X N p height names t
