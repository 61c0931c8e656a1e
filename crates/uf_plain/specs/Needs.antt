-- The blocks that a call needs of a tree: where they are all there it answers.
use Rattle.std.specs.Prelude.{ℕ, List, [], ◌∷◌, ◌++◌}
use Rattle.std.specs.declared.option.Option.TheVariants.{None, Some}
use Rattle.std.specs.declared.result.Result.TheVariants.{Ok, Err}
use Rattle.std.specs.List.{flat_map}
use Rattle.uf_cid.specs.Blocks.{Held}
use Rattle.uf_tree.specs.declared.profile.Profile.{Profile}
use Rattle.uf_tree.specs.DirPlan.{own_plan, trail}
use Rattle.uf_tree.specs.Tree.{Tree, File, Dir, Entries, own_meta, pairs}
use Rattle.uf_tree.specs.TreePlan.{entry, named_entries}
use Rattle.uf_plain.specs.Edits.{at, child}
use Rattle.uf_plain.specs.Replies.{root_block}

module _ (X : List ℕ → List ℕ) (N : List ℕ → ℕ) (p : Profile) where
  -- the root block of a tree
  abbrev pub root_of : Tree → List Held
  root_of t = elim (root_block X N p t) [ None ↦ [] | Some bytes ↦ ((entry X N p t).cid, bytes) ∷ [] ]

  -- what is under a name of a directory: the trail of the name, and the root block of what is there
  abbrev pub member_needs : List ℕ → Entries → List Held
  member_needs name es = trail X N p (own_meta es) (named_entries X N p es) name
      ++ elim (child name es) [ None ↦ [] | Some t ↦ root_of t ]

  -- a lookup: the trail of each name that is met, and the root block of the last thing met
  abbrev pub way : List (List ℕ) → Tree → List Held
  way [] t = root_of t
  way (name ∷ names) (File m bytes) = root_of (File m bytes)
  way (name ∷ names) (Dir es) = trail X N p (own_meta es) (named_entries X N p es) name
      ++ elim (child name es) [ None ↦ [] | Some t ↦ way names t ]

  -- the names of a directory: its own blocks
  abbrev pub own_needs : Tree → List Held
  own_needs (File m bytes) = []
  own_needs (Dir es) = (own_plan X N p (own_meta es) (named_entries X N p es)).blocks

  -- the rows of a directory: its own blocks, and the root block of each member
  abbrev pub rows_need : Tree → List Held
  rows_need (File m bytes) = []
  rows_need (Dir es) = own_needs (Dir es) ++ flat_map (λ (m : List ℕ × Tree). root_of m.1) (pairs es)

  -- a call at a path: what the lookup needs, and this of what is there
  abbrev pub needs_at : (Tree → List Held) → List (List ℕ) → Tree → List Held
  needs_at more names t = way names t ++ elim (at 0 names t) [ Ok found ↦ more found | Err why ↦ [] ]
