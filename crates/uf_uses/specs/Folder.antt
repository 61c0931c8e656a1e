-- The root of a tree that has one folder.
use Rattle.std.specs.Prelude.{◌≡◌, ℕ, List, false}
use Rattle.std.specs.declared.result.Result.TheVariants.{Ok}
use Rattle.uf_cid.specs.declared.cid.Cid.{Cid}
use Rattle.uf_plain.specs.Edits.{made}
use Rattle.uf_plain.specs.Rules.{allowed}
use Rattle.uf_tree.specs.Profiles.{usual}
use Rattle.uf_tree.specs.Metas.{none}
use Rattle.uf_tree.specs.Tree.{Dir, Entries, Nothing}
use Rattle.uf_tree.specs.TreePlan.{entry}

-- the plain tree with a folder at these names alone is allowed, and the CID is that of its root, imported afresh
abbrev pub IsRootWith : (List ℕ → List ℕ) → (List ℕ → ℕ) → List (List ℕ) → Cid → Type 0
IsRootWith X N names cid = (es : Entries) × (allowed X N usual (made false names (Nothing none)) ≡ Ok es)
    × (cid ≡ (entry X N usual (Dir es)).cid)
