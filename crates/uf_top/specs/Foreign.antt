-- What is found in DAGs of others.
use Rattle.std.specs.Prelude.{◌≡◌, ◌⊎◌, ℕ, List, ⊤}
use Rattle.std.specs.declared.result.Result.{Result}
use Rattle.std.specs.declared.result.Result.TheVariants.{Ok, Err}
use Rattle.uf_cid.specs.Blocks.{Lookup}
use Rattle.uf_cid.specs.declared.cid.Cid.{Cid}
use Rattle.uf_lenient.specs.Answers.{IsStoreOwn}
use Rattle.uf_lenient.specs.Reading.{denotes, file_of, resolve_from}
use Rattle.uf_path.specs.declared.path.DagPath.{DagPath}
use Rattle.uf_command.specs.Dags.{by_dag, file_at, tree_at, usual_limits}
use Rattle.uf_command.specs.declared.types.Refusal.{Refusal}
use Rattle.uf_command.specs.declared.types.Refusal.TheVariants as refusal
use Rattle.uf_tree.specs.Tree.{Tree, File}
use Rattle.uf_tree.specs.declared.meta.Meta.{Meta}

-- a path leads to this CID
abbrev pub LeadsTo : Lookup → DagPath → Cid → Type 0
LeadsTo held path cid = resolve_from held usual_limits 0 path.names path.cid ≡ Ok cid

-- the store failed, or there was no memory: that no reading says
abbrev pub IsOwnRefusal : Refusal → Type 0
IsOwnRefusal (refusal.Store fault) = IsStoreOwn fault
IsOwnRefusal why = ⊥

-- a refusal by what a reading says, or by the store
abbrev pub IsOfReading : Refusal → Type 0
IsOfReading (refusal.Dag rule) = ⊤
IsOfReading (refusal.Store fault) = ⊤
IsOfReading why = ⊥

-- a path leads to this CID, or why it leads to no tree
abbrev pub FindsWay : Lookup → DagPath → Result Cid Refusal → Type 0
FindsWay held path (Ok cid) = LeadsTo held path cid
FindsWay held path (Err why) = IsOwnRefusal why ⊎ (by_dag path (tree_at held path) ≡ Err why)

-- a path leads to a file of some metadata and these bytes
pub record IsFileIn (held : Lookup) (path : DagPath) (cid : Cid) : Type 0 where
  pub meta : Meta
  pub bytes : List ℕ
  pub leads : tree_at held path ≡ Ok (File meta bytes)
  pub file : file_of held usual_limits cid ≡ Ok bytes

-- a path leads to a file with this CID, or why it doesn't
abbrev pub FindsFile : Lookup → DagPath → Result Cid Refusal → Type 0
FindsFile held path (Ok cid) = IsFileIn held path cid
FindsFile held path (Err why) = IsOwnRefusal why ⊎ (file_at path (tree_at held path) ≡ Err why)

-- a path leads to a tree, which this CID denotes
pub record IsTreeIn (held : Lookup) (path : DagPath) (cid : Cid) : Type 0 where
  pub tree : Tree
  pub leads : tree_at held path ≡ Ok tree
  pub denoted : denotes held usual_limits cid ≡ Ok tree

-- a path leads to what this CID denotes, or why it leads to no tree
abbrev pub FindsTree : Lookup → DagPath → Result Cid Refusal → Type 0
FindsTree held path (Ok cid) = IsTreeIn held path cid
FindsTree held path (Err why) = IsOwnRefusal why ⊎ (by_dag path (tree_at held path) ≡ Err why)
