-- Which blocks a command saves that works on the tree which the Head names: those of the tree that it gives, those that
-- it makes in between, and those of what it puts there. So it is whatever the answer.
use Rattle.std.specs.Prelude.{ℕ, List, [], ◌∷◌, ◌++◌, Bool, IfSome, ⊤}
use Rattle.std.specs.List.{Contains, flat_map}
use Rattle.std.specs.declared.option.Option.TheVariants.{None, Some}
use Rattle.std.specs.declared.result.Result.{Result}
use Rattle.std.specs.declared.result.Result.TheVariants.{Ok, Err}
use Rattle.uf_cid.specs.Blocks.{Held, Lookup}
use Rattle.uf_command.specs.Dags.{adopted_name, tree_at}
use Rattle.uf_command.specs.declared.types.Ask.{Ask}
use Rattle.uf_command.specs.declared.types.Ask.TheVariants.{Ls, Stat, Edit as Edits}
use Rattle.uf_command.specs.declared.types.Edit.TheVariants.{Write}
use Rattle.uf_command.specs.declared.types.Refusal.{Refusal}
use Rattle.uf_edge.specs.Host.{HostTold}
use Rattle.uf_edge.specs.Streams as streams
use Rattle.uf_edits.specs.Edits.{edited_blocks}
use Rattle.uf_lenient.specs.declared.fault.DagFault.{DagFault}
use Rattle.uf_mfs.specs.Saving.{next_blocks}
use Rattle.uf_path.specs.declared.path.DagPath.{DagPath}
use Rattle.uf_path.specs.declared.path.Path.{Path}
use Rattle.uf_plain.specs.Moves.{put_at_spot, spotted}
use Rattle.uf_plain.specs.declared.file.WriteHow.{WriteHow}
use Rattle.uf_plain.specs.declared.spot.Spot.{Spot}
use Rattle.uf_store.specs.Contents.{Told}
use Rattle.uf_store.specs.Seen.{Seen}
use Rattle.uf_store.specs.Writing.{Wrote}
use Rattle.uf_store.specs.declared.store.Write.{Write as TheWrite}
use Rattle.uf_store.specs.declared.store.Write.TheVariants.{Saved, Synced, Noted}
use Rattle.uf_tree.specs.Metas.{none}
use Rattle.uf_tree.specs.Tree.{Entries, File, Tree}
use Rattle.uf_tree.specs.TreePlan.{blocks}
use Rattle.uf_tree.specs.declared.profile.Profile.{Profile}
use Rattle.uf_top.specs.Around.{CountsCanRise}
use Rattle.uf_top.specs.Hosted.{AreReadAt}
use Rattle.uf_top.specs.Naming.{StaysNamed, TellsBlocks}
use Rattle.uf_top.specs.Reply.{added_spot, by_rule}

-- the write is a save of one of these blocks, or no save
abbrev pub IsNoOther : List Held → TheWrite → Type 0
IsNoOther blocks (Saved cid bytes) = Contains blocks (cid, bytes)
IsNoOther blocks Synced = ⊤
IsNoOther blocks (Noted which text) = ⊤

-- no block was saved but some of these
abbrev pub SavesNoOther : (List ℕ → List ℕ) → List Held → Told → Told → Type 0
SavesNoOther hash blocks before now = Wrote hash (IsNoOther blocks) before now

module _ (X : List ℕ → List ℕ) (N : List ℕ → ℕ) where
  -- the blocks that may be saved of what is asked at these names
  abbrev pub asked_blocks : Ask → List (List ℕ) → Profile → Entries → List Held
  asked_blocks (Ls long) names p es = []
  asked_blocks Stat names p es = []
  asked_blocks (Edits edit) names p es = edited_blocks X N edit names p es

  -- those of trees that are put at a spot, and of the tree that this gives; none where there is no spot
  abbrev pub put_blocks : Result Spot Refusal → List Tree → Profile → Entries → List Held
  put_blocks (Ok spot) trees p es =
      flat_map (blocks X N p) trees ++ flat_map (λ t. next_blocks X N p (put_at_spot spot t es)) trees
  put_blocks (Err why) trees p es = []

  -- those of the tree that is at a path in a DAG, put where a path of the tree leads; none where there is no such tree
  abbrev pub adopted_blocks : Result Tree DagFault → DagPath → Path → Profile → Entries → List Held
  adopted_blocks (Ok t) source dest p es =
      put_blocks (by_rule (spotted dest (Some (adopted_name source)) es)) (t ∷ []) p es
  adopted_blocks (Err fault) source dest p es = []

  module _ (before now : Seen) where
    -- this holds of the tree that the Head names, where the store agrees with its blocks before and after, and where a
    -- failure or a clash would show
    abbrev pub InHead : (Profile → Entries → Type 0) → Type 0
    InHead Q = (p : Profile) (es : Entries) → StaysNamed X N before.told now.told p es → CountsCanRise before → Q p es

    -- no block of it was saved but some of these
    abbrev pub SavesInHead : (Profile → Entries → List Held) → Type 0
    SavesInHead may_save = InHead (λ p es. SavesNoOther X (may_save p es) before.told now.told)

    -- where the input tells: it was written into the file of a path, and no other block was saved
    abbrev pub KeepsWritten : WriteHow → List (List ℕ) → streams.Told → Type 0
    KeepsWritten how names left = IfSome left (λ bytes. SavesInHead (edited_blocks X N (Write how bytes) names))

    -- the same of its file put where a path leads
    abbrev pub KeepsPut : Path → streams.Told → Type 0
    KeepsPut dest left = IfSome left (λ bytes.
        SavesInHead (λ p es. put_blocks (added_spot dest None es) (File none bytes ∷ []) p es))

    -- where the host tells: what was read of a path of it was put where a path leads, and no other block was saved
    abbrev pub KeepsHosted : Bool → List ℕ → Path → HostTold → Type 0
    KeepsHosted recursive path dest host = IfSome host (λ h. InHead (λ p es. (trees : List Tree)
        × AreReadAt X N p recursive path trees h
        × SavesNoOther X (put_blocks (added_spot dest (Some path) es) trees p es) before.told now.told))

    -- what is at a path in a DAG was put where a path leads, and no other block was saved
    abbrev pub KeepsAdopted : DagPath → Path → Type 0
    KeepsAdopted source dest = (held : Lookup) → TellsBlocks before.told held
        → SavesInHead (adopted_blocks (tree_at held source) source dest)
