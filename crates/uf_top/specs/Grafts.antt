-- Copies from DAGs of others into the tree that the Head names.
use Rattle.std.specs.Prelude.{◌≡◌, ◌⊎◌, ℕ, ◌≤◌, ◌<◌, List, [], ◌∷◌, Bool, false, IfErr, IsErr, OnOk}
use Rattle.std.specs.declared.result.Result.{Result}
use Rattle.std.specs.declared.result.Result.TheVariants.{Ok, Err}
use Rattle.uf_adopt.specs.Adopting.{IsBuilt}
use Rattle.uf_adopt.specs.Faults.{IsStoreFailing}
use Rattle.uf_adopt.specs.declared.fault.AdoptFault.{AdoptFault}
use Rattle.uf_adopt.specs.declared.fault.AdoptFault.TheVariants as adopt
use Rattle.uf_cid.specs.Blocks.{Held, Lookup}
use Rattle.uf_edge.specs.Counts.{Stood}
use Rattle.uf_edge.specs.Streams as streams
use Rattle.uf_mfs.specs.Bad.{IsBadInTree}
use Rattle.uf_mfs.specs.Standing.{StandsAfter, StandsOver, head_in}
use Rattle.uf_mfs.specs.Steps.{IsFolderOver}
use Rattle.uf_mfs.specs.Touches.{IsBlaming}
use Rattle.uf_mfs.specs.declared.mfs.Mfs.{Mfs}
use Rattle.uf_path.specs.declared.path.DagPath.{DagPath}
use Rattle.uf_path.specs.declared.path.Path.{Path}
use Rattle.uf_plain.specs.Moves.{allowed_move, placed_at, spotted}
use Rattle.uf_plain.specs.declared.rule.Rule.TheVariants as rule
use Rattle.uf_plain.specs.declared.spot.Spot.{Spot}
use Rattle.uf_command.specs.Natures.{MovesHead}
use Rattle.uf_command.specs.Dags.{adopted_name, dag_refusal, tree_at}
use Rattle.uf_command.specs.Kinds.{adopt_kinds, IsOf, OfReady, RefusalKind, may_meet, refusal_fault}
use Rattle.uf_top.specs.Reply.{adopt_reply, by_rule, with_plan}
use Rattle.uf_command.specs.declared.types.Refusal.{Refusal}
use Rattle.uf_command.specs.declared.types.Refusal.TheVariants as refusal
use Rattle.uf_store.specs.Calls.{Calm}
use Rattle.uf_store.specs.Contents.{Told}
use Rattle.uf_store.specs.Faults.{Shown}
use Rattle.uf_store.specs.Keeping.{Agrees, KeepsGood}
use Rattle.uf_store.specs.Lost.{IsLossOf}
use Rattle.uf_store.specs.Seen.{Seen}
use Rattle.uf_tree.specs.Tree.{Dir, Entries, Tree}
use Rattle.uf_tree.specs.TreePlan.{blocks}
use Rattle.uf_tree.specs.declared.nodes.Entry.{Entry}
use Rattle.uf_tree.specs.declared.profile.Profile.{Profile}
use Rattle.uf_varint.specs.Fields.{◌>>=◌}
use Rattle.std.specs.declared.option.Option.TheVariants.{Some}
use Rattle.uf_top.specs.Losing.{DoesOver, placing_needs}
use Rattle.uf_top.specs.Naming.{StaysNamed, TellsBlocks}
use Rattle.uf_top.specs.Around.{CountsCanRise}
use Rattle.uf_top.specs.Saving.{SavesNoOther, adopted_blocks, put_blocks}
use Rattle.uf_top.specs.Shapes.{WritesInTree, is_ok}

-- there is a value, and this holds of it
abbrev pub IsOkFor : {A : Type 0} → (A → Type 0) → Result A Refusal → Type 0
IsOkFor P (Ok a) = P a
IsOkFor P (Err why) = ⊥

-- a step gives what the plain tree gives, or is refused as that is, or by what may come besides
abbrev pub FollowsOr : {A B : Type 0} → (Refusal → Type 0) → (A → B → Type 0) → Result A Refusal → Result B Refusal
    → Type 0
FollowsOr May P w (Ok b) = IsOkFor (λ a. P a b) w
FollowsOr May P w (Err given) = May given ⊎ (w ≡ Err given)

-- one of these blocks is lost, or there was no memory
abbrev pub IsLostBy : Told → List Held → Refusal → Type 0
IsLostBy told l (refusal.Store fault) = IsLossOf told l fault
IsLostBy told l why = ⊥

-- the store itself failed, or there was no memory
abbrev pub IsFailingRefusal : Refusal → Type 0
IsFailingRefusal (refusal.Store fault) = IsStoreFailing fault
IsFailingRefusal why = ⊥

-- the fault of an adoption along a path as a refusal
abbrev pub adopt_refusal : DagPath → AdoptFault → Refusal
adopt_refusal path (adopt.Dag fault) = dag_refusal path fault
adopt_refusal path (adopt.FileTooLong cid) = refusal.Rule rule.FileTooLong
adopt_refusal path (adopt.Collision first second) = refusal.Rule (rule.Collision first second)
adopt_refusal path adopt.TooBig = refusal.Rule rule.TooBig
adopt_refusal path (adopt.Store fault) = refusal.Store fault

-- the kinds that such a copy may answer over an opened tree, which is ready
abbrev pub graft_kinds : RefusalKind → Bool
graft_kinds OfReady = false
graft_kinds kind = may_meet adopt_kinds kind

-- the count of touches doesn't fall where there is no fault, and it has risen where a block is blamed
pub record TouchesUp {A : Type 0} (result : Result A Refusal) (was is : ℕ) : Type 0 where
  pub kept : OnOk result (was ≤ is)
  pub risen : IsBlaming (refusal_fault result) → was < is

module _ (X : List ℕ → List ℕ) (N : List ℕ → ℕ) where
  -- a tree that is read is put at a spot: it has to have a plan, and then the whole tree
  abbrev pub put_tree : Spot → Tree → Profile → Entries → Result Entries Refusal
  put_tree spot t p es =
      by_rule (with_plan X N p t) >>= λ planned. by_rule (allowed_move X N p (placed_at spot planned es))

  -- the tree is built as its plan says, or it has none, or the store itself fails
  abbrev pub BuildsPlanned : Profile → Told → Tree → Result Entry Refusal → Type 0
  BuildsPlanned p now t result =
      FollowsOr IsFailingRefusal (λ planned e. IsBuilt X N p now planned e) (by_rule (with_plan X N p t)) result

  -- the tree in memory becomes the next one, or that is refused, or one of its blocks that this needs is lost
  abbrev pub PutsTree : (was is : Mfs) → (Profile → Entries → List Held)
      → (Profile → Entries → Result Entries Refusal) → Result (Unit {0}) Refusal → Seen → Seen → Type 0
  PutsTree was is needs next result before now = (p : Profile) (es : Entries) → was.profile ≡ p
      → IsFolderOver X N p before now [] was.root es
      → FollowsOr (IsLostBy before.told (needs p es))
      (λ fs done. StandsAfter X N before.told now.told (blocks X N p (Dir es)) is p fs) (next p es) result

  -- where the tree has no spot for it, it is refused, and nothing of what is told changes
  abbrev pub LeavesUnplaced : Mfs → DagPath → Path → Result (Unit {0}) Refusal → Seen → Seen → Type 0
  LeavesUnplaced tree source dest done before now = (p : Profile) (es : Entries) → StandsOver X N before.told tree p es
      → Stood before.faults now.faults → IsErr (spotted dest (Some (adopted_name source)) es)
      → IsErr done × (now.told ≡ before.told)

  -- a tree that is put at this spot saves its own blocks, and those of the tree that this gives, and no others
  abbrev pub SavesAtSpot : Mfs → Spot → Tree → Seen → Seen → Type 0
  SavesAtSpot tree spot t before now = (p : Profile) (es : Entries) → StandsOver X N before.told tree p es
      → Agrees now.told (blocks X N p (Dir es)) → CountsCanRise before
      → SavesNoOther X (put_blocks X N (Ok spot) (t ∷ []) p es) before.told now.told

  -- the same of what is at a path in a DAG, put where a path of the tree leads
  abbrev pub SavesAdopted : Mfs → DagPath → Path → Seen → Seen → Type 0
  SavesAdopted tree source dest before now = (held : Lookup) (p : Profile) (es : Entries)
      → TellsBlocks before.told held → StandsOver X N before.told tree p es
      → Agrees now.told (blocks X N p (Dir es)) → CountsCanRise before
      → SavesNoOther X (adopted_blocks X N (tree_at held source) source dest p es) before.told now.told

  -- how it was copied into an opened tree, which was committed
  pub record GraftsIn (tree : Mfs) (source : DagPath) (dest : Path) (done : Result (Unit {0}) Refusal)
      (before now : Seen) (was is : ℕ) : Type 0 where
    pub lost : (p : Profile) (es : Entries) (held : Lookup) (given : streams.Told)
        → StandsOver X N before.told tree p es → StaysNamed X N before.told now.told p es
        → TellsBlocks before.told held → Calm before now
        → DoesOver X N before.told now.told p es (placing_needs X N dest (Some (adopted_name source)) p es)
        (adopt_reply X N held source dest p es) done given given
    pub unplaced : LeavesUnplaced tree source dest done before now
    pub no_other : SavesAdopted tree source dest before now
    pub kinds : IsOf graft_kinds done
    pub cause : Shown X (IsBadInTree X N (Some tree.profile) tree.root.cid) (refusal_fault done) before now
    pub good : KeepsGood X before.told now.told
    pub touched : IsBlaming (refusal_fault done) → was < is
    pub head : IfErr done (λ why. head_in now.told ≡ head_in before.told)
    pub writes : WritesInTree X tree.profile MovesHead (is_ok done) before.told now.told
