-- How the tree that the Head names is opened.
use Rattle.std.specs.Prelude.{◌≡◌, ◌⊎◌, ℕ, ◌+◌, ◌≤◌, List, IfErr, IfOk}
use Rattle.std.specs.declared.result.Result.{Result}
use Rattle.std.specs.declared.result.Result.TheVariants.{Ok, Err}
use Rattle.uf_edge.specs.Counts.{Stood}
use Rattle.uf_mfs.specs.Bad.{IsBadInHead}
use Rattle.uf_mfs.specs.Standing.{IsMfs, NamesOver, ReadsHead, StandsAt, StandsOver, TellsAs}
use Rattle.uf_mfs.specs.Touches.{CountsUp}
use Rattle.uf_mfs.specs.declared.mfs.Mfs.{Mfs}
use Rattle.uf_plain.specs.Needs.{root_of}
use Rattle.uf_plain.specs.declared.ready.Ready.{Ready}
use Rattle.uf_plain.specs.declared.ready.Ready.TheVariants as ready
use Rattle.uf_store.specs.Calls.{OnlyReads}
use Rattle.uf_store.specs.Contents.{Told}
use Rattle.uf_store.specs.Lost.{IsLossOf}
use Rattle.uf_store.specs.Seen.{Seen}
use Rattle.uf_store.specs.declared.store.StoreFault.{StoreFault}
use Rattle.uf_tree.specs.Standing.{Standing, NoHead, BadHead, Stands}
use Rattle.uf_tree.specs.Tree.{Dir, Entries}
use Rattle.uf_tree.specs.declared.profile.Profile.{Profile}
use Rattle.uf_command.specs.Kinds.{refusal_fault}
use Rattle.uf_command.specs.Statuses.{no_memory}
use Rattle.uf_command.specs.declared.types.Refusal.{Refusal}
use Rattle.uf_command.specs.declared.types.Refusal.TheVariants as refusal
use Rattle.uf_top.specs.Causes.{IsReasonInTree}

-- a store that isn't ready refuses for this reason, or there was no memory
abbrev pub IsUnready : {A : Type 0} → Ready → Result A Refusal → Type 0
IsUnready why (Ok a) = ⊥
IsUnready why (Err given) = (given ≡ no_memory) ⊎ (given ≡ refusal.Ready why)

-- the Head is why the tree isn't opened, or the store is
abbrev pub IsUnopened : Told → Refusal → Type 0
IsUnopened told given = ((why : Ready) × IsReasonInTree why told × (given ≡ refusal.Ready why))
    ⊎ ((fault : StoreFault) × (given ≡ refusal.Store fault))

module _ (X : List ℕ → List ℕ) (N : List ℕ → ℕ) where
  -- what is opened of a store that stands so, where it doesn't fail: its tree, or there was no memory
  abbrev pub OpensStanding : Told → Standing → Result Mfs Refusal → Type 0
  OpensStanding now NoHead result = IsUnready ready.NoHead result
  OpensStanding now BadHead result = IsUnready ready.BadHead result
  OpensStanding now (Stands p es) (Ok tree) = StandsAt X N now tree p es
  OpensStanding now (Stands p es) (Err why) = why ≡ no_memory

  -- what is opened where the Head names this tree, of whose blocks some may be lost: it, or its root block is lost
  abbrev pub OpensNamed : Told → Profile → Entries → Result Mfs Refusal → Type 0
  OpensNamed told p es (Ok tree) = StandsOver X N told tree p es
  OpensNamed told p es (Err why) =
      (fault : StoreFault) × IsLossOf told (root_of X N p (Dir es)) fault × (why ≡ refusal.Store fault)

  -- the tree that the Head names was opened, or why it wasn't
  pub record OpensTree (result : Result Mfs Refusal) (before now : Seen) (was is : ℕ) : Type 0 where
    pub opens : (standing : Standing) → TellsAs X N before.told standing → Stood before.faults now.faults
        → OpensStanding now.told standing result
    pub lost : (p : Profile) (es : Entries) → NamesOver X N before.told p es → Stood before.faults now.faults
        → OpensNamed before.told p es result
    pub head : IfOk result (λ tree. ReadsHead before.told (Ok tree))
    pub mfs : IfOk result IsMfs
    pub refused : IfErr result (IsUnopened before.told)
    pub reads : OnlyReads X (IsBadInHead X N before.told) (refusal_fault result) before now
    pub touches : is ≤ was + 1
    pub touched : CountsUp (refusal_fault result) was is
