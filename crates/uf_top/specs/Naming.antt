-- What a command finds in a store, and the tree that the Head names.
use Rattle.std.specs.Prelude.{◌≡◌, ℕ, List, Bool, true, false, IsSome, ⊤}
use Rattle.std.specs.declared.option.Option.TheVariants.{None, Some}
use Rattle.std.specs.declared.result.Result.{Result}
use Rattle.uf_cid.specs.Blocks.{Held, Lookup}
use Rattle.uf_edge.specs.Host.{HostTold, HostTree}
use Rattle.uf_mfs.specs.Standing.{IsAfter, NamesOver, TellsAs, head_in}
use Rattle.uf_store.specs.Contents.{Told, held_at}
use Rattle.uf_store.specs.Keeping.{Agrees}
use Rattle.uf_tree.specs.Standing.{IsHeadNote, Standing, NoHead, BadHead, Stands}
use Rattle.uf_tree.specs.Tree.{Dir, Entries}
use Rattle.uf_tree.specs.TreePlan.{blocks, entry}
use Rattle.uf_tree.specs.declared.profile.Profile.{Profile}
use Rattle.uf_command.specs.Commands.{of_command}
use Rattle.uf_command.specs.Natures.{needs_standing}
use Rattle.uf_top.specs.Reply.{World}
use Rattle.uf_command.specs.declared.types.Command.{Command}
use Rattle.uf_command.specs.declared.types.Refusal.{Refusal}

-- the store tells these blocks
abbrev pub TellsBlocks : Told → Lookup → Type 0
TellsBlocks None held = ⊥
TellsBlocks (Some t) held = held ≡ held_at t

-- the host tells these files and folders, where that is asked for
abbrev pub TellsHost : Bool → HostTold → HostTree → Type 0
TellsHost true told tree = told ≡ Some tree
TellsHost false told tree = ⊤

module _ (X : List ℕ → List ℕ) (N : List ℕ → ℕ) where
  -- the store stands so, where that is needed; else it tells at least
  abbrev pub StandsIf : Bool → Told → Standing → Type 0
  StandsIf true told standing = TellsAs X N told standing
  StandsIf false told standing = IsSome told

  -- a command finds this in a store
  pub record FindsWorld (asked : Result Command Refusal) (told : Told) (w : World) : Type 0 where
    pub stands : StandsIf (of_command needs_standing true asked) told w.standing
    pub held : TellsBlocks told w.held

  module _ (before now : Told) where
    -- the Head names the tree of these entries, and the store agrees with its blocks before the call and after it, of
    -- which some may be lost
    pub record StaysNamed (p : Profile) (es : Entries) : Type 0 where
      pub names : NamesOver X N before p es
      pub last : Agrees now (blocks X N p (Dir es))

    -- the Head has come to name the tree of these entries, and the store agrees with its blocks: each of them that
    -- isn't held is one of these old blocks, and wasn't held before
    pub record NamesAfter (old : List Held) (p : Profile) (es : Entries) : Type 0 where
      pub head : IsHeadNote (head_in now) p (entry X N p (Dir es)).cid
      pub root : IsAfter X N before now old p (entry X N p (Dir es)) (Dir es)

    -- what stands then is such a tree
    abbrev pub StandsNamed : List Held → Standing → Type 0
    StandsNamed old NoHead = ⊥
    StandsNamed old BadHead = ⊥
    StandsNamed old (Stands p es) = NamesAfter old p es

    -- the store stands so before a call, but of a tree some blocks may be lost
    abbrev pub NamesAs : Standing → Type 0
    NamesAs NoHead = TellsAs X N before NoHead
    NamesAs BadHead = TellsAs X N before BadHead
    NamesAs (Stands p es) = StaysNamed p es

    -- the same, where that is needed; else the store tells at least
    abbrev pub NamesIf : Bool → Standing → Type 0
    NamesIf true standing = NamesAs standing
    NamesIf false standing = IsSome before

    -- a command finds this in a store of whose blocks some may be lost
    pub record FindsOver (asked : Result Command Refusal) (w : World) : Type 0 where
      pub names : NamesIf (of_command needs_standing true asked) w.standing
      pub held : TellsBlocks before w.held
