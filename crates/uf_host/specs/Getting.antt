-- What is written to a host of what a CID denotes, or why nothing is.
use Rattle.std.specs.Prelude.{◌≡◌, ◌≢◌, ◌⊎◌, ◌==◌, ℕ, List, [], length, Bool, not, true, false, ⊤}
use Rattle.std.specs.Prelude.{IfSome, IsSome, None, Some}
use Rattle.std.specs.declared.option.Option.{Option}
use Rattle.std.specs.List.{list_any}
use Rattle.std.specs.Borrow.{Bor}
use Rattle.std.specs.Path.{rsplit_once}
use Rattle.std.specs.declared.result.Result.{Result}
use Rattle.std.specs.declared.result.Result.TheVariants.{Ok, Err}
use Rattle.std.specs.FinMap.{get}
use Rattle.uf_cid.specs.Blocks.{Lookup}
use Rattle.uf_cid.specs.declared.cid.Cid.{Cid}
use Rattle.uf_edge.specs.Host.{HostTold, HostTree, host_changed}
use Rattle.uf_lenient.specs.Answers.{IsFault, IsStoreOwn}
use Rattle.uf_lenient.specs.Reading.{denotes}
use Rattle.uf_lenient.specs.declared.fault.DagFault.TheVariants as dag
use Rattle.uf_lenient.specs.declared.shapes.Limits.{Limits}
use Rattle.uf_store.specs.declared.store.StoreFault.TheVariants.{Memory}
use Rattle.uf_tree.specs.Tree.{Tree}
use Rattle.uf_host.specs.Paths.{has_folder}
use Rattle.uf_host.specs.Places.{PutsFirst, places_of, with_places}
use Rattle.uf_host.specs.declared.fault.HostFault.{HostFault}
use Rattle.uf_host.specs.declared.fault.HostFault.TheVariants.{Absent, Dag, Exists, Read, Store, Write}

-- nothing is at a path, and its folder is there
pub record HasRoom (host : HostTree) (path : List ℕ) : Type 0 where
  pub absent : get host path ≡ None
  pub folder : has_folder host path ≡ true

-- nothing is at a path, nor is its folder there
pub record LacksFolder (host : HostTree) (path : List ℕ) : Type 0 where
  pub absent : get host path ≡ None
  pub folder : has_folder host path ≡ false

-- no byte of a text is a slash
abbrev pub lacks_slash : List ℕ → Bool
lacks_slash text = not (list_any (λ b. b == 47) text)

-- a path is taken apart at its last slash, where it has one
abbrev pub SplitsLast : List ℕ → Option (Bor (List ℕ) × Bor (List ℕ)) → Type 0
SplitsLast path None = (rsplit_once 47 path ≡ None) × (lacks_slash path ≡ true)
SplitsLast path (Some split) =
    (rsplit_once 47 path ≡ Some (split.0.now, split.1.now)) × (lacks_slash split.1.now ≡ true)

-- a text isn't empty, or nothing is there
abbrev pub IsNamedBy : List ℕ → Result (Unit {0}) HostFault → Type 0
IsNamedBy name (Ok done) = (length name == 0) ≡ false
IsNamedBy name (Err why) = (why ≡ Absent) × ((length name == 0) ≡ true)

-- the folder of a path is there, or why it isn't known to be
abbrev pub FindsFolder : HostTold → List ℕ → Result (Unit {0}) HostFault → Type 0
FindsFolder told path (Ok done) = IfSome told (λ host. has_folder host path ≡ true)
FindsFolder told path (Err Absent) = IfSome told (λ host. has_folder host path ≡ false)
FindsFolder told path (Err Read) = ⊤
FindsFolder told path (Err (Store fault)) = fault ≡ Memory
FindsFolder told path (Err other) = ⊥

-- a tree may be written at a path, or why it may not
abbrev pub FindsRoom : HostTold → List ℕ → Result (Unit {0}) HostFault → Type 0
FindsRoom told path (Ok done) = IfSome told (λ host. HasRoom host path)
FindsRoom told path (Err Exists) = IfSome told (λ host. IsSome (get host path))
FindsRoom told path (Err Absent) = IfSome told (λ host. LacksFolder host path)
FindsRoom told path (Err Read) = ⊤
FindsRoom told path (Err (Store fault)) = fault ≡ Memory
FindsRoom told path (Err other) = ⊥

module _ (held : Lookup) (limits : Limits) (c : Cid) (path : List ℕ) (told now : HostTold) where
  -- a CID denotes a tree
  abbrev pub Denotes : Type 0
  Denotes = (tree : Tree) × (denotes held limits c ≡ Ok tree)

  -- the denoted tree stands at the path, which isn't empty
  pub record StandsThere : Type 0 where
    pub named : path ≢ []
    pub tree : Tree
    pub denoted : denotes held limits c ≡ Ok tree
    pub room : IfSome told (λ host. HasRoom host path)
    pub are_put : now ≡ host_changed (with_places (places_of path tree)) told

  -- the first places of the denoted tree stand there
  pub record StandsInPart : Type 0 where
    pub tree : Tree
    pub denoted : denotes held limits c ≡ Ok tree
    pub room : IfSome told (λ host. HasRoom host path)
    pub puts : PutsFirst (places_of path tree) told now

  -- nothing was written, and the host has this
  abbrev pub WritesNone : (HostTree → Type 0) → Type 0
  WritesNone Says = Denotes × IfSome told Says × (now ≡ told)

  -- the denoted tree is written, or a part of it; or why nothing is
  abbrev pub Gets : Result (Unit {0}) HostFault → Type 0
  Gets (Ok done) = StandsThere
  Gets (Err Write) = StandsInPart
  Gets (Err Exists) = WritesNone (λ host. IsSome (get host path))
  Gets (Err Absent) = WritesNone (λ host. LacksFolder host path)
  Gets (Err Read) = Denotes × (now ≡ told)
  Gets (Err (Dag fault)) = (denotes held limits c ≡ Err fault) × (now ≡ told)
  Gets (Err (Store fault)) =
      (IsFault (denotes held limits c) (dag.Store fault) × (now ≡ told)) ⊎ (IsStoreOwn fault × StandsInPart)
  Gets (Err other) = ⊥
