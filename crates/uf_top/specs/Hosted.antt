-- What becomes of what a host has at a path, where it is added.
use Rattle.std.specs.Prelude.{◌≡◌, ◌⊎◌, ℕ, List, [], ◌∷◌, Bool, false, IfSome, IsTrue, None, ⊤}
use Rattle.std.specs.List.{flat_map}
use Rattle.std.specs.declared.result.Result.{Result}
use Rattle.std.specs.declared.result.Result.TheVariants.{Ok, Err}
use Rattle.uf_edge.specs.Host.{HostTold, HostTree}
use Rattle.uf_host.specs.Adding.{HasHeldPlan, IsSaid}
use Rattle.uf_host.specs.HostTree.{tree_on_host}
use Rattle.uf_host.specs.Paths.{trimmed}
use Rattle.uf_host.specs.Stopping.{HasRead, levels_of}
use Rattle.uf_host.specs.declared.fault.HostFault.{HostFault}
use Rattle.uf_host.specs.declared.fault.HostFault.TheVariants as fault
use Rattle.uf_store.specs.Clashes.{IsSaving}
use Rattle.uf_store.specs.Contents.{Told}
use Rattle.uf_tree.specs.Tree.{Tree, is_tree}
use Rattle.uf_tree.specs.TreePlan as plan
use Rattle.uf_tree.specs.declared.profile.Profile.{Profile}
use Rattle.uf_command.specs.declared.status.Status.{Status}
use Rattle.uf_command.specs.declared.status.Status.TheVariants as status
use Rattle.uf_command.specs.declared.types.Command.{Command}
use Rattle.uf_command.specs.declared.types.Command.TheVariants.{Init, Add, WriteInput, At}
use Rattle.uf_command.specs.declared.types.Adding.TheVariants as adding
use Rattle.uf_command.specs.declared.types.Refusal.{Refusal}
use Rattle.uf_command.specs.declared.types.Refusal.TheVariants as refusal
use Rattle.uf_top.specs.Causes.{AddsAmong, AddsBy, HoldsUnless, IsAskText, IsProfileOf}
use Rattle.uf_top.specs.HostTexts.{host_refusal, host_text}

-- the fault is none of a reading of a DAG
abbrev pub IsNoReading : HostFault → Type 0
IsNoReading (fault.Dag why) = ⊥
IsNoReading why = ⊤

-- the refusal by a fault of which this holds
abbrev pub IsHostRule : List ℕ → (HostFault → Type 0) → Refusal → Type 0
IsHostRule path Said why = (fault : HostFault) × (why ≡ host_refusal path fault) × Said fault

-- a rule that is said to refuse, a failed reading of the host, or what saves alone can have
abbrev pub IsHostRefused : List ℕ → (HostFault → Type 0) → Refusal → Type 0
IsHostRefused path Said (refusal.Host rule) = IsHostRule path Said (refusal.Host rule)
IsHostRefused path Said (refusal.Rule rule) = IsHostRule path Said (refusal.Rule rule)
IsHostRefused path Said refusal.Read = ⊤
IsHostRefused path Said (refusal.Store why) = IsSaving why
IsHostRefused path Said why = ⊥

module _ (X : List ℕ → List ℕ) (N : List ℕ → ℕ) where
  -- the rows of a tree that has a plan, whose blocks are held, and where the host tells of the one that it has at the
  -- path
  pub record IsHostText (p : Profile) (told : Told) (host : HostTold) (recursive : Bool) (path text : List ℕ)
      : Type 0 where
    pub tree : Tree
    pub plan : HasHeldPlan X N p told tree
    pub said : IsSaid host (λ h. tree_on_host X N p h recursive path) (Ok tree)
    pub is : text ≡ host_text X N p path tree

  -- those rows, or why there are none
  abbrev pub MakesHostText : Profile → Told → HostTold → Bool → List ℕ → Result (List ℕ) Refusal → Type 0
  MakesHostText p told host recursive path (Ok text) = IsHostText p told host recursive path text
  MakesHostText p told host recursive path (Err why) =
      IsHostRefused path (λ fault. IsSaid host (λ h. tree_on_host X N p h recursive path) (Err fault)) why

  -- the rows of what the host has at a path, whose blocks are held, by the profile of the Head, and with `-n` by the
  -- usual one where there is none
  pub record AreHostRows (told now : Told) (host : HostTold) (recursive only_hash : Bool) (path text : List ℕ)
      : Type 0 where
    pub profile : Profile
    pub adds_by : IfSome told (λ t. AddsBy only_hash t.notes.head profile)
    pub tree : Tree
    pub is_tree : IsTrue (is_tree tree)
    pub whole : plan.refusal X N profile tree ≡ None
    pub said : IsSaid host (λ h. tree_on_host X N profile h recursive path) (Ok tree)
    pub is : text ≡ host_text X N profile path tree
    pub held : HoldsUnless only_hash now (plan.blocks X N profile tree)

  -- these are the tree that a host has at a path, alone
  abbrev pub IsTreeAt : Profile → Bool → List ℕ → List Tree → HostTree → Type 0
  IsTreeAt p recursive path trees host =
      (t : Tree) × (tree_on_host X N p host recursive path ≡ Ok t) × (trees ≡ t ∷ [])

  -- they are that tree, or what a walk has read of the path where it stopped
  abbrev pub AreReadAt : Profile → Bool → List ℕ → List Tree → HostTree → Type 0
  AreReadAt p recursive path trees host =
      IsTreeAt p recursive path trees host ⊎ HasRead X N p host (levels_of recursive) (trimmed path) trees

  -- nothing was added but blocks of what was read of a path of the host, which at Ok is the tree that is there
  pub record AddsTrees (given : Status) (p : Profile) (told now : Told) (host : HostTold) (recursive : Bool)
      (path : List ℕ) : Type 0 where
    pub trees : List Tree
    pub are : IfSome host (AreReadAt p recursive path trees)
    pub whole : given ≡ status.Ok → IfSome host (IsTreeAt p recursive path trees)
    pub adds : AddsAmong X (flat_map (plan.blocks X N p) trees) told now

  -- the same by the profile of the Head; or nothing was added, as where the Head is refused
  abbrev pub KeepsTrees : Status → (told now : Told) → HostTold → Bool → List ℕ → Type 0
  KeepsTrees given told now host recursive path =
      (now ≡ told) ⊎ ((p : Profile) × IsProfileOf told p × AddsTrees given p told now host recursive path)

  -- the text of a command that adds from the host is these rows, and `init` and edits have none; of another command
  -- nothing is said
  abbrev pub IsHostedText : (told now : Told) → HostTold → Command → List ℕ → Type 0
  IsHostedText told now host (Add (adding.Host recursive only_hash path)) text =
      AreHostRows told now host recursive only_hash path text
  IsHostedText told now host (Add (adding.HostTo recursive path dest)) text =
      AreHostRows told now host recursive false path text
  IsHostedText told now host (Init p) text = text ≡ []
  IsHostedText told now host (WriteInput how path) text = text ≡ []
  IsHostedText told now host (At ask path) text = IsAskText ask text
  IsHostedText told now host command text = ⊤
