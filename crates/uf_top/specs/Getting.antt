-- What is written to the host of what is at a path in a DAG.
use Rattle.std.specs.Prelude.{◌≡◌, ◌⊎◌, ℕ, List, IfSome, ⊤}
use Rattle.std.specs.declared.result.Result.{Result}
use Rattle.std.specs.declared.result.Result.TheVariants.{Ok, Err}
use Rattle.uf_cid.specs.Blocks.{Lookup}
use Rattle.uf_cid.specs.declared.cid.Cid.{Cid}
use Rattle.uf_edge.specs.Host.{HostTold}
use Rattle.uf_host.specs.Getting.{StandsInPart, StandsThere}
use Rattle.uf_host.specs.Paths.{trimmed}
use Rattle.uf_host.specs.Places.{ChangesAt}
use Rattle.uf_host.specs.declared.fault.HostFault.{HostFault}
use Rattle.uf_host.specs.declared.fault.HostFault.TheVariants.{Dag}
use Rattle.uf_path.specs.declared.path.DagPath.{DagPath}
use Rattle.uf_command.specs.Dags.{IsToldAs, dag_refusal, usual_limits}
use Rattle.uf_command.specs.declared.status.Status.{Status}
use Rattle.uf_command.specs.declared.status.Status.TheVariants as status
use Rattle.uf_command.specs.declared.types.Command.{Command}
use Rattle.uf_command.specs.declared.types.Command.TheVariants.{Get}
use Rattle.uf_command.specs.declared.types.Refusal.{Refusal}
use Rattle.uf_command.specs.declared.types.Refusal.TheVariants as refusal
use Rattle.uf_store.specs.Contents.{Told, held_at}
use Rattle.uf_top.specs.Foreign.{IsOwnRefusal, LeadsTo}
use Rattle.uf_top.specs.HostTexts.{host_refusal}
use Rattle.uf_top.specs.Reply.{gotten}

module _ (held : Lookup) (source : DagPath) (path : List ℕ) (told now : HostTold) where
  -- what is at the path in the DAG stands at the path of the host, which had room for it
  pub record IsGotten : Type 0 where
    pub cid : Cid
    pub leads : LeadsTo held source cid
    pub stands : StandsThere held usual_limits cid (trimmed path) told now

  -- its first places stand there, of a file perhaps its first bytes alone
  pub record IsGottenInPart : Type 0 where
    pub cid : Cid
    pub leads : LeadsTo held source cid
    pub stands : StandsInPart held usual_limits cid (trimmed path) told now

  -- nothing was written: for this reason, or by a failure
  pub record IsNotGotten (why : Refusal) : Type 0 where
    pub same : now ≡ told
    pub said : IsOwnRefusal why ⊎ (why ≡ refusal.Read) ⊎ IfSome told (λ host. gotten held source path host ≡ Err why)

  -- it is written, or why it isn't: what stops the writing leaves a part of it
  abbrev pub Gets : Result (Unit {0}) Refusal → Type 0
  Gets (Ok done) = IsGotten
  Gets (Err refusal.Write) = IsGottenInPart
  Gets (Err why) = IsNotGotten why ⊎ (IsOwnRefusal why × IsGottenInPart)

  -- what stands there by the status of the command
  abbrev pub LeavesAt : Status → Type 0
  LeavesAt status.Ok = IsGotten
  LeavesAt status.WriteFault = IsGottenInPart
  LeavesAt status.StoreFault = (now ≡ told) ⊎ IsGottenInPart
  LeavesAt status.Memory = (now ≡ told) ⊎ IsGottenInPart
  LeavesAt other = now ≡ told

-- over every store nothing but what is at the path of the host and below it has changed, and over one that tells this
-- stands there
pub record GetsTo (source : DagPath) (path : List ℕ) (given : Status) (store : Told) (told now : HostTold)
    : Type 0 where
  pub below : ChangesAt (trimmed path) told now
  pub leaves : IfSome store (λ t. LeavesAt (held_at t) source path told now given)

-- what `get` leaves on the host; of another command nothing is said here
abbrev pub GetsFor : Command → Status → Told → HostTold → HostTold → Type 0
GetsFor (Get source path) given store told now = GetsTo source path given store told now
GetsFor command given store told now = ⊤

-- a refusal of a writing to the host: by what a reading says, by the host, or by the store
abbrev pub IsOfGetting : Refusal → Type 0
IsOfGetting (refusal.Dag rule) = ⊤
IsOfGetting (refusal.Host rule) = ⊤
IsOfGetting refusal.Read = ⊤
IsOfGetting refusal.Write = ⊤
IsOfGetting (refusal.Store fault) = ⊤
IsOfGetting why = ⊥

-- the refusal by a fault of the export: one of the reading may find no memory for its details
abbrev pub IsUnwritten : DagPath → List ℕ → HostFault → Refusal → Type 0
IsUnwritten source path (Dag fault) why = IsToldAs (dag_refusal source fault) why
IsUnwritten source path fault why = why ≡ host_refusal path fault
