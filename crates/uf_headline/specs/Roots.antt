-- That the root CID is a function of the tree alone: of its names, its bytes and its metadata.
use Rattle.std.specs.Prelude.{◌≡◌, ◌≢◌, ℕ, List, Bool, true, ⊤}
use Rattle.std.specs.declared.option.Option.TheVariants.{None, Some}
use Rattle.std.specs.declared.result.Result.{Result}
use Rattle.std.specs.declared.result.Result.TheVariants.{Ok}
use Rattle.uf_cid.specs.Blocks.{Lookup}
use Rattle.uf_cid.specs.declared.cid.Cid.{Cid}
use Rattle.uf_edge.specs.Counts.{Stood}
use Rattle.uf_edge.specs.Host.{HostTree}
use Rattle.uf_lenient.specs.declared.fault.DagFault.{DagFault}
use Rattle.uf_mfs.specs.Standing.{head_in}
use Rattle.uf_path.specs.declared.path.DagPath.{DagPath}
use Rattle.uf_path.specs.declared.path.Path.{Path}
use Rattle.uf_plain.specs.Edits.{at}
use Rattle.uf_command.specs.declared.status.Status.TheVariants as status
use Rattle.uf_command.specs.declared.types.Ask.TheVariants.{Stat}
use Rattle.uf_command.specs.declared.types.Command.{Command}
use Rattle.uf_command.specs.declared.types.Command.TheVariants.{Add, WriteInput, At}
use Rattle.uf_command.specs.declared.types.Adding.TheVariants as adding
use Rattle.uf_command.specs.declared.types.Refusal.{Refusal}
use Rattle.uf_store.specs.Calls.{Calm}
use Rattle.uf_store.specs.Contents.{Contents, Told}
use Rattle.uf_top.specs.Around.{Around}
use Rattle.uf_top.specs.Naming.{TellsBlocks}
use Rattle.uf_top.specs.Reply.{Outside}
use Rattle.uf_tree.specs.Heads.{head_text}
use Rattle.uf_tree.specs.Standing.{Standing, NoHead, Stands}
use Rattle.uf_tree.specs.Tree.{Tree, Dir, Entries}
use Rattle.uf_tree.specs.declared.profile.Profile.{Profile}
use Rattle.uf_headline.specs.History.{DidRun, InTurn, Step, standing_after, told_before}
use Rattle.uf_headline.specs.History.{PrintsFirst, PrintsLast, TakesProfile}
use Rattle.uf_headline.specs.OnHost.{tree_on}

-- these are the bytes that the input has left, and no reading of it failed
abbrev pub InputIs : List ℕ → Around → Around → Type 0
InputIs bytes before now = (before.left ≡ Some bytes) × Stood before.reads now.reads

-- these are the files and folders of the host, and no reading of it failed
abbrev pub HostIs : HostTree → Around → Around → Type 0
HostIs tree before now = (before.host.told ≡ Some tree) × Stood before.host.reads now.host.reads

-- what a command puts into the tree from outside is so
abbrev pub TakesFrom : Result Command Refusal → Outside → Around → Around → Type 0
TakesFrom (Ok (Add (adding.InputTo dest))) outside before now = InputIs outside.input before now
TakesFrom (Ok (WriteInput how path)) outside before now = InputIs outside.input before now
TakesFrom (Ok (Add (adding.HostTo recursive path dest))) outside before now = HostIs outside.host before now
TakesFrom asked outside before now = ⊤

-- a step went well: what is said of what is held and of what it takes from outside is so, neither the store nor the
-- output failed, no clash was met, and it wasn't out of memory
pub record WentWell (step : Step) : Type 0 where
  pub held : TellsBlocks (told_before step) step.held
  pub takes : TakesFrom step.asked step.outside step.before step.now
  pub calm : Calm step.before.store step.now.store
  pub printed : Stood step.before.writes step.now.writes
  pub memory : step.given ≢ status.Memory

module _ (X : List ℕ → List ℕ) (N : List ℕ → ℕ) where
  -- the step did what is proved of `run`, and went well
  pub record RanWell (step : Step) : Type 0 where
    pub runs : DidRun X N step
    pub well : WentWell step

  -- steps in turn over a store that had no Head at first, with what may come between, have led to what is told, and
  -- make this of the plain tree
  pub record LedTo (found : Lookup → DagPath → Result Tree DagFault) (now : Told) (standing : Standing) : Type 0 where
    pub first : Contents
    pub headless : first.notes.head ≡ None
    pub steps : List Step
    pub ran : InTurn X N RanWell steps (Some first) now
    pub made : standing_after found steps NoHead ≡ standing

  -- these two functions give the CID of every tree, by a profile, and the tree to which a path in a DAG of others
  -- leads, by the blocks that are held:
  pub record RootsBy (root : Profile → Tree → Cid) (found : Lookup → DagPath → Result Tree DagFault) : Type 0 where
    -- the Head is the text of the profile and of the CID of the tree that the commands make
    pub head : (now : Told) (p : Profile) (es : Entries) → LedTo found now (Stands p es)
        → head_in now ≡ Some (head_text p (root p (Dir es)))
    -- `files stat` of a path prints first the CID of what is there in that tree
    pub stat : (step : Step) (p : Profile) (es : Entries) (path : Path) (t : Tree)
        → LedTo found (told_before step) (Stands p es) → RanWell step → step.asked ≡ Ok (At Stat path)
        → at 0 path.names (Dir es) ≡ Ok t → PrintsFirst step (root p t)
    -- and `add -n` of what a host has at a path, where it is done, prints last the CID of that, by the same profile
    pub afresh : (step : Step) (standing : Standing) (p : Profile) (recursive : Bool) (path : List ℕ)
        → LedTo found (told_before step) standing → TakesProfile standing p → RanWell step
        → step.asked ≡ Ok (Add (adding.Host recursive true path)) → step.given ≡ status.Ok
        → HostIs step.outside.host step.before step.now
        → PrintsLast step path (root p (tree_on step.outside.host path))
