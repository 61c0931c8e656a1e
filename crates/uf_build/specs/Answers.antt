-- What calls of a builder answer, and what they show and leave of the store.
use Rattle.std.specs.Prelude.{◌≡◌, ℕ, ◌+◌, ◌<◌, ◌≤◌, List, true, false, Some, None, IfSome, ⊤}
use Rattle.std.specs.declared.option.Option.{Option}
use Rattle.std.specs.declared.result.Result.{Result}
use Rattle.std.specs.declared.result.Result.TheVariants.{Ok, Err}
use Rattle.uf_store.specs.declared.store.StoreFault.{StoreFault}
use Rattle.uf_store.specs.Calls.{LoadsNothing}
use Rattle.uf_store.specs.Clashes.{IsSaving}
use Rattle.uf_store.specs.Faults.{NoneIsBad, Shown}
use Rattle.uf_store.specs.Keeping.{KeepsGood}
use Rattle.uf_store.specs.Seen.{Seen}
use Rattle.uf_store.specs.Writing.{SavesOnly}
use Rattle.uf_tree.specs.Profiles.{most_bytes}
use Rattle.uf_tree.specs.declared.nodes.Entry.{Entry}
use Rattle.uf_build.specs.declared.fault.BuildFault.{BuildFault}
use Rattle.uf_build.specs.declared.fault.BuildFault.TheVariants.{FileTooLong, Spent, Store}
use Rattle.uf_build.specs.Building.{Building}

-- a call that builds: its fault is one of saving and has its cause, good blocks are kept, nothing but blocks is
-- written, and nothing is loaded
pub record OnlyBuilds (hash : List ℕ → List ℕ) (fault : Option StoreFault) (before now : Seen) : Type 0 where
  pub cause : Shown hash NoneIsBad fault before now
  pub good : KeepsGood hash before.told now.told
  pub saves : SavesOnly hash before.told now.told
  pub saving : IfSome fault IsSaving
  pub unread : LoadsNothing fault before now

-- the store's fault in an answer
abbrev pub build_fault : {A : Type 0} → Result A BuildFault → Option StoreFault
build_fault (Ok a) = None
build_fault (Err FileTooLong) = None
build_fault (Err Spent) = None
build_fault (Err (Store fault)) = Some fault

-- what `feed` answers: Spent exactly of a builder that gave up before, FileTooLong exactly where another one would
-- have too many bytes; then it has given up, and after Ok it was fed these too
abbrev pub IsFeedAnswer : Building → ℕ → Building → Result (Unit {0}) BuildFault → Type 0
IsFeedAnswer b more now (Ok done) = (b.is_spent ≡ false) × (b.fed + more ≤ most_bytes b.profile)
    × (now.is_spent ≡ false) × (now.fed ≡ b.fed + more)
IsFeedAnswer b more now (Err FileTooLong) = (b.is_spent ≡ false) × (most_bytes b.profile < b.fed + more)
    × (now.is_spent ≡ true)
IsFeedAnswer b more now (Err Spent) = (b.is_spent ≡ true) × (now.is_spent ≡ true)
IsFeedAnswer b more now (Err (Store fault)) = (b.is_spent ≡ false) × (b.fed + more ≤ most_bytes b.profile)
    × (now.is_spent ≡ true) × IsSaving fault

-- what `finish` answers: Spent exactly of a builder that gave up before
abbrev pub IsFinishAnswer : Building → Result Entry BuildFault → Type 0
IsFinishAnswer b (Ok e) = b.is_spent ≡ false
IsFinishAnswer b (Err FileTooLong) = ⊥
IsFinishAnswer b (Err Spent) = b.is_spent ≡ true
IsFinishAnswer b (Err (Store fault)) = (b.is_spent ≡ false) × IsSaving fault

-- a call that was refused without a look at the store left it alone, and touched nothing
abbrev pub LeavesAlone : {A : Type 0} → Result A BuildFault → Seen → Seen → ℕ → ℕ → Type 0
LeavesAlone (Ok a) before now touches touches_now = ⊤
LeavesAlone (Err FileTooLong) before now touches touches_now = (now ≡ before) × (touches_now ≡ touches)
LeavesAlone (Err Spent) before now touches touches_now = (now ≡ before) × (touches_now ≡ touches)
LeavesAlone (Err (Store fault)) before now touches touches_now = ⊤
