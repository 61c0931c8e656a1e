-- The lines of a batch that move the Head, those during which a stop leaves one of two trees, and what fails in them.
use Rattle.std.specs.Prelude.{◌≡◌, ◌⊎◌, ℕ, ◌<◌, List, ◌∷◌, ◌++◌, true}
use Rattle.std.specs.declared.option.Option.TheVariants.{None, Some}
use Rattle.uf_edge.specs.Host.{HostTree}
use Rattle.uf_mfs.specs.Reading.{CanRise}
use Rattle.uf_mfs.specs.Standing.{TellsAs, head_in}
use Rattle.uf_command.specs.Statuses.{ends_batch}
use Rattle.uf_command.specs.declared.status.Status.{Status}
use Rattle.uf_command.specs.declared.status.Status.TheVariants as status
use Rattle.uf_store.specs.Contents.{Contents, Told}
use Rattle.uf_store.specs.declared.store.Write.{Write}
use Rattle.uf_top.specs.Around.{Around, CountsCanRise}
use Rattle.uf_top.specs.Batch.{AtLine, Ending, LineDone, LinesDone}
use Rattle.uf_top.specs.Endings.{may_move}
use Rattle.uf_top.specs.Outcomes.{EachOutcome, IsSafeFor, LeavesEither, LeavesTree}
use Rattle.uf_tree.specs.Standing.{Stands}
use Rattle.uf_tree.specs.Tree.{Entries}
use Rattle.uf_tree.specs.declared.profile.Profile.{Profile}

-- no count that a line may raise is at its last value, at which it would hide a failure or a clash
pub record AllCanRise (before : Around) : Type 0 where
  pub store : CountsCanRise before.store
  pub output : CanRise before.writes
  pub host : CanRise before.host.reads

-- these writes end during what led from the first contents to the second
abbrev pub EndsDuring : Told → Told → List Write → Type 0
EndsDuring (Some a) (Some b) ws =
    (done : List Write) × (rest : List Write) × (ws ≡ a.writes ++ done) × (b.writes ≡ ws ++ rest)
EndsDuring (Some a) None ws = ⊥
EndsDuring None b ws = ⊥

module _ (X : List ℕ → List ℕ) (N : List ℕ → ℕ) where
  -- a line stands after these of a batch: as one of those that were done, or as the one that ended it
  abbrev pub IsBehind : List (List ℕ) → List ℕ → List (List ℕ) → Ending X N → Type 0
  IsBehind front line lines ending = ((back : List (List ℕ)) × (lines ≡ front ++ line ∷ back))
      ⊎ ((lines ≡ front) × (ending ≡ AtLine line))

  -- a line of a batch that has a word: those before it were done, and then it, which left this before its status
  -- was printed
  pub record LineOf (lines : List (List ℕ)) (ending : Ending X N) (before : Around) : Type 0 where
    pub front : List (List ℕ)
    pub line : List ℕ
    pub given : Status
    pub found : Around
    pub left : Around
    pub behind : IsBehind front line lines ending
    pub first : LinesDone X N front before found
    pub done : LineDone X N line given found left

  -- a batch ended with the status of one of its lines
  abbrev pub EndsAtLine : Ending X N → Status → Type 0
  EndsAtLine ending given = (line : List ℕ) × (ending ≡ AtLine line) × (ends_batch given ≡ true)

  -- whatever failed in a batch is its status. That is a call of the store, a clash that was met (or there was no
  -- memory to say so), a reading of its input or of the host, a writing to the host or of its output. One exception: a
  -- line that ends the batch keeps its status where that couldn't be printed
  pub record PassesNoneOver (ending : Ending X N) (given : Status) (before now : Around) : Type 0 where
    pub failed : before.store.faults < now.store.faults → given ≡ status.StoreFault
    pub clashed : before.store.clashes < now.store.clashes → (given ≡ status.Clash) ⊎ (given ≡ status.Memory)
    pub read : (before.reads < now.reads) ⊎ (before.host.reads < now.host.reads) → given ≡ status.ReadFault
    pub host_written : before.host.writes < now.host.writes → given ≡ status.WriteFault
    pub written : before.writes < now.writes → (given ≡ status.WriteFault) ⊎ EndsAtLine ending given

  -- a line of a batch moved the Head to where it is in the end: by its status it may
  pub record MovesByLine (lines : List (List ℕ)) (ending : Ending X N) (before : Around) (now : Told) : Type 0 where
    pub one : LineOf lines ending before
    pub may : may_move one.done.asked one.given ≡ true
    pub head : head_in now ≡ head_in one.left.store.told

  -- writes end during a line of a batch, and what a stop after them leaves stands for the tree before that line or the
  -- tree after it
  pub record StopsInLine (lines : List (List ℕ)) (ending : Ending X N) (before : Around) (ws : List Write)
      : Type 0 where
    pub one : LineOf lines ending before
    pub p : Profile
    pub es : Entries
    pub q : Profile
    pub fs : Entries
    pub stood : TellsAs X N one.found.store.told (Stands p es)
    pub stands : TellsAs X N one.left.store.told (Stands q fs)
    pub during : EndsDuring one.found.store.told one.left.store.told ws
    pub leaves : EachOutcome (LeavesEither X N p es q fs) ws

  -- nothing was written yet, and what a stop leaves stands for the tree before the batch
  pub record StopsAtFirst (a : Contents) (p : Profile) (es : Entries) (ws : List Write) : Type 0 where
    pub none : ws ≡ a.writes
    pub leaves : EachOutcome (LeavesTree X N p es) ws

  -- a line or a batch begins over contents that are safe for this tree, the host tells these files and folders, and no
  -- count is at its last value
  pub record BeginsSafe (host : HostTree) (before : Around) (a : Contents) (p : Profile) (es : Entries) : Type 0 where
    pub told : before.store.told ≡ Some a
    pub safe : IsSafeFor X N a p es
    pub host_told : before.host.told ≡ Some host
    pub room : AllCanRise before
