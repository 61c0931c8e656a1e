-- Calls of `run` that are done, fail or are stopped, over a store that keeps what it is given or one that loses blocks.
use Rattle.std.specs.Prelude.{◌≡◌, ◌⊎◌, ℕ, List, [], ◌∷◌, ◌++◌, Bool, true, false, if◌then◌else◌}
use Rattle.std.specs.declared.option.Option.TheVariants.{Some}
use Rattle.std.specs.declared.result.Result.{Result}
use Rattle.uf_cid.specs.Blocks.{Held}
use Rattle.uf_cid.specs.declared.cid.Cid.{Cid}
use Rattle.uf_mfs.specs.Reading.{CanRise}
use Rattle.uf_mfs.specs.Standing.{NamesOver}
use Rattle.uf_command.specs.Commands.{of_command}
use Rattle.uf_command.specs.Pins.{HasPins}
use Rattle.uf_command.specs.Natures.{reads_input, uses_host, writes_host}
use Rattle.uf_command.specs.declared.types.Command.{Command}
use Rattle.uf_command.specs.declared.types.Refusal.{Refusal}
use Rattle.uf_store.specs.Contents.{Contents, Told}
use Rattle.uf_store.specs.Keeping.{Agrees}
use Rattle.uf_store.specs.Stops.{IsOutcome, IsPart, IsPlain, firm}
use Rattle.uf_store.specs.declared.store.Write.{Write}
use Rattle.uf_store.specs.declared.store.Write.TheVariants.{Saved}
use Rattle.uf_top.specs.Around.{Around, CountsCanRise}
use Rattle.uf_top.specs.Endings.{may_move}
use Rattle.uf_top.specs.Naming.{TellsBlocks}
use Rattle.uf_top.specs.Outcomes.{IsSafeFor}
use Rattle.uf_top.specs.Reply.{Outside}
use Rattle.uf_tree.specs.Standing.{Standing, NoHead, BadHead, Stands}
use Rattle.uf_tree.specs.Tree.{Dir, Entries}
use Rattle.uf_tree.specs.TreePlan.{blocks}
use Rattle.uf_tree.specs.declared.profile.Profile.{Profile}
use Rattle.uf_headline.specs.History.{DidRun, InTurn, Step, told_after, told_before}
use Rattle.uf_headline.specs.Replies.{replied_by}

-- the input, the host and the note of pins tell what is said of them, where the command uses them. No count that a
-- failure raises is at its last value, 2^64 - 1, at which it would hide one
pub record CanTell (asked : Result Command Refusal) (outside : Outside) (before : Around) : Type 0 where
  pub store : CountsCanRise before.store
  pub input : of_command reads_input false asked ≡ true → (before.left ≡ Some outside.input) × CanRise before.reads
  pub host : of_command uses_host false asked ≡ true
      → (before.host.told ≡ Some outside.host) × CanRise before.host.reads
  pub output : CanRise before.writes
  pub written : of_command writes_host false asked ≡ true → CanRise before.host.writes
  pub pins : HasPins asked before.store.told outside.pins

-- the call was done, or only the output of an `add --to-files` failed
abbrev pub was_done : Step → Bool
was_done step = may_move step.asked step.given

-- those of the calls that were done
abbrev pub done_in : List Step → List Step
done_in [] = []
done_in (step ∷ steps) = if was_done step then step ∷ done_in steps else done_in steps

-- how a call ended: on its own, or by a stop after these of its writes
pub data End : Type 0 where
  Whole : End
  Stopped : List Write → End

-- a call that would have gone so, and how it ended
pub record Event : Type 0 where
  pub step : Step
  pub end : End

-- a store that is opened over what a stop left of these writes: no further stop takes a block of it away
pub record IsReopened (ws : List Write) (now : Contents) : Type 0 where
  pub outcome : IsOutcome ws now.held now.notes
  pub plain : IsPlain now
  pub kept : firm now.writes ≡ now.held

-- these bytes are saved under this CID by one of the writes
abbrev pub Saves : Cid → List ℕ → List Write → Type 0
Saves cid bytes [] = ⊥
Saves cid bytes (w ∷ ws) = (w ≡ Saved cid bytes) ⊎ Saves cid bytes ws

-- the saves of one CID gave it the same bytes
abbrev pub SavesAgree : List Write → Type 0
SavesAgree ws = (cid : Cid) (b c : List ℕ) → Saves cid b ws → Saves cid c ws → b ≡ c

-- what is left where a call that led from the first contents to the second ended so
abbrev pub LeftBy : End → Contents → Contents → Contents → Type 0
LeftBy Whole before whole now = now ≡ whole
LeftBy (Stopped made) before whole now =
    (rest : List Write) × (whole.writes ≡ before.writes ++ made ++ rest) × IsReopened (before.writes ++ made) now

-- whether a call counts: one that ended on its own where it was done, and one that was stopped does or doesn't
abbrev pub CountsAs : Event → Bool → Type 0
CountsAs event counted = elim event.end [
  | Whole ↦ counted ≡ was_done event.step
  | Stopped made ↦ counted ≡ true → was_done event.step ≡ true
]

-- these are the calls that count
abbrev pub AreDone : List Event → List Step → Type 0
AreDone [] steps = steps ≡ []
AreDone (event ∷ events) steps = (counted : Bool) × CountsAs event counted × (rest : List Step)
    × (steps ≡ (if counted then event.step ∷ rest else rest)) × AreDone events rest

-- some blocks may have been lost: what is held was held, and the Head is as before
pub record LosesSome (before now : Contents) : Type 0 where
  pub head : now.notes.head ≡ before.notes.head
  pub part : IsPart now.held before.held

module _ (X : List ℕ → List ℕ) (N : List ℕ → ℕ) where
  -- a call of `run` that does one command, whatever it answered
  pub record IsCall (step : Step) : Type 0 where
    pub runs : DidRun X N step
    pub held : TellsBlocks (told_before step) step.held
    pub tells : CanTell step.asked step.outside step.before

  -- calls one after the other, with what may come between
  abbrev pub Calls : List Step → Told → Told → Type 0
  Calls steps before now = InTurn X N IsCall steps before now

  -- a call that began with the first contents has left the second
  pub record Happens (event : Event) (before now : Contents) : Type 0 where
    pub whole : Contents
    pub first : told_before event.step ≡ Some before
    pub last : told_after event.step ≡ Some whole
    pub call : IsCall event.step
    pub left : LeftBy event.end before whole now

  -- what may come between two of them: a store that is safe for a tree stays so
  pub record SafelyBetween (before now : Contents) : Type 0 where
    pub safe : (p : Profile) (es : Entries) → IsSafeFor X N before p es → IsSafeFor X N now p es

  -- calls one after the other, of which any may have been stopped, with what may come between
  abbrev pub AllHappen : List Event → Contents → Contents → Type 0
  AllHappen [] before now = SafelyBetween before now
  AllHappen (event ∷ events) before now = (found : Contents) × SafelyBetween before found × (between : Contents)
      × Happens event found between × AllHappen events between now

  -- what is told stands for a tree, and no stop takes any of that away
  abbrev pub IsSafeAs : Contents → Standing → Type 0
  IsSafeAs t NoHead = ⊥
  IsSafeAs t BadHead = ⊥
  IsSafeAs t (Stands p es) = IsSafeFor X N t p es

  -- what stands after a call
  abbrev pub after_call : Step → Standing → Standing
  after_call step standing =
      if was_done step then replied_by X N step.asked step.outside step.held standing else standing

  -- the blocks of the tree that stands
  abbrev pub blocks_of : Standing → List Held
  blocks_of NoHead = []
  blocks_of BadHead = []
  blocks_of (Stands p es) = blocks X N p (Dir es)

  -- the Head names the tree, and of its blocks some may be lost
  abbrev pub NamesTree : Told → Standing → Type 0
  NamesTree told NoHead = ⊥
  NamesTree told BadHead = ⊥
  NamesTree told (Stands p es) = NamesOver X N told p es

  -- a pull, a serve, a collection or a check came: the Head is as before, and no CID of the tree's blocks has got other
  -- bytes, which would have their digest
  pub record LeavesNamed (standing : Standing) (before now : Contents) : Type 0 where
    pub head : now.notes.head ≡ before.notes.head
    pub agrees : Agrees (Some now) (blocks_of standing)

  -- what may come before such calls, between them and after them: blocks may have been lost, or one of these came
  abbrev pub MeanwhileOver : Standing → Contents → Contents → Type 0
  MeanwhileOver standing before now = LosesSome before now ⊎ LeavesNamed standing before now

  -- a call over what is left of these contents: it has given no CID of the tree's blocks other bytes, which would have
  -- their digest
  pub record CallsOver (step : Step) (standing : Standing) (before now : Contents) : Type 0 where
    pub found : Contents
    pub meanwhile : MeanwhileOver standing before found
    pub first : told_before step ≡ Some found
    pub last : told_after step ≡ Some now
    pub call : IsCall step
    pub agrees : Agrees (Some now) (blocks_of standing)

  -- calls one after the other, where blocks may have been lost, with what may come between
  abbrev pub AllCallOver : List Step → Standing → Contents → Contents → Type 0
  AllCallOver [] standing before now = MeanwhileOver standing before now
  AllCallOver (step ∷ steps) standing before now = (between : Contents) × CallsOver step standing before between
      × AllCallOver steps (after_call step standing) between now
