-- What became of words: they were refused, or a command did what is said of it. `run`, and each line of a batch, is so.
use Rattle.std.specs.Prelude.{◌≡◌, ◌⊎◌, ℕ, ◌+◌, ◌<◌, ◌≤◌, List, true, false, IfSome}
use Rattle.std.specs.declared.result.Result.{Result}
use Rattle.std.specs.declared.result.Result.TheVariants.{Ok, Err}
use Rattle.uf_cid.specs.Blocks.{Lookup}
use Rattle.uf_edge.specs.Counts.{Stood}
use Rattle.uf_mfs.specs.Reading.{AreHeights}
use Rattle.uf_mfs.specs.Standing.{NamesOver, TellsAs, head_in}
use Rattle.uf_command.specs.Commands.{HasInput, IsOfWords, is_idle}
use Rattle.uf_command.specs.Natures.{command_writes, may_give, prints_after}
use Rattle.uf_command.specs.Natures.{reads_tree_alone, streams as flows, writes_host}
use Rattle.uf_command.specs.declared.status.Status.{Status}
use Rattle.uf_command.specs.declared.status.Status.TheVariants as status
use Rattle.uf_command.specs.declared.types.Command.{Command}
use Rattle.uf_command.specs.declared.types.Refusal.{Refusal}
use Rattle.uf_store.specs.Calls.{Calm}
use Rattle.uf_top.specs.Answering.{LeavesNext}
use Rattle.uf_top.specs.Around.{Around, CountsCanRise, HasOutside, LeavesAlone, NoneFalls, SameButErrors, StaysQuiet}
use Rattle.uf_top.specs.Bounds.{command_touches}
use Rattle.uf_top.specs.Caused.{StatusShows}
use Rattle.uf_top.specs.Endings.{EndsAs, FindsAll, IsRefusedBy, IsSyncedFor, IsTextOf, KeptFor}
use Rattle.uf_top.specs.Endings.{PrintsAt, PrintsPart, SaysPlain, may_move}
use Rattle.uf_top.specs.Getting.{GetsFor}
use Rattle.uf_top.specs.Losing.{EndsOver, command_needs}
use Rattle.uf_top.specs.Pins.{PinsAfter}
use Rattle.uf_top.specs.Naming.{FindsOver, FindsWorld, StandsNamed, StaysNamed, TellsBlocks}
use Rattle.uf_top.specs.Placing.{HasNoSpot}
use Rattle.uf_top.specs.Reply.{Outside, World, in_world, outside_of, reply}
use Rattle.uf_top.specs.Shapes.{WritesAs, is_done}
use Rattle.uf_tree.specs.Standing.{Standing}
use Rattle.uf_tree.specs.Tree.{Dir, Entries}
use Rattle.uf_tree.specs.TreePlan.{blocks}
use Rattle.uf_tree.specs.declared.profile.Profile.{Profile}

module _ (X : List ℕ → List ℕ) (N : List ℕ → ℕ) where
  -- over every store an answer is of a kind that the command may answer: so `init`, `add`, `dag import` and `gen` look
  -- for no block, and one that writes nothing to the store meets no clash there. Each answer has its cause, and its
  -- line goes to `errors`
  pub record IsAnswered (command : Command) (given : Status) (before now : Around) : Type 0 where
    pub kinds : may_give command given ≡ true
    pub lines : SaysPlain given before now
    pub cause : StatusShows X N before now command given

-- a count of failures, or of clashes, that rose has its answer, and no count falls
pub record TellsFaults (given : Status) (before now : Around) : Type 0 where
  pub store : before.store.faults < now.store.faults → given ≡ status.StoreFault
  pub clashes : before.store.clashes < now.store.clashes → (given ≡ status.Clash) ⊎ (given ≡ status.Memory)
  pub reads : (before.reads < now.reads) ⊎ (before.host.reads < now.host.reads) → given ≡ status.ReadFault
  pub writes : (before.writes < now.writes) ⊎ (before.host.writes < now.host.writes) → given ≡ status.WriteFault
  pub counted : NoneFalls before now

module _ (X : List ℕ → List ℕ) (N : List ℕ → ℕ) where
  -- what is printed is printed whole at Ok, in part after a failed write, and else not at all, unless the command
  -- writes while it reads blocks. Of `add` it is the row of the input or the rows of what the host has, whose blocks
  -- are held and durable, over every store that tells. Of `dag import` the roots of a CAR whose blocks, and no others,
  -- were added. Whatever the answer and whatever blocks are lost, nothing is printed but a prefix of the reply's text
  pub record IsPrinted (command : Command) (given : Status) (before now : Around) : Type 0 where
    pub prefix : (w : World) → FindsOver X N before.store.told now.store.told (Ok command) w
        → HasOutside (Ok command) (outside_of w) before now → CountsCanRise before.store
        → PrintsPart (reply X N command w).ends before.held now.held
    pub text : PrintsAt (IsTextOf X N before.store.told now.store.told before.host.told command before.left)
        (flows command) given before.held now.held
    pub synced : given ≡ status.Ok → IsSyncedFor command now.store.told

  -- what a command leaves. It writes what its row says, and nothing else: what follows of good blocks is a law. Only a
  -- command that is done moves the Head, or an `add --to-files` of which only the output failed. An edit that has
  -- nothing to do leaves all as it was. Where the store isn't ready for it, for its Head or its note of pins, a command
  -- has written nothing and read nothing of the input. So it is where the tree that the Head names has no spot for what
  -- `add --to-files` adds, or `files cp` copies from a DAG. Of the host `get` alone changes anything, also where it is
  -- refused or stopped. `pin add` and `pin rm` that are done move the note of pins, and whatever else leaves it.
  -- `dag import` adds first sections of its CAR, `add` blocks of what it reads, and a command that changes the tree
  -- blocks of the tree that it gives, of those that it makes in between and of what it puts there, and each no others,
  -- also where it is refused
  pub record LeavesRight (command : Command) (given : Status) (before now : Around) : Type 0 where
    pub writes : WritesAs X (command_writes command) (is_done given) before.store.told now.store.told
    pub head : may_move (Ok command) given ≡ false → head_in now.store.told ≡ head_in before.store.told
    pub idle : (p : Profile) (es : Entries) (bytes : List ℕ) → NamesOver X N before.store.told p es
        → HasInput (Ok command) before.left bytes before.reads now.reads
        → Stood before.store.faults now.store.faults → is_idle bytes es command ≡ true
        → now.store.told ≡ before.store.told
    pub unready : given ≡ status.NotReady → LeavesAlone before now
    pub unplaced : (p : Profile) (es : Entries) → NamesOver X N before.store.told p es
        → Stood before.store.faults now.store.faults → HasNoSpot command es → LeavesAlone before now
    pub host : writes_host command ≡ false → now.host.told ≡ before.host.told
    pub gets : GetsFor command given before.store.told before.host.told now.host.told
    pub pins : PinsAfter (Ok command) given before.store.told now.store.told
    pub kept : KeptFor X N command given before.store now.store before.host.told before.left

  -- the commands that work on a tree keep within their touches, also where they are refused, and no block is called
  -- bad before one was touched
  pub record TouchesFew (command : Command) (given : Status) (before now : Around) : Type 0 where
    pub most : (p : Profile) (es : Entries) (bytes : List ℕ) (rows : ℕ → ℕ)
        → StaysNamed X N before.store.told now.store.told p es
        → HasInput (Ok command) before.left bytes before.reads now.reads → AreHeights p rows
        → Calm before.store now.store
        → IfSome (command_touches X N rows bytes command p es) (λ most. now.touches ≤ before.touches + most)
    pub bad : given ≡ status.BadBlock → before.touches < now.touches

-- words that are no command, or of which a text is no path, are refused so, or there was no memory; nothing was done
pub record RefusesWords (why : Refusal) (given : Status) (before now : Around) : Type 0 where
  pub words : IsOfWords (Err why)
  pub refused : IsRefusedBy why given before now
  pub same : SameButErrors before now

module _ (X : List ℕ → List ℕ) (N : List ℕ → ℕ) where
  -- what a command did
  pub record RunsCommand (command : Command) (given : Status) (before now : Around) : Type 0 where
    -- over a store that stands as the command needs it and, where the command uses it, an input or a host that tells,
    -- with no count risen and no clash met, also in a store of the command's own, the answer is the reply, or out of
    -- memory. Over a store that stands for a tree no block of a command on it alone is missing or bad, whatever the
    -- input and the output do
    pub replies : (w : World) → FindsWorld X N (Ok command) before.store.told w
        → HasOutside (Ok command) (outside_of w) before now → StaysQuiet (Ok command) given before now
        → EndsAs X N (Ok command) w given before now
    -- where `add --to-files` has put what it adds into the tree and only the output of its rows failed, the tree is the
    -- new one: the one refusal that leaves what the reply says that stands next
    pub unprinted : (w : World) → prints_after command ≡ true → given ≡ status.WriteFault
        → FindsWorld X N (Ok command) before.store.told w → HasOutside (Ok command) (outside_of w) before now
        → Calm before.store now.store → LeavesNext X N (reply X N command w) now.store.told
    pub whole : (standing : Standing) → reads_tree_alone command ≡ true → TellsAs X N before.store.told standing
        → Calm before.store now.store → FindsAll given
    -- over a tree that the Head names and of whose blocks some may be lost, the answer is the reply too, or one of the
    -- blocks that the command needs is lost. After Ok the new tree lacks no block that was held or is new
    pub lost : (p : Profile) (es : Entries) (rows : ℕ → ℕ) (held : Lookup) (outside : Outside)
        → StaysNamed X N before.store.told now.store.told p es → TellsBlocks before.store.told held
        → AreHeights p rows → HasOutside (Ok command) outside before now
        → StaysQuiet (Ok command) given before now
        → EndsOver X N p es (command_needs X N rows command p es) (reply X N command (in_world p es held outside)) given
        before now
    -- and where only the output of its rows failed, `add --to-files` leaves the new tree there too: the Head names what
    -- the reply says that stands next, and it lacks no block that was held or is new
    pub unprinted_over : (p : Profile) (es : Entries) (held : Lookup) (outside : Outside)
        → prints_after command ≡ true → given ≡ status.WriteFault
        → StaysNamed X N before.store.told now.store.told p es → HasOutside (Ok command) outside before now
        → Calm before.store now.store
        → StandsNamed X N before.store.told now.store.told (blocks X N p (Dir es))
        (reply X N command (in_world p es held outside)).next
    -- whatever the store shows and whatever fails: the kind, the line and the cause of the answer, the faults that it
    -- tells, what is printed, what is left, and the touches
    pub answered : IsAnswered X N command given before now
    pub faults : TellsFaults given before now
    pub printed : IsPrinted X N command given before now
    pub left : LeavesRight X N command given before now
    pub touched : TouchesFew X N command given before now

  -- what became of words
  abbrev pub Runs : Result Command Refusal → Status → Around → Around → Type 0
  Runs (Err why) given before now = RefusesWords why given before now
  Runs (Ok command) given before now = RunsCommand command given before now
