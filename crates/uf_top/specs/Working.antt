-- How a command was done, before anything of it is printed: what it answers, why, and what it leaves.
use Rattle.std.specs.Prelude.{◌≡◌, ◌⊎◌, ℕ, ◌+◌, ◌<◌, ◌≤◌, List, [], false, true, IfErr, IfOk, IfSome}
use Rattle.uf_cid.specs.Blocks.{Lookup}
use Rattle.std.specs.declared.result.Result.{Result}
use Rattle.std.specs.declared.result.Result.TheVariants.{Ok, Err}
use Rattle.uf_edge.specs.Counts.{Counts, Stood}
use Rattle.uf_edge.specs.Streams as streams
use Rattle.uf_mfs.specs.Reading.{AreHeights}
use Rattle.uf_mfs.specs.Standing.{NamesOver, StandsAt, StandsOver, TellsAs}
use Rattle.uf_mfs.specs.Touches.{CountsUp, IsBlaming}
use Rattle.uf_mfs.specs.declared.mfs.Mfs.{Mfs}
use Rattle.uf_path.specs.declared.path.Path.{Path}
use Rattle.uf_store.specs.Calls.{Calm}
use Rattle.uf_store.specs.Contents.{Told}
use Rattle.uf_store.specs.Faults.{Shown}
use Rattle.uf_store.specs.Seen.{Seen}
use Rattle.uf_tree.specs.Standing.{Standing, Stands}
use Rattle.uf_tree.specs.Tree.{Dir, Entries}
use Rattle.uf_tree.specs.TreePlan.{blocks}
use Rattle.uf_tree.specs.declared.profile.Profile.{Profile}
use Rattle.uf_command.specs.declared.types.Ask.{Ask}
use Rattle.uf_command.specs.declared.types.Command.{Command}
use Rattle.uf_command.specs.declared.types.Command.TheVariants.{At}
use Rattle.uf_command.specs.declared.types.Refusal.{Refusal}
use Rattle.uf_command.specs.Commands.{HasInput, is_idle, of_command}
use Rattle.uf_command.specs.Natures.{ask_writes, command_writes, generates, kinds_of, may_give, prints_after}
use Rattle.uf_command.specs.Natures.{reads_input, reads_tree_alone, streams as flows, touches_nothing, uses_host}
use Rattle.uf_command.specs.Natures.{writes_host}
use Rattle.uf_command.specs.Telling.{Prints}
use Rattle.uf_command.specs.Kinds.{IsOf, may_meet, may_close, opened_kinds, refusal_fault}
use Rattle.uf_top.specs.Reply.{Outside, World, in_world, outside_of, reply, tree_reply}
use Rattle.uf_edits.specs.Edits.{IsBadAsked}
use Rattle.uf_command.specs.Statuses.{ended, no_memory}
use Rattle.uf_command.specs.declared.status.Status.TheVariants as status
use Rattle.uf_top.specs.Answering.{Answers, DoesAnswer, LeavesNext}
use Rattle.uf_top.specs.Around.{Around, CountsCanRise, HasOutside, LeavesAlone, RisesFor, SameButErrors, StaysQuiet}
use Rattle.uf_top.specs.Around.{TakesHost, UsesHost}
use Rattle.uf_top.specs.Around.{is_input_read, is_output_write}
use Rattle.uf_top.specs.Bounds.{ask_touches, command_touches}
use Rattle.uf_top.specs.Causes.{HeadStays, IsAskText, IsBadIn, IsReady, KeepsHead, is_read, is_write}
use Rattle.uf_top.specs.Endings.{AddsFor, FindsAll, IsTextOf, IsLongFor, PrintsAt, PrintsPart, KeptFor}
use Rattle.uf_top.specs.Getting.{GetsFor}
use Rattle.uf_top.specs.Hosted.{IsHostedText}
use Rattle.uf_top.specs.Losing.{AnswersOver, DoesOver, ask_needs, command_needs}
use Rattle.uf_top.specs.Pins.{PinsFor}
use Rattle.uf_top.specs.Naming.{FindsOver, FindsWorld, StandsNamed, StaysNamed, TellsBlocks}
use Rattle.uf_top.specs.Placing.{HasNoSpot}
use Rattle.uf_top.specs.Saving.{SavesNoOther, asked_blocks}
use Rattle.uf_top.specs.Shapes.{WritesAs, WritesInTree, is_done, is_ok}

module _ (X : List ℕ → List ℕ) (N : List ℕ → ℕ) where
  -- what a command leaves before anything is printed: the Head where it is refused or prints what it hasn't put into
  -- the tree, all where nothing is to be done, and what it wrote
  pub record MakesLeaving (command : Command) (done : Result (List ℕ) Refusal) (before now : Told)
      (calm : List ℕ → Type 0) : Type 0 where
    pub head : HeadStays done (prints_after command) before now
    pub writes : WritesAs X (command_writes command) (is_ok done) before now
    pub idle : (p : Profile) (es : Entries) (bytes : List ℕ) → NamesOver X N before p es → calm bytes
        → is_idle bytes es command ≡ true → now ≡ before

  -- how the text of a command was made: its answer is the reply, over lost blocks too, and each refusal is one of its
  -- kinds and has its cause. It uses the host no more than it may, it keeps within its touches, and it leaves what it
  -- leaves: where the Head or the destination refuses it, what is told and the input
  pub record Makes (command : Command) (done : Result (List ℕ) Refusal) (before now : Around) : Type 0 where
    pub answers : (w : World) → TellsAs X N before.store.told w.standing
        → HasOutside (Ok command) (outside_of w) before now → Calm before.store now.store
        → Answers X N w.standing (reply X N command w) done now.store.told
    pub lost : (p : Profile) (es : Entries) (rows : ℕ → ℕ) (held : Lookup) (outside : Outside)
        → StaysNamed X N before.store.told now.store.told p es → HasOutside (Ok command) outside before now
        → Calm before.store now.store
        → AnswersOver X N before.store.told now.store.told p es (command_needs X N rows command p es)
        (reply X N command (in_world p es held outside)) done
    pub kinds : IsOf (may_meet (kinds_of command)) done
    pub ready : IsReady before.store.told command done
    pub adds : AddsFor X before.store.told now.store.told (Ok command) done before.left now.left
    pub reads : Counts (is_input_read command done) before.reads now.reads
    pub host : UsesHost (uses_host command) (is_read done) before.host now.host
    pub rows : IfOk done (λ text. IsHostedText X N before.store.told now.store.told before.host.told command text)
    pub kept : KeptFor X N command (ended done) before.store now.store before.host.told before.left
    pub cause : Shown X (IsBadIn X N before.store.told now.store.told) (refusal_fault done) before.store now.store
    pub whole : (standing : Standing) → TellsAs X N before.store.told standing → Calm before.store now.store
        → FindsAll (ended done)
    pub touches : (p : Profile) (es : Entries) (bytes : List ℕ) (rows : ℕ → ℕ)
        → StaysNamed X N before.store.told now.store.told p es
        → HasInput (Ok command) before.left bytes before.reads now.reads → AreHeights p rows
        → Calm before.store now.store
        → IfSome (command_touches X N rows bytes command p es) (λ most. now.touches ≤ before.touches + most)
    pub touched : IsBlaming (refusal_fault done) → before.touches < now.touches
    pub unready : may_give command status.NotReady ≡ true → ended done ≡ status.NotReady → LeavesAlone before now
    pub unplaced : (p : Profile) (es : Entries) → NamesOver X N before.store.told p es
        → Stood before.store.faults now.store.faults → HasNoSpot command es → LeavesAlone before now
    pub leaves : MakesLeaving command done before.store.told now.store.told
        (λ bytes. HasInput (Ok command) before.left bytes before.reads now.reads
        × Stood before.store.faults now.store.faults)

  -- what a command leaves: the Head where it may not have moved, all where nothing is to be done, and what it wrote
  pub record DoesLeave (command : Command) (done : Result (Unit {0}) Refusal) (before now : Told)
      (calm : List ℕ → Type 0) : Type 0 where
    pub head : KeepsHead done (prints_after command) before now
    pub writes : WritesAs X (command_writes command) (is_done (ended done)) before now
    pub idle : (p : Profile) (es : Entries) (bytes : List ℕ) → NamesOver X N before p es → calm bytes
        → is_idle bytes es command ≡ true → now ≡ before

  -- how a command was done and its text printed: its answer is the reply, over lost blocks too, what is printed is a
  -- prefix of the reply's text, and the reply's tree stands where its rows follow the Head and only they failed, over
  -- lost blocks too. Each refusal is one of its kinds and has its cause, it keeps within its touches, and it leaves
  -- what it leaves
  pub record Does (command : Command) (done : Result (Unit {0}) Refusal) (before now : Around) : Type 0 where
    pub answers : (w : World) → FindsWorld X N (Ok command) before.store.told w
        → HasOutside (Ok command) (outside_of w) before now → StaysQuiet (Ok command) (ended done) before now
        → DoesAnswer X N command w done before.held now.held now.store.told now.host.told
    pub unprinted : (w : World) → prints_after command ≡ true → ended done ≡ status.WriteFault
        → FindsWorld X N (Ok command) before.store.told w → HasOutside (Ok command) (outside_of w) before now
        → Calm before.store now.store → LeavesNext X N (reply X N command w) now.store.told
    pub lost : (p : Profile) (es : Entries) (rows : ℕ → ℕ) (held : Lookup) (outside : Outside)
        → StaysNamed X N before.store.told now.store.told p es → TellsBlocks before.store.told held
        → AreHeights p rows
        → HasOutside (Ok command) outside before now → StaysQuiet (Ok command) (ended done) before now
        → DoesOver X N before.store.told now.store.told p es (command_needs X N rows command p es)
        (reply X N command (in_world p es held outside)) done before.held now.held
    pub unprinted_over : (p : Profile) (es : Entries) (held : Lookup) (outside : Outside)
        → prints_after command ≡ true → ended done ≡ status.WriteFault
        → StaysNamed X N before.store.told now.store.told p es → HasOutside (Ok command) outside before now
        → Calm before.store now.store
        → StandsNamed X N before.store.told now.store.told (blocks X N p (Dir es))
        (reply X N command (in_world p es held outside)).next
    pub prefix : (w : World) → FindsOver X N before.store.told now.store.told (Ok command) w
        → HasOutside (Ok command) (outside_of w) before now → CountsCanRise before.store
        → PrintsPart (reply X N command w).ends before.held now.held
    pub prints : PrintsAt (IsTextOf X N before.store.told now.store.told before.host.told command before.left)
        (flows command) (ended done) before.held now.held
    pub kinds : IsOf (may_close (kinds_of command)) done
    pub ready : IsReady before.store.told command done
    pub long : IfErr done (λ why. IsLongFor command why before.store.told before.left now.left)
    pub reads : Counts (is_input_read command done) before.reads now.reads
    pub host : TakesHost (writes_host command) (uses_host command) (is_read done) (is_write done) before.host now.host
    pub gets : GetsFor command (ended done) before.store.told before.host.told now.host.told
    pub pins : PinsFor command done before.store.told now.store.told
    pub kept : KeptFor X N command (ended done) before.store now.store before.host.told before.left
    pub writes : RisesFor (is_output_write command done) before.writes now.writes
    pub cause : Shown X (IsBadIn X N before.store.told now.store.told) (refusal_fault done) before.store now.store
    pub whole : (standing : Standing) → reads_tree_alone command ≡ true → TellsAs X N before.store.told standing
        → Calm before.store now.store → FindsAll (ended done)
    pub touches : (p : Profile) (es : Entries) (bytes : List ℕ) (rows : ℕ → ℕ)
        → StaysNamed X N before.store.told now.store.told p es
        → HasInput (Ok command) before.left bytes before.reads now.reads → AreHeights p rows
        → Calm before.store now.store
        → IfSome (command_touches X N rows bytes command p es) (λ most. now.touches ≤ before.touches + most)
    pub touched : IsBlaming (refusal_fault done) → before.touches < now.touches
    pub unready : may_give command status.NotReady ≡ true → ended done ≡ status.NotReady → LeavesAlone before now
    pub unplaced : (p : Profile) (es : Entries) → NamesOver X N before.store.told p es
        → Stood before.store.faults now.store.faults → HasNoSpot command es → LeavesAlone before now
    pub leaves : DoesLeave command done before.store.told now.store.told
        (λ bytes. HasInput (Ok command) before.left bytes before.reads now.reads
        × Stood before.store.faults now.store.faults)

  -- words were refused, and nothing was done
  pub record IsIdle (why : Refusal) (done : Result (Unit {0}) Refusal) (before now : Around) : Type 0 where
    pub refused : (done ≡ Err why) ⊎ (done ≡ Err no_memory)
    pub same : SameButErrors before now

  -- what became of words
  abbrev pub Serves : Result Command Refusal → Result (Unit {0}) Refusal → Around → Around → Type 0
  Serves (Ok command) done before now = Does command done before now
  Serves (Err why) done before now = IsIdle why done before now

  -- how it was done what was asked of an opened tree
  pub record WorksAt (tree : Mfs) (ask : Ask) (path : Path) (done : Result (List ℕ) Refusal)
      (before now : Seen) (was is : ℕ) : Type 0 where
    pub answers : (p : Profile) (es : Entries) → StandsAt X N before.told tree p es
        → TellsAs X N before.told (Stands p es) → Calm before now
        → Answers X N (Stands p es) (tree_reply X N ask path.names p es) done now.told
    pub text : IfOk done (IsAskText ask)
    pub lost : (p : Profile) (es : Entries) → StandsOver X N before.told tree p es
        → StaysNamed X N before.told now.told p es → Calm before now
        → AnswersOver X N before.told now.told p es (ask_needs X N ask path.names p es)
        (tree_reply X N ask path.names p es) done
    pub kinds : IsOf opened_kinds done
    pub cause : Shown X (IsBadAsked X N tree.profile now.told tree.root.cid) (refusal_fault done) before now
    pub touches : (p : Profile) (es : Entries) (rows : ℕ → ℕ) → StandsOver X N before.told tree p es
        → StaysNamed X N before.told now.told p es → AreHeights p rows → Calm before now
        → is ≤ was + ask_touches X N rows ask path.names p es
    pub touched : CountsUp (refusal_fault done) was is
    pub head : HeadStays done false before.told now.told
    pub writes : WritesInTree X tree.profile (ask_writes ask) (is_ok done) before.told now.told
    pub kept : (p : Profile) (es : Entries) → StandsOver X N before.told tree p es
        → StaysNamed X N before.told now.told p es → CountsCanRise before
        → SavesNoOther X (asked_blocks X N ask path.names p es) before.told now.told
    pub idle : (p : Profile) (es : Entries) → StandsOver X N before.told tree p es
        → NamesOver X N before.told p es → Stood before.faults now.faults
        → is_idle [] es (At ask path) ≡ true → now.told ≡ before.told

-- words that are refused, and a command that works on stores of its own, leave the store as it is. A command that
-- doesn't use the input or the host leaves that as it is; and `add -n` and `gen` make no touch
pub record Spares {S I W : Type 0} (asked : Result Command Refusal) (store store_now : S) (source source_now : I)
    (side side_now : W) (touches touches_now : ℕ) : Type 0 where
  pub left : of_command generates true asked ≡ true → store_now ≡ store
  pub input : of_command reads_input false asked ≡ false → source_now ≡ source
  pub host : of_command uses_host false asked ≡ false → side_now ≡ side
  pub untouched : of_command touches_nothing true asked ≡ true → touches_now ≡ touches

-- the text of a command was printed, or none was made: then nothing is printed, for the same reason
abbrev pub SaysText : Result (List ℕ) Refusal → Result (Unit {0}) Refusal → (held held_now : streams.Told)
    → (writes writes_now : ℕ) → Type 0
SaysText (Ok text) done held held_now writes writes_now = Prints text done held held_now writes writes_now
SaysText (Err why) done held held_now writes writes_now =
    (done ≡ Err why) × (held_now ≡ held) × (writes_now ≡ writes)
