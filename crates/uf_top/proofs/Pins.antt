-- What commands on pins write, find and answer.
use Rattle.std.proofs.Common.{◌≡◌, ◌≢◌, ◌⊎◌, ◌∙◌, ℕ, ◌+◌, ◌≤◌, ◌<◌, List, [], ◌∷◌, Bool, true, false, cond, Contains, arith, refl, sym, ap, subst, inl, inr, Option, Some, None, Result, Ok, Err}
use Rattle.std.specs.Prelude.{nat_le, IfErr, IfSome, IsSome, flat_map, ⊤}
use Rattle.std.proofs.lemmas.Bool.{le-leb}
use Rattle.std.proofs.lemmas.Bool.Decides.{nat_tests}
use Rattle.uf_cid.specs.Blocks.{Lookup}
use Rattle.uf_cid.specs.declared.cid.Cid.{Cid}
use Rattle.uf_edge.specs.Counts.{Counts}
use Rattle.uf_edge.specs.Streams.{after}
use Rattle.uf_edge.specs.Streams as streams
use Rattle.uf_lenient.specs.Answers.{IsStoreOwn}
use Rattle.uf_mfs.specs.Standing.{Commits, Idle, LeavesHead, OnlySynced, Same as StaysSame, SavesThen, TellsHeld, Written, head_in}
use Rattle.uf_mfs.specs.Touches.{IsBlaming}
use Rattle.uf_pins.specs.Calls.{AddsPin, IsFailure, IsOfNote, IsOfRemoval, WritesLess, WritesMore, ListsPins, PinsBelow, RemovesPin, StopsUnder, Unpins, others, pin_fault}
use Rattle.uf_pins.specs.Notes.{IsBadNote, IsReadAs, Lists}
use Rattle.uf_pins.specs.Reach.{reach}
use Rattle.uf_pins.specs.declared.fault.PinFault.{PinFault}
use Rattle.uf_pins.specs.declared.fault.PinFault.TheVariants as pin
use Rattle.uf_pins.proofs.Decided.{note-read}
use Rattle.uf_pins.proofs.Written.{one-list}
use Rattle.uf_pins.proofs.Stopped.{among-true}
use Rattle.uf_walk.proofs.Members.{among}
use Rattle.uf_store.specs.Calls.{Calm}
use Rattle.uf_store.specs.Contents.{Contents, Notes, Told, changed, held_at, with_sync, with_text}
use Rattle.uf_store.specs.Faults.{NoneIsBad, Shown, StaysCalm}
use Rattle.uf_store.specs.Keeping.{KeepsGood}
use Rattle.uf_store.specs.Seen.{Seen}
use Rattle.uf_store.specs.Sweeping.{is_among}
use Rattle.uf_store.specs.Writing.{SavesOnly}
use Rattle.uf_store.specs.declared.store.Note.TheVariants.{Head, Pins}
use Rattle.uf_store.specs.declared.store.StoreFault.{StoreFault}
use Rattle.uf_store.specs.declared.store.StoreFault.TheVariants as fault
use Rattle.uf_store.proofs.Calls.{shown-by}
use Rattle.uf_store.proofs.Causes.{calm-memory}
use Rattle.uf_store.proofs.Writing.{saves-notes}
use Rattle.uf_tree.specs.Heads.{head_text}
use Rattle.uf_tree.specs.Tree.{Entries}
use Rattle.uf_tree.specs.declared.profile.Profile.{Profile}
use Rattle.uf_walk.specs.Order.{OrderFault, OverMost, Missing, NotDagPb}
use Rattle.uf_command.specs.Cars.{most_blocks}
use Rattle.uf_command.specs.Kinds.{OfWrite, fault_behind, may_close, refusal_kind}
use Rattle.uf_command.specs.Natures.{MakesHead, MovesHead, NoWrites, NotesPins, SyncsBlocks, SyncsPins, WriteShape, command_writes, pin_kinds, pin_writes, uses_pins}
use Rattle.uf_command.specs.Pins.{cid_line, most_pins, pin_refusal, pinning, pins_told}
use Rattle.uf_command.specs.Statuses.{ended, no_memory, status_of}
use Rattle.uf_command.specs.Telling.{IsCut, Prints}
use Rattle.uf_command.specs.declared.status.Status.{Status}
use Rattle.uf_command.specs.declared.status.Status.TheVariants as status
use Rattle.uf_command.specs.declared.types.Ask.TheVariants.{Ls, Stat, Edit as Edits}
use Rattle.uf_command.specs.declared.types.Command.{Command}
use Rattle.uf_command.specs.declared.types.Command.TheVariants.{Init, Add, WriteInput, At, Read, Cat, Get, Export, Import, Same, Adopt, Gen, Pin, Prove}
use Rattle.uf_command.specs.declared.types.Adding.TheVariants as adding
use Rattle.uf_command.specs.declared.types.DagRule.TheVariants as rule
use Rattle.uf_command.specs.declared.types.PinAsk.{PinAsk}
use Rattle.uf_command.specs.declared.types.PinAsk.TheVariants as pins
use Rattle.uf_command.specs.declared.types.Refusal.{Refusal}
use Rattle.uf_command.specs.declared.types.Refusal.TheVariants as refusal
use Rattle.uf_top.specs.Answering.{DoesAnswer}
use Rattle.uf_top.specs.Around.{Around, HostSide, RisesFor, SinkSide, around}
use Rattle.uf_top.specs.Bounds.{command_touches}
use Rattle.uf_top.specs.Causes.{IsBadIn, IsReadyBy, is_read}
use Rattle.uf_top.specs.Endings.{EndsBy, IsPinText, IsTextOf, PrintsPart}
use Rattle.uf_top.specs.Foreign.{IsOwnRefusal}
use Rattle.uf_top.specs.Losing.{DoesOver}
use Rattle.uf_top.specs.Naming.{StaysNamed, TellsBlocks}
use Rattle.uf_top.specs.Pins.{PinsAfter, PinsFor, PinsLeft, UnreadBy, pins_in}
use Rattle.uf_top.specs.Reply.{Outside, World, in_world, reply}
use Rattle.uf_top.specs.Shapes.{HeadAfter, WritesAs, is_done}
use Rattle.uf_top.specs.Working.{Does}
use Rattle.uf_top.proofs.Unready.{store-unready}
use Rattle.uf_top.proofs.Cats.{own-wants}
use Rattle.uf_top.proofs.Losing.{names-kept}
use Rattle.uf_top.proofs.Printing.{after-nothing, nothing-printed, quiet-of, whole-printed}
use Rattle.uf_top.proofs.Shaped.{head-after}
use Rattle.uf_top.proofs.Shows.{counts-still, not-rose}
use Rattle.uf_top.proofs.Wrote.{shape-good}

-- ---- what is written

sync-head : (a : Told) → head_in (changed with_sync a) ≡ head_in a
sync-head None = refl
sync-head (Some t) = refl

note-head : (text : List ℕ) (a : Told) → head_in (changed (with_text Pins text) a) ≡ head_in a
note-head text None = refl
note-head text (Some t) = refl

module _ (X : List ℕ → List ℕ) where
  syncs-head : (done : Bool) (a b : Told) → WritesAs X SyncsPins done a b → head_in b ≡ head_in a
  syncs-head true a b (inl h) = ap head_in h ∙ sync-head a
  syncs-head true a b (inr h) = ap head_in h.1 ∙ note-head h.0 (changed with_sync a) ∙ sync-head a
  syncs-head false a b (inl h) = ap head_in h
  syncs-head false a b (inr h) = ap head_in h ∙ sync-head a

  notes-head : (done : Bool) (a b : Told) → WritesAs X NotesPins done a b → head_in b ≡ head_in a
  notes-head true a b h = ap head_in h.1 ∙ note-head h.0 a
  notes-head false a b h = ap head_in h

  -- a command on pins leaves the Head
  pub pins-head : (ask : PinAsk) (done : Bool) (a b : Told) → WritesAs X (pin_writes ask) done a b → head_in b ≡ head_in a
  pins-head (pins.Add cid) done a b h = syncs-head done a b h
  pins-head (pins.Remove cid) done a b h = notes-head done a b h
  pins-head pins.List done a b h = ap head_in h

  -- ---- any other command leaves the note of pins

  sync-pins : (a : Told) → pins_in (changed with_sync a) ≡ pins_in a
  sync-pins None = refl
  sync-pins (Some t) = refl

  head-pins : (text : List ℕ) (a : Told) → pins_in (changed (with_text Head text) a) ≡ pins_in a
  head-pins text None = refl
  head-pins text (Some t) = refl

  saves-pins : (a m : Told) → SavesOnly X a m → pins_in m ≡ pins_in a
  saves-pins None None h = refl
  saves-pins None (Some m) h = absurd h
  saves-pins (Some a) None h = absurd h
  saves-pins (Some a) (Some m) h = ap (λ (n : Notes). n.pins) (saves-notes X a m h)

  leaves-pins : (m b : Told) → LeavesHead m b → pins_in b ≡ pins_in m
  leaves-pins m b (StaysSame h) = ap pins_in h
  leaves-pins m b (OnlySynced h) = ap pins_in h ∙ sync-pins m

  commits-pins : (p : Profile) (root : Cid) (m b : Told) → Commits p root m b → pins_in b ≡ pins_in m
  commits-pins p root m b (Idle head h) = ap pins_in h
  commits-pins p root m b (Written head h) = ap pins_in h ∙ head-pins (head_text p root) (changed with_sync m) ∙ sync-pins m

  abbrev IsOther : WriteShape → Type 0
  IsOther NoWrites = ⊤
  IsOther SyncsBlocks = ⊤
  IsOther MakesHead = ⊤
  IsOther MovesHead = ⊤
  IsOther SyncsPins = ⊥
  IsOther NotesPins = ⊥

  left-pins : (a b : Told) → SavesThen X LeavesHead a b → pins_in b ≡ pins_in a
  left-pins a b h = leaves-pins h.between b h.last ∙ saves-pins a h.between h.saves

  after-pins : (a b : Told) → HeadAfter X a b → pins_in b ≡ pins_in a
  after-pins a b h = commits-pins h.0 h.1 h.2.between b h.2.last ∙ saves-pins a h.2.between h.2.saves

  shape-pins : (shape : WriteShape) (done : Bool) (a b : Told) → IsOther shape → WritesAs X shape done a b → pins_in b ≡ pins_in a
  shape-pins NoWrites done a b other h = ap pins_in h
  shape-pins SyncsBlocks true a b other h = ap pins_in h.last ∙ sync-pins h.between ∙ saves-pins a h.between h.saves
  shape-pins SyncsBlocks false a b other h = left-pins a b h
  shape-pins MakesHead true a b other h = after-pins a b h.1
  shape-pins MakesHead false a b other h = left-pins a b h
  shape-pins MovesHead true a b other h = after-pins a b (head-after X a b h)
  shape-pins MovesHead false a b other h = left-pins a b h
  shape-pins SyncsPins done a b other h = absurd other
  shape-pins NotesPins done a b other h = absurd other

  pub pins-after : (command : Command) (done : Result (Unit {0}) Refusal) (a b : Told) → PinsFor command done a b → WritesAs X (command_writes command) (is_done (ended done)) a b → PinsAfter (Ok command) (ended done) a b
  pins-after (Init p) done a b p0 h = shape-pins MakesHead (is_done (ended done)) a b tt h
  pins-after (Add (adding.Input true)) done a b p0 h = shape-pins NoWrites (is_done (ended done)) a b tt h
  pins-after (Add (adding.Input false)) done a b p0 h = shape-pins SyncsBlocks (is_done (ended done)) a b tt h
  pins-after (Add (adding.Host recursive true path)) done a b p0 h = shape-pins NoWrites (is_done (ended done)) a b tt h
  pins-after (Add (adding.Host recursive false path)) done a b p0 h = shape-pins SyncsBlocks (is_done (ended done)) a b tt h
  pins-after (Add (adding.InputTo dest)) done a b p0 h = shape-pins MovesHead (is_done (ended done)) a b tt h
  pins-after (Add (adding.HostTo recursive path dest)) done a b p0 h = shape-pins MovesHead (is_done (ended done)) a b tt h
  pins-after (WriteInput how path) done a b p0 h = shape-pins MovesHead (is_done (ended done)) a b tt h
  pins-after (At (Ls long) path) done a b p0 h = shape-pins NoWrites (is_done (ended done)) a b tt h
  pins-after (At Stat path) done a b p0 h = shape-pins NoWrites (is_done (ended done)) a b tt h
  pins-after (At (Edits edit) path) done a b p0 h = shape-pins MovesHead (is_done (ended done)) a b tt h
  pins-after (Read offset count path) done a b p0 h = shape-pins NoWrites (is_done (ended done)) a b tt h
  pins-after (Prove absent path) done a b p0 h = shape-pins NoWrites (is_done (ended done)) a b tt h
  pins-after (Cat path) done a b p0 h = shape-pins NoWrites (is_done (ended done)) a b tt h
  pins-after (Get path host_path) done a b p0 h = shape-pins NoWrites (is_done (ended done)) a b tt h
  pins-after (Export cid) done a b p0 h = shape-pins NoWrites (is_done (ended done)) a b tt h
  pins-after Import done a b p0 h = shape-pins SyncsBlocks (is_done (ended done)) a b tt h
  pins-after (Same cid) done a b p0 h = shape-pins NoWrites (is_done (ended done)) a b tt h
  pins-after (Adopt source dest) done a b p0 h = shape-pins MovesHead (is_done (ended done)) a b tt h
  pins-after (Gen n seed) done a b p0 h = shape-pins NoWrites (is_done (ended done)) a b tt h
  pins-after (Pin ask) done a b p0 h = p0.0

-- a refusal of a command on pins leaves their note
undone-pins : (X : List ℕ → List ℕ) (ask : PinAsk) (a b : Told) → WritesAs X (pin_writes ask) false a b → pins_in b ≡ pins_in a
undone-pins X (pins.Add cid) a b (inl h) = ap pins_in h
undone-pins X (pins.Add cid) a b (inr h) = ap pins_in h ∙ sync-pins X a
undone-pins X (pins.Remove cid) a b h = ap pins_in h
undone-pins X pins.List a b h = ap pins_in h

left-undone : (ask : PinAsk) (given : Status) (a b : Told) → is_done given ≡ false → pins_in b ≡ pins_in a → PinsLeft ask given a b
left-undone (pins.Add cid) status.Ok a b undone same = absurd cc
left-undone (pins.Add cid) status.Rule a b undone same = same
left-undone (pins.Add cid) status.Usage a b undone same = same
left-undone (pins.Add cid) status.StoreFault a b undone same = same
left-undone (pins.Add cid) status.Missing a b undone same = same
left-undone (pins.Add cid) status.BadBlock a b undone same = same
left-undone (pins.Add cid) status.ReadFault a b undone same = same
left-undone (pins.Add cid) status.WriteFault a b undone same = same
left-undone (pins.Add cid) status.Clash a b undone same = same
left-undone (pins.Add cid) status.Memory a b undone same = same
left-undone (pins.Add cid) status.NotReady a b undone same = same
left-undone (pins.Remove cid) status.Ok a b undone same = absurd cc
left-undone (pins.Remove cid) status.Rule a b undone same = same
left-undone (pins.Remove cid) status.Usage a b undone same = same
left-undone (pins.Remove cid) status.StoreFault a b undone same = same
left-undone (pins.Remove cid) status.Missing a b undone same = same
left-undone (pins.Remove cid) status.BadBlock a b undone same = same
left-undone (pins.Remove cid) status.ReadFault a b undone same = same
left-undone (pins.Remove cid) status.WriteFault a b undone same = same
left-undone (pins.Remove cid) status.Clash a b undone same = same
left-undone (pins.Remove cid) status.Memory a b undone same = same
left-undone (pins.Remove cid) status.NotReady a b undone same = same
left-undone pins.List given a b undone same = same

few-leb : (m n : ℕ) → n < m → nat_le m n ≡ false
few-leb m n h = grind (arith, nat_tests)

-- what a call on pins answers, as how the command ends
abbrev pub refused-as : Result (Unit {0}) PinFault → Result (Unit {0}) Refusal
refused-as (Ok done) = Ok tt
refused-as (Err f) = Err (pin_refusal f)

-- ---- what is found

-- what the note of a store that tells is read as
pub noted-pins : (told : Told) → (listed : Option (List Cid)) × IfSome told (λ t. IsReadAs t.notes.pins listed)
noted-pins None = (None, tt)
noted-pins (Some t) = note-read t.notes.pins

bad-lists : (noted : Option (List ℕ)) (listed : List Cid) → IsBadNote noted → Lists noted listed → ⊥
bad-lists None listed bad lists = bad
bad-lists (Some text) listed bad lists = bad listed lists.are lists.text

-- a note lists one list
same-lists : (noted : Option (List ℕ)) (x y : List Cid) → Lists noted x → Lists noted y → x ≡ y
same-lists None x y p q = p ∙ sym q
same-lists (Some text) x y p q = one-list text x y p q

pub read-same : (noted : Option (List ℕ)) (x : List Cid) (listed : Option (List Cid)) → Lists noted x → IsReadAs noted listed → listed ≡ Some x
read-same noted x None lists read = absurd (bad-lists noted x read lists)
read-same noted x (Some y) lists read = ap (λ (l : List Cid). Some l) (same-lists noted y x read lists)

pub read-bad : (noted : Option (List ℕ)) (listed : Option (List Cid)) → IsBadNote noted → IsReadAs noted listed → listed ≡ None
read-bad noted None bad read = refl
read-bad noted (Some y) bad read = absurd (bad-lists noted y bad read)

not-among : (x : List Cid) (c : Cid) → (Contains x c → ⊥) → is_among x c ≡ false
not-among x c none = by (is_among x c) refl
  where
    by : (b : Bool) → is_among x c ≡ b → is_among x c ≡ false
    by true is = absurd (none (among x c is))
    by false is = is

-- what is said of what was asked, by what is held and listed
abbrev Says : PinAsk → Result (List ℕ) Refusal → Lookup → Option (List Cid) → Type 0
Says ask (Ok text) held listed = pins_told ask held listed ≡ Ok text
Says ask (Err why) held listed = IsOwnRefusal why ⊎ (pins_told ask held listed ≡ Err why)

failure-own : (f : StoreFault) → IsFailure f → IsStoreOwn f
failure-own fault.Failed h = tt
failure-own (fault.Damaged c) h = absurd h
failure-own (fault.Missing c) h = absurd h
failure-own (fault.BadBlock c role) h = absurd h
failure-own (fault.Clash c x y) h = absurd h
failure-own fault.Memory h = tt

module _ (t : Contents) (listed : Option (List Cid)) (read : IsReadAs t.notes.pins listed) where
  bad-said : (ask : PinAsk) → IsBadNote t.notes.pins → pins_told ask (held_at t) listed ≡ Err refusal.BadPins
  bad-said ask bad = ap (pins_told ask (held_at t)) (read-bad t.notes.pins listed bad read) ∙ none ask
    where
      none : (ask : PinAsk) → pins_told ask (held_at t) None ≡ Err refusal.BadPins
      none (pins.Add cid) = refl
      none (pins.Remove cid) = refl
      none pins.List = refl

  module _ (ask : PinAsk) (x : List Cid) (lists : Lists t.notes.pins x) where
    read-said : (ends : Result (List ℕ) Refusal) → pins_told ask (held_at t) (Some x) ≡ ends → pins_told ask (held_at t) listed ≡ ends
    read-said ends is = ap (pins_told ask (held_at t)) (read-same t.notes.pins x listed lists read) ∙ is

  -- a list
  pub list-said : (x : List Cid) → ListsPins t.notes.pins (Ok x) → Says pins.List (Ok (flat_map cid_line x)) (held_at t) listed
  list-said x lists = read-said pins.List x lists (Ok (flat_map cid_line x)) refl

  pub list-unsaid : (f : PinFault) → ListsPins t.notes.pins (Err f) → Says pins.List (Err (pin_refusal f)) (held_at t) listed
  list-unsaid pin.BadPins h = inr (bad-said pins.List h)
  list-unsaid pin.TooManyPins h = absurd h
  list-unsaid (pin.NotPinned c) h = absurd h
  list-unsaid (pin.NotDagPb c why) h = absurd h
  list-unsaid pin.TooMany h = absurd h
  list-unsaid (pin.Store f) h = inl (failure-own f h)

  -- a pin less
  pub removed-said : (cid : Cid) (now : Told) → RemovesPin t cid (Ok tt) now → Says (pins.Remove cid) (Ok []) (held_at t) listed
  removed-said cid now h =
      read-said (pins.Remove cid) h.pins h.listed (Ok []) (ap (λ (b : Bool). cond b (Ok []) (Err (refusal.Dag (rule.NotPinned cid)))) (among-true h.pins cid h.was))

  pub removed-unsaid : (cid : Cid) (now : Told) (f : PinFault) → RemovesPin t cid (Err f) now → Says (pins.Remove cid) (Err (pin_refusal f)) (held_at t) listed
  removed-unsaid cid now pin.BadPins h = inr (bad-said (pins.Remove cid) h.0)
  removed-unsaid cid now pin.TooManyPins h = absurd h.0
  removed-unsaid cid now (pin.NotPinned c) h =
      let u = h.0.1 in
      inr (read-said (pins.Remove cid) u.pins u.listed (Err (refusal.Dag (rule.NotPinned c)))
      (ap (λ (b : Bool). cond b (Ok []) (Err (refusal.Dag (rule.NotPinned cid)))) (not-among u.pins cid u.not_there) ∙ ap (λ (d : Cid). Err (refusal.Dag (rule.NotPinned d))) (sym h.0.0)))
  removed-unsaid cid now (pin.NotDagPb c why) h = absurd h.0
  removed-unsaid cid now pin.TooMany h = absurd h.0
  removed-unsaid cid now (pin.Store f) h = inl (failure-own f h.0)

  -- a pin more
  module _ (cid : Cid) where
    abbrev below : Result (List Cid) OrderFault
    below = reach (held_at t) most_blocks (cid ∷ [])

    pub added-said : (now : Told) → AddsPin t most_blocks cid (Ok tt) now → Says (pins.Add cid) (Ok []) (held_at t) listed
    added-said now h =
        read-said (pins.Add cid) h.pins h.listed (Ok []) (ap (pinning cid h.pins) h.reached
        ∙ ap (λ (b : Bool). cond b (Err (refusal.Dag rule.TooManyPins)) (Ok [])) (few-leb most_pins (others cid h.pins) h.few))

    under-said : (f : PinFault) (why : OrderFault) → StopsUnder t most_blocks cid f → (below ≡ Err why) → pins_told (pins.Add cid) (held_at t) listed ≡ pinning cid [] (Err why)
    under-said f why h is = read-said (pins.Add cid) h.pins h.listed (pinning cid [] (Err why)) (ap (pinning cid h.pins) is)

    pub added-unsaid : (now : Told) (f : PinFault) → AddsPin t most_blocks cid (Err f) now → Says (pins.Add cid) (Err (pin_refusal f)) (held_at t) listed
    added-unsaid now pin.BadPins h = inr (bad-said (pins.Add cid) h.0)
    added-unsaid now pin.TooManyPins h =
        let full = h.0 in
        inr (read-said (pins.Add cid) full.pins full.listed (Err (refusal.Dag rule.TooManyPins)) (ap (pinning cid full.pins) full.reached
        ∙ ap (λ (b : Bool). cond b (Err (refusal.Dag rule.TooManyPins)) (Ok [])) (le-leb most_pins (others cid full.pins) full.many)))
    added-unsaid now (pin.NotPinned c) h = absurd h.0
    added-unsaid now (pin.NotDagPb c why) h = inr (under-said (pin.NotDagPb c why) (NotDagPb c why) h.0 h.0.stops)
    added-unsaid now pin.TooMany h = inr (under-said pin.TooMany OverMost h.0 h.0.stops)
    added-unsaid now (pin.Store fault.Failed) h = inl tt
    added-unsaid now (pin.Store (fault.Damaged c)) h = inl tt
    added-unsaid now (pin.Store (fault.Missing c)) h = inr (under-said (pin.Store (fault.Missing c)) (Missing c) h.0 h.0.stops)
    added-unsaid now (pin.Store (fault.BadBlock c role)) h = absurd h.0
    added-unsaid now (pin.Store (fault.Clash c x y)) h = absurd h.0
    added-unsaid now (pin.Store fault.Memory) h = inl tt

-- ---- how it is done

some-still : (X : List ℕ → List ℕ) (x y : Told) → KeepsGood X x y → IsSome x → IsSome y
some-still X None y k s = absurd (let e : false ≡ true = s in cc)
some-still X (Some x) None k s = absurd (let e : false ≡ true = k.alike in cc)
some-still X (Some x) (Some y) k s = refl

nil-held : (y : Told) → IsSome y → TellsHeld y []
nil-held None s = absurd (let e : false ≡ true = s in cc)
nil-held (Some y) s = tt

-- a note that isn't read is the cause of that refusal
unread-by : (f : PinFault) (told : Told) → ((t : Contents) → told ≡ Some t → f ≡ pin.BadPins → IsBadNote t.notes.pins) → UnreadBy (Err (pin_refusal f)) told
unread-by pin.BadPins None h = tt
unread-by pin.BadPins (Some t) h = h t refl refl
unread-by pin.TooManyPins told h = tt
unread-by (pin.NotPinned c) told h = tt
unread-by (pin.NotDagPb c why) told h = tt
unread-by pin.TooMany told h = tt
unread-by (pin.Store f) told h = tt

-- what is said of the contents that are told is said of what is held
abbrev SaysOf : PinAsk → Result (List ℕ) Refusal → Told → Type 0
SaysOf ask ends told = (t : Contents) → told ≡ Some t → (listed : Option (List Cid)) → IsReadAs t.notes.pins listed → Says ask ends (held_at t) listed

said-at : (ask : PinAsk) (ends : Result (List ℕ) Refusal) (told : Told) → SaysOf ask ends told → (held : Lookup) → TellsBlocks told held → (listed : Option (List Cid)) → IfSome told (λ t. IsReadAs t.notes.pins listed) → Says ask ends held listed
said-at ask ends None f held tells listed read = absurd tells
said-at ask ends (Some t) f held tells listed read = subst (λ (g : Lookup). Says ask ends g listed) (sym tells) (f t refl listed read)

-- so many touches at most
abbrev Touches : (List ℕ → List ℕ) → (List ℕ → ℕ) → PinAsk → ℕ → ℕ → Type 0
Touches X N ask was is = (p : Profile) (es : Entries) (bytes : List ℕ) (rows : ℕ → ℕ) → IfSome (command_touches X N rows bytes (Pin ask) p es) (λ most. is ≤ was + most)

-- each call on pins reads the note
pins-used : (ask : PinAsk) → uses_pins (Pin ask) ≡ true
pins-used (pins.Add cid) = refl
pins-used (pins.Remove cid) = refl
pins-used pins.List = refl

-- a fault that a call on pins may have
abbrev pub IsOfAsk : PinAsk → PinFault → Type 0
IsOfAsk (pins.Add cid) f = ⊤
IsOfAsk (pins.Remove cid) f = IsOfRemoval f
IsOfAsk pins.List f = IsOfNote f

-- is of a kind with which it may end
ask-kinds : (X : List ℕ → List ℕ) (A : Type 0) (ask : PinAsk) (f : PinFault) (a b : Seen) → IsOfAsk ask f → Shown X NoneIsBad (pin_fault {A = A} (Err f)) a b → may_close (pin_kinds ask) (refusal_kind (pin_refusal f)) ≡ true
ask-kinds X A (pins.Add cid) pin.BadPins a b h s = refl
ask-kinds X A (pins.Add cid) pin.TooManyPins a b h s = refl
ask-kinds X A (pins.Add cid) (pin.NotPinned c) a b h s = refl
ask-kinds X A (pins.Add cid) (pin.NotDagPb c why) a b h s = refl
ask-kinds X A (pins.Add cid) pin.TooMany a b h s = refl
ask-kinds X A (pins.Add cid) (pin.Store fault.Failed) a b h s = refl
ask-kinds X A (pins.Add cid) (pin.Store (fault.Damaged c)) a b h s = refl
ask-kinds X A (pins.Add cid) (pin.Store (fault.Missing c)) a b h s = refl
ask-kinds X A (pins.Add cid) (pin.Store (fault.BadBlock c role)) a b h s = absurd s.bad
ask-kinds X A (pins.Add cid) (pin.Store (fault.Clash c x y)) a b h s = refl
ask-kinds X A (pins.Add cid) (pin.Store fault.Memory) a b h s = refl
ask-kinds X A (pins.Remove cid) pin.BadPins a b h s = refl
ask-kinds X A (pins.Remove cid) pin.TooManyPins a b h s = absurd h
ask-kinds X A (pins.Remove cid) (pin.NotPinned c) a b h s = refl
ask-kinds X A (pins.Remove cid) (pin.NotDagPb c why) a b h s = absurd h
ask-kinds X A (pins.Remove cid) pin.TooMany a b h s = absurd h
ask-kinds X A (pins.Remove cid) (pin.Store fault.Failed) a b h s = refl
ask-kinds X A (pins.Remove cid) (pin.Store (fault.Damaged c)) a b h s = absurd h
ask-kinds X A (pins.Remove cid) (pin.Store (fault.Missing c)) a b h s = absurd h
ask-kinds X A (pins.Remove cid) (pin.Store (fault.BadBlock c role)) a b h s = absurd h
ask-kinds X A (pins.Remove cid) (pin.Store (fault.Clash c x y)) a b h s = absurd h
ask-kinds X A (pins.Remove cid) (pin.Store fault.Memory) a b h s = refl
ask-kinds X A pins.List pin.BadPins a b h s = refl
ask-kinds X A pins.List pin.TooManyPins a b h s = absurd h
ask-kinds X A pins.List (pin.NotPinned c) a b h s = absurd h
ask-kinds X A pins.List (pin.NotDagPb c why) a b h s = absurd h
ask-kinds X A pins.List pin.TooMany a b h s = absurd h
ask-kinds X A pins.List (pin.Store fault.Failed) a b h s = refl
ask-kinds X A pins.List (pin.Store (fault.Damaged c)) a b h s = absurd h
ask-kinds X A pins.List (pin.Store (fault.Missing c)) a b h s = absurd h
ask-kinds X A pins.List (pin.Store (fault.BadBlock c role)) a b h s = absurd h
ask-kinds X A pins.List (pin.Store (fault.Clash c x y)) a b h s = absurd h
ask-kinds X A pins.List (pin.Store fault.Memory) a b h s = refl

-- the note of pins alone isn't ready
bad-pins : (f : PinFault) → status_of (pin_refusal f) ≡ status.NotReady → f ≡ pin.BadPins
bad-pins pin.BadPins is = refl
bad-pins pin.TooManyPins is = absurd cc
bad-pins (pin.NotPinned c) is = absurd cc
bad-pins (pin.NotDagPb c why) is = absurd cc
bad-pins pin.TooMany is = absurd cc
bad-pins (pin.Store f) is = absurd (store-unready f is)

module _ (X : List ℕ → List ℕ) (N : List ℕ → ℕ) (ask : PinAsk) (a b : Seen) (l : streams.Told) (i : ℕ) (h : streams.Told) (w t0 t1 : ℕ) (side : HostSide) (er er2 : SinkSide) where
  -- what every fault of a call on pins has
  record IsFault (f : PinFault) : Type 0 where
    other : refusal_kind (pin_refusal f) ≢ OfWrite
    kinds : may_close (pin_kinds ask) (refusal_kind (pin_refusal f)) ≡ true
    ready : IsReadyBy a.told (Pin ask) (pin_refusal f)
    reads : Counts (is_read {A = Unit {0}} (Err (pin_refusal f))) i i
    shown : Shown X NoneIsBad (fault_behind (pin_refusal f)) a b
    blameless : IsBlaming (fault_behind (pin_refusal f)) → ⊥

  fault-of : (A : Type 0) (f : PinFault) → may_close (pin_kinds ask) (refusal_kind (pin_refusal f)) ≡ true → Shown X NoneIsBad (pin_fault {A = A} (Err f)) a b → IsFault f
  fault-of A pin.BadPins kind s = record { other = λ e. cc; kinds = kind; ready = tt; reads = counts-still i; shown = s; blameless = λ x. x }
  fault-of A pin.TooManyPins kind s = record { other = λ e. cc; kinds = kind; ready = tt; reads = counts-still i; shown = s; blameless = λ x. x }
  fault-of A (pin.NotPinned c) kind s = record { other = λ e. cc; kinds = kind; ready = tt; reads = counts-still i; shown = s; blameless = λ x. x }
  fault-of A (pin.NotDagPb c why) kind s = record { other = λ e. cc; kinds = kind; ready = tt; reads = counts-still i; shown = s; blameless = λ x. x }
  fault-of A pin.TooMany kind s = record { other = λ e. cc; kinds = kind; ready = tt; reads = counts-still i; shown = s; blameless = λ x. x }
  fault-of A (pin.Store fault.Failed) kind s = record { other = λ e. cc; kinds = kind; ready = tt; reads = counts-still i; shown = s; blameless = λ x. x }
  fault-of A (pin.Store (fault.Damaged c)) kind s = record { other = λ e. cc; kinds = kind; ready = tt; reads = counts-still i; shown = s; blameless = λ x. x }
  fault-of A (pin.Store (fault.Missing c)) kind s = record { other = λ e. cc; kinds = kind; ready = tt; reads = counts-still i; shown = s; blameless = λ x. x }
  fault-of A (pin.Store (fault.BadBlock c role)) kind s = absurd s.bad
  fault-of A (pin.Store (fault.Clash c x y)) kind s = record { other = λ e. cc; kinds = kind; ready = tt; reads = counts-still i; shown = s; blameless = λ x. x }
  fault-of A (pin.Store fault.Memory) kind s = record { other = λ e. cc; kinds = kind; ready = tt; reads = counts-still i; shown = s; blameless = λ x. x }

  -- it is refused, and nothing is printed
  pub pin-refused : (A : Type 0) (f : PinFault) → IsOfAsk ask f → SaysOf ask (Err (pin_refusal f)) a.told → Shown X NoneIsBad (pin_fault {A = A} (Err f)) a b → WritesAs X (pin_writes ask) false a.told b.told → UnreadBy (Err (pin_refusal f)) a.told
      → (f ≡ pin.BadPins → b.told ≡ a.told) → Touches X N ask t0 t1 → Does X N (Pin ask) (Err (pin_refusal f)) (around a l i h w t0 side er) (around b l i h w t1 side er2)
  pin-refused A f may says cause writes unread alone touch =
      let is = fault-of A f (ask-kinds X A ask f a b may cause) cause in
      let quiet = quiet-of (IsTextOf X N a.told b.told side.told (Pin ask) l) false (pin_refusal f) is.other in
      record {
        answers = λ world finds input calm. answered is world finds.stands calm.store (said-at ask (Err (pin_refusal f)) a.told says world.held finds.held world.pins (input.2 (pins-used ask)));
        lost = λ p es rows held outside named tells heights input calm. over is p es held outside named calm.store (said-at ask (Err (pin_refusal f)) a.told says held tells outside.pins (input.2 (pins-used ask)));
        unprinted = λ world after. absurd cc;
        unprinted_over = λ p es held outside after. absurd cc;
        prefix = λ world finds input room. nothing-printed (reply X N (Pin ask) world).ends h h refl;
        prints = quiet.prints h h refl;
        kinds = is.kinds;
        ready = is.ready;
        long = tt;
        reads = is.reads;
        host = refl;
        gets = tt;
        pins = (left-undone ask (status_of (pin_refusal f)) a.told b.told quiet.undone (undone-pins X ask a.told b.told writes), unread);
        kept = tt;
        writes = subst (λ f. RisesFor f w w) (sym quiet.unwritten) (record { rose = λ e. absurd cc; still = λ e. refl });
        cause = shown-by X NoneIsBad (IsBadIn X N a.told b.told) (fault_behind (pin_refusal f)) a b (λ role bytes bad. absurd bad) is.shown;
        whole = λ s needs stands calm. absurd cc;
        touches = λ p es bytes rows named input heights calm. touch p es bytes rows;
        touched = λ blames. absurd (is.blameless blames);
        unready = λ e given. record { told = alone (bad-pins f given); left = refl; reads = refl };
        unplaced = λ p es names stood none. absurd none;
        leaves = record { head = head; writes = subst (λ d. WritesAs X (pin_writes ask) d a.told b.told) (sym quiet.undone) writes; idle = λ p es bytes stands calm is. absurd cc };
      }
    where
      good : KeepsGood X a.told b.told
      good = shape-good X (pin_writes ask) false a.told b.told writes

      head : head_in b.told ≡ head_in a.told
      head = pins-head X ask false a.told b.told writes

      answered : IsFault f → (world : World) → IsSome a.told → Calm a b → Says ask (Err (pin_refusal f)) world.held world.pins → DoesAnswer X N (Pin ask) world (Err (pin_refusal f)) h h b.told side.told
      answered is world some calm (inl own) = inl (record { ends_are = ap (λ (r : Refusal). Err r) (own-wants X a b (pin_refusal f) own is.shown calm); stands = some-still X a.told b.told good some })
      answered is world some calm (inr e) = inr (
        record { ends = subst (λ x. EndsBy x (Err (pin_refusal f)) h h) (sym e) (refl, refl); stands = some-still X a.told b.told good some; blocks = nil-held b.told (some-still X a.told b.told good some) },
        tt,
      )

      over : IsFault f → (p : Profile) (es : Entries) (held : Lookup) (outside : Outside) → StaysNamed X N a.told b.told p es → Calm a b → Says ask (Err (pin_refusal f)) held outside.pins
          → DoesOver X N a.told b.told p es [] (reply X N (Pin ask) (in_world p es held outside)) (Err (pin_refusal f)) h h
      over is p es held outside named calm (inl own) = inl (record {
        fault = fault.Memory;
        ends_are = ap (λ (r : Refusal). Err r) (own-wants X a b (pin_refusal f) own is.shown calm);
        loss = tt;
        stands = names-kept X N a.told b.told p es good head named;
      })
      over is p es held outside named calm (inr e) = inr (record { ends = subst (λ x. EndsBy x (Err (pin_refusal f)) h h) (sym e) (refl, refl); stands = names-kept X N a.told b.told p es good head named })

  -- it is done, and its text printed
  pub pin-done : (text : List ℕ) (h2 : streams.Told) (v : ℕ) → SaysOf ask (Ok text) a.told → StaysCalm a b → WritesAs X (pin_writes ask) true a.told b.told → PinsLeft ask status.Ok a.told b.told → IsPinText a.told ask text
      → h2 ≡ after h text → Counts false w v → Touches X N ask t0 t1 → Does X N (Pin ask) (Ok tt) (around a l i h w t0 side er) (around b l i h2 v t1 side er2)
  pin-done text h2 v says calm writes left text_is sent counts touch = record {
    answers = λ world finds input quiet. inr (
      record {
        ends = subst (λ x. EndsBy x (Ok tt) h h2) (sym (said world.held finds.held world.pins (input.2 (pins-used ask)))) (refl, sent);
        stands = some-still X a.told b.told good finds.stands;
        blocks = nil-held b.told (some-still X a.told b.told good finds.stands);
      },
      tt,
    );
    lost = λ p es rows held outside named tells heights input quiet. inr (record {
      ends = subst (λ x. EndsBy x (Ok tt) h h2) (sym (said held tells outside.pins (input.2 (pins-used ask)))) (refl, sent);
      stands = names-kept X N a.told b.told p es good head named;
    });
    unprinted = λ world after. absurd cc;
    unprinted_over = λ p es held outside after. absurd cc;
    prefix = λ world finds input room. subst (λ x. PrintsPart x h h2) (sym (said world.held finds.held world.pins (input.2 (pins-used ask)))) (whole-printed text h h2 sent);
    prints = (text, text_is, sent);
    kinds = tt;
    ready = tt;
    long = tt;
    reads = counts-still i;
    host = refl;
    gets = tt;
    pins = (left, tt);
    kept = tt;
    writes = record { rose = counts.rose; still = counts.still };
    cause = calm;
    whole = λ s needs stands quiet. absurd cc;
    touches = λ p es bytes rows named input heights quiet. touch p es bytes rows;
    touched = λ blames. absurd blames;
    unready = λ e is. absurd cc;
    unplaced = λ p es names stood none. absurd none;
    leaves = record { head = tt; writes = writes; idle = λ p es bytes stands quiet is. absurd cc };
  }
    where
      good : KeepsGood X a.told b.told
      good = shape-good X (pin_writes ask) true a.told b.told writes

      head : head_in b.told ≡ head_in a.told
      head = pins-head X ask true a.told b.told writes

      said : (held : Lookup) → TellsBlocks a.told held → (listed : Option (List Cid)) → IfSome a.told (λ t. IsReadAs t.notes.pins listed) → pins_told ask held listed ≡ Ok text
      said = said-at ask (Ok text) a.told says

-- ---- the three commands

told-each : (A : Contents → Type 0) (told : Told) → ((t : Contents) → told ≡ Some t → A t) → IfSome told A
told-each A None f = tt
told-each A (Some t) f = f t refl

after-none : (held : streams.Told) → held ≡ after held []
after-none held = after-nothing held

module _ (X : List ℕ → List ℕ) (N : List ℕ → ℕ) (a b : Seen) (l : streams.Told) (i : ℕ) (h : streams.Told) (w t0 t1 : ℕ) (side : HostSide) (er er2 : SinkSide) where
  pub adds : (cid : Cid) (r : Result (Unit {0}) PinFault) → ((t : Contents) → a.told ≡ Some t → AddsPin t most_blocks cid r b.told) → WritesMore r a.told b.told → (r ≡ Err pin.BadPins → b.told ≡ a.told) → Shown X NoneIsBad (pin_fault r) a b
      → Does X N (Pin (pins.Add cid)) (refused-as r) (around a l i h w t0 side er) (around b l i h w t1 side er2)
  adds cid (Ok done) added writes unread cause =
      pin-done X N (pins.Add cid) a b l i h w t0 t1 side er er2 [] h w (λ t is listed read. added-said t listed read cid b.told (added t is)) cause writes (told-each (λ t. PinsBelow t most_blocks cid b.told) a.told added) refl (after-none h)
      (counts-still w) (λ p es bytes rows. tt)
  adds cid (Err f) added writes unread cause =
      pin-refused X N (pins.Add cid) a b l i h w t0 t1 side er er2 (Unit {0}) f tt (λ t is listed read. added-unsaid t listed read cid b.told f (added t is)) cause writes
      (unread-by f a.told (λ t is bad. (subst (λ g. AddsPin t most_blocks cid (Err g) b.told) bad (added t is)).0)) (λ bad. unread (ap (λ (g : PinFault). Err g) bad)) (λ p es bytes rows. tt)

module _ (X : List ℕ → List ℕ) (N : List ℕ → ℕ) (a b : Seen) (l : streams.Told) (i : ℕ) (h : streams.Told) (w t0 : ℕ) (side : HostSide) (er er2 : SinkSide) where
  pub removes : (cid : Cid) (r : Result (Unit {0}) PinFault) → IfErr r IsOfRemoval → ((t : Contents) → a.told ≡ Some t → RemovesPin t cid r b.told) → WritesLess r a.told b.told → Shown X NoneIsBad (pin_fault r) a b
      → Does X N (Pin (pins.Remove cid)) (refused-as r) (around a l i h w t0 side er) (around b l i h w t0 side er2)
  removes cid (Ok done) may removed writes cause =
      pin-done X N (pins.Remove cid) a b l i h w t0 t0 side er er2 [] h w (λ t is listed read. removed-said t listed read cid b.told (removed t is)) cause writes (told-each (λ t. Unpins t cid b.told) a.told removed) refl (after-none h)
      (counts-still w) (λ p es bytes rows. omega arith)
  removes cid (Err f) may removed writes cause =
      pin-refused X N (pins.Remove cid) a b l i h w t0 t0 side er er2 (Unit {0}) f may (λ t is listed read. removed-unsaid t listed read cid b.told f (removed t is)) cause writes
      (unread-by f a.told (λ t is bad. (subst (λ g. RemovesPin t cid (Err g) b.told) bad (removed t is)).0)) (λ bad. writes) (λ p es bytes rows. omega arith)

  -- the list isn't read, or there was no memory for its text
  pub unlisted : (f : PinFault) → IsOfNote f → ((t : Contents) → a.told ≡ Some t → ListsPins t.notes.pins (Err f)) → Shown X NoneIsBad (pin_fault {A = List Cid} (Err f)) a b → b.told ≡ a.told
      → Does X N (Pin pins.List) (Err (pin_refusal f)) (around a l i h w t0 side er) (around b l i h w t0 side er2)
  unlisted f may listed cause same =
      pin-refused X N pins.List a b l i h w t0 t0 side er er2 (List Cid) f may (λ t is listed' read. list-unsaid t listed' read f (listed t is)) cause same
      (unread-by f a.told (λ t is bad. subst (λ g. ListsPins t.notes.pins (Err g)) bad (listed t is))) (λ bad. same) (λ p es bytes rows. omega arith)

  module _ (x : List Cid) (lists : (t : Contents) → a.told ≡ Some t → ListsPins t.notes.pins (Ok x)) (calm : StaysCalm a b) (same : b.told ≡ a.told) where
    pub no-text : Does X N (Pin pins.List) (Err no_memory) (around a l i h w t0 side er) (around b l i h w t0 side er2)
    no-text =
        pin-refused X N pins.List a b l i h w t0 t0 side er er2 (List Cid) (pin.Store fault.Memory) tt (λ t is listed read. inl tt) (calm-memory a b calm) same tt (λ bad. same) (λ p es bytes rows. omega arith)

    abbrev text : List ℕ
    text = flat_map cid_line x

    text-is : IsPinText a.told pins.List text
    text-is = told-each (λ t. (listed : List Cid) × Lists t.notes.pins listed × (text ≡ flat_map cid_line listed)) a.told (λ t is. (x, lists t is, refl))

    says : SaysOf pins.List (Ok text) a.told
    says t is listed read = list-said t listed read x (lists t is)

    module _ (h2 : streams.Told) (v : ℕ) where
      cut : IsCut text refusal.Write h h2 w v → Does X N (Pin pins.List) (Err refusal.Write) (around a l i h w t0 side er) (around b l i h2 v t0 side er2)
      cut c = record {
        answers = λ world finds input quiet. absurd (not-rose w v (c.counts.rose refl) quiet.written.output);
        lost = λ p es rows held outside named tells heights input quiet. absurd (not-rose w v (c.counts.rose refl) quiet.written.output);
        unprinted = λ world after. absurd cc;
        unprinted_over = λ p es held outside after. absurd cc;
        prefix = λ world finds input room. subst (λ x. PrintsPart x h h2) (sym (said-at pins.List (Ok text) a.told says world.held finds.held world.pins (input.2 refl))) c.printed;
        prints = (text, text-is, c.printed);
        kinds = refl;
        ready = tt;
        long = tt;
        reads = counts-still i;
        host = refl;
        gets = tt;
        pins = (ap pins_in same, tt);
        kept = tt;
        writes = record { rose = c.counts.rose; still = c.counts.still };
        cause = calm;
        whole = λ s needs stands quiet. absurd cc;
        touches = λ p es bytes rows named input heights quiet. omega arith;
        touched = λ blames. absurd blames;
        unready = λ e is. absurd cc;
        unplaced = λ p es names stood none. absurd none;
        leaves = record { head = ap head_in same; writes = same; idle = λ p es bytes stands quiet is. absurd cc };
      }

      pub lists-done : (r : Result (Unit {0}) Refusal) → Prints text r h h2 w v → Does X N (Pin pins.List) r (around a l i h w t0 side er) (around b l i h2 v t0 side er2)
      lists-done (Ok done) p = pin-done X N pins.List a b l i h w t0 t0 side er er2 text h2 v says calm same (ap pins_in same) text-is p.0 p.1 (λ p es bytes rows. omega arith)
      lists-done (Err why) c =
          let e = c.write in
          subst (λ (r : Refusal). Does X N (Pin pins.List) (Err r) (around a l i h w t0 side er) (around b l i h2 v t0 side er2)) (sym e) (cut (subst (λ (r : Refusal). IsCut text r h h2 w v) e c))

-- what was asked, and what was answered, under other names
pub as-asked : (X : List ℕ → List ℕ) (N : List ℕ → ℕ) (a b : Around) (given ask : PinAsk) → given ≡ ask → (r s : Result (Unit {0}) Refusal) → r ≡ s → Does X N (Pin ask) s a b → Does X N (Pin given) r a b
as-asked X N a b given ask is r s same does = subst (λ k. Does X N (Pin k) r a b) (sym is) (subst (λ d. Does X N (Pin ask) d a b) (sym same) does)
