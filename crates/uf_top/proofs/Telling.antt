-- From how a command was done to what is told of it.
use Rattle.std.proofs.Common.{◌≡◌, ◌⊎◌, ℕ, ◌<◌, List, [], true, false, arith, refl, sym, ap, subst, ◌∙◌, inl, inr, Some, None, Bool, Result, Ok, Err}
use Rattle.std.specs.Prelude.{◌&&◌, ◌||◌, not, IfErr, IfSome}
use Rattle.uf_cid.specs.Blocks.{Lookup}
use Rattle.uf_cid.specs.declared.cid.Cid.{Cid}
use Rattle.uf_edge.specs.Counts.{Counts, Stood}
use Rattle.uf_edge.specs.Host.{HostTold}
use Rattle.uf_edge.specs.Streams as streams
use Rattle.uf_mfs.specs.Standing.{NamesOver, TellsAs, head_in}
use Rattle.uf_store.specs.Calls.{Calm}
use Rattle.uf_path.specs.declared.path.DagPath.{DagPath}
use Rattle.uf_store.specs.Contents.{Told, changed, held_at, with_sync}
use Rattle.uf_store.specs.Faults.{Shown, ShowsClash, ShowsMissing}
use Rattle.uf_store.specs.Keeping.{KeepsGood}
use Rattle.uf_store.specs.Seen.{Seen}
use Rattle.uf_store.specs.declared.store.Role.{Role}
use Rattle.uf_store.specs.declared.store.StoreFault.TheVariants as fault
use Rattle.uf_tree.specs.Standing.{Standing}
use Rattle.uf_tree.specs.Tree.{Dir, Entries}
use Rattle.uf_tree.specs.TreePlan.{blocks}
use Rattle.uf_tree.specs.declared.profile.Profile.{Profile}
use Rattle.uf_command.specs.Commands.{HasInput, is_idle}
use Rattle.uf_command.specs.Natures.{command_writes, needs_standing, own_store, reads_tree_alone, uses_host, writes_host, OwnStore, NoStore, OfCarSections, OfTree, prints_after}
use Rattle.uf_command.specs.Natures.{streams as flows}
use Rattle.uf_command.specs.Kinds.{IsOf, OfCar, OfClash, OfHost, OfLongInput, OfMissing, OfPath, OfPins, OfReady, OfRule, OfUsage, fault_behind, may_close, refusal_kind}
use Rattle.uf_command.specs.Natures.{kinds_of, may_end, may_give}
use Rattle.uf_command.specs.Lines.{line_of, said}
use Rattle.uf_top.specs.Reply.{Outside, World, in_world, outside_of, reply}
use Rattle.uf_command.specs.Statuses.{ended, no_memory, plain_line, status_of}
use Rattle.uf_command.specs.declared.status.Status.{Status}
use Rattle.uf_command.specs.declared.status.Status.TheVariants as status
use Rattle.uf_command.specs.declared.types.Command.{Command}
use Rattle.uf_command.specs.declared.types.Command.TheVariants.{Init, Add, WriteInput, At, Read, Cat, Get, Export, Import, Same, Adopt, Gen, Pin, Prove}
use Rattle.uf_command.specs.declared.types.Adding.TheVariants as adding
use Rattle.uf_command.specs.declared.types.PinAsk.{PinAsk}
use Rattle.uf_command.specs.declared.types.PinAsk.TheVariants as pins
use Rattle.uf_command.specs.declared.types.Refusal.{Refusal}
use Rattle.uf_command.specs.declared.types.Refusal.TheVariants as refusal
use Rattle.uf_top.specs.Answering.{DoesAnswer, LeavesNext}
use Rattle.uf_top.specs.Around.{AllWritten, Around, CountsCanRise, HasOutside, HostSide, LeavesAlone, MetNone, RisesFor, RoseAt, Said, TakesHost}
use Rattle.uf_top.specs.Cars.{ByOwnStore, IsClashing, IsMissing, IsOwnClash, LacksSection}
use Rattle.uf_top.specs.Caused.{BlamesWhereRead, StatusShows}
use Rattle.uf_top.specs.Causes.{IsBadBlock, IsBadIn, IsSynced, is_read, is_write, KeepsHead}
use Rattle.uf_top.specs.Endings.{EndsAs, EndsBy, FindsAll, IsRefusedBy, IsSyncedFor, IsTextOf, KeptFor, PinsUnread, PrintsAll, PrintsAt, PrintsPart, SaysPlain, may_move}
use Rattle.uf_command.specs.Telling.{TellsEnd, TellsWhy, has_details}
use Rattle.uf_top.specs.Getting.{GetsFor, LeavesAt}
use Rattle.uf_top.specs.Naming.{FindsOver, FindsWorld, StandsIf, StandsNamed, StaysNamed}
use Rattle.uf_top.specs.Pins.{PinsAfter, PinsFor, PinsLeft}
use Rattle.uf_top.specs.Placing.{HasNoSpot}
use Rattle.uf_top.specs.Shapes.{SyncsAfter, WritesAs, is_done}
use Rattle.uf_top.specs.Working.{Does}
use Rattle.uf_top.proofs.Fronts.{kept-by}
use Rattle.uf_top.proofs.Pins.{pins-after}
use Rattle.uf_store.proofs.Calls.{shown-by}
use Rattle.uf_top.proofs.Shows.{bad-anywhere, blamed-block, blaming-of}
use Rattle.uf_top.proofs.Standings.{stands-kept}
use Rattle.uf_top.proofs.Wrote.{shape-good}

-- ---- which kinds no command has

no-path : (command : Command) → may_close (kinds_of command) OfPath ≡ true → ⊥
no-path (Init p) h = cc
no-path (Add (adding.Input only_hash)) h = cc
no-path (WriteInput how path) h = cc
no-path (At ask path) h = cc
no-path (Read offset count path) h = cc
no-path (Prove absent path) h = cc
no-path (Cat path) h = cc
no-path (Get path host_path) h = cc
no-path (Export cid) h = cc
no-path Import h = cc
no-path (Same cid) h = cc
no-path (Adopt source dest) h = cc
no-path (Gen n seed) h = cc
no-path (Pin (pins.Add cid)) h = cc
no-path (Pin (pins.Remove cid)) h = cc
no-path (Pin pins.List) h = cc
no-path (Add (adding.InputTo dest)) h = cc
no-path (Add (adding.HostTo recursive path dest)) h = cc
no-path (Add (adding.Host recursive only_hash path)) h = cc

no-usage : (command : Command) → may_close (kinds_of command) OfUsage ≡ true → ⊥
no-usage (Init p) h = cc
no-usage (Add (adding.Input only_hash)) h = cc
no-usage (WriteInput how path) h = cc
no-usage (At ask path) h = cc
no-usage (Read offset count path) h = cc
no-usage (Prove absent path) h = cc
no-usage (Cat path) h = cc
no-usage (Get path host_path) h = cc
no-usage (Export cid) h = cc
no-usage Import h = cc
no-usage (Same cid) h = cc
no-usage (Adopt source dest) h = cc
no-usage (Gen n seed) h = cc
no-usage (Pin (pins.Add cid)) h = cc
no-usage (Pin (pins.Remove cid)) h = cc
no-usage (Pin pins.List) h = cc
no-usage (Add (adding.InputTo dest)) h = cc
no-usage (Add (adding.HostTo recursive path dest)) h = cc
no-usage (Add (adding.Host recursive only_hash path)) h = cc

-- a command that generates a tree meets no clash in the store
tree-clashes : (command : Command) → may_end command OfClash ≡ true → own_store command ≡ OfTree → ⊥
tree-clashes (Init p) h own = cc
tree-clashes (Add (adding.Input only_hash)) h own = cc
tree-clashes (WriteInput how path) h own = cc
tree-clashes (At ask path) h own = cc
tree-clashes (Read offset count path) h own = cc
tree-clashes (Prove absent path) h own = cc
tree-clashes (Cat path) h own = cc
tree-clashes (Get path host_path) h own = cc
tree-clashes (Export cid) h own = cc
tree-clashes Import h own = cc
tree-clashes (Same cid) h own = cc
tree-clashes (Adopt source dest) h own = cc
tree-clashes (Gen n seed) h own = cc
tree-clashes (Pin ask) h own = cc
tree-clashes (Add (adding.InputTo dest)) h own = cc
tree-clashes (Add (adding.HostTo recursive path dest)) h own = cc
tree-clashes (Add (adding.Host recursive only_hash path)) h own = cc

-- ---- a refusal of a kind with which a command may end gives a status that it may give

or-left : (a b : Bool) → a ≡ true → (a || b) ≡ true
or-left true b h = refl
or-left false b h = absurd cc

or-right : (a b : Bool) → b ≡ true → (a || b) ≡ true
or-right true b h = refl
or-right false b h = h

gives : (command : Command) (why : Refusal) → may_end command (refusal_kind why) ≡ true → may_give command (status_of why) ≡ true
gives command (refusal.Rule rule) h = or-left _ _ (or-left _ _ (or-left _ _ (or-left _ _ (or-left _ _ h))))
gives command (refusal.Dag rule) h = or-left _ _ (or-left _ _ (or-left _ _ (or-left _ _ (or-right (may_end command OfRule) _ h))))
gives command (refusal.Host rule) h = or-left _ _ (or-left _ _ (or-left _ _ (or-right _ (may_end command OfHost) h)))
gives command (refusal.BadPath path) h = or-left _ _ (or-left _ _ (or-right _ (may_end command OfPath) h))
gives command refusal.InputTooLong h = or-left _ _ (or-right _ (may_end command OfLongInput) h)
gives command refusal.BadPins h = or-right (may_end command OfReady) _ h
gives command (refusal.Car number place) h = or-right _ (may_end command OfCar) h
gives command refusal.Usage h = h
gives command (refusal.Ready reason) h = or-left _ _ h
gives command refusal.Read h = h
gives command refusal.Write h = h
gives command (refusal.Store fault.Failed) h = h
gives command (refusal.Store (fault.Damaged cid)) h = h
gives command (refusal.Store (fault.Missing cid)) h = or-left _ _ h
gives command (refusal.Store (fault.BadBlock cid role)) h = h
gives command (refusal.Store (fault.Clash cid first second)) h = or-left _ _ h
gives command (refusal.Store fault.Memory) h = h
gives command (refusal.CarLacks cid) h = or-right (may_end command OfMissing) _ h
gives command (refusal.OwnClash cid first second) h = or-right (may_end command OfClash) _ h

-- a line without details is the status's
plain-of : (why : Refusal) → has_details (status_of why) ≡ false → plain_line (status_of why) ≡ line_of why
plain-of (refusal.Rule rule) e = absurd cc
plain-of (refusal.Dag rule) e = absurd cc
plain-of (refusal.Car number place) e = absurd cc
plain-of (refusal.CarLacks cid) e = absurd cc
plain-of (refusal.OwnClash cid first second) e = absurd cc
plain-of (refusal.Host rule) e = absurd cc
plain-of (refusal.BadPath path) e = absurd cc
plain-of refusal.Usage e = refl
plain-of refusal.InputTooLong e = absurd cc
plain-of refusal.BadPins e = absurd cc
plain-of (refusal.Ready reason) e = absurd cc
plain-of refusal.Read e = refl
plain-of refusal.Write e = refl
plain-of (refusal.Store fault.Failed) e = refl
plain-of (refusal.Store (fault.Damaged cid)) e = refl
plain-of (refusal.Store (fault.Missing cid)) e = absurd cc
plain-of (refusal.Store (fault.BadBlock cid role)) e = absurd cc
plain-of (refusal.Store (fault.Clash cid first second)) e = absurd cc
plain-of (refusal.Store fault.Memory) e = refl

-- no refusal ends as Ok, and one that ends as a failed write is that
pub not-ok : (why : Refusal) → status_of why ≡ status.Ok → ⊥
not-ok (refusal.Rule rule) e = cc
not-ok (refusal.Dag rule) e = cc
not-ok (refusal.Car number place) e = cc
not-ok (refusal.CarLacks cid) e = cc
not-ok (refusal.OwnClash cid first second) e = cc
not-ok (refusal.Host rule) e = cc
not-ok (refusal.BadPath path) e = cc
not-ok refusal.Usage e = cc
not-ok refusal.InputTooLong e = cc
not-ok refusal.BadPins e = cc
not-ok (refusal.Ready reason) e = cc
not-ok refusal.Read e = cc
not-ok refusal.Write e = cc
not-ok (refusal.Store fault.Failed) e = cc
not-ok (refusal.Store (fault.Damaged cid)) e = cc
not-ok (refusal.Store (fault.Missing cid)) e = cc
not-ok (refusal.Store (fault.BadBlock cid role)) e = cc
not-ok (refusal.Store (fault.Clash cid first second)) e = cc
not-ok (refusal.Store fault.Memory) e = cc

-- a failed reading is that refusal
read-of : (why : Refusal) → is_read {A = Unit {0}} (Err why) ≡ true → why ≡ refusal.Read
read-of (refusal.Rule rule) is = absurd cc
read-of (refusal.Dag rule) is = absurd cc
read-of (refusal.Car number place) is = absurd cc
read-of (refusal.CarLacks cid) is = absurd cc
read-of (refusal.OwnClash cid first second) is = absurd cc
read-of (refusal.Host rule) is = absurd cc
read-of (refusal.BadPath path) is = absurd cc
read-of refusal.Usage is = absurd cc
read-of refusal.InputTooLong is = absurd cc
read-of refusal.BadPins is = absurd cc
read-of (refusal.Ready reason) is = absurd cc
read-of refusal.Read is = refl
read-of refusal.Write is = absurd cc
read-of (refusal.Store fault.Failed) is = absurd cc
read-of (refusal.Store (fault.Damaged cid)) is = absurd cc
read-of (refusal.Store (fault.Missing cid)) is = absurd cc
read-of (refusal.Store (fault.BadBlock cid role)) is = absurd cc
read-of (refusal.Store (fault.Clash cid first second)) is = absurd cc
read-of (refusal.Store fault.Memory) is = absurd cc

-- a count that rose counts a fault
risen-of : (is_fault : Bool) (i j : ℕ) → Counts is_fault i j → i < j → is_fault ≡ true
risen-of true i j counts more = refl
risen-of false i j counts more = (let e = counts.still refl in absurd (omega (arith, e, more)))

-- where the input's count or the host's rose, a reading failed
input-read : (uses is_fault : Bool) (i j : ℕ) → Counts (not uses && is_fault) i j → i < j → is_fault ≡ true
input-read true is_fault i j counts more = absurd (let e : false ≡ true = risen-of false i j counts more in cc)
input-read false is_fault i j counts more = risen-of is_fault i j counts more

host-read : (writes uses is_fault is_write : Bool) (s t : HostSide) → TakesHost writes uses is_fault is_write s t → s.reads < t.reads → is_fault ≡ true
host-read true uses is_fault is_write s t used more = risen-of is_fault s.reads t.reads used.reads more
host-read false true is_fault is_write s t used more = risen-of is_fault s.reads t.reads used.reads more
host-read false false is_fault is_write s t used more = (let e = ap (λ (x : HostSide). x.reads) used in absurd (omega (arith, e, more)))

-- a failed reading has made one of them rise: what writes to the host uses it
reading-rose : (writes uses is_write : Bool) (i j : ℕ) (s t : HostSide) → (writes ≡ true → uses ≡ true) → Counts (not uses && true) i j → TakesHost writes uses true is_write s t → RoseAt uses i j s.reads t.reads
reading-rose true true is_write i j s t both counts used = used.reads.rose refl
reading-rose true false is_write i j s t both counts used = absurd (let e : false ≡ true = both refl in cc)
reading-rose false true is_write i j s t both counts used = used.reads.rose refl
reading-rose false false is_write i j s t both counts used = counts.rose refl

-- what writes to the host uses it
writing-uses : (command : Command) → writes_host command ≡ true → uses_host command ≡ true
writing-uses (Init p) h = absurd cc
writing-uses (Add (adding.Input only_hash)) h = absurd cc
writing-uses (Add (adding.InputTo dest)) h = absurd cc
writing-uses (Add (adding.HostTo recursive path dest)) h = absurd cc
writing-uses (Add (adding.Host recursive only_hash path)) h = absurd cc
writing-uses (WriteInput how path) h = absurd cc
writing-uses (At ask path) h = absurd cc
writing-uses (Read offset count path) h = absurd cc
writing-uses (Prove absent path) h = absurd cc
writing-uses (Cat path) h = absurd cc
writing-uses (Get path host_path) h = refl
writing-uses (Export cid) h = absurd cc
writing-uses Import h = absurd cc
writing-uses (Same cid) h = absurd cc
writing-uses (Adopt source dest) h = absurd cc
writing-uses (Gen n seed) h = absurd cc
writing-uses (Pin ask) h = absurd cc

-- where the output's count or the host's rose, a writing failed
output-written : (writes is_fault : Bool) (i j : ℕ) → RisesFor (not writes && is_fault) i j → i < j → is_fault ≡ true
output-written true is_fault i j rises more = (let e = rises.still refl in absurd (omega (arith, e, more)))
output-written false true i j rises more = refl
output-written false false i j rises more = (let e = rises.still refl in absurd (omega (arith, e, more)))

host-written : (writes uses is_read is_fault : Bool) (s t : HostSide) → TakesHost writes uses is_read is_fault s t → s.writes < t.writes → is_fault ≡ true
host-written true uses is_read is_fault s t used more = risen-of is_fault s.writes t.writes used.writes more
host-written false true is_read is_fault s t used more = (let e = used.writes in absurd (omega (arith, e, more)))
host-written false false is_read is_fault s t used more = (let e = ap (λ (x : HostSide). x.writes) used in absurd (omega (arith, e, more)))

-- a failed writing has made one of them rise
writing-rose : (writes uses is_read : Bool) (i j : ℕ) (s t : HostSide) → RisesFor (not writes && true) i j → TakesHost writes uses is_read true s t → RoseAt writes i j s.writes t.writes
writing-rose true uses is_read i j s t rises used = used.writes.rose refl
writing-rose false uses is_read i j s t rises used = rises.rose refl

-- what doesn't write to the host leaves what it tells
host-same : (writes uses is_read is_write : Bool) (s t : HostSide) → writes ≡ false → TakesHost writes uses is_read is_write s t → t.told ≡ s.told
host-same true uses is_read is_write s t none used = absurd cc
host-same false true is_read is_write s t none used = used.told
host-same false false is_read is_write s t none used = ap (λ (x : HostSide). x.told) used

-- a failed writing is that refusal
write-of : (why : Refusal) → is_write {A = Unit {0}} (Err why) ≡ true → why ≡ refusal.Write
write-of (refusal.Rule rule) is = absurd cc
write-of (refusal.Dag rule) is = absurd cc
write-of (refusal.Car number place) is = absurd cc
write-of (refusal.CarLacks cid) is = absurd cc
write-of (refusal.OwnClash cid first second) is = absurd cc
write-of (refusal.Host rule) is = absurd cc
write-of (refusal.BadPath path) is = absurd cc
write-of refusal.Usage is = absurd cc
write-of refusal.InputTooLong is = absurd cc
write-of refusal.BadPins is = absurd cc
write-of (refusal.Ready reason) is = absurd cc
write-of refusal.Read is = absurd cc
write-of refusal.Write is = refl
write-of (refusal.Store fault.Failed) is = absurd cc
write-of (refusal.Store (fault.Damaged cid)) is = absurd cc
write-of (refusal.Store (fault.Missing cid)) is = absurd cc
write-of (refusal.Store (fault.BadBlock cid role)) is = absurd cc
write-of (refusal.Store (fault.Clash cid first second)) is = absurd cc
write-of (refusal.Store fault.Memory) is = absurd cc

-- a risen count of the store is behind its fault
module _ (hash : List ℕ → List ℕ) (P : Role → List ℕ → Type 0) (a b : Seen) where
  failure-of : (why : Refusal) → Shown hash P (fault_behind why) a b → a.faults < b.faults → status_of why ≡ status.StoreFault
  failure-of (refusal.Rule rule) h more = (let e = h.faults in absurd (omega (arith, e, more)))
  failure-of (refusal.Dag rule) h more = (let e = h.faults in absurd (omega (arith, e, more)))
  failure-of (refusal.Car number place) h more = (let e = h.faults in absurd (omega (arith, e, more)))
  failure-of (refusal.CarLacks cid) h more = (let e = h.faults in absurd (omega (arith, e, more)))
  failure-of (refusal.OwnClash cid first second) h more = (let e = h.faults in absurd (omega (arith, e, more)))
  failure-of (refusal.Host rule) h more = (let e = h.faults in absurd (omega (arith, e, more)))
  failure-of (refusal.BadPath path) h more = (let e = h.faults in absurd (omega (arith, e, more)))
  failure-of refusal.Usage h more = (let e = h.faults in absurd (omega (arith, e, more)))
  failure-of refusal.InputTooLong h more = (let e = h.faults in absurd (omega (arith, e, more)))
  failure-of refusal.BadPins h more = (let e = h.faults in absurd (omega (arith, e, more)))
  failure-of (refusal.Ready reason) h more = (let e = h.faults in absurd (omega (arith, e, more)))
  failure-of refusal.Read h more = (let e = h.faults in absurd (omega (arith, e, more)))
  failure-of refusal.Write h more = (let e = h.faults in absurd (omega (arith, e, more)))
  failure-of (refusal.Store fault.Failed) h more = refl
  failure-of (refusal.Store (fault.Damaged cid)) h more = refl
  failure-of (refusal.Store (fault.Missing cid)) h more = (let e = h.calm.faults in absurd (omega (arith, e, more)))
  failure-of (refusal.Store (fault.BadBlock cid role)) h more = (let e = h.calm.faults in absurd (omega (arith, e, more)))
  failure-of (refusal.Store (fault.Clash cid first second)) h more = (let e = h.faults in absurd (omega (arith, e, more)))
  failure-of (refusal.Store fault.Memory) h more = (let e = h.faults in absurd (omega (arith, e, more)))

  clash-of : (why : Refusal) → Shown hash P (fault_behind why) a b → a.clashes < b.clashes → (status_of why ≡ status.Clash) ⊎ (status_of why ≡ status.Memory)
  clash-of (refusal.Rule rule) h more = (let e = h.clashes in absurd (omega (arith, e, more)))
  clash-of (refusal.Dag rule) h more = (let e = h.clashes in absurd (omega (arith, e, more)))
  clash-of (refusal.Car number place) h more = (let e = h.clashes in absurd (omega (arith, e, more)))
  clash-of (refusal.CarLacks cid) h more = (let e = h.clashes in absurd (omega (arith, e, more)))
  clash-of (refusal.OwnClash cid first second) h more = (let e = h.clashes in absurd (omega (arith, e, more)))
  clash-of (refusal.Host rule) h more = (let e = h.clashes in absurd (omega (arith, e, more)))
  clash-of (refusal.BadPath path) h more = (let e = h.clashes in absurd (omega (arith, e, more)))
  clash-of refusal.Usage h more = (let e = h.clashes in absurd (omega (arith, e, more)))
  clash-of refusal.InputTooLong h more = (let e = h.clashes in absurd (omega (arith, e, more)))
  clash-of refusal.BadPins h more = (let e = h.clashes in absurd (omega (arith, e, more)))
  clash-of (refusal.Ready reason) h more = (let e = h.clashes in absurd (omega (arith, e, more)))
  clash-of refusal.Read h more = (let e = h.clashes in absurd (omega (arith, e, more)))
  clash-of refusal.Write h more = (let e = h.clashes in absurd (omega (arith, e, more)))
  clash-of (refusal.Store fault.Failed) h more = (let e = h.clashes in absurd (omega (arith, e, more)))
  clash-of (refusal.Store (fault.Damaged cid)) h more = (let e = h.clashes in absurd (omega (arith, e, more)))
  clash-of (refusal.Store (fault.Missing cid)) h more = (let e = h.calm.clashes in absurd (omega (arith, e, more)))
  clash-of (refusal.Store (fault.BadBlock cid role)) h more = (let e = h.calm.clashes in absurd (omega (arith, e, more)))
  clash-of (refusal.Store (fault.Clash cid first second)) h more = inl refl
  clash-of (refusal.Store fault.Memory) h more = inr refl

-- a command that may say that the note of pins isn't read is one on pins
pins-unread : (command : Command) (a b : Told) → may_close (kinds_of command) OfPins ≡ true → PinsFor command (Err refusal.BadPins) a b → PinsUnread command a
pins-unread (Init profile) a b h p = absurd cc
pins-unread (Add (adding.Input only_hash)) a b h p = absurd cc
pins-unread (Add (adding.InputTo dest)) a b h p = absurd cc
pins-unread (Add (adding.HostTo recursive path dest)) a b h p = absurd cc
pins-unread (Add (adding.Host recursive only_hash path)) a b h p = absurd cc
pins-unread (WriteInput how path) a b h p = absurd cc
pins-unread (At ask path) a b h p = absurd cc
pins-unread (Read offset count path) a b h p = absurd cc
pins-unread (Prove absent path) a b h p = absurd cc
pins-unread (Cat path) a b h p = absurd cc
pins-unread (Get path host_path) a b h p = absurd cc
pins-unread (Export cid) a b h p = absurd cc
pins-unread Import a b h p = absurd cc
pins-unread (Same cid) a b h p = absurd cc
pins-unread (Adopt source dest) a b h p = absurd cc
pins-unread (Gen n seed) a b h p = absurd cc
pins-unread (Pin ask) a b h p = p.1

-- what a detailed status leaves of the note of pins, want of memory leaves too
detailed-left-pins : (ask : PinAsk) (a b : Told) (s : Status) → has_details s ≡ true → PinsLeft ask s a b → PinsLeft ask status.Memory a b
detailed-left-pins (pins.Add cid) a b status.Ok h left = absurd cc
detailed-left-pins (pins.Add cid) a b status.Rule h left = left
detailed-left-pins (pins.Add cid) a b status.Usage h left = left
detailed-left-pins (pins.Add cid) a b status.StoreFault h left = left
detailed-left-pins (pins.Add cid) a b status.Missing h left = left
detailed-left-pins (pins.Add cid) a b status.BadBlock h left = left
detailed-left-pins (pins.Add cid) a b status.ReadFault h left = left
detailed-left-pins (pins.Add cid) a b status.WriteFault h left = left
detailed-left-pins (pins.Add cid) a b status.Clash h left = left
detailed-left-pins (pins.Add cid) a b status.Memory h left = left
detailed-left-pins (pins.Add cid) a b status.NotReady h left = left
detailed-left-pins (pins.Remove cid) a b status.Ok h left = absurd cc
detailed-left-pins (pins.Remove cid) a b status.Rule h left = left
detailed-left-pins (pins.Remove cid) a b status.Usage h left = left
detailed-left-pins (pins.Remove cid) a b status.StoreFault h left = left
detailed-left-pins (pins.Remove cid) a b status.Missing h left = left
detailed-left-pins (pins.Remove cid) a b status.BadBlock h left = left
detailed-left-pins (pins.Remove cid) a b status.ReadFault h left = left
detailed-left-pins (pins.Remove cid) a b status.WriteFault h left = left
detailed-left-pins (pins.Remove cid) a b status.Clash h left = left
detailed-left-pins (pins.Remove cid) a b status.Memory h left = left
detailed-left-pins (pins.Remove cid) a b status.NotReady h left = left
detailed-left-pins pins.List a b status.Ok h left = absurd cc
detailed-left-pins pins.List a b status.Rule h left = left
detailed-left-pins pins.List a b status.Usage h left = left
detailed-left-pins pins.List a b status.StoreFault h left = left
detailed-left-pins pins.List a b status.Missing h left = left
detailed-left-pins pins.List a b status.BadBlock h left = left
detailed-left-pins pins.List a b status.ReadFault h left = left
detailed-left-pins pins.List a b status.WriteFault h left = left
detailed-left-pins pins.List a b status.Clash h left = left
detailed-left-pins pins.List a b status.Memory h left = left
detailed-left-pins pins.List a b status.NotReady h left = left

pub detailed-pins : (command : Command) (why : Refusal) (a b : Told) → has_details (status_of why) ≡ true → PinsFor command (Err why) a b → PinsFor command (Err no_memory) a b
detailed-pins (Init profile) why a b h p = tt
detailed-pins (Add what) why a b h p = tt
detailed-pins (WriteInput how path) why a b h p = tt
detailed-pins (At ask path) why a b h p = tt
detailed-pins (Read offset count path) why a b h p = tt
detailed-pins (Prove absent path) why a b h p = tt
detailed-pins (Cat path) why a b h p = tt
detailed-pins (Get path host_path) why a b h p = tt
detailed-pins (Export cid) why a b h p = tt
detailed-pins Import why a b h p = tt
detailed-pins (Same cid) why a b h p = tt
detailed-pins (Adopt source dest) why a b h p = tt
detailed-pins (Gen n seed) why a b h p = tt
detailed-pins (Pin ask) why a b h p = (detailed-left-pins ask a b (status_of why) h p.0, tt)

-- what was synced last is
synced-last : (mid now : Told) → now ≡ changed with_sync mid → IsSynced now
synced-last None now e = subst IsSynced (sym e) tt
synced-last (Some t) now e = subst IsSynced (sym e) (t.writes, refl)

synced-of : (X : List ℕ → List ℕ) (before now : Told) → SyncsAfter X before now → IsSynced now
synced-of X before now h = synced-last h.between now h.last

-- a status with details is no end of a command that was done, and prints as want of memory does
detailed-undone : (s : Status) → has_details s ≡ true → is_done s ≡ false
detailed-undone status.Ok h = absurd cc
detailed-undone status.Rule h = refl
detailed-undone status.Usage h = refl
detailed-undone status.StoreFault h = refl
detailed-undone status.Missing h = refl
detailed-undone status.BadBlock h = refl
detailed-undone status.ReadFault h = refl
detailed-undone status.WriteFault h = absurd cc
detailed-undone status.Clash h = refl
detailed-undone status.Memory h = refl
detailed-undone status.NotReady h = refl

detailed-prints : (IsText : List ℕ → Type 0) (more : Bool) (held now : streams.Told) (s : Status) → has_details s ≡ true → PrintsAt IsText more s held now → PrintsAt IsText more status.Memory held now
detailed-prints IsText more held now status.Ok h p = absurd cc
detailed-prints IsText more held now status.Rule h p = p
detailed-prints IsText more held now status.Usage h p = p
detailed-prints IsText more held now status.StoreFault h p = p
detailed-prints IsText more held now status.Missing h p = p
detailed-prints IsText more held now status.BadBlock h p = p
detailed-prints IsText more held now status.ReadFault h p = p
detailed-prints IsText more held now status.WriteFault h p = absurd cc
detailed-prints IsText more held now status.Clash h p = p
detailed-prints IsText more held now status.Memory h p = p
detailed-prints IsText more held now status.NotReady h p = p

-- what stands stays, where it is asked for
still-stands : (X : List ℕ → List ℕ) (N : List ℕ → ℕ) (a b : Told) (needs : Bool) (s : Standing) → KeepsGood X a b → head_in b ≡ head_in a → StandsIf X N needs a s → StandsIf X N needs b s
still-stands X N a b true s good head stands = stands-kept X N a b s good head stands
still-stands X N None b false s good head stands = absurd (let e : false ≡ true = stands in cc)
still-stands X N (Some a) None false s good head stands = absurd (let e : false ≡ true = good.alike in cc)
still-stands X N (Some a) (Some b) false s good head stands = refl

-- a command that ended as a reply says
pub err-ends : (e : Result (List ℕ) Refusal) (why : Refusal) (held now : streams.Told) → EndsBy e (Err why) held now → Err why ≡ e
err-ends (Ok text) why held now h = absurd (let k = h.0 in cc)
err-ends (Err w) why held now h = (let k : why ≡ w = (let same = h.0 in cc) in ap (λ (r : Refusal). Err r) k)

pub printed-all : (e : Result (List ℕ) Refusal) (done : Result (Unit {0}) Refusal) (held now : streams.Told) → EndsBy e done held now → PrintsAll e held now
printed-all (Ok text) done held now h = h.1
printed-all (Err why) done held now h = h.1

-- ---- what goes to `errors`

-- a refusal whose line has details is none of an output, so the Head stays
pub detailed-kept : (why : Refusal) (after : Bool) (a b : Told) → has_details (status_of why) ≡ true → KeepsHead (Err why) after a b → head_in b ≡ head_in a
detailed-kept why true a b detailed h = h (λ is. let e : has_details status.WriteFault ≡ true = subst (λ g. has_details g ≡ true) is detailed in cc)
detailed-kept why false a b detailed h = h

module _ (a b : Around) where
  abbrev Says : List ℕ → Type 0
  Says line = Said a.errors b.errors line

  why-plain : (why : Refusal) (given : Status) → TellsWhy Says why given → SaysPlain given a b
  why-plain why given (inl t) = λ e. subst (λ s. Says (plain_line s)) (sym t.0) (subst Says (sym (plain-of why (ap has_details (sym t.0) ∙ e))) t.1)
  why-plain why given (inr t) = λ e. subst (λ s. Says (plain_line s)) (sym t.1) t.2

  -- want of memory is told as such
  memory-told : (given : Status) → TellsWhy Says no_memory given → (given ≡ status.Memory) × Says (plain_line status.Memory)
  memory-told given (inl t) = t
  memory-told given (inr t) = absurd (let e = t.0 in cc)

  refused-told : (why : Refusal) (given : Status) → TellsWhy Says why given → IsRefusedBy why given a b
  refused-told why given (inl t) = inr t
  refused-told why given (inr t) = inl (t.1, t.2)

  -- with another status, by the refusal
  by-why : (A : Status → Type 0) (why : Refusal) (given : Status) → TellsWhy Says why given → (Says (line_of why) → A (status_of why)) → A status.Memory → A given
  by-why A why given (inl t) go memory = subst A (sym t.0) (go t.1)
  by-why A why given (inr t) go memory = subst A (sym t.1) memory

  -- the reply's end is told
  pub ok-ends : (e : Result (List ℕ) Refusal) (given : Status) (held now : streams.Told) → (given ≡ status.Ok) × Says [] → EndsBy e (Ok tt) held now → (given ≡ ended e) × Says (said e)
  ok-ends (Ok text) given held now t h = t
  ok-ends (Err why) given held now t h = absurd (let k = h.0 in cc)

  module _ (given : Status) where
    pub says-plain : (done : Result (Unit {0}) Refusal) → TellsEnd Says done given → SaysPlain given a b
    says-plain (Ok done) t = λ e. subst (λ s. Says (plain_line s)) (sym t.0) t.1
    says-plain (Err why) t = why-plain why given t

    pub is-refused : (done : Result (Unit {0}) Refusal) (why : Refusal) → TellsEnd Says done given → (done ≡ Err why) ⊎ (done ≡ Err no_memory) → IsRefusedBy why given a b
    is-refused done why f (inl is) = refused-told why given (subst (λ d. TellsEnd Says d given) is f)
    is-refused done why f (inr is) = inl (memory-told given (subst (λ d. TellsEnd Says d given) is f))

    -- a command that was done so ends so
    ended-told : (A : Status → Type 0) (done : Result (Unit {0}) Refusal) → TellsEnd Says done given → A (ended done) → A status.Memory → A given
    ended-told A (Ok done) t h memory = subst A (sym t.0) h
    ended-told A (Err why) t h memory = by-why A why given t (λ says. h) memory

    -- each answer of a command is of a kind that it may answer
    pub kinds-told : (command : Command) (done : Result (Unit {0}) Refusal) → IsOf (may_end command) done → TellsEnd Says done given → may_give command given ≡ true
    kinds-told command (Ok done) of t = subst (λ g. may_give command g ≡ true) (sym t.0) refl
    kinds-told command (Err why) of t = by-why (λ g. may_give command g ≡ true) why given t (λ says. gives command why of) refl

    module _ (X : List ℕ → List ℕ) (N : List ℕ → ℕ) where
      -- a cause in the store, or in one of the command's own
      missing : (own : OwnStore) (cid : Cid) → ShowsMissing cid a.store b.store → IsMissing X own a.left cid a.store b.store
      missing NoStore cid h = h
      missing OfCarSections cid h = inl h
      missing OfTree cid h = h

      lacking : (own : OwnStore) (cid : Cid) → (own ≡ OfCarSections) × LacksSection X a.left cid a.store b.store → IsMissing X own a.left cid a.store b.store
      lacking NoStore cid h = absurd (let e = h.0 in cc)
      lacking OfCarSections cid h = inr h.1
      lacking OfTree cid h = absurd (let e = h.0 in cc)

      meeting : (own : OwnStore) (cid : Cid) (first second : List ℕ) → (own ≡ OfTree → ⊥) → ShowsClash X cid first second a.store b.store → IsClashing X own a.left cid first second a.store b.store
      meeting NoStore cid first second other h = h
      meeting OfCarSections cid first second other h = inl h
      meeting OfTree cid first second other h = absurd (other refl)

      clashing : (own : OwnStore) (cid : Cid) (first second : List ℕ) → IsOwnClash X own a.left cid first second a.store b.store → IsClashing X own a.left cid first second a.store b.store
      clashing NoStore cid first second h = absurd h
      clashing OfCarSections cid first second h = inr h
      clashing OfTree cid first second h = h

      does-show : (command : Command) (why : Refusal) → Does X N command (Err why) a b → may_end command (refusal_kind why) ≡ true → ByOwnStore X (own_store command) a.left a.store b.store why → Says (line_of why) → StatusShows X N a b command (status_of why)
      does-show command (refusal.Rule rule) h of sections says = (refusal.Rule rule, refl, of, says, h.long)
      does-show command (refusal.Dag rule) h of sections says = (refusal.Dag rule, refl, of, says, h.long)
      does-show command (refusal.Car number place) h of sections says = (refusal.Car number place, refl, of, says, h.long)
      does-show command (refusal.CarLacks cid) h of sections says = (cid, lacking (own_store command) cid sections, says)
      does-show command (refusal.OwnClash cid first second) h of sections says = (cid, first, second, clashing (own_store command) cid first second sections, says)
      does-show command (refusal.Host rule) h of sections says = (refusal.Host rule, refl, of, says, h.long)
      does-show command (refusal.BadPath path) h of sections says = absurd (no-path command h.kinds)
      does-show command refusal.Usage h of sections says = absurd (no-usage command h.kinds)
      does-show command refusal.InputTooLong h of sections says = (refusal.InputTooLong, refl, of, says, h.long)
      does-show command refusal.BadPins h of sections says = inr (says, pins-unread command a.store.told b.store.told h.kinds h.pins)
      does-show command (refusal.Ready reason) h of sections says = inl (reason, says, h.ready)
      does-show command refusal.Read h of sections says = reading-rose (writes_host command) (uses_host command) false a.reads b.reads a.host b.host (writing-uses command) h.reads h.host
      does-show command refusal.Write h of sections says = writing-rose (writes_host command) (uses_host command) false a.writes b.writes a.host b.host h.writes h.host
      does-show command (refusal.Store fault.Failed) h of sections says = h.cause
      does-show command (refusal.Store (fault.Damaged cid)) h of sections says = h.cause
      does-show command (refusal.Store (fault.Missing cid)) h of sections says = (cid, missing (own_store command) cid h.cause, says)
      does-show command (refusal.Store (fault.BadBlock cid role)) h of sections says =
          (cid, role, shown-by X (IsBadIn X N a.store.told b.store.told) (IsBadBlock N a.store.told) (Some (fault.BadBlock cid role)) a.store b.store (bad-anywhere X N a.store.told b.store.told) h.cause, says)
      does-show command (refusal.Store (fault.Clash cid first second)) h of sections says = (cid, first, second, meeting (own_store command) cid first second (tree-clashes command of) h.cause, says)
      does-show command (refusal.Store fault.Memory) h of sections says = tt

      pub shows : (command : Command) (done : Result (Unit {0}) Refusal) → Does X N command done a b → IfErr done (ByOwnStore X (own_store command) a.left a.store b.store) → IsOf (may_end command) done → TellsEnd Says done given → StatusShows X N a b command given
      shows command (Ok done) s sections of t = subst (StatusShows X N a b command) (sym t.0) tt
      shows command (Err why) s sections of t = by-why (StatusShows X N a b command) why given t (does-show command why s of sections) tt

      -- ---- no fault is passed over

      by-fault : (why : Refusal) (want : Status) → TellsWhy Says why given → (status_of why ≡ want) ⊎ (status_of why ≡ status.Memory) → (given ≡ want) ⊎ (given ≡ status.Memory)
      by-fault why want (inl t) (inl is) = inl (t.0 ∙ is)
      by-fault why want (inl t) (inr is) = inr (t.0 ∙ is)
      by-fault why want (inr t) is = inr t.1

      storing : (why : Refusal) → TellsWhy Says why given → status_of why ≡ status.StoreFault → given ≡ status.StoreFault
      storing why (inl t) is = t.0 ∙ is
      storing why (inr t) is = (let e : false ≡ true = ap has_details (sym is) ∙ t.0 in absurd cc)

      pub faults-told : (command : Command) (done : Result (Unit {0}) Refusal) → Does X N command done a b → TellsEnd Says done given → a.store.faults < b.store.faults
          → given ≡ status.StoreFault
      faults-told command (Ok done) s t more = (let e = s.cause.faults in absurd (omega (arith, e, more)))
      faults-told command (Err why) s t more = storing why t (failure-of X (IsBadIn X N a.store.told b.store.told) a.store b.store why s.cause more)

      pub clashes-told : (command : Command) (done : Result (Unit {0}) Refusal) → Does X N command done a b → TellsEnd Says done given → a.store.clashes < b.store.clashes
          → (given ≡ status.Clash) ⊎ (given ≡ status.Memory)
      clashes-told command (Ok done) s t more = (let e = s.cause.clashes in absurd (omega (arith, e, more)))
      clashes-told command (Err why) s t more = by-fault why status.Clash t (clash-of X (IsBadIn X N a.store.told b.store.told) a.store b.store why s.cause more)

      reading : (why : Refusal) → TellsWhy Says why given → why ≡ refusal.Read → given ≡ status.ReadFault
      reading why (inl t) is = t.0 ∙ ap status_of is
      reading why (inr t) is = (let e : false ≡ true = ap (λ w. has_details (status_of w)) (sym is) ∙ t.0 in absurd cc)

      writing : (why : Refusal) → TellsWhy Says why given → why ≡ refusal.Write → given ≡ status.WriteFault
      writing why (inl t) is = t.0 ∙ ap status_of is
      writing why (inr t) is = (let e : false ≡ true = ap (λ w. has_details (status_of w)) (sym is) ∙ t.0 in absurd cc)

      pub read-told : (command : Command) (done : Result (Unit {0}) Refusal) → Does X N command done a b → TellsEnd Says done given → (a.reads < b.reads) ⊎ (a.host.reads < b.host.reads) → given ≡ status.ReadFault
      read-told command (Ok done) s t (inl more) = (let e = input-read (uses_host command) false a.reads b.reads s.reads more in absurd cc)
      read-told command (Ok done) s t (inr more) = (let e = host-read (writes_host command) (uses_host command) false false a.host b.host s.host more in absurd cc)
      read-told command (Err why) s t (inl more) = reading why t (read-of why (input-read (uses_host command) (is_read {A = Unit {0}} (Err why)) a.reads b.reads s.reads more))
      read-told command (Err why) s t (inr more) = reading why t (read-of why (host-read (writes_host command) (uses_host command) (is_read {A = Unit {0}} (Err why)) (is_write {A = Unit {0}} (Err why)) a.host b.host s.host more))

      -- only a command that writes to the host changes it
      pub host-told : (command : Command) (done : Result (Unit {0}) Refusal) → Does X N command done a b → writes_host command ≡ false → b.host.told ≡ a.host.told
      host-told command done s none = host-same (writes_host command) (uses_host command) (is_read done) (is_write done) a.host b.host none s.host

      pub write-told : (command : Command) (done : Result (Unit {0}) Refusal) → Does X N command done a b → TellsEnd Says done given → (a.writes < b.writes) ⊎ (a.host.writes < b.host.writes) → given ≡ status.WriteFault
      write-told command (Ok done) s t (inl more) = (let e = output-written (writes_host command) false a.writes b.writes s.writes more in absurd cc)
      write-told command (Ok done) s t (inr more) = (let e = host-written (writes_host command) (uses_host command) false false a.host b.host s.host more in absurd cc)
      write-told command (Err why) s t (inl more) = writing why t (write-of why (output-written (writes_host command) (is_write {A = Unit {0}} (Err why)) a.writes b.writes s.writes more))
      write-told command (Err why) s t (inr more) = writing why t (write-of why (host-written (writes_host command) (uses_host command) (is_read {A = Unit {0}} (Err why)) (is_write {A = Unit {0}} (Err why)) a.host b.host s.host more))

      -- what a detailed status leaves on the host, want of memory leaves too
      detailed-left : (store : Told) (source : DagPath) (path : List ℕ) (host now : HostTold) (s : Status) → has_details s ≡ true → IfSome store (λ t. LeavesAt (held_at t) source path host now s) → IfSome store (λ t. LeavesAt (held_at t) source path host now status.Memory)
      detailed-left None source path host now s h left = tt
      detailed-left (Some t) source path host now status.Ok h left = absurd cc
      detailed-left (Some t) source path host now status.Rule h left = inl left
      detailed-left (Some t) source path host now status.Usage h left = absurd cc
      detailed-left (Some t) source path host now status.StoreFault h left = absurd cc
      detailed-left (Some t) source path host now status.Missing h left = inl left
      detailed-left (Some t) source path host now status.BadBlock h left = inl left
      detailed-left (Some t) source path host now status.ReadFault h left = absurd cc
      detailed-left (Some t) source path host now status.WriteFault h left = absurd cc
      detailed-left (Some t) source path host now status.Clash h left = inl left
      detailed-left (Some t) source path host now status.Memory h left = absurd cc
      detailed-left (Some t) source path host now status.NotReady h left = inl left

      pub detailed-gets : (command : Command) (store : Told) (host now : HostTold) (s : Status) → has_details s ≡ true → GetsFor command s store host now → GetsFor command status.Memory store host now
      detailed-gets (Init p) store host now s h gets = tt
      detailed-gets (Add what) store host now s h gets = tt
      detailed-gets (WriteInput how path) store host now s h gets = tt
      detailed-gets (At ask path) store host now s h gets = tt
      detailed-gets (Read offset count path) store host now s h gets = tt
      detailed-gets (Prove absent path) store host now s h gets = tt
      detailed-gets (Cat path) store host now s h gets = tt
      detailed-gets (Get source path) store host now s h gets = record { below = gets.below; leaves = detailed-left store source path host now s h gets.leaves }
      detailed-gets (Export cid) store host now s h gets = tt
      detailed-gets Import store host now s h gets = tt
      detailed-gets (Same cid) store host now s h gets = tt
      detailed-gets (Adopt source dest) store host now s h gets = tt
      detailed-gets (Gen n seed) store host now s h gets = tt
      detailed-gets (Pin ask) store host now s h gets = tt

      pub gets-told : (command : Command) (done : Result (Unit {0}) Refusal) → Does X N command done a b → TellsEnd Says done given → GetsFor command given a.store.told a.host.told b.host.told
      gets-told command (Ok done) s t = subst (λ g. GetsFor command g a.store.told a.host.told b.host.told) (sym t.0) s.gets
      gets-told command (Err why) s (inl t) = subst (λ g. GetsFor command g a.store.told a.host.told b.host.told) (sym t.0) s.gets
      gets-told command (Err why) s (inr t) =
          subst (λ g. GetsFor command g a.store.told a.host.told b.host.told) (sym t.1) (detailed-gets command a.store.told a.host.told b.host.told (status_of why) t.0 s.gets)

      -- the note of pins: what a command on them leaves of it, and that any other leaves it
      by-pins : (command : Command) (done : Result (Unit {0}) Refusal) → PinsFor command done a.store.told b.store.told → WritesAs X (command_writes command) (is_done (ended done)) a.store.told b.store.told
          → PinsAfter (Ok command) (ended done) a.store.told b.store.told
      by-pins command done p w = pins-after X command done a.store.told b.store.told p w

      pub pins-told : (command : Command) (done : Result (Unit {0}) Refusal) → Does X N command done a b → TellsEnd Says done given → PinsAfter (Ok command) given a.store.told b.store.told
      pins-told command (Ok done) s t = subst (λ g. PinsAfter (Ok command) g a.store.told b.store.told) (sym t.0) (by-pins command (Ok done) s.pins s.leaves.writes)
      pins-told command (Err why) s (inl t) = subst (λ g. PinsAfter (Ok command) g a.store.told b.store.told) (sym t.0) (by-pins command (Err why) s.pins s.leaves.writes)
      pins-told command (Err why) s (inr t) =
          subst (λ g. PinsAfter (Ok command) g a.store.told b.store.told) (sym t.1)
          (by-pins command (Err no_memory) (detailed-pins command why a.store.told b.store.told t.0 s.pins) (subst (λ d. WritesAs X (command_writes command) d a.store.told b.store.told) (detailed-undone (status_of why) t.0) s.leaves.writes))

      -- what was added of what was read
      pub kept-told : (command : Command) (done : Result (Unit {0}) Refusal) → Does X N command done a b → TellsEnd Says done given → KeptFor X N command given a.store b.store a.host.told a.left
      kept-told command (Ok done) s t = subst (λ g. KeptFor X N command g a.store b.store a.host.told a.left) (sym t.0) s.kept
      kept-told command (Err why) s (inl t) = subst (λ g. KeptFor X N command g a.store b.store a.host.told a.left) (sym t.0) s.kept
      kept-told command (Err why) s (inr t) =
          subst (λ g. KeptFor X N command g a.store b.store a.host.told a.left) (sym t.1) (kept-by X N command (status_of why) status.Memory a.store b.store a.host.told a.left (λ e. cc) (λ e. cc) s.kept)

      -- ---- no block is called bad before one was touched

      pub blamed-told : (command : Command) (done : Result (Unit {0}) Refusal) → Does X N command done a b → TellsEnd Says done given → given ≡ status.BadBlock → a.touches < b.touches
      blamed-told command (Ok done) h t is = absurd (let k : status.Ok ≡ status.BadBlock = sym t.0 ∙ is in cc)
      blamed-told command (Err why) h t is = by t
        where
          by : TellsWhy Says why given → a.touches < b.touches
          by (inl told) = h.touched (blaming-of why (sym told.0 ∙ is))
          by (inr told) = absurd (let k : status.Memory ≡ status.BadBlock = sym told.1 ∙ is in cc)

      -- where a block lay that was called bad
      pub blames-told : (command : Command) (done : Result (Unit {0}) Refusal) → Does X N command done a b → TellsEnd Says done given → BlamesWhereRead X N a b given
      blames-told command (Ok done) h t is = absurd (let k : status.Ok ≡ status.BadBlock = sym t.0 ∙ is in cc)
      blames-told command (Err why) h (inl t) is = let k = blamed-block why (sym t.0 ∙ is) in
          (k.0, k.1, subst (λ w. Shown X (IsBadIn X N a.store.told b.store.told) (fault_behind w) a.store b.store) k.2 h.cause, subst (λ w. Says (line_of w)) k.2 t.1)
      blames-told command (Err why) h (inr t) is = absurd (let k : status.Memory ≡ status.BadBlock = sym t.1 ∙ is in cc)

      -- ---- what is printed, and what is left

      -- where a line finds no memory, what was printed is as before
      by-end : (IsText : List ℕ → Type 0) (more : Bool) (done : Result (Unit {0}) Refusal) → TellsEnd Says done given → PrintsAt IsText more (ended done) a.held b.held → PrintsAt IsText more given a.held b.held
      by-end IsText more (Ok done) t p = subst (λ g. PrintsAt IsText more g a.held b.held) (sym t.0) p
      by-end IsText more (Err why) (inl t) p = subst (λ g. PrintsAt IsText more g a.held b.held) (sym t.0) p
      by-end IsText more (Err why) (inr t) p = subst (λ g. PrintsAt IsText more g a.held b.held) (sym t.1) (detailed-prints IsText more a.held b.held (status_of why) t.0 p)

      same-done : (done : Result (Unit {0}) Refusal) → TellsEnd Says done given → is_done given ≡ is_done (ended done)
      same-done (Ok done) t = ap is_done t.0
      same-done (Err why) (inl t) = ap is_done t.0
      same-done (Err why) (inr t) = ap is_done t.1 ∙ sym (detailed-undone (status_of why) t.0)

      pub prints-told : (command : Command) (done : Result (Unit {0}) Refusal) → Does X N command done a b → TellsEnd Says done given
          → PrintsAt (IsTextOf X N a.store.told b.store.told a.host.told command a.left) (flows command) given a.held b.held
      prints-told command done s t = by-end (IsTextOf X N a.store.told b.store.told a.host.told command a.left) (flows command) done t s.prints

      pub writes-told : (command : Command) (done : Result (Unit {0}) Refusal) → Does X N command done a b → TellsEnd Says done given → WritesAs X (command_writes command) (is_done given) a.store.told b.store.told
      writes-told command done s t = subst (λ d. WritesAs X (command_writes command) d a.store.told b.store.told) (sym (same-done done t)) s.leaves.writes

      pub head-told : (command : Command) (done : Result (Unit {0}) Refusal) → Does X N command done a b → TellsEnd Says done given → may_move (Ok command) given ≡ false → head_in b.store.told ≡ head_in a.store.told
      head-told command (Ok done) s t not = absurd (let e : may_move (Ok command) status.Ok ≡ false = subst (λ g. may_move (Ok command) g ≡ false) t.0 not in cc)
      head-told command (Err why) s t not = kept (prints_after command) refl s.leaves.head
        where
          cut : TellsWhy Says why given → status_of why ≡ status.WriteFault → prints_after command ≡ false
          cut (inl t) is = subst (λ g. may_move (Ok command) g ≡ false) (t.0 ∙ is) not
          cut (inr t) is = absurd (let e : has_details status.WriteFault ≡ true = subst (λ g. has_details g ≡ true) is t.0 in cc)

          kept : (after : Bool) → prints_after command ≡ after → KeepsHead (Err why) after a.store.told b.store.told → head_in b.store.told ≡ head_in a.store.told
          kept true e h = h (λ is. let f = cut t is in cc)
          kept false e h = h

      was-ok : (done : Result (Unit {0}) Refusal) → TellsEnd Says done given → given ≡ status.Ok → is_done (ended done) ≡ true
      was-ok (Ok done) t is = refl
      was-ok (Err why) (inl t) is = absurd (not-ok why (sym t.0 ∙ is))
      was-ok (Err why) (inr t) is = absurd (let e : status.Memory ≡ status.Ok = sym t.1 ∙ is in cc)

      pub synced-told : (command : Command) (done : Result (Unit {0}) Refusal) → Does X N command done a b → TellsEnd Says done given → given ≡ status.Ok → IsSyncedFor command b.store.told
      synced-told (Init p) done s t is = tt
      synced-told (Add (adding.Input true)) done s t is = tt
      synced-told (Add (adding.Input false)) done s t is =
          synced-of X a.store.told b.store.told (subst (λ d. WritesAs X (command_writes (Add (adding.Input false))) d a.store.told b.store.told) (was-ok done t is) s.leaves.writes)
      synced-told (Add (adding.Host recursive true path)) done s t is = tt
      synced-told (Add (adding.Host recursive false path)) done s t is =
          synced-of X a.store.told b.store.told (subst (λ d. WritesAs X (command_writes (Add (adding.Host recursive false path))) d a.store.told b.store.told) (was-ok done t is) s.leaves.writes)
      synced-told (Add (adding.InputTo dest)) done s t is = tt
      synced-told (Add (adding.HostTo recursive path dest)) done s t is = tt
      synced-told (WriteInput how path) done s t is = tt
      synced-told (At ask path) done s t is = tt
      synced-told (Read offset count path) done s t is = tt
      synced-told (Prove absent path) done s t is = tt
      synced-told (Cat path) done s t is = tt
      synced-told (Get path host_path) done s t is = tt
      synced-told (Export cid) done s t is = tt
      synced-told Import done s t is =
          synced-of X a.store.told b.store.told (subst (λ d. WritesAs X (command_writes Import) d a.store.told b.store.told) (was-ok done t is) s.leaves.writes)
      synced-told (Same cid) done s t is = tt
      synced-told (Adopt source dest) done s t is = tt
      synced-told (Gen n seed) done s t is = tt
      synced-told (Pin ask) done s t is = tt

      pub idle-told : (command : Command) (done : Result (Unit {0}) Refusal) → Does X N command done a b → (p : Profile) (es : Entries) (bytes : List ℕ) → NamesOver X N a.store.told p es → HasInput (Ok command) a.left bytes a.reads b.reads → Stood a.store.faults b.store.faults
          → is_idle bytes es command ≡ true → b.store.told ≡ a.store.told
      idle-told command done s p es bytes stands input faults is = s.leaves.idle p es bytes stands (input, faults) is

      pub unready-told : (command : Command) (done : Result (Unit {0}) Refusal) → Does X N command done a b → may_give command given ≡ true → TellsEnd Says done given
          → given ≡ status.NotReady → LeavesAlone a b
      unready-told command (Ok done) s may t is = absurd (let e : status.Ok ≡ status.NotReady = sym t.0 ∙ is in cc)
      unready-told command (Err why) s may (inl t) is = s.unready (subst (λ g. may_give command g ≡ true) is may) (sym t.0 ∙ is)
      unready-told command (Err why) s may (inr t) is = absurd (let e : status.Memory ≡ status.NotReady = sym t.1 ∙ is in cc)

      pub unplaced-told : (command : Command) (done : Result (Unit {0}) Refusal) → Does X N command done a b → (p : Profile) (es : Entries) → NamesOver X N a.store.told p es → Stood a.store.faults b.store.faults → HasNoSpot command es → LeavesAlone a b
      unplaced-told command done s p es names stood none = s.unplaced p es names stood none

      -- ---- over a store that stands

      pub replies-told : (command : Command) (done : Result (Unit {0}) Refusal) → Does X N command done a b → TellsEnd Says done given
          → (world : World) → FindsWorld X N (Ok command) a.store.told world → HasOutside (Ok command) (outside_of world) a b → Calm a.store b.store → AllWritten (Ok command) a.writes b.writes a.host.writes b.host.writes → MetNone (Ok command) given → EndsAs X N (Ok command) world given a b
      replies-told command done s t world finds input calm write none =
          by done (λ own. s.answers world finds input (record { store = calm; written = write; own = own })) t (stays done s)
        where
          stays : (done : Result (Unit {0}) Refusal) → Does X N command done a b → (why : Refusal) → done ≡ Err why → has_details (status_of why) ≡ true → StandsIf X N (needs_standing command) b.store.told world.standing
          stays done h why is detailed = still-stands X N a.store.told b.store.told (needs_standing command) world.standing (shape-good X (command_writes command) (is_done (ended done)) a.store.told b.store.told h.leaves.writes) (detailed-kept why (prints_after command) a.store.told b.store.told detailed (subst (λ d. KeepsHead d (prints_after command) a.store.told b.store.told) is h.leaves.head)) finds.stands

          ok-by : (done : Unit {0}) → DoesAnswer X N command world (Ok done) a.held b.held b.store.told b.host.told → TellsEnd Says (Ok done) given → EndsAs X N (Ok command) world given a b
          ok-by done (inl x) t = absurd (let e = x.ends_are in cc)
          ok-by done (inr x) t = inr (record { status_is = (ok-ends (reply X N command world).ends given a.held b.held t x.0.ends).0; says = (ok-ends (reply X N command world).ends given a.held b.held t x.0.ends).1; printed = printed-all (reply X N command world).ends (Ok done) a.held b.held x.0.ends; stands = x.0.stands; blocks = x.0.blocks }, x.1)

          err-by : (why : Refusal) → DoesAnswer X N command world (Err why) a.held b.held b.store.told b.host.told → (given ≡ status_of why) × Says (line_of why) → EndsAs X N (Ok command) world given a b
          err-by why (inl x) t =
              let e : why ≡ no_memory = (let same = x.ends_are in cc) in
              let told = memory-told given (subst (λ w. TellsWhy Says w given) e (inl t)) in
              inl (record { status_is = told.0; says = told.1; stands = x.stands })
          err-by why (inr x) t =
              let is = err-ends (reply X N command world).ends why a.held b.held x.0.ends in
              inr (record { status_is = t.0 ∙ ap ended is; says = subst (λ e. Says (said e)) is t.1; printed = printed-all (reply X N command world).ends (Err why) a.held b.held x.0.ends; stands = x.0.stands; blocks = x.0.blocks }, x.1)

          by : (done : Result (Unit {0}) Refusal) → (MetNone (Ok command) (ended done) → DoesAnswer X N command world done a.held b.held b.store.told b.host.told) → TellsEnd Says done given → ((why : Refusal) → done ≡ Err why → has_details (status_of why) ≡ true → StandsIf X N (needs_standing command) b.store.told world.standing)
              → EndsAs X N (Ok command) world given a b
          by (Ok done) answers t stays = ok-by done (answers (λ generated e. cc)) t
          by (Err why) answers (inl told) stays = err-by why (answers (λ generated e. none generated (told.0 ∙ e))) told
          by (Err why) answers (inr told) stays = inl (record { status_is = told.1; says = told.2; stands = stays why refl told.0 })

      -- where only the output failed that follows the commit, what the reply says stands
      pub unprinted-told : (command : Command) (done : Result (Unit {0}) Refusal) → Does X N command done a b → TellsEnd Says done given
          → (world : World) → prints_after command ≡ true → given ≡ status.WriteFault → FindsWorld X N (Ok command) a.store.told world → HasOutside (Ok command) (outside_of world) a b → Calm a.store b.store
          → LeavesNext X N (reply X N command world) b.store.told
      unprinted-told command (Ok done) s t world after is finds input calm = absurd (let e : status.Ok ≡ status.WriteFault = sym t.0 ∙ is in cc)
      unprinted-told command (Err why) s (inl t) world after is finds input calm = s.unprinted world after (sym t.0 ∙ is) finds input calm
      unprinted-told command (Err why) s (inr t) world after is finds input calm = absurd (let e : status.Memory ≡ status.WriteFault = sym t.1 ∙ is in cc)

      -- over lost blocks too
      pub unprinted-over-told : (command : Command) (done : Result (Unit {0}) Refusal) → Does X N command done a b → TellsEnd Says done given
          → (p : Profile) (es : Entries) (held : Lookup) (outside : Outside) → prints_after command ≡ true → given ≡ status.WriteFault → StaysNamed X N a.store.told b.store.told p es → HasOutside (Ok command) outside a b → Calm a.store b.store
          → StandsNamed X N a.store.told b.store.told (blocks X N p (Dir es)) (reply X N command (in_world p es held outside)).next
      unprinted-over-told command (Ok done) s t p es held outside after is named has calm = absurd (let e : status.Ok ≡ status.WriteFault = sym t.0 ∙ is in cc)
      unprinted-over-told command (Err why) s (inl t) p es held outside after is named has calm = s.unprinted_over p es held outside after (sym t.0 ∙ is) named has calm
      unprinted-over-told command (Err why) s (inr t) p es held outside after is named has calm = absurd (let e : status.Memory ≡ status.WriteFault = sym t.1 ∙ is in cc)

      -- nothing but the beginning of the reply's text is printed
      pub prefix-told : (command : Command) (done : Result (Unit {0}) Refusal) → Does X N command done a b
          → (world : World) → FindsOver X N a.store.told b.store.told (Ok command) world → HasOutside (Ok command) (outside_of world) a b → CountsCanRise a.store → PrintsPart (reply X N command world).ends a.held b.held
      prefix-told command done s world finds input room = s.prefix world finds input room

      -- ---- no block is missing or bad

      pub whole-told : (command : Command) (done : Result (Unit {0}) Refusal) → Does X N command done a b → TellsEnd Says done given
          → (s : Standing) → reads_tree_alone command ≡ true → TellsAs X N a.store.told s → Calm a.store b.store → FindsAll given
      whole-told command done h t s needs stands calm = ended-told FindsAll done t (h.whole s needs stands calm) (λ e. cc, λ e. cc)
