-- How a command is told that writes nothing to the store: a clash would be want of memory.
use Rattle.std.proofs.Common.{◌≡◌, ℕ, List, Bool, true, false, refl, ap, Result, Ok, Err}
use Rattle.std.specs.Prelude.{IfErr, not}
use Rattle.uf_cid.specs.declared.cid.Cid.{Cid}
use Rattle.uf_edge.specs.Streams as streams
use Rattle.uf_command.specs.Kinds.{IsOf, may_close, refusal_kind}
use Rattle.uf_command.specs.Natures.{OwnStore, kinds_of, may_end, only_reads, prints_after, settled, without_clash}
use Rattle.uf_command.specs.Statuses.{no_memory}
use Rattle.uf_command.specs.declared.status.Status.TheVariants as status
use Rattle.uf_command.specs.declared.types.Command.{Command}
use Rattle.uf_command.specs.declared.types.Refusal.{Refusal}
use Rattle.uf_command.specs.declared.types.Refusal.TheVariants as refusal
use Rattle.uf_store.specs.Contents.{Told}
use Rattle.uf_store.specs.Seen.{Seen}
use Rattle.uf_store.specs.declared.store.StoreFault.TheVariants as fault
use Rattle.uf_top.specs.Around.{Around}
use Rattle.uf_top.specs.Cars.{ByOwnStore}
use Rattle.uf_top.specs.Causes.{KeepsHead}
use Rattle.uf_top.specs.Working.{Does}
use Rattle.uf_top.proofs.Fronts.{kept-by}
use Rattle.uf_top.proofs.Shows.{no-long, not-rose}
use Rattle.uf_top.proofs.Telling.{detailed-gets, detailed-pins}

-- the Head stays as well
memory-head : (cid : Cid) (first second : List ℕ) (after : Bool) (a b : Told) → KeepsHead (Err (refusal.Store (fault.Clash cid first second))) after a b → KeepsHead (Err no_memory) after a b
memory-head cid first second true a b h = λ other. h (λ e. cc)
memory-head cid first second false a b h = h

module _ (X : List ℕ → List ℕ) (N : List ℕ → ℕ) (command : Command) (a b : Around) where
  as-memory : (cid : Cid) (first second : List ℕ) → Does X N command (Err (refusal.Store (fault.Clash cid first second))) a b → Does X N command (Err no_memory) a b
  as-memory cid first second h = record {
    answers = λ world finds has quiet. absurd (not-rose a.store.clashes b.store.clashes h.cause.rose quiet.store.clashes);
    unprinted = λ world after is. absurd cc;
    unprinted_over = λ p es held outside after is. absurd cc;
    lost = λ p es rows held outside named tells heights has quiet. absurd (not-rose a.store.clashes b.store.clashes h.cause.rose quiet.store.clashes);
    prefix = h.prefix;
    prints = h.prints;
    kinds = refl;
    ready = tt;
    long = no-long command no_memory a.store.told a.left b.left (λ rule e. cc) (λ e. cc);
    reads = h.reads;
    host = h.host;
    gets = detailed-gets a b status.Ok X N command a.store.told a.host.told b.host.told status.Clash refl h.gets;
    pins = detailed-pins command (refusal.Store (fault.Clash cid first second)) a.store.told b.store.told refl h.pins;
    kept = kept-by X N command status.Clash status.Memory a.store b.store a.host.told a.left (λ e. cc) (λ e. cc) h.kept;
    writes = h.writes;
    cause = record { finds = h.cause.rises.finds; misses = h.cause.rises.misses; faults = h.cause.faults; clashes = h.cause.rises.clashes };
    whole = λ s needs stands calm. (λ e. cc, λ e. cc);
    touches = h.touches;
    touched = λ blames. absurd blames;
    unready = λ e is. absurd cc;
    unplaced = h.unplaced;
    leaves = record { head = memory-head cid first second (prints_after command) a.store.told b.store.told h.leaves.head; writes = h.leaves.writes; idle = h.leaves.idle };
  }

  unclashed : (why : Refusal) → Does X N command (Err why) a b → Does X N command (Err (without_clash why)) a b
  unclashed (refusal.Rule r) h = h
  unclashed (refusal.Dag r) h = h
  unclashed (refusal.Host r) h = h
  unclashed (refusal.BadPath p) h = h
  unclashed refusal.InputTooLong h = h
  unclashed refusal.BadPins h = h
  unclashed refusal.Usage h = h
  unclashed (refusal.Ready r) h = h
  unclashed refusal.Read h = h
  unclashed refusal.Write h = h
  unclashed (refusal.Store fault.Failed) h = h
  unclashed (refusal.Store (fault.Damaged cid)) h = h
  unclashed (refusal.Store (fault.Missing cid)) h = h
  unclashed (refusal.Store (fault.BadBlock cid role)) h = h
  unclashed (refusal.Store fault.Memory) h = h
  unclashed (refusal.Car number place) h = h
  unclashed (refusal.CarLacks cid) h = h
  unclashed (refusal.OwnClash cid first second) h = h
  unclashed (refusal.Store (fault.Clash cid first second)) h = as-memory cid first second h

  pub settles : (reads : Bool) (done : Result (Unit {0}) Refusal) → Does X N command done a b → Does X N command (settled reads done) a b
  settles true (Ok done) h = h
  settles true (Err why) h = unclashed why h
  settles false (Ok done) h = h
  settles false (Err why) h = h

-- no store of the command's own is to blame for more
module _ (X : List ℕ → List ℕ) (own : OwnStore) (left : streams.Told) (a b : Seen) where
  still-own : (why : Refusal) → ByOwnStore X own left a b why → ByOwnStore X own left a b (without_clash why)
  still-own (refusal.Rule r) h = h
  still-own (refusal.Dag r) h = h
  still-own (refusal.Host r) h = h
  still-own (refusal.BadPath p) h = h
  still-own refusal.InputTooLong h = h
  still-own refusal.BadPins h = h
  still-own refusal.Usage h = h
  still-own (refusal.Ready r) h = h
  still-own refusal.Read h = h
  still-own refusal.Write h = h
  still-own (refusal.Store fault.Failed) h = h
  still-own (refusal.Store (fault.Damaged cid)) h = h
  still-own (refusal.Store (fault.Missing cid)) h = h
  still-own (refusal.Store (fault.BadBlock cid role)) h = h
  still-own (refusal.Store fault.Memory) h = h
  still-own (refusal.Car number place) h = h
  still-own (refusal.CarLacks cid) h = h
  still-own (refusal.OwnClash cid first second) h = h
  still-own (refusal.Store (fault.Clash cid first second)) h = tt

  pub settles-own : (reads : Bool) (done : Result (Unit {0}) Refusal) → IfErr done (ByOwnStore X own left a b) → IfErr (settled reads done) (ByOwnStore X own left a b)
  settles-own true (Ok done) h = h
  settles-own true (Err why) h = still-own why h
  settles-own false (Ok done) h = h
  settles-own false (Err why) h = h

-- so it is of a kind with which the command may end
module _ (command : Command) where
  reading : (why : Refusal) → may_close (kinds_of command) (refusal_kind why) ≡ true → may_end command (refusal_kind (without_clash why)) ≡ true
  reading (refusal.Rule r) h = h
  reading (refusal.Dag r) h = h
  reading (refusal.Host r) h = h
  reading (refusal.BadPath p) h = h
  reading refusal.InputTooLong h = h
  reading refusal.BadPins h = h
  reading refusal.Usage h = h
  reading (refusal.Ready r) h = h
  reading refusal.Read h = h
  reading refusal.Write h = h
  reading (refusal.Store fault.Failed) h = h
  reading (refusal.Store (fault.Damaged cid)) h = h
  reading (refusal.Store (fault.Missing cid)) h = h
  reading (refusal.Store (fault.BadBlock cid role)) h = h
  reading (refusal.Store fault.Memory) h = h
  reading (refusal.Car number place) h = h
  reading (refusal.CarLacks cid) h = h
  reading (refusal.OwnClash cid first second) h = h
  reading (refusal.Store (fault.Clash cid first second)) h = refl

  saving : only_reads command ≡ false → (why : Refusal) → may_close (kinds_of command) (refusal_kind why) ≡ true → may_end command (refusal_kind why) ≡ true
  saving saves (refusal.Rule r) h = h
  saving saves (refusal.Dag r) h = h
  saving saves (refusal.Host r) h = h
  saving saves (refusal.BadPath p) h = h
  saving saves refusal.InputTooLong h = h
  saving saves refusal.BadPins h = h
  saving saves refusal.Usage h = h
  saving saves (refusal.Ready r) h = h
  saving saves refusal.Read h = h
  saving saves refusal.Write h = h
  saving saves (refusal.Store fault.Failed) h = h
  saving saves (refusal.Store (fault.Damaged cid)) h = h
  saving saves (refusal.Store (fault.Missing cid)) h = h
  saving saves (refusal.Store (fault.BadBlock cid role)) h = h
  saving saves (refusal.Store fault.Memory) h = h
  saving saves (refusal.Car number place) h = h
  saving saves (refusal.CarLacks cid) h = h
  saving saves (refusal.OwnClash cid first second) h = h
  saving saves (refusal.Store (fault.Clash cid first second)) h = ap not saves

  pub settles-kinds : (done : Result (Unit {0}) Refusal) → IsOf (may_close (kinds_of command)) done → IsOf (may_end command) (settled (only_reads command) done)
  settles-kinds done h = by (only_reads command) refl done h
    where
      by : (reads : Bool) → only_reads command ≡ reads → (done : Result (Unit {0}) Refusal) → IsOf (may_close (kinds_of command)) done → IsOf (may_end command) (settled reads done)
      by true is (Ok done) h = tt
      by true is (Err why) h = reading why h
      by false is (Ok done) h = tt
      by false is (Err why) h = saving is why h
