-- From words to a command that is done.
use Rattle.std.proofs.Common.{◌≡◌, ◌∙◌, ℕ, List, Bool, true, false, refl, sym, ap, subst, inl, inr, None, Some, Result, Ok, Err}
use Rattle.std.specs.Prelude.{◌&&◌, not, IfErr, IfSome}
use Rattle.uf_edge.specs.Counts.{Counts}
use Rattle.uf_edge.specs.Host.{HostTold}
use Rattle.uf_host.specs.Paths.{trimmed}
use Rattle.uf_mfs.specs.Standing.{Same as StaysSame}
use Rattle.uf_path.specs.declared.path.DagPath.{DagPath}
use Rattle.uf_store.specs.Contents.{Told, held_at}
use Rattle.uf_store.specs.Seen.{Seen}
use Rattle.uf_edge.specs.Streams as streams
use Rattle.uf_store.specs.declared.store.StoreFault.TheVariants.{Memory}
use Rattle.uf_store.proofs.Causes.{StaysCalm-refl, calm-memory}
use Rattle.uf_store.proofs.Writing.{SavesOnly-refl}
use Rattle.uf_command.specs.Commands.{IsAsked, IsOfWords}
use Rattle.uf_command.specs.Natures.{IsOfCommand, NoStore, OwnStore, command_writes, generates, own_store, reads_tree_alone, streams as flows, uses_host, writes_host, prints_after}
use Rattle.uf_command.specs.Kinds.{IsOf, OfOwnClash, OfSections, may_close, refusal_kind, word_kinds}
use Rattle.uf_command.specs.Natures.{kinds_of, may_end}
use Rattle.uf_top.specs.Reply.{reply}
use Rattle.uf_command.specs.Statuses.{no_memory}
use Rattle.uf_command.specs.declared.types.Ask.TheVariants.{Ls, Stat, Edit as Edits}
use Rattle.uf_command.specs.declared.types.Command.{Command}
use Rattle.uf_command.specs.declared.types.Command.TheVariants.{Init, Add, WriteInput, At, Read, Cat, Get, Export, Import, Same, Adopt, Gen, Pin, Prove}
use Rattle.uf_command.specs.declared.types.Adding.TheVariants as adding
use Rattle.uf_command.specs.declared.types.PinAsk.TheVariants as pins
use Rattle.uf_command.specs.declared.types.Refusal.{Refusal}
use Rattle.uf_command.specs.declared.types.Refusal.TheVariants as refusal
use Rattle.uf_command.specs.declared.status.Status.TheVariants as status
use Rattle.uf_top.specs.Around.{Around, RisesFor, SinkSide, TakesHost, is_input_read, is_output_write}
use Rattle.uf_top.specs.Getting.{GetsFor, LeavesAt}
use Rattle.uf_top.specs.Pins.{PinsFor}
use Rattle.uf_top.specs.Bounds.{command_touches}
use Rattle.uf_top.specs.Cars.{ByOwnStore}
use Rattle.uf_top.specs.Shapes.{WritesAs}
use Rattle.uf_top.specs.Working.{Does, Serves}
use Rattle.uf_top.proofs.Fronts.{nothing-kept}
use Rattle.uf_top.proofs.Gotten.{same-below}
use Rattle.uf_top.proofs.Losing.{names-same}
use Rattle.uf_top.proofs.Printing.{else-same, nothing-printed, rises-still, keeps-head}
use Rattle.uf_top.proofs.Shows.{counts-still, no-long, no-touch}

-- want of memory may come of each command, which has written nothing then
memory-kind : (command : Command) → may_close (kinds_of command) (refusal_kind no_memory) ≡ true
memory-kind (Init p) = refl
memory-kind (Add (adding.Input only_hash)) = refl
memory-kind (WriteInput how path) = refl
memory-kind (At ask path) = refl
memory-kind (Read offset count path) = refl
memory-kind (Prove absent path) = refl
memory-kind (Cat path) = refl
memory-kind (Get path host_path) = refl
memory-kind (Export cid) = refl
memory-kind Import = refl
memory-kind (Same cid) = refl
memory-kind (Adopt source dest) = refl
memory-kind (Gen n seed) = refl
memory-kind (Pin (pins.Add cid)) = refl
memory-kind (Pin (pins.Remove cid)) = refl
memory-kind (Pin pins.List) = refl
memory-kind (Add (adding.InputTo dest)) = refl
memory-kind (Add (adding.HostTo recursive path dest)) = refl
memory-kind (Add (adding.Host recursive only_hash path)) = refl

memory-writes : (X : List ℕ → List ℕ) (command : Command) (a : Told) → WritesAs X (command_writes command) false a a
memory-writes X (Init p) a = record { between = a; saves = SavesOnly-refl X a; last = StaysSame refl }
memory-writes X (Add (adding.Input true)) a = refl
memory-writes X (Add (adding.Input false)) a = record { between = a; saves = SavesOnly-refl X a; last = StaysSame refl }
memory-writes X (Add (adding.InputTo dest)) a = record { between = a; saves = SavesOnly-refl X a; last = StaysSame refl }
memory-writes X (Add (adding.HostTo recursive path dest)) a = record { between = a; saves = SavesOnly-refl X a; last = StaysSame refl }
memory-writes X (WriteInput how path) a = record { between = a; saves = SavesOnly-refl X a; last = StaysSame refl }
memory-writes X (At (Ls long) path) a = refl
memory-writes X (At Stat path) a = refl
memory-writes X (At (Edits edit) path) a = record { between = a; saves = SavesOnly-refl X a; last = StaysSame refl }
memory-writes X (Read offset count path) a = refl
memory-writes X (Prove absent path) a = refl
memory-writes X (Cat path) a = refl
memory-writes X (Get path host_path) a = refl
memory-writes X (Export cid) a = refl
memory-writes X Import a = record { between = a; saves = SavesOnly-refl X a; last = StaysSame refl }
memory-writes X (Same cid) a = refl
memory-writes X (Adopt source dest) a = record { between = a; saves = SavesOnly-refl X a; last = StaysSame refl }
memory-writes X (Gen n seed) a = refl
memory-writes X (Pin (pins.Add cid)) a = inl refl
memory-writes X (Pin (pins.Remove cid)) a = refl
memory-writes X (Pin pins.List) a = refl
memory-writes X (Add (adding.Host recursive true path)) a = refl
memory-writes X (Add (adding.Host recursive false path)) a = record { between = a; saves = SavesOnly-refl X a; last = StaysSame refl }

-- nothing is written to the host then
same-left : (source : DagPath) (path : List ℕ) (store : Told) (told : HostTold) → IfSome store (λ t. LeavesAt (held_at t) source path told told status.Memory)
same-left source path None told = tt
same-left source path (Some t) told = inl refl

nothing-gotten : (command : Command) (store : Told) (told : HostTold) → GetsFor command status.Memory store told told
nothing-gotten (Init p) store told = tt
nothing-gotten (Add what) store told = tt
nothing-gotten (WriteInput how path) store told = tt
nothing-gotten (At ask path) store told = tt
nothing-gotten (Read offset count path) store told = tt
nothing-gotten (Prove absent path) store told = tt
nothing-gotten (Cat path) store told = tt
nothing-gotten (Get source path) store told = record { below = same-below (trimmed path) told; leaves = same-left source path store told }
nothing-gotten (Export cid) store told = tt
nothing-gotten Import store told = tt
nothing-gotten (Same cid) store told = tt
nothing-gotten (Adopt source dest) store told = tt
nothing-gotten (Gen n seed) store told = tt
nothing-gotten (Pin ask) store told = tt

-- and the note of pins stays
nothing-pinned : (command : Command) (told : Told) → PinsFor command (Err no_memory) told told
nothing-pinned (Init p) told = tt
nothing-pinned (Add what) told = tt
nothing-pinned (WriteInput how path) told = tt
nothing-pinned (At ask path) told = tt
nothing-pinned (Read offset count path) told = tt
nothing-pinned (Prove absent path) told = tt
nothing-pinned (Cat path) told = tt
nothing-pinned (Get path host_path) told = tt
nothing-pinned (Export cid) told = tt
nothing-pinned Import told = tt
nothing-pinned (Same cid) told = tt
nothing-pinned (Adopt source dest) told = tt
nothing-pinned (Gen n seed) told = tt
nothing-pinned (Pin (pins.Add cid)) told = (refl, tt)
nothing-pinned (Pin (pins.Remove cid)) told = (refl, tt)
nothing-pinned (Pin pins.List) told = (refl, tt)

module _ (X : List ℕ → List ℕ) (N : List ℕ → ℕ) (a : Around) (er2 : SinkSide) where
  abbrev b : Around
  b = record a { errors = er2 }

  still-reads : (command : Command) → Counts (is_input_read {A = Unit {0}} command (Err no_memory)) a.reads a.reads
  still-reads command = by (uses_host command)
    where
      by : (u : Bool) → Counts (not u && false) a.reads a.reads
      by true = counts-still a.reads
      by false = counts-still a.reads

  still-host : (command : Command) → TakesHost (writes_host command) (uses_host command) false false a.host a.host
  still-host command = by (writes_host command) (uses_host command)
    where
      by : (writes uses : Bool) → TakesHost writes uses false false a.host a.host
      by true uses = record { reads = counts-still a.host.reads; writes = counts-still a.host.writes }
      by false true = record { told = refl; reads = counts-still a.host.reads; writes = refl }
      by false false = refl

  still-written : (command : Command) → RisesFor (is_output_write {A = Unit {0}} command (Err no_memory)) a.writes a.writes
  still-written command = by (writes_host command)
    where
      by : (u : Bool) → RisesFor (not u && false) a.writes a.writes
      by true = rises-still a.writes
      by false = rises-still a.writes

  wanting : (command : Command) → Does X N command (Err no_memory) a b
  wanting command = record {
    answers = λ world finds input calm. inl (record { ends_are = refl; stands = finds.stands });
    lost = λ p es rows held bytes named tells heights input calm.
        inl (record { fault = Memory; ends_are = refl; loss = tt; stands = names-same X N a.store.told a.store.told p es refl named });
    unprinted = λ world after is. absurd cc;
    unprinted_over = λ p es held outside after is. absurd cc;
    prefix = λ world finds input room. nothing-printed (reply X N command world).ends a.held a.held refl;
    prints = else-same (flows command) a.held;
    kinds = memory-kind command;
    ready = tt;
    long = no-long command no_memory a.store.told a.left a.left (λ rule e. cc) (λ e. cc);
    reads = still-reads command;
    host = still-host command;
    gets = nothing-gotten command a.store.told a.host.told;
    pins = nothing-pinned command a.store.told;
    kept = nothing-kept X N command status.Memory a.store a.host.told a.left (λ e. cc);
    writes = still-written command;
    cause = calm-memory a.store a.store (StaysCalm-refl a.store);
    whole = λ s needs stands calm. (λ e. cc, λ e. cc);
    touches = λ p es bytes rows named input heights calm. no-touch (command_touches X N rows bytes command p es) a.touches;
    touched = λ blames. absurd blames;
    unready = λ e is. record { told = refl; left = refl; reads = refl };
    unplaced = λ p es names stood none. record { told = refl; left = refl; reads = refl };
    leaves = record { head = keeps-head (Err no_memory) (prints_after command) a.store.told a.store.told refl; writes = memory-writes X command a.store.told; idle = λ p es bytes stands calm same. refl };
  }

  -- words that are refused
  pub words-serve : (asked : Result Command Refusal) (why : Refusal) → IsAsked (Err why) asked → Serves X N asked (Err why) a b
  words-serve (Ok command) why (inl memory) = subst (λ w. Does X N command (Err w) a b) (sym memory) (wanting command)
  words-serve (Ok command) why (inr same) = absurd cc
  words-serve (Err asked) why (inl memory) = record { refused = inr (ap (λ (w : Refusal). Err w) memory); same = refl }
  words-serve (Err asked) why (inr same) = (let e : asked ≡ why = cc in record { refused = inl (ap (λ (w : Refusal). Err w) (sym e)); same = refl })

-- ---- no store of a command's own is to blame but where it has one

may-section : (command : Command) → may_close (kinds_of command) OfSections ≡ true → own_store command ≡ NoStore → ⊥
may-section (Init p) h none = cc
may-section (Add (adding.Input only_hash)) h none = cc
may-section (Add (adding.InputTo dest)) h none = cc
may-section (Add (adding.HostTo recursive path dest)) h none = cc
may-section (Add (adding.Host recursive only_hash path)) h none = cc
may-section (WriteInput how path) h none = cc
may-section (At ask path) h none = cc
may-section (Read offset count path) h none = cc
may-section (Prove absent path) h none = cc
may-section (Cat path) h none = cc
may-section (Get path host_path) h none = cc
may-section (Export cid) h none = cc
may-section Import h none = cc
may-section (Same cid) h none = cc
may-section (Adopt source dest) h none = cc
may-section (Gen n seed) h none = cc
may-section (Pin (pins.Add cid)) h none = cc
may-section (Pin (pins.Remove cid)) h none = cc
may-section (Pin pins.List) h none = cc

may-clash : (command : Command) → may_close (kinds_of command) OfOwnClash ≡ true → own_store command ≡ NoStore → ⊥
may-clash (Init p) h none = cc
may-clash (Add (adding.Input only_hash)) h none = cc
may-clash (Add (adding.InputTo dest)) h none = cc
may-clash (Add (adding.HostTo recursive path dest)) h none = cc
may-clash (Add (adding.Host recursive only_hash path)) h none = cc
may-clash (WriteInput how path) h none = cc
may-clash (At ask path) h none = cc
may-clash (Read offset count path) h none = cc
may-clash (Prove absent path) h none = cc
may-clash (Cat path) h none = cc
may-clash (Get path host_path) h none = cc
may-clash (Export cid) h none = cc
may-clash Import h none = cc
may-clash (Same cid) h none = cc
may-clash (Adopt source dest) h none = cc
may-clash (Gen n seed) h none = cc
may-clash (Pin (pins.Add cid)) h none = cc
may-clash (Pin (pins.Remove cid)) h none = cc
may-clash (Pin pins.List) h none = cc

module _ (X : List ℕ → List ℕ) (left : streams.Told) (a b : Seen) where
  by-none : (own : OwnStore) (why : Refusal) → (refusal_kind why ≡ OfSections → ⊥) → (refusal_kind why ≡ OfOwnClash → ⊥) → ByOwnStore X own left a b why
  by-none own (refusal.Rule rule) none free = tt
  by-none own (refusal.Dag rule) none free = tt
  by-none own (refusal.Host rule) none free = tt
  by-none own (refusal.BadPath path) none free = tt
  by-none own refusal.InputTooLong none free = tt
  by-none own refusal.BadPins none free = tt
  by-none own refusal.Usage none free = tt
  by-none own (refusal.Ready reason) none free = tt
  by-none own refusal.Read none free = tt
  by-none own refusal.Write none free = tt
  by-none own (refusal.Store f) none free = tt
  by-none own (refusal.Car number place) none free = tt
  by-none own (refusal.CarLacks cid) none free = absurd (none refl)
  by-none own (refusal.OwnClash cid first second) none free = absurd (free refl)

  -- any other command
  pub spares-own : (command : Command) (done : Result (Unit {0}) Refusal) → own_store command ≡ NoStore → IsOf (may_close (kinds_of command)) done → IfErr done (ByOwnStore X (own_store command) left a b)
  spares-own command (Ok done) other kinds = tt
  spares-own command (Err why) other kinds =
      by-none (own_store command) why
      (λ is. may-section command (ap (may_close (kinds_of command)) (sym is) ∙ kinds) other)
      (λ is. may-clash command (ap (may_close (kinds_of command)) (sym is) ∙ kinds) other)

  -- words that are refused
  pub words-spare : (own : OwnStore) (why : Refusal) → IsOfWords (Err why) → ByOwnStore X own left a b why
  words-spare own why words =
      by-none own why (λ is. (let e : false ≡ true = ap word_kinds (sym is) ∙ words in cc)) (λ is. (let e : false ≡ true = ap word_kinds (sym is) ∙ words in cc))

-- a command on the tree alone has no store of its own
pub alone-spares : (command : Command) → reads_tree_alone command ≡ true → own_store command ≡ NoStore
alone-spares (Init p) h = refl
alone-spares (Add (adding.Input only_hash)) h = refl
alone-spares (Add (adding.InputTo dest)) h = refl
alone-spares (Add (adding.HostTo recursive path dest)) h = refl
alone-spares (Add (adding.Host recursive only_hash path)) h = refl
alone-spares (WriteInput how path) h = refl
alone-spares (At ask path) h = refl
alone-spares (Read offset count path) h = refl
alone-spares (Prove absent path) h = refl
alone-spares (Cat path) h = refl
alone-spares (Get path host_path) h = refl
alone-spares (Export cid) h = refl
alone-spares Import h = refl
alone-spares (Same cid) h = absurd cc
alone-spares (Adopt source dest) h = refl
alone-spares (Gen n seed) h = absurd cc
alone-spares (Pin ask) h = refl

-- and generates nothing
pub alone-given : (command : Command) → reads_tree_alone command ≡ true → generates command ≡ true → ⊥
alone-given (Init p) h own = cc
alone-given (Add (adding.Input only_hash)) h own = cc
alone-given (Add (adding.InputTo dest)) h own = cc
alone-given (Add (adding.HostTo recursive path dest)) h own = cc
alone-given (Add (adding.Host recursive only_hash path)) h own = cc
alone-given (WriteInput how path) h own = cc
alone-given (At ask path) h own = cc
alone-given (Read offset count path) h own = cc
alone-given (Prove absent path) h own = cc
alone-given (Cat path) h own = cc
alone-given (Get path host_path) h own = cc
alone-given (Export cid) h own = cc
alone-given Import h own = cc
alone-given (Same cid) h own = cc
alone-given (Adopt source dest) h own = cc
alone-given (Gen n seed) h own = cc
alone-given (Pin ask) h own = cc

-- where what was asked for was refused, memory was wanting for a command
pub asked-kinds : (told : Result Command Refusal) (why : Refusal) → IsAsked (Err why) told → IsOfCommand told (Err why)
asked-kinds (Ok command) why (inl memory) = subst (λ w. may_end command (refusal_kind w) ≡ true) (sym memory) refl
asked-kinds (Ok command) why (inr same) = absurd cc
asked-kinds (Err asked) why h = tt

-- no store of a command's own is to blame where what was asked for was refused
pub asked-spare : (X : List ℕ → List ℕ) (left : streams.Told) (a : Seen) (own : OwnStore) (why : Refusal) (told : Result Command Refusal) → IsOfWords told → IsAsked (Err why) told → ByOwnStore X own left a a why
asked-spare X left a own why told words (inl memory) = subst (ByOwnStore X own left a a) (sym memory) (words-spare X left a a own no_memory refl)
asked-spare X left a own why told words (inr same) = words-spare X left a a own why (subst IsOfWords same words)
