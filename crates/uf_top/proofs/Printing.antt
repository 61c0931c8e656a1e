-- From the text of a command that is made before anything is printed to the command that is done.
use Rattle.std.proofs.Common.{◌≡◌, ◌≢◌, ◌⊎◌, ℕ, List, [], ◌∷◌, length, take, true, false, arith, refl, sym, ap, subst, ◌∙◌, inl, inr, append-nil, Some, None, Bool, Result, Ok, Err}
use Rattle.std.specs.Prelude.{◌&&◌, not, IfErr, ⊤}
use Rattle.uf_cid.specs.Blocks.{Held, Lookup}
use Rattle.uf_edge.specs.Counts.{Counts}
use Rattle.uf_edge.specs.Host.{HostTold, HostTree}
use Rattle.uf_edge.specs.Streams.{after, AppendsPrefix}
use Rattle.uf_edge.specs.Streams as streams
use Rattle.uf_mfs.specs.Standing.{head_in}
use Rattle.uf_store.specs.Calls.{Calm}
use Rattle.uf_store.specs.Contents.{Told}
use Rattle.uf_store.specs.Faults.{StaysCalm}
use Rattle.uf_store.specs.Seen.{Seen}
use Rattle.uf_tree.specs.Standing.{Standing, NoHead, BadHead, Stands}
use Rattle.uf_tree.specs.Tree.{Dir, Entries}
use Rattle.uf_tree.specs.TreePlan.{blocks}
use Rattle.uf_tree.specs.declared.profile.Profile.{Profile}
use Rattle.uf_command.specs.Natures.{command_writes, needs_standing, uses_host, writes_host}
use Rattle.uf_command.specs.Natures as natures
use Rattle.uf_command.specs.Kinds.{OfWrite, may_meet, may_close, refusal_kind}
use Rattle.uf_command.specs.Natures.{kinds_of}
use Rattle.uf_top.specs.Reply.{Outside, Reply, World, host_after, outside_of, reply, world_of}
use Rattle.uf_command.specs.Statuses.{ended, no_memory, status_of}
use Rattle.uf_command.specs.declared.status.Status.{Status}
use Rattle.uf_command.specs.declared.status.Status.TheVariants as status
use Rattle.uf_command.specs.declared.types.Command.{Command}
use Rattle.uf_command.specs.declared.types.Command.TheVariants.{Init, Add, WriteInput, At, Read, Cat, Get, Export, Import, Same, Adopt, Gen, Pin, Prove}
use Rattle.uf_command.specs.declared.types.Adding.TheVariants as adding
use Rattle.uf_command.specs.declared.types.PinAsk.TheVariants as pins
use Rattle.uf_command.specs.declared.types.Refusal.{Refusal}
use Rattle.uf_command.specs.declared.types.Refusal.TheVariants as refusal
use Rattle.uf_store.specs.declared.store.StoreFault.TheVariants as fault
use Rattle.uf_top.specs.Answering.{Answers, DoesAnswer, LeavesNext}
use Rattle.uf_top.specs.Around.{CountsCanRise, HasOutside, HostSide, RisesFor, SinkSide, TakesHost, UsesHost, around}
use Rattle.uf_top.specs.Causes.{HeadStays, KeepsHead, is_read, is_write}
use Rattle.uf_top.specs.Endings.{AddsFor, EndsBy, IsTextOf, PrintsAt, IsLongFor, PrintsElse, PrintsPart}
use Rattle.uf_command.specs.Telling.{IsCut, Prints}
use Rattle.uf_top.specs.Getting.{GetsFor}
use Rattle.uf_top.specs.Hosted.{IsHostedText}
use Rattle.uf_top.specs.Pins.{PinsFor}
use Rattle.uf_top.specs.Losing.{AnswersOver, DoesOver}
use Rattle.uf_top.specs.Naming.{FindsOver, NamesIf, NamesAs, StandsIf, StandsNamed, TellsHost}
use Rattle.uf_top.specs.Shapes.{WritesAs, is_done}
use Rattle.uf_top.specs.Working.{Does, Makes, SaysText}
use Rattle.uf_top.proofs.Fronts.{kept-by}
use Rattle.uf_top.proofs.Shows.{no-long}

-- ---- which kinds no command that waits has

pub no-write : (command : Command) → may_meet (kinds_of command) OfWrite ≡ true → ⊥
no-write (Init p) h = cc
no-write (Add (adding.Input only_hash)) h = cc
no-write (WriteInput how path) h = cc
no-write (At ask path) h = cc
no-write (Read offset count path) h = cc
no-write (Prove absent path) h = cc
no-write (Cat path) h = cc
no-write (Get path host_path) h = cc
no-write (Export cid) h = cc
no-write Import h = cc
no-write (Same cid) h = cc
no-write (Adopt source dest) h = cc
no-write (Gen n seed) h = cc
no-write (Pin (pins.Add cid)) h = cc
no-write (Pin (pins.Remove cid)) h = cc
no-write (Pin pins.List) h = cc
no-write (Add (adding.InputTo dest)) h = cc
no-write (Add (adding.HostTo recursive path dest)) h = cc
no-write (Add (adding.Host recursive only_hash path)) h = cc

-- such a command needs what the store stands for
alone-needs : (command : Command) → natures.reads_tree_alone command ≡ true → needs_standing command ≡ true
alone-needs (Init p) h = refl
alone-needs (Add (adding.Input only_hash)) h = refl
alone-needs (Add (adding.InputTo dest)) h = refl
alone-needs (Add (adding.HostTo recursive path dest)) h = refl
alone-needs (Add (adding.Host recursive only_hash path)) h = refl
alone-needs (WriteInput how path) h = refl
alone-needs (At ask path) h = refl
alone-needs (Read offset count path) h = refl
alone-needs (Prove absent path) h = refl
alone-needs (Cat path) h = absurd cc
alone-needs (Get path host_path) h = absurd cc
alone-needs (Export cid) h = absurd cc
alone-needs Import h = absurd cc
alone-needs (Same cid) h = absurd cc
alone-needs (Adopt source dest) h = absurd cc
alone-needs (Gen n seed) h = absurd cc
alone-needs (Pin ask) h = absurd cc

-- it only reads the host, whose files and folders stay
alone-reads : (command : Command) → natures.reads_tree_alone command ≡ true → writes_host command ≡ false
alone-reads (Init p) h = refl
alone-reads (Add (adding.Input only_hash)) h = refl
alone-reads (Add (adding.InputTo dest)) h = refl
alone-reads (Add (adding.HostTo recursive path dest)) h = refl
alone-reads (Add (adding.Host recursive only_hash path)) h = refl
alone-reads (WriteInput how path) h = refl
alone-reads (At ask path) h = refl
alone-reads (Read offset count path) h = refl
alone-reads (Prove absent path) h = refl
alone-reads (Cat path) h = absurd cc
alone-reads (Get path host_path) h = absurd cc
alone-reads (Export cid) h = absurd cc
alone-reads Import h = absurd cc
alone-reads (Same cid) h = absurd cc
alone-reads (Adopt source dest) h = absurd cc
alone-reads (Gen n seed) h = absurd cc
alone-reads (Pin ask) h = absurd cc

alone-stays : (command : Command) → natures.reads_tree_alone command ≡ true → (world : World) → host_after (Ok command) world ≡ world.host
alone-stays (Init p) h world = refl
alone-stays (Add what) h world = refl
alone-stays (WriteInput how path) h world = refl
alone-stays (At ask path) h world = refl
alone-stays (Read offset count path) h world = refl
alone-stays (Prove absent path) h world = refl
alone-stays (Cat path) h world = absurd cc
alone-stays (Get path host_path) h world = absurd cc
alone-stays (Export cid) h world = absurd cc
alone-stays Import h world = absurd cc
alone-stays (Same cid) h world = absurd cc
alone-stays (Adopt source dest) h world = absurd cc
alone-stays (Gen n seed) h world = absurd cc
alone-stays (Pin ask) h world = absurd cc

-- and gets nothing
alone-gets : (command : Command) → natures.reads_tree_alone command ≡ true → (given : Status) (told : Told) (host now : HostTold) → GetsFor command given told host now
alone-gets (Init p) h given told host now = tt
alone-gets (Add what) h given told host now = tt
alone-gets (WriteInput how path) h given told host now = tt
alone-gets (At ask path) h given told host now = tt
alone-gets (Read offset count path) h given told host now = tt
alone-gets (Prove absent path) h given told host now = tt
alone-gets (Cat path) h given told host now = absurd cc
alone-gets (Get path host_path) h given told host now = absurd cc
alone-gets (Export cid) h given told host now = absurd cc
alone-gets Import h given told host now = absurd cc
alone-gets (Same cid) h given told host now = absurd cc
alone-gets (Adopt source dest) h given told host now = absurd cc
alone-gets (Gen n seed) h given told host now = absurd cc
alone-gets (Pin ask) h given told host now = absurd cc

-- and is none on pins
alone-pins : (command : Command) → natures.reads_tree_alone command ≡ true → (done : Result (Unit {0}) Refusal) (told now : Told) → PinsFor command done told now
alone-pins (Init p) h done told now = tt
alone-pins (Add what) h done told now = tt
alone-pins (WriteInput how path) h done told now = tt
alone-pins (At ask path) h done told now = tt
alone-pins (Read offset count path) h done told now = tt
alone-pins (Prove absent path) h done told now = tt
alone-pins (Cat path) h done told now = tt
alone-pins (Get path host_path) h done told now = tt
alone-pins (Export cid) h done told now = tt
alone-pins Import h done told now = tt
alone-pins (Same cid) h done told now = tt
alone-pins (Adopt source dest) h done told now = tt
alone-pins (Gen n seed) h done told now = tt
alone-pins (Pin ask) h done told now = absurd cc

-- a command that doesn't use the host says nothing of it
pub of-no-host : {A B : Type 0} → A ⊎ B → A ⊎ (B × ⊤)
of-no-host (inl a) = inl a
of-no-host (inr b) = inr (b, tt)

-- a host that is used and only read tells what it told
host-tells : (uses is_fault : Bool) (s t : HostSide) (tree : HostTree) → UsesHost uses is_fault s t → (uses ≡ true → s.told ≡ Some tree) → TellsHost uses t.told tree
host-tells true is_fault s t tree used tells = used.told ∙ tells refl
host-tells false is_fault s t tree used tells = tt

-- what may be answered before anything is printed may be answered after it
pub may-end : (command : Command) (k : Refusal) → may_meet (kinds_of command) (refusal_kind k) ≡ true → may_close (kinds_of command) (refusal_kind k) ≡ true
may-end command (refusal.Rule rule) h = h
may-end command (refusal.Dag rule) h = h
may-end command (refusal.Car number place) h = h
may-end command (refusal.CarLacks cid) h = h
may-end command (refusal.OwnClash cid first second) h = h
may-end command (refusal.Host rule) h = h
may-end command (refusal.BadPath why) h = h
may-end command refusal.InputTooLong h = h
may-end command refusal.BadPins h = h
may-end command refusal.Usage h = h
may-end command (refusal.Ready why) h = h
may-end command refusal.Read h = h
may-end command refusal.Write h = refl
may-end command (refusal.Store fault.Failed) h = h
may-end command (refusal.Store (fault.Damaged cid)) h = h
may-end command (refusal.Store (fault.Missing cid)) h = h
may-end command (refusal.Store (fault.BadBlock cid role)) h = h
may-end command (refusal.Store (fault.Clash cid first second)) h = h
may-end command (refusal.Store fault.Memory) h = h

-- ---- a refusal that no failed write is prints nothing, and the command wasn't done

pub record IsQuiet (IsText : List ℕ → Type 0) (flows : Bool) (why : Refusal) : Type 0 where
  pub prints : (held now : streams.Told) → PrintsElse flows held now → PrintsAt IsText flows (status_of why) held now
  pub undone : is_done (status_of why) ≡ false
  pub unwritten : is_write {A = Unit {0}} (Err why) ≡ false

pub quiet-of : (IsText : List ℕ → Type 0) (flows : Bool) (why : Refusal) → refusal_kind why ≢ OfWrite → IsQuiet IsText flows why
quiet-of T f (refusal.Rule rule) other = record { prints = λ h n e. e; undone = refl; unwritten = refl }
quiet-of T f (refusal.Dag rule) other = record { prints = λ h n e. e; undone = refl; unwritten = refl }
quiet-of T f (refusal.Car number place) other = record { prints = λ h n e. e; undone = refl; unwritten = refl }
quiet-of T f (refusal.CarLacks cid) other = record { prints = λ h n e. e; undone = refl; unwritten = refl }
quiet-of T f (refusal.OwnClash cid first second) other = record { prints = λ h n e. e; undone = refl; unwritten = refl }
quiet-of T f (refusal.Host rule) other = record { prints = λ h n e. e; undone = refl; unwritten = refl }
quiet-of T f (refusal.BadPath path) other = record { prints = λ h n e. e; undone = refl; unwritten = refl }
quiet-of T f refusal.Usage other = record { prints = λ h n e. e; undone = refl; unwritten = refl }
quiet-of T f refusal.InputTooLong other = record { prints = λ h n e. e; undone = refl; unwritten = refl }
quiet-of T f refusal.BadPins other = record { prints = λ h n e. e; undone = refl; unwritten = refl }
quiet-of T f (refusal.Ready reason) other = record { prints = λ h n e. e; undone = refl; unwritten = refl }
quiet-of T f refusal.Read other = record { prints = λ h n e. e; undone = refl; unwritten = refl }
quiet-of T f refusal.Write other = absurd (other refl)
quiet-of T f (refusal.Store fault.Failed) other = record { prints = λ h n e. e; undone = refl; unwritten = refl }
quiet-of T f (refusal.Store (fault.Damaged cid)) other = record { prints = λ h n e. e; undone = refl; unwritten = refl }
quiet-of T f (refusal.Store (fault.Missing cid)) other = record { prints = λ h n e. e; undone = refl; unwritten = refl }
quiet-of T f (refusal.Store (fault.BadBlock cid role)) other = record { prints = λ h n e. e; undone = refl; unwritten = refl }
quiet-of T f (refusal.Store (fault.Clash cid first second)) other = record { prints = λ h n e. e; undone = refl; unwritten = refl }
quiet-of T f (refusal.Store fault.Memory) other = record { prints = λ h n e. e; undone = refl; unwritten = refl }

pub rises-still : (w : ℕ) → RisesFor false w w
rises-still w = record { rose = λ e. absurd cc; still = λ e. refl }

pub after-nothing : (held : streams.Told) → held ≡ after held []
after-nothing None = refl
after-nothing (Some bytes) = ap (λ (l : List ℕ). Some l) (sym (append-nil bytes))

-- nothing was printed
pub else-same : (flows : Bool) (held : streams.Told) → PrintsElse flows held held
else-same true held = ([], after-nothing held)
else-same false held = refl

-- of any text, nothing is a part
pub nothing-printed : (ends : Result (List ℕ) Refusal) (held now : streams.Told) → now ≡ held → PrintsPart ends held now
nothing-printed (Ok text) held now same = record { count = 0; fits = search arith; appended = same ∙ after-nothing held }
nothing-printed (Err why) held now same = same

take-all : (text : List ℕ) → take (length text) text ≡ text
take-all [] = refl
take-all (b ∷ text) = ap (λ (l : List ℕ). b ∷ l) (take-all text)

-- the whole of a text is a part of it
pub whole-printed : (text : List ℕ) (held now : streams.Told) → now ≡ after held text → AppendsPrefix text held now
whole-printed text held now is = record { count = length text; fits = search arith; appended = is ∙ ap (λ (l : List ℕ). after held l) (sym (take-all text)) }

-- a store that has room and has stayed calm was calm
pub calm-of : (a b : Seen) → CountsCanRise a → StaysCalm a b → Calm a b
calm-of a b room calm = record {
  faults = (let e = calm.faults in let r = room.faults in omega (arith, e, r));
  clashes = (let e = calm.clashes in let r = room.clashes in omega (arith, e, r));
}

-- the Head stays where it does so whatever the command
pub keeps-head : (done : Result (Unit {0}) Refusal) (after : Bool) (a b : Told) → IfErr done (λ why. head_in b ≡ head_in a) → KeepsHead done after a b
keeps-head (Ok done) true a b h = tt
keeps-head (Ok done) false a b h = tt
keeps-head (Err why) true a b h = λ other. h
keeps-head (Err why) false a b h = h

-- so it does where the output of a text failed that was made before the Head moved
some-stays : (text : List ℕ) (after : Bool) (a b : Told) → (text ≢ []) → HeadStays (Ok text) after a b → KeepsHead (Err refusal.Write) after a b
some-stays [] after a b some stays = absurd (some refl)
some-stays (x ∷ text) true a b some stays = λ other. absurd (other refl)
some-stays (x ∷ text) false a b some stays = stays

module _ (X : List ℕ → List ℕ) (N : List ℕ → ℕ) where
  text-of : (command : Command) → natures.reads_tree_alone command ≡ true → (told now : Told) (host : HostTold) (l m : streams.Told) (text : List ℕ) → AddsFor X told now (Ok command) (Ok text) l m → IsHostedText X N told now host command text → IsTextOf X N told now host command l text
  text-of (Init p) alone told now host l m text h rows = rows
  text-of (Add (adding.Input only_hash)) alone told now host l m text h rows = h
  text-of (WriteInput how path) alone told now host l m text h rows = rows
  text-of (At ask path) alone told now host l m text h rows = rows
  text-of (Read offset count path) alone told now host l m text h rows = tt
  text-of (Prove absent path) alone told now host l m text h rows = tt
  text-of (Cat path) alone told now host l m text h rows = tt
  text-of (Add (adding.InputTo dest)) alone told now host l m text h rows = h
  text-of (Add (adding.HostTo recursive path dest)) alone told now host l m text h rows = rows
  text-of (Add (adding.Host recursive only_hash path)) alone told now host l m text h rows = rows
  text-of (Get path host_path) alone told now host l m text h rows = absurd cc
  text-of (Export cid) alone told now host l m text h rows = tt
  text-of Import alone told now host l m text h rows = absurd cc
  text-of (Same cid) alone told now host l m text h rows = tt
  text-of (Adopt source dest) alone told now host l m text h rows = absurd cc
  text-of (Gen n seed) alone told now host l m text h rows = absurd cc
  text-of (Pin ask) alone told now host l m text h rows = absurd cc

  long-of : (command : Command) (told now : Told) (l m : streams.Told) (why : Refusal) → AddsFor X told now (Ok command) (Err why) l m → IsLongFor command why told l m
  long-of (Add (adding.Input only_hash)) told now l m why adds = λ rule e. subst (λ w. AddsFor X told now (Ok (Add (adding.Input only_hash))) (Err w) l m) e adds
  long-of (WriteInput how path) told now l m why adds = λ e. subst (λ w. AddsFor X told now (Ok (WriteInput how path)) (Err w) l m) e adds
  long-of (Init p) told now l m why adds = tt
  long-of (At ask path) told now l m why adds = tt
  long-of (Read offset count path) told now l m why adds = tt
  long-of (Prove absent path) told now l m why adds = tt
  long-of (Cat path) told now l m why adds = tt
  long-of (Get path host_path) told now l m why adds = tt
  long-of (Export cid) told now l m why adds = tt
  long-of Import told now l m why adds = tt
  long-of (Same cid) told now l m why adds = tt
  long-of (Adopt source dest) told now l m why adds = tt
  long-of (Gen n seed) told now l m why adds = tt
  long-of (Pin ask) told now l m why adds = tt
  long-of (Add (adding.InputTo dest)) told now l m why adds = tt
  long-of (Add (adding.HostTo recursive path dest)) told now l m why adds = tt
  long-of (Add (adding.Host recursive only_hash path)) told now l m why adds = tt

  module _ (command : Command) (alone : natures.reads_tree_alone command ≡ true) (a b : Seen) (l m : streams.Told) (i j t0 t1 : ℕ) (h : streams.Told) (w : ℕ) (side side2 : HostSide) (er er2 : SinkSide) where
    needs : needs_standing command ≡ true
    needs = alone-needs command alone

    reads : writes_host command ≡ false
    reads = alone-reads command alone

    takes : (is_read is_write : Bool) → UsesHost (uses_host command) is_read side side2 → TakesHost (writes_host command) (uses_host command) is_read is_write side side2
    takes is_read is_write used = subst (λ u. TakesHost u (uses_host command) is_read is_write side side2) (sym reads) used

    rises : (is_fault : Bool) (v : ℕ) → RisesFor is_fault w v → RisesFor (not (writes_host command) && is_fault) w v
    rises is_fault v h = subst (λ u. RisesFor (not u && is_fault) w v) (sym reads) h

    stays : (is_fault : Bool) (world : World) → UsesHost (uses_host command) is_fault side side2 → (uses_host command ≡ true → side.told ≡ Some world.host) → TellsHost (uses_host command) side2.told (host_after (Ok command) world)
    stays is_fault world used tells = host-tells (uses_host command) is_fault side side2 (host_after (Ok command) world) used (λ uses. tells uses ∙ ap (λ (t : HostTree). Some t) (sym (alone-stays command alone world)))

    stands-in : (told : Told) (s : Standing) → StandsIf X N (needs_standing command) told s → StandsIf X N true told s
    stands-in told s stands = subst (λ n. StandsIf X N n told s) needs stands

    stands-out : (told : Told) (s : Standing) → StandsIf X N true told s → StandsIf X N (needs_standing command) told s
    stands-out told s stands = subst (λ n. StandsIf X N n told s) (sym needs) stands

    -- a command that is refused before anything is printed
    pub refused-does : (why : Refusal) → Makes X N command (Err why) (around a l i h w t0 side er) (around b m j h w t1 side2 er2) → Does X N command (Err why) (around a l i h w t0 side er) (around b m j h w t1 side2 er2)
    refused-does why mk =
        let quiet = quiet-of (IsTextOf X N a.told b.told side.told command l) (natures.streams command) why (λ e. no-write command (subst (λ k. may_meet (kinds_of command) k ≡ true) e mk.kinds)) in
        record {
          answers = λ world finds input calm. answered world (λ uses. (input.1 uses).0) (mk.answers world (stands-in a.told world.standing finds.stands) input calm.store);
          lost = λ p es rows held bytes named tells heights input calm. over p es (mk.lost p es rows held bytes named input calm.store);
          unprinted = λ world after is. absurd (let e : is_done (status_of why) ≡ true = ap is_done is in let f = quiet.undone in cc);
          unprinted_over = λ p es held outside after is. absurd (let e : is_done (status_of why) ≡ true = ap is_done is in let f = quiet.undone in cc);
          prefix = λ world finds input room. nothing-printed (reply X N command world).ends h h refl;
          prints = quiet.prints h h (else-same (natures.streams command) h);
          kinds = may-end command why mk.kinds;
          ready = mk.ready;
          long = long-of command a.told b.told l m why mk.adds;
          reads = mk.reads;
          host = takes (is_read {A = Unit {0}} (Err why)) (is_write {A = Unit {0}} (Err why)) mk.host;
          gets = alone-gets command alone (ended {A = Unit {0}} (Err why)) a.told side.told side2.told;
          pins = alone-pins command alone (Err why) a.told b.told;
          kept = mk.kept;
          writes = rises (is_write {A = Unit {0}} (Err why)) w (subst (λ f. RisesFor f w w) (sym quiet.unwritten) (rises-still w));
          cause = mk.cause;
          whole = λ s needs stands calm. mk.whole s stands calm;
          touches = λ p es bytes rows named input heights calm. mk.touches p es bytes rows named input heights calm;
          touched = mk.touched;
          unready = λ e is. mk.unready e is;
          unplaced = λ p es names stood none. mk.unplaced p es names stood none;
          leaves = record {
            head = keeps-head (Err why) (natures.prints_after command) a.told b.told mk.leaves.head;
            writes = subst (λ d. WritesAs X (command_writes command) d a.told b.told) (sym quiet.undone) mk.leaves.writes;
            idle = mk.leaves.idle;
          };
        }
      where
        answered : (world : World) → (uses_host command ≡ true → side.told ≡ Some world.host) → Answers X N world.standing (reply X N command world) (Err why) b.told → DoesAnswer X N command world (Err why) h h b.told side2.told
        answered world tells (inl x) =
            let e : why ≡ no_memory = (let same = x.ends_are in cc) in
            inl (record { ends_are = ap (λ (r : Refusal). Err r) e; stands = stands-out b.told world.standing x.stands })
        answered world tells (inr x) =
            inr (
              record {
                ends = subst (λ e. EndsBy e (Err why) h h) x.ends_are (refl, refl);
                stands = stands-out b.told (reply X N command world).next x.stands;
                blocks = x.held;
              },
              stays (is_read {A = Unit {0}} (Err why)) world mk.host tells,
            )

        over : (p : Profile) (es : Entries) {needs : List Held} {given : Reply} → AnswersOver X N a.told b.told p es needs given (Err why) → DoesOver X N a.told b.told p es needs given (Err why) h h
        over p es (inl x) =
            let e : why ≡ refusal.Store x.fault = (let same = x.ends_are in cc) in
            inl (record { fault = x.fault; ends_are = ap (λ (r : Refusal). Err r) e; loss = x.loss; stands = x.stands })
        over p es (inr x) = inr (record { ends = subst (λ e. EndsBy e (Err why) h h) x.ends_are (refl, refl); stands = x.stands })

    module _ (text : List ℕ) (mk : Makes X N command (Ok text) (around a l i h w t0 side er) (around b m j h w t1 side2 er2)) where
      -- the text is the reply's, whatever blocks are lost
      text-given : (s : Standing) (held : Lookup) (outside : Outside) → NamesAs X N a.told b.told s → HasOutside (Ok command) outside (around a l i h w t0 side er) (around b m j h w t1 side2 er2) → CountsCanRise a
          → Ok text ≡ (reply X N command (world_of s held outside)).ends
      text-given NoHead held outside names input room = by (mk.answers (world_of NoHead held outside) names input (calm-of a b room mk.cause))
        where
          by : Answers X N NoHead (reply X N command (world_of NoHead held outside)) (Ok text) b.told → Ok text ≡ (reply X N command (world_of NoHead held outside)).ends
          by (inl x) = absurd (let e = x.ends_are in cc)
          by (inr x) = x.ends_are
      text-given BadHead held outside names input room = by (mk.answers (world_of BadHead held outside) names input (calm-of a b room mk.cause))
        where
          by : Answers X N BadHead (reply X N command (world_of BadHead held outside)) (Ok text) b.told → Ok text ≡ (reply X N command (world_of BadHead held outside)).ends
          by (inl x) = absurd (let e = x.ends_are in cc)
          by (inr x) = x.ends_are
      text-given (Stands p es) held outside names input room = by (mk.lost p es (λ n. 0) held outside names input (calm-of a b room mk.cause))
        where
          by : {needs : List Held} → AnswersOver X N a.told b.told p es needs (reply X N command (world_of (Stands p es) held outside)) (Ok text)
              → Ok text ≡ (reply X N command (world_of (Stands p es) held outside)).ends
          by (inl x) = absurd (let e = x.ends_are in cc)
          by (inr x) = x.ends_are

      text-is : (world : World) → FindsOver X N a.told b.told (Ok command) world → HasOutside (Ok command) (outside_of world) (around a l i h w t0 side er) (around b m j h w t1 side2 er2) → CountsCanRise a → Ok text ≡ (reply X N command world).ends
      text-is world finds input room =
          text-given world.standing world.held (outside_of world) (subst (λ n. NamesIf X N a.told b.told n world.standing) needs finds.names) input room

      module _ (h2 : streams.Told) (v : ℕ) where
        -- its text is printed
        pub printed-does : h2 ≡ after h text → Counts false w v → Does X N command (Ok tt) (around a l i h w t0 side er) (around b m j h2 v t1 side2 er2)
        printed-does is counts = record {
          answers = λ world finds input calm. answered world (λ uses. (input.1 uses).0) (mk.answers world (stands-in a.told world.standing finds.stands) input calm.store);
          lost = λ p es rows held bytes named tells heights input calm. over p es (mk.lost p es rows held bytes named input calm.store);
          unprinted = λ world after is. absurd cc;
          unprinted_over = λ p es held outside after is. absurd cc;
          prefix = λ world finds input room. subst (λ e. PrintsPart e h h2) (text-is world finds input room) (whole-printed text h h2 is);
          prints = (text, text-of command alone a.told b.told side.told l m text mk.adds mk.rows, is);
          kinds = tt;
          ready = tt;
          long = tt;
          reads = mk.reads;
          host = takes false false mk.host;
          gets = alone-gets command alone status.Ok a.told side.told side2.told;
          pins = alone-pins command alone (Ok tt) a.told b.told;
          kept = mk.kept;
          writes = rises false v (record { rose = counts.rose; still = counts.still });
          cause = mk.cause;
          whole = λ s needs stands calm. mk.whole s stands calm;
          touches = λ p es bytes rows named input heights calm. mk.touches p es bytes rows named input heights calm;
          touched = mk.touched;
          unready = λ e is. absurd cc;
          unplaced = λ p es names stood none. (let x = mk.unplaced p es names stood none in record { told = x.told; left = x.left; reads = x.reads });
          leaves = record { head = keeps-head (Ok tt) (natures.prints_after command) a.told b.told tt; writes = mk.leaves.writes; idle = mk.leaves.idle };
        }
          where
            answered : (world : World) → (uses_host command ≡ true → side.told ≡ Some world.host) → Answers X N world.standing (reply X N command world) (Ok text) b.told → DoesAnswer X N command world (Ok tt) h h2 b.told side2.told
            answered world tells (inl x) = absurd (let e = x.ends_are in cc)
            answered world tells (inr x) =
                inr (
                  record {
                    ends = subst (λ e. EndsBy e (Ok tt) h h2) x.ends_are (refl, is);
                    stands = stands-out b.told (reply X N command world).next x.stands;
                    blocks = x.held;
                  },
                  stays false world mk.host tells,
                )

            over : (p : Profile) (es : Entries) {needs : List Held} {given : Reply} → AnswersOver X N a.told b.told p es needs given (Ok text) → DoesOver X N a.told b.told p es needs given (Ok tt) h h2
            over p es (inl x) = absurd (let e = x.ends_are in cc)
            over p es (inr x) = inr (record { ends = subst (λ e. EndsBy e (Ok tt) h h2) x.ends_are (refl, is); stands = x.stands })

        left-next : (world : World) → Answers X N world.standing (reply X N command world) (Ok text) b.told → LeavesNext X N (reply X N command world) b.told
        left-next world (inl x) = absurd (let e = x.ends_are in cc)
        left-next world (inr x) = record { stands = x.stands; blocks = x.held }

        -- over lost blocks too: no block was lost, since the text was made
        left-over : (p : Profile) (es : Entries) {needs : List Held} {given : Reply} → AnswersOver X N a.told b.told p es needs given (Ok text) → StandsNamed X N a.told b.told (blocks X N p (Dir es)) given.next
        left-over p es (inl x) = absurd (let e = x.ends_are in cc)
        left-over p es (inr x) = x.stands

        cut-does : IsCut text refusal.Write h h2 w v → Does X N command (Err refusal.Write) (around a l i h w t0 side er) (around b m j h2 v t1 side2 er2)
        cut-does c =
            let rose = c.counts.rose refl in
            record {
              answers = λ world finds input calm. absurd (let stood = calm.written.output in omega (arith, rose, stood));
              lost = λ p es rows held bytes named tells heights input calm. absurd (let stood = calm.written.output in omega (arith, rose, stood));
              unprinted = λ world after is finds input calm. left-next world (mk.answers world (stands-in a.told world.standing finds.stands) input calm);
              unprinted_over = λ p es held outside after is named input calm. left-over p es (mk.lost p es (λ n. 0) held outside named input calm);
              prefix = λ world finds input room. subst (λ e. PrintsPart e h h2) (text-is world finds input room) c.printed;
              prints = (text, text-of command alone a.told b.told side.told l m text mk.adds mk.rows, c.printed);
              kinds = refl;
              ready = tt;
              long = no-long command refusal.Write a.told l m (λ rule e. cc) (λ e. cc);
              reads = mk.reads;
              host = takes false true mk.host;
              gets = alone-gets command alone status.WriteFault a.told side.told side2.told;
              pins = alone-pins command alone (Err refusal.Write) a.told b.told;
              kept = kept-by X N command status.Ok status.WriteFault a b side.told l (λ e. cc) (λ e. cc) mk.kept;
              writes = rises true v (record { rose = c.counts.rose; still = c.counts.still });
              cause = mk.cause;
              whole = λ s needs stands calm. (λ e. cc, λ e. cc);
              touches = λ p es bytes rows named input heights calm. mk.touches p es bytes rows named input heights calm;
              touched = λ blames. absurd blames;
              unready = λ e is. absurd cc;
              unplaced = λ p es names stood none. (let x = mk.unplaced p es names stood none in record { told = x.told; left = x.left; reads = x.reads });
              leaves = record { head = some-stays text (natures.prints_after command) a.told b.told c.some mk.leaves.head; writes = mk.leaves.writes; idle = mk.leaves.idle };
            }

        -- or the output failed
        pub prints-does : (r : Result (Unit {0}) Refusal) → Prints text r h h2 w v → Does X N command r (around a l i h w t0 side er) (around b m j h2 v t1 side2 er2)
        prints-does (Ok done) p = printed-does p.0 p.1
        prints-does (Err why) c =
            let e = c.write in
            subst (λ (r : Refusal). Does X N command (Err r) (around a l i h w t0 side er) (around b m j h2 v t1 side2 er2)) (sym e) (cut-does (subst (λ (r : Refusal). IsCut text r h h2 w v) e c))

  -- so it is where what was made is printed, or else refused
  pub said-does : (command : Command) (alone : natures.reads_tree_alone command ≡ true) (a b : Seen) (l m : streams.Told) (i j t0 t1 : ℕ) (h : streams.Told) (w : ℕ) (side side2 : HostSide) (text : Result (List ℕ) Refusal)
      → ((er er2 : SinkSide) → Makes X N command text (around a l i h w t0 side er) (around b m j h w t1 side2 er2)) → (h2 : streams.Told) (v : ℕ) (r : Result (Unit {0}) Refusal)
      → SaysText text r h h2 w v → (er er2 : SinkSide) → Does X N command r (around a l i h w t0 side er) (around b m j h2 v t1 side2 er2)
  said-does command alone a b l m i j t0 t1 h w side side2 (Ok text) mk h2 v r p er er2 = prints-does command alone a b l m i j t0 t1 h w side side2 er er2 text (mk er er2) h2 v r p
  said-does command alone a b l m i j t0 t1 h w side side2 (Err why) mk h2 v r p er er2 =
      subst (λ (r : Result (Unit {0}) Refusal). Does X N command r (around a l i h w t0 side er) (around b m j h2 v t1 side2 er2)) (sym p.0)
      (subst (λ (held : streams.Told). Does X N command (Err why) (around a l i h w t0 side er) (around b m j held v t1 side2 er2)) (sym p.1)
      (subst (λ (writes : ℕ). Does X N command (Err why) (around a l i h w t0 side er) (around b m j h writes t1 side2 er2)) (sym p.2)
      (refused-does command alone a b l m i j t0 t1 h w side side2 er er2 why (mk er er2))))
