-- How the CAR of what is held is sent to the output.
use Rattle.std.proofs.Common.{◌≡◌, ◌⊎◌, ℕ, List, [], true, false, refl, sym, ap, subst, inl, inr, Some, None, Result, Ok, Err}
use Rattle.std.specs.Prelude.{IfSome, IsSome, ⊤}
use Rattle.uf_car.specs.Exporting.{Exports, IsOtherFault, StopsOrder, WritesCar, WritesSome, export_fault, is_sink_fault}
use Rattle.uf_car.specs.Text.{car_text}
use Rattle.uf_car.specs.declared.fault.ExportFault.{ExportFault}
use Rattle.uf_car.specs.declared.fault.ExportFault.TheVariants as export
use Rattle.uf_cid.specs.Blocks.{Lookup}
use Rattle.uf_cid.specs.declared.cid.Cid.{Cid}
use Rattle.uf_edge.specs.Counts.{Counts}
use Rattle.uf_edge.specs.Streams.{after}
use Rattle.uf_edge.specs.Streams as streams
use Rattle.uf_lenient.specs.Answers.{IsStoreOwn}
use Rattle.uf_mfs.specs.Standing.{TellsHeld, head_in}
use Rattle.uf_store.specs.Calls.{Calm}
use Rattle.uf_store.specs.Contents.{Contents, Told, held_at}
use Rattle.uf_store.specs.Faults.{NoneIsBad, Shown, StaysCalm}
use Rattle.uf_store.specs.Seen.{Seen}
use Rattle.uf_store.specs.declared.store.StoreFault.{StoreFault}
use Rattle.uf_store.specs.declared.store.StoreFault.TheVariants as fault
use Rattle.uf_store.proofs.Calls.{shown-by}
use Rattle.uf_tree.specs.Tree.{Entries}
use Rattle.uf_tree.specs.declared.profile.Profile.{Profile}
use Rattle.uf_walk.specs.Order.{OrderFault, order}
use Rattle.uf_command.specs.Cars.{car_of, export_refusal, most_blocks}
use Rattle.uf_command.specs.Kinds.{fault_behind}
use Rattle.uf_top.specs.Reply.{Outside, World, in_world, reply}
use Rattle.uf_command.specs.declared.types.Command.TheVariants.{Export}
use Rattle.uf_command.specs.declared.types.Refusal.{Refusal}
use Rattle.uf_command.specs.declared.types.Refusal.TheVariants as refusal
use Rattle.uf_top.specs.Answering.{DoesAnswer}
use Rattle.uf_top.specs.Around.{HostSide, RisesFor, SinkSide, around}
use Rattle.uf_top.specs.Causes.{IsBadIn}
use Rattle.uf_top.specs.Endings.{EndsBy, PrintsPart}
use Rattle.uf_top.specs.Foreign.{IsOfReading, IsOwnRefusal}
use Rattle.uf_top.specs.Losing.{DoesOver}
use Rattle.uf_top.specs.Naming.{StaysNamed, TellsBlocks}
use Rattle.uf_top.specs.Working.{Does}
use Rattle.uf_top.proofs.Cats.{no-blame, own-wants, plain-of, reading-kinds, tells-some}
use Rattle.uf_top.proofs.Losing.{names-same}
use Rattle.uf_top.proofs.Printing.{nothing-printed, quiet-of, whole-printed}
use Rattle.uf_top.proofs.Shows.{counts-still, not-rose}

-- what is so of each contents that are told
told-each : (A : Contents → Type 0) (told : Told) → ((t : Contents) → told ≡ Some t → A t) → IfSome told A
told-each A None f = tt
told-each A (Some t) f = f t refl

-- ---- what an export says

other-own : (f : StoreFault) → IsOtherFault f → IsStoreOwn f
other-own fault.Failed h = tt
other-own (fault.Damaged c) h = tt
other-own (fault.Missing c) h = absurd h
other-own (fault.BadBlock c role) h = absurd h
other-own (fault.Clash c first second) h = absurd h
other-own fault.Memory h = tt

-- the first fault of the order is the refusal, or the store's own
stop-said : (held : Lookup) (root : Cid) (o : Result (List Cid) OrderFault) (f : ExportFault) → StopsOrder o f → IsOwnRefusal (export_refusal f) ⊎ (car_of held root o ≡ Err (export_refusal f))
stop-said held root o export.Sink stops = absurd stops
stop-said held root o (export.NotDagPb c why) stops = inr (ap (car_of held root) stops)
stop-said held root o export.TooMany stops = inr (ap (car_of held root) stops)
stop-said held root o (export.Store fault.Failed) stops = inl tt
stop-said held root o (export.Store (fault.Damaged c)) stops = inl tt
stop-said held root o (export.Store (fault.Missing c)) stops = inr (ap (car_of held root) stops)
stop-said held root o (export.Store (fault.BadBlock c role)) stops = absurd stops
stop-said held root o (export.Store (fault.Clash c first second)) stops = absurd stops
stop-said held root o (export.Store fault.Memory) stops = inl tt

-- once the order is known, only the store's own fault comes, or the output fails
text-said : (text : List ℕ) (f : ExportFault) (h h2 : streams.Told) → is_sink_fault {A = ℕ} (Err f) ≡ false → WritesCar text (Err f) h h2 → IsOwnRefusal (export_refusal f)
text-said text export.Sink h h2 other w = absurd cc
text-said text (export.NotDagPb c why) h h2 other w = absurd w
text-said text export.TooMany h h2 other w = absurd w
text-said text (export.Store f) h h2 other w = other-own f w.0

text-part : (text : List ℕ) (r : Result ℕ ExportFault) (h h2 : streams.Told) → WritesCar text r h h2 → PrintsPart (Ok text) h h2
text-part text (Ok n) h h2 w = whole-printed text h h2 w.written
text-part text (Err export.Sink) h h2 w = w
text-part text (Err (export.NotDagPb c why)) h h2 w = absurd w
text-part text (Err export.TooMany) h h2 w = absurd w
text-part text (Err (export.Store f)) h h2 w = w.1

module _ (held : Lookup) (root : Cid) (h h2 : streams.Told) where
  abbrev said : Result (List ℕ) Refusal
  said = car_of held root (order held most_blocks root)

  part-said : (r : Result ℕ ExportFault) → Exports held most_blocks root r h h2 → PrintsPart said h h2
  part-said r (inl t) = subst (λ e. PrintsPart e h h2) (sym (ap (car_of held root) t.in_order)) (text-part (car_text held root t.list) r h h2 t.writes)
  part-said r (inr n) = nothing-printed said h h2 n.unwritten

  all-said : (n : ℕ) → Exports held most_blocks root (Ok n) h h2 → (bytes : List ℕ) × (said ≡ Ok bytes) × (h2 ≡ after h bytes)
  all-said n (inl t) = (car_text held root t.list, ap (car_of held root) t.in_order, t.writes.written)
  all-said n (inr w) = absurd (let e = w.refused in cc)

  fault-said : (f : ExportFault) → is_sink_fault {A = ℕ} (Err f) ≡ false → Exports held most_blocks root (Err f) h h2 → IsOwnRefusal (export_refusal f) ⊎ ((said ≡ Err (export_refusal f)) × (h2 ≡ h))
  fault-said f other (inl t) = inl (text-said (car_text held root t.list) f h h2 other t.writes)
  fault-said f other (inr n) =
      let same : n.f ≡ f = (let e = n.refused in cc) in
      by (stop-said held root (order held most_blocks root) f (subst (StopsOrder (order held most_blocks root)) same n.stops)) n.unwritten
    where
      by : IsOwnRefusal (export_refusal f) ⊎ (said ≡ Err (export_refusal f)) → h2 ≡ h → IsOwnRefusal (export_refusal f) ⊎ ((said ≡ Err (export_refusal f)) × (h2 ≡ h))
      by (inl own) unwritten = inl own
      by (inr is) unwritten = inr (is, unwritten)

-- ---- how it is done

module _ (X : List ℕ → List ℕ) (N : List ℕ → ℕ) (cid : Cid) (a b : Seen) (same : b.told ≡ a.told) (l : streams.Told) (i : ℕ) (h h2 : streams.Told) (w w2 t0 t1 : ℕ) (side : HostSide) (er er2 : SinkSide) where
  by-told : (A : Lookup → Type 0) (held : Lookup) → TellsBlocks a.told held → IfSome a.told (λ t. A (held_at t)) → A held
  by-told A held tells h = by a.told tells h
    where
      by : (told : Told) → TellsBlocks told held → IfSome told (λ t. A (held_at t)) → A held
      by None tells h = absurd tells
      by (Some t) tells h = subst A (sym tells) h

  still-tells : (held : Lookup) → TellsBlocks a.told held → IsSome b.told
  still-tells held tells = subst IsSome (sym same) (by a.told tells)
    where
      by : (told : Told) → TellsBlocks told held → IsSome told
      by None tells = absurd tells
      by (Some t) tells = refl

  abbrev Refuses : Refusal → Lookup → Type 0
  Refuses why held = IsOwnRefusal why ⊎ ((said held cid h h2 ≡ Err why) × (h2 ≡ h))

  abbrev Whole : Lookup → Type 0
  Whole held = (bytes : List ℕ) × (said held cid h h2 ≡ Ok bytes) × (h2 ≡ after h bytes)

  -- a refusal: that of the order, and then nothing is printed, or the store's own
  refused : (why : Refusal) → IfSome a.told (λ t. Refuses why (held_at t)) → IfSome a.told (λ t. PrintsPart (said (held_at t) cid h h2) h h2)
      → (bytes : List ℕ) → h2 ≡ after h bytes → IsOfReading why → Shown X NoneIsBad (fault_behind why) a b → w2 ≡ w → Does X N (Export cid) (Err why) (around a l i h w t0 side er) (around b l i h2 w2 t1 side er2)
  refused why says part bytes sent of cause still =
      let plain = plain-of (Export cid) a.told l l i why of in
      let quiet = quiet-of (λ text. ⊤) true why plain.other in
      record {
        answers = λ world finds input calm. answered world finds.held calm.store (by-told (Refuses why) world.held finds.held says);
        lost = λ p es rows held bs named tells heights input calm. over p es held bs named calm.store (by-told (Refuses why) held tells says);
        unprinted = λ world after. absurd cc;
        unprinted_over = λ p es held outside after. absurd cc;
        prefix = λ world finds input room. by-told (λ held. PrintsPart (said held cid h h2) h h2) world.held finds.held part;
        prints = quiet.prints h h2 (bytes, sent);
        kinds = reading-kinds X a b why of cause;
        ready = plain.ready;
        long = tt;
        reads = plain.reads;
        host = refl;
        gets = tt;
        pins = tt;
        kept = tt;
        writes = subst (λ f. RisesFor f w w2) (sym quiet.unwritten) (record { rose = λ e. absurd cc; still = λ e. still });
        cause = shown-by X NoneIsBad (IsBadIn X N a.told b.told) (fault_behind why) a b (λ role bytes bad. absurd bad) cause;
        whole = λ s needs stands calm. absurd cc;
        touches = λ p es bs rows named input heights calm. tt;
        touched = λ blames. absurd (no-blame X a b why of cause blames);
        unready = λ e is. absurd cc;
        unplaced = λ p es names stood none. absurd none;
        leaves = record { head = ap head_in same; writes = same; idle = λ p es bs stands calm is. absurd cc };
      }
    where
      answered : (world : World) → TellsBlocks a.told world.held → Calm a b → Refuses why world.held → DoesAnswer X N (Export cid) world (Err why) h h2 b.told side.told
      answered world tells calm (inl own) = inl (record { ends_are = ap (λ (r : Refusal). Err r) (own-wants X a b why own cause calm); stands = still-tells world.held tells })
      answered world tells calm (inr is) = inr (record { ends = subst (λ e. EndsBy e (Err why) h h2) (sym is.0) (refl, is.1); stands = still-tells world.held tells; blocks = subst (λ t. TellsHeld t []) (sym same) (tells-some a.told world.held tells) }, tt)

      over : (p : Profile) (es : Entries) (held : Lookup) (bs : Outside) → StaysNamed X N a.told b.told p es → Calm a b → Refuses why held → DoesOver X N a.told b.told p es [] (reply X N (Export cid) (in_world p es held bs)) (Err why) h h2
      over p es held bs named calm (inl own) = inl (record { fault = fault.Memory; ends_are = ap (λ (r : Refusal). Err r) (own-wants X a b why own cause calm); loss = tt; stands = names-same X N a.told b.told p es same named })
      over p es held bs named calm (inr is) = inr (record { ends = subst (λ e. EndsBy e (Err why) h h2) (sym is.0) (refl, is.1); stands = names-same X N a.told b.told p es same named })

  -- the whole CAR was sent
  sent-whole : IfSome a.told (λ t. Whole (held_at t)) → (bytes : List ℕ) → h2 ≡ after h bytes → StaysCalm a b → w2 ≡ w
      → Does X N (Export cid) (Ok tt) (around a l i h w t0 side er) (around b l i h2 w2 t1 side er2)
  sent-whole says bytes sent calm still = record {
    answers = λ world finds input quiet. answered world finds.held (by-told Whole world.held finds.held says);
    lost = λ p es rows held bs named tells heights input quiet. over p es held bs named (by-told Whole held tells says);
    unprinted = λ world after. absurd cc;
    unprinted_over = λ p es held outside after. absurd cc;
    prefix = λ world finds input room. whole world.held (by-told Whole world.held finds.held says);
    prints = (bytes, tt, sent);
    kinds = tt;
    ready = tt;
    long = tt;
    reads = counts-still i;
    host = refl;
    gets = tt;
    pins = tt;
    kept = tt;
    writes = record { rose = λ e. absurd cc; still = λ e. still };
    cause = calm;
    whole = λ s needs stands quiet. absurd cc;
    touches = λ p es bs rows named input heights quiet. tt;
    touched = λ blames. absurd blames;
    unready = λ e is. absurd cc;
    unplaced = λ p es names stood none. absurd none;
    leaves = record { head = tt; writes = same; idle = λ p es bs stands quiet is. absurd cc };
  }
    where
      answered : (world : World) → TellsBlocks a.told world.held → Whole world.held → DoesAnswer X N (Export cid) world (Ok tt) h h2 b.told side.told
      answered world tells is = inr (record { ends = subst (λ e. EndsBy e (Ok tt) h h2) (sym is.1) (refl, is.2); stands = still-tells world.held tells; blocks = subst (λ t. TellsHeld t []) (sym same) (tells-some a.told world.held tells) }, tt)

      over : (p : Profile) (es : Entries) (held : Lookup) (bs : Outside) → StaysNamed X N a.told b.told p es → Whole held → DoesOver X N a.told b.told p es [] (reply X N (Export cid) (in_world p es held bs)) (Ok tt) h h2
      over p es held bs named is = inr (record { ends = subst (λ e. EndsBy e (Ok tt) h h2) (sym is.1) (refl, is.2); stands = names-same X N a.told b.told p es same named })

      whole : (held : Lookup) → Whole held → PrintsPart (said held cid h h2) h h2
      whole held is = subst (λ e. PrintsPart e h h2) (sym is.1) (whole-printed is.0 h h2 is.2)

  -- the output failed
  cut : IfSome a.told (λ t. PrintsPart (said (held_at t) cid h h2) h h2) → (bytes : List ℕ) → h2 ≡ after h bytes → StaysCalm a b → Counts true w w2
      → Does X N (Export cid) (Err refusal.Write) (around a l i h w t0 side er) (around b l i h2 w2 t1 side er2)
  cut part bytes sent calm counts = record {
    answers = λ world finds input quiet. absurd (not-rose w w2 (counts.rose refl) quiet.written.output);
    lost = λ p es rows held bs named tells heights input quiet. absurd (not-rose w w2 (counts.rose refl) quiet.written.output);
    unprinted = λ world after. absurd cc;
    unprinted_over = λ p es held outside after. absurd cc;
    prefix = λ world finds input room. by-told (λ held. PrintsPart (said held cid h h2) h h2) world.held finds.held part;
    prints = (bytes, tt, whole-printed bytes h h2 sent);
    kinds = refl;
    ready = tt;
    long = tt;
    reads = counts-still i;
    host = refl;
    gets = tt;
    pins = tt;
    kept = tt;
    writes = record { rose = counts.rose; still = λ e. absurd cc };
    cause = calm;
    whole = λ s needs stands quiet. absurd cc;
    touches = λ p es bs rows named input heights quiet. tt;
    touched = λ blames. absurd blames;
    unready = λ e is. absurd cc;
    unplaced = λ p es names stood none. absurd none;
    leaves = record { head = ap head_in same; writes = same; idle = λ p es bs stands quiet is. absurd cc };
  }

  -- ---- by what the export answers

  pub car-sent : (n : ℕ) → ((t : Contents) → a.told ≡ Some t → Exports (held_at t) most_blocks cid (Ok n) h h2) → WritesSome h h2 → StaysCalm a b → Counts false w w2
      → Does X N (Export cid) (Ok tt) (around a l i h w t0 side er) (around b l i h2 w2 t1 side er2)
  car-sent n exports some calm counts =
      sent-whole (told-each (λ t. Whole (held_at t)) a.told (λ t is. all-said (held_at t) cid h h2 n (exports t is))) some.0 some.1 calm (counts.still refl)

  pub car-unsent : (f : ExportFault) → ((t : Contents) → a.told ≡ Some t → Exports (held_at t) most_blocks cid (Err f) h h2) → WritesSome h h2 → Shown X NoneIsBad (export_fault {A = ℕ} (Err f)) a b
      → Counts (is_sink_fault {A = ℕ} (Err f)) w w2 → Does X N (Export cid) (Err (export_refusal f)) (around a l i h w t0 side er) (around b l i h2 w2 t1 side er2)
  car-unsent f exports some cause counts =
      by f (λ other. told-each (λ t. Refuses (export_refusal f) (held_at t)) a.told (λ t is. fault-said (held_at t) cid h h2 f other (exports t is)))
      (told-each (λ t. PrintsPart (said (held_at t) cid h h2) h h2) a.told (λ t is. part-said (held_at t) cid h h2 (Err f) (exports t is))) cause counts
    where
      by : (f : ExportFault) → (is_sink_fault {A = ℕ} (Err f) ≡ false → IfSome a.told (λ t. Refuses (export_refusal f) (held_at t))) → IfSome a.told (λ t. PrintsPart (said (held_at t) cid h h2) h h2)
          → Shown X NoneIsBad (export_fault {A = ℕ} (Err f)) a b → Counts (is_sink_fault {A = ℕ} (Err f)) w w2 → Does X N (Export cid) (Err (export_refusal f)) (around a l i h w t0 side er) (around b l i h2 w2 t1 side er2)
      by export.Sink says part cause counts = cut part some.0 some.1 cause counts
      by (export.NotDagPb c why) says part cause counts = refused (export_refusal (export.NotDagPb c why)) (says refl) part some.0 some.1 tt cause (counts.still refl)
      by export.TooMany says part cause counts = refused (export_refusal export.TooMany) (says refl) part some.0 some.1 tt cause (counts.still refl)
      by (export.Store f) says part cause counts = refused (export_refusal (export.Store f)) (says refl) part some.0 some.1 tt cause (counts.still refl)
