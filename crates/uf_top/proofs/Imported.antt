-- How a CAR is read into the store, and its roots printed.
use Rattle.std.proofs.Common.{◌≡◌, ◌≢◌, ◌⊎◌, ℕ, List, [], false, true, arith, refl, sym, ap, subst, ◌∙◌, inl, inr, take, Some, None, Result, Ok, Err}
use Rattle.std.proofs.lemmas.List.{take_all}
use Rattle.std.specs.Prelude.{IfOk, IfSome, IsSome, OnErr, OnOk, length}
use Rattle.std.specs.List.{flat_map}
use Rattle.uf_car.specs.Importing.{ImportsCar, car_fault, is_source_fault, stops, with_saves}
use Rattle.uf_car.specs.Reading.{car_read}
use Rattle.uf_car.specs.declared.fault.CarFault.{CarFault}
use Rattle.uf_car.specs.declared.fault.CarFault.TheVariants as car
use Rattle.uf_car.specs.declared.fault.Imported.{Imported}
use Rattle.uf_cid.specs.Blocks.{Held, Lookup}
use Rattle.uf_edge.specs.Counts.{Counts}
use Rattle.uf_edge.specs.Streams.{after}
use Rattle.uf_edge.specs.Streams as streams
use Rattle.uf_mfs.specs.Standing.{LeavesHead, OnlySynced, Same, TellsHeld, head_in}
use Rattle.uf_mfs.specs.Touches.{IsBlaming}
use Rattle.uf_store.specs.Clashes.{IsSaving}
use Rattle.uf_store.specs.Contents.{Told, changed, with_sync}
use Rattle.uf_store.specs.Faults.{NoneIsBad, Shown, Shows, StaysCalm}
use Rattle.uf_store.specs.Keeping.{KeepsGood}
use Rattle.uf_store.specs.Seen.{Seen}
use Rattle.uf_store.specs.Writing.{SavesOnly}
use Rattle.uf_store.specs.declared.store.StoreFault.{StoreFault}
use Rattle.uf_store.specs.declared.store.StoreFault.TheVariants as fault
use Rattle.uf_store.proofs.Calls.{shown-after, shown-by, stood-back}
use Rattle.uf_store.proofs.Keeping.{KeepsGood-trans}
use Rattle.uf_tree.specs.Tree.{Dir, Entries}
use Rattle.uf_tree.specs.TreePlan.{blocks}
use Rattle.uf_tree.specs.declared.profile.Profile.{Profile}
use Rattle.uf_command.specs.Cars.{car_refusal, most_car, root_line, roots_told}
use Rattle.uf_command.specs.Commands.{HasInput}
use Rattle.uf_command.specs.Natures.{SyncsBlocks}
use Rattle.uf_command.specs.Kinds.{import_kinds, OfWrite, fault_behind, fault_kind, may_meet, read_kind, refusal_fault, refusal_kind}
use Rattle.uf_top.specs.Reply.{Outside, World, in_world, reply}
use Rattle.uf_command.specs.Statuses.{no_memory, status_of}
use Rattle.uf_command.specs.declared.status.Status.{Status}
use Rattle.uf_command.specs.declared.status.Status.TheVariants as status
use Rattle.uf_command.specs.declared.types.Command.TheVariants.{Import}
use Rattle.uf_command.specs.declared.types.Refusal.{Refusal}
use Rattle.uf_command.specs.declared.types.Refusal.TheVariants as refusal
use Rattle.uf_top.specs.Answering.{DoesAnswer}
use Rattle.uf_top.specs.Around.{CountsCanRise, HostSide, RisesFor, SinkSide, around}
use Rattle.uf_top.specs.Cars.{AddsCar, IsImported, KeepsCar, KeepsFront, TellsRoots}
use Rattle.uf_top.specs.Causes.{IsBadIn, IsReadyBy, Stops, is_read}
use Rattle.uf_top.specs.Endings.{EndsBy, PrintsPart}
use Rattle.uf_command.specs.Telling.{IsCut, Prints}
use Rattle.uf_top.specs.Losing.{DoesOver}
use Rattle.uf_top.specs.Naming.{NamesAfter, TellsBlocks}
use Rattle.uf_top.specs.Shapes.{WritesAs}
use Rattle.uf_top.specs.Working.{Does}
use Rattle.uf_top.proofs.Fronts.{kept-by}
use Rattle.uf_top.proofs.Inputs.{add-head, synced-writes}
use Rattle.uf_top.proofs.Kept.{sections-held}
use Rattle.uf_top.proofs.Losing.{names-kept}
use Rattle.uf_top.proofs.Printing.{calm-of, else-same, may-end, nothing-printed, quiet-of, rises-still, whole-printed}
use Rattle.uf_top.proofs.Shows.{not-rose, saving-wants}
use Rattle.uf_top.proofs.Standings.{leaves-good}

-- a fault that saves alone can have is one of `dag import`
saving-kind : (f : StoreFault) → IsSaving f → may_meet import_kinds (fault_kind f) ≡ true
saving-kind fault.Failed h = refl
saving-kind (fault.Damaged cid) h = absurd h
saving-kind (fault.Missing cid) h = absurd h
saving-kind (fault.BadBlock cid role) h = absurd h
saving-kind (fault.Clash cid held bytes) h = refl
saving-kind fault.Memory h = refl

-- no fault of the store is a failed reading
no-read : (f : StoreFault) → read_kind (fault_kind f) ≡ false
no-read fault.Failed = refl
no-read (fault.Damaged cid) = refl
no-read (fault.Missing cid) = refl
no-read (fault.BadBlock cid role) = refl
no-read (fault.Clash cid held bytes) = refl
no-read fault.Memory = refl

-- nor a rule
no-rule : (f : StoreFault) → status_of (refusal.Store f) ≡ status.Rule → ⊥
no-rule fault.Failed is = cc
no-rule (fault.Damaged cid) is = cc
no-rule (fault.Missing cid) is = cc
no-rule (fault.BadBlock cid role) is = cc
no-rule (fault.Clash cid held bytes) is = cc
no-rule fault.Memory is = cc

unread : (f : StoreFault) (i j : ℕ) → Counts false i j → Counts (is_read {A = List ℕ} (Err (refusal.Store f))) i j
unread f i j counts = subst (λ b. Counts b i j) (sym (no-read f)) counts

-- a refusal by what a sync answers
record IsOfStore (why : Refusal) : Type 0 where
  fault : StoreFault
  is : why ≡ refusal.Store fault
  saving : IsSaving fault

stops-store : (why : Refusal) → Stops {A = List ℕ} (Err why) → IsOfStore why
stops-store (refusal.Rule rule) h = absurd h
stops-store (refusal.Dag rule) h = absurd h
stops-store (refusal.Host rule) h = absurd h
stops-store (refusal.BadPath why) h = absurd h
stops-store refusal.InputTooLong h = absurd h
stops-store refusal.BadPins h = absurd h
stops-store refusal.Usage h = absurd h
stops-store (refusal.Ready why) h = absurd h
stops-store refusal.Read h = absurd h
stops-store refusal.Write h = absurd h
stops-store (refusal.Store f) h = record { fault = f; is = refl; saving = h }
stops-store (refusal.Car number place) h = absurd h
stops-store (refusal.CarLacks cid) h = absurd h
stops-store (refusal.OwnClash cid first second) h = absurd h

sync-tells : (a : Told) (l : List Held) → TellsHeld a l → TellsHeld (changed with_sync a) l
sync-tells None l h = absurd h
sync-tells (Some t) l h = h

-- ---- the blocks are kept, and made durable

module _ (X : List ℕ → List ℕ) where
  held-after : (sections : List Held) (a b : Told) (held : Lookup) → TellsBlocks a held → b ≡ changed (with_saves sections) a → SavesOnly X a b → TellsHeld b sections
  held-after sections None b held tells is saves = absurd tells
  held-after sections (Some t) b held tells is saves = sections-held X sections t b is saves

  module _ (a b : Seen) (l : streams.Told) (i j : ℕ) (good : KeepsGood X a.told b.told) (saves : SavesOnly X a.told b.told) where
    abbrev Reads : Result Imported CarFault → Type 0
    Reads r = (bytes : List ℕ) → l ≡ Some bytes → ImportsCar (car_read X most_car bytes) r a.told b.told

    writes : WritesAs X SyncsBlocks false a.told b.told
    writes = record { between = b.told; saves = saves; last = Same refl }

    -- the first sections were kept, and all where the CAR is at fault
    front-kept : (f : CarFault) (given : Status) → (given ≡ status.Rule → stops f ≡ false) → Reads (Err f) → KeepsFront X given a.told b.told l
    front-kept f given rule reads = by l reads
      where
        by : (m : streams.Told) → ((bytes : List ℕ) → m ≡ Some bytes → ImportsCar (car_read X most_car bytes) (Err f) a.told b.told) → KeepsFront X given a.told b.told m
        by None h = tt
        by (Some bytes) h = let k = (h bytes refl).kept in record { count = k.count; few = k.few; added = Same k.kept; all = λ is. k.all (rule is) }

    -- all sections were kept, and at most made durable then
    all-kept : (imported : Imported) (given : Status) (c : Told) → Reads (Ok imported) → LeavesHead b.told c → KeepsFront X given a.told c l
    all-kept imported given c reads leaves = by l reads
      where
        by : (m : streams.Told) → ((bytes : List ℕ) → m ≡ Some bytes → ImportsCar (car_read X most_car bytes) (Ok imported) a.told b.told) → KeepsFront X given a.told c m
        by None h = tt
        by (Some bytes) h =
            let sections = (car_read X most_car bytes).sections in
            let all : take (length sections) sections ≡ sections = take_all (length sections) sections (search arith) in
            let is : b.told ≡ changed (with_saves (take (length sections) sections)) a.told = (h bytes refl).kept ∙ ap (λ (l : List Held). changed (with_saves l) a.told) (sym all) in
            record { count = length sections; few = search arith; added = subst (λ t. LeavesHead t c) is leaves; all = λ e. refl }

    -- a fault of the CAR
    ruled : (f : CarFault) (number place : ℕ) → stops f ≡ false → car_refusal f ≡ refusal.Car number place → Reads (Err f) → StaysCalm a b → Counts false i j → KeepsCar X (Err (refusal.Car number place)) a b l i j
    ruled f number place other is reads calm counts = record {
      roots = λ held bytes tells given stood quiet. inr (told held bytes tells (reads bytes given));
      added = tt;
      kept = front-kept f status.Rule (λ e. other) reads;
      kinds = refl;
      counts = counts;
      cause = calm;
      good = good;
      writes = writes;
    }
      where
        told : (held : Lookup) (bytes : List ℕ) → TellsBlocks a.told held → ImportsCar (car_read X most_car bytes) (Err f) a.told b.told → TellsRoots (car_read X most_car bytes) (Err (refusal.Car number place)) b.told
        told held bytes tells r =
            let sections = (car_read X most_car bytes).sections in
            let all : take r.kept.count sections ≡ sections = take_all r.kept.count sections (let e = r.kept.all other in omega (arith, e)) in
            record {
              is = sym (ap roots_told (r.said other) ∙ ap (λ (w : Refusal). Err w) is);
              held = held-after sections a.told b.told held tells (r.kept.kept ∙ ap (λ (l : List Held). changed (with_saves l) a.told) all) saves;
            }

    pub car-refused : (f : CarFault) → Reads (Err f) → Shown X NoneIsBad (car_fault {A = Imported} (Err f)) a b → IfSome (car_fault {A = Imported} (Err f)) IsSaving → Counts (is_source_fault {A = Imported} (Err f)) i j
        → KeepsCar X (Err (car_refusal f)) a b l i j
    car-refused (car.Truncated place) reads cause saving counts = ruled (car.Truncated place) 1 place refl refl reads cause counts
    car-refused car.Header reads cause saving counts = ruled car.Header 2 0 refl refl reads cause counts
    car-refused (car.Version v) reads cause saving counts = ruled (car.Version v) 3 0 refl refl reads cause counts
    car-refused (car.BadCid place) reads cause saving counts = ruled (car.BadCid place) 4 place refl refl reads cause counts
    car-refused (car.WrongDigest place cid) reads cause saving counts = ruled (car.WrongDigest place cid) 5 place refl refl reads cause counts
    car-refused (car.TooBigBlock place size) reads cause saving counts = ruled (car.TooBigBlock place size) 6 place refl refl reads cause counts
    car-refused (car.TooManyRoots count) reads cause saving counts = ruled (car.TooManyRoots count) 7 0 refl refl reads cause counts
    car-refused (car.BadLength place) reads cause saving counts = ruled (car.BadLength place) 8 place refl refl reads cause counts
    car-refused car.TooLong reads cause saving counts = ruled car.TooLong 9 0 refl refl reads cause counts
    car-refused car.Read reads cause saving counts = record {
      roots = λ held bytes tells given stood quiet. absurd (not-rose i j (counts.rose refl) stood);
      added = tt;
      kept = front-kept car.Read status.ReadFault (λ e. absurd cc) reads;
      kinds = refl;
      counts = counts;
      cause = cause;
      good = good;
      writes = writes;
    }
    car-refused (car.Store f) reads cause saving counts = record {
      roots = λ held bytes tells given stood quiet. inl (ap (λ (f : StoreFault). Err (refusal.Store f)) (saving-wants X NoneIsBad f a b saving cause quiet.faults quiet.clashes));
      added = tt;
      kept = front-kept (car.Store f) (status_of (refusal.Store f)) (λ e. absurd (no-rule f e)) reads;
      kinds = saving-kind f saving;
      counts = unread f i j counts;
      cause = cause;
      good = good;
      writes = writes;
    }

    -- the lines of the roots are made, and the blocks are durable
    module _ (c : Seen) (calm : StaysCalm a b) (counts : Counts false i j) where
      pub roots-synced : (imported : Imported) (r : Result (List ℕ) Refusal) → Reads (Ok imported) → IfOk r (λ t. t ≡ flat_map root_line imported.roots) → Stops r
          → OnOk r (c.told ≡ changed with_sync b.told) → OnErr r (LeavesHead b.told c.told) → Shown X NoneIsBad (refusal_fault r) b c → KeepsCar X r a c l i j
      roots-synced imported (Ok line) reads is stopped synced failed cause = record {
        roots = λ held bytes tells given stood quiet. inr (told held bytes tells (reads bytes given));
        added = imported-told l (λ bytes given. all-added bytes (reads bytes given));
        kept = all-kept imported status.Ok c.told reads (OnlySynced synced);
        kinds = tt;
        counts = counts;
        cause = shown-after X NoneIsBad None a b c calm cause;
        good = KeepsGood-trans X a.told b.told c.told good (leaves-good X b.told c.told (OnlySynced synced));
        writes = synced-writes X (Ok line) a.told b.told c.told saves synced tt;
      }
        where
          told : (held : Lookup) (bytes : List ℕ) → TellsBlocks a.told held → ImportsCar (car_read X most_car bytes) (Ok imported) a.told b.told → TellsRoots (car_read X most_car bytes) (Ok line) c.told
          told held bytes tells r = record {
            is = ap (λ (t : List ℕ). Ok t) is ∙ sym (ap roots_told r.said);
            held = subst (λ t. TellsHeld t (car_read X most_car bytes).sections) (sym synced) (sync-tells b.told (car_read X most_car bytes).sections (held-after (car_read X most_car bytes).sections a.told b.told held tells r.kept saves));
          }

          all-added : (bytes : List ℕ) → ImportsCar (car_read X most_car bytes) (Ok imported) a.told b.told → AddsCar X bytes line a.told c.told
          all-added bytes r = record {
            are = ap (λ (t : List ℕ). Ok t) is ∙ sym (ap roots_told r.said);
            added = synced ∙ ap (changed with_sync) r.kept;
          }

          imported-told : (l : streams.Told) → ((bytes : List ℕ) → l ≡ Some bytes → AddsCar X bytes line a.told c.told) → IsImported X a.told c.told l line
          imported-told None h = tt
          imported-told (Some bytes) h = h bytes refl
      roots-synced imported (Err why) reads is stopped synced failed cause =
          let of = stops-store why stopped in
          by of.fault of.is of.saving
        where
          by : (f : StoreFault) → why ≡ refusal.Store f → IsSaving f → KeepsCar X (Err why) a c l i j
          by f e saving =
              let shown : Shows X NoneIsBad f b c = subst (λ w. Shown X NoneIsBad (fault_behind w) b c) e cause in
              subst (λ w. KeepsCar X (Err w) a c l i j) (sym e) (record {
                roots = λ held bytes tells given stood quiet. inl (ap (λ (f : StoreFault). Err (refusal.Store f)) (saving-wants X NoneIsBad f b c saving shown
                    (stood-back a.faults b.faults c.faults calm.faults quiet.faults) (stood-back a.clashes b.clashes c.clashes calm.clashes quiet.clashes)));
                added = tt;
                kept = all-kept imported (status_of (refusal.Store f)) c.told reads failed;
                kinds = saving-kind f saving;
                counts = unread f i j counts;
                cause = shown-after X NoneIsBad (Some f) a b c calm shown;
                good = KeepsGood-trans X a.told b.told c.told good (leaves-good X b.told c.told failed);
                writes = record { between = b.told; saves = saves; last = failed };
              })

-- ---- what every refusal of `dag import` has

record IsOfCar (told : Told) (why : Refusal) : Type 0 where
  other : refusal_kind why ≢ OfWrite
  ready : IsReadyBy told Import why
  blames : IsBlaming (fault_behind why) → ⊥

of-car : (told : Told) (why : Refusal) → may_meet import_kinds (refusal_kind why) ≡ true → IsOfCar told why
of-car told (refusal.Rule rule) h = absurd cc
of-car told (refusal.Dag rule) h = absurd cc
of-car told (refusal.Host rule) h = absurd cc
of-car told (refusal.BadPath why) h = absurd cc
of-car told refusal.InputTooLong h = absurd cc
of-car told refusal.BadPins h = absurd cc
of-car told refusal.Usage h = absurd cc
of-car told (refusal.Ready why) h = absurd cc
of-car told refusal.Read h = record { other = λ e. cc; ready = tt; blames = λ b. b }
of-car told refusal.Write h = absurd cc
of-car told (refusal.Store fault.Failed) h = record { other = λ e. cc; ready = tt; blames = λ b. b }
of-car told (refusal.Store (fault.Damaged cid)) h = record { other = λ e. cc; ready = tt; blames = λ b. b }
of-car told (refusal.Store (fault.Missing cid)) h = absurd cc
of-car told (refusal.Store (fault.BadBlock cid role)) h = absurd cc
of-car told (refusal.Store (fault.Clash cid first second)) h = record { other = λ e. cc; ready = tt; blames = λ b. b }
of-car told (refusal.Store fault.Memory) h = record { other = λ e. cc; ready = tt; blames = λ b. b }
of-car told (refusal.Car number place) h = record { other = λ e. cc; ready = tt; blames = λ b. b }
of-car told (refusal.CarLacks cid) h = absurd cc
of-car told (refusal.OwnClash cid first second) h = absurd cc

-- ---- its roots are printed

module _ (X : List ℕ → List ℕ) (N : List ℕ → ℕ) (a b : Seen) (l m : streams.Told) (i j t0 t1 : ℕ) (h : streams.Told) (w : ℕ) (side : HostSide) (er er2 : SinkSide) where
  still-told : KeepsGood X a.told b.told → IsSome a.told → IsSome b.told
  still-told good some = by a.told b.told good some
    where
      by : (s t : Told) → KeepsGood X s t → IsSome s → IsSome t
      by None t good some = absurd (let e : false ≡ true = some in cc)
      by (Some s) None good some = absurd (let e : false ≡ true = good.alike in cc)
      by (Some s) (Some t) good some = refl

  abbrev NamesKept : Profile → Entries → Type 0
  NamesKept p es = NamesAfter X N a.told b.told (blocks X N p (Dir es)) p es

  pub unkept-does : (why : Refusal) → KeepsCar X (Err why) a b l i j → Does X N Import (Err why) (around a l i h w t0 side er) (around b m j h w t1 side er2)
  unkept-does why k =
      let of = of-car a.told why k.kinds in
      let quiet = quiet-of (IsImported X a.told b.told l) false why of.other in
      let head = add-head X false a.told b.told k.writes in
      record {
        answers = λ world finds input calm. answered world finds.stands (k.roots world.held world.input finds.held (input.0 refl).0 (input.0 refl).1 calm.store);
        lost = λ p es rows held outside named tells heights input calm. over p es held outside (names-kept X N a.told b.told p es k.good head named) (k.roots held outside.input tells (input.0 refl).0 (input.0 refl).1 calm.store);
        unprinted = λ world after. absurd cc;
        unprinted_over = λ p es held outside after. absurd cc;
        prefix = λ world finds input room. nothing-printed (reply X N Import world).ends h h refl;
        prints = quiet.prints h h (else-same false h);
        kinds = may-end Import why k.kinds;
        ready = of.ready;
        long = tt;
        reads = k.counts;
        host = refl;
        gets = tt;
        pins = tt;
        kept = k.kept;
        writes = subst (λ f. RisesFor f w w) (sym quiet.unwritten) (rises-still w);
        cause = shown-by X NoneIsBad (IsBadIn X N a.told b.told) (fault_behind why) a b (λ role bytes bad. absurd bad) k.cause;
        whole = λ s needs stands calm. absurd cc;
        touches = λ p es bytes rows named input heights calm. tt;
        touched = λ blames. absurd (of.blames blames);
        unready = λ e is. absurd cc;
        unplaced = λ p es names stood none. absurd none;
        leaves = record { head = head; writes = subst (λ d. WritesAs X SyncsBlocks d a.told b.told) (sym quiet.undone) k.writes; idle = λ p es bytes stands calm is. absurd cc };
      }
    where
      answered : (world : World) → IsSome a.told → (◌≡◌ {A = Result (List ℕ) Refusal} (Err why) (Err no_memory)) ⊎ TellsRoots (car_read X most_car world.input) (Err why) b.told → DoesAnswer X N Import world (Err why) h h b.told side.told
      answered world some (inl e) = (let is : why ≡ no_memory = cc in inl (record { ends_are = ap (λ (r : Refusal). Err r) is; stands = still-told k.good some }))
      answered world some (inr t) = inr (record { ends = subst (λ e. EndsBy e (Err why) h h) t.is (refl, refl); stands = still-told k.good some; blocks = t.held }, tt)

      over : (p : Profile) (es : Entries) (held : Lookup) (outside : Outside) → NamesKept p es → (◌≡◌ {A = Result (List ℕ) Refusal} (Err why) (Err no_memory)) ⊎ TellsRoots (car_read X most_car outside.input) (Err why) b.told
          → DoesOver X N a.told b.told p es [] (reply X N Import (in_world p es held outside)) (Err why) h h
      over p es held outside stands (inl e) = (let is : why ≡ no_memory = cc in inl (record { fault = fault.Memory; ends_are = ap (λ (r : Refusal). Err r) is; loss = tt; stands = stands }))
      over p es held outside stands (inr t) = inr (record { ends = subst (λ e. EndsBy e (Err why) h h) t.is (refl, refl); stands = stands })

  module _ (text : List ℕ) (k : KeepsCar X (Ok text) a b l i j) (h2 : streams.Told) (v : ℕ) where
    head-same : head_in b.told ≡ head_in a.told
    head-same = add-head X true a.told b.told k.writes

    ends-so : (world : World) → TellsBlocks a.told world.held → HasInput (Ok Import) l world.input i j → CountsCanRise a → Ok text ≡ (reply X N Import world).ends
    ends-so world tells input room = by (k.roots world.held world.input tells (input refl).0 (input refl).1 (calm-of a b room k.cause))
      where
        by : (◌≡◌ {A = Result (List ℕ) Refusal} (Ok text) (Err no_memory)) ⊎ TellsRoots (car_read X most_car world.input) (Ok text) b.told → Ok text ≡ (reply X N Import world).ends
        by (inl e) = absurd cc
        by (inr t) = t.is

    printed : h2 ≡ after h text → Counts false w v → Does X N Import (Ok tt) (around a l i h w t0 side er) (around b m j h2 v t1 side er2)
    printed is counts = record {
      answers = λ world finds input calm. answered world finds.stands (k.roots world.held world.input finds.held (input.0 refl).0 (input.0 refl).1 calm.store);
      lost = λ p es rows held outside named tells heights input calm. over p es held outside (names-kept X N a.told b.told p es k.good head-same named) (k.roots held outside.input tells (input.0 refl).0 (input.0 refl).1 calm.store);
      unprinted = λ world after. absurd cc;
      unprinted_over = λ p es held outside after. absurd cc;
      prefix = λ world finds input room. subst (λ e. PrintsPart e h h2) (ends-so world finds.held input.0 room) (whole-printed text h h2 is);
      prints = (text, k.added, is);
      kinds = tt;
      ready = tt;
      long = tt;
      reads = k.counts;
      host = refl;
      gets = tt;
      pins = tt;
      kept = k.kept;
      writes = record { rose = counts.rose; still = counts.still };
      cause = k.cause;
      whole = λ s needs stands calm. absurd cc;
      touches = λ p es bytes rows named input heights calm. tt;
      touched = λ blames. absurd blames;
      unready = λ e is. absurd cc;
      unplaced = λ p es names stood none. absurd none;
      leaves = record { head = tt; writes = k.writes; idle = λ p es bytes stands calm is. absurd cc };
    }
      where
        answered : (world : World) → IsSome a.told → (◌≡◌ {A = Result (List ℕ) Refusal} (Ok text) (Err no_memory)) ⊎ TellsRoots (car_read X most_car world.input) (Ok text) b.told → DoesAnswer X N Import world (Ok tt) h h2 b.told side.told
        answered world some (inl e) = absurd cc
        answered world some (inr t) = inr (record { ends = subst (λ e. EndsBy e (Ok tt) h h2) t.is (refl, is); stands = still-told k.good some; blocks = t.held }, tt)

        over : (p : Profile) (es : Entries) (held : Lookup) (outside : Outside) → NamesKept p es → (◌≡◌ {A = Result (List ℕ) Refusal} (Ok text) (Err no_memory)) ⊎ TellsRoots (car_read X most_car outside.input) (Ok text) b.told
            → DoesOver X N a.told b.told p es [] (reply X N Import (in_world p es held outside)) (Ok tt) h h2
        over p es held outside stands (inl e) = absurd cc
        over p es held outside stands (inr t) = inr (record { ends = subst (λ e. EndsBy e (Ok tt) h h2) t.is (refl, is); stands = stands })

    cut : IsCut text refusal.Write h h2 w v → Does X N Import (Err refusal.Write) (around a l i h w t0 side er) (around b m j h2 v t1 side er2)
    cut c = record {
      answers = λ world finds input calm. absurd (not-rose w v (c.counts.rose refl) calm.written.output);
      lost = λ p es rows held outside named tells heights input calm. absurd (not-rose w v (c.counts.rose refl) calm.written.output);
      unprinted = λ world after. absurd cc;
      unprinted_over = λ p es held outside after. absurd cc;
      prefix = λ world finds input room. subst (λ e. PrintsPart e h h2) (ends-so world finds.held input.0 room) c.printed;
      prints = (text, k.added, c.printed);
      kinds = refl;
      ready = tt;
      long = tt;
      reads = k.counts;
      host = refl;
      gets = tt;
      pins = tt;
      kept = kept-by X N Import status.Ok status.WriteFault a b side.told l (λ e. cc) (λ e. cc) k.kept;
      writes = record { rose = c.counts.rose; still = c.counts.still };
      cause = k.cause;
      whole = λ s needs stands calm. absurd cc;
      touches = λ p es bytes rows named input heights calm. tt;
      touched = λ blames. absurd blames;
      unready = λ e is. absurd cc;
      unplaced = λ p es names stood none. absurd none;
      leaves = record { head = head-same; writes = k.writes; idle = λ p es bytes stands calm is. absurd cc };
    }

    -- or the output failed
    pub kept-does : (r : Result (Unit {0}) Refusal) → Prints text r h h2 w v → Does X N Import r (around a l i h w t0 side er) (around b m j h2 v t1 side er2)
    kept-does (Ok done) p = printed p.0 p.1
    kept-does (Err why) c =
        let e = c.write in
        subst (λ (r : Refusal). Does X N Import (Err r) (around a l i h w t0 side er) (around b m j h2 v t1 side er2)) (sym e) (cut (subst (λ (r : Refusal). IsCut text r h h2 w v) e c))
