-- What a collection keeps, lets go and leaves.
use Rattle.std.proofs.Common.{◌≡◌, ◌⊎◌, ◌∙◌, ℕ, ◌+◌, ◌≤◌, ◌<◌, ◌^◌, arith, length, List, [], ◌∷◌, ◌++◌, Bool, true, false, cond, Contains, refl, sym, ap, subst, inl, inr, Option, Some, None, Result, Ok, Err}
use Rattle.std.specs.Prelude.{IfOk, IfSome}
use Rattle.std.specs.FinMap.{get}
use Rattle.std.specs.List.{AllByRecursion}
use Rattle.std.proofs.lemmas.List.Elements.{Contains-append_left}
use Rattle.uf_cid.specs.Blocks.{Held, Holds, Lookup}
use Rattle.uf_cid.specs.declared.cid.Cid.{Cid}
use Rattle.uf_lenient.specs.Leading.{block_cids}
use Rattle.uf_lenient.proofs.Reached.{cids-there}
use Rattle.uf_mfs.specs.Standing.{TellsAs}
use Rattle.uf_pins.specs.Calls.{pin_fault}
use Rattle.uf_pins.specs.Collecting.{AreAmong, CollectsAll, KeepsAll, StopsBelow}
use Rattle.uf_pins.specs.Notes.{IsBadNote, IsReadAs, Lists}
use Rattle.uf_pins.specs.Reach.{reach}
use Rattle.uf_pins.specs.declared.fault.PinFault.{PinFault}
use Rattle.uf_pins.specs.declared.fault.PinFault.TheVariants as pin
use Rattle.uf_pins.proofs.Decided.{note-read}
use Rattle.uf_pins.proofs.Reached.{first-front}
use Rattle.uf_pins.proofs.Stopped.{among-true, firm-synced, plain-synced, safe-after, stands-after, stands-during}
use Rattle.uf_same.specs.PlanOrder.{OrdersJust}
use Rattle.uf_same.proofs.PlanOrder.{plan-ordered}
use Rattle.uf_store.specs.Contents.{Contents, HeldMap, Told, held_at, with_sync}
use Rattle.uf_store.specs.Stops.{IsSafe}
use Rattle.uf_store.specs.Sweeping.{is_among, swept}
use Rattle.uf_store.specs.declared.store.StoreFault.{StoreFault}
use Rattle.uf_store.specs.declared.store.StoreFault.TheVariants as fault
use Rattle.uf_store.proofs.Causes.{StaysCalm-refl, calm-memory}
use Rattle.uf_store.proofs.Sweeping.{get-part}
use Rattle.uf_tree.specs.Standing.{Standing, NoHead, BadHead, Stands, StandsFor}
use Rattle.uf_tree.specs.Tree.{Dir, Entries}
use Rattle.uf_tree.specs.TreePlan.{blocks, entry}
use Rattle.uf_tree.specs.Validity.{IsHash}
use Rattle.uf_tree.specs.declared.profile.Profile.{Profile}
use Rattle.uf_walk.specs.Order.{OrderFault, OverMost, Missing, NotDagPb}
use Rattle.uf_command.specs.Cars.{most_blocks, order_refusal}
use Rattle.uf_command.specs.Kinds.{fault_behind}
use Rattle.uf_command.specs.Pins.{pin_refusal}
use Rattle.uf_command.specs.Statuses.{no_memory}
use Rattle.uf_command.specs.Telling.{TellsEnd}
use Rattle.uf_command.specs.declared.status.Status.{Status}
use Rattle.uf_command.specs.declared.types.Refusal.{Refusal}
use Rattle.uf_command.specs.declared.types.Refusal.TheVariants as refusal
use Rattle.uf_top.specs.Around.{Around, Said}
use Rattle.uf_top.specs.Collecting.{EachSweepOutcome, FailsAs, GoesAs, KeepsFor, KeepsList, LeavesSome, LetsGoAndPrints, ReadsRoots, RunsGc, TouchesKept, below_told, kept_below, kept_in, order_told, root_told, tree_roots}
use Rattle.uf_top.specs.Outcomes.{IsSafeFor, LeavesTree}
use Rattle.uf_top.specs.Working.{IsIdle}
use Rattle.uf_top.proofs.Pins.{read-bad, read-same}
use Rattle.uf_top.proofs.Shows.{counts-still}
use Rattle.uf_top.proofs.Standings.{stands-reads}
use Rattle.uf_top.proofs.Wanted.{wants}

-- ---- how a collection went, by what is to be kept

-- what `collect` answers, as how a collection goes
abbrev pub gone-as : Result ℕ PinFault → Result ℕ Refusal
gone-as (Ok n) = Ok n
gone-as (Err f) = Err (pin_refusal f)

pub fault-same : (f : PinFault) → pin_fault {A = ℕ} (Err f) ≡ fault_behind (pin_refusal f)
fault-same pin.BadPins = refl
fault-same pin.TooManyPins = refl
fault-same (pin.NotPinned c) = refl
fault-same (pin.NotDagPb c why) = refl
fault-same pin.TooMany = refl
fault-same (pin.Store f) = refl

module _ (t : Contents) (roots : List Cid) (is : tree_roots t.notes.head ≡ Ok roots) (listed : Option (List Cid)) (read : IsReadAs t.notes.pins listed) (told : Told) where
  below-said : (x : List Cid) → Lists t.notes.pins x → kept_in t listed ≡ order_told (reach (held_at t) most_blocks (roots ++ x))
  below-said x lists = ap (λ (r : Result (List Cid) Refusal). kept_below (held_at t) r listed) is ∙ ap (below_told (held_at t) roots) (read-same t.notes.pins x listed lists read)

  bad-said : IsBadNote t.notes.pins → kept_in t listed ≡ Err refusal.BadPins
  bad-said bad = ap (λ (r : Result (List Cid) Refusal). kept_below (held_at t) r listed) is ∙ ap (below_told (held_at t) roots) (read-bad t.notes.pins listed bad read)

  kept-said : (x list : List Cid) → Lists t.notes.pins x → reach (held_at t) most_blocks (roots ++ x) ≡ Ok list → kept_in t listed ≡ Ok list
  kept-said x list lists e = below-said x lists ∙ ap order_told e

  stopped : (why : OrderFault) (f : PinFault) (b : StopsBelow t most_blocks roots f) → reach (held_at t) most_blocks (roots ++ b.pins) ≡ Err why → kept_in t listed ≡ Err (order_refusal why)
  stopped why f b e = below-said b.pins b.listed ∙ ap order_told e

  pub goes-as : (answer : Result ℕ PinFault) → CollectsAll t most_blocks roots answer told → GoesAs t (kept_in t listed) (gone-as answer) told
  goes-as (Ok n) h = (h.list, kept-said h.pins h.list h.listed h.reached, record { told_now = h.told_now; count = h.count })
  goes-as (Err pin.BadPins) h = inl (bad-said h.0, h.1)
  goes-as (Err pin.TooManyPins) h = absurd h
  goes-as (Err (pin.NotPinned c)) h = absurd h
  goes-as (Err (pin.NotDagPb c why)) h = inl (stopped (NotDagPb c why) _ h.0 h.0.stops, h.1)
  goes-as (Err pin.TooMany) h = inl (stopped OverMost _ h.0 h.0.stops, h.1)
  goes-as (Err (pin.Store fault.Failed)) (inl all) = inr (inl all)
  goes-as (Err (pin.Store fault.Failed)) (inr some) = inr (inr (some.list, kept-said some.pins some.list some.listed some.reached, record { stays = some.stays; keeps = some.keeps; told_now = some.told_now }))
  goes-as (Err (pin.Store (fault.Damaged c))) h = inr h
  goes-as (Err (pin.Store (fault.Missing c))) h = inl (stopped (Missing c) _ h.0 h.0.stops, h.1)
  goes-as (Err (pin.Store (fault.BadBlock c role))) h = absurd h
  goes-as (Err (pin.Store (fault.Clash c x y))) h = absurd h
  goes-as (Err (pin.Store fault.Memory)) h = inr h

-- the roots were read, unless that failed
roots-read : (roots : List Cid) (t : Contents) (before : Told) → ReadsRoots (Ok roots) before → before ≡ Some t → tree_roots t.notes.head ≡ Ok roots
roots-read roots t before (inl e) is = absurd cc
roots-read roots t before (inr (inl e)) is = absurd cc
roots-read roots t before (inr (inr said)) is = subst (λ (x : Told). IfSome x (λ u. tree_roots u.notes.head ≡ Ok roots)) is said

pub goes-collected : (t : Contents) (listed : Option (List Cid)) → IsReadAs t.notes.pins listed → (roots : List Cid) (before now : Told) → ReadsRoots (Ok roots) before → before ≡ Some t → (answer : Result ℕ PinFault) → CollectsAll t most_blocks roots answer now
    → GoesAs t (kept_in t listed) (gone-as answer) now
goes-collected t listed read roots before now said is answer h = goes-as t roots (roots-read roots t before said is) listed read now answer h

-- where the Head isn't read, nothing goes
pub goes-unread : (t : Contents) (listed : Option (List Cid)) (why : Refusal) (before now : Told) → ReadsRoots (Err why) before → before ≡ Some t → now ≡ Some t → GoesAs t (kept_in t listed) (Err why) now
goes-unread t listed why before now (inl e) is same = subst (λ (r : Result ℕ Refusal). GoesAs t (kept_in t listed) r now) (let same_why : why ≡ refusal.Store fault.Failed = cc in ap (λ (w : Refusal). Err w) (sym same_why)) (inr (inl (inl same)))
goes-unread t listed why before now (inr (inl e)) is same = subst (λ (r : Result ℕ Refusal). GoesAs t (kept_in t listed) r now) (let same_why : why ≡ no_memory = cc in ap (λ (w : Refusal). Err w) (sym same_why)) (inr (inl same))
goes-unread t listed why before now (inr (inr said)) is same =
    let e : tree_roots t.notes.head ≡ Err why = subst (λ (x : Told). IfSome x (λ u. tree_roots u.notes.head ≡ Err why)) is said in
    inl (ap (λ (r : Result (List Cid) Refusal). kept_below (held_at t) r listed) e, same)

-- ---- how many touches are made

-- none
pub touches-none : (told : Told) (was : ℕ) → TouchesKept told was was
touches-none told was = record { each = λ t listed is read. none (kept_in t listed); most = omega arith }
  where
    none : (r : Result (List Cid) Refusal) → IfOk r (λ list. was ≤ was + length list)
    none (Ok list) = omega arith
    none (Err why) = tt

-- those of `collect`
pub touches-collected : (roots : List Cid) (before after : Told) (was now : ℕ) → ReadsRoots (Ok roots) before → after ≡ before → now ≤ was + most_blocks
    → ((t : Contents) (pins : List Cid) → after ≡ Some t → Lists t.notes.pins pins → IfOk (reach (held_at t) most_blocks (roots ++ pins)) (λ list. now ≤ was + length list))
    → TouchesKept before was now
touches-collected roots before after was now said same most each = record { each = by; most = most }
  where
    told : (r : Result (List Cid) OrderFault) → IfOk r (λ list. now ≤ was + length list) → IfOk (order_told r) (λ list. now ≤ was + length list)
    told (Ok list) h = h
    told (Err why) h = tt

    below : (t : Contents) (listed : Option (List Cid)) → before ≡ Some t → IsReadAs t.notes.pins listed → IfOk (below_told (held_at t) roots listed) (λ list. now ≤ was + length list)
    below t None is read = tt
    below t (Some pins) is read = told (reach (held_at t) most_blocks (roots ++ pins)) (each t pins (same ∙ is) read)

    by : (t : Contents) (listed : Option (List Cid)) → before ≡ Some t → IsReadAs t.notes.pins listed → IfOk (kept_in t listed) (λ list. now ≤ was + length list)
    by t listed is read =
        subst (λ (r : Result (List Cid) Refusal). IfOk (kept_below (held_at t) r listed) (λ list. now ≤ was + length list)) (sym (roots-read roots t before said is))
        (below t listed is read)

-- ---- what is left

module _ (t : Contents) (told : Told) where
  -- all, or the blocks under some CIDs, with those that are to be kept among these
  abbrev pub LeftOver : Result (List Cid) Refusal → Type 0
  LeftOver kept = KeepsAll t told ⊎ ((list : List Cid) × (kept ≡ Ok list) × LeavesSome t list told)

  fails-left : (kept : Result (List Cid) Refusal) (f : Option StoreFault) → FailsAs t kept f told → LeftOver kept
  fails-left kept None h = absurd h
  fails-left kept (Some fault.Failed) h = h
  fails-left kept (Some (fault.Damaged c)) h = inl (inl h)
  fails-left kept (Some (fault.Missing c)) h = absurd h
  fails-left kept (Some (fault.BadBlock c role)) h = absurd h
  fails-left kept (Some (fault.Clash c x y)) h = absurd h
  fails-left kept (Some fault.Memory) h = inl h

  pub left-over : (kept : Result (List Cid) Refusal) (gone : Result ℕ Refusal) → GoesAs t kept gone told → LeftOver kept
  left-over kept (Ok n) h = inr (h.0, h.1, record { stays = is_among h.0; keeps = λ c there. there; told_now = h.2.told_now })
  left-over kept (Err why) (inl h) = inl (inl h.1)
  left-over kept (Err why) (inr h) = fails-left kept (fault_behind why) h

  pub all-kept : (kept : Result (List Cid) Refusal) → KeepsAll t told → KeepsFor t kept told
  all-kept (Ok list) (inl e) = record { now = t; tells = e; notes = refl; part = λ c bytes h. h; stays = λ c bytes there h. h }
  all-kept (Ok list) (inr e) = record { now = with_sync t; tells = e; notes = refl; part = λ c bytes h. h; stays = λ c bytes there h. h }
  all-kept (Err why) h = h

  some-of : (b : Bool) (o : Option (List ℕ)) (bytes : List ℕ) → cond b o None ≡ Some bytes → o ≡ Some bytes
  some-of true o bytes h = h
  some-of false o bytes h = absurd (let no : None ≡ Some bytes = h in cc)

  some-kept : (list : List Cid) → LeavesSome t list told → KeepsList t list told
  some-kept list s = record {
    now = swept s.stays (with_sync t);
    tells = s.told_now;
    notes = refl;
    part = λ c bytes h. some-of (s.stays c) (get t.held c) bytes (sym (get-part t.held s.stays c) ∙ h);
    stays = λ c bytes there h. get-part t.held s.stays c ∙ ap (λ b. cond b (get t.held c) None) (s.keeps c (among-true list c there)) ∙ h;
  }

  pub keeps-for : (kept : Result (List Cid) Refusal) → LeftOver kept → KeepsFor t kept told
  keeps-for kept (inl all) = all-kept kept all
  keeps-for kept (inr some) = subst (λ (k : Result (List Cid) Refusal). KeepsFor t k told) (sym some.1) (some-kept some.0 some.2)

-- ---- the tree is among what is kept

pins-in : (held : Lookup) (roots : List Cid) (listed : Option (List Cid)) (list : List Cid) → below_told held roots listed ≡ Ok list
    → (x : List Cid) × (reach held most_blocks (roots ++ x) ≡ Ok list)
pins-in held roots None list e = absurd cc
pins-in held roots (Some x) list e = (x, by (reach held most_blocks (roots ++ x)) e)
  where
    by : (r : Result (List Cid) OrderFault) → order_told r ≡ Ok list → r ≡ Ok list
    by (Ok other) e = (let same : other ≡ list = cc in ap (λ (l : List Cid). Ok l) same)
    by (Err why) e = absurd cc

module _ (X : List ℕ → List ℕ) (N : List ℕ → ℕ) (good : IsHash X) (small : (name : List ℕ) → N name < 2 ^ 64) where
  module _ (t : Contents) (p : Profile) (es : Entries) (stands : StandsFor X N (held_at t) t.notes.head p es) where
    abbrev root : Cid
    root = (entry X N p (Dir es)).cid

    -- the root of the Head is that of the tree
    rooted : tree_roots t.notes.head ≡ Ok (root ∷ [])
    rooted = (let r = stands-reads X N good t p es stands in ap tree_roots r.1 ∙ ap root_told r.2)

    front-among : (front rest : List Cid) (bs : List Held) → ((c : Cid) → Contains (block_cids (blocks X N p (Dir es))) c → Contains front c)
        → AllByRecursion (λ (b : Held). Contains (block_cids (blocks X N p (Dir es))) b.0) bs → AreAmong (front ++ rest) bs
    front-among front rest [] more all = tt
    front-among front rest (b ∷ bs) more all = (Contains-append_left front rest b.0 (more b.0 all.0), front-among front rest bs more all.1)

    -- so each block of its plan is under a CID that is kept
    pub kept-among : (listed : Option (List Cid)) (list : List Cid) → kept_in t listed ≡ Ok list → AreAmong list (blocks X N p (Dir es))
    kept-among listed list e =
        let below : below_told (held_at t) (root ∷ []) listed ≡ Ok list = sym (ap (λ (r : Result (List Cid) Refusal). kept_below (held_at t) r listed) rooted) ∙ e in
        let pins = pins-in (held_at t) (root ∷ []) listed list below in
        let front = first-front (held_at t) most_blocks root pins.0 list pins.1 in
        let just = plan-ordered X N good small p (Dir es) (held_at t) (record { profile = stands.profile; tree = stands.tree; planned = stands.planned; all = stands.blocks_held }) most_blocks in
        let each : OrdersJust (block_cids (blocks X N p (Dir es))) (Ok front.0) = subst (OrdersJust (block_cids (blocks X N p (Dir es)))) front.2 just in
        subst (λ (l : List Cid). AreAmong l (blocks X N p (Dir es))) (sym front.3)
        (front-among front.0 front.1 (blocks X N p (Dir es)) (λ c there. (each c).1 there) (cids-there (blocks X N p (Dir es))))

  -- ---- what stands, and what is safe

  stands-some : (t : Contents) (listed : Option (List Cid)) (list : List Cid) (told : Told) (s : Standing) → kept_in t listed ≡ Ok list → LeavesSome t list told → TellsAs X N (Some t) s → TellsAs X N told s
  stands-some t listed list told NoHead e some h = subst (λ (x : Told). TellsAs X N x NoHead) (sym some.told_now) h
  stands-some t listed list told BadHead e some h = subst (λ (x : Told). TellsAs X N x BadHead) (sym some.told_now) h
  stands-some t listed list told (Stands p es) e some h =
      subst (λ (x : Told). TellsAs X N x (Stands p es)) (sym some.told_now)
      (stands-after X N p es t h list (kept-among t p es h listed list e) some.stays some.keeps)

  stands-synced : (t : Contents) (s : Standing) → TellsAs X N (Some t) s → TellsAs X N (Some (with_sync t)) s
  stands-synced t NoHead h = h
  stands-synced t BadHead h = h
  stands-synced t (Stands p es) h = record { profile = h.profile; tree = h.tree; planned = h.planned; head_is = h.head_is; blocks_held = h.blocks_held }

  pub stands-left : (t : Contents) (listed : Option (List Cid)) (told : Told) (s : Standing) → LeftOver t told (kept_in t listed) → TellsAs X N (Some t) s → TellsAs X N told s
  stands-left t listed told s (inl (inl e)) h = subst (λ (x : Told). TellsAs X N x s) (sym e) h
  stands-left t listed told s (inl (inr e)) h = subst (λ (x : Told). TellsAs X N x s) (sym e) (stands-synced t s h)
  stands-left t listed told s (inr some) h = stands-some t listed some.0 told s some.1 some.2 h

  safe-synced : (t : Contents) (text : List ℕ) (bs : List Held) → IsSafe t text bs → IsSafe (with_sync t) text bs
  safe-synced t text bs h = record {
    plain = plain-synced t h.plain;
    head_is = h.head_is;
    held = h.held;
    firm_too = subst (λ (m : HeldMap). Holds (λ cid. get m cid) bs) (h.plain.held ∙ sym (firm-synced t.writes)) h.held;
  }

  pub safe-left : (t u : Contents) (listed : Option (List Cid)) (p : Profile) (es : Entries) → LeftOver t (Some u) (kept_in t listed) → IsSafeFor X N t p es → IsSafeFor X N u p es
  safe-left t u listed p es (inl (inl e)) h = subst (λ (v : Contents). IsSafeFor X N v p es) (let same : t ≡ u = cc in same) h
  safe-left t u listed p es (inl (inr e)) h =
      subst (λ (v : Contents). IsSafeFor X N v p es) (let same : with_sync t ≡ u = cc in same)
      (record { stands = stands-synced t (Stands p es) h.stands; text = h.text; safe = safe-synced t h.text (blocks X N p (Dir es)) h.safe })
  safe-left t u listed p es (inr some) h =
      let s = some.2 in
      let among = kept-among t p es h.stands listed some.0 some.1 in
      let now = s.told_now in
      subst (λ (v : Contents). IsSafeFor X N v p es) (let same : swept s.stays (with_sync t) ≡ u = cc in same)
      (record {
        stands = stands-after X N p es t h.stands some.0 among s.stays s.keeps;
        text = h.text;
        safe = safe-after t s.stays some.0 s.keeps h.text (blocks X N p (Dir es)) h.safe among;
      })

  -- a stop in the course of the sweep
  pub stop-left : (t : Contents) (listed : Option (List Cid)) (list : List Cid) (p : Profile) (es : Entries) → IsSafeFor X N t p es → kept_in t listed ≡ Ok list → EachSweepOutcome (LeavesTree X N p es) list t
  stop-left t listed list p es h e = λ held notes o. stands-during X N p es t h.stands list (kept-among t p es h.stands listed list e) h.text held notes h.safe o

-- ---- as `run` says it

module _ (X : List ℕ → List ℕ) (N : List ℕ → ℕ) (given : Status) (done : Result (Unit {0}) Refusal) (a b : Around) where
  -- a collection was done, or refused
  module _ (good : IsHash X) (small : (name : List ℕ) → N name < 2 ^ 64) (does : LetsGoAndPrints X done a.store b.store a.held b.held a.writes b.writes) where
    over-of : (t : Contents) (listed : Option (List Cid)) → a.store.told ≡ Some t → IsReadAs t.notes.pins listed → LeftOver t b.store.told (kept_in t listed)
    over-of t listed is read = left-over t b.store.told (kept_in t listed) does.gone (does.lets_go.goes t listed is read)

    gone-keeps : (t : Contents) (listed : Option (List Cid)) → a.store.told ≡ Some t → IsReadAs t.notes.pins listed → KeepsFor t (kept_in t listed) b.store.told
    gone-keeps t listed is read = keeps-for t b.store.told (kept_in t listed) (over-of t listed is read)

    gone-stands : (told : Told) → a.store.told ≡ told → (s : Standing) → TellsAs X N told s → TellsAs X N b.store.told s
    gone-stands None is s h = absurd h
    gone-stands (Some t) is s h = (let found = note-read t.notes.pins in stands-left X N good small t found.0 b.store.told s (over-of t found.0 is found.1) h)

    gone-safe : (t u : Contents) (p : Profile) (es : Entries) → a.store.told ≡ Some t → b.store.told ≡ Some u → IsSafeFor X N t p es → IsSafeFor X N u p es
    gone-safe t u p es is now h =
        let found = note-read t.notes.pins in
        safe-left X N good small t u found.0 p es (subst (λ (x : Told). LeftOver t x (kept_in t found.0)) now (over-of t found.0 is found.1)) h

    pub gc-runs : TellsEnd (Said a.errors b.errors) done given → TouchesKept a.store.told a.touches b.touches → b.left ≡ a.left → b.reads ≡ a.reads → b.host ≡ a.host → RunsGc X N given a b
    gc-runs t touches left reads host = record {
      done = done;
      tells = t;
      collects = does;
      keeps = gone-keeps;
      touched = touches;
      stands = gone-stands a.store.told refl;
      safe = gone-safe;
      left = left;
      reads = reads;
      host = host;
    }

  -- one for whose words there was no memory
  pub gc-wants : IsIdle X N no_memory done a b → TellsEnd (Said a.errors b.errors) done given → RunsGc X N given a b
  gc-wants idle t = subst (λ (now : Around). RunsGc X N given a now) (sym idle.same) (record {
    done = Err no_memory;
    tells = wants (Said a.errors b.errors) given done idle.refused t;
    collects = record {
      gone = Err no_memory;
      lets_go = record { goes = λ c listed is read. inr (inl is); cause = calm-memory a.store a.store (StaysCalm-refl a.store) };
      prints = (refl, refl, counts-still a.writes);
    };
    keeps = λ c listed is read. all-kept c a.store.told (kept_in c listed) (inl is);
    touched = touches-none a.store.told a.touches;
    stands = λ standing stands. stands;
    safe = λ c u p es is now h. subst (λ (v : Contents). IsSafeFor X N v p es) (let both : Some c ≡ Some u = sym is ∙ now in let same : c ≡ u = cc in same) h;
    left = refl;
    reads = refl;
    host = refl;
  })
