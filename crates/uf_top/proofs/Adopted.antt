-- A copy from a DAG into the tree that the Head names, from its opening to its commit.
use Rattle.std.proofs.Common.{◌≡◌, ◌≢◌, ◌⊎◌, ℕ, ◌≤◌, List, [], arith, true, false, refl, sym, ap, subst, ◌∙◌, inl, inr, Option, Some, None, Result, Ok, Err}
use Rattle.std.specs.Prelude.{IfErr, IsErr, OnErr, OnOk}
use Rattle.uf_cid.specs.Blocks.{Lookup}
use Rattle.uf_edge.specs.Counts.{Counts, Stood}
use Rattle.uf_edge.specs.Host.{HostTold}
use Rattle.uf_edge.specs.Streams as streams
use Rattle.uf_mfs.specs.Answers.{ShownInTree}
use Rattle.uf_mfs.specs.Bad.{IsBadInHead, IsBadInTree}
use Rattle.uf_mfs.specs.Standing.{Commits, IsWanting, LeavesHead, NamesOver, Same, StandsAfter, StandsOver, TellsAs, TellsHeld, head_in}
use Rattle.uf_mfs.specs.Steps.{IsFolderOver, tree_fault}
use Rattle.uf_mfs.specs.Touches.{CountsUp}
use Rattle.uf_mfs.specs.declared.fault.MfsFault.{MfsFault}
use Rattle.uf_mfs.specs.declared.fault.MfsFault.TheVariants as mfs
use Rattle.uf_mfs.specs.declared.mfs.Mfs.{Mfs}
use Rattle.uf_mfs.specs.Missing.{put_names, put_needs}
use Rattle.uf_mfs.proofs.Holding.{loss-fault, tells-after, tells-among}
use Rattle.uf_mfs.proofs.Missing.{spot-needs-among}
use Rattle.uf_mfs.proofs.Starting.{leaves-head, saves-head}
use Rattle.uf_path.specs.declared.path.DagPath.{DagPath}
use Rattle.uf_path.specs.declared.path.Path.{Path}
use Rattle.uf_plain.specs.Moves.{spotted}
use Rattle.uf_store.specs.Calls.{Calm, OnlySaves}
use Rattle.uf_store.specs.Contents.{Told}
use Rattle.uf_store.specs.Faults.{NoneIsBad, Shown, StaysCalm}
use Rattle.uf_store.specs.Keeping.{KeepsGood}
use Rattle.uf_store.specs.Seen.{Seen}
use Rattle.uf_store.specs.declared.store.StoreFault.{StoreFault}
use Rattle.uf_store.specs.declared.store.StoreFault.TheVariants as fault
use Rattle.uf_store.proofs.Calls.{shown-after, shown-by, shown-rises, stood-back, stood-front}
use Rattle.uf_store.proofs.Causes.{StaysCalm-trans, calm-rises}
use Rattle.uf_store.proofs.Keeping.{KeepsGood-trans}
use Rattle.uf_store.proofs.Writing.{SavesOnly-refl}
use Rattle.uf_tree.specs.Standing.{Standing, NoHead, BadHead, Stands}
use Rattle.uf_tree.specs.Tree.{Dir, Entries}
use Rattle.uf_tree.specs.TreePlan.{blocks}
use Rattle.uf_tree.specs.declared.profile.Profile.{Profile}
use Rattle.uf_command.specs.Dags.{adopted_name, tree_at}
use Rattle.uf_command.specs.Natures.{MovesHead}
use Rattle.uf_command.specs.Kinds.{adopt_kinds, OfWrite, fault_behind, may_close, refusal_fault, refusal_kind}
use Rattle.uf_top.specs.Reply.{Outside, World, adopt_reply, adopted, grown, in_world, moved, outside_of, reply, world_of}
use Rattle.uf_command.specs.declared.types.Command.TheVariants.{Adopt}
use Rattle.uf_command.specs.declared.types.Refusal.{Refusal}
use Rattle.uf_command.specs.declared.types.Refusal.TheVariants as refusal
use Rattle.uf_top.specs.Answering.{Answers, DoesAnswer}
use Rattle.uf_top.specs.Around.{HostSide, RisesFor, SinkSide, around}
use Rattle.uf_top.specs.Causes.{IsBadIn, IsReadyBy, RefusesInTree, is_read}
use Rattle.uf_top.specs.Endings.{EndsBy}
use Rattle.uf_top.specs.Grafts.{GraftsIn, IsLostBy, LeavesUnplaced, PutsTree, SavesAdopted, TouchesUp, graft_kinds}
use Rattle.uf_top.specs.Saving.{KeepsAdopted, SavesNoOther, adopted_blocks}
use Rattle.uf_top.specs.Losing.{AnswersOver, DoesOver, placing_needs}
use Rattle.uf_top.specs.Naming.{NamesAfter, StandsNamed, StaysNamed, TellsBlocks}
use Rattle.uf_top.specs.Opening.{IsUnopened, OpensTree}
use Rattle.uf_top.specs.Shapes.{HeadBy, WritesAs}
use Rattle.uf_top.specs.Working.{Does}
use Rattle.uf_top.proofs.Putting.{ok-value}
use Rattle.uf_top.proofs.InTree.{not-opened, tree-wants}
use Rattle.uf_top.proofs.Losing.{commits-agrees, leaves-agrees, move-over, named-of, named-between, named-from, names-kept, names-same, opening-over}
use Rattle.uf_top.proofs.Printing.{after-nothing, nothing-printed, quiet-of, rises-still}
use Rattle.uf_top.proofs.Refusing.{IsRefusedAs, by-unopened}
use Rattle.uf_top.proofs.Saved.{can-rise-later, no-other-commits, no-other-leaves, no-other-same, no-other-trans, still-stood}
use Rattle.uf_top.proofs.Shaped.{profile-said}
use Rattle.uf_top.proofs.Shows.{Shown-tree, bad-of-head, bad-of-none, counts-still, tree-touched}
use Rattle.uf_top.proofs.Standings.{stands-same, tells-none}
use Rattle.uf_top.proofs.Unready.{not-unready}

-- ---- kinds

graft-end : (why : Refusal) → graft_kinds (refusal_kind why) ≡ true → may_close adopt_kinds (refusal_kind why) ≡ true
graft-end (refusal.Rule r) h = refl
graft-end (refusal.Dag r) h = refl
graft-end (refusal.BadPath p) h = absurd cc
graft-end (refusal.Host r) h = absurd cc
graft-end (refusal.Car number place) h = absurd cc
graft-end (refusal.CarLacks cid) h = absurd cc
graft-end (refusal.OwnClash cid first second) h = absurd cc
graft-end refusal.InputTooLong h = absurd cc
graft-end refusal.BadPins h = absurd cc
graft-end refusal.Usage h = absurd cc
graft-end (refusal.Ready r) h = absurd cc
graft-end refusal.Read h = absurd cc
graft-end refusal.Write h = absurd cc
graft-end (refusal.Store fault.Failed) h = refl
graft-end (refusal.Store (fault.Damaged cid)) h = refl
graft-end (refusal.Store (fault.Missing cid)) h = refl
graft-end (refusal.Store (fault.BadBlock cid role)) h = refl
graft-end (refusal.Store (fault.Clash cid first second)) h = refl
graft-end (refusal.Store fault.Memory) h = refl

store-kind : (f : StoreFault) → graft_kinds (refusal_kind (refusal.Store f)) ≡ true
store-kind fault.Failed = refl
store-kind (fault.Damaged cid) = refl
store-kind (fault.Missing cid) = refl
store-kind (fault.BadBlock cid role) = refl
store-kind (fault.Clash cid held bytes) = refl
store-kind fault.Memory = refl

pub tree-kind : (f : MfsFault) (w : Refusal) → RefusesInTree f w → graft_kinds (refusal_kind w) ≡ true
tree-kind (mfs.Rule rule) w is = subst (λ w. graft_kinds (refusal_kind w) ≡ true) (sym is) refl
tree-kind (mfs.Ready why) w is = absurd is
tree-kind mfs.Sink w is = absurd is
tree-kind (mfs.Store f) w is = subst (λ w. graft_kinds (refusal_kind w) ≡ true) (sym is) (store-kind f)

-- what a refusal that may come has
record IsGrafting (source : DagPath) (dest : Path) (told : Told) (l m : streams.Told) (i : ℕ) (why : Refusal) : Type 0 where
  other : refusal_kind why ≢ OfWrite
  ends : may_close adopt_kinds (refusal_kind why) ≡ true
  reads : Counts (is_read {A = Unit {0}} (Err why)) i i

module _ (source : DagPath) (dest : Path) (told : Told) (l m : streams.Told) (i : ℕ) where
  grafting-store : (f : StoreFault) → IsGrafting source dest told l m i (refusal.Store f)
  grafting-store fault.Failed = record { other = λ e. cc; ends = refl; reads = counts-still i }
  grafting-store (fault.Damaged cid) = record { other = λ e. cc; ends = refl; reads = counts-still i }
  grafting-store (fault.Missing cid) = record { other = λ e. cc; ends = refl; reads = counts-still i }
  grafting-store (fault.BadBlock cid role) = record { other = λ e. cc; ends = refl; reads = counts-still i }
  grafting-store (fault.Clash cid first second) = record { other = λ e. cc; ends = refl; reads = counts-still i }
  grafting-store fault.Memory = record { other = λ e. cc; ends = refl; reads = counts-still i }

  grafting-of : (why : Refusal) → graft_kinds (refusal_kind why) ≡ true → IsGrafting source dest told l m i why
  grafting-of (refusal.Rule r) h = record { other = λ e. cc; ends = refl; reads = counts-still i }
  grafting-of (refusal.Dag r) h = record { other = λ e. cc; ends = refl; reads = counts-still i }
  grafting-of (refusal.BadPath p) h = absurd cc
  grafting-of (refusal.Host r) h = absurd cc
  grafting-of (refusal.Car number place) h = absurd cc
  grafting-of (refusal.CarLacks cid) h = absurd cc
  grafting-of (refusal.OwnClash cid first second) h = absurd cc
  grafting-of refusal.InputTooLong h = absurd cc
  grafting-of refusal.BadPins h = absurd cc
  grafting-of refusal.Usage h = absurd cc
  grafting-of (refusal.Ready r) h = absurd cc
  grafting-of refusal.Read h = absurd cc
  grafting-of refusal.Write h = absurd cc
  grafting-of (refusal.Store f) h = grafting-store f

  -- the same of a tree that isn't opened
  grafting-unopened : (why : Refusal) → IsUnopened told why → IsGrafting source dest told l m i why
  grafting-unopened why = by-unopened (IsGrafting source dest told l m i) told why (λ reason head. record { other = λ e. cc; ends = refl; reads = counts-still i }) grafting-store

graft-ready : (told : Told) (source : DagPath) (dest : Path) (why : Refusal) → graft_kinds (refusal_kind why) ≡ true → IsReadyBy told (Adopt source dest) why
graft-ready told source dest (refusal.Rule r) h = tt
graft-ready told source dest (refusal.Dag r) h = tt
graft-ready told source dest (refusal.BadPath p) h = tt
graft-ready told source dest (refusal.Host r) h = tt
graft-ready told source dest (refusal.Car number place) h = tt
graft-ready told source dest (refusal.CarLacks cid) h = tt
graft-ready told source dest (refusal.OwnClash cid first second) h = tt
graft-ready told source dest refusal.InputTooLong h = tt
graft-ready told source dest refusal.BadPins h = tt
graft-ready told source dest refusal.Usage h = tt
graft-ready told source dest (refusal.Ready r) h = absurd cc
graft-ready told source dest refusal.Read h = tt
graft-ready told source dest refusal.Write h = tt
graft-ready told source dest (refusal.Store f) h = tt

-- ---- the tree in memory, and then its commit

module _ (X : List ℕ → List ℕ) (N : List ℕ → ℕ) (tree new : Mfs) (source : DagPath) (dest : Path) where
  folder-over : (a m : Seen) (p : Profile) (es : Entries) → StandsOver X N a.told tree p es → StaysNamed X N a.told m.told p es → Calm a m → IsFolderOver X N p a m [] tree.root es
  folder-over a m p es over named calm = record { plan = over.root.plan; stays = record { first = over.root.agrees; last = named.last }; calm = calm }

  -- a refusal over blocks that may be lost
  stopped-over : (a m : Told) (p : Profile) (es : Entries) (w : Result Entries Refusal) (why : Refusal) (given : streams.Told) → IsLostBy a (placing_needs X N dest (Some (adopted_name source)) p es) why ⊎ (w ≡ Err why)
      → NamesAfter X N a m (blocks X N p (Dir es)) p es → DoesOver X N a m p es (placing_needs X N dest (Some (adopted_name source)) p es) (grown X N p es w) (Err why) given given
  stopped-over a m p es w why given (inr is) stands =
      inr (record { ends = subst (λ w. EndsBy (grown X N p es w).ends (Err why) given given) (sym is) (refl, refl); stands = subst (λ w. StandsNamed X N a m (blocks X N p (Dir es)) (grown X N p es w).next) (sym is) stands })
  stopped-over a m p es w (refusal.Store f) given (inl lost) stands = inl (record { fault = f; ends_are = refl; loss = lost; stands = stands })
  stopped-over a m p es w (refusal.Rule r) given (inl lost) stands = absurd lost
  stopped-over a m p es w (refusal.Dag r) given (inl lost) stands = absurd lost
  stopped-over a m p es w (refusal.BadPath r) given (inl lost) stands = absurd lost
  stopped-over a m p es w (refusal.Host r) given (inl lost) stands = absurd lost
  stopped-over a m p es w (refusal.Car number place) given (inl lost) stands = absurd lost
  stopped-over a m p es w (refusal.CarLacks cid) given (inl lost) stands = absurd lost
  stopped-over a m p es w (refusal.OwnClash cid first second) given (inl lost) stands = absurd lost
  stopped-over a m p es w refusal.InputTooLong given (inl lost) stands = absurd lost
  stopped-over a m p es w refusal.BadPins given (inl lost) stands = absurd lost
  stopped-over a m p es w refusal.Usage given (inl lost) stands = absurd lost
  stopped-over a m p es w (refusal.Ready r) given (inl lost) stands = absurd lost
  stopped-over a m p es w refusal.Read given (inl lost) stands = absurd lost
  stopped-over a m p es w refusal.Write given (inl lost) stands = absurd lost

  -- it is refused
  pub graft-refused : (a m : Seen) (why : Refusal) → ((held : Lookup) → TellsBlocks a.told held → PutsTree X N tree new (placing_needs X N dest (Some (adopted_name source))) (adopted X N held source dest) (Err why) a m)
      → OnlySaves X (IsBadInTree X N (Some tree.profile) tree.root.cid) (fault_behind why) a m → LeavesUnplaced X N tree source dest (Err why) a m → SavesAdopted X N tree source dest a m → graft_kinds (refusal_kind why) ≡ true → (t0 t1 : ℕ) → TouchesUp {A = Unit {0}} (Err why) t0 t1 → GraftsIn X N tree source dest (Err why) a m t0 t1
  graft-refused a m why puts saves unplaced no_other kind t0 t1 up = record {
    lost = λ p es held given over named tells calm.
        stopped-over a.told m.told p es (adopted X N held source dest p es) why given (puts held tells p es over.profile_is (folder-over a m p es over named calm))
        (names-kept X N a.told m.told p es saves.good (saves-head X a.told m.told saves.saves) named);
    unplaced = unplaced;
    no_other = no_other;
    kinds = kind;
    cause = saves.cause;
    good = saves.good;
    touched = up.risen;
    head = saves-head X a.told m.told saves.saves;
    writes = record { between = m.told; saves = saves.saves; last = Same refl };
  }

  module _ (a m b : Seen) (puts : (held : Lookup) → TellsBlocks a.told held → PutsTree X N tree new (placing_needs X N dest (Some (adopted_name source))) (adopted X N held source dest) (Ok tt) a m)
      (saves : OnlySaves X (IsBadInTree X N (Some tree.profile) tree.root.cid) None a m) (placed : LeavesUnplaced X N tree source dest (Ok tt) a m) (no_other : SavesAdopted X N tree source dest a m) (kept : KeepsGood X m.told b.told) where
    -- there was a spot
    was-placed : (done : Result (Unit {0}) Refusal) → m.faults ≤ b.faults → LeavesUnplaced X N tree source dest done a b
    was-placed done later = λ p es over stood nowhere. absurd (let e : false ≡ true = (placed p es over (stood-front a.faults m.faults b.faults saves.cause.faults later stood) nowhere).0 in cc)

    first-calm : m.faults ≤ b.faults → m.clashes ≤ b.clashes → Calm a b → Calm a m
    first-calm faults clashes both = record {
      faults = stood-front a.faults m.faults b.faults saves.cause.faults faults both.faults;
      clashes = stood-front a.clashes m.clashes b.clashes saves.cause.clashes clashes both.clashes;
    }

    -- the commit is refused
    graft-uncommitted : (f : MfsFault) (w : Refusal) → RefusesInTree f w → (Stood m.faults b.faults → IsWanting f) → LeavesHead m.told b.told → ShownInTree X NoneIsBad {A = Unit {0}} (Err f) m b
        → (t0 t1 t2 : ℕ) → TouchesUp {A = Unit {0}} (Ok tt) t0 t1 → CountsUp (tree_fault {A = Unit {0}} (Err f)) t1 t2 → GraftsIn X N tree source dest (Err w) a b t0 t2
    graft-uncommitted f w is wanting leaves cause t0 t1 t2 up later_up =
        let shown = Shown-tree (Unit {0}) X NoneIsBad (IsBadInTree X N (Some tree.profile) tree.root.cid) (λ role bytes bad. absurd bad) f w m b is cause in
        let head = leaves-head m.told b.told leaves ∙ saves-head X a.told m.told saves.saves in
        let good = KeepsGood-trans X a.told m.told b.told saves.good kept in
        record {
          lost = λ p es held given over named tells calm.
              stopped-over a.told b.told p es (adopted X N held source dest p es) w given
              (inl (subst (IsLostBy a.told (placing_needs X N dest (Some (adopted_name source)) p es)) (sym (tree-wants f w is (wanting (stood-back a.faults m.faults b.faults saves.cause.faults calm.faults)))) tt))
              (names-kept X N a.told b.told p es good head named);
          unplaced = was-placed (Err w) (shown-rises X (IsBadInTree X N (Some tree.profile) tree.root.cid) (fault_behind w) m b shown).faults;
          no_other = λ held p es tells over last can.
              let l = adopted_blocks X N (tree_at held source) source dest p es in
              no-other-trans X l a.told m.told b.told (no_other held p es tells over (leaves-agrees m.told b.told (blocks X N p (Dir es)) leaves last) can) (no-other-leaves X l m.told b.told leaves);
          kinds = tree-kind f w is;
          cause = shown-after X (IsBadInTree X N (Some tree.profile) tree.root.cid) (fault_behind w) a m b saves.cause shown;
          good = good;
          touched = λ blames. let low = up.kept in let more = (tree-touched (Unit {0}) f w t1 t2 is later_up).risen blames in omega (arith, low, more);
          head = head;
          writes = record { between = m.told; saves = saves.saves; last = leaves };
        }

    -- it is committed
    graft-committed : new.profile ≡ tree.profile → Commits new.profile new.root.cid m.told b.told → StaysCalm m b → (t0 t2 : ℕ) → GraftsIn X N tree source dest (Ok tt) a b t0 t2
    graft-committed same commits later t0 t2 = record {
      lost = λ p es held given over named tells calm.
          let rises = calm-rises m b later in
          let v = ok-value (λ fs. StandsAfter X N a.told m.told (blocks X N p (Dir es)) new p fs) (adopted X N held source dest p es)
          (puts held tells p es over.profile_is (folder-over a m p es over (named-between X N a.told m.told b.told new.profile new.root.cid p es commits named) (first-calm rises.faults rises.clashes calm))) in
          subst (λ w. DoesOver X N a.told b.told p es (placing_needs X N dest (Some (adopted_name source)) p es) (grown X N p es w) (Ok tt) given given) (sym v.1)
          (done p es v.0 given (move-over X N a.told b.told p es (placing_needs X N dest (Some (adopted_name source)) p es) m.told (Ok v.0) new [] v.2 refl commits));
      unplaced = was-placed (Ok tt) (calm-rises m b later).faults;
      no_other = λ held p es tells over last can.
          let l = adopted_blocks X N (tree_at held source) source dest p es in
          no-other-trans X l a.told m.told b.told (no_other held p es tells over (commits-agrees m.told b.told new.profile new.root.cid (blocks X N p (Dir es)) commits last) can)
          (no-other-commits X l new.profile new.root.cid m.told b.told commits);
      kinds = tt;
      cause = StaysCalm-trans a m b saves.cause later;
      good = KeepsGood-trans X a.told m.told b.told saves.good kept;
      touched = λ blames. absurd blames;
      head = tt;
      writes = (new.root.cid, record { between = m.told; saves = saves.saves; last = subst (λ p. Commits p new.root.cid m.told b.told) same commits });
    }
      where
        done : (p : Profile) (es fs : Entries) (given : streams.Told) → AnswersOver X N a.told b.told p es (placing_needs X N dest (Some (adopted_name source)) p es) (moved X N p es (Ok fs)) (Ok [])
            → DoesOver X N a.told b.told p es (placing_needs X N dest (Some (adopted_name source)) p es) (grown X N p es (Ok fs)) (Ok tt) given given
        done p es fs given (inl x) = absurd (let e = x.ends_are in cc)
        done p es fs given (inr x) = inr (record { ends = (refl, after-nothing given); stands = x.stands })

    -- and so it ends
    pub graft-ended : (r : Result (Unit {0}) MfsFault) (given : Result (Unit {0}) Refusal) → IsRefusedAs RefusesInTree r given → new.profile ≡ tree.profile → (Stood m.faults b.faults → IfErr r IsWanting) → OnOk r (Commits new.profile new.root.cid m.told b.told)
        → OnErr r (LeavesHead m.told b.told) → ShownInTree X NoneIsBad r m b → (t0 t1 t2 : ℕ) → TouchesUp {A = Unit {0}} (Ok tt) t0 t1 → CountsUp (tree_fault r) t1 t2 → GraftsIn X N tree source dest given a b t0 t2
    graft-ended (Ok done) given is same wanting commits leaves later t0 t1 t2 up later_up = subst (λ (r : Result (Unit {0}) Refusal). GraftsIn X N tree source dest r a b t0 t2) (sym is) (graft-committed same commits later t0 t2)
    graft-ended (Err f) (Ok done) is same wanting commits leaves cause t0 t1 t2 up later_up = absurd is
    graft-ended (Err f) (Err w) is same wanting commits leaves cause t0 t1 t2 up later_up = graft-uncommitted f w is wanting leaves cause t0 t1 t2 up later_up

-- ---- from what some blocks may be lost of to what holds all of them

module _ (X : List ℕ → List ℕ) (N : List ℕ → ℕ) where
  pub named-stands : (a b : Told) (p : Profile) (es fs : Entries) → TellsHeld a (blocks X N p (Dir es)) → NamesAfter X N a b (blocks X N p (Dir es)) p fs → TellsAs X N b (Stands p fs)
  named-stands a None p es fs held named = absurd named.root.after
  named-stands a (Some t) p es fs held named = record {
    profile = named.root.plan.profile;
    tree = named.root.plan.tree;
    planned = named.root.plan.planned;
    head_is = named.head;
    blocks_held = tells-after a (Some t) (blocks X N p (Dir es)) (blocks X N p (Dir fs)) held named.root.after;
  }

  pub stands-blocks : (told : Told) (p : Profile) (es : Entries) → TellsAs X N told (Stands p es) → TellsHeld told (blocks X N p (Dir es))
  stands-blocks None p es stands = absurd stands
  stands-blocks (Some t) p es stands = stands.blocks_held

  -- all that a put needs is held where the store stands
  pub placing-held : (told : Told) (p : Profile) (es : Entries) (dest : Path) (name : Option (List ℕ)) → TellsAs X N told (Stands p es) → TellsHeld told (placing_needs X N dest name p es)
  placing-held told p es dest name stands =
      tells-among told (blocks X N p (Dir es)) (placing_needs X N dest name p es) (λ P h. spot-needs-among X N p (put_names dest name) (Dir es) P h) (stands-blocks told p es stands)

  grown-stands : (a b : Told) (p : Profile) (es : Entries) (w : Result Entries Refusal) → TellsHeld a (blocks X N p (Dir es)) → StandsNamed X N a b (blocks X N p (Dir es)) (grown X N p es w).next
      → TellsAs X N b (grown X N p es w).next × TellsHeld b (grown X N p es w).held
  grown-stands a b p es (Ok fs) held named = (let s = named-stands a b p es fs held named in (s, stands-blocks b p fs s))
  grown-stands a b p es (Err why) held named = (let s = named-stands a b p es es held named in (s, tells-none X N b (Stands p es) s))

  over-answers : (source : DagPath) (dest : Path) (lookup : Lookup) (input : Outside) (a b : Told) (p : Profile) (es : Entries) (done : Result (Unit {0}) Refusal) (given : streams.Told) (host : HostTold) → TellsAs X N a (Stands p es)
      → DoesOver X N a b p es (placing_needs X N dest (Some (adopted_name source)) p es) (adopt_reply X N lookup source dest p es) done given given
      → DoesAnswer X N (Adopt source dest) (in_world p es lookup input) done given given b host
  over-answers source dest lookup input a b p es done given host stands (inl x) =
      let held = stands-blocks a p es stands in
      inl (record { ends_are = x.ends_are ∙ ap (λ (f : StoreFault). Err (refusal.Store f)) (loss-fault a (placing_needs X N dest (Some (adopted_name source)) p es) x.fault (placing-held a p es dest (Some (adopted_name source)) stands) x.loss); stands = named-stands a b p es es held x.stands })
  over-answers source dest lookup input a b p es done given host stands (inr x) =
      let s = grown-stands a b p es (adopted X N lookup source dest p es) (stands-blocks a p es stands) x.stands in
      inr (record { ends = x.ends; stands = s.0; blocks = s.1 }, tt)

  -- ---- how it is done

  module _ (source : DagPath) (dest : Path) (a m : Seen) (l : streams.Told) (i : ℕ) (h : streams.Told) (w t0 t1 : ℕ) (side : HostSide) (er er2 : SinkSide) where
    -- the tree isn't opened
    pub graft-unopened : (why : Refusal) → OpensTree X N (Err why) a m t0 t1 → Does X N (Adopt source dest) (Err why) (around a l i h w t0 side er) (around m l i h w t1 side er2)
    graft-unopened why o =
        let told = o.reads.told in
        let plain = grafting-unopened source dest a.told l l i why o.refused in
        let quiet = quiet-of (λ (text : List ℕ). text ≡ []) false why plain.other in
        record {
          answers = λ world finds input quiet2. answered world
              (not-opened X N world.standing (adopt_reply X N world.held source dest) why m.told (o.opens world.standing finds.stands quiet2.store.faults) (stands-same X N a.told m.told world.standing told finds.stands));
          lost = λ p es rows held bytes named tells heights input quiet2. over p es held bytes
              (opening-over X N a.told m.told p es (put_needs X N p (put_names dest (Some (adopted_name source))) (Dir es)) (adopt_reply X N held source dest p es) why (o.lost p es named.names quiet2.store.faults) (names-same X N a.told m.told p es told named));
          unprinted = λ world after. absurd cc;
          unprinted_over = λ p es held outside after. absurd cc;
          prefix = λ world finds input room. nothing-printed (reply X N (Adopt source dest) world).ends h h refl;
          prints = quiet.prints h h refl;
          kinds = plain.ends;
          ready = by-unopened (IsReadyBy a.told (Adopt source dest)) a.told why (λ reason head. head) (λ f. tt) o.refused;
          long = tt;
          reads = plain.reads;
          host = refl;
          gets = tt;
          pins = tt;
          kept = λ held tells p es named can. no-other-same X (adopted_blocks X N (tree_at held source) source dest p es) a.told m.told told;
          writes = subst (λ f. RisesFor f w w) (sym quiet.unwritten) (rises-still w);
          cause = shown-by X (IsBadInHead X N a.told) (IsBadIn X N a.told m.told) (fault_behind why) a m (bad-of-none X N a.told m.told) o.reads.cause;
          whole = λ s needs stands quiet2. absurd cc;
          touches = λ p es bytes rows named input heights quiet2. tt;
          touched = o.touched.risen;
          unready = λ e is. record { told = told; left = refl; reads = refl };
          unplaced = λ p es names stood none. record { told = told; left = refl; reads = refl };
          leaves = record {
            head = ap head_in told;
            writes = subst (λ d. WritesAs X MovesHead d a.told m.told) (sym quiet.undone) (record { between = a.told; saves = SavesOnly-refl X a.told; last = Same told });
            idle = λ p es bytes names calm same. absurd cc;
          };
        }
      where
        answered : (world : World) → Answers X N world.standing (reply X N (Adopt source dest) world) (Err why) m.told → DoesAnswer X N (Adopt source dest) world (Err why) h h m.told side.told
        answered world (inl x) = inl (record { ends_are = ap (λ (r : Refusal). Err r) (let same = x.ends_are in cc); stands = x.stands })
        answered world (inr x) = inr (record { ends = subst (λ e. EndsBy e (Err why) h h) x.ends_are (refl, refl); stands = x.stands; blocks = x.held }, tt)

        over : (p : Profile) (es : Entries) (held : Lookup) (bytes : Outside) → AnswersOver X N a.told m.told p es (placing_needs X N dest (Some (adopted_name source)) p es) (adopt_reply X N held source dest p es) (Err why)
            → DoesOver X N a.told m.told p es (placing_needs X N dest (Some (adopted_name source)) p es) (reply X N (Adopt source dest) (in_world p es held bytes)) (Err why) h h
        over p es held bytes (inl x) = inl (record { fault = x.fault; ends_are = ap (λ (r : Refusal). Err r) (let same = x.ends_are in cc); loss = x.loss; stands = x.stands })
        over p es held bytes (inr x) = inr (record { ends = subst (λ e. EndsBy e (Err why) h h) x.ends_are (refl, refl); stands = x.stands })

    -- the tree is opened
    module _ (tree : Mfs) (o : OpensTree X N (Ok tree) a m t0 t1) (b : Seen) (t2 : ℕ) where
      told : m.told ≡ a.told
      told = o.reads.told

      calm : StaysCalm a m
      calm = o.reads.cause

      module _ (done : Result (Unit {0}) Refusal) (grafts : GraftsIn X N tree source dest done m b t1 t2) where
        front : Stood a.faults b.faults → Stood a.faults m.faults
        front stood = stood-front a.faults m.faults b.faults calm.faults (shown-rises X (IsBadInTree X N (Some tree.profile) tree.root.cid) (refusal_fault done) m b grafts.cause).faults stood

        back : Calm a b → Calm m b
        back both = record { faults = stood-back a.faults m.faults b.faults calm.faults both.faults; clashes = stood-back a.clashes m.clashes b.clashes calm.clashes both.clashes }

        over-opened : (p : Profile) (es : Entries) (held : Lookup) → StaysNamed X N a.told b.told p es → TellsBlocks a.told held → Calm a b
            → DoesOver X N a.told b.told p es (placing_needs X N dest (Some (adopted_name source)) p es) (adopt_reply X N held source dest p es) done h h
        over-opened p es held named tells both =
            let at = o.lost p es named.names (front both.faults) in
            subst (λ t. DoesOver X N t b.told p es (placing_needs X N dest (Some (adopted_name source)) p es) (adopt_reply X N held source dest p es) done h h) told
            (grafts.lost p es held h (subst (λ t. StandsOver X N t tree p es) (sym told) at) (named-from X N a.told m.told b.told p es told named) (subst (λ t. TellsBlocks t held) (sym told) tells) (back both))

        more-over : (p : Profile) (es : Entries) (held : Lookup) (bytes : Outside) → DoesOver X N a.told b.told p es (placing_needs X N dest (Some (adopted_name source)) p es) (adopt_reply X N held source dest p es) done h h
            → DoesOver X N a.told b.told p es (placing_needs X N dest (Some (adopted_name source)) p es) (reply X N (Adopt source dest) (in_world p es held bytes)) done h h
        more-over p es held bytes (inl x) = inl (record { fault = x.fault; ends_are = x.ends_are; loss = x.loss; stands = x.stands })
        more-over p es held bytes (inr x) = inr (record { ends = x.ends; stands = x.stands })

        -- the tree has no spot for it
        no-spot : (p : Profile) (es : Entries) → NamesOver X N a.told p es → Stood a.faults b.faults → IsErr (spotted dest (Some (adopted_name source)) es) → IsErr done × (b.told ≡ a.told)
        no-spot p es names stood nowhere =
            let at = o.lost p es names (front stood) in
            let x = grafts.unplaced p es (subst (λ t. StandsOver X N t tree p es) (sym told) at) (stood-back a.faults m.faults b.faults calm.faults stood) nowhere in
            (x.0, x.1 ∙ told)

        -- what was saved
        saved-opened : KeepsAdopted X N a b source dest
        saved-opened = λ held tells p es named can.
            let at = o.lost p es named.names (still-stood a.faults m.faults can.faults calm.faults) in
            subst (λ t. SavesNoOther X (adopted_blocks X N (tree_at held source) source dest p es) t b.told) told
            (grafts.no_other held p es (subst (λ t. TellsBlocks t held) (sym told) tells) (subst (λ t. StandsOver X N t tree p es) (sym told) at) named.last (can-rise-later a m calm can))

        all_good : KeepsGood X a.told b.told
        all_good = subst (λ t. KeepsGood X t b.told) told grafts.good

        answers-opened : (s : Standing) (held : Lookup) (input : Outside) → TellsAs X N a.told s → TellsBlocks a.told held → Calm a b
            → DoesAnswer X N (Adopt source dest) (world_of s held input) done h h b.told side.told
        answers-opened NoHead held input stands tells both = absurd (o.opens NoHead stands (front both.faults))
        answers-opened BadHead held input stands tells both = absurd (o.opens BadHead stands (front both.faults))
        answers-opened (Stands p es) held input stands tells both =
            over-answers source dest held input a.told b.told p es done h side.told stands (over-opened p es held (named-of X N a.told b.told p es stands all_good) tells both)

        shown : Shown X (IsBadIn X N a.told b.told) (refusal_fault done) a b
        shown = shown-after X (IsBadIn X N a.told b.told) (refusal_fault done) a m b calm
            (shown-by X (IsBadInTree X N (Some tree.profile) tree.root.cid) (IsBadIn X N a.told b.told) (refusal_fault done) m b (λ role bytes bad. bad-of-head X N a.told b.told tree o.head role bytes (inl (inl bad))) grafts.cause)

      -- it is refused
      pub graft-stopped : (why : Refusal) → GraftsIn X N tree source dest (Err why) m b t1 t2 → Does X N (Adopt source dest) (Err why) (around a l i h w t0 side er) (around b l i h w t2 side er2)
      graft-stopped why g =
          let plain = grafting-of source dest a.told l l i why g.kinds in
          let quiet = quiet-of (λ (text : List ℕ). text ≡ []) false why plain.other in
          record {
            answers = λ world finds input quiet2. answers-opened (Err why) g world.standing world.held (outside_of world) finds.stands finds.held quiet2.store;
            lost = λ p es rows held bytes named tells heights input quiet2. more-over (Err why) g p es held bytes (over-opened (Err why) g p es held named tells quiet2.store);
            unprinted = λ world after. absurd cc;
            unprinted_over = λ p es held outside after. absurd cc;
            prefix = λ world finds input room. nothing-printed (reply X N (Adopt source dest) world).ends h h refl;
            prints = quiet.prints h h refl;
            kinds = plain.ends;
            ready = graft-ready a.told source dest why g.kinds;
            long = tt;
            reads = plain.reads;
            host = refl;
            gets = tt;
            pins = tt;
            kept = saved-opened (Err why) g;
            writes = subst (λ f. RisesFor f w w) (sym quiet.unwritten) (rises-still w);
            cause = shown (Err why) g;
            whole = λ s needs stands quiet2. absurd cc;
            touches = λ p es bytes rows named input heights quiet2. tt;
            touched = λ blames. let low = o.touched.kept in let more = g.touched blames in omega (arith, low, more);
            unready = λ e is. absurd (not-unready {A = Unit {0}} graft_kinds (Err why) refl refl g.kinds is);
            unplaced = λ p es names stood none. record { told = (no-spot (Err why) g p es names stood none).1; left = refl; reads = refl };
            leaves = record {
              head = g.head ∙ ap head_in told;
              writes = subst (λ d. WritesAs X MovesHead d a.told b.told) (sym quiet.undone) (subst (λ t. WritesAs X MovesHead false t b.told) told g.writes);
              idle = λ p es bytes names calm same. absurd cc;
            };
          }

      -- it is done
      pub graft-done : GraftsIn X N tree source dest (Ok tt) m b t1 t2 → Does X N (Adopt source dest) (Ok tt) (around a l i h w t0 side er) (around b l i h w t2 side er2)
      graft-done g = record {
        answers = λ world finds input quiet2. answers-opened (Ok tt) g world.standing world.held (outside_of world) finds.stands finds.held quiet2.store;
        lost = λ p es rows held bytes named tells heights input quiet2. more-over (Ok tt) g p es held bytes (over-opened (Ok tt) g p es held named tells quiet2.store);
        unprinted = λ world after. absurd cc;
        unprinted_over = λ p es held outside after. absurd cc;
        prefix = λ world finds input room. nothing-printed (reply X N (Adopt source dest) world).ends h h refl;
        prints = ([], refl, after-nothing h);
        kinds = tt;
        ready = tt;
        long = tt;
        reads = counts-still i;
        host = refl;
        gets = tt;
        pins = tt;
        kept = saved-opened (Ok tt) g;
        writes = rises-still w;
        cause = shown (Ok tt) g;
        whole = λ s needs stands quiet2. absurd cc;
        touches = λ p es bytes rows named input heights quiet2. tt;
        touched = λ blames. absurd blames;
        unready = λ e is. absurd cc;
        unplaced = λ p es names stood none. absurd (let e : false ≡ true = (no-spot (Ok tt) g p es names stood none).0 in cc);
        leaves = record { head = tt; writes = (tree.profile, profile-said a.told tree o.head, subst (λ t. HeadBy X tree.profile t b.told) told g.writes); idle = λ p es bytes names calm same. absurd cc };
      }

      pub graft-ends : (done : Result (Unit {0}) Refusal) → GraftsIn X N tree source dest done m b t1 t2 → Does X N (Adopt source dest) done (around a l i h w t0 side er) (around b l i h w t2 side er2)
      graft-ends (Ok done) g = graft-done g
      graft-ends (Err why) g = graft-stopped why g
