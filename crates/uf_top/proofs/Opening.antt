-- How a command is done that opens a tree, or makes a store ready for one.
use Rattle.std.proofs.Common.{◌≡◌, ℕ, ◌+◌, ◌≤◌, List, [], false, arith, refl, sym, ap, subst, ◌∙◌, Some, None, Result, Ok, Err}
use Rattle.std.specs.Prelude.{IfErr, IfOk, IfSome, OnErr}
use Rattle.uf_edge.specs.Counts.{Stood}
use Rattle.uf_edge.specs.Streams as streams
use Rattle.uf_mfs.specs.Answers.{ShownOpening}
use Rattle.uf_mfs.specs.Bad.{IsBadInHead}
use Rattle.uf_mfs.specs.Opening.{IsOfMaking}
use Rattle.uf_mfs.specs.Saving.{SavesEmpty}
use Rattle.uf_mfs.specs.Steps.{tree_fault}
use Rattle.uf_mfs.specs.Touches.{CountsUp}
use Rattle.uf_mfs.specs.Standing.{Commits, FindsHead, Inits, IsMfs, LeavesHead, NamesOver, Opens, OpensOver, ReadsHead, Same, SavesThen, StandsOver, TellsAs, head_in}
use Rattle.uf_mfs.specs.declared.fault.MfsFault.{MfsFault}
use Rattle.uf_mfs.specs.declared.fault.MfsFault.TheVariants as mfs
use Rattle.uf_mfs.specs.declared.mfs.Mfs.{Mfs}
use Rattle.uf_mfs.proofs.Counting.{counts-then}
use Rattle.uf_mfs.proofs.Starting.{leaves-head, saves-head}
use Rattle.uf_path.specs.declared.path.Path.{Path}
use Rattle.uf_plain.specs.Needs.{root_of}
use Rattle.uf_plain.specs.declared.ready.Ready.{Ready}
use Rattle.uf_plain.specs.declared.ready.Ready.TheVariants as ready
use Rattle.uf_store.specs.Contents.{Told}
use Rattle.uf_store.specs.Faults.{NoneIsBad, StaysCalm}
use Rattle.uf_store.specs.Keeping.{KeepsGood}
use Rattle.uf_store.specs.Seen.{Seen}
use Rattle.uf_store.proofs.Calls.{shown-after, shown-by, shown-rises, stood-back, stood-front}
use Rattle.uf_store.proofs.Writing.{SavesOnly-refl}
use Rattle.uf_tree.specs.Standing.{Standing, NoHead, BadHead, Stands}
use Rattle.uf_tree.specs.Metas.{none}
use Rattle.uf_tree.specs.Tree.{Dir, Entries, Nothing}
use Rattle.uf_tree.specs.TreePlan.{blocks}
use Rattle.uf_tree.specs.declared.profile.Profile.{Profile}
use Rattle.uf_command.specs.Natures.{ask_writes}
use Rattle.uf_command.specs.Kinds.{fault_behind, opened_kinds, refusal_fault}
use Rattle.uf_command.specs.Statuses.{status_of}
use Rattle.uf_command.specs.declared.status.Status.TheVariants as status
use Rattle.uf_top.specs.Reply.{tree_reply}
use Rattle.uf_command.specs.declared.types.Ask.{Ask}
use Rattle.uf_command.specs.declared.types.Ask.TheVariants.{Ls, Stat, Edit as Edits}
use Rattle.uf_command.specs.declared.types.Command.TheVariants.{Init, At}
use Rattle.uf_command.specs.declared.types.Refusal.{Refusal}
use Rattle.uf_top.specs.Around.{HostSide, SinkSide, around}
use Rattle.uf_top.specs.Causes.{HeadStays, IsBadIn, IsReadyBy, RefusesOpening}
use Rattle.uf_edits.specs.Edits.{IsBadAsked}
use Rattle.uf_top.specs.Losing.{AnswersOver, ask_needs}
use Rattle.uf_top.specs.Shapes.{WritesAs, WritesInTree, is_ok}
use Rattle.uf_top.specs.Opening.{OpensNamed, OpensStanding, OpensTree}
use Rattle.uf_top.specs.Saving.{SavesNoOther, asked_blocks}
use Rattle.uf_top.specs.Working.{Makes, WorksAt}
use Rattle.uf_top.proofs.InTree.{init-ready, inits-err, inits-ok, not-opened, opened, opening-wants, stays-nothing, unopened-by, unready-by}
use Rattle.uf_top.proofs.Classed.{init-counts, init-kinds, opened-of, opened-ready, tree-counts, unopened-kinds}
use Rattle.uf_top.proofs.Finding.{at-whole, init-looks, unopened-whole}
use Rattle.uf_top.proofs.Losing.{inits-over, named-from, names-kept, names-same, not-inited, opening-over, over-more}
use Rattle.uf_top.proofs.Refusing.{IsRefusedAs, by-unopened}
use Rattle.uf_top.proofs.Saved.{can-rise-later, no-other-commits, no-other-leaves, no-other-same, no-other-then, still-stood}
use Rattle.uf_top.proofs.Shaped.{profile-said, tree-wrote}
use Rattle.uf_top.proofs.Shows.{Shown-opening, bad-of-head, bad-of-none, counts-still, opening-touched}
use Rattle.uf_top.proofs.Standings.{stands-kept, stands-same}
use Rattle.uf_top.proofs.Unready.{not-unready, store-unready}

-- where nothing was written, a refused ask has written what it may
ask-same : (X : List ℕ → List ℕ) (ask : Ask) (a b : Told) → b ≡ a → WritesAs X (ask_writes ask) false a b
ask-same X (Ls long) a b e = e
ask-same X Stat a b e = e
ask-same X (Edits edit) a b e = record { between = a; saves = SavesOnly-refl X a; last = Same e }

-- no Head is there where a store tells that there is none
no-head-yet : (told : Told) → IfSome told (λ t. t.notes.head ≡ None) → head_in told ≡ None
no-head-yet None h = refl
no-head-yet (Some t) h = h

-- the Head is why
init-alone : (P : Type 0) (f : MfsFault) (why : Refusal) → RefusesOpening f why → ((r : Ready) → ◌≡◌ {A = Result Mfs MfsFault} (Err f) (Err (mfs.Ready r)) → P) → status_of why ≡ status.NotReady → P
init-alone P (mfs.Rule rule) why is alone given = absurd is
init-alone P (mfs.Ready r) why is alone given = alone r refl
init-alone P mfs.Sink why is alone given = absurd is
init-alone P (mfs.Store g) why is alone given = absurd (store-unready g (subst (λ w. status_of w ≡ status.NotReady) is given))

module _ (X : List ℕ → List ℕ) (N : List ℕ → ℕ) where
  -- ---- what is opened

  same-standing : (now : Told) (s : Standing) (tree : Mfs) → Opens X N now s (Ok tree) → OpensStanding X N now s (Ok tree)
  same-standing now NoHead tree h = h
  same-standing now BadHead tree h = h
  same-standing now (Stands p es) tree h = h

  refused-standing : (now : Told) (s : Standing) (f : MfsFault) (why : Refusal) → RefusesOpening f why → Opens X N now s (Err f) → OpensStanding X N now s (Err why)
  refused-standing now NoHead f why is h = unready-by ready.NoHead f why is h
  refused-standing now BadHead f why is h = unready-by ready.BadHead f why is h
  refused-standing now (Stands p es) f why is h = opening-wants f why is h

  refused-named : (told : Told) (p : Profile) (es : Entries) (f : MfsFault) (why : Refusal) → RefusesOpening f why → OpensOver X N told p es (Err f) → OpensNamed X N told p es (Err why)
  refused-named told p es (mfs.Rule rule) why is h = absurd h
  refused-named told p es (mfs.Ready reason) why is h = absurd h
  refused-named told p es mfs.Sink why is h = absurd h
  refused-named told p es (mfs.Store f) why is h = (f, h, is)

  -- so of the call that opens it, with its fault as a refusal
  pub opens-tree : (r : Result Mfs MfsFault) (given : Result Mfs Refusal) (a m : Seen) (t0 t1 : ℕ) → IsRefusedAs RefusesOpening r given → ((s : Standing) → TellsAs X N a.told s → Stood a.faults m.faults → Opens X N m.told s r)
      → ((p : Profile) (es : Entries) → NamesOver X N a.told p es → Stood a.faults m.faults → OpensOver X N a.told p es r)
      → ReadsHead a.told r → IfOk r IsMfs → ShownOpening X (IsBadInHead X N a.told) r a m → m.told ≡ a.told → t1 ≤ t0 + 1 → CountsUp (tree_fault r) t0 t1 → OpensTree X N given a m t0 t1
  opens-tree (Ok tree) given a m t0 t1 is opens lost head mfs calm told few up = subst (λ given. OpensTree X N given a m t0 t1) (sym is) (record {
    opens = λ s stands stood. same-standing m.told s tree (opens s stands stood);
    lost = lost;
    head = head;
    mfs = mfs;
    refused = tt;
    reads = record { cause = calm; told = told };
    touches = few;
    touched = up;
  })
  opens-tree (Err f) (Ok tree) a m t0 t1 is opens lost head mfs cause told few up = absurd is
  opens-tree (Err f) (Err why) a m t0 t1 is opens lost head mfs cause told few up = record {
    opens = λ s stands stood. refused-standing m.told s f why is (opens s stands stood);
    lost = λ p es names stood. refused-named a.told p es f why is (lost p es names stood);
    head = tt;
    mfs = tt;
    refused = unopened-by a.told f why is head;
    reads = record { cause = Shown-opening Mfs X (IsBadInHead X N a.told) (IsBadInHead X N a.told) (λ role bytes bad. bad) f why a m is cause; told = told };
    touches = few;
    touched = opening-touched Mfs f why t0 t1 is up;
  }

  -- ---- at a path

  module _ (ask : Ask) (path : Path) (a m : Seen) (left : streams.Told) (reads : ℕ) (h : streams.Told) (w t0 t1 : ℕ) (side : HostSide) (er er2 : SinkSide) where
    -- the tree isn't opened
    pub at-refused : (why : Refusal) → OpensTree X N (Err why) a m t0 t1 → Makes X N (At ask path) (Err why) (around a left reads h w t0 side er) (around m left reads h w t1 side er2)
    at-refused why o =
        let told = o.reads.told in
        record {
          answers = λ world stands input calm. not-opened X N world.standing (tree_reply X N ask path.names) why m.told (o.opens world.standing stands calm.faults) (stands-same X N a.told m.told world.standing told stands);
          lost = λ p es heights held bytes named input calm.
              opening-over X N a.told m.told p es (ask_needs X N ask path.names p es) (tree_reply X N ask path.names p es) why (o.lost p es named.names calm.faults) (names-same X N a.told m.told p es told named);
          kinds = unopened-kinds a.told why o.refused;
          ready = by-unopened (IsReadyBy a.told (At ask path)) a.told why (λ reason head. head) (λ f. tt) o.refused;
          adds = tt;
          kept = λ p es named can. no-other-same X (asked_blocks X N ask path.names p es) a.told m.told told;
          reads = tree-counts (Err why) reads (unopened-kinds a.told why o.refused);
          host = refl;
          rows = tt;
          cause = shown-by X (IsBadInHead X N a.told) (IsBadIn X N a.told m.told) (fault_behind why) a m (bad-of-none X N a.told m.told) o.reads.cause;
          touches = λ p es bytes rows named input heights calm. let one = o.touches in omega (arith, one);
          whole = λ s stands calm. unopened-whole X N s why m.told (o.opens s stands calm.faults);
          touched = o.touched.risen;
          unready = λ e is. record { told = told; left = refl; reads = refl };
          unplaced = λ p es names stood none. absurd none;
          leaves = record { head = ap head_in told; writes = ask-same X ask a.told m.told told; idle = λ p es bytes stands calm same. told };
        }

    -- the tree is opened, and what is asked of it is done
    pub at-opened : (mfs : Mfs) → OpensTree X N (Ok mfs) a m t0 t1 → (r : Result (List ℕ) Refusal) (b : Seen) (t2 : ℕ) → WorksAt X N mfs ask path r m b t1 t2 → Makes X N (At ask path) r (around a left reads h w t0 side er) (around b left reads h w t2 side er2)
    at-opened mfs o r b t2 works =
        let told = o.reads.told in let calm : StaysCalm a m = o.reads.cause in let one = o.touches in
        let rises = shown-rises X (IsBadAsked X N mfs.profile b.told mfs.root.cid) (refusal_fault r) m b works.cause in
        let kinds = opened-of r works.kinds in
        record {
          answers = λ world stands input calm2. let s = world.standing in
              opened X N s (tree_reply X N ask path.names) mfs m.told b.told r
              (o.opens s stands (stood-front a.faults m.faults b.faults calm.faults rises.faults calm2.faults)) (stands-same X N a.told m.told s told stands)
              (λ p es at now. works.answers p es at now (record { faults = stood-back a.faults m.faults b.faults calm.faults calm2.faults; clashes = stood-back a.clashes m.clashes b.clashes calm.clashes calm2.clashes }));
          lost = λ p es heights held bytes named input calm2.
              let at = o.lost p es named.names (stood-front a.faults m.faults b.faults calm.faults rises.faults calm2.faults) in
              over-more X N a.told b.told p es (ask_needs X N ask path.names p es) (root_of X N p (Dir es)) (tree_reply X N ask path.names p es) r
              (subst (λ t. AnswersOver X N t b.told p es (ask_needs X N ask path.names p es) (tree_reply X N ask path.names p es) r) told
              (works.lost p es (subst (λ t. StandsOver X N t mfs p es) (sym told) at) (named-from X N a.told m.told b.told p es told named)
              (record { faults = stood-back a.faults m.faults b.faults calm.faults calm2.faults; clashes = stood-back a.clashes m.clashes b.clashes calm.clashes calm2.clashes })));
          kinds = kinds;
          ready = opened-ready a.told (At ask path) r works.kinds;
          adds = tt;
          kept = λ p es named can.
              let at = o.lost p es named.names (still-stood a.faults m.faults can.faults calm.faults) in
              subst (λ t. SavesNoOther X (asked_blocks X N ask path.names p es) t b.told) told
              (works.kept p es (subst (λ t. StandsOver X N t mfs p es) (sym told) at) (named-from X N a.told m.told b.told p es told named) (can-rise-later a m calm can));
          reads = tree-counts r reads kinds;
          host = refl;
          rows = works.text;
          cause = shown-after X (IsBadIn X N a.told b.told) (refusal_fault r) a m b calm
              (shown-by X (IsBadAsked X N mfs.profile b.told mfs.root.cid) (IsBadIn X N a.told b.told) (refusal_fault r) m b (bad-of-head X N a.told b.told mfs o.head) works.cause);
          touches = λ p es bytes rows named input heights calm2.
              let at = o.lost p es named.names (stood-front a.faults m.faults b.faults calm.faults rises.faults calm2.faults) in
              let more = works.touches p es rows (subst (λ t. StandsOver X N t mfs p es) (sym told) at) (named-from X N a.told m.told b.told p es told named) heights
              (record { faults = stood-back a.faults m.faults b.faults calm.faults calm2.faults; clashes = stood-back a.clashes m.clashes b.clashes calm.clashes calm2.clashes }) in
              omega (arith, one, more);
          whole = λ s stands calm2. at-whole X N s ask path.names r b.told
              (opened X N s (tree_reply X N ask path.names) mfs m.told b.told r
              (o.opens s stands (stood-front a.faults m.faults b.faults calm.faults rises.faults calm2.faults)) (stands-same X N a.told m.told s told stands)
              (λ p es at now. works.answers p es at now (record { faults = stood-back a.faults m.faults b.faults calm.faults calm2.faults; clashes = stood-back a.clashes m.clashes b.clashes calm.clashes calm2.clashes })));
          touched = (counts-then o.touched works.touched).risen;
          unready = λ e is. absurd (not-unready opened_kinds r refl refl works.kinds is);
          unplaced = λ p es names stood none. absurd none;
          leaves = record {
            head = subst (λ t. HeadStays r false t b.told) told works.head;
            writes = tree-wrote X mfs.profile (ask_writes ask) (is_ok r) a.told b.told (profile-said a.told mfs o.head)
                (subst (λ t. WritesInTree X mfs.profile (ask_writes ask) (is_ok r) t b.told) told works.writes);
            idle = λ p es bytes names given same.
                let at = o.lost p es names (stood-front a.faults m.faults b.faults calm.faults rises.faults given.1) in
                works.idle p es (subst (λ t. StandsOver X N t mfs p es) (sym told) at) (subst (λ t. NamesOver X N t p es) (sym told) names)
                (stood-back a.faults m.faults b.faults calm.faults given.1) same ∙ told;
          };
        }

  -- ---- `init`

  module _ (p : Profile) (a b : Seen) (good : KeepsGood X a.told b.told) (left : streams.Told) (reads : ℕ) (h : streams.Told) (w t0 t1 : ℕ) (side : HostSide) (er er2 : SinkSide) where
    -- the store isn't made ready
    pub init-refused : (r : Result Mfs MfsFault) (why : Refusal) → IsRefusedAs RefusesOpening r (Err why)
        → IfSome a.told (λ t. Stood a.faults b.faults → Stood a.clashes b.clashes → Inits X N b.told p t.notes.head r)
        → FindsHead a.told r → OnErr r (SavesThen X LeavesHead a.told b.told) → SavesEmpty X N p a.told b.told r → IfErr r IsOfMaking → ((why : Ready) → r ≡ Err (mfs.Ready why) → b.told ≡ a.told) → CountsUp (tree_fault r) t0 t1 → ShownOpening X NoneIsBad r a b → Makes X N (Init p) (Err why) (around a left reads h w t0 side er) (around b left reads h w t1 side er2)
    init-refused (Ok mfs) why is answer finds leaves saves making alone up cause = absurd cc
    init-refused (Err f) why is answer finds leaves saves making alone up cause =
        let shown = Shown-opening Mfs X NoneIsBad NoneIsBad (λ role bytes bad. bad) f why a b is cause in
        let kinds = init-kinds f why is making in
        let head = leaves-head leaves.between b.told leaves.last ∙ saves-head X a.told leaves.between leaves.saves in
        record {
          answers = λ world stands input calm. let s = world.standing in let bytes = world.input in
              inits-err X N (Stood a.faults b.faults) (Stood a.clashes b.clashes) s p a.told f why b.told is calm.faults calm.clashes stands answer
              (stands-kept X N a.told b.told s good head stands);
          lost = λ q es heights held bytes named input calm.
              inits-over X N (Stood a.faults b.faults) (Stood a.clashes b.clashes) a.told b.told p q es f why is calm.faults calm.clashes named.names answer
              (names-kept X N a.told b.told q es good head named);
          kinds = kinds;
          ready = init-ready a.told p f why is finds;
          adds = tt;
          kept = no-other-then X (blocks X N p (Dir (Nothing none))) LeavesHead a.told b.told (λ m. no-other-leaves X (blocks X N p (Dir (Nothing none))) m b.told) saves;
          reads = init-counts (Err why) reads kinds;
          host = refl;
          rows = tt;
          cause = shown-by X NoneIsBad (IsBadIn X N a.told b.told) (fault_behind why) a b (λ role bytes bad. absurd bad) shown;
          touches = λ q es bytes rows named input heights calm. tt;
          whole = λ s stands calm. init-looks (Err why) kinds;
          touched = (opening-touched Mfs f why t0 t1 is up).risen;
          unready = λ e given. record { told = init-alone (b.told ≡ a.told) f why is alone given; left = refl; reads = refl };
          unplaced = λ p es names stood none. absurd none;
          leaves = record { head = head; writes = leaves; idle = λ q es bytes stands calm same. absurd cc };
        }

    -- the store is made ready
    pub is-ready : (r : Result Mfs MfsFault) (made : Mfs) (text : List ℕ) → IsRefusedAs RefusesOpening r (Ok made) → text ≡ []
        → IfSome a.told (λ t. Stood a.faults b.faults → Stood a.clashes b.clashes → Inits X N b.told p t.notes.head r) → FindsHead a.told r
        → IfOk r (λ mfs. SavesThen X (Commits mfs.profile mfs.root.cid) a.told b.told) → SavesEmpty X N p a.told b.told r → ShownOpening X NoneIsBad r a b → Makes X N (Init p) (Ok text) (around a left reads h w t0 side er) (around b left reads h w t1 side er2)
    is-ready (Err f) made text is nothing answer finds writes saves calm = absurd is
    is-ready (Ok mfs) made text is nothing answer finds writes saves calm = record {
      answers = λ world stands input calm2. let s = world.standing in let bytes = world.input in inits-ok X N (Stood a.faults b.faults) (Stood a.clashes b.clashes) s p a.told mfs text b.told calm2.faults calm2.clashes nothing stands answer;
      lost = λ q es heights held bytes named input calm2. absurd (not-inited X N (Stood a.faults b.faults) (Stood a.clashes b.clashes) a.told b.told p q es mfs calm2.faults calm2.clashes named.names answer);
      kinds = tt;
      ready = tt;
      adds = tt;
      kept = no-other-then X (blocks X N p (Dir (Nothing none))) (Commits mfs.profile mfs.root.cid) a.told b.told
          (λ m. no-other-commits X (blocks X N p (Dir (Nothing none))) mfs.profile mfs.root.cid m b.told) saves;
      reads = counts-still reads;
      host = refl;
      rows = nothing;
      cause = calm;
      touches = λ q es bytes rows named input heights calm2. tt;
      whole = λ s stands calm2. init-looks (Ok text) tt;
      touched = λ blames. absurd blames;
      unready = λ e is. absurd cc;
      unplaced = λ p es names stood none. absurd none;
      leaves = record { head = stays-nothing text a.told b.told nothing; writes = (no-head-yet a.told finds, (mfs.profile, mfs.root.cid, writes)); idle = λ q es bytes stands calm same. absurd cc };
    }
