-- The steps of what is added to where a path of the tree leads: the spot, what is read, and what is put.
use Rattle.std.proofs.Common.{◌≡◌, ◌⊎◌, ℕ, ◌+◌, ◌*◌, ◌≤◌, ◌<◌, List, [], ◌++◌, length, arith, Bool, true, false, cond, nat_lt, refl, sym, ap, subst, ◌∙◌, inl, inr, Option, Some, None, Result, Ok, Err}
use Rattle.std.specs.Prelude.{if◌then◌else◌, IfErr, IsTrue, OnErr, OnOk}
use Rattle.std.specs.List.{flat_map}
use Rattle.std.proofs.lemmas.Bool.{le-leb, lt-leb}
use Rattle.std.proofs.lemmas.Bool.Decides.{nat_tests}
use Rattle.uf_cid.specs.Bytes.{IsBytes}
use Rattle.uf_edge.specs.Counts.{Stood}
use Rattle.uf_edge.specs.Streams as streams
use Rattle.uf_host.specs.Adding.{AddsFromHost, HasHeldPlan, IsSaid}
use Rattle.uf_host.specs.HostTree.{row_with, rows_in, rows_of, tree_on_host}
use Rattle.uf_host.specs.Paths.{first_row, trimmed}
use Rattle.uf_host.specs.declared.fault.HostFault.{HostFault}
use Rattle.uf_host.specs.declared.import.AddedRow.{AddedRow}
use Rattle.uf_host.proofs.Bytes.{bytes-all}
use Rattle.uf_adopt.specs.Adopting.{IsBuilt}
use Rattle.uf_edge.specs.Host.{HostTold}
use Rattle.uf_mfs.specs.Answers.{ShownInTree}
use Rattle.uf_mfs.specs.Bad.{IsBadInHead, IsBadInTree}
use Rattle.uf_cid.specs.Blocks.{Held}
use Rattle.uf_mfs.specs.Missing.{PutMisses, SpotMisses, put_names, put_needs, spot_needs}
use Rattle.uf_mfs.specs.Moving.{GivesOr, GivesOver, put_crossings}
use Rattle.uf_mfs.specs.Standing.{Commits, IsPlanOf, IsWanting, LeavesHead, NamesOver, Same, StandsAfter, StandsOver, TellsAs}
use Rattle.uf_mfs.specs.Steps.{IsFolderOver, MovesTree, tree_fault}
use Rattle.uf_mfs.specs.Touches.{CountsUp, TouchesPut}
use Rattle.uf_mfs.specs.declared.fault.MfsFault.{MfsFault}
use Rattle.uf_mfs.specs.declared.fault.MfsFault.TheVariants as mfs
use Rattle.uf_mfs.specs.declared.mfs.Mfs.{Mfs}
use Rattle.uf_mfs.proofs.Holding.{loss-front, tells-agrees}
use Rattle.uf_mfs.proofs.Starting.{leaves-head, saves-head}
use Rattle.uf_path.specs.declared.path.Path.{Path}
use Rattle.uf_plain.specs.Moves.{allowed_move, placed_at, put_at_spot, spot_names, spotted}
use Rattle.uf_plain.specs.Needs.{root_of}
use Rattle.uf_plain.specs.Rules.{allowed}
use Rattle.uf_plain.specs.declared.rule.Rule.TheVariants.{FileTooLong}
use Rattle.uf_plain.specs.declared.spot.Spot.{Spot}
use Rattle.uf_store.specs.Calls.{OnlySaves}
use Rattle.uf_store.specs.Contents.{Told}
use Rattle.uf_store.specs.Faults.{NoneIsBad, Shown, StaysCalm}
use Rattle.uf_store.specs.Keeping.{Agrees, Holds, KeepsGood}
use Rattle.uf_store.specs.Lost.{IsLossOf}
use Rattle.uf_store.specs.Seen.{Seen}
use Rattle.uf_store.specs.declared.store.StoreFault.{StoreFault}
use Rattle.uf_store.specs.declared.store.StoreFault.TheVariants as fault
use Rattle.uf_store.specs.Writing.{SavesOnly}
use Rattle.uf_store.proofs.Calls.{shown-after, shown-rises, stood-back, stood-front}
use Rattle.uf_store.proofs.Causes.{StaysCalm-trans, calm-memory, calm-rises}
use Rattle.uf_store.proofs.Keeping.{Holds-kept, KeepsGood-trans}
use Rattle.uf_tree.specs.FilePlan.{file_plan}
use Rattle.uf_tree.specs.Metas.{none}
use Rattle.uf_tree.specs.Names.{is_name}
use Rattle.uf_tree.specs.Profiles.{is_profile, most_bytes}
use Rattle.uf_tree.specs.Standing.{Standing, NoHead, BadHead, Stands}
use Rattle.uf_tree.specs.Tree.{Tree, File, Dir, Entries, fold, is_tree}
use Rattle.uf_tree.specs.TreePlan.{blocks, entry, planned}
use Rattle.uf_tree.specs.TreePlan as plan
use Rattle.uf_tree.specs.declared.nodes.Entry.{Entry}
use Rattle.uf_tree.specs.declared.profile.Profile.{Profile}
use Rattle.uf_varint.specs.Fields.{◌>>=◌}
use Rattle.uf_command.specs.Lines.{added_line}
use Rattle.uf_command.specs.Kinds.{OfHost, OfReady, fault_behind, may_meet, refusal_kind}
use Rattle.uf_command.specs.Statuses.{no_memory}
use Rattle.uf_command.specs.declared.types.HostRule.TheVariants as rules
use Rattle.uf_command.specs.declared.types.Refusal.{Refusal}
use Rattle.uf_command.specs.declared.types.Refusal.TheVariants as refusal
use Rattle.uf_top.specs.Causes.{RefusesInTree, is_read}
use Rattle.uf_top.specs.Grafts.{FollowsOr, IsLostBy, IsOkFor}
use Rattle.uf_top.specs.HostTexts.{host_row, host_text}
use Rattle.uf_top.specs.Hosted.{IsHostRefused}
use Rattle.uf_build.specs.Intake.{IsWholeFile, PassesMost}
use Rattle.uf_top.specs.Losing.{placing_needs, row_name}
use Rattle.uf_top.specs.Naming.{NamesAfter}
use Rattle.uf_top.specs.Opening.{OpensNamed, OpensStanding, OpensTree}
use Rattle.uf_top.specs.Placing.{EndsWith, FindsSpot, GivesFor, GivesRows, HasLast, IsFoundAt, IsGiven, IsReadyIn, IsUngiven, OpensFound, PutTouches, PutsFrom, PutsGiven, SaysHost, SaysInput, kinds_placing}
use Rattle.uf_top.specs.Around.{CountsCanRise}
use Rattle.uf_top.specs.Saving.{SavesNoOther}
use Rattle.uf_mfs.specs.Saving.{SavesForPut, next_blocks}
use Rattle.uf_top.proofs.Standings.{tree-good}
use Rattle.uf_top.specs.Reply.{added_name, added_spot, by_rule, good_name, host_tree, input_row, input_tree}
use Rattle.uf_top.specs.declared.given.OpenSpot.{OpenSpot}
use Rattle.uf_top.specs.declared.given.Given.{Given}
use Rattle.uf_top.proofs.Added.{given_few, left_are}
use Rattle.uf_top.proofs.Classed.{tree-kinds}
use Rattle.uf_top.proofs.InTree.{tree-wants}
use Rattle.uf_top.proofs.Losing.{became, commits-agrees, leaves-agrees}
use Rattle.uf_top.proofs.Placed.{IsOfTree, tree-rule, tree-store}
use Rattle.uf_top.proofs.Putting.{added-names, gives-misses, gives-ok, gives-stop, needs_at_spot, ok-for, ok-value, put_gives, put_within, tells-of}
use Rattle.uf_top.proofs.Refusing.{IsRefusedAs, by-unopened}
use Rattle.uf_top.proofs.Saved.{agrees-both, no-other-among, no-other-commits, no-other-leaves, no-other-trans, throughout}
use Rattle.uf_top.proofs.Shows.{head_of, Shown-tree, tree-touched}

-- ---- faults

-- a call on an opened tree is refused by a rule, or by the store
fault-tree : (path : Option (List ℕ)) (f : MfsFault) (why : Refusal) → RefusesInTree f why → IsOfTree path why
fault-tree path (mfs.Rule rule) why is = subst (IsOfTree path) (sym is) (tree-rule path rule)
fault-tree path (mfs.Ready r) why is = absurd is
fault-tree path mfs.Sink why is = absurd is
fault-tree path (mfs.Store f) why is = subst (IsOfTree path) (sym is) (tree-store path f)

not-ready-in : (told : Told) (f : MfsFault) (why : Refusal) → RefusesInTree f why → IsReadyIn told why
not-ready-in told (mfs.Rule rule) why is = subst (IsReadyIn told) (sym is) tt
not-ready-in told (mfs.Ready r) why is = absurd is
not-ready-in told mfs.Sink why is = absurd is
not-ready-in told (mfs.Store f) why is = subst (IsReadyIn told) (sym is) tt

-- ---- the spot

module _ (X : List ℕ → List ℕ) (N : List ℕ → ℕ) (dest : Path) (path : Option (List ℕ)) (a m : Seen) (t0 t1 : ℕ) where
  ready-kind : (p : Option (List ℕ)) → may_meet (kinds_placing p) OfReady ≡ true
  ready-kind None = refl
  ready-kind (Some path) = refl

  -- the tree isn't opened
  pub unopened : (why : Refusal) → OpensTree X N (Err why) a m t0 t1 → FindsSpot X N dest path (Err why) a m t0 t1
  unopened why o = record {
    opens = λ s stands stood. by-standing s (o.opens s stands stood);
    lost = λ p es names stood. inl (by-loss p es (o.lost p es names stood));
    head = tt;
    mfs = tt;
    ready = by-unopened (IsReadyIn a.told) a.told why (λ reason head. head) (λ f. tt) o.refused;
    kinds = by-unopened (λ w. may_meet (kinds_placing path) (refusal_kind w) ≡ true) a.told why (λ reason head. ready-kind path) (λ f. (tree-store path f).kind) o.refused;
    unread = by-unopened (λ w. is_read {A = OpenSpot} (Err w) ≡ false) a.told why (λ reason head. refl) (λ f. (tree-store path f).unread) o.refused;
    reads = o.reads;
    touches = let one = o.touches in omega (arith, one);
    touched = o.touched;
  }
    where
      by-standing : (s : Standing) → OpensStanding X N m.told s (Err why) → OpensFound {A = OpenSpot} s (Err why)
      by-standing NoHead h = h
      by-standing BadHead h = h
      by-standing (Stands p es) h = tt

      by-loss : (p : Profile) (es : Entries) → OpensNamed X N a.told p es (Err why) → IsLostBy a.told (placing_needs X N dest (row_name path) p es) why
      by-loss p es h = subst (IsLostBy a.told (placing_needs X N dest (row_name path) p es)) (sym h.2) (loss-front a.told (root_of X N p (Dir es)) (put_needs X N p (put_names dest (row_name path)) (Dir es)) h.0 h.1)

  module _ (tree : Mfs) (o : OpensTree X N (Ok tree) a m t0 t1) where
    still : m.told ≡ a.told
    still = o.reads.told

    calm : StaysCalm a m
    calm = o.reads.cause

    low : t0 ≤ t1
    low = o.touched.kept

    few : t1 ≤ t0 + 1
    few = o.touches

    stands-open : {B : Type 0} (r : Result B Refusal) (s : Standing) → TellsAs X N a.told s → Stood a.faults m.faults → OpensFound s r
    stands-open r NoHead stands stood = absurd (o.opens NoHead stands stood)
    stands-open r BadHead stands stood = absurd (o.opens BadHead stands stood)
    stands-open r (Stands p es) stands stood = tt

    -- the name isn't good
    record IsOfName (why : Refusal) : Type 0 where
      tree_or : may_meet (kinds_placing path) (refusal_kind why) ≡ true
      ready : IsReadyIn a.told why
      unread : is_read {A = OpenSpot} (Err why) ≡ false
      shown : Shown X (IsBadInHead X N a.told) (fault_behind why) a m
      up : CountsUp (fault_behind why) t0 t1

    memory-name : IsOfName no_memory
    memory-name = record { tree_or = (tree-store path fault.Memory).kind; ready = tt; unread = refl; shown = calm-memory a m calm; up = record { kept = low; risen = λ blames. absurd blames } }

    name-refused : (q : Option (List ℕ)) (why : Refusal) → path ≡ q → added_name dest q ≡ Err why → IsOfName why
    name-refused None why e is = absurd cc
    name-refused (Some given) why e is = by dest.into is
      where
        host : IsOfName (refusal.Host (rules.Name given))
        host = record { tree_or = subst (λ p. may_meet (kinds_placing p) OfHost ≡ true) (sym e) refl; ready = tt; unread = refl; shown = calm; up = record { kept = low; risen = λ blames. absurd blames } }

        good : (b : Bool) → (if b then Ok (Some (first_row (trimmed given))) else Err (refusal.Host (rules.Name given))) ≡ Err why → IsOfName why
        good true is = absurd cc
        good false is = (let same : why ≡ refusal.Host (rules.Name given) = cc in subst IsOfName (sym same) host)

        by : (into : Bool) → (if into then good_name given (first_row (trimmed given)) else Ok None) ≡ Err why → IsOfName why
        by true is = good (is_name (first_row (trimmed given))) is
        by false is = absurd cc

    pub unnamed : (why : Refusal) → (why ≡ no_memory) ⊎ (added_name dest path ≡ Err why) → FindsSpot X N dest path (Err why) a m t0 t1
    unnamed why h = record {
      opens = λ s stands stood. stands-open (Err why) s stands stood;
      lost = λ p es names stood. follow p es h;
      head = tt;
      mfs = tt;
      ready = of.ready;
      kinds = of.tree_or;
      unread = of.unread;
      reads = record { cause = of.shown; told = still };
      touches = omega (arith, few);
      touched = of.up;
    }
      where
        of : IsOfName why
        of = by h
          where
            by : (why ≡ no_memory) ⊎ (added_name dest path ≡ Err why) → IsOfName why
            by (inl e) = subst IsOfName (sym e) memory-name
            by (inr is) = name-refused path why refl is

        follow : (p : Profile) (es : Entries) → (why ≡ no_memory) ⊎ (added_name dest path ≡ Err why) → IsLostBy a.told (placing_needs X N dest (row_name path) p es) why ⊎ (added_spot dest path es ≡ Err why)
        follow p es (inl e) = inl (subst (IsLostBy a.told (placing_needs X N dest (row_name path) p es)) (sym e) tt)
        follow p es (inr is) = inr (ap (λ (n : Result (Option (List ℕ)) Refusal). n >>= λ name. by_rule (spotted dest name es)) is)

    -- the name is found, and the spot looked for
    module _ (name : Option (List ℕ)) (named : IsOkFor (λ (n : Option (List ℕ)). name ≡ n) (added_name dest path)) (b : Seen) (t2 : ℕ) where
      spot-by : (es : Entries) → by_rule (spotted dest name es) ≡ added_spot dest path es
      spot-by es =
          let v = ok-value (λ (n : Option (List ℕ)). name ≡ n) (added_name dest path) named in
          sym (ap (λ (n : Result (Option (List ℕ)) Refusal). n >>= λ name. by_rule (spotted dest name es)) (v.1 ∙ ap (λ (n : Option (List ℕ)). Ok n) (sym v.2)))

      put-at : put_names dest name ≡ put_names dest (row_name path)
      put-at =
          let v = ok-value (λ (n : Option (List ℕ)). name ≡ n) (added_name dest path) named in
          added-names dest path name (v.1 ∙ ap (λ (n : Option (List ℕ)). Ok n) (sym v.2))

      over-open : (p : Profile) (es : Entries) → NamesOver X N a.told p es → Stood a.faults m.faults → StandsOver X N m.told tree p es
      over-open p es names stood = subst (λ t. StandsOver X N t tree p es) (sym still) (o.lost p es names stood)

      front : m.faults ≤ b.faults → Stood a.faults b.faults → Stood a.faults m.faults
      front later stood = stood-front a.faults m.faults b.faults calm.faults later stood

      pub unspotted : (r : Result Spot MfsFault) (why : Refusal) → IsRefusedAs RefusesInTree r (Err why) → ShownInTree X (IsBadInTree X N None tree.root.cid) r m b → b.told ≡ m.told → t2 ≤ t1 + 11 * (length dest.names + 1) → CountsUp (tree_fault r) t1 t2
          → SpotMisses X N m b tree (put_names dest name) (tree_fault r)
          → ((p : Profile) (es : Entries) → StandsOver X N m.told tree p es → Stood m.faults b.faults → GivesOver X N m.told p es (λ (spot given : Spot). given ≡ spot) (spotted dest name es) r)
          → FindsSpot X N dest path (Err why) a b t0 t2
      unspotted (Ok spot) why is cause again more_few up misses finds = absurd cc
      unspotted (Err f) why is cause again more_few up misses finds =
          let shown = Shown-tree Spot X (IsBadInTree X N None tree.root.cid) (IsBadInHead X N a.told) (λ role bytes bad. record { head = head_of tree; is_told = o.head; bad = bad }) f why m b is cause in
          let both = shown-after X (IsBadInHead X N a.told) (fault_behind why) a m b calm shown in
          let later = (shown-rises X (IsBadInHead X N a.told) (fault_behind why) m b shown).faults in
          let more = tree-touched Spot f why t1 t2 is up in
          record {
            opens = λ s stands stood. stands-open (Err why) s stands (front later stood);
            lost = λ p es names stood.
                let over = over-open p es names (front later stood) in
                let on = stood-back a.faults m.faults b.faults calm.faults stood in
                let needs = spot_needs X N p (put_names dest name) (Dir es) in
                follow p es (gives-stop m.told needs (λ (spot given : Spot). given ≡ spot) (spotted dest name es) f why is
                (gives-misses m.told needs (blocks X N p (Dir es)) (λ (spot given : Spot). given ≡ spot) (spotted dest name es) (Err f) (misses p es over on) (finds p es over on)));
            head = tt;
            mfs = tt;
            ready = not-ready-in a.told f why is;
            kinds = (fault-tree path f why is).kind;
            unread = (fault-tree path f why is).unread;
            reads = record { cause = both; told = again ∙ still };
            touches = omega (arith, few, more_few);
            touched = record { kept = (let k = more.kept in omega (arith, low, k)); risen = λ blames. let k = more.risen blames in omega (arith, low, k) };
          }
        where
          follow : (p : Profile) (es : Entries) → IsLostBy m.told (spot_needs X N p (put_names dest name) (Dir es)) why ⊎ (by_rule (spotted dest name es) ≡ Err why)
              → IsLostBy a.told (placing_needs X N dest (row_name path) p es) why ⊎ (added_spot dest path es ≡ Err why)
          follow p es (inl lost) = inl (subst (λ ns. IsLostBy a.told (spot_needs X N p ns (Dir es)) why) put-at (subst (λ t. IsLostBy t (spot_needs X N p (put_names dest name) (Dir es)) why) still lost))
          follow p es (inr is) = inr (sym (spot-by es) ∙ is)

      pub found-spot : (r : Result Spot MfsFault) (spot : Spot) → IsRefusedAs RefusesInTree r (Ok spot) → ShownInTree X (IsBadInTree X N None tree.root.cid) r m b → b.told ≡ m.told → t2 ≤ t1 + 11 * (length dest.names + 1) → CountsUp (tree_fault r) t1 t2
          → ((p : Profile) (es : Entries) → StandsOver X N m.told tree p es → Stood m.faults b.faults → GivesOver X N m.told p es (λ (spot given : Spot). given ≡ spot) (spotted dest name es) r)
          → FindsSpot X N dest path (Ok (record { tree = tree; spot = spot })) a b t0 t2
      found-spot (Err f) spot is later again more_few up finds = absurd is
      found-spot (Ok spot) given is later again more_few up finds = let same : given ≡ spot = cc in subst (λ (s : Spot). FindsSpot X N dest path (Ok (record { tree = tree; spot = s })) a b t0 t2) (sym same) (record {
        opens = λ s stands stood. stands-open (Ok (record { tree = tree; spot = spot })) s stands (front (calm-rises m b later).faults stood);
        lost = λ p es names stood.
            let over = over-open p es names (front (calm-rises m b later).faults stood) in
            let v = ok-value (λ (s : Spot). spot ≡ s) (by_rule (spotted dest name es)) (gives-ok (IsLossOf m.told (blocks X N p (Dir es))) (λ (spot given : Spot). given ≡ spot) (spotted dest name es) spot (finds p es over (stood-back a.faults m.faults b.faults calm.faults stood))) in
            ok-for (λ s. IsFoundAt X N a.told p es s (record { tree = tree; spot = spot })) (added_spot dest path es) v.0 (sym (spot-by es) ∙ v.1) (record { spot_is = v.2; stands = subst (λ t. StandsOver X N t tree p es) still over });
        head = o.head;
        mfs = o.mfs;
        ready = tt;
        kinds = tt;
        unread = refl;
        reads = record { cause = StaysCalm-trans a m b calm later; told = again ∙ still };
        touches = omega (arith, few, more_few);
        touched = record { kept = (let k = up.kept in omega (arith, low, k)); risen = λ blames. absurd blames };
      })

-- ---- what is put

module _ (X : List ℕ → List ℕ) (N : List ℕ → ℕ) (tree new : Mfs) (spot : Spot) (given : Given) (b c : Seen) (mfs : IsTrue (is_profile tree.profile)) (t0 t1 : ℕ) where
  abbrev at_spot : OpenSpot
  at_spot = record { tree = tree; spot = spot }

  -- said of the profile of the tree
  puts-by : (done : Result (List ℕ) Refusal) (start d : Seen)
      → ((t : Tree) (es : Entries) → OnlySaves X NoneIsBad None start b → HasHeldPlan X N tree.profile b.told t → given.entry ≡ entry X N tree.profile t → IsFolderOver X N tree.profile start d [] tree.root es
      → FollowsOr (IsLostBy start.told (needs_at_spot X N spot tree.profile es)) (λ next text. NamesAfter X N start.told d.told (blocks X N tree.profile (Dir es)) tree.profile next) (by_rule (allowed_move X N tree.profile (placed_at spot t es))) done)
      → PutsFrom X N at_spot given done start b d
  puts-by done start d h = λ t p es saves same.
      subst (λ p. HasHeldPlan X N p b.told t → given.entry ≡ entry X N p t → IsFolderOver X N p start d [] tree.root es
      → FollowsOr (IsLostBy start.told (needs_at_spot X N spot p es)) (λ next text. NamesAfter X N start.told d.told (blocks X N p (Dir es)) p next) (by_rule (allowed_move X N p (placed_at spot t es))) done) same
      (λ plan is over. h t es saves plan is over)

  -- and so of the touches
  touches-by : (start d : Seen) (t2 : ℕ)
      → ((t : Tree) (es : Entries) → OnlySaves X NoneIsBad None start b → HasHeldPlan X N tree.profile b.told t → given.entry ≡ entry X N tree.profile t → IsFolderOver X N tree.profile start d [] tree.root es
      → t2 ≤ t0 + (40 * length (spot_names spot) + put_crossings X N tree.profile spot t es))
      → PutTouches X N at_spot given start b d t0 t2
  touches-by start d t2 h = λ t p es saves same.
      subst (λ p. HasHeldPlan X N p b.told t → given.entry ≡ entry X N p t → IsFolderOver X N p start d [] tree.root es → t2 ≤ t0 + (40 * length (spot_names spot) + put_crossings X N p spot t es)) same
      (λ plan is over. h t es saves plan is over)

  -- the touches of the put
  abbrev pub put_most : Tree → Entries → ℕ
  put_most t es = 40 * length (spot_names spot) + put_crossings X N tree.profile spot t es

  built : (t : Tree) → HasHeldPlan X N tree.profile b.told t → given.entry ≡ entry X N tree.profile t → IsBuilt X N tree.profile b.told t given.entry
  built t plan is = record { tree = plan.tree; planned = plan.whole; is = is; held = plan.held }

  plan-of : (t : Tree) → HasHeldPlan X N tree.profile b.told t → given.entry ≡ entry X N tree.profile t → IsPlanOf X N tree.profile given.entry t
  plan-of t plan is = record { profile = mfs; tree = plan.tree; planned = plan.whole; is = is }

  module _ (r : Result (Unit {0}) MfsFault) (moves : (t : Tree) → IsPlanOf X N tree.profile given.entry t → MovesTree X N b c (blocks X N tree.profile t) tree new (spot_names spot) (λ p es. allowed X N p (put_at_spot spot t es)) r) (misses : PutMisses X N tree.profile b c tree.root (spot_names spot) (tree_fault r)) where
    gives : {fault : Option StoreFault} (t : Tree) (es : Entries) (start : Seen) → OnlySaves X NoneIsBad None start b → OnlySaves X (IsBadInTree X N (Some tree.profile) tree.root.cid) fault b c
        → HasHeldPlan X N tree.profile b.told t → given.entry ≡ entry X N tree.profile t → IsFolderOver X N tree.profile start c [] tree.root es
        → GivesOr (IsLossOf start.told (needs_at_spot X N spot tree.profile es)) (λ fs done. StandsAfter X N start.told c.told (blocks X N tree.profile (Dir es)) new tree.profile fs) (allowed_move X N tree.profile (placed_at spot t es)) r
    gives t es start first second plan is over =
        put_gives X N tree new first second (λ f u h. record { profile = mfs; tree = h.tree; planned = h.planned; is = h.is }) spot t given.entry es r (built t plan is) (moves t (plan-of t plan is)) misses over

  -- how many touches the put took
  within : {fault : Option StoreFault} (t : Tree) (es : Entries) (start : Seen) → TouchesPut X N tree.profile b c given.entry tree.root put_most t0 t1 → OnlySaves X NoneIsBad None start b → OnlySaves X (IsBadInTree X N (Some tree.profile) tree.root.cid) fault b c
      → HasHeldPlan X N tree.profile b.told t → given.entry ≡ entry X N tree.profile t → IsFolderOver X N tree.profile start c [] tree.root es → t1 ≤ t0 + put_most t es
  within t es start touches first second plan is over =
      put_within X N tree new first second (λ f u h. record { profile = mfs; tree = h.tree; planned = h.planned; is = h.is }) t given.entry es put_most t0 t1 (built t plan is) touches over

  -- what the put saved, where a failure or a clash would show
  pub placed-saves : KeepsGood X b.told c.told → SavesForPut X N b c tree given.entry spot → (t : Tree) (p : Profile) (es : Entries) → tree.profile ≡ p → HasHeldPlan X N p b.told t → given.entry ≡ entry X N p t
      → StandsOver X N b.told tree p es → Agrees c.told (blocks X N p (Dir es)) → CountsCanRise b → SavesNoOther X (next_blocks X N p (put_at_spot spot t es)) b.told c.told
  placed-saves good saves t p es same plan is over last can =
      let held = Holds-kept X b.told c.told (blocks X N p t) (tree-good X N p t) good plan.held in
      let first = tells-agrees b.told (blocks X N p t) (tells-of b.told (blocks X N p (Dir es)) (blocks X N p t) over.root.agrees plan.held) in
      let later = tells-agrees c.told (blocks X N p t) (tells-of c.told (blocks X N p (Dir es)) (blocks X N p t) last held) in
      no-other-among X (next_blocks X N p (put_at_spot spot t es)) b.told c.told
      (saves p t es (record { profile = subst (λ (q : Profile). IsTrue (is_profile q)) same mfs; tree = plan.tree; planned = plan.whole; is = is }) over
      (throughout b c (blocks X N p t ++ blocks X N p (Dir es)) (agrees-both b.told (blocks X N p t) (blocks X N p (Dir es)) first over.root.agrees) (agrees-both c.told (blocks X N p t) (blocks X N p (Dir es)) later last) can))

  -- it isn't placed
  pub unplaced : (r : Result (Unit {0}) MfsFault) (why : Refusal) → IsRefusedAs RefusesInTree r (Err why) → ShownInTree X (IsBadInTree X N (Some tree.profile) tree.root.cid) r b c → KeepsGood X b.told c.told → SavesOnly X b.told c.told → SavesForPut X N b c tree given.entry spot → CountsUp (tree_fault r) t0 t1
      → TouchesPut X N tree.profile b c given.entry tree.root put_most t0 t1 → PutMisses X N tree.profile b c tree.root (spot_names spot) (tree_fault r)
      → ((t : Tree) → IsPlanOf X N tree.profile given.entry t → MovesTree X N b c (blocks X N tree.profile t) tree new (spot_names spot) (λ p es. allowed X N p (put_at_spot spot t es)) r)
      → PutsGiven X N at_spot given (Err why) b c t0 t1
  unplaced (Ok done) why is cause good saves no_other up touches misses moves = absurd cc
  unplaced (Err f) why is cause good saves no_other up touches misses moves =
      let shown = Shown-tree (Unit {0}) X (IsBadInTree X N (Some tree.profile) tree.root.cid) (IsBadInTree X N (Some tree.profile) tree.root.cid) (λ role bytes bad. bad) f why b c is cause in
      let second : OnlySaves X (IsBadInTree X N (Some tree.profile) tree.root.cid) (fault_behind why) b c = record { cause = shown; good = good; saves = saves } in
      record {
        puts = λ start. puts-by (Err why) start c (λ t es first plan is2 over.
            gives-stop {B = Unit {0}} start.told (needs_at_spot X N spot tree.profile es) (λ fs done. StandsAfter X N start.told c.told (blocks X N tree.profile (Dir es)) new tree.profile fs) (allowed_move X N tree.profile (placed_at spot t es)) f why is
            (gives (Err f) moves misses t es start first second plan is2 over));
        touches = λ start. touches-by start c t1 (λ t es first plan is2 over. within t es start touches first second plan is2 over);
        no_other = placed-saves good no_other;
        text = tt;
        kinds = tree-kinds f why is;
        cause = shown;
        good = good;
        touched = (tree-touched (Unit {0}) f why t0 t1 is up).risen;
        head = saves-head X b.told c.told saves;
        writes = record { between = c.told; saves = saves; last = Same refl };
      }

  module _ (r : Result (Unit {0}) MfsFault) (done : r ≡ Ok tt) (shows : ShownInTree X (IsBadInTree X N (Some tree.profile) tree.root.cid) r b c) (good : KeepsGood X b.told c.told) (saves : SavesOnly X b.told c.told) (no_other : SavesForPut X N b c tree given.entry spot)
      (places : (t : Tree) → IsPlanOf X N tree.profile given.entry t → MovesTree X N b c (blocks X N tree.profile t) tree new (spot_names spot) (λ p es. allowed X N p (put_at_spot spot t es)) r)
      (touches : TouchesPut X N tree.profile b c given.entry tree.root put_most t0 t1) (d : Seen) (kept : KeepsGood X c.told d.told) (t2 : ℕ) (no_more : t2 ≡ t1) (low : t0 ≤ t1) where
    quiet : StaysCalm b c
    quiet = subst (λ r. ShownInTree X (IsBadInTree X N (Some tree.profile) tree.root.cid) r b c) done shows

    moves : (t : Tree) → IsPlanOf X N tree.profile given.entry t → MovesTree X N b c (blocks X N tree.profile t) tree new (spot_names spot) (λ p es. allowed X N p (put_at_spot spot t es)) (Ok tt)
    moves t plan = subst (λ r. MovesTree X N b c (blocks X N tree.profile t) tree new (spot_names spot) (λ p es. allowed X N p (put_at_spot spot t es)) r) done (places t plan)

    placed_by : OnlySaves X (IsBadInTree X N (Some tree.profile) tree.root.cid) None b c
    placed_by = record { cause = quiet; good = good; saves = saves }

    -- the tree before the commit
    before-commit : (start : Seen) (es : Entries) → OnlySaves X NoneIsBad None start b → ((l : List Held) → Agrees d.told l → Agrees c.told l) → c.faults ≤ d.faults → c.clashes ≤ d.clashes → IsFolderOver X N tree.profile start d [] tree.root es
        → IsFolderOver X N tree.profile start c [] tree.root es
    before-commit start es first agrees faults clashes over = record {
      plan = over.plan;
      stays = record { first = over.stays.first; last = agrees (blocks X N tree.profile (Dir es)) over.stays.last };
      calm = record {
        faults = stood-front start.faults c.faults d.faults (quiet.faults ∙ first.cause.faults) faults over.calm.faults;
        clashes = stood-front start.clashes c.clashes d.clashes (quiet.clashes ∙ first.cause.clashes) clashes over.calm.clashes;
      };
    }

    within-commit : (start : Seen) → ((l : List Held) → Agrees d.told l → Agrees c.told l) → c.faults ≤ d.faults → c.clashes ≤ d.clashes → PutTouches X N at_spot given start b d t0 t2
    within-commit start agrees faults clashes = touches-by start d t2 (λ t es first plan is2 over.
        let most = within t es start touches first placed_by plan is2 (before-commit start es first agrees faults clashes over) in omega (arith, most, no_more))

    -- it isn't committed
    pub uncommitted : (r2 : Result (Unit {0}) MfsFault) (why : Refusal) → IsRefusedAs RefusesInTree r2 (Err why) → (Stood c.faults d.faults → IfErr r2 IsWanting) → OnErr r2 (LeavesHead c.told d.told) → ShownInTree X NoneIsBad r2 c d
        → CountsUp (tree_fault r2) t1 t2 → PutsGiven X N at_spot given (Err why) b d t0 t2
    uncommitted (Ok sent) why is wanting leaves cause up = absurd cc
    uncommitted (Err f) why is wanting leaves cause up =
        let shown = Shown-tree (Unit {0}) X NoneIsBad (IsBadInTree X N (Some tree.profile) tree.root.cid) (λ role bytes bad. absurd bad) f why c d is cause in
        record {
          puts = λ start. puts-by (Err why) start d (λ t es first plan is2 over.
              inl (subst (IsLostBy start.told (needs_at_spot X N spot tree.profile es)) (sym (tree-wants f why is (wanting (stood-back start.faults c.faults d.faults (quiet.faults ∙ first.cause.faults) over.calm.faults)))) tt));
          no_other = λ t p es same plan is2 over last can.
              no-other-trans X (next_blocks X N p (put_at_spot spot t es)) b.told c.told d.told
              (placed-saves good no_other t p es same plan is2 over (leaves-agrees c.told d.told (blocks X N p (Dir es)) leaves last) can)
              (no-other-leaves X (next_blocks X N p (put_at_spot spot t es)) c.told d.told leaves);
          touches = λ start. within-commit start (λ l h. leaves-agrees c.told d.told l leaves h) (shown-rises X (IsBadInTree X N (Some tree.profile) tree.root.cid) (fault_behind why) c d shown).faults (shown-rises X (IsBadInTree X N (Some tree.profile) tree.root.cid) (fault_behind why) c d shown).clashes;
          text = tt;
          kinds = tree-kinds f why is;
          cause = shown-after X (IsBadInTree X N (Some tree.profile) tree.root.cid) (fault_behind why) b c d quiet shown;
          good = KeepsGood-trans X b.told c.told d.told good kept;
          touched = λ blames. let more = (tree-touched (Unit {0}) f why t1 t2 is up).risen blames in omega (arith, low, more);
          head = leaves-head c.told d.told leaves ∙ saves-head X b.told c.told saves;
          writes = record { between = c.told; saves = saves; last = leaves };
        }

    -- it is committed
    pub committed : (r2 : Result (Unit {0}) MfsFault) → IsRefusedAs RefusesInTree r2 (Ok tt) → new.profile ≡ tree.profile → OnOk r2 (Commits new.profile new.root.cid c.told d.told) → ShownInTree X NoneIsBad r2 c d → PutsGiven X N at_spot given (Ok given.text) b d t0 t2
    committed (Err f) is same commits later = absurd is
    committed (Ok sent) is same commits later = record {
      puts = λ start. puts-by (Ok given.text) start d (λ t es first plan is2 over.
          let old = blocks X N tree.profile (Dir es) in
          let rises = calm-rises c d later in
          let up-to = before-commit start es first (λ l h. commits-agrees c.told d.told new.profile new.root.cid l commits h) rises.faults rises.clashes over in
          let v = ok-value (λ fs. StandsAfter X N start.told c.told old new tree.profile fs) (by_rule (allowed_move X N tree.profile (placed_at spot t es)))
          (gives-ok {B = Unit {0}} (IsLossOf start.told (needs_at_spot X N spot tree.profile es)) (λ fs done. StandsAfter X N start.told c.told old new tree.profile fs) (allowed_move X N tree.profile (placed_at spot t es)) tt (gives (Ok tt) moves (λ gs o. tt) t es start first placed_by plan is2 up-to)) in
          ok-for (λ next. NamesAfter X N start.told d.told old tree.profile next) (by_rule (allowed_move X N tree.profile (placed_at spot t es))) v.0 v.1
          (became X N start.told d.told tree.profile es [] c.told new v.0 commits v.2));
      no_other = λ t p es same2 plan is2 over last can.
          no-other-trans X (next_blocks X N p (put_at_spot spot t es)) b.told c.told d.told
          (placed-saves good no_other t p es same2 plan is2 over (commits-agrees c.told d.told new.profile new.root.cid (blocks X N p (Dir es)) commits last) can)
          (no-other-commits X (next_blocks X N p (put_at_spot spot t es)) new.profile new.root.cid c.told d.told commits);
      touches = λ start. within-commit start (λ l h. commits-agrees c.told d.told new.profile new.root.cid l commits h) (calm-rises c d later).faults (calm-rises c d later).clashes;
      text = refl;
      kinds = tt;
      cause = StaysCalm-trans b c d quiet later;
      good = KeepsGood-trans X b.told c.told d.told good kept;
      touched = λ blames. absurd blames;
      head = tt;
      writes = (new.root.cid, record { between = c.told; saves = saves; last = subst (λ p. Commits p new.root.cid c.told d.told) same commits });
    }

-- ---- what is read

-- the last row of a tree is its own
pub last-row : (X : List ℕ → List ℕ) (N : List ℕ → ℕ) (p : Profile) (path : List ℕ) (t : Tree) → EndsWith (rows_of X N p path t) (row_with X N p path t)
unfolding rows_of
last-row X N p path (File m bytes) = record { front = []; are = refl }
last-row X N p path (Dir es) = record { front = rows_in X N p path es; are = refl }

module _ (X : List ℕ → List ℕ) (N : List ℕ → ℕ) (p : Profile) where
  pub has-last : (told : Told) (host : HostTold) (recursive : Bool) (path : List ℕ) (rows : List AddedRow) → AddsFromHost X N p told host recursive path (Ok rows) → HasLast rows
  has-last told host recursive path rows h =
      let w = last-row X N p (first_row (trimmed path)) h.0 in
      (row_with X N p (first_row (trimmed path)) h.0, record { front = w.front; are = h.1.are ∙ w.are })

  said-tree : (host : HostTold) (recursive : Bool) (path : List ℕ) (r : Result Tree HostFault) → IsSaid host (λ tree. tree_on_host X N p tree recursive path) r → SaysHost X N p host recursive path (host_tree path r)
  said-tree None recursive path r h = tt
  said-tree (Some tree) recursive path r h = ap (host_tree path) h

  pub rows-given : (told : Told) (host : HostTold) (recursive : Bool) (path : List ℕ) (rows : List AddedRow) (given : Given) → AddsFromHost X N p told host recursive path (Ok rows)
      → ((row : AddedRow) → EndsWith rows row → given.entry ≡ row.entry) → given.text ≡ flat_map host_row rows → IsGiven X N p told (SaysHost X N p host recursive path) (host_text X N p path) given
  rows-given told host recursive path rows given h last text = record {
    tree = h.0;
    said = said-tree host recursive path (Ok h.0) h.2;
    plan = h.1.plan;
    entry_is = (let w = last-row X N p (first_row (trimmed path)) h.0 in last (row_with X N p (first_row (trimmed path)) h.0) (record { front = w.front; are = h.1.are ∙ w.are }));
    text_is = text ∙ ap (flat_map host_row) h.1.are;
  }

  pub rows-gives : (told : Told) (host : HostTold) (recursive : Bool) (path : List ℕ) (rows : List AddedRow) (r : Result Given Refusal) → AddsFromHost X N p told host recursive path (Ok rows) → GivesRows rows r
      → GivesFor X N p told (SaysHost X N p host recursive path) (host_text X N p path) r
  rows-gives told host recursive path rows (Ok given) h g = rows-given told host recursive path rows given h g.0 g.1
  rows-gives told host recursive path rows (Err why) h e = subst (IsUngiven (SaysHost X N p host recursive path)) (sym e) tt

  pub host-ungiven : (host : HostTold) (recursive : Bool) (path : List ℕ) (why : Refusal) → IsHostRefused path (λ fault. IsSaid host (λ tree. tree_on_host X N p tree recursive path) (Err fault)) why → IsUngiven (SaysHost X N p host recursive path) why
  host-ungiven host recursive path (refusal.Host rule) h = subst (λ w. SaysHost X N p host recursive path (Err w)) (sym h.1) (said-tree host recursive path (Err h.0) h.2)
  host-ungiven host recursive path (refusal.Rule rule) h = subst (λ w. SaysHost X N p host recursive path (Err w)) (sym h.1) (said-tree host recursive path (Err h.0) h.2)
  host-ungiven host recursive path (refusal.Dag rule) h = absurd h
  host-ungiven host recursive path (refusal.BadPath w) h = absurd h
  host-ungiven host recursive path (refusal.Car number place) h = absurd h
  host-ungiven host recursive path (refusal.CarLacks cid) h = absurd h
  host-ungiven host recursive path (refusal.OwnClash cid first second) h = absurd h
  host-ungiven host recursive path refusal.InputTooLong h = absurd h
  host-ungiven host recursive path refusal.BadPins h = absurd h
  host-ungiven host recursive path refusal.Usage h = absurd h
  host-ungiven host recursive path (refusal.Ready w) h = absurd h
  host-ungiven host recursive path refusal.Read h = tt
  host-ungiven host recursive path refusal.Write h = absurd h
  host-ungiven host recursive path (refusal.Store f) h = h

  is-file : (bytes : List ℕ) → IsBytes bytes → IsTrue (is_tree (File none bytes))
  unfolding is_tree
  is-file bytes h = bytes-all bytes h

  file-whole : (told : Told) (bytes : List ℕ) → IsBytes bytes → length bytes ≤ most_bytes p → Holds told (file_plan X p none bytes).blocks → HasHeldPlan X N p told (File none bytes)
  unfolding planned fold
  file-whole told bytes are few held = record {
    tree = is-file bytes are;
    whole = (let test : nat_lt (most_bytes p) (length bytes) ≡ false = grind (arith, nat_tests) in ap (λ (b : Bool). cond b (Some plan.FileTooLong) None) test);
    held = held;
  }

  file-entry : (bytes : List ℕ) → (file_plan X p none bytes).entry ≡ entry X N p (File none bytes)
  unfolding planned fold
  file-entry bytes = refl

  few-tree : (bytes : List ℕ) → length bytes ≤ most_bytes p → Ok (File none bytes) ≡ input_tree p bytes
  few-tree bytes few = sym (ap (λ (b : Bool). if b then Ok (File none bytes) else Err (refusal.Rule FileTooLong)) (le-leb (length bytes) (most_bytes p) few))

  many-tree : (bytes : List ℕ) → most_bytes p < length bytes → Err (refusal.Rule FileTooLong) ≡ input_tree p bytes
  many-tree bytes many = sym (ap (λ (b : Bool). if b then Ok (File none bytes) else Err (refusal.Rule FileTooLong)) (lt-leb (length bytes) (most_bytes p) many))

  pub file-given : (told : Told) (left left_now : streams.Told) (e : Entry) (given : Given) → IsWholeFile X p told e left left_now → given.entry ≡ e → given.text ≡ added_line e.cid
      → IsGiven X N p told (SaysInput p left) (input_row X N p) given
  file-given told left left_now e given h entry_is text_is = record {
    tree = File none h.bytes;
    said = record { bytes = h.bytes; are_left = left_are h.bytes left left_now h.taken h.nothing_left; is = few-tree h.bytes h.few };
    plan = file-whole told h.bytes h.are_bytes h.few h.held;
    entry_is = entry_is ∙ h.is ∙ file-entry h.bytes;
    text_is = text_is ∙ ap (λ (e : Entry). added_line e.cid) (h.is ∙ file-entry h.bytes);
  }

  pub long-said : (left left_now : streams.Told) → PassesMost p left left_now → SaysInput p left (Err (refusal.Rule FileTooLong))
  long-said None left_now h = record { bytes = h.bytes; are_left = tt; is = many-tree h.bytes h.many }
  long-said (Some bytes) left_now h = record { bytes = bytes; are_left = refl; is = many-tree bytes (let few = given_few bytes h.bytes (Some bytes) left_now refl h.taken in let many = h.many in omega (arith, few, many)) }
