-- How a command is done that writes its input into a file.
use Rattle.std.proofs.Common.{◌≡◌, ℕ, ◌+◌, ◌<◌, ◌≤◌, List, [], Bool, true, false, arith, refl, sym, ap, subst, ◌∙◌, inl, inr, Some, Result, Ok, Err}
use Rattle.std.specs.Prelude.{IfSome, length, if◌then◌else◌}
use Rattle.std.proofs.lemmas.Bool.{le-leb, lt-leb}
use Rattle.uf_edge.specs.Counts.{Counts}
use Rattle.uf_edge.specs.Streams.{IsWhole}
use Rattle.uf_edge.specs.Streams as streams
use Rattle.uf_mfs.specs.Bad.{IsBadInHead}
use Rattle.uf_mfs.specs.Standing.{Same, TellsAs, head_in}
use Rattle.uf_mfs.specs.Touches.{IsBlaming}
use Rattle.uf_mfs.specs.declared.mfs.Mfs.{Mfs}
use Rattle.uf_path.specs.declared.path.Path.{Path}
use Rattle.uf_plain.specs.declared.file.WriteHow.{WriteHow}
use Rattle.uf_store.specs.Seen.{Seen}
use Rattle.uf_store.specs.Contents.{Told}
use Rattle.uf_store.specs.declared.store.StoreFault.{StoreFault}
use Rattle.uf_store.specs.declared.store.StoreFault.TheVariants as fault
use Rattle.uf_store.proofs.Calls.{shown-by}
use Rattle.uf_store.proofs.Writing.{SavesOnly-refl}
use Rattle.uf_tree.specs.Standing.{Standing, NoHead, BadHead, Stands}
use Rattle.uf_tree.specs.Tree.{Dir, Entries}
use Rattle.uf_tree.specs.TreePlan.{blocks}
use Rattle.uf_tree.specs.declared.profile.Profile.{Profile}
use Rattle.uf_command.specs.Commands.{HasInput, has_nothing_to_do}
use Rattle.uf_command.specs.Kinds.{IsOf, write_input_kinds, tree_kinds, fault_behind, fault_kind, may_meet, opened_kinds, refusal_kind}
use Rattle.uf_top.specs.Reply.{Reply, in_tree, input_reply, most_input, tree_reply, unchanged}
use Rattle.uf_command.specs.declared.types.Ask.TheVariants.{Edit as Edits}
use Rattle.uf_command.specs.declared.types.Command.TheVariants.{WriteInput, At}
use Rattle.uf_command.specs.declared.types.Edit.TheVariants.{Write}
use Rattle.uf_command.specs.declared.types.Refusal.{Refusal}
use Rattle.uf_command.specs.declared.types.Refusal.TheVariants as refusal
use Rattle.uf_top.specs.Answering.{Answers}
use Rattle.uf_top.specs.Bounds.{command_touches}
use Rattle.uf_top.specs.Causes.{IsBadIn, IsLongAt, IsReady, IsReadyBy, OnlyWants, TakesAll, is_read}
use Rattle.uf_top.specs.Losing.{AnswersOver, command_needs}
use Rattle.uf_top.specs.Naming.{NamesAfter}
use Rattle.uf_top.specs.Opening.{OpensTree}
use Rattle.uf_top.specs.Around.{HostSide, SinkSide, around}
use Rattle.uf_top.specs.Working.{Makes}
use Rattle.uf_top.proofs.Added.{all_given, given_few, left_are}
use Rattle.uf_top.proofs.Classed.{tree-counts, unopened-kinds}
use Rattle.uf_top.proofs.Finding.{Finds, unopened-whole}
use Rattle.uf_top.proofs.InTree.{not-opened, opened}
use Rattle.uf_top.proofs.Losing.{lost-wants, names-same, opening-over}
use Rattle.uf_top.proofs.Refusing.{by-unopened}
use Rattle.uf_top.proofs.Saved.{nothing-written, written-kept}
use Rattle.uf_top.proofs.Shows.{bad-of-none, shown-any, wants-shown}
use Rattle.uf_top.proofs.Standings.{stands-same, tells-none}
use Rattle.uf_top.proofs.Unready.{not-unready, taken-unready}

-- what a command at a path may refuse, one that takes the input may refuse
tree-taken : (r : Result (List ℕ) Refusal) → IsOf (may_meet tree_kinds) r → IsOf (may_meet write_input_kinds) r
tree-taken (Ok text) h = tt
tree-taken (Err (refusal.Rule rule)) h = refl
tree-taken (Err (refusal.Dag rule)) h = h
tree-taken (Err (refusal.Car number place)) h = h
tree-taken (Err (refusal.CarLacks cid)) h = h
tree-taken (Err (refusal.OwnClash cid first second)) h = h
tree-taken (Err (refusal.Host rule)) h = h
tree-taken (Err (refusal.BadPath why)) h = h
tree-taken (Err refusal.InputTooLong) h = refl
tree-taken (Err refusal.Usage) h = h
tree-taken (Err refusal.BadPins) h = h
tree-taken (Err (refusal.Ready why)) h = refl
tree-taken (Err refusal.Read) h = refl
tree-taken (Err refusal.Write) h = h
tree-taken (Err (refusal.Store f)) h = by f
  where
    by : (f : StoreFault) → may_meet write_input_kinds (fault_kind f) ≡ true
    by fault.Failed = refl
    by (fault.Damaged cid) = refl
    by (fault.Missing cid) = refl
    by (fault.BadBlock cid role) = refl
    by (fault.Clash cid held bytes) = refl
    by fault.Memory = refl

-- and none of it is that an input is too long
not-long : (r : Result (List ℕ) Refusal) (l m : streams.Told) → IsOf (may_meet tree_kinds) r → IsLongAt r l m
not-long (Ok text) l m h = tt
not-long (Err (refusal.Rule rule)) l m h = tt
not-long (Err (refusal.Dag rule)) l m h = tt
not-long (Err (refusal.Car number place)) l m h = tt
not-long (Err (refusal.CarLacks cid)) l m h = tt
not-long (Err (refusal.OwnClash cid first second)) l m h = tt
not-long (Err (refusal.Host rule)) l m h = tt
not-long (Err (refusal.BadPath why)) l m h = tt
not-long (Err refusal.InputTooLong) l m h = absurd (let e : false ≡ true = h in cc)
not-long (Err refusal.Usage) l m h = tt
not-long (Err refusal.BadPins) l m h = tt
not-long (Err (refusal.Ready why)) l m h = tt
not-long (Err refusal.Read) l m h = tt
not-long (Err refusal.Write) l m h = tt
not-long (Err (refusal.Store f)) l m h = tt

module _ (how : WriteHow) (path : Path) where
  ready-taken : (told : Told) (piece : List ℕ) (r : Result (List ℕ) Refusal) → IsReady told (At (Edits (Write how piece)) path) r → IsReady told (WriteInput how path) r
  ready-taken told piece (Ok text) h = tt
  ready-taken told piece (Err (refusal.Rule rule)) h = tt
  ready-taken told piece (Err (refusal.Dag rule)) h = tt
  ready-taken told piece (Err (refusal.Car number place)) h = tt
  ready-taken told piece (Err (refusal.CarLacks cid)) h = tt
  ready-taken told piece (Err (refusal.OwnClash cid first second)) h = tt
  ready-taken told piece (Err (refusal.Host rule)) h = tt
  ready-taken told piece (Err (refusal.BadPath why)) h = tt
  ready-taken told piece (Err refusal.InputTooLong) h = tt
  ready-taken told piece (Err refusal.Usage) h = tt
  ready-taken told piece (Err refusal.BadPins) h = tt
  ready-taken told piece (Err (refusal.Ready why)) h = h
  ready-taken told piece (Err refusal.Read) h = tt
  ready-taken told piece (Err refusal.Write) h = tt
  ready-taken told piece (Err (refusal.Store f)) h = tt

  module _ (X : List ℕ → List ℕ) (N : List ℕ → ℕ) where
    -- an input that isn't too long is written
    fits : (bytes : List ℕ) (p : Profile) (es : Entries) → length bytes ≤ most_input → input_reply X N how path.names bytes p es ≡ tree_reply X N (Edits (Write how bytes)) path.names p es
    fits bytes p es few =
        let done : Reply = tree_reply X N (Edits (Write how bytes)) path.names p es in
        let other : Reply = unchanged (Stands p es) (Err refusal.InputTooLong) in
        ap (λ (b : Bool). if b then done else other) (le-leb (length bytes) most_input few)

    exceeds : (bytes : List ℕ) (p : Profile) (es : Entries) → most_input < length bytes → input_reply X N how path.names bytes p es ≡ unchanged (Stands p es) (Err refusal.InputTooLong)
    exceeds bytes p es many =
        let done : Reply = tree_reply X N (Edits (Write how bytes)) path.names p es in
        let other : Reply = unchanged (Stands p es) (Err refusal.InputTooLong) in
        ap (λ (b : Bool). if b then done else other) (lt-leb (length bytes) most_input many)

    -- ---- the input is taken and written

    module _ (piece : List ℕ) (l k : streams.Told) (i j : ℕ) (all : IsWhole most_input piece l k) (counts : Counts false i j) where
      given-is : (bytes : List ℕ) → HasInput (Ok (WriteInput how path)) l bytes i j → bytes ≡ piece
      given-is bytes input = all_given bytes piece l k (input refl).0 all.taken all.nothing_left

      piece-reply : (s : Standing) → in_tree (input_reply X N how path.names piece) s ≡ in_tree (tree_reply X N (Edits (Write how piece)) path.names) s
      piece-reply NoHead = refl
      piece-reply BadHead = refl
      piece-reply (Stands p es) = fits piece p es all.few

      same-reply : (s : Standing) (bytes : List ℕ) → HasInput (Ok (WriteInput how path)) l bytes i j → in_tree (input_reply X N how path.names bytes) s ≡ in_tree (tree_reply X N (Edits (Write how piece)) path.names) s
      same-reply s bytes input = ap (λ (bs : List ℕ). in_tree (input_reply X N how path.names bs) s) (given-is bytes input) ∙ piece-reply s

      pub input-written : (r : Result (List ℕ) Refusal) (a b : Seen) (h : streams.Told) (w t0 t1 : ℕ) (side : HostSide) (er er2 : SinkSide) → Makes X N (At (Edits (Write how piece)) path) r (around a l i h w t0 side er) (around b l i h w t1 side er2) → IsOf opened_kinds r
          → Makes X N (WriteInput how path) r (around a l i h w t0 side er) (around b k j h w t1 side er2)
      input-written r a b h w t0 t1 side er er2 mk opened_as = record {
        answers = λ world stands input calm. let s = world.standing in let bytes = world.input in subst (λ given. Answers X N s given r b.told) (sym (same-reply s bytes input.0)) (mk.answers world stands ((λ e. absurd cc), input.1, input.2) calm);
        lost = λ p es heights held outside named input calm. let bytes = outside.input in subst (λ given. AnswersOver X N a.told b.told p es (command_needs X N (λ n. 0) (WriteInput how path) p es) given r) (sym (same-reply (Stands p es) bytes input.0)) (mk.lost p es heights held outside named ((λ e. absurd cc), input.1, input.2) calm);
        kinds = tree-taken r mk.kinds;
        ready = ready-taken a.told piece r mk.ready;
        adds = not-long r l k mk.kinds;
        kept = written-kept X N how path.names a b piece l (left_are piece l k all.taken all.nothing_left) mk.kept;
        reads = subst (λ n. Counts (is_read r) i n) (sym (counts.still refl)) mk.reads;
        host = refl;
        rows = mk.rows;
        cause = mk.cause;
        whole = mk.whole;
        touches = λ p es bytes rows named input heights calm. subst (λ (bs : List ℕ). IfSome (command_touches X N rows bs (WriteInput how path) p es) (λ most. t1 ≤ t0 + most)) (sym (given-is bytes input)) (mk.touches p es [] rows named (λ e. absurd cc) heights calm);
        touched = mk.touched;
        unready = λ e is. absurd (not-unready opened_kinds r refl refl opened_as is);
        unplaced = λ p es names stood none. absurd none;
        leaves = record {
          head = mk.leaves.head;
          writes = mk.leaves.writes;
          idle = λ p es bytes names calm same. mk.leaves.idle p es [] names ((λ e. absurd cc), calm.1) (subst (λ (bs : List ℕ). has_nothing_to_do (Write how bs) path.names es ≡ true) (given-is bytes calm.0) same);
        };
      }

    -- ---- the input isn't taken

    module _ (a m : Seen) (l k : streams.Told) (i j : ℕ) (h : streams.Told) (w t0 t1 : ℕ) (side : HostSide) (er er2 : SinkSide) where
      taken-answers : (why : Refusal) (bytes : List ℕ) (p : Profile) (es : Entries) → TakesAll (Err why) l k → Counts (is_read {A = List ℕ} (Err why)) i j → HasInput (Ok (WriteInput how path)) l bytes i j → TellsAs X N m.told (Stands p es)
          → Answers X N (Stands p es) (input_reply X N how path.names bytes p es) (Err why) m.told
      taken-answers (refusal.Rule rule) bytes p es takes counts input stands = absurd takes
      taken-answers (refusal.Dag rule) bytes p es takes counts input stands = absurd takes
      taken-answers (refusal.Car number place) bytes p es takes counts input stands = absurd takes
      taken-answers (refusal.CarLacks cid) bytes p es takes counts input stands = absurd takes
      taken-answers (refusal.OwnClash cid first second) bytes p es takes counts input stands = absurd takes
      taken-answers (refusal.Host rule) bytes p es takes counts input stands = absurd takes
      taken-answers (refusal.BadPath path) bytes p es takes counts input stands = absurd takes
      taken-answers refusal.InputTooLong bytes p es takes counts input stands =
          let few = given_few bytes takes.bytes l k (input refl).0 takes.taken in let many = takes.many in
          subst (λ given. Answers X N (Stands p es) given (Err refusal.InputTooLong) m.told) (sym (exceeds bytes p es (omega (arith, few, many))))
          (inr (record { ends_are = refl; stands = stands; held = tells-none X N m.told (Stands p es) stands }))
      taken-answers refusal.Usage bytes p es takes counts input stands = absurd takes
      taken-answers refusal.BadPins bytes p es takes counts input stands = absurd takes
      taken-answers (refusal.Ready ready) bytes p es takes counts input stands = absurd takes
      taken-answers refusal.Read bytes p es takes counts input stands = (let rose = counts.rose refl in let stood = (input refl).1 in absurd (omega (arith, rose, stood)))
      taken-answers refusal.Write bytes p es takes counts input stands = absurd takes
      taken-answers (refusal.Store f) bytes p es takes counts input stands = inl (record { ends_are = ap (λ (f : StoreFault). Err (refusal.Store f)) takes; stands = stands })

      taken-over : (why : Refusal) (bytes : List ℕ) (p : Profile) (es : Entries) → TakesAll (Err why) l k → Counts (is_read {A = List ℕ} (Err why)) i j → HasInput (Ok (WriteInput how path)) l bytes i j → NamesAfter X N a.told m.told (blocks X N p (Dir es)) p es
          → AnswersOver X N a.told m.told p es (command_needs X N (λ n. 0) (WriteInput how path) p es) (input_reply X N how path.names bytes p es) (Err why)
      taken-over (refusal.Rule rule) bytes p es takes counts input stands = absurd takes
      taken-over (refusal.Dag rule) bytes p es takes counts input stands = absurd takes
      taken-over (refusal.Car number place) bytes p es takes counts input stands = absurd takes
      taken-over (refusal.CarLacks cid) bytes p es takes counts input stands = absurd takes
      taken-over (refusal.OwnClash cid first second) bytes p es takes counts input stands = absurd takes
      taken-over (refusal.Host rule) bytes p es takes counts input stands = absurd takes
      taken-over (refusal.BadPath path) bytes p es takes counts input stands = absurd takes
      taken-over refusal.InputTooLong bytes p es takes counts input stands =
          let few = given_few bytes takes.bytes l k (input refl).0 takes.taken in let many = takes.many in
          subst (λ given. AnswersOver X N a.told m.told p es (command_needs X N (λ n. 0) (WriteInput how path) p es) given (Err refusal.InputTooLong)) (sym (exceeds bytes p es (omega (arith, few, many))))
          (inr (record { ends_are = refl; stands = stands }))
      taken-over refusal.Usage bytes p es takes counts input stands = absurd takes
      taken-over refusal.BadPins bytes p es takes counts input stands = absurd takes
      taken-over (refusal.Ready ready) bytes p es takes counts input stands = absurd takes
      taken-over refusal.Read bytes p es takes counts input stands = (let rose = counts.rose refl in let stood = (input refl).1 in absurd (omega (arith, rose, stood)))
      taken-over refusal.Write bytes p es takes counts input stands = absurd takes
      taken-over (refusal.Store f) bytes p es takes counts input stands =
          lost-wants X N a.told m.told p es (command_needs X N (λ n. 0) (WriteInput how path) p es) (input_reply X N how path.names bytes p es) (refusal.Store f) (ap refusal.Store takes) stands

      taken-kinds : (why : Refusal) → TakesAll (Err why) l k → may_meet write_input_kinds (refusal_kind why) ≡ true
      taken-kinds (refusal.Rule rule) takes = absurd takes
      taken-kinds (refusal.Dag rule) takes = absurd takes
      taken-kinds (refusal.Car number place) takes = absurd takes
      taken-kinds (refusal.CarLacks cid) takes = absurd takes
      taken-kinds (refusal.OwnClash cid first second) takes = absurd takes
      taken-kinds (refusal.Host rule) takes = absurd takes
      taken-kinds (refusal.BadPath path) takes = absurd takes
      taken-kinds refusal.InputTooLong takes = refl
      taken-kinds refusal.Usage takes = absurd takes
      taken-kinds refusal.BadPins takes = absurd takes
      taken-kinds (refusal.Ready ready) takes = absurd takes
      taken-kinds refusal.Read takes = refl
      taken-kinds refusal.Write takes = absurd takes
      taken-kinds (refusal.Store f) takes = subst (λ f. may_meet write_input_kinds (fault_kind f) ≡ true) (sym takes) refl

      taken-finds : (why : Refusal) → TakesAll (Err why) l k → Finds (Err why)
      taken-finds (refusal.Rule rule) takes = absurd takes
      taken-finds (refusal.Dag rule) takes = absurd takes
      taken-finds (refusal.Car number place) takes = absurd takes
      taken-finds (refusal.CarLacks cid) takes = absurd takes
      taken-finds (refusal.OwnClash cid first second) takes = absurd takes
      taken-finds (refusal.Host rule) takes = absurd takes
      taken-finds (refusal.BadPath path) takes = absurd takes
      taken-finds refusal.InputTooLong takes = (λ e. cc, λ e. cc)
      taken-finds refusal.Usage takes = absurd takes
      taken-finds refusal.BadPins takes = absurd takes
      taken-finds (refusal.Ready ready) takes = absurd takes
      taken-finds refusal.Read takes = (λ e. cc, λ e. cc)
      taken-finds refusal.Write takes = absurd takes
      taken-finds (refusal.Store f) takes = subst (λ f. Finds (Err (refusal.Store f))) (sym takes) (λ e. cc, λ e. cc)

      taken-long : (why : Refusal) → TakesAll (Err why) l k → IsLongAt (Err why) l k
      taken-long (refusal.Rule rule) takes = tt
      taken-long (refusal.Dag rule) takes = tt
      taken-long (refusal.Car number place) takes = tt
      taken-long (refusal.CarLacks cid) takes = tt
      taken-long (refusal.OwnClash cid first second) takes = tt
      taken-long (refusal.Host rule) takes = tt
      taken-long (refusal.BadPath path) takes = tt
      taken-long refusal.InputTooLong takes = takes
      taken-long refusal.Usage takes = tt
      taken-long refusal.BadPins takes = tt
      taken-long (refusal.Ready ready) takes = tt
      taken-long refusal.Read takes = tt
      taken-long refusal.Write takes = tt
      taken-long (refusal.Store f) takes = tt

      taken-ready : (why : Refusal) → TakesAll (Err why) l k → IsReady {A = List ℕ} a.told (WriteInput how path) (Err why)
      taken-ready (refusal.Rule rule) takes = tt
      taken-ready (refusal.Dag rule) takes = tt
      taken-ready (refusal.Car number place) takes = tt
      taken-ready (refusal.CarLacks cid) takes = tt
      taken-ready (refusal.OwnClash cid first second) takes = tt
      taken-ready (refusal.Host rule) takes = tt
      taken-ready (refusal.BadPath path) takes = tt
      taken-ready refusal.InputTooLong takes = tt
      taken-ready refusal.Usage takes = tt
      taken-ready refusal.BadPins takes = tt
      taken-ready (refusal.Ready ready) takes = absurd takes
      taken-ready refusal.Read takes = tt
      taken-ready refusal.Write takes = tt
      taken-ready (refusal.Store f) takes = tt

      taken-wants : (why : Refusal) → TakesAll (Err why) l k → OnlyWants {A = List ℕ} (Err why)
      taken-wants (refusal.Rule rule) takes = tt
      taken-wants (refusal.Dag rule) takes = tt
      taken-wants (refusal.Car number place) takes = tt
      taken-wants (refusal.CarLacks cid) takes = tt
      taken-wants (refusal.OwnClash cid first second) takes = tt
      taken-wants (refusal.Host rule) takes = tt
      taken-wants (refusal.BadPath path) takes = tt
      taken-wants refusal.InputTooLong takes = tt
      taken-wants refusal.Usage takes = tt
      taken-wants refusal.BadPins takes = tt
      taken-wants (refusal.Ready ready) takes = tt
      taken-wants refusal.Read takes = tt
      taken-wants refusal.Write takes = tt
      taken-wants (refusal.Store f) takes = takes

      taken-blames : (why : Refusal) → TakesAll (Err why) l k → IsBlaming (fault_behind why) → ⊥
      taken-blames (refusal.Rule rule) takes blames = blames
      taken-blames (refusal.Dag rule) takes blames = blames
      taken-blames (refusal.Car number place) takes blames = blames
      taken-blames (refusal.CarLacks cid) takes blames = blames
      taken-blames (refusal.OwnClash cid first second) takes blames = blames
      taken-blames (refusal.Host rule) takes blames = blames
      taken-blames (refusal.BadPath path) takes blames = blames
      taken-blames refusal.InputTooLong takes blames = blames
      taken-blames refusal.Usage takes blames = blames
      taken-blames refusal.BadPins takes blames = blames
      taken-blames (refusal.Ready ready) takes blames = blames
      taken-blames refusal.Read takes blames = blames
      taken-blames refusal.Write takes blames = blames
      taken-blames (refusal.Store f) takes blames = subst (λ f. IsBlaming (Some f)) takes blames

      pub input-refused : (mfs : Mfs) → OpensTree X N (Ok mfs) a m t0 t1 → (why : Refusal) → TakesAll (Err why) l k → Counts (is_read {A = List ℕ} (Err why)) i j
          → Makes X N (WriteInput how path) (Err why) (around a l i h w t0 side er) (around m k j h w t1 side er2)
      input-refused mfs o why takes counts =
          let told = o.reads.told in
          record {
            answers = λ world stands input calm. let s = world.standing in let bytes = world.input in opened X N s (input_reply X N how path.names bytes) mfs m.told m.told (Err why) (o.opens s stands calm.faults) (stands-same X N a.told m.told s told stands)
                (λ p es at now. taken-answers why bytes p es takes counts input.0 now);
            lost = λ p es heights held outside named input calm. let bytes = outside.input in taken-over why bytes p es takes counts input.0 (names-same X N a.told m.told p es told named);
            kinds = taken-kinds why takes;
            ready = taken-ready why takes;
            adds = taken-long why takes;
            kept = nothing-written X N how path.names a m l told;
            reads = counts;
            host = refl;
            rows = tt;
            cause = shown-any X (IsBadIn X N a.told m.told) (Err why) a m (wants-shown X (Err why) a m (taken-wants why takes) o.reads.cause);
            whole = λ s stands calm. taken-finds why takes;
            touches = λ p es bytes rows named input heights calm. let one = o.touches in omega (arith, one);
            touched = λ blames. absurd (taken-blames why takes blames);
            unready = λ e is. absurd (taken-unready why l k takes is);
            unplaced = λ p es names stood none. absurd none;
            leaves = record { head = ap head_in told; writes = record { between = a.told; saves = SavesOnly-refl X a.told; last = Same told }; idle = λ p es bytes stands given same. told };
          }

      -- ---- the tree isn't opened

      pub input-unopened : (why : Refusal) → OpensTree X N (Err why) a m t0 t1 → Makes X N (WriteInput how path) (Err why) (around a l i h w t0 side er) (around m l i h w t1 side er2)
      input-unopened why o =
          let told = o.reads.told in let kinds = unopened-kinds a.told why o.refused in
          record {
            answers = λ world stands input calm. let s = world.standing in not-opened X N s (input_reply X N how path.names world.input) why m.told (o.opens s stands calm.faults) (stands-same X N a.told m.told s told stands);
            lost = λ p es heights held outside named input calm. opening-over X N a.told m.told p es (blocks X N p (Dir es)) (input_reply X N how path.names outside.input p es) why (o.lost p es named.names calm.faults)
                (names-same X N a.told m.told p es told named);
            kinds = tree-taken (Err why) kinds;
            ready = by-unopened (IsReadyBy a.told (WriteInput how path)) a.told why (λ reason head. head) (λ f. tt) o.refused;
            adds = not-long (Err why) l l kinds;
            kept = nothing-written X N how path.names a m l told;
            reads = tree-counts (Err why) i kinds;
            host = refl;
            rows = tt;
            cause = shown-by X (IsBadInHead X N a.told) (IsBadIn X N a.told m.told) (fault_behind why) a m (bad-of-none X N a.told m.told) o.reads.cause;
            whole = λ s stands calm. unopened-whole X N s why m.told (o.opens s stands calm.faults);
            touches = λ p es bytes rows named input heights calm. let one = o.touches in omega (arith, one);
            touched = o.touched.risen;
            unready = λ e is. record { told = told; left = refl; reads = refl };
            unplaced = λ p es names stood none. absurd none;
            leaves = record { head = ap head_in told; writes = record { between = a.told; saves = SavesOnly-refl X a.told; last = Same told }; idle = λ p es bytes stands given same. told };
          }
