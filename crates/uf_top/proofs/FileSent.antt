-- How a file of the tree that the Head names is sent to the output.
use Rattle.std.proofs.Common.{◌≡◌, ◌≢◌, ◌⊎◌, ℕ, zero, suc, ◌<◌, ◌≤◌, ◌+◌, List, [], ◌++◌, length, take, true, arith, refl, sym, ap, subst, ◌∙◌, inl, inr, Result, Ok, Err}
use Rattle.std.specs.Prelude.{IfErr, IsTrue, ⊤}
use Rattle.uf_cid.specs.Blocks.{Held}
use Rattle.uf_edge.specs.Counts.{Counts, Stood}
use Rattle.uf_edge.specs.Streams.{after, AppendsPrefix}
use Rattle.uf_edge.specs.Streams as streams
use Rattle.uf_fileread.specs.Ranges.{AppendsAtMost}
use Rattle.uf_mfs.specs.Answers as tree
use Rattle.uf_mfs.specs.Bad.{IsBadInHead}
use Rattle.uf_mfs.specs.Reading.{AreHeights, CanRise, IsBadRead, IsHeightOf, SendsAll, ShownSending, range_needs, range_touches, to_read}
use Rattle.uf_mfs.specs.Standing.{NamesOver, StandsAt, StandsOver, TellsAs, head_in}
use Rattle.uf_mfs.specs.Steps.{tree_fault}
use Rattle.uf_mfs.specs.Touches.{CountsUp, IsBlaming, read_bound}
use Rattle.uf_mfs.specs.declared.fault.MfsFault.{MfsFault}
use Rattle.uf_mfs.specs.declared.fault.MfsFault.TheVariants as mfs
use Rattle.uf_mfs.specs.declared.mfs.Mfs.{Mfs}
use Rattle.uf_mfs.proofs.Counting.{counts-then}
use Rattle.uf_mfs.proofs.Holding.{loss-back}
use Rattle.uf_mfs.proofs.Ranges.{stood-calm, tall}
use Rattle.uf_mfs.proofs.Reaching.{heights-with}
use Rattle.uf_path.specs.declared.path.Path.{Path}
use Rattle.uf_plain.specs.Edits.{at}
use Rattle.uf_plain.specs.Files.{read as range_at}
use Rattle.uf_plain.specs.Needs.{needs_at, root_of}
use Rattle.uf_plain.specs.Rules.{rule_of}
use Rattle.uf_plain.specs.declared.rule.Refused.{Refused}
use Rattle.uf_plain.specs.declared.rule.Rule.{Rule}
use Rattle.uf_store.specs.Contents.{Told}
use Rattle.uf_store.specs.Faults.{Rises, Shown, StaysCalm}
use Rattle.uf_store.specs.Lost.{IsLossOf}
use Rattle.uf_store.specs.Seen.{Seen}
use Rattle.uf_store.specs.declared.store.Role.{Role}
use Rattle.uf_store.specs.declared.store.StoreFault.{StoreFault}
use Rattle.uf_store.specs.declared.store.StoreFault.TheVariants as fault
use Rattle.uf_store.proofs.Calls.{shown-after, shown-by, stood-back, stood-front}
use Rattle.uf_store.proofs.Causes.{Shows-rises, calm-rises}
use Rattle.uf_tree.specs.Standing.{Standing, NoHead, BadHead, Stands}
use Rattle.uf_tree.specs.Profiles.{is_profile}
use Rattle.uf_tree.specs.Tree.{Dir, Entries, File, Tree}
use Rattle.uf_tree.specs.TreePlan.{blocks}
use Rattle.uf_tree.specs.declared.profile.Profile.{Profile}
use Rattle.uf_command.specs.Natures.{NoWrites}
use Rattle.uf_command.specs.Kinds.{IsOf, tree_kinds, fault_behind, fault_kind, may_close, refusal_fault}
use Rattle.uf_top.specs.Reply.{in_tree, looked, read_reply}
use Rattle.uf_command.specs.Statuses.{ended, fault_status, no_memory}
use Rattle.uf_command.specs.declared.types.Command.{Command}
use Rattle.uf_command.specs.declared.types.Command.TheVariants.{Read}
use Rattle.uf_command.specs.declared.types.Refusal.{Refusal}
use Rattle.uf_command.specs.declared.types.Refusal.TheVariants as refusal
use Rattle.uf_top.specs.Answering.{DoesReply, DoesWant}
use Rattle.uf_top.specs.Around.{HostSide, RisesFor, SinkSide, around}
use Rattle.uf_top.specs.Causes.{IsBadIn, IsReady, IsReadyBy, RefusesSending, is_read, is_write}
use Rattle.uf_top.specs.Endings.{FindsAll, PrintsAt, PrintsPart}
use Rattle.uf_top.specs.Losing.{DoesOver, part_needs, rows_found}
use Rattle.uf_top.specs.Naming.{NamesAfter, NamesAs}
use Rattle.uf_top.specs.Opening.{OpensTree}
use Rattle.uf_top.specs.Shapes.{WritesAs, is_done}
use Rattle.uf_top.specs.Working.{Does, Makes}
use Rattle.uf_top.proofs.Classed.{tree-counts, unopened-kinds}
use Rattle.uf_top.proofs.Finding.{unopened-whole}
use Rattle.uf_top.proofs.InTree.{not-opened}
use Rattle.uf_top.proofs.Losing.{names-of, names-same, opening-over}
use Rattle.uf_top.proofs.Printing.{after-nothing, of-no-host, refused-does, whole-printed}
use Rattle.uf_top.proofs.Refusing.{IsRefusedAs, by-unopened}
use Rattle.uf_top.proofs.Shows.{bad-of-none, counts-still, head_of, none-long}
use Rattle.uf_top.proofs.Standings.{stands-same, tells-none}

-- what became of a call that sends
abbrev SentAs : Result ℕ MfsFault → Result (Unit {0}) Refusal → Type 0
SentAs (Ok n) done = done ≡ Ok tt
SentAs (Err f) done = (why : Refusal) × (done ≡ Err why) × RefusesSending f why

-- so it is of one whose count of bytes isn't asked for
pub sent-done : (r : Result ℕ MfsFault) (n : ℕ) → IsRefusedAs RefusesSending r (Ok n) → SentAs r (Ok tt)
sent-done (Ok n) m is = refl
sent-done (Err f) m is = absurd is

pub sent-refused : (r : Result ℕ MfsFault) (why : Refusal) → IsRefusedAs RefusesSending r (Err why) → SentAs r (Err why)
sent-refused (Ok n) why is = absurd cc
sent-refused (Err f) why is = (why, refl, is)

take-none : (count : ℕ) → take {A = ℕ} count [] ≡ []
take-none zero = refl
take-none (suc n) = refl

-- of nothing, nothing was printed
pub none-printed : (held now : streams.Told) → AppendsPrefix [] held now → now ≡ held
none-printed held now p = p.appended ∙ ap (λ (l : List ℕ). after held l) (take-none p.count) ∙ sym (after-nothing held)

-- the rows of a file are its height
pub height-of : (p : Profile) (rows : ℕ → ℕ) (v : Result Tree Refused) → IsTrue (is_profile p) → AreHeights p rows → IsHeightOf p (rows_found rows v) v
height-of p rows (Ok (File m bytes)) ok heights = heights-with p rows ok heights m (length bytes)
height-of p rows (Ok (Dir es)) ok heights = tt
height-of p rows (Err why) ok heights = tt

pub by-why : (done : Result (Unit {0}) Refusal) (why is : Refusal) → done ≡ Err why → why ≡ is → done ≡ Err is
by-why done why is e h = e ∙ ap (λ (r : Refusal). Err r) h

-- ---- what a call that sends shows

module _ (hash : List ℕ → List ℕ) (P : Role → List ℕ → Type 0) (a b : Seen) (w v : ℕ) where
  sending-rises : (r : Result ℕ MfsFault) → ShownSending hash P r a b w v → Rises a b
  sending-rises (Ok n) h = calm-rises a b h.0
  sending-rises (Err (mfs.Rule rule)) h = calm-rises a b h.0
  sending-rises (Err (mfs.Ready why)) h = absurd h
  sending-rises (Err mfs.Sink) h = calm-rises a b h.0
  sending-rises (Err (mfs.Store f)) h = Shows-rises hash P f a b h.0

  sending-shown : (r : Result ℕ MfsFault) (done : Result (Unit {0}) Refusal) → SentAs r done → ShownSending hash P r a b w v → Shown hash P (refusal_fault done) a b
  sending-shown (Ok n) done sent h = subst (λ d. Shown hash P (refusal_fault d) a b) (sym sent) h.0
  sending-shown (Err (mfs.Rule rule)) done sent h = subst (λ d. Shown hash P (refusal_fault d) a b) (sym (by-why done sent.0 (refusal.Rule rule) sent.1 sent.2)) h.0
  sending-shown (Err (mfs.Ready why)) done sent h = absurd h
  sending-shown (Err mfs.Sink) done sent h = subst (λ d. Shown hash P (refusal_fault d) a b) (sym (by-why done sent.0 refusal.Write sent.1 sent.2)) h.0
  sending-shown (Err (mfs.Store f)) done sent h = subst (λ d. Shown hash P (refusal_fault d) a b) (sym (by-why done sent.0 (refusal.Store f) sent.1 sent.2)) h.0

  sending-counts : (r : Result ℕ MfsFault) (done : Result (Unit {0}) Refusal) → SentAs r done → ShownSending hash P r a b w v → RisesFor (is_write done) w v
  sending-counts (Ok n) done sent h = subst (λ d. RisesFor (is_write d) w v) (sym sent) (record { rose = λ e. absurd cc; still = λ e. h.1 })
  sending-counts (Err (mfs.Rule rule)) done sent h = subst (λ d. RisesFor (is_write d) w v) (sym (by-why done sent.0 (refusal.Rule rule) sent.1 sent.2)) (record { rose = λ e. absurd cc; still = λ e. h.1 })
  sending-counts (Err (mfs.Ready why)) done sent h = absurd h
  sending-counts (Err mfs.Sink) done sent h = subst (λ d. RisesFor (is_write d) w v) (sym (by-why done sent.0 refusal.Write sent.1 sent.2)) (record { rose = λ e. h.1; still = λ e. absurd cc })
  sending-counts (Err (mfs.Store f)) done sent h = subst (λ d. RisesFor (is_write d) w v) (sym (by-why done sent.0 (refusal.Store f) sent.1 sent.2)) (unwritten f h.1)
    where
      unwritten : (f : StoreFault) → v ≡ w → RisesFor (is_write {A = Unit {0}} (Err (refusal.Store f))) w v
      unwritten fault.Failed same = record { rose = λ e. absurd cc; still = λ e. same }
      unwritten (fault.Damaged cid) same = record { rose = λ e. absurd cc; still = λ e. same }
      unwritten (fault.Missing cid) same = record { rose = λ e. absurd cc; still = λ e. same }
      unwritten (fault.BadBlock cid role) same = record { rose = λ e. absurd cc; still = λ e. same }
      unwritten (fault.Clash cid first second) same = record { rose = λ e. absurd cc; still = λ e. same }
      unwritten fault.Memory same = record { rose = λ e. absurd cc; still = λ e. same }

-- ---- what every answer of it has

-- which refusal it is
pub data SentKind (done : Result (Unit {0}) Refusal) : Type 0 where
  Whole : done ≡ Ok tt → SentKind done
  ByRule : (rule : Rule) → done ≡ Err (refusal.Rule rule) → SentKind done
  BySink : done ≡ Err refusal.Write → SentKind done
  ByStore : (f : StoreFault) → done ≡ Err (refusal.Store f) → SentKind done

kind-of : (r : Result ℕ MfsFault) (done : Result (Unit {0}) Refusal) → SentAs r done → SentKind done
kind-of (Ok n) done sent = Whole sent
kind-of (Err (mfs.Rule rule)) done sent = ByRule rule (by-why done sent.0 (refusal.Rule rule) sent.1 sent.2)
kind-of (Err (mfs.Ready why)) done sent = absurd sent.2
kind-of (Err mfs.Sink) done sent = BySink (by-why done sent.0 refusal.Write sent.1 sent.2)
kind-of (Err (mfs.Store f)) done sent = ByStore f (by-why done sent.0 (refusal.Store f) sent.1 sent.2)

pub sent-kinds : (done : Result (Unit {0}) Refusal) → SentKind done → IsOf (may_close tree_kinds) done
sent-kinds done (Whole e) = subst (IsOf (may_close tree_kinds)) (sym e) tt
sent-kinds done (ByRule rule e) = subst (IsOf (may_close tree_kinds)) (sym e) refl
sent-kinds done (BySink e) = subst (IsOf (may_close tree_kinds)) (sym e) refl
sent-kinds done (ByStore f e) = subst (IsOf (may_close tree_kinds)) (sym e) (by f)
  where
    by : (f : StoreFault) → may_close tree_kinds (fault_kind f) ≡ true
    by fault.Failed = refl
    by (fault.Damaged cid) = refl
    by (fault.Missing cid) = refl
    by (fault.BadBlock cid role) = refl
    by (fault.Clash cid held bytes) = refl
    by fault.Memory = refl

pub sent-reads : (done : Result (Unit {0}) Refusal) (i : ℕ) → SentKind done → Counts (is_read done) i i
sent-reads done i (Whole e) = subst (λ d. Counts (is_read d) i i) (sym e) (counts-still i)
sent-reads done i (ByRule rule e) = subst (λ d. Counts (is_read d) i i) (sym e) (counts-still i)
sent-reads done i (BySink e) = subst (λ d. Counts (is_read d) i i) (sym e) (counts-still i)
sent-reads done i (ByStore f e) = subst (λ d. Counts (is_read d) i i) (sym e) (by f)
  where
    by : (f : StoreFault) → Counts (is_read {A = Unit {0}} (Err (refusal.Store f))) i i
    by fault.Failed = counts-still i
    by (fault.Damaged cid) = counts-still i
    by (fault.Missing cid) = counts-still i
    by (fault.BadBlock cid role) = counts-still i
    by (fault.Clash cid held bytes) = counts-still i
    by fault.Memory = counts-still i

pub sent-ready : (told : Told) (command : Command) (done : Result (Unit {0}) Refusal) → SentKind done → IsReady told command done
sent-ready told command done (Whole e) = subst (IsReady told command) (sym e) tt
sent-ready told command done (ByRule rule e) = subst (IsReady told command) (sym e) tt
sent-ready told command done (BySink e) = subst (IsReady told command) (sym e) tt
sent-ready told command done (ByStore f e) = subst (IsReady told command) (sym e) tt

pub sent-prints : (IsText : List ℕ → Type 0) (h h2 : streams.Told) (bytes : List ℕ) → IsText bytes → h2 ≡ after h bytes → (done : Result (Unit {0}) Refusal) → SentKind done → PrintsAt IsText true (ended done) h h2
sent-prints IsText h h2 bytes is now done (Whole e) = subst (λ d. PrintsAt IsText true (ended d) h h2) (sym e) (bytes, is, now)
sent-prints IsText h h2 bytes is now done (ByRule rule e) = subst (λ d. PrintsAt IsText true (ended d) h h2) (sym e) (bytes, now)
sent-prints IsText h h2 bytes is now done (BySink e) = subst (λ d. PrintsAt IsText true (ended d) h h2) (sym e) (bytes, is, whole-printed bytes h h2 now)
sent-prints IsText h h2 bytes is now done (ByStore f e) = subst (λ d. PrintsAt IsText true (ended d) h h2) (sym e) (by f)
  where
    by : (f : StoreFault) → PrintsAt IsText true (fault_status f) h h2
    by fault.Failed = (bytes, now)
    by (fault.Damaged cid) = (bytes, now)
    by (fault.Missing cid) = (bytes, now)
    by (fault.BadBlock cid role) = (bytes, now)
    by (fault.Clash cid held other) = (bytes, now)
    by fault.Memory = (bytes, now)

sent-touched : (r : Result ℕ MfsFault) (done : Result (Unit {0}) Refusal) (t1 t2 : ℕ) → SentAs r done → CountsUp (tree_fault r) t1 t2 → CountsUp (refusal_fault done) t1 t2
sent-touched (Ok n) done t1 t2 sent h = subst (λ d. CountsUp (refusal_fault d) t1 t2) (sym sent) h
sent-touched (Err (mfs.Rule rule)) done t1 t2 sent h = subst (λ d. CountsUp (refusal_fault d) t1 t2) (sym (by-why done sent.0 (refusal.Rule rule) sent.1 sent.2)) h
sent-touched (Err (mfs.Ready why)) done t1 t2 sent h = absurd sent.2
sent-touched (Err mfs.Sink) done t1 t2 sent h = subst (λ d. CountsUp (refusal_fault d) t1 t2) (sym (by-why done sent.0 refusal.Write sent.1 sent.2)) h
sent-touched (Err (mfs.Store f)) done t1 t2 sent h = subst (λ d. CountsUp (refusal_fault d) t1 t2) (sym (by-why done sent.0 (refusal.Store f) sent.1 sent.2)) h

pub if-err : (done : Result (Unit {0}) Refusal) (A : Type 0) → A → IfErr done (λ why. A)
if-err (Ok x) A a = tt
if-err (Err why) A a = a

-- ---- what it answers

module _ (X : List ℕ → List ℕ) (N : List ℕ → ℕ) (names : List (List ℕ)) (h h2 : streams.Told) where
  -- the reply, or want of memory
  answered : (now : Told) (s : Standing) (v : Result (List ℕ) Refused) (r : Result ℕ MfsFault) (done : Result (Unit {0}) Refusal) → SentAs r done
      → tree.Answers (λ bytes n. SendsAll h h2 bytes n) names v r → IfErr r (λ _. AppendsPrefix (to_read v) h h2) → TellsAs X N now s
      → DoesWant X N true s done now ⊎ DoesReply X N true (looked s names (λ (bytes : List ℕ). bytes) v) done h h2 now
  answered now s (Ok bytes) (Ok n) done sent given part stands = inr (record { ends = (sent, given.1); stands = stands; blocks = tells-none X N now s stands })
  answered now s (Err why) (Ok n) done sent given part stands = absurd given
  answered now s (Ok bytes) (Err (mfs.Rule rule)) done sent given part stands = absurd given
  answered now s (Err why) (Err (mfs.Rule rule)) done sent given part stands =
      inr (record { ends = (by-why done sent.0 (refusal.Rule (rule_of names why)) sent.1 (sent.2 ∙ ap refusal.Rule given), none-printed h h2 part); stands = stands; blocks = tells-none X N now s stands })
  answered now s (Ok bytes) (Err (mfs.Ready ready)) done sent given part stands = absurd given
  answered now s (Err why) (Err (mfs.Ready ready)) done sent given part stands = absurd given
  answered now s (Ok bytes) (Err mfs.Sink) done sent given part stands = absurd given
  answered now s (Err why) (Err mfs.Sink) done sent given part stands = absurd given
  answered now s (Ok bytes) (Err (mfs.Store f)) done sent given part stands = inl (record { ends_are = by-why done sent.0 no_memory sent.1 (sent.2 ∙ ap refusal.Store given); stands = stands })
  answered now s (Err why) (Err (mfs.Store f)) done sent given part stands = inl (record { ends_are = by-why done sent.0 no_memory sent.1 (sent.2 ∙ ap refusal.Store given); stands = stands })

  -- the reply, or a block is lost
  answered-over : (c d : Told) (p : Profile) (es : Entries) (first needs : List Held) (v : Result (List ℕ) Refused) (r : Result ℕ MfsFault) (done : Result (Unit {0}) Refusal) → SentAs r done
      → tree.AnswersOr (IsLossOf c needs) (λ bytes n. SendsAll h h2 bytes n) names v r → IfErr r (λ _. AppendsPrefix (to_read v) h h2) → NamesAfter X N c d (blocks X N p (Dir es)) p es
      → DoesOver X N c d p es (first ++ needs) (looked (Stands p es) names (λ (bytes : List ℕ). bytes) v) done h h2
  answered-over c d p es first needs (Ok bytes) (Ok n) done sent given part stands = inr (record { ends = (sent, given.1); stands = stands })
  answered-over c d p es first needs (Err why) (Ok n) done sent given part stands = absurd given
  answered-over c d p es first needs (Ok bytes) (Err (mfs.Rule rule)) done sent given part stands = absurd given
  answered-over c d p es first needs (Err why) (Err (mfs.Rule rule)) done sent given part stands =
      inr (record { ends = (by-why done sent.0 (refusal.Rule (rule_of names why)) sent.1 (sent.2 ∙ ap refusal.Rule given), none-printed h h2 part); stands = stands })
  answered-over c d p es first needs (Ok bytes) (Err (mfs.Ready ready)) done sent given part stands = absurd given
  answered-over c d p es first needs (Err why) (Err (mfs.Ready ready)) done sent given part stands = absurd given
  answered-over c d p es first needs (Ok bytes) (Err mfs.Sink) done sent given part stands = absurd given
  answered-over c d p es first needs (Err why) (Err mfs.Sink) done sent given part stands = absurd given
  answered-over c d p es first needs (Ok bytes) (Err (mfs.Store f)) done sent given part stands = inl (record { fault = f; ends_are = by-why done sent.0 (refusal.Store f) sent.1 sent.2; loss = loss-back c first needs f given; stands = stands })
  answered-over c d p es first needs (Err why) (Err (mfs.Store f)) done sent given part stands = inl (record { fault = f; ends_are = by-why done sent.0 (refusal.Store f) sent.1 sent.2; loss = loss-back c first needs f given; stands = stands })

  -- a part of the reply's text is printed
  part-printed : (May : StoreFault → Type 0) (s : Standing) (v : Result (List ℕ) Refused) (r : Result ℕ MfsFault) → ((n : ℕ) → r ≡ Ok n → tree.AnswersOr May (λ bytes n. SendsAll h h2 bytes n) names v r)
      → IfErr r (λ _. AppendsPrefix (to_read v) h h2) → PrintsPart (looked s names (λ (bytes : List ℕ). bytes) v).ends h h2
  part-printed May s v (Ok n) given part = by v (given n refl)
    where
      by : (v : Result (List ℕ) Refused) → tree.AnswersOr May (λ bytes n. SendsAll h h2 bytes n) names v (Ok n) → PrintsPart (looked s names (λ (bytes : List ℕ). bytes) v).ends h h2
      by (Ok bytes) given = whole-printed bytes h h2 given.1
      by (Err why) given = absurd given
  part-printed May s (Ok bytes) (Err f) given part = part
  part-printed May s (Err why) (Err f) given part = none-printed h h2 part

  -- no block is missing or bad, unless the output failed
  sent-finds : (v : Result (List ℕ) Refused) (r : Result ℕ MfsFault) (done : Result (Unit {0}) Refusal) → SentAs r done → (r ≢ Err mfs.Sink → tree.Answers (λ bytes n. SendsAll h h2 bytes n) names v r) → FindsAll (ended done)
  sent-finds v (Ok n) done sent given = subst (λ d. FindsAll (ended d)) (sym sent) (λ e. cc, λ e. cc)
  sent-finds v (Err (mfs.Rule rule)) done sent given = subst (λ d. FindsAll (ended d)) (sym (by-why done sent.0 (refusal.Rule rule) sent.1 sent.2)) (λ e. cc, λ e. cc)
  sent-finds v (Err (mfs.Ready why)) done sent given = absurd sent.2
  sent-finds v (Err mfs.Sink) done sent given = subst (λ d. FindsAll (ended d)) (sym (by-why done sent.0 refusal.Write sent.1 sent.2)) (λ e. cc, λ e. cc)
  sent-finds v (Err (mfs.Store f)) done sent given = subst (λ d. FindsAll (ended d)) (sym (by-why done sent.0 no_memory sent.1 (sent.2 ∙ ap refusal.Store (wanting v (given (λ e. cc)))))) (λ e. cc, λ e. cc)
    where
      wanting : (v : Result (List ℕ) Refused) → tree.Answers (λ bytes n. SendsAll h h2 bytes n) names v (Err (mfs.Store f)) → f ≡ fault.Memory
      wanting (Ok bytes) given = given
      wanting (Err why) given = given

not-sink : (w v : ℕ) (hash : List ℕ → List ℕ) (P : Role → List ℕ → Type 0) (a b : Seen) (r : Result ℕ MfsFault) → ShownSending hash P r a b w v → Stood w v → r ≢ Err mfs.Sink
not-sink w v hash P a b (Ok n) shown stood = λ e. cc
not-sink w v hash P a b (Err (mfs.Rule rule)) shown stood = λ e. cc
not-sink w v hash P a b (Err (mfs.Ready why)) shown stood = λ e. cc
not-sink w v hash P a b (Err mfs.Sink) shown stood = λ e. (let rose = shown.1 in omega (arith, rose, stood))
not-sink w v hash P a b (Err (mfs.Store f)) shown stood = λ e. cc

module _ (X : List ℕ → List ℕ) (N : List ℕ → ℕ) (offset count : ℕ) (path : Path) (a m : Seen) (l : streams.Told) (i : ℕ) (h : streams.Told) (w t0 t1 : ℕ) (side : HostSide) (er er2 : SinkSide) where
  -- ---- the tree isn't opened

  pub send-unopened : (why : Refusal) → OpensTree X N (Err why) a m t0 t1 → Does X N (Read offset count path) (Err why) (around a l i h w t0 side er) (around m l i h w t1 side er2)
  send-unopened why o = refused-does X N (Read offset count path) refl a m l l i i t0 t1 h w side side er er2 why makes
    where
      told : m.told ≡ a.told
      told = o.reads.told

      makes : Makes X N (Read offset count path) (Err why) (around a l i h w t0 side er) (around m l i h w t1 side er2)
      makes = record {
        answers = λ world stands input calm. not-opened X N world.standing (read_reply offset count path.names) why m.told (o.opens world.standing stands calm.faults) (stands-same X N a.told m.told world.standing told stands);
        lost = λ p es rows held bytes named input calm.
            opening-over X N a.told m.told p es (part_needs X N rows offset count path.names p es) (read_reply offset count path.names p es) why (o.lost p es named.names calm.faults)
            (names-same X N a.told m.told p es told named);
        kinds = unopened-kinds a.told why o.refused;
        ready = by-unopened (IsReadyBy a.told (Read offset count path)) a.told why (λ reason head. head) (λ f. tt) o.refused;
        adds = tt;
        kept = tt;
        reads = tree-counts (Err why) i (unopened-kinds a.told why o.refused);
        host = refl;
        rows = tt;
        cause = shown-by X (IsBadInHead X N a.told) (IsBadIn X N a.told m.told) (fault_behind why) a m (bad-of-none X N a.told m.told) o.reads.cause;
        touches = λ p es bytes rows named input heights calm. let one = o.touches in omega (arith, one);
        whole = λ s stands calm. unopened-whole X N s why m.told (o.opens s stands calm.faults);
        touched = o.touched.risen;
        unready = λ e is. record { told = told; left = refl; reads = refl };
        unplaced = λ p es names stood none. absurd none;
        leaves = record { head = ap head_in told; writes = told; idle = λ p es bytes stands calm same. absurd cc };
      }

  -- ---- the tree is opened, and the file is sent

  module _ (found : Mfs) (o : OpensTree X N (Ok found) a m t0 t1) (b : Seen) (h2 : streams.Told) (w2 t2 : ℕ) (r : Result ℕ MfsFault) (done : Result (Unit {0}) Refusal) (sent : SentAs r done)
      (answer : (p : Profile) (es : Entries) → StandsAt X N m.told found p es → Stood m.faults b.faults → r ≢ Err mfs.Sink
      → tree.Answers (λ bytes n. SendsAll h h2 bytes n) path.names (range_at offset count path.names es) r)
      (lost : (p : Profile) (es : Entries) (height : ℕ) → StandsOver X N m.told found p es → IsHeightOf p height (at 0 path.names (Dir es)) → Stood m.faults b.faults → r ≢ Err mfs.Sink
      → tree.AnswersOr (IsLossOf m.told (needs_at X N p (range_needs X p height offset count) path.names (Dir es))) (λ bytes n. SendsAll h h2 bytes n) path.names (range_at offset count path.names es) r)
      (prefix : (p : Profile) (es : Entries) → StandsOver X N m.told found p es → CanRise m.faults → IfErr r (λ _. AppendsPrefix (to_read (range_at offset count path.names es)) h h2))
      (sends : AppendsAtMost count h h2) (cause : ShownSending X (IsBadRead X N m.told found.root.cid) r m b w w2) (told2 : b.told ≡ m.told)
      (touches : (p : Profile) (es : Entries) (rows : ℕ → ℕ) → StandsOver X N m.told found p es → AreHeights p rows → Stood m.faults b.faults → t2 ≤ t1 + read_bound (range_touches p rows offset count) path.names (Dir es))
      (touched : CountsUp (tree_fault r) t1 t2) where
    told : m.told ≡ a.told
    told = o.reads.told

    same : b.told ≡ a.told
    same = told2 ∙ told

    calm : StaysCalm a m
    calm = o.reads.cause

    rises : Rises m b
    rises = sending-rises X (IsBadRead X N m.told found.root.cid) m b w w2 r cause

    front : Stood a.faults b.faults → Stood a.faults m.faults
    front stood = stood-front a.faults m.faults b.faults calm.faults rises.faults stood

    back : Stood a.faults b.faults → Stood m.faults b.faults
    back stood = stood-back a.faults m.faults b.faults calm.faults stood

    room : Stood a.faults b.faults → CanRise m.faults
    room stood = (let e = calm.faults in let k = rises.faults in omega (arith, e, k, stood))

    room-kept : CanRise a.faults → CanRise m.faults
    room-kept had = subst CanRise (sym calm.faults) had

    opened-over : (p : Profile) (es : Entries) → NamesOver X N a.told p es → Stood a.faults m.faults → StandsOver X N m.told found p es
    opened-over p es names stood = subst (λ t. StandsOver X N t found p es) (sym told) (o.lost p es names stood)

    at-room : (p : Profile) (es : Entries) → NamesOver X N a.told p es → CanRise a.faults → StandsOver X N m.told found p es
    at-room p es names had = opened-over p es names (stood-calm a.faults m.faults calm.faults had)

    kind : SentKind done
    kind = kind-of r done sent

    ok-answer : (s : Standing) → TellsAs X N a.told s → Stood a.faults b.faults → r ≢ Err mfs.Sink
        → DoesWant X N true s done b.told ⊎ DoesReply X N true (in_tree (read_reply offset count path.names) s) done h h2 b.told
    ok-answer NoHead stands stood other = absurd (o.opens NoHead stands (front stood))
    ok-answer BadHead stands stood other = absurd (o.opens BadHead stands (front stood))
    ok-answer (Stands p es) stands stood other =
        let at = o.opens (Stands p es) stands (front stood) in
        answered X N path.names h h2 b.told (Stands p es) (range_at offset count path.names es) r done sent (answer p es at (back stood) other)
        (prefix p es (opened-over p es (names-of X N a.told p es stands) (front stood)) (room stood)) (stands-same X N a.told b.told (Stands p es) same stands)

    printed : (s : Standing) → NamesAs X N a.told b.told s → CanRise a.faults → PrintsPart (in_tree (read_reply offset count path.names) s).ends h h2
    printed NoHead names had = absurd (o.opens NoHead names (stood-calm a.faults m.faults calm.faults had))
    printed BadHead names had = absurd (o.opens BadHead names (stood-calm a.faults m.faults calm.faults had))
    printed (Stands p es) named had =
        let at = at-room p es named.names had in let high = tall X N p m.told path.names es at.root.plan.profile in
        part-printed X N path.names h h2 (IsLossOf m.told (needs_at X N p (range_needs X p high.0 offset count) path.names (Dir es))) (Stands p es) (range_at offset count path.names es) r
        (λ n is. whole-lost p es high.0 at high.1 had n is) (prefix p es at (room-kept had))
      where
        whole-lost : (p : Profile) (es : Entries) (height : ℕ) → StandsOver X N m.told found p es → IsHeightOf p height (at 0 path.names (Dir es)) → CanRise a.faults → (n : ℕ) → r ≡ Ok n
            → tree.AnswersOr (IsLossOf m.told (needs_at X N p (range_needs X p height offset count) path.names (Dir es))) (λ bytes n. SendsAll h h2 bytes n) path.names (range_at offset count path.names es) r
        whole-lost p es height at high had n is =
            let calm2 = subst (λ q. ShownSending X (IsBadRead X N m.told found.root.cid) q m b w w2) is cause in
            lost p es height at high (stood-calm m.faults b.faults calm2.0.faults (room-kept had)) (λ e. (let k : Ok n ≡ Err mfs.Sink = sym is ∙ e in cc))

    pub sends-does : Does X N (Read offset count path) done (around a l i h w t0 side er) (around b l i h2 w2 t2 side er2)
    sends-does = record {
      answers = λ world finds input quiet. of-no-host (ok-answer world.standing finds.stands quiet.store.faults (not-sink w w2 X (IsBadRead X N m.told found.root.cid) m b r cause quiet.written.output));
      lost = λ p es rows held bytes named tells heights input quiet.
          let stood = quiet.store.faults in let opened = opened-over p es named.names (front stood) in
          let needs = part_needs X N rows offset count path.names p es in
          answered-over X N path.names h h2 a.told b.told p es (root_of X N p (Dir es)) needs (range_at offset count path.names es) r done sent
          (subst (λ t. tree.AnswersOr (IsLossOf t needs) (λ bytes n. SendsAll h h2 bytes n) path.names (range_at offset count path.names es) r) told
          (lost p es (rows_found rows (at 0 path.names (Dir es))) opened (height-of p rows (at 0 path.names (Dir es)) opened.root.plan.profile heights) (back stood) (not-sink w w2 X (IsBadRead X N m.told found.root.cid) m b r cause quiet.written.output)))
          (prefix p es opened (room stood)) (names-same X N a.told b.told p es same named);
      unprinted = λ world after. absurd cc;
      unprinted_over = λ p es held outside after. absurd cc;
      prefix = λ world finds input had. printed world.standing finds.names had.faults;
      prints = sent-prints (λ text. ⊤) h h2 sends.appends.bytes tt sends.appends.appended done kind;
      kinds = sent-kinds done kind;
      ready = sent-ready a.told (Read offset count path) done kind;
      long = none-long done;
      reads = sent-reads done i kind;
      host = refl;
      gets = tt;
      pins = tt;
      kept = tt;
      writes = sending-counts X (IsBadRead X N m.told found.root.cid) m b w w2 r done sent cause;
      cause = shown-after X (IsBadIn X N a.told b.told) (refusal_fault done) a m b calm
          (shown-by X (IsBadRead X N m.told found.root.cid) (IsBadIn X N a.told b.told) (refusal_fault done) m b (λ role bytes bad. bad-of-read (subst (λ t. IsBadRead X N t found.root.cid role bytes) told bad)) (sending-shown X (IsBadRead X N m.told found.root.cid) m b w w2 r done sent cause));
      whole = λ s needs stands quiet. finds s stands quiet.faults;
      touches = λ p es bytes rows named input heights quiet.
          let more = touches p es rows (opened-over p es named.names (front quiet.faults)) heights (back quiet.faults) in let one = o.touches in omega (arith, one, more);
      touched = by-kind;
      unready = λ e is. record { told = same; left = refl; reads = refl };
      unplaced = λ p es names stood none. absurd none;
      leaves = record { head = if-err done _ (ap head_in same); writes = same-writes; idle = λ p es bytes stands calm same. absurd cc };
    }
      where
        finds : (s : Standing) → TellsAs X N a.told s → Stood a.faults b.faults → FindsAll (ended done)
        finds NoHead stands stood = absurd (o.opens NoHead stands (front stood))
        finds BadHead stands stood = absurd (o.opens BadHead stands (front stood))
        finds (Stands p es) stands stood = sent-finds X N path.names h h2 (range_at offset count path.names es) r done sent (λ other. answer p es (o.opens (Stands p es) stands (front stood)) (back stood) other)

        by-kind : IsBlaming (refusal_fault done) → t0 < t2
        by-kind = (counts-then o.touched (sent-touched r done t1 t2 sent touched)).risen

        bad-of-read : {role : Role} {bytes : List ℕ} → IsBadRead X N a.told found.root.cid role bytes → IsBadIn X N a.told b.told role bytes
        bad-of-read (inl bad) = inl (record { head = head_of found; is_told = o.head; bad = bad })
        bad-of-read (inr bad) = inr (inl bad)

        same-writes : WritesAs X NoWrites (is_done (ended done)) a.told b.told
        same-writes = same
