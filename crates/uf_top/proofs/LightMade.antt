-- How a light proof is made of the tree that the Head names.
use Rattle.std.proofs.Common.{◌≡◌, ◌≢◌, ◌⊎◌, ℕ, ◌<◌, ◌≤◌, ◌+◌, List, ◌++◌, length, Bool, true, false, arith, refl, sym, ap, subst, ◌∙◌, inl, inr, None, Some, Result, Ok, Err}
use Rattle.std.specs.Prelude.{IfErr, IsOk, IsTrue, ⊤}
use Rattle.uf_cid.specs.Blocks.{Held}
use Rattle.uf_edge.specs.Counts.{Counts, Stood}
use Rattle.uf_edge.specs.Streams.{after, AppendsPrefix}
use Rattle.uf_edge.specs.Streams as streams
use Rattle.uf_car.specs.Exporting.{WritesAll}
use Rattle.uf_light.specs.Answers.{Proves, RefusesLight, is_light_sink, light_fault}
use Rattle.uf_light.specs.Bad.{IsBadLight, IsBadOnPath, IsBadThere}
use Rattle.uf_light.specs.Bad as paths
use Rattle.uf_light.specs.Light.{HasHeight, light_says, light_text, proof_of}
use Rattle.uf_light.specs.Needs.{proof_needs, proof_touches}
use Rattle.uf_light.specs.Sending.{IsNoCar}
use Rattle.uf_light.specs.Standing.{IsAgreedAt}
use Rattle.uf_light.specs.Touches as touching
use Rattle.uf_light.specs.declared.fault.LightFault.{LightFault}
use Rattle.uf_light.specs.declared.fault.LightFault.TheVariants as light
use Rattle.uf_cid.specs.declared.cid.Cid.{Cid}
use Rattle.uf_mfs.specs.Bad.{IsBad, IsBadInHead, IsBadInTree}
use Rattle.uf_mfs.specs.Bad as trees
use Rattle.uf_light.proofs.Needed.{needs-among, proves-among, same-shown}
use Rattle.uf_mfs.specs.Reading.{AreHeights, CanRise}
use Rattle.uf_mfs.specs.Standing.{NamesOver, StandsOver, TellsAs, TellsHeld, head_in}
use Rattle.uf_mfs.specs.Touches.{IsBlaming}
use Rattle.uf_mfs.specs.declared.mfs.Mfs.{Mfs}
use Rattle.uf_mfs.proofs.Holding.{loss-back, loss-fault}
use Rattle.uf_mfs.proofs.Ranges.{stood-calm}
use Rattle.uf_path.specs.declared.path.Path.{Path}
use Rattle.uf_plain.specs.Edits.{at}
use Rattle.uf_plain.specs.Needs.{root_of, way}
use Rattle.uf_plain.specs.Rules.{rule_of}
use Rattle.uf_plain.specs.declared.rule.Refused.{Refused}
use Rattle.uf_plain.specs.declared.rule.Refused.TheVariants as why
use Rattle.uf_plain.specs.declared.rule.Rule.{Rule}
use Rattle.uf_store.specs.Contents.{Told}
use Rattle.uf_store.specs.Faults.{Rises, Shown, StaysCalm}
use Rattle.uf_store.specs.Seen.{Seen}
use Rattle.uf_store.specs.declared.store.Role.{Role}
use Rattle.uf_store.specs.declared.store.Role.TheVariants.{Directory, Shard, FileNode, Leaf}
use Rattle.uf_store.specs.declared.store.StoreFault.{StoreFault}
use Rattle.uf_store.specs.declared.store.StoreFault.TheVariants as fault
use Rattle.uf_store.proofs.Calls.{shown-after, shown-by, shown-rises, stood-back, stood-front}
use Rattle.uf_store.proofs.Causes.{calm-memory}
use Rattle.uf_tree.specs.Standing.{Standing, NoHead, BadHead, Stands}
use Rattle.uf_tree.specs.Profiles.{is_profile}
use Rattle.uf_tree.specs.Tree.{Dir, Entries, File, Tree}
use Rattle.uf_tree.specs.TreePlan.{blocks}
use Rattle.uf_tree.specs.declared.nodes.Entry.{Entry}
use Rattle.uf_tree.specs.declared.profile.Profile.{Profile}
use Rattle.uf_command.specs.Natures.{NoWrites}
use Rattle.uf_command.specs.Kinds.{fault_behind, refusal_fault}
use Rattle.uf_command.specs.Statuses.{ended, no_memory}
use Rattle.uf_command.specs.declared.types.Command.TheVariants.{Prove}
use Rattle.uf_command.specs.declared.types.Refusal.{Refusal}
use Rattle.uf_command.specs.declared.types.Refusal.TheVariants as refusal
use Rattle.uf_top.specs.Answering.{DoesReply, DoesWant}
use Rattle.uf_top.specs.Around.{HostSide, RisesFor, SinkSide, around}
use Rattle.uf_top.specs.Causes.{IsBadIn, IsReadyBy, is_write}
use Rattle.uf_top.specs.Endings.{EndsBy, FindsAll, PrintsPart}
use Rattle.uf_top.specs.Light.{EndsLight, IsLightTold, height_found, light_refusal, proof_told}
use Rattle.uf_top.specs.Losing.{DoesOver, rows_found}
use Rattle.uf_top.specs.Naming.{NamesAfter, NamesAs}
use Rattle.uf_top.specs.Opening.{OpensTree}
use Rattle.uf_top.specs.Reply.{in_tree, prove_reply, unchanged}
use Rattle.uf_top.specs.Shapes.{WritesAs, is_done}
use Rattle.uf_top.specs.Working.{Does, Makes}
use Rattle.uf_top.proofs.Classed.{tree-counts, unopened-kinds}
use Rattle.uf_top.proofs.FileSent.{BySink, ByRule, ByStore, SentKind, Whole, height-of, if-err, none-printed, sent-kinds, sent-prints, sent-ready, sent-reads}
use Rattle.uf_top.proofs.Finding.{unopened-whole}
use Rattle.uf_top.proofs.InTree.{not-opened}
use Rattle.uf_top.proofs.Losing.{names-of, names-same, opening-over}
use Rattle.uf_top.proofs.Printing.{of-no-host, refused-does}
use Rattle.uf_top.proofs.Refusing.{by-unopened}
use Rattle.uf_top.proofs.Shows.{bad-of-none, head_of, none-long}
use Rattle.uf_top.proofs.Standings.{stands-same, tells-none}
use Rattle.uf_top.proofs.Tall.{found-tall}

-- ---- how it ended

-- what became of a call, by its fault: it was done; a rule refused it, or there was no memory for that; the output failed;
-- or the store did
module _ (names : List (List ℕ)) (C : Result ℕ LightFault → Result (Unit {0}) Refusal → Type 0) (whole : (n : ℕ) → C (Ok n) (Ok tt))
    (refused : (f : LightFault) (rule : Rule) → light_fault {A = ℕ} (Err f) ≡ None → is_light_sink {A = ℕ} (Err f) ≡ false → light_refusal names f ≡ refusal.Rule rule → C (Err f) (Err (refusal.Rule rule)))
    (wanted : (f : LightFault) → light_fault {A = ℕ} (Err f) ≡ None → is_light_sink {A = ℕ} (Err f) ≡ false → C (Err f) (Err no_memory))
    (cut : C (Err light.Sink) (Err refusal.Write)) (stopped : (f : StoreFault) → C (Err (light.Store f)) (Err (refusal.Store f))) where
  by-fault : (f : LightFault) (given : Refusal) → IsLightTold names f given → IsNoCar f → C (Err f) (Err given)
  by-fault (light.NotFound k) given (inl x) own = subst (λ g. C (Err (light.NotFound k)) (Err g)) (sym x.0) (wanted (light.NotFound k) refl refl)
  by-fault (light.NotFound k) given (inr e) own = subst (λ g. C (Err (light.NotFound k)) (Err g)) (sym e) (refused (light.NotFound k) (rule_of names (why.NotFound (k + 1))) refl refl refl)
  by-fault (light.NotADirectory k) given (inl x) own = subst (λ g. C (Err (light.NotADirectory k)) (Err g)) (sym x.0) (wanted (light.NotADirectory k) refl refl)
  by-fault (light.NotADirectory k) given (inr e) own = subst (λ g. C (Err (light.NotADirectory k)) (Err g)) (sym e) (refused (light.NotADirectory k) (rule_of names (why.NotADirectory k)) refl refl refl)
  by-fault light.IsADirectory given (inl x) own = subst (λ g. C (Err light.IsADirectory) (Err g)) (sym x.0) (wanted light.IsADirectory refl refl)
  by-fault light.IsADirectory given (inr e) own = subst (λ g. C (Err light.IsADirectory) (Err g)) (sym e) (refused light.IsADirectory (rule_of names (why.IsADirectory (length names))) refl refl refl)
  by-fault light.Exists given (inl x) own = subst (λ g. C (Err light.Exists) (Err g)) (sym x.0) (wanted light.Exists refl refl)
  by-fault light.Exists given (inr e) own = subst (λ g. C (Err light.Exists) (Err g)) (sym e) (refused light.Exists (rule_of names (why.Exists (length names))) refl refl refl)
  by-fault (light.OtherRoot cid) given h own = absurd own
  by-fault (light.Car f) given h own = absurd own
  by-fault light.Sink given (inl x) own = absurd x.1
  by-fault light.Sink given (inr e) own = subst (λ g. C (Err light.Sink) (Err g)) (sym e) cut
  by-fault (light.Store f) given (inl x) own = absurd x.1
  by-fault (light.Store f) given (inr e) own = subst (λ g. C (Err (light.Store f)) (Err g)) (sym e) (stopped f)

  by-end : (r : Result ℕ LightFault) (done : Result (Unit {0}) Refusal) → EndsLight names r done → IfErr r IsNoCar → C r done
  by-end (Ok n) done e own = subst (λ d. C (Ok n) d) (sym e) (whole n)
  by-end (Err f) (Ok x) e own = absurd e
  by-end (Err f) (Err given) e own = by-fault f given e own

kind-of : (names : List (List ℕ)) (r : Result ℕ LightFault) (done : Result (Unit {0}) Refusal) → EndsLight names r done → IfErr r IsNoCar → SentKind done
kind-of names = by-end names (λ r done. SentKind done) (λ n. Whole refl) (λ f rule none quiet is. ByRule rule refl) (λ f none quiet. ByStore fault.Memory refl) (BySink refl) (λ f. ByStore f refl)

-- what it shows, and how often its output failed
module _ (names : List (List ℕ)) (hash : List ℕ → List ℕ) (P : Role → List ℕ → Type 0) (a b : Seen) (w v t1 t2 : ℕ) (r : Result ℕ LightFault) (done : Result (Unit {0}) Refusal) (ends : EndsLight names r done) (own : IfErr r IsNoCar) where
  proof-shown : Shown hash P (light_fault r) a b → Shown hash P (refusal_fault done) a b
  proof-shown = by-end names (λ r done. Shown hash P (light_fault r) a b → Shown hash P (refusal_fault done) a b) (λ n h. h)
      (λ f rule none quiet is h. subst (λ x. Shown hash P x a b) none h) (λ f none quiet h. calm-memory a b (subst (λ x. Shown hash P x a b) none h)) (λ h. h) (λ f h. h) r done ends own

  proof-counts : Counts (is_light_sink r) w v → RisesFor (is_write done) w v
  proof-counts = by-end names (λ r done. Counts (is_light_sink r) w v → RisesFor (is_write done) w v) (λ n h. record { rose = λ e. absurd cc; still = λ e. h.still refl })
      (λ f rule none quiet is h. record { rose = λ e. absurd cc; still = λ e. h.still quiet }) (λ f none quiet h. record { rose = λ e. absurd cc; still = λ e. h.still quiet })
      (λ h. record { rose = λ e. h.rose refl; still = λ e. absurd cc }) stopped r done ends own
    where
      stopped : (f : StoreFault) → Counts (is_light_sink {A = ℕ} (Err (light.Store f))) w v → RisesFor (is_write {A = Unit {0}} (Err (refusal.Store f))) w v
      stopped fault.Failed h = record { rose = λ e. absurd cc; still = λ e. h.still refl }
      stopped (fault.Damaged cid) h = record { rose = λ e. absurd cc; still = λ e. h.still refl }
      stopped (fault.Missing cid) h = record { rose = λ e. absurd cc; still = λ e. h.still refl }
      stopped (fault.BadBlock cid role) h = record { rose = λ e. absurd cc; still = λ e. h.still refl }
      stopped (fault.Clash cid first second) h = record { rose = λ e. absurd cc; still = λ e. h.still refl }
      stopped fault.Memory h = record { rose = λ e. absurd cc; still = λ e. h.still refl }

  proof-touched : (touching.IsBlaming (light_fault r) → t1 < t2) → IsBlaming (refusal_fault done) → t1 < t2
  proof-touched = by-end names (λ r done. (touching.IsBlaming (light_fault r) → t1 < t2) → IsBlaming (refusal_fault done) → t1 < t2) (λ n h blames. absurd blames)
      (λ f rule none quiet is h blames. absurd blames) (λ f none quiet h blames. absurd blames) (λ h blames. absurd blames) stopped r done ends own
    where
      stopped : (f : StoreFault) → (touching.IsBlaming (light_fault {A = ℕ} (Err (light.Store f))) → t1 < t2) → IsBlaming (refusal_fault {A = Unit {0}} (Err (refusal.Store f))) → t1 < t2
      stopped fault.Failed h blames = absurd blames
      stopped (fault.Damaged c) h blames = absurd blames
      stopped (fault.Missing c) h blames = absurd blames
      stopped (fault.BadBlock c role) h blames = h tt
      stopped (fault.Clash c first second) h blames = absurd blames
      stopped fault.Memory h blames = absurd blames

-- a block that is bad on a path is so in the tree with this root
module _ (hash : List ℕ → List ℕ) (N : List ℕ → ℕ) (root : Cid) where
  there : (role : Role) (bytes : List ℕ) → IsBadThere N role bytes → IsBad N None role bytes
  there Directory bytes bad = bad
  there (Shard level) bytes bad = bad
  there FileNode bytes bad = absurd bad
  there Leaf bytes bad = absurd bad

  required : (digest : List ℕ) → paths.RequiresDirectory hash root digest → trees.RequiresDirectory hash root digest
  required digest (paths.AtRoot e) = trees.AtRoot e
  required digest (paths.AsMet block e canonical) = trees.AsMet block e canonical

  in-tree : (role : Role) (bytes : List ℕ) → IsBadOnPath hash N root role bytes → IsBadInTree hash N None root role bytes
  in-tree role bytes h = record { bad = there role bytes h.bad; required = λ is node. required (hash bytes) (h.required is node) }

-- ---- what it answers

-- a refusal that is none of the store or of the output is the plain tree's, and nothing was written
plainly : (told : Told) (l : List Held) (text : List ℕ) (said : Result (List ℕ) LightFault) (f : LightFault) (h h2 : streams.Told) → light_fault {A = ℕ} (Err f) ≡ None → is_light_sink {A = ℕ} (Err f) ≡ false
    → Proves told l text said (Err f) h h2 → RefusesLight said f h h2
plainly told l text said (light.NotFound k) h h2 none quiet pr = pr
plainly told l text said (light.NotADirectory k) h h2 none quiet pr = pr
plainly told l text said light.IsADirectory h h2 none quiet pr = pr
plainly told l text said light.Exists h h2 none quiet pr = pr
plainly told l text said (light.OtherRoot cid) h h2 none quiet pr = pr
plainly told l text said (light.Car f) h h2 none quiet pr = pr
plainly told l text said light.Sink h h2 none quiet pr = absurd cc
plainly told l text said (light.Store f) h h2 none quiet pr = absurd cc

module _ (X : List ℕ → List ℕ) (N : List ℕ → ℕ) (names : List (List ℕ)) (h h2 : streams.Told) (text : List ℕ) where
  ends-ok : (said : Result (List ℕ) LightFault) (n : ℕ) → IsOk said → WritesAll text n h h2 → EndsBy (proof_told names text said) (Ok tt) h h2
  ends-ok (Ok bytes) n ok wrote = (refl, wrote.written)
  ends-ok (Err f) n ok wrote = absurd (let k : false ≡ true = ok in cc)

  ends-refused : (said : Result (List ℕ) LightFault) (f : LightFault) (rule : Rule) → said ≡ Err f → light_refusal names f ≡ refusal.Rule rule → h2 ≡ h → EndsBy (proof_told names text said) (Err (refusal.Rule rule)) h h2
  ends-refused said f rule is same unwritten =
      subst (λ e. EndsBy e (Err (refusal.Rule rule)) h h2) (sym (ap (proof_told names text) is ∙ ap (λ (g : Refusal). Err g) same)) (refl, unwritten)

  front-printed : (said : Result (List ℕ) LightFault) → AppendsPrefix (proof_of said text) h h2 → PrintsPart (proof_told names text said) h h2
  front-printed = by
    where
      by : (said : Result (List ℕ) LightFault) → AppendsPrefix (proof_of said text) h h2 → PrintsPart (proof_told names text said) h h2
      by (Ok bytes) part = part
      by (Err f) part = none-printed h h2 part

  module _ (said : Result (List ℕ) LightFault) (r : Result ℕ LightFault) (done : Result (Unit {0}) Refusal) (ends : EndsLight names r done) (own : IfErr r IsNoCar) where
    -- the reply, or want of memory
    answered : (now : Told) (s : Standing) (told : Told) (l : List Held) → TellsHeld told l → TellsAs X N now s → Proves told l text said r h h2 → r ≢ Err light.Sink
        → DoesWant X N true s done now ⊎ DoesReply X N true (unchanged s (proof_told names text said)) done h h2 now
    answered now s told l held stands = by-end names
        (λ r done. Proves told l text said r h h2 → r ≢ Err light.Sink → DoesWant X N true s done now ⊎ DoesReply X N true (unchanged s (proof_told names text said)) done h h2 now)
        (λ n pr other. inr (record { ends = ends-ok said n pr.0 pr.1; stands = stands; blocks = tells-none X N now s stands }))
        (λ f rule none quiet is pr other. (let q = plainly told l text said f h h2 none quiet pr in inr (record { ends = ends-refused said f rule q.refused is q.unwritten; stands = stands; blocks = tells-none X N now s stands })))
        (λ f none quiet pr other. inl (record { ends_are = refl; stands = stands }))
        (λ pr other. absurd (other refl))
        stopped r done ends own
      where
        stopped : (f : StoreFault) → Proves told l text said (Err (light.Store f)) h h2 → ◌≢◌ {A = Result ℕ LightFault} (Err (light.Store f)) (Err light.Sink)
            → DoesWant X N true s (Err (refusal.Store f)) now ⊎ DoesReply X N true (unchanged s (proof_told names text said)) (Err (refusal.Store f)) h h2 now
        stopped fault.Failed pr other = absurd pr
        stopped (fault.Damaged c) pr other = absurd pr
        stopped (fault.Missing c) pr other = absurd (let e : fault.Missing c ≡ fault.Memory = loss-fault told l (fault.Missing c) held pr.0 in cc)
        stopped (fault.BadBlock c role) pr other = absurd pr
        stopped (fault.Clash c first second) pr other = absurd pr
        stopped fault.Memory pr other = inl (record { ends_are = refl; stands = stands })

    -- the reply, or a block is lost
    answered-over : (c d : Told) (p : Profile) (es : Entries) (first l : List Held) → NamesAfter X N c d (blocks X N p (Dir es)) p es → Proves c l text said r h h2 → r ≢ Err light.Sink
        → DoesOver X N c d p es (first ++ l) (unchanged (Stands p es) (proof_told names text said)) done h h2
    answered-over c d p es first l stands = by-end names
        (λ r done. Proves c l text said r h h2 → r ≢ Err light.Sink → DoesOver X N c d p es (first ++ l) (unchanged (Stands p es) (proof_told names text said)) done h h2)
        (λ n pr other. inr (record { ends = ends-ok said n pr.0 pr.1; stands = stands }))
        (λ f rule none quiet is pr other. (let q = plainly c l text said f h h2 none quiet pr in inr (record { ends = ends-refused said f rule q.refused is q.unwritten; stands = stands })))
        (λ f none quiet pr other. inl (record { fault = fault.Memory; ends_are = refl; loss = tt; stands = stands }))
        (λ pr other. absurd (other refl))
        stopped r done ends own
      where
        stopped : (f : StoreFault) → Proves c l text said (Err (light.Store f)) h h2 → ◌≢◌ {A = Result ℕ LightFault} (Err (light.Store f)) (Err light.Sink)
            → DoesOver X N c d p es (first ++ l) (unchanged (Stands p es) (proof_told names text said)) (Err (refusal.Store f)) h h2
        stopped fault.Failed pr other = absurd pr
        stopped (fault.Damaged k) pr other = absurd pr
        stopped (fault.Missing k) pr other = inl (record { fault = fault.Missing k; ends_are = refl; loss = loss-back c first l (fault.Missing k) pr.0; stands = stands })
        stopped (fault.BadBlock k role) pr other = absurd pr
        stopped (fault.Clash k one two) pr other = absurd pr
        stopped fault.Memory pr other = inl (record { fault = fault.Memory; ends_are = refl; loss = tt; stands = stands })

    -- no block is missing or bad
    proof-finds : (told : Told) (l : List Held) → TellsHeld told l → Proves told l text said r h h2 → FindsAll (ended done)
    proof-finds told l held = by-end names (λ r done. Proves told l text said r h h2 → FindsAll (ended done)) (λ n pr. (λ e. cc, λ e. cc)) (λ f rule none quiet is pr. (λ e. cc, λ e. cc)) (λ f none quiet pr. (λ e. cc, λ e. cc)) (λ pr. (λ e. cc, λ e. cc))
        stopped r done ends own
      where
        stopped : (f : StoreFault) → Proves told l text said (Err (light.Store f)) h h2 → FindsAll (ended {A = Unit {0}} (Err (refusal.Store f)))
        stopped fault.Failed pr = absurd pr
        stopped (fault.Damaged c) pr = absurd pr
        stopped (fault.Missing c) pr = absurd (let e : fault.Missing c ≡ fault.Memory = loss-fault told l (fault.Missing c) held pr.0 in cc)
        stopped (fault.BadBlock c role) pr = absurd pr
        stopped (fault.Clash c first second) pr = absurd pr
        stopped fault.Memory pr = (λ e. cc, λ e. cc)

-- where no writing failed it isn't that
not-sink : (w v : ℕ) (r : Result ℕ LightFault) → Counts (is_light_sink r) w v → Stood w v → r ≢ Err light.Sink
not-sink w v r counts stood e = absurd (let rose = counts.rose (ap (λ (x : Result ℕ LightFault). is_light_sink x) e) in omega (arith, rose, stood))

-- an opened tree is agreed with
agreed-of : (X : List ℕ → List ℕ) (N : List ℕ → ℕ) (told : Told) (found : Mfs) (p : Profile) (es : Entries) → StandsOver X N told found p es → IsAgreedAt X N told p found.root.cid (Dir es)
agreed-of X N told found p es at = record {
  plan = record { profile = at.root.plan.profile; tree = at.root.plan.tree; planned = at.root.plan.planned; is = ap (λ (e : Entry). e.cid) at.root.plan.is };
  agrees = at.root.agrees;
}

-- the rows of a file are its height
rows-tall : (p : Profile) (rows : ℕ → ℕ) (w : Result Tree Refused) → IsTrue (is_profile p) → AreHeights p rows → HasHeight p (rows_found rows w) w
rows-tall p rows (Ok (File m bytes)) ok heights = height-of p rows (Ok (File m bytes)) ok heights
rows-tall p rows (Ok (Dir es)) ok heights = tt
rows-tall p rows (Err why) ok heights = tt

held-of : (X : List ℕ → List ℕ) (N : List ℕ → ℕ) (told : Told) (p : Profile) (es : Entries) → TellsAs X N told (Stands p es) → TellsHeld told (blocks X N p (Dir es))
held-of X N None p es stands = absurd stands
held-of X N (Some t) p es stands = stands.blocks_held

module _ (X : List ℕ → List ℕ) (N : List ℕ → ℕ) (absent : Bool) (path : Path) (a m : Seen) (l : streams.Told) (i : ℕ) (h : streams.Told) (w t0 t1 : ℕ) (side : HostSide) (er er2 : SinkSide) where
  -- ---- the tree isn't opened

  pub prove-unopened : (why : Refusal) → OpensTree X N (Err why) a m t0 t1 → Does X N (Prove absent path) (Err why) (around a l i h w t0 side er) (around m l i h w t1 side er2)
  prove-unopened why o = refused-does X N (Prove absent path) refl a m l l i i t0 t1 h w side side er er2 why makes
    where
      told : m.told ≡ a.told
      told = o.reads.told

      makes : Makes X N (Prove absent path) (Err why) (around a l i h w t0 side er) (around m l i h w t1 side er2)
      makes = record {
        answers = λ world stands input calm. not-opened X N world.standing (prove_reply X N absent path.names) why m.told (o.opens world.standing stands calm.faults) (stands-same X N a.told m.told world.standing told stands);
        lost = λ p es rows held bytes named input calm.
            opening-over X N a.told m.told p es (proof_needs X N p (rows_found rows (at 0 path.names (Dir es))) absent path.names (Dir es)) (prove_reply X N absent path.names p es) why (o.lost p es named.names calm.faults)
            (names-same X N a.told m.told p es told named);
        kinds = unopened-kinds a.told why o.refused;
        ready = by-unopened (IsReadyBy a.told (Prove absent path)) a.told why (λ reason head. head) (λ f. tt) o.refused;
        adds = tt;
        kept = tt;
        reads = tree-counts (Err why) i (unopened-kinds a.told why o.refused);
        host = refl;
        rows = tt;
        cause = shown-by X (IsBadInHead X N a.told) (IsBadIn X N a.told m.told) (fault_behind why) a m (bad-of-none X N a.told m.told) o.reads.cause;
        touches = λ p es bytes rows named input heights calm. let one = o.touches in omega (arith, one);
        whole = λ s stands calm. unopened-whole X N s why m.told (o.opens s stands calm.faults);
        touched = o.touched.risen;
        unready = λ e is. record { told = told; left = refl; reads = refl };
        unplaced = λ p es names stood none. absurd none;
        leaves = record { head = ap head_in told; writes = told; idle = λ p es bytes stands calm same. absurd cc };
      }

  -- ---- the tree is opened, and the proof is made

  module _ (found : Mfs) (o : OpensTree X N (Ok found) a m t0 t1) (b : Seen) (h2 : streams.Told) (w2 t2 : ℕ) (r : Result ℕ LightFault) (done : Result (Unit {0}) Refusal) (ends : EndsLight path.names r done) (own : IfErr r IsNoCar)
      (proves : (p : Profile) (t : Tree) (height : ℕ) → IsAgreedAt X N m.told p found.root.cid t → Stood m.faults b.faults → HasHeight p height (at 0 path.names t)
      → Proves m.told (proof_needs X N p height absent path.names t) (light_text X N p height path.names t) (light_says absent path.names (at 0 path.names t)) r h h2)
      (prefix : (p : Profile) (t : Tree) (height : ℕ) → IsAgreedAt X N m.told p found.root.cid t → CanRise m.faults → HasHeight p height (at 0 path.names t)
      → AppendsPrefix (proof_of (light_says absent path.names (at 0 path.names t)) (light_text X N p height path.names t)) h h2)
      (bytes : List ℕ) (sends : h2 ≡ after h bytes) (cause : Shown X (IsBadLight X N m.told found.root.cid) (light_fault r) m b) (told2 : b.told ≡ m.told)
      (counts : Counts (is_light_sink r) w w2) (touched : touching.IsBlaming (light_fault r) → t1 < t2)
      (few : (p : Profile) (t : Tree) (height : ℕ) → IsAgreedAt X N m.told p found.root.cid t → Stood m.faults b.faults → HasHeight p height (at 0 path.names t) → t2 ≤ t1 + proof_touches X N p height absent path.names t) where
    told : m.told ≡ a.told
    told = o.reads.told

    same : b.told ≡ a.told
    same = told2 ∙ told

    calm : StaysCalm a m
    calm = o.reads.cause

    kind : SentKind done
    kind = kind-of path.names r done ends own

    rises : Rises m b
    rises = shown-rises X (IsBadLight X N m.told found.root.cid) (light_fault r) m b cause

    front : Stood a.faults b.faults → Stood a.faults m.faults
    front stood = stood-front a.faults m.faults b.faults calm.faults rises.faults stood

    back : Stood a.faults b.faults → Stood m.faults b.faults
    back stood = stood-back a.faults m.faults b.faults calm.faults stood

    opened-over : (p : Profile) (es : Entries) → NamesOver X N a.told p es → Stood a.faults m.faults → StandsOver X N m.told found p es
    opened-over p es names stood = subst (λ t. StandsOver X N t found p es) (sym told) (o.lost p es names stood)

    -- the text of the reply, and what is said
    module _ (p : Profile) (es : Entries) where
      abbrev Text : List ℕ
      Text = light_text X N p (height_found p (at 0 path.names (Dir es))) path.names (Dir es)

      abbrev Says : Result (List ℕ) LightFault
      Says = light_says absent path.names (at 0 path.names (Dir es))

      abbrev Needs : ℕ → List Held
      Needs height = proof_needs X N p height absent path.names (Dir es)

      needs-at : StandsOver X N m.told found p es → Stood m.faults b.faults → Proves m.told (Needs (height_found p (at 0 path.names (Dir es)))) Text Says r h h2
      needs-at opened stood = proves p (Dir es) _ (agreed-of X N m.told found p es opened) stood (found-tall p (at 0 path.names (Dir es)) opened.root.plan.profile)

      -- whatever rows the file is said to have
      needs-by : (height : ℕ) → HasHeight p height (at 0 path.names (Dir es)) → StandsOver X N m.told found p es → Stood m.faults b.faults → Proves m.told (Needs height) Text Says r h h2
      needs-by height tall opened stood =
          subst (λ (l : List Held). Proves m.told (way X N p path.names (Dir es) ++ l) Text Says r h h2)
          (same-shown X N p (height_found p (at 0 path.names (Dir es))) height absent (at 0 path.names (Dir es)) (found-tall p (at 0 path.names (Dir es)) opened.root.plan.profile) tall) (needs-at opened stood)

      proves-at : StandsOver X N m.told found p es → Stood m.faults b.faults → Proves m.told (blocks X N p (Dir es)) Text Says r h h2
      proves-at opened stood =
          proves-among m.told (Needs (height_found p (at 0 path.names (Dir es)))) (blocks X N p (Dir es)) Text Says r h h2
          (needs-among X N p (height_found p (at 0 path.names (Dir es))) absent path.names (Dir es) found.root.cid (agreed-of X N m.told found p es opened).plan (found-tall p (at 0 path.names (Dir es)) opened.root.plan.profile)) (needs-at opened stood)

      front-at : StandsOver X N m.told found p es → CanRise m.faults → AppendsPrefix (proof_of Says Text) h h2
      front-at opened room = prefix p (Dir es) _ (agreed-of X N m.told found p es opened) room (found-tall p (at 0 path.names (Dir es)) opened.root.plan.profile)

    ok-answer : (s : Standing) → TellsAs X N a.told s → Stood a.faults b.faults → r ≢ Err light.Sink
        → DoesWant X N true s done b.told ⊎ DoesReply X N true (in_tree (prove_reply X N absent path.names) s) done h h2 b.told
    ok-answer NoHead stands stood other = absurd (o.opens NoHead stands (front stood))
    ok-answer BadHead stands stood other = absurd (o.opens BadHead stands (front stood))
    ok-answer (Stands p es) stands stood other =
        answered X N path.names h h2 (Text p es) (Says p es) r done ends own b.told (Stands p es) m.told (blocks X N p (Dir es))
        (subst (λ t. TellsHeld t (blocks X N p (Dir es))) (sym told) (held-of X N a.told p es stands)) (stands-same X N a.told b.told (Stands p es) same stands)
        (proves-at p es (opened-over p es (names-of X N a.told p es stands) (front stood)) (back stood)) other

    printed : (s : Standing) → NamesAs X N a.told b.told s → CanRise a.faults → PrintsPart (in_tree (prove_reply X N absent path.names) s).ends h h2
    printed NoHead names had = absurd (o.opens NoHead names (stood-calm a.faults m.faults calm.faults had))
    printed BadHead names had = absurd (o.opens BadHead names (stood-calm a.faults m.faults calm.faults had))
    printed (Stands p es) named had =
        front-printed X N path.names h h2 (Text p es) (Says p es)
        (front-at p es (opened-over p es named.names (stood-calm a.faults m.faults calm.faults had)) (subst CanRise (sym calm.faults) had))

    pub proves-does : Does X N (Prove absent path) done (around a l i h w t0 side er) (around b l i h2 w2 t2 side er2)
    proves-does = record {
      answers = λ world finds input quiet. of-no-host (ok-answer world.standing finds.stands quiet.store.faults (not-sink w w2 r counts quiet.written.output));
      lost = λ p es rows held outside named tells heights input quiet.
          let stood = quiet.store.faults in let opened = opened-over p es named.names (front stood) in
          let height = rows_found rows (at 0 path.names (Dir es)) in
          answered-over X N path.names h h2 (Text p es) (Says p es) r done ends own a.told b.told p es (root_of X N p (Dir es)) (Needs p es height) (names-same X N a.told b.told p es same named)
          (subst (λ t. Proves t (Needs p es height) (Text p es) (Says p es) r h h2) told (needs-by p es height (rows-tall p rows (at 0 path.names (Dir es)) opened.root.plan.profile heights) opened (back stood)))
          (not-sink w w2 r counts quiet.written.output);
      unprinted = λ world after. absurd cc;
      unprinted_over = λ p es held outside after. absurd cc;
      prefix = λ world finds input had. printed world.standing finds.names had.faults;
      prints = sent-prints (λ text. ⊤) h h2 bytes tt sends done kind;
      kinds = sent-kinds done kind;
      ready = sent-ready a.told (Prove absent path) done kind;
      long = none-long done;
      reads = sent-reads done i kind;
      host = refl;
      gets = tt;
      pins = tt;
      kept = tt;
      writes = proof-counts path.names X (IsBadLight X N m.told found.root.cid) m b w w2 t1 t2 r done ends own counts;
      cause = shown-after X (IsBadIn X N a.told b.told) (refusal_fault done) a m b calm
          (shown-by X (IsBadLight X N m.told found.root.cid) (IsBadIn X N a.told b.told) (refusal_fault done) m b
          (λ role block bad. bad-of role block (subst (λ t. IsBadLight X N t found.root.cid role block) told bad)) (proof-shown path.names X (IsBadLight X N m.told found.root.cid) m b w w2 t1 t2 r done ends own cause));
      whole = λ s needs stands quiet. finds s stands quiet.faults;
      touches = λ p es input rows named given heights quiet.
          let opened = opened-over p es named.names (front quiet.faults) in
          let more =
          few p (Dir es) (rows_found rows (at 0 path.names (Dir es))) (agreed-of X N m.told found p es opened) (back quiet.faults) (rows-tall p rows (at 0 path.names (Dir es)) opened.root.plan.profile heights) in
          let one = o.touches in omega (arith, one, more);
      touched = λ blames. (let k = o.touched.kept in let more = proof-touched path.names X (IsBadLight X N m.told found.root.cid) m b w w2 t1 t2 r done ends own touched blames in omega (arith, k, more));
      unready = λ e is. record { told = same; left = refl; reads = refl };
      unplaced = λ p es names stood none. absurd none;
      leaves = record { head = if-err done _ (ap head_in same); writes = same-writes; idle = λ p es input stands calm same. absurd cc };
    }
      where
        finds : (s : Standing) → TellsAs X N a.told s → Stood a.faults b.faults → FindsAll (ended done)
        finds NoHead stands stood = absurd (o.opens NoHead stands (front stood))
        finds BadHead stands stood = absurd (o.opens BadHead stands (front stood))
        finds (Stands p es) stands stood =
            proof-finds X N path.names h h2 (Text p es) (Says p es) r done ends own m.told (blocks X N p (Dir es)) (subst (λ t. TellsHeld t (blocks X N p (Dir es))) (sym told) (held-of X N a.told p es stands))
            (proves-at p es (opened-over p es (names-of X N a.told p es stands) (front stood)) (back stood))

        bad-of : (role : Role) (block : List ℕ) → IsBadLight X N a.told found.root.cid role block → IsBadIn X N a.told b.told role block
        bad-of role block (inl bad) = inl (record { head = head_of found; is_told = o.head; bad = in-tree X N found.root.cid role block bad })
        bad-of role block (inr bad) = inr (inl bad)

        same-writes : WritesAs X NoWrites (is_done (ended done)) a.told b.told
        same-writes = same
