-- That the root CID is a function of the tree alone.
use Rattle.std.proofs.Common.{◌≡◌, ◌∙◌, ℕ, List, [], ◌∷◌, Bool, true, false, refl, sym, ap, subst, inl, inr, Option, None, Some, Result, Ok, Err}
use Rattle.std.specs.Prelude.{◌⊎◌, ◌==◌, codes, slice_index, ⊤}
use Rattle.uf_cid.specs.Blocks.{Held, Lookup}
use Rattle.uf_cid.specs.declared.cid.Cid.{Cid}
use Rattle.uf_edge.specs.Host.{HostTree}
use Rattle.uf_host.specs.HostTree.{tree_on_host}
use Rattle.uf_host.specs.declared.fault.HostFault.{HostFault}
use Rattle.uf_mfs.specs.Standing.{Commits, Idle, LeavesHead, SavesThen, TellsAs, Written, head_in}
use Rattle.uf_mfs.proofs.Starting.{leaves-head, saves-head}
use Rattle.uf_path.specs.declared.path.Path.{Path}
use Rattle.uf_plain.specs.Edits.{at}
use Rattle.uf_command.specs.Commands.{of_command}
use Rattle.uf_command.specs.Dags.{tree_at}
use Rattle.uf_command.specs.Natures.{MakesHead, MovesHead, NoWrites, NotesPins, SyncsBlocks, SyncsPins, WriteShape, command_writes, generates, saves_unless, writes_host}
use Rattle.uf_command.specs.Statuses.{ended, status_of}
use Rattle.uf_command.specs.declared.status.Status.{Status}
use Rattle.uf_command.specs.declared.status.Status.TheVariants as status
use Rattle.uf_command.specs.declared.types.Ask.TheVariants.{Ls, Stat, Edit as Edits}
use Rattle.uf_command.specs.declared.types.Command.{Command}
use Rattle.uf_command.specs.declared.types.Command.TheVariants.{Init, Add, WriteInput, At, Read, Cat, Get, Export, Import, Same, Adopt, Gen, Pin, Prove}
use Rattle.uf_command.specs.declared.types.Adding.TheVariants as adding
use Rattle.uf_command.specs.declared.types.Refusal.{Refusal}
use Rattle.uf_store.specs.Contents.{Told, changed, with_sync, with_text}
use Rattle.uf_store.specs.declared.store.Note.TheVariants.{Head, Pins}
use Rattle.uf_top.specs.Around.{Around, HasOutside}
use Rattle.uf_top.specs.HostTexts.{host_refusal}
use Rattle.uf_top.specs.Reply.{Outside, from_reply, hosted, reply_to, world_of}
use Rattle.uf_top.specs.Shapes.{HeadAfter, WritesAs, WritesFor, is_done}
use Rattle.uf_top.proofs.Inputs.{add-head}
use Rattle.uf_top.proofs.Pins.{pins-head}
use Rattle.uf_top.proofs.Shaped.{head-after}
use Rattle.uf_top.proofs.Standings.{stands-kept}
use Rattle.uf_tree.specs.Heads.{IsHeadText, head_text, text_in}
use Rattle.uf_tree.specs.Profiles.{usual}
use Rattle.uf_tree.specs.Standing.{IsHeadNote, Standing, NoHead, BadHead, Stands}
use Rattle.uf_tree.specs.Tree.{Tree, Dir, Entries}
use Rattle.uf_tree.specs.TreePlan.{entry}
use Rattle.uf_tree.specs.declared.profile.Profile.{Profile}
use Rattle.uf_headline.specs.History.{History, InTurn, IsDone, PrintsFirst, PrintsLast, Step, TakesProfile, left_by, standing_after, told_after, told_before}
use Rattle.uf_headline.specs.OnHost.{tree_on}
use Rattle.uf_headline.specs.Roots.{HostIs, LedTo, RanWell, RootsBy, TakesFrom}
use Rattle.uf_headline.proofs.Afresh.{afresh-prints, stat-prints}
use Rattle.uf_headline.proofs.Doing.{after_step, if_done, left-is, made_by, not-done, step-stands, tells-head}
use Rattle.uf_headline.proofs.Histories.{replied}
use Rattle.uf_headline.proofs.OnHost.{on-host}
use Rattle.uf_headline.proofs.Stepped.{step-ran}

nothing : {A : Type 0} → false ≡ true → A
nothing e = absurd cc

-- ---- what each command takes and leaves

-- whatever it is given, it leaves the tree and the Head as they were
record Keeps (asked : Result Command Refusal) : Type 0 where
  none : (o : Outside) (held : Lookup) → made_by asked o held NoHead ≡ NoHead
  bad : (o : Outside) (held : Lookup) → made_by asked o held BadHead ≡ BadHead
  tree : (o : Outside) (held : Lookup) (p : Profile) (es : Entries) → made_by asked o held (Stands p es) ≡ Stands p es
  head : (X : List ℕ → List ℕ) (done : Bool) (a b : Told) → WritesFor X asked done a b → head_in b ≡ head_in a

-- it is told what it takes from outside, writes nothing to the host, and has no store of its own
record Takes (asked : Result Command Refusal) : Type 0 where
  outside : (o : Outside) (a b : Around) → TakesFrom asked o a b → HasOutside asked o a b
  host : of_command writes_host false asked ≡ false
  own : of_command generates false asked ≡ false

only-synced : (X : List ℕ → List ℕ) (only_hash done : Bool) (a b : Told) → WritesAs X (saves_unless only_hash) done a b → head_in b ≡ head_in a
only-synced X true done a b w = ap head_in w
only-synced X false done a b w = add-head X done a b w

each : (asked : Result Command Refusal) → Keeps asked ⊎ Takes asked
each (Err why) = inl (record { none = λ o held. refl; bad = λ o held. refl; tree = λ o held p es. refl; head = λ X done a b w. ap head_in w })
each (Ok (Init p)) = inr (record { outside = λ o a b t. (λ e. nothing e, λ e. nothing e, λ e. nothing e); host = refl; own = refl })
each (Ok (Add (adding.Input only_hash))) = inl (record { none = λ o held. refl; bad = λ o held. refl; tree = λ o held p es. refl; head = λ X done a b w. only-synced X only_hash done a b w })
each (Ok (Add (adding.Host recursive only_hash path))) = inl (record { none = λ o held. refl; bad = λ o held. refl; tree = λ o held p es. refl; head = λ X done a b w. only-synced X only_hash done a b w })
each (Ok (Add (adding.InputTo dest))) = inr (record { outside = λ o a b t. (λ e. t, λ e. nothing e, λ e. nothing e); host = refl; own = refl })
each (Ok (Add (adding.HostTo recursive path dest))) = inr (record { outside = λ o a b t. (λ e. nothing e, λ e. t, λ e. nothing e); host = refl; own = refl })
each (Ok (WriteInput how path)) = inr (record { outside = λ o a b t. (λ e. t, λ e. nothing e, λ e. nothing e); host = refl; own = refl })
each (Ok (At (Ls long) path)) = inl (record { none = λ o held. refl; bad = λ o held. refl; tree = λ o held p es. refl; head = λ X done a b w. ap head_in w })
each (Ok (At Stat path)) = inl (record { none = λ o held. refl; bad = λ o held. refl; tree = λ o held p es. refl; head = λ X done a b w. ap head_in w })
each (Ok (At (Edits edit) path)) = inr (record { outside = λ o a b t. (λ e. nothing e, λ e. nothing e, λ e. nothing e); host = refl; own = refl })
each (Ok (Read offset count path)) = inl (record { none = λ o held. refl; bad = λ o held. refl; tree = λ o held p es. refl; head = λ X done a b w. ap head_in w })
each (Ok (Prove absent path)) = inl (record { none = λ o held. refl; bad = λ o held. refl; tree = λ o held p es. refl; head = λ X done a b w. ap head_in w })
each (Ok (Cat path)) = inl (record { none = λ o held. refl; bad = λ o held. refl; tree = λ o held p es. refl; head = λ X done a b w. ap head_in w })
each (Ok (Get path host_path)) = inl (record { none = λ o held. refl; bad = λ o held. refl; tree = λ o held p es. refl; head = λ X done a b w. ap head_in w })
each (Ok (Export cid)) = inl (record { none = λ o held. refl; bad = λ o held. refl; tree = λ o held p es. refl; head = λ X done a b w. ap head_in w })
each (Ok Import) = inl (record { none = λ o held. refl; bad = λ o held. refl; tree = λ o held p es. refl; head = λ X done a b w. add-head X done a b w })
each (Ok (Same cid)) = inl (record { none = λ o held. refl; bad = λ o held. refl; tree = λ o held p es. refl; head = λ X done a b w. ap head_in w })
each (Ok (Adopt source dest)) = inr (record { outside = λ o a b t. (λ e. nothing e, λ e. nothing e, λ e. nothing e); host = refl; own = refl })
each (Ok (Gen n seed)) = inl (record { none = λ o held. refl; bad = λ o held. refl; tree = λ o held p es. refl; head = λ X done a b w. ap head_in w })
each (Ok (Pin ask)) = inl (record { none = λ o held. refl; bad = λ o held. refl; tree = λ o held p es. refl; head = λ X done a b w. pins-head X ask done a b w })

same-if : (given : Status) (s t : Standing) → t ≡ s → if_done given s t ≡ s
same-if status.Ok s t e = e
same-if status.Rule s t e = refl
same-if status.Usage s t e = refl
same-if status.StoreFault s t e = refl
same-if status.Missing s t e = refl
same-if status.BadBlock s t e = refl
same-if status.ReadFault s t e = refl
same-if status.WriteFault s t e = refl
same-if status.Clash s t e = refl
same-if status.Memory s t e = refl
same-if status.NotReady s t e = refl

kept : (asked : Result Command Refusal) → Keeps asked → (o : Outside) (held : Lookup) (s : Standing) → made_by asked o held s ≡ s
kept asked k o held NoHead = k.none o held
kept asked k o held BadHead = k.bad o held
kept asked k o held (Stands p es) = k.tree o held p es

left-kept : (given : Status) (asked : Result Command Refusal) → Keeps asked → (o : Outside) (held : Lookup) (s : Standing) → left_by tree_at given asked o held s ≡ s
left-kept given asked k o held s = sym (left-is given asked o held s) ∙ same-if given s (made_by asked o held s) (kept asked k o held s)

-- what a command uses is told, so what it takes is
takes-of : (asked : Result Command Refusal) (o : Outside) (a b : Around) → HasOutside asked o a b → TakesFrom asked o a b
takes-of (Err why) o a b h = tt
takes-of (Ok (Init p)) o a b h = tt
takes-of (Ok (Add (adding.Input only_hash))) o a b h = tt
takes-of (Ok (Add (adding.Host recursive only_hash path))) o a b h = tt
takes-of (Ok (Add (adding.InputTo dest))) o a b h = h.0 refl
takes-of (Ok (Add (adding.HostTo recursive path dest))) o a b h = h.1 refl
takes-of (Ok (WriteInput how path)) o a b h = h.0 refl
takes-of (Ok (At ask path)) o a b h = tt
takes-of (Ok (Read offset count path)) o a b h = tt
takes-of (Ok (Prove absent path)) o a b h = tt
takes-of (Ok (Cat path)) o a b h = tt
takes-of (Ok (Get path host_path)) o a b h = tt
takes-of (Ok (Export cid)) o a b h = tt
takes-of (Ok Import) o a b h = tt
takes-of (Ok (Same cid)) o a b h = tt
takes-of (Ok (Adopt source dest)) o a b h = tt
takes-of (Ok (Gen n seed)) o a b h = tt
takes-of (Ok (Pin ask)) o a b h = tt

-- ---- every Head that is written is of version 2

abbrev IsNew : Option (List ℕ) → Type 0
IsNew None = ⊤
IsNew (Some text) = (p : Profile) × (root : Cid) × (text ≡ head_text p root)

same-new : (a b : Told) → head_in b ≡ head_in a → IsNew (head_in a) → IsNew (head_in b)
same-new a b e n = subst IsNew (sym e) n

sync-same : (a : Told) → head_in (changed with_sync a) ≡ head_in a
sync-same None = refl
sync-same (Some t) = refl

note-same : (text : List ℕ) (a : Told) → head_in (changed (with_text Pins text) a) ≡ head_in a
note-same text None = refl
note-same text (Some t) = refl

written-new : (p : Profile) (root : Cid) (a : Told) → IsNew (head_in (changed (with_text Head (head_text p root)) (changed with_sync a)))
written-new p root None = tt
written-new p root (Some t) = (p, root, refl)

commits-new : (p : Profile) (root : Cid) (m b : Told) → Commits p root m b → IsNew (head_in m) → IsNew (head_in b)
commits-new p root m b (Idle is same) n = same-new m b (ap head_in same) n
commits-new p root m b (Written other is) n = subst (λ t. IsNew (head_in t)) (sym is) (written-new p root m)

module _ (X : List ℕ → List ℕ) where
  after-new : (a b : Told) → HeadAfter X a b → IsNew (head_in a) → IsNew (head_in b)
  after-new a b h n = commits-new h.0 h.1 h.2.between b h.2.last (same-new a h.2.between (saves-head X a h.2.between h.2.saves) n)

  leaves-new : (a b : Told) → SavesThen X LeavesHead a b → IsNew (head_in a) → IsNew (head_in b)
  leaves-new a b s n = same-new a b (leaves-head s.between b s.last ∙ saves-head X a s.between s.saves) n

  writes-new : (shape : WriteShape) (done : Bool) (a b : Told) → WritesAs X shape done a b → IsNew (head_in a) → IsNew (head_in b)
  writes-new NoWrites done a b w n = same-new a b (ap head_in w) n
  writes-new SyncsBlocks done a b w n = same-new a b (add-head X done a b w) n
  writes-new MakesHead true a b w n = after-new a b w.1 n
  writes-new MakesHead false a b w n = leaves-new a b w n
  writes-new MovesHead true a b w n = after-new a b (head-after X a b w) n
  writes-new MovesHead false a b w n = leaves-new a b w n
  writes-new SyncsPins true a b (inl w) n = same-new a b (ap head_in w ∙ sync-same a) n
  writes-new SyncsPins true a b (inr w) n = same-new a b (ap head_in w.1 ∙ note-same w.0 (changed with_sync a) ∙ sync-same a) n
  writes-new SyncsPins false a b (inl w) n = same-new a b (ap head_in w) n
  writes-new SyncsPins false a b (inr w) n = same-new a b (ap head_in w ∙ sync-same a) n
  writes-new NotesPins true a b w n = same-new a b (ap head_in w.1 ∙ note-same w.0 a) n
  writes-new NotesPins false a b w n = same-new a b (ap head_in w) n

  asked-new : (asked : Result Command Refusal) (done : Bool) (a b : Told) → WritesFor X asked done a b → IsNew (head_in a) → IsNew (head_in b)
  asked-new (Ok command) done a b w n = writes-new (command_writes command) done a b w n
  asked-new (Err why) done a b w n = same-new a b (ap head_in w) n

-- a text of one version is none of the other: they differ in the thirteenth byte
apart : (p q : Profile) (c d : Cid) → text_in (codes "1") p c ≡ text_in (codes "2") q d → ⊥
unfolding text_in
apart p q c d e = nothing (ap (λ (l : List ℕ). slice_index l 12 == 50) e)

new-is : (n : Option (List ℕ)) (p : Profile) (root : Cid) → IsHeadNote n p root → IsNew n → n ≡ Some (head_text p root)
new-is None p root h n = absurd h
new-is (Some text) p root h n = by h
  where
    by : IsHeadText text p root → Some text ≡ Some (head_text p root)
    by (inl new) = ap (λ (x : List ℕ). Some x) new
    by (inr old) = absurd (apart p n.0 root n.1 (sym old ∙ n.2))

-- ---- what was answered

not-ok : (why : Refusal) → status.Ok ≡ status_of why → ⊥
not-ok why e = (let same : BadHead ≡ NoHead = ap (λ g. if_done g NoHead BadHead) e ∙ not-done why NoHead BadHead in cc)

module _ (X : List ℕ → List ℕ) (N : List ℕ → ℕ) where
  host-there : (s : Standing) (blocks : Tree → List Held) (path : List ℕ) (p : Profile) (r : Result Tree HostFault) → status.Ok ≡ ended (hosted X N s blocks path p r).ends → (t : Tree) × (r ≡ Ok t)
  host-there s blocks path p (Ok t) e = (t, refl)
  host-there s blocks path p (Err fault) e = absurd (not-ok (host_refusal path fault) e)

  -- where `add -n` of what a host has is done, there is a tree
  from-there : (recursive : Bool) (path : List ℕ) (host : HostTree) (p : Profile) (s : Standing) → TakesProfile s p → status.Ok ≡ ended (from_reply X N recursive true path host s).ends
      → (t : Tree) × (tree_on_host X N p host recursive path ≡ Ok t)
  from-there recursive path host p NoHead is e = (let f = host-there NoHead (λ t. []) path usual (tree_on_host X N usual host recursive path) e in (f.0, subst (λ q. tree_on_host X N q host recursive path ≡ Ok f.0) (sym is) f.1))
  from-there recursive path host p BadHead is e = absurd is
  from-there recursive path host p (Stands q fs) is e = (let f = host-there (Stands q fs) (λ t. []) path q (tree_on_host X N q host recursive path) e in (f.0, subst (λ q. tree_on_host X N q host recursive path ≡ Ok f.0) (sym is) f.1))

  -- ---- steps

  done-by : (step : Step) → RanWell X N step → HasOutside step.asked step.outside step.before step.now → of_command writes_host false step.asked ≡ false → of_command generates false step.asked ≡ false
      → IsDone X N step
  done-by step r outside host own = record {
    runs = r.runs;
    well = record {
      held = r.well.held;
      outside = outside;
      quiet = record {
        store = r.well.calm;
        written = record { output = r.well.printed; host = λ is. nothing (sym host ∙ is) };
        own = λ is. nothing (sym own ∙ is);
      };
      memory = r.well.memory;
    };
  }

  ran-stands : (step : Step) → RanWell X N step → (s : Standing) → TellsAs X N (told_before step) s → TellsAs X N (told_after step) (after_step step s)
  ran-stands step r s t = by (each step.asked)
    where
      by : Keeps step.asked ⊎ Takes step.asked → TellsAs X N (told_after step) (after_step step s)
      by (inl k) = subst (TellsAs X N (told_after step)) (sym (left-kept step.given step.asked k step.outside step.held s))
          (stands-kept X N (told_before step) (told_after step) s (step-ran X N step r.runs).good (k.head X (is_done step.given) (told_before step) (told_after step) (step-ran X N step r.runs).writes) t)
      by (inr m) = step-stands X N step (done-by step r (m.outside step.outside step.before step.now r.well.takes) m.host m.own) s t

  ran-new : (step : Step) → RanWell X N step → IsNew (head_in (told_before step)) → IsNew (head_in (told_after step))
  ran-new step r n = asked-new X step.asked (is_done step.given) (told_before step) (told_after step) (step-ran X N step r.runs).writes n

  all-stand : (steps : List Step) (a b : Told) (s : Standing) → TellsAs X N a s → InTurn X N (RanWell X N) steps a b → TellsAs X N b (standing_after tree_at steps s)
  all-stand [] a b s t h = h.stands s t
  all-stand (step ∷ steps) a b s t h =
      all-stand steps (told_after step) b (after_step step s) (ran-stands step h.1 s (h.0.stands s t)) h.2

  all-new : (steps : List Step) (a b : Told) (s : Standing) → TellsAs X N a s → IsNew (head_in a) → InTurn X N (RanWell X N) steps a b → IsNew (head_in b)
  all-new [] a b s t n h = same-new a b (h.head s t) n
  all-new (step ∷ steps) a b s t n h =
      all-new steps (told_after step) b (after_step step s) (ran-stands step h.1 s (h.0.stands s t)) (ran-new step h.1 (same-new a (told_before step) (h.0.head s t) n)) h.2

  -- ---- what they led to

  led-stands : (now : Told) (s : Standing) → LedTo X N tree_at now s → TellsAs X N now s
  led-stands now s l = subst (TellsAs X N now) l.made (all-stand l.steps (Some l.first) now NoHead l.headless l.ran)

  led-new : (now : Told) (s : Standing) → LedTo X N tree_at now s → IsNew (head_in now)
  led-new now s l = all-new l.steps (Some l.first) now NoHead l.headless (subst IsNew (sym l.headless) tt) l.ran

  abbrev root-of : Profile → Tree → Cid
  root-of p t = (entry X N p t).cid

  led-head : (now : Told) (p : Profile) (es : Entries) → LedTo X N tree_at now (Stands p es) → head_in now ≡ Some (head_text p (root-of p (Dir es)))
  led-head now p es l = new-is (head_in now) p (root-of p (Dir es)) (tells-head X N now p es (led-stands now (Stands p es) l)) (led-new now (Stands p es) l)

  led-stat : (step : Step) (p : Profile) (es : Entries) (path : Path) (t : Tree) → LedTo X N tree_at (told_before step) (Stands p es) → RanWell X N step → step.asked ≡ Ok (At Stat path)
      → at 0 path.names (Dir es) ≡ Ok t → PrintsFirst step (root-of p t)
  led-stat step p es path t l r asked there =
      stat-prints X N step (told_before step) path p es t (led-stands (told_before step) (Stands p es) l) there (record { over = refl; done = done; asked = asked })
    where
      done : IsDone X N step
      done = done-by step r
          (subst (λ x. HasOutside x step.outside step.before step.now) (sym asked) (λ e. nothing e, λ e. nothing e, λ e. nothing e))
          (ap (of_command writes_host false) asked) (ap (of_command generates false) asked)

  led-afresh : (step : Step) (s : Standing) (p : Profile) (recursive : Bool) (path : List ℕ) → LedTo X N tree_at (told_before step) s → TakesProfile s p → RanWell X N step
      → step.asked ≡ Ok (Add (adding.Host recursive true path)) → step.given ≡ status.Ok → HostIs step.outside.host step.before step.now
      → PrintsLast step path (root-of p (tree_on step.outside.host path))
  led-afresh step s p recursive path l is r asked given host =
      subst (λ t. PrintsLast step path (root-of p t)) (sym (on-host X N p step.outside.host recursive path there.0 there.1))
      (afresh-prints X N step s path p there.0 (record { recursive = recursive; stood = stood; done = done; asked = asked; profile = is; there = there.1 }))
    where
      stood : TellsAs X N (told_before step) s
      stood = led-stands (told_before step) s l

      done : IsDone X N step
      done = done-by step r
          (subst (λ x. HasOutside x step.outside step.before step.now) (sym asked) (λ e. nothing e, λ e. host, λ e. nothing e))
          (ap (of_command writes_host false) asked) (ap (of_command generates false) asked)

      answered : status.Ok ≡ ended (from_reply X N recursive true path step.outside.host s).ends
      answered = sym given ∙ (replied X N step done s stood).status_is ∙ ap (λ x. ended (reply_to X N x (world_of s step.held step.outside)).ends) asked

      there : (t : Tree) × (tree_on_host X N p step.outside.host recursive path ≡ Ok t)
      there = from-there recursive path step.outside.host p s is answered

  pub by-plans : RootsBy X N (λ p t. (entry X N p t).cid) tree_at
  by-plans = record { head = led-head; stat = led-stat; afresh = led-afresh }

  -- ---- steps of a history are such steps

  done-ran : (step : Step) → IsDone X N step → RanWell X N step
  done-ran step d = record {
    runs = d.runs;
    well = record {
      held = d.well.held;
      takes = takes-of step.asked step.outside step.before step.now d.well.outside;
      calm = d.well.quiet.store;
      printed = d.well.quiet.written.output;
      memory = d.well.memory;
    };
  }

  pub history-ran : (steps : List Step) (a b : Told) → History X N steps a b → InTurn X N (RanWell X N) steps a b
  history-ran [] a b h = h
  history-ran (step ∷ steps) a b h = (h.0, done-ran step h.1, history-ran steps (told_after step) b h.2)
