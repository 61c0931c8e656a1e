-- What calls leave that are done, fail or are stopped.
use Rattle.std.proofs.Common.{◌≡◌, ◌∙◌, ℕ, ◌<◌, ◌≤◌, ◌^◌, List, [], ◌∷◌, ◌++◌, Bool, true, false, arith, cond, refl, sym, ap, subst, inl, inr, Option, None, Some, Result, Ok, Err}
use Rattle.std.specs.Prelude.{◌⊎◌, IfSome}
use Rattle.std.specs.FinMap.{get}
use Rattle.std.proofs.lemmas.Bool.{cases_lt}
use Rattle.uf_cid.specs.Blocks.{Held}
use Rattle.uf_cid.specs.Blocks as blocks
use Rattle.uf_edge.specs.Counts.{Stood}
use Rattle.uf_mfs.specs.Reading.{AreHeights, CanRise}
use Rattle.uf_mfs.specs.Standing.{NamesOver, TellsAs}
use Rattle.uf_mfs.proofs.Reaching.{heights-of}
use Rattle.uf_command.specs.Commands.{of_command}
use Rattle.uf_command.specs.Natures.{needs_standing, prints_after}
use Rattle.uf_command.specs.Statuses.{status_of}
use Rattle.uf_command.specs.declared.status.Status.{Status}
use Rattle.uf_command.specs.declared.status.Status.TheVariants as status
use Rattle.uf_command.specs.declared.types.Command.{Command}
use Rattle.uf_command.specs.declared.types.Command.TheVariants.{Init}
use Rattle.uf_command.specs.declared.types.Refusal.{Refusal}
use Rattle.uf_command.specs.declared.types.Refusal.TheVariants as refusal
use Rattle.uf_store.specs.Calls.{Calm}
use Rattle.uf_store.specs.Contents.{Contents, HeldMap, Told}
use Rattle.uf_store.specs.Keeping.{Agrees}
use Rattle.uf_store.specs.Lost.{AgreesAfter}
use Rattle.uf_store.specs.Stops.{IsPart}
use Rattle.uf_store.specs.declared.store.StoreFault.{StoreFault}
use Rattle.uf_store.specs.declared.store.StoreFault.TheVariants as fault
use Rattle.uf_store.specs.declared.store.Write.{Write}
use Rattle.uf_top.specs.Around.{HasOutside, StandsOrRose, StaysQuiet}
use Rattle.uf_top.specs.Endings.{may_move}
use Rattle.uf_top.specs.Losing.{EndsOver}
use Rattle.uf_headline.proofs.Ran.{words_need}
use Rattle.uf_top.specs.Naming.{FindsWorld, StandsNamed, StaysNamed}
use Rattle.uf_top.specs.Outcomes.{EachStop, IsSafeFor, LeavesEither, LeavesTree}
use Rattle.uf_top.specs.Reply.{Outside, in_world, reply_to, world_of}
use Rattle.uf_top.specs.Shapes.{WritesFor, is_done}
use Rattle.uf_headline.proofs.BatchReplies.{if-needed}
use Rattle.uf_top.proofs.Standings.{stands-kept}
use Rattle.uf_top.proofs.Notes.{note-text}
use Rattle.uf_headline.proofs.Stopped.{words-end}
use Rattle.uf_tree.specs.Standing.{IsHeadNote, Standing, NoHead, BadHead, Stands}
use Rattle.uf_tree.specs.Tree.{Dir, Entries}
use Rattle.uf_tree.specs.TreePlan.{blocks as tree_blocks, entry}
use Rattle.uf_tree.specs.Validity.{IsHash}
use Rattle.uf_tree.specs.declared.profile.Profile.{Profile}
use Rattle.uf_headline.specs.Calls.{AllCallOver, AllHappen, AreDone, Calls, CallsOver, CountsAs, End, Event, IsCall, IsReopened, IsSafeAs, LeftBy, LosesSome, MeanwhileOver, NamesTree, Stopped, Whole, after_call, blocks_of, done_in, was_done}
use Rattle.uf_headline.specs.History.{IsDone, Step, told_after, told_before}
use Rattle.uf_headline.specs.Replies.{entries_replied, replied_by, standing_replied}
use Rattle.uf_headline.proofs.Histories.{replied-stands, reply-next}
use Rattle.uf_headline.proofs.Stepped.{step-ran}

-- ---- counts

stood-still : (i j : ℕ) → i ≤ j → (i < j → ⊥) → CanRise i → Stood i j
stood-still i j later never room = by (cases_lt i j)
  where
    by : (i < j) ⊎ (j ≤ i) → Stood i j
    by (inl less) = absurd (never less)
    by (inr ge) = omega (arith, later, ge, room)

wrote-none : (i j : ℕ) → StandsOrRose i j → (i < j → ⊥) → CanRise i → Stood i j
wrote-none i j (inl same) never room = omega (arith, same, room)
wrote-none i j (inr rose) never room = absurd (never (omega (arith, rose, room)))

not-both : (g a b : Status) → g ≡ a → g ≡ b → (a ≡ b → ⊥) → ⊥
not-both g a b e f differ = differ (sym e ∙ f)

not-one : (g a b c : Status) → g ≡ a → (a ≡ b → ⊥) → (a ≡ c → ⊥) → (g ≡ b) ⊎ (g ≡ c) → ⊥
not-one g a b c e first second (inl f) = first (sym e ∙ f)
not-one g a b c e first second (inr f) = second (sym e ∙ f)

-- the list of the calls that were done, as what they make
pick : (b : Bool) (step : Step) (X : List ℕ → List ℕ) (N : List ℕ → ℕ) (steps : List Step) (s : Standing)
    → standing_replied X N (cond b (step ∷ steps) steps) s ≡ standing_replied X N steps (cond b (replied_by X N step.asked step.outside step.held s) s)
pick true step X N steps s = refl
pick false step X N steps s = refl

module _ (X : List ℕ → List ℕ) (N : List ℕ → ℕ) where
  -- ---- a call

  module _ (step : Step) (c : IsCall X N step) where
    abbrev Given : Status → Type 0
    Given g = step.given ≡ g

    -- where the answer is one that no failure gives, nothing has failed
    module _ (g : Status) (given : Given g) (store : g ≡ status.StoreFault → ⊥) (clash : g ≡ status.Clash → ⊥) (memory : g ≡ status.Memory → ⊥) where
      calm : Calm step.before.store step.now.store
      calm = record {
        faults = stood-still _ _ (step-ran X N step c.runs).faults.counted.store.faults (λ more. not-both step.given g status.StoreFault given ((step-ran X N step c.runs).faults.store more) store) c.tells.store.faults;
        clashes = stood-still _ _ (step-ran X N step c.runs).faults.counted.store.clashes (λ more. not-one step.given g status.Clash status.Memory given clash memory ((step-ran X N step c.runs).faults.clashes more)) c.tells.store.clashes;
      }

      module _ (read : g ≡ status.ReadFault → ⊥) where
        outside : HasOutside step.asked step.outside step.before step.now
        outside = (
          λ reads. ((c.tells.input reads).0, stood-still _ _ (step-ran X N step c.runs).faults.counted.reads (λ more. not-both step.given g status.ReadFault given ((step-ran X N step c.runs).faults.reads (inl more)) read) (c.tells.input reads).1),
          λ uses. ((c.tells.host uses).0, stood-still _ _ (step-ran X N step c.runs).faults.counted.host_reads (λ more. not-both step.given g status.ReadFault given ((step-ran X N step c.runs).faults.reads (inr more)) read) (c.tells.host uses).1),
          c.tells.pins,
        )

        quiet : (g ≡ status.WriteFault → ⊥) → StaysQuiet step.asked step.given step.before step.now
        quiet write = record {
          store = calm;
          written = record {
            output = wrote-none _ _ (step-ran X N step c.runs).faults.counted.writes (λ more. not-both step.given g status.WriteFault given ((step-ran X N step c.runs).faults.writes (inl more)) write) c.tells.output;
            host = λ writes. stood-still _ _ (step-ran X N step c.runs).faults.counted.host_writes (λ more. not-both step.given g status.WriteFault given ((step-ran X N step c.runs).faults.writes (inr more)) write) (c.tells.written writes);
          };
          own = λ generates is. not-both step.given g status.Clash given is clash;
        }

    ok-quiet : Given status.Ok → StaysQuiet step.asked step.given step.before step.now
    ok-quiet given = quiet status.Ok given (λ e. cc) (λ e. cc) (λ e. cc) (λ e. cc) (λ e. cc)

    ok-outside : Given status.Ok → HasOutside step.asked step.outside step.before step.now
    ok-outside given = outside status.Ok given (λ e. cc) (λ e. cc) (λ e. cc) (λ e. cc)

    -- a call that was done is a step in which nothing failed
    done-step : Given status.Ok → IsDone X N step
    done-step given = record {
      runs = c.runs;
      well = record { held = c.held; outside = ok-outside given; quiet = ok-quiet given; memory = λ is. not-both step.given status.Ok status.Memory given is (λ e. cc) };
    }

    module _ (s : Standing) (t : TellsAs X N (told_before step) s) where
      abbrev Made : Type 0
      Made = TellsAs X N (told_after step) (replied_by X N step.asked step.outside step.held s)

      finds : FindsWorld X N step.asked (told_before step) (world_of s step.held step.outside)
      finds = record { stands = if-needed X N (of_command needs_standing true step.asked) (told_before step) s t; held = c.held }

      -- only the output of an `add --to-files` failed
      unprinted : of_command prints_after false step.asked ≡ true → Given status.WriteFault → Made
      unprinted prints given =
          subst (TellsAs X N (told_after step)) (reply-next X N step.asked step.outside step.held s)
          ((step-ran X N step c.runs).unprinted (world_of s step.held step.outside) prints given finds (outside status.WriteFault given (λ e. cc) (λ e. cc) (λ e. cc) (λ e. cc))
          (calm status.WriteFault given (λ e. cc) (λ e. cc) (λ e. cc))).stands

      moves : (g : Status) → Given g → may_move step.asked g ≡ true → Made
      moves status.Ok given may = replied-stands X N step (done-step given) s t
      moves status.Rule given may = absurd cc
      moves status.Usage given may = absurd cc
      moves status.StoreFault given may = absurd cc
      moves status.Missing given may = absurd cc
      moves status.BadBlock given may = absurd cc
      moves status.ReadFault given may = absurd cc
      moves status.WriteFault given may = unprinted may given
      moves status.Clash given may = absurd cc
      moves status.Memory given may = absurd cc
      moves status.NotReady given may = absurd cc

      pub call-stands : TellsAs X N (told_after step) (after_call X N step s)
      call-stands = by (was_done step) refl
        where
          by : (b : Bool) → may_move step.asked step.given ≡ b → TellsAs X N (told_after step) (cond b (replied_by X N step.asked step.outside step.held s) s)
          by true may = moves step.given refl may
          by false may = stands-kept X N (told_before step) (told_after step) s (step-ran X N step c.runs).good ((step-ran X N step c.runs).head may) t

  -- ---- calls

  pub calls-stand : (steps : List Step) (a b : Told) (s : Standing) → TellsAs X N a s → Calls X N steps a b → TellsAs X N b (standing_replied X N (done_in steps) s)
  calls-stand [] a b s t h = h.stands s t
  calls-stand (step ∷ steps) a b s t h =
      subst (TellsAs X N b) (sym (pick (was_done step) step X N (done_in steps) s))
      (calls-stand steps (told_after step) b (after_call X N step s) (call-stands step h.1 s (h.0.stands s t)) h.2)

  -- ---- stops

  -- a tree's standing after a command is a tree's
  replied-tree : (asked : Result Command Refusal) (o : Outside) (held : blocks.Lookup) (p : Profile) (es : Entries) → (fs : Entries) × (replied_by X N asked o held (Stands p es) ≡ Stands p fs)
  replied-tree (Err why) o held p es = (es, refl)
  replied-tree (Ok (Init q)) o held p es = (es, refl)
  replied-tree (Ok command) o held p es = (entries_replied X N command o held p es, refl)

  -- what is opened over what a stop left of a tree is safe for it
  pub reopened-safe : (ws : List Write) (t : Contents) (p : Profile) (es : Entries) → IsReopened ws t → LeavesTree X N p es t.held t.notes → IsSafeFor X N t p es
  reopened-safe ws t p es again stands = record {
    stands = stands;
    text = (note-text t.notes.head p (entry X N p (Dir es)).cid stands.head_is).0;
    safe = record {
      plain = again.plain;
      head_is = (note-text t.notes.head p (entry X N p (Dir es)).cid stands.head_is).1;
      held = stands.blocks_held;
      firm_too = subst (λ (m : HeldMap). blocks.Holds (λ cid. get m cid) (tree_blocks X N p (Dir es))) (sym again.kept) stands.blocks_held;
    };
  }

  -- what may stand after a call
  record MayStand (event : Event) (b : Contents) (p : Profile) (es : Entries) : Type 0 where
    counted : Bool
    counts : CountsAs event counted
    fs : Entries
    stands : cond counted (replied_by X N event.step.asked event.step.outside event.step.held (Stands p es)) (Stands p es) ≡ Stands p fs
    safe : IsSafeFor X N b p fs

  module _ (hash : IsHash X) (small : (name : List ℕ) → N name < 2 ^ 64) (p : Profile) where
    module _ (step : Step) (c : IsCall X N step) (a whole : Contents) (first : told_before step ≡ Some a) (last : told_after step ≡ Some whole) (es : Entries) (safe : IsSafeFor X N a p es) where
      -- what stands after the whole call
      after-tree : (fs : Entries) × (after_call X N step (Stands p es) ≡ Stands p fs)
      after-tree = by (was_done step)
        where
          by : (b : Bool) → (fs : Entries) × (cond b (replied_by X N step.asked step.outside step.held (Stands p es)) (Stands p es) ≡ Stands p fs)
          by true = replied-tree step.asked step.outside step.held p es
          by false = (es, refl)

      abbrev next : Entries
      next = after-tree.0

      before-stands : TellsAs X N (told_before step) (Stands p es)
      before-stands = subst (λ x. TellsAs X N x (Stands p es)) (sym first) safe.stands

      whole-stands : LeavesTree X N p next whole.held whole.notes
      whole-stands = subst (TellsAs X N (Some whole)) after-tree.1 (subst (λ x. TellsAs X N x (after_call X N step (Stands p es))) last (call-stands step c (Stands p es) before-stands))

      written : WritesFor X step.asked (is_done step.given) (Some a) (Some whole)
      written = subst (λ x. WritesFor X step.asked (is_done step.given) x (Some whole)) first (subst (λ x. WritesFor X step.asked (is_done step.given) (told_before step) x) last (step-ran X N step c.runs).writes)

      ends : IsSafeFor X N whole p next × EachStop (LeavesEither X N p es p next) a whole
      ends = words-end X N hash small a p p es next safe step.asked (is_done step.given) whole written whole-stands

      stopped : (made : List Write) (b : Contents) → IsReopened (a.writes ++ made) b → LeavesTree X N p es b.held b.notes ⊎ LeavesTree X N p next b.held b.notes → MayStand (record { step = step; end = Stopped made }) b p es
      stopped made b again (inl old) = record { counted = false; counts = λ e. absurd (let k : false ≡ true = e in cc); fs = es; stands = refl; safe = reopened-safe (a.writes ++ made) b p es again old }
      stopped made b again (inr new) = record { counted = was_done step; counts = λ e. e; fs = next; stands = after-tree.1; safe = reopened-safe (a.writes ++ made) b p next again new }

      may-stand : (end : End) (b : Contents) → LeftBy end a whole b → MayStand (record { step = step; end = end }) b p es
      may-stand Whole b left = record { counted = was_done step; counts = refl; fs = next; stands = after-tree.1; safe = subst (λ t. IsSafeFor X N t p next) (sym left) ends.0 }
      may-stand (Stopped made) b left = stopped made b left.2 (ends.1 made left.0 left.1 b.held b.notes left.2.outcome)

    abbrev Ends : List Event → Standing → Contents → Type 0
    Ends events s b = (steps : List Step) × AreDone events steps × IsSafeAs X N b (standing_replied X N steps s)

    -- one more in front
    ends-more : (event : Event) (events : List Event) (a b : Contents) (es : Entries) (m : MayStand event a p es) → Ends events (Stands p m.fs) b → Ends (event ∷ events) (Stands p es) b
    ends-more event events a b es m rest = (
      cond m.counted (event.step ∷ rest.0) rest.0,
      (m.counted, m.counts, rest.0, refl, rest.1),
      subst (IsSafeAs X N b) (sym (pick m.counted event.step X N rest.0 (Stands p es) ∙ ap (standing_replied X N rest.0) m.stands)) rest.2,
    )

    pub all-stand : (events : List Event) (a b : Contents) (es : Entries) → IsSafeFor X N a p es → AllHappen X N events a b → Ends events (Stands p es) b
    all-stand [] a b es safe h = ([], refl, h.safe p es safe)
    all-stand (event ∷ events) a b es safe h =
        let one = h.3 in
        let m = may-stand event.step one.call h.0 one.whole one.first one.last es (h.1.safe p es safe) event.end h.2 one.left in
        ends-more event events h.2 b es m (all-stand events h.2 b m.fs m.safe h.4)

  -- ---- lost blocks

  part-agrees : (m n : HeldMap) → IsPart m n → (l : List Held) → blocks.Agrees (λ cid. get n cid) l → blocks.Agrees (λ cid. get m cid) l
  part-agrees m n part [] h = tt
  part-agrees m n part (b ∷ l) h = (by (get m b.0) refl, part-agrees m n part l h.1)
    where
      held-as : (o : Option (List ℕ)) (bytes : List ℕ) → o ≡ Some bytes → IfSome o (λ x. x ≡ b.1) → bytes ≡ b.1
      held-as None bytes e k = cc
      held-as (Some x) bytes e k = (let same : x ≡ bytes = cc in sym same ∙ k)

      by : (o : Option (List ℕ)) → get m b.0 ≡ o → IfSome o (λ x. x ≡ b.1)
      by None e = tt
      by (Some bytes) e = held-as (get n b.0) bytes (part b.0 bytes e) h.0

  lost-names : (a b : Contents) (p : Profile) (es : Entries) → LosesSome a b → NamesOver X N (Some a) p es → NamesOver X N (Some b) p es
  lost-names a b p es lost names = record {
    head = subst (λ n. IsHeadNote n p (entry X N p (Dir es)).cid) (sym lost.head) names.head;
    root = record { plan = names.root.plan; agrees = part-agrees b.held a.held lost.part (tree_blocks X N p (Dir es)) names.root.agrees };
  }

  -- what came between
  pub meanwhile-names : (s : Standing) (a b : Contents) → MeanwhileOver X N s a b → NamesTree X N (Some a) s → NamesTree X N (Some b) s
  meanwhile-names NoHead a b m names = absurd names
  meanwhile-names BadHead a b m names = absurd names
  meanwhile-names (Stands p es) a b (inl lost) names = lost-names a b p es lost names
  meanwhile-names (Stands p es) a b (inr kept) names = record {
    head = subst (λ n. IsHeadNote n p (entry X N p (Dir es)).cid) (sym kept.head) names.head;
    root = record { plan = names.root.plan; agrees = kept.agrees };
  }

  pub losses-then : (s : Standing) (a m b : Contents) → MeanwhileOver X N s a m → MeanwhileOver X N s m b → MeanwhileOver X N s a b
  losses-then s a m b (inl first) (inl last) = inl (record { head = last.head ∙ first.head; part = λ c bytes is. first.part c bytes (last.part c bytes is) })
  losses-then s a m b (inr first) (inl last) = inr (record { head = last.head ∙ first.head; agrees = part-agrees b.held m.held last.part (blocks_of X N s) first.agrees })
  losses-then s a m b (inl first) (inr last) = inr (record { head = last.head ∙ first.head; agrees = last.agrees })
  losses-then s a m b (inr first) (inr last) = inr (record { head = last.head ∙ first.head; agrees = last.agrees })

  pub nothing-lost : (s : Standing) (a b : Contents) → b ≡ a → MeanwhileOver X N s a b
  nothing-lost s a b same = subst (MeanwhileOver X N s a) (sym same) (inl (record { head = refl; part = λ c bytes is. is }))

  after-agrees : (a b : Told) (old new : List Held) → AgreesAfter a b old new → Agrees b new
  after-agrees a None old new h = h
  after-agrees a (Some t) old new h = h.0

  named-now : (a b : Told) (old : List Held) (s : Standing) → StandsNamed X N a b old s → NamesTree X N b s
  named-now a b old NoHead h = h
  named-now a b old BadHead h = h
  named-now a b old (Stands p es) h = record { head = h.head; root = record { plan = h.root.plan; agrees = after-agrees a b old (tree_blocks X N p (Dir es)) h.root.after } }

  fault-not-ok : (f : StoreFault) → status.Ok ≡ status_of (refusal.Store f) → ⊥
  fault-not-ok fault.Failed e = cc
  fault-not-ok (fault.Damaged cid) e = cc
  fault-not-ok (fault.Missing cid) e = cc
  fault-not-ok (fault.BadBlock cid role) e = cc
  fault-not-ok (fault.Clash cid held bytes) e = cc
  fault-not-ok fault.Memory e = cc

  module _ (step : Step) (c : IsCall X N step) (p : Profile) (es : Entries) (names : NamesOver X N (told_before step) p es) (agrees : Agrees (told_after step) (tree_blocks X N p (Dir es))) where
    stays : StaysNamed X N (told_before step) (told_after step) p es
    stays = record { names = names; last = agrees }

    kept-names : may_move step.asked step.given ≡ false → NamesOver X N (told_after step) p es
    kept-names may = record { head = subst (λ n. IsHeadNote n p (entry X N p (Dir es)).cid) (sym ((step-ran X N step c.runs).head may)) names.head; root = record { plan = names.root.plan; agrees = agrees } }

    done-names : step.given ≡ status.Ok → NamesTree X N (told_after step) (replied_by X N step.asked step.outside step.held (Stands p es))
    done-names given = by ((step-ran X N step c.runs).lost p es rows.0 step.held step.outside stays c.held rows.1 (ok-outside step c given) (ok-quiet step c given))
      where
        rows : (rows : ℕ → ℕ) × AreHeights p rows
        rows = heights-of p names.root.plan.profile

        by : EndsOver X N p es (words_need X N rows.0 step.asked p es) (reply_to X N step.asked (in_world p es step.held step.outside)) step.given step.before step.now
            → NamesTree X N (told_after step) (replied_by X N step.asked step.outside step.held (Stands p es))
        by (inl loss) = absurd (fault-not-ok loss.fault (sym given ∙ loss.status_is))
        by (inr replies) = subst (NamesTree X N (told_after step)) (reply-next X N step.asked step.outside step.held (Stands p es)) (named-now (told_before step) (told_after step) (tree_blocks X N p (Dir es)) (reply_to X N step.asked (in_world p es step.held step.outside)).next replies.stands)

    unprinted-names : of_command prints_after false step.asked ≡ true → step.given ≡ status.WriteFault → NamesTree X N (told_after step) (replied_by X N step.asked step.outside step.held (Stands p es))
    unprinted-names prints given =
        subst (NamesTree X N (told_after step)) (reply-next X N step.asked step.outside step.held (Stands p es))
        (named-now (told_before step) (told_after step) (tree_blocks X N p (Dir es)) (reply_to X N step.asked (in_world p es step.held step.outside)).next
        ((step-ran X N step c.runs).unprinted_over p es step.held step.outside prints given stays (outside step c status.WriteFault given (λ e. cc) (λ e. cc) (λ e. cc) (λ e. cc))
        (calm step c status.WriteFault given (λ e. cc) (λ e. cc) (λ e. cc))))

    moved-names : (g : Status) → step.given ≡ g → may_move step.asked g ≡ true → NamesTree X N (told_after step) (replied_by X N step.asked step.outside step.held (Stands p es))
    moved-names status.Ok given may = done-names given
    moved-names status.Rule given may = absurd cc
    moved-names status.Usage given may = absurd cc
    moved-names status.StoreFault given may = absurd cc
    moved-names status.Missing given may = absurd cc
    moved-names status.BadBlock given may = absurd cc
    moved-names status.ReadFault given may = absurd cc
    moved-names status.WriteFault given may = unprinted-names may given
    moved-names status.Clash given may = absurd cc
    moved-names status.Memory given may = absurd cc
    moved-names status.NotReady given may = absurd cc

    pub call-names : NamesTree X N (told_after step) (after_call X N step (Stands p es))
    call-names = by (was_done step) refl
      where
        by : (b : Bool) → may_move step.asked step.given ≡ b → NamesTree X N (told_after step) (cond b (replied_by X N step.asked step.outside step.held (Stands p es)) (Stands p es))
        by true may = moved-names step.given refl may
        by false may = kept-names may

  -- one call over what is left
  over-names : (step : Step) (s : Standing) (a b : Contents) → CallsOver X N step s a b → NamesTree X N (Some a) s → NamesTree X N (Some b) (after_call X N step s)
  over-names step NoHead a b o names = absurd names
  over-names step BadHead a b o names = absurd names
  over-names step (Stands p es) a b o names =
      subst (λ x. NamesTree X N x (after_call X N step (Stands p es))) o.last
      (call-names step o.call p es (subst (λ x. NamesOver X N x p es) (sym o.first) (meanwhile-names (Stands p es) a o.found o.meanwhile names)) (subst (λ x. Agrees x (tree_blocks X N p (Dir es))) (sym o.last) o.agrees))

  pub all-named : (steps : List Step) (s : Standing) (a b : Contents) → NamesTree X N (Some a) s → AllCallOver X N steps s a b → NamesTree X N (Some b) (standing_replied X N (done_in steps) s)
  all-named [] s a b names h = meanwhile-names s a b h names
  all-named (step ∷ steps) s a b names h =
      subst (NamesTree X N (Some b)) (sym (pick (was_done step) step X N (done_in steps) s))
      (all-named steps (after_call X N step s) h.0 b (over-names step s a h.0 h.1 names) h.2)
