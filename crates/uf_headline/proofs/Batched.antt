-- A batch in which nothing fails is a history.
use Rattle.std.proofs.Common.{◌≡◌, ◌≢◌, ◌∙◌, ℕ, List, [], ◌∷◌, true, false, refl, sym, ap, subst, inl, inr, Option, None, Some, Err}
use Rattle.std.specs.Prelude.{◌⊎◌}
use Rattle.uf_cid.specs.Blocks.{Lookup}
use Rattle.uf_edge.specs.Host.{HostTree}
use Rattle.uf_mfs.specs.Standing.{TellsAs}
use Rattle.uf_command.specs.Batches.{line_in}
use Rattle.uf_command.specs.Statuses.{ended, ends_batch, mark, no_memory}
use Rattle.uf_command.specs.declared.status.Status.{Status}
use Rattle.uf_command.specs.declared.status.Status.TheVariants as status
use Rattle.uf_tree.specs.Standing.{Standing, NoHead, BadHead, Stands}
use Rattle.uf_top.specs.Around.{Around, NoneFalls, SinkSide, SameButErrors}
use Rattle.uf_top.specs.Batch.{AtLine, Batches, ByMemory, ByReading, EndsSo, Ending, LineCut, LineDone, LinePassed, LinesDone, TooLong, WithInput, without_input}
use Rattle.uf_headline.specs.BatchReplies.{NothingFails, line_world}
use Rattle.uf_top.specs.Endings.{EndsAs}
use Rattle.uf_top.specs.Naming.{TellsBlocks}
use Rattle.uf_top.specs.Reply.{reply_to}
use Rattle.uf_headline.proofs.BatchCounts.{cut-counted, ends-counted, fails-first, fails-last, gone-counted, last-counted, lines-counted, whole-counted}
use Rattle.uf_headline.proofs.BatchReplies.{finds-of, held-of, host-same, outside-of, quiet-of}
use Rattle.uf_top.proofs.Counted.{none-then, rose-not-stood, but-errors, with_sinks}
use Rattle.uf_cid.specs.declared.cid.Cid.{Cid}
use Rattle.uf_top.proofs.Pins.{noted-pins}
use Rattle.uf_headline.proofs.Ran.{line-ran}
use Rattle.uf_headline.specs.Batched.{AreOfLines, asked_by, outside_line, with_last, with_word}
use Rattle.uf_headline.specs.History.{History, IsDone, Step, step_of, told_after, told_before}
use Rattle.uf_headline.proofs.Meanwhile.{between-same}
use Rattle.uf_headline.proofs.Doing.{after_step, step-stands}

module _ (X : List ℕ → List ℕ) (N : List ℕ → ℕ) (host : HostTree) where
  -- what is so where the lines go on
  abbrev GoesOn : Around → Standing → Type 0
  GoesOn a s = (a.host.told ≡ Some host) × TellsAs X N a.store.told s

  -- before a line's status was printed
  abbrev before-mark : SinkSide → Around → Around
  before-mark printed b = with_sinks printed b.errors b

  -- words that were refused for want of memory end with that status
  refused-ends : (s : Standing) (held : Lookup) (listed : Option (List Cid)) → ended (reply_to X N (Err no_memory) (line_world host s held listed)).ends ≡ status.Memory
  refused-ends NoHead held listed = refl
  refused-ends BadHead held listed = refl
  refused-ends (Stands p es) held listed = refl

  -- ---- one line

  -- the step of a line, and what goes on behind it
  record StepOf (line : List ℕ) (a b : Around) : Type 0 where
    step : Step
    first : told_before step ≡ a.store.told
    last : told_after step ≡ b.store.told
    done : IsDone X N step
    asks : line_in line ≡ Some step.asked
    outside : step.outside ≡ outside_line host step.outside.pins
    stood : Standing
    on : GoesOn b stood

  module _ (line : List ℕ) (given : Status) (a b : Around) (done : LineDone X N line given a b) (memory : given ≢ status.Memory) (h : NothingFails a b) where
    asks-line : (s : Standing) (held : Lookup) → GoesOn a s → TellsBlocks a.store.told held → line_in line ≡ Some done.asked
    asks-line s held on blocks = by done.asks
      where
        replies : EndsAs X N done.asked (line_world host s held (noted-pins a.store.told).0) given a b
        replies = (line-ran done).replies (line_world host s held (noted-pins a.store.told).0) (finds-of X N host line given a b done s held on.1 blocks) (outside-of X N host line given a b done s held on.0 h.host) (quiet-of X N host line given a b done h)

        wanted : done.asked ≡ Err no_memory → EndsAs X N done.asked (line_world host s held (noted-pins a.store.told).0) given a b → ⊥
        wanted is (inl wants) = memory wants.status_is
        wanted is (inr r) = memory (r.0.status_is ∙ ap (λ x. ended (reply_to X N x (line_world host s held (noted-pins a.store.told).0)).ends) is ∙ refused-ends s held (noted-pins a.store.told).0)

        by : (line_in line ≡ Some done.asked) ⊎ (done.asked ≡ Err no_memory) → line_in line ≡ Some done.asked
        by (inl is) = is
        by (inr is) = absurd (wanted is replies)

    step-by : (s : Standing) (held : Lookup) → GoesOn a s → TellsBlocks a.store.told held → StepOf line a b
    step-by s held on blocks = record {
      step = step;
      first = refl;
      last = refl;
      done = is_done;
      asks = asks-line s held on blocks;
      outside = refl;
      stood = after_step step s;
      on = (host-same X N host line given a b done ∙ on.0, step-stands X N step is_done s on.1);
    }
      where
        step : Step
        step = step_of done.asked (outside_line host (noted-pins a.store.told).0) held given a b

        is_done : IsDone X N step
        is_done = record {
          runs = done.runs;
          well = record {
            held = blocks;
            outside = outside-of X N host line given a b done s held on.0 h.host;
            quiet = quiet-of X N host line given a b done h;
            memory = memory;
          };
        }

    line-step : (s : Standing) → GoesOn a s → StepOf line a b
    line-step s on = (let found = held-of X N a.store.told s on.1 in step-by s found.0 on found.1)

  -- ---- all lines

  -- steps that are of these lines, and lead there
  record StepsOf (lines : List (List ℕ)) (a b : Around) : Type 0 where
    steps : List Step
    history : History X N steps a.store.told b.store.told
    are : AreOfLines host lines steps

  no-steps : (a b : Around) → SameButErrors a b → StepsOf [] a b
  no-steps a b same = record { steps = []; history = between-same X N a.store.told b.store.told (ap (λ (x : Around). x.store.told) same); are = record { asked = refl; outside = tt } }

  -- a step in front of others
  behind-step : (line : List ℕ) (lines : List (List ℕ)) (a m c b : Around) → m.store.told ≡ c.store.told → StepOf line a m → StepsOf lines c b → StepsOf (line ∷ lines) a b
  behind-step line lines a m c b between one rest = record {
    steps = one.step ∷ rest.steps;
    history = (between-same X N a.store.told (told_before one.step) one.first, one.done, subst (λ t. History X N rest.steps t b.store.told) (sym (one.last ∙ between)) rest.history);
    are = record {
      asked = ap (λ l. one.step.asked ∷ l) rest.are.asked ∙ ap (λ o. with_word o (asked_by lines)) (sym one.asks);
      outside = (one.outside, rest.are.outside);
    };
  }

  -- a line without a word in front of others
  behind-none : (line : List ℕ) (lines : List (List ℕ)) (a b : Around) → line_in line ≡ None → StepsOf lines a b → StepsOf (line ∷ lines) a b
  behind-none line lines a b none rest = record {
    steps = rest.steps;
    history = rest.history;
    are = record { asked = rest.are.asked ∙ ap (λ o. with_word o (asked_by lines)) (sym none); outside = rest.are.outside };
  }

  goes-on-not : (given : Status) → ends_batch given ≡ false → given ≢ status.Memory
  goes-on-not given on is = (let e : true ≡ false = subst (λ g. ends_batch g ≡ false) is on in cc)

  cut-not : (line : List ℕ) (given : Status) (a b : Around) → LineCut X N line given a b → NothingFails a b → ⊥
  cut-not line given a b e h =
      rose-not-stood e.printed.faults b.writes e.cut.counted (fails-last a (with_sinks e.printed e.between b) b (line-ran e.done).faults.counted (cut-counted (mark e.was) e.printed e.between b e.cut) h).output

  module _ (given : Status) (memory : given ≢ status.Memory) (b : Around) where
    -- the end
    ends-steps : (ending : Ending X N) (a : Around) (s : Standing) → EndsSo X N ending given a b → GoesOn a s → NothingFails a b → StepsOf (with_last X N [] ending) a b
    ends-steps WithInput a s e on h = no-steps a b (but-errors e.1)
    ends-steps TooLong a s e on h = no-steps a b e.same
    ends-steps ByReading a s e on h = no-steps a b e.same
    ends-steps ByMemory a s e on h = no-steps a b e.same
    ends-steps (AtLine line) a s (inl e) on h =
        behind-step line [] a (before-mark e.printed b) b b refl
        (line-step line given a (before-mark e.printed b) e.done memory (fails-first a (before-mark e.printed b) b (line-ran e.done).faults.counted (last-counted X N line given a b e) h) s on)
        (no-steps b b refl)
    ends-steps (AtLine line) a s (inr e) on h = absurd (cut-not line given a b e h)

    -- a line behind which the batch goes on
    passed-step : (line : List ℕ) (a c : Around) (s : Standing) (p : LinePassed X N line a c) → NoneFalls c b → GoesOn a s → NothingFails a b → StepOf line a (before-mark p.printed c)
    passed-step line a c s p late on h =
        line-step line p.given a (before-mark p.printed c) p.done (goes-on-not p.given p.goes_on)
        (fails-first a (before-mark p.printed c) c (line-ran p.done).faults.counted (whole-counted (mark p.given) p.printed c.errors c p.marked) (fails-first a c b (gone-counted X N line a c (inr p)) late h)) s on

    module _ (ending : Ending X N) (m : Around) (ends : EndsSo X N ending given m b) where
      late-counted : (lines : List (List ℕ)) (c : Around) → LinesDone X N lines c m → NoneFalls c b
      late-counted lines c done = none-then c m b (lines-counted X N lines c m done) (ends-counted X N ending given m b ends)

      lines-steps : (lines : List (List ℕ)) (a : Around) (s : Standing) → LinesDone X N lines a m → GoesOn a s → NothingFails a b → StepsOf (with_last X N lines ending) a b
      lines-steps [] a s done on h = ends-steps ending a s (subst (λ x. EndsSo X N ending given x b) done ends) on h
      lines-steps (line ∷ lines) a s done on h =
          let c = done.0 in let late = late-counted lines c done.2 in
          elim done.1 as (λ gone. StepsOf (line ∷ with_last X N lines ending) a b) [
            | inl none ↦ behind-none line (with_last X N lines ending) a b none.0 (lines-steps lines a s (subst (λ x. LinesDone X N lines x m) none.1 done.2) on h)
            | inr p ↦
                let one = passed-step line a c s p late on h in
                behind-step line (with_last X N lines ending) a (before-mark p.printed c) c b refl one
                (lines-steps lines c one.stood done.2 one.on (fails-last a c b (gone-counted X N line a c (inr p)) late h))
          ]

  module _ (most limit : ℕ) (given : Status) (a b : Around) (s : Standing) where
    pub batch-history : (did : Batches X N most limit given a b) → a.host.told ≡ Some host → TellsAs X N a.store.told s → NothingFails a b → given ≢ status.Memory
        → (steps : List Step) × History X N steps a.store.told b.store.told × AreOfLines host (with_last X N did.lines did.ending) steps
    batch-history did tells stands h memory =
        (let r = lines-steps given memory (without_input b) did.ending did.between did.ends did.lines (without_input a) s did.done (tells, stands) (record { store = h.store; output = h.output; host = h.host }) in (r.steps, r.history, r.are))
