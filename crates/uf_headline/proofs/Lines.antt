-- A batch, whatever fails, is a list of calls.
use Rattle.std.proofs.Common.{◌≡◌, ◌∙◌, ℕ, ◌≤◌, ◌<◌, List, [], ◌∷◌, true, false, arith, refl, sym, ap, subst, inl, inr, None, Some}
use Rattle.std.specs.Prelude.{◌⊎◌}
use Rattle.std.proofs.lemmas.Bool.{cases_lt}
use Rattle.uf_cid.specs.Blocks.{Lookup}
use Rattle.uf_edge.specs.Host.{HostTree}
use Rattle.uf_mfs.specs.Reading.{CanRise}
use Rattle.uf_command.specs.Batches.{line_in}
use Rattle.uf_command.specs.Statuses.{ends_batch}
use Rattle.uf_command.specs.declared.status.Status.{Status}
use Rattle.uf_command.specs.declared.status.Status.TheVariants as status
use Rattle.uf_store.specs.Contents.{Told, held_at}
use Rattle.uf_store.specs.Keeping.{tells}
use Rattle.uf_top.specs.Around.{Around, StandsOrRose, SameButErrors}
use Rattle.uf_top.specs.Batch.{AtLine, Batches, ByMemory, ByReading, EndsSo, Ending, LineDone, LinePassed, LinesDone, TooLong, WithInput, without_input}
use Rattle.uf_headline.specs.BatchLines.{AllCanRise}
use Rattle.uf_top.specs.Naming.{TellsBlocks}
use Rattle.uf_headline.proofs.LineHosts.{Suits, asks-suits}
use Rattle.uf_top.proofs.Pins.{noted-pins}
use Rattle.uf_headline.proofs.Meanwhile.{between-same}
use Rattle.uf_headline.proofs.Ran.{line-ran}
use Rattle.uf_headline.specs.Batched.{AreCallsOf, IsOfLine, outside_line, with_last}
use Rattle.uf_headline.specs.Calls.{Calls, IsCall}
use Rattle.uf_headline.specs.History.{Step, step_of, told_after, told_before}
use Rattle.uf_top.proofs.Counted.{but-errors, with_sinks}

-- ---- counts that can rise still

rises-still : (i j : ℕ) → i ≤ j → (i < j → ⊥) → CanRise i → CanRise j
rises-still i j later never room = by (cases_lt i j)
  where
    by : (i < j) ⊎ (j ≤ i) → CanRise j
    by (inl less) = absurd (never less)
    by (inr ge) = omega (arith, later, ge, room)

wrote-still : (i j : ℕ) → StandsOrRose i j → (i < j → ⊥) → CanRise i → CanRise j
wrote-still i j (inl same) never room = omega (arith, same, room)
wrote-still i j (inr rose) never room = absurd (never (omega (arith, rose, room)))

-- a status where the batch goes on is none of these
goes-on : (given is : Status) → ends_batch given ≡ false → ends_batch is ≡ true → given ≡ is → ⊥
goes-on given is on ends same = (let e : true ≡ false = sym ends ∙ ap ends_batch (sym same) ∙ on in cc)

held-here : (told : Told) → tells told ≡ true → (held : Lookup) × TellsBlocks told held
held-here None some = absurd (let e : false ≡ true = some in cc)
held-here (Some t) some = (held_at t, refl)

module _ (X : List ℕ → List ℕ) (N : List ℕ → ℕ) (host : HostTree) where
  -- what a line begins over
  record Begins (a : Around) : Type 0 where
    told : a.host.told ≡ Some host
    room : AllCanRise a
    some : tells a.store.told ≡ true

  -- the call of a line
  record CallOf (line : List ℕ) (a b : Around) : Type 0 where
    step : Step
    first : told_before step ≡ a.store.told
    last : told_after step ≡ b.store.told
    call : IsCall X N step
    of : IsOfLine line step
    outside : step.outside ≡ outside_line host step.outside.pins

  module _ (line : List ℕ) (given : Status) (a b : Around) (done : LineDone X N line given a b) (begin : Begins a) where
    suits : Suits done.asked
    suits = asks-suits line done.asked done.asks

    line-call : CallOf line a b
    line-call = record {
      step = step_of done.asked (outside_line host (noted-pins a.store.told).0) held.0 given a b;
      first = refl;
      last = refl;
      call = record {
        runs = done.runs;
        held = held.1;
        tells = record {
          store = begin.room.store;
          input = λ reads. absurd (let e : true ≡ false = sym reads ∙ suits.0 in cc);
          host = λ uses. (begin.told, begin.room.host);
          output = begin.room.output;
          written = λ writes. absurd (let e : true ≡ false = sym writes ∙ suits.1 in cc);
          pins = λ uses. (noted-pins a.store.told).1;
        };
      };
      of = done.asks;
      outside = refl;
    }
      where
        held : (held : Lookup) × TellsBlocks a.store.told held
        held = held-here a.store.told begin.some

    either-not : (is other : Status) → (given ≡ is → ⊥) → (given ≡ other → ⊥) → (given ≡ is) ⊎ (given ≡ other) → ⊥
    either-not is other first second (inl same) = first same
    either-not is other first second (inr same) = second same

    -- where the batch goes on, no count rose
    begins-next : ends_batch given ≡ false → Begins b
    begins-next on = record {
      told = (line-ran done).host suits.1 ∙ begin.told;
      room = record {
        store = record {
          faults = rises-still _ _ (line-ran done).faults.counted.store.faults (λ more. goes-on given status.StoreFault on refl ((line-ran done).faults.store more)) begin.room.store.faults;
          clashes = rises-still _ _ (line-ran done).faults.counted.store.clashes (λ more. either-not status.Clash status.Memory (goes-on given status.Clash on refl) (goes-on given status.Memory on refl) ((line-ran done).faults.clashes more)) begin.room.store.clashes;
        };
        output = wrote-still _ _ (line-ran done).faults.counted.writes (λ more. goes-on given status.WriteFault on refl ((line-ran done).faults.writes (inl more))) begin.room.output;
        host = rises-still _ _ (line-ran done).faults.counted.host_reads (λ more. goes-on given status.ReadFault on refl ((line-ran done).faults.reads (inr more))) begin.room.host;
      };
      some = (line-ran done).good.alike ∙ begin.some;
    }

  -- ---- all lines

  record CallsOf (lines : List (List ℕ)) (a b : Around) : Type 0 where
    steps : List Step
    calls : Calls X N steps a.store.told b.store.told
    are : AreCallsOf host lines steps

  no-calls : (a b : Around) → SameButErrors a b → CallsOf [] a b
  no-calls a b same = record { steps = []; calls = between-same X N a.store.told b.store.told (ap (λ (x : Around). x.store.told) same); are = refl }

  -- a call in front of others
  behind-call : (line : List ℕ) (lines : List (List ℕ)) (a m c b : Around) → m.store.told ≡ c.store.told → CallOf line a m → CallsOf lines c b → CallsOf (line ∷ lines) a b
  behind-call line lines a m c b between one rest = record {
    steps = one.step ∷ rest.steps;
    calls = (between-same X N a.store.told (told_before one.step) one.first, one.call, subst (λ t. Calls X N rest.steps t b.store.told) (sym (one.last ∙ between)) rest.calls);
    are = inr (one.step, rest.steps, refl, one.of, one.outside, rest.are);
  }

  -- a line without a word in front of others
  behind-wordless : (line : List ℕ) (lines : List (List ℕ)) (a b : Around) → line_in line ≡ None → CallsOf lines a b → CallsOf (line ∷ lines) a b
  behind-wordless line lines a b none rest = record { steps = rest.steps; calls = rest.calls; are = inl (none, rest.are) }

  -- where a line begins once the status of the one before was printed
  begins-marked : (line : List ℕ) (a c : Around) (p : LinePassed X N line a c) → Begins (with_sinks p.printed c.errors c) → Begins c
  begins-marked line a c p begin = record {
    told = begin.told;
    room = record { store = begin.room.store; output = subst CanRise (sym p.marked.counted) begin.room.output; host = begin.room.host };
    some = begin.some;
  }

  ends-calls : (ending : Ending X N) (given : Status) (a b : Around) → EndsSo X N ending given a b → Begins a → CallsOf (with_last X N [] ending) a b
  ends-calls WithInput given a b e begin = no-calls a b (but-errors e.1)
  ends-calls TooLong given a b e begin = no-calls a b e.same
  ends-calls ByReading given a b e begin = no-calls a b e.same
  ends-calls ByMemory given a b e begin = no-calls a b e.same
  ends-calls (AtLine line) given a b (inl e) begin =
      behind-call line [] a (with_sinks e.printed b.errors b) b b refl (line-call line given a (with_sinks e.printed b.errors b) e.done begin) (no-calls b b refl)
  ends-calls (AtLine line) given a b (inr e) begin =
      behind-call line [] a (with_sinks e.printed e.between b) b b refl (line-call line e.was a (with_sinks e.printed e.between b) e.done begin) (no-calls b b refl)

  module _ (ending : Ending X N) (given : Status) (m b : Around) (ends : EndsSo X N ending given m b) where
    lines-calls : (lines : List (List ℕ)) (a : Around) → LinesDone X N lines a m → Begins a → CallsOf (with_last X N lines ending) a b
    lines-calls [] a done begin = ends-calls ending given a b (subst (λ x. EndsSo X N ending given x b) done ends) begin
    lines-calls (line ∷ lines) a done begin =
        let c = done.0 in
        elim done.1 as (λ gone. CallsOf (line ∷ with_last X N lines ending) a b) [
          | inl none ↦ behind-wordless line (with_last X N lines ending) a b none.0 (lines-calls lines a (subst (λ x. LinesDone X N lines x m) none.1 done.2) begin)
          | inr p ↦
              behind-call line (with_last X N lines ending) a (with_sinks p.printed c.errors c) c b refl (line-call line p.given a (with_sinks p.printed c.errors c) p.done begin)
              (lines-calls lines c done.2 (begins-marked line a c p (begins-next line p.given a (with_sinks p.printed c.errors c) p.done begin p.goes_on)))
        ]

  pub batch-calls : (most limit : ℕ) (given : Status) (a b : Around) (did : Batches X N most limit given a b)
      → tells a.store.told ≡ true → a.host.told ≡ Some host → AllCanRise a
      → (steps : List Step) × Calls X N steps a.store.told b.store.told × AreCallsOf host (with_last X N did.lines did.ending) steps
  batch-calls most limit given a b did some told room =
      (let r = lines-calls did.ending given did.between (without_input b) did.ends did.lines (without_input a) did.done (record { told = told; room = record { store = room.store; output = room.output; host = room.host }; some = some }) in (r.steps, r.calls, r.are))
