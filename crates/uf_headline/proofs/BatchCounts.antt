-- No count falls over the lines of a batch.
use Rattle.std.proofs.Common.{◌≡◌, ℕ, List, [], ◌∷◌, arith, refl, ap, inl, inr}
use Rattle.std.specs.Prelude.{◌⊎◌}
use Rattle.uf_command.specs.Statuses.{mark}
use Rattle.uf_command.specs.declared.status.Status.{Status}
use Rattle.uf_command.specs.declared.status.Status.TheVariants as status
use Rattle.uf_top.specs.Around.{Around, NoneFalls, SinkSide}
use Rattle.uf_top.specs.Batch.{AtLine, ByMemory, ByReading, Ending, EndsSo, LineEnds, LineGone, LinePassed, LinesDone, PrintsCut, PrintsWhole, TooLong, WithInput, output_of}
use Rattle.uf_headline.specs.BatchReplies.{NothingFails}
use Rattle.uf_top.proofs.Counted.{but-errors, none-same, none-then, rises-refl, stood-first, stood-last, with_sinks}
use Rattle.uf_headline.proofs.Ran.{line-ran}

-- ---- what fails in a part fails in the whole

pub fails-first : (a b c : Around) → NoneFalls a b → NoneFalls b c → NothingFails a c → NothingFails a b
fails-first a b c p q h = record {
  store = record { faults = omega (arith, p.store.faults, q.store.faults, h.store.faults); clashes = omega (arith, p.store.clashes, q.store.clashes, h.store.clashes) };
  output = stood-first a.writes b.writes c.writes p.writes q.writes h.output;
  host = omega (arith, p.host_reads, q.host_reads, h.host);
}

pub fails-last : (a b c : Around) → NoneFalls a b → NoneFalls b c → NothingFails a c → NothingFails b c
fails-last a b c p q h = record {
  store = record { faults = omega (arith, p.store.faults, q.store.faults, h.store.faults); clashes = omega (arith, p.store.clashes, q.store.clashes, h.store.clashes) };
  output = stood-last a.writes b.writes c.writes p.writes q.writes h.output;
  host = omega (arith, p.host_reads, q.host_reads, h.host);
}

-- ---- marks

module _ (text : List ℕ) (printed errors : SinkSide) (b : Around) where
  pub whole-counted : PrintsWhole text printed (output_of b) → NoneFalls (with_sinks printed errors b) b
  whole-counted w = record { store = rises-refl b.store; reads = omega arith; writes = inl w.counted; host_reads = omega arith; host_writes = omega arith }

  pub cut-counted : PrintsCut text printed (output_of b) → NoneFalls (with_sinks printed errors b) b
  cut-counted w = record { store = rises-refl b.store; reads = omega arith; writes = inr w.counted; host_reads = omega arith; host_writes = omega arith }

  pub unmarked-counted : output_of b ≡ printed → NoneFalls (with_sinks printed errors b) b
  unmarked-counted same = record { store = rises-refl b.store; reads = omega arith; writes = inl (ap (λ (s : SinkSide). s.faults) same); host_reads = omega arith; host_writes = omega arith }

-- a status is that of a failed writing or it isn't
pub is-write-fault : (given : Status) → (given ≡ status.WriteFault) ⊎ (given ≡ status.WriteFault → ⊥)
is-write-fault status.Ok = inr (λ e. cc)
is-write-fault status.Rule = inr (λ e. cc)
is-write-fault status.Usage = inr (λ e. cc)
is-write-fault status.StoreFault = inr (λ e. cc)
is-write-fault status.Missing = inr (λ e. cc)
is-write-fault status.BadBlock = inr (λ e. cc)
is-write-fault status.ReadFault = inr (λ e. cc)
is-write-fault status.WriteFault = inl refl
is-write-fault status.Clash = inr (λ e. cc)
is-write-fault status.Memory = inr (λ e. cc)
is-write-fault status.NotReady = inr (λ e. cc)

-- ---- lines

module _ (X : List ℕ → List ℕ) (N : List ℕ → ℕ) where
  pub passed-counted : (line : List ℕ) (a b : Around) → LinePassed X N line a b → NoneFalls a b
  passed-counted line a b passed =
      none-then a (with_sinks passed.printed b.errors b) b (line-ran passed.done).faults.counted (whole-counted (mark passed.given) passed.printed b.errors b passed.marked)

  pub gone-counted : (line : List ℕ) (a b : Around) → LineGone X N line a b → NoneFalls a b
  gone-counted line a b (inl none) = none-same a b (but-errors none.1)
  gone-counted line a b (inr passed) = passed-counted line a b passed

  pub lines-counted : (lines : List (List ℕ)) (a b : Around) → LinesDone X N lines a b → NoneFalls a b
  lines-counted [] a b same = none-same a b (but-errors same)
  lines-counted (line ∷ lines) a b done = none-then a done.0 b (gone-counted line a done.0 done.1) (lines-counted lines done.0 b done.2)

  -- from the end of the last line on
  pub last-counted : (line : List ℕ) (given : Status) (a b : Around) (e : LineEnds X N line given a b) → NoneFalls (with_sinks e.printed b.errors b) b
  last-counted line given a b e = by (is-write-fault given)
    where
      by-mark : PrintsWhole (mark given) e.printed (output_of b) ⊎ PrintsCut (mark given) e.printed (output_of b) → NoneFalls (with_sinks e.printed b.errors b) b
      by-mark (inl w) = whole-counted (mark given) e.printed b.errors b w
      by-mark (inr w) = cut-counted (mark given) e.printed b.errors b w

      by : (given ≡ status.WriteFault) ⊎ (given ≡ status.WriteFault → ⊥) → NoneFalls (with_sinks e.printed b.errors b) b
      by (inl is) = unmarked-counted [] e.printed b.errors b (e.unmarked is)
      by (inr not) = by-mark (e.marked not)

  pub ends-counted : (ending : Ending X N) (given : Status) (a b : Around) → EndsSo X N ending given a b → NoneFalls a b
  ends-counted WithInput given a b e = none-same a b (but-errors e.1)
  ends-counted TooLong given a b e = none-same a b e.same
  ends-counted ByReading given a b e = none-same a b e.same
  ends-counted ByMemory given a b e = none-same a b e.same
  ends-counted (AtLine line) given a b (inl e) = none-then a (with_sinks e.printed b.errors b) b (line-ran e.done).faults.counted (last-counted line given a b e)
  ends-counted (AtLine line) given a b (inr e) = none-then a (with_sinks e.printed e.between b) b (line-ran e.done).faults.counted (cut-counted (mark e.was) e.printed e.between b e.cut)
