-- A batch passes no failure over: what failed in one of its lines ended it, and is its status.
use Rattle.std.proofs.Common.{◌≡◌, ◌⊎◌, ◌∙◌, ℕ, ◌<◌, ◌≤◌, List, [], ◌∷◌, arith, true, false, refl, sym, ap, inl, inr}
use Rattle.std.proofs.lemmas.Bool.{cases_lt}
use Rattle.uf_command.specs.Statuses.{ends_batch}
use Rattle.uf_command.specs.Telling.{TellsWhy}
use Rattle.uf_command.specs.declared.status.Status.{Status}
use Rattle.uf_command.specs.declared.status.Status.TheVariants as status
use Rattle.uf_command.specs.declared.types.Refusal.TheVariants as refusal
use Rattle.uf_top.specs.Around.{Around, Said, SameButErrors}
use Rattle.uf_top.specs.Batch.{AtLine, Batches, ByMemory, ByReading, Ending, EndsSo, LineCut, LineEnds, LineGone, LinePassed, LinesDone, ReadingFails, TooLong, WithInput, without_input}
use Rattle.uf_headline.specs.BatchLines.{EndsAtLine, PassesNoneOver}
use Rattle.uf_top.specs.Running.{TellsFaults}
use Rattle.uf_headline.proofs.Ran.{line-ran}
use Rattle.uf_top.proofs.Counted.{but-errors, with_sinks}

-- no count has risen
pub record Still (a b : Around) : Type 0 where
  pub faults : b.store.faults ≤ a.store.faults
  pub clashes : b.store.clashes ≤ a.store.clashes
  pub host_reads : b.host.reads ≤ a.host.reads
  pub host_writes : b.host.writes ≤ a.host.writes
  pub writes : b.writes ≤ a.writes

still-same : (a b : Around) → SameButErrors a b → Still a b
still-same a b same = record {
  faults = let e = ap (λ (s : Around). s.store.faults) same in omega (arith, e);
  clashes = let e = ap (λ (s : Around). s.store.clashes) same in omega (arith, e);
  host_reads = let e = ap (λ (s : Around). s.host.reads) same in omega (arith, e);
  host_writes = let e = ap (λ (s : Around). s.host.writes) same in omega (arith, e);
  writes = let e = ap (λ (s : Around). s.writes) same in omega (arith, e);
}

still-then : (a b c : Around) → Still a b → Still b c → Still a c
still-then a b c p q = record {
  faults = omega (arith, p.faults, q.faults);
  clashes = omega (arith, p.clashes, q.clashes);
  host_reads = omega (arith, p.host_reads, q.host_reads);
  host_writes = omega (arith, p.host_writes, q.host_writes);
  writes = omega (arith, p.writes, q.writes);
}

not-less : (m n : ℕ) → (m < n → ⊥) → n ≤ m
not-less m n none = by (cases_lt m n)
  where
    by : (m < n) ⊎ (n ≤ m) → n ≤ m
    by (inl less) = absurd (none less)
    by (inr few) = few

-- a status with which a batch goes on is none with which it ends
other : (given s : Status) → ends_batch given ≡ false → ends_batch s ≡ true → given ≡ s → ⊥
other given s on ends is = let e : false ≡ true = sym on ∙ ap ends_batch is ∙ ends in cc

read-told : (Says : List ℕ → Type 0) (given : Status) → TellsWhy Says refusal.Read given → given ≡ status.ReadFault
read-told Says given (inl t) = t.0
read-told Says given (inr t) = absurd (let e : false ≡ true = t.0 in cc)

write-told : (Says : List ℕ → Type 0) (given : Status) → TellsWhy Says refusal.Write given → given ≡ status.WriteFault
write-told Says given (inl t) = t.0
write-told Says given (inr t) = absurd (let e : false ≡ true = t.0 in cc)

module _ (X : List ℕ → List ℕ) (N : List ℕ → ℕ) where
  -- nothing failed in a command after which a batch goes on
  told-still : (given : Status) (a b : Around) → TellsFaults given a b → ends_batch given ≡ false → Still a b
  told-still given a b tells on = record {
    faults = not-less a.store.faults b.store.faults (λ less. other given status.StoreFault on refl (tells.store less));
    clashes = not-less a.store.clashes b.store.clashes (λ less. clashed (tells.clashes less));
    host_reads = not-less a.host.reads b.host.reads (λ less. other given status.ReadFault on refl (tells.reads (inr less)));
    host_writes = not-less a.host.writes b.host.writes (λ less. other given status.WriteFault on refl (tells.writes (inr less)));
    writes = not-less a.writes b.writes (λ less. other given status.WriteFault on refl (tells.writes (inl less)));
  }
    where
      clashed : (given ≡ status.Clash) ⊎ (given ≡ status.Memory) → ⊥
      clashed (inl is) = other given status.Clash on refl is
      clashed (inr is) = other given status.Memory on refl is

  passed-still : (line : List ℕ) (a b : Around) → LinePassed X N line a b → Still a b
  passed-still line a b passed =
      let s = told-still passed.given a (with_sinks passed.printed b.errors b) (line-ran passed.done).faults passed.goes_on in
      let e : b.writes ≡ passed.printed.faults = passed.marked.counted in
      let w : passed.printed.faults ≤ a.writes = s.writes in
      record { faults = s.faults; clashes = s.clashes; host_reads = s.host_reads; host_writes = s.host_writes; writes = omega (arith, e, w) }

  gone-still : (line : List ℕ) (a b : Around) → LineGone X N line a b → Still a b
  gone-still line a b (inl none) = still-same a b (but-errors none.1)
  gone-still line a b (inr passed) = passed-still line a b passed

  pub lines-still : (lines : List (List ℕ)) (a b : Around) → LinesDone X N lines a b → Still a b
  lines-still [] a b same = still-same a b (but-errors same)
  lines-still (line ∷ lines) a b done = still-then a done.0 b (gone-still line a done.0 done.1) (lines-still lines done.0 b done.2)

  -- what failed at the end of a batch is its status
  record EndsTold (ending : Ending X N) (given : Status) (m b : Around) : Type 0 where
    failed : m.store.faults < b.store.faults → given ≡ status.StoreFault
    clashed : m.store.clashes < b.store.clashes → (given ≡ status.Clash) ⊎ (given ≡ status.Memory)
    host_read : m.host.reads < b.host.reads → given ≡ status.ReadFault
    host_written : m.host.writes < b.host.writes → given ≡ status.WriteFault
    written : m.writes < b.writes → (given ≡ status.WriteFault) ⊎ EndsAtLine X N ending given

  still-told : (ending : Ending X N) (given : Status) (m b : Around) → Still m b → EndsTold ending given m b
  still-told ending given m b s = record {
    failed = λ less. absurd (let e = s.faults in omega (arith, e, less));
    clashed = λ less. absurd (let e = s.clashes in omega (arith, e, less));
    host_read = λ less. absurd (let e = s.host_reads in omega (arith, e, less));
    host_written = λ less. absurd (let e = s.host_writes in omega (arith, e, less));
    written = λ less. absurd (let e = s.writes in omega (arith, e, less));
  }

  line-told : (line : List ℕ) (given : Status) (m b : Around) → LineEnds X N line given m b → EndsTold (AtLine line) given m b
  line-told line given m b e = record {
    failed = λ less. (line-ran e.done).faults.store less;
    clashed = λ less. (line-ran e.done).faults.clashes less;
    host_read = λ less. (line-ran e.done).faults.reads (inr less);
    host_written = λ less. (line-ran e.done).faults.writes (inr less);
    written = λ less. inr (line, refl, e.ends);
  }

  cut-told : (line : List ℕ) (given : Status) (m b : Around) → LineCut X N line given m b → EndsTold (AtLine line) given m b
  cut-told line given m b e =
      let s = told-still e.was m (with_sinks e.printed e.between b) (line-ran e.done).faults e.goes_on in
      record {
        failed = λ less. absurd (let k : b.store.faults ≤ m.store.faults = s.faults in omega (arith, k, less));
        clashed = λ less. absurd (let k : b.store.clashes ≤ m.store.clashes = s.clashes in omega (arith, k, less));
        host_read = λ less. absurd (let k : b.host.reads ≤ m.host.reads = s.host_reads in omega (arith, k, less));
        host_written = λ less. absurd (let k : b.host.writes ≤ m.host.writes = s.host_writes in omega (arith, k, less));
        written = λ less. inl (write-told (Said e.between b.errors) given e.tells);
      }

  ends-told : (ending : Ending X N) (given : Status) (m b : Around) → EndsSo X N ending given m b → EndsTold ending given m b
  ends-told WithInput given m b e = still-told WithInput given m b (still-same m b (but-errors e.1))
  ends-told TooLong given m b e = still-told TooLong given m b (still-same m b e.same)
  ends-told ByReading given m b e = still-told ByReading given m b (still-same m b e.same)
  ends-told ByMemory given m b e = still-told ByMemory given m b (still-same m b e.same)
  ends-told (AtLine line) given m b (inl e) = line-told line given m b e
  ends-told (AtLine line) given m b (inr e) = cut-told line given m b e

  -- the input of a batch fails only where it ends by that
  input-told : (ending : Ending X N) (given : Status) (m b : Around) (reads reads_now : ℕ) → EndsSo X N ending given m b → ReadingFails X N ending reads reads_now → reads < reads_now → given ≡ status.ReadFault
  input-told WithInput given m b reads reads_now e f less = absurd (omega (arith, f, less))
  input-told TooLong given m b reads reads_now e f less = absurd (omega (arith, f, less))
  input-told ByReading given m b reads reads_now e f less = read-told (Said m.errors b.errors) given e.told
  input-told ByMemory given m b reads reads_now e f less = absurd (omega (arith, f, less))
  input-told (AtLine line) given m b reads reads_now e f less = absurd (omega (arith, f, less))

  pub batch-told : (most limit : ℕ) (given : Status) (a b : Around) (did : Batches X N most limit given a b) → PassesNoneOver X N did.ending given a b
  batch-told most limit given a b did =
      let s = lines-still did.lines (without_input a) did.between did.done in
      let t = ends-told did.ending given did.between (without_input b) did.ends in
      record {
        failed = λ less. t.failed (let k = s.faults in omega (arith, k, less));
        clashed = λ less. t.clashed (let k = s.clashes in omega (arith, k, less));
        read = λ rose. by s.host_reads t.host_read rose;
        host_written = λ less. t.host_written (let k = s.host_writes in omega (arith, k, less));
        written = λ less. t.written (let k = s.writes in omega (arith, k, less));
      }
    where
      by : did.between.host.reads ≤ a.host.reads → (did.between.host.reads < b.host.reads → given ≡ status.ReadFault)
          → (a.reads < b.reads) ⊎ (a.host.reads < b.host.reads) → given ≡ status.ReadFault
      by still told (inl less) = input-told did.ending given did.between (without_input b) a.reads b.reads did.ends did.fails less
      by still told (inr less) = told (omega (arith, still, less))
