-- No count falls over a command.
use Rattle.std.proofs.Common.{◌≡◌, ℕ, ◌≤◌, List, Bool, true, false, arith, refl, sym, ap, subst, ◌∙◌, inl, inr, Result}
use Rattle.uf_edge.specs.Counts.{Rose, Stood}
use Rattle.uf_store.specs.Faults.{Rises}
use Rattle.uf_store.specs.Seen.{Seen}
use Rattle.uf_store.proofs.Calls.{shown-rises}
use Rattle.uf_command.specs.Natures.{uses_host, writes_host}
use Rattle.uf_command.specs.Kinds.{refusal_fault}
use Rattle.uf_command.specs.declared.types.Command.{Command}
use Rattle.uf_command.specs.declared.types.Refusal.{Refusal}
use Rattle.uf_top.specs.Around.{Around, HostSide, NoneFalls, RisesFor, SameButErrors, SinkSide, StandsOrRose, TakesHost, is_output_write}
use Rattle.uf_top.specs.Causes.{IsBadIn, is_read, is_write}
use Rattle.uf_top.specs.Working.{Does}
use Rattle.uf_top.specs.Batch.{with_output}

-- ---- one count after the other

pub stands-then : (i j k : ℕ) → StandsOrRose i j → StandsOrRose j k → StandsOrRose i k
stands-then i j k (inl e) (inl f) = inl (f ∙ e)
stands-then i j k (inl e) (inr r) = inr (subst (λ x. Rose x k) e r)
stands-then i j k (inr r) (inl f) = inr (subst (Rose i) (sym f) r)
stands-then i j k (inr r) (inr s) = inr (omega (arith, r, s))

-- a count that didn't rise over two calls didn't rise in either
pub stood-first : (i j k : ℕ) → StandsOrRose i j → StandsOrRose j k → Stood i k → Stood i j
stood-first i j k (inl e) (inl f) h = omega (arith, e, f, h)
stood-first i j k (inl e) (inr r) h = absurd (omega (arith, e, r, h))
stood-first i j k (inr r) (inl f) h = absurd (omega (arith, r, f, h))
stood-first i j k (inr r) (inr s) h = absurd (omega (arith, r, s, h))

pub stood-last : (i j k : ℕ) → StandsOrRose i j → StandsOrRose j k → Stood i k → Stood j k
stood-last i j k (inl e) (inl f) h = omega (arith, e, f, h)
stood-last i j k (inl e) (inr r) h = absurd (omega (arith, e, r, h))
stood-last i j k (inr r) (inl f) h = absurd (omega (arith, r, f, h))
stood-last i j k (inr r) (inr s) h = absurd (omega (arith, r, s, h))

pub rose-not-stood : (i j : ℕ) → Rose i j → Stood i j → ⊥
rose-not-stood i j r h = omega (arith, r, h)

pub rises-refl : (a : Seen) → Rises a a
rises-refl a = record { finds = omega arith; misses = omega arith; faults = omega arith; clashes = omega arith }

rises-then : (a b c : Seen) → Rises a b → Rises b c → Rises a c
rises-then a b c p q = record {
  finds = omega (arith, p.finds, q.finds);
  misses = omega (arith, p.misses, q.misses);
  faults = omega (arith, p.faults, q.faults);
  clashes = omega (arith, p.clashes, q.clashes);
}

-- ---- all of them

-- all is as before, and so all but the error lines
pub but-errors : {a b : Around} → b ≡ a → SameButErrors a b
but-errors {a} {b} same = subst (SameButErrors a) (sym same) refl

-- an output and error lines in place of those that are there
abbrev pub with_sinks : SinkSide → SinkSide → Around → Around
with_sinks output errors a = record (with_output output a) { errors = errors }

pub none-same : (a b : Around) → SameButErrors a b → NoneFalls a b
none-same a b same = subst (NoneFalls a) (sym same) (record { store = rises-refl a.store; reads = omega arith; writes = inl refl; host_reads = omega arith; host_writes = omega arith })

pub none-then : (a b c : Around) → NoneFalls a b → NoneFalls b c → NoneFalls a c
none-then a b c p q = record {
  store = rises-then a.store b.store c.store p.store q.store;
  reads = omega (arith, p.reads, q.reads);
  writes = stands-then a.writes b.writes c.writes p.writes q.writes;
  host_reads = omega (arith, p.host_reads, q.host_reads);
  host_writes = omega (arith, p.host_writes, q.host_writes);
}

-- ---- of a command

reads-later : (writes uses is_read is_write : Bool) (s t : HostSide) → TakesHost writes uses is_read is_write s t → s.reads ≤ t.reads
reads-later true uses is_read is_write s t used = used.reads.later
reads-later false true is_read is_write s t used = used.reads.later
reads-later false false is_read is_write s t used = (let e = ap (λ (x : HostSide). x.reads) used in omega (arith, e))

writes-later : (writes uses is_read is_write : Bool) (s t : HostSide) → TakesHost writes uses is_read is_write s t → s.writes ≤ t.writes
writes-later true uses is_read is_write s t used = used.writes.later
writes-later false true is_read is_write s t used = (let e = used.writes in omega (arith, e))
writes-later false false is_read is_write s t used = (let e = ap (λ (x : HostSide). x.writes) used in omega (arith, e))

stands-or-rose : (is_told : Bool) (i j : ℕ) → RisesFor is_told i j → StandsOrRose i j
stands-or-rose true i j h = inr (h.rose refl)
stands-or-rose false i j h = inl (h.still refl)

module _ (X : List ℕ → List ℕ) (N : List ℕ → ℕ) (a b : Around) where
  pub counted-of : (command : Command) (done : Result (Unit {0}) Refusal) → Does X N command done a b → NoneFalls a b
  counted-of command done s = record {
    store = shown-rises X (IsBadIn X N a.store.told b.store.told) (refusal_fault done) a.store b.store s.cause;
    reads = s.reads.later;
    writes = stands-or-rose (is_output_write command done) a.writes b.writes s.writes;
    host_reads = reads-later (writes_host command) (uses_host command) (is_read done) (is_write done) a.host b.host s.host;
    host_writes = writes-later (writes_host command) (uses_host command) (is_read done) (is_write done) a.host b.host s.host;
  }
