-- Which calls of a store in memory are to fail.
use Rattle.std.specs.Prelude.{ℕ, ◌+◌, ◌-◌, ◌^◌, min, [], ◌∷◌, ◌++◌, Contains}
use Rattle.uf_store.specs.declared.failing.CallKind.{CallKind}
use Rattle.uf_store.specs.declared.failing.CallKind.TheVariants.{Load, Save, Sync, ReadNote, WriteNote, Sweep}
use Rattle.uf_store.specs.declared.failing.Failing.{Failing}
use Rattle.uf_store.specs.declared.failing.Failures.{Failures}

-- a number that stands still at the last value of a u64
abbrev pub counted : ℕ → ℕ
counted n = min n (2 ^ 64 - 1)

-- one call more was made
abbrev pub ticked : Failing → Failing
ticked f = record { made = counted (f.made + 1); numbers = f.numbers }

-- the next call is to fail
abbrev pub IsDue : Failing → Type 0
IsDue f = Contains f.numbers (counted (f.made + 1))

-- the call that comes as number n from now on is to fail too
abbrev pub with_number : ℕ → Failing → Failing
with_number n f = record { made = f.made; numbers = f.numbers ++ counted (f.made + n) ∷ [] }

-- the calls of one kind
abbrev pub failing_of : CallKind → Failures → Failing
failing_of Load f = f.load
failing_of Save f = f.save
failing_of Sync f = f.sync
failing_of ReadNote f = f.read_note
failing_of WriteNote f = f.write_note
failing_of Sweep f = f.sweep

-- what is to fail, with a change at the calls of one kind
abbrev pub failures_with : CallKind → (Failing → Failing) → Failures → Failures
failures_with Load change f = record f { load = change f.load }
failures_with Save change f = record f { save = change f.save }
failures_with Sync change f = record f { sync = change f.sync }
failures_with ReadNote change f = record f { read_note = change f.read_note }
failures_with WriteNote change f = record f { write_note = change f.write_note }
failures_with Sweep change f = record f { sweep = change f.sweep }

-- the call of a kind that comes as number n from now on is to fail too
abbrev pub with_failure : CallKind → ℕ → Failures → Failures
with_failure what n f = failures_with what (with_number n) f

abbrev pub none_fails : Failing
none_fails = record { made = 0; numbers = [] }

-- no call was made, and none is to fail
abbrev pub no_failures : Failures
no_failures = record {
  load = none_fails;
  save = none_fails;
  sync = none_fails;
  read_note = none_fails;
  write_note = none_fails;
  sweep = none_fails;
}
