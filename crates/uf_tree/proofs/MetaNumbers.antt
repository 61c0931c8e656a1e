-- Metadata and its numbers.
use Rattle.std.proofs.Common.{◌≡◌, ℕ, ◌^◌, ◌<◌, refl, arith, true, Option, Some, None, ℤ, pos, negsuc}
use Rattle.std.specs.Prelude.{IfSome, IsTrue, FitsSigned, nat_lt}
use Rattle.std.specs.Int.{w64}
use Rattle.std.proofs.lemmas.Bool.Decides.{nat_tests}
use Rattle.uf_message.specs.declared.message.Mtime.{Mtime}
use Rattle.uf_tree.specs.declared.meta.Meta.{Meta}
use Rattle.uf_tree.specs.Metas.{none, is_bare, is_meta, is_mode, is_mtime, is_nanos, is_seconds}
use Rattle.uf_tree.proofs.Twins.{both_true}

pub none-is_meta : IsTrue (is_meta none)
none-is_meta = refl

below : (n m : ℕ) → nat_lt n m ≡ true → n < m
below n m h = grind (arith, nat_tests)

is_below : (n m : ℕ) → n < m → nat_lt n m ≡ true
is_below n m h = grind (arith, nat_tests)

-- ---- what good metadata says of its numbers

mode_by : (o : Option ℕ) → is_mode o ≡ true → IfSome o (λ n. n < 2 ^ 32)
mode_by None h = tt
mode_by (Some n) h = below n (2 ^ 32) h

seconds_by : (z : ℤ) → is_seconds z ≡ true → FitsSigned w64 z
seconds_by (pos n) h = record { sfits = below n (2 ^ 63) h }
seconds_by (negsuc n) h = record { sfits = below n (2 ^ 63) h }

nanos_by : (o : Option ℕ) → is_nanos o ≡ true → IfSome o (λ n. n < 2 ^ 32)
nanos_by None h = tt
nanos_by (Some n) h = grind (arith, nat_tests)

time_seconds : (o : Option Mtime) → is_mtime o ≡ true → IfSome o (λ t. FitsSigned w64 t.seconds)
time_seconds None h = tt
time_seconds (Some t) h = seconds_by t.seconds (both_true (is_seconds t.seconds) (is_nanos t.nanos) h).0

time_nanos : (o : Option Mtime) → is_mtime o ≡ true → IfSome o (λ t. IfSome t.nanos (λ n. n < 2 ^ 32))
time_nanos None h = tt
time_nanos (Some t) h = nanos_by t.nanos (both_true (is_seconds t.seconds) (is_nanos t.nanos) h).1

pub mode_fits : (m : Meta) → IsTrue (is_meta m) → IfSome m.mode (λ n. n < 2 ^ 32)
mode_fits m h = mode_by m.mode (both_true (is_mode m.mode) (is_mtime m.mtime) h).0

pub seconds_fit : (m : Meta) → IsTrue (is_meta m) → IfSome m.mtime (λ t. FitsSigned w64 t.seconds)
seconds_fit m h = time_seconds m.mtime (both_true (is_mode m.mode) (is_mtime m.mtime) h).1

pub nanos_fit : (m : Meta) → IsTrue (is_meta m) → IfSome m.mtime (λ t. IfSome t.nanos (λ n. n < 2 ^ 32))
nanos_fit m h = time_nanos m.mtime (both_true (is_mode m.mode) (is_mtime m.mtime) h).1

-- ---- what a value's type says of it

pub mode_is : (n : ℕ) → n < 2 ^ 32 → is_mode (Some n) ≡ true
mode_is n h = is_below n (2 ^ 32) h

pub seconds_are : (z : ℤ) → FitsSigned w64 z → is_seconds z ≡ true
seconds_are (pos n) h = is_below n (2 ^ 63) h.sfits
seconds_are (negsuc n) h = is_below n (2 ^ 63) h.sfits

-- ---- metadata that isn't there

bare_by : (a : Option ℕ) (b : Option Mtime) → is_bare (record { mode = a; mtime = b }) ≡ true → record { mode = a; mtime = b } ≡ none
bare_by None None h = refl
bare_by None (Some t) h = absurd cc
bare_by (Some n) b h = absurd cc

pub bare-none : (m : Meta) → is_bare m ≡ true → m ≡ none
bare-none m h = bare_by m.mode m.mtime h
