-- The names of generated files are good names.
use Rattle.std.proofs.Common.{◌≡◌, ℕ, zero, suc, ◌+◌, ◌/◌, ◌%◌, ◌<◌, List, [], ◌∷◌, ◌++◌, refl, ap, ◌∙◌, arith, Bool, true, false}
use Rattle.std.specs.Prelude.{◌==◌, ◌||◌, ◌&&◌, not}
use Rattle.std.specs.List.{list_any}
use Rattle.std.specs.Str.{IsAscii, is_utf8}
use Rattle.std.proofs.lemmas.Bool.Decides.{nat_tests}
use Rattle.std.proofs.lemmas.Nat.{mod_below}
use Rattle.std.proofs.lemmas.Str.{IsUtf8-from_ascii, is_utf8-from_IsUtf8}
use Rattle.std.proofs.lemmas.Str.Ascii.{IsAscii-cons, IsAscii-push}
use Rattle.uf_tree.specs.Names.{is_dots, is_name}
use Rattle.uf_gen.specs.Rules.{digits, file_name}

digit-below : (i : ℕ) → 48 + i % 10 < 128
digit-below i = omega (arith, mod_below i 10 (omega arith))

digits-ascii : (count i : ℕ) → IsAscii (digits count i)
unfolding digits
digits-ascii zero i = λ k. omega arith
digits-ascii (suc count) i = IsAscii-push (digits count (i / 10)) (48 + i % 10) (digits-ascii count (i / 10)) (digit-below i)

pub name-ascii : (i : ℕ) → IsAscii (file_name i)
name-ascii i = IsAscii-cons 102 (digits 8 i) (omega arith) (digits-ascii 8 i)

is_bad : ℕ → Bool
is_bad b = (b == 47) || (b == 0)

plain-digit : (i : ℕ) → is_bad (48 + i % 10) ≡ false
unfolding is_bad
plain-digit i = grind (arith, nat_tests)

either_false : (s t : Bool) → s || t ≡ false → (s ≡ false) × (t ≡ false)
either_false true t e = absurd cc
either_false false t e = (refl, e)

any-push : (test : ℕ → Bool) (l : List ℕ) (b : ℕ) → list_any test l ≡ false → test b ≡ false → list_any test (l ++ b ∷ []) ≡ false
any-push test [] b h g = ap (λ t. t || false) g
any-push test (a ∷ l) b h g =
    let parts = either_false (test a) (list_any test l) h in
    ap (λ s. s || list_any test (l ++ b ∷ [])) parts.0 ∙ any-push test l b parts.1 g

digits-plain : (count i : ℕ) → list_any is_bad (digits count i) ≡ false
unfolding digits
digits-plain zero i = refl
digits-plain (suc count) i = any-push is_bad (digits count (i / 10)) (48 + i % 10) (digits-plain count (i / 10)) (plain-digit i)

pub name-good : (i : ℕ) → is_name (file_name i) ≡ true
unfolding digits is_bad
name-good i =
    ap (λ b. not b && not (is_dots (file_name i)) && is_utf8 (file_name i)) (digits-plain 8 i)
    ∙ is_utf8-from_IsUtf8 (file_name i) (IsUtf8-from_ascii (file_name i) (name-ascii i))
