-- Names that are good.
use Rattle.std.proofs.Common.{◌≡◌, ℕ, ◌<◌, ◌≤◌, List, [], ◌∷◌, length, refl, ap, arith, subst, sym, ◌∙◌, Bool, true, false}
use Rattle.std.specs.Prelude.{◌&&◌, ◌||◌, ◌==◌, not, IsTrue}
use Rattle.std.specs.List.{list_any}
use Rattle.std.specs.Str.{IsUtf8}
use Rattle.std.proofs.lemmas.Str.{is_utf8-from_IsUtf8}
use Rattle.std.proofs.lemmas.Bool.Decides.{nat_tests}
use Rattle.uf_tree.specs.Names.{is_dots, is_good, is_name}

-- good bytes that are text are a name
pub name_from : (bytes : List ℕ) → is_good bytes ≡ true → IsUtf8 bytes → IsTrue (is_name bytes)
name_from bytes good text = rw (good, is_utf8-from_IsUtf8 bytes text) refl

-- bytes that aren't good are none
pub no_name_from : (bytes : List ℕ) → is_good bytes ≡ false → is_name bytes ≡ false
no_name_from bytes bad = rw bad refl

pub good-empty : (bytes : List ℕ) → length bytes ≡ 0 → is_good bytes ≡ false
good-empty [] e = refl
good-empty (b ∷ bytes) e = absurd (omega arith)

pub good-long : (bytes : List ℕ) → 255 < length bytes → is_good bytes ≡ false
good-long bytes long = grind (arith, nat_tests)

pub good-short : (bytes : List ℕ) (separated dots : Bool) → 1 ≤ length bytes → length bytes ≤ 255 → separated ≡ list_any (λ b. (b == 47) || (b == 0)) bytes → dots ≡ is_dots bytes
    → (not separated && not dots) ≡ is_good bytes
good-short bytes separated dots some short s d = rw (s, d) (grind (arith, nat_tests))

-- the same, with where the bytes stand
pub name_by : (own text name : List ℕ) → text ≡ own → own ≡ name → is_good own ≡ true → IsUtf8 text → IsTrue (is_name name)
name_by own text name e f good text_is = name_from name (ap is_good (sym f) ∙ good) (subst IsUtf8 (e ∙ f) text_is)

pub parsed : (text bytes : List ℕ) (good : Bool) → bytes ≡ text → IsUtf8 text → good ≡ is_good bytes → good ≡ true → IsTrue (is_name text)
parsed text bytes good e text_is is holds = name_from text (ap is_good (sym e) ∙ sym is ∙ holds) text_is
