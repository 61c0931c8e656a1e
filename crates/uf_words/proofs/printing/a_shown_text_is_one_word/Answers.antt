use Rattle.std.proofs.Common.{◌≡◌, ◌<◌, ℕ, List, [], ◌∷◌, length, refl, arith}
use Rattle.uf_words.proofs.Escapes.{shown_is_one_word}
use Rattle.uf_words.proofs.printing.a_shown_text_is_one_word.Goals as goal

some_bytes : (bytes : List ℕ) → (bytes ≡ [] → ⊥) → 0 < length bytes
some_bytes [] h = absurd (h refl)
some_bytes (b ∷ bytes) h = omega arith

pub returns : goal.returns
returns c = λ bytes small some. shown_is_one_word bytes small (some_bytes bytes some)
