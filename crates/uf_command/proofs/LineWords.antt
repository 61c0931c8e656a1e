-- What a line of a batch asks for, from its words.
use Rattle.std.proofs.Common.{◌≡◌, ◌∙◌, ℕ, ◌<◌, List, [], ◌∷◌, length, All, Bool, true, false, refl, sym, ap, subst, inl, inr, arith, Some, Result, Ok, Err}
use Rattle.std.proofs.lemmas.List.Elements.{All-weaker}
use Rattle.std.proofs.lemmas.List.Sums.{AllPass-from_list_all, list_all-from_AllPass}
use Rattle.std.proofs.lemmas.Str.{IsUtf8-from_is_utf8, is_utf8-from_IsUtf8}
use Rattle.std.specs.List.{list_all}
use Rattle.std.specs.Str.{IsUtf8, is_utf8}
use Rattle.uf_words.specs.Commands.{command_of}
use Rattle.uf_words.specs.Lines.{line_words}
use Rattle.uf_command.specs.Batches.{IsAskedBy, asked_in_batch, line_asks, line_in}
use Rattle.uf_command.specs.Commands.{IsAsked}
use Rattle.uf_command.specs.declared.types.Command.{Command}
use Rattle.uf_command.specs.declared.types.Refusal.{Refusal}
use Rattle.uf_command.specs.declared.types.Refusal.TheVariants as refusal

are-texts : (words : List (List ℕ)) → All IsUtf8 words → list_all is_utf8 words ≡ true
are-texts words texts = list_all-from_AllPass is_utf8 words (All-weaker IsUtf8 (λ w. is_utf8 w ≡ true) is_utf8-from_IsUtf8 words texts)

no-texts : (words : List (List ℕ)) → ¬ All IsUtf8 words → list_all is_utf8 words ≡ false
no-texts words none = by (list_all is_utf8 words) refl
  where
    by : (b : Bool) → list_all is_utf8 words ≡ b → list_all is_utf8 words ≡ false
    by true is = absurd (none (All-weaker (λ w. is_utf8 w ≡ true) IsUtf8 IsUtf8-from_is_utf8 words (AllPass-from_list_all is_utf8 words is)))
    by false is = is

-- a line whose words aren't all texts
pub asks-no-texts : (line : List ℕ) → ¬ All IsUtf8 (line_words line) → IsAskedBy (Some (Err refusal.Usage)) (line_in line)
asks-no-texts line none = inr (ap (λ b. line_asks b (line_words line)) (no-texts (line_words line) none))

-- words that are texts, of which there is one at least
pub asks-words : (line : List ℕ) (words : List (List ℕ)) (given : Result Command Refusal) → words ≡ line_words line → All IsUtf8 (line_words line) → 0 < length words
    → IsAsked given (asked_in_batch (command_of words)) → IsAskedBy (Some given) (line_in line)
asks-words line words given same texts some answers =
    subst (IsAskedBy (Some given)) (sym (ap (λ b. line_asks b (line_words line)) (are-texts (line_words line) texts) ∙ ap (line_asks true) (sym same))) (by words given some answers)
  where
    by : (words : List (List ℕ)) (given : Result Command Refusal) → 0 < length words → IsAsked given (asked_in_batch (command_of words)) → IsAskedBy (Some given) (line_asks true words)
    by [] given some answers = absurd (omega arith)
    by (first ∷ words) (Ok command) some answers = ap Some answers
    by (first ∷ words) (Err why) some (inl memory) = inl memory
    by (first ∷ words) (Err why) some (inr same) = inr (ap Some same)
