-- The words of a line, piece by piece.
use Rattle.std.proofs.Common.{◌≡◌, ℕ, ◌+◌, ◌<◌, List, [], ◌∷◌, ◌++◌, map, length, take, drop, get_or, ◌≤◌, refl, sym, ap, subst, ◌∙◌, append-nil, arith}
use Rattle.std.specs.Prelude.{All, IsUtf8}
use Rattle.std.specs.List.{flat_map, slice_split}
use Rattle.std.specs.Borrow.{Bor}
use Rattle.std.proofs.lemmas.Grind.{flat_map-append}
use Rattle.std.proofs.lemmas.List.{get_or-map, length-map, take_more, take_all, take-append-drop, take-append-le, drop_at}
use Rattle.std.proofs.lemmas.List.Elements.{All-append, All-nil, All-drop, All-take}
use Rattle.uf_words.specs.Lines.{is_space, line_words, word_in}

-- the first `at` pieces have these words, which are texts
pub record SplitTo (pieces words : List (List ℕ)) (at : ℕ) : Type 0 where
  pub told : words ≡ flat_map word_in (take at pieces)
  pub text : All IsUtf8 words

pub split_starts : (pieces : List (List ℕ)) → SplitTo pieces [] 0
split_starts pieces = record { told = refl; text = All-nil IsUtf8 }

one_more : (pieces : List (List ℕ)) (at : ℕ) (piece : List ℕ) → at < length pieces → get_or pieces at piece ≡ piece
    → flat_map word_in (take (at + 1) pieces) ≡ flat_map word_in (take at pieces) ++ word_in piece
one_more pieces at piece within is =
    ap (flat_map word_in) (take_more pieces at piece within)
    ∙ flat_map-append word_in (take at pieces) (get_or pieces at piece ∷ [])
    ∙ ap (λ (p : List ℕ). flat_map word_in (take at pieces) ++ (word_in p ++ [])) is
    ∙ ap (λ (ws : List (List ℕ)). flat_map word_in (take at pieces) ++ ws) (append-nil (word_in piece))

pub split_goes_on : (pieces words more : List (List ℕ)) (at : ℕ) (piece : List ℕ) → at < length pieces → get_or pieces at piece ≡ piece
    → SplitTo pieces words at → more ≡ words ++ word_in piece → All IsUtf8 (word_in piece) → SplitTo pieces more (at + 1)
split_goes_on pieces words more at piece within is so_far put text = record {
  told = put ∙ ap (λ (ws : List (List ℕ)). ws ++ word_in piece) so_far.told ∙ sym (one_more pieces at piece within is);
  text = subst (All IsUtf8) (sym put) (All-append IsUtf8 words (word_in piece) so_far.text text);
}

All-right : (xs ys : List (List ℕ)) → All IsUtf8 (xs ++ ys) → All IsUtf8 ys
All-right xs ys all = subst (All IsUtf8) (drop_at xs ys (length xs) refl) (All-drop IsUtf8 (length xs) (xs ++ ys) all)

All-left : (xs ys : List (List ℕ)) → All IsUtf8 (xs ++ ys) → All IsUtf8 xs
All-left xs ys all = subst (All IsUtf8) (take-append-le (length xs) xs ys (omega arith) ∙ take_all (length xs) xs (omega arith)) (All-take IsUtf8 (length xs) (xs ++ ys) all)

-- a word of a piece that is no text is one of the line
pub piece_is_text : (pieces : List (List ℕ)) (at : ℕ) (piece : List ℕ) → at < length pieces → get_or pieces at piece ≡ piece
    → All IsUtf8 (flat_map word_in pieces) → All IsUtf8 (word_in piece)
piece_is_text pieces at piece within is all =
    let cut = ap (flat_map word_in) (take-append-drop (at + 1) pieces) in
    let parts = flat_map-append word_in (take (at + 1) pieces) (drop (at + 1) pieces) in
    let front = All-left (flat_map word_in (take (at + 1) pieces)) (flat_map word_in (drop (at + 1) pieces)) (subst (All IsUtf8) (sym cut ∙ parts) all) in
    All-right (flat_map word_in (take at pieces)) (word_in piece) (subst (All IsUtf8) (one_more pieces at piece within is) front)

pub line_is_text : (line : List ℕ) (pieces : List (List ℕ)) → pieces ≡ slice_split is_space line → All IsUtf8 (line_words line) → All IsUtf8 (flat_map word_in pieces)
unfolding line_words
line_is_text line pieces is all = subst (λ (ps : List (List ℕ)). All IsUtf8 (flat_map word_in ps)) (sym is) all

-- the pieces behind references
abbrev pub behind : List (Bor (List ℕ)) → List (List ℕ)
behind = map (λ piece. piece.now)

pub piece_at : (xs : List (Bor (List ℕ))) (at : ℕ) (d : Bor (List ℕ)) → at < length xs
    → (at < length (behind xs)) × (get_or (behind xs) at (get_or xs at d).now ≡ (get_or xs at d).now)
piece_at xs at d within =
    let same : length (behind xs) ≡ length xs = length-map xs (λ (piece : Bor (List ℕ)). piece.now) in
    (omega arith, get_or-map (λ (piece : Bor (List ℕ)). piece.now) xs at d (get_or xs at d).now within)

-- all pieces have been split
pub split_ends : (line : List ℕ) (xs : List (Bor (List ℕ))) (words : List (List ℕ)) (at : ℕ) → behind xs ≡ slice_split is_space line → length xs ≤ at → SplitTo (behind xs) words at
    → words ≡ line_words line
unfolding line_words
split_ends line xs words at is whole split =
    let same : length (behind xs) ≡ length xs = length-map xs (λ (piece : Bor (List ℕ)). piece.now) in
    split.told ∙ ap (flat_map word_in) (take_all at (behind xs) (omega arith) ∙ is)
