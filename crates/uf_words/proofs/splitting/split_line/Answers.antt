use Rattle.std.proofs.Common.{◌≡◌, map, ℕ, List, [], ◌∙◌, ap, subst, arith, get_or, Bor}
use Rattle.std.specs.Prelude.{string_bytes, All, IsUtf8}
use Rattle.std.proofs.lemmas.Result.{err_from_is_err_and}
use Rattle.uf_words.specs.declared.command.WordFault.TheVariants.{Usage}
use Rattle.uf_words.proofs.LinePieces.{behind, line_is_text, piece_at, piece_is_text, split_ends, split_goes_on}
use Rattle.uf_words.proofs.splitting.split_line.Goals as goal

pub loop-piece-preserved : goal.loop-piece-preserved
loop-piece-preserved c =
    let xs = c.deref-piece-items.result.now in let at = c.loop-piece.piece-index in
    let no_piece : Bor (List ℕ) = record { ref_ptr = (0, 0); now = [] } in
    let here = piece_at xs at no_piece (omega (arith, c.loop-piece-test.true)) in
    split_goes_on (behind xs) (map string_bytes c.loop-piece.words.items) (map string_bytes c.put_word.new.words.items) at (get_or xs at no_piece).now here.0 here.1
    c.loop-piece.invariant c.in_ok-put_word.ensures.0 c.in_ok-put_word.ensures.1

pub returns-in_err-put_word-clause-usage : goal.returns-in_err-put_word-clause-usage
returns-in_err-put_word-clause-usage c = λ is text.
    let out = err_from_is_err_and c.from_residual-in_err-put_word.result c.from_residual-in_err-put_word.ensures.1 in
    let xs = c.deref-piece-items.result.now in let at = c.loop-piece.piece-index in
    let no_piece : Bor (List ℕ) = record { ref_ptr = (0, 0); now = [] } in
    let here = piece_at xs at no_piece (omega (arith, c.loop-piece-test.true)) in
    let usage : c.in_err-put_word.field-0.0 ≡ Usage = cc (out.1, out.2, is) in
    c.in_err-put_word.ensures usage
    (piece_is_text (behind xs) at (get_or xs at no_piece).now here.0 here.1
    (line_is_text c.args.line.now (behind xs) (ap behind c.deref-piece-items.ensures.value ∙ c.in_ok-pieces.ensures) text))

pub returns-clause-words : goal.returns-clause-words
returns-clause-words c =
    split_ends c.args.line.now c.deref-piece-items.result.now (map string_bytes c.loop-piece.words.items) c.loop-piece.piece-index
    (ap behind c.deref-piece-items.ensures.value ∙ c.in_ok-pieces.ensures) (omega (arith, c.loop-piece-test.false)) c.loop-piece.invariant

pub returns-clause-text : goal.returns-clause-text
returns-clause-text c = subst (All IsUtf8) (returns-clause-words c) c.loop-piece.invariant.text
