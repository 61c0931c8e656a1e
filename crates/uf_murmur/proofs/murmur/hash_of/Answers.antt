use Rattle.std.proofs.Common.{◌≡◌, ◌+◌, ◌*◌, ◌/◌, length, refl, ap, sym, ◌∙◌, arith, ℕ, add-one, get_or, drop}
use Rattle.std.specs.Prelude.{bit_xor}
use Rattle.uf_murmur.specs.Murmur.{murmur3, halves_after, next_halves, next_first, next_second, first_part, second_part, word_at, finished}
use Rattle.uf_murmur.proofs.Words.{word_behind, rest_from}
use Rattle.uf_murmur.proofs.murmur.hash_of.Goals as goal

pub loop-block-init : goal.loop-block-init
unfolding halves_after
loop-block-init c = refl

pub loop-block-preserved : goal.loop-block-preserved
unfolding halves_after
loop-block-preserved c =
    let name = c.args.name.now in
    let n = c.loop-block.block in
    let first : next_first c.loop-block.h1 c.loop-block.h2 (word_at name (16 * n)) ≡ c.first_half-h1.result
    = ap (next_first c.loop-block.h1 c.loop-block.h2) (sym c.word_at.ensures) ∙ sym c.first_half-h1.ensures in
    let second : next_second (next_first c.loop-block.h1 c.loop-block.h2 (word_at name (16 * n))) c.loop-block.h2 (word_at name (16 * n + 8)) ≡ c.second_half-h2.result
    = ap (λ h. next_second h c.loop-block.h2 (word_at name (16 * n + 8))) first
    ∙ ap (next_second c.first_half-h1.result c.loop-block.h2) (sym c.word_at-in-loop-block.ensures) ∙ sym c.second_half-h2.ensures in
    ap (halves_after name) (add-one n)
    ∙ ap (λ h. next_halves h (word_at name (16 * n)) (word_at name (16 * n + 8))) c.loop-block.invariant
    ∙ (λ i. (first i, second i))

pub returns : goal.returns
unfolding murmur3
returns c =
    let name = c.args.name.now in
    let whole = length name / 16 in
    let all : c.loop-block.block ≡ whole = omega arith in
    let halves : halves_after name whole ≡ (c.loop-block.h1, c.loop-block.h2) = ap (halves_after name) (sym all) ∙ c.loop-block.invariant in
    let behind : (i : ℕ) → get_or c.filled-last.result i 0 ≡ get_or (drop (16 * whole) name) i 0
    = λ i. c.filled-last.ensures i ∙ ap (λ rest. get_or rest i 0) (rest_from name (16 * whole)) in
    let first : c.first_part-h1.result ≡ first_part (word_at name (16 * whole))
    = c.first_part-h1.ensures ∙ ap first_part (c.word_at-2.ensures ∙ word_behind c.filled-last.result name (16 * whole) behind 0 (16 * whole) (omega arith)) in
    let second : c.second_part-h2.result ≡ second_part (word_at name (16 * whole + 8))
    = c.second_part-h2.ensures ∙ ap second_part (c.word_at-3.ensures ∙ word_behind c.filled-last.result name (16 * whole) behind 8 (16 * whole + 8) (omega arith)) in
    c.finish.ensures
    ∙ (λ i. finished (bit_xor c.loop-block.h1 (first i)) (bit_xor c.loop-block.h2 (second i)) (length name))
    ∙ (λ i. finished (bit_xor (sym halves i).0 (first_part (word_at name (16 * whole)))) (bit_xor (sym halves i).1 (second_part (word_at name (16 * whole + 8)))) (length name))
