use Rattle.std.proofs.Common.{◌+◌, ◌%◌, ◌++◌, ◌∷◌, [], sym, ap, ◌∙◌, arith}
use Rattle.std.proofs.lemmas.List.FromFn.{map-range_with_len_more}
use Rattle.uf_gen.specs.Rules.{mixed, rising_bytes}
use Rattle.uf_gen.proofs.rules.first_bytes.Goals as goal

pub loop-j-preserved : goal.loop-j-preserved
loop-j-preserved c =
    let from = c.mixed_number-from.result in
    c.in_ok-extend.ensures.ok
    ∙ ap (λ l. l ++ (from + c.loop-j.j) % 256 ∷ []) c.loop-j.invariant
    ∙ sym (map-range_with_len_more (λ j. (from + j) % 256) 0 c.loop-j.j c.loop-j.j (omega arith))

pub returns : goal.returns
returns c =
    let from = c.mixed_number-from.result in
    c.loop-j.invariant
    ∙ ap (rising_bytes from) {x = c.loop-j.j} {y = c.first_length-count.result} (omega (arith, c.loop-j-test.false, c.loop-j.auto.j-end))
    ∙ ap (rising_bytes from) c.first_length-count.ensures.is
    ∙ ap (λ m. rising_bytes m (mixed c.args.seed c.args.i % 4096)) c.mixed_number-from.ensures.is
