use Rattle.std.proofs.Common.{◌∙◌, ◌+◌, ◌%◌, ap}
use Rattle.uf_gen.specs.Rules.{mixed}
use Rattle.std.specs.Prelude.{max}
use Rattle.uf_gen.proofs.Counted.{length-changed, length-kept}
use Rattle.uf_gen.proofs.sums.last_length.Goals as goal

pub returns-then-i-eq1-clause-is : goal.returns-then-i-eq1-clause-is
returns-then-i-eq1-clause-is c =
    length-changed c.args.seed c.args.i c.if-i-eq1.true c.max.result
    (c.max.ensures ∙ ap (λ n. max n (c.late_offset.result + 1)) c.first_length-first.ensures.is
    ∙ ap (λ n. max (mixed c.args.seed c.args.i % 4096) (n + 1)) c.late_offset.ensures.is)

pub returns-else-i-eq1-clause-is : goal.returns-else-i-eq1-clause-is
returns-else-i-eq1-clause-is c = c.first_length-first.ensures.is ∙ length-kept c.args.seed c.args.i c.if-i-eq1.false
