use Rattle.std.proofs.Common.{arith, get_or}
use Rattle.std.proofs.lemmas.Bool.{ne_eqb}
use Rattle.uf_command.proofs.Slashes.{all-counted}
use Rattle.uf_command.proofs.asking.slashes_before.Goals as goal

pub returns-else-text-count-eq47-clause-count : goal.returns-else-text-count-eq47-clause-count
returns-else-text-count-eq47-clause-count c =
    let text = c.args.text.now in let count = c.slashes.count in
    all-counted text count c.slashes.invariant.0 c.slashes.invariant.1 (λ below. ne_eqb (get_or text count 0) 47 c.if-text-count-eq47.false)

pub returns-after-slashes-clause-count : goal.returns-after-slashes-clause-count
returns-after-slashes-clause-count c =
    let e = c.slashes-test.false in
    all-counted c.args.text.now c.slashes.count c.slashes.invariant.0 c.slashes.invariant.1 (λ below. absurd (omega (arith, below, e)))
