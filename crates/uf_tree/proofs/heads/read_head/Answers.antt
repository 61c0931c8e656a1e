use Rattle.std.proofs.Common.{inr}
use Rattle.std.proofs.lemmas.Result.{err_from_is_err_and}
use Rattle.uf_tree.proofs.HeadIs.{no_first, no_chunk, no_width, no_threshold, no_root, all_lines, more_lines}
use Rattle.uf_tree.proofs.heads.read_head.Goals as goal

pub returns-in_err-rest-clause-refused : goal.returns-in_err-rest-clause-refused
returns-in_err-rest-clause-refused c =
    let out = err_from_is_err_and c.from_residual.result c.from_residual.ensures.1 in rw (out.1, out.2)
    (no_first c.args.bytes.now c.in_err-rest.field-0.0 c.in_err-rest.ensures)

pub returns-in_err-chunk-clause-refused : goal.returns-in_err-chunk-clause-refused
returns-in_err-chunk-clause-refused c =
    let out = err_from_is_err_and c.from_residual-in_err-chunk.result c.from_residual-in_err-chunk.ensures.1 in rw (out.1, out.2)
    (no_chunk c.args.bytes.now c.in_ok-rest.rest.now c.in_ok-rest.ensures c.in_err-chunk.field-0.0 c.in_err-chunk.ensures)

pub returns-in_err-width-clause-refused : goal.returns-in_err-width-clause-refused
returns-in_err-width-clause-refused c =
    let out = err_from_is_err_and c.from_residual-in_err-width.result c.from_residual-in_err-width.ensures.1 in rw (out.1, out.2)
    (no_width c.args.bytes.now c.in_ok-rest.rest.now c.in_ok-rest.ensures c.in_ok-chunk.chunk c.in_ok-chunk.rest.now c.in_ok-chunk.ensures
    c.in_err-width.field-0.0 c.in_err-width.ensures)

pub returns-in_err-threshold-clause-refused : goal.returns-in_err-threshold-clause-refused
returns-in_err-threshold-clause-refused c =
    let out = err_from_is_err_and c.from_residual-in_err-threshold.result c.from_residual-in_err-threshold.ensures.1 in rw (out.1, out.2)
    (no_threshold c.args.bytes.now c.in_ok-rest.rest.now c.in_ok-rest.ensures c.in_ok-chunk.chunk c.in_ok-chunk.rest.now c.in_ok-chunk.ensures
    c.in_ok-width.width c.in_ok-width.rest.now c.in_ok-width.ensures c.in_err-threshold.field-0.0 c.in_err-threshold.ensures)

pub returns-in_err-root-clause-refused : goal.returns-in_err-root-clause-refused
returns-in_err-root-clause-refused c =
    let out = err_from_is_err_and c.from_residual-in_err-root.result c.from_residual-in_err-root.ensures.1 in rw (out.1, out.2)
    (no_root c.args.bytes.now c.in_ok-rest.rest.now c.in_ok-rest.ensures c.in_ok-chunk.chunk c.in_ok-chunk.rest.now c.in_ok-chunk.ensures
    c.in_ok-width.width c.in_ok-width.rest.now c.in_ok-width.ensures c.in_ok-threshold.threshold c.in_ok-threshold.rest.now c.in_ok-threshold.ensures
    c.in_err-root.field-0.0 c.in_err-root.ensures)

pub returns-then-is_empty-clause-written : goal.returns-then-is_empty-clause-written
returns-then-is_empty-clause-written c =
    all_lines c.args.bytes.now c.in_ok-rest.rest.now c.in_ok-rest.ensures c.in_ok-chunk.chunk c.in_ok-chunk.rest.now c.in_ok-chunk.ensures
    c.in_ok-width.width c.in_ok-width.rest.now c.in_ok-width.ensures c.in_ok-threshold.threshold c.in_ok-threshold.rest.now c.in_ok-threshold.ensures
    c.in_ok-root.root c.in_ok-root.rest.now c.in_ok-root.ensures c.is_empty.result c.is_empty.ensures c.if-is_empty.true

pub returns-else-is_empty-clause-refused : goal.returns-else-is_empty-clause-refused
returns-else-is_empty-clause-refused c = inr (
    more_lines c.args.bytes.now c.in_ok-rest.rest.now c.in_ok-rest.ensures c.in_ok-chunk.chunk c.in_ok-chunk.rest.now c.in_ok-chunk.ensures
    c.in_ok-width.width c.in_ok-width.rest.now c.in_ok-width.ensures c.in_ok-threshold.threshold c.in_ok-threshold.rest.now c.in_ok-threshold.ensures
    c.in_ok-root.root c.in_ok-root.rest.now c.in_ok-root.ensures c.is_empty.result c.is_empty.ensures c.if-is_empty.false)
