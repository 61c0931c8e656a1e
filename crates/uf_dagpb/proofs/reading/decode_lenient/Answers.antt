use Rattle.std.proofs.Common.{ap, ◌∙◌, None, List}
use Rattle.std.proofs.lemmas.Result.{err_from_is_err_and}
use Rattle.uf_varint.specs.Fields.{fields}
use Rattle.uf_dagpb.specs.declared.node.Link.{Link}
use Rattle.uf_dagpb.specs.Steps.{node_from}
use Rattle.uf_dagpb.proofs.Judging.{node_judged}
use Rattle.uf_dagpb.proofs.Stepping.{node_goes_on, node_fails, node_ends, some_left, none_left}
use Rattle.uf_dagpb.proofs.reading.decode_lenient.Goals as goal

pub loop-rest-init : goal.loop-rest-init
loop-rest-init c =
    ap (λ (links : List Link). node_from (record { links = links; content = None }) (fields c.args.bytes.now)) c.new.ensures ∙ node_judged c.args.bytes.now

pub returns-in_err-next : goal.returns-in_err-next
returns-in_err-next c =
    let out = err_from_is_err_and c.from_residual.result c.from_residual.ensures.1 in rw (out.1, out.2)
    (node_fails c.loop-rest.node c.loop-rest.rest.now c.in_err-next.field-0.0 _ (some_left _ _ c.is_empty.ensures c.loop-rest-test.true) c.in_err-next.ensures.exact c.loop-rest.invariant)

pub loop-rest-preserved : goal.loop-rest-preserved
loop-rest-preserved c = node_goes_on c.loop-rest.node c.in_ok-next.next c.loop-rest.rest.now c.in_ok-next.after.now _ (some_left _ _ c.is_empty.ensures c.loop-rest-test.true) c.in_ok-next.ensures.exact c.loop-rest.invariant

pub returns : goal.returns
returns c = node_ends c.loop-rest.node c.loop-rest.rest.now _ (none_left _ _ c.is_empty.ensures c.loop-rest-test.false) c.loop-rest.invariant
