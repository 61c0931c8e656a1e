use Rattle.std.proofs.Common.{refl, subst, Result}
use Rattle.std.proofs.lemmas.Result.{err_from_is_err_and}
use Rattle.uf_dagpb.specs.declared.fault.PbFault.{PbFault}
use Rattle.uf_dagpb.specs.declared.node.Link.{Link}
use Rattle.uf_dagpb.specs.Reading.{Gives}
use Rattle.uf_dagpb.specs.Steps.{link_reads}
use Rattle.uf_dagpb.proofs.Stepping.{link_goes_on, link_fails, link_ends, some_left, none_left}
use Rattle.uf_dagpb.proofs.links.decode_link.Goals as goal

pub loop-rest-init : goal.loop-rest-init
unfolding link_reads
loop-rest-init c = refl

pub returns-in_err-next : goal.returns-in_err-next
returns-in_err-next c =
    let out = err_from_is_err_and c.from_residual.result c.from_residual.ensures.1 in rw (out.1, out.2)
    (link_fails c.loop-rest.parts c.loop-rest.rest.now c.in_err-next.field-0.0 _ (some_left _ _ c.is_empty.ensures c.loop-rest-test.true) c.in_err-next.ensures.exact c.loop-rest.invariant)

pub loop-rest-preserved : goal.loop-rest-preserved
loop-rest-preserved c = link_goes_on c.loop-rest.parts c.in_ok-next.next c.loop-rest.rest.now c.in_ok-next.after.now _ (some_left _ _ c.is_empty.ensures c.loop-rest-test.true) c.in_ok-next.ensures.exact c.loop-rest.invariant

pub returns : goal.returns
returns c =
    subst (λ (said : Result Link PbFault). Gives (λ l. l) c.whole.result said)
    (link_ends c.loop-rest.parts c.loop-rest.rest.now _ (none_left _ _ c.is_empty.ensures c.loop-rest-test.false) c.loop-rest.invariant)
    c.whole.ensures
