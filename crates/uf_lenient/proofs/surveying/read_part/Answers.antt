use Rattle.std.proofs.lemmas.Result.{err_from_is_err_and}
use Rattle.uf_lenient.proofs.Ends.{part-fault, put-steps}
use Rattle.uf_lenient.proofs.Saying.{by-good}
use Rattle.uf_lenient.proofs.surveying.read_part.Goals as goal

pub returns-in_err-links-clause-says : goal.returns-in_err-links-clause-says
returns-in_err-links-clause-says g c = λ other.
    let out = err_from_is_err_and c.from_residual.result c.from_residual.ensures.1 in rw (out.1, out.2) (by-good g.S.X.BlockHash.block32 (g.S.Store.seen c.args.store.now).told (λ held says. part-fault held c.args.next.now c.args.due.now c.args.visits.now c.in_err-links.field-0.0 other says) c.in_err-links.ensures.says)

pub returns-clause-says : goal.returns-clause-says
returns-clause-says g c = λ other. by-good g.S.X.BlockHash.block32 (g.S.Store.seen c.args.store.now).told (λ held says. put-steps held c.args.next.now c.args.due.now c.put_parts.new.due c.args.visits.now _ c.in_ok-links.links c.as_slice.result.now c.read_node.new.visits other says c.as_slice.ensures c.in_ok-put_parts.ensures) c.in_ok-links.ensures.says
