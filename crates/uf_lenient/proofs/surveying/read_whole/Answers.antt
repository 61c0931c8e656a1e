use Rattle.std.proofs.lemmas.Result.{err_from_is_err_and}
use Rattle.uf_lenient.proofs.Ends.{put-whole, whole-fault}
use Rattle.uf_lenient.proofs.Saying.{by-good}
use Rattle.uf_lenient.proofs.surveying.read_whole.Goals as goal

pub returns-in_err-gathered-clause-says : goal.returns-in_err-gathered-clause-says
returns-in_err-gathered-clause-says g c = λ whole.
    let out = err_from_is_err_and c.from_residual.result c.from_residual.ensures.1 in rw (out.1, out.2) (by-good g.S.X.BlockHash.block32 (g.S.Store.seen c.args.store.now).told (λ held says. whole-fault held c.args.next.now c.args.due.now c.args.visits.now c.in_err-gathered.field-0.0 whole says) c.in_err-gathered.ensures.says)

pub returns-clause-says : goal.returns-clause-says
returns-clause-says g c = λ whole. by-good g.S.X.BlockHash.block32 (g.S.Store.seen c.args.store.now).told (λ held says. put-whole held c.args.next.now c.args.due.now c.put_gathered.new.due c.args.visits.now c.in_ok-gathered.gathered c.gather.new.visits whole c.in_ok-gathered.ensures.depth says c.in_ok-put_gathered.ensures) c.in_ok-gathered.ensures.says
