use Rattle.std.proofs.lemmas.Result.{err_from_is_err_and}
use Rattle.uf_cid.specs.declared.cid.Cid.{Cid}
use Rattle.uf_lenient.specs.Answers.{FollowsReading}
use Rattle.uf_lenient.specs.Reading.{resolve_from}
use Rattle.uf_lenient.proofs.Paths.{path-fault}
use Rattle.uf_lenient.proofs.Saying.{good-both, held-so}
use Rattle.uf_lenient.proofs.resolving.resolve.Goals as goal

pub returns-in_err-cid-clause-good : goal.returns-in_err-cid-clause-good
returns-in_err-cid-clause-good g c =
    let out = err_from_is_err_and c.from_residual.result c.from_residual.ensures.1 in rw (out.1, out.2) (good-both g.S.X.BlockHash.block32 (g.S.Store.seen c.args.store.now).told (g.S.Store.seen c.loop-at.store).told c.loop-at.invariant.told
    (λ held same says. path-fault held c.args.limits.now c.args.path.now.names c.as_slice-names.result.now c.args.path.now.cid c.loop-at.cid c.loop-at.at c.index-names-at.result c.in_err-cid.field-0.0 c.as_slice-names.ensures c.loop-at-test.true c.index-names-at.is same says) c.loop-at.invariant.same c.in_err-cid.ensures.says)

pub returns-in_err-cid-clause-says : goal.returns-in_err-cid-clause-says
returns-in_err-cid-clause-says g c =
    held-so (λ held. FollowsReading (λ (c : Cid). c) (resolve_from held c.args.limits.now 0 c.args.path.now.names c.args.path.now.cid) c.from_residual.result)
    g.S.X.BlockHash.block32 (g.S.Store.seen c.args.store.now).told (returns-in_err-cid-clause-good g c)
