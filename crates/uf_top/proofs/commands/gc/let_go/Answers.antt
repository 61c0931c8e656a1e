use Rattle.std.proofs.Common.{◌∙◌, subst, Err, Ok, None}
use Rattle.std.proofs.lemmas.Result.{err_from_is_err_and}
use Rattle.uf_store.specs.Faults.{NoneIsBad, Shown}
use Rattle.uf_store.proofs.Calls.{shown-after}
use Rattle.uf_top.proofs.Collected.{fault-same, goes-collected, goes-unread, touches-collected, touches-none}
use Rattle.uf_top.proofs.commands.gc.let_go.Goals as goal

pub returns-in_err-roots-clause-goes : goal.returns-in_err-roots-clause-goes
returns-in_err-roots-clause-goes g c =
    let out = err_from_is_err_and c.from_residual.result c.from_residual.ensures.1 in
    let e = c.in_err-roots.ensures in
    rw (out.1, out.2) (record {
      goes = λ t listed is read. goes-unread t listed c.in_err-roots.field-0.0 _ _ e.read is (e.told ∙ is);
      cause = e.cause;
    })

pub returns-in_err-collect-clause-goes : goal.returns-in_err-collect-clause-goes
returns-in_err-collect-clause-goes g c =
    let out = err_from_is_err_and c.from_residual-in_err-collect.result c.from_residual-in_err-collect.ensures.1 in
    let r = c.in_ok-roots.ensures in
    let e = c.in_err-collect.ensures in
    let why = c.in_err-collect.field-0.0 in
    rw (out.1, out.2) (record {
      goes = λ t listed is read. goes-collected t listed read c.in_ok-roots.roots _ _ r.read is (Err why) (e.collected t (r.told ∙ is));
      cause = shown-after g.S.X.BlockHash.block32 NoneIsBad _ _ _ _ r.cause (subst (λ f. Shown g.S.X.BlockHash.block32 NoneIsBad f (g.S.Store.seen c.tree_roots.new.store) (g.S.Store.seen c.collect.new.store)) (fault-same why) e.cause);
    })

pub returns-clause-goes : goal.returns-clause-goes
returns-clause-goes g c =
    let r = c.in_ok-roots.ensures in
    let e = c.in_ok-collect.ensures in
    record {
      goes = λ t listed is read. goes-collected t listed read c.in_ok-roots.roots _ _ r.read is (Ok c.in_ok-collect.field-0) (e.collected t (r.told ∙ is));
      cause = shown-after g.S.X.BlockHash.block32 NoneIsBad None _ _ _ r.cause e.cause;
    }

pub returns-in_err-roots-clause-touches : goal.returns-in_err-roots-clause-touches
returns-in_err-roots-clause-touches g c = touches-none _ _

pub returns-in_err-collect-clause-touches : goal.returns-in_err-collect-clause-touches
returns-in_err-collect-clause-touches g c =
    let r = c.in_ok-roots.ensures in
    let e = c.in_err-collect.ensures in
    touches-collected c.in_ok-roots.roots _ _ _ _ r.read r.told e.touches e.each

pub returns-clause-touches : goal.returns-clause-touches
returns-clause-touches g c =
    let r = c.in_ok-roots.ensures in
    let e = c.in_ok-collect.ensures in
    touches-collected c.in_ok-roots.roots _ _ _ _ r.read r.told e.touches e.each
