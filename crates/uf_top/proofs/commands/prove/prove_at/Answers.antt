use Rattle.std.proofs.Common.{subst}
use Rattle.std.proofs.lemmas.Result.{err_from_is_err_and}
use Rattle.uf_top.specs.Light.{EndsLight}
use Rattle.uf_top.proofs.LightMade.{prove-unopened, proves-does}
use Rattle.uf_top.proofs.commands.prove.prove_at.Goals as goal

pub returns-in_err-tree : goal.returns-in_err-tree
returns-in_err-tree g c = λ left reads side er er2.
    let out = err_from_is_err_and c.from_residual.result c.from_residual.ensures.1 in
    rw (out.1, out.2) (prove-unopened g.S.X.BlockHash.block32 g.N.NameHash.name64 c.args.absent c.args.path.now (g.S.Store.seen c.args.store.now) (g.S.Store.seen c.opened.new.store) left reads
    (g.O.Sink.holds c.args.output.now) (g.O.Sink.faults c.args.output.now) c.args.touches.now c.opened.new.touches side er er2 c.in_err-tree.field-0.0 c.in_err-tree.ensures)

pub returns : goal.returns
returns g c = λ left reads side er er2.
    let r = c.prove-done.ensures in
    proves-does g.S.X.BlockHash.block32 g.N.NameHash.name64 c.args.absent c.args.path.now (g.S.Store.seen c.args.store.now) (g.S.Store.seen c.opened.new.store) left reads
    (g.O.Sink.holds c.args.output.now) (g.O.Sink.faults c.args.output.now) c.args.touches.now c.opened.new.touches side er er2
    c.in_ok-tree.tree c.in_ok-tree.ensures (g.S.Store.seen c.prove-done.new.store) (g.O.Sink.holds c.prove-done.new.out) (g.O.Sink.faults c.prove-done.new.out) c.prove-done.new.touches
    c.prove-done.result c.end.result (subst (λ names. EndsLight names c.prove-done.result c.end.result) c.as_slice.ensures c.end.ensures) r.form r.proves r.prefix r.some.0 r.some.1 r.cause r.told r.counts r.touched r.few
