use Rattle.std.proofs.Common.{◌∙◌, ap, sym}
use Rattle.uf_store.specs.Stops.{behind_sync as place_behind_sync, behind_with as place_behind}
use Rattle.uf_store.proofs.Stopping.{behind-next, take-whole}
use Rattle.uf_store.proofs.outliving.behind_sync.Goals as goal

pub loop-place-preserved : goal.loop-place-preserved
loop-place-preserved c =
    c.behind_with-behind.ensures
    ∙ ap (λ k. place_behind k c.loop-place.place c.index-writes-place.result) c.loop-place.invariant
    ∙ sym (behind-next c.args.writes.now c.loop-place.place c.index-writes-place.result c.loop-place-test.true c.index-writes-place.is)

pub returns : goal.returns
returns c = c.loop-place.invariant ∙ ap (place_behind_sync 0) (take-whole c.args.writes.now c.loop-place.place c.loop-place.auto.place-end c.loop-place-test.false)
