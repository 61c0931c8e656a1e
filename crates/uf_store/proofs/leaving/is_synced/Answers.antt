use Rattle.std.proofs.Common.{◌∙◌, ap, sym}
use Rattle.uf_store.specs.Sweeping.{is_synced as are_synced, synced_after}
use Rattle.uf_store.proofs.Relisting.{synced-next}
use Rattle.uf_store.proofs.Stopping.{take-whole}
use Rattle.uf_store.proofs.leaving.is_synced.Goals as goal

pub loop-place-preserved : goal.loop-place-preserved
loop-place-preserved c =
    c.synced_with-is_synced.ensures
    ∙ ap (λ b. synced_after b c.index-writes-place.result) c.loop-place.invariant
    ∙ sym (synced-next c.args.writes.now c.loop-place.place c.index-writes-place.result c.loop-place-test.true c.index-writes-place.is)

pub returns : goal.returns
returns c = c.loop-place.invariant ∙ ap are_synced (take-whole c.args.writes.now c.loop-place.place c.loop-place.auto.place-end c.loop-place-test.false)
