use Rattle.std.proofs.Common.{List, ap, sym, ◌∙◌}
use Rattle.std.specs.FinMap.{from_entries}
use Rattle.uf_cid.specs.Cid.{cid_cmp}
use Rattle.uf_cid.specs.declared.cid.Cid.{Cid}
use Rattle.uf_store.specs.Contents.{HeldMap}
use Rattle.uf_store.specs.Sweeping.{is_among, part_of}
use Rattle.uf_store.proofs.Relisting.{part-next, part-none, part-whole}
use Rattle.uf_store.proofs.shelf.Shelf.only.Goals as goal

pub loop-place-init : goal.loop-place-init
loop-place-init g c =
    let held : HeldMap = from_entries {R = cid_cmp} c.args.self.now.blocks.entries in
    part-none held _ c.new-shelf.ensures

pub loop-place-preserved : goal.loop-place-preserved
loop-place-preserved g c =
    let held : HeldMap = from_entries {R = cid_cmp} c.args.self.now.blocks.entries in
    part-next held c.as_slice-cids.result.now c.loop-place.place _ _ _ c.loop-place-test.true c.loop-place.invariant c.in_ok-hand.ensures

pub returns : goal.returns
returns g c =
    let held : HeldMap = from_entries {R = cid_cmp} c.args.self.now.blocks.entries in
    c.loop-place.invariant ∙ part-whole held _ c.args.kept.now c.loop-place.place c.loop-place-test.false c.as_slice-cids.ensures
