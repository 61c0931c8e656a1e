use Rattle.std.proofs.Common.{◌∙◌, ap, reverse}
use Rattle.std.specs.FinMap.{from_entries, get}
use Rattle.uf_cid.specs.Blocks.{Lookup}
use Rattle.uf_cid.specs.Cid.{cid_cmp}
use Rattle.uf_store.proofs.Relisting.{saved-next, saved-none, saves-next, saves-none, saves-whole, take-front}
use Rattle.uf_store.proofs.leaving.last_saves.Goals as goal

pub loop-behind-init : goal.loop-behind-init
loop-behind-init g c =
    let held : Lookup = λ cid. get (from_entries {R = cid_cmp} c.args.blocks.now.blocks.entries) cid in
    record { saves = saves-none held c.args.writes.now _ c.new-saves.ensures.items; seen = saved-none c.args.writes.now _ c.new-seen.ensures.empty }

pub loop-behind-preserved : goal.loop-behind-preserved
loop-behind-preserved g c =
    let held : Lookup = λ cid. get (from_entries {R = cid_cmp} c.args.blocks.now.blocks.entries) cid in
    let put = c.in_ok-put_save.ensures _ c.loop-behind.invariant.seen in
    record {
      saves = saves-next held c.args.writes.now _ _ _ _ c.loop-behind-test.true c.index-writes-at.is c.loop-behind.invariant.saves put.put;
      seen = saved-next c.args.writes.now _ _ _ c.loop-behind-test.true c.index-writes-at.is put.are_saved;
    }

pub returns : goal.returns
returns g c =
    let held : Lookup = λ cid. get (from_entries {R = cid_cmp} c.args.blocks.now.blocks.entries) cid in
    take-front _ c.reverse.new.self _ (c.reverse.ensures.len ∙ c.as_mut_slice.ensures.len)
    ∙ c.reverse.ensures.after ∙ ap reverse c.as_mut_slice.ensures.value ∙ saves-whole held c.args.writes.now _ _ c.loop-behind-test.false c.loop-behind.invariant.saves
