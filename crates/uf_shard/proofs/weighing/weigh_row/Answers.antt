use Rattle.std.proofs.Common.{get_or, ◌≡◌, ◌+◌, ◌++◌, ap, arith, ◌∙◌, subst}
use Rattle.std.specs.Prelude.{IfSome}
use Rattle.std.proofs.lemmas.Result.{err_from_is_err_and}
use Rattle.uf_store.proofs.Causes.{StaysCalm-trans}
use Rattle.uf_tree.specs.Validity.{IsHash}
use Rattle.uf_shard.specs.Weighed.{least_of, room_after, shards_in}
use Rattle.uf_shard.proofs.RowWeights.{grown, loaded-slots, low_there, no_cid, read_same, row-done, row-load-lost, row-more, row-none, row-room, within-more}
use Rattle.uf_shard.proofs.weighing.weigh_row.Goals as goal

pub loop-cid-preserved : goal.loop-cid-preserved
loop-cid-preserved g c =
    let X = g.S.X.BlockHash.block32 in
    let good : IsHash g.S.X.BlockHash.block32 = record { size = g.met.S.X.BlockHash.size; are_bytes = g.met.S.X.BlockHash.are_bytes } in
    let below : c.room_behind.new.below ≡ c.loop-cid.below ++ shards_in c.as_slice.result.now =
    subst (λ b. IfSome b (λ rest. c.room_behind.new.below ≡ c.loop-cid.below ++ shards_in c.as_slice.result.now)) c.in-Some.is c.in_ok-behind.ensures.below in
    let within = within-more c.as_slice.result.now c.loop-cid.below c.room_behind.new.below c.loop-cid.rest c.in-Some.room _ c.in_ok-behind.behind c.in-Some.is c.in_ok-behind.ensures.room below c.loop-cid.invariant.within in
    record {
      weighs = λ N ls are agrees.
          let low = low_there X N good c.args.left c.args.cids.now ls are c.loop-cid.cid-index (get_or c.args.cids.now c.loop-cid.cid-index no_cid) c.loop-cid-test.true (read_same c.args.cids.now c.loop-cid.cid-index no_cid c.loop-cid-test.true) in
          let slots = loaded-slots X N good c.args.left c.args.cids.now ls are c.loop-cid.cid-index (get_or c.args.cids.now c.loop-cid.cid-index no_cid) c.loop-cid-test.true (read_same c.args.cids.now c.loop-cid.cid-index no_cid c.loop-cid-test.true)
          (g.S.Store.seen c.args.store.now) (g.S.Store.seen c.loop-cid.store) c.in_ok-items.items c.as_slice.result.now c.loop-cid.invariant.told c.as_slice.ensures c.in_ok-items.ensures.loads agrees in
          let so_far = c.loop-cid.invariant.weighs N ls are agrees in (
            row-room X N good c.args.left c.args.cids.now ls are c.loop-cid.cid-index low c.args.room c.loop-cid.rest so_far.0 c.in-Some.room c.in_ok-behind.behind c.in-Some.is
                (c.in_ok-behind.ensures.room ∙ ap (λ i. room_after (c.loop-cid.rest + 74) (least_of i)) slots),
            row-more X N good c.args.left c.args.cids.now ls are c.loop-cid.cid-index low c.args.room c.loop-cid.rest so_far.0 _ _ _ so_far.1 (below ∙ ap (λ i. c.loop-cid.below ++ shards_in i) slots),
          );
      within = omega (arith, within);
      grows = omega (arith, c.loop-cid.invariant.grows, grown c.as_slice.result.now c.loop-cid.below c.room_behind.new.below below);
      touches = omega arith;
      calm = StaysCalm-trans _ _ _ c.loop-cid.invariant.calm c.in_ok-items.ensures.reads.cause;
      told = c.in_ok-items.ensures.reads.told ∙ c.loop-cid.invariant.told;
    }

pub returns-in-None-clause-weighs : goal.returns-in-None-clause-weighs
returns-in-None-clause-weighs g c = λ N ls are agrees.
    let X = g.S.X.BlockHash.block32 in
    let good : IsHash g.S.X.BlockHash.block32 = record { size = g.met.S.X.BlockHash.size; are_bytes = g.met.S.X.BlockHash.are_bytes } in
    let low = low_there X N good c.args.left c.args.cids.now ls are c.loop-cid.cid-index (get_or c.args.cids.now c.loop-cid.cid-index no_cid) c.loop-cid-test.true (read_same c.args.cids.now c.loop-cid.cid-index no_cid c.loop-cid-test.true) in
    let slots = loaded-slots X N good c.args.left c.args.cids.now ls are c.loop-cid.cid-index (get_or c.args.cids.now c.loop-cid.cid-index no_cid) c.loop-cid-test.true (read_same c.args.cids.now c.loop-cid.cid-index no_cid c.loop-cid-test.true)
    (g.S.Store.seen c.args.store.now) (g.S.Store.seen c.loop-cid.store) c.in_ok-items.items c.as_slice.result.now c.loop-cid.invariant.told c.as_slice.ensures c.in_ok-items.ensures.loads agrees in
    let so_far = c.loop-cid.invariant.weighs N ls are agrees in
    row-none X N good c.args.left c.args.cids.now ls are c.loop-cid.cid-index low c.args.room c.loop-cid.rest so_far.0 c.in_ok-behind.behind c.in-None.is
    (c.in_ok-behind.ensures.room ∙ ap (λ i. room_after (c.loop-cid.rest + 74) (least_of i)) slots)

pub returns-in_err-items-clause-lost : goal.returns-in_err-items-clause-lost
returns-in_err-items-clause-lost g c = λ N ls are agrees stood.
    let out = err_from_is_err_and c.from_residual.result c.from_residual.ensures.1 in
    rw (out.1, out.2) (row-load-lost g.S.X.BlockHash.block32 N (record { size = g.met.S.X.BlockHash.size; are_bytes = g.met.S.X.BlockHash.are_bytes }) c.args.left c.args.cids.now ls are c.loop-cid.cid-index (get_or c.args.cids.now c.loop-cid.cid-index no_cid) c.loop-cid-test.true (read_same c.args.cids.now c.loop-cid.cid-index no_cid c.loop-cid-test.true)
    (g.S.Store.seen c.args.store.now) (g.S.Store.seen c.loop-cid.store) (g.S.Store.seen c.load_items.new.store) c.in_err-items.field-0.0 c.loop-cid.invariant.told c.loop-cid.invariant.calm c.in_err-items.ensures.loads c.in_err-items.ensures.reads.cause agrees stood)

pub overflow_add-rest : goal.overflow_add-rest
overflow_add-rest g c = omega (arith, c.loop-cid.invariant.within, c.loop-cid.invariant.grows, c.requires.fits, c.loop-cid-test.true)

pub returns-clause-weighs : goal.returns-clause-weighs
returns-clause-weighs g c = λ N ls are agrees. row-done g.S.X.BlockHash.block32 N c.args.left c.args.cids.now ls are c.loop-cid.cid-index c.args.room c.loop-cid.rest _ _ (omega arith) (c.loop-cid.invariant.weighs N ls are agrees)
