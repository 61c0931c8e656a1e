use Rattle.std.proofs.Common.{◌≤◌, ◌+◌, ◌*◌, List, ap, arith, length, subst, sym}
use Rattle.std.specs.Prelude.{IfSome}
use Rattle.std.proofs.lemmas.Result.{err_from_is_err_and}
use Rattle.uf_cid.specs.declared.cid.Cid.{Cid}
use Rattle.uf_shard.specs.Weighed.{AreRoots, LeavesRoom}
use Rattle.uf_shard.proofs.RowWeights.{few-next, next-touches-at, next-value-at, over-last, over-none, row-alone}
use Rattle.uf_shard.proofs.weighing.+are_over.Goals as goal

pub returns-in_err-behind-clause-value : goal.returns-in_err-behind-clause-value
returns-in_err-behind-clause-value g t c = λ N ls are agrees stood.
    let out = err_from_is_err_and c.from_residual.result c.from_residual.ensures.1 in rw (out.1, out.2)
    (c.in_err-behind.ensures.lost N ls (subst (λ (l : List Cid). AreRoots g.S.X.BlockHash.block32 N c.args.left l ls) (sym c.as_slice.ensures) are) agrees stood)

pub returns-in-None-clause-value : goal.returns-in-None-clause-value
returns-in-None-clause-value g t c = λ N ls are agrees stood.
    let X = g.S.X.BlockHash.block32 in
    let leaves = c.in_ok-behind.ensures.weighs N ls (subst (λ (l : List Cid). AreRoots X N c.args.left l ls) (sym c.as_slice.ensures) are) agrees in
    over-none X N (record { size = g.met.S.X.BlockHash.size; are_bytes = g.met.S.X.BlockHash.are_bytes }) c.args.left c.args.cids.now ls are c.args.room _ c.in_ok-behind.behind c.in-None.is
    (subst (λ b. LeavesRoom X N c.args.left ls c.args.room b c.weigh_row.new.below c.in_ok-behind.behind) c.new-below.ensures leaves)

pub returns-in_err-behind-clause-touches : goal.returns-in_err-behind-clause-touches
returns-in_err-behind-clause-touches g t c = λ N ls are agrees. row-alone g.S.X.BlockHash.block32 N (record { size = g.met.S.X.BlockHash.size; are_bytes = g.met.S.X.BlockHash.are_bytes }) c.args.left c.args.cids.now ls are _ _
    (omega (arith, c.in_err-behind.ensures.touches, ap (λ (l : List Cid). length l) c.as_slice.ensures))

pub returns-in-None-clause-touches : goal.returns-in-None-clause-touches
returns-in-None-clause-touches g t c = λ N ls are agrees. row-alone g.S.X.BlockHash.block32 N (record { size = g.met.S.X.BlockHash.size; are_bytes = g.met.S.X.BlockHash.are_bytes }) c.args.left c.args.cids.now ls are _ _
    (omega (arith, c.in_ok-behind.ensures.touches, ap (λ (l : List Cid). length l) c.as_slice.ensures))

pub returns-then-left-eq0-clause-value : goal.returns-then-left-eq0-clause-value
returns-then-left-eq0-clause-value g t c = λ N ls are agrees stood.
    let X = g.S.X.BlockHash.block32 in
    let leaves = c.in_ok-behind.ensures.weighs N ls (subst (λ (l : List Cid). AreRoots X N c.args.left l ls) (sym c.as_slice.ensures) are) agrees in
    over-last X N (record { size = g.met.S.X.BlockHash.size; are_bytes = g.met.S.X.BlockHash.are_bytes }) c.args.left c.args.cids.now ls are c.args.room c.if-left-eq0.true _ c.in_ok-behind.behind c.in-Some.room c.in-Some.is
    (subst (λ b. LeavesRoom X N c.args.left ls c.args.room b c.weigh_row.new.below c.in_ok-behind.behind) c.new-below.ensures leaves)

pub returns-then-left-eq0-clause-touches : goal.returns-then-left-eq0-clause-touches
returns-then-left-eq0-clause-touches g t c = λ N ls are agrees. row-alone g.S.X.BlockHash.block32 N (record { size = g.met.S.X.BlockHash.size; are_bytes = g.met.S.X.BlockHash.are_bytes }) c.args.left c.args.cids.now ls are _ _
    (omega (arith, c.in_ok-behind.ensures.touches, ap (λ (l : List Cid). length l) c.as_slice.ensures))

pub returns-clause-value : goal.returns-clause-value
returns-clause-value g t c = λ N ls are agrees stood.
    let X = g.S.X.BlockHash.block32 in
    let leaves = c.in_ok-behind.ensures.weighs N ls (subst (λ (l : List Cid). AreRoots X N c.args.left l ls) (sym c.as_slice.ensures) are) agrees in
    next-value-at X N (record { size = g.met.S.X.BlockHash.size; are_bytes = g.met.S.X.BlockHash.are_bytes }) c.args.cids.now ls c.args.room c.in-Some.room c.weigh_row.new.below c.in_ok-behind.behind c.in-Some.is c.args.left (omega (arith, c.if-left-eq0.false)) are
    (subst (λ b. LeavesRoom X N c.args.left ls c.args.room b c.weigh_row.new.below c.in_ok-behind.behind) c.new-below.ensures leaves)
    (g.S.Store.seen c.args.store.now) (g.S.Store.seen c.weigh_row.new.store) (g.S.Store.seen c.are_over.new.store) c.are_over.result c.in_ok-behind.ensures.reads.told c.in_ok-behind.ensures.reads.cause.faults (c.are_over.ensures.value N) agrees stood

pub returns-clause-touches : goal.returns-clause-touches
returns-clause-touches g t c = λ N ls are agrees.
    let X = g.S.X.BlockHash.block32 in
    let leaves = c.in_ok-behind.ensures.weighs N ls (subst (λ (l : List Cid). AreRoots X N c.args.left l ls) (sym c.as_slice.ensures) are) agrees in
    next-touches-at X N (record { size = g.met.S.X.BlockHash.size; are_bytes = g.met.S.X.BlockHash.are_bytes }) c.args.cids.now ls c.args.room c.in-Some.room c.weigh_row.new.below c.in_ok-behind.behind c.in-Some.is c.args.left (omega (arith, c.if-left-eq0.false)) are
    (subst (λ b. LeavesRoom X N c.args.left ls c.args.room b c.weigh_row.new.below c.in_ok-behind.behind) c.new-below.ensures leaves)
    (g.S.Store.seen c.args.store.now).told (g.S.Store.seen c.weigh_row.new.store).told _ _ _ c.in_ok-behind.ensures.reads.told (omega (arith, c.in_ok-behind.ensures.touches, ap (λ (l : List Cid). length l) c.as_slice.ensures))
    (c.are_over.ensures.touches N) agrees

pub returns-clause-few : goal.returns-clause-few
returns-clause-few g t c =
    let within = subst (λ b. IfSome b (λ rest. rest + 74 * length c.weigh_row.new.below ≤ c.args.room + 74 * length c.as_slice.result.now + 74 * length c.new-below.result)) c.in-Some.is c.in_ok-behind.ensures.within in
    let count = ap (λ (l : List Cid). length l) c.as_slice.ensures in
    few-next c.args.left _ _ _ (length c.args.cids.now) (length c.weigh_row.new.below) c.args.room c.in-Some.room (omega (arith, c.if-left-eq0.false)) (omega (arith, c.in_ok-behind.ensures.touches, count))
    (omega (arith, within, count, ap (λ (l : List Cid). length l) c.new-below.ensures)) c.are_over.ensures.few
