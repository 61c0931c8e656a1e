use Rattle.std.proofs.lemmas.Result.{err_from_is_err_and}
use Rattle.std.proofs.Common.{arith}
use Rattle.uf_dir.proofs.Changing.{fits-settles}
use Rattle.uf_dir.proofs.Touching.{count-is}
use Rattle.std.proofs.Common.{ℕ, List, subst, sym}
use Rattle.uf_edge.specs.Counts.{Stood}
use Rattle.uf_store.specs.Among.{SavesAmong}
use Rattle.uf_store.specs.Contents.{Told}
use Rattle.uf_store.proofs.Among.{SavesAmong-same}
use Rattle.uf_tree.specs.Nodes.{Named}
use Rattle.uf_dir.specs.Planned.{own_blocks}
use Rattle.uf_dir.proofs.editing.in_one_block.Goals as goal

pub returns-in_err-pairs-clause-settles : goal.returns-in_err-pairs-clause-settles
returns-in_err-pairs-clause-settles g c =
    let out = err_from_is_err_and c.from_residual.result c.from_residual.ensures.1 in
    rw (out.1, out.2) (record { made = tt; over = λ N l are. c.in_err-pairs.ensures.value N c.args.meta.now l are.plan are.agrees are.calm.faults })

pub returns-clause-settles : goal.returns-clause-settles
returns-clause-settles g c = fits-settles g.S.X.BlockHash.block32 c.args.p.now c.args.meta.now c.args.entry c.in_ok-pairs.pairs (record { size = g.met.S.X.BlockHash.size; are_bytes = g.met.S.X.BlockHash.are_bytes }) c.requires.meta c.in_ok-pairs.ensures.valid c.fitted.result (g.S.Store.seen c.args.store.now) (g.S.Store.seen c.entries.new.store) (g.S.Store.seen c.fitted.new.store)
    c.requires.shard c.in_ok-pairs.ensures.cause c.entries.ensures.told c.in_ok-pairs.ensures.value c.fitted.ensures.fits c.fitted.ensures.saves.cause

pub returns-in_err-pairs-clause-touches : goal.returns-in_err-pairs-clause-touches
returns-in_err-pairs-clause-touches g c = λ N l are.
    let most = c.in_err-pairs.ensures.touches N c.args.meta.now l are.plan are.agrees in
    let count = count-is g.S.X.BlockHash.block32 N c.args.meta.now l in
    omega (arith, most, count)

pub returns-clause-touches : goal.returns-clause-touches
returns-clause-touches g c = λ N l are.
    let most = c.in_ok-pairs.ensures.touches N c.args.meta.now l are.plan are.agrees in
    let count = count-is g.S.X.BlockHash.block32 N c.args.meta.now l in
    omega (arith, most, count, c.fitted.ensures.touches)

pub returns-in_err-pairs-clause-no_other : goal.returns-in_err-pairs-clause-no_other
returns-in_err-pairs-clause-no_other g c = λ N l plan agrees can. SavesAmong-same g.S.X.BlockHash.block32 (own_blocks g.S.X.BlockHash.block32 N c.args.p.now c.args.meta.now l) (g.S.Store.seen c.args.store.now).told (g.S.Store.seen c.entries.new.store).told c.entries.ensures.told

pub returns-clause-no_other : goal.returns-clause-no_other
returns-clause-no_other g c = λ N l plan agrees can.
    let same = c.in_ok-pairs.ensures.value N c.args.meta.now l plan agrees (subst (λ (n : ℕ). Stood (g.S.Store.seen c.args.store.now).faults n) (sym c.in_ok-pairs.ensures.cause.faults) can.faults) in
    subst (λ (t : Told). SavesAmong g.S.X.BlockHash.block32 (own_blocks g.S.X.BlockHash.block32 N c.args.p.now c.args.meta.now l) t (g.S.Store.seen c.fitted.new.store).told) c.entries.ensures.told
    (subst (λ (k : List Named). SavesAmong g.S.X.BlockHash.block32 (own_blocks g.S.X.BlockHash.block32 N c.args.p.now c.args.meta.now k) (g.S.Store.seen c.entries.new.store).told (g.S.Store.seen c.fitted.new.store).told) same (c.fitted.ensures.no_other N))
