use Rattle.std.proofs.Common.{ℕ, ◌∙◌, ap, nat_lt, sym}
use Rattle.std.proofs.lemmas.Result.{err_from_is_err_and}
use Rattle.uf_dir.proofs.Changing.{first-calm, later-shards, settles-later, stays-settled}
use Rattle.uf_dir.proofs.Touching.{gathered-touches, weighed-touches}
use Rattle.uf_shard.specs.Listing.{IsBadShard}
use Rattle.uf_store.specs.Faults.{fault_in}
use Rattle.uf_tree.specs.DirPlan.{weight}
use Rattle.uf_store.proofs.Among.{SavesAmong-same}
use Rattle.uf_tree.specs.ShardPlan.{shard}
use Rattle.uf_dir.specs.Planned.{own_blocks}
use Rattle.uf_dir.proofs.Saving.{later-saves}
use Rattle.uf_dir.proofs.editing.entry_by_weight.Goals as goal

pub returns-in_err-is_heavy-clause-settles : goal.returns-in_err-is_heavy-clause-settles
returns-in_err-is_heavy-clause-settles g c =
    let out = err_from_is_err_and c.from_residual.result c.from_residual.ensures.1 in
    rw (out.1, out.2) (record { made = tt; over = λ N l are. c.in_err-is_heavy.ensures.value N c.args.meta.now l are.plan are.agrees are.calm.faults })

pub returns-then-is_heavy-clause-settles : goal.returns-then-is_heavy-clause-settles
returns-then-is_heavy-clause-settles g c = stays-settled g.S.X.BlockHash.block32 c.args.p.now c.args.meta.now c.args.entry (g.S.Store.seen c.args.store.now) (g.S.Store.seen c.weight_over.new.store)
    c.requires.shard c.weight_over.ensures.told (λ N l are. sym c.if-is_heavy.true ∙ c.in_ok-is_heavy.ensures.value N c.args.meta.now l are.plan are.agrees are.calm.faults ∙ ap (λ (n : ℕ). nat_lt n (weight l)) c.from.ensures)

pub returns-clause-settles : goal.returns-clause-settles
returns-clause-settles g c = settles-later g.S.X.BlockHash.block32 c.args.p.now c.args.meta.now c.args.entry (g.S.Store.seen c.args.store.now) (g.S.Store.seen c.weight_over.new.store) (g.S.Store.seen c.in_one_block.new.store) c.in_one_block.result
    c.in_ok-is_heavy.ensures.cause c.weight_over.ensures.told c.in_one_block.ensures.settles

pub returns-in_err-is_heavy-clause-touches : goal.returns-in_err-is_heavy-clause-touches
returns-in_err-is_heavy-clause-touches g c = λ N l are. weighed-touches g.S.X.BlockHash.block32 N c.args.p.now c.args.meta.now l _ _ _ c.from.ensures (c.in_err-is_heavy.ensures.touches N c.args.meta.now l are.plan are.agrees)

pub returns-then-is_heavy-clause-touches : goal.returns-then-is_heavy-clause-touches
returns-then-is_heavy-clause-touches g c = λ N l are. weighed-touches g.S.X.BlockHash.block32 N c.args.p.now c.args.meta.now l _ _ _ c.from.ensures (c.in_ok-is_heavy.ensures.touches N c.args.meta.now l are.plan are.agrees)

pub returns-clause-touches : goal.returns-clause-touches
returns-clause-touches g c = λ N l are.
    let before = g.S.Store.seen c.args.store.now in
    let mid = g.S.Store.seen c.weight_over.new.store in
    let now = g.S.Store.seen c.in_one_block.new.store in
    let first = first-calm g.S.X.BlockHash.block32 IsBadShard (fault_in c.in_one_block.result) before mid now c.in_ok-is_heavy.ensures.cause c.in_one_block.ensures.saves.cause are.calm in
    let heavy = c.in_ok-is_heavy.ensures.value N c.args.meta.now l are.plan are.agrees first.faults ∙ ap (λ (n : ℕ). nat_lt n (weight l)) c.from.ensures in
    gathered-touches g.S.X.BlockHash.block32 N c.args.p.now c.args.meta.now l _ _ _ _ c.from.ensures (sym heavy ∙ c.if-is_heavy.false) (c.in_ok-is_heavy.ensures.touches N c.args.meta.now l are.plan are.agrees)
    (c.in_one_block.ensures.touches N l (later-shards g.S.X.BlockHash.block32 c.args.p.now c.args.meta.now c.args.entry N before mid now l c.in_ok-is_heavy.ensures.cause c.weight_over.ensures.told are))

pub returns-in_err-is_heavy-clause-no_other : goal.returns-in_err-is_heavy-clause-no_other
returns-in_err-is_heavy-clause-no_other g c = λ N l plan agrees can. SavesAmong-same g.S.X.BlockHash.block32 (own_blocks g.S.X.BlockHash.block32 N c.args.p.now c.args.meta.now l) (g.S.Store.seen c.args.store.now).told (g.S.Store.seen c.weight_over.new.store).told c.weight_over.ensures.told

pub returns-then-is_heavy-clause-no_other : goal.returns-then-is_heavy-clause-no_other
returns-then-is_heavy-clause-no_other g c = λ N l plan agrees can. SavesAmong-same g.S.X.BlockHash.block32 (own_blocks g.S.X.BlockHash.block32 N c.args.p.now c.args.meta.now l) (g.S.Store.seen c.args.store.now).told (g.S.Store.seen c.weight_over.new.store).told c.weight_over.ensures.told

pub returns-clause-no_other : goal.returns-clause-no_other
returns-clause-no_other g c = λ N l plan agrees can. later-saves g.S.X.BlockHash.block32 (own_blocks g.S.X.BlockHash.block32 N c.args.p.now c.args.meta.now l) (shard g.S.X.BlockHash.block32 N 7 c.args.meta.now l).blocks (g.S.Store.seen c.args.store.now) (g.S.Store.seen c.weight_over.new.store) (g.S.Store.seen c.in_one_block.new.store).told c.weight_over.ensures.told c.in_ok-is_heavy.ensures.cause (c.in_one_block.ensures.no_other N l plan) agrees can
