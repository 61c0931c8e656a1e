use Rattle.std.proofs.Common.{◌≡◌, [], ◌∷◌, map, subst}
use Rattle.uf_store.specs.Among.{SavesAmong}
use Rattle.uf_store.specs.Keeping.{Holds}
use Rattle.uf_tree.specs.declared.meta.Meta.{Meta}
use Rattle.uf_tree.specs.Nodes.{InSlot, item_entry, node_entry, shard_block}
use Rattle.uf_shard.specs.Answers.{shard_node_held}
use Rattle.uf_shard.proofs.Puts.{saved-below}
use Rattle.uf_shard.proofs.putting.save_below.Goals as goal

pub returns-clause-gives : goal.returns-clause-gives
returns-clause-gives g c = λ N. saved-below g.S.X.BlockHash.block32 N _ _ c.args.items.now c.in_ok-entry.entry
    (subst (λ (m : Meta). c.in_ok-entry.entry ≡ node_entry g.S.X.BlockHash.block32 (shard_block m c.args.items.now) (map (λ (p : InSlot). item_entry p.1) c.args.items.now)) c.none-bare.ensures c.in_ok-entry.ensures.entry)
    (subst (λ (m : Meta). Holds (g.S.Store.seen c.save_node.new.store).told ((c.in_ok-entry.entry.cid, shard_block m c.args.items.now) ∷ [])) c.none-bare.ensures c.in_ok-entry.ensures.held) c.in_ok-entry.ensures.saves.good

pub returns-in_err-entry-clause-no_other : goal.returns-in_err-entry-clause-no_other
returns-in_err-entry-clause-no_other g c = subst (λ (m : Meta). SavesAmong g.S.X.BlockHash.block32 (shard_node_held g.S.X.BlockHash.block32 m c.args.items.now ∷ []) (g.S.Store.seen c.args.store.now).told (g.S.Store.seen c.save_node.new.store).told) c.none-bare.ensures c.save_node.ensures.no_other

pub returns-clause-no_other : goal.returns-clause-no_other
returns-clause-no_other g c = subst (λ (m : Meta). SavesAmong g.S.X.BlockHash.block32 (shard_node_held g.S.X.BlockHash.block32 m c.args.items.now ∷ []) (g.S.Store.seen c.args.store.now).told (g.S.Store.seen c.save_node.new.store).told) c.none-bare.ensures c.save_node.ensures.no_other
