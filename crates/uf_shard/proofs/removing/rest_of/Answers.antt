use Rattle.std.proofs.Common.{◌≡◌, [], ◌∷◌, map, ap, sym, subst, ◌∙◌}
use Rattle.uf_store.specs.Keeping.{Holds}
use Rattle.uf_tree.specs.declared.meta.Meta.{Meta}
use Rattle.uf_tree.specs.Nodes.{InSlot, item_entry, node_entry, shard_block}
use Rattle.uf_store.specs.Among.{SavesAmong}
use Rattle.uf_shard.specs.Answers.{shard_node_held}
use Rattle.uf_shard.specs.declared.rest.Rest.{Rest}
use Rattle.uf_shard.specs.Taken.{SavesRest, collapsed}
use Rattle.uf_shard.proofs.Among.{rest-none}
use Rattle.uf_shard.proofs.Takes.{big-below, small-below, unsaved-small}
use Rattle.uf_shard.proofs.removing.rest_of.Goals as goal

pub returns-in-Of-clause-leaves : goal.returns-in-Of-clause-leaves
returns-in-Of-clause-leaves g c = λ N. small-below g.S.X.BlockHash.block32 N (g.S.Store.seen c.args.store.now).told (g.S.Store.seen c.args.store.now).told c.args.items.now c.in-Of.item (sym c.in-Of.is ∙ c.in_ok-rest.ensures ∙ ap collapsed c.as_slice.ensures)

pub returns-in_ok-entry-in-Same-clause-leaves : goal.returns-in_ok-entry-in-Same-clause-leaves
returns-in_ok-entry-in-Same-clause-leaves g c = λ N. big-below g.S.X.BlockHash.block32 N (g.S.Store.seen c.args.store.now).told (g.S.Store.seen c.save_node.new.store).told c.args.items.now c.in_ok-entry-in-Same.entry (sym c.in-Same.is ∙ c.in_ok-rest.ensures ∙ ap collapsed c.as_slice.ensures)
    (subst (λ (m : Meta). c.in_ok-entry-in-Same.entry ≡ node_entry g.S.X.BlockHash.block32 (shard_block m c.args.items.now) (map (λ (p : InSlot). item_entry p.1) c.args.items.now)) c.none-bare.ensures c.in_ok-entry-in-Same.ensures.entry)
    (subst (λ (m : Meta). Holds (g.S.Store.seen c.save_node.new.store).told ((c.in_ok-entry-in-Same.entry.cid, shard_block m c.args.items.now) ∷ [])) c.none-bare.ensures c.in_ok-entry-in-Same.ensures.held) c.in_ok-entry-in-Same.ensures.saves.good

pub returns-in-Of-clause-unsaved : goal.returns-in-Of-clause-unsaved
returns-in-Of-clause-unsaved g c = unsaved-small c.args.items.now c.in-Of.item _ (sym c.in-Of.is ∙ c.in_ok-rest.ensures ∙ ap collapsed c.as_slice.ensures)

pub returns-in_err-rest-clause-no_other : goal.returns-in_err-rest-clause-no_other
returns-in_err-rest-clause-no_other g c = rest-none g.S.X.BlockHash.block32 c.args.items.now (collapsed c.args.items.now) (g.S.Store.seen c.args.store.now).told

pub returns-in-Of-clause-no_other : goal.returns-in-Of-clause-no_other
returns-in-Of-clause-no_other g c = rest-none g.S.X.BlockHash.block32 c.args.items.now (collapsed c.args.items.now) (g.S.Store.seen c.args.store.now).told

pub returns-in_err-entry-in-Same-clause-no_other : goal.returns-in_err-entry-in-Same-clause-no_other
returns-in_err-entry-in-Same-clause-no_other g c = subst (λ (r : Rest). SavesRest g.S.X.BlockHash.block32 c.args.items.now r (g.S.Store.seen c.args.store.now).told (g.S.Store.seen c.save_node.new.store).told) (sym c.in-Same.is ∙ c.in_ok-rest.ensures ∙ ap collapsed c.as_slice.ensures)
    (subst (λ (m : Meta). SavesAmong g.S.X.BlockHash.block32 (shard_node_held g.S.X.BlockHash.block32 m c.args.items.now ∷ []) (g.S.Store.seen c.args.store.now).told (g.S.Store.seen c.save_node.new.store).told) c.none-bare.ensures c.save_node.ensures.no_other)

pub returns-in_ok-entry-in-Same-clause-no_other : goal.returns-in_ok-entry-in-Same-clause-no_other
returns-in_ok-entry-in-Same-clause-no_other g c = subst (λ (r : Rest). SavesRest g.S.X.BlockHash.block32 c.args.items.now r (g.S.Store.seen c.args.store.now).told (g.S.Store.seen c.save_node.new.store).told) (sym c.in-Same.is ∙ c.in_ok-rest.ensures ∙ ap collapsed c.as_slice.ensures)
    (subst (λ (m : Meta). SavesAmong g.S.X.BlockHash.block32 (shard_node_held g.S.X.BlockHash.block32 m c.args.items.now ∷ []) (g.S.Store.seen c.args.store.now).told (g.S.Store.seen c.save_node.new.store).told) c.none-bare.ensures c.save_node.ensures.no_other)
