use Rattle.uf_store.proofs.Calls.{reads-reads}
use Rattle.uf_shard.specs.Listing.{IsBadShard}
use Rattle.uf_shard.proofs.Firsts.{found-items, found-reads, seven-levels}
use Rattle.uf_shard.proofs.listing.entries_below.Goals as goal

pub entries_in-requires : goal.entries_in-requires
entries_in-requires g c = seven-levels c.args.node.now.items

pub returns-clause-value : goal.returns-clause-value
returns-clause-value g c = λ N root before m l finds is agrees stood. c.entries_in.ensures.value N root before m l (found-items g.S.X.BlockHash.block32 root before (g.S.Store.seen c.args.store.now) finds c.args.node.now c.requires.shard c.requires.lent)
    (found-reads g.S.X.BlockHash.block32 root before (g.S.Store.seen c.args.store.now) finds IsBadShard) is agrees stood

pub returns-clause-listed : goal.returns-clause-listed
returns-clause-listed g c = λ root before finds. c.entries_in.ensures.listed root before (found-items g.S.X.BlockHash.block32 root before (g.S.Store.seen c.args.store.now) finds c.args.node.now c.requires.shard c.requires.lent)
    (found-reads g.S.X.BlockHash.block32 root before (g.S.Store.seen c.args.store.now) finds IsBadShard)

pub returns-clause-cause : goal.returns-clause-cause
returns-clause-cause g c = λ root before finds. (reads-reads (found-reads g.S.X.BlockHash.block32 root before (g.S.Store.seen c.args.store.now) finds IsBadShard) c.entries_in.ensures.reads).cause

pub returns-clause-touches : goal.returns-clause-touches
returns-clause-touches g c = λ N root before m l finds is agrees. c.entries_in.ensures.touches N root before m l (found-items g.S.X.BlockHash.block32 root before (g.S.Store.seen c.args.store.now) finds c.args.node.now c.requires.shard c.requires.lent)
    (found-reads g.S.X.BlockHash.block32 root before (g.S.Store.seen c.args.store.now) finds IsBadShard) is agrees
