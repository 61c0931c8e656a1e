use Rattle.std.proofs.Common.{ℕ, Err, subst}
use Rattle.uf_cid.specs.declared.bytes.StrictFault.{StrictFault}
use Rattle.uf_cid.specs.declared.bytes.StrictFault.TheVariants.{NotCanonical}
use Rattle.uf_tree.specs.Codecs.{Reads, shard_node_block}
use Rattle.uf_shard.specs.Placed.{IsPlacedNode, way}
use Rattle.uf_shard.proofs.Blaming.{way-loads, way-reads}
use Rattle.uf_shard.proofs.loading.load_shard.Goals as goal

pub returns-in-Err-NotCanonical-clause-loads : goal.returns-in-Err-NotCanonical-clause-loads
returns-in-Err-NotCanonical-clause-loads g c = way-loads g.S.X.BlockHash.block32 c.args.cid.now (g.S.Store.seen c.args.store.now) (g.S.Store.seen c.need.new.store) c.in_ok-need.ensures.found c.in_ok-need.ensures.cause c.block.result.now c.block.ensures
    g.N.NameHash.name64 (g.N.NameHash.name64 c.args.name.now) c.args.level
    (subst (λ (h : ℕ). Reads (IsPlacedNode g.N.NameHash.name64 (way h c.args.level)) shard_node_block c.block.result.now (Err NotCanonical)) c.hash_of-hash.ensures
    (subst (λ (f : StrictFault). Reads (IsPlacedNode g.N.NameHash.name64 (way c.hash_of-hash.result c.args.level)) shard_node_block c.block.result.now (Err f)) c.in-Err-NotCanonical.field-0-is c.in-Err-NotCanonical.ensures))

pub returns-in-Err-NotCanonical-clause-reads : goal.returns-in-Err-NotCanonical-clause-reads
returns-in-Err-NotCanonical-clause-reads g c = way-reads g.S.X.BlockHash.block32 c.args.cid.now (g.S.Store.seen c.args.store.now) (g.S.Store.seen c.need.new.store) c.in_ok-need.ensures.found c.in_ok-need.ensures.cause c.block.result.now c.block.ensures
    g.N.NameHash.name64 (g.N.NameHash.name64 c.args.name.now) c.args.level
    (subst (λ (h : ℕ). Reads (IsPlacedNode g.N.NameHash.name64 (way h c.args.level)) shard_node_block c.block.result.now (Err NotCanonical)) c.hash_of-hash.ensures
    (subst (λ (f : StrictFault). Reads (IsPlacedNode g.N.NameHash.name64 (way c.hash_of-hash.result c.args.level)) shard_node_block c.block.result.now (Err f)) c.in-Err-NotCanonical.field-0-is c.in-Err-NotCanonical.ensures)) c.requires
