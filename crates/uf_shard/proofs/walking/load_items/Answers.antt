use Rattle.std.proofs.Common.{Err, arith, subst}
use Rattle.uf_cid.specs.declared.bytes.StrictFault.{StrictFault}
use Rattle.uf_tree.specs.Codecs.{Reads, shard_node_block}
use Rattle.uf_shard.specs.Walked.{IsAbove}
use Rattle.uf_shard.proofs.Blaming.{above-loads, above-reads}
use Rattle.uf_shard.proofs.walking.load_items.Goals as goal

pub returns-in-Err-NotCanonical-clause-loads : goal.returns-in-Err-NotCanonical-clause-loads
returns-in-Err-NotCanonical-clause-loads g c = above-loads g.S.X.BlockHash.block32 c.args.cid.now (g.S.Store.seen c.args.store.now) (g.S.Store.seen c.need.new.store) c.in_ok-need.ensures.found c.in_ok-need.ensures.cause c.block.result.now c.block.ensures c.args.left c.requires (subst (λ (f : StrictFault). Reads (IsAbove c.args.left) shard_node_block c.block.result.now (Err f)) c.in-Err-NotCanonical.field-0-is c.in-Err-NotCanonical.ensures)

pub returns-in-Err-NotCanonical-clause-reads : goal.returns-in-Err-NotCanonical-clause-reads
returns-in-Err-NotCanonical-clause-reads g c = above-reads g.S.X.BlockHash.block32 c.args.cid.now (g.S.Store.seen c.args.store.now) (g.S.Store.seen c.need.new.store) c.in_ok-need.ensures.found c.in_ok-need.ensures.cause c.block.result.now c.block.ensures c.args.left c.requires (subst (λ (f : StrictFault). Reads (IsAbove c.args.left) shard_node_block c.block.result.now (Err f)) c.in-Err-NotCanonical.field-0-is c.in-Err-NotCanonical.ensures) _ (omega arith)
