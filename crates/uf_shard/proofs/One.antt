-- Two shards with one block are one.
use Rattle.std.proofs.Common.{◌≡◌, ◌≤◌, List, length, ap, arith}
use Rattle.std.specs.Prelude.{IsTrue}
use Rattle.uf_dagpb.proofs.Strictly.{one_spelling}
use Rattle.uf_tree.specs.declared.meta.Meta.{Meta}
use Rattle.uf_tree.specs.declared.nodes.ShardNode.{ShardNode}
use Rattle.uf_tree.specs.Codecs.{shard_dag, shard_node_block}
use Rattle.uf_tree.specs.Metas.{is_meta}
use Rattle.uf_tree.specs.Nodes.{InSlot, shard_block}
use Rattle.uf_tree.specs.Validity.{IsShard, IsShardNode}
use Rattle.uf_tree.proofs.Shards.{one_shard_node, shard_dag-node}
use Rattle.uf_tree.proofs.Sizes.{shard_length}

pub one_shard : (a b : ShardNode) → IsShardNode a → IsShardNode b → shard_node_block a ≡ shard_node_block b → a ≡ b
unfolding shard_block
one_shard a b h k e =
    let short : length (shard_node_block a) ≤ 2097152 = shard_length a.meta a.items h.items in
    one_shard_node a b h k (one_spelling (shard_dag a) (shard_dag b) (shard_dag-node a h) (shard_dag-node b k) (omega (arith, short)) e)

module _ (node : ShardNode) (m : Meta) (items : List InSlot) (valid : IsShardNode node) (good : IsTrue (is_meta m)) (are : IsShard items) (e : shard_node_block node ≡ shard_block m items) where
  one_is : node ≡ record { items = items; meta = m }
  one_is = one_shard node (record { items = items; meta = m }) valid (record { items = are; meta = good }) e

  -- the slots of a shard with this block, and its metadata
  pub same-items : node.items ≡ items
  same-items = ap (λ (x : ShardNode). x.items) one_is

  pub same-meta : node.meta ≡ m
  same-meta = ap (λ (x : ShardNode). x.meta) one_is
