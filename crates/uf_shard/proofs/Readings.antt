-- Shards read where they stand.
use Rattle.std.proofs.Common.{◌≡◌, ◌≢◌, ℕ, List, [], inl, inr, sym, ◌∙◌, subst, Bool, true, false, Ok, Err}
use Rattle.std.specs.Prelude.{IsTrue, ◌↔◌}
use Rattle.std.specs.List.{AllByRecursion}
use Rattle.std.proofs.lemmas.Bool.{false≢true}
use Rattle.uf_cid.specs.declared.bytes.StrictFault.{StrictFault}
use Rattle.uf_cid.specs.declared.bytes.StrictFault.TheVariants.{NotCanonical}
use Rattle.uf_tree.specs.declared.nodes.ShardNode.{ShardNode}
use Rattle.uf_tree.specs.Codecs.{Reads, shard_node_block}
use Rattle.uf_tree.specs.Roles.{IsCanonicalShard, IsOnWay, MayCarry}
use Rattle.uf_tree.specs.Validity.{IsShardNode}
use Rattle.uf_shard.specs.Placed.{IsPlacedNode}
use Rattle.uf_shard.proofs.One.{one_shard}

module _ (N : List ℕ → ℕ) (above : List ℕ) (bytes : List ℕ) where
  -- what is no shard is none anywhere
  pub placed-refused : (f : StrictFault) → Reads IsShardNode shard_node_block bytes (Err f) → Reads (IsPlacedNode N above) shard_node_block bytes (Err f)
  placed-refused f (inl memory) = inl memory
  placed-refused f (inr h) = inr (λ v k. h v (record { items = k.placed.valid; meta = k.good }))

  -- a shard carries no more than it may, and its items are on the way
  abbrev pub IsRight : ShardNode → Type 0
  IsRight node = MayCarry above node.meta × AllByRecursion (IsOnWay N above) node.items

  -- a shard that isn't on the way is no shard there
  pub placed-elsewhere : (node : ShardNode) (b : Bool) → Reads IsShardNode shard_node_block bytes (Ok node) → IsTrue b ↔ IsRight node → b ≡ false → Reads (IsPlacedNode N above) shard_node_block bytes (Err NotCanonical)
  placed-elsewhere node b read iff fails =
      inr (λ v k e. false≢true (sym fails ∙ iff.1 (subst IsRight (one_shard v node (record { items = k.placed.valid; meta = k.good }) read.0 (sym e ∙ read.1)) (k.carries, k.placed.on_way))))

  pub placed-there : (node : ShardNode) (b : Bool) → Reads IsShardNode shard_node_block bytes (Ok node) → IsTrue b ↔ IsRight node → b ≡ true → Reads (IsPlacedNode N above) shard_node_block bytes (Ok node)
  placed-there node b read iff holds =
      let right = iff.0 holds in
      (record { good = read.0.meta; carries = right.0; placed = record { valid = read.0.items; on_way = right.1 } }, read.1)

  -- a block that is refused isn't canonical
  pub not_canonical : ((v : ShardNode) → IsPlacedNode N above v → bytes ≢ shard_node_block v) → IsCanonicalShard N above bytes → ⊥
  not_canonical h c = h (record { items = c.items; meta = c.meta }) (record { good = c.good; carries = c.carries; placed = record { valid = c.valid; on_way = c.on_way } }) c.is

-- the shard of level 0, behind which no slots are
pub first-placed : (N : List ℕ → ℕ) (node : ShardNode) (b : Bool) → IsShardNode node → IsTrue b ↔ (MayCarry [] node.meta × AllByRecursion (IsOnWay N []) node.items) → IsTrue b ↔ IsPlacedNode N [] node
first-placed N node b valid iff = (
  λ t. let right = iff.0 t in record { good = valid.meta; carries = right.0; placed = record { valid = valid.items; on_way = right.1 } },
  λ k. iff.1 (k.carries, k.placed.on_way),
)

-- what isn't is no shard of level 0
pub misplaced : (N : List ℕ → ℕ) (bytes : List ℕ) (node : ShardNode) (b : Bool) → IsShardNode node → bytes ≡ shard_node_block node → IsTrue b ↔ IsPlacedNode N [] node → b ≡ false → Reads (IsPlacedNode N []) shard_node_block bytes (Err NotCanonical)
misplaced N bytes node b valid same iff fails =
    inr (λ v k e. false≢true (sym fails ∙ iff.1 (subst (IsPlacedNode N []) (one_shard v node (record { items = k.placed.valid; meta = k.good }) valid (sym e ∙ same)) k)))
