-- A root that was loaded before: the store lends its block.
use Rattle.std.proofs.Common.{◌≡◌, ℕ, List, [], ◌∷◌, refl, arith, subst, Bool, false, None, Some, Err}
use Rattle.std.specs.Prelude.{IsTrue, ◌↔◌}
use Rattle.std.specs.List.{AllByRecursion}
use Rattle.uf_cid.specs.declared.bytes.StrictFault.TheVariants.{NotCanonical}
use Rattle.uf_cid.specs.declared.cid.Cid.{Cid}
use Rattle.uf_store.specs.Calls.{OnlyReads}
use Rattle.uf_store.specs.Faults.{StaysCalm}
use Rattle.uf_store.specs.Keeping.{Agrees, HoldsOne}
use Rattle.uf_store.specs.Seen.{Finds, Seen}
use Rattle.uf_store.specs.declared.store.Role.{Role}
use Rattle.uf_store.specs.declared.store.Role.TheVariants.{Shard}
use Rattle.uf_store.specs.declared.store.StoreFault.TheVariants.{BadBlock}
use Rattle.uf_tree.specs.declared.meta.Meta.{Meta}
use Rattle.uf_tree.specs.declared.nodes.Item.TheVariants.{Leaf, Sub}
use Rattle.uf_tree.specs.declared.nodes.ShardNode.{ShardNode}
use Rattle.uf_tree.specs.Codecs.{Reads, shard_node_block}
use Rattle.uf_tree.specs.Nodes.{InSlot, Named}
use Rattle.uf_tree.specs.ShardPlan.{shard}
use Rattle.uf_tree.specs.Validity.{IsHash, IsShardNode}
use Rattle.uf_shard.specs.Placed.{IsBadOnWay, IsPlacedNode, way}
use Rattle.uf_shard.specs.Planned.{IsPlanned}
use Rattle.uf_shard.specs.Reached.{HasFirst, IsBadThere}
use Rattle.uf_shard.specs.Walked.{HasItems, HasLevel}
use Rattle.uf_shard.proofs.AtRoot.{root-lost}
use Rattle.uf_shard.proofs.Blaming.{way-loads, way-reads}
use Rattle.uf_shard.proofs.Readings.{misplaced}

-- a level is left below the root for each shard
pub seven-levels : (items : List InSlot) → AllByRecursion (HasLevel 7) items
seven-levels [] = tt
seven-levels ((s, Leaf name e) ∷ items) = (tt, seven-levels items)
seven-levels ((s, Sub e) ∷ items) = (omega arith, seven-levels items)

module _ (X : List ℕ → List ℕ) (root : Cid) (before mid : Seen) (finds : Finds X root before mid) where
  pub found-calm : StaysCalm before mid
  found-calm = record { finds = finds.counted.finds.later; misses = finds.counted.misses.later; faults = finds.counted.faults.still refl; clashes = finds.counted.clashes.still refl }

  pub found-reads : (Bad : Role → List ℕ → Type 0) → OnlyReads X Bad None before mid
  found-reads Bad = record { cause = found-calm; told = finds.same_told }

  module _ (node : ShardNode) (valid : IsShardNode node) (lent : mid.lent ≡ shard_node_block node) where
    found-held : HoldsOne before.told root (shard_node_block node)
    found-held = subst (λ (b : List ℕ). HoldsOne before.told root b) lent finds.is_held

    pub found-items : HasItems 7 root before node.items
    found-items = record { node = node; are = refl; above = record { valid = valid; carries = tt; levels = seven-levels node.items }; is_held = found-held }

    module _ (N : List ℕ → ℕ) (name : List ℕ) where
      pub found-first : IsPlacedNode N [] node → HasFirst X N (N name) root node before mid
      found-first placed = record { has = record { is = placed; is_held = found-held }; reads = found-reads (IsBadOnWay N (N name)) }

      -- it isn't canonical at the root
      module _ (b : Bool) (iff : IsTrue b ↔ IsPlacedNode N [] node) (fails : b ≡ false) where
        misread : Reads (IsPlacedNode N (way (N name) 0)) shard_node_block mid.lent (Err NotCanonical)
        misread = misplaced N mid.lent node b valid lent iff fails

        pub misplaced-there : IsBadThere N (N name) 0 root (Shard 0) before mid
        misplaced-there = way-loads X root before mid finds found-calm mid.lent refl N (N name) 0 misread

        pub misplaced-reads : OnlyReads X (IsBadOnWay N (N name)) (Some (BadBlock root (Shard 0))) before mid
        misplaced-reads = way-reads X root before mid finds found-calm mid.lent refl N (N name) 0 misread (omega arith)

        -- no plan has such a root
        pub misplaced-never : IsHash X → (m : Meta) (l : List Named) → IsPlanned X N root m l → Agrees before.told (shard X N 7 m l).blocks → ⊥
        misplaced-never good m l is agrees = root-lost X N good name root m l is before agrees mid (BadBlock root (Shard 0)) misplaced-there
