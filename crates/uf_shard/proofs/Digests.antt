-- The blocks of a shard plan are under their digests.
use Rattle.std.proofs.Common.{◌≡◌, ℕ, zero, suc, ◌-◌, List, [], ◌∷◌, refl}
use Rattle.std.specs.List.{AllByRecursion}
use Rattle.uf_cid.specs.Blocks.{Held}
use Rattle.uf_tree.specs.declared.meta.Meta.{Meta}
use Rattle.uf_tree.specs.FilePlan.{Plan}
use Rattle.uf_tree.specs.Metas.{none}
use Rattle.uf_tree.specs.Nodes.{Named}
use Rattle.uf_tree.specs.ShardPlan.{shard, slot_blocks, bucket, no_shard}
use Rattle.uf_tree.proofs.Each.{each_flat_tabulate}

module _ (X : List ℕ → List ℕ) (N : List ℕ → ℕ) where
  -- a block under a CID with its digest
  abbrev pub Digested : Held → Type 0
  Digested b = b.0.digest ≡ X b.1

  slot-digested : (deeper : List Named → Plan) → ((l : List Named) → AllByRecursion Digested (deeper l).blocks) → (l : List Named) → AllByRecursion Digested (slot_blocks deeper l)
  slot-digested deeper h [] = tt
  slot-digested deeper h (e ∷ []) = tt
  slot-digested deeper h (e ∷ f ∷ l) = h (e ∷ f ∷ l)

  pub shard-digested : (left : ℕ) (m : Meta) (l : List Named) → AllByRecursion Digested (shard X N left m l).blocks
  unfolding shard
  shard-digested zero m l = (refl, each_flat_tabulate Digested 256 0 _ (λ s. slot-digested (no_shard X N) (λ l. tt) (bucket N 7 s l)))
  shard-digested (suc left) m l = (refl, each_flat_tabulate Digested 256 0 _ (λ s. slot-digested (shard X N left none) (shard-digested left none) (bucket N (6 - left) s l)))
