-- Blocks that were loaded and are no shard of their level.
use Rattle.std.proofs.Common.{◌≡◌, ◌≢◌, ℕ, zero, suc, ◌-◌, ◌<◌, ◌≤◌, List, [], ◌∷◌, length, refl, arith, sym, ◌∙◌, subst, Some, inl, inr, Err}
use Rattle.std.specs.List.{AllByRecursion}
use Rattle.uf_cid.specs.declared.cid.Cid.{Cid}
use Rattle.uf_cid.specs.declared.bytes.StrictFault.TheVariants as strict
use Rattle.uf_store.specs.Calls.{OnlyReads}
use Rattle.uf_store.specs.Contents.{Told}
use Rattle.uf_store.specs.Faults.{StaysCalm}
use Rattle.uf_store.specs.Keeping.{HoldsOne}
use Rattle.uf_store.specs.Seen.{Finds, Seen}
use Rattle.uf_store.specs.declared.store.Role.{Role}
use Rattle.uf_store.specs.declared.store.Role.TheVariants.{Shard}
use Rattle.uf_store.specs.declared.store.StoreFault.TheVariants.{BadBlock}
use Rattle.uf_tree.specs.declared.nodes.Item.TheVariants.{Leaf, Sub}
use Rattle.uf_tree.specs.declared.nodes.ShardNode.{ShardNode}
use Rattle.uf_tree.specs.Codecs.{Reads, shard_node_block}
use Rattle.uf_tree.specs.Nodes.{InSlot}
use Rattle.uf_tree.specs.Roles.{IsCanonicalShard, IsOnWay}
use Rattle.uf_shard.specs.Listing.{IsBadShard}
use Rattle.uf_shard.specs.Placed.{IsBadOnWay, IsPlacedNode, way}
use Rattle.uf_shard.specs.Reached.{IsBadThere}
use Rattle.uf_shard.specs.Walked.{HasLevel, IsAbove, IsNoShard}
use Rattle.uf_shard.proofs.Carrying.{carry-length}
use Rattle.uf_shard.proofs.Readings.{not_canonical}

-- what a refusal says, which isn't want of memory
none-such : {V : Type 0} (P : V → Type 0) (w : V → List ℕ) (bytes : List ℕ) → Reads P w bytes (Err strict.NotCanonical) → (v : V) → P v → bytes ≢ w v
none-such P w bytes (inl memory) = absurd (let no : strict.NotCanonical ≡ strict.Memory = memory in cc)
none-such P w bytes (inr h) = h

-- a level is left for each shard that stands on the way to a level
levels-left : (N : List ℕ → ℕ) (above : List ℕ) (left : ℕ) → left ≤ 7 → length above ≡ 7 - left → (items : List InSlot) → AllByRecursion (IsOnWay N above) items → AllByRecursion (HasLevel left) items
levels-left N above left low e [] h = tt
levels-left N above left low e ((s, Leaf name x) ∷ items) h = (tt, levels-left N above left low e items h.1)
levels-left N above left low e ((s, Sub x) ∷ items) h = (some left low e h.0, levels-left N above left low e items h.1)
  where
    some : (left : ℕ) → left ≤ 7 → length above ≡ 7 - left → length above ≢ 7 → 1 ≤ left
    some zero low e other = absurd (other e)
    some (suc left) low e other = omega arith

module _ (hash : List ℕ → List ℕ) (cid : Cid) (before now : Seen) (found : Finds hash cid before now) (calm : StaysCalm before now) (bytes : List ℕ) (same : bytes ≡ now.lent) where
  shows-bad : (Bad : Role → List ℕ → Type 0) (role : Role) → Bad role bytes → OnlyReads hash Bad (Some (BadBlock cid role)) before now
  shows-bad Bad role bad = record {
    cause = record {
      rose = found.counted.finds.rose refl;
      digest = found.digest;
      is_held = subst (λ (t : Told). HoldsOne t cid now.lent) (sym found.same_told) found.is_held;
      bad = subst (Bad role) same bad;
      calm = calm;
    };
    told = found.same_told;
  }

  -- on the way of a hash
  module _ (N : List ℕ → ℕ) (h level : ℕ) (read : Reads (IsPlacedNode N (way h level)) shard_node_block bytes (Err strict.NotCanonical)) where
    bad_way : IsCanonicalShard N (way h level) bytes → ⊥
    bad_way = not_canonical N (way h level) bytes (none-such (IsPlacedNode N (way h level)) shard_node_block bytes read)

    pub way-reads : level < 8 → OnlyReads hash (IsBadOnWay N h) (Some (BadBlock cid (Shard level))) before now
    way-reads low = shows-bad (IsBadOnWay N h) (Shard level) (low, bad_way)

    pub way-loads : IsBadThere N h level cid (Shard level) before now
    way-loads = record { role = refl; held = found.is_held; bad = subst (λ (b : List ℕ). IsCanonicalShard N (way h level) b → ⊥) same bad_way }

  -- whatever hash gives the slots
  module _ (left : ℕ) (low : left ≤ 7) (read : Reads (IsAbove left) shard_node_block bytes (Err strict.NotCanonical)) where
    no_node : (node : ShardNode) → IsAbove left node → bytes ≢ shard_node_block node
    no_node = none-such (IsAbove left) shard_node_block bytes read

    bad_level : (N : List ℕ → ℕ) (above : List ℕ) → length above ≡ 7 - left → IsCanonicalShard N above bytes → ⊥
    bad_level N above e c = no_node (record { items = c.items; meta = c.meta }) (record {
      valid = record { items = c.valid; meta = c.good };
      carries = carry-length above (7 - left) c.meta e c.carries;
      levels = levels-left N above left low e c.items c.on_way;
    }) c.is

    pub above-reads : (level : ℕ) → level ≡ 7 - left → OnlyReads hash IsBadShard (Some (BadBlock cid (Shard level))) before now
    above-reads level is = shows-bad IsBadShard (Shard level) (omega (arith, is), λ N above e. bad_level N above (e ∙ is))

    pub above-loads : IsNoShard left cid before now
    above-loads = record { is_held = found.is_held; no_shard = λ node a e. no_node node a (same ∙ e) }
