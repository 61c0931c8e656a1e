-- A change of a directory's root, which keeps its metadata.
use Rattle.std.proofs.Common.{◌≡◌, ℕ, ◌≤◌, List, [], ◌∷◌, map, ap, arith, ◌∙◌, subst, Option}
use Rattle.std.specs.declared.result.Result.{Result}
use Rattle.std.specs.declared.result.Result.TheVariants.{Err}
use Rattle.std.specs.Prelude.{IfOk}
use Rattle.uf_cid.specs.declared.cid.Cid.{Cid}
use Rattle.uf_cid.specs.Blocks.{Held}
use Rattle.uf_store.specs.Among.{SavesAmong}
use Rattle.uf_store.specs.Contents.{Told}
use Rattle.uf_store.specs.Keeping.{Agrees, Holds, KeepsGood}
use Rattle.uf_store.specs.Seen.{Seen}
use Rattle.uf_store.specs.declared.store.StoreFault.{StoreFault}
use Rattle.uf_tree.specs.declared.meta.Meta.{Meta}
use Rattle.uf_tree.specs.declared.nodes.Entry.{Entry}
use Rattle.uf_tree.specs.declared.nodes.ShardNode.{ShardNode}
use Rattle.uf_tree.specs.Nodes.{InSlot, Named, item_entry, node_entry, shard_block}
use Rattle.uf_tree.specs.ShardPlan.{shard}
use Rattle.uf_tree.specs.Validity.{IsHash}
use Rattle.uf_shard.specs.declared.fault.DirFault.{DirFault}
use Rattle.uf_shard.specs.declared.removed.Removed.{Removed}
use Rattle.uf_shard.specs.Answers.{shard_node_held}
use Rattle.uf_shard.specs.Changed.{AreItems, MayLose, PutsSlots, below}
use Rattle.uf_shard.specs.Planned.{IsPlanned}
use Rattle.uf_shard.specs.Reached.{HasPlaced, IsReached, LoadsPlaced}
use Rattle.uf_shard.specs.Taken.{IsLeftOf, TakesSlots}
use Rattle.uf_shard.proofs.Placing.{below-in, items-read, load-lost, meta-read}
use Rattle.uf_shard.proofs.Puts.{puts-more}
use Rattle.uf_shard.proofs.Reaching.{reached-root}
use Rattle.uf_shard.proofs.Takes.{takes-more}

seven : 7 ≤ 7
seven = omega arith

module _ (X : List ℕ → List ℕ) (N : List ℕ → ℕ) (good : IsHash X) (name : List ℕ) (root : Cid) (m : Meta) (l : List Named) (planned : IsPlanned X N root m l) (before : Seen) (agrees : Agrees before.told (shard X N 7 m l).blocks) where
  reached : IsReached X N (N name) 7 root m l
  reached = reached-root X N good name root m l planned

  -- a root that can't be loaded
  pub root-lost : (now : Seen) (fault : StoreFault) → LoadsPlaced N (N name) 0 root before now (Err fault) → MayLose before.told (shard X N 7 m l).blocks fault
  root-lost now fault loads = load-lost X N good (N name) 7 root m l seven reached before now fault loads agrees

  module _ (mid : Told) (node : ShardNode) (same : mid ≡ before.told) (has : HasPlaced N (N name) 0 root before node) where
    read : AreItems X N (N name) 7 mid node.items l
    read = items-read X N good (N name) 7 root m l seven reached before mid node same agrees has

    pub root-meta : node.meta ≡ m
    root-meta = meta-read X N good (N name) 7 root m l seven reached before node agrees has

    -- what a put or a removal gives in its slots
    pub root-puts : (now : Told) (e : Entry) (r : Result (List InSlot) DirFault) → ((k : List Named) → AreItems X N (N name) 7 mid node.items k → PutsSlots X N mid now (below X N 7 k) 7 name e k r)
        → PutsSlots X N before.told now (shard X N 7 m l).blocks 7 name e l r
    root-puts now e r puts = puts-more X N before.told mid now (below X N 7 l) (shard X N 7 m l).blocks 7 name e l r same (below-in X N 7 m l) (puts l read)

    pub root-takes : (now : Told) (r : Result (Option (List InSlot)) StoreFault) → ((k : List Named) → AreItems X N (N name) 7 mid node.items k → TakesSlots X N mid now (below X N 7 k) 7 name k r)
        → TakesSlots X N before.told now (shard X N 7 m l).blocks 7 name l r
    root-takes now r takes = takes-more X N before.told mid now (below X N 7 l) (shard X N 7 m l).blocks 7 name l r same (below-in X N 7 m l) (takes l read)

    -- what is saved below the root
    pub root-below : (now : Told) (blocks : List Named → List Held) → ((k : List Named) → AreItems X N (N name) 7 mid node.items k → SavesAmong X (blocks k) mid now) → SavesAmong X (blocks l) before.told now
    root-below now blocks saves = subst (λ (t : Told). SavesAmong X (blocks l) t now) same (saves l read)

    -- its own block
    pub root-among : (now now_then : Told) (items : List InSlot) → SavesAmong X (shard_node_held X node.meta items ∷ []) now now_then → SavesAmong X (shard_node_held X m items ∷ []) now now_then
    root-among now now_then items h = subst (λ (n : Meta). SavesAmong X (shard_node_held X n items ∷ []) now now_then) root-meta h

    -- the root is saved with the metadata that it had
    pub root-entry : (items : List InSlot) (e : Entry) → e ≡ node_entry X (shard_block node.meta items) (map (λ (p : InSlot). item_entry p.1) items) → e ≡ node_entry X (shard_block m items) (map (λ (p : InSlot). item_entry p.1) items)
    root-entry items e is = is ∙ ap (λ (n : Meta). node_entry X (shard_block n items) (map (λ (p : InSlot). item_entry p.1) items)) root-meta

    pub root-held : (now : Told) (items : List InSlot) (e : Entry) → Holds now ((e.cid, shard_block node.meta items) ∷ []) → Holds now ((e.cid, shard_block m items) ∷ [])
    root-held now items e held = subst (λ (n : Meta). Holds now ((e.cid, shard_block n items) ∷ [])) root-meta held

    pub root-left : (a b : Told) (items : List InSlot) (r : Result Removed StoreFault) → IfOk r (IsLeftOf X a b node.meta items) → IfOk r (IsLeftOf X a b m items)
    root-left a b items r h = subst (λ (n : Meta). IfOk r (IsLeftOf X a b n items)) root-meta h

-- what is kept after a load
pub keeps-from : (X : List ℕ → List ℕ) (before mid now : Told) → mid ≡ before → KeepsGood X mid now → KeepsGood X before now
keeps-from X before mid now same keeps = subst (λ (t : Told). KeepsGood X t now) same keeps
