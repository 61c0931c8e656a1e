-- The entry of a name, and the CIDs of the shards on its way.
use Rattle.std.proofs.Common.{◌≡◌, ℕ, zero, suc, ◌-◌, ◌<◌, ◌≤◌, List, [], ◌∷◌, ◌++◌, refl, ap, append_assoc, arith, sym, ◌∙◌, subst, Bool, false, Option, Some, None, Result, Err}
use Rattle.std.specs.Prelude.{IfSome, IsTrue, ◌↔◌}
use Rattle.std.specs.FinMap.Entries.{find}
use Rattle.uf_cid.specs.declared.cid.Cid.{Cid}
use Rattle.uf_cid.specs.Blocks.{Held}
use Rattle.uf_edge.specs.Counts.{Stood}
use Rattle.uf_store.specs.Contents.{Told, held_at}
use Rattle.uf_store.specs.Keeping.{Agrees, Holds}
use Rattle.uf_store.specs.Lost.{FindsOver}
use Rattle.uf_store.specs.Seen.{Finds, Seen}
use Rattle.uf_store.specs.declared.store.Role.TheVariants.{Shard}
use Rattle.uf_store.specs.declared.store.StoreFault.{StoreFault}
use Rattle.uf_store.specs.declared.store.StoreFault.TheVariants.{Failed, Damaged, Missing, BadBlock, Clash, Memory}
use Rattle.uf_tree.specs.declared.nodes.Entry.{Entry}
use Rattle.uf_tree.specs.Metas.{none}
use Rattle.uf_tree.specs.Codecs.{shard_node_block}
use Rattle.uf_tree.specs.Names.{names_cmp}
use Rattle.uf_tree.specs.Nodes.{Named}
use Rattle.uf_tree.specs.declared.meta.Meta.{Meta}
use Rattle.uf_tree.specs.declared.nodes.ShardNode.{ShardNode}
use Rattle.uf_tree.specs.ShardPlan.{shard, shard_trail, slot_item}
use Rattle.uf_tree.specs.Validity.{IsHash, IsShardNode}
use Rattle.uf_shard.specs.Placed.{IsPlacedNode}
use Rattle.uf_shard.specs.Planned.{IsPlanned}
use Rattle.uf_shard.specs.Reached.{IsReached}
use Rattle.uf_shard.specs.Spots.{HasRoom, spot_of}
use Rattle.uf_shard.specs.Trails.{traced_behind, trail_cids}
use Rattle.uf_shard.specs.declared.spot.ShardAnswer.{ShardAnswer}
use Rattle.uf_shard.specs.declared.spot.ShardAnswer.TheVariants.{Here, Below}
use Rattle.uf_shard.specs.declared.traced.Traced.{Traced}
use Rattle.uf_shard.proofs.Firsts.{misplaced-reads, misplaced-there}
use Rattle.uf_shard.proofs.Reaching.{Goes, SaysOf, below_goes, deeper_of, find-err, find-here-at, find-slot, head-held, head_of, here_value, it_says, over_more, reached-root, reached_below, root-is, slot_of, trail-is, trail_below}

-- a fault is that of a loss, whatever is looked for
pub loses : {A B : Type 0} (told : Told) (l : List Held) (v : A) (w : B) (f : StoreFault) → FindsOver told l v (Err f) → FindsOver told l w (Err f)
loses told l v w Failed h = h
loses told l v w (Damaged c) h = h
loses told l v w (Missing c) h = h
loses told l v w (BadBlock c role) h = h
loses told l v w (Clash c a b) h = h
loses told l v w Memory h = h

module _ (X : List ℕ → List ℕ) (N : List ℕ → ℕ) (good : IsHash X) (name : List ℕ) where
  abbrev path : ℕ → Meta → List Named → List Held
  path left m l = shard_trail X N left m l name

  -- where the name is decided, the trail ends
  ends : (left : ℕ) (l : List Named) (e : Option Entry) → Here e ≡ spot_of name (slot_item (deeper_of X N left) (slot_of X N (N name) left l)) → trail_below X N left l name ≡ []
  ends zero l e h = refl
  ends (suc left) l e h = (here_value X N (deeper_of X N (suc left)) name (slot_of X N (N name) (suc left) l) (shard_trail X N left none (slot_of X N (N name) (suc left) l) name) e h).1

  abbrev both : Option Entry → List Cid → Traced
  both e cids = record { entry = e; trail = cids }

  abbrev found : List Cid → ℕ → Meta → List Named → Traced
  found above left m l = traced_behind above (find names_cmp name l) (path left m l)

  pub trace-here-at : (left : ℕ) (root : Cid) (m : Meta) (l : List Named) → left ≤ 7 → (above cids : List Cid) (before : Seen) (spot : ShardAnswer) (e : Option Entry) → cids ≡ above ++ root ∷ [] → spot ≡ Here e
      → SaysOf N (N name) (7 - left) root name before spot → IsReached X N (N name) left root m l → Agrees before.told (path left m l) → (both e cids ≡ found above left m l) × Holds before.told (path left m l)
  trace-here-at left root m l low above cids before spot e pushed at says is agrees =
      let here = subst (λ (s : ShardAnswer). SaysOf N (N name) (7 - left) root name before s) at says in
      let last = ends left l e (it_says X N good (N name) left root m l low is name before (Here e) agrees here) in
      let one : path left m l ≡ head_of X N good name left m l ∷ [] = trail-is X N left m l name ∙ ap (λ (k : List Held). head_of X N good name left m l ∷ k) last in
      let value = find-here-at X N good name left root m l low before spot e at says is agrees in (
        ap (λ (k : List Cid). both e k) (pushed ∙ ap (λ (k : List Cid). above ++ k) (ap (λ (c : Cid). c ∷ []) (root-is X N good name left root m l is) ∙ sym (ap trail_cids one)))
            ∙ ap (λ (v : Option Entry). both v (above ++ trail_cids (path left m l))) value.0,
        value.1,
      )

  -- the answer of a search that may be one level deeper
  abbrev pub Deeper : ℕ → Cid → Seen → Seen → List Cid → Result Traced StoreFault → Type 0
  Deeper left c mid now above r = (k : List Named) → IsReached X N (N name) left c none k → Agrees mid.told (path left none k) → Stood mid.faults now.faults
      → FindsOver mid.told (path left none k) (found above left none k) r

  trace-below : (left : ℕ) (root c : Cid) (m : Meta) (l : List Named) → left ≤ 7 → 7 - left < 7 → (above : List Cid) (before mid now : Seen) (r : Result Traced StoreFault)
      → SaysOf N (N name) (7 - left) root name before (Below c) → mid.told ≡ before.told → mid.faults ≡ before.faults → Deeper (left - 1) c mid now (above ++ root ∷ []) r
      → IsReached X N (N name) left root m l → Agrees before.told (path left m l) → Stood before.faults now.faults
      → FindsOver before.told (path left m l) (found above left m l) r
  trace-below zero root c m l low room above before mid now r says same calm deeper is agrees stood = absurd (omega arith)
  trace-below (suc left) root c m l low room above before mid now r says same calm deeper is agrees stood =
      subst (λ (p : List Held). FindsOver before.told p (traced_behind above (find names_cmp name l) p) r) (sym split)
      (over_more X N good name before.told head rest (both (find names_cmp name l) (above ++ head.0 ∷ trail_cids rest)) r (first before.told agrees says.has.is_held)
      (subst (λ (v : Traced). FindsOver before.told rest v r) values
      (subst (λ (told : Told). FindsOver told rest (found (above ++ root ∷ []) left none b) r) same
      (subst (λ (n : ℕ). Deeper n c mid now (above ++ root ∷ []) r) less deeper b (reached_below X N good name left root c m l rest low is goes)
      (subst (λ (told : Told). Agrees told rest) (sym same) (behind before.told (subst (Agrees before.told) split agrees)))
      (subst (λ (n : ℕ). Stood n now.faults) (sym calm) stood)))))
    where
      head : Held
      head = head_of X N good name (suc left) m l

      b : List Named
      b = slot_of X N (N name) (suc left) l

      rest : List Held
      rest = path left none b

      less : suc left - 1 ≡ left
      less = omega arith

      goes : Goes X N (shard X N left none) c b rest
      goes = below_goes X N (shard X N left none) name b rest c (it_says X N good (N name) (suc left) root m l low is name before (Below c) agrees says)

      split : path (suc left) m l ≡ head ∷ rest
      split = trail-is X N (suc left) m l name ∙ ap (λ (k : List Held). head ∷ k) goes.shared

      cids : (above ++ root ∷ []) ++ trail_cids rest ≡ above ++ head.0 ∷ trail_cids rest
      cids = append_assoc above (root ∷ []) (trail_cids rest) ∙ ap (λ (d : Cid). above ++ d ∷ trail_cids rest) (root-is X N good name (suc left) root m l is)

      values : found (above ++ root ∷ []) left none b ≡ both (find names_cmp name l) (above ++ head.0 ∷ trail_cids rest)
      values = ap (λ (e : Option Entry). both e ((above ++ root ∷ []) ++ trail_cids rest)) (sym (find-slot X N (6 - left) name l)) ∙ ap (λ (k : List Cid). both (find names_cmp name l) k) cids

      first : (told : Told) → Agrees told (path (suc left) m l) → IfSome told (λ t. held_at t root ≡ Some (shard_node_block says.node)) → Holds told (head ∷ [])
      first None a h = absurd a
      first (Some t) a h = (head-held X N good name (suc left) root m l low is t (shard_node_block says.node) a h, tt)

      behind : (told : Told) → Agrees told (head ∷ rest) → Agrees told rest
      behind None a = a
      behind (Some t) a = a.1

  pub trace-below-at : (left : ℕ) (root c : Cid) (m : Meta) (l : List Named) → left ≤ 7 → (above cids : List Cid) (before mid now : Seen) (r : Result Traced StoreFault) (spot : ShardAnswer) → cids ≡ above ++ root ∷ [] → spot ≡ Below c → HasRoom (7 - left) spot
      → SaysOf N (N name) (7 - left) root name before spot → mid.told ≡ before.told → mid.faults ≡ before.faults → Deeper (left - 1) c mid now cids r
      → IsReached X N (N name) left root m l → Agrees before.told (path left m l) → Stood before.faults now.faults
      → FindsOver before.told (path left m l) (found above left m l) r
  trace-below-at left root c m l low above cids before mid now r spot pushed at room says same calm deeper is agrees stood =
      trace-below left root c m l low (subst (HasRoom (7 - left)) at room) above before mid now r (subst (λ (s : ShardAnswer). SaysOf N (N name) (7 - left) root name before s) at says) same calm
      (subst (λ (k : List Cid). Deeper (left - 1) c mid now k r) pushed deeper) is agrees stood

  -- ---- a root that was loaded before

  seven : 7 ≤ 7
  seven = omega arith

  module _ (root : Cid) (before mid : Seen) (finds : Finds X root before mid) where
    -- it isn't canonical there
    pub misplaced-value : (node : ShardNode) → IsShardNode node → mid.lent ≡ shard_node_block node → (b : Bool) → IsTrue b ↔ IsPlacedNode N [] node → b ≡ false
        → (m : Meta) (l : List Named) → IsPlanned X N root m l → Agrees before.told (path 7 m l) → Stood before.faults mid.faults → FindsOver before.told (path 7 m l) (found [] 7 m l) (Err (BadBlock root (Shard 0)))
    misplaced-value node valid lent b iff fails m l is agrees stood =
        let absent : Option Entry = None in
        loses {A = Option Entry} {B = Traced} before.told (path 7 m l) absent (found [] 7 m l) (BadBlock root (Shard 0))
        (find-err X N good name 7 root m l seven before mid (BadBlock root (Shard 0)) absent (misplaced-there X root before mid finds node valid lent N name b iff fails)
        (misplaced-reads X root before mid finds node valid lent N name b iff fails).cause (reached-root X N good name root m l is) agrees stood)
