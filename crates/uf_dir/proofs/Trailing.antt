-- The entry of a name of a planned directory, and the CIDs of the blocks that decide it.
use Rattle.std.proofs.Common.{◌≡◌, ℕ, List, [], ◌∷◌, ap, sym, ◌∙◌, subst, true, Option, None, Err}
use Rattle.std.specs.FinMap.Entries.{find}
use Rattle.std.specs.declared.result.Result.{Result}
use Rattle.uf_cid.specs.Blocks.{Held}
use Rattle.uf_cid.specs.declared.cid.Cid.{Cid}
use Rattle.uf_edge.specs.Counts.{Stood}
use Rattle.uf_store.specs.declared.store.Role.{Role}
use Rattle.uf_store.specs.declared.store.StoreFault.{StoreFault}
use Rattle.uf_store.specs.Faults.{Shows}
use Rattle.uf_store.specs.Keeping.{Agrees, Holds}
use Rattle.uf_store.specs.Lost.{FindsOver}
use Rattle.uf_store.specs.Seen.{Finds, Seen}
use Rattle.uf_tree.specs.declared.meta.Meta.{Meta}
use Rattle.uf_tree.specs.declared.nodes.DirNode.{DirNode}
use Rattle.uf_tree.specs.declared.nodes.Entry.{Entry}
use Rattle.uf_tree.specs.declared.nodes.ShardNode.{ShardNode}
use Rattle.uf_tree.specs.declared.profile.Profile.{Profile}
use Rattle.uf_tree.specs.DirPlan.{is_sharded, trail}
use Rattle.uf_tree.specs.Names.{names_cmp}
use Rattle.uf_tree.specs.Nodes.{Named}
use Rattle.uf_tree.specs.Roots.{dir_root}
use Rattle.uf_tree.specs.ShardPlan.{shard_trail}
use Rattle.uf_tree.specs.Validity.{IsHash}
use Rattle.uf_shard.specs.Planned as shards
use Rattle.uf_shard.specs.Trails.{traced, trail_cids}
use Rattle.uf_shard.specs.declared.traced.Traced.{Traced}
use Rattle.uf_shard.proofs.Trails.{loses}
use Rattle.uf_dir.specs.Planned.{IsPlanned}
use Rattle.uf_dir.specs.Roots.{IsRootOf, IsThere, IsUnread}
use Rattle.uf_dir.specs.declared.root.Root.{Root}
use Rattle.uf_dir.specs.declared.root.Root.TheVariants as root
use Rattle.uf_dir.proofs.Looked.{find-unread, read-basic, read-sharded, the_held}
use Rattle.uf_dir.proofs.Planning.{planned-cid, planned-sharded, trail-basic, trail-from_root, trail-sharded}

module _ (X : List ℕ → List ℕ) (good : IsHash X) (N : List ℕ → ℕ) (p : Profile) (meta : Meta) (cid : Cid) (l : List Named) (is : IsPlanned X N p meta cid l) (name : List ℕ) where
  abbrev path : List Held
  path = trail X N p meta l name

  abbrev both : Option Entry → List Cid → Traced
  both e cids = record { entry = e; trail = cids }

  abbrev answer : Traced
  answer = traced (find names_cmp name l) path

  pub trace-unread : (IsBad : Role → List ℕ → Type 0) (before now : Seen) (fault : StoreFault) → IsUnread None true cid before now fault → Shows X IsBad fault before now → Agrees before.told path → Stood before.faults now.faults
      → FindsOver before.told path answer (Err fault)
  trace-unread IsBad before now fault unread shows agrees stood =
      let absent : Option Entry = None in
      loses {A = Option Entry} {B = Traced} before.told path absent answer fault (find-unread X good N p meta cid l is name IsBad before now fault absent unread shows agrees stood)

  pub trace-one : (before now : Seen) (found : Root) (node : DirNode) (entry : Option Entry) (cids : List Cid) → found ≡ root.Basic node → IsThere cid before now × IsRootOf now.lent found → entry ≡ find names_cmp name node.pairs → cids ≡ cid ∷ []
      → Agrees before.told path → (both entry cids ≡ answer) × Holds before.told path
  trace-one before now found node entry cids at looks value one agrees =
      let from = trail-from_root X N p meta l name in
      let begins : Agrees before.told (dir_root X N p meta l ∷ from.0) = subst (Agrees before.told) from.1 agrees in
      let read = read-basic X good N p meta cid l is from.0 before now node begins looks.0 (subst (IsRootOf now.lent) at looks.1) in
      let same = trail-basic X N p meta l name read.0 in
      let first = planned-cid X N p meta l cid is in (
        ap (λ (k : List Cid). both entry k) (one ∙ ap (λ (c : Cid). c ∷ []) first ∙ sym (ap trail_cids same))
            ∙ ap (λ (e : Option Entry). both e (trail_cids path)) (value ∙ ap (λ (n : DirNode). find names_cmp name n.pairs) read.1),
        subst (Holds before.told) (sym same) (the_held cid (dir_root X N p meta l) from.0 first before.told now.lent begins looks.0.held),
      )

  -- the answer of the shards behind a load of the root
  abbrev pub Deeper : Seen → Seen → Seen → Result Traced StoreFault → Type 0
  Deeper before mid now r = (n : Meta) (k : List Named) → Finds X cid before mid → shards.IsPlanned X N cid n k → Agrees before.told (shard_trail X N 7 n k name) → Stood before.faults now.faults
      → FindsOver before.told (shard_trail X N 7 n k name) (traced (find names_cmp name k) (shard_trail X N 7 n k name)) r

  pub trace-shards : (before mid now : Seen) (found : Root) (node : ShardNode) (r : Result Traced StoreFault) → found ≡ root.Sharded node → IsThere cid before mid × IsRootOf mid.lent found → Finds X cid before mid → Deeper before mid now r
      → Agrees before.told path → Stood before.faults now.faults → FindsOver before.told path answer r
  trace-shards before mid now found node r at looks finds deeper agrees stood =
      let from = trail-from_root X N p meta l name in
      let sharded : is_sharded p l ≡ true = (read-sharded X good N p meta cid l is from.0 before mid node (subst (Agrees before.told) from.1 agrees) looks.0 (subst (IsRootOf mid.lent) at looks.1)).0 in
      let same-path = trail-sharded X N p meta l name sharded in
      subst (λ (t : List Held). FindsOver before.told t (traced (find names_cmp name l) t) r) (sym same-path)
      (deeper meta l finds (planned-sharded X N p meta l cid is sharded) (subst (Agrees before.told) same-path agrees) stood)
