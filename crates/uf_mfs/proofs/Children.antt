-- How many links the root block of a directory's plan has.
use Rattle.std.proofs.Common.{◌≡◌, ℕ, ◌<◌, ◌^◌, List, ◌∷◌, [], length, refl, ap, sym, ◌∙◌, arith, Bool, true, false, cond, Some, None, Ok}
use Rattle.std.proofs.Math.ListN.{length-map}
use Rattle.uf_cid.specs.Cid.{cid_of}
use Rattle.uf_cid.specs.declared.cid.Codec.TheVariants.{DagPb}
use Rattle.uf_dagpb.specs.Reading.{node_reads}
use Rattle.uf_dagpb.specs.declared.node.Node.{Node}
use Rattle.uf_dagpb.proofs.Again.{node_again}
use Rattle.uf_store.specs.Contents.{Contents, Told, held_at}
use Rattle.uf_store.specs.Keeping.{Holds}
use Rattle.uf_tree.specs.declared.nodes.Entry.{Entry}
use Rattle.uf_tree.specs.declared.meta.Meta.{Meta}
use Rattle.uf_tree.specs.declared.nodes.DirNode.{DirNode}
use Rattle.uf_tree.specs.declared.nodes.ShardNode.{ShardNode}
use Rattle.uf_tree.specs.declared.profile.Profile.{Profile}
use Rattle.uf_tree.specs.Codecs.{dir_dag, dir_node_block, shard_dag, shard_node_block}
use Rattle.uf_tree.specs.DirPlan.{is_sharded}
use Rattle.uf_tree.specs.Metas.{is_meta, none}
use Rattle.uf_tree.specs.Nodes.{Named, dir_block, shard_block}
use Rattle.uf_tree.specs.Roots.{dir_root}
use Rattle.uf_tree.specs.ShardPlan.{shard, shard_held, shard_items}
use Rattle.uf_tree.specs.Tree.{Dir, Entries, own_meta}
use Rattle.uf_tree.specs.TreePlan.{named_entries}
use Rattle.uf_tree.specs.Validity.{IsDirNode, IsDirectory, IsHash, IsShard, IsShardNode}
use Rattle.uf_tree.proofs.Canonical.{heavy}
use Rattle.uf_tree.proofs.Directories.{dir_dag-node}
use Rattle.uf_tree.proofs.Shards.{shard_dag-node}
use Rattle.uf_tree.proofs.Sizes.{dir_length, shard_length}
use Rattle.uf_tree.proofs.Valid.{directory-valid, shard-valid, shard_items-valid}
use Rattle.uf_dir.specs.Planned.{root_links}
use Rattle.uf_plain.specs.Replies.{children}
use Rattle.std.specs.Prelude.{IsTrue}
use Rattle.uf_plain.proofs.Kept.{tree-meta}
use Rattle.uf_plain.proofs.Plans.{entry-is}
use Rattle.uf_mfs.specs.Standing.{IsAgreed}
use Rattle.uf_mfs.proofs.Rooting.{children-node, dir-cid}
use Rattle.uf_mfs.proofs.Seeing.{root-codec}

one-read : (node : DirNode) → IsDirNode node → length (dir_node_block node) < 2 ^ 64 → node_reads (dir_node_block node) ≡ Ok (dir_dag node)
unfolding dir_block
one-read node valid small = node_again (dir_dag node) (dir_dag-node node valid).links small

slots-read : (node : ShardNode) → IsShardNode node → length (shard_node_block node) < 2 ^ 64 → node_reads (shard_node_block node) ≡ Ok (shard_dag node)
unfolding shard_block
slots-read node valid small = node_again (shard_dag node) (shard_dag-node node valid).links small

-- the block is read as a node that has so many links
record HasLinks (bytes : List ℕ) (n : ℕ) : Type 0 where
  node : Node
  read : node_reads bytes ≡ Ok node
  many : length node.links ≡ n

module _ (X : List ℕ → List ℕ) (N : List ℕ → ℕ) (hash : IsHash X) (p : Profile) where
  root-has : (e : Entry) (es : Entries) (told : Told) → IsAgreed X N told p e (Dir es) → HasLinks (dir_root X N p (own_meta es) (named_entries X N p es)).1 (root_links X N p (named_entries X N p es))
  root-has e es told s = by (is_sharded p l) refl
    where
      l : List Named
      l = named_entries X N p es

      valid : IsDirectory l
      valid = directory-valid X hash N p s.plan.profile es s.plan.tree

      meta : Meta
      meta = own_meta es

      fine : IsTrue (is_meta (own_meta es))
      fine = tree-meta (Dir es) s.plan.tree

      by : (b : Bool) → is_sharded p l ≡ b → HasLinks (cond b (shard_held X N meta (shard_items N (shard X N 6 none) 0 l)) (cid_of X DagPb (dir_block meta l), dir_block meta l)).1 (cond b (length (shard_items N (shard X N 6 none) 0 l)) (length l))
      by true is =
          let good : IsShard (shard_items N (shard X N 6 none) 0 l) = shard_items-valid N (shard X N 6 none) (shard-valid X hash N 6 none) 0 l valid.each (heavy p l is) in
          let short = shard_length meta (shard_items N (shard X N 6 none) 0 l) good in
          let node : ShardNode = record { items = shard_items N (shard X N 6 none) 0 l; meta = meta } in
          record { node = shard_dag node; read = slots-read node (record { items = good; meta = fine }) (omega (arith, short)); many = simp length-map }
      by false is =
          let short = dir_length p meta l s.plan.profile valid.each is in
          let node : DirNode = record { pairs = l; meta = meta } in
          record { node = dir_dag node; read = one-read node (record { pairs = valid; meta = fine }) (omega (arith, short)); many = simp length-map }

  links-held : (u : Contents) (e : Entry) (es : Entries) (s : IsAgreed X N (Some u) p e (Dir es)) → held_at u (dir_root X N p (own_meta es) (named_entries X N p es)).0 ≡ Some (dir_root X N p (own_meta es) (named_entries X N p es)).1
      → root_links X N p (named_entries X N p es) ≡ children X N p (Dir es)
  links-held u e es s there =
      let has = root-has e es (Some u) s in
      let cid : e.cid ≡ (dir_root X N p (own_meta es) (named_entries X N p es)).0 = ap (λ (e : Entry). e.cid) (s.plan.is ∙ entry-is X N p es) ∙ sym (dir-cid X N hash p (own_meta es) (named_entries X N p es)) in
      sym has.many ∙ children-node X N hash (Some u) p e (Dir es) (dir_root X N p (own_meta es) (named_entries X N p es)).1 has.node s (root-codec X N p e es s.plan) (ap (held_at u) cid ∙ there) has.read

  -- the root block of a directory's plan has as many links as the directory layer says
  pub links-of-folder : (told : Told) (e : Entry) (es : Entries) (s : IsAgreed X N told p e (Dir es)) → Holds told (dir_root X N p (own_meta es) (named_entries X N p es) ∷ [])
      → root_links X N p (named_entries X N p es) ≡ children X N p (Dir es)
  links-of-folder None e es s held = absurd s.agrees
  links-of-folder (Some u) e es s held = links-held u e es s held.0
