-- One block is of one kind and of one value.
use Rattle.std.proofs.Common.{◌≡◌, ℕ, ◌≤◌, List, get_or, length, refl, ap, arith, sym, ◌∙◌, None, Some, false}
use Rattle.std.specs.Prelude.{IsTrue}
use Rattle.uf_cid.specs.Blocks.{Lookup}
use Rattle.uf_cid.specs.declared.cid.Cid.{Cid}
use Rattle.uf_dagpb.specs.Spelling.{node_bytes, IsNode}
use Rattle.uf_dagpb.specs.declared.node.Node.{Node}
use Rattle.uf_dagpb.proofs.Strictly.{one_spelling}
use Rattle.uf_message.specs.Spelling.{message_bytes}
use Rattle.uf_varint.specs.Varint.{varint, varint_within}
use Rattle.uf_tree.specs.declared.meta.Meta.{Meta}
use Rattle.uf_tree.specs.declared.nodes.DirNode.{DirNode}
use Rattle.uf_tree.specs.declared.nodes.FileNode.{FileNode}
use Rattle.uf_tree.specs.declared.nodes.ShardNode.{ShardNode}
use Rattle.uf_tree.specs.declared.profile.Profile.{Profile}
use Rattle.uf_tree.specs.Codecs.{file_dag, dir_dag, shard_dag}
use Rattle.uf_tree.specs.DirPlan.{is_sharded}
use Rattle.uf_tree.specs.Metas.{is_meta}
use Rattle.uf_tree.specs.Nodes.{Named, InSlot, file_block, dir_block, shard_block}
use Rattle.uf_tree.specs.Profiles.{is_profile}
use Rattle.uf_tree.specs.Validity.{IsDirNode, IsDirectory, IsShard, IsShardNode, IsFileNode}
use Rattle.uf_tree.proofs.Directories.{dir_dag-node, one_dir}
use Rattle.uf_tree.proofs.Files.{file_dag-node, one_file}
use Rattle.uf_tree.proofs.Shards.{shard_dag-node, one_shard_node}
use Rattle.uf_tree.proofs.Sizes.{dir_length, shard_length, file_length}

-- one CID has one block
pub one_block : (held : Lookup) (c d : Cid) (a b : List ℕ) → c ≡ d → held c ≡ Some a → held d ≡ Some b → a ≡ b
one_block held c d a b e h k = let same : Some a ≡ Some b = sym h ∙ ap held e ∙ k in cc

one_node : (a b : Node) → IsNode a → IsNode b → length (node_bytes a) ≤ 2097152 → node_bytes a ≡ node_bytes b → a ≡ b
one_node a b h k short e = one_spelling a b h k (omega arith) e

-- ---- the kind in a node's message

abbrev kind : Node → ℕ
kind node = elim node.content [ None ↦ 0 | Some content ↦ get_or content 1 0 ]

file_kind : (node : FileNode) → kind (file_dag node) ≡ 2
unfolding message_bytes varint varint_within
file_kind node = refl

dir_kind : (node : DirNode) → kind (dir_dag node) ≡ 1
unfolding message_bytes varint varint_within
dir_kind node = refl

shard_kind : (node : ShardNode) → kind (shard_dag node) ≡ 5
unfolding message_bytes varint varint_within
shard_kind node = refl

abbrev dir_of : Meta → List Named → DirNode
dir_of m l = record { pairs = l; meta = m }

abbrev shard_of : Meta → List InSlot → ShardNode
shard_of m items = record { items = items; meta = m }

is_dir : (m : Meta) (l : List Named) → IsTrue (is_meta m) → IsDirectory l → IsDirNode (dir_of m l)
is_dir m l good h = record { pairs = h; meta = good }

is_shard : (m : Meta) (items : List InSlot) → IsTrue (is_meta m) → IsShard items → IsShardNode (shard_of m items)
is_shard m items good h = record { items = h; meta = good }

pub file_or_dir : (node : FileNode) (m : Meta) (l : List Named) → IsFileNode node → IsTrue (is_meta m) → IsDirectory l → file_block node ≡ dir_block m l → ⊥
unfolding file_block dir_block
file_or_dir node m l h good k e =
    let nodes : file_dag node ≡ dir_dag (dir_of m l) = one_node (file_dag node) (dir_dag (dir_of m l)) (file_dag-node node h) (dir_dag-node (dir_of m l) (is_dir m l good k)) (file_length node h) e in
    let kinds : ◌≡◌ {A = ℕ} 2 1 = sym (file_kind node) ∙ ap kind nodes ∙ dir_kind (dir_of m l) in
    omega arith

pub file_or_shard : (node : FileNode) (m : Meta) (items : List InSlot) → IsFileNode node → IsTrue (is_meta m) → IsShard items → file_block node ≡ shard_block m items → ⊥
unfolding file_block shard_block
file_or_shard node m items h good k e =
    let nodes : file_dag node ≡ shard_dag (shard_of m items) = one_node (file_dag node) (shard_dag (shard_of m items)) (file_dag-node node h) (shard_dag-node (shard_of m items) (is_shard m items good k)) (file_length node h) e in
    let kinds : ◌≡◌ {A = ℕ} 2 5 = sym (file_kind node) ∙ ap kind nodes ∙ shard_kind (shard_of m items) in
    omega arith

pub shard_or_dir : (m : Meta) (items : List InSlot) (n : Meta) (l : List Named) → IsTrue (is_meta m) → IsShard items → IsTrue (is_meta n) → IsDirectory l → shard_block m items ≡ dir_block n l → ⊥
unfolding shard_block dir_block
shard_or_dir m items n l good h well k e =
    let nodes : shard_dag (shard_of m items) ≡ dir_dag (dir_of n l) =
    one_node (shard_dag (shard_of m items)) (dir_dag (dir_of n l)) (shard_dag-node (shard_of m items) (is_shard m items good h)) (dir_dag-node (dir_of n l) (is_dir n l well k)) (shard_length m items h) e in
    let kinds : ◌≡◌ {A = ℕ} 5 1 = sym (shard_kind (shard_of m items)) ∙ ap kind nodes ∙ dir_kind (dir_of n l) in
    omega arith

-- ---- the value of a block

pub one_file_node : (a b : FileNode) → IsFileNode a → IsFileNode b → file_block a ≡ file_block b → a ≡ b
unfolding file_block
one_file_node a b h k e = one_file a b h k (one_node (file_dag a) (file_dag b) (file_dag-node a h) (file_dag-node b k) (file_length a h) e)

pub one_basic : (p : Profile) → IsTrue (is_profile p) → (m n : Meta) (l k : List Named) → IsTrue (is_meta m) → IsTrue (is_meta n) → IsDirectory l → IsDirectory k → is_sharded p l ≡ false → dir_block m l ≡ dir_block n k
    → (m ≡ n) × (l ≡ k)
unfolding dir_block
one_basic p ok m n l k good well h j light e =
    let same : dir_of m l ≡ dir_of n k = one_dir (dir_of m l) (dir_of n k) (is_dir m l good h) (is_dir n k well j)
    (one_node (dir_dag (dir_of m l)) (dir_dag (dir_of n k)) (dir_dag-node (dir_of m l) (is_dir m l good h)) (dir_dag-node (dir_of n k) (is_dir n k well j)) (dir_length p m l ok h.each light) e) in
    (ap (λ (x : DirNode). x.meta) same, ap (λ (x : DirNode). x.pairs) same)

pub one_shard_block : (m n : Meta) (l k : List InSlot) → IsTrue (is_meta m) → IsTrue (is_meta n) → IsShard l → IsShard k → shard_block m l ≡ shard_block n k → (m ≡ n) × (l ≡ k)
unfolding shard_block
one_shard_block m n l k good well h j e =
    let same : shard_of m l ≡ shard_of n k = one_shard_node (shard_of m l) (shard_of n k) (is_shard m l good h) (is_shard n k well j)
    (one_node (shard_dag (shard_of m l)) (shard_dag (shard_of n k)) (shard_dag-node (shard_of m l) (is_shard m l good h)) (shard_dag-node (shard_of n k) (is_shard n k well j)) (shard_length m l h) e) in
    (ap (λ (x : ShardNode). x.meta) same, ap (λ (x : ShardNode). x.items) same)
