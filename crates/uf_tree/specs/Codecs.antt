-- The DAG-PB nodes whose bytes the canonical blocks are, and what a reader of such blocks answers.
use Rattle.std.specs.Prelude.{ℕ, ◌<◌, ◌^◌, sum, ◌≡◌, ◌≢◌, ◌⊎◌, List, map, IsTrue}
use Rattle.std.specs.declared.option.Option.TheVariants.{Some}
use Rattle.std.specs.declared.result.Result.{Result}
use Rattle.std.specs.declared.result.Result.TheVariants.{Ok, Err}
use Rattle.uf_cid.specs.declared.bytes.StrictFault.{StrictFault}
use Rattle.uf_cid.specs.declared.bytes.StrictFault.TheVariants.{Memory}
use Rattle.uf_dagpb.specs.declared.node.Link.{Link}
use Rattle.uf_dagpb.specs.declared.node.Node.{Node}
use Rattle.uf_message.specs.declared.message.Message.{Message}
use Rattle.uf_message.specs.Spelling.{message_bytes, IsMessage}
use Rattle.uf_tree.specs.declared.meta.Meta.{Meta}
use Rattle.uf_tree.specs.declared.nodes.DirNode.{DirNode}
use Rattle.uf_tree.specs.declared.nodes.FileNode.{FileNode}
use Rattle.uf_tree.specs.declared.nodes.ShardNode.{ShardNode}
use Rattle.uf_tree.specs.Metas.{is_meta}
use Rattle.uf_tree.specs.Nodes.{Named, InSlot, link_of, slot_link, file_message, dir_message, shard_message, dir_block, shard_block}

-- the metadata that a message has
abbrev pub meta_in : Message → Meta
meta_in message = record { mode = message.mode; mtime = message.mtime }

-- the node of a file's node (UnixFS v1)
abbrev pub file_dag : FileNode → Node
file_dag node = record { links = node.parts; content = Some (message_bytes (file_message node.meta node.sizes)) }

-- sizes that come to less than 2 ^ 63, and the message of a file's node with these sizes
abbrev pub FitSizes : List ℕ → Type 0
FitSizes sizes = sum sizes < 2 ^ 63

abbrev pub file_spelling : Meta → List ℕ → List ℕ
file_spelling m sizes = message_bytes (file_message m sizes)

-- the sizes and the metadata that such a message can spell, and its bytes
abbrev pub IsContent : List ℕ × Meta → Type 0
IsContent content = FitSizes content.0 × IsMessage (file_message content.1 content.0)

abbrev pub content_spelling : List ℕ × Meta → List ℕ
content_spelling content = file_spelling content.1 content.0

-- the link of a pair, and the node of a basic directory
abbrev pub pair_link : Named → Link
pair_link e = link_of e.0 e.1

abbrev pub dir_spelling : Meta → List ℕ
dir_spelling m = message_bytes (dir_message m)

abbrev pub dir_dag : DirNode → Node
dir_dag node = record { links = map pair_link node.pairs; content = Some (dir_spelling node.meta) }

abbrev pub dir_node_block : DirNode → List ℕ
dir_node_block node = dir_block node.meta node.pairs

-- the message of a shard of these items, and its node
abbrev pub shard_spelling : Meta → List InSlot → List ℕ
shard_spelling m items = message_bytes (shard_message m (map (λ (p : InSlot). p.0) items))

abbrev pub shard_dag : ShardNode → Node
shard_dag node = record { links = map slot_link node.items; content = Some (shard_spelling node.meta node.items) }

abbrev pub shard_node_block : ShardNode → List ℕ
shard_node_block node = shard_block node.meta node.items

-- the metadata of the shard of which the bytes are the message, whatever its slots are; refused are only those of no
-- shard, unless memory runs out
abbrev pub MetaOf : List ℕ → Result Meta StrictFault → Type 0
MetaOf bytes (Ok meta) = (m : Meta) (items : List InSlot) → IsTrue (is_meta m) → bytes ≡ shard_spelling m items
    → m ≡ meta
MetaOf bytes (Err f) = (f ≡ Memory) ⊎ ((m : Meta) (items : List InSlot) → IsTrue (is_meta m)
    → bytes ≢ shard_spelling m items)

-- a reader gives the valid value that was written to something; it refuses exactly where there is none, unless memory
-- runs out
abbrev pub Reads : {V W : Type 0} → (V → Type 0) → (V → W) → W → Result V StrictFault → Type 0
Reads valid written bytes (Ok v) = valid v × (bytes ≡ written v)
Reads {V} valid written bytes (Err f) = (f ≡ Memory) ⊎ ((v : V) → valid v → bytes ≢ written v)
