-- The canonical blocks of files, directories and shards: UnixFS v1 messages in DAG-PB nodes (UnixFS v1, "Data Format",
-- "File", "Directory" and "HAMTDirectory"; IPLD DAG-PB, "Serial Format").
use Rattle.std.specs.Prelude.{ℕ, ◌+◌, ◌-◌, ◌*◌, ◌/◌, ◌%◌, ◌^◌, List, [], ◌∷◌, ◌++◌, length, map, min, sum, ◌==◌, nat_lt, if◌then◌else◌}
use Rattle.std.specs.declared.option.Option.TheVariants.{None, Some}
use Rattle.std.specs.List.{sum_by, list_any, range_with_len}
use Rattle.uf_cid.specs.Cid.{cid_of}
use Rattle.uf_cid.specs.declared.cid.Codec.TheVariants.{DagPb}
use Rattle.uf_message.specs.Spelling.{message_bytes}
use Rattle.uf_message.specs.declared.message.Message.{Message}
use Rattle.uf_message.specs.declared.message.MsgKind.TheVariants.{Directory, File, Shard}
use Rattle.uf_dagpb.specs.Spelling.{node_bytes}
use Rattle.uf_dagpb.specs.declared.node.Link.{Link}
use Rattle.uf_tree.specs.declared.nodes.Entry.{Entry}
use Rattle.uf_tree.specs.declared.nodes.FileNode.{FileNode}
use Rattle.uf_tree.specs.declared.nodes.Item.{Item}
use Rattle.uf_tree.specs.declared.nodes.Item.TheVariants.{Leaf, Sub}
use Rattle.uf_tree.specs.declared.meta.Meta.{Meta}

-- a name and what it names
abbrev pub Named : Type 0
Named = List ℕ × Entry

-- a slot and what it has
abbrev pub InSlot : Type 0
InSlot = ℕ × Item

-- a number of bytes in 64 bits; a greater one counts as the greatest
abbrev pub capped : ℕ → ℕ
capped n = min n (2 ^ 64 - 1)

-- the entry of a node over these entries: the Tsize is its length and their Tsizes (IPLD DAG-PB, "Tsize")
abbrev pub node_entry : (List ℕ → List ℕ) → List ℕ → List Entry → Entry
node_entry X bytes below = record {
  cid = cid_of X DagPb bytes;
  tsize = capped (length bytes + sum_by (λ e. e.tsize) below);
}

-- the link of an entry under a name
abbrev pub link_of : List ℕ → Entry → Link
link_of name e = record { cid = e.cid; name = name; tsize = e.tsize }

-- the message of a file's node: all bytes below it, the bytes below each link, and its metadata
abbrev pub file_message : Meta → List ℕ → Message
file_message m sizes = record {
  kind = File;
  content = None;
  filesize = Some (sum sizes);
  blocksizes = sizes;
  hash_type = None;
  fanout = None;
  mode = m.mode;
  mtime = m.mtime;
}

-- the block of a file's node
unfoldable pub file_block : FileNode → List ℕ
file_block node =
    node_bytes (record { links = node.parts; content = Some (message_bytes (file_message node.meta node.sizes)) })

-- the message of a basic directory: its kind and its metadata
abbrev pub dir_message : Meta → Message
dir_message m = record {
  kind = Directory;
  content = None;
  filesize = None;
  blocksizes = [];
  hash_type = None;
  fanout = None;
  mode = m.mode;
  mtime = m.mtime;
}

-- the block of a basic directory: one link for each name
unfoldable pub dir_block : Meta → List Named → List ℕ
dir_block m l = node_bytes (record {
  links = map (λ (e : Named). link_of e.0 e.1) l;
  content = Some (message_bytes (dir_message m));
})

-- a digit of a slot, in upper case
abbrev pub hex_digit : ℕ → ℕ
hex_digit n = if nat_lt n 10 then 48 + n else 55 + n

-- the two digits of a slot
abbrev pub slot_digits : ℕ → List ℕ
slot_digits s = hex_digit (s / 16) ∷ hex_digit (s % 16) ∷ []

-- the entry that a slot links
abbrev pub item_entry : Item → Entry
item_entry (Leaf name e) = e
item_entry (Sub e) = e

-- what stands after the digits in the name of a slot's link: the entry's name, or nothing for a shard below
abbrev pub item_name : Item → List ℕ
item_name (Leaf name e) = name
item_name (Sub e) = []

-- the link of a slot
abbrev pub slot_link : InSlot → Link
slot_link p = link_of (slot_digits p.0 ++ item_name p.1) (item_entry p.1)

-- what slot i adds to its byte of the bitfield: bit i mod 8, where the slot has a link
abbrev pub slot_bit : List ℕ → ℕ → ℕ
slot_bit slots i = if list_any (λ s. s == i) slots then 2 ^ (i % 8) else 0

-- byte n of the bitfield, counted from the last one: slots 8 n to 8 n + 7
abbrev pub bitfield_byte : List ℕ → ℕ → ℕ
bitfield_byte slots n = sum_by (slot_bit slots) (range_with_len (8 * n) 8)

-- a list without its leading zeros
abbrev pub without_zeros : List ℕ → List ℕ
without_zeros [] = []
without_zeros (b ∷ bs) = if b == 0 then without_zeros bs else b ∷ bs

-- the bitfield of 256 slots, without leading zero bytes
unfoldable pub bitfield : List ℕ → List ℕ
bitfield slots = without_zeros (map (λ k. bitfield_byte slots (31 - k)) (range_with_len 0 32))

-- the message of a shard: the bitfield, hash type 0x22, fanout 256, and its metadata
abbrev pub shard_message : Meta → List ℕ → Message
shard_message m slots = record {
  kind = Shard;
  content = Some (bitfield slots);
  filesize = None;
  blocksizes = [];
  hash_type = Some 0x22;
  fanout = Some 256;
  mode = m.mode;
  mtime = m.mtime;
}

-- the block of a shard: one link for each slot that has something
unfoldable pub shard_block : Meta → List InSlot → List ℕ
shard_block m items = node_bytes (record {
  links = map slot_link items;
  content = Some (message_bytes (shard_message m (map (λ (p : InSlot). p.0) items)));
})
