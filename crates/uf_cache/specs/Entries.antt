-- The entries of a cache: blocks under the bytes of their CIDs, the most recently used first.
use Rattle.std.specs.Prelude.{◌≡◌, ℕ, ◌≤◌, ◌<◌, ◌+◌, ◌⊎◌, Bool, true, false, List, [], ◌∷◌, length, nat_eq}
use Rattle.std.specs.Prelude.{Contains, Some, IfSome}
use Rattle.std.specs.Cmp.Lexicographic.{pointwise}
use Rattle.std.specs.List.{sum_by}
use Rattle.std.specs.Map.{lookup, values_of}
use Rattle.lru.specs.LruCache.{LruCache, lru_cache, promoted, put_entries}
use Rattle.uf_cid.specs.declared.cid.Cid.{Cid}
use Rattle.uf_cid.specs.declared.cid.Codec.TheVariants.{Raw}
use Rattle.uf_cid.specs.Blocks.{Lookup}
use Rattle.uf_cid.specs.Cid.{cid_bytes}
use Rattle.uf_store.specs.Contents.{Told, held_at}

abbrev pub Entries : Type 0
Entries = LruCache (List ℕ) (List ℕ)

-- these are the bytes of a CID
abbrev pub is_spelled : Cid → List ℕ → Bool
is_spelled cid = pointwise nat_eq (cid_bytes cid)

-- the block of the entry of each CID
abbrev pub entry_at : Entries → Lookup
entry_at es = λ cid. lookup (is_spelled cid) es.entries

-- the entry of a CID comes first
abbrev pub used : Cid → Entries → Entries
used cid es = lru_cache (promoted (is_spelled cid) es.entries) es.cap

-- a block comes first, and the last one goes where there are too many
abbrev pub with_entry : Cid → List ℕ → Entries → Entries
with_entry cid bytes es = lru_cache (put_entries (pointwise nat_eq) es (cid_bytes cid) bytes) es.cap

-- the block is the first entry now, or there was no memory for it and the entries are as before
abbrev pub MayPut : Cid → List ℕ → Entries → Entries → Type 0
MayPut cid bytes before now = (now ≡ with_entry cid bytes before) ⊎ (now ≡ before)

-- how many bytes the blocks have together
abbrev pub bytes_of : Entries → ℕ
bytes_of es = sum_by length (values_of es.entries)

-- there is room for n bytes more below 64 MiB
abbrev pub HasRoom : ℕ → Entries → Type 0
HasRoom room es = bytes_of es + room ≤ 67108864

-- no entry is left
abbrev pub emptied : Entries → Entries
emptied es = lru_cache [] es.cap

-- a leaf of raw bytes that is longer than 16 KiB
pub record IsLongLeaf (cid : Cid) (bytes : List ℕ) : Type 0 where
  pub raw : cid.codec ≡ Raw
  pub long : 16384 < length bytes

-- a block that was found may be put so, also after all entries went, and a long leaf isn't
pub record MayKeep (cid : Cid) (bytes : List ℕ) (before now : Entries) : Type 0 where
  pub put : MayPut cid bytes before now ⊎ MayPut cid bytes (emptied before) now
  pub long : IsLongLeaf cid bytes → now ≡ before

-- the block of the first entry, where there is one
abbrev pub first_block : List (List ℕ × List ℕ) → List ℕ → List ℕ
first_block [] other = other
first_block (e ∷ es) other = e.1

-- the block that is lent: the first entry's, or that of another store
abbrev pub lent_by : Bool → Entries → List ℕ → List ℕ
lent_by true es other = first_block es.entries other
lent_by false es other = other

-- a block is whole, and where a store tells, it holds it under this CID
pub record IsKept (hash : List ℕ → List ℕ) (told : Told) (cid : Cid) (bytes : List ℕ) : Type 0 where
  pub size : length bytes ≤ 2097152
  pub digest : hash bytes ≡ cid.digest
  pub is_held : IfSome told (λ t. held_at t cid ≡ Some bytes)

-- so is each entry
abbrev pub AreKept : (List ℕ → List ℕ) → Told → Entries → Type 0
AreKept hash told es =
    (cid : Cid) (bytes : List ℕ) → Contains es.entries (cid_bytes cid, bytes) → IsKept hash told cid bytes
