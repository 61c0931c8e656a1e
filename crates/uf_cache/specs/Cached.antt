-- What is seen of a store with a cache over it.
use Rattle.std.specs.Prelude.{◌≡◌, ℕ, List}
use Rattle.std.specs.declared.option.Option.{Option}
use Rattle.uf_cid.specs.declared.cid.Cid.{Cid}
use Rattle.uf_cid.specs.Blocks.{Lookup}
use Rattle.uf_cid.specs.declared.hash.BlockHash.{Ghosts as HashGhosts}
use Rattle.uf_store.specs.declared.store.Load.{Load}
use Rattle.uf_store.specs.declared.store.Load.TheVariants.{Found, Missing, Damaged, Failed, Memory}
use Rattle.uf_store.specs.declared.store.Store.{Ghosts}
use Rattle.uf_store.specs.Seen.{Loads, Seen}
use Rattle.uf_cache.specs.Entries.{Entries, MayKeep, entry_at, lent_by, used}
use Rattle.uf_cache.specs.declared.cached.Cached.{Cached}

module _ {S X : Type 0} {G : Ghosts S X} {H : HashGhosts X} where
  -- what the other store shows
  abbrev pub inner_seen : Cached S X G H → Seen
  inner_seen c = G.seen c.inner

  -- the blocks in memory
  abbrev pub entries_of : Cached S X G H → Entries
  entries_of c = c.entries

  -- what the other store shows, but for the block that is lent and the count of blocks that were found
  abbrev pub cached_seen : Cached S X G H → Seen
  cached_seen c = record (inner_seen c) { lent = lent_by c.lends_first c.entries (inner_seen c).lent; finds = c.finds }

  -- the block of the entry of each CID
  abbrev pub entry_of : Cached S X G H → Lookup
  entry_of c = entry_at c.entries

  -- a block among the entries was found and is lent, its entry is the first, and the other store is as it was
  pub record Hits (cid : Cid) (bytes : List ℕ) (answer : Load) (before now : Cached S X G H) : Type 0 where
    pub found : answer ≡ Found
    pub lent : (cached_seen now).lent ≡ bytes
    pub first : now.entries ≡ used cid before.entries
    pub untouched : now.inner ≡ before.inner

  -- the CID of the block that is lent, where it is known
  abbrev pub lent_cid : Cached S X G H → Option Cid
  lent_cid c = c.lent

  -- the block that is lent was found, and it is lent on; the entries and the other store are as they were
  pub record Rests (answer : Load) (before now : Cached S X G H) : Type 0 where
    pub found : answer ≡ Found
    pub same_lent : (cached_seen now).lent ≡ (cached_seen before).lent
    pub same_entries : now.entries ≡ before.entries
    pub untouched : now.inner ≡ before.inner

  -- what was found may be kept, and else the entries stay
  abbrev pub KeepsFound : Cid → Load → Cached S X G H → Cached S X G H → Type 0
  KeepsFound cid Found before now = MayKeep cid (cached_seen now).lent before.entries now.entries
  KeepsFound cid Missing before now = now.entries ≡ before.entries
  KeepsFound cid Damaged before now = now.entries ≡ before.entries
  KeepsFound cid Failed before now = now.entries ≡ before.entries
  KeepsFound cid Memory before now = now.entries ≡ before.entries

  -- a load was the other store's, and what it found may be kept
  pub record AsksBelow (hash : List ℕ → List ℕ) (cid : Cid) (answer : Load) (before now : Cached S X G H) : Type 0 where
    pub below : Loads hash cid answer (inner_seen before) (inner_seen now)
    pub kept : KeepsFound cid answer before now

  -- a call was the other store's, and the entries stay
  pub record PassesOn (Answers : Seen → Seen → Type 0) (before now : Cached S X G H) : Type 0 where
    pub below : Answers (inner_seen before) (inner_seen now)
    pub same_entries : now.entries ≡ before.entries

-- n blocks were found
abbrev pub with_finds : ℕ → Seen → Seen
with_finds n seen = record seen { finds = n }
