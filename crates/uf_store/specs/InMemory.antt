-- What is seen of a store in memory.
use Rattle.std.specs.Prelude.{◌≡◌, ℕ, List, [], Some}
use Rattle.std.specs.FinMap.{empty, from_entries, insert, remove}
use Rattle.uf_cid.specs.declared.cid.Cid.{Cid}
use Rattle.uf_cid.specs.declared.hash.BlockHash.{Ghosts}
use Rattle.uf_store.specs.declared.failing.Failures.{Failures}
use Rattle.uf_store.specs.declared.memory.MemStore.{MemStore}
use Rattle.uf_store.specs.Contents.{Contents, held_at, no_notes}
use Rattle.uf_store.specs.Seen.{Seen}
use Rattle.uf_store.specs.Whole.{IsDamaged}

-- the blocks, the notes and the past writes
abbrev pub contents_of : {X : Type 0} {G : Ghosts X} → MemStore X G → Contents
contents_of s = record {
  held = from_entries s.blocks.blocks.entries;
  notes = record { head = s.head; pins = s.pins };
  writes = s.writes.items;
}

-- what a contract sees: it tells
abbrev pub memory_seen : {X : Type 0} {G : Ghosts X} → MemStore X G → Seen
memory_seen s = record {
  told = Some (contents_of s);
  lent = s.lent;
  finds = s.finds;
  misses = s.misses;
  faults = s.faults;
  clashes = s.clashes;
}

-- the calls that were made and those that are to fail
abbrev pub failures_of : {X : Type 0} {G : Ghosts X} → MemStore X G → Failures
failures_of s = s.failures

-- nothing is held, no note is there, and nothing was written
abbrev pub no_contents : Contents
no_contents = record { held = empty; notes = no_notes; writes = [] }

-- what is seen of a new store
abbrev pub new_seen : Seen
new_seen = record { told = Some no_contents; lent = []; finds = 0; misses = 0; faults = 0; clashes = 0 }

-- a block was taken away, or put there unchecked; that is no write
abbrev pub without_block : Cid → Contents → Contents
without_block cid t = record t { held = remove t.held cid }

abbrev pub with_block : Cid → List ℕ → Contents → Contents
with_block cid bytes t = record t { held = insert t.held cid bytes }

-- a damaged block is held under this CID
pub record HoldsDamaged (hash : List ℕ → List ℕ) (cid : Cid) (t : Contents) : Type 0 where
  pub bytes : List ℕ
  pub held : held_at t cid ≡ Some bytes
  pub damaged : IsDamaged hash cid bytes
