-- Saves of blocks that are named: what is written by calls that save blocks of one list and nothing else.
use Rattle.std.specs.Prelude.{ℕ, List}
use Rattle.std.specs.List.{AllByRecursion, Contains}
use Rattle.uf_cid.specs.Blocks.{Held}
use Rattle.uf_store.specs.declared.store.Write.{Write}
use Rattle.uf_store.specs.declared.store.Write.TheVariants.{Saved, Synced, Noted}
use Rattle.uf_store.specs.Contents.{Told}
use Rattle.uf_store.specs.Writing.{Wrote}

-- the write is a save of one of these blocks
abbrev pub IsSaveOf : List Held → Write → Type 0
IsSaveOf blocks (Saved cid bytes) = Contains blocks (cid, bytes)
IsSaveOf blocks Synced = ⊥
IsSaveOf blocks (Noted which text) = ⊥

-- nothing was written but saves of these blocks: each write that was appended is the save of one of them
abbrev pub SavesAmong : (List ℕ → List ℕ) → List Held → Told → Told → Type 0
SavesAmong hash blocks before now = Wrote hash (IsSaveOf blocks) before now

-- each of these blocks is one of those
abbrev pub AreAmong : List Held → List Held → Type 0
AreAmong few many = AllByRecursion (Contains many) few
