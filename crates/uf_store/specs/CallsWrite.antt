-- What each call of a store writes, whatever it answers.
use Rattle.std.specs.Prelude.{◌≡◌, ℕ, List}
use Rattle.uf_cid.specs.declared.cid.Cid.{Cid}
use Rattle.uf_edge.specs.declared.host.Put.{Put}
use Rattle.uf_store.specs.declared.store.Load.{Load}
use Rattle.uf_store.specs.declared.store.Note.{Note}
use Rattle.uf_store.specs.declared.store.NoteRead.{NoteRead}
use Rattle.uf_store.specs.declared.store.Presence.{Presence}
use Rattle.uf_store.specs.declared.store.Save.{Save}
use Rattle.uf_store.specs.Seen.{Loads, Looks, ReadsNote, Saves, Seen, Syncs, WritesNote}
use Rattle.uf_store.specs.Writing.{SavesOnly, WritesOnly}

-- a load, the question whether a block is there and the reading of a note write nothing, a save at most a block, a
-- sync and the writing of a note what they say
pub record CallsWrite (hash : List ℕ → List ℕ) (before now : Seen) : Type 0 where
  pub load : (cid : Cid) (answer : Load) → Loads hash cid answer before now → now.told ≡ before.told
  pub holds : (cid : Cid) (answer : Presence) → Looks cid answer before now → now.told ≡ before.told
  pub save : (cid : Cid) (bytes : List ℕ) (answer : Save) → hash bytes ≡ cid.digest
      → Saves hash cid bytes answer before now → SavesOnly hash before.told now.told
  pub sync : (answer : Put) → Syncs answer before now → WritesOnly hash before.told now.told
  pub read_note : (which : Note) (answer : NoteRead) → ReadsNote which answer before now → now.told ≡ before.told
  pub write_note : (which : Note) (text : List ℕ) (answer : Put) → WritesNote which text answer before now
      → WritesOnly hash before.told now.told
