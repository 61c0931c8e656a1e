-- What a store holds and what was written to it.
use Rattle.std.specs.Prelude.{ℕ, List, [], ◌∷◌, ◌++◌, Some, None}
use Rattle.std.specs.declared.option.Option.{Option}
use Rattle.std.specs.FinMap.{FinMap, get, insert}
use Rattle.uf_cid.specs.declared.cid.Cid.{Cid}
use Rattle.uf_cid.specs.Blocks.{Held, Lookup}
use Rattle.uf_cid.specs.Cid.{cid_cmp}
use Rattle.uf_store.specs.declared.store.Note.{Note}
use Rattle.uf_store.specs.declared.store.Note.TheVariants.{Head, Pins}
use Rattle.uf_store.specs.declared.store.Write.{Write}
use Rattle.uf_store.specs.declared.store.Write.TheVariants.{Saved, Synced, Noted}

-- the blocks under their CIDs
abbrev pub HeldMap : Type 0
HeldMap = FinMap cid_cmp (List ℕ)

-- the texts of the notes, where they are there
pub record Notes : Type 0 where
  pub head : Option (List ℕ)
  pub pins : Option (List ℕ)

-- the text of one note
abbrev pub note_at : Notes → Note → Option (List ℕ)
note_at notes Head = notes.head
note_at notes Pins = notes.pins

-- the notes with a new text of one of them
abbrev pub with_note : Notes → Note → List ℕ → Notes
with_note notes Head text = record { head = Some text; pins = notes.pins }
with_note notes Pins text = record { head = notes.head; pins = Some text }

-- no note is there
abbrev pub no_notes : Notes
no_notes = record { head = None; pins = None }

-- a map after one write
abbrev pub held_after : HeldMap → Write → HeldMap
held_after m (Saved cid bytes) = insert m cid bytes
held_after m Synced = m
held_after m (Noted which text) = m

-- the notes after one write
abbrev pub notes_after : Notes → Write → Notes
notes_after n (Saved cid bytes) = n
notes_after n Synced = n
notes_after n (Noted which text) = with_note n which text

-- the blocks, the notes, and the list of past writes
pub record Contents : Type 0 where
  pub held : HeldMap
  pub notes : Notes
  pub writes : List Write

-- what is held under each CID
abbrev pub held_at : Contents → Lookup
held_at t = λ cid. get t.held cid

-- a block was saved
abbrev pub with_save : Cid → List ℕ → Contents → Contents
with_save cid bytes t =
    record { held = insert t.held cid bytes; notes = t.notes; writes = t.writes ++ Saved cid bytes ∷ [] }

-- blocks were saved, one after another
abbrev pub with_all : List Held → Contents → Contents
with_all [] t = t
with_all (b ∷ blocks) t = with_all blocks (with_save b.0 b.1 t)

-- the saves were made durable
abbrev pub with_sync : Contents → Contents
with_sync t = record { held = t.held; notes = t.notes; writes = t.writes ++ Synced ∷ [] }

-- a note was written
abbrev pub with_text : Note → List ℕ → Contents → Contents
with_text which text t =
    record { held = t.held; notes = with_note t.notes which text; writes = t.writes ++ Noted which text ∷ [] }

-- the contents, or none where the store doesn't tell
abbrev pub Told : Type 0
Told = Option Contents

-- a change of what is told, where it is told
abbrev pub changed : (Contents → Contents) → Told → Told
changed f None = None
changed f (Some t) = Some (f t)
