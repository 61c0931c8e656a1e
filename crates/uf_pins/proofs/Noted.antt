-- What the note of a store that tells lists.
use Rattle.std.proofs.Common.{◌≡◌, ℕ, List, refl, sym, subst, ◌⊎◌, inl, inr, Option, Err}
use Rattle.std.specs.Prelude.{Some, None, IfSome}
use Rattle.uf_cid.specs.declared.cid.Cid.{Cid}
use Rattle.uf_store.specs.Calls.{OnlyReads}
use Rattle.uf_store.specs.Contents.{Contents, Told, note_at}
use Rattle.uf_store.specs.Faults.{NoneIsBad, StaysCalm}
use Rattle.uf_store.specs.Seen.{NoteIs, Seen}
use Rattle.uf_store.specs.declared.store.Note.{Note}
use Rattle.uf_store.proofs.Causes.{calm-memory}
use Rattle.uf_store.specs.declared.store.Note.TheVariants.{Pins}
use Rattle.uf_pins.specs.declared.fault.PinsFault.{PinsFault}
use Rattle.uf_pins.specs.declared.fault.PinsFault.TheVariants as fault
use Rattle.uf_pins.specs.Calls.{ListsPins, StopsAtNote, pin_fault}
use Rattle.uf_pins.specs.Notes.{Lists}
use Rattle.uf_pins.specs.Reading.{IsNoText, IsTextOf}
use Rattle.uf_pins.specs.Untaken.{unread}

module _ (told : Told) (t : Contents) (is : told ≡ Some t) (o : Option (List ℕ)) (read : IfSome told (λ u. note_at u.notes Pins ≡ o)) where
  note-is : t.notes.pins ≡ o
  note-is = subst (λ (x : Told). IfSome x (λ u. note_at u.notes Pins ≡ o)) is read

  pub lists-read : (pins : List Cid) → Lists o pins → Lists t.notes.pins pins
  lists-read pins h = subst (λ x. Lists x pins) (sym note-is) h

stops-text : (text : List ℕ) (f : PinsFault) → (f ≡ fault.Memory) ⊎ IsNoText text → StopsAtNote (Some text) (unread f)
stops-text text fault.Version (inl e) = cc
stops-text text fault.Version (inr h) = h
stops-text text (fault.Line n) (inl e) = cc
stops-text text (fault.Line n) (inr h) = h
stops-text text (fault.Order n) (inl e) = cc
stops-text text (fault.Order n) (inr h) = h
stops-text text fault.Memory h = tt

pub stops-read : (told : Told) (t : Contents) (is : told ≡ Some t) (text : List ℕ) → IfSome told (λ u. note_at u.notes Pins ≡ Some text) → (f : PinsFault)
    → (f ≡ fault.Memory) ⊎ IsNoText text → StopsAtNote t.notes.pins (unread f)
stops-read told t is text read f h = subst (λ x. StopsAtNote x (unread f)) (sym (note-is told t is (Some text) read)) (stops-text text f h)

-- ---- how the counts moved

noted-calm : (which : Note) (o : Option (List ℕ)) (a b : Seen) → NoteIs which o a b → StaysCalm a b
noted-calm which o a b h = record {
  finds = h.counted.finds.later;
  misses = h.counted.misses.later;
  faults = h.counted.faults.still refl;
  clashes = h.counted.clashes.still refl;
}

-- the note was read, and its text is that of no pins
pub unread-reads : (hash : List ℕ → List ℕ) (text : List ℕ) (f : PinsFault) (a b : Seen) → NoteIs Pins (Some text) a b → OnlyReads hash NoneIsBad (pin_fault {A = List Cid} (Err (unread f))) a b
unread-reads hash text fault.Version a b h = record { cause = noted-calm Pins (Some text) a b h; told = h.stays.same_told }
unread-reads hash text (fault.Line n) a b h = record { cause = noted-calm Pins (Some text) a b h; told = h.stays.same_told }
unread-reads hash text (fault.Order n) a b h = record { cause = noted-calm Pins (Some text) a b h; told = h.stays.same_told }
unread-reads hash text fault.Memory a b h = record { cause = calm-memory a b (noted-calm Pins (Some text) a b h); told = h.stays.same_told }
