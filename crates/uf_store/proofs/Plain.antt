-- A store that tells what was written goes on to, whatever calls are made; what each call writes.
use Rattle.std.proofs.Common.{◌≡◌, ℕ, List, sym, ap, ◌∙◌}
use Rattle.std.specs.Prelude.{fold, Some, None}
use Rattle.std.specs.FinMap.{empty}
use Rattle.uf_cid.specs.declared.cid.Cid.{Cid}
use Rattle.uf_edge.specs.declared.host.Put.{Put}
use Rattle.uf_edge.specs.declared.host.Put.TheVariants.{Done as PutDone, Failed as PutFailed, Memory as PutMemory}
use Rattle.uf_store.specs.declared.store.Load.{Load}
use Rattle.uf_store.specs.declared.store.Load.TheVariants.{Found, Missing, Damaged, Failed as LoadFailed, Memory as LoadMemory}
use Rattle.uf_store.specs.declared.store.Presence.{Presence}
use Rattle.uf_store.specs.declared.store.Presence.TheVariants.{There, Missing as IsMissing, Failed as LookFailed, Memory as LookMemory}
use Rattle.uf_store.specs.declared.store.Save.{Save}
use Rattle.uf_store.specs.declared.store.Save.TheVariants.{Done as SaveDone, Clash, Failed as SaveFailed, Memory as SaveMemory}
use Rattle.uf_store.specs.declared.store.Note.{Note}
use Rattle.uf_store.specs.declared.store.NoteRead.{NoteRead}
use Rattle.uf_store.specs.declared.store.NoteRead.TheVariants.{Text, Absent, Failed as NoteFailed, Memory as NoteMemory}
use Rattle.uf_store.specs.declared.store.Write.{Write}
use Rattle.uf_store.specs.CallsWrite.{CallsWrite}
use Rattle.uf_store.specs.Contents.{Contents, HeldMap, Notes, Told, held_after, no_notes, notes_after}
use Rattle.uf_store.specs.Seen.{Loads, Looks, ReadsNote, Saves, Seen, Syncs, WritesNote}
use Rattle.uf_store.specs.Stops.{IsPlain, TellsPlain}
use Rattle.uf_store.specs.Writing.{Appends, IsAny, IsSave, SavesOnly, WritesOnly, Wrote}
use Rattle.uf_store.proofs.Writing.{SavesOnly-saved, WritesOnly-noted, WritesOnly-synced, Wrote-same, fold-append}

plain-after : (hash : List ℕ → List ℕ) (IsOne : Write → Type 0) (t u : Contents) → IsPlain t → Appends hash IsOne t u → IsPlain u
plain-after hash IsOne t u p h = record {
  held = h.held ∙ ap (λ (m : HeldMap). fold held_after m h.added) p.held ∙ sym (fold-append held_after empty t.writes h.added)
      ∙ ap (fold held_after empty) (sym h.writes);
  notes = h.notes ∙ ap (λ (n : Notes). fold notes_after n h.added) p.notes ∙ sym (fold-append notes_after no_notes t.writes h.added)
      ∙ ap (fold notes_after no_notes) (sym h.writes);
}

pub stays_plain : (hash : List ℕ → List ℕ) (IsOne : Write → Type 0) (a b : Told) → TellsPlain a → Wrote hash IsOne a b → TellsPlain b
stays_plain hash IsOne None None p h = tt
stays_plain hash IsOne None (Some u) p h = absurd h
stays_plain hash IsOne (Some t) None p h = tt
stays_plain hash IsOne (Some t) (Some u) p h = plain-after hash IsOne t u p h

module _ (hash : List ℕ → List ℕ) (before now : Seen) where
  load : (cid : Cid) (answer : Load) → Loads hash cid answer before now → now.told ≡ before.told
  load cid Found a = a.same_told
  load cid Missing a = a.stays.same_told
  load cid Damaged a = a.stays.same_told
  load cid LoadFailed a = a.stays.same_told
  load cid LoadMemory a = a.stays.same_told

  holds : (cid : Cid) (answer : Presence) → Looks cid answer before now → now.told ≡ before.told
  holds cid There a = a.stays.same_told
  holds cid IsMissing a = a.stays.same_told
  holds cid LookFailed a = a.stays.same_told
  holds cid LookMemory a = a.stays.same_told

  save : (cid : Cid) (bytes : List ℕ) (answer : Save) → hash bytes ≡ cid.digest → Saves hash cid bytes answer before now → SavesOnly hash before.told now.told
  save cid bytes SaveDone digest a = SavesOnly-saved hash cid bytes before.told now.told digest a.no_other a.kept
  save cid bytes Clash digest a = Wrote-same hash IsSave before.told now.told a.same_told
  save cid bytes SaveFailed digest a = Wrote-same hash IsSave before.told now.told a.stays.same_told
  save cid bytes SaveMemory digest a = Wrote-same hash IsSave before.told now.told a.stays.same_told

  sync : (answer : Put) → Syncs answer before now → WritesOnly hash before.told now.told
  sync PutDone a = WritesOnly-synced hash before.told now.told a.told_now
  sync PutFailed a = Wrote-same hash IsAny before.told now.told a.stays.same_told
  sync PutMemory a = Wrote-same hash IsAny before.told now.told a.stays.same_told

  read : (which : Note) (answer : NoteRead) → ReadsNote which answer before now → now.told ≡ before.told
  read which (Text text) a = a.stays.same_told
  read which Absent a = a.stays.same_told
  read which NoteFailed a = a.stays.same_told
  read which NoteMemory a = a.stays.same_told

  write : (which : Note) (text : List ℕ) (answer : Put) → WritesNote which text answer before now → WritesOnly hash before.told now.told
  write which text PutDone a = WritesOnly-noted hash which text before.told now.told a.told_now
  write which text PutFailed a = Wrote-same hash IsAny before.told now.told a.stays.same_told
  write which text PutMemory a = Wrote-same hash IsAny before.told now.told a.stays.same_told

  pub calls_write : CallsWrite hash before now
  calls_write = record { load = load; holds = holds; save = save; sync = sync; read_note = read; write_note = write }
