-- What a contract sees of a store, and what each call answers by that.
use Rattle.std.specs.Prelude.{◌≡◌, ◌≢◌, ℕ, ◌≤◌, List, length, Bool, true, false, Some, None, IfSome, IsSome}
use Rattle.std.specs.declared.option.Option.{Option}
use Rattle.uf_cid.specs.declared.cid.Cid.{Cid}
use Rattle.uf_cid.specs.Blocks.{Held}
use Rattle.uf_edge.specs.declared.host.Put.{Put}
use Rattle.uf_edge.specs.declared.host.Put.TheVariants.{Done as PutDone, Failed as PutFailed, Memory as PutMemory}
use Rattle.uf_edge.specs.Counts.{Counts}
use Rattle.uf_store.specs.declared.store.Load.{Load}
use Rattle.uf_store.specs.declared.store.Load.TheVariants.{Found, Missing, Damaged, Failed as LoadFailed}
use Rattle.uf_store.specs.declared.store.Load.TheVariants.{Memory as LoadMemory}
use Rattle.uf_store.specs.declared.store.Presence.{Presence}
use Rattle.uf_store.specs.declared.store.Presence.TheVariants.{There, Missing as IsMissing, Failed as LookFailed}
use Rattle.uf_store.specs.declared.store.Presence.TheVariants.{Memory as LookMemory}
use Rattle.uf_store.specs.declared.store.Save.{Save}
use Rattle.uf_store.specs.declared.store.Save.TheVariants.{Done as SaveDone, Clash, Failed as SaveFailed}
use Rattle.uf_store.specs.declared.store.Save.TheVariants.{Memory as SaveMemory}
use Rattle.uf_store.specs.declared.store.Note.{Note}
use Rattle.uf_store.specs.declared.store.NoteRead.{NoteRead}
use Rattle.uf_store.specs.declared.store.NoteRead.TheVariants.{Text, Absent, Failed as NoteFailed, Memory as NoteMemory}
use Rattle.uf_store.specs.Writing.{MeetsNoOther}
use Rattle.uf_store.specs.Contents.{Contents, Told, changed, held_at, note_at, with_save, with_sync, with_text}

-- what is told, the block that is lent, and how often the store found a block, missed one, failed, and met another
-- block
pub record Seen : Type 0 where
  pub told : Told
  pub lent : List ℕ
  pub finds : ℕ
  pub misses : ℕ
  pub faults : ℕ
  pub clashes : ℕ

-- the counts after a call, by which of the things that are counted it answered
pub record Counted (is_find is_miss is_fault is_clash : Bool) (before now : Seen) : Type 0 where
  pub finds : Counts is_find before.finds now.finds
  pub misses : Counts is_miss before.misses now.misses
  pub faults : Counts is_fault before.faults now.faults
  pub clashes : Counts is_clash before.clashes now.clashes

-- nothing is told anew and no other block is lent
pub record Stays (before now : Seen) : Type 0 where
  pub same_told : now.told ≡ before.told
  pub same_lent : now.lent ≡ before.lent

-- a block was found: it isn't too long, its hash is the CID's digest, and it is the held one
pub record Finds (hash : List ℕ → List ℕ) (cid : Cid) (before now : Seen) : Type 0 where
  pub size : length now.lent ≤ 2097152
  pub digest : hash now.lent ≡ cid.digest
  pub is_held : IfSome before.told (λ t. held_at t cid ≡ Some now.lent)
  pub same_told : now.told ≡ before.told
  pub counted : Counted true false false false before now

-- no block is held under this CID
pub record MissesBlock (cid : Cid) (before now : Seen) : Type 0 where
  pub not_held : IfSome before.told (λ t. held_at t cid ≡ None)
  pub stays : Stays before now
  pub counted : Counted false true false false before now

-- the call failed, or met a damaged block, and changed nothing
pub record Fails (before now : Seen) : Type 0 where
  pub stays : Stays before now
  pub counted : Counted false false true false before now

-- there was no memory, and nothing has changed
pub record GivesUp (before now : Seen) : Type 0 where
  pub stays : Stays before now
  pub counted : Counted false false false false before now

-- the answer of `load`
abbrev pub Loads : (List ℕ → List ℕ) → Cid → Load → Seen → Seen → Type 0
Loads hash cid Found before now = Finds hash cid before now
Loads hash cid Missing before now = MissesBlock cid before now
Loads hash cid Damaged before now = Fails before now
Loads hash cid LoadFailed before now = Fails before now
Loads hash cid LoadMemory before now = GivesUp before now

-- a block is held under this CID, and nothing has changed
pub record IsThere (cid : Cid) (before now : Seen) : Type 0 where
  pub is_held : IfSome before.told (λ t. IsSome (held_at t cid))
  pub stays : Stays before now
  pub counted : Counted false false false false before now

-- the answer of `holds`
abbrev pub Looks : Cid → Presence → Seen → Seen → Type 0
Looks cid There before now = IsThere cid before now
Looks cid IsMissing before now = MissesBlock cid before now
Looks cid LookFailed before now = Fails before now
Looks cid LookMemory before now = GivesUp before now

-- every block of this CID's digest that is held under it is this one
abbrev pub NoOther : (List ℕ → List ℕ) → Cid → List ℕ → Contents → Type 0
NoOther hash cid bytes t = MeetsNoOther hash cid bytes t.held

-- a block was kept
pub record Keeps (hash : List ℕ → List ℕ) (cid : Cid) (bytes : List ℕ) (before now : Seen) : Type 0 where
  pub kept : now.told ≡ changed (with_save cid bytes) before.told
  pub no_other : IfSome before.told (NoOther hash cid bytes)
  pub same_lent : now.lent ≡ before.lent
  pub counted : Counted false false false false before now

-- the same of a block with its CID
abbrev pub KeepsHeld : (List ℕ → List ℕ) → Held → Seen → Seen → Type 0
KeepsHeld hash block before now = Keeps hash block.0 block.1 before now

-- other bytes of the same digest are held, and are lent now
pub record MeetsOther (hash : List ℕ → List ℕ) (cid : Cid) (bytes : List ℕ) (before now : Seen) : Type 0 where
  pub digest : hash now.lent ≡ cid.digest
  pub differs : now.lent ≢ bytes
  pub is_held : IfSome before.told (λ t. held_at t cid ≡ Some now.lent)
  pub same_told : now.told ≡ before.told
  pub counted : Counted false false false true before now

-- the answer of `save`
abbrev pub Saves : (List ℕ → List ℕ) → Cid → List ℕ → Save → Seen → Seen → Type 0
Saves hash cid bytes SaveDone before now = Keeps hash cid bytes before now
Saves hash cid bytes Clash before now = MeetsOther hash cid bytes before now
Saves hash cid bytes SaveFailed before now = Fails before now
Saves hash cid bytes SaveMemory before now = GivesUp before now

-- a change of what is told was done
pub record Changes (f : Contents → Contents) (before now : Seen) : Type 0 where
  pub told_now : now.told ≡ changed f before.told
  pub same_lent : now.lent ≡ before.lent
  pub counted : Counted false false false false before now

-- the answer of a change
abbrev pub Writes : (Contents → Contents) → Put → Seen → Seen → Type 0
Writes f PutDone before now = Changes f before now
Writes f PutFailed before now = Fails before now
Writes f PutMemory before now = GivesUp before now

-- the answer of `sync`
abbrev pub Syncs : Put → Seen → Seen → Type 0
Syncs answer before now = Writes with_sync answer before now

-- the answer of `write_note`
abbrev pub WritesNote : Note → List ℕ → Put → Seen → Seen → Type 0
WritesNote which text answer before now = Writes (with_text which text) answer before now

-- the note's text is this, or it is absent
pub record NoteIs (which : Note) (text : Option (List ℕ)) (before now : Seen) : Type 0 where
  pub note : IfSome before.told (λ t. note_at t.notes which ≡ text)
  pub stays : Stays before now
  pub counted : Counted false false false false before now

-- the answer of `read_note`
abbrev pub ReadsNote : Note → NoteRead → Seen → Seen → Type 0
ReadsNote which (Text bytes) before now = NoteIs which (Some bytes) before now
ReadsNote which Absent before now = NoteIs which None before now
ReadsNote which NoteFailed before now = Fails before now
ReadsNote which NoteMemory before now = GivesUp before now
