-- What a command writes is appended to what was written, so it keeps good blocks.
use Rattle.std.proofs.Common.{◌≡◌, ℕ, List, Bool, true, false, refl, inl, inr, Result, Ok, Err}
use Rattle.uf_cid.specs.declared.cid.Cid.{Cid}
use Rattle.uf_mfs.specs.Standing.{Commits, Idle, LeavesHead, OnlySynced, Same as StaysSame, SavesThen, Written}
use Rattle.uf_store.specs.Contents.{Told, changed, with_sync}
use Rattle.uf_store.specs.Keeping.{KeepsGood}
use Rattle.uf_store.specs.Writing.{IsAny, WritesOnly}
use Rattle.uf_store.specs.declared.store.Note.TheVariants.{Head, Pins}
use Rattle.uf_store.proofs.Writing.{WritesOnly-noted, WritesOnly-synced, Wrote-good, Wrote-same, Wrote-trans, saves-write}
use Rattle.uf_tree.specs.Heads.{head_text}
use Rattle.uf_tree.specs.declared.profile.Profile.{Profile}
use Rattle.uf_command.specs.Natures.{WriteShape, MakesHead, MovesHead, NoWrites, NotesPins, SyncsBlocks, SyncsPins, command_writes, is_nothing_written, only_reads}
use Rattle.uf_command.specs.declared.types.Command.{Command}
use Rattle.uf_command.specs.declared.types.Refusal.{Refusal}
use Rattle.uf_top.specs.Shapes.{HeadAfter, WritesAs, WritesFor}
use Rattle.uf_top.proofs.Shaped.{head-after}

module _ (X : List ℕ → List ℕ) where
  syncs-wrote : (done : Bool) (a b : Told) → WritesAs X SyncsPins done a b → WritesOnly X a b
  syncs-wrote true a b (inl h) = WritesOnly-synced X a b h
  syncs-wrote true a b (inr h) = Wrote-trans X IsAny a (changed with_sync a) b (WritesOnly-synced X a (changed with_sync a) refl) (WritesOnly-noted X Pins h.0 (changed with_sync a) b h.1)
  syncs-wrote false a b (inl h) = Wrote-same X IsAny a b h
  syncs-wrote false a b (inr h) = WritesOnly-synced X a b h

  notes-wrote : (done : Bool) (a b : Told) → WritesAs X NotesPins done a b → WritesOnly X a b
  notes-wrote true a b h = WritesOnly-noted X Pins h.0 a b h.1
  notes-wrote false a b h = Wrote-same X IsAny a b h

  leaves-wrote : (a b : Told) → LeavesHead a b → WritesOnly X a b
  leaves-wrote a b (StaysSame same) = Wrote-same X IsAny a b same
  leaves-wrote a b (OnlySynced same) = WritesOnly-synced X a b same

  commits-wrote : (p : Profile) (root : Cid) (a b : Told) → Commits p root a b → WritesOnly X a b
  commits-wrote p root a b (Idle head same) = Wrote-same X IsAny a b same
  commits-wrote p root a b (Written head same) =
      Wrote-trans X IsAny a (changed with_sync a) b (WritesOnly-synced X a (changed with_sync a) refl) (WritesOnly-noted X Head (head_text p root) (changed with_sync a) b same)

  then-wrote : (Last : Told → Told → Type 0) (a b : Told) → ((m : Told) → Last m b → WritesOnly X m b) → SavesThen X Last a b → WritesOnly X a b
  then-wrote Last a b last h = Wrote-trans X IsAny a h.between b (saves-write X a h.between h.saves) (last h.between h.last)

  head-wrote : (a b : Told) → HeadAfter X a b → WritesOnly X a b
  head-wrote a b h = then-wrote (Commits h.0 h.1) a b (λ m last. commits-wrote h.0 h.1 m b last) h.2

  left-wrote : (a b : Told) → SavesThen X LeavesHead a b → WritesOnly X a b
  left-wrote a b h = then-wrote LeavesHead a b (λ m last. leaves-wrote m b last) h

  shape-wrote : (shape : WriteShape) (done : Bool) (a b : Told) → WritesAs X shape done a b → WritesOnly X a b
  shape-wrote NoWrites done a b h = Wrote-same X IsAny a b h
  shape-wrote SyncsBlocks true a b h = then-wrote (λ m now. now ≡ changed with_sync m) a b (λ m last. WritesOnly-synced X m b last) h
  shape-wrote SyncsBlocks false a b h = left-wrote a b h
  shape-wrote MakesHead true a b h = head-wrote a b h.1
  shape-wrote MakesHead false a b h = left-wrote a b h
  shape-wrote MovesHead true a b h = head-wrote a b (head-after X a b h)
  shape-wrote MovesHead false a b h = left-wrote a b h
  shape-wrote SyncsPins done a b h = syncs-wrote done a b h
  shape-wrote NotesPins done a b h = notes-wrote done a b h

  pub words-wrote : (asked : Result Command Refusal) (done : Bool) (a b : Told) → WritesFor X asked done a b → WritesOnly X a b
  words-wrote (Ok command) done a b h = shape-wrote (command_writes command) done a b h
  words-wrote (Err why) done a b h = Wrote-same X IsAny a b h

  pub shape-good : (shape : WriteShape) (done : Bool) (a b : Told) → WritesAs X shape done a b → KeepsGood X a b
  shape-good shape done a b h = Wrote-good X IsAny a b (shape-wrote shape done a b h)

  pub words-good : (asked : Result Command Refusal) (done : Bool) (a b : Told) → WritesFor X asked done a b → KeepsGood X a b
  words-good asked done a b h = Wrote-good X IsAny a b (words-wrote asked done a b h)

  only-reading : (shape : WriteShape) (done : Bool) (a b : Told) → is_nothing_written shape ≡ true → WritesAs X shape done a b → b ≡ a
  only-reading NoWrites done a b is h = h
  only-reading SyncsBlocks done a b is h = absurd cc
  only-reading MakesHead done a b is h = absurd cc
  only-reading MovesHead done a b is h = absurd cc
  only-reading SyncsPins done a b is h = absurd cc
  only-reading NotesPins done a b is h = absurd cc

  -- a command that writes nothing leaves what is told
  pub told-same : (command : Command) (done : Bool) (a b : Told) → only_reads command ≡ true → WritesAs X (command_writes command) done a b → b ≡ a
  told-same command done a b is h = only-reading (command_writes command) done a b is h
