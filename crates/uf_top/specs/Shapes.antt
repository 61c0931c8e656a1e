-- What a command writes to the store, by what it may write and whether it was done.
use Rattle.std.specs.Prelude.{◌≡◌, ◌⊎◌, ℕ, List, Bool, true, false}
use Rattle.std.specs.declared.option.Option.TheVariants.{None}
use Rattle.std.specs.declared.result.Result.{Result}
use Rattle.std.specs.declared.result.Result.TheVariants.{Ok, Err}
use Rattle.uf_mfs.specs.Standing.{Commits, LeavesHead, SavesThen, head_in}
use Rattle.uf_pins.specs.Calls.{NotesPins as NotesPinsIn}
use Rattle.uf_store.specs.Contents.{Told, changed, with_sync}
use Rattle.uf_command.specs.Natures.{WriteShape, NoWrites, SyncsBlocks, MakesHead, MovesHead, NotesPins, SyncsPins, command_writes}
use Rattle.uf_command.specs.declared.types.Command.{Command}
use Rattle.uf_command.specs.declared.types.Refusal.{Refusal}
use Rattle.uf_cid.specs.declared.cid.Cid.{Cid}
use Rattle.uf_tree.specs.declared.profile.Profile.{Profile}
use Rattle.uf_command.specs.declared.status.Status.{Status}
use Rattle.uf_command.specs.declared.status.Status.TheVariants as status
use Rattle.uf_top.specs.Causes.{IsProfileOf}

-- blocks were saved and made durable
abbrev pub SyncsAfter : (List ℕ → List ℕ) → Told → Told → Type 0
SyncsAfter hash before now = SavesThen hash (λ between now. now ≡ changed with_sync between) before now

-- blocks were saved, made durable, and then a Head was written, unless it named this root already
abbrev pub HeadAfter : (List ℕ → List ℕ) → Told → Told → Type 0
HeadAfter hash before now = (p : Profile) × (root : Cid) × SavesThen hash (Commits p root) before now

-- the same by this profile
abbrev pub HeadBy : (List ℕ → List ℕ) → Profile → Told → Told → Type 0
HeadBy hash p before now = (root : Cid) × SavesThen hash (Commits p root) before now

-- the same by the profile of the Head before
abbrev pub HeadMoved : (List ℕ → List ℕ) → Told → Told → Type 0
HeadMoved hash before now = (p : Profile) × IsProfileOf before p × HeadBy hash p before now

-- what was written, by whether the command was done: a first Head only where there was none, and over a Head one of the
-- same profile; one that is refused has written no Head, and no note of pins
abbrev pub WritesAs : (List ℕ → List ℕ) → WriteShape → Bool → Told → Told → Type 0
WritesAs hash NoWrites done before now = now ≡ before
WritesAs hash SyncsBlocks true before now = SyncsAfter hash before now
WritesAs hash SyncsBlocks false before now = SavesThen hash LeavesHead before now
WritesAs hash MakesHead true before now = (head_in before ≡ None) × HeadAfter hash before now
WritesAs hash MakesHead false before now = SavesThen hash LeavesHead before now
WritesAs hash MovesHead true before now = HeadMoved hash before now
WritesAs hash MovesHead false before now = SavesThen hash LeavesHead before now
WritesAs hash SyncsPins true before now =
    (now ≡ changed with_sync before) ⊎ NotesPinsIn (changed with_sync before) now
WritesAs hash SyncsPins false before now = (now ≡ before) ⊎ (now ≡ changed with_sync before)
WritesAs hash NotesPins true before now = NotesPinsIn before now
WritesAs hash NotesPins false before now = now ≡ before

-- the same in an opened tree of this profile
abbrev pub WritesInTree : (List ℕ → List ℕ) → Profile → WriteShape → Bool → Told → Told → Type 0
WritesInTree hash p MovesHead true before now = HeadBy hash p before now
WritesInTree hash p shape done before now = WritesAs hash shape done before now

-- the command was done
abbrev pub is_ok : {A B : Type 0} → Result A B → Bool
is_ok (Ok a) = true
is_ok (Err b) = false

-- the same by its status: where only the output failed, the command was done
abbrev pub is_done : Status → Bool
is_done status.Ok = true
is_done status.WriteFault = true
is_done other = false

-- what was written for words
abbrev pub WritesFor : (List ℕ → List ℕ) → Result Command Refusal → Bool → Told → Told → Type 0
WritesFor hash (Ok command) done before now = WritesAs hash (command_writes command) done before now
WritesFor hash (Err why) done before now = now ≡ before
