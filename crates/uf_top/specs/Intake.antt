-- The row of an input that is read as a file.
use Rattle.std.specs.Prelude.{◌≡◌, ◌⊎◌, ℕ, ◌≤◌, List, length, ⊤}
use Rattle.std.specs.declared.result.Result.{Result}
use Rattle.std.specs.declared.result.Result.TheVariants.{Ok, Err}
use Rattle.uf_edge.specs.Streams.{Told, before, IsAtEnd}
use Rattle.uf_build.specs.Intake.{PassesMost}
use Rattle.uf_build.specs.declared.intake_fault.IntakeFault.{IntakeFault}
use Rattle.uf_build.specs.declared.intake_fault.IntakeFault.TheVariants as faults
use Rattle.uf_plain.specs.declared.rule.Rule.TheVariants.{FileTooLong}
use Rattle.uf_store.specs.Clashes.{IsSaving}
use Rattle.uf_store.specs.Contents as store
use Rattle.uf_store.specs.Faults.{NoneIsBad, Shown}
use Rattle.uf_store.specs.Keeping.{Holds}
use Rattle.uf_store.specs.Seen.{Seen}
use Rattle.uf_tree.specs.FilePlan.{file_plan}
use Rattle.uf_tree.specs.Metas.{none}
use Rattle.uf_tree.specs.Profiles.{most_bytes}
use Rattle.uf_tree.specs.declared.nodes.Entry.{Entry}
use Rattle.uf_tree.specs.declared.profile.Profile.{Profile}
use Rattle.uf_command.specs.declared.types.Refusal.{Refusal}
use Rattle.uf_command.specs.declared.types.Refusal.TheVariants as refusal
use Rattle.uf_command.specs.Lines.{added_line}
use Rattle.uf_command.specs.Kinds.{refusal_fault}
use Rattle.uf_command.specs.Statuses.{no_memory}
use Rattle.uf_top.specs.Causes.{AddsAmong, AreLeft, IsProfileOf}
use Rattle.uf_top.specs.Reply.{file_cid}
use Rattle.uf_top.specs.declared.given.Given.{Given}

-- no fault was passed over by a call that reads no block's content
abbrev pub ShownIn : {A : Type 0} → (List ℕ → List ℕ) → Result A Refusal → Seen → Seen → Type 0
ShownIn hash result before now = Shown hash NoneIsBad (refusal_fault result) before now

-- the refusals that the reading of an input can have: too many bytes, a failed reading, and what saves alone can have
abbrev pub IsStopped : (refuses_long : Type 0) → Refusal → Type 0
IsStopped long (refusal.Rule rule) = (rule ≡ FileTooLong) × long
IsStopped long refusal.Read = ⊤
IsStopped long (refusal.Store fault) = IsSaving fault
IsStopped long why = ⊥

-- the row of all bytes of the input as a file, whose blocks are held
pub record IsWholeRow (hash : List ℕ → List ℕ) (p : Profile) (told_now : store.Told) (text : List ℕ)
    (left left_now : Told) : Type 0 where
  pub bytes : List ℕ
  pub taken : left ≡ before bytes left_now
  pub nothing_left : IsAtEnd left_now
  pub few : length bytes ≤ most_bytes p
  pub is : text ≡ added_line (file_cid hash p bytes)
  pub held : Holds told_now (file_plan hash p none bytes).blocks

-- the row of an input, or why there is none
abbrev pub IsRowOf : (List ℕ → List ℕ) → Profile → store.Told → Result (List ℕ) Refusal → Told → Told → Type 0
IsRowOf hash p told_now (Ok text) left left_now = IsWholeRow hash p told_now text left left_now
IsRowOf hash p told_now (Err why) left left_now = IsStopped (PassesMost p left left_now) why

-- nothing was added but blocks of the file of all bytes of the input
pub record AddsFile (hash : List ℕ → List ℕ) (p : Profile) (told told_now : store.Told) (left : Told) : Type 0 where
  pub bytes : List ℕ
  pub are_left : AreLeft left bytes
  pub adds : AddsAmong hash (file_plan hash p none bytes).blocks told told_now

-- the same by the profile of the Head; or nothing was added, as where the Head is refused
abbrev pub KeepsFile : (List ℕ → List ℕ) → (told told_now : store.Told) → Told → Type 0
KeepsFile hash told told_now left =
    (told_now ≡ told) ⊎ ((p : Profile) × IsProfileOf told p × AddsFile hash p told told_now left)

-- why no file was made of the input, as a refusal
abbrev pub intake_refusal : IntakeFault → Refusal
intake_refusal faults.Read = refusal.Read
intake_refusal faults.FileTooLong = refusal.Rule FileTooLong
intake_refusal (faults.Store fault) = refusal.Store fault

-- the entry of a file that was read is given with its row, or there was no memory; or why there is no file
abbrev pub GivesEntry : Result Entry IntakeFault → Result Given Refusal → Type 0
GivesEntry (Ok e) (Ok given) = (given.entry ≡ e) × (given.text ≡ added_line e.cid)
GivesEntry (Ok e) (Err why) = why ≡ no_memory
GivesEntry (Err fault) result = result ≡ Err (intake_refusal fault)
