-- What each answer of a command shows.
use Rattle.std.specs.Prelude.{◌≡◌, ◌≢◌, ◌⊎◌, ℕ, ◌<◌, List, [], ◌∷◌, ◌++◌, length, Bool, true, false, IfErr, IfSome, ⊤}
use Rattle.std.specs.declared.option.Option.{Option}
use Rattle.std.specs.declared.option.Option.TheVariants.{None, Some}
use Rattle.std.specs.declared.result.Result.{Result}
use Rattle.std.specs.declared.result.Result.TheVariants.{Ok, Err}
use Rattle.uf_tree.specs.FilePlan.{file_plan}
use Rattle.uf_tree.specs.Metas.{none}
use Rattle.uf_tree.specs.Profiles.{most_bytes, usual}
use Rattle.uf_cid.specs.Blocks.{Held}
use Rattle.uf_cid.specs.declared.cid.Cid.{Cid}
use Rattle.uf_edge.specs.Streams.{before, Exceeds, IsWhole}
use Rattle.uf_edge.specs.Streams as streams
use Rattle.uf_dir.specs.Bad.{IsOffWay}
use Rattle.uf_fileread.specs.Bad.{IsBadInFile}
use Rattle.uf_mfs.specs.Bad.{IsBadInHead, IsHeadTold}
use Rattle.uf_mfs.specs.Standing.{LeavesHead, head_in}
use Rattle.uf_mfs.specs.declared.fault.MfsFault.{MfsFault}
use Rattle.uf_mfs.specs.declared.fault.MfsFault.TheVariants as mfs
use Rattle.uf_plain.specs.declared.ready.Ready.{Ready}
use Rattle.uf_plain.specs.declared.ready.Ready.TheVariants as ready
use Rattle.uf_plain.specs.declared.rule.Rule.TheVariants.{FileTooLong}
use Rattle.uf_store.specs.declared.store.Role.{Role}
use Rattle.uf_store.specs.declared.store.Role.TheVariants.{Directory, Shard, FileNode, Leaf}
use Rattle.uf_store.specs.Among.{SavesAmong}
use Rattle.uf_store.specs.Clashes.{IsSaving}
use Rattle.uf_store.specs.declared.store.StoreFault.TheVariants.{Memory}
use Rattle.uf_store.specs.declared.store.Write.{Write}
use Rattle.uf_store.specs.declared.store.Write.TheVariants.{Synced}
use Rattle.uf_store.specs.Contents.{Told}
use Rattle.uf_store.specs.Keeping.{Holds}
use Rattle.uf_tree.specs.HeadReading.{head_reads}
use Rattle.uf_tree.specs.Roles.{IsCanonicalDirectory}
use Rattle.uf_tree.specs.declared.head_fault.HeadFault.{HeadFault}
use Rattle.uf_tree.specs.declared.profile.Head.{Head}
use Rattle.uf_tree.specs.declared.profile.Profile.{Profile}
use Rattle.uf_command.specs.declared.types.Ask.{Ask}
use Rattle.uf_command.specs.declared.types.Ask.TheVariants.{Edit as Edits}
use Rattle.uf_command.specs.declared.types.Command.{Command}
use Rattle.uf_command.specs.declared.types.Refusal.{Refusal}
use Rattle.uf_command.specs.declared.types.Refusal.TheVariants as refusal
use Rattle.uf_command.specs.Kinds.{is_of, read_kind, refusal_fault, write_kind}
use Rattle.uf_command.specs.Lines.{added_line}
use Rattle.uf_command.specs.Natures.{HeadNeed, NoHeadYet, AHead, nature}
use Rattle.uf_command.specs.Statuses.{no_memory, status_of}
use Rattle.uf_command.specs.declared.status.Status.TheVariants as status
use Rattle.uf_top.specs.Reply.{file_cid, most_input}
use Rattle.uf_edits.specs.Edits.{IsBadAsked}

-- the faults of calls that open a tree: no rule refuses that, and nothing is printed there
abbrev pub IsOpeningFault : MfsFault → Type 0
IsOpeningFault (mfs.Rule rule) = ⊥
IsOpeningFault (mfs.Ready why) = ⊤
IsOpeningFault mfs.Sink = ⊥
IsOpeningFault (mfs.Store fault) = ⊤

-- the faults of calls that send a file of an opened tree: such a tree is ready
abbrev pub IsSendingFault : MfsFault → Type 0
IsSendingFault (mfs.Rule rule) = ⊤
IsSendingFault (mfs.Ready why) = ⊥
IsSendingFault mfs.Sink = ⊤
IsSendingFault (mfs.Store fault) = ⊤

-- the fault of a call that opens a tree, and the refusal by it
abbrev pub RefusesOpening : MfsFault → Refusal → Type 0
RefusesOpening (mfs.Rule rule) given = ⊥
RefusesOpening (mfs.Ready why) given = given ≡ refusal.Ready why
RefusesOpening mfs.Sink given = ⊥
RefusesOpening (mfs.Store fault) given = given ≡ refusal.Store fault

-- the fault of a call that sends a file of an opened tree, and the refusal by it: such a tree is ready
abbrev pub RefusesSending : MfsFault → Refusal → Type 0
RefusesSending (mfs.Rule rule) given = given ≡ refusal.Rule rule
RefusesSending (mfs.Ready why) given = ⊥
RefusesSending mfs.Sink given = given ≡ refusal.Write
RefusesSending (mfs.Store fault) given = given ≡ refusal.Store fault

-- the fault of a call on an opened tree, and the refusal by it
abbrev pub RefusesInTree : MfsFault → Refusal → Type 0
RefusesInTree (mfs.Rule rule) given = given ≡ refusal.Rule rule
RefusesInTree (mfs.Ready why) given = ⊥
RefusesInTree mfs.Sink given = ⊥
RefusesInTree (mfs.Store fault) given = given ≡ refusal.Store fault

-- the Head says this profile
abbrev pub HeadSays : Option (List ℕ) → Profile → Type 0
HeadSays None p = ⊥
HeadSays (Some text) p = (root : Cid) × (head_reads text ≡ Ok (record { profile = p; root = root }))

-- the profile is that of the Head, where the store tells
abbrev pub IsProfileOf : Told → Profile → Type 0
IsProfileOf told p = IfSome told (λ t. HeadSays t.notes.head p)

-- the Head isn't read
abbrev pub IsUnread : Option (List ℕ) → Type 0
IsUnread None = ⊥
IsUnread (Some text) = (why : HeadFault) × (head_reads text ≡ Err why)

-- for this reason a command that needs the Head refuses it, where the store tells: there is none, or it isn't
-- read
abbrev pub IsReasonInTree : Ready → Told → Type 0
IsReasonInTree ready.NoHead told = IfSome told (λ t. t.notes.head ≡ None)
IsReasonInTree ready.HeadThere told = ⊥
IsReasonInTree ready.BadHead told = IfSome told (λ t. IsUnread t.notes.head)

-- for this reason the Head is refused where it is needed so, where the store tells: it is there, isn't read, or isn't
-- there
abbrev pub IsReasonFor : HeadNeed → Ready → Told → Type 0
IsReasonFor NoHeadYet ready.HeadThere told = IfSome told (λ t. (text : List ℕ) × (t.notes.head ≡ Some text))
IsReasonFor (AHead true) ready.BadHead told = IfSome told (λ t. IsUnread t.notes.head)
IsReasonFor (AHead false) why told = IsReasonInTree why told
IsReasonFor need why told = ⊥

-- for this reason a command refuses the Head
abbrev pub IsReason : Command → Ready → Told → Type 0
IsReason command why told = IsReasonFor (nature command).head why told

-- the refusal that the store isn't ready has its reason in the Head
abbrev pub IsReadyBy : Told → Command → Refusal → Type 0
IsReadyBy told command (refusal.Ready why) = IsReason command why told
IsReadyBy told command why = ⊤

abbrev pub IsReady : {A : Type 0} → Told → Command → Result A Refusal → Type 0
IsReady told command (Ok a) = ⊤
IsReady told command (Err why) = IsReadyBy told command why

-- the block isn't canonical in its role: as a directory or a shard, which isn't said to be one of the Head's tree, or at
-- its place in a file that is read. Or, where the profile of the Head is required, as one of these, in a file that is
-- edited, or as the root of a file whose metadata is changed
abbrev pub IsBadIn : (List ℕ → List ℕ) → (List ℕ → ℕ) → (before now : Told) → Role → List ℕ → Type 0
IsBadIn X N before now role bytes = IsBadInHead X N before role bytes
    ⊎ ((file : Cid) × IsBadInFile before file role bytes)
    ⊎ ((head : Head) × IsHeadTold before head × IsBadAsked X N head.profile now head.root role bytes)

-- the block isn't canonical in this role, where a profile is known, by that: as the root of a directory, or as a shard
-- on some way. A node and a leaf of a file are bad where they lie alone
abbrev pub IsBadAs : (List ℕ → ℕ) → Option Profile → Role → List ℕ → Type 0
IsBadAs N profile Directory bytes = IsCanonicalDirectory profile true bytes → ⊥
IsBadAs N profile (Shard level) bytes = IsOffWay N level bytes
IsBadAs N profile FileNode bytes = ⊤
IsBadAs N profile Leaf bytes = ⊤

-- the same by no profile, or by that of the Head
pub record IsBadBlock (N : List ℕ → ℕ) (told : Told) (role : Role) (bytes : List ℕ) : Type 0 where
  pub profile : Option Profile
  pub is_known : IfSome profile (IsProfileOf told)
  pub bad : IsBadAs N profile role bytes

-- the Head moves only where a command is done that prints nothing, or that prints after that
abbrev pub HeadStays : Result (List ℕ) Refusal → (prints_after : Bool) → Told → Told → Type 0
HeadStays (Ok []) prints_after before now = ⊤
HeadStays (Ok (b ∷ text)) true before now = ⊤
HeadStays (Ok (b ∷ text)) false before now = head_in now ≡ head_in before
HeadStays (Err why) prints_after before now = head_in now ≡ head_in before

-- the Head stays where a command is refused, unless it prints after it moved the Head and only its output failed
abbrev pub KeepsHead : Result (Unit {0}) Refusal → (prints_after : Bool) → Told → Told → Type 0
KeepsHead done true before now = IfErr done (λ why. status_of why ≢ status.WriteFault → head_in now ≡ head_in before)
KeepsHead done false before now = IfErr done (λ why. head_in now ≡ head_in before)

-- the output failed
abbrev pub is_write : {A : Type 0} → Result A Refusal → Bool
is_write result = is_of write_kind result

-- the reading of the input failed
abbrev pub is_read : {A : Type 0} → Result A Refusal → Bool
is_read result = is_of read_kind result

-- where the input tells, these are the bytes that it had left
abbrev pub AreLeft : streams.Told → List ℕ → Type 0
AreLeft left bytes = IfSome left (λ b. b ≡ bytes)

-- the profile by which a file is added: that of the Head, and with `-n` the usual one where there is no Head
abbrev pub AddsBy : Bool → Option (List ℕ) → Profile → Type 0
AddsBy true None p = p ≡ usual
AddsBy false None p = ⊥
AddsBy only_hash (Some text) p = HeadSays (Some text) p

-- these blocks are held, unless nothing is kept, as with `-n`
abbrev pub HoldsUnless : (only_hash : Bool) → Told → List Held → Type 0
HoldsUnless true now blocks = ⊤
HoldsUnless false now blocks = Holds now blocks

-- nothing was added but some of these blocks, and they were at most made durable then
pub record AddsAmong (hash : List ℕ → List ℕ) (blocks : List Held) (before now : Told) : Type 0 where
  pub between : Told
  pub among : SavesAmong hash blocks before between
  pub last : LeavesHead between now

-- the row of some input as a file by that profile, whose blocks are held
pub record IsRow (hash : List ℕ → List ℕ) (told now : Told) (only_hash : Bool) (left : streams.Told)
    (text : List ℕ) : Type 0 where
  pub profile : Profile
  pub adds_by : IfSome told (λ t. AddsBy only_hash t.notes.head profile)
  pub bytes : List ℕ
  pub are_left : AreLeft left bytes
  pub is : text ≡ added_line (file_cid hash profile bytes)
  pub held : HoldsUnless only_hash now (file_plan hash profile none bytes).blocks

-- more bytes were given than a file of that profile may have
pub record IsTooLong (told : Told) (only_hash : Bool) (left left_now : streams.Told) : Type 0 where
  pub profile : Profile
  pub adds_by : IfSome told (λ t. AddsBy only_hash t.notes.head profile)
  pub bytes : List ℕ
  pub taken : left ≡ before bytes left_now
  pub many : most_bytes profile < length bytes

-- what `add` makes of the input: its row, or that it is too long
abbrev pub Adds : (List ℕ → List ℕ) → (told now : Told) → Bool → Result (List ℕ) Refusal → streams.Told → streams.Told
    → Type 0
Adds hash told now only_hash (Ok text) left left_now = IsRow hash told now only_hash left text
Adds hash told now only_hash (Err (refusal.Rule rule)) left left_now =
    (rule ≡ FileTooLong) × IsTooLong told only_hash left left_now
Adds hash told now only_hash (Err why) left left_now = ⊤

-- an input is taken whole, or why it isn't
abbrev pub TakesAll : Result (List ℕ) Refusal → streams.Told → streams.Told → Type 0
TakesAll (Ok bytes) left left_now = IsWhole most_input bytes left left_now
TakesAll (Err refusal.InputTooLong) left left_now = Exceeds most_input left left_now
TakesAll (Err refusal.Read) left left_now = ⊤
TakesAll (Err (refusal.Store fault)) left left_now = fault ≡ Memory
TakesAll (Err why) left left_now = ⊥

-- an input is refused as too long only where it is
abbrev pub IsLongAt : Result (List ℕ) Refusal → streams.Told → streams.Told → Type 0
IsLongAt (Err refusal.InputTooLong) left left_now = Exceeds most_input left left_now
IsLongAt ends left left_now = ⊤

-- the profile that was found is the Head's, or there is no Head
abbrev pub IsProfileIn : Option Profile → Option (List ℕ) → Type 0
IsProfileIn None head = head ≡ None
IsProfileIn (Some p) head = HeadSays head p

-- what is read of the Head where only its profile is needed
abbrev pub IsProfileRead : Result (Option Profile) Refusal → Told → Type 0
IsProfileRead (Ok found) told = IfSome told (λ t. IsProfileIn found t.notes.head)
IsProfileRead (Err (refusal.Ready why)) told = (why ≡ ready.BadHead) × IfSome told (λ t. IsUnread t.notes.head)
IsProfileRead (Err (refusal.Store fault)) told = IsSaving fault
IsProfileRead (Err why) told = ⊥

-- the profile that `add -n` takes
abbrev pub or_usual : Option Profile → Profile
or_usual None = usual
or_usual (Some p) = p

-- a fault of the store is that of no memory
abbrev pub OnlyWants : {A : Type 0} → Result A Refusal → Type 0
OnlyWants result = IfSome (refusal_fault result) (λ fault. fault ≡ Memory)

-- the last write was a sync
abbrev pub IsSynced : Told → Type 0
IsSynced told = IfSome told (λ t. (writes : List Write) × (t.writes ≡ writes ++ Synced ∷ []))

-- what is read of the text of a Head where only its profile is needed
abbrev pub ReadsProfile : Result (Option Profile) Refusal → List ℕ → Type 0
ReadsProfile (Ok None) text = ⊥
ReadsProfile (Ok (Some p)) text = HeadSays (Some text) p
ReadsProfile (Err (refusal.Ready why)) text = (why ≡ ready.BadHead) × IsUnread (Some text)
ReadsProfile (Err (refusal.Store fault)) text = fault ≡ Memory
ReadsProfile (Err why) text = ⊥

-- the only refusals are faults that saves alone can have
abbrev pub Stops : {A : Type 0} → Result A Refusal → Type 0
Stops (Ok a) = ⊤
Stops (Err (refusal.Store fault)) = IsSaving fault
Stops (Err why) = ⊥

-- the text of what is asked at a path: an edit prints nothing
abbrev pub IsAskText : Ask → List ℕ → Type 0
IsAskText (Edits edit) text = text ≡ []
IsAskText ask text = ⊤

-- a text that was made, or out of memory
abbrev pub IsMade : {A : Type 0} → Result (List ℕ) A → Result (List ℕ) Refusal → Type 0
IsMade (Ok text) result = result ≡ Ok text
IsMade (Err why) result = result ≡ Err no_memory
