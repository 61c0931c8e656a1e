-- A file of the tree read.
use Rattle.std.specs.Prelude.{◌≡◌, ◌≢◌, ◌≤◌, ◌⊎◌, ◌<◌, ◌+◌, ◌*◌, ◌-◌, ◌^◌, ℕ, List, [], length, max}
use Rattle.std.specs.declared.option.Option.TheVariants.{None}
use Rattle.std.specs.declared.result.Result.{Result}
use Rattle.std.specs.declared.result.Result.TheVariants.{Ok, Err}
use Rattle.uf_cid.specs.Blocks.{Held}
use Rattle.uf_cid.specs.declared.cid.Cid.{Cid}
use Rattle.uf_edge.specs.Counts.{Rose, Stood}
use Rattle.uf_edge.specs.Streams.{Told as SinkTold, after}
use Rattle.uf_fileread.specs.Bad.{IsBadInFile}
use Rattle.uf_fileread.specs.declared.fault.RangeFault.{RangeFault}
use Rattle.uf_fileread.specs.declared.fault.RangeFault.TheVariants as ranges
use Rattle.uf_fileread.specs.Ranges.{blocks_read, pieces_met}
use Rattle.uf_store.specs.declared.store.Role.{Role}
use Rattle.uf_store.specs.Contents.{Told}
use Rattle.uf_store.specs.Faults.{Shows, StaysCalm}
use Rattle.uf_store.specs.Lost.{IsLossOf}
use Rattle.uf_store.specs.Seen.{Seen}
use Rattle.uf_tree.specs.declared.meta.Meta.{Meta}
use Rattle.uf_tree.specs.declared.profile.Profile.{Profile}
use Rattle.uf_tree.specs.FileSub.{IsFileHeight, IsHeight, lowest}
use Rattle.uf_tree.specs.Tree.{Tree, File, Dir, Entries}
use Rattle.uf_plain.specs.Edits.{at}
use Rattle.uf_plain.specs.Files.{read as range_at}
use Rattle.uf_plain.specs.Needs.{needs_at}
use Rattle.uf_plain.specs.declared.rule.Refused.{Refused}
use Rattle.uf_mfs.specs.declared.fault.MfsFault.{MfsFault}
use Rattle.uf_mfs.specs.declared.fault.MfsFault.TheVariants as fault
use Rattle.uf_mfs.specs.declared.mfs.Mfs.{Mfs}
use Rattle.uf_mfs.specs.Answers.{Answers, AnswersOr}
use Rattle.uf_mfs.specs.Bad.{IsBadInTree}
use Rattle.uf_mfs.specs.Standing.{StandsAt, StandsOver}
use Rattle.uf_mfs.specs.Touches.{read_bound}

-- the fault of a reading of a range as that of a call
abbrev pub IsRangeFault : RangeFault → MfsFault → Type 0
IsRangeFault ranges.Sink given = given ≡ fault.Sink
IsRangeFault (ranges.Store f) given = given ≡ fault.Store f

-- the count isn't at its last value, at which a fault would leave it as it is
abbrev pub CanRise : ℕ → Type 0
CanRise count = count < 2 ^ 64 - 1

-- the height is that of a file, where there is one
abbrev pub IsHeightOf : Profile → ℕ → Result Tree Refused → Type 0
IsHeightOf p height (Ok (File m bytes)) = IsFileHeight p.chunk p.width m (length bytes) height
IsHeightOf p height (Ok (Dir es)) = Unit {0}
IsHeightOf p height (Err why) = Unit {0}

-- the blocks that a range of a file of this height needs
abbrev pub range_needs : (List ℕ → List ℕ) → Profile → (height offset count : ℕ) → Tree → List Held
range_needs X p height offset count (File m bytes) = blocks_read X p.chunk p.width m height offset count bytes
range_needs X p height offset count (Dir es) = []

-- these are the rows of nodes of a file of n bytes, where it has no metadata
abbrev pub AreHeights : Profile → (ℕ → ℕ) → Type 0
AreHeights p rows = (n : ℕ) → IsHeight p.chunk p.width n (rows n)

-- the same where it has this metadata, which stands in a node
abbrev pub rows_with : (ℕ → ℕ) → Meta → ℕ → ℕ
rows_with rows m n = max (lowest m) (rows n)

-- how often a range of a file touches the store at most, by the pieces that it meets and the file's rows
abbrev pub range_touches : Profile → (ℕ → ℕ) → (offset count : ℕ) → Tree → ℕ
range_touches p rows offset count (File m bytes) =
    2 * (pieces_met p.chunk offset count bytes + 2) * (rows_with rows m (length bytes) + 2)
range_touches p rows offset count (Dir es) = 0

-- all of these bytes are after what the sink held, and their number is n
abbrev pub SendsAll : SinkTold → SinkTold → List ℕ → ℕ → Type 0
SendsAll held held_now bytes n = (n ≡ length bytes) × (held_now ≡ after held bytes)

-- the bytes that are to be read: of what is refused, none
abbrev pub to_read : Result (List ℕ) Refused → List ℕ
to_read (Ok bytes) = bytes
to_read (Err why) = []

-- a block that is bad on the way to a file of the tree with this root, or in some file
abbrev pub IsBadRead : (List ℕ → List ℕ) → (List ℕ → ℕ) → Told → Cid → Role → List ℕ → Type 0
IsBadRead hash N told root role bytes =
    IsBadInTree hash N None root role bytes ⊎ ((file : Cid) × IsBadInFile told file role bytes)

-- no fault of a call that reads into a sink was passed over: a fault of the store or of the sink shows its cause, and
-- before any other answer both have stayed calm; an opened tree is ready
abbrev pub ShownSending : {A : Type 0} → (List ℕ → List ℕ) → (Role → List ℕ → Type 0) → Result A MfsFault
    → Seen → Seen → (faults faults_now : ℕ) → Type 0
ShownSending hash IsBad (Ok a) before now faults faults_now = StaysCalm before now × (faults_now ≡ faults)
ShownSending hash IsBad (Err (fault.Rule rule)) before now faults faults_now =
    StaysCalm before now × (faults_now ≡ faults)
ShownSending hash IsBad (Err (fault.Ready ready)) before now faults faults_now = ⊥
ShownSending hash IsBad (Err fault.Sink) before now faults faults_now = StaysCalm before now × Rose faults faults_now
ShownSending hash IsBad (Err (fault.Store f)) before now faults faults_now =
    Shows hash IsBad f before now × (faults_now ≡ faults)

module _ (X : List ℕ → List ℕ) (N : List ℕ → ℕ) (before now : Seen) (mfs : Mfs) (offset count : ℕ) where
  -- of the tree in memory, whose blocks are all held, the range of the file at these names is sent, or what refuses
  -- that is answered
  abbrev pub SendsHeld : List (List ℕ) → SinkTold → SinkTold → Result ℕ MfsFault → Type 0
  SendsHeld names held held_now result = (p : Profile) (es : Entries) → StandsAt X N before.told mfs p es
      → Stood before.faults now.faults → result ≢ Err fault.Sink
      → Answers (λ bytes n. SendsAll held held_now bytes n) names (range_at offset count names es) result

  -- the same where some of its blocks may be lost: or one of those that the range needs is lost
  abbrev pub SendsOver : List (List ℕ) → SinkTold → SinkTold → Result ℕ MfsFault → Type 0
  SendsOver names held held_now result = (p : Profile) (es : Entries) (height : ℕ)
      → StandsOver X N before.told mfs p es → IsHeightOf p height (at 0 names (Dir es))
      → Stood before.faults now.faults → result ≢ Err fault.Sink
      → AnswersOr (IsLossOf before.told (needs_at X N p (range_needs X p height offset count) names (Dir es)))
      (λ bytes n. SendsAll held held_now bytes n) names (range_at offset count names es) result

  -- and this many touches are enough: a few for each name, and those of the range
  abbrev pub TouchesRange : List (List ℕ) → (was is : ℕ) → Type 0
  TouchesRange names was is = (p : Profile) (es : Entries) (rows : ℕ → ℕ) → StandsOver X N before.told mfs p es
      → AreHeights p rows → Stood before.faults now.faults
      → is ≤ was + read_bound (range_touches p rows offset count) names (Dir es)
