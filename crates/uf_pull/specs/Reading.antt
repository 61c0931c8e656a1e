-- What the calls that read frames answer and leave.
use Rattle.std.specs.Prelude.{◌≡◌, ◌⊎◌, ℕ, ◌+◌, ◌*◌, ◌-◌, ◌<◌, ◌≤◌, Bool, true, false, List, [], ◌++◌, length, take}
use Rattle.std.specs.Prelude.{drop, vec_len, ⊤}
use Rattle.std.specs.declared.option.Option.{Option}
use Rattle.std.specs.declared.option.Option.TheVariants.{None, Some}
use Rattle.std.specs.declared.result.Result.{Result}
use Rattle.std.specs.declared.result.Result.TheVariants.{Ok, Err}
use Rattle.uf_varint.specs.declared.varint.Var.{Var}
use Rattle.uf_varint.specs.declared.varint.Var.TheVariants.{Value, Short, Bad}
use Rattle.uf_cid.specs.declared.cid.Cid.{Cid}
use Rattle.uf_edge.specs.Streams.{Told}
use Rattle.uf_store.specs.declared.store.StoreFault.{StoreFault}
use Rattle.uf_store.specs.declared.store.StoreFault.TheVariants as store
use Rattle.uf_pull.specs.declared.fault.PullFault.{PullFault}
use Rattle.uf_pull.specs.declared.fault.PullFault.TheVariants as fault
use Rattle.uf_pull.specs.declared.frame.FrameFront.{FrameFront}
use Rattle.uf_pull.specs.declared.frame.FrameFront.TheVariants as front
use Rattle.uf_pull.specs.declared.peer.Peer.{Peer}
use Rattle.uf_pull.specs.Due.{Answer, Answered, Refused, answer_to}
use Rattle.uf_pull.specs.Frames.{Begins, BreaksOff, Deviates, Frames, Giving, Lacking, Stands, begins, frames_from}

-- the bytes from one place up to another
abbrev pub bytes_between : ℕ → ℕ → List ℕ → List ℕ
bytes_between from to bytes = take (to - from) (drop from bytes)

-- what a call says of these bytes
abbrev pub front_says : List ℕ → FrameFront → Begins
front_says bytes front.Cut = BreaksOff
front_says bytes front.Wrong = Deviates
front_says bytes (front.Lacks c) = Stands (Lacking c) 37
front_says bytes (front.Gives c from to) = Stands (Giving c (bytes_between from to bytes)) to

-- a block stands inside these bytes, and isn't too long
abbrev pub FitsFront : ℕ → FrameFront → Type 0
FitsFront size front.Cut = ⊤
FitsFront size front.Wrong = ⊤
FitsFront size (front.Lacks c) = ⊤
FitsFront size (front.Gives c from to) = (from ≤ to) × (to ≤ size) × (to - from ≤ 2097152) × (to ≤ 2097198)

-- a length has nine bytes at most
abbrev pub IsLength : Var → Type 0
IsLength (Value size used) = used ≤ 9
IsLength Short = ⊤
IsLength Bad = ⊤

-- the bytes after what they start with: none where they end inside a frame
abbrev pub IsLeftBehind : List ℕ → Begins → List ℕ → Type 0
IsLeftBehind bytes (Stands frame used) rest = rest ≡ drop used bytes
IsLeftBehind bytes BreaksOff rest = rest ≡ []
IsLeftBehind bytes Deviates rest = ⊤

-- what the bytes of a source start with was read into a buffer
pub record ReadsFront (buffer bytes : List ℕ) (front : FrameFront) (left_now : Told) : Type 0 where
  pub rest : List ℕ
  pub says : begins bytes ≡ front_says buffer front
  pub left : left_now ≡ Some rest
  pub behind : IsLeftBehind bytes (begins bytes) rest

-- ---- faults

-- the source failed
abbrev pub is_pull_read : {A : Type 0} → Result A PullFault → Bool
is_pull_read (Err fault.Read) = true
is_pull_read _ = false

-- the sink failed
abbrev pub is_pull_sink : {A : Type 0} → Result A PullFault → Bool
is_pull_sink (Err fault.Sink) = true
is_pull_sink _ = false

-- the store's fault in an answer
abbrev pub pull_fault : {A : Type 0} → Result A PullFault → Option StoreFault
pull_fault (Err (fault.Store f)) = Some f
pull_fault _ = None

-- the source failed, or there was no memory
abbrev pub StopsReading : PullFault → Type 0
StopsReading fault.Read = ⊤
StopsReading (fault.Store f) = f ≡ store.Memory
StopsReading _ = ⊥

-- no store and no sink was asked
abbrev pub IsOfPeer : PullFault → Type 0
IsOfPeer (fault.NotDagPb c why) = ⊥
IsOfPeer fault.TooMany = ⊥
IsOfPeer fault.Sink = ⊥
IsOfPeer (fault.Store f) = f ≡ store.Memory
IsOfPeer _ = ⊤

-- the fault says nothing of the DAG or the frames: the source, the sink or the store failed, or there was no memory
abbrev pub stops_pull : PullFault → Bool
stops_pull fault.Read = true
stops_pull fault.Sink = true
stops_pull (fault.Store f) = true
stops_pull _ = false

-- ---- answers

-- some bytes were read and used: the place has moved on by as many, and those after them are left
pub record UsesBytes (place : ℕ) (bytes : List ℕ) (now : Peer) (left_now : Told) : Type 0 where
  pub rest : List ℕ
  pub used : ℕ
  pub left : left_now ≡ Some rest
  pub moved : now.place ≡ place + used
  pub behind : rest ≡ drop used bytes

-- a block has answered
pub record AnswersWith (said : Answer) (found : ℕ × ℕ) (place : ℕ) (bytes : List ℕ) (now : Peer) (left_now : Told)
    : Type 0 where
  pub uses : UsesBytes place bytes now left_now
  pub says : said ≡ Answered (bytes_between found.0 found.1 now.buffer.items) now.more (frames_from now.place uses.rest)

-- of the bytes from one place on, those from another one on are left
pub record LeavesFrom (place used : ℕ) (bytes : List ℕ) (left_now : Told) : Type 0 where
  pub count : ℕ
  pub moved : used ≡ place + count
  pub left : left_now ≡ Some (drop count bytes)

-- what a refusal leaves of the bytes from a place on: nothing where they end, and else all that wasn't used; where a
-- frame deviates, it isn't said how much of that frame was read
abbrev pub LeavesRest : PullFault → ℕ → ℕ → List ℕ → Told → Type 0
LeavesRest (fault.Ended c) place used bytes left_now = left_now ≡ Some []
LeavesRest (fault.Bad at) place used bytes left_now = ⊤
LeavesRest _ place used bytes left_now = LeavesFrom place used bytes left_now

-- it was refused so
pub record RefusesWith (said : Answer) (f : PullFault) (place : ℕ) (bytes : List ℕ) (left_now : Told) : Type 0 where
  pub used : ℕ
  pub says : said ≡ Refused f used
  pub rest : LeavesRest f place used bytes left_now

-- what frames answer is answered, unless the call was stopped
abbrev pub AnswersBy : Answer → Result (ℕ × ℕ) PullFault → ℕ → List ℕ → Peer → Told → Type 0
AnswersBy said (Ok found) place bytes now left_now = AnswersWith said found place bytes now left_now
AnswersBy said (Err f) place bytes now left_now = stops_pull f ≡ false → RefusesWith said f place bytes left_now

-- one frame was dropped, and those after it answer
pub record LeavesTo (hash : List ℕ → List ℕ) (c : Cid) (said : Answer) (place : ℕ) (bytes : List ℕ) (now : Peer)
    (left_now : Told) : Type 0 where
  pub uses : UsesBytes place bytes now left_now
  pub says : said ≡ answer_to hash c now.more (frames_from now.place uses.rest)

-- the same of one frame
abbrev pub StepsBy : (List ℕ → List ℕ) → Cid → Answer → Result (Option (ℕ × ℕ)) PullFault → ℕ → List ℕ → Peer → Told
    → Type 0
StepsBy hash c said (Ok None) place bytes now left_now = LeavesTo hash c said place bytes now left_now
StepsBy hash c said (Ok (Some found)) place bytes now left_now = AnswersWith said found place bytes now left_now
StepsBy hash c said (Err f) place bytes now left_now = stops_pull f ≡ false → RefusesWith said f place bytes left_now

-- the place of the next frame is after those that answered and those that were dropped
pub record IsInPlace (peer : Peer) : Type 0 where
  pub some : peer.more ≤ 1024
  pub few : peer.place ≤ (peer.added + (1024 - peer.more)) * 2097198

-- one block of a CID stands in a buffer
pub record FindsBlock (hash : List ℕ → List ℕ) (c : Cid) (found : ℕ × ℕ) (peer : Peer) : Type 0 where
  pub order : found.0 ≤ found.1
  pub fits : found.1 ≤ vec_len peer.buffer
  pub size : found.1 - found.0 ≤ 2097152
  pub digest : hash (bytes_between found.0 found.1 peer.buffer.items) ≡ c.digest

-- nothing but the buffer has changed
pub record KeepsCounts (before now : Peer) : Type 0 where
  pub same_place : now.place ≡ before.place
  pub same_more : now.more ≡ before.more
  pub same_added : now.added ≡ before.added

-- a frame of n bytes was dropped
pub record HasDropped (size : ℕ) (before now : Peer) : Type 0 where
  pub one_less : before.more ≡ now.more + 1
  pub place : now.place ≡ before.place + size
  pub same_added : now.added ≡ before.added

-- the answer for a frame that answers for nothing that was asked
abbrev pub DropsFrame : ℕ → Result (Option (ℕ × ℕ)) PullFault → Peer → Peer → Type 0
DropsFrame size (Ok None) before now = HasDropped size before now
DropsFrame size (Ok (Some found)) before now = ⊥
DropsFrame size (Err f) before now = (f ≡ fault.Noise) × (before.more ≡ 0)

-- a frame that answered for a block was passed over
pub record HasPassed (before now : Peer) : Type 0 where
  pub same_more : now.more ≡ before.more
  pub place : now.place ≤ before.place + 2097198
  pub same_added : now.added ≡ before.added

abbrev pub CountsFrame : Option (ℕ × ℕ) → Peer → Peer → Type 0
CountsFrame None before now = (now.more < before.more) × (now.added ≡ before.added) × IsInPlace now
CountsFrame (Some found) before now = HasPassed before now
