-- What `pull` and its steps answer and leave.
use Rattle.std.specs.Prelude.{◌≡◌, ◌⊎◌, ℕ, suc, ◌+◌, ◌≤◌, Bool, true, false, List, [], ◌∷◌, length, take}
use Rattle.std.specs.Prelude.{drop, ⊤}
use Rattle.std.specs.declared.option.Option.{Option}
use Rattle.std.specs.declared.option.Option.TheVariants.{Some}
use Rattle.std.specs.declared.result.Result.{Result}
use Rattle.std.specs.declared.result.Result.TheVariants.{Ok, Err}
use Rattle.uf_cid.specs.Blocks.{Held, Lookup}
use Rattle.uf_cid.specs.declared.cid.Cid.{Cid}
use Rattle.uf_edge.specs.Streams.{AppendsPrefix, after}
use Rattle.uf_edge.specs.Streams as streams
use Rattle.uf_store.specs.Contents.{Contents, Told, held_at, with_save, with_sync}
use Rattle.uf_store.specs.Faults.{NoneIsBad, Shown}
use Rattle.uf_store.specs.Keeping.{KeepsGood}
use Rattle.uf_store.specs.Seen.{Finds, MissesBlock, Seen}
use Rattle.uf_store.specs.Writing.{Wrote}
use Rattle.uf_store.specs.declared.store.StoreFault.{StoreFault}
use Rattle.uf_store.specs.declared.store.StoreFault.TheVariants as store
use Rattle.uf_store.specs.declared.store.Write.{Write}
use Rattle.uf_store.specs.declared.store.Write.TheVariants.{Saved, Synced, Noted}
use Rattle.uf_walk.specs.Order.{Follow, follow_held, goes}
use Rattle.uf_walk.specs.Turns.{HasTaken}
use Rattle.uf_walk.specs.Walked.{Walked, course}
use Rattle.uf_pull.specs.declared.fault.PullFault.{PullFault}
use Rattle.uf_pull.specs.declared.fault.PullFault.TheVariants as fault
use Rattle.uf_pull.specs.declared.peer.Peer.{Peer}
use Rattle.uf_pull.specs.Due.{Due, cids_of, due_behind, due_text, due_within}
use Rattle.uf_pull.specs.Frames.{frames_from}
use Rattle.uf_pull.specs.Reading.{LeavesRest, stops_pull}
use Rattle.uf_pull.specs.Wants.{done_line, wants_text}

-- ---- the store

-- blocks were saved, one after another
abbrev pub with_all : List Held → Contents → Contents
with_all [] t = t
with_all (b ∷ blocks) t = with_all blocks (with_save b.0 b.1 t)

-- the write is a save or a sync
abbrev pub IsSaveOrSync : Write → Type 0
IsSaveOrSync (Saved cid bytes) = ⊤
IsSaveOrSync Synced = ⊤
IsSaveOrSync (Noted which text) = ⊥

-- a fault that a pull may have: no block that it looks for has to be there, and it reads none in a role
abbrev pub IsPulling : StoreFault → Type 0
IsPulling store.Failed = ⊤
IsPulling (store.Damaged c) = ⊤
IsPulling (store.Missing c) = ⊥
IsPulling (store.BadBlock c role) = ⊥
IsPulling (store.Clash c a b) = ⊤
IsPulling store.Memory = ⊤

-- a call that looks for blocks and keeps some: its fault has its cause, good blocks are kept, and nothing but blocks
-- and syncs is written
pub record OnlyPulls (hash : List ℕ → List ℕ) (fault : Option StoreFault) (before now : Seen) : Type 0 where
  pub cause : Shown hash NoneIsBad fault before now
  pub good : KeepsGood hash before.told now.told
  pub writes : Wrote hash IsSaveOrSync before.told now.told

-- whether a block is held, which is lent then
abbrev pub LooksFor : (List ℕ → List ℕ) → Cid → Result Bool PullFault → Seen → Seen → Type 0
LooksFor hash c (Ok true) before now = Finds hash c before now
LooksFor hash c (Ok false) before now = MissesBlock c before now
LooksFor hash c (Err f) before now = (now.told ≡ before.told) × (stops_pull f ≡ true)

-- a line was written, or a part of it where the sink failed
abbrev pub SendsLine : List ℕ → Result Unit PullFault → streams.Told → streams.Told → Type 0
SendsLine line (Ok u) out out_now = out_now ≡ after out line
SendsLine line (Err f) out out_now = (f ≡ fault.Sink) × AppendsPrefix line out out_now

-- ---- the walk

-- wherever links are followed as they are from what is held, the walk goes as it does from its root
pub record IsOnCourse (root : Cid) (held : Lookup) (walk : Walked) : Type 0 where
  pub goes_on : (follow : Follow)
      → ((c : Cid) (links : List Cid) → follow_held held c ≡ Some links → follow c ≡ Some links)
      → course follow walk ≡ goes follow walk.most (root ∷ [])

-- ---- the answers

-- all is there
pub record Pulled (d : Due) (n : ℕ) (bytes : List ℕ) (t : Contents) (told_now : Told)
    (out out_now left_now : streams.Told) : Type 0 where
  pub whole : d.ends ≡ Ok tt
  pub count : n ≡ length d.blocks
  pub kept : told_now ≡ Some (with_sync (with_all d.blocks t))
  pub written : out_now ≡ after out (due_text d)
  pub rest : left_now ≡ Some (drop d.used bytes)

-- the DAG or the frames refuse it, over an input whose first byte has this place
pub record RefusesSo (d : Due) (f : PullFault) (place : ℕ) (bytes : List ℕ) (t : Contents) (told_now : Told)
    (out out_now left_now : streams.Told) : Type 0 where
  pub ends : d.ends ≡ Err f
  pub kept : told_now ≡ Some (with_all d.blocks t)
  pub written : out_now ≡ after out (due_text d)
  pub rest : LeavesRest f place d.used bytes left_now

-- it was stopped before the sync: the first n of the blocks were kept, and all that is written is a prefix of the wants
pub record StopsUnsynced (d : Due) (t : Contents) (told_now : Told) (out out_now : streams.Told) : Type 0 where
  pub count : ℕ
  pub few : count ≤ length d.blocks
  pub kept : told_now ≡ Some (with_all (take count d.blocks) t)
  pub written : AppendsPrefix (wants_text d.wants) out out_now

-- it was stopped after the sync: all is there, its blocks were kept and then synced, and after the wants a prefix of
-- `done` is written
pub record StopsSynced (d : Due) (t : Contents) (told_now : Told) (out out_now : streams.Told) : Type 0 where
  pub whole : d.ends ≡ Ok tt
  pub kept : told_now ≡ Some (with_sync (with_all d.blocks t))
  pub written : AppendsPrefix done_line (after out (wants_text d.wants)) out_now

-- it was stopped: no byte of `done` is written unless all blocks were kept and a sync came after them
abbrev pub StopsPull : Due → Contents → Told → streams.Told → streams.Told → Type 0
StopsPull d t told_now out out_now = StopsUnsynced d t told_now out out_now ⊎ StopsSynced d t told_now out out_now

abbrev pub RefusesBy : Bool → Due → PullFault → ℕ → List ℕ → Contents → Told → streams.Told → streams.Told
    → streams.Told → Type 0
RefusesBy true d f place bytes t told_now out out_now left_now = StopsPull d t told_now out out_now
RefusesBy false d f place bytes t told_now out out_now left_now =
    RefusesSo d f place bytes t told_now out out_now left_now

-- the answer of `pull`, where store and input tell
abbrev pub Pulls : Due → List ℕ → Result ℕ PullFault → Contents → Told → streams.Told → streams.Told
    → streams.Told → Type 0
Pulls d bytes (Ok n) t told_now out out_now left_now = Pulled d n bytes t told_now out out_now left_now
Pulls d bytes (Err f) t told_now out out_now left_now =
    RefusesBy (stops_pull f) d f 0 bytes t told_now out out_now left_now

-- all blocks were kept and a sync came after them, or no byte of `done` is written, but at most the wants
abbrev pub IsDoneLast : Due → Contents → Told → streams.Told → streams.Told → Type 0
IsDoneLast d t told_now out out_now =
    (told_now ≡ Some (with_sync (with_all d.blocks t))) ⊎ AppendsPrefix (wants_text d.wants) out out_now

-- ---- one CID of the walk

-- where a pull stands: how many more frames may be dropped, the place of the next one, and how many blocks were added
pub record Stand : Type 0 where
  pub more : ℕ
  pub place : ℕ
  pub added : ℕ

abbrev pub stand : Peer → Stand
stand p = record { more = p.more; place = p.place; added = p.added }

-- nothing was read and added
abbrev pub at_first : Stand
at_first = record { more = 1024; place = 0; added = 0 }

-- what is due from there on, of at most n blocks
abbrev pub due_at : (List ℕ → List ℕ) → ℕ → Cid → ℕ → Contents → Stand → List ℕ → Due
due_at hash most root n t s bytes = due_within hash most root n (held_at t) s.more (frames_from s.place bytes)

-- blocks were asked for and kept, and what is due goes on after them
pub record PullsOn (hash : List ℕ → List ℕ) (most : ℕ) (root : Cid) (before : Stand) (t : Contents) (bytes : List ℕ)
    (out : streams.Told) (now : Stand) (walk_now : Walked) (told_now : Told) (left_now out_now : streams.Told)
    : Type 0 where
  pub blocks : List Held
  pub rest : List ℕ
  pub used : ℕ
  pub kept : told_now ≡ Some (with_all blocks t)
  pub left : left_now ≡ Some rest
  pub moved : now.place ≡ before.place + used
  pub behind : rest ≡ drop used bytes
  pub written : out_now ≡ after out (wants_text (cids_of blocks))
  pub added : now.added ≡ before.added + length blocks
  pub due : (n m : ℕ) → m ≡ length blocks + n → due_at hash most root m t before bytes
      ≡ due_behind blocks (due_at hash most root n (with_all blocks t) now rest)
  pub on_course : IsOnCourse root (held_at (with_all blocks t)) walk_now

-- the answer for the CID that is due
abbrev pub VisitsCid : (List ℕ → List ℕ) → ℕ → Cid → Result Unit PullFault → Stand → Contents → List ℕ → streams.Told
    → Stand → Walked → Told → streams.Told → streams.Told → Type 0
VisitsCid hash most root (Ok u) before t bytes out now walk_now told_now left_now out_now =
    PullsOn hash most root before t bytes out now walk_now told_now left_now out_now
VisitsCid hash most root (Err f) s t bytes out now walk_now told_now left_now out_now =
    (n : ℕ) → RefusesBy (stops_pull f) (due_at hash most root (suc n) t s bytes) f s.place bytes t told_now out out_now
    left_now

-- the walk goes on, and at most one block more was added
pub record StepsWalk (before now : Walked) (peer peer_now : Peer) : Type 0 where
  pub taken : HasTaken before now
  pub few : peer_now.added ≤ peer.added + 1

-- no sync was made and nothing is written, or a sync was made and a prefix of `done` is written
pub record StopsLast (f : PullFault) (t : Contents) (told_now : Told) (out out_now : streams.Told) : Type 0 where
  pub stopped : stops_pull f ≡ true
  pub last : ((told_now ≡ Some t) × (out_now ≡ out))
      ⊎ ((told_now ≡ Some (with_sync t)) × AppendsPrefix done_line out out_now)

-- all is made durable, and the peer is told so; or that was stopped
abbrev pub Closes : Result Unit PullFault → Contents → Told → streams.Told → streams.Told → Type 0
Closes (Ok u) t told_now out out_now = (told_now ≡ Some (with_sync t)) × (out_now ≡ after out done_line)
Closes (Err f) t told_now out out_now = StopsLast f t told_now out out_now
