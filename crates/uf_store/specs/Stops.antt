-- What a stop leaves of the writes of a store.
use Rattle.std.specs.Prelude.{◌≡◌, ℕ, ◌+◌, List, [], ◌∷◌, ◌++◌, Bool, true, false, ◌==◌, ◌||◌, not, nat_lt, max, fold}
use Rattle.std.specs.Prelude.{Some, IfSome, if◌then◌else◌}
use Rattle.std.specs.List.{list_any}
use Rattle.std.specs.FinMap.{get, insert, empty}
use Rattle.uf_cid.specs.declared.cid.Cid.{Cid}
use Rattle.uf_cid.specs.Blocks.{Held, Holds}
use Rattle.uf_store.specs.declared.store.Write.{Write}
use Rattle.uf_store.specs.declared.store.Write.TheVariants.{Saved, Synced, Noted}
use Rattle.uf_store.specs.Contents.{Contents, HeldMap, Notes, Told, held_after, held_at, no_notes, notes_after}

-- the map of all saves
abbrev pub held_by : List Write → HeldMap
held_by ws = fold held_after empty ws

-- the last text of each note
abbrev pub notes_by : List Write → Notes
notes_by ws = fold notes_after no_notes ws

-- the map of the saves before the last sync: all saves so far, and those at the last sync
abbrev pub firm_after : HeldMap × HeldMap → Write → HeldMap × HeldMap
firm_after s (Saved cid bytes) = (insert s.0 cid bytes, s.1)
firm_after s Synced = (s.0, s.0)
firm_after s (Noted which text) = s

abbrev pub firm : List Write → HeldMap
firm ws = (fold firm_after (empty, empty) ws).1

-- what is told is what was written
pub record IsPlain (t : Contents) : Type 0 where
  pub held : t.held ≡ held_by t.writes
  pub notes : t.notes ≡ notes_by t.writes

-- m is a part of n
abbrev pub IsPart : HeldMap → HeldMap → Type 0
IsPart m n = (c : Cid) (bytes : List ℕ) → get m c ≡ Some bytes → get n c ≡ Some bytes

-- a stop after these writes may leave this
pub record IsOutcome (ws : List Write) (held : HeldMap) (notes : Notes) : Type 0 where
  pub notes_are : notes ≡ notes_by ws
  pub part : IsPart held (held_by ws)
  pub firm_stays : IsPart (firm ws) held

-- where the store tells, what it tells is what was written
abbrev pub TellsPlain : Told → Type 0
TellsPlain told = IfSome told IsPlain

-- what is told is what was written, the note Head has this text, and each of these blocks was saved before the last
-- sync: no stop takes any of that away
pub record IsSafe (t : Contents) (head : List ℕ) (blocks : List Held) : Type 0 where
  pub plain : IsPlain t
  pub head_is : t.notes.head ≡ Some head
  pub held : Holds (held_at t) blocks
  pub firm_too : Holds (λ cid. get (firm t.writes) cid) blocks

-- the contents after one write more
abbrev pub with_write : Write → Contents → Contents
with_write w t = record { held = held_after t.held w; notes = notes_after t.notes w; writes = t.writes ++ w ∷ [] }

-- the contents after these writes, from nothing on
abbrev pub written : List Write → Contents
written ws = record { held = held_by ws; notes = notes_by ws; writes = ws }

-- the place after the last sync, 0 where there is none; n is the place of the first of these writes
abbrev pub behind_sync : ℕ → List Write → ℕ
behind_sync n [] = 0
behind_sync n (Saved cid bytes ∷ ws) = behind_sync (n + 1) ws
behind_sync n (Synced ∷ ws) = max (n + 1) (behind_sync (n + 1) ws)
behind_sync n (Noted which text ∷ ws) = behind_sync (n + 1) ws

-- the same with one write more, which is at this place
abbrev pub behind_with : ℕ → ℕ → Write → ℕ
behind_with behind place (Saved cid bytes) = behind
behind_with behind place Synced = place + 1
behind_with behind place (Noted which text) = behind

-- a write survives: a note, and a save that stands before the last sync or whose place isn't lost
abbrev pub survives : List ℕ → ℕ → ℕ → Write → Bool
survives lost firm place (Saved cid bytes) = nat_lt place firm || not (list_any (λ n. n == place) lost)
survives lost firm place Synced = false
survives lost firm place (Noted which text) = true

-- those of the writes from a place on that survive
abbrev pub survivors : List ℕ → ℕ → ℕ → List Write → List Write
survivors lost firm place [] = []
survivors lost firm place (w ∷ ws) =
    if survives lost firm place w then w ∷ survivors lost firm (place + 1) ws else survivors lost firm (place + 1) ws

-- the writes of a store after a stop: the surviving ones of these writes, and one sync
abbrev pub after_stop : List ℕ → List Write → List Write
after_stop lost ws = survivors lost (behind_sync 0 ws) 0 ws ++ Synced ∷ []
