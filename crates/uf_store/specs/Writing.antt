-- What calls over a store write: the writes that they append to the list, and what is held and noted after these.
use Rattle.std.specs.Prelude.{◌≡◌, ℕ, List, [], ◌∷◌, ◌++◌, fold, Some, None, ⊤}
use Rattle.std.specs.FinMap.{get, insert}
use Rattle.std.specs.List.{AllByRecursion}
use Rattle.uf_cid.specs.declared.cid.Cid.{Cid}
use Rattle.uf_store.specs.declared.store.Write.{Write}
use Rattle.uf_store.specs.declared.store.Write.TheVariants.{Saved, Synced, Noted}
use Rattle.uf_store.specs.Contents.{Contents, HeldMap, Told, held_after, notes_after}

-- each block of this CID's digest that is under it is this one
abbrev pub MeetsNoOther : (List ℕ → List ℕ) → Cid → List ℕ → HeldMap → Type 0
MeetsNoOther hash cid bytes m = (other : List ℕ) → get m cid ≡ Some other → hash other ≡ cid.digest → other ≡ bytes

-- saves put into a map in order: each is of a block under a CID of its digest, and replaces no other block of that
-- digest
abbrev pub ReplaceNone : (List ℕ → List ℕ) → HeldMap → List Write → Type 0
ReplaceNone hash m [] = ⊤
ReplaceNone hash m (Saved cid bytes ∷ ws) =
    (hash bytes ≡ cid.digest) × MeetsNoOther hash cid bytes m × ReplaceNone hash (insert m cid bytes) ws
ReplaceNone hash m (Synced ∷ ws) = ReplaceNone hash m ws
ReplaceNone hash m (Noted which text ∷ ws) = ReplaceNone hash m ws

-- the write is a save
abbrev pub IsSave : Write → Type 0
IsSave (Saved cid bytes) = ⊤
IsSave Synced = ⊥
IsSave (Noted which text) = ⊥

-- the write is a save or a sync
abbrev pub IsSaveOrSync : Write → Type 0
IsSaveOrSync (Saved cid bytes) = ⊤
IsSaveOrSync Synced = ⊤
IsSaveOrSync (Noted which text) = ⊥

-- any write will do: a save, a sync or a note
abbrev pub IsAny : Write → Type 0
IsAny write = ⊤

-- writes of one kind were appended: what is held is what their saves make of the old map, and the notes are the last
-- texts
pub record Appends (hash : List ℕ → List ℕ) (IsOne : Write → Type 0) (t u : Contents) : Type 0 where
  pub added : List Write
  pub each : AllByRecursion IsOne added
  pub writes : u.writes ≡ t.writes ++ added
  pub held : u.held ≡ fold held_after t.held added
  pub notes : u.notes ≡ fold notes_after t.notes added
  pub replace_none : ReplaceNone hash t.held added

-- where the store tells, it tells as before, and writes of one kind were appended
abbrev pub Wrote : (List ℕ → List ℕ) → (Write → Type 0) → Told → Told → Type 0
Wrote hash IsOne None None = ⊤
Wrote hash IsOne None (Some u) = ⊥
Wrote hash IsOne (Some t) None = ⊥
Wrote hash IsOne (Some t) (Some u) = Appends hash IsOne t u

-- nothing but blocks was written
abbrev pub SavesOnly : (List ℕ → List ℕ) → Told → Told → Type 0
SavesOnly hash before now = Wrote hash IsSave before now

-- nothing was written but blocks, syncs and notes
abbrev pub WritesOnly : (List ℕ → List ℕ) → Told → Told → Type 0
WritesOnly hash before now = Wrote hash IsAny before now
