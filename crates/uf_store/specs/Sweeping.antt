-- What a sweep of a store leaves: a part of the blocks, the notes, and the list of writes that makes just these.
use Rattle.std.specs.Prelude.{◌≡◌, ℕ, ◌+◌, List, [], ◌∷◌, ◌++◌, Bool, true, false, fold, Some, None, IfSome}
use Rattle.std.specs.Prelude.{if◌then◌else◌}
use Rattle.std.specs.declared.option.Option.{Option}
use Rattle.std.specs.FinMap.{get, insert, len, retain_keys}
use Rattle.std.specs.List.{list_any}
use Rattle.std.specs.Ordering.{eq_by_cmp}
use Rattle.uf_cid.specs.declared.cid.Cid.{Cid}
use Rattle.uf_cid.specs.Blocks.{Lookup}
use Rattle.uf_cid.specs.Cid.{cid_cmp}
use Rattle.uf_store.specs.declared.store.Note.{Note}
use Rattle.uf_store.specs.declared.store.Note.TheVariants.{Head, Pins}
use Rattle.uf_store.specs.declared.store.Write.{Write}
use Rattle.uf_store.specs.declared.store.Write.TheVariants.{Saved, Synced, Noted}
use Rattle.uf_store.specs.declared.sweep.Swept.{Swept}
use Rattle.uf_store.specs.declared.sweep.Swept.TheVariants.{Done, Failed, Memory}
use Rattle.uf_store.specs.Contents.{Contents, HeldMap, Notes, changed}
use Rattle.uf_store.specs.Seen.{Counted, GivesUp, Seen}

-- the CID is one of these
abbrev pub is_among : List Cid → Cid → Bool
is_among cids c = list_any (λ d. eq_by_cmp cid_cmp c d) cids

-- the write saves a block under the CID
abbrev pub is_save_of : Cid → Write → Bool
is_save_of c (Saved cid bytes) = eq_by_cmp cid_cmp c cid
is_save_of c Synced = false
is_save_of c (Noted which text) = false

-- one of these writes does
abbrev pub is_saved : Cid → List Write → Bool
is_saved c ws = list_any (is_save_of c) ws

-- the save of a block, where there is one
abbrev pub save_of : Cid → Option (List ℕ) → List Write
save_of cid None = []
save_of cid (Some bytes) = Saved cid bytes ∷ []

-- the writing of a note, where there is one
abbrev pub note_of : Note → Option (List ℕ) → List Write
note_of which None = []
note_of which (Some text) = Noted which text ∷ []

-- the save that is left of a write before these: of what is held under its CID, where none of them saves that
abbrev pub left_of : Lookup → Write → List Write → List Write
left_of held (Saved cid bytes) ws = if is_saved cid ws then [] else save_of cid (held cid)
left_of held Synced ws = []
left_of held (Noted which text) ws = []

-- the saves of what is held, each where its CID was saved last
abbrev pub last_saves : Lookup → List Write → List Write
last_saves held [] = []
last_saves held (w ∷ ws) = left_of held w ws ++ last_saves held ws

-- whether no save stands after the last sync, with one write more
abbrev pub synced_after : Bool → Write → Bool
synced_after b (Saved cid bytes) = false
synced_after b Synced = true
synced_after b (Noted which text) = b

-- a sync stands after the last save
abbrev pub is_synced : List Write → Bool
is_synced ws = fold synced_after false ws

-- one sync, where the saves were durable
abbrev pub sync_of : Bool → List Write
sync_of true = Synced ∷ []
sync_of false = []

-- the writes that make what is held, and the notes
abbrev pub writes_of : Lookup → Notes → List Write → List Write
writes_of held notes ws =
    last_saves held ws ++ note_of Head notes.head ++ note_of Pins notes.pins ++ sync_of (is_synced ws)

-- the blocks under some of the CIDs
abbrev pub part_of : HeldMap → (Cid → Bool) → HeldMap
part_of held stays = retain_keys held stays

-- a map with the block that another one has under a CID, where it has one
abbrev pub with_found : Option (List ℕ) → Cid → HeldMap → HeldMap
with_found None cid m = m
with_found (Some bytes) cid m = insert m cid bytes

abbrev pub with_block_of : HeldMap → Cid → HeldMap → HeldMap
with_block_of held cid m = with_found (get held cid) cid m

-- what is told where the blocks of some CIDs stay and the others went
abbrev pub swept : (Cid → Bool) → Contents → Contents
swept stays t = record {
  held = part_of t.held stays;
  notes = t.notes;
  writes = writes_of (λ cid. get (part_of t.held stays) cid) t.notes t.writes;
}

-- these are the CIDs of the saves among these writes
abbrev pub AreSaved : List Cid → List Write → Type 0
AreSaved cids ws = (c : Cid) → is_among cids c ≡ is_saved c ws

-- the save that is left of a write was put after others, and its CID among those of the saves
pub record PutsSave (held : Lookup) (w : Write) (ws : List Write) (saves saves_now : List Write)
    (cids : List Cid) : Type 0 where
  pub put : saves_now ≡ saves ++ left_of held w ws
  pub are_saved : AreSaved cids (w ∷ ws)

-- each block that isn't kept went, and n is their number
pub record Drops (kept : List Cid) (n : ℕ) (before now : Seen) : Type 0 where
  pub left : now.told ≡ changed (swept (is_among kept)) before.told
  pub count : IfSome before.told (λ t. len (part_of t.held (is_among kept)) + n ≡ len t.held)
  pub lends_none : now.lent ≡ []
  pub counted : Counted false false false false before now

-- the store failed, and some of the blocks that aren't kept went
pub record FailsToDrop (kept : List Cid) (before now : Seen) : Type 0 where
  pub stays : Cid → Bool
  pub keeps : (c : Cid) → is_among kept c ≡ true → stays c ≡ true
  pub left : now.told ≡ changed (swept stays) before.told
  pub lends_none : now.lent ≡ []
  pub counted : Counted false false true false before now

-- there was no memory, and no block went
pub record DropsNone (before now : Seen) : Type 0 where
  pub same_told : now.told ≡ before.told
  pub lends_none : now.lent ≡ []
  pub counted : Counted false false false false before now

-- the answer of `sweep`
abbrev pub Sweeps : List Cid → Swept → Seen → Seen → Type 0
Sweeps kept (Done n) before now = Drops kept n before now
Sweeps kept Failed before now = FailsToDrop kept before now
Sweeps kept Memory before now = DropsNone before now
