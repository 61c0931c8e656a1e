-- What a layout keeps while it takes bytes, and what it answers.
use Rattle.std.specs.Prelude.{◌≡◌, ℕ, ◌+◌, ◌<◌, ◌≤◌, ◌^◌, ◌⊎◌, List, [], ◌∷◌, length, take, IsTrue}
use Rattle.uf_store.specs.Contents.{Told}
use Rattle.uf_store.specs.Keeping.{Holds}
use Rattle.uf_store.specs.Among.{SavesAmong}
use Rattle.uf_tree.specs.FilePlan.{file_plan, leaf_held, leaf_part}
use Rattle.uf_tree.specs.Profiles.{is_profile}
use Rattle.uf_tree.specs.declared.meta.Meta.{Meta}
use Rattle.uf_tree.specs.declared.nodes.Entry.{Entry}
use Rattle.uf_build.specs.declared.layout.Layout.{Layout}
use Rattle.uf_build.specs.Building.{Adds, Any, Builds, Ends, Feeds, IsHeld, SavesForBytes, SavesUpTo}
use Rattle.uf_build.specs.Rows.{AreOpen, add_held, add_row, groups_in, saved_all, sizes_of}

-- it has an accepted profile, room in its piece and in its groups, and with n more bytes it has not too many
pub record CanTake (more : ℕ) (l : Layout) : Type 0 where
  pub profile : IsTrue (is_profile l.profile)
  pub room : length l.begun.items < l.profile.chunk
  pub are_open : AreOpen l.profile.width (groups_in l.opened)
  pub most : sizes_of (groups_in l.opened) + length l.begun.items + more < 2 ^ 63

-- the same where its piece may be whole
pub record CanEnd (l : Layout) : Type 0 where
  pub profile : IsTrue (is_profile l.profile)
  pub size : length l.begun.items ≤ l.profile.chunk
  pub are_open : AreOpen l.profile.width (groups_in l.opened)
  pub most : sizes_of (groups_in l.opened) + length l.begun.items < 2 ^ 63

-- it took these bytes
pub record Takes (X : List ℕ → List ℕ) (bytes : List ℕ) (before now : Layout) (told told_now : Told)
    (touches touches_now : ℕ) : Type 0 where
  pub same_profile : now.profile ≡ before.profile
  pub room : length now.begun.items < before.profile.chunk
  pub feeds : Feeds X before.profile bytes before.begun.items now.begun.items
      (groups_in before.opened) (groups_in now.opened) told told_now touches touches_now

-- it took these whole pieces, and the piece that was begun is as before
pub record TakesPieces (X : List ℕ → List ℕ) (bytes : List ℕ) (before now : Layout) (told told_now : Told)
    (touches touches_now : ℕ) : Type 0 where
  pub takes : Takes X bytes before now told told_now touches touches_now
  pub begun : now.begun.items ≡ before.begun.items

-- it took the first n bytes: either that was all, or no piece is begun now
pub record TakesFront (X : List ℕ → List ℕ) (bytes : List ℕ) (front : ℕ) (before now : Layout) (told told_now : Told)
    (touches touches_now : ℕ) : Type 0 where
  pub takes : Takes X (take front bytes) before now told told_now touches touches_now
  pub fits : front ≤ length bytes
  pub all : (front ≡ length bytes) ⊎ (now.begun.items ≡ [])

-- it gave up while it took these bytes, after no more touches than the plan of all bytes has blocks, and saved no other
-- blocks
pub record StopsTaking (X : List ℕ → List ℕ) (bytes : List ℕ) (before now : Layout) (told told_now : Told)
    (touches touches_now : ℕ) : Type 0 where
  pub same_profile : now.profile ≡ before.profile
  pub most : SavesUpTo X before.profile bytes before.begun.items (groups_in before.opened) touches touches_now
  pub no_other : SavesForBytes X before.profile bytes before.begun.items (groups_in before.opened) told told_now

-- it saved the piece that was begun
pub record EndsPiece (X : List ℕ → List ℕ) (before now : Layout) (told told_now : Told)
    (touches touches_now : ℕ) : Type 0 where
  pub adds : Adds X before.profile before.begun.items
      (groups_in before.opened) (groups_in now.opened) told told_now touches touches_now
  pub begun : now.begun.items ≡ []

-- whatever was answered, the profile is as before, and no more was saved than one more piece wants
pub record StaysWithin (X : List ℕ → List ℕ) (before now : Layout) (told told_now : Told)
    (touches touches_now : ℕ) : Type 0 where
  pub same_profile : now.profile ≡ before.profile
  pub most : touches_now + saved_all before.profile.width (groups_in before.opened)
      ≤ touches + saved_all before.profile.width (add_row X before.profile.width (leaf_part X before.begun.items)
      (groups_in before.opened))
  pub no_other : SavesAmong X (leaf_held X before.begun.items ∷ add_held X before.profile.width
      (leaf_part X before.begun.items) (groups_in before.opened)) told told_now

-- it saved the last piece, where there was one
abbrev pub EndsLast : (List ℕ → List ℕ) → Layout → Layout → Told → Told → ℕ → ℕ → Type 0
EndsLast X before now told told_now touches touches_now = Ends X before.profile before.begun.items
    (groups_in before.opened) (groups_in now.opened) told told_now touches touches_now

-- of whatever bytes it was fed, the store was touched no more often than their plan has blocks, with what was saved
abbrev pub EndsUpTo : (List ℕ → List ℕ) → Meta → Layout → ℕ → ℕ → Type 0
EndsUpTo X meta l touches touches_now =
    (bytes : List ℕ) → Builds X Any l.profile bytes l.begun.items (groups_in l.opened)
    → touches_now + saved_all l.profile.width (groups_in l.opened)
    ≤ touches + length (file_plan X l.profile meta bytes).blocks

-- of whatever bytes it was fed, nothing was written but blocks of their plan
abbrev pub EndsAmong : (List ℕ → List ℕ) → Meta → Layout → Told → Told → Type 0
EndsAmong X meta l told told_now =
    (bytes : List ℕ) → Builds X Any l.profile bytes l.begun.items (groups_in l.opened)
    → SavesAmong X (file_plan X l.profile meta bytes).blocks told told_now

-- of whatever bytes it was fed, this is their entry, their blocks are held where what it saved was, and each was one
-- touch
pub record ClosesFile (X : List ℕ → List ℕ) (meta : Meta) (l : Layout) (entry : Entry) (told told_now : Told)
    (touches touches_now : ℕ) : Type 0 where
  pub entry_is : (bytes : List ℕ) → Builds X Any l.profile bytes l.begun.items (groups_in l.opened)
      → entry ≡ (file_plan X l.profile meta bytes).entry
  pub held : (bytes : List ℕ) → Builds X (IsHeld told) l.profile bytes l.begun.items (groups_in l.opened)
      → Holds told_now (file_plan X l.profile meta bytes).blocks
  pub saved : (bytes : List ℕ) → Builds X Any l.profile bytes l.begun.items (groups_in l.opened)
      → touches_now + saved_all l.profile.width (groups_in l.opened)
      ≡ touches + length (file_plan X l.profile meta bytes).blocks
