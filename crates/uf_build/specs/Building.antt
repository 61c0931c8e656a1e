-- What contracts see of a builder of a file.
use Rattle.std.specs.Prelude.{◌≡◌, ℕ, ◌+◌, ◌<◌, ◌≤◌, List, [], ◌∷◌, ◌++◌, length, map, Bool, ⊤}
use Rattle.std.specs.List.{AllByRecursion}
use Rattle.uf_tree.specs.Profiles.{most_bytes}
use Rattle.uf_cid.specs.Blocks.{Held}
use Rattle.uf_store.specs.Contents.{Told}
use Rattle.uf_store.specs.Keeping.{Holds}
use Rattle.uf_store.specs.Among.{SavesAmong}
use Rattle.uf_tree.specs.Cutting.{joined}
use Rattle.uf_tree.specs.Metas.{none}
use Rattle.uf_tree.specs.FilePlan.{chunks, file_plan, leaf_part, leaf_held}
use Rattle.uf_tree.specs.declared.meta.Meta.{Meta}
use Rattle.uf_tree.specs.declared.nodes.Part.{Part}
use Rattle.uf_tree.specs.declared.profile.Profile.{Profile}
use Rattle.uf_build.specs.Rows.{AreAll, AreOpen, last_in, saved_all, sizes_of}

-- a builder: its profile, how many bytes it was fed, whether it gave up, the piece that it has begun, and its open
-- groups with the last part before them
pub record Building : Type 0 where
  pub profile : Profile
  pub fed : ℕ
  pub is_spent : Bool
  pub begun : List ℕ
  pub rows : List (List Part)

-- pieces of a file and the open groups over them, of whose saved blocks P holds
pub record ArePieces (X : List ℕ → List ℕ) (P : Held → Type 0) (p : Profile) (pieces : List (List ℕ))
    (rows : List (List Part)) : Type 0 where
  pub held : AllByRecursion P (map (leaf_held X) pieces)
  pub rows_are : AreAll X p.width P (map (leaf_part X) pieces) rows

-- these bytes are whole pieces, and the piece that was begun
pub record Builds (X : List ℕ → List ℕ) (P : Held → Type 0) (p : Profile) (bytes begun : List ℕ)
    (rows : List (List Part)) : Type 0 where
  pub pieces : List (List ℕ)
  pub cut : bytes ≡ joined pieces ++ begun
  pub whole : AllByRecursion (λ piece. length piece ≡ p.chunk) pieces
  pub are_pieces : ArePieces X P p pieces rows

-- any block
abbrev pub Any : Held → Type 0
Any block = ⊤

-- a block that is held where the store tells
abbrev pub IsHeld : Told → Held → Type 0
IsHeld told block = Holds told (block ∷ [])

-- the builder was fed these bytes
unfoldable pub HasFed : (List ℕ → List ℕ) → List ℕ → Building → Type 0
HasFed X bytes b = Builds X Any b.profile bytes b.begun b.rows

-- the builder was fed these bytes, and what it has saved of their plan is held where the store tells
unfoldable pub HoldsFed : (List ℕ → List ℕ) → List ℕ → Told → Building → Type 0
HoldsFed X bytes told b = Builds X (IsHeld told) b.profile bytes b.begun b.rows

-- how many blocks a builder that didn't give up has saved: a part of each row is one
unfoldable pub saved_by : Building → ℕ
saved_by b = saved_all b.profile.width b.rows

-- a call that takes these bytes touches the store no more often than the plan of all bytes has blocks, with what was
-- saved
abbrev pub SavesUpTo : (List ℕ → List ℕ) → Profile → List ℕ → List ℕ → List (List Part) → ℕ → ℕ → Type 0
SavesUpTo X p bytes begun rows touches touches_now =
    (front : List ℕ) → Builds X Any p front begun rows → touches_now + saved_all p.width rows
    ≤ touches + length (file_plan X p none (front ++ bytes)).blocks

-- nothing was written but blocks of the plan of each file that begins with these bytes, whatever comes after them and
-- whatever its metadata. These are the blocks of their whole pieces, and the nodes over whole groups that do not end
-- the file
abbrev pub SavesForFront : (List ℕ → List ℕ) → Profile → List ℕ → Told → Told → Type 0
SavesForFront X p bytes told told_now = (meta : Meta) (behind : List ℕ)
    → SavesAmong X (file_plan X p meta (bytes ++ behind)).blocks told told_now

-- a call that takes these bytes saves such blocks alone of what was fed and these bytes
abbrev pub SavesForBytes : (List ℕ → List ℕ) → Profile → List ℕ → List ℕ → List (List Part) → Told → Told → Type 0
SavesForBytes X p bytes begun rows told told_now = (front : List ℕ) → Builds X Any p front begun rows
    → SavesForFront X p (front ++ bytes) told told_now

-- what every builder keeps that has not given up: room in its piece and in its groups, and no more bytes than it was
-- fed
pub record IsReady (p : Profile) (fed : ℕ) (begun : List ℕ) (rows : List (List Part)) : Type 0 where
  pub room : length begun < p.chunk
  pub are_open : AreOpen p.width rows
  pub sizes : sizes_of rows + length begun ≡ fed
  pub most : fed ≤ most_bytes p

-- the open groups after one more piece, of which nothing is lost
pub record Adds (X : List ℕ → List ℕ) (p : Profile) (piece : List ℕ) (rows rows_now : List (List Part))
    (told told_now : Told) (touches touches_now : ℕ) : Type 0 where
  pub are_open : AreOpen p.width rows_now
  pub sizes : sizes_of rows_now ≡ sizes_of rows + length piece
  pub saves : touches_now + saved_all p.width rows ≡ touches + saved_all p.width rows_now
  pub some : 1 ≤ length (last_in rows_now)
  pub fed : (pieces : List (List ℕ)) → ArePieces X Any p pieces rows → ArePieces X Any p (pieces ++ piece ∷ []) rows_now
  pub held : (pieces : List (List ℕ)) → ArePieces X (IsHeld told) p pieces rows
      → ArePieces X (IsHeld told_now) p (pieces ++ piece ∷ []) rows_now

-- the piece that was begun and the open groups after more bytes, of which nothing is lost
pub record Feeds (X : List ℕ → List ℕ) (p : Profile) (bytes begun begun_now : List ℕ) (rows rows_now : List (List Part))
    (told told_now : Told) (touches touches_now : ℕ) : Type 0 where
  pub are_open : AreOpen p.width rows_now
  pub sizes : sizes_of rows_now + length begun_now ≡ sizes_of rows + length begun + length bytes
  pub saves : touches_now + saved_all p.width rows ≡ touches + saved_all p.width rows_now
  pub no_other : SavesForBytes X p bytes begun rows told told_now
  pub fed : (front : List ℕ) → Builds X Any p front begun rows → Builds X Any p (front ++ bytes) begun_now rows_now
  pub held : (front : List ℕ) → Builds X (IsHeld told) p front begun rows
      → Builds X (IsHeld told_now) p (front ++ bytes) begun_now rows_now

-- the open groups over all pieces of a file, the last of which was begun
pub record Ends (X : List ℕ → List ℕ) (p : Profile) (begun : List ℕ) (rows rows_now : List (List Part))
    (told told_now : Told) (touches touches_now : ℕ) : Type 0 where
  pub are_open : AreOpen p.width rows_now
  pub sizes : sizes_of rows_now ≡ sizes_of rows + length begun
  pub saves : touches_now + saved_all p.width rows ≡ touches + saved_all p.width rows_now
  pub some : 1 ≤ length (last_in rows_now)
  pub fed : (bytes : List ℕ) → Builds X Any p bytes begun rows → ArePieces X Any p (chunks p bytes) rows_now
  pub held : (bytes : List ℕ) → Builds X (IsHeld told) p bytes begun rows
      → ArePieces X (IsHeld told_now) p (chunks p bytes) rows_now
