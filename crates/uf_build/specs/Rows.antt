-- The open groups of a file's rows, the lowest row first: after the full groups of each row, whose nodes are saved.
-- Before them the last part that came, which is in no group yet: so the group that ends a row is never saved
-- before the file's end.
use Rattle.std.specs.Prelude.{◌≡◌, ℕ, zero, suc, ◌+◌, ◌*◌, ◌<◌, ◌≤◌, List, [], ◌∷◌, ◌++◌, length, map, nat_lt, Bool, true, false, if◌then◌else◌, ⊤}
use Rattle.std.specs.List.{AllByRecursion, sum_by}
use Rattle.std.specs.Option.{option_to_list}
use Rattle.uf_cid.specs.Blocks.{Held}
use Rattle.uf_store.specs.Contents.{Told}
use Rattle.uf_store.specs.Keeping.{Holds}
use Rattle.uf_tree.specs.Cutting.{joined}
use Rattle.uf_tree.specs.FilePlan.{node_part, node_held, top_part, top_held}
use Rattle.uf_tree.specs.declared.meta.Meta.{Meta}
use Rattle.uf_tree.specs.declared.nodes.Part.{Part}
use Rattle.uf_build.specs.declared.open.Open.{Open}

-- no rows
abbrev pub is_none : List (List Part) → Bool
is_none [] = true
is_none (g ∷ gs) = false

-- each group has room for one more part
abbrev pub AreShort : ℕ → List (List Part) → Type 0
AreShort w rows = AllByRecursion (λ g. length g < w) rows

-- after the last part
abbrev pub AreShortBehind : ℕ → List (List Part) → Type 0
AreShortBehind w [] = ⊤
AreShortBehind w (g ∷ gs) = (length g ≤ 1) × AreShort w gs

-- the last part of a layout, and its open groups
abbrev pub groups_in : Open → List (List Part)
groups_in o = option_to_list o.last ∷ o.rows.items

-- the last part
abbrev pub last_in : List (List Part) → List Part
last_in [] = []
last_in (g ∷ gs) = g

-- at least one row
abbrev pub some_row : List (List Part) → List (List Part)
some_row [] = [] ∷ []
some_row (g ∷ gs) = g ∷ gs

-- how many bytes of the file are below a group
abbrev pub size_of : List Part → ℕ
size_of g = sum_by (λ m. m.size) g

-- how many are below the groups of all rows
abbrev pub sizes_of : List (List Part) → ℕ
sizes_of rows = sum_by size_of rows

module _ (w : ℕ) where
  -- how many parts came into the lowest row: each part of the row above stands for a full group of it
  abbrev pub members : List (List Part) → ℕ
  members [] = 0
  members (g ∷ gs) = length g + w * members gs

  -- how many parts came into all rows: each of them is a block
  abbrev pub saved_over : List (List Part) → ℕ
  saved_over [] = 0
  saved_over (g ∷ gs) = members (g ∷ gs) + saved_over gs

  -- the same with the last part before the groups
  abbrev pub saved_all : List (List Part) → ℕ
  saved_all [] = 0
  saved_all (g ∷ gs) = length g + saved_over gs

-- no more than one last part, and groups of which each has room for one more part
pub record AreOpen (w : ℕ) (rows : List (List Part)) : Type 0 where
  pub short : AreShortBehind w rows

-- how many links a node of a file may have
pub record IsWidth (w : ℕ) : Type 0 where
  pub two : 2 ≤ w
  pub few : w ≤ 1024

module _ (X : List ℕ → List ℕ) (meta : Meta) where
  -- what a row that ends hands up: what stands over the topmost row, and else the node of its last group
  abbrev pub carry : Bool → List Part → Part
  carry true g = top_part X meta g
  carry false g = node_part X g

  -- the node that it saves for that
  abbrev pub carry_held : Bool → List Part → List Held
  carry_held true g = top_held X meta g
  carry_held false g = node_held X g ∷ []

module _ (X : List ℕ → List ℕ) (w : ℕ) where
  -- the open groups after one more part of the lowest row: a group that becomes full goes up as a node
  abbrev pub push_row : Part → List (List Part) → List (List Part)
  push_row m [] = (m ∷ []) ∷ []
  push_row m (g ∷ gs) = if nat_lt (length g + 1) w then (g ++ m ∷ []) ∷ gs
      else [] ∷ push_row (node_part X (g ++ m ∷ [])) gs

  -- the nodes of the groups that it fills
  abbrev pub push_held : Part → List (List Part) → List Held
  push_held m [] = []
  push_held m (g ∷ gs) = if nat_lt (length g + 1) w then [] else node_held X (g ++ m ∷ [])
      ∷ push_held (node_part X (g ++ m ∷ [])) gs

  -- the same where it becomes the last part, and the part that was the last comes into the lowest row
  abbrev pub add_row : Part → List (List Part) → List (List Part)
  add_row m [] = (m ∷ []) ∷ []
  add_row m ([] ∷ gs) = (m ∷ []) ∷ gs
  add_row m ((n ∷ ns) ∷ gs) = (m ∷ []) ∷ push_row n gs

  -- the nodes of the groups that it fills
  abbrev pub add_held : Part → List (List Part) → List Held
  add_held m [] = []
  add_held m ([] ∷ gs) = []
  add_held m ((n ∷ ns) ∷ gs) = push_held n gs

  -- the same from a row on
  abbrev pub push_up : ℕ → Part → List (List Part) → List (List Part)
  push_up zero m rows = push_row m rows
  push_up (suc k) m [] = []
  push_up (suc k) m (g ∷ gs) = g ∷ push_up k m gs

  abbrev pub held_up : ℕ → Part → List (List Part) → List Held
  held_up zero m rows = push_held m rows
  held_up (suc k) m [] = []
  held_up (suc k) m (g ∷ gs) = held_up k m gs

  -- the open groups of a row and of those above it: each stands after full groups, of whose nodes P holds and which
  -- are the row above
  abbrev pub AreRows : (Held → Type 0) → List Part → List (List Part) → Type 0
  AreRows P row [] = row ≡ []
  AreRows P row (g ∷ gs) =
      (full : List (List Part)) × (row ≡ joined full ++ g) × AllByRecursion (λ f. length f ≡ w) full × (length g < w)
      × (1 ≤ length row)
      × AllByRecursion P (map (node_held X) full) × AreRows P (map (node_part X) full) gs

  -- the same after the last part, which is there where any came
  abbrev pub AreAll : (Held → Type 0) → List Part → List (List Part) → Type 0
  AreAll P row [] = row ≡ []
  AreAll P row (g ∷ gs) = (before : List Part) × (row ≡ before ++ g) × (length g ≤ 1) × (1 ≤ length row → 1 ≤ length g)
      × AreRows P before gs

module _ (X : List ℕ → List ℕ) (meta : Meta) where
  -- the part that stands over all rows, where this one comes after those of the lowest
  abbrev pub close : List (List Part) → Part → Part
  close [] c = c
  close (g ∷ gs) c = close gs (carry X meta (is_none gs) (g ++ c ∷ []))

  -- the nodes that are saved for that
  abbrev pub close_held : List (List Part) → Part → List Held
  close_held [] c = []
  close_held (g ∷ gs) c = carry_held X meta (is_none gs) (g ++ c ∷ [])
      ++ close_held gs (carry X meta (is_none gs) (g ++ c ∷ []))

  -- the same from a row on
  abbrev pub close_up : ℕ → List (List Part) → Part → Part
  close_up zero rows c = close rows c
  close_up (suc k) [] c = c
  close_up (suc k) (g ∷ gs) c = close_up k gs c

  abbrev pub close_held_up : ℕ → List (List Part) → Part → List Held
  close_held_up zero rows c = close_held rows c
  close_held_up (suc k) [] c = []
  close_held_up (suc k) (g ∷ gs) c = close_held_up k gs c

  -- the part that stands over the last part and all groups
  abbrev pub close_all : List (List Part) → List Part
  close_all [] = []
  close_all ([] ∷ gs) = []
  close_all ((m ∷ ms) ∷ gs) = close (some_row gs) m ∷ []

  abbrev pub close_all_held : List (List Part) → List Held
  close_all_held [] = []
  close_all_held ([] ∷ gs) = []
  close_all_held ((m ∷ ms) ∷ gs) = close_held (some_row gs) m

-- a part came into a row: the nodes of the groups that this filled are held, and each was one touch
pub record PushesPart (X : List ℕ → List ℕ) (w level : ℕ) (m : Part) (rows rows_now : List (List Part))
    (told_now : Told) (touches touches_now : ℕ) : Type 0 where
  pub pushed : rows_now ≡ push_up X w level m rows
  pub held : Holds told_now (held_up X w level m rows)
  pub count : touches_now ≡ touches + length (held_up X w level m rows)

-- the rows from one on were closed: this part stands over them, the nodes that were saved are held, and each was one
-- touch
pub record ClosesRows (X : List ℕ → List ℕ) (meta : Meta) (level : ℕ) (rows : List (List Part)) (carried part : Part)
    (told_now : Told) (touches touches_now : ℕ) : Type 0 where
  pub stands : part ≡ close_up X meta level rows carried
  pub held : Holds told_now (close_held_up X meta level rows carried)
  pub count : touches_now ≡ touches + length (close_held_up X meta level rows carried)

-- a part became the last one: the nodes of the groups that this filled are held, and each was one touch
pub record AddsPart (X : List ℕ → List ℕ) (w : ℕ) (m : Part) (rows rows_now : List (List Part)) (told_now : Told)
    (touches touches_now : ℕ) : Type 0 where
  pub added : rows_now ≡ add_row X w m rows
  pub held : Holds told_now (add_held X w m rows)
  pub count : touches_now ≡ touches + length (add_held X w m rows)

-- a row that ends hands this up: the node that was saved is held, and was one touch
pub record EndsRow (X : List ℕ → List ℕ) (meta : Meta) (is_top : Bool) (row : List Part) (up : Part) (told_now : Told)
    (touches touches_now : ℕ) : Type 0 where
  pub goes_up : up ≡ carry X meta is_top row
  pub held : Holds told_now (carry_held X meta is_top row)
  pub count : touches_now ≡ touches + length (carry_held X meta is_top row)
