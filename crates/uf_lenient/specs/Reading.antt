-- What the blocks below a CID denote, whoever wrote them (UnixFS v1, "Data Format", "File", "Directory",
-- "HAMTDirectory"): a tree, or the first fault. A visit of a block has a depth that is left, and all visits together
-- have a number.
use Rattle.std.specs.Prelude.{ℕ, zero, suc, pred, ◌+◌, List, [], ◌∷◌, ◌++◌, map, Bool, ◌&&◌, ◌||◌, nat_le, is_some, if◌then◌else◌}
use Rattle.std.specs.declared.option.Option.{Option}
use Rattle.std.specs.declared.option.Option.TheVariants.{None, Some}
use Rattle.std.specs.declared.result.Result.{Result}
use Rattle.std.specs.declared.result.Result.TheVariants.{Ok, Err}
use Rattle.std.specs.FinMap.Entries.{put, find}
use Rattle.uf_cid.specs.declared.cid.Cid.{Cid}
use Rattle.uf_cid.specs.Blocks.{Lookup}
use Rattle.uf_dagpb.specs.declared.node.Link.{Link}
use Rattle.uf_varint.specs.Fields.{◌>>=◌}
use Rattle.uf_store.specs.declared.store.StoreFault.TheVariants.{Missing}
use Rattle.uf_tree.specs.Names.{names_cmp, is_name}
use Rattle.uf_tree.specs.Tree.{Tree, File as FileTree, Dir, entries}
use Rattle.uf_lenient.specs.declared.fault.DagFault.{DagFault}
use Rattle.uf_lenient.specs.declared.fault.DagFault.TheVariants.{NotUnixfs, DuplicateName, BadName, Unsupported, TooDeep, TooMany, NotFound, NotADirectory, Store}
use Rattle.uf_lenient.specs.declared.unixfs.Unixfs.{Unixfs}
use Rattle.uf_lenient.specs.declared.unixfs.Unixfs.TheVariants.{File, Directory, Shard, OtherShard, Other}
use Rattle.uf_lenient.specs.declared.found.Found.{Found}
use Rattle.uf_lenient.specs.declared.gathered.Gathered.{Gathered}
use Rattle.uf_lenient.specs.declared.gathered.Gathered.TheVariants.{File as IsFile, Folder as IsFolder}
use Rattle.uf_lenient.specs.declared.shapes.Limits.{Limits}
use Rattle.uf_lenient.specs.declared.shapes.Shape.{Shape}
use Rattle.uf_lenient.specs.declared.shapes.Shape.TheVariants.{File as FileShape, Folder as FolderShape}
use Rattle.uf_lenient.specs.Unixfs.{unixfs_of, as_part, as_file, as_shard}

-- an answer and how many visits are left, or the first fault
abbrev pub Visits : Type 0 → Type 0
Visits A = Result (A × ℕ) DagFault

-- one reading after the other, until one has a fault
infixl 10 ◌>>◌
abbrev pub ◌>>◌ : {A B : Type 0} → Visits A → (A → ℕ → Visits B) → Visits B
(Ok x) >> f = f x.0 x.1
(Err e) >> f = Err e

-- what makes no visit, where n are left
abbrev pub unvisited : {A : Type 0} → ℕ → Result A DagFault → Visits A
unvisited n (Ok a) = Ok (a, n)
unvisited n (Err e) = Err e

-- the answer alone
abbrev pub answered : {A B : Type 0} → (A → B) → Visits A → Result B DagFault
answered view (Ok x) = Ok (view x.0)
answered view (Err e) = Err e

-- the ways of a directory that were met so far, in byte order of their names
abbrev pub Ways : Type 0
Ways = List (List ℕ × Found)

-- a digit in upper case
abbrev pub is_digit : ℕ → Bool
is_digit b = (nat_le 48 b && nat_le b 57) || (nat_le 65 b && nat_le b 70)

-- what stands after the two digits of a slot
abbrev pub behind_slot : List ℕ → Option (List ℕ)
behind_slot [] = None
behind_slot (a ∷ []) = None
behind_slot (a ∷ b ∷ rest) = if is_digit a && is_digit b then Some rest else None

-- a way more under a good name, from a block that links it: the name wasn't met in this directory
abbrev pub meet_name : Cid → List ℕ → Found → Ways → Result Ways DagFault
meet_name by name found met =
    if is_some (find names_cmp name met) then Err (DuplicateName by name) else Ok (put names_cmp name found met)

-- the same where the name may be bad
abbrev pub meet : Cid → ℕ → List ℕ → Cid → Ways → Result Ways DagFault
meet by left name c met =
    if is_name name then meet_name by name (record { cid = c; left = left }) met else Err (BadName by)

-- the ways of a directory in one block
abbrev pub meet_all : Cid → ℕ → List Link → Ways → Result Ways DagFault
meet_all by left [] met = Ok met
meet_all by left (l ∷ ls) met = meet by left l.name l.cid met >>= λ more. meet_all by left ls more

-- the ways of one link of a shard: one under the name after the digits, or those of the shard that `deeper` reads
abbrev pub slot_ways : (Cid → Ways → ℕ → Visits Ways) → Cid → ℕ → Link → Ways → ℕ → Option (List ℕ) → Visits Ways
slot_ways deeper by left l met n None = Err (NotUnixfs by 21)
slot_ways deeper by left l met n (Some []) = deeper l.cid met n
slot_ways deeper by left l met n (Some (b ∷ bs)) = unvisited n (meet by left (b ∷ bs) l.cid met)

-- the ways of a shard's links in their order
abbrev pub shard_ways : (Cid → Ways → ℕ → Visits Ways) → Cid → ℕ → List Link → Ways → ℕ → Visits Ways
shard_ways deeper by left [] met n = Ok (met, n)
shard_ways deeper by left (l ∷ ls) met n =
    slot_ways deeper by left l met n (behind_slot l.name) >> λ more m. shard_ways deeper by left ls more m

-- the names of ways and what they lead to
abbrev pub leads : Ways → List (List ℕ × Cid)
leads ways = map (λ (w : List ℕ × Found). (w.0, w.1.cid)) ways

-- the bytes of what links lead to, one after the other
abbrev pub joined_parts : (Cid → ℕ → Visits (List ℕ)) → List Link → ℕ → Visits (List ℕ)
joined_parts read [] n = Ok ([], n)
joined_parts read (l ∷ ls) n = read l.cid n >> λ bytes m. joined_parts read ls m >> λ more k. Ok (bytes ++ more, k)

-- the trees of a directory's members in their order
abbrev pub member_trees : (ℕ → Cid → ℕ → Visits Tree) → Ways → ℕ → Visits (List (List ℕ × Tree))
member_trees read [] n = Ok ([], n)
member_trees read (w ∷ ws) n =
    read w.1.left w.1.cid n >> λ t m. member_trees read ws m >> λ more k. Ok ((w.0, t) ∷ more, k)

-- what was gathered, without how much depth is left
abbrev pub shape_of : Gathered → Shape
shape_of (IsFile meta bytes links) = FileShape meta
shape_of (IsFolder meta ways) = FolderShape meta (leads ways)

-- where a name leads from a directory; the name has this place in its path
abbrev pub way_at : ℕ → Option Cid → Result Cid DagFault
way_at place None = Err (NotFound place)
way_at place (Some c) = Ok c

abbrev pub way_in_shape : ℕ → List ℕ → Shape → Result Cid DagFault
way_in_shape place name (FileShape meta) = Err (NotADirectory place)
way_in_shape place name (FolderShape meta ways) = way_at place (find names_cmp name ways)

module _ (held : Lookup) where
  -- a visit: the block, where a depth and a visit are left for it
  abbrev pub loads : ℕ → Cid → ℕ → Visits (List ℕ)
  loads zero c n = Err (TooDeep c)
  loads (suc left) c zero = Err TooMany
  loads (suc left) c (suc n) = elim (held c) [ None ↦ Err (Store (Missing c)) | Some bytes ↦ Ok (bytes, n) ]

  -- a visit, and what the block is
  abbrev pub visit_of : ℕ → Cid → ℕ → Visits Unixfs
  visit_of left c n = loads left c n >> λ bytes m. unvisited m (unixfs_of c bytes)

  -- the bytes of a part of a file: its own, and then those of its links
  unfoldable pub part_bytes : ℕ → Cid → ℕ → Visits (List ℕ)
  part_bytes zero c n = Err (TooDeep c)
  part_bytes (suc left) c n =
      visit_of (suc left) c n >> λ u m. unvisited m (as_part c u) >> λ own k.
      joined_parts (part_bytes left) own.1 k >> λ more j. Ok (own.0 ++ more, j)

  -- the ways of the shard under a CID that a shard links
  unfoldable pub sub_ways : ℕ → Cid → Ways → ℕ → Visits Ways
  sub_ways zero c met n = Err (TooDeep c)
  sub_ways (suc left) c met n =
      visit_of (suc left) c n >> λ u m. unvisited m (as_shard c u) >> λ links k.
      shard_ways (sub_ways left) c left links met k

  -- what a file or a directory is by its first block, which alone gives its metadata, and by those of its sub-shards
  abbrev pub gathers : ℕ → Cid → Unixfs → ℕ → Visits Gathered
  gathers left c (File meta bytes links) n = Ok (IsFile meta bytes links, n)
  gathers left c (Directory meta links) n = unvisited n (meet_all c left links []) >> λ ways m. Ok (IsFolder meta ways, m)
  gathers left c (Shard meta links) n = shard_ways (sub_ways left) c left links [] n >> λ ways m. Ok (IsFolder meta ways, m)
  gathers left c OtherShard n = Err (Unsupported c)
  gathers left c Other n = Err (Unsupported c)

  unfoldable pub gathered : ℕ → Cid → ℕ → Visits Gathered
  unfolding sub_ways
  gathered left c n = visit_of left c n >> λ u m. gathers (pred left) c u m

  -- the tree of what was gathered, whose members `read` reads
  abbrev pub completed : (ℕ → Cid → ℕ → Visits Tree) → ℕ → Gathered → ℕ → Visits Tree
  completed read left (IsFile meta bytes links) n =
      joined_parts (part_bytes left) links n >> λ more m. Ok (FileTree meta (bytes ++ more), m)
  completed read left (IsFolder meta ways) n = member_trees read ways n >> λ es m. Ok (Dir (entries meta es), m)

  -- the tree under a CID, with n levels left; directories nest at most as deep, so `room` of as much is enough
  unfoldable pub tree_within : ℕ → ℕ → Cid → ℕ → Visits Tree
  unfolding part_bytes gathered
  tree_within zero left c n = Err (TooDeep c)
  tree_within (suc room) left c n = gathered left c n >> λ g m. completed (tree_within room) (pred left) g m

  abbrev pub tree_under : ℕ → Cid → ℕ → Visits Tree
  tree_under left c n = tree_within left left c n

  -- the bytes of the file under a CID: its first block may be no directory
  unfoldable pub file_under : ℕ → Cid → ℕ → Visits (List ℕ)
  unfolding part_bytes
  file_under left c n =
      visit_of left c n >> λ u m. unvisited m (as_file c u) >> λ own k.
      joined_parts (part_bytes (pred left)) own.1 k >> λ more j. Ok (own.0 ++ more, j)

  module _ (limits : Limits) where
    -- the tree that a CID denotes
    abbrev pub denotes : Cid → Result Tree DagFault
    denotes c = answered (λ t. t) (tree_under (limits.depth + 1) c limits.visits)

    -- one directory with its sub-shards, or that it is a file
    abbrev pub shallow_of : Cid → Result Shape DagFault
    shallow_of c = answered shape_of (gathered (limits.depth + 1) c limits.visits)

    -- the bytes of the file that a CID denotes
    abbrev pub file_of : Cid → Result (List ℕ) DagFault
    file_of c = answered (λ bytes. bytes) (file_under (limits.depth + 1) c limits.visits)

    -- where a name, which has this place in its path, leads from the directory under a CID
    abbrev pub step_of : ℕ → List ℕ → Cid → Result Cid DagFault
    step_of place name c = shallow_of c >>= λ shape. way_in_shape place name shape

    -- where names lead, the first of which has this place
    abbrev pub resolve_from : ℕ → List (List ℕ) → Cid → Result Cid DagFault
    resolve_from place [] c = Ok c
    resolve_from place (name ∷ names) c = step_of place name c >>= λ next. resolve_from (place + 1) names next
