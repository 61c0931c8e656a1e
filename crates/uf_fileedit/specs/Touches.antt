-- How often an edit of a file touches the store.
use Rattle.std.specs.Prelude.{◌≡◌, ◌≢◌, ℕ, ◌+◌, ◌-◌, ◌*◌, ◌/◌, ◌<◌, ◌≤◌, ◌==◌, List, if◌then◌else◌, min, max, None, Some, slice_get}
use Rattle.std.specs.declared.option.Option.{Option}
use Rattle.std.specs.declared.result.Result.{Result}
use Rattle.std.specs.declared.result.Result.TheVariants.{Ok, Err}
use Rattle.uf_build.specs.declared.fault.BuildFault.{BuildFault}
use Rattle.uf_build.specs.declared.fault.BuildFault.TheVariants.{FileTooLong, Spent, Store}
use Rattle.uf_store.specs.declared.store.StoreFault.{StoreFault}
use Rattle.uf_store.specs.declared.store.StoreFault.TheVariants.{Failed, Damaged, Missing, BadBlock, Clash, Memory}
use Rattle.uf_tree.specs.declared.nodes.Entry.{Entry}
use Rattle.uf_tree.specs.declared.nodes.Part.{Part}
use Rattle.uf_tree.specs.declared.profile.Profile.{Profile}
use Rattle.uf_tree.specs.FileSub.{span}

-- how many chunks of c bytes have one of the bytes from one place up to another
abbrev pub chunks_met : ℕ → ℕ → ℕ → ℕ
chunks_met c from to = (to + c - 1) / c - from / c

-- how many chunks a write changes: none with no bytes, else from the first one that is laid over, or from the old last
-- one where the piece is after it
abbrev pub written_chunks : ℕ → ℕ → ℕ → ℕ → ℕ
written_chunks c old offset more = if more == 0 then 0 else chunks_met c (min offset (old - 1)) (offset + more)

-- how many chunks a file gets or keeps a part of where its length changes: from the last one that was there before, or
-- is now
abbrev pub cut_chunks : ℕ → ℕ → ℕ → ℕ
cut_chunks c old size = if old == size then 0 else chunks_met c (min old size - 1) (max size 1)

-- how often an edit of n chunks of a file touches the store at most, by its rows of nodes
abbrev pub edit_touches : ℕ → ℕ → ℕ
edit_touches chunks rows = 2 * (chunks + 2) * (rows + 2)

-- the count of touches doesn't fall, and it has risen where a block is blamed
abbrev pub BlamedAfter : StoreFault → ℕ → ℕ → Type 0
BlamedAfter Failed before now = before ≤ now
BlamedAfter (Damaged cid) before now = before ≤ now
BlamedAfter (Missing cid) before now = before ≤ now
BlamedAfter (BadBlock cid role) before now = before < now
BlamedAfter (Clash cid held bytes) before now = before ≤ now
BlamedAfter Memory before now = before ≤ now

-- the same after every answer
abbrev pub Climbs : {A : Type 0} → Result A StoreFault → ℕ → ℕ → Type 0
Climbs (Ok a) before now = before ≤ now
Climbs (Err fault) before now = BlamedAfter fault before now

-- and after an edit's answer; nothing is touched before a file would be too long
abbrev pub TouchedFirst : Result Entry BuildFault → ℕ → ℕ → Type 0
TouchedFirst (Ok e) before now = before ≤ now
TouchedFirst (Err FileTooLong) before now = now ≡ before
TouchedFirst (Err Spent) before now = before ≤ now
TouchedFirst (Err (Store fault)) before now = BlamedAfter fault before now

-- how many bytes an old part has, where there is one
abbrev pub old_size : Option Part → ℕ
old_size None = 0
old_size (Some part) = part.size

-- the old part has this size already, and stands as high as the new one
abbrev pub IsLeft : ℕ → ℕ → ℕ → Option Part → Type 0
IsLeft top height size None = ⊥
IsLeft top height size (Some part) = (height ≤ top) × (part.size ≡ size)

-- an edit of a file that had `old` bytes and has `size` ones lies within the chunks of c bytes from number a up to
-- number z. What is laid over does, and where the length changes all from the old end or the new one on
pub record IsEditWithin (c old size offset more a z : ℕ) : Type 0 where
  pub laid : 1 ≤ more → (a * c ≤ offset) × (offset + more ≤ z * c)
  pub ends : old ≢ size → (a * c ≤ min old size - 1) × (size ≤ z * c) × (a < z)

-- the same of a part of this height, where the old part isn't left as it is
pub record IsChangeWithin (p : Profile) (top height : ℕ) (old : Option Part) (size offset more a z : ℕ) : Type 0 where
  pub fits : old_size old ≤ span p.chunk p.width (min top height)
  pub laid : 1 ≤ more → (a * p.chunk ≤ offset) × (offset + more ≤ z * p.chunk)
  pub ends : (IsLeft top height size old → ⊥)
      → (a * p.chunk ≤ min (old_size old) size - 1) × (size ≤ z * p.chunk) × (a < z)

-- the parts below an old part: each but the last has s bytes, and the last no more
pub record AreBelow (s : ℕ) (old : Option Part) (parts : List Part) : Type 0 where
  pub sizes : (i : ℕ) → old_size (slice_get parts i) ≡ min (old_size old - i * s) s
  pub ends : (i : ℕ) → slice_get parts i ≡ None → old_size old ≤ i * s
