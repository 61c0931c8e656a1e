-- The plan of a tree: its entry, its blocks, and the first reason for which it has none.
use Rattle.std.specs.Prelude.{ℕ, ◌^◌, List, [], ◌∷◌, ◌++◌, length, map, nat_lt, if◌then◌else◌}
use Rattle.std.specs.declared.option.Option.{Option}
use Rattle.std.specs.declared.option.Option.TheVariants.{None, Some}
use Rattle.std.specs.List.{flat_map}
use Rattle.uf_cid.specs.Blocks.{Held}
use Rattle.uf_tree.specs.declared.nodes.Entry.{Entry}
use Rattle.uf_tree.specs.declared.meta.Meta.{Meta}
use Rattle.uf_tree.specs.declared.profile.Profile.{Profile}
use Rattle.uf_tree.specs.Tree.{Tree, Entries, fold, pairs}
use Rattle.uf_tree.specs.FilePlan.{Plan, file_plan}
use Rattle.uf_tree.specs.Nodes.{Named}
use Rattle.uf_tree.specs.Profiles.{most_bytes}
use Rattle.uf_tree.specs.ShardPlan.{twins, same_hash}
use Rattle.uf_tree.specs.DirPlan.{own_plan, is_sharded}

-- why a tree has no plan: a file is too long, two names of a sharded directory have one hash, a directory is too big
pub data Refusal : Type 0 where
  FileTooLong : Refusal
  Collision : List ℕ → List ℕ → Refusal
  TooBig : Refusal

-- the entry and the blocks of a tree, which are its plan exactly where there is no refusal
pub record Planned : Type 0 where
  pub plan : Plan
  pub refusal : Option Refusal

-- the first reason of two
abbrev pub or_else : Option Refusal → Option Refusal → Option Refusal
or_else None other = other
or_else (Some reason) other = Some reason

-- the first reason of a directory's members, in the order of their names
abbrev pub first_refusal : List (List ℕ × Planned) → Option Refusal
first_refusal [] = None
first_refusal (m ∷ ms) = or_else m.1.refusal (first_refusal ms)

-- a file with more bytes than its profile allows is refused
abbrev pub too_long : Profile → List ℕ → Option Refusal
too_long p bytes = if nat_lt (most_bytes p) (length bytes) then Some FileTooLong else None

-- a directory's Tsize is at most 2 ^ 62
abbrev pub too_big : ℕ → Option Refusal
too_big tsize = if nat_lt (2 ^ 62) tsize then Some TooBig else None

-- two names of one hash: the least name that has a twin, and the least of its twins
abbrev pub collision : (List ℕ → ℕ) → List Named → Option Refusal
collision N l = elim (twins (same_hash N) l) [ None ↦ None | Some names ↦ Some (Collision names.0 names.1) ]

module _ (X : List ℕ → List ℕ) (N : List ℕ → ℕ) (p : Profile) where
  -- of a file: its plan, or it is too long
  abbrev pub planned_file : Meta → List ℕ → Planned
  planned_file m bytes = record { plan = file_plan X p m bytes; refusal = too_long p bytes }

  -- the names and entries of a directory's members
  abbrev pub members : List (List ℕ × Planned) → List Named
  members ms = map (λ (m : List ℕ × Planned). (m.0, m.1.plan.entry)) ms

  -- why a directory of these has no plan, where its members have: a collision, else its size
  abbrev pub dir_refusal : Meta → List Named → Option Refusal
  dir_refusal m l = or_else (if is_sharded p l then collision N l else None) (too_big (own_plan X N p m l).entry.tsize)

  -- of a directory: the members' blocks and its own; its members' reasons come before its own
  abbrev pub planned_dir : Meta → List (List ℕ × Planned) → Planned
  planned_dir m ms = let own = own_plan X N p m (members ms) in record {
    plan = record { entry = own.entry; blocks = flat_map (λ (m : List ℕ × Planned). m.1.plan.blocks) ms ++ own.blocks };
    refusal = or_else (first_refusal ms) (dir_refusal m (members ms));
  }

  -- of a tree, from its leaves up
  unfoldable pub planned : Tree → Planned
  unfolding fold
  planned t = fold planned_file planned_dir t

  -- the CID and the Tsize of a tree
  abbrev pub entry : Tree → Entry
  entry t = (planned t).plan.entry

  -- the blocks of a tree, each under its CID
  abbrev pub blocks : Tree → List Held
  blocks t = (planned t).plan.blocks

  -- the first reason for which a tree has no plan: children in the order of names, and before their directory
  abbrev pub refusal : Tree → Option Refusal
  refusal t = (planned t).refusal

  -- the plan of a tree, which it has exactly where there is no refusal
  abbrev pub plan : Tree → Option Plan
  plan t = elim (refusal t) [ None ↦ Some (planned t).plan | Some reason ↦ None ]

  -- the names and entries of a directory
  abbrev pub named_entries : Entries → List Named
  named_entries es = map (λ (e : List ℕ × Tree). (e.0, entry e.1)) (pairs es)
