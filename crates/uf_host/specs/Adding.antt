-- What is added of a host.
use Rattle.std.specs.Prelude.{◌≡◌, ℕ, List, [], ◌∷◌, ◌++◌, map, Bool, None, IfSome, IsTrue}
use Rattle.std.specs.declared.result.Result.{Result}
use Rattle.std.specs.declared.result.Result.TheVariants.{Ok, Err}
use Rattle.std.specs.List.{AllByRecursion, flat_map}
use Rattle.uf_cid.specs.Blocks.{Held}
use Rattle.uf_edge.specs.Host.{HostTold, HostTree}
use Rattle.uf_store.specs.Among.{SavesAmong}
use Rattle.uf_store.specs.Contents.{Told}
use Rattle.uf_store.specs.Keeping.{Holds}
use Rattle.uf_tree.specs.Metas.{none}
use Rattle.uf_tree.specs.Names.{is_name}
use Rattle.uf_tree.specs.Nodes.{Named}
use Rattle.uf_tree.specs.Tree.{Tree, entries, is_tree}
use Rattle.uf_tree.specs.TreePlan.{blocks, entry, refusal}
use Rattle.uf_tree.specs.declared.nodes.Entry.{Entry}
use Rattle.uf_tree.specs.declared.profile.Profile.{Profile}
use Rattle.uf_host.specs.Faults.{IsSaidOr}
use Rattle.uf_host.specs.HostTree.{Members, each_member, member_at, rows_below, rows_in, rows_of, tree_on_host}
use Rattle.uf_host.specs.HostTree.{walk_down, with_entries}
use Rattle.uf_host.specs.Paths.{first_row, trimmed}
use Rattle.uf_host.specs.Stopping.{HasRead, ReadsMembers, levels_of}
use Rattle.uf_host.specs.declared.fault.HostFault.{HostFault}
use Rattle.uf_host.specs.declared.import.AddedRow.{AddedRow}
use Rattle.uf_host.specs.declared.site.Site.{Site}

-- where the host tells, it says this
abbrev pub IsSaid : {A : Type 0} → HostTold → (HostTree → Result A HostFault) → Result A HostFault → Type 0
IsSaid host say answer = IfSome host (λ tree. say tree ≡ answer)

-- a refusal that the host says, or a fault of the host or of a save
abbrev pub IsRefusal : {A : Type 0} → HostTold → (HostTree → Result A HostFault) → HostFault → Type 0
IsRefusal host say fault = IsSaidOr (λ fault. IsSaid host say (Err fault)) fault

-- a row came after those before
abbrev pub AddsRow : List ℕ → Entry → List AddedRow → List AddedRow → Type 0
AddsRow row e rows rows_now = rows_now ≡ rows ++ record { path = row; entry = e } ∷ []

module _ (X : List ℕ → List ℕ) (N : List ℕ → ℕ) (p : Profile) where
  -- a tree that has a plan, whose blocks are held where the store tells
  pub record HasHeldPlan (told : Told) (t : Tree) : Type 0 where
    pub tree : IsTrue (is_tree t)
    pub whole : refusal X N p t ≡ None
    pub held : Holds told (blocks X N p t)

  -- a tree was added: it has a plan, this is its entry, these rows came after those before, and nothing was written but
  -- blocks of its plan
  pub record AddsTree (before told : Told) (more rows rows_now : List AddedRow) (t : Tree) (e : Entry) : Type 0 where
    pub plan : HasHeldPlan told t
    pub entry_is : e ≡ entry X N p t
    pub rows_are : rows_now ≡ rows ++ more
    pub no_other : SavesAmong X (blocks X N p t) before told

  -- the tree that the host says was added, with these of its rows, or it was refused
  abbrev pub AddsAs : (Tree → List AddedRow) → (before told : Told) → HostTold → (HostTree → Result Tree HostFault)
      → List AddedRow → List AddedRow → Result Entry HostFault → Type 0
  AddsAs rows_for before told host say rows rows_now (Ok e) =
      (t : Tree) × AddsTree before told (rows_for t) rows rows_now t e × IsSaid host say (Ok t)
  AddsAs rows_for before told host say rows rows_now (Err fault) = IsRefusal host say fault

  -- what is at a site was added, with all its rows
  abbrev pub AddsAt : (before told : Told) → HostTold → ℕ → Site → List AddedRow → List AddedRow
      → Result Entry HostFault → Type 0
  AddsAt before told host levels site rows rows_now answer = AddsAs (rows_of X N p site.row) before told host
      (λ tree. walk_down X N p tree levels site.path) rows rows_now answer

  -- what is at a site was added, with all its rows but the last
  abbrev pub AddsBelow : (before told : Told) → HostTold → ℕ → Site → List AddedRow → List AddedRow
      → Result Entry HostFault → Type 0
  AddsBelow before told host levels site rows rows_now answer = AddsAs (rows_below X N p site.row) before told host
      (λ tree. walk_down X N p tree levels site.path) rows rows_now answer

  -- the member of this good name of the folder at a site was added
  pub record AddsNamed (before told : Told) (host : HostTold) (levels : ℕ) (site : Site) (name : List ℕ)
      (rows rows_now : List AddedRow) (e : Named) : Type 0 where
    pub same : e.0 ≡ name
    pub good : IsTrue (is_name name)
    pub adds : AddsAs (rows_of X N p (site.row ++ 47 ∷ name)) before told host
        (λ tree. member_at (walk_down X N p tree levels) site.path name) rows rows_now (Ok e.1)

  abbrev pub AddsMember : (before told : Told) → HostTold → ℕ → Site → List ℕ → List AddedRow → List AddedRow
      → Result Named HostFault → Type 0
  AddsMember before told host levels site name rows rows_now (Ok e) =
      AddsNamed before told host levels site name rows rows_now e
  AddsMember before told host levels site name rows rows_now (Err fault) =
      IsRefusal host (λ tree. member_at (walk_down X N p tree levels) site.path name) fault

  -- a good name of a tree that has a plan
  pub record IsMember (told : Told) (m : List ℕ × Tree) : Type 0 where
    pub name : IsTrue (is_name m.0)
    pub plan : HasHeldPlan told m.1

  -- the blocks of the plans of members
  abbrev pub members_blocks : Members → List Held
  members_blocks ms = flat_map (λ (m : List ℕ × Tree). blocks X N p m.1) ms

  -- members of the folder at a site were added, those of these names
  pub record IsOfMembers (before told : Told) (host : HostTold) (levels : ℕ) (site : Site) (names : List (List ℕ))
      (rows rows_now : List AddedRow) (l : List Named) : Type 0 where
    pub members : Members
    pub are_named : map (λ (m : List ℕ × Tree). m.0) members ≡ names
    pub each : AllByRecursion (IsMember told) members
    pub is : l ≡ with_entries X N p members
    pub rows_are : rows_now ≡ rows ++ rows_in X N p site.row (entries none members)
    pub said : IsSaid host (λ tree. each_member (walk_down X N p tree levels) site.path names) (Ok members)
    pub no_other : SavesAmong X (members_blocks members) before told

  abbrev pub AddsMembers : (before told : Told) → HostTold → ℕ → Site → List (List ℕ) → List AddedRow → List AddedRow
      → Result (List Named) HostFault → Type 0
  AddsMembers before told host levels site names rows rows_now (Ok l) =
      IsOfMembers before told host levels site names rows rows_now l
  AddsMembers before told host levels site names rows rows_now (Err fault) =
      IsRefusal host (λ tree. each_member (walk_down X N p tree levels) site.path names) fault

  -- the tree that the host says has a plan that is held, and these are its rows
  pub record AreRowsOf (told : Told) (path : List ℕ) (rows : List AddedRow) (t : Tree) : Type 0 where
    pub plan : HasHeldPlan told t
    pub are : rows ≡ rows_of X N p (first_row (trimmed path)) t

  -- what is at a given path was added
  abbrev pub AddsFromHost : Told → HostTold → Bool → List ℕ → Result (List AddedRow) HostFault → Type 0
  AddsFromHost told host recursive path (Ok rows) =
      (t : Tree) × AreRowsOf told path rows t × IsSaid host (λ tree. tree_on_host X N p tree recursive path) (Ok t)
  AddsFromHost told host recursive path (Err fault) =
      IsRefusal host (λ tree. tree_on_host X N p tree recursive path) fault

  -- what a walk has read where it stops, of a host that tells, and else some trees: nothing was written but blocks of
  -- their plans
  pub record SavesRead (before told : Told) (host : HostTold) (Reads : HostTree → List Tree → Type 0) : Type 0 where
    pub read : List Tree
    pub are : IfSome host (λ tree. Reads tree read)
    pub no_other : SavesAmong X (flat_map (blocks X N p) read) before told

  -- the same of what a walk over n levels of folders has read of a path
  abbrev pub SavesReadAt : (before told : Told) → HostTold → ℕ → List ℕ → Type 0
  SavesReadAt before told host levels path = SavesRead before told host (λ tree. HasRead X N p tree levels path)

  -- the same of what it has read of the members of these names of a folder
  abbrev pub SavesReadIn : (before told : Told) → HostTold → ℕ → List ℕ → List (List ℕ) → Type 0
  SavesReadIn before told host levels folder names = SavesRead before told host (λ tree.
      ReadsMembers (walk_down X N p tree levels) (HasRead X N p tree levels) folder names)

  -- nothing was written but blocks of the plan of the tree that was added, and where there is none of those of what was
  -- read
  abbrev pub SavesFromHost : (before told : Told) → HostTold → Bool → List ℕ → Result (List AddedRow) HostFault
      → Type 0
  SavesFromHost before told host recursive path (Ok rows) =
      (t : Tree) × AreRowsOf told path rows t × IsSaid host (λ tree. tree_on_host X N p tree recursive path) (Ok t)
      × SavesAmong X (blocks X N p t) before told
  SavesFromHost before told host recursive path (Err fault) =
      SavesReadAt before told host (levels_of recursive) (trimmed path)
