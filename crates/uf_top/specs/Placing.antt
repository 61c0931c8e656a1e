-- What is put into the tree that the Head names: the input as a file, or what the host has at a path.
use Rattle.std.specs.Prelude.{◌≡◌, ℕ, ◌<◌, ◌≤◌, ◌+◌, ◌*◌, List, [], ◌∷◌, ◌++◌, length, Bool, false, ⊤}
use Rattle.std.specs.Prelude.{IfOk, IfErr, IfSome, IsErr, OnErr}
use Rattle.std.specs.List.{flat_map}
use Rattle.std.specs.declared.option.Option.{Option}
use Rattle.std.specs.declared.option.Option.TheVariants.{None, Some}
use Rattle.std.specs.declared.result.Result.{Result}
use Rattle.std.specs.declared.result.Result.TheVariants.{Ok, Err}
use Rattle.uf_edge.specs.Host.{HostTold}
use Rattle.uf_edge.specs.Streams as streams
use Rattle.uf_edge.specs.Counts.{Stood}
use Rattle.uf_host.specs.Adding.{HasHeldPlan}
use Rattle.uf_host.specs.HostTree.{tree_on_host}
use Rattle.uf_host.specs.declared.fault.HostFault.{HostFault}
use Rattle.uf_host.specs.declared.import.AddedRow.{AddedRow}
use Rattle.uf_mfs.specs.Bad.{IsBadInHead, IsBadInTree}
use Rattle.uf_mfs.specs.Missing.{put_needs}
use Rattle.uf_mfs.specs.Moving.{put_crossings}
use Rattle.uf_mfs.specs.Saving.{next_blocks}
use Rattle.uf_mfs.specs.Standing.{IsMfs, NamesOver, ReadsHead, StandsOver, TellsAs, head_in}
use Rattle.uf_mfs.specs.Steps.{IsFolderOver}
use Rattle.uf_mfs.specs.Touches.{CountsUp, IsBlaming}
use Rattle.uf_path.specs.declared.path.Path.{Path}
use Rattle.uf_plain.specs.Moves.{allowed_move, placed_at, put_at_spot, spot_names, spotted}
use Rattle.uf_plain.specs.declared.ready.Ready.TheVariants as ready
use Rattle.uf_plain.specs.declared.spot.Spot.{Spot}
use Rattle.uf_store.specs.Calls.{OnlyReads, OnlySaves}
use Rattle.uf_store.specs.Clashes.{IsSaving}
use Rattle.uf_store.specs.Contents.{Told}
use Rattle.uf_store.specs.Faults.{NoneIsBad, Shown}
use Rattle.uf_store.specs.Keeping.{Agrees, KeepsGood}
use Rattle.uf_store.specs.Seen.{Seen}
use Rattle.uf_tree.specs.Standing.{Standing, NoHead, BadHead, Stands}
use Rattle.uf_tree.specs.Tree.{Dir, Entries, Tree}
use Rattle.uf_tree.specs.TreePlan.{blocks, entry}
use Rattle.uf_tree.specs.declared.nodes.Entry.{Entry}
use Rattle.uf_tree.specs.declared.profile.Profile.{Profile}
use Rattle.uf_command.specs.Dags.{adopted_name}
use Rattle.uf_command.specs.Natures.{MovesHead}
use Rattle.uf_command.specs.declared.types.Adding.TheVariants as adding
use Rattle.uf_command.specs.declared.types.Command.{Command}
use Rattle.uf_command.specs.declared.types.Command.TheVariants.{Add, Adopt}
use Rattle.uf_command.specs.Kinds.{IsOf, RefusalKind, place_host_kinds, place_kinds, may_meet, opened_kinds, refusal_fault}
use Rattle.uf_command.specs.Statuses.{no_memory}
use Rattle.uf_command.specs.declared.types.Refusal.{Refusal}
use Rattle.uf_command.specs.declared.types.Refusal.TheVariants as refusal
use Rattle.uf_top.specs.Around.{CountsCanRise}
use Rattle.uf_top.specs.Causes.{AreLeft, IsReasonInTree, is_read}
use Rattle.uf_top.specs.Grafts.{FollowsOr, IsLostBy}
use Rattle.uf_top.specs.HostTexts.{host_refusal, host_row}
use Rattle.uf_top.specs.Losing.{placing_needs, row_name}
use Rattle.uf_top.specs.Naming.{NamesAfter}
use Rattle.uf_top.specs.Opening.{IsUnready}
use Rattle.uf_top.specs.Reply.{added_spot, by_rule, host_tree, input_tree}
use Rattle.uf_top.specs.Saving.{SavesNoOther}
use Rattle.uf_top.specs.Shapes.{WritesInTree, is_ok}
use Rattle.uf_top.specs.declared.given.Given.{Given}
use Rattle.uf_top.specs.declared.given.OpenSpot.{OpenSpot}

-- the kinds of a command that puts what the host has at a path into the tree, or the input where there is no path
abbrev pub kinds_placing : Option (List ℕ) → List RefusalKind
kinds_placing None = place_kinds
kinds_placing (Some path) = place_host_kinds

-- in the tree of these entries there is no spot where `add --to-files` may put what it adds, or `files cp` its copy
-- from a DAG, whatever that is
abbrev pub HasNoSpot : Command → Entries → Type 0
HasNoSpot (Add (adding.InputTo dest)) es = IsErr (added_spot dest None es)
HasNoSpot (Add (adding.HostTo recursive path dest)) es = IsErr (added_spot dest (Some path) es)
HasNoSpot (Adopt source dest) es = IsErr (spotted dest (Some (adopted_name source)) es)
HasNoSpot command es = ⊥

-- rows of which this is the last
pub record EndsWith (rows : List AddedRow) (row : AddedRow) : Type 0 where
  pub front : List AddedRow
  pub are : rows ≡ front ++ row ∷ []

-- there is a last row
abbrev pub HasLast : List AddedRow → Type 0
HasLast rows = (row : AddedRow) × EndsWith rows row

-- the entry is that of the last row
abbrev pub IsLastEntry : List AddedRow → Entry → Type 0
IsLastEntry rows e = (row : AddedRow) → EndsWith rows row → e ≡ row.entry

-- the entry of the last row and the text of all, or there was no memory
abbrev pub GivesRows : List AddedRow → Result Given Refusal → Type 0
GivesRows rows (Ok given) = IsLastEntry rows given.entry × (given.text ≡ flat_map host_row rows)
GivesRows rows (Err why) = why ≡ no_memory

-- the same of what was added of a host at a path, or the refusal by its fault
abbrev pub GivesHost : List ℕ → Result (List AddedRow) HostFault → Result Given Refusal → Type 0
GivesHost path (Ok rows) result = GivesRows rows result
GivesHost path (Err fault) result = result ≡ Err (host_refusal path fault)

-- the input has this tree as its file, or is refused so: where it tells, by the bytes that it has left
pub record SaysInput (p : Profile) (left : streams.Told) (given : Result Tree Refusal) : Type 0 where
  pub bytes : List ℕ
  pub are_left : AreLeft left bytes
  pub is : given ≡ input_tree p bytes

-- what is opened of a store that stands so
abbrev pub OpensFound : {A : Type 0} → Standing → Result A Refusal → Type 0
OpensFound NoHead result = IsUnready ready.NoHead result
OpensFound BadHead result = IsUnready ready.BadHead result
OpensFound (Stands p es) result = ⊤

-- the refusal that the store isn't ready has its reason in the Head
abbrev pub IsReadyIn : Told → Refusal → Type 0
IsReadyIn told (refusal.Ready why) = IsReasonInTree why told
IsReadyIn told why = ⊤

-- what is refused where something is read: by what is there, by a failed reading, or by what saves alone can have
abbrev pub IsUngiven : (Result Tree Refusal → Type 0) → Refusal → Type 0
IsUngiven Says (refusal.Rule rule) = Says (Err (refusal.Rule rule))
IsUngiven Says (refusal.Host rule) = Says (Err (refusal.Host rule))
IsUngiven Says refusal.Read = ⊤
IsUngiven Says (refusal.Store fault) = IsSaving fault
IsUngiven Says why = ⊥

module _ (X : List ℕ → List ℕ) (N : List ℕ → ℕ) where
  -- the host has this tree at a path, or is refused so, where it tells
  abbrev pub SaysHost : Profile → HostTold → (recursive : Bool) → List ℕ → Result Tree Refusal → Type 0
  SaysHost p host recursive path given =
      IfSome host (λ h. host_tree path (tree_on_host X N p h recursive path) ≡ given)

  -- this is the spot, in the tree of these entries
  pub record IsFoundAt (told : Told) (p : Profile) (es : Entries) (spot : Spot) (found : OpenSpot) : Type 0 where
    pub spot_is : found.spot ≡ spot
    pub stands : StandsOver X N told found.tree p es

  -- the tree that the Head names was opened, and the spot found in it for what is added
  pub record FindsSpot (dest : Path) (path : Option (List ℕ)) (result : Result OpenSpot Refusal) (before now : Seen)
      (was is : ℕ) : Type 0 where
    pub opens : (standing : Standing) → TellsAs X N before.told standing → Stood before.faults now.faults
        → OpensFound standing result
    pub lost : (p : Profile) (es : Entries) → NamesOver X N before.told p es → Stood before.faults now.faults
        → FollowsOr (IsLostBy before.told (placing_needs X N dest (row_name path) p es))
        (λ spot found. IsFoundAt before.told p es spot found) (added_spot dest path es) result
    pub head : IfOk result (λ found. ReadsHead before.told (Ok found.tree))
    pub mfs : IfOk result (λ found. IsMfs found.tree)
    pub ready : IfErr result (λ why. IsReadyIn before.told why)
    pub kinds : IsOf (may_meet (kinds_placing path)) result
    pub unread : is_read result ≡ false
    pub reads : OnlyReads X (IsBadInHead X N before.told) (refusal_fault result) before now
    pub touches : is ≤ was + (11 * length dest.names + 12)
    pub touched : CountsUp (refusal_fault result) was is

  -- the entry and the rows of a tree that is there and has a plan, whose blocks are held
  pub record IsGiven (p : Profile) (now : Told) (Says : Result Tree Refusal → Type 0) (say : Tree → List ℕ)
      (given : Given) : Type 0 where
    pub tree : Tree
    pub said : Says (Ok tree)
    pub plan : HasHeldPlan X N p now tree
    pub entry_is : given.entry ≡ entry X N p tree
    pub text_is : given.text ≡ say tree

  -- that, or why there is nothing to put
  abbrev pub GivesFor : Profile → Told → (Result Tree Refusal → Type 0) → (Tree → List ℕ) → Result Given Refusal
      → Type 0
  GivesFor p now Says say (Ok given) = IsGiven p now Says say given
  GivesFor p now Says say (Err why) = IsUngiven Says why

  -- what was given is put at its spot, and the tree committed, after its blocks were saved from a moment on
  abbrev pub PutsFrom : OpenSpot → Given → Result (List ℕ) Refusal → (start before now : Seen) → Type 0
  PutsFrom found given done start before now = (t : Tree) (p : Profile) (es : Entries)
      → OnlySaves X NoneIsBad None start before → found.tree.profile ≡ p → HasHeldPlan X N p before.told t
      → given.entry ≡ entry X N p t → IsFolderOver X N p start now [] found.tree.root es
      → FollowsOr (IsLostBy start.told (put_needs X N p (spot_names found.spot) (Dir es)))
      (λ next text. NamesAfter X N start.told now.told (blocks X N p (Dir es)) p next)
      (by_rule (allowed_move X N p (placed_at found.spot t es))) done

  -- and this many touches are enough for it, beside those of the blocks that were saved before
  abbrev pub PutTouches : OpenSpot → Given → (start before now : Seen) → (was is : ℕ) → Type 0
  PutTouches found given start before now was is = (t : Tree) (p : Profile) (es : Entries)
      → OnlySaves X NoneIsBad None start before → found.tree.profile ≡ p → HasHeldPlan X N p before.told t
      → given.entry ≡ entry X N p t → IsFolderOver X N p start now [] found.tree.root es
      → is ≤ was + (40 * length (spot_names found.spot) + put_crossings X N p found.spot t es)

  -- how what was given was put into an opened tree, which was committed
  pub record PutsGiven (found : OpenSpot) (given : Given) (done : Result (List ℕ) Refusal) (before now : Seen)
      (was is : ℕ) : Type 0 where
    pub puts : (start : Seen) → PutsFrom found given done start before now
    pub touches : (start : Seen) → PutTouches found given start before now was is
    pub no_other : (t : Tree) (p : Profile) (es : Entries) → found.tree.profile ≡ p → HasHeldPlan X N p before.told t
        → given.entry ≡ entry X N p t → StandsOver X N before.told found.tree p es
        → Agrees now.told (blocks X N p (Dir es)) → CountsCanRise before
        → SavesNoOther X (next_blocks X N p (put_at_spot found.spot t es)) before.told now.told
    pub text : IfOk done (λ text. text ≡ given.text)
    pub kinds : IsOf opened_kinds done
    pub cause : Shown X (IsBadInTree X N (Some found.tree.profile) found.tree.root.cid) (refusal_fault done) before now
    pub good : KeepsGood X before.told now.told
    pub touched : IsBlaming (refusal_fault done) → was < is
    pub head : OnErr done (head_in now.told ≡ head_in before.told)
    pub writes : WritesInTree X found.tree.profile MovesHead (is_ok done) before.told now.told
