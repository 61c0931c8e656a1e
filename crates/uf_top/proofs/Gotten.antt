-- How what is at a path in a DAG is written to the host.
use Rattle.std.proofs.Common.{◌≡◌, ◌≢◌, ◌⊎◌, ℕ, List, [], ◌∷◌, true, false, refl, sym, ap, subst, ◌∙◌, inl, inr, Option, Some, None, Result, Ok, Err}
use Rattle.std.specs.FinMap.{get}
use Rattle.std.specs.Prelude.{IfErr, IfSome, IsSome}
use Rattle.uf_cid.specs.Blocks.{Lookup}
use Rattle.uf_cid.specs.declared.cid.Cid.{Cid}
use Rattle.uf_edge.specs.Counts.{Counts, Stood}
use Rattle.uf_edge.specs.Host.{HostTold, HostTree, host_changed}
use Rattle.uf_edge.specs.Streams as streams
use Rattle.uf_edge.specs.declared.host.Place.{Place}
use Rattle.uf_host.specs.Faults.{IsGetFault, edge_fault, is_read_fault, is_write_fault}
use Rattle.uf_host.specs.Getting.{HasRoom, LacksFolder}
use Rattle.uf_host.specs.Getting as export
use Rattle.uf_host.specs.Paths.{has_folder, trimmed}
use Rattle.uf_host.specs.Places.{ChangesAt, places_of, with_places}
use Rattle.uf_host.specs.declared.fault.HostFault.{HostFault}
use Rattle.uf_host.specs.declared.fault.HostFault.TheVariants as host
use Rattle.uf_lenient.specs.Answers.{IsFault}
use Rattle.uf_lenient.specs.Reading.{denotes, resolve_from}
use Rattle.uf_lenient.specs.declared.fault.DagFault.{DagFault}
use Rattle.uf_lenient.specs.declared.fault.DagFault.TheVariants as dag
use Rattle.uf_mfs.specs.Standing.{TellsHeld, head_in}
use Rattle.uf_mfs.specs.Touches.{IsBlaming}
use Rattle.uf_path.specs.declared.path.DagPath.{DagPath}
use Rattle.uf_store.specs.Calls.{Calm}
use Rattle.uf_store.specs.Contents.{Contents, Told, held_at}
use Rattle.uf_store.specs.Faults.{NoneIsBad, Shown}
use Rattle.uf_store.specs.Seen.{Seen}
use Rattle.uf_store.specs.declared.store.StoreFault.TheVariants as fault
use Rattle.uf_store.proofs.Calls.{shown-by}
use Rattle.uf_tree.specs.Tree.{Entries, Tree}
use Rattle.uf_tree.specs.declared.profile.Profile.{Profile}
use Rattle.uf_varint.specs.Fields.{◌>>=◌}
use Rattle.uf_command.specs.Dags.{IsToldAs, by_dag, dag_refusal, tree_at, usual_limits}
use Rattle.uf_command.specs.Kinds.{get_kinds, IsOf, fault_behind, may_close, refusal_fault, refusal_kind}
use Rattle.uf_command.specs.Statuses.{ended, no_memory, status_of}
use Rattle.uf_command.specs.declared.types.Command.TheVariants.{Get}
use Rattle.uf_command.specs.declared.types.HostRule.TheVariants as rules
use Rattle.uf_command.specs.declared.types.Refusal.{Refusal}
use Rattle.uf_command.specs.declared.types.Refusal.TheVariants as refusal
use Rattle.uf_top.specs.Answering.{DoesAnswer}
use Rattle.uf_top.specs.Around.{HostSide, SinkSide, around}
use Rattle.uf_top.specs.Causes.{IsBadIn, IsReady, IsReadyBy, is_read, is_write}
use Rattle.uf_top.specs.Endings.{EndsBy, PrintsAt}
use Rattle.uf_top.specs.Foreign.{FindsTree, IsOfReading, IsOwnRefusal, LeadsTo}
use Rattle.uf_top.specs.Getting.{Gets, IsGotten, IsGottenInPart, IsNotGotten, IsOfGetting, IsUnwritten, LeavesAt}
use Rattle.uf_top.specs.HostTexts.{host_refusal}
use Rattle.uf_top.specs.Hosted.{IsNoReading}
use Rattle.uf_top.specs.Losing.{DoesOver}
use Rattle.uf_top.specs.Naming.{StaysNamed, TellsBlocks}
use Rattle.uf_top.specs.Reply.{Outside, World, gotten, in_silence, in_world, or_before, put_on_host, reply, where_named, where_room}
use Rattle.uf_top.specs.Working.{Does}
use Rattle.uf_top.proofs.Cats.{below-fault, of-reading, own-wants, same-fault, tells-some, way-fault}
use Rattle.uf_top.proofs.Grafted.{fault-tree}
use Rattle.uf_top.proofs.Losing.{names-same}
use Rattle.uf_top.proofs.Printing.{after-nothing, nothing-printed, rises-still, whole-printed}
use Rattle.uf_top.proofs.Shows.{counts-still, none-long, not-rose}

-- ---- a tree that is put on the host, or isn't

trimmed-none : trimmed [] ≡ []
unfolding trimmed
trimmed-none = refl

is-named : {A : Type 0} (path : List ℕ) (a : A) → trimmed path ≢ [] → where_named path a ≡ Ok a
is-named [] a named = absurd (named trimmed-none)
is-named (b ∷ path) a named = refl

module _ (held : Lookup) (source : DagPath) (path : List ℕ) (tree : Tree) (leads : tree_at held source ≡ Ok tree) (there : HostTree) where
  then-put : gotten held source path there ≡ put_on_host path there tree
  then-put = ap (λ (r : Result Tree DagFault). by_dag source r >>= λ t. put_on_host path there t) leads

  abbrev after : HostTree
  after = with_places (places_of (trimmed path) tree) there

  put-where : (place : Option Place) (folder : Result HostTree Refusal) → get there (trimmed path) ≡ place → where_room path place (has_folder there (trimmed path)) after ≡ folder → gotten held source path there ≡ folder
  put-where place folder is found = then-put ∙ ap (λ (o : Option Place). where_room path o (has_folder there (trimmed path)) after) is ∙ found

  put-there : trimmed path ≢ [] → HasRoom there (trimmed path) → gotten held source path there ≡ Ok after
  put-there named room = put-where None (Ok after) room.absent (ap (λ b. where_room path None b after) room.folder ∙ is-named path after named)

  lacks-there : LacksFolder there (trimmed path) → gotten held source path there ≡ Err (refusal.Host (rules.Absent path))
  lacks-there lacks = put-where None (Err (refusal.Host (rules.Absent path))) lacks.absent (ap (λ b. where_room path None b after) lacks.folder)

  exists-there : IsSome (get there (trimmed path)) → gotten held source path there ≡ Err (refusal.Host (rules.Exists path))
  exists-there some = by (get there (trimmed path)) refl some
    where
      by : (o : Option Place) → get there (trimmed path) ≡ o → IsSome o → gotten held source path there ≡ Err (refusal.Host (rules.Exists path))
      by None is some = absurd (let e : false ≡ true = some in cc)
      by (Some place) is some = put-where (Some place) (Err (refusal.Host (rules.Exists path))) is refl

-- a tree that isn't found isn't put there
not-found : (held : Lookup) (source : DagPath) (path : List ℕ) (why : Refusal) (told : HostTold) → FindsTree held source (Err why) → IsNotGotten held source path told told why
not-found held source path why told (inl own) = record { same = refl; said = inl own }
not-found held source path why None (inr says) = record { same = refl; said = inr (inr tt) }
not-found held source path why (Some there) (inr says) = record { same = refl; said = inr (inr (ap (λ (r : Result Tree Refusal). r >>= λ t. put_on_host path there t) says)) }

-- ---- kinds of refusals

wider : (why : Refusal) → IsOfReading why → IsOfGetting why
wider (refusal.Rule r) of = absurd of
wider (refusal.Dag r) of = tt
wider (refusal.Car number place) of = absurd of
wider (refusal.CarLacks cid) of = absurd of
wider (refusal.OwnClash cid first second) of = absurd of
wider (refusal.Host r) of = absurd of
wider (refusal.BadPath p) of = absurd of
wider refusal.InputTooLong of = absurd of
wider refusal.BadPins of = absurd of
wider refusal.Usage of = absurd of
wider (refusal.Ready r) of = absurd of
wider refusal.Read of = absurd of
wider refusal.Write of = absurd of
wider (refusal.Store f) of = tt

-- a reading that refuses is no failed reading or writing
pub record IsNoEdge (why : Refusal) : Type 0 where
  pub unread : is_read {A = Unit {0}} (Err why) ≡ false
  pub unwritten : is_write {A = Unit {0}} (Err why) ≡ false

no-edge : (why : Refusal) → IsOfReading why → IsNoEdge why
no-edge (refusal.Rule r) of = absurd of
no-edge (refusal.Dag r) of = record { unread = refl; unwritten = refl }
no-edge (refusal.Car number place) of = absurd of
no-edge (refusal.CarLacks cid) of = absurd of
no-edge (refusal.OwnClash cid first second) of = absurd of
no-edge (refusal.Host r) of = absurd of
no-edge (refusal.BadPath p) of = absurd of
no-edge refusal.InputTooLong of = absurd of
no-edge refusal.BadPins of = absurd of
no-edge refusal.Usage of = absurd of
no-edge (refusal.Ready r) of = absurd of
no-edge refusal.Read of = absurd of
no-edge refusal.Write of = absurd of
no-edge (refusal.Store fault.Failed) of = record { unread = refl; unwritten = refl }
no-edge (refusal.Store (fault.Damaged cid)) of = record { unread = refl; unwritten = refl }
no-edge (refusal.Store (fault.Missing cid)) of = record { unread = refl; unwritten = refl }
no-edge (refusal.Store (fault.BadBlock cid role)) of = record { unread = refl; unwritten = refl }
no-edge (refusal.Store (fault.Clash cid first second)) of = record { unread = refl; unwritten = refl }
no-edge (refusal.Store fault.Memory) of = record { unread = refl; unwritten = refl }

module _ (held : Lookup) (source : DagPath) (path : List ℕ) (told now : HostTold) where
  -- what a reading refuses isn't written
  refused-gets : (why : Refusal) → IsOfReading why → IsNotGotten held source path told now why → Gets held source path told now (Err why)
  refused-gets (refusal.Rule r) of n = absurd of
  refused-gets (refusal.Dag r) of n = inl n
  refused-gets (refusal.Car number place) of n = absurd of
  refused-gets (refusal.CarLacks cid) of n = absurd of
  refused-gets (refusal.OwnClash cid first second) of n = absurd of
  refused-gets (refusal.Host r) of n = absurd of
  refused-gets (refusal.BadPath p) of n = absurd of
  refused-gets refusal.InputTooLong of n = absurd of
  refused-gets refusal.BadPins of n = absurd of
  refused-gets refusal.Usage of n = absurd of
  refused-gets (refusal.Ready r) of n = absurd of
  refused-gets refusal.Read of n = absurd of
  refused-gets refusal.Write of n = absurd of
  refused-gets (refusal.Store f) of n = inl n

  -- the ways of a refusal
  abbrev Ways : Refusal → Type 0
  Ways why = (why ≡ refusal.Write) ⊎ IsNotGotten held source path told now why ⊎ IsOwnRefusal why

  ways-of : (why : Refusal) → Gets held source path told now (Err why) → Ways why
  ways-of refusal.Write g = inl refl
  ways-of (refusal.Rule r) (inl n) = inr (inl n)
  ways-of (refusal.Rule r) (inr p) = inr (inr p.0)
  ways-of (refusal.Dag r) (inl n) = inr (inl n)
  ways-of (refusal.Dag r) (inr p) = inr (inr p.0)
  ways-of (refusal.Car number place) (inl n) = inr (inl n)
  ways-of (refusal.CarLacks cid) (inl n) = inr (inl n)
  ways-of (refusal.OwnClash cid first second) (inl n) = inr (inl n)
  ways-of (refusal.Car number place) (inr p) = inr (inr p.0)
  ways-of (refusal.CarLacks cid) (inr p) = inr (inr p.0)
  ways-of (refusal.OwnClash cid first second) (inr p) = inr (inr p.0)
  ways-of (refusal.Host r) (inl n) = inr (inl n)
  ways-of (refusal.Host r) (inr p) = inr (inr p.0)
  ways-of (refusal.BadPath p) (inl n) = inr (inl n)
  ways-of (refusal.BadPath p) (inr q) = inr (inr q.0)
  ways-of refusal.InputTooLong (inl n) = inr (inl n)
  ways-of refusal.BadPins (inl n) = inr (inl n)
  ways-of refusal.InputTooLong (inr p) = inr (inr p.0)
  ways-of refusal.BadPins (inr p) = inr (inr p.0)
  ways-of refusal.Usage (inl n) = inr (inl n)
  ways-of refusal.Usage (inr p) = inr (inr p.0)
  ways-of (refusal.Ready r) (inl n) = inr (inl n)
  ways-of (refusal.Ready r) (inr p) = inr (inr p.0)
  ways-of refusal.Read (inl n) = inr (inl n)
  ways-of refusal.Read (inr p) = inr (inr p.0)
  ways-of (refusal.Store f) (inl n) = inr (inl n)
  ways-of (refusal.Store f) (inr p) = inr (inr p.0)

  -- what stands there, by the status
  leaves-of : (done : Result (Unit {0}) Refusal) → IfErr done IsOfGetting → Gets held source path told now done → LeavesAt held source path told now (ended done)
  leaves-of (Ok done) of g = g
  leaves-of (Err (refusal.Rule r)) of g = absurd of
  leaves-of (Err (refusal.Dag r)) of (inl n) = n.same
  leaves-of (Err (refusal.Dag r)) of (inr p) = absurd p.0
  leaves-of (Err (refusal.Car number place)) of g = absurd of
  leaves-of (Err (refusal.CarLacks cid)) of g = absurd of
  leaves-of (Err (refusal.OwnClash cid first second)) of g = absurd of
  leaves-of (Err (refusal.Host r)) of (inl n) = n.same
  leaves-of (Err (refusal.Host r)) of (inr p) = absurd p.0
  leaves-of (Err (refusal.BadPath p)) of g = absurd of
  leaves-of (Err refusal.InputTooLong) of g = absurd of
  leaves-of (Err refusal.BadPins) of g = absurd of
  leaves-of (Err refusal.Usage) of g = absurd of
  leaves-of (Err (refusal.Ready r)) of g = absurd of
  leaves-of (Err refusal.Read) of (inl n) = n.same
  leaves-of (Err refusal.Read) of (inr p) = absurd p.0
  leaves-of (Err refusal.Write) of g = g
  leaves-of (Err (refusal.Store fault.Failed)) of (inl n) = inl n.same
  leaves-of (Err (refusal.Store fault.Failed)) of (inr p) = inr p.1
  leaves-of (Err (refusal.Store (fault.Damaged cid))) of (inl n) = inl n.same
  leaves-of (Err (refusal.Store (fault.Damaged cid))) of (inr p) = inr p.1
  leaves-of (Err (refusal.Store (fault.Missing cid))) of (inl n) = n.same
  leaves-of (Err (refusal.Store (fault.Missing cid))) of (inr p) = absurd p.0
  leaves-of (Err (refusal.Store (fault.BadBlock cid role))) of (inl n) = n.same
  leaves-of (Err (refusal.Store (fault.BadBlock cid role))) of (inr p) = absurd p.0
  leaves-of (Err (refusal.Store (fault.Clash cid first second))) of (inl n) = n.same
  leaves-of (Err (refusal.Store (fault.Clash cid first second))) of (inr p) = absurd p.0
  leaves-of (Err (refusal.Store fault.Memory)) of (inl n) = inl n.same
  leaves-of (Err (refusal.Store fault.Memory)) of (inr p) = inr p.1

-- ---- from the answer of the export

module _ (held : Lookup) (source : DagPath) (path : List ℕ) (cid : Cid) (leads : LeadsTo held source cid) (told now : HostTold) where
  abbrev exports : Result (Unit {0}) HostFault → Type 0
  exports r = export.Gets held usual_limits cid (trimmed path) told now r

  tree-is : (t : Tree) → denotes held usual_limits cid ≡ Ok t → tree_at held source ≡ Ok t
  tree-is t denoted = ap (λ (r : Result Cid DagFault). r >>= λ c. denotes held usual_limits c) leads ∙ denoted

  all-gotten : exports (Ok tt) → IsGotten held source path told now
  all-gotten stands = record { cid = cid; leads = leads; stands = stands }

  part-gotten : export.StandsInPart held usual_limits cid (trimmed path) told now → IsGottenInPart held source path told now
  part-gotten stands = record { cid = cid; leads = leads; stands = stands }

  moved : (why : Refusal) → now ≡ told → IsNotGotten held source path told told why → IsNotGotten held source path told now why
  moved why same n = record { same = same; said = n.said }

  says-none : (Says : HostTree → Type 0) (why : Refusal) → export.WritesNone held usual_limits cid (trimmed path) told now Says
      → ((tree : Tree) → tree_at held source ≡ Ok tree → (there : HostTree) → Says there → gotten held source path there ≡ Err why) → IsNotGotten held source path told now why
  says-none Says why none says = record { same = none.2; said = inr (inr (by told none.1)) }
    where
      by : (told : HostTold) → IfSome told Says → IfSome told (λ there. gotten held source path there ≡ Err why)
      by None h = tt
      by (Some there) h = says none.0.0 (tree-is none.0.0 none.0.1) there h

  dag-none : (f : DagFault) → IsFault (denotes held usual_limits cid) f → now ≡ told → (why : Refusal) → IsToldAs (dag_refusal source f) why → IsNotGotten held source path told now why
  dag-none f said same why is = moved why same (not-found held source path why told (fault-tree held source f why (below-fault held source cid leads f said) is))

  -- the refusal by each fault
  dag-gets : (f : DagFault) (why : Refusal) → exports (Err (host.Dag f)) → IsToldAs (dag_refusal source f) why → Gets held source path told now (Err why)
  dag-gets f why none is = refused-gets held source path told now why (of-reading source f why is) (dag-none f (inr none.0) none.1 why is)

  host-gets : (f : HostFault) → IsNoReading f → exports (Err f) → Gets held source path told now (Err (host_refusal path f))
  host-gets host.Write bare part = part-gotten part
  host-gets host.Exists bare none = inl (says-none (λ there. IsSome (get there (trimmed path))) (refusal.Host (rules.Exists path)) none (λ tree found there some. exists-there held source path tree found there some))
  host-gets host.Absent bare none = inl (says-none (λ there. LacksFolder there (trimmed path)) (refusal.Host (rules.Absent path)) none (λ tree found there lacks. lacks-there held source path tree found there lacks))
  host-gets host.Read bare none = inl (record { same = none.1; said = inr (inl refl) })
  host-gets (host.Dag f) bare none = absurd bare
  host-gets (host.Store f) bare (inl none) = inl (dag-none (dag.Store f) none.0 none.1 (refusal.Store f) (inr refl))
  host-gets (host.Store f) bare (inr part) = inr (part.0, part-gotten part.1)
  host-gets host.NeedsRecursive bare none = absurd none
  host-gets (host.Other there) bare none = absurd none
  host-gets (host.Name there) bare none = absurd none
  host-gets (host.TooDeep there) bare none = absurd none
  host-gets (host.FileTooLong there) bare none = absurd none
  host-gets (host.Collision first second) bare none = absurd none
  host-gets host.TooBig bare none = absurd none

-- ---- over what the store tells

pub told-gotten : (store : Told) (source : DagPath) (path : List ℕ) (cid : Cid) (told now : HostTold) → ((t : Contents) → store ≡ Some t → export.Gets (held_at t) usual_limits cid (trimmed path) told now (Ok tt))
    → IfSome store (λ t. LeadsTo (held_at t) source cid → Gets (held_at t) source path told now (Ok tt))
told-gotten None source path cid told now exports = tt
told-gotten (Some t) source path cid told now exports = λ leads. all-gotten (held_at t) source path cid leads told now (exports t refl)

pub told-dag : (store : Told) (source : DagPath) (path : List ℕ) (cid : Cid) (told now : HostTold) (f : DagFault) (why : Refusal) → ((t : Contents) → store ≡ Some t → export.Gets (held_at t) usual_limits cid (trimmed path) told now (Err (host.Dag f)))
    → IsToldAs (dag_refusal source f) why → IfSome store (λ t. LeadsTo (held_at t) source cid → Gets (held_at t) source path told now (Err why))
told-dag None source path cid told now f why exports is = tt
told-dag (Some t) source path cid told now f why exports is = λ leads. dag-gets (held_at t) source path cid leads told now f why (exports t refl) is

pub told-host : (store : Told) (source : DagPath) (path : List ℕ) (cid : Cid) (told now : HostTold) (f : HostFault) → IsNoReading f → ((t : Contents) → store ≡ Some t → export.Gets (held_at t) usual_limits cid (trimmed path) told now (Err f))
    → IfSome store (λ t. LeadsTo (held_at t) source cid → Gets (held_at t) source path told now (Err (host_refusal path f)))
told-host None source path cid told now f bare exports = tt
told-host (Some t) source path cid told now f bare exports = λ leads. host-gets (held_at t) source path cid leads told now f bare (exports t refl)

pub told-wanting : (store : Told) (source : DagPath) (path : List ℕ) (cid : Cid) (told : HostTold) → IfSome store (λ t. LeadsTo (held_at t) source cid → Gets (held_at t) source path told told (Err no_memory))
told-wanting None source path cid told = tt
told-wanting (Some t) source path cid told = λ leads. inl (record { same = refl; said = inl tt })

-- ---- what the refusal has of the fault

-- the fault is one of a reading, or none
abbrev pub Splits : DagPath → List ℕ → HostFault → Refusal → Type 0
Splits source path f why = ((d : DagFault) × (f ≡ host.Dag d) × IsToldAs (dag_refusal source d) why) ⊎ (IsNoReading f × (why ≡ host_refusal path f))

splits-of : (source : DagPath) (path : List ℕ) (f : HostFault) (why : Refusal) → IsUnwritten source path f why → Splits source path f why
splits-of source path (host.Dag d) why is = inl (d, refl, is)
splits-of source path host.Write why is = inr (tt, is)
splits-of source path host.Exists why is = inr (tt, is)
splits-of source path host.Absent why is = inr (tt, is)
splits-of source path host.Read why is = inr (tt, is)
splits-of source path (host.Store f) why is = inr (tt, is)
splits-of source path host.NeedsRecursive why is = inr (tt, is)
splits-of source path (host.Other there) why is = inr (tt, is)
splits-of source path (host.Name there) why is = inr (tt, is)
splits-of source path (host.TooDeep there) why is = inr (tt, is)
splits-of source path (host.FileTooLong there) why is = inr (tt, is)
splits-of source path (host.Collision first second) why is = inr (tt, is)
splits-of source path host.TooBig why is = inr (tt, is)

-- by each fault that isn't one of a reading
pub record IsEdge (path : List ℕ) (f : HostFault) (hash : List ℕ → List ℕ) (a b : Seen) : Type 0 where
  pub kind : IsOfGetting (host_refusal path f)
  pub unread : is_read {A = Unit {0}} (Err (host_refusal path f)) ≡ is_read_fault {A = Unit {0}} (Err f)
  pub unwritten : is_write {A = Unit {0}} (Err (host_refusal path f)) ≡ is_write_fault {A = Unit {0}} (Err f)
  pub shown : Shown hash NoneIsBad (edge_fault {A = Unit {0}} (Err f)) a b → Shown hash NoneIsBad (refusal_fault {A = Unit {0}} (Err (host_refusal path f))) a b

pub edge-of : (path : List ℕ) (f : HostFault) (hash : List ℕ → List ℕ) (a b : Seen) → IsGetFault f → IsNoReading f → IsEdge path f hash a b
edge-of path host.Write hash a b get bare = record { kind = tt; unread = refl; unwritten = refl; shown = λ h. h }
edge-of path host.Exists hash a b get bare = record { kind = tt; unread = refl; unwritten = refl; shown = λ h. h }
edge-of path host.Absent hash a b get bare = record { kind = tt; unread = refl; unwritten = refl; shown = λ h. h }
edge-of path host.Read hash a b get bare = record { kind = tt; unread = refl; unwritten = refl; shown = λ h. h }
edge-of path (host.Dag f) hash a b get bare = absurd bare
edge-of path (host.Store fault.Failed) hash a b get bare = record { kind = tt; unread = refl; unwritten = refl; shown = λ h. h }
edge-of path (host.Store (fault.Damaged cid)) hash a b get bare = record { kind = tt; unread = refl; unwritten = refl; shown = λ h. h }
edge-of path (host.Store (fault.Missing cid)) hash a b get bare = record { kind = tt; unread = refl; unwritten = refl; shown = λ h. h }
edge-of path (host.Store (fault.BadBlock cid role)) hash a b get bare = record { kind = tt; unread = refl; unwritten = refl; shown = λ h. h }
edge-of path (host.Store (fault.Clash cid first second)) hash a b get bare = record { kind = tt; unread = refl; unwritten = refl; shown = λ h. h }
edge-of path (host.Store fault.Memory) hash a b get bare = record { kind = tt; unread = refl; unwritten = refl; shown = λ h. h }
edge-of path host.NeedsRecursive hash a b get bare = absurd get
edge-of path (host.Other there) hash a b get bare = absurd get
edge-of path (host.Name there) hash a b get bare = absurd get
edge-of path (host.TooDeep there) hash a b get bare = absurd get
edge-of path (host.FileTooLong there) hash a b get bare = absurd get
edge-of path (host.Collision first second) hash a b get bare = absurd get
edge-of path host.TooBig hash a b get bare = absurd get

-- what an unwritten tree leaves, by the fault
module _ (source : DagPath) (path : List ℕ) (f : HostFault) (why : Refusal) (is : IsUnwritten source path f why) where
  pub unwritten-gets : (store : Told) (cid : Cid) (told now : HostTold) → ((t : Contents) → store ≡ Some t → export.Gets (held_at t) usual_limits cid (trimmed path) told now (Err f))
      → IfSome store (λ t. LeadsTo (held_at t) source cid → Gets (held_at t) source path told now (Err why))
  unwritten-gets store cid told now exports = by (splits-of source path f why is)
    where
      by : Splits source path f why → IfSome store (λ t. LeadsTo (held_at t) source cid → Gets (held_at t) source path told now (Err why))
      by (inl d) = told-dag store source path cid told now d.0 why (subst (λ (f : HostFault). (t : Contents) → store ≡ Some t → export.Gets (held_at t) usual_limits cid (trimmed path) told now (Err f)) d.1 exports) d.2
      by (inr h) = subst (λ (w : Refusal). IfSome store (λ t. LeadsTo (held_at t) source cid → Gets (held_at t) source path told now (Err w))) (sym h.1) (told-host store source path cid told now f h.0 exports)

  module _ (hash : List ℕ → List ℕ) (a b : Seen) (get : IsGetFault f) where
    pub record IsAs : Type 0 where
      pub kind : IsOfGetting why
      pub unread : is_read {A = Unit {0}} (Err why) ≡ is_read_fault {A = Unit {0}} (Err f)
      pub unwritten : is_write {A = Unit {0}} (Err why) ≡ is_write_fault {A = Unit {0}} (Err f)
      pub shown : Shown hash NoneIsBad (edge_fault {A = Unit {0}} (Err f)) a b → Shown hash NoneIsBad (refusal_fault {A = Unit {0}} (Err why)) a b

    pub as-of : IsAs
    as-of = by (splits-of source path f why is)
      where
        by : Splits source path f why → IsAs
        by (inl d) =
            let of = of-reading source d.0 why d.2 in let edge = no-edge why of in
            record {
              kind = wider why of;
              unread = edge.unread ∙ ap (λ (f : HostFault). is_read_fault {A = Unit {0}} (Err f)) (sym d.1);
              unwritten = edge.unwritten ∙ ap (λ (f : HostFault). is_write_fault {A = Unit {0}} (Err f)) (sym d.1);
              shown = λ shown. same-fault source d.0 hash a b why d.2 (subst (λ (f : HostFault). Shown hash NoneIsBad (edge_fault {A = Unit {0}} (Err f)) a b) d.1 shown);
            }
        by (inr h) =
            let edge = edge-of path f hash a b get h.0 in
            record {
              kind = subst IsOfGetting (sym h.1) edge.kind;
              unread = ap (λ (w : Refusal). is_read {A = Unit {0}} (Err w)) h.1 ∙ edge.unread;
              unwritten = ap (λ (w : Refusal). is_write {A = Unit {0}} (Err w)) h.1 ∙ edge.unwritten;
              shown = λ shown. subst (λ (w : Refusal). Shown hash NoneIsBad (refusal_fault {A = Unit {0}} (Err w)) a b) (sym h.1) (edge.shown shown);
            }

-- ---- how it is done

-- what every refusal of `get` has
pub record IsRefused (why : Refusal) (told : Told) (source : DagPath) (path : List ℕ) (l : streams.Told) : Type 0 where
  pub kinds : may_close get_kinds (refusal_kind why) ≡ true
  pub ready : IsReadyBy told (Get source path) why
  pub prints : (held : streams.Told) → PrintsAt (λ text. text ≡ []) false (status_of why) held held
  pub blames : IsBlaming (fault_behind why) → ⊥

of-getting : (hash : List ℕ → List ℕ) (a b : Seen) (told : Told) (source : DagPath) (path : List ℕ) (l : streams.Told) (why : Refusal) → IsOfGetting why → Shown hash NoneIsBad (fault_behind why) a b → IsRefused why told source path l
of-getting hash a b told source path l (refusal.Rule r) of h = absurd of
of-getting hash a b told source path l (refusal.Dag r) of h = record { kinds = refl; ready = tt; prints = λ held. refl; blames = λ blames. blames }
of-getting hash a b told source path l (refusal.Car number place) of h = absurd of
of-getting hash a b told source path l (refusal.CarLacks cid) of h = absurd of
of-getting hash a b told source path l (refusal.OwnClash cid first second) of h = absurd of
of-getting hash a b told source path l (refusal.Host r) of h = record { kinds = refl; ready = tt; prints = λ held. refl; blames = λ blames. blames }
of-getting hash a b told source path l (refusal.BadPath p) of h = absurd of
of-getting hash a b told source path l refusal.InputTooLong of h = absurd of
of-getting hash a b told source path l refusal.BadPins of h = absurd of
of-getting hash a b told source path l refusal.Usage of h = absurd of
of-getting hash a b told source path l (refusal.Ready r) of h = absurd of
of-getting hash a b told source path l refusal.Read of h = record { kinds = refl; ready = tt; prints = λ held. refl; blames = λ blames. blames }
of-getting hash a b told source path l refusal.Write of h = record { kinds = refl; ready = tt; prints = λ held. ([], refl, whole-printed [] held held (after-nothing held)); blames = λ blames. blames }
of-getting hash a b told source path l (refusal.Store fault.Failed) of h = record { kinds = refl; ready = tt; prints = λ held. refl; blames = λ blames. blames }
of-getting hash a b told source path l (refusal.Store (fault.Damaged cid)) of h = record { kinds = refl; ready = tt; prints = λ held. refl; blames = λ blames. blames }
of-getting hash a b told source path l (refusal.Store (fault.Missing cid)) of h = record { kinds = refl; ready = tt; prints = λ held. refl; blames = λ blames. blames }
of-getting hash a b told source path l (refusal.Store (fault.BadBlock cid role)) of h = absurd h.bad
of-getting hash a b told source path l (refusal.Store (fault.Clash cid first second)) of h = record { kinds = refl; ready = tt; prints = λ held. refl; blames = λ blames. blames }
of-getting hash a b told source path l (refusal.Store fault.Memory) of h = record { kinds = refl; ready = tt; prints = λ held. refl; blames = λ blames. blames }

module _ (X : List ℕ → List ℕ) (N : List ℕ → ℕ) (source : DagPath) (path : List ℕ) (a b : Seen) (same : b.told ≡ a.told) (l : streams.Told) (i : ℕ) (h : streams.Told) (w t0 t1 : ℕ) (s t : HostSide) (er er2 : SinkSide) where
  by-told : (A : Lookup → Type 0) (held : Lookup) → TellsBlocks a.told held → IfSome a.told (λ t. A (held_at t)) → A held
  by-told A held tells h = by a.told tells h
    where
      by : (told : Told) → TellsBlocks told held → IfSome told (λ t. A (held_at t)) → A held
      by None tells h = absurd tells
      by (Some t) tells h = subst A (sym tells) h

  still-tells : (held : Lookup) → TellsBlocks a.told held → IsSome b.told
  still-tells held tells = subst IsSome (sym same) (by a.told tells)
    where
      by : (told : Told) → TellsBlocks told held → IsSome told
      by None tells = absurd tells
      by (Some t) tells = refl

  -- the reply was given, and the host is as it says; or there was no memory
  pub record IsSaid (held : Lookup) (there : HostTree) (done : Result (Unit {0}) Refusal) : Type 0 where
    pub ends : EndsBy (in_silence (gotten held source path there)) done h h
    pub after_it : t.told ≡ Some (or_before there (gotten held source path there))

  abbrev pub IsTold : Lookup → HostTree → Result (Unit {0}) Refusal → Type 0
  IsTold held there done = (done ≡ Err no_memory) ⊎ IsSaid held there done

  got-said : (held : Lookup) (there : HostTree) → s.told ≡ Some there → IsGotten held source path s.told t.told → IsSaid held there (Ok tt)
  got-said held there tells g =
      let leads = ap (λ (r : Result Cid DagFault). r >>= λ c. denotes held usual_limits c) g.leads ∙ g.stands.denoted in
      let says = put-there held source path g.stands.tree leads there g.stands.named (subst (λ o. IfSome o (λ there. HasRoom there (trimmed path))) tells g.stands.room) in
      record {
        ends = subst (λ (r : Result HostTree Refusal). EndsBy (in_silence r) (Ok tt) h h) (sym says) (refl, after-nothing h);
        after_it = g.stands.are_put ∙ ap (host_changed (with_places (places_of (trimmed path) g.stands.tree))) tells ∙ ap (λ (r : Result HostTree Refusal). Some (or_before there r)) (sym says);
      }

  none-said : (held : Lookup) (there : HostTree) (why : Refusal) → s.told ≡ Some there → t.told ≡ s.told → gotten held source path there ≡ Err why → IsSaid held there (Err why)
  none-said held there why tells stays says = record {
    ends = subst (λ (r : Result HostTree Refusal). EndsBy (in_silence r) (Err why) h h) (sym says) (refl, refl);
    after_it = stays ∙ tells ∙ ap (λ (r : Result HostTree Refusal). Some (or_before there r)) (sym says);
  }

  -- what every answer of `get` has
  pub record IsEnded (done : Result (Unit {0}) Refusal) : Type 0 where
    pub kinds : IsOf (may_close get_kinds) done
    pub ready : IsReady a.told (Get source path) done
    pub prints : PrintsAt (λ text. text ≡ []) false (ended done) h h
    pub blames : IsBlaming (refusal_fault done) → ⊥
    pub head : IfErr done (λ why. head_in b.told ≡ head_in a.told)

  ended-of : (done : Result (Unit {0}) Refusal) → IfErr done IsOfGetting → Shown X NoneIsBad (refusal_fault done) a b → IsEnded done
  ended-of (Ok done) kind cause = record { kinds = tt; ready = tt; prints = ([], refl, after-nothing h); blames = λ blames. blames; head = tt }
  ended-of (Err why) kind cause =
      let so = of-getting X a b a.told source path l why kind cause in
      record { kinds = so.kinds; ready = so.ready; prints = so.prints h; blames = so.blames; head = ap head_in same }

  module _ (done : Result (Unit {0}) Refusal) (gets : IfSome a.told (λ c. Gets (held_at c) source path s.told t.told done)) (below : ChangesAt (trimmed path) s.told t.told) (kind : IfErr done IsOfGetting)
      (reads : Counts (is_read done) s.reads t.reads) (writes : Counts (is_write done) s.writes t.writes) (cause : Shown X NoneIsBad (refusal_fault done) a b) where
    told-so : (held : Lookup) (there : HostTree) → s.told ≡ Some there → Stood s.reads t.reads → Stood s.writes t.writes → Calm a b → Gets held source path s.told t.told done → IsTold held there done
    told-so held there tells read written calm gets = by done gets reads writes cause
      where
        by : (done : Result (Unit {0}) Refusal) → Gets held source path s.told t.told done → Counts (is_read done) s.reads t.reads → Counts (is_write done) s.writes t.writes → Shown X NoneIsBad (refusal_fault done) a b → IsTold held there done
        by (Ok done) g reads writes cause = inr (got-said held there tells g)
        by (Err why) g reads writes cause = refused (ways-of held source path s.told t.told why g)
          where
            refused : Ways held source path s.told t.told why → IsTold held there (Err why)
            refused (inl is) = absurd (not-rose s.writes t.writes ((subst (λ (w : Refusal). Counts (is_write {A = Unit {0}} (Err w)) s.writes t.writes) is writes).rose refl) written)
            refused (inr (inr own)) = inl (ap (λ (r : Refusal). Err r) (own-wants X a b why own cause calm))
            refused (inr (inl n)) = said n.said
              where
                said : IsOwnRefusal why ⊎ (why ≡ refusal.Read) ⊎ IfSome s.told (λ there. gotten held source path there ≡ Err why) → IsTold held there (Err why)
                said (inl own) = inl (ap (λ (r : Refusal). Err r) (own-wants X a b why own cause calm))
                said (inr (inl is)) = absurd (not-rose s.reads t.reads ((subst (λ (w : Refusal). Counts (is_read {A = Unit {0}} (Err w)) s.reads t.reads) is reads).rose refl) read)
                said (inr (inr says)) = inr (none-said held there why tells n.same (subst (λ o. IfSome o (λ there. gotten held source path there ≡ Err why)) tells says))

    answered : (world : World) → TellsBlocks a.told world.held → IsTold world.held world.host done → DoesAnswer X N (Get source path) world done h h b.told t.told
    answered world tells (inl wants) = inl (record { ends_are = wants; stands = still-tells world.held tells })
    answered world tells (inr said) = inr (record { ends = said.ends; stands = still-tells world.held tells; blocks = subst (λ t. TellsHeld t []) (sym same) (tells-some a.told world.held tells) }, said.after_it)

    over : (p : Profile) (es : Entries) (held : Lookup) (outside : Outside) → StaysNamed X N a.told b.told p es → IsTold held outside.host done → DoesOver X N a.told b.told p es [] (reply X N (Get source path) (in_world p es held outside)) done h h
    over p es held outside named (inl wants) = inl (record { fault = fault.Memory; ends_are = wants; loss = tt; stands = names-same X N a.told b.told p es same named })
    over p es held outside named (inr said) = inr (record { ends = said.ends; stands = names-same X N a.told b.told p es same named })

    stands-left : (store : Told) → IfSome store (λ c. Gets (held_at c) source path s.told t.told done) → IfSome store (λ c. LeavesAt (held_at c) source path s.told t.told (ended done))
    stands-left None gets = tt
    stands-left (Some c) gets = leaves-of (held_at c) source path s.told t.told done kind gets

    so : IsEnded done
    so = ended-of done kind cause

    pub get-does : Does X N (Get source path) done (around a l i h w t0 s er) (around b l i h w t1 t er2)
    get-does = record {
      answers = λ world finds input quiet. answered world finds.held (by-told (λ held. IsTold held world.host done) world.held finds.held
          (each-told (λ held. IsTold held world.host done) (λ held. told-so held world.host (input.1 refl).0 (input.1 refl).1 (quiet.written.host refl) quiet.store)));
      lost = λ p es rows held outside named tells heights input quiet. over p es held outside named (by-told (λ held. IsTold held outside.host done) held tells
          (each-told (λ held. IsTold held outside.host done) (λ held. told-so held outside.host (input.1 refl).0 (input.1 refl).1 (quiet.written.host refl) quiet.store)));
      unprinted = λ world after. absurd cc;
      unprinted_over = λ p es held outside after. absurd cc;
      prefix = λ world finds input room. nothing-printed (reply X N (Get source path) world).ends h h refl;
      prints = so.prints;
      kinds = so.kinds;
      ready = so.ready;
      long = none-long done;
      reads = counts-still i;
      host = record { reads = reads; writes = writes };
      gets = record { below = below; leaves = stands-left a.told gets };
      pins = tt;
      kept = tt;
      writes = rises-still w;
      cause = shown-by X NoneIsBad (IsBadIn X N a.told b.told) (refusal_fault done) a b (λ role bytes bad. absurd bad) cause;
      whole = λ s needs stands calm. absurd cc;
      touches = λ p es bytes rows named input heights calm. tt;
      touched = λ blames. absurd (so.blames blames);
      unready = λ e is. absurd cc;
      unplaced = λ p es names stood none. absurd none;
      leaves = record { head = so.head; writes = same; idle = λ p es bytes stands calm is. absurd cc };
    }
      where
        each-told : (A : Lookup → Type 0) → ((held : Lookup) → Gets held source path s.told t.told done → A held) → IfSome a.told (λ c. A (held_at c))
        each-told A go = by a.told gets
          where
            by : (store : Told) → IfSome store (λ c. Gets (held_at c) source path s.told t.told done) → IfSome store (λ c. A (held_at c))
            by None gets = tt
            by (Some c) gets = go (held_at c) gets

-- a path that leads nowhere is a reading that is refused, and nothing is written
pub way-gotten : (told : Told) (source : DagPath) (path : List ℕ) (host : HostTold) (f : DagFault) (why : Refusal) → IfSome told (λ t. IsFault (resolve_from (held_at t) usual_limits 0 source.names source.cid) f) → IsToldAs (dag_refusal source f) why
    → IfSome told (λ t. Gets (held_at t) source path host host (Err why))
way-gotten None source path host f why said is = tt
way-gotten (Some t) source path host f why said is =
    refused-gets (held_at t) source path host host why (of-reading source f why is) (not-found (held_at t) source path why host (fault-tree (held_at t) source f why (way-fault (held_at t) source f said) is))

-- a host on which nothing is written
pub same-below : (path : List ℕ) (told : HostTold) → ChangesAt path told told
same-below path None = record { places = []; where_put = tt; are_put = refl }
same-below path (Some there) = record { places = []; where_put = tt; are_put = refl }

-- where the path leads, the rest says what is written
pub then-gotten : (told m : Told) (source : DagPath) (path : List ℕ) (cid : Cid) (host now : HostTold) (done : Result (Unit {0}) Refusal) → m ≡ told → IfSome told (λ t. resolve_from (held_at t) usual_limits 0 source.names source.cid ≡ Ok cid)
    → IfSome m (λ t. LeadsTo (held_at t) source cid → Gets (held_at t) source path host now done) → IfSome told (λ t. Gets (held_at t) source path host now done)
then-gotten told m source path cid host now done same leads gets = by told leads (subst (λ o. IfSome o (λ t. LeadsTo (held_at t) source cid → Gets (held_at t) source path host now done)) same gets)
  where
    by : (told : Told) → IfSome told (λ t. resolve_from (held_at t) usual_limits 0 source.names source.cid ≡ Ok cid) → IfSome told (λ t. LeadsTo (held_at t) source cid → Gets (held_at t) source path host now done) → IfSome told (λ t. Gets (held_at t) source path host now done)
    by None leads gets = tt
    by (Some t) leads gets = gets leads

-- the refusal of a reading is none of the host
pub way-kind : (source : DagPath) (f : DagFault) (why : Refusal) → IsToldAs (dag_refusal source f) why → IsOfGetting why
way-kind source f why is = wider why (of-reading source f why is)

pub unread-counts : (source : DagPath) (f : DagFault) (why : Refusal) → IsToldAs (dag_refusal source f) why → (n : ℕ) → Counts (is_read {A = Unit {0}} (Err why)) n n
unread-counts source f why is n = subst (λ b. Counts b n n) (sym (no-edge why (of-reading source f why is)).unread) (counts-still n)

pub unwritten-counts : (source : DagPath) (f : DagFault) (why : Refusal) → IsToldAs (dag_refusal source f) why → (n : ℕ) → Counts (is_write {A = Unit {0}} (Err why)) n n
unwritten-counts source f why is n = subst (λ b. Counts b n n) (sym (no-edge why (of-reading source f why is)).unwritten) (counts-still n)
