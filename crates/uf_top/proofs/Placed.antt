-- How what is added is put into the tree that the Head names, from its opening to its commit.
use Rattle.std.proofs.Common.{◌≡◌, ◌≢◌, ◌⊎◌, ℕ, ◌+◌, ◌*◌, ◌≤◌, ◌<◌, List, [], ◌∷◌, length, arith, Bool, true, false, refl, sym, ap, subst, ◌∙◌, inl, inr, Option, Some, None, Result, Ok, Err}
use Rattle.std.specs.Prelude.{IfErr, IfOk, IfSome, IsErr, OnErr, if◌then◌else◌, nat_le, ⊤}
use Rattle.uf_cid.specs.Blocks.{Held}
use Rattle.uf_edge.specs.Counts.{Counts, Stood}
use Rattle.uf_edge.specs.Host.{HostTold, HostTree}
use Rattle.uf_edge.specs.Streams as streams
use Rattle.uf_host.specs.Adding.{HasHeldPlan, IsSaid}
use Rattle.uf_host.specs.HostTree.{tree_on_host}
use Rattle.uf_host.specs.Paths.{first_row, trimmed}
use Rattle.uf_host.specs.declared.fault.HostFault.{HostFault}
use Rattle.uf_mfs.specs.Bad.{IsBadInHead, IsBadInTree}
use Rattle.uf_mfs.specs.Standing.{NamesOver, ReadsHead, Same, TellsAs, TellsHeld, head_in}
use Rattle.uf_mfs.specs.Touches.{IsBlaming}
use Rattle.uf_mfs.specs.declared.mfs.Mfs.{Mfs}
use Rattle.uf_mfs.specs.Missing.{put_names, put_needs}
use Rattle.uf_mfs.specs.Moving.{put_crossings}
use Rattle.uf_mfs.proofs.Alike.{put-alike}
use Rattle.uf_mfs.proofs.Holding.{loss-fault, tells-among}
use Rattle.uf_mfs.proofs.Missing.{put-names-few, put-needs-among}
use Rattle.uf_mfs.proofs.Starting.{saves-head}
use Rattle.uf_path.specs.declared.path.Path.{Path}
use Rattle.uf_plain.specs.Moves.{allowed_move, placed_at, spot_names, spotted}
use Rattle.uf_plain.specs.Needs.{root_of}
use Rattle.uf_plain.specs.declared.ready.Ready.{Ready}
use Rattle.uf_plain.specs.declared.ready.Ready.TheVariants as ready
use Rattle.uf_plain.specs.declared.rule.Rule.{Rule}
use Rattle.uf_plain.specs.declared.rule.Rule.TheVariants.{FileTooLong}
use Rattle.uf_plain.specs.declared.spot.Spot.{Spot}
use Rattle.uf_store.specs.Calls.{Calm, OnlySaves}
use Rattle.uf_store.specs.Clashes.{IsSaving}
use Rattle.uf_store.specs.Contents.{Told}
use Rattle.uf_store.specs.Faults.{NoneIsBad, Shown}
use Rattle.uf_store.specs.Keeping.{Holds, KeepsGood}
use Rattle.uf_store.specs.Seen.{Seen}
use Rattle.uf_store.specs.declared.store.StoreFault.{StoreFault}
use Rattle.uf_store.specs.declared.store.StoreFault.TheVariants as fault
use Rattle.uf_store.proofs.Calls.{reads-saves, saves-saves, shown-after, shown-by, shown-rises, stood-front}
use Rattle.uf_store.proofs.Keeping.{Holds-kept, KeepsGood-same, KeepsGood-trans}
use Rattle.uf_store.proofs.Writing.{SavesOnly-refl, SavesOnly-trans}
use Rattle.uf_tree.specs.FilePlan.{file_plan}
use Rattle.uf_tree.specs.HeadReading.{head_reads}
use Rattle.uf_tree.specs.Metas.{none}
use Rattle.uf_tree.specs.Names.{is_name}
use Rattle.uf_tree.specs.Standing.{Standing, NoHead, BadHead, Stands}
use Rattle.uf_tree.specs.Profiles.{most_bytes}
use Rattle.uf_tree.specs.Tree.{Tree, File, Dir, Entries, fold}
use Rattle.uf_tree.specs.TreePlan.{blocks, entry, planned}
use Rattle.uf_tree.specs.declared.profile.Profile.{Profile}
use Rattle.uf_varint.specs.Fields.{◌>>=◌}
use Rattle.uf_command.specs.Natures.{MovesHead}
use Rattle.uf_command.specs.Kinds.{IsOf, OfHost, OfRead, OfReady, place_host_kinds, place_kinds, fault_behind, fault_kind, may_meet, opened_kinds, refusal_fault, refusal_kind}
use Rattle.uf_command.specs.Lines.{added_line}
use Rattle.uf_command.specs.Statuses.{ended, no_memory, status_of}
use Rattle.uf_command.specs.declared.status.Status.TheVariants as status
use Rattle.uf_command.specs.declared.types.Command.{Command}
use Rattle.uf_command.specs.declared.types.Command.TheVariants.{Add}
use Rattle.uf_command.specs.declared.types.Adding.TheVariants as adding
use Rattle.uf_command.specs.declared.types.HostRule.{HostRule}
use Rattle.uf_command.specs.declared.types.HostRule.TheVariants as rules
use Rattle.uf_command.specs.declared.types.Refusal.{Refusal}
use Rattle.uf_command.specs.declared.types.Refusal.TheVariants as refusal
use Rattle.uf_top.specs.Answering.{Answers}
use Rattle.uf_top.specs.Around.{HostSide, LeavesAlone, OnlyReadsHost, SinkSide, around}
use Rattle.uf_top.specs.Causes.{AddsBy, AreLeft, HeadStays, IsBadIn, IsReady, IsReadyBy, IsReason, IsReasonInTree, IsRow, is_read}
use Rattle.uf_top.specs.Endings.{FindsAll}
use Rattle.uf_top.specs.Grafts.{FollowsOr, IsLostBy}
use Rattle.uf_top.specs.HostTexts.{host_text}
use Rattle.uf_top.specs.Hosted.{AreHostRows}
use Rattle.uf_top.specs.Bounds.{placing_touches}
use Rattle.uf_top.specs.Losing.{AnswersOver, placing_needs, row_name}
use Rattle.uf_top.specs.Naming.{NamesAfter, StandsNamed, StaysNamed}
use Rattle.uf_top.specs.Opening.{IsUnready}
use Rattle.uf_top.specs.Placing.{FindsSpot, IsFoundAt, IsGiven, IsReadyIn, IsUngiven, OpensFound, PutsGiven, SaysHost, SaysInput, kinds_placing}
use Rattle.uf_top.specs.Reply.{added_spot, by_rule, file_cid, good_name, host_tree, in_tree, input_row, input_tree, not_ready, placed, settled}
use Rattle.uf_top.specs.Saving.{KeepsHosted, KeepsPut}
use Rattle.uf_top.specs.Shapes.{WritesAs, WritesInTree, is_ok}
use Rattle.uf_top.specs.Working.{Makes}
use Rattle.uf_top.specs.declared.given.OpenSpot.{OpenSpot}
use Rattle.uf_top.specs.declared.given.Given.{Given}
use Rattle.uf_top.proofs.Adopted.{named-stands, placing-held, stands-blocks}
use Rattle.uf_top.proofs.Losing.{named-of, names-kept, names-of, names-same}
use Rattle.uf_top.proofs.Putting.{added-spot-names, lost-behind, needs_at_spot, ok-value}
use Rattle.uf_top.proofs.Shaped.{profile-said}
use Rattle.uf_top.proofs.Shows.{bad-of-head, bad-of-none, counts-still, not-rose, saving-wants}
use Rattle.uf_top.proofs.Standings.{stands-kept, tells-none, tree-good}
use Rattle.uf_top.proofs.Unready.{not-unready, ungiven-unready}

-- ---- refusals by their kinds

memory-finds : FindsAll status.Memory
memory-finds = (λ e. cc, λ e. cc)

rule-finds : FindsAll status.Rule
rule-finds = (λ e. cc, λ e. cc)

-- a lost block of those that are held is want of memory
lost-finds : (told : Told) (l : List Held) (why : Refusal) → TellsHeld told l → IsLostBy told l why → FindsAll (status_of why)
lost-finds told l (refusal.Rule r) held lost = absurd lost
lost-finds told l (refusal.Dag r) held lost = absurd lost
lost-finds told l (refusal.BadPath r) held lost = absurd lost
lost-finds told l (refusal.Host r) held lost = absurd lost
lost-finds told l (refusal.Car number place) held lost = absurd lost
lost-finds told l (refusal.CarLacks cid) held lost = absurd lost
lost-finds told l (refusal.OwnClash cid first second) held lost = absurd lost
lost-finds told l refusal.InputTooLong held lost = absurd lost
lost-finds told l refusal.Usage held lost = absurd lost
lost-finds told l refusal.BadPins held lost = absurd lost
lost-finds told l (refusal.Ready r) held lost = absurd lost
lost-finds told l refusal.Read held lost = absurd lost
lost-finds told l refusal.Write held lost = absurd lost
lost-finds told l (refusal.Store f) held lost = subst (λ f. FindsAll (status_of (refusal.Store f))) (sym (loss-fault told l f held lost)) memory-finds

by-rule-finds : {A : Type 0} (w : Result A Rule) (why : Refusal) → by_rule w ≡ Err why → FindsAll (status_of why)
by-rule-finds (Ok a) why is = absurd cc
by-rule-finds (Err rule) why is = (let e : why ≡ refusal.Rule rule = cc in subst (λ w. FindsAll (status_of w)) (sym e) rule-finds)

good-finds : (dest : Path) (path name : List ℕ) (es : Entries) (good : Bool) (why : Refusal)
    → ((if good then Ok (Some name) else Err (refusal.Host (rules.Name path))) >>= λ name. by_rule (spotted dest name es)) ≡ Err why → FindsAll (status_of why)
good-finds dest path name es true why is = by-rule-finds (spotted dest (Some name) es) why is
good-finds dest path name es false why is = (let e : why ≡ refusal.Host (rules.Name path) = cc in subst (λ w. FindsAll (status_of w)) (sym e) rule-finds)

entered-finds : (dest : Path) (path name : List ℕ) (es : Entries) (into : Bool) (why : Refusal)
    → ((if into then good_name path name else Ok None) >>= λ name. by_rule (spotted dest name es)) ≡ Err why → FindsAll (status_of why)
entered-finds dest path name es true why is = good-finds dest path name es (is_name name) why is
entered-finds dest path name es false why is = by-rule-finds (spotted dest None es) why is

spot-finds : (dest : Path) (path : Option (List ℕ)) (es : Entries) (why : Refusal) → added_spot dest path es ≡ Err why → FindsAll (status_of why)
spot-finds dest None es why is = by-rule-finds (spotted dest None es) why is
spot-finds dest (Some path) es why is = entered-finds dest path (first_row (trimmed path)) es dest.into why is

-- how the reading of what is added ends, where it is refused
data UngivenEnd (Says : Result Tree Refusal → Type 0) (why : Refusal) : Type 0 where
  ByRead : why ≡ refusal.Read → UngivenEnd Says why
  ByStore : (f : StoreFault) → why ≡ refusal.Store f → IsSaving f → UngivenEnd Says why
  BySaid : Says (Err why) → (status_of why ≡ status.Rule) → refusal_kind why ≢ OfReady → UngivenEnd Says why

ungiven-end : (Says : Result Tree Refusal → Type 0) (why : Refusal) → IsUngiven Says why → UngivenEnd Says why
ungiven-end Says (refusal.Rule rule) h = BySaid h refl (λ e. cc)
ungiven-end Says (refusal.Host rule) h = BySaid h refl (λ e. cc)
ungiven-end Says (refusal.Dag rule) h = absurd h
ungiven-end Says (refusal.BadPath rule) h = absurd h
ungiven-end Says (refusal.Car number place) h = absurd h
ungiven-end Says (refusal.CarLacks cid) h = absurd h
ungiven-end Says (refusal.OwnClash cid first second) h = absurd h
ungiven-end Says refusal.InputTooLong h = absurd h
ungiven-end Says refusal.Usage h = absurd h
ungiven-end Says refusal.BadPins h = absurd h
ungiven-end Says (refusal.Ready why) h = absurd h
ungiven-end Says refusal.Read h = ByRead refl
ungiven-end Says refusal.Write h = absurd h
ungiven-end Says (refusal.Store f) h = ByStore f refl h

saving-finds : (f : StoreFault) → IsSaving f → FindsAll (status_of (refusal.Store f))
saving-finds fault.Failed h = (λ e. cc, λ e. cc)
saving-finds (fault.Damaged cid) h = absurd h
saving-finds (fault.Missing cid) h = absurd h
saving-finds (fault.BadBlock cid role) h = absurd h
saving-finds (fault.Clash cid held bytes) h = (λ e. cc, λ e. cc)
saving-finds fault.Memory h = memory-finds

ungiven-finds : (Says : Result Tree Refusal → Type 0) (why : Refusal) → UngivenEnd Says why → FindsAll (status_of why)
ungiven-finds Says why (ByRead e) = subst (λ w. FindsAll (status_of w)) (sym e) (λ e. cc, λ e. cc)
ungiven-finds Says why (ByStore f e saving) = subst (λ w. FindsAll (status_of w)) (sym e) (saving-finds f saving)
ungiven-finds Says why (BySaid said is other) = subst FindsAll (sym is) rule-finds

-- it isn't that the store isn't ready
ready-of : (told : Told) (why : Refusal) → refusal_kind why ≢ OfReady → IsReadyIn told why
ready-of told (refusal.Rule r) other = tt
ready-of told (refusal.Dag r) other = tt
ready-of told (refusal.BadPath p) other = tt
ready-of told (refusal.Host r) other = tt
ready-of told (refusal.Car number place) other = tt
ready-of told (refusal.CarLacks cid) other = tt
ready-of told (refusal.OwnClash cid first second) other = tt
ready-of told refusal.InputTooLong other = tt
ready-of told refusal.Usage other = tt
ready-of told refusal.BadPins other = tt
ready-of told (refusal.Ready r) other = absurd (other refl)
ready-of told refusal.Read other = tt
ready-of told refusal.Write other = tt
ready-of told (refusal.Store f) other = tt

store-ready : (f : StoreFault) → fault_kind f ≢ OfReady
store-ready fault.Failed e = cc
store-ready (fault.Damaged cid) e = cc
store-ready (fault.Missing cid) e = cc
store-ready (fault.BadBlock cid role) e = cc
store-ready (fault.Clash cid held bytes) e = cc
store-ready fault.Memory e = cc

ungiven-ready : (Says : Result Tree Refusal → Type 0) (why : Refusal) → UngivenEnd Says why → refusal_kind why ≢ OfReady
ungiven-ready Says why (ByRead e) = subst (λ w. refusal_kind w ≢ OfReady) (sym e) (λ e. cc)
ungiven-ready Says why (ByStore f e saving) = subst (λ w. refusal_kind w ≢ OfReady) (sym e) (store-ready f)
ungiven-ready Says why (BySaid said is other) = other

-- what it is for a command that is ready where the tree is
ready-by : (command : Command) (told : Told) → ((why : Ready) → IsReasonInTree why told → IsReason command why told) → (why : Refusal) → IsReadyIn told why → IsReadyBy told command why
ready-by command told more (refusal.Rule r) h = tt
ready-by command told more (refusal.Dag r) h = tt
ready-by command told more (refusal.BadPath p) h = tt
ready-by command told more (refusal.Host r) h = tt
ready-by command told more (refusal.Car number place) h = tt
ready-by command told more (refusal.CarLacks cid) h = tt
ready-by command told more (refusal.OwnClash cid first second) h = tt
ready-by command told more refusal.InputTooLong h = tt
ready-by command told more refusal.Usage h = tt
ready-by command told more refusal.BadPins h = tt
ready-by command told more (refusal.Ready r) h = more r h
ready-by command told more refusal.Read h = tt
ready-by command told more refusal.Write h = tt
ready-by command told more (refusal.Store f) h = tt

-- what a call on the opened tree may refuse
pub record IsOfTree (path : Option (List ℕ)) (why : Refusal) : Type 0 where
  pub kind : may_meet (kinds_placing path) (refusal_kind why) ≡ true
  pub unready : refusal_kind why ≢ OfReady
  pub unread : is_read {A = List ℕ} (Err why) ≡ false

pub tree-store : (path : Option (List ℕ)) (f : StoreFault) → IsOfTree path (refusal.Store f)
tree-store None fault.Failed = record { kind = refl; unready = λ e. cc; unread = refl }
tree-store None (fault.Damaged cid) = record { kind = refl; unready = λ e. cc; unread = refl }
tree-store None (fault.Missing cid) = record { kind = refl; unready = λ e. cc; unread = refl }
tree-store None (fault.BadBlock cid role) = record { kind = refl; unready = λ e. cc; unread = refl }
tree-store None (fault.Clash cid held bytes) = record { kind = refl; unready = λ e. cc; unread = refl }
tree-store None fault.Memory = record { kind = refl; unready = λ e. cc; unread = refl }
tree-store (Some path) fault.Failed = record { kind = refl; unready = λ e. cc; unread = refl }
tree-store (Some path) (fault.Damaged cid) = record { kind = refl; unready = λ e. cc; unread = refl }
tree-store (Some path) (fault.Missing cid) = record { kind = refl; unready = λ e. cc; unread = refl }
tree-store (Some path) (fault.BadBlock cid role) = record { kind = refl; unready = λ e. cc; unread = refl }
tree-store (Some path) (fault.Clash cid held bytes) = record { kind = refl; unready = λ e. cc; unread = refl }
tree-store (Some path) fault.Memory = record { kind = refl; unready = λ e. cc; unread = refl }

pub tree-rule : (path : Option (List ℕ)) (rule : Rule) → IsOfTree path (refusal.Rule rule)
tree-rule None rule = record { kind = refl; unready = λ e. cc; unread = refl }
tree-rule (Some path) rule = record { kind = refl; unready = λ e. cc; unread = refl }

of-tree : (path : Option (List ℕ)) (why : Refusal) → opened_kinds (refusal_kind why) ≡ true → IsOfTree path why
of-tree path (refusal.Rule r) h = tree-rule path r
of-tree path (refusal.Dag r) h = absurd cc
of-tree path (refusal.BadPath p) h = absurd cc
of-tree path (refusal.Host r) h = absurd cc
of-tree path (refusal.Car number place) h = absurd cc
of-tree path (refusal.CarLacks cid) h = absurd cc
of-tree path (refusal.OwnClash cid first second) h = absurd cc
of-tree path refusal.InputTooLong h = absurd cc
of-tree path refusal.Usage h = absurd cc
of-tree path refusal.BadPins h = absurd cc
of-tree path (refusal.Ready r) h = absurd cc
of-tree path refusal.Read h = absurd cc
of-tree path refusal.Write h = absurd cc
of-tree path (refusal.Store f) h = tree-store path f

-- the profile of the Head
says-profile : (told : Told) (tree : Mfs) → ReadsHead told (Ok tree) → IfSome told (λ t. AddsBy false t.notes.head tree.profile)
says-profile None tree h = tt
says-profile (Some t) tree h = by t.notes.head h.1
  where
    by : (head : Option (List ℕ)) → head ≡ Some h.0 → AddsBy false head tree.profile
    by None e = absurd cc
    by (Some text) e = (tree.root.cid, (let same : text ≡ h.0 = cc in ap head_reads same ∙ h.2))

-- ---- what the Head or the destination refuses

module _ (X : List ℕ → List ℕ) (N : List ℕ → ℕ) (dest : Path) (path : Option (List ℕ)) (done : Result (List ℕ) Refusal) (a d : Seen) where
  -- the Head was read, and the tree that it names has a spot
  pub record HasBegun : Type 0 where
    pub ready : ended done ≢ status.NotReady
    pub spot : (p : Profile) (es : Entries) → NamesOver X N a.told p es → Stood a.faults d.faults → IsErr (added_spot dest path es) → ⊥

  by-head : (Alone : Type 0) → Alone ⊎ HasBegun → ended done ≡ status.NotReady → Alone
  by-head Alone (inl alone) is = alone
  by-head Alone (inr begun) is = absurd (begun.ready is)

  by-spot : (Alone : Type 0) → Alone ⊎ HasBegun → (p : Profile) (es : Entries) → NamesOver X N a.told p es → Stood a.faults d.faults → IsErr (added_spot dest path es) → Alone
  by-spot Alone (inl alone) p es names stood nowhere = alone
  by-spot Alone (inr begun) p es names stood nowhere = absurd (begun.spot p es names stood nowhere)

-- ---- how a command ends that puts something into the tree

module _ (X : List ℕ → List ℕ) (N : List ℕ → ℕ) (dest : Path) (path : Option (List ℕ)) (Says : Profile → Result Tree Refusal → Type 0) (say : Profile → Tree → List ℕ) where
  -- what is said to be there is put into the tree that the Head names, of whose blocks some may be lost
  pub record EndsFor (a d : Seen) (done : Result (List ℕ) Refusal) (p : Profile) (es : Entries) : Type 0 where
    pub given : Result Tree Refusal
    pub said : Says p given
    pub ends : AnswersOver X N a.told d.told p es (placing_needs X N dest (row_name path) p es) (settled X N (say p) p es (placed X N (added_spot dest path es) given p es)) done

  -- the rows are those of a tree that is there
  pub record PrintsFor (told now : Told) (text : List ℕ) : Type 0 where
    pub profile : Profile
    pub adds_by : IfSome told (λ t. AddsBy false t.notes.head profile)
    pub tree : Tree
    pub plan : HasHeldPlan X N profile now tree
    pub said : Says profile (Ok tree)
    pub is : text ≡ say profile tree

  pub record Ended (done : Result (List ℕ) Refusal) (a d : Seen) (t0 t2 : ℕ) : Type 0 where
    pub over : (p : Profile) (es : Entries) → StaysNamed X N a.told d.told p es → Calm a d → is_read done ≡ false → EndsFor a d done p es
    pub unready : (s : Standing) → TellsAs X N a.told s → Calm a d → OpensFound s done
    pub whole : (s : Standing) → TellsAs X N a.told s → Calm a d → FindsAll (ended done)
    pub ready : IfErr done (λ why. IsReadyIn a.told why)
    pub kinds : IsOf (may_meet (kinds_placing path)) done
    pub rows : IfOk done (PrintsFor a.told d.told)
    pub cause : Shown X (IsBadIn X N a.told d.told) (refusal_fault done) a d
    pub good : KeepsGood X a.told d.told
    pub touches : (p : Profile) (es : Entries) → StaysNamed X N a.told d.told p es → Calm a d → t2 ≤ t0 + (1 + placing_touches X N dest path p es)
    pub touched : IsBlaming (refusal_fault done) → t0 < t2
    pub head : IfErr done (λ why. head_in d.told ≡ head_in a.told)
    pub writes : WritesAs X MovesHead (is_ok done) a.told d.told

  -- so many touches, where nothing is put
  few-touches : (p : Profile) (es : Entries) (t0 t1 : ℕ) → t1 ≤ t0 + (11 * length dest.names + 12) → t1 ≤ t0 + (1 + placing_touches X N dest path p es)
  few-touches p es t0 t1 few = by (elim (added_spot dest path es) as (λ w. ℕ) [ Ok spot ↦ put_crossings X N p spot (File none []) es | Err why ↦ 0 ])
    where
      by : (more : ℕ) → t1 ≤ t0 + (1 + (64 * (length dest.names + 3) + more))
      by more = omega (arith, few)

  -- and where it is put
  put-touches : (p : Profile) (es : Entries) (spot : Spot) (t : Tree) (t0 t1 t2 : ℕ) → added_spot dest path es ≡ Ok spot → t1 ≤ t0 + (11 * length dest.names + 12) → t2 ≤ t1 + (40 * length (spot_names spot) + put_crossings X N p spot t es)
      → t2 ≤ t0 + (1 + placing_touches X N dest path p es)
  put-touches p es spot t t0 t1 t2 is few more =
      let names : length (spot_names spot) ≤ length dest.names + 1 = subst (λ ns. length ns ≤ length dest.names + 1) (sym (added-spot-names dest path es spot is)) (put-names-few dest (row_name path)) in
      let same = put-alike X N p spot t (File none []) es in
      subst (λ (w : Result Spot Refusal). t2 ≤ t0 + (1 + (64 * (length dest.names + 3) + elim w as (λ w. ℕ) [ Ok spot ↦ put_crossings X N p spot (File none []) es | Err why ↦ 0 ]))) (sym is)
      (omega (arith, few, more, names, same))

  -- a refusal over blocks that may be lost
  stopped : (a d : Told) (p : Profile) (es : Entries) (needs : List Held) (w : Result (Tree × Entries) Refusal) (why : Refusal) → IsLostBy a needs why ⊎ (w ≡ Err why)
      → NamesAfter X N a d (blocks X N p (Dir es)) p es → AnswersOver X N a d p es needs (settled X N (say p) p es w) (Err why)
  stopped a d p es needs w why (inr is) stands =
      inr (record { ends_are = sym (ap (λ (w : Result (Tree × Entries) Refusal). (settled X N (say p) p es w).ends) is); stands = subst (λ w. StandsNamed X N a d (blocks X N p (Dir es)) (settled X N (say p) p es w).next) (sym is) stands })
  stopped a d p es needs w (refusal.Store f) (inl lost) stands = inl (record { fault = f; ends_are = refl; loss = lost; stands = stands })
  stopped a d p es needs w (refusal.Rule r) (inl lost) stands = absurd lost
  stopped a d p es needs w (refusal.Dag r) (inl lost) stands = absurd lost
  stopped a d p es needs w (refusal.BadPath r) (inl lost) stands = absurd lost
  stopped a d p es needs w (refusal.Host r) (inl lost) stands = absurd lost
  stopped a d p es needs w (refusal.Car number place) (inl lost) stands = absurd lost
  stopped a d p es needs w (refusal.CarLacks cid) (inl lost) stands = absurd lost
  stopped a d p es needs w (refusal.OwnClash cid first second) (inl lost) stands = absurd lost
  stopped a d p es needs w refusal.InputTooLong (inl lost) stands = absurd lost
  stopped a d p es needs w refusal.Usage (inl lost) stands = absurd lost
  stopped a d p es needs w refusal.BadPins (inl lost) stands = absurd lost
  stopped a d p es needs w (refusal.Ready r) (inl lost) stands = absurd lost
  stopped a d p es needs w refusal.Read (inl lost) stands = absurd lost
  stopped a d p es needs w refusal.Write (inl lost) stands = absurd lost

  -- the spot isn't found
  placed-stop : (p : Profile) (es : Entries) (spot : Result Spot Refusal) (given : Result Tree Refusal) (why : Refusal) → spot ≡ Err why → placed X N spot given p es ≡ Err why
  placed-stop p es spot given why is = ap (λ (s : Result Spot Refusal). placed X N s given p es) is

  placed-at : (p : Profile) (es : Entries) (s : Result Spot Refusal) (spot : Spot) (given : Result Tree Refusal) → s ≡ Ok spot → placed X N s given p es ≡ placed X N (Ok spot) given p es
  placed-at p es s spot given is = ap (λ (s : Result Spot Refusal). placed X N s given p es) is

  unready-finds : (s : Standing) (done : Result (List ℕ) Refusal) → OpensFound s done → ((p : Profile) (es : Entries) → s ≡ Stands p es → FindsAll (ended done)) → FindsAll (ended done)
  unready-finds NoHead (Ok text) h more = absurd h
  unready-finds NoHead (Err why) (inl e) more = subst (λ w. FindsAll (status_of w)) (sym e) memory-finds
  unready-finds NoHead (Err why) (inr e) more = subst (λ w. FindsAll (status_of w)) (sym e) (λ e. cc, λ e. cc)
  unready-finds BadHead (Ok text) h more = absurd h
  unready-finds BadHead (Err why) (inl e) more = subst (λ w. FindsAll (status_of w)) (sym e) memory-finds
  unready-finds BadHead (Err why) (inr e) more = subst (λ w. FindsAll (status_of w)) (sym e) (λ e. cc, λ e. cc)
  unready-finds (Stands p es) done h more = more p es refl

  module _ (some : (p : Profile) → (given : Result Tree Refusal) × Says p given) where
    -- ---- the tree isn't opened, or the spot isn't found

    pub not-found : (a m : Seen) (t0 t1 : ℕ) (why : Refusal) → FindsSpot X N dest path (Err why) a m t0 t1 → Ended (Err why) a m t0 t1
    not-found a m t0 t1 why f = record {
      over = λ p es named calm read. record {
        given = (some p).0;
        said = (some p).1;
        ends = stopped a.told m.told p es (placing_needs X N dest (row_name path) p es) (placed X N (added_spot dest path es) (some p).0 p es) why
            (follow p es (f.lost p es named.names calm.faults)) (names-same X N a.told m.told p es f.reads.told named);
      };
      unready = λ s stands calm. opens s (f.opens s stands calm.faults);
      whole = λ s stands calm. unready-finds s (Err why) (opens s (f.opens s stands calm.faults)) (λ p es is.
          finds p es (subst (TellsAs X N a.told) is stands) (f.lost p es (names-of X N a.told p es (subst (TellsAs X N a.told) is stands)) calm.faults));
      ready = f.ready;
      kinds = f.kinds;
      rows = tt;
      cause = shown-by X (IsBadInHead X N a.told) (IsBadIn X N a.told m.told) (fault_behind why) a m (bad-of-none X N a.told m.told) f.reads.cause;
      good = KeepsGood-same X a.told m.told f.reads.told;
      touches = λ p es named calm. few-touches p es t0 t1 f.touches;
      touched = f.touched.risen;
      head = ap head_in f.reads.told;
      writes = record { between = a.told; saves = SavesOnly-refl X a.told; last = Same f.reads.told };
    }
      where
        opens : (s : Standing) → OpensFound {A = OpenSpot} s (Err why) → OpensFound {A = List ℕ} s (Err why)
        opens NoHead h = h
        opens BadHead h = h
        opens (Stands p es) h = tt

        follow : (p : Profile) (es : Entries) → IsLostBy a.told (placing_needs X N dest (row_name path) p es) why ⊎ (added_spot dest path es ≡ Err why)
            → IsLostBy a.told (placing_needs X N dest (row_name path) p es) why ⊎ (placed X N (added_spot dest path es) (some p).0 p es ≡ Err why)
        follow p es (inl lost) = inl lost
        follow p es (inr is) = inr (placed-stop p es (added_spot dest path es) (some p).0 why is)

        finds : (p : Profile) (es : Entries) → TellsAs X N a.told (Stands p es) → IsLostBy a.told (placing_needs X N dest (row_name path) p es) why ⊎ (added_spot dest path es ≡ Err why) → FindsAll (status_of why)
        finds p es stands (inl lost) = lost-finds a.told (placing_needs X N dest (row_name path) p es) why (placing-held X N a.told p es dest (row_name path) stands) lost
        finds p es stands (inr is) = spot-finds dest path es why is

    module _ (a m : Seen) (t0 t1 : ℕ) (found : OpenSpot) (f : FindsSpot X N dest path (Ok found) a m t0 t1) where
      abbrev q : Profile
      q = found.tree.profile

      -- the store stands for a tree, since one was opened
      opened-stands : (d : Seen) (done : Result (List ℕ) Refusal) (s : Standing) → TellsAs X N a.told s → Stood a.faults m.faults → OpensFound s done
      opened-stands d done NoHead stands stood = absurd (f.opens NoHead stands stood)
      opened-stands d done BadHead stands stood = absurd (f.opens BadHead stands stood)
      opened-stands d done (Stands p es) stands stood = tt

      at-spot : (p : Profile) (es : Entries) → NamesOver X N a.told p es → Stood a.faults m.faults → (spot : Spot) × (added_spot dest path es ≡ Ok spot) × IsFoundAt X N a.told p es spot found
      at-spot p es names stood = ok-value (λ spot. IsFoundAt X N a.told p es spot found) (added_spot dest path es) (f.lost p es names stood)

      spotted-there : (p : Profile) (es : Entries) → NamesOver X N a.told p es → Stood a.faults m.faults → IsErr (added_spot dest path es) → ⊥
      spotted-there p es names stood nowhere = (let at = at-spot p es names stood in let e : false ≡ true = subst (λ (s : Result Spot Refusal). IsErr s) at.1 nowhere in cc)

      -- nothing is written by then
      first : OnlySaves X NoneIsBad None a m
      first = reads-saves (record { cause = f.reads.cause; told = f.reads.told })

      -- ---- there is nothing to put

      pub not-given : (b : Seen) (why : Refusal) → IsUngiven (Says q) why → OnlySaves X NoneIsBad (fault_behind why) m b → IsOf {A = List ℕ} (may_meet (kinds_placing path)) (Err why) → (IsBlaming (fault_behind why) → ⊥) → Ended (Err why) a b t0 t1
      not-given b why ungiven saves kind blameless = record {
        over = λ p es named calm read. over p es named calm read (at-spot p es named.names (front calm)) (ungiven-end (Says q) why ungiven);
        unready = λ s stands calm. opened-stands b (Err why) s stands (front calm);
        whole = λ s stands calm. ungiven-finds (Says q) why (ungiven-end (Says q) why ungiven);
        ready = ready-of a.told why (ungiven-ready (Says q) why (ungiven-end (Says q) why ungiven));
        kinds = kind;
        rows = tt;
        cause = shown-by X NoneIsBad (IsBadIn X N a.told b.told) (fault_behind why) a b (λ role bytes bad. absurd bad) both.cause;
        good = both.good;
        touches = λ p es named calm. few-touches p es t0 t1 f.touches;
        touched = λ blames. absurd (blameless blames);
        head = saves-head X a.told b.told both.saves;
        writes = record { between = b.told; saves = both.saves; last = Same refl };
      }
        where
          both : OnlySaves X NoneIsBad (fault_behind why) a b
          both = saves-saves first saves

          front : Calm a b → Stood a.faults m.faults
          front calm = stood-front a.faults m.faults b.faults first.cause.faults (shown-rises X NoneIsBad (fault_behind why) m b saves.cause).faults calm.faults

          over : (p : Profile) (es : Entries) → StaysNamed X N a.told b.told p es → Calm a b → is_read {A = List ℕ} (Err why) ≡ false
              → (spot : Spot) × (added_spot dest path es ≡ Ok spot) × IsFoundAt X N a.told p es spot found → UngivenEnd (Says q) why → EndsFor a b (Err why) p es
          over p es named calm read at (ByRead e) = absurd (let r : is_read {A = List ℕ} (Err refusal.Read) ≡ false = subst (λ w. is_read {A = List ℕ} (Err w) ≡ false) e read in cc)
          over p es named calm read at (ByStore g e saving) =
              let shown = subst (λ w. Shown X NoneIsBad (fault_behind w) a b) e both.cause in
              let wants = saving-wants X NoneIsBad g a b saving shown calm.faults calm.clashes in
              record {
                given = (some p).0;
                said = (some p).1;
                ends = stopped a.told b.told p es (placing_needs X N dest (row_name path) p es) (placed X N (added_spot dest path es) (some p).0 p es) why
                    (inl (subst (IsLostBy a.told (placing_needs X N dest (row_name path) p es)) (sym (e ∙ ap refusal.Store wants)) tt)) (names-kept X N a.told b.told p es both.good (saves-head X a.told b.told both.saves) named);
              }
          over p es named calm read at (BySaid said is other) = record {
            given = Err why;
            said = subst (λ p. Says p (Err why)) at.2.stands.profile_is said;
            ends = stopped a.told b.told p es (placing_needs X N dest (row_name path) p es) (placed X N (added_spot dest path es) (Err why) p es) why
                (inr (placed-at p es (added_spot dest path es) at.0 (Err why) at.1)) (names-kept X N a.told b.told p es both.good (saves-head X a.told b.told both.saves) named);
          }

      pub begun-ungiven : (b : Seen) (why : Refusal) → IsUngiven (Says q) why → OnlySaves X NoneIsBad (fault_behind why) m b → HasBegun X N dest path (Err why) a b
      begun-ungiven b why ungiven saves = record {
        ready = λ is. ungiven-unready (Says q) why ungiven is;
        spot = λ p es names stood. spotted-there p es names (stood-front a.faults m.faults b.faults first.cause.faults (shown-rises X NoneIsBad (fault_behind why) m b saves.cause).faults stood);
      }

      -- ---- it is put

      module _ (b d : Seen) (t2 : ℕ) (low : t0 ≤ t1) (given : Given) (gives : IsGiven X N q b.told (Says q) (say q) given) (saves : OnlySaves X NoneIsBad None m b)
          (done : Result (List ℕ) Refusal) (put : PutsGiven X N found given done b d t1 t2) where
        start : OnlySaves X NoneIsBad None a b
        start = saves-saves first saves

        front-b : Calm a d → Stood a.faults b.faults
        front-b calm = stood-front a.faults b.faults d.faults start.cause.faults (shown-rises X (IsBadInTree X N (Some q) found.tree.root.cid) (refusal_fault done) b d put.cause).faults calm.faults

        front-m : Calm a d → Stood a.faults m.faults
        front-m calm = stood-front a.faults m.faults b.faults first.cause.faults (shown-rises X NoneIsBad None m b saves.cause).faults (front-b calm)

        pub begun-put : HasBegun X N dest path done a d
        begun-put = record {
          ready = λ is. not-unready opened_kinds done refl refl put.kinds is;
          spot = λ p es names stood.
              let later = stood-front a.faults b.faults d.faults start.cause.faults (shown-rises X (IsBadInTree X N (Some q) found.tree.root.cid) (refusal_fault done) b d put.cause).faults stood in
              spotted-there p es names (stood-front a.faults m.faults b.faults first.cause.faults (shown-rises X NoneIsBad None m b saves.cause).faults later);
        }

        -- what is given, by the profile of the tree that the Head names
        given-by : (p : Profile) → q ≡ p → IsGiven X N p b.told (Says p) (say p) given
        given-by p same = subst (λ p. IsGiven X N p b.told (Says p) (say p) given) same gives

        follows : (p : Profile) (es : Entries) (same : q ≡ p) (spot : Spot) → IsFoundAt X N a.told p es spot found → StaysNamed X N a.told d.told p es → Calm a d
            → FollowsOr (IsLostBy a.told (needs_at_spot X N found.spot p es)) (λ next text. NamesAfter X N a.told d.told (blocks X N p (Dir es)) p next)
            (by_rule (allowed_move X N p (placed_at found.spot (given-by p same).tree es))) done
        follows p es same spot at named calm =
            put.puts a (given-by p same).tree p es start same (given-by p same).plan (given-by p same).entry_is
            (record { plan = at.stands.root.plan; stays = record { first = at.stands.root.agrees; last = named.last }; calm = calm })

        all_good : KeepsGood X a.told d.told
        all_good = KeepsGood-trans X a.told b.told d.told start.good put.good

        ends-put : (p : Profile) (es : Entries) (t : Tree) (spot : Spot) (r : Result (List ℕ) Refusal) → added_spot dest path es ≡ Ok spot → IfOk r (λ text. text ≡ say p t) → IfErr r (λ why. NamesAfter X N a.told d.told (blocks X N p (Dir es)) p es)
            → FollowsOr (IsLostBy a.told (needs_at_spot X N spot p es)) (λ next text. NamesAfter X N a.told d.told (blocks X N p (Dir es)) p next) (by_rule (allowed_move X N p (placed_at spot t es))) r
            → AnswersOver X N a.told d.told p es (placing_needs X N dest (row_name path) p es) (settled X N (say p) p es (placed X N (added_spot dest path es) (Ok t) p es)) r
        ends-put p es t spot (Ok text) is text_is stands h =
            let v = ok-value (λ next. NamesAfter X N a.told d.told (blocks X N p (Dir es)) p next) (by_rule (allowed_move X N p (placed_at spot t es))) h in
            let w : placed X N (added_spot dest path es) (Ok t) p es ≡ Ok (t, v.0) = placed-at p es (added_spot dest path es) spot (Ok t) is ∙ ap (λ (n : Result Entries Refusal). n >>= λ next. Ok (t, next)) v.1 in
            inr (record {
              ends_are = ap (λ (x : List ℕ). Ok x) text_is ∙ sym (ap (λ (w : Result (Tree × Entries) Refusal). (settled X N (say p) p es w).ends) w);
              stands = subst (λ w. StandsNamed X N a.told d.told (blocks X N p (Dir es)) (settled X N (say p) p es w).next) (sym w) v.2;
            })
        ends-put p es t spot (Err why) is text_is stands (inl lost) =
            stopped a.told d.told p es (placing_needs X N dest (row_name path) p es) (placed X N (added_spot dest path es) (Ok t) p es) why (inl (lost-behind a.told (root_of X N p (Dir es)) (put_needs X N p (put_names dest (row_name path)) (Dir es)) why
            (subst (λ ns. IsLostBy a.told (put_needs X N p ns (Dir es)) why) (added-spot-names dest path es spot is) lost))) stands
        ends-put p es t spot (Err why) is text_is stands (inr refused) =
            let w : placed X N (added_spot dest path es) (Ok t) p es ≡ Err why = placed-at p es (added_spot dest path es) spot (Ok t) is ∙ ap (λ (n : Result Entries Refusal). n >>= λ next. Ok (t, next)) refused in
            stopped a.told d.told p es (placing_needs X N dest (row_name path) p es) (placed X N (added_spot dest path es) (Ok t) p es) why (inr w) stands

        text-by : (p : Profile) (same : q ≡ p) (r : Result (List ℕ) Refusal) → IfOk r (λ text. text ≡ given.text) → IfOk r (λ text. text ≡ say p (given-by p same).tree)
        text-by p same (Ok text) is = is ∙ (given-by p same).text_is
        text-by p same (Err why) is = tt

        kept : (r : Result (List ℕ) Refusal) → OnErr r (head_in d.told ≡ head_in b.told) → IfErr r (λ why. head_in d.told ≡ head_in a.told)
        kept (Ok text) h = tt
        kept (Err why) h = h ∙ saves-head X a.told b.told start.saves

        stands-on : (p : Profile) (es : Entries) (r : Result (List ℕ) Refusal) → StaysNamed X N a.told d.told p es → IfErr r (λ why. head_in d.told ≡ head_in a.told) → IfErr r (λ why. NamesAfter X N a.told d.told (blocks X N p (Dir es)) p es)
        stands-on p es (Ok text) named h = tt
        stands-on p es (Err why) named h = names-kept X N a.told d.told p es all_good h named

        put-finds : (p : Profile) (es : Entries) (t : Tree) (r : Result (List ℕ) Refusal) → TellsAs X N a.told (Stands p es)
            → FollowsOr (IsLostBy a.told (needs_at_spot X N found.spot p es)) (λ next text. NamesAfter X N a.told d.told (blocks X N p (Dir es)) p next) (by_rule (allowed_move X N p (placed_at found.spot t es))) r → FindsAll (ended r)
        put-finds p es t (Ok text) stands h = (λ e. cc, λ e. cc)
        put-finds p es t (Err why) stands (inl lost) =
            lost-finds a.told (needs_at_spot X N found.spot p es) why
            (tells-among a.told (blocks X N p (Dir es)) (needs_at_spot X N found.spot p es) (λ P h. put-needs-among X N p (spot_names found.spot) (Dir es) P h) (stands-blocks X N a.told p es stands)) lost
        put-finds p es t (Err why) stands (inr is) = by-rule-finds (allowed_move X N p (placed_at found.spot t es)) why is

        put-ready : (r : Result (List ℕ) Refusal) → IsOf opened_kinds r → IfErr r (λ why. IsReadyIn a.told why)
        put-ready (Ok text) h = tt
        put-ready (Err why) h = ready-of a.told why (of-tree path why h).unready

        put-kinds : (r : Result (List ℕ) Refusal) → IsOf opened_kinds r → IsOf (may_meet (kinds_placing path)) r
        put-kinds (Ok text) h = tt
        put-kinds (Err why) h = (of-tree path why h).kind

        -- what was given is held as before
        still-planned : {t : Tree} → HasHeldPlan X N q b.told t → HasHeldPlan X N q d.told t
        still-planned {t} plan = record { tree = plan.tree; whole = plan.whole; held = Holds-kept X b.told d.told (blocks X N q t) (tree-good X N q t) put.good plan.held }

        put-rows : (r : Result (List ℕ) Refusal) → IfOk r (λ text. text ≡ given.text) → IfOk r (PrintsFor a.told d.told)
        put-rows (Ok text) is = record { profile = q; adds_by = says-profile a.told found.tree f.head; tree = gives.tree; plan = still-planned gives.plan; said = gives.said; is = is ∙ gives.text_is }
        put-rows (Err why) is = tt

        put-writes : (r : Result (List ℕ) Refusal) → WritesInTree X q MovesHead (is_ok r) b.told d.told → WritesAs X MovesHead (is_ok r) a.told d.told
        put-writes (Ok text) w = (q, profile-said a.told found.tree f.head, (w.0, record { between = w.1.between; saves = SavesOnly-trans X a.told b.told w.1.between start.saves w.1.saves; last = w.1.last }))
        put-writes (Err why) w = record { between = w.between; saves = SavesOnly-trans X a.told b.told w.between start.saves w.saves; last = w.last }

        pub is-put-there : Ended done a d t0 t2
        is-put-there = record {
          over = λ p es named calm read.
              let at = at-spot p es named.names (front-m calm) in
              let same = at.2.stands.profile_is in
              record {
                given = Ok (given-by p same).tree;
                said = (given-by p same).said;
                ends = ends-put p es (given-by p same).tree found.spot done (at.1 ∙ ap (λ (s : Spot). Ok s) (sym at.2.spot_is)) (text-by p same done put.text) (stands-on p es done named (kept done put.head))
                    (follows p es same at.0 at.2 named calm);
              };
          unready = λ s stands calm. opened-stands d done s stands (front-m calm);
          whole = λ s stands calm. unready-finds s done (opened-stands d done s stands (front-m calm)) (λ p es is.
              let standing = subst (TellsAs X N a.told) is stands in
              let at = at-spot p es (names-of X N a.told p es standing) (front-m calm) in
              let same = at.2.stands.profile_is in
              put-finds p es (given-by p same).tree done standing (follows p es same at.0 at.2 (named-of X N a.told d.told p es standing all_good) calm));
          ready = put-ready done put.kinds;
          kinds = put-kinds done put.kinds;
          rows = put-rows done put.text;
          cause = shown-after X (IsBadIn X N a.told d.told) (refusal_fault done) a b d start.cause
              (shown-by X (IsBadInTree X N (Some q) found.tree.root.cid) (IsBadIn X N a.told d.told) (refusal_fault done) b d (λ role bytes bad. bad-of-head X N a.told d.told found.tree f.head role bytes (inl (inl bad))) put.cause);
          good = all_good;
          touches = λ p es named calm.
              let at = at-spot p es named.names (front-m calm) in
              let same = at.2.stands.profile_is in
              put-touches p es found.spot (given-by p same).tree t0 t1 t2 (at.1 ∙ ap (λ (s : Spot). Ok s) (sym at.2.spot_is)) f.touches
              (put.touches a (given-by p same).tree p es start same (given-by p same).plan (given-by p same).entry_is
              (record { plan = at.2.stands.root.plan; stays = record { first = at.2.stands.root.agrees; last = named.last }; calm = calm }));
          touched = λ blames. let more = put.touched blames in omega (arith, low, more);
          head = kept done put.head;
          writes = put-writes done put.writes;
        }

  -- ---- from that to a command

  unready-answers : (a d : Seen) → KeepsGood X a.told d.told → (r : Result (List ℕ) Refusal) (s : Standing) (why : Ready) → IsUnready why r → IfErr r (λ w. head_in d.told ≡ head_in a.told) → TellsAs X N a.told s → Answers X N s (not_ready s why) r d.told
  unready-answers a d good (Ok text) s why h head stands = absurd h
  unready-answers a d good (Err w) s why (inl is) head stands = inl (record { ends_are = ap (λ (r : Refusal). Err r) is; stands = stands-kept X N a.told d.told s good head stands })
  unready-answers a d good (Err w) s why (inr is) head stands = (let k = stands-kept X N a.told d.told s good head stands in inr (record { ends_are = ap (λ (r : Refusal). Err r) is; stands = k; held = tells-none X N d.told s k }))

  pub answers-of : (done : Result (List ℕ) Refusal) (a d : Seen) (t0 t2 : ℕ) (given : Profile → Result Tree Refusal) → Ended done a d t0 t2 → Calm a d → is_read done ≡ false → ((p : Profile) (g : Result Tree Refusal) → Says p g → g ≡ given p)
      → (s : Standing) → TellsAs X N a.told s → Answers X N s (in_tree (λ p es. settled X N (say p) p es (placed X N (added_spot dest path es) (given p) p es)) s) done d.told
  answers-of done a d t0 t2 given e calm read same NoHead stands = unready-answers a d e.good done NoHead ready.NoHead (e.unready NoHead stands calm) e.head stands
  answers-of done a d t0 t2 given e calm read same BadHead stands = unready-answers a d e.good done BadHead ready.BadHead (e.unready BadHead stands calm) e.head stands
  answers-of done a d t0 t2 given e calm read same (Stands p es) stands =
      let o = e.over p es (named-of X N a.told d.told p es stands e.good) calm read in
      over-answers p es (placed X N (added_spot dest path es) (given p) p es) done stands
      (subst (λ g. AnswersOver X N a.told d.told p es (placing_needs X N dest (row_name path) p es) (settled X N (say p) p es (placed X N (added_spot dest path es) g p es)) done) (same p o.given o.said) o.ends)
    where
      settled-stands : (p : Profile) (es : Entries) (w : Result (Tree × Entries) Refusal) → TellsHeld a.told (blocks X N p (Dir es)) → StandsNamed X N a.told d.told (blocks X N p (Dir es)) (settled X N (say p) p es w).next
          → TellsAs X N d.told (settled X N (say p) p es w).next × TellsHeld d.told (settled X N (say p) p es w).held
      settled-stands p es (Ok put) held named = (let s = named-stands X N a.told d.told p es put.1 held named in (s, stands-blocks X N d.told p put.1 s))
      settled-stands p es (Err why) held named = (let s = named-stands X N a.told d.told p es es held named in (s, tells-none X N d.told (Stands p es) s))

      over-answers : (p : Profile) (es : Entries) (w : Result (Tree × Entries) Refusal) (r : Result (List ℕ) Refusal) → TellsAs X N a.told (Stands p es) → AnswersOver X N a.told d.told p es (placing_needs X N dest (row_name path) p es) (settled X N (say p) p es w) r
          → Answers X N (Stands p es) (settled X N (say p) p es w) r d.told
      over-answers p es w r stood (inl x) =
          inl (record { ends_are = x.ends_are ∙ ap (λ (f : StoreFault). Err (refusal.Store f)) (loss-fault a.told (placing_needs X N dest (row_name path) p es) x.fault (placing-held X N a.told p es dest (row_name path) stood) x.loss); stands = named-stands X N a.told d.told p es es (stands-blocks X N a.told p es stood) x.stands })
      over-answers p es w r stood (inr x) =
          let s = settled-stands p es w (stands-blocks X N a.told p es stood) x.stands in
          inr (record { ends_are = x.ends_are; stands = s.0; held = s.1 })

-- ---- the records of the two commands

not-read : (b : Bool) (i j : ℕ) → Counts b i j → Stood i j → b ≡ false
not-read true i j counts stood = absurd (not-rose i j (counts.rose refl) stood)
not-read false i j counts stood = refl

is-ready : (command : Command) (told : Told) (done : Result (List ℕ) Refusal) → ((why : Ready) → IsReasonInTree why told → IsReason command why told) → IfErr done (λ why. IsReadyIn told why) → IsReady told command done
is-ready command told (Ok text) more h = tt
is-ready command told (Err why) more h = ready-by command told more why h

head-after : (done : Result (List ℕ) Refusal) (a d : Told) → IfErr done (λ why. head_in d ≡ head_in a) → HeadStays done true a d
head-after (Ok []) a d h = tt
head-after (Ok (b ∷ text)) a d h = tt
head-after (Err why) a d h = h

any-text : (done : Result (List ℕ) Refusal) → IfOk done (λ text. ⊤)
any-text (Ok text) = tt
any-text (Err why) = tt

ok-more : (P Q : List ℕ → Type 0) (done : Result (List ℕ) Refusal) → ((text : List ℕ) → P text → Q text) → IfOk done P → IfOk done Q
ok-more P Q (Ok text) more h = more text h
ok-more P Q (Err why) more h = tt

input-said : (p : Profile) (l : streams.Told) (bytes : List ℕ) (g : Result Tree Refusal) → l ≡ Some bytes → SaysInput p l g → g ≡ input_tree p bytes
input-said p l bytes g e h = h.is ∙ ap (input_tree p) (by l e h.are_left)
  where
    by : (l : streams.Told) → l ≡ Some bytes → AreLeft l h.bytes → h.bytes ≡ bytes
    by None e are = absurd cc
    by (Some b) e are = sym are ∙ (let same : b ≡ bytes = cc in same)

host-said : (path : List ℕ) (host : HostTold) (tree : HostTree) (say : HostTree → Result Tree HostFault) (g : Result Tree Refusal) → host ≡ Some tree → IfSome host (λ h. host_tree path (say h) ≡ g) → g ≡ host_tree path (say tree)
host-said path None tree say g e h = absurd cc
host-said path (Some other) tree say g e h = sym h ∙ (let same : other ≡ tree = cc in ap (λ (t : HostTree). host_tree path (say t)) same)

pub host-ok : (path : List ℕ) (r : Result Tree HostFault) (t : Tree) → host_tree path r ≡ Ok t → r ≡ Ok t
host-ok path (Ok u) t is = (let same : u ≡ t = cc in ap (λ (t : Tree). Ok t) same)
host-ok path (Err f) t is = absurd cc

host-is-said : (path : List ℕ) (host : HostTold) (say : HostTree → Result Tree HostFault) (t : Tree) → IfSome host (λ h. host_tree path (say h) ≡ Ok t) → IsSaid host say (Ok t)
host-is-said path None say t h = tt
host-is-said path (Some tree) say t h = host-ok path (say tree) t h

-- the tree of an input is its file
pub file-of : (p : Profile) (bytes : List ℕ) (t : Tree) → Ok t ≡ input_tree p bytes → t ≡ File none bytes
file-of p bytes t is = by (nat_le (length bytes) (most_bytes p)) is
  where
    by : (few : Bool) → Ok t ≡ (if few then Ok (File none bytes) else Err (refusal.Rule FileTooLong)) → t ≡ File none bytes
    by true is = cc
    by false is = absurd cc

module _ (X : List ℕ → List ℕ) (N : List ℕ → ℕ) where
  row-of : (p : Profile) (bytes : List ℕ) → added_line (entry X N p (File none bytes)).cid ≡ added_line (file_cid X p bytes)
  unfolding planned fold
  row-of p bytes = refl

  file-blocks : (p : Profile) (bytes : List ℕ) → blocks X N p (File none bytes) ≡ (file_plan X p none bytes).blocks
  unfolding planned fold
  file-blocks p bytes = refl

  input-row : (dest : Path) (l : streams.Told) (told now : Told) (text : List ℕ) → PrintsFor X N dest None (λ p. SaysInput p l) (input_row X N) told now text → IsRow X told now false l text
  input-row dest l told now text h = record {
    profile = h.profile;
    adds_by = h.adds_by;
    bytes = h.said.bytes;
    are_left = h.said.are_left;
    is = h.is ∙ ap (λ (t : Tree). input_row X N h.profile t) (file-of h.profile h.said.bytes h.tree h.said.is) ∙ row-of h.profile h.said.bytes;
    held = subst (Holds now) (file-blocks h.profile h.said.bytes) (subst (λ t. Holds now (blocks X N h.profile t)) (file-of h.profile h.said.bytes h.tree h.said.is) h.plan.held);
  }

  host-rows : (recursive : Bool) (path : List ℕ) (dest : Path) (host : HostTold) (told now : Told) (text : List ℕ)
      → PrintsFor X N dest (Some path) (λ p. SaysHost X N p host recursive path) (λ p. host_text X N p path) told now text → AreHostRows X N told now host recursive false path text
  host-rows recursive path dest host told now text h = record {
    profile = h.profile;
    adds_by = h.adds_by;
    tree = h.tree;
    is_tree = h.plan.tree;
    whole = h.plan.whole;
    said = host-is-said path host (λ tree. tree_on_host X N h.profile tree recursive path) h.tree h.said;
    is = h.is;
    held = h.plan.held;
  }

  pub of-input : (dest : Path) (l m : streams.Told) (i j : ℕ) (held : streams.Told) (w : ℕ) (side : HostSide) (er er2 : SinkSide) (done : Result (List ℕ) Refusal) (a d : Seen) (t0 t2 : ℕ)
      → Ended X N dest None (λ p. SaysInput p l) (input_row X N) done a d t0 t2 → Counts (is_read done) i j → KeepsPut X N a d dest l → LeavesAlone (around a l i held w t0 side er) (around d m j held w t2 side er2) ⊎ HasBegun X N dest None done a d
      → Makes X N (Add (adding.InputTo dest)) done (around a l i held w t0 side er) (around d m j held w t2 side er2)
  of-input dest l m i j held w side er er2 done a d t0 t2 e counts saved how = record {
    answers = λ world stands input calm.
        answers-of X N dest None (λ p. SaysInput p l) (input_row X N) done a d t0 t2 (λ p. input_tree p world.input) e calm (not-read (is_read done) i j counts (input.0 refl).1)
        (λ p g said. input-said p l world.input g (input.0 refl).0 said) world.standing stands;
    lost = λ p es rows lookup outside named input calm.
        let o = e.over p es named calm (not-read (is_read done) i j counts (input.0 refl).1) in
        subst (λ g. AnswersOver X N a.told d.told p es (placing_needs X N dest None p es) (settled X N (input_row X N p) p es (placed X N (added_spot dest None es) g p es)) done) (input-said p l outside.input o.given (input.0 refl).0 o.said) o.ends;
    kinds = e.kinds;
    ready = is-ready (Add (adding.InputTo dest)) a.told done (λ why h. h) e.ready;
    adds = ok-more (PrintsFor X N dest None (λ p. SaysInput p l) (input_row X N) a.told d.told) (IsRow X a.told d.told false l) done (input-row dest l a.told d.told) e.rows;
    kept = saved;
    reads = counts;
    host = refl;
    rows = any-text done;
    cause = e.cause;
    whole = e.whole;
    touches = λ p es bytes rows named input heights calm. e.touches p es named calm;
    touched = e.touched;
    unready = λ may is. by-head X N dest None done a d (LeavesAlone (around a l i held w t0 side er) (around d m j held w t2 side er2)) how is;
    unplaced = λ p es names stood none. by-spot X N dest None done a d (LeavesAlone (around a l i held w t0 side er) (around d m j held w t2 side er2)) how p es names stood none;
    leaves = record { head = head-after done a.told d.told e.head; writes = e.writes; idle = λ p es bytes names calm same. absurd cc };
  }

  pub of-host : (recursive : Bool) (path : List ℕ) (dest : Path) (l : streams.Told) (i : ℕ) (held : streams.Told) (w : ℕ) (side side2 : HostSide) (er er2 : SinkSide) (done : Result (List ℕ) Refusal) (a d : Seen) (t0 t2 : ℕ)
      → Ended X N dest (Some path) (λ p. SaysHost X N p side.told recursive path) (λ p. host_text X N p path) done a d t0 t2 → OnlyReadsHost (is_read done) side side2 → KeepsHosted X N a d recursive path dest side.told
      → LeavesAlone (around a l i held w t0 side er) (around d l i held w t2 side2 er2) ⊎ HasBegun X N dest (Some path) done a d
      → Makes X N (Add (adding.HostTo recursive path dest)) done (around a l i held w t0 side er) (around d l i held w t2 side2 er2)
  of-host recursive path dest l i held w side side2 er er2 done a d t0 t2 e only saved how = record {
    answers = λ world stands input calm.
        answers-of X N dest (Some path) (λ p. SaysHost X N p side.told recursive path) (λ p. host_text X N p path) done a d t0 t2 (λ p. host_tree path (tree_on_host X N p world.host recursive path)) e calm
        (not-read (is_read done) side.reads side2.reads only.reads (input.1 refl).1)
        (λ p g said. host-said path side.told world.host (λ tree. tree_on_host X N p tree recursive path) g (input.1 refl).0 said) world.standing stands;
    lost = λ p es rows lookup outside named input calm.
        let o = e.over p es named calm (not-read (is_read done) side.reads side2.reads only.reads (input.1 refl).1) in
        subst (λ g. AnswersOver X N a.told d.told p es (placing_needs X N dest (row_name (Some path)) p es) (settled X N (host_text X N p path) p es (placed X N (added_spot dest (Some path) es) g p es)) done)
        (host-said path side.told outside.host (λ tree. tree_on_host X N p tree recursive path) o.given (input.1 refl).0 o.said) o.ends;
    kinds = e.kinds;
    ready = is-ready (Add (adding.HostTo recursive path dest)) a.told done (λ why h. h) e.ready;
    adds = tt;
    kept = saved;
    reads = counts-still i;
    host = only;
    rows = ok-more (PrintsFor X N dest (Some path) (λ p. SaysHost X N p side.told recursive path) (λ p. host_text X N p path) a.told d.told) (AreHostRows X N a.told d.told side.told recursive false path) done (host-rows recursive path dest side.told a.told d.told) e.rows;
    cause = e.cause;
    whole = e.whole;
    touches = λ p es bytes rows named input heights calm. e.touches p es named calm;
    touched = e.touched;
    unready = λ may is. by-head X N dest (Some path) done a d (LeavesAlone (around a l i held w t0 side er) (around d l i held w t2 side2 er2)) how is;
    unplaced = λ p es names stood none. by-spot X N dest (Some path) done a d (LeavesAlone (around a l i held w t0 side er) (around d l i held w t2 side2 er2)) how p es names stood none;
    leaves = record { head = head-after done a.told d.told e.head; writes = e.writes; idle = λ p es bytes names calm same. absurd cc };
  }

-- what may be said where it isn't known
pub some-input : (l : streams.Told) (p : Profile) → (given : Result Tree Refusal) × SaysInput p l given
some-input None p = (input_tree p [], record { bytes = []; are_left = tt; is = refl })
some-input (Some bytes) p = (input_tree p bytes, record { bytes = bytes; are_left = refl; is = refl })

pub some-host : (X : List ℕ → List ℕ) (N : List ℕ → ℕ) (host : HostTold) (recursive : Bool) (path : List ℕ) (p : Profile) → (given : Result Tree Refusal) × SaysHost X N p host recursive path given
some-host X N None recursive path p = (Err no_memory, tt)
some-host X N (Some tree) recursive path p = (host_tree path (tree_on_host X N p tree recursive path), refl)

-- ---- what is read, by its refusals

pub ungiven-blameless : (Says : Result Tree Refusal → Type 0) (why : Refusal) → IsUngiven Says why → IsBlaming (fault_behind why) → ⊥
ungiven-blameless Says (refusal.Rule rule) h blames = blames
ungiven-blameless Says (refusal.Dag rule) h blames = blames
ungiven-blameless Says (refusal.Car number place) h blames = blames
ungiven-blameless Says (refusal.CarLacks cid) h blames = blames
ungiven-blameless Says (refusal.OwnClash cid first second) h blames = blames
ungiven-blameless Says (refusal.Host rule) h blames = blames
ungiven-blameless Says (refusal.BadPath why) h blames = blames
ungiven-blameless Says refusal.Usage h blames = blames
ungiven-blameless Says refusal.BadPins h blames = blames
ungiven-blameless Says refusal.InputTooLong h blames = blames
ungiven-blameless Says (refusal.Ready why) h blames = blames
ungiven-blameless Says refusal.Read h blames = blames
ungiven-blameless Says refusal.Write h blames = blames
ungiven-blameless Says (refusal.Store fault.Failed) h blames = blames
ungiven-blameless Says (refusal.Store (fault.Damaged cid)) h blames = blames
ungiven-blameless Says (refusal.Store (fault.Missing cid)) h blames = blames
ungiven-blameless Says (refusal.Store (fault.BadBlock cid role)) h blames = h
ungiven-blameless Says (refusal.Store (fault.Clash cid held bytes)) h blames = blames
ungiven-blameless Says (refusal.Store fault.Memory) h blames = blames

ungiven-kinds : (path : Option (List ℕ)) (Says : Result Tree Refusal → Type 0) (why : Refusal) → ((rule : HostRule) → Says (Err (refusal.Host rule)) → may_meet (kinds_placing path) OfHost ≡ true) → may_meet (kinds_placing path) OfRead ≡ true
    → IsUngiven Says why → may_meet (kinds_placing path) (refusal_kind why) ≡ true
ungiven-kinds path Says (refusal.Rule rule) host read h = (tree-rule path rule).kind
ungiven-kinds path Says (refusal.Dag rule) host read h = absurd h
ungiven-kinds path Says (refusal.Car number place) host read h = absurd h
ungiven-kinds path Says (refusal.CarLacks cid) host read h = absurd h
ungiven-kinds path Says (refusal.OwnClash cid first second) host read h = absurd h
ungiven-kinds path Says (refusal.Host rule) host read h = host rule h
ungiven-kinds path Says (refusal.BadPath why) host read h = absurd h
ungiven-kinds path Says refusal.Usage host read h = absurd h
ungiven-kinds path Says refusal.BadPins host read h = absurd h
ungiven-kinds path Says refusal.InputTooLong host read h = absurd h
ungiven-kinds path Says (refusal.Ready why) host read h = absurd h
ungiven-kinds path Says refusal.Read host read h = read
ungiven-kinds path Says refusal.Write host read h = absurd h
ungiven-kinds path Says (refusal.Store f) host read h = (tree-store path f).kind

no-host-input : (p : Profile) (bytes : List ℕ) (rule : HostRule) → Err (refusal.Host rule) ≡ input_tree p bytes → ⊥
no-host-input p bytes rule is = by (nat_le (length bytes) (most_bytes p)) is
  where
    by : (few : Bool) → Err (refusal.Host rule) ≡ (if few then Ok (File none bytes) else Err (refusal.Rule FileTooLong)) → ⊥
    by true is = cc
    by false is = cc

pub input-kinds : (p : Profile) (l : streams.Told) (why : Refusal) → IsUngiven (SaysInput p l) why → may_meet place_kinds (refusal_kind why) ≡ true
input-kinds p l why h = ungiven-kinds None (SaysInput p l) why (λ rule said. absurd (no-host-input p said.bytes rule said.is)) refl h

pub host-kinds : (Says : Result Tree Refusal → Type 0) (path : List ℕ) (why : Refusal) → IsUngiven Says why → may_meet place_host_kinds (refusal_kind why) ≡ true
host-kinds Says path why h = ungiven-kinds (Some path) Says why (λ rule said. refl) refl h

-- ---- how the counts of readings moved

pub find-unread : (why : Refusal) (i : ℕ) → is_read {A = OpenSpot} (Err why) ≡ false → Counts (is_read {A = List ℕ} (Err why)) i i
find-unread why i e = subst (λ b. Counts b i i) (sym e) (counts-still i)

unread-put : (path : Option (List ℕ)) (r : Result (List ℕ) Refusal) → IsOf opened_kinds r → is_read r ≡ false
unread-put path (Ok text) h = refl
unread-put path (Err why) h = (of-tree path why h).unread

pub put-unread : (r : Result (List ℕ) Refusal) (i j : ℕ) → IsOf opened_kinds r → Counts false i j → Counts (is_read r) i j
put-unread r i j kinds counts = subst (λ b. Counts b i j) (sym (unread-put None r kinds)) counts

pub find-reads : (why : Refusal) (s : HostSide) → is_read {A = OpenSpot} (Err why) ≡ false → OnlyReadsHost (is_read {A = List ℕ} (Err why)) s s
find-reads why s e = record { told = refl; reads = find-unread why s.reads e; writes = refl }

pub put-reads : (r : Result (List ℕ) Refusal) (s t : HostSide) → IsOf opened_kinds r → OnlyReadsHost false s t → OnlyReadsHost (is_read r) s t
put-reads r s t kinds only = subst (λ b. OnlyReadsHost b s t) (sym (unread-put None r kinds)) only
