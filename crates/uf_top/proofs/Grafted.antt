-- What is found in a DAG, built, and put into the tree in memory.
use Rattle.std.proofs.Common.{◌≡◌, ℕ, ◌≤◌, List, [], ◌∷◌, arith, false, true, refl, sym, ap, subst, ◌∙◌, inl, inr, Option, Some, None, Result, Ok, Err}
use Rattle.std.specs.Prelude.{IsErr}
use Rattle.uf_adopt.specs.Adopting.{BuildsTree, IsBuilt}
use Rattle.uf_adopt.specs.Faults.{TellsStoreApart, adopt_fault}
use Rattle.uf_adopt.specs.Feeding.{HoldsGoodMap}
use Rattle.uf_adopt.specs.declared.fault.AdoptFault.{AdoptFault}
use Rattle.uf_adopt.specs.declared.fault.AdoptFault.TheVariants as adopt
use Rattle.uf_cid.specs.Blocks.{Lookup}
use Rattle.uf_cid.specs.declared.cid.Cid.{Cid}
use Rattle.uf_edge.specs.Counts.{Stood}
use Rattle.uf_lenient.specs.Answers.{IsFault, IsOwn}
use Rattle.uf_lenient.specs.Good.{ByGoodBlocks, HasGoodOf}
use Rattle.uf_lenient.specs.Reading.{denotes, resolve_from}
use Rattle.uf_lenient.specs.Steps.{IsRead}
use Rattle.uf_lenient.specs.Within.{AnswersSame, HoldsAllOf, good_blocks}
use Rattle.uf_lenient.proofs.Good.{good-has, good-is}
use Rattle.uf_lenient.proofs.Greater.{tree-stays}
use Rattle.uf_lenient.specs.declared.fault.DagFault.{DagFault}
use Rattle.uf_lenient.specs.declared.fault.DagFault.TheVariants as dag
use Rattle.uf_lenient.specs.declared.shapes.Shape.{Shape}
use Rattle.uf_mfs.specs.Standing.{StandsAfter, StandsOver}
use Rattle.uf_mfs.specs.Steps.{IsFolderOver}
use Rattle.uf_mfs.specs.Touches.{CountsUp, IsBlaming}
use Rattle.uf_mfs.specs.declared.mfs.Mfs.{Mfs}
use Rattle.uf_mfs.specs.Missing.{put_names, put_needs}
use Rattle.uf_mfs.proofs.Folders.{read-over}
use Rattle.uf_mfs.proofs.Missing.{spotted-names}
use Rattle.uf_path.specs.declared.path.DagPath.{DagPath}
use Rattle.uf_path.specs.declared.path.Path.{Path}
use Rattle.uf_plain.specs.Moves.{spotted, told_of}
use Rattle.uf_plain.specs.Needs.{root_of}
use Rattle.uf_plain.specs.declared.rule.Rule.{Rule}
use Rattle.uf_plain.specs.Rules.{unless}
use Rattle.uf_plain.specs.declared.spot.Spot.{Spot}
use Rattle.uf_store.specs.Calls.{OnlyReads}
use Rattle.uf_store.specs.Contents.{Told}
use Rattle.uf_store.specs.Faults.{NoneIsBad, Shown}
use Rattle.uf_store.specs.Keeping.{Agrees}
use Rattle.uf_store.specs.Seen.{Seen}
use Rattle.uf_store.specs.declared.store.Role.{Role}
use Rattle.uf_store.specs.declared.store.StoreFault.{StoreFault}
use Rattle.uf_store.specs.declared.store.StoreFault.TheVariants as fault
use Rattle.uf_store.proofs.Causes.{calm-memory}
use Rattle.uf_tree.specs.Tree.{Dir, Entries, Tree}
use Rattle.uf_tree.specs.TreePlan.{Refusal as NoPlan, blocks, refusal as refusal_of}
use Rattle.uf_tree.specs.declared.nodes.Entry.{Entry}
use Rattle.uf_tree.specs.declared.profile.Profile.{Profile}
use Rattle.uf_varint.specs.Fields.{◌>>=◌}
use Rattle.uf_command.specs.Dags.{IsApart, IsToldAs, adopted_name, by_dag, dag_refusal, tree_at, usual_limits}
use Rattle.uf_command.specs.Kinds.{fault_behind, fault_kind, refusal_fault, refusal_kind}
use Rattle.uf_top.specs.Reply.{adopted, by_rule, grafted, with_plan}
use Rattle.uf_command.specs.declared.types.Refusal.{Refusal}
use Rattle.uf_command.specs.declared.types.Refusal.TheVariants as refusal
use Rattle.uf_top.specs.Foreign.{FindsTree, FindsWay, IsOfReading, IsOwnRefusal, IsTreeIn, LeadsTo}
use Rattle.uf_top.specs.Grafts.{BuildsPlanned, FollowsOr, IsFailingRefusal, IsLostBy, IsOkFor, PutsTree, TouchesUp, adopt_refusal, graft_kinds, put_tree}
use Rattle.uf_top.specs.Naming.{TellsBlocks}
use Rattle.uf_top.specs.Saving.{SavesNoOther, adopted_blocks, put_blocks}
use Rattle.uf_lenient.proofs.Saying.{good-both}
use Rattle.uf_top.proofs.Cats.{below-fault, way-fault}
use Rattle.uf_top.specs.Losing.{placing_needs}
use Rattle.uf_top.proofs.Putting.{failing-lost, follows-more, follows-then, lost-behind, needs_at_spot, ok-for, ok-value, rule-ok, stops-then}

-- ---- kinds

store-graft : (f : StoreFault) → graft_kinds (fault_kind f) ≡ true
store-graft fault.Failed = refl
store-graft (fault.Damaged cid) = refl
store-graft (fault.Missing cid) = refl
store-graft (fault.BadBlock cid role) = refl
store-graft (fault.Clash cid held bytes) = refl
store-graft fault.Memory = refl

dag-graft : (path : DagPath) (f : DagFault) → graft_kinds (refusal_kind (dag_refusal path f)) ≡ true
dag-graft path (dag.NotUnixfs cid n) = refl
dag-graft path (dag.DuplicateName cid name) = refl
dag-graft path (dag.BadName cid) = refl
dag-graft path (dag.Unsupported cid) = refl
dag-graft path (dag.TooDeep cid) = refl
dag-graft path dag.TooMany = refl
dag-graft path (dag.NotFound place) = refl
dag-graft path (dag.NotADirectory place) = refl
dag-graft path (dag.Store f) = store-graft f

adopt-graft : (path : DagPath) (f : AdoptFault) → graft_kinds (refusal_kind (adopt_refusal path f)) ≡ true
adopt-graft path (adopt.Dag f) = dag-graft path f
adopt-graft path (adopt.FileTooLong cid) = refl
adopt-graft path (adopt.Collision first second) = refl
adopt-graft path adopt.TooBig = refl
adopt-graft path (adopt.Store f) = store-graft f

pub adopted-kind : (path : DagPath) (f : AdoptFault) (why : Refusal) → IsToldAs (adopt_refusal path f) why → graft_kinds (refusal_kind why) ≡ true
adopted-kind path f why (inl is) = subst (λ w. graft_kinds (refusal_kind w) ≡ true) (sym is.0) refl
adopted-kind path f why (inr is) = subst (λ w. graft_kinds (refusal_kind w) ≡ true) (sym is) (adopt-graft path f)

pub reading-kind : (why : Refusal) → IsOfReading why → graft_kinds (refusal_kind why) ≡ true
reading-kind (refusal.Rule r) of = absurd of
reading-kind (refusal.Dag r) of = refl
reading-kind (refusal.BadPath p) of = absurd of
reading-kind (refusal.Host r) of = absurd of
reading-kind (refusal.Car number place) of = absurd of
reading-kind (refusal.CarLacks cid) of = absurd of
reading-kind (refusal.OwnClash cid first second) of = absurd of
reading-kind refusal.InputTooLong of = absurd of
reading-kind refusal.BadPins of = absurd of
reading-kind refusal.Usage of = absurd of
reading-kind (refusal.Ready r) of = absurd of
reading-kind refusal.Read of = absurd of
reading-kind refusal.Write of = absurd of
reading-kind (refusal.Store f) of = store-graft f

-- ---- a tree that is built

pub built-planned : (X : List ℕ → List ℕ) (N : List ℕ → ℕ) (p : Profile) (now : Told) (t : Tree) (e : Entry) → IsBuilt X N p now t e → BuildsPlanned X N p now t (Ok e)
built-planned X N p now t e h =
    ok-for (λ planned. IsBuilt X N p now planned e) (by_rule (with_plan X N p t)) t (ap (λ (o : Option NoPlan). by_rule (told_of [] (unless t o))) h.planned) h

pub refused-planned : (X : List ℕ → List ℕ) (N : List ℕ → ℕ) (p : Profile) (held : Lookup) (path : DagPath) (now : Told) (c : Cid) (t : Tree) (f : AdoptFault) (why : Refusal) → IsToldAs (adopt_refusal path f) why → BuildsTree X N p held usual_limits now c t (Err f)
    → BuildsPlanned X N p now t (Err why)
refused-planned X N p held path now c t f why (inl is) h = inl (subst IsFailingRefusal (sym is.0) (inl tt))
refused-planned X N p held path now c t f why (inr is) h = by f is h
  where
    said : (o : NoPlan) → refusal_of X N p t ≡ Some o → by_rule (with_plan X N p t) ≡ by_rule (told_of [] (unless t (Some o)))
    said o planned = ap (λ (o : Option NoPlan). by_rule (told_of [] (unless t o))) planned

    by : (f : AdoptFault) → why ≡ adopt_refusal path f → BuildsTree X N p held usual_limits now c t (Err f) → BuildsPlanned X N p now t (Err why)
    by (adopt.Dag f) is h = absurd h
    by (adopt.FileTooLong node) is h = inr (said _ h.0 ∙ ap (λ (r : Refusal). Err r) (sym is))
    by (adopt.Collision first second) is h = inr (said _ h ∙ ap (λ (r : Refusal). Err r) (sym is))
    by adopt.TooBig is h = inr (said _ h ∙ ap (λ (r : Refusal). Err r) (sym is))
    by (adopt.Store f) is h = inl (subst IsFailingRefusal (sym is) h)

-- the store's own fault is the refusal's
pub adopted-fault : (path : DagPath) (f : AdoptFault) (hash : List ℕ → List ℕ) (a b : Seen) (why : Refusal) → IsToldAs (adopt_refusal path f) why → TellsStoreApart {A = Entry} (Err f) → Shown hash NoneIsBad (adopt_fault {A = Entry} (Err f)) a b
    → Shown hash NoneIsBad (fault_behind why) a b
adopted-fault path f hash a b why (inl is) apart h = subst (λ w. Shown hash NoneIsBad (fault_behind w) a b) (sym is.0) (wants f is.1 h)
  where
    wants : (f : AdoptFault) → IsApart (adopt_refusal path f) → Shown hash NoneIsBad (adopt_fault {A = Entry} (Err f)) a b → Shown hash NoneIsBad (Some fault.Memory) a b
    wants (adopt.Dag (dag.NotUnixfs cid n)) other h = calm-memory a b h
    wants (adopt.Dag (dag.DuplicateName cid name)) other h = calm-memory a b h
    wants (adopt.Dag (dag.BadName cid)) other h = calm-memory a b h
    wants (adopt.Dag (dag.Unsupported cid)) other h = calm-memory a b h
    wants (adopt.Dag (dag.TooDeep cid)) other h = calm-memory a b h
    wants (adopt.Dag dag.TooMany) other h = calm-memory a b h
    wants (adopt.Dag (dag.NotFound place)) other h = calm-memory a b h
    wants (adopt.Dag (dag.NotADirectory place)) other h = calm-memory a b h
    wants (adopt.Dag (dag.Store s)) other h = absurd other
    wants (adopt.FileTooLong cid) other h = calm-memory a b h
    wants (adopt.Collision first second) other h = calm-memory a b h
    wants adopt.TooBig other h = calm-memory a b h
    wants (adopt.Store s) other h = absurd other
adopted-fault path f hash a b why (inr is) apart h = subst (λ w. Shown hash NoneIsBad (fault_behind w) a b) (sym is) (by f apart h)
  where
    by : (f : AdoptFault) → TellsStoreApart {A = Entry} (Err f) → Shown hash NoneIsBad (adopt_fault {A = Entry} (Err f)) a b → Shown hash NoneIsBad (fault_behind (adopt_refusal path f)) a b
    by (adopt.Dag (dag.NotUnixfs cid n)) apart h = h
    by (adopt.Dag (dag.DuplicateName cid name)) apart h = h
    by (adopt.Dag (dag.BadName cid)) apart h = h
    by (adopt.Dag (dag.Unsupported cid)) apart h = h
    by (adopt.Dag (dag.TooDeep cid)) apart h = h
    by (adopt.Dag dag.TooMany) apart h = h
    by (adopt.Dag (dag.NotFound place)) apart h = h
    by (adopt.Dag (dag.NotADirectory place)) apart h = h
    by (adopt.Dag (dag.Store s)) apart h = absurd apart
    by (adopt.FileTooLong cid) apart h = h
    by (adopt.Collision first second) apart h = h
    by adopt.TooBig apart h = h
    by (adopt.Store s) apart h = h

-- ---- what is found

own-failing : (why : Refusal) → IsOwnRefusal why → IsFailingRefusal why
own-failing (refusal.Rule r) own = absurd own
own-failing (refusal.Dag r) own = absurd own
own-failing (refusal.BadPath p) own = absurd own
own-failing (refusal.Host r) own = absurd own
own-failing (refusal.Car number place) own = absurd own
own-failing (refusal.CarLacks cid) own = absurd own
own-failing (refusal.OwnClash cid first second) own = absurd own
own-failing refusal.InputTooLong own = absurd own
own-failing refusal.BadPins own = absurd own
own-failing refusal.Usage own = absurd own
own-failing (refusal.Ready r) own = absurd own
own-failing refusal.Read own = absurd own
own-failing refusal.Write own = absurd own
own-failing (refusal.Store f) own = inl own

-- a fault of a reading is the refusal that it says, or the store's own
pub fault-tree : (held : Lookup) (path : DagPath) (f : DagFault) (why : Refusal) → IsFault (tree_at held path) f → IsToldAs (dag_refusal path f) why → FindsTree held path (Err why)
fault-tree held path f why said (inl is) = inl (subst IsOwnRefusal (sym is.0) tt)
fault-tree held path f why (inr said) (inr is) = inr (ap (by_dag path) said ∙ ap (λ (r : Refusal). Err r) (sym is))
fault-tree held path f why (inl own) (inr is) = inl (subst IsOwnRefusal (sym is) (by f own))
  where
    by : (f : DagFault) → IsOwn f → IsOwnRefusal (dag_refusal path f)
    by (dag.NotUnixfs cid n) own = absurd own
    by (dag.DuplicateName cid name) own = absurd own
    by (dag.BadName cid) own = absurd own
    by (dag.Unsupported cid) own = absurd own
    by (dag.TooDeep cid) own = absurd own
    by dag.TooMany own = absurd own
    by (dag.NotFound place) own = absurd own
    by (dag.NotADirectory place) own = absurd own
    by (dag.Store s) own = own

pub way-told : (X : List ℕ → List ℕ) (told : Told) (path : DagPath) (f : DagFault) (why : Refusal)
    → ByGoodBlocks X told (λ held. IsFault (resolve_from held usual_limits 0 path.names path.cid) f)
    → IsToldAs (dag_refusal path f) why → ByGoodBlocks X told (λ held. FindsWay held path (Err why))
way-told X None path f why said is = tt
way-told X (Some t) path f why said is = λ good has. fault-tree good path f why (way-fault good path f (said good has)) is

-- what is found under the CID to which a path leads
module _ (X : List ℕ → List ℕ) (told later : Told) (same : later ≡ told) (path : DagPath) (cid : Cid)
    (leads : ByGoodBlocks X told (λ held. FindsWay held path (Ok cid))) where
  pub below-told : (f : DagFault) (why : Refusal) → ByGoodBlocks X later (λ held. IsFault (denotes held usual_limits cid) f)
      → IsToldAs (dag_refusal path f) why → ByGoodBlocks X told (λ held. FindsTree held path (Err why))
  below-told f why said is =
      good-both X told later same (λ good led fault. fault-tree good path f why (below-fault good path cid led f fault) is) leads said

  pub tree-told : (shape : Shape) → ByGoodBlocks X later (λ held. IsRead held usual_limits cid shape)
      → ByGoodBlocks X told (λ held. FindsTree held path (Ok cid))
  tree-told shape read = good-both X told later same tree leads read
    where
      tree : (good : Lookup) → LeadsTo good path cid → IsRead good usual_limits cid shape → FindsTree good path (Ok cid)
      tree good led is = record {
        tree = is.tree;
        leads = ap (λ (r : Result Cid DagFault). r >>= λ c. denotes good usual_limits c) led ∙ is.denoted;
        denoted = is.denoted;
      }

-- what is found of the blocks that the store tells, and of the good ones among them
found-in : (A : Lookup → Type 0) (X : List ℕ → List ℕ) (told : Told) (held good : Lookup) → TellsBlocks told held
    → HasGoodOf X held good → ByGoodBlocks X told A → A good
found-in A X None held good tells has h = absurd tells
found-in A X (Some t) held good tells has h = h good (subst (λ (m : Lookup). HasGoodOf X m good) tells has)

has-itself : (X : List ℕ → List ℕ) (held : Lookup) → HasGoodOf X held held
has-itself X held = record { holds = λ c block is same. is; misses = λ c none. none }

good-map : (X : List ℕ → List ℕ) (told : Told) (held : Lookup) → TellsBlocks told held
    → HoldsGoodMap X (good_blocks X held) told
good-map X None held tells = absurd tells
good-map X (Some t) held tells = λ c block is.
    let both = (good-is X held c block).0 is in (ap (λ (h : Lookup). h c) (sym tells) ∙ both.0, both.1)

-- ---- how the count of touches moved

none-blamed : (hash : List ℕ → List ℕ) (f : Option StoreFault) (a b : Seen) → Shown hash NoneIsBad f a b → IsBlaming f → ⊥
none-blamed hash None a b h blames = blames
none-blamed hash (Some fault.Failed) a b h blames = blames
none-blamed hash (Some (fault.Damaged cid)) a b h blames = blames
none-blamed hash (Some (fault.Missing cid)) a b h blames = blames
none-blamed hash (Some (fault.BadBlock cid role)) a b h blames = h.bad
none-blamed hash (Some (fault.Clash cid held bytes)) a b h blames = blames
none-blamed hash (Some fault.Memory) a b h blames = blames

-- a refusal that blames no block
pub up-none : (A : Type 0) (hash : List ℕ → List ℕ) (why : Refusal) (a b : Seen) (t0 t1 : ℕ)
    → Shown hash NoneIsBad (fault_behind why) a b → TouchesUp {A = A} (Err why) t0 t1
up-none A hash why a b t0 t1 h = record { kept = tt; risen = λ blames. absurd (none-blamed hash (fault_behind why) a b h blames) }

pub up-same : (A B : Type 0) (why : Refusal) (t0 t1 : ℕ) → TouchesUp {A = A} (Err why) t0 t1 → TouchesUp {A = B} (Err why) t0 t1
up-same A B why t0 t1 up = record { kept = tt; risen = up.risen }

pub up-counts : (A : Type 0) (why : Refusal) (t0 t1 t2 : ℕ) → t0 ≤ t1 → CountsUp (fault_behind why) t1 t2
    → TouchesUp {A = A} (Err why) t0 t2
up-counts A why t0 t1 t2 low up = record { kept = tt; risen = λ blames. let more = up.risen blames in omega (arith, low, more) }

pub up-ok : (A : Type 0) (x : A) (t0 t1 : ℕ) → t0 ≤ t1 → TouchesUp (Ok x) t0 t1
up-ok A x t0 t1 low = record { kept = low; risen = λ blames. absurd blames }

pub up-given : (A : Type 0) (r : Result A Refusal) (t0 t1 t2 : ℕ) → t0 ≤ t1 → CountsUp (refusal_fault r) t1 t2 → TouchesUp r t0 t2
up-given A (Ok x) t0 t1 t2 low up = up-ok A x t0 t2 (let more = up.kept in omega (arith, low, more))
up-given A (Err why) t0 t1 t2 low up = up-counts A why t0 t1 t2 low up

pub up-after : (A : Type 0) (r : Result A Refusal) (t0 t1 t2 : ℕ) → t0 ≤ t1 → TouchesUp r t1 t2 → TouchesUp r t0 t2
up-after A (Ok x) t0 t1 t2 low up = up-ok A x t0 t2 (let more = up.kept in omega (arith, low, more))
up-after A (Err why) t0 t1 t2 low up = record { kept = tt; risen = λ blames. let more = up.risen blames in omega (arith, low, more) }

module _ (X : List ℕ → List ℕ) (N : List ℕ → ℕ) (source : DagPath) (dest : Path) (held : Lookup) (was is : Mfs) where
  after_tree : Tree → Profile → Entries → Result Entries Refusal
  after_tree t p es = grafted X N (adopted_name source) t dest p es

  -- the path leads to no tree
  pub nothing-found : (a m : Seen) (why : Refusal) → TellsBlocks a.told held → ByGoodBlocks X a.told (λ held. FindsTree held source (Err why)) → Shown X NoneIsBad (fault_behind why) a m → PutsTree X N was is (placing_needs X N dest (Some (adopted_name source))) (adopted X N held source dest) (Err why) a m
  nothing-found a m why tells found shown = λ p es same over.
      stops-then IsOwnRefusal (IsLostBy a.told (placing_needs X N dest (Some (adopted_name source)) p es)) (by_dag source (tree_at held source)) (λ t. grafted X N (adopted_name source) t dest p es) why
      (λ own. failing-lost X a.told (placing_needs X N dest (Some (adopted_name source)) p es) a m why (own-failing why own) shown over.calm) (found-in (λ held. FindsTree held source (Err why)) X a.told held held tells (has-itself X held) found)

  module _ (a m : Seen) (same : m.told ≡ a.told) (cid : Cid) (tells : TellsBlocks a.told held)
      (found : ByGoodBlocks X a.told (λ held. FindsTree held source (Ok cid))) where
    there : IsTreeIn held source cid
    there = found-in (λ held. FindsTree held source (Ok cid)) X a.told held held tells (has-itself X held) found

    -- the good blocks denote the same tree
    good_denotes : denotes (good_blocks X held) usual_limits cid ≡ Ok there.tree
    good_denotes =
        let good = good_blocks X held in
        let read = found-in (λ held. FindsTree held source (Ok cid)) X a.told held good tells (good-has X held) found in
        let all : HoldsAllOf good held = λ c block is. ((good-is X held c block).0 is).0 in
        let again : denotes held usual_limits cid ≡ Ok read.tree = subst (λ r. AnswersSame held r (denotes held usual_limits cid)) read.denoted (tree-stays good held all usual_limits cid) in
        let one : read.tree ≡ there.tree = (let e : Ok read.tree ≡ Ok there.tree = sym again ∙ there.denoted in cc) in
        read.denoted ∙ ap (λ (t : Tree). Ok t) one

    leads_on : (C : Type 0) (P : Entries → C → Type 0) (May : Refusal → Type 0) (p : Profile) (es : Entries) (r : Result C Refusal) → FollowsOr May P (grafted X N (adopted_name source) there.tree dest p es) r → FollowsOr May P (adopted X N held source dest p es) r
    leads_on C P May p es r h = follows-then May P (by_dag source (tree_at held source)) there.tree (λ t. grafted X N (adopted_name source) t dest p es) r (ap (by_dag source) there.leads) h

    stands_there : (c : Seen) (p : Profile) (es : Entries) → was.profile ≡ p → IsFolderOver X N p a c [] was.root es → StandsOver X N m.told was p es
    stands_there c p es profile over = record { profile_is = profile; root = record { plan = over.plan; agrees = subst (λ t. Agrees t (blocks X N p (Dir es))) (sym same) over.stays.first } }

    -- what is saved of it at the spot that is found
    pub adopted-saved : (b c : Seen) (again : b.told ≡ m.told) (spot : Spot) (p : Profile) (es : Entries) → by_rule (spotted dest (Some (adopted_name source)) es) ≡ Ok spot
        → ((held : Lookup) (t : Tree) → HoldsGoodMap X held b.told → denotes held usual_limits cid ≡ Ok t → SavesNoOther X (put_blocks X N (Ok spot) (t ∷ []) p es) b.told c.told)
        → SavesNoOther X (adopted_blocks X N (tree_at held source) source dest p es) a.told c.told
    adopted-saved b c again spot p es at saves =
        let good = subst (λ (u : Told). HoldsGoodMap X (good_blocks X held) u) (sym (again ∙ same)) (good-map X a.told held tells) in
        subst (λ (r : Result Tree DagFault). SavesNoOther X (adopted_blocks X N r source dest p es) a.told c.told) (sym there.leads)
        (subst (λ (r : Result Spot Refusal). SavesNoOther X (put_blocks X N r (there.tree ∷ []) p es) a.told c.told) (sym at)
        (subst (λ (u : Told). SavesNoOther X (put_blocks X N (Ok spot) (there.tree ∷ []) p es) u c.told) (again ∙ same) (saves (good_blocks X held) there.tree good good_denotes)))

    -- no spot is found
    pub nowhere : (b : Seen) (why : Refusal)
        → ((p : Profile) (es : Entries) → StandsOver X N m.told was p es → Stood m.faults b.faults → FollowsOr (IsLostBy m.told (placing_needs X N dest (Some (adopted_name source)) p es)) (λ (spot given : Spot). given ≡ spot) (by_rule (spotted dest (Some (adopted_name source)) es)) (Err why))
        → ((c : ℕ) → Stood a.faults c → Stood m.faults c) → PutsTree X N was is (placing_needs X N dest (Some (adopted_name source))) (adopted X N held source dest) (Err why) a b
    nowhere b why finds back = λ p es profile over.
        leads_on (Unit {0}) (λ fs done. StandsAfter X N a.told b.told (blocks X N p (Dir es)) is p fs) (IsLostBy a.told (placing_needs X N dest (Some (adopted_name source)) p es)) p es (Err why)
        (stops-then (IsLostBy m.told (placing_needs X N dest (Some (adopted_name source)) p es)) (IsLostBy a.told (placing_needs X N dest (Some (adopted_name source)) p es)) (by_rule (spotted dest (Some (adopted_name source)) es)) (λ spot. put_tree X N spot there.tree p es) why
        (λ lost. subst (λ t. IsLostBy t (placing_needs X N dest (Some (adopted_name source)) p es) why) same lost) (finds p es (stands_there b p es profile over) (back b.faults over.calm.faults)))

    -- the names of the spot that is found, and what a put there needs
    spot-of : (p : Profile) (es : Entries) (spot : Spot) → (s : Spot) × (by_rule (spotted dest (Some (adopted_name source)) es) ≡ Ok s) × (spot ≡ s) → spotted dest (Some (adopted_name source)) es ≡ Ok spot
    spot-of p es spot v = rule-ok (spotted dest (Some (adopted_name source)) es) spot (v.1 ∙ ap (λ (s : Spot). Ok s) (sym v.2))

    lost-along : (told : Told) (p : Profile) (es : Entries) (spot : Spot) (why : Refusal) → spotted dest (Some (adopted_name source)) es ≡ Ok spot → IsLostBy told (needs_at_spot X N spot p es) why → IsLostBy told (placing_needs X N dest (Some (adopted_name source)) p es) why
    lost-along told p es spot why at lost =
        let names = put_names dest (Some (adopted_name source)) in
        lost-behind told (root_of X N p (Dir es)) (put_needs X N p names (Dir es)) why (subst (λ ns. IsLostBy told (put_needs X N p ns (Dir es)) why) (spotted-names dest (Some (adopted_name source)) es spot at) lost)

    -- it is put at the spot that is found
    pub put-there : (b c : Seen) (again : b.told ≡ m.told) (spot : Spot) (r : Result (Unit {0}) Refusal) {Bad : Role → List ℕ → Type 0} → OnlyReads X Bad None a b
        → ((p : Profile) (es : Entries) → StandsOver X N m.told was p es → Stood m.faults b.faults → FollowsOr (IsLostBy m.told (placing_needs X N dest (Some (adopted_name source)) p es)) (λ (spot given : Spot). given ≡ spot) (by_rule (spotted dest (Some (adopted_name source)) es)) (Ok spot))
        → (Stood a.faults c.faults → Stood m.faults b.faults)
        → ((held : Lookup) (t : Tree) → HoldsGoodMap X held b.told → denotes held usual_limits cid ≡ Ok t → PutsTree X N was is (needs_at_spot X N spot) (put_tree X N spot t) r b c) → PutsTree X N was is (placing_needs X N dest (Some (adopted_name source))) (adopted X N held source dest) r a c
    put-there b c again spot r {Bad} reads finds back puts = λ p es profile over.
        let old = blocks X N p (Dir es) in let need = (placing_needs X N dest (Some (adopted_name source)) p es) in
        let told : b.told ≡ a.told = again ∙ same in
        let v = ok-value (λ (s : Spot). spot ≡ s) (by_rule (spotted dest (Some (adopted_name source)) es)) (finds p es (stands_there c p es profile over) (back over.calm.faults)) in
        leads_on (Unit {0}) (λ fs done. StandsAfter X N a.told c.told old is p fs) (IsLostBy a.told need) p es r
        (follows-then (IsLostBy a.told need) (λ fs done. StandsAfter X N a.told c.told old is p fs) (by_rule (spotted dest (Some (adopted_name source)) es)) spot (λ spot. put_tree X N spot there.tree p es) r (v.1 ∙ ap (λ (s : Spot). Ok s) (sym v.2))
        (follows-more (IsLostBy a.told (needs_at_spot X N spot p es)) (IsLostBy a.told need) (λ fs done. StandsAfter X N a.told c.told old is p fs) (put_tree X N spot there.tree p es) r (λ why lost. lost-along a.told p es spot why (spot-of p es spot v) lost)
        (subst (λ t. FollowsOr (IsLostBy t (needs_at_spot X N spot p es)) (λ fs done. StandsAfter X N t c.told old is p fs) (put_tree X N spot there.tree p es) r) told
        (puts (good_blocks X held) there.tree (subst (HoldsGoodMap X (good_blocks X held)) (sym told) (good-map X a.told held tells)) good_denotes p es profile (read-over X N p [] was.root es reads over)))))

-- a spot that is found is there
pub spot-there : (w : Result Spot Rule) (spot : Spot) → IsOkFor (λ (s : Spot). spot ≡ s) (by_rule w) → IsErr w → ⊥
spot-there (Ok s) spot h nowhere = (let e : false ≡ true = nowhere in cc)
spot-there (Err rule) spot h nowhere = h
