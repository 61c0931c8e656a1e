-- How a file of a DAG of others is sent to the output.
use Rattle.std.proofs.Common.{◌≡◌, ◌≢◌, ◌⊎◌, ℕ, List, [], ◌∷◌, ◌++◌, length, length-append, take, arith, true, refl, sym, ap, subst, ◌∙◌, inl, inr, Some, None, Result, Ok, Err}
use Rattle.std.specs.Prelude.{IfSome, IsSome, ⊤}
use Rattle.uf_cid.specs.Blocks.{Lookup}
use Rattle.uf_cid.specs.declared.cid.Cid.{Cid}
use Rattle.uf_edge.specs.Counts.{Counts}
use Rattle.uf_edge.specs.Streams.{after, AppendsPrefix}
use Rattle.uf_edge.specs.Streams as streams
use Rattle.uf_mfs.specs.Standing.{TellsHeld, head_in}
use Rattle.uf_mfs.specs.Touches.{IsBlaming}
use Rattle.uf_path.specs.declared.path.DagPath.{DagPath}
use Rattle.uf_store.specs.Calls.{Calm}
use Rattle.uf_store.specs.Contents.{Told, held_at}
use Rattle.uf_store.specs.Faults.{NoneIsBad, Shown, StaysCalm}
use Rattle.uf_store.specs.Seen.{Seen}
use Rattle.uf_store.specs.declared.store.StoreFault.TheVariants as fault
use Rattle.uf_store.proofs.Calls.{shown-by}
use Rattle.uf_store.proofs.Causes.{calm-memory}
use Rattle.uf_tree.specs.Tree.{Tree, File, Dir, Entries}
use Rattle.uf_tree.specs.declared.meta.Meta.{Meta}
use Rattle.uf_tree.specs.declared.profile.Profile.{Profile}
use Rattle.uf_lenient.specs.Answers.{IsFault, IsOwn, store_fault_of}
use Rattle.uf_lenient.specs.Good.{ByGoodBlocks}
use Rattle.uf_lenient.specs.Reading.{denotes, file_of, resolve_from}
use Rattle.uf_lenient.specs.Steps.{IsRead}
use Rattle.uf_lenient.specs.Streams.{IsFileFront, Streams}
use Rattle.uf_lenient.specs.declared.fault.DagFault.{DagFault}
use Rattle.uf_lenient.specs.declared.fault.DagFault.TheVariants as dag
use Rattle.uf_lenient.specs.declared.fault.StreamFault.TheVariants as stream
use Rattle.uf_lenient.specs.declared.shapes.Shape.{Shape}
use Rattle.uf_lenient.specs.declared.shapes.Shape.TheVariants.{File as FileShape, Folder as FolderShape}
use Rattle.uf_varint.specs.Fields.{◌>>=◌}
use Rattle.uf_lenient.specs.Denoted.{DenotesBy}
use Rattle.uf_lenient.proofs.Denoting.{denoted-step}
use Rattle.uf_command.specs.Dags.{IsApart, IsToldAs, by_dag, dag_refusal, file_at, tree_at, usual_limits}
use Rattle.uf_command.specs.Kinds.{OfWrite, dag_kinds, fault_behind, may_close, refusal_kind}
use Rattle.uf_top.specs.Reply.{Outside, World, in_world, reply}
use Rattle.uf_command.specs.Statuses.{no_memory}
use Rattle.uf_command.specs.declared.types.Command.{Command}
use Rattle.uf_command.specs.declared.types.Command.TheVariants.{Cat}
use Rattle.uf_command.specs.declared.types.DagRule.TheVariants as rule
use Rattle.uf_command.specs.declared.types.Refusal.{Refusal}
use Rattle.uf_command.specs.declared.types.Refusal.TheVariants as refusal
use Rattle.uf_top.specs.Answering.{DoesAnswer}
use Rattle.uf_top.specs.Around.{HostSide, RisesFor, SinkSide, around}
use Rattle.uf_top.specs.Causes.{IsBadIn, IsReadyBy, is_read}
use Rattle.uf_top.specs.Endings.{EndsBy, PrintsPart}
use Rattle.uf_top.specs.Foreign.{FindsFile, FindsWay, IsFileIn, IsOfReading, IsOwnRefusal, LeadsTo}
use Rattle.uf_top.specs.Losing.{DoesOver}
use Rattle.uf_top.specs.Naming.{StaysNamed, TellsBlocks}
use Rattle.uf_top.specs.Working.{Does}
use Rattle.uf_top.proofs.Losing.{names-same}
use Rattle.uf_top.proofs.Printing.{nothing-printed, quiet-of, whole-printed}
use Rattle.uf_top.proofs.Shows.{counts-still, not-rose}

-- ---- refusals of a reading

pub of-reading : (path : DagPath) (f : DagFault) (why : Refusal) → IsToldAs (dag_refusal path f) why → IsOfReading why
of-reading path f why (inl is) = subst IsOfReading (sym is.0) tt
of-reading path f why (inr is) = subst IsOfReading (sym is) (by f)
  where
    by : (f : DagFault) → IsOfReading (dag_refusal path f)
    by (dag.NotUnixfs cid n) = tt
    by (dag.DuplicateName cid name) = tt
    by (dag.BadName cid) = tt
    by (dag.Unsupported cid) = tt
    by (dag.TooDeep cid) = tt
    by dag.TooMany = tt
    by (dag.NotFound place) = tt
    by (dag.NotADirectory place) = tt
    by (dag.Store s) = tt

pub no-file-of-reading : (path : DagPath) (why : Refusal) → IsToldAs (refusal.Dag (rule.IsADirectory path)) why → IsOfReading why
no-file-of-reading path why (inl is) = subst IsOfReading (sym is.0) tt
no-file-of-reading path why (inr is) = subst IsOfReading (sym is) tt

-- the store's own fault is the refusal's
pub same-fault : (path : DagPath) (f : DagFault) (hash : List ℕ → List ℕ) (a b : Seen) (why : Refusal) → IsToldAs (dag_refusal path f) why → Shown hash NoneIsBad (store_fault_of f) a b → Shown hash NoneIsBad (fault_behind why) a b
same-fault path f hash a b why (inl is) h = subst (λ w. Shown hash NoneIsBad (fault_behind w) a b) (sym is.0) (wants f is.1 h)
  where
    wants : (f : DagFault) → IsApart (dag_refusal path f) → Shown hash NoneIsBad (store_fault_of f) a b → Shown hash NoneIsBad (Some fault.Memory) a b
    wants (dag.NotUnixfs cid n) apart h = calm-memory a b h
    wants (dag.DuplicateName cid name) apart h = calm-memory a b h
    wants (dag.BadName cid) apart h = calm-memory a b h
    wants (dag.Unsupported cid) apart h = calm-memory a b h
    wants (dag.TooDeep cid) apart h = calm-memory a b h
    wants dag.TooMany apart h = calm-memory a b h
    wants (dag.NotFound place) apart h = calm-memory a b h
    wants (dag.NotADirectory place) apart h = calm-memory a b h
    wants (dag.Store s) apart h = absurd apart
same-fault path f hash a b why (inr is) h = subst (λ w. Shown hash NoneIsBad (fault_behind w) a b) (sym is) (by f h)
  where
    by : (f : DagFault) → Shown hash NoneIsBad (store_fault_of f) a b → Shown hash NoneIsBad (fault_behind (dag_refusal path f)) a b
    by (dag.NotUnixfs cid n) h = h
    by (dag.DuplicateName cid name) h = h
    by (dag.BadName cid) h = h
    by (dag.Unsupported cid) h = h
    by (dag.TooDeep cid) h = h
    by dag.TooMany h = h
    by (dag.NotFound place) h = h
    by (dag.NotADirectory place) h = h
    by (dag.Store s) h = h

pub no-file-fault : (path : DagPath) (hash : List ℕ → List ℕ) (a b : Seen) (why : Refusal) → IsToldAs (refusal.Dag (rule.IsADirectory path)) why → StaysCalm a b → Shown hash NoneIsBad (fault_behind why) a b
no-file-fault path hash a b why (inl is) h = subst (λ w. Shown hash NoneIsBad (fault_behind w) a b) (sym is.0) (calm-memory a b h)
no-file-fault path hash a b why (inr is) h = subst (λ w. Shown hash NoneIsBad (fault_behind w) a b) (sym is) h

-- ---- where a path leads

-- a fault of a reading is the refusal that it says, or the store's own
pub fault-found : (held : Lookup) (path : DagPath) (f : DagFault) (why : Refusal) → IsFault (tree_at held path) f → IsToldAs (dag_refusal path f) why → FindsFile held path (Err why)
fault-found held path f why said (inl is) = inl (subst IsOwnRefusal (sym is.0) tt)
fault-found held path f why (inr said) (inr is) = inr (ap (file_at path) said ∙ ap (λ (r : Refusal). Err r) (sym is))
fault-found held path f why (inl own) (inr is) = inl (subst IsOwnRefusal (sym is) (by f own))
  where
    by : (f : DagFault) → IsOwn f → IsOwnRefusal (dag_refusal path f)
    by (dag.NotUnixfs cid n) own = absurd own
    by (dag.DuplicateName cid name) own = absurd own
    by (dag.BadName cid) own = absurd own
    by (dag.Unsupported cid) own = absurd own
    by (dag.TooDeep cid) own = absurd own
    by dag.TooMany own = absurd own
    by (dag.NotFound place) own = absurd own
    by (dag.NotADirectory place) own = absurd own
    by (dag.Store s) own = own

-- a fault on the way is one of what the path leads to
pub way-fault : (held : Lookup) (path : DagPath) (f : DagFault) → IsFault (resolve_from held usual_limits 0 path.names path.cid) f → IsFault (tree_at held path) f
way-fault held path f (inl own) = inl own
way-fault held path f (inr said) = inr (ap (λ (r : Result Cid DagFault). r >>= λ c. denotes held usual_limits c) said)

module _ (held : Lookup) (path : DagPath) (cid : Cid) (resolved : resolve_from held usual_limits 0 path.names path.cid ≡ Ok cid) where
  tree-is : (t : Tree) → denotes held usual_limits cid ≡ Ok t → tree_at held path ≡ Ok t
  tree-is t denoted = ap (λ (r : Result Cid DagFault). r >>= λ c. denotes held usual_limits c) resolved ∙ denoted

  pub below-fault : (f : DagFault) → IsFault (denotes held usual_limits cid) f → IsFault (tree_at held path) f
  below-fault f (inl own) = inl own
  below-fault f (inr said) = inr (ap (λ (r : Result Cid DagFault). r >>= λ c. denotes held usual_limits c) resolved ∙ said)

  pub file-found : (meta : Meta) → IsRead held usual_limits cid (FileShape meta) → IsFileIn held path cid
  file-found meta read = by read.tree read.denoted
    where
      by : (t : Tree) → denotes held usual_limits cid ≡ Ok t → IsFileIn held path cid
      by t denoted =
          let step = denoted-step held usual_limits 256 cid t denoted in
          let same : step.shape ≡ FileShape meta = (let e : Ok step.shape ≡ Ok (FileShape meta) = sym step.shaped ∙ read.shaped in cc) in
          is-file t denoted (subst (λ s. DenotesBy held usual_limits 256 cid t s) same step.by)
        where
          is-file : (t : Tree) → denotes held usual_limits cid ≡ Ok t → DenotesBy held usual_limits 256 cid t (FileShape meta) → IsFileIn held path cid
          is-file (File m bytes) denoted file = record { meta = m; bytes = bytes; leads = tree-is (File m bytes) denoted; file = file.1 }
          is-file (Dir es) denoted file = absurd file

  pub folder-found : (meta : Meta) (ways : List (List ℕ × Cid)) (why : Refusal) → IsRead held usual_limits cid (FolderShape meta ways) → IsToldAs (refusal.Dag (rule.IsADirectory path)) why → FindsFile held path (Err why)
  folder-found meta ways why read (inl is) = inl (subst IsOwnRefusal (sym is.0) tt)
  folder-found meta ways why read (inr is) = by read.tree read.denoted
    where
      by : (t : Tree) → denotes held usual_limits cid ≡ Ok t → FindsFile held path (Err why)
      by t denoted =
          let step = denoted-step held usual_limits 256 cid t denoted in
          let same : step.shape ≡ FolderShape meta ways = (let e : Ok step.shape ≡ Ok (FolderShape meta ways) = sym step.shaped ∙ read.shaped in cc) in
          is-folder t denoted (subst (λ s. DenotesBy held usual_limits 256 cid t s) same step.by)
        where
          is-folder : (t : Tree) → denotes held usual_limits cid ≡ Ok t → DenotesBy held usual_limits 256 cid t (FolderShape meta ways) → FindsFile held path (Err why)
          is-folder (File m bytes) denoted folder = absurd folder
          is-folder (Dir es) denoted folder = inr (ap (file_at path) (tree-is (Dir es) denoted) ∙ ap (λ (r : Refusal). Err r) (sym is))

-- ---- what every answer of `cat` has

pub reading-kinds : (hash : List ℕ → List ℕ) (a b : Seen) (why : Refusal) → IsOfReading why → Shown hash NoneIsBad (fault_behind why) a b → may_close dag_kinds (refusal_kind why) ≡ true
reading-kinds hash a b (refusal.Rule r) of h = absurd of
reading-kinds hash a b (refusal.Dag r) of h = refl
reading-kinds hash a b (refusal.Car number place) of h = absurd of
reading-kinds hash a b (refusal.CarLacks cid) of h = absurd of
reading-kinds hash a b (refusal.OwnClash cid first second) of h = absurd of
reading-kinds hash a b (refusal.Host r) of h = absurd of
reading-kinds hash a b (refusal.BadPath p) of h = absurd of
reading-kinds hash a b refusal.InputTooLong of h = absurd of
reading-kinds hash a b refusal.BadPins of h = absurd of
reading-kinds hash a b refusal.Usage of h = absurd of
reading-kinds hash a b (refusal.Ready r) of h = absurd of
reading-kinds hash a b refusal.Read of h = absurd of
reading-kinds hash a b refusal.Write of h = absurd of
reading-kinds hash a b (refusal.Store fault.Failed) of h = refl
reading-kinds hash a b (refusal.Store (fault.Damaged cid)) of h = refl
reading-kinds hash a b (refusal.Store (fault.Missing cid)) of h = refl
reading-kinds hash a b (refusal.Store (fault.BadBlock cid role)) of h = absurd h.bad
reading-kinds hash a b (refusal.Store (fault.Clash cid first second)) of h = refl
reading-kinds hash a b (refusal.Store fault.Memory) of h = refl

pub no-blame : (hash : List ℕ → List ℕ) (a b : Seen) (why : Refusal) → IsOfReading why → Shown hash NoneIsBad (fault_behind why) a b → IsBlaming (fault_behind why) → ⊥
no-blame hash a b (refusal.Rule r) of h blames = of
no-blame hash a b (refusal.Dag r) of h blames = blames
no-blame hash a b (refusal.Car number place) of h blames = of
no-blame hash a b (refusal.CarLacks cid) of h blames = of
no-blame hash a b (refusal.OwnClash cid first second) of h blames = of
no-blame hash a b (refusal.Host r) of h blames = blames
no-blame hash a b (refusal.BadPath p) of h blames = of
no-blame hash a b refusal.InputTooLong of h blames = of
no-blame hash a b refusal.BadPins of h blames = of
no-blame hash a b refusal.Usage of h blames = of
no-blame hash a b (refusal.Ready r) of h blames = of
no-blame hash a b refusal.Read of h blames = of
no-blame hash a b refusal.Write of h blames = of
no-blame hash a b (refusal.Store fault.Failed) of h blames = blames
no-blame hash a b (refusal.Store (fault.Damaged cid)) of h blames = blames
no-blame hash a b (refusal.Store (fault.Missing cid)) of h blames = blames
no-blame hash a b (refusal.Store (fault.BadBlock cid role)) of h blames = h.bad
no-blame hash a b (refusal.Store (fault.Clash cid first second)) of h blames = blames
no-blame hash a b (refusal.Store fault.Memory) of h blames = blames

pub record IsPlain (command : Command) (told : Told) (l m : streams.Told) (i : ℕ) (why : Refusal) : Type 0 where
  pub other : refusal_kind why ≢ OfWrite
  pub ready : IsReadyBy told command why
  pub reads : Counts (is_read {A = Unit {0}} (Err why)) i i

pub plain-of : (command : Command) (told : Told) (l m : streams.Told) (i : ℕ) (why : Refusal) → IsOfReading why → IsPlain command told l m i why
plain-of command told l m i (refusal.Rule r) of = absurd of
plain-of command told l m i (refusal.Dag r) of = record { other = λ e. cc; ready = tt; reads = counts-still i }
plain-of command told l m i (refusal.Host r) of = absurd of
plain-of command told l m i (refusal.Car number place) of = absurd of
plain-of command told l m i (refusal.CarLacks cid) of = absurd of
plain-of command told l m i (refusal.OwnClash cid first second) of = absurd of
plain-of command told l m i (refusal.BadPath p) of = absurd of
plain-of path told l m i refusal.InputTooLong of = absurd of
plain-of path told l m i refusal.BadPins of = absurd of
plain-of path told l m i refusal.Usage of = absurd of
plain-of command told l m i (refusal.Ready r) of = absurd of
plain-of path told l m i refusal.Read of = absurd of
plain-of path told l m i refusal.Write of = absurd of
plain-of command told l m i (refusal.Store fault.Failed) of = record { other = λ e. cc; ready = tt; reads = counts-still i }
plain-of command told l m i (refusal.Store (fault.Damaged cid)) of = record { other = λ e. cc; ready = tt; reads = counts-still i }
plain-of command told l m i (refusal.Store (fault.Missing cid)) of = record { other = λ e. cc; ready = tt; reads = counts-still i }
plain-of command told l m i (refusal.Store (fault.BadBlock cid role)) of = record { other = λ e. cc; ready = tt; reads = counts-still i }
plain-of command told l m i (refusal.Store (fault.Clash cid first second)) of = record { other = λ e. cc; ready = tt; reads = counts-still i }
plain-of command told l m i (refusal.Store fault.Memory) of = record { other = λ e. cc; ready = tt; reads = counts-still i }

-- the store's own refusal is want of memory, where it stayed calm
pub own-wants : (hash : List ℕ → List ℕ) (a b : Seen) (why : Refusal) → IsOwnRefusal why → Shown hash NoneIsBad (fault_behind why) a b → Calm a b → why ≡ no_memory
own-wants hash a b (refusal.Rule r) own h calm = absurd own
own-wants hash a b (refusal.Dag r) own h calm = absurd own
own-wants hash a b (refusal.Car number place) own h calm = absurd own
own-wants hash a b (refusal.CarLacks cid) own h calm = absurd own
own-wants hash a b (refusal.OwnClash cid first second) own h calm = absurd own
own-wants hash a b (refusal.Host r) own h calm = absurd own
own-wants hash a b (refusal.BadPath p) own h calm = absurd own
own-wants hash a b refusal.InputTooLong own h calm = absurd own
own-wants hash a b refusal.BadPins own h calm = absurd own
own-wants hash a b refusal.Usage own h calm = absurd own
own-wants hash a b (refusal.Ready r) own h calm = absurd own
own-wants hash a b refusal.Read own h calm = absurd own
own-wants hash a b refusal.Write own h calm = absurd own
own-wants hash a b (refusal.Store fault.Failed) own h calm = absurd (not-rose a.faults b.faults h.rose calm.faults)
own-wants hash a b (refusal.Store (fault.Damaged cid)) own h calm = absurd (not-rose a.faults b.faults h.rose calm.faults)
own-wants hash a b (refusal.Store (fault.Missing cid)) own h calm = absurd own
own-wants hash a b (refusal.Store (fault.BadBlock cid role)) own h calm = absurd own
own-wants hash a b (refusal.Store (fault.Clash cid first second)) own h calm = absurd own
own-wants hash a b (refusal.Store fault.Memory) own h calm = refl

-- ---- how it is done

take-append : (xs ys : List ℕ) → take (length xs) (xs ++ ys) ≡ xs
take-append [] ys = refl
take-append (x ∷ xs) ys = ap (λ (l : List ℕ). x ∷ l) (take-append xs ys)

-- what a file's reading sent is a part of what `cat` prints
front-printed : (bytes front : List ℕ) (h h2 : streams.Told) → h2 ≡ after h front → IsFileFront front (Ok bytes) → AppendsPrefix bytes h h2
front-printed bytes front h h2 sent is = record {
  count = length front;
  fits = (let sizes = length-append front is.0 in let same = ap length is.1 in omega (arith, sizes, same));
  appended = sent ∙ ap (λ (l : List ℕ). after h l) (sym (ap (take (length front)) is.1 ∙ take-append front is.0));
}

pub tells-some : (told : Told) (h : Lookup) → TellsBlocks told h → TellsHeld told []
tells-some None h t = absurd t
tells-some (Some c) h t = tt

module _ (X : List ℕ → List ℕ) (N : List ℕ → ℕ) (path : DagPath) (a b : Seen) (same : b.told ≡ a.told) (l : streams.Told) (i : ℕ) (h h2 : streams.Told) (w w2 t0 t1 : ℕ) (side : HostSide) (er er2 : SinkSide) where
  -- what the reading says of what is printed
  abbrev said : Lookup → Result (List ℕ) Refusal
  said held = file_at path (tree_at held path)

  by-told : (A : Lookup → Type 0) (held : Lookup) → TellsBlocks a.told held → IfSome a.told (λ t. A (held_at t)) → A held
  by-told A held tells h = by a.told tells h
    where
      by : (told : Told) → TellsBlocks told held → IfSome told (λ t. A (held_at t)) → A held
      by None tells h = absurd tells
      by (Some t) tells h = subst A (sym tells) h

  still-tells : (held : Lookup) → TellsBlocks a.told held → IsSome b.told
  still-tells held tells = subst IsSome (sym same) (by a.told tells)
    where
      by : (told : Told) → TellsBlocks told held → IsSome told
      by None tells = absurd tells
      by (Some t) tells = refl

  -- a refusal: the reading's, and then nothing is printed, or the store's own
  pub cat-refused : (why : Refusal) → IfSome a.told (λ t. IsOwnRefusal why ⊎ ((said (held_at t) ≡ Err why) × (h2 ≡ h))) → IfSome a.told (λ t. PrintsPart (said (held_at t)) h h2)
      → (bytes : List ℕ) → h2 ≡ after h bytes → IsOfReading why → Shown X NoneIsBad (fault_behind why) a b → w2 ≡ w → Does X N (Cat path) (Err why) (around a l i h w t0 side er) (around b l i h2 w2 t1 side er2)
  cat-refused why says part bytes sent of cause still =
      let plain = plain-of (Cat path) a.told l l i why of in
      let quiet = quiet-of (λ text. ⊤) true why plain.other in
      record {
        answers = λ world finds input calm. answered world finds.held calm.store (by-told (λ held. IsOwnRefusal why ⊎ ((said held ≡ Err why) × (h2 ≡ h))) world.held finds.held says);
        lost = λ p es rows held bs named tells heights input calm. over p es held bs named calm.store (by-told (λ held. IsOwnRefusal why ⊎ ((said held ≡ Err why) × (h2 ≡ h))) held tells says);
        unprinted = λ world after. absurd cc;
        unprinted_over = λ p es held outside after. absurd cc;
        prefix = λ world finds input room. by-told (λ held. PrintsPart (said held) h h2) world.held finds.held part;
        prints = quiet.prints h h2 (bytes, sent);
        kinds = reading-kinds X a b why of cause;
        ready = plain.ready;
        long = tt;
        reads = plain.reads;
        host = refl;
        gets = tt;
        pins = tt;
        kept = tt;
        writes = subst (λ f. RisesFor f w w2) (sym quiet.unwritten) (record { rose = λ e. absurd cc; still = λ e. still });
        cause = shown-by X NoneIsBad (IsBadIn X N a.told b.told) (fault_behind why) a b (λ role bytes bad. absurd bad) cause;
        whole = λ s needs stands calm. absurd cc;
        touches = λ p es bs rows named input heights calm. tt;
        touched = λ blames. absurd (no-blame X a b why of cause blames);
        unready = λ e is. absurd cc;
        unplaced = λ p es names stood none. absurd none;
        leaves = record { head = ap head_in same; writes = same; idle = λ p es bs stands calm is. absurd cc };
      }
    where
      answered : (world : World) → TellsBlocks a.told world.held → Calm a b → IsOwnRefusal why ⊎ ((said world.held ≡ Err why) × (h2 ≡ h)) → DoesAnswer X N (Cat path) world (Err why) h h2 b.told side.told
      answered world tells calm (inl own) = inl (record { ends_are = ap (λ (r : Refusal). Err r) (own-wants X a b why own cause calm); stands = still-tells world.held tells })
      answered world tells calm (inr is) = inr (record { ends = subst (λ e. EndsBy e (Err why) h h2) (sym is.0) (refl, is.1); stands = still-tells world.held tells; blocks = subst (λ t. TellsHeld t []) (sym same) (tells-some a.told world.held tells) }, tt)

      over : (p : Profile) (es : Entries) (held : Lookup) (bs : Outside) → StaysNamed X N a.told b.told p es → Calm a b → IsOwnRefusal why ⊎ ((said held ≡ Err why) × (h2 ≡ h)) → DoesOver X N a.told b.told p es [] (reply X N (Cat path) (in_world p es held bs)) (Err why) h h2
      over p es held bs named calm (inl own) = inl (record { fault = fault.Memory; ends_are = ap (λ (r : Refusal). Err r) (own-wants X a b why own cause calm); loss = tt; stands = names-same X N a.told b.told p es same named })
      over p es held bs named calm (inr is) = inr (record { ends = subst (λ e. EndsBy e (Err why) h h2) (sym is.0) (refl, is.1); stands = names-same X N a.told b.told p es same named })

  -- the whole file was sent
  pub cat-sent : IfSome a.told (λ t. (bytes : List ℕ) × (said (held_at t) ≡ Ok bytes) × (h2 ≡ after h bytes)) → (bytes : List ℕ) → h2 ≡ after h bytes → StaysCalm a b → w2 ≡ w
      → Does X N (Cat path) (Ok tt) (around a l i h w t0 side er) (around b l i h2 w2 t1 side er2)
  cat-sent says bytes sent calm still = record {
    answers = λ world finds input quiet. answered world finds.held (by-told (λ held. (bytes : List ℕ) × (said held ≡ Ok bytes) × (h2 ≡ after h bytes)) world.held finds.held says);
    lost = λ p es rows held bs named tells heights input quiet. over p es held bs named (by-told (λ held. (bytes : List ℕ) × (said held ≡ Ok bytes) × (h2 ≡ after h bytes)) held tells says);
    unprinted = λ world after. absurd cc;
    unprinted_over = λ p es held outside after. absurd cc;
    prefix = λ world finds input room. whole world.held (by-told (λ held. (bytes : List ℕ) × (said held ≡ Ok bytes) × (h2 ≡ after h bytes)) world.held finds.held says);
    prints = (bytes, tt, sent);
    kinds = tt;
    ready = tt;
    long = tt;
    reads = counts-still i;
    host = refl;
    gets = tt;
    pins = tt;
    kept = tt;
    writes = record { rose = λ e. absurd cc; still = λ e. still };
    cause = calm;
    whole = λ s needs stands quiet. absurd cc;
    touches = λ p es bs rows named input heights quiet. tt;
    touched = λ blames. absurd blames;
    unready = λ e is. absurd cc;
    unplaced = λ p es names stood none. absurd none;
    leaves = record { head = tt; writes = same; idle = λ p es bs stands quiet is. absurd cc };
  }
    where
      answered : (world : World) → TellsBlocks a.told world.held → (bytes : List ℕ) × (said world.held ≡ Ok bytes) × (h2 ≡ after h bytes) → DoesAnswer X N (Cat path) world (Ok tt) h h2 b.told side.told
      answered world tells is = inr (record { ends = subst (λ e. EndsBy e (Ok tt) h h2) (sym is.1) (refl, is.2); stands = still-tells world.held tells; blocks = subst (λ t. TellsHeld t []) (sym same) (tells-some a.told world.held tells) }, tt)

      over : (p : Profile) (es : Entries) (held : Lookup) (bs : Outside) → StaysNamed X N a.told b.told p es → (bytes : List ℕ) × (said held ≡ Ok bytes) × (h2 ≡ after h bytes) → DoesOver X N a.told b.told p es [] (reply X N (Cat path) (in_world p es held bs)) (Ok tt) h h2
      over p es held bs named is = inr (record { ends = subst (λ e. EndsBy e (Ok tt) h h2) (sym is.1) (refl, is.2); stands = names-same X N a.told b.told p es same named })

      whole : (held : Lookup) → (bytes : List ℕ) × (said held ≡ Ok bytes) × (h2 ≡ after h bytes) → PrintsPart (said held) h h2
      whole held is = subst (λ e. PrintsPart e h h2) (sym is.1) (whole-printed is.0 h h2 is.2)

  -- the output failed
  pub cat-cut : IfSome a.told (λ t. PrintsPart (said (held_at t)) h h2) → (bytes : List ℕ) → h2 ≡ after h bytes → StaysCalm a b → Counts true w w2
      → Does X N (Cat path) (Err refusal.Write) (around a l i h w t0 side er) (around b l i h2 w2 t1 side er2)
  cat-cut part bytes sent calm counts = record {
    answers = λ world finds input quiet. absurd (not-rose w w2 (counts.rose refl) quiet.written.output);
    lost = λ p es rows held bs named tells heights input quiet. absurd (not-rose w w2 (counts.rose refl) quiet.written.output);
    unprinted = λ world after. absurd cc;
    unprinted_over = λ p es held outside after. absurd cc;
    prefix = λ world finds input room. by-told (λ held. PrintsPart (said held) h h2) world.held finds.held part;
    prints = (bytes, tt, whole-printed bytes h h2 sent);
    kinds = refl;
    ready = tt;
    long = tt;
    reads = counts-still i;
    host = refl;
    gets = tt;
    pins = tt;
    kept = tt;
    writes = record { rose = counts.rose; still = λ e. absurd cc };
    cause = calm;
    whole = λ s needs stands quiet. absurd cc;
    touches = λ p es bs rows named input heights quiet. tt;
    touched = λ blames. absurd blames;
    unready = λ e is. absurd cc;
    unplaced = λ p es names stood none. absurd none;
    leaves = record { head = ap head_in same; writes = same; idle = λ p es bs stands quiet is. absurd cc };
  }

-- ---- the stream of a file that was found

module _ (path : DagPath) (told : Told) (cid : Cid) (h h2 : streams.Told) (found : IfSome told (λ t. FindsFile (held_at t) path (Ok cid))) where
  pub all-said : (count : ℕ) → IfSome told (λ t. Streams (file_of (held_at t) usual_limits cid) h h2 (Ok count))
      → IfSome told (λ t. (bytes : List ℕ) × (file_at path (tree_at (held_at t) path) ≡ Ok bytes) × (h2 ≡ after h bytes))
  all-said count streamed = by told found streamed
    where
      by : (told : Told) → IfSome told (λ t. FindsFile (held_at t) path (Ok cid)) → IfSome told (λ t. Streams (file_of (held_at t) usual_limits cid) h h2 (Ok count))
          → IfSome told (λ t. (bytes : List ℕ) × (file_at path (tree_at (held_at t) path) ≡ Ok bytes) × (h2 ≡ after h bytes))
      by None found streamed = tt
      by (Some t) found streamed =
          let same : found.bytes ≡ streamed.bytes = (let e : Ok found.bytes ≡ Ok streamed.bytes = sym found.file ∙ streamed.is in cc) in
          (found.bytes, ap (file_at path) found.leads, streamed.sent ∙ ap (λ (l : List ℕ). after h l) (sym same))

  pub part-said : (front : List ℕ) → h2 ≡ after h front → IfSome told (λ t. IsFileFront front (file_of (held_at t) usual_limits cid)) → IfSome told (λ t. PrintsPart (file_at path (tree_at (held_at t) path)) h h2)
  part-said front sent is = by told found is
    where
      by : (told : Told) → IfSome told (λ t. FindsFile (held_at t) path (Ok cid)) → IfSome told (λ t. IsFileFront front (file_of (held_at t) usual_limits cid)) → IfSome told (λ t. PrintsPart (file_at path (tree_at (held_at t) path)) h h2)
      by None found is = tt
      by (Some t) found is =
          subst (λ e. PrintsPart e h h2) (sym (ap (file_at path) found.leads)) (front-printed found.bytes front h h2 sent (subst (IsFileFront front) found.file is))

  -- only the store's own fault comes then
  pub own-said : (f : DagFault) (why : Refusal) → IsToldAs (dag_refusal path f) why → IfSome told (λ t. Streams (file_of (held_at t) usual_limits cid) h h2 (Err (stream.Dag f)))
      → IfSome told (λ t. IsOwnRefusal why ⊎ ((file_at path (tree_at (held_at t) path) ≡ Err why) × (h2 ≡ h)))
  own-said f why is streamed = by told found streamed
    where
      own : (held : Lookup) → FindsFile held path (Err why) → (m : Meta) (bytes : List ℕ) → tree_at held path ≡ Ok (File m bytes) → IsOwnRefusal why
      own held (inl o) m bytes leads = o
      own held (inr said) m bytes leads = absurd (let e : Ok bytes ≡ Err why = sym (ap (file_at path) leads) ∙ said in cc)

      by : (told : Told) → IfSome told (λ t. FindsFile (held_at t) path (Ok cid)) → IfSome told (λ t. Streams (file_of (held_at t) usual_limits cid) h h2 (Err (stream.Dag f)))
          → IfSome told (λ t. IsOwnRefusal why ⊎ ((file_at path (tree_at (held_at t) path) ≡ Err why) × (h2 ≡ h)))
      by None found streamed = tt
      by (Some t) found (inl o) = inl (own (held_at t) (fault-found (held_at t) path f why (inl o) is) found.meta found.bytes found.leads)
      by (Some t) found (inr said) = absurd (let e : Ok found.bytes ≡ Err f = sym found.file ∙ said in cc)

-- ---- over what a store tells

-- what is found by the good blocks of a store, and then by its blocks, is found by its blocks
module _ (X : List ℕ → List ℕ) (told later : Told) (same : later ≡ told) (path : DagPath) where
  both_told : (A B C : Lookup → Type 0) → ((held : Lookup) → A held → B held → C held) → ByGoodBlocks X told A → IfSome later (λ t. B (held_at t)) → IfSome told (λ t. C (held_at t))
  both_told A B C f first then = by told first (subst (λ o. IfSome o (λ t. B (held_at t))) same then)
    where
      by : (told : Told) → ByGoodBlocks X told A → IfSome told (λ t. B (held_at t)) → IfSome told (λ t. C (held_at t))
      by None a b = tt
      by (Some t) a b = f (held_at t) (a (held_at t) (record { holds = λ c block is same. is; misses = λ c none. none })) b

  module _ (cid : Cid) (leads : ByGoodBlocks X told (λ held. FindsWay held path (Ok cid))) where
    pub below-file : (f : DagFault) (why : Refusal) → IfSome later (λ t. IsFault (denotes (held_at t) usual_limits cid) f) → IsToldAs (dag_refusal path f) why → IfSome told (λ t. FindsFile (held_at t) path (Err why))
    below-file f why said is =
        both_told (λ held. LeadsTo held path cid) (λ held. IsFault (denotes held usual_limits cid) f) (λ held. FindsFile held path (Err why)) (λ held led fault. fault-found held path f why (below-fault held path cid led f fault) is) leads said

    pub file-told : (meta : Meta) → IfSome later (λ t. IsRead (held_at t) usual_limits cid (FileShape meta)) → IfSome told (λ t. FindsFile (held_at t) path (Ok cid))
    file-told meta read =
        both_told (λ held. LeadsTo held path cid) (λ held. IsRead held usual_limits cid (FileShape meta)) (λ held. FindsFile held path (Ok cid)) (λ held led is. file-found held path cid led meta is) leads read

    pub folder-told : (meta : Meta) (ways : List (List ℕ × Cid)) (why : Refusal) → IfSome later (λ t. IsRead (held_at t) usual_limits cid (FolderShape meta ways)) → IsToldAs (refusal.Dag (rule.IsADirectory path)) why
        → IfSome told (λ t. FindsFile (held_at t) path (Err why))
    folder-told meta ways why read is =
        both_told (λ held. LeadsTo held path cid) (λ held. IsRead held usual_limits cid (FolderShape meta ways)) (λ held. FindsFile held path (Err why)) (λ held led read. folder-found held path cid led meta ways why read is) leads read

-- a path that leads to no tree leads to no file
pub no-way : (X : List ℕ → List ℕ) (told : Told) (path : DagPath) (why : Refusal) → ByGoodBlocks X told (λ held. FindsWay held path (Err why)) → IfSome told (λ t. FindsFile (held_at t) path (Err why))
no-way X None path why found = tt
no-way X (Some t) path why found = by (found (held_at t) (record { holds = λ c block is same. is; misses = λ c none. none }))
  where
    said : (r : Result Tree DagFault) → by_dag path r ≡ Err why → file_at path r ≡ Err why
    said (Ok t) is = absurd cc
    said (Err f) is = (let e : dag_refusal path f ≡ why = cc in ap (λ (r : Refusal). Err r) e)

    by : FindsWay (held_at t) path (Err why) → FindsFile (held_at t) path (Err why)
    by (inl own) = inl own
    by (inr is) = inr (said (tree_at (held_at t) path) is)

-- what is found so is said so, and nothing is printed
pub refusal-told : (told : Told) (path : DagPath) (why : Refusal) (h : streams.Told) → IfSome told (λ t. FindsFile (held_at t) path (Err why)) → IfSome told (λ t. IsOwnRefusal why ⊎ ((file_at path (tree_at (held_at t) path) ≡ Err why) × (h ≡ h)))
refusal-told None path why h found = tt
refusal-told (Some t) path why h (inl own) = inl own
refusal-told (Some t) path why h (inr said) = inr (said, refl)

pub nothing-told : (told : Told) (path : DagPath) (h : streams.Told) → IfSome told (λ t. PrintsPart (file_at path (tree_at (held_at t) path)) h h)
nothing-told None path h = tt
nothing-told (Some t) path h = nothing-printed (file_at path (tree_at (held_at t) path)) h h refl

pub told-back : (A : Lookup → Type 0) (a m : Told) → m ≡ a → IfSome m (λ t. A (held_at t)) → IfSome a (λ t. A (held_at t))
told-back A a m same h = subst (λ o. IfSome o (λ t. A (held_at t))) same h
