-- What is bad by one judge and by another.
use Rattle.std.proofs.Common.{◌≡◌, ℕ, List, ap, subst, sym, ◌∙◌, Option, Some, None, true, false, refl}
use Rattle.std.proofs.lemmas.Bool.{false≢true}
use Rattle.std.specs.Prelude.{IfOk, IfSome}
use Rattle.std.specs.declared.result.Result.{Result}
use Rattle.std.specs.declared.result.Result.TheVariants.{Ok, Err}
use Rattle.uf_cid.specs.declared.cid.Cid.{Cid}
use Rattle.uf_store.specs.declared.store.Role.{Role}
use Rattle.uf_store.specs.declared.store.Role.TheVariants.{Directory, Shard, FileNode, Leaf}
use Rattle.uf_store.specs.declared.store.StoreFault.{StoreFault}
use Rattle.uf_store.specs.declared.store.StoreFault.TheVariants.{Failed, Damaged, Missing, BadBlock, Clash, Memory}
use Rattle.uf_store.specs.Contents.{Told}
use Rattle.uf_store.specs.Faults.{Shown, Shows, StaysCalm}
use Rattle.uf_store.specs.Seen.{Seen}
use Rattle.uf_store.proofs.Calls.{shown-by}
use Rattle.uf_store.proofs.Causes.{Shows-after, StaysCalm-trans, calm-memory}
use Rattle.uf_tree.specs.declared.nodes.Entry.{Entry}
use Rattle.uf_tree.specs.declared.profile.Head.{Head}
use Rattle.uf_tree.specs.declared.profile.Profile.{Profile}
use Rattle.uf_tree.specs.Roles.{IsCanonicalDirectory, Basic, Sharded, FileRoot}
use Rattle.uf_dir.specs.Bad as dirs
use Rattle.uf_dir.specs.Bad.{BlamesOnly}
use Rattle.uf_dir.specs.Roots.{IsNoRoot, IsRootCid, IsRootUnder}
use Rattle.uf_mfs.specs.declared.fault.MfsFault.{MfsFault}
use Rattle.uf_mfs.specs.declared.fault.MfsFault.TheVariants as fault
use Rattle.uf_mfs.specs.declared.fault.Stop.{Stop}
use Rattle.uf_mfs.specs.declared.fault.Stop.TheVariants as stop
use Rattle.uf_mfs.specs.Answers.{ShownInTree, Tells}
use Rattle.uf_mfs.specs.Steps.{stop_fault}
use Rattle.uf_mfs.specs.Bad.{IsBad, IsBadInHead, IsBadInTree, IsHeadTold, IsBadUnder, IsRequired, RequiresDirectory, AtRoot, AsMet}
use Rattle.uf_mfs.specs.declared.thing.Thing.{Thing}
use Rattle.uf_mfs.specs.declared.thing.Thing.TheVariants.{File as FileAt, Folder as FolderAt}
use Rattle.uf_mfs.specs.declared.target.MoveTarget.{MoveTarget}
use Rattle.uf_mfs.specs.Moving.{folder_there}

-- what is bad without a profile is bad with one
unweighed : (profile : Option Profile) (bytes : List ℕ) → IsCanonicalDirectory profile true bytes → IsCanonicalDirectory None true bytes
unweighed profile bytes (Basic b) = Basic (record { meta = b.meta; pairs = b.pairs; good = b.good; valid = b.valid; light = tt; is = b.is })
unweighed profile bytes (Sharded s) = Sharded s
unweighed profile bytes (FileRoot e n) = FileRoot e n

pub bad-more : (N : List ℕ → ℕ) (p : Profile) (role : Role) (bytes : List ℕ) → IsBad N None role bytes → IsBad N (Some p) role bytes
bad-more N p Directory bytes bad = λ c. bad (unweighed (Some p) bytes c)
bad-more N p (Shard level) bytes bad = bad
bad-more N p FileNode bytes bad = bad
bad-more N p Leaf bytes bad = bad

-- a directory's root is canonical where a file's may be too
as_kind : (profile : Option Profile) (bytes : List ℕ) → IsCanonicalDirectory profile true bytes → IsCanonicalDirectory None false bytes
as_kind profile bytes (Basic b) = Basic (record { meta = b.meta; pairs = b.pairs; good = b.good; valid = b.valid; light = tt; is = b.is })
as_kind profile bytes (Sharded s) = Sharded s
as_kind profile bytes (FileRoot e n) = absurd (false≢true (sym e))

module _ (X : List ℕ → List ℕ) (N : List ℕ → ℕ) where
  -- ---- what is bad in a tree

  pub tree-more : (p : Profile) (root : Cid) (role : Role) (bytes : List ℕ) → IsBadInTree X N None root role bytes → IsBadInTree X N (Some p) root role bytes
  tree-more p root role bytes h = record { bad = bad-more N p role bytes h.bad; required = h.required }

  -- where neither a directory nor a file is canonical
  pub root-bad : (profile : Option Profile) (root : Cid) (role : Role) (bytes : List ℕ) → dirs.IsBadRoot role bytes → IsBadInTree X N profile root role bytes
  root-bad profile root Directory bytes h = record { bad = λ c. h (as_kind profile bytes c); required = λ is node. absurd (h (FileRoot refl node)) }
  root-bad profile root (Shard level) bytes h = absurd h
  root-bad profile root FileNode bytes h = absurd h
  root-bad profile root Leaf bytes h = absurd h

  -- ---- below a directory that is required

  pub requires-below : (root below : Cid) (digest : List ℕ) → RequiresDirectory X root below.digest → RequiresDirectory X below digest → RequiresDirectory X root digest
  requires-below root below digest r (AtRoot is) = subst (RequiresDirectory X root) (sym is) r
  requires-below root below digest r (AsMet block is canonical) = AsMet block is canonical

  pub bad-below : (profile : Option Profile) (root below : Cid) → RequiresDirectory X root below.digest → (role : Role) (bytes : List ℕ) → IsBadInTree X N profile below role bytes → IsBadInTree X N profile root role bytes
  bad-below profile root below r role bytes h = record { bad = h.bad; required = λ is node. requires-below root below (X bytes) r (h.required is node) }

  pub required-below : (root below : Cid) (thing : Thing) → RequiresDirectory X root below.digest → IsRequired X below thing → IsRequired X root thing
  required-below root below (FileAt e size) r h = tt
  required-below root below (FolderAt e links) r h = requires-below root below e.cid.digest r h

  pub member-below : (root below : Cid) (found : Option Thing) → RequiresDirectory X root below.digest → IfSome found (IsRequired X below) → IfSome found (IsRequired X root)
  member-below root below None r h = tt
  member-below root below (Some thing) r h = required-below root below thing r h

  pub target-below : (root below : Cid) (r : Result MoveTarget MfsFault) → RequiresDirectory X root below.digest → IfOk r (λ (t : MoveTarget). IfSome t.there (IsRequired X below)) → IfOk r (λ (t : MoveTarget). IfSome t.there (IsRequired X root))
  target-below root below (Ok t) r h = member-below root below t.there r h
  target-below root below (Err f) r h = tt

  -- the folder that is there
  pub folder-required : (root : Cid) (there : Option Thing) (e : Entry) → folder_there there ≡ Some e → IfSome there (IsRequired X root) → RequiresDirectory X root e.cid.digest
  folder-required root None e is h = absurd cc
  folder-required root (Some (FileAt f size)) e is h = absurd cc
  folder-required root (Some (FolderAt f links)) e is h = let same : f ≡ e = cc in subst (λ (x : Entry). RequiresDirectory X root x.cid.digest) same h

  pub under-bad : (profile : Option Profile) (root : Cid) (thing : Thing) → IsRequired X root thing → (role : Role) (bytes : List ℕ) → IsBadUnder X N profile thing role bytes → IsBadInTree X N profile root role bytes
  under-bad profile root (FileAt e size) r role bytes h = absurd h
  under-bad profile root (FolderAt e links) r role bytes h = bad-below profile root e.cid r role bytes h

  -- what a look at an entry met
  pub met-required : (root : Cid) (told : Told) (e : Entry) (bytes : List ℕ) → IsRootUnder X told e.cid bytes → RequiresDirectory X root e.cid.digest
  met-required root told e bytes h = AsMet bytes h.digest h.canonical

  -- what an edit or the making of a directory answered
  pub made-required : (profile : Option Profile) (root cid : Cid) → IsRootCid X profile cid → RequiresDirectory X root cid.digest
  made-required profile root cid h = AsMet h.block (sym (ap (λ (c : Cid). c.digest) h.same)) (unweighed profile h.block h.canonical)

  -- ---- the root of a directory that is opened

  root-unread : (role : Role) (bytes : List ℕ) → IsNoRoot None true role bytes → IsBad N None role bytes
  root-unread Directory bytes h = h
  root-unread (Shard level) bytes h = absurd h
  root-unread FileNode bytes h = absurd h
  root-unread Leaf bytes h = absurd h

  -- what is bad in the tree of the Head that was read
  pub head-bad : (told : Told) (head : Head) → IsHeadTold told head → (role : Role) (bytes : List ℕ) → IsBadInTree X N None head.root role bytes → IsBadInHead X N told role bytes
  head-bad told head is role bytes h = record { head = head; is_told = is; bad = h }

  -- ---- what a directory's call blames

  pub shown-at : (Bad : Role → List ℕ → Type 0) (profile : Option Profile) (root : Cid) (f : Option StoreFault) (a b : Seen) → ((role : Role) (bytes : List ℕ) → Bad role bytes → IsBad N profile role bytes)
      → BlamesOnly root f → Shown X Bad f a b → Shown X (IsBadInTree X N profile root) f a b
  shown-at Bad profile root None a b more blames h = h
  shown-at Bad profile root (Some Failed) a b more blames h = h
  shown-at Bad profile root (Some (Damaged cid)) a b more blames h = h
  shown-at Bad profile root (Some (Missing cid)) a b more blames h = h
  shown-at Bad profile root (Some (BadBlock cid role)) a b more blames h = record {
    rose = h.rose;
    digest = h.digest;
    is_held = h.is_held;
    bad = record { bad = more role b.lent h.bad; required = λ is node. AtRoot (h.digest ∙ ap (λ (c : Cid). c.digest) (blames cid (ap (λ (r : Role). Some (BadBlock cid r)) is))) };
    calm = h.calm;
  }
  shown-at Bad profile root (Some (Clash cid held bytes)) a b more blames h = h
  shown-at Bad profile root (Some Memory) a b more blames h = h

  pub shown-root : (root : Cid) (f : Option StoreFault) (a b : Seen) → BlamesOnly root f → Shown X (IsNoRoot None true) f a b → Shown X (IsBadInTree X N None root) f a b
  shown-root root f a b blames h = shown-at (IsNoRoot None true) None root f a b root-unread blames h

-- what one judge calls bad in a call on an opened tree, another does too
pub in-tree-by : {A : Type 0} (X : List ℕ → List ℕ) (P Q : Role → List ℕ → Type 0) (r : Result A MfsFault) (a b : Seen) → ((role : Role) (bytes : List ℕ) → P role bytes → Q role bytes)
    → ShownInTree X P r a b → ShownInTree X Q r a b
in-tree-by X P Q (Ok x) a b more h = h
in-tree-by X P Q (Err (fault.Rule rule)) a b more h = h
in-tree-by X P Q (Err (fault.Ready ready)) a b more h = h
in-tree-by X P Q (Err fault.Sink) a b more h = h
in-tree-by X P Q (Err (fault.Store f)) a b more h = shown-by X P Q (Some f) a b more h

-- a call behind one that kept calm
pub in-tree-after : {A : Type 0} (X : List ℕ → List ℕ) (P : Role → List ℕ → Type 0) (r : Result A MfsFault) (a b c : Seen) → StaysCalm a b → ShownInTree X P r b c → ShownInTree X P r a c
in-tree-after X P (Ok x) a b c calm h = StaysCalm-trans a b c calm h
in-tree-after X P (Err (fault.Rule rule)) a b c calm h = StaysCalm-trans a b c calm h
in-tree-after X P (Err (fault.Ready ready)) a b c calm h = h
in-tree-after X P (Err fault.Sink) a b c calm h = h
in-tree-after X P (Err (fault.Store f)) a b c calm h = Shows-after X P f a b c calm h

-- a step that stopped, told with a path
pub in-tree-told : (A B : Type 0) (X : List ℕ → List ℕ) (P : Role → List ℕ → Type 0) (names : List (List ℕ)) (s : Stop) (f : MfsFault) (a b : Seen) → Tells names s f
    → Shown X P (stop_fault {A = A} (Err s)) a b → ShownInTree X P {A = B} (Err f) a b
in-tree-told A B X P names (stop.Refused why) (fault.Rule rule) a b t h = h
in-tree-told A B X P names (stop.Refused why) (fault.Ready ready) a b t h = absurd t
in-tree-told A B X P names (stop.Refused why) fault.Sink a b t h = absurd t
in-tree-told A B X P names (stop.Refused why) (fault.Store f) a b t h = subst (λ (f : StoreFault). Shows X P f a b) (sym t) (calm-memory a b h)
in-tree-told A B X P names (stop.Store g) f a b t h = subst (λ (f : MfsFault). ShownInTree X P {A = B} (Err f) a b) (sym t) h
