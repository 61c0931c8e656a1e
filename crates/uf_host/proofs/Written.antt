-- What of a denoted tree is put on a host.
use Rattle.std.proofs.Common.{◌≡◌, inl, inr, ℕ, zero, suc, ◌-◌, ◌≤◌, List, [], ◌∷◌, refl, sym, ap, subst, ◌∙◌, arith, Result, Ok, Err}
use Rattle.std.specs.Prelude.{IfSome, None, Some}
use Rattle.std.specs.FinMap.{insert}
use Rattle.uf_cid.specs.Blocks.{Lookup}
use Rattle.uf_cid.specs.declared.cid.Cid.{Cid}
use Rattle.uf_edge.specs.Host.{HostTold, host_changed}
use Rattle.uf_edge.specs.declared.host.Place.TheVariants.{Folder}
use Rattle.uf_lenient.specs.Answers.{FollowsReading, IsFault, IsOwn, IsStoreOwn, store_fault_of}
use Rattle.uf_lenient.specs.Denoted.{AreDenoted, DenotesBy, IsStep, denotes_within}
use Rattle.uf_lenient.specs.Reading.{file_of, shallow_of}
use Rattle.uf_lenient.specs.declared.fault.DagFault.{DagFault}
use Rattle.uf_lenient.specs.declared.fault.DagFault.TheVariants as dag
use Rattle.uf_lenient.specs.declared.shapes.Limits.{Limits}
use Rattle.uf_lenient.specs.declared.shapes.Shape.{Shape}
use Rattle.uf_lenient.specs.declared.shapes.Shape.TheVariants.{File as FileShape, Folder as FolderShape}
use Rattle.uf_lenient.proofs.Denoting.{denoted-step, none-denoted}
use Rattle.uf_store.specs.Calls.{OnlyReads}
use Rattle.uf_store.specs.Contents.{Contents, Told}
use Rattle.uf_store.specs.Faults.{NoneIsBad}
use Rattle.uf_store.specs.Seen.{Seen}
use Rattle.uf_store.proofs.Causes.{calm-memory}
use Rattle.uf_tree.specs.Tree.{Dir, Entries, File, Tree}
use Rattle.uf_tree.specs.declared.meta.Meta.{Meta}
use Rattle.uf_host.specs.Faults.{edge_fault, fault_of_reading}
use Rattle.uf_host.specs.Places.{ChangesAt, ChangesIn, IsBelow, IsOfHost, Puts, PutsFile, PutAt, StopsWriting, places_in, places_of, with_places}
use Rattle.uf_host.specs.declared.fault.HostFault.{HostFault}
use Rattle.uf_host.specs.declared.fault.HostFault.TheVariants as faults
use Rattle.uf_host.proofs.Puttings.{changes-both, changes-more, changes-one, part-behind, part-none, puts-both}

-- what is said where a store tells
pub says-of : (told : Told) (t : Contents) (P : Contents → Type 0) → told ≡ Some t → IfSome told P → P t
says-of None t P is says = absurd (let no : None ≡ Some t = is in cc)
says-of (Some u) t P is says = subst P (let same : u ≡ t = cc in same) says

-- what a reading that has a value may fail with is the store's own
own-fault : {A : Type 0} (said : Result A DagFault) (a : A) (fault : DagFault) → said ≡ Ok a → IsFault said fault → IsOwn fault
own-fault said a fault is (inl own) = own
own-fault said a fault is (inr e) = absurd (let no : Ok a ≡ Err fault = sym is ∙ e in cc)

pub own-stops : (fault : DagFault) → IsOwn fault → StopsWriting (fault_of_reading fault)
own-stops (dag.Store fault) own = own
own-stops other own = absurd own

-- a fault of a reading shows its cause as a fault of the host's call
pub reading-shown : (hash : List ℕ → List ℕ) (fault : DagFault) (a b : Seen) → OnlyReads hash NoneIsBad (store_fault_of fault) a b → OnlyReads hash NoneIsBad (edge_fault {A = Unit {0}} (Err (fault_of_reading fault))) a b
reading-shown hash (dag.Store fault) a b h = h
reading-shown hash (dag.NotUnixfs cid why) a b h = h
reading-shown hash (dag.DuplicateName cid name) a b h = h
reading-shown hash (dag.BadName cid) a b h = h
reading-shown hash (dag.Unsupported cid) a b h = h
reading-shown hash (dag.TooDeep cid) a b h = h
reading-shown hash dag.TooMany a b h = h
reading-shown hash (dag.NotFound place) a b h = h
reading-shown hash (dag.NotADirectory place) a b h = h

-- what a host answers by itself stops the writing, and shows nothing of the store
pub host-stops : (why : HostFault) → IsOfHost why → StopsWriting why
host-stops faults.Write own = tt
host-stops (faults.Store fault) own = subst IsStoreOwn (sym own) tt
host-stops faults.Absent own = absurd own
host-stops faults.NeedsRecursive own = absurd own
host-stops (faults.Other path) own = absurd own
host-stops faults.Exists own = absurd own
host-stops (faults.Name path) own = absurd own
host-stops (faults.TooDeep path) own = absurd own
host-stops (faults.FileTooLong path) own = absurd own
host-stops (faults.Collision x y) own = absurd own
host-stops faults.TooBig own = absurd own
host-stops faults.Read own = absurd own
host-stops (faults.Dag fault) own = absurd own

pub host-shown : (hash : List ℕ → List ℕ) (why : HostFault) (a b : Seen) → IsOfHost why → OnlyReads hash NoneIsBad None a b → OnlyReads hash NoneIsBad (edge_fault {A = Unit {0}} (Err why)) a b
host-shown hash faults.Write a b own h = h
host-shown hash (faults.Store fault) a b own h = subst (λ f. OnlyReads hash NoneIsBad (Some f) a b) (sym own) (record { cause = calm-memory a b h.cause; told = h.told })
host-shown hash faults.Absent a b own h = absurd own
host-shown hash faults.NeedsRecursive a b own h = absurd own
host-shown hash (faults.Other path) a b own h = absurd own
host-shown hash faults.Exists a b own h = absurd own
host-shown hash (faults.Name path) a b own h = absurd own
host-shown hash (faults.TooDeep path) a b own h = absurd own
host-shown hash (faults.FileTooLong path) a b own h = absurd own
host-shown hash (faults.Collision x y) a b own h = absurd own
host-shown hash faults.TooBig a b own h = absurd own
host-shown hash faults.Read a b own h = absurd own
host-shown hash (faults.Dag fault) a b own h = absurd own

-- nothing of these places was put yet
pub puts-stopped : (places : List PutAt) (told now : HostTold) (why : HostFault) → StopsWriting why → now ≡ told → Puts places told now (Err why)
puts-stopped places told now why stops same = (stops, part-none places told now same)

module _ (held : Lookup) (limits : Limits) where
  step_at : (room : ℕ) (c : Cid) (t : Tree) → 1 ≤ room → denotes_within held limits room c ≡ Ok t → IsStep held limits (room - 1) c t
  step_at zero c t some is = absurd (omega arith)
  step_at (suc room) c t some is = let same : room ≡ suc room - 1 = omega arith in subst (λ n. IsStep held limits n c t) same (denoted-step held limits room c t is)

  pub no-room : {P : Type 0} (room : ℕ) (c : Cid) (t : Tree) → room ≡ 0 → denotes_within held limits room c ≡ Ok t → P
  no-room room c t none is = absurd (none-denoted held limits c t (subst (λ n. denotes_within held limits n c ≡ Ok t) none is))

  -- the shape can't be read
  pub shape-stops : (room : ℕ) (c : Cid) (t : Tree) (fault : DagFault) → 1 ≤ room → denotes_within held limits room c ≡ Ok t → FollowsReading (λ (s : Shape). s) (shallow_of held limits c) (Err fault) → StopsWriting (fault_of_reading fault)
  shape-stops room c t fault some is says = let s = step_at room c t some is in own-stops fault (own-fault (shallow_of held limits c) s.shape fault s.shaped says)

  same_shape : (c : Cid) (shape s : Shape) → shallow_of held limits c ≡ Ok shape → shallow_of held limits c ≡ Ok s → s ≡ shape
  same_shape c shape s is says = let same : Ok s ≡ Ok shape = sym says ∙ is in cc

  -- it is a file
  pub file-puts : (room : ℕ) (c : Cid) (t : Tree) (shape : Shape) (meta : Meta) (path : List ℕ) (told now : HostTold) (r : Result (Unit {0}) HostFault) → 1 ≤ room → denotes_within held limits room c ≡ Ok t
      → FollowsReading (λ (s : Shape). s) (shallow_of held limits c) (Ok shape) → shape ≡ FileShape meta → ((bytes : List ℕ) → file_of held limits c ≡ Ok bytes → PutsFile path bytes told now r) → Puts (places_of path t) told now r
  unfolding places_of
  file-puts room c t shape meta path told now r some is says same puts =
      let s = step_at room c t some is in
      by t (subst (DenotesBy held limits (room - 1) c t) (sym (same_shape c s.shape shape s.shaped says) ∙ same) s.by)
    where
      by : (u : Tree) → DenotesBy held limits (room - 1) c u (FileShape meta) → Puts (places_of path u) told now r
      by (File m bytes) d = puts bytes d.1
      by (Dir es) d = absurd d

  -- it is a directory
  pub record IsFolder (room : ℕ) (t : Tree) (ways : List (List ℕ × Cid)) : Type 0 where
    pub es : Entries
    pub is : Dir es ≡ t
    pub denoted : AreDenoted held limits room ways es

  pub folder-there : (room : ℕ) (c : Cid) (t : Tree) (shape : Shape) (meta : Meta) (ways list : List (List ℕ × Cid)) → 1 ≤ room → denotes_within held limits room c ≡ Ok t → FollowsReading (λ (s : Shape). s) (shallow_of held limits c) (Ok shape) → shape ≡ FolderShape meta ways → list ≡ ways
      → IsFolder (room - 1) t list
  folder-there room c t shape meta ways list some is says same same_list =
      let s = step_at room c t some is in
      let whole : s.shape ≡ FolderShape meta list = sym (same_shape c s.shape shape s.shaped says) ∙ same ∙ ap (FolderShape meta) (sym same_list) in
      by t (subst (DenotesBy held limits (room - 1) c t) whole s.by)
    where
      by : (u : Tree) → DenotesBy held limits (room - 1) c u (FolderShape meta list) → IsFolder (room - 1) u list
      by (File m bytes) d = absurd d
      by (Dir es) d = record { es = es; is = refl; denoted = d.1 }

-- a folder was made, and its members were put, or some of them
pub folder-puts : (path : List ℕ) (es : Entries) (told mid now : HostTold) (r : Result (Unit {0}) HostFault) → mid ≡ host_changed (λ tree. insert tree path Folder) told → Puts (places_in path es) mid now r → Puts (places_of path (Dir es)) told now r
unfolding places_of
folder-puts path es told mid now (Ok done) made puts = puts-both ((path, Folder) ∷ []) (places_in path es) told mid now (one told made) puts
  where
    one : (told : HostTold) → mid ≡ host_changed (λ tree. insert tree path Folder) told → mid ≡ host_changed (with_places ((path, Folder) ∷ [])) told
    one None is = is
    one (Some tree) is = is
folder-puts path es told mid now (Err why) made puts = (puts.0, part-behind ((path, Folder) ∷ []) (places_in path es) told mid now (one told made) puts.1)
  where
    one : (told : HostTold) → mid ≡ host_changed (λ tree. insert tree path Folder) told → mid ≡ host_changed (with_places ((path, Folder) ∷ [])) told
    one None is = is
    one (Some tree) is = is

-- what changed in a folder that was made changed at its path
pub folder-changes : (path : List ℕ) (told mid now : HostTold) → mid ≡ host_changed (λ tree. insert tree path Folder) told → ChangesIn path mid now → ChangesAt path told now
folder-changes path told mid now made changes =
    changes-both (IsBelow path) told mid now (changes-one (IsBelow path) path Folder told mid (inl refl) made)
    (changes-more _ (IsBelow path) mid now (λ q h. inr (h.0, h.1)) changes)
