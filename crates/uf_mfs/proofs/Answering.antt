-- What calls that read a tree answer.
use Rattle.std.proofs.Common.{◌≡◌, ℕ, ◌<◌, ◌≤◌, ◌^◌, List, [], ◌∷◌, length, map, replicate, refl, ap, sym, ◌∙◌, subst, None, Result, Err, Some, inl, inr, ◌+◌}
use Rattle.uf_cid.specs.declared.cid.Cid.{Cid}
use Rattle.uf_store.specs.declared.store.Role.{Role}
use Rattle.uf_store.specs.declared.store.Role.TheVariants.{Directory, Shard, FileNode, Leaf}
use Rattle.uf_store.specs.declared.store.StoreFault.{StoreFault}
use Rattle.uf_store.specs.Contents.{Told}
use Rattle.uf_store.specs.Faults.{Shown, Shows}
use Rattle.uf_store.specs.Keeping.{Agrees}
use Rattle.uf_store.specs.Lost.{ReadsOver}
use Rattle.uf_plain.specs.Needs.{own_needs}
use Rattle.uf_store.specs.Seen.{Seen}
use Rattle.uf_tree.specs.declared.nodes.Entry.{Entry}
use Rattle.uf_tree.specs.declared.meta.Meta.{Meta}
use Rattle.uf_tree.specs.declared.profile.Profile.{Profile}
use Rattle.uf_tree.specs.DirPlan.{own_plan}
use Rattle.uf_tree.specs.Nodes.{Named}
use Rattle.uf_tree.specs.Tree.{own_meta, Tree, Dir, Entries, pairs}
use Rattle.uf_tree.specs.TreePlan.{entry, named_entries}
use Rattle.uf_tree.specs.Validity.{IsHash}
use Rattle.std.specs.declared.option.Option.{Option}
use Rattle.uf_shard.specs.declared.fault.DirFault.{DirFault}
use Rattle.uf_shard.specs.declared.fault.DirFault.TheVariants as dir
use Rattle.uf_shard.specs.Answers.{Shown as ShownDir, dir_fault}
use Rattle.uf_dir.specs.Bad.{BlamesOnly, IsBadListed}
use Rattle.uf_dir.specs.Bad as dirs
use Rattle.uf_dir.proofs.Causes.{shard-off, way-off}
use Rattle.uf_dir.specs.Planned.{IsPlanned}
use Rattle.uf_mfs.specs.declared.fault.Stop.{Stop}
use Rattle.uf_mfs.specs.Answers.{stop_of}
use Rattle.uf_mfs.specs.Bad.{IsBad, IsBadInTree}
use Rattle.uf_mfs.specs.Steps.{stop_fault}
use Rattle.uf_mfs.specs.Standing.{IsAgreed}
use Rattle.uf_mfs.proofs.Judging.{shown-at}
use Rattle.uf_mfs.proofs.Agreed.{own-agrees}
use Rattle.uf_mfs.proofs.Planning.{planned-of}

length-replicate : (n : ℕ) → length {A = ℕ} (replicate n 0) ≡ n
length-replicate ℕ.zero = refl
length-replicate (ℕ.suc n) = ap ℕ.suc (length-replicate n)

-- a block that is bad where it is listed, or where a name is looked up, put or taken out, is bad
listed-bad : (N : List ℕ → ℕ) (role : Role) (bytes : List ℕ) → IsBadListed role bytes → IsBad N None role bytes
listed-bad N Directory bytes bad = bad
listed-bad N (Shard level) bytes bad = record { way = replicate level 0; at_level = length-replicate level; below = bad.0; bad = bad.1 N (replicate level 0) (length-replicate level) }
listed-bad N FileNode bytes bad = absurd bad
listed-bad N Leaf bytes bad = absurd bad

way-bad : (N : List ℕ → ℕ) (h : ℕ) (profile : Option Profile) (role : Role) (bytes : List ℕ) → dirs.IsBad N h profile role bytes → IsBad N profile role bytes
way-bad N h profile Directory bytes bad = bad
way-bad N h profile (Shard level) bytes bad = way-off N h level bytes bad
way-bad N h profile FileNode bytes bad = absurd bad
way-bad N h profile Leaf bytes bad = absurd bad

weighed-bad : (N : List ℕ → ℕ) (h : ℕ) (profile : Option Profile) (role : Role) (bytes : List ℕ) → dirs.IsBadWeighed N h profile role bytes → IsBad N profile role bytes
weighed-bad N h profile Directory bytes bad = bad
weighed-bad N h profile (Shard level) bytes (inl bad) = way-off N h level bytes bad
weighed-bad N h profile (Shard level) bytes (inr bad) = shard-off N level bytes bad
weighed-bad N h profile FileNode bytes bad = absurd bad
weighed-bad N h profile Leaf bytes bad = absurd bad

module _ (hash : List ℕ → List ℕ) (N : List ℕ → ℕ) (root : Cid) where
  pub listed-shows : (f : StoreFault) (a b : Seen) → BlamesOnly root (Some f) → Shows hash IsBadListed f a b → Shows hash (IsBadInTree hash N None root) f a b
  listed-shows f a b blames h = shown-at hash N IsBadListed None root (Some f) a b (listed-bad N) blames h

  pub way-shows : (h : ℕ) (profile : Option Profile) (f : StoreFault) (a b : Seen) → BlamesOnly root (Some f) → Shows hash (dirs.IsBad N h profile) f a b → Shows hash (IsBadInTree hash N profile root) f a b
  way-shows h profile f a b blames shows = shown-at hash N (dirs.IsBad N h profile) profile root (Some f) a b (way-bad N h profile) blames shows

  pub weighed-shows : (h : ℕ) (profile : Option Profile) (f : StoreFault) (a b : Seen) → BlamesOnly root (Some f) → Shows hash (dirs.IsBadWeighed N h profile) f a b
      → Shows hash (IsBadInTree hash N profile root) f a b
  weighed-shows h profile f a b blames shows = shown-at hash N (dirs.IsBadWeighed N h profile) profile root (Some f) a b (weighed-bad N h profile) blames shows

  -- the fault of an edited directory as that of a step
  pub stop-shows : (h : ℕ) (profile : Option Profile) (f : DirFault) (s : Stop) (a b : Seen) → s ≡ stop_of f → BlamesOnly root (dir_fault {A = Entry} (Err f)) → ShownDir {A = Entry} hash (dirs.IsBad N h profile) (Err f) a b
      → Shown hash (IsBadInTree hash N profile root) (stop_fault {A = Entry} (Err s)) a b
  stop-shows h profile f s a b is blames shown = subst (λ (s : Stop). Shown hash (IsBadInTree hash N profile root) (stop_fault {A = Entry} (Err s)) a b) (sym is) (by f blames shown)
    where
      by : (f : DirFault) → BlamesOnly root (dir_fault {A = Entry} (Err f)) → ShownDir {A = Entry} hash (dirs.IsBad N h profile) (Err f) a b → Shown hash (IsBadInTree hash N profile root) (stop_fault {A = Entry} (Err (stop_of f))) a b
      by (dir.Collision first second) blames shown = shown
      by dir.TooBig blames shown = shown
      by (dir.Store g) blames shown = way-shows h profile g a b blames shown

-- what is listed of a folder
pub entries-says : (X : List ℕ → List ℕ) (N : List ℕ → ℕ) → IsHash X → ((name : List ℕ) → N name < 2 ^ 64) → (told : Told) (p : Profile) (e : Entry) (es : Entries) (r : Result (List Named) StoreFault) → IsAgreed X N told p e (Dir es)
    → ((M : List ℕ → ℕ) (p : Profile) (meta : Meta) (l : List Named) → IsPlanned X M p meta e.cid l → Agrees told (own_plan X M p meta l).blocks → ReadsOver told (own_plan X M p meta l).blocks l r)
    → ReadsOver told (own_needs X N p (Dir es)) (named_entries X N p es) r
entries-says X N hash fits told p e es r s reads = reads N p (own_meta es) _ (planned-of X N p e es s.plan hash fits) (own-agrees X N p told e es s)

-- and what listing it takes
pub entries-touches : (X : List ℕ → List ℕ) (N : List ℕ → ℕ) → IsHash X → ((name : List ℕ) → N name < 2 ^ 64) → (told : Told) (p : Profile) (e : Entry) (es : Entries) (t0 t1 : ℕ) → IsAgreed X N told p e (Dir es)
    → ((M : List ℕ → ℕ) (p : Profile) (meta : Meta) (l : List Named) → IsPlanned X M p meta e.cid l → Agrees told (own_plan X M p meta l).blocks → t1 ≤ t0 + (length (own_plan X M p meta l).blocks + 1))
    → t1 ≤ t0 + (length (own_needs X N p (Dir es)) + 1)
entries-touches X N hash fits told p e es t0 t1 s takes = takes N p (own_meta es) _ (planned-of X N p e es s.plan hash fits) (own-agrees X N p told e es s)

map-names : (X : List ℕ → List ℕ) (N : List ℕ → ℕ) (p : Profile) (l : List (List ℕ × Tree)) → map (λ (m : Named). m.0) (map (λ (e : List ℕ × Tree). (e.0, entry X N p e.1)) l) ≡ map (λ (m : List ℕ × Tree). m.0) l
map-names X N p [] = refl
map-names X N p (m ∷ l) = ap (λ k. m.0 ∷ k) (map-names X N p l)

pub names-listed : (X : List ℕ → List ℕ) (N : List ℕ → ℕ) (p : Profile) (es : Entries) (l : List Named) (names : List (List ℕ)) → l ≡ named_entries X N p es → names ≡ map (λ (m : Named). m.0) l → names ≡ map (λ (m : List ℕ × Tree). m.0) (pairs es)
names-listed X N p es l names is h = h ∙ ap (map (λ (m : Named). m.0)) is ∙ map-names X N p (pairs es)
