-- What is bad on a path, by what is bad where a directory is read.
use Rattle.std.proofs.Common.{ℕ, List, ap, subst, sym, ◌∙◌, Some, None, true, false, refl}
use Rattle.std.proofs.lemmas.Bool.{false≢true}
use Rattle.uf_cid.specs.declared.cid.Cid.{Cid}
use Rattle.uf_store.specs.declared.store.Role.{Role}
use Rattle.uf_store.specs.declared.store.Role.TheVariants.{Directory, Shard, FileNode, Leaf}
use Rattle.uf_store.specs.declared.store.StoreFault.{StoreFault}
use Rattle.uf_store.specs.declared.store.StoreFault.TheVariants.{Failed, Damaged, Missing, BadBlock, Clash, Memory}
use Rattle.uf_store.specs.Calls.{OnlyReads}
use Rattle.uf_store.specs.Contents.{Told}
use Rattle.uf_store.specs.Faults.{Shows}
use Rattle.uf_store.specs.Seen.{Seen}
use Rattle.uf_tree.specs.Roles.{IsCanonicalDirectory, Basic, Sharded, FileRoot}
use Rattle.uf_dir.specs.Bad as dirs
use Rattle.uf_dir.specs.Bad.{BlamesOnly}
use Rattle.uf_dir.specs.Roots.{IsRootUnder}
use Rattle.uf_dir.proofs.Causes.{way-off}
use Rattle.uf_light.specs.declared.thing.TypedEntry.{TypedEntry}
use Rattle.uf_light.specs.declared.thing.TypedEntry.TheVariants.{File as FileAt, Folder as FolderAt}
use Rattle.uf_light.specs.Bad.{IsBadOnPath, IsBadThere, IsBadUnder, IsRequired, RequiresDirectory, AtRoot, AsMet}

-- a directory's root is canonical where a file's may be too
as_kind : (bytes : List ℕ) → IsCanonicalDirectory None true bytes → IsCanonicalDirectory None false bytes
as_kind bytes (Basic b) = Basic (record { meta = b.meta; pairs = b.pairs; good = b.good; valid = b.valid; light = tt; is = b.is })
as_kind bytes (Sharded s) = Sharded s
as_kind bytes (FileRoot e n) = absurd (false≢true (sym e))

way-bad : (N : List ℕ → ℕ) (h : ℕ) (role : Role) (bytes : List ℕ) → dirs.IsBad N h None role bytes → IsBadThere N role bytes
way-bad N h Directory bytes bad = bad
way-bad N h (Shard level) bytes bad = way-off N h level bytes bad
way-bad N h FileNode bytes bad = absurd bad
way-bad N h Leaf bytes bad = absurd bad

module _ (X : List ℕ → List ℕ) (N : List ℕ → ℕ) where
  -- where neither a directory nor a file is canonical
  pub root-bad : (root : Cid) (role : Role) (bytes : List ℕ) → dirs.IsBadRoot role bytes → IsBadOnPath X N root role bytes
  root-bad root Directory bytes h = record { bad = λ c. h (as_kind bytes c); required = λ is node. absurd (h (FileRoot refl node)) }
  root-bad root (Shard level) bytes h = absurd h
  root-bad root FileNode bytes h = absurd h
  root-bad root Leaf bytes h = absurd h

  requires-below : (root below : Cid) (digest : List ℕ) → RequiresDirectory X root below.digest → RequiresDirectory X below digest → RequiresDirectory X root digest
  requires-below root below digest r (AtRoot is) = subst (RequiresDirectory X root) (sym is) r
  requires-below root below digest r (AsMet block is canonical) = AsMet block is canonical

  -- below a directory that is required
  pub under-bad : (root : Cid) (thing : TypedEntry) → IsRequired X root thing → (role : Role) (bytes : List ℕ) → IsBadUnder X N thing role bytes → IsBadOnPath X N root role bytes
  under-bad root (FileAt e) r role bytes h = absurd h
  under-bad root (FolderAt e) r role bytes h = record { bad = h.bad; required = λ is node. requires-below root e.cid (X bytes) r (h.required is node) }

  -- what a look at a CID met
  pub met-required : (root : Cid) (told : Told) (cid : Cid) (bytes : List ℕ) → IsRootUnder X told cid bytes → RequiresDirectory X root cid.digest
  met-required root told cid bytes h = AsMet bytes h.digest h.canonical

  -- what a directory's call blames
  pub way-shows : (root : Cid) (h : ℕ) (f : StoreFault) (a b : Seen) → BlamesOnly root (Some f) → Shows X (dirs.IsBad N h None) f a b → Shows X (IsBadOnPath X N root) f a b
  way-shows root h Failed a b blames s = s
  way-shows root h (Damaged cid) a b blames s = s
  way-shows root h (Missing cid) a b blames s = s
  way-shows root h (BadBlock cid role) a b blames s = record {
    rose = s.rose;
    digest = s.digest;
    is_held = s.is_held;
    bad = record { bad = way-bad N h role b.lent s.bad; required = λ is node. AtRoot (s.digest ∙ ap (λ (c : Cid). c.digest) (blames cid (ap (λ (r : Role). Some (BadBlock cid r)) is))) };
    calm = s.calm;
  }
  way-shows root h (Clash cid held bytes) a b blames s = s
  way-shows root h Memory a b blames s = s

-- a call without a fault blames nothing
pub reads-none : {hash : List ℕ → List ℕ} {Bad Other : Role → List ℕ → Type 0} {a b : Seen} → OnlyReads hash Bad None a b → OnlyReads hash Other None a b
reads-none h = record { cause = h.cause; told = h.told }
