-- What is said or not: refusals and faults carried from one call to the call above it.
use Rattle.std.proofs.Common.{◌≡◌, ℕ, List, sym, subst}
use Rattle.std.specs.Prelude.{Some, None, IfSome}
use Rattle.std.specs.declared.result.Result.{Result}
use Rattle.std.specs.declared.result.Result.TheVariants.{Err}
use Rattle.uf_edge.specs.Host.{HostTold, HostTree}
use Rattle.uf_shard.specs.Answers.{dir_fault}
use Rattle.uf_shard.specs.declared.fault.DirFault.{DirFault}
use Rattle.uf_shard.specs.declared.fault.DirFault.TheVariants as directory
use Rattle.uf_store.specs.Calls.{OnlySaves}
use Rattle.uf_store.specs.Keeping.{KeepsGood}
use Rattle.uf_store.specs.Writing.{SavesOnly}
use Rattle.uf_store.specs.Clashes.{IsSaving}
use Rattle.uf_store.specs.Faults.{NoneIsBad, Shown}
use Rattle.uf_store.specs.Seen.{Seen}
use Rattle.uf_store.specs.declared.store.StoreFault.{StoreFault}
use Rattle.uf_store.specs.declared.store.StoreFault.TheVariants.{Failed, Damaged, Missing, BadBlock, Clash, Memory}
use Rattle.uf_store.proofs.Causes.{StaysCalm-refl, calm-memory}
use Rattle.uf_store.proofs.Keeping.{KeepsGood-refl}
use Rattle.uf_store.proofs.Writing.{SavesOnly-refl}
use Rattle.uf_host.specs.Adding.{IsRefusal, IsSaid}
use Rattle.uf_host.specs.Faults.{IsSaidOr, IsSaidOrBare, edge_fault, for_one, of_directory, store_part}
use Rattle.uf_host.specs.declared.fault.HostFault.{HostFault}
use Rattle.uf_host.specs.declared.fault.HostFault.TheVariants.{Absent, NeedsRecursive, Other, Exists, Name, TooDeep, FileTooLong, Collision, TooBig, Read, Write, Dag, Store}

-- what one says of a fault, another says too
pub said-more : (P Q : HostFault → Type 0) (f : HostFault) → (P f → Q f) → IsSaidOr P f → IsSaidOr Q f
said-more P Q Absent more h = more h
said-more P Q NeedsRecursive more h = more h
said-more P Q (Other path) more h = more h
said-more P Q Exists more h = h
said-more P Q (Name path) more h = more h
said-more P Q (TooDeep path) more h = more h
said-more P Q (FileTooLong path) more h = more h
said-more P Q (Collision first second) more h = more h
said-more P Q TooBig more h = more h
said-more P Q Read more h = h
said-more P Q Write more h = h
said-more P Q (Dag fault) more h = h
said-more P Q (Store fault) more h = h

-- what holds of each host that tells
pub told-more : (host : HostTold) (P Q : HostTree → Type 0) → ((tree : HostTree) → P tree → Q tree) → IfSome host P → IfSome host Q
told-more None P Q more h = tt
told-more (Some tree) P Q more h = more tree h

pub told-both : (host : HostTold) (P Q R : HostTree → Type 0) → ((tree : HostTree) → P tree → Q tree → R tree) → IfSome host P → IfSome host Q → IfSome host R
told-both None P Q R more h k = tt
told-both (Some tree) P Q R more h k = more tree h k

-- a refusal of one walk is one of another
pub refusal-more : {A B : Type 0} (host : HostTold) (say : HostTree → Result A HostFault) (tell : HostTree → Result B HostFault) (f : HostFault)
    → ((tree : HostTree) → say tree ≡ Err f → tell tree ≡ Err f) → IsRefusal host say f → IsRefusal host tell f
refusal-more host say tell f more h = said-more (λ f. IsSaid host say (Err f)) (λ f. IsSaid host tell (Err f)) f (told-more host _ _ more) h

memory-saves : (s : StoreFault) → s ≡ Memory → IsSaving s
memory-saves Memory e = tt
memory-saves Failed e = tt
memory-saves (Damaged c) e = absurd cc
memory-saves (Missing c) e = absurd cc
memory-saves (BadBlock c role) e = absurd cc
memory-saves (Clash c held bytes) e = tt

-- a fault of a call without a store is one of a call that saves
pub bare-said : (P : HostFault → Type 0) (f : HostFault) → IsSaidOrBare P f → IsSaidOr P f
bare-said P Absent h = h
bare-said P NeedsRecursive h = h
bare-said P (Other path) h = h
bare-said P Exists h = h
bare-said P (Name path) h = h
bare-said P (TooDeep path) h = h
bare-said P (FileTooLong path) h = h
bare-said P (Collision first second) h = h
bare-said P TooBig h = h
bare-said P Read h = h
bare-said P Write h = h
bare-said P (Dag fault) h = h
bare-said P (Store fault) h = memory-saves fault h

-- such a fault leaves the store alone
pub bare-saves : (P : HostFault → Type 0) (X : List ℕ → List ℕ) (f : HostFault) (a : Seen) → IsSaidOrBare P f → OnlySaves X NoneIsBad (store_part f) a a
bare-saves P X f a h = record { cause = by f h; good = KeepsGood-refl X a.told; saves = SavesOnly-refl X a.told }
  where
    memory-shown : (s : StoreFault) → s ≡ Memory → Shown X NoneIsBad (Some s) a a
    memory-shown s e = subst (λ (s : StoreFault). Shown X NoneIsBad (Some s) a a) (sym e) (calm-memory a a (StaysCalm-refl a))

    by : (f : HostFault) → IsSaidOrBare P f → Shown X NoneIsBad (store_part f) a a
    by Absent h = StaysCalm-refl a
    by NeedsRecursive h = StaysCalm-refl a
    by (Other path) h = StaysCalm-refl a
    by Exists h = StaysCalm-refl a
    by (Name path) h = StaysCalm-refl a
    by (TooDeep path) h = StaysCalm-refl a
    by (FileTooLong path) h = StaysCalm-refl a
    by (Collision first second) h = StaysCalm-refl a
    by TooBig h = StaysCalm-refl a
    by Read h = StaysCalm-refl a
    by Write h = StaysCalm-refl a
    by (Dag fault) h = absurd h
    by (Store fault) h = memory-shown fault h

-- a fault of building a directory shows what it showed there
pub directory-saves : (A B : Type 0) (X : List ℕ → List ℕ) (why : DirFault) (a b : Seen) → Shown X NoneIsBad (dir_fault {A = A} (Err why)) a b → KeepsGood X a.told b.told
    → SavesOnly X a.told b.told → OnlySaves X NoneIsBad (edge_fault {A = B} (Err (of_directory why))) a b
directory-saves A B X (directory.Collision first second) a b cause good saves = record { cause = cause; good = good; saves = saves }
directory-saves A B X directory.TooBig a b cause good saves = record { cause = cause; good = good; saves = saves }
directory-saves A B X (directory.Store fault) a b cause good saves = record { cause = cause; good = good; saves = saves }

-- what was saved, and then want of memory
pub memory-stop : (X : List ℕ → List ℕ) (a b : Seen) → OnlySaves X NoneIsBad None a b → OnlySaves X NoneIsBad (Some Memory) a b
memory-stop X a b h = record { cause = calm-memory a b h.cause; good = h.good; saves = h.saves }

-- ---- where folders aren't asked for

pub one-said : (P Q : HostFault → Type 0) (f : HostFault) → ((f : HostFault) → P f → Q (for_one f)) → IsSaidOr P f → IsSaidOr Q (for_one f)
one-said P Q Absent more h = more Absent h
one-said P Q NeedsRecursive more h = more NeedsRecursive h
one-said P Q (Other path) more h = more (Other path) h
one-said P Q Exists more h = h
one-said P Q (Name path) more h = more (Name path) h
one-said P Q (TooDeep path) more h = more (TooDeep path) h
one-said P Q (FileTooLong path) more h = more (FileTooLong path) h
one-said P Q (Collision first second) more h = more (Collision first second) h
one-said P Q TooBig more h = more TooBig h
one-said P Q Read more h = h
one-said P Q Write more h = h
one-said P Q (Dag fault) more h = h
one-said P Q (Store fault) more h = h
