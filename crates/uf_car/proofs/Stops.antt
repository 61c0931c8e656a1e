-- What calls that keep blocks, and calls that ask no store, leave of it.
use Rattle.std.proofs.Common.{ℕ, List, sym, subst, Ok}
use Rattle.std.specs.Prelude.{◌≡◌, Some, None, Option, IfSome}
use Rattle.uf_cid.specs.declared.cid.Cid.{Cid}
use Rattle.uf_store.specs.Clashes.{IsSaveFault}
use Rattle.uf_store.specs.Faults.{NoneIsBad, Shows}
use Rattle.uf_store.specs.Seen.{Seen}
use Rattle.uf_store.specs.declared.store.StoreFault.{StoreFault}
use Rattle.uf_store.specs.declared.store.StoreFault.TheVariants.{Memory}
use Rattle.uf_store.specs.declared.store.StoreFault.TheVariants as store
use Rattle.uf_store.specs.Keeping.{HoldsOne}
use Rattle.uf_store.proofs.Calls.{shown-after}
use Rattle.uf_store.proofs.Causes.{StaysCalm-refl, calm-memory}
use Rattle.uf_store.proofs.Keeping.{KeepsGood-refl, KeepsGood-trans}
use Rattle.uf_store.proofs.Writing.{SavesOnly-refl, SavesOnly-trans}
use Rattle.uf_car.specs.declared.fault.CarFault.{CarFault}
use Rattle.uf_car.specs.declared.fault.CarFault.TheVariants as fault
use Rattle.uf_car.specs.Importing.{ClashesWith, IfClash, checked_block, IsOfInput, OnlyImports, store_fault}

-- what is so of a clash, from what else is
pub clash_as : (P Q : Cid → List ℕ → List ℕ → Type 0) → ((c : Cid) (a b : List ℕ) → P c a b → Q c a b) → (o : Option StoreFault) → IfSome o (IfClash P) → IfSome o (IfClash Q)
clash_as P Q more None h = tt
clash_as P Q more (Some store.Failed) h = tt
clash_as P Q more (Some (store.Damaged c)) h = tt
clash_as P Q more (Some (store.Missing c)) h = tt
clash_as P Q more (Some (store.BadBlock c role)) h = tt
clash_as P Q more (Some (store.Clash c a b)) h = more c a b h
clash_as P Q more (Some store.Memory) h = tt

-- no clash is met where no store is asked
pub no_clash : (P : Cid → List ℕ → List ℕ → Type 0) (f : CarFault) → IsOfInput f → IfSome (store_fault f) (IfClash P)
no_clash P (fault.Store f) is = subst (IfClash P) (sym is) tt
no_clash P (fault.Truncated place) is = tt
no_clash P fault.Header is = tt
no_clash P (fault.Version v) is = tt
no_clash P (fault.BadCid place) is = tt
no_clash P (fault.WrongDigest place d) is = tt
no_clash P (fault.TooBigBlock place size) is = tt
no_clash P (fault.TooManyRoots count) is = tt
no_clash P (fault.BadLength place) is = tt
no_clash P fault.TooLong is = tt
no_clash P fault.Read is = tt

-- a save meets a block that is held under its CID
pub clash_with : (hash : List ℕ → List ℕ) (place : ℕ) (cid : Cid) (block : List ℕ) (before now : Seen) (f : StoreFault) → IsSaveFault cid block f → Shows hash NoneIsBad f before now → now.told ≡ before.told
    → checked_block hash place cid block ≡ Ok tt → ClashesWith hash place cid block before.told f
clash_with hash place cid block before now store.Failed is shows same checked = tt
clash_with hash place cid block before now (store.Damaged c) is shows same checked = tt
clash_with hash place cid block before now (store.Missing c) is shows same checked = tt
clash_with hash place cid block before now (store.BadBlock c role) is shows same checked = tt
clash_with hash place cid block before now (store.Clash c a b) is shows same checked = (is.0, is.1, checked, subst (λ t. HoldsOne t c a) same shows.is_held)
clash_with hash place cid block before now store.Memory is shows same checked = tt

module _ (hash : List ℕ → List ℕ) where
  -- nothing was asked of a store
  pub nothing_asked : (s : Seen) → OnlyImports hash None s s
  nothing_asked s = record { cause = StaysCalm-refl s; saving = tt; good = KeepsGood-refl hash s.told; saves = SavesOnly-refl hash s.told }

  no_memory : (s : Seen) → OnlyImports hash (Some Memory) s s
  no_memory s = record { cause = calm-memory s s (StaysCalm-refl s); saving = tt; good = KeepsGood-refl hash s.told; saves = SavesOnly-refl hash s.told }

  -- nor where a fault is one of the bytes, or there was no memory
  pub unasked : (f : CarFault) (s : Seen) → IsOfInput f → OnlyImports hash (store_fault f) s s
  unasked (fault.Store f) s is = subst (λ (x : StoreFault). OnlyImports hash (Some x) s s) (sym is) (no_memory s)
  unasked (fault.Truncated place) s is = nothing_asked s
  unasked fault.Header s is = nothing_asked s
  unasked (fault.Version v) s is = nothing_asked s
  unasked (fault.BadCid place) s is = nothing_asked s
  unasked (fault.WrongDigest place d) s is = nothing_asked s
  unasked (fault.TooBigBlock place size) s is = nothing_asked s
  unasked (fault.TooManyRoots count) s is = nothing_asked s
  unasked (fault.BadLength place) s is = nothing_asked s
  unasked fault.TooLong s is = nothing_asked s
  unasked fault.Read s is = nothing_asked s

  -- calls in a row
  pub imports_on : (f : Option StoreFault) (a b c : Seen) → OnlyImports hash None a b → OnlyImports hash f b c → OnlyImports hash f a c
  imports_on f a b c p q = record {
    cause = shown-after hash NoneIsBad f a b c p.cause q.cause;
    saving = q.saving;
    good = KeepsGood-trans hash a.told b.told c.told p.good q.good;
    saves = SavesOnly-trans hash a.told b.told c.told p.saves q.saves;
  }
