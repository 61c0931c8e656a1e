-- Calls that save nothing, and calls that save behind others.
use Rattle.std.proofs.Common.{ℕ, List, Option, None, Result, Ok, Err}
use Rattle.uf_store.specs.declared.store.Role.{Role}
use Rattle.uf_store.specs.declared.store.StoreFault.{StoreFault}
use Rattle.uf_store.specs.Calls.{OnlySaves}
use Rattle.uf_store.specs.Faults.{NoneIsBad}
use Rattle.uf_store.specs.Seen.{Seen}
use Rattle.uf_store.proofs.Calls.{saves-by, saves-saves}
use Rattle.uf_store.proofs.Causes.{StaysCalm-refl}
use Rattle.uf_store.proofs.Keeping.{KeepsGood-refl}
use Rattle.uf_store.proofs.Writing.{SavesOnly-refl}
use Rattle.uf_tree.specs.declared.nodes.Entry.{Entry}
use Rattle.uf_shard.specs.declared.fault.DirFault.{DirFault}
use Rattle.uf_shard.specs.declared.fault.DirFault.TheVariants.{Collision, TooBig, Store}
use Rattle.uf_shard.specs.Answers.{dir_fault}
use Rattle.uf_shard.specs.Saving.{IsWithin}

pub saves-none : {hash : List ℕ → List ℕ} {Bad : Role → List ℕ → Type 0} (a : Seen) → OnlySaves hash Bad None a a
saves-none {hash} a = record {
  cause = StaysCalm-refl a;
  good = KeepsGood-refl hash a.told;
  saves = SavesOnly-refl hash a.told;
}

module _ {hash : List ℕ → List ℕ} {Bad : Role → List ℕ → Type 0} {f : Option StoreFault} where
  -- a call that refuses no block's content
  pub saves-any : {a b : Seen} → OnlySaves hash NoneIsBad f a b → OnlySaves hash Bad f a b
  saves-any h = saves-by Bad (λ role bytes bad. absurd bad) h

  -- such a call behind another one
  pub saves-new : {a b c : Seen} → OnlySaves hash Bad None a b → OnlySaves hash NoneIsBad f b c → OnlySaves hash Bad f a c
  saves-new p q = saves-saves p (saves-any q)

-- an entry that is too big after its save is no fault of the store
pub saves-within : {hash : List ℕ → List ℕ} {Bad : Role → List ℕ → Type 0} {a b : Seen} (e : Entry) (r : Result Entry DirFault) → IsWithin e r → OnlySaves hash Bad None a b → OnlySaves hash Bad (dir_fault r) a b
saves-within e (Ok x) within h = h
saves-within e (Err (Collision x y)) within h = absurd within
saves-within e (Err TooBig) within h = h
saves-within e (Err (Store fault)) within h = absurd within
