-- The names in a folder, and what becomes of one.
use Rattle.std.specs.Prelude.{◌≡◌, ℕ, List, false, IsTrue}
use Rattle.std.specs.declared.result.Result.{Result}
use Rattle.std.specs.declared.result.Result.TheVariants.{Ok, Err}
use Rattle.uf_edge.specs.Host.{AreNames, HostTold}
use Rattle.uf_tree.specs.Names.{is_name}
use Rattle.uf_host.specs.Faults.{IsSaidOrBare}
use Rattle.uf_host.specs.declared.fault.HostFault.{HostFault}
use Rattle.uf_host.specs.declared.fault.HostFault.TheVariants.{Name}

-- the names in a folder, which nothing but a failure refuses
abbrev pub ListsFolder : HostTold → List ℕ → Result (List (List ℕ)) HostFault → Type 0
ListsFolder host path (Ok names) = AreNames names host path
ListsFolder host path (Err fault) = IsSaidOrBare (λ fault. ⊥) fault

-- a name that isn't good is a fault, with the path of what has it
pub record IsBadName (path text : List ℕ) (fault : HostFault) : Type 0 where
  pub is : fault ≡ Name path
  pub bad : is_name text ≡ false

-- the name that a text is
abbrev pub IsNameOf : List ℕ → List ℕ → Result (List ℕ) HostFault → Type 0
IsNameOf path text (Ok name) = (name ≡ text) × IsTrue (is_name text)
IsNameOf path text (Err fault) = IsSaidOrBare (IsBadName path text) fault
