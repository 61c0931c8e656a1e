-- What the steps of building a directory in shards answer.
use Rattle.std.specs.Prelude.{◌≡◌, ℕ, List, [], ◌∷◌, ◌++◌, Some, None}
use Rattle.std.specs.declared.option.Option.{Option}
use Rattle.std.specs.declared.result.Result.{Result}
use Rattle.std.specs.declared.result.Result.TheVariants.{Ok, Err}
use Rattle.uf_store.specs.declared.store.StoreFault.{StoreFault}
use Rattle.uf_store.specs.declared.store.StoreFault.TheVariants.{Memory}
use Rattle.uf_tree.specs.declared.nodes.Entry.{Entry}
use Rattle.uf_tree.specs.declared.nodes.Item.{Item}
use Rattle.uf_tree.specs.declared.nodes.Item.TheVariants.{Leaf}
use Rattle.uf_tree.specs.Nodes.{InSlot}
use Rattle.uf_tree.specs.TreePlan.{TooBig as IsTooBig, too_big}
use Rattle.uf_shard.specs.declared.fault.DirFault.{DirFault}
use Rattle.uf_shard.specs.declared.fault.DirFault.TheVariants.{Collision, TooBig, Store}
use Rattle.uf_shard.specs.declared.hashed.Hashed.{Hashed}

-- the names of two rows
abbrev pub names_of : Hashed × Hashed → List ℕ × List ℕ
names_of twins = (twins.0.pair.now.0, twins.1.pair.now.0)

-- a collision of these two names, or out of memory to show them
abbrev pub IsCollisionOr : List ℕ × List ℕ → DirFault → Type 0
IsCollisionOr names (Collision first second) = (first ≡ names.0) × (second ≡ names.1)
IsCollisionOr names TooBig = ⊥
IsCollisionOr names (Store fault) = fault ≡ Memory

-- the entry where its Tsize isn't too big
abbrev pub IsWithin : Entry → Result Entry DirFault → Type 0
IsWithin entry (Ok e) = (too_big entry.tsize ≡ None) × (e ≡ entry)
IsWithin entry (Err (Collision first second)) = ⊥
IsWithin entry (Err TooBig) = too_big entry.tsize ≡ Some IsTooBig
IsWithin entry (Err (Store fault)) = ⊥

-- there was no memory
abbrev pub IsMemory : StoreFault → Type 0
IsMemory fault = fault ≡ Memory

-- the entry of a row under its name
abbrev pub leaf_of : Hashed → Item
leaf_of row = Leaf row.pair.now.0 row.pair.now.1

-- what a slot has was put after the other slots, where it has something
abbrev pub PutsItem : ℕ → Option Item → List InSlot → List InSlot → Type 0
PutsItem slot None before now = now ≡ before
PutsItem slot (Some item) before now = now ≡ before ++ (slot, item) ∷ []
