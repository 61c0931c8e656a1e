-- What calls that build or change a directory answer.
use Rattle.std.specs.Prelude.{◌≡◌, ℕ, List, map, Some, None, ⊤}
use Rattle.std.specs.declared.option.Option.{Option}
use Rattle.std.specs.declared.result.Result.{Result}
use Rattle.std.specs.declared.result.Result.TheVariants.{Ok, Err}
use Rattle.uf_cid.specs.Blocks.{Held}
use Rattle.uf_cid.specs.Cid.{cid_of}
use Rattle.uf_cid.specs.declared.cid.Codec.TheVariants.{DagPb}
use Rattle.uf_store.specs.declared.store.Role.{Role}
use Rattle.uf_store.specs.Clashes.{IsSaving}
use Rattle.uf_store.specs.Contents.{Told}
use Rattle.uf_store.specs.declared.store.StoreFault.{StoreFault}
use Rattle.uf_store.specs.Faults.{Shown as ShownOf}
use Rattle.uf_store.specs.Lost.{IsLossOf}
use Rattle.uf_store.specs.Seen.{Seen}
use Rattle.uf_tree.specs.declared.meta.Meta.{Meta}
use Rattle.uf_tree.specs.declared.nodes.Entry.{Entry}
use Rattle.uf_tree.specs.Nodes.{InSlot, Named, item_entry, node_entry, shard_block}
use Rattle.uf_tree.specs.ShardPlan.{shard}
use Rattle.uf_tree.specs.TreePlan.{Refusal, Collision as Collides, TooBig as IsTooBig, collision, or_else, too_big}
use Rattle.uf_shard.specs.declared.fault.DirFault.{DirFault}
use Rattle.uf_shard.specs.declared.fault.DirFault.TheVariants.{Collision, TooBig, Store}

-- the block of a shard with this metadata and these slots, under its CID
abbrev pub shard_node_held : (List ℕ → List ℕ) → Meta → List InSlot → Held
shard_node_held X m items = (cid_of X DagPb (shard_block m items), shard_block m items)

-- the entry of the root of a shard tree with this metadata and these slots
abbrev pub root_entry : (List ℕ → List ℕ) → Meta → List InSlot → Entry
root_entry X m items = node_entry X (shard_block m items) (map (λ (p : InSlot). item_entry p.1) items)

-- why a directory in shards has no plan: two names of one hash, else its size
abbrev pub shard_refusal : (List ℕ → List ℕ) → (List ℕ → ℕ) → Meta → List Named → Option Refusal
shard_refusal X N m l = or_else (collision N l) (too_big (shard X N 7 m l).entry.tsize)

-- the entry is this one where nothing refuses it, and a refusal is this one; else a save failed
abbrev pub Gives : Option Refusal → Entry → Result Entry DirFault → Type 0
Gives refusal entry (Ok e) = (refusal ≡ None) × (e ≡ entry)
Gives refusal entry (Err (Collision first second)) = refusal ≡ Some (Collides first second)
Gives refusal entry (Err TooBig) = refusal ≡ Some IsTooBig
Gives refusal entry (Err (Store fault)) = IsSaving fault

-- the same where blocks are read, of which some may be lost
abbrev pub GivesOver : Told → List Held → Option Refusal → Entry → Result Entry DirFault → Type 0
GivesOver told old refusal entry (Ok e) = (refusal ≡ None) × (e ≡ entry)
GivesOver told old refusal entry (Err (Collision first second)) = refusal ≡ Some (Collides first second)
GivesOver told old refusal entry (Err TooBig) = refusal ≡ Some IsTooBig
GivesOver told old refusal entry (Err (Store fault)) = IsLossOf told old fault

-- what holds where two names of one hash were found
abbrev pub AtCollision : {A : Type 0} → Result A DirFault → Type 0 → Type 0
AtCollision (Ok a) P = ⊤
AtCollision (Err (Collision first second)) P = P
AtCollision (Err TooBig) P = ⊤
AtCollision (Err (Store fault)) P = ⊤

-- the store's fault in an answer
abbrev pub dir_fault : {A : Type 0} → Result A DirFault → Option StoreFault
dir_fault (Ok a) = None
dir_fault (Err (Collision first second)) = None
dir_fault (Err TooBig) = None
dir_fault (Err (Store fault)) = Some fault

-- no fault was passed over: a fault of the store shows its cause, and before any other answer the store has stayed calm
abbrev pub Shown : {A : Type 0} → (List ℕ → List ℕ) → (Role → List ℕ → Type 0) → Result A DirFault
    → Seen → Seen → Type 0
Shown hash IsBad result before now = ShownOf hash IsBad (dir_fault result) before now
