-- Sharded directories (UnixFS v1, "HAMTDirectory", with a fanout of 256).
use Rattle.std.specs.Prelude.{ℕ, zero, suc, ◌-◌, List, [], ◌∷◌, ◌++◌, map, Bool, ◌&&◌, ◌==◌}
use Rattle.std.specs.declared.option.Option.{Option}
use Rattle.std.specs.declared.option.Option.TheVariants.{None, Some}
use Rattle.std.specs.List.{find, cons_option}
use Rattle.std.specs.Option.{option_map}
use Rattle.std.specs.FinMap.Entries.{where_key}
use Rattle.uf_cid.specs.Blocks.{Held}
use Rattle.uf_cid.specs.Cid.{cid_of}
use Rattle.uf_cid.specs.declared.cid.Codec.TheVariants.{DagPb}
use Rattle.uf_murmur.specs.Slots.{slot}
use Rattle.uf_tree.specs.declared.nodes.Item.{Item}
use Rattle.uf_tree.specs.declared.nodes.Item.TheVariants.{Leaf, Sub}
use Rattle.uf_tree.specs.declared.meta.Meta.{Meta}
use Rattle.uf_tree.specs.FilePlan.{Plan}
use Rattle.uf_tree.specs.Metas.{none}
use Rattle.uf_tree.specs.Names.{names_cmp}
use Rattle.uf_tree.specs.Nodes.{Named, InSlot, node_entry, item_entry, shard_block}

-- what f gives at each of the n numbers from a on, where it gives something
unfoldable pub tabulate : {A : Type 0} → ℕ → ℕ → (ℕ → Option A) → List (ℕ × A)
tabulate zero a f = []
tabulate (suc n) a f = cons_option (option_map (λ x. (a, x)) (f a)) (tabulate n (suc a) f)

-- what f gives at each of the n numbers from a on, one after the other
unfoldable pub flat_tabulate : {A : Type 0} → ℕ → ℕ → (ℕ → List A) → List A
flat_tabulate zero a f = []
flat_tabulate (suc n) a f = f a ++ flat_tabulate n (suc a) f

-- the first name that has a twin after it by a test, and the first of its twins
unfoldable pub twins : (List ℕ → List ℕ → Bool) → List Named → Option (List ℕ × List ℕ)
twins same [] = None
twins same (e ∷ l) = elim (find (λ (f : Named). same e.0 f.0) l) [ None ↦ twins same l | Some f ↦ Some (e.0, f.0) ]

-- what a slot has: nothing of no pair, the entry of one pair, the shard that `deeper` gives of more
abbrev pub slot_item : (List Named → Plan) → List Named → Option Item
slot_item deeper [] = None
slot_item deeper (e ∷ []) = Some (Leaf e.0 e.1)
slot_item deeper (e ∷ f ∷ l) = Some (Sub (deeper (e ∷ f ∷ l)).entry)

-- the shard blocks below a slot
abbrev pub slot_blocks : (List Named → Plan) → List Named → List Held
slot_blocks deeper [] = []
slot_blocks deeper (e ∷ []) = []
slot_blocks deeper (e ∷ f ∷ l) = (deeper (e ∷ f ∷ l)).blocks

-- what is shared by more than one pair, and nothing of fewer
abbrev pub where_shared : List Named → List Held → List Held
where_shared [] below = []
where_shared (e ∷ []) below = []
where_shared (e ∷ f ∷ l) below = below

module _ (N : List ℕ → ℕ) where
  -- the pairs whose slot at level k is s
  abbrev pub bucket : ℕ → ℕ → List Named → List Named
  bucket k s l = where_key names_cmp (λ name. slot (N name) k == s) l

  -- the slots of a shard at level k that have something
  abbrev pub shard_items : (List Named → Plan) → ℕ → List Named → List InSlot
  shard_items deeper k l = tabulate 256 0 (λ s. slot_item deeper (bucket k s l))

  -- the shard blocks below a shard at level k, in the order of its slots
  abbrev pub shard_below : (List Named → Plan) → ℕ → List Named → List Held
  shard_below deeper k l = flat_tabulate 256 0 (λ s. slot_blocks deeper (bucket k s l))

  -- two names have the same slots from the level with n below it to level 7
  abbrev pub same_slots : ℕ → List ℕ → List ℕ → Bool
  same_slots zero a b = slot (N a) 7 == slot (N b) 7
  same_slots (suc left) a b = (slot (N a) (6 - left) == slot (N b) (6 - left)) && same_slots left a b

  -- two names have one hash
  abbrev pub same_hash : List ℕ → List ℕ → Bool
  same_hash a b = N a == N b

module _ (X : List ℕ → List ℕ) (N : List ℕ → ℕ) where
  -- the block of a shard with this metadata and these slots
  abbrev pub shard_held : Meta → List InSlot → Held
  shard_held m items = (cid_of X DagPb (shard_block m items), shard_block m items)

  -- one shard at level k: the entry of its block, its block, and the blocks below it
  abbrev pub shard_at : (List Named → Plan) → ℕ → Meta → List Named → Plan
  shard_at deeper k m l = let items = shard_items N deeper k l in record {
    entry = node_entry X (shard_block m items) (map (λ (p : InSlot). item_entry p.1) items);
    blocks = shard_held m items ∷ shard_below N deeper k l;
  }

  -- below level 7 no shard stands; this fills its place where two names share all slots
  abbrev pub no_shard : List Named → Plan
  no_shard l = record { entry = node_entry X [] []; blocks = [] }

  -- the shard that has n levels below it: level 7 has none, level 0 has 7; the shards below it have no metadata
  unfoldable pub shard : ℕ → Meta → List Named → Plan
  unfolding tabulate flat_tabulate
  shard zero m l = shard_at no_shard 7 m l
  shard (suc left) m l = shard_at (shard left none) (6 - left) m l

  -- the plan of the shard at level k: none of no pairs, and none where two names share all slots from level k on
  abbrev pub shard_plan : ℕ → Meta → List Named → Option Plan
  shard_plan k m [] = None
  shard_plan k m (e ∷ l) = elim (twins (same_slots N (7 - k)) (e ∷ l))
      [ None ↦ Some (shard (7 - k) m (e ∷ l)) | Some names ↦ None ]

  -- the blocks that decide a name in a shard: its own, and those of the shard below in the name's slot, where one
  -- stands
  unfoldable pub shard_trail : ℕ → Meta → List Named → List ℕ → List Held
  unfolding shard
  shard_trail zero m l name = shard_held m (shard_items N no_shard 7 l) ∷ []
  shard_trail (suc left) m l name =
      let shared = bucket N (6 - left) (slot (N name) (6 - left)) l in
      shard_held m (shard_items N (shard left none) (6 - left) l)
      ∷ where_shared shared (shard_trail left none shared name)
