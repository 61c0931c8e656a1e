-- The blocks of plans.
use Rattle.std.proofs.Common.{◌≡◌, ℕ, zero, suc, ◌-◌, ◌^◌, ◌<◌, List, [], ◌∷◌, length, map, refl, ap, arith, Bool, true, false, cond, Option, Some, None}
use Rattle.std.specs.Prelude.{if◌then◌else◌}
use Rattle.std.specs.List.{AllByRecursion, flat_map}
use Rattle.std.proofs.lemmas.Bool.Decides.{nat_tests}
use Rattle.uf_cid.specs.Blocks.{Held}
use Rattle.uf_murmur.specs.Slots.{slot}
use Rattle.uf_tree.specs.declared.meta.Meta.{Meta}
use Rattle.uf_tree.specs.declared.nodes.Part.{Part}
use Rattle.uf_tree.specs.declared.profile.Profile.{Profile}
use Rattle.uf_tree.specs.DirPlan.{own_plan, basic_dir, dir_plan, trail, is_sharded}
use Rattle.uf_tree.specs.FilePlan.{Plan, file_plan, chunks, climb, groups, split_from, leaf_part, leaf_held, node_part, node_held, root_held, top_held}
use Rattle.uf_tree.specs.Metas.{is_bare, none}
use Rattle.uf_tree.specs.Nodes.{Named}
use Rattle.uf_tree.specs.ShardPlan.{shard, shard_plan, shard_trail, slot_blocks, bucket, no_shard, where_shared, twins, same_slots, same_hash}
use Rattle.uf_tree.specs.Tree.{Tree, File, Dir, Entries, Nothing, With, own_meta, fold, fold_each}
use Rattle.uf_tree.specs.TreePlan.{Planned, planned, planned_file, planned_dir, members, blocks}
use Rattle.uf_tree.proofs.Climb.{by_rest}
use Rattle.uf_tree.proofs.Each.{both, each_map, each_flat_tabulate, at_flat_tabulate}
use Rattle.uf_tree.proofs.ShardLaws.{slot-bound}
use Rattle.uf_tree.proofs.Twins.{twins-same, same_slots-hash}

module _ (X : List ℕ → List ℕ) (N : List ℕ → ℕ) where
  -- a block under a CID with its digest
  abbrev pub Digested : Held → Type 0
  Digested b = b.0.digest ≡ X b.1

  climb-digested : (w fuel : ℕ) (row : List Part) → AllByRecursion Digested (climb X w fuel row).0
  unfolding climb
  climb-digested w zero row = tt
  climb-digested w (suc fuel) row = by (split_from w w row).1 (climb-digested w fuel (map (node_part X) (groups w row)))
    where
      by : (rest : List (List Part)) → AllByRecursion Digested (climb X w fuel (map (node_part X) (groups w row))).0 → AllByRecursion Digested (by_rest X w fuel row rest).0
      by [] later = tt
      by (g ∷ gs) later = both Digested (map (node_held X) (groups w row)) _ (each_map Digested (node_held X) (groups w row) (λ g. refl)) later

  top-digested : (m : Meta) (row : List Part) → AllByRecursion Digested (top_held X m row)
  top-digested m [] = tt
  top-digested m (a ∷ []) = elim (is_bare m) as (λ t. AllByRecursion Digested (cond t [] (root_held X m (a ∷ []) ∷ []))) [ true ↦ tt | false ↦ (refl, tt) ]
  top-digested m (a ∷ b ∷ row) = (refl, tt)

  pub file-digested : (p : Profile) (m : Meta) (bytes : List ℕ) → AllByRecursion Digested (file_plan X p m bytes).blocks
  unfolding file_plan
  file-digested p m bytes =
      let under = climb X p.width (length (chunks p bytes)) (map (leaf_part X) (chunks p bytes)) in
      both Digested (map (leaf_held X) (chunks p bytes)) _ (each_map Digested (leaf_held X) (chunks p bytes) (λ g. refl))
      (both Digested under.0 (top_held X m under.1) (climb-digested p.width (length (chunks p bytes)) (map (leaf_part X) (chunks p bytes))) (top-digested m under.1))

  slot-digested : (deeper : List Named → Plan) → ((l : List Named) → AllByRecursion Digested (deeper l).blocks) → (l : List Named) → AllByRecursion Digested (slot_blocks deeper l)
  slot-digested deeper h [] = tt
  slot-digested deeper h (e ∷ []) = tt
  slot-digested deeper h (e ∷ f ∷ l) = h (e ∷ f ∷ l)

  pub shard-digested : (left : ℕ) (m : Meta) (l : List Named) → AllByRecursion Digested (shard X N left m l).blocks
  unfolding shard
  shard-digested zero m l = (refl, each_flat_tabulate Digested 256 0 _ (λ s. slot-digested (no_shard X N) (λ l. tt) (bucket N 7 s l)))
  shard-digested (suc left) m l = (refl, each_flat_tabulate Digested 256 0 _ (λ s. slot-digested (shard X N left none) (shard-digested left none) (bucket N (6 - left) s l)))

  pub own-digested : (p : Profile) (m : Meta) (l : List Named) → AllByRecursion Digested (own_plan X N p m l).blocks
  own-digested p m l = elim (is_sharded p l) as (λ b. AllByRecursion Digested (cond b (shard X N 7 m l) (basic_dir X N m l)).blocks) [
    | true ↦ shard-digested 7 m l
    | false ↦ (refl, tt)
  ]

  mutual
    unfolding planned fold

    pub tree-digested : (p : Profile) (t : Tree) → AllByRecursion Digested (blocks X N p t)
    tree-digested p (File m bytes) = file-digested p m bytes
    tree-digested p (Dir es) = both Digested (flat_map (λ (m : List ℕ × Planned). m.1.plan.blocks) (fold_each (planned_file X N p) (planned_dir X N p) es)) _ (trees-digested p es) (own-digested p (own_meta es) (members X N p (fold_each (planned_file X N p) (planned_dir X N p) es)))

    pub trees-digested : (p : Profile) (es : Entries) → AllByRecursion Digested (flat_map (λ (m : List ℕ × Planned). m.1.plan.blocks) (fold_each (planned_file X N p) (planned_dir X N p) es))
    trees-digested p (Nothing m) = tt
    trees-digested p (With name t es) = both Digested (blocks X N p t) _ (tree-digested p t) (trees-digested p es)

  module _ (P : Held → Type 0) where
    -- a name's trail is among the blocks
    shared-trail : (below : List Named → Plan) (l : List Named) (path : List Held) → (AllByRecursion P (below l).blocks → AllByRecursion P path) → AllByRecursion P (slot_blocks below l) → AllByRecursion P (where_shared l path)
    shared-trail below [] path h k = tt
    shared-trail below (e ∷ []) path h k = tt
    shared-trail below (e ∷ f ∷ l) path h k = h k

    pub shard_trail-among : (left : ℕ) (m : Meta) (l : List Named) (name : List ℕ) → AllByRecursion P (shard X N left m l).blocks → AllByRecursion P (shard_trail X N left m l name)
    unfolding shard shard_trail
    shard_trail-among zero m l name h = (h.0, tt)
    shard_trail-among (suc left) m l name h =
        let s = slot (N name) (6 - left) in
        let shared = bucket N (6 - left) s l in (
          h.0,
          shared-trail (shard X N left none) shared (shard_trail X N left none shared name) (shard_trail-among left none shared name)
              (at_flat_tabulate P 256 0 (λ s. slot_blocks (shard X N left none) (bucket N (6 - left) s l)) s (omega arith) (let bound : s < 256 = slot-bound (N name) (6 - left) in omega arith) h.1),
        )

    pub trail-among : (p : Profile) (m : Meta) (l : List Named) (name : List ℕ) → AllByRecursion P (own_plan X N p m l).blocks → AllByRecursion P (trail X N p m l name)
    trail-among p m l name = elim (is_sharded p l) as (λ b. AllByRecursion P (cond b (shard X N 7 m l) (basic_dir X N m l)).blocks → AllByRecursion P (cond b (shard_trail X N 7 m l name) (basic_dir X N m l).blocks)) [
      | true ↦ shard_trail-among 7 m l name
      | false ↦ λ h. h
    ]

  not_light : (p : Profile) → is_sharded p [] ≡ true → ⊥
  not_light p h = grind (arith, nat_tests)

  abbrev unless : Option (List ℕ × List ℕ) → Plan → Option Plan
  unless o plan = elim o [ None ↦ Some plan | Some names ↦ None ]

  -- a directory has a plan unless it is sharded and two of its names have one hash
  pub dir_plan-own : ((name : List ℕ) → N name < 2 ^ 64) → (p : Profile) (m : Meta) (l : List Named)
      → dir_plan X N p m l ≡ unless (if is_sharded p l then twins (same_hash N) l else None) (own_plan X N p m l)
  dir_plan-own fits p m [] = by (is_sharded p []) refl
    where
      by : (b : Bool) → is_sharded p [] ≡ b → cond b (shard_plan X N 0 m []) (Some (basic_dir X N m [])) ≡ unless (cond b (twins (same_hash N) []) None) (cond b (shard X N 7 m []) (basic_dir X N m []))
      by true e = absurd (not_light p e)
      by false e = refl
  dir_plan-own fits p m (e ∷ l) = elim (is_sharded p (e ∷ l)) as (λ b. cond b (shard_plan X N 0 m (e ∷ l)) (Some (basic_dir X N m (e ∷ l))) ≡ unless (cond b (twins (same_hash N) (e ∷ l)) None) (cond b (shard X N 7 m (e ∷ l)) (basic_dir X N m (e ∷ l)))) [
    | true ↦ ap (λ o. unless o (shard X N 7 m (e ∷ l))) (twins-same (same_slots N 7) (same_hash N) (λ a b. same_slots-hash N fits a b) (e ∷ l))
    | false ↦ refl
  ]
