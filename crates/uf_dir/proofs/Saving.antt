-- Saves among the own blocks of a directory.
use Rattle.std.proofs.Common.{◌≡◌, ℕ, ◌++◌, ◌≤◌, List, [], ◌∷◌, arith, sym, subst, Bool, true, false, cond}
use Rattle.uf_cid.specs.Blocks.{Held}
use Rattle.uf_cid.specs.Cid.{cid_of}
use Rattle.uf_cid.specs.declared.cid.Cid.{Cid}
use Rattle.uf_cid.specs.declared.cid.Codec.TheVariants.{DagPb}
use Rattle.uf_store.specs.Among.{SavesAmong}
use Rattle.uf_store.specs.Calls.{Calm}
use Rattle.uf_store.specs.Contents.{Told}
use Rattle.uf_store.specs.Faults.{StaysCalm}
use Rattle.uf_store.specs.Keeping.{Agrees, StaysAgreed}
use Rattle.uf_store.specs.Lost.{AgreesAfter}
use Rattle.uf_store.specs.Seen.{Seen}
use Rattle.uf_store.specs.Writing.{IsSave, SavesOnly}
use Rattle.uf_store.proofs.Among.{SavesAmong-more, SavesAmong-trans, among-left, among-right}
use Rattle.uf_store.proofs.Writing.{agrees-between}
use Rattle.uf_edge.specs.Counts.{Stood}
use Rattle.uf_tree.specs.declared.meta.Meta.{Meta}
use Rattle.uf_tree.specs.declared.nodes.Entry.{Entry}
use Rattle.uf_tree.specs.declared.profile.Profile.{Profile}
use Rattle.uf_tree.specs.Changes.{without}
use Rattle.uf_tree.specs.DirPlan.{basic_dir, is_sharded, weight}
use Rattle.uf_tree.specs.Metas.{none}
use Rattle.uf_tree.specs.Nodes.{Named, dir_block}
use Rattle.uf_tree.specs.Roots.{dir_root}
use Rattle.uf_tree.specs.ShardPlan.{shard, shard_held, shard_items}
use Rattle.uf_tree.proofs.Canonical.{light}
use Rattle.uf_shard.specs.Answers.{shard_node_held}
use Rattle.uf_shard.specs.Planned as shards
use Rattle.uf_shard.specs.Taken.{left_without}
use Rattle.uf_shard.specs.declared.removed.Removed.TheVariants.{Empty, Left}
use Rattle.uf_dir.specs.Left.{CanRise}
use Rattle.uf_dir.specs.Planned.{dir_held, own_blocks, removal_blocks}
use Rattle.uf_dir.proofs.Apart.{empty-block, empty_block}
use Rattle.uf_dir.proofs.Changing.{agrees-of, can-rise, emptied, light_bound, lighter, shortened, shortened-plan}
use Rattle.uf_dir.proofs.Planning.{empty-light}

module _ (X : List ℕ → List ℕ) (N : List ℕ → ℕ) (p : Profile) (meta : Meta) (l : List Named) (a b : Told) where
  -- the own blocks by the form
  pub light-saves : is_sharded p l ≡ false → SavesAmong X (dir_held X meta l ∷ []) a b → SavesAmong X (own_blocks X N p meta l) a b
  light-saves e h = subst (λ (t : Bool). SavesAmong X (cond t (shard X N 7 meta l) (basic_dir X N meta l)).blocks a b) (sym e) h

  pub heavy-saves : is_sharded p l ≡ true → SavesAmong X (shard X N 7 meta l).blocks a b → SavesAmong X (own_blocks X N p meta l) a b
  heavy-saves e h = subst (λ (t : Bool). SavesAmong X (cond t (shard X N 7 meta l) (basic_dir X N meta l)).blocks a b) (sym e) h

  -- the root by the form
  pub light-root-saves : is_sharded p l ≡ false → SavesAmong X (dir_held X meta l ∷ []) a b → SavesAmong X (dir_root X N p meta l ∷ []) a b
  light-root-saves e h = subst (λ (t : Bool). SavesAmong X (cond t (shard_held X N meta (shard_items N (shard X N 6 none) 0 l)) (cid_of X DagPb (dir_block meta l), dir_block meta l) ∷ []) a b) (sym e) h

  pub heavy-root-saves : is_sharded p l ≡ true → SavesAmong X (shard_node_held X meta (shard_items N (shard X N 6 none) 0 l) ∷ []) a b → SavesAmong X (dir_root X N p meta l ∷ []) a b
  heavy-root-saves e h = subst (λ (t : Bool). SavesAmong X (cond t (shard_held X N meta (shard_items N (shard X N 6 none) 0 l)) (cid_of X DagPb (dir_block meta l), dir_block meta l) ∷ []) a b) (sym e) h

-- what is saved behind a call that saved nothing
pub later-saves : (X : List ℕ → List ℕ) (blocks old : List Held) (before mid : Seen) (now : Told) → mid.told ≡ before.told → StaysCalm before mid → (Agrees mid.told old → CanRise mid → SavesAmong X blocks mid.told now)
    → Agrees before.told old → CanRise before → SavesAmong X blocks before.told now
later-saves X blocks old before mid now same calm saves agrees can =
    subst (λ (t : Told). SavesAmong X blocks t now) same (saves (subst (λ (t : Told). Agrees t old) (sym same) agrees) (can-rise before mid calm can))

-- the empty directory
pub empty-saves : (X : List ℕ → List ℕ) (N : List ℕ → ℕ) (p : Profile) (a b : Told) → SavesAmong X ((cid_of X DagPb empty_block, empty_block) ∷ []) a b → SavesAmong X (own_blocks X N p none []) a b
empty-saves X N p a b h = light-saves X N p none [] a b (empty-light p) (subst (λ (bytes : List ℕ). SavesAmong X ((cid_of X DagPb bytes, bytes) ∷ []) a b) (sym empty-block) h)

-- a directory in one block stays in one block without a name
pub lighter-left : (p : Profile) (name : List ℕ) (l : List Named) → is_sharded p l ≡ false → is_sharded p (without name l) ≡ false
lighter-left p name l e =
    let most : weight l ≤ p.threshold = light p l e in
    light_bound p.threshold (weight (without name l)) (omega (arith, lighter name l, most))

-- ---- the blocks of a removal

module _ (X : List ℕ → List ℕ) (N : List ℕ → ℕ) (p : Profile) (meta : Meta) (name : List ℕ) (l : List Named) (a b : Told) where
  abbrev pub shards_and_own : List Held
  shards_and_own = (shard X N 7 meta (without name l)).blocks ++ own_blocks X N p meta (without name l)

  pub basic-removal : is_sharded p l ≡ false → SavesAmong X (dir_held X meta (without name l) ∷ []) a b → SavesAmong X (removal_blocks X N p meta name l) a b
  basic-removal e h =
      subst (λ (t : Bool). SavesAmong X (cond t shards_and_own (own_blocks X N p meta (without name l))) a b) (sym e)
      (light-saves X N p meta (without name l) a b (lighter-left p name l e) h)

  pub sharded-removal : is_sharded p l ≡ true → SavesAmong X shards_and_own a b → SavesAmong X (removal_blocks X N p meta name l) a b
  sharded-removal e h = subst (λ (t : Bool). SavesAmong X (cond t shards_and_own (own_blocks X N p meta (without name l))) a b) (sym e) h

  pub shards-saved : SavesAmong X (shard X N 7 meta (without name l)).blocks a b → SavesAmong X shards_and_own a b
  shards-saved h = SavesAmong-more X (shard X N 7 meta (without name l)).blocks shards_and_own a b (among-left (shard X N 7 meta (without name l)).blocks (own_blocks X N p meta (without name l))) h

  pub own-saved : SavesAmong X (own_blocks X N p meta (without name l)) a b → SavesAmong X shards_and_own a b
  own-saved h = SavesAmong-more X (own_blocks X N p meta (without name l)) shards_and_own a b (among-right (shard X N 7 meta (without name l)).blocks (own_blocks X N p meta (without name l))) h

-- what is saved where a name is taken out of shards: first among these, and then the directory in one block
module _ (X : List ℕ → List ℕ) (N : List ℕ → ℕ) (p : Profile) (meta : Meta) (root : Cid) (name : List ℕ) (l : List Named) (plan : shards.IsPlanned X N root meta l)
    (before mid now : Seen) (stays : StaysAgreed before.told now.told (shard X N 7 meta l).blocks) (calm : StaysCalm before mid) (can : CanRise before)
    (first : SavesAmong X (shard X N 7 meta (without name l)).blocks before.told mid.told) where
  stood : Calm before mid
  stood = record {
    faults = subst (λ (n : ℕ). Stood before.faults n) (sym calm.faults) can.faults;
    clashes = subst (λ (n : ℕ). Stood before.clashes n) (sym calm.clashes) can.clashes;
  }

  -- what is answered of the shards where no count rose
  abbrev pub Says : Type 0 → Type 0
  Says P = shards.IsPlanned X N root meta l → Agrees before.told (shard X N 7 meta l).blocks → Stood before.faults mid.faults → Stood before.clashes mid.clashes → P

  given : (P : Type 0) → Says P → P
  given P says = says plan stays.first stood.faults stood.clashes

  both : SavesAmong X (own_blocks X N p meta (without name l)) mid.told now.told → SavesAmong X (shards_and_own X N p meta name l before.told now.told) before.told now.told
  both then = SavesAmong-trans X (shards_and_own X N p meta name l before.told now.told) before.told mid.told now.told
      (shards-saved X N p meta name l before.told mid.told first) (own-saved X N p meta name l mid.told now.told then)

  -- nothing is left
  pub emptied-saves : (pairs : List Named) → pairs ≡ [] → Says (Empty ≡ left_without X N name meta l) → SavesAmong X (dir_held X meta pairs ∷ []) mid.told now.told → SavesAmong X (shards_and_own X N p meta name l before.told now.told) before.told now.told
  emptied-saves pairs nothing says h =
      let none_left : without name l ≡ [] = (emptied X N p meta name l (given _ says)).nothing in
      both (subst (λ (m : List Named). SavesAmong X (own_blocks X N p meta m) mid.told now.told) (sym none_left)
      (light-saves X N p meta [] mid.told now.told (empty-light p) (subst (λ (m : List Named). SavesAmong X (dir_held X meta m ∷ []) mid.told now.told) nothing h)))

  -- shards are left
  pub settled-saves : SavesOnly X before.told mid.told → SavesOnly X mid.told now.told → (e : Entry) → Says (Left e ≡ left_without X N name meta l)
      → (shards.IsPlanned X N root meta l → StaysAgreed before.told mid.told (shard X N 7 meta l).blocks → AgreesAfter before.told mid.told (shard X N 7 meta l).blocks (shard X N 7 meta (without name l)).blocks)
      → ((M : List ℕ → ℕ) (k : List Named) → shards.IsPlanned X M e.cid meta k → Agrees mid.told (shard X M 7 meta k).blocks → CanRise mid → SavesAmong X (own_blocks X M p meta k) mid.told now.told)
      → SavesAmong X (shards_and_own X N p meta name l before.told now.told) before.told now.told
  settled-saves one two e says after settles =
      let short = shortened X N p meta name l e (given _ says) in
      let between = agrees-between X IsSave before.told mid.told now.told (shard X N 7 meta l).blocks one two stays in
      both (settles N (without name l) (shortened-plan X N p meta name l root e plan short)
      (agrees-of before.told mid.told (shard X N 7 meta l).blocks (shard X N 7 meta (without name l)).blocks (after plan (record { first = stays.first; last = between }))) (can-rise before mid calm can))
