-- What a look at the root of a planned directory or file finds.
use Rattle.std.proofs.Common.{◌≡◌, ℕ, ◌+◌, ◌<◌, List, [], ◌∷◌, length, ap, arith, sym, ◌∙◌, subst, inl, inr, Option, Some, None, Bool, true, false}
use Rattle.std.specs.Prelude.{◌≤◌, IfOk, IfSome, OnOk, ⊤}
use Rattle.std.specs.declared.result.Result.{Result}
use Rattle.std.specs.declared.result.Result.TheVariants.{Ok, Err}
use Rattle.uf_cid.specs.Blocks as blocks
use Rattle.uf_cid.specs.Blocks.{Held}
use Rattle.uf_cid.specs.declared.cid.Cid.{Cid}
use Rattle.uf_edge.specs.Counts.{Stood}
use Rattle.uf_store.specs.declared.store.Role.{Role}
use Rattle.uf_store.specs.declared.store.StoreFault.{StoreFault}
use Rattle.uf_store.specs.declared.store.StoreFault.TheVariants.{Failed, Damaged, Missing, BadBlock, Clash, Memory}
use Rattle.uf_store.specs.Contents.{Told, held_at}
use Rattle.uf_store.specs.Faults.{Shows}
use Rattle.uf_store.specs.Keeping.{Agrees, Holds}
use Rattle.uf_store.specs.Lost.{FindsOver, IsFirstLost, IsLossOf, IsLost, LosesFirst, ReadsOver}
use Rattle.uf_store.specs.Seen.{Seen}
use Rattle.uf_tree.specs.declared.nodes.Entry.{Entry}
use Rattle.uf_tree.specs.declared.meta.Meta.{Meta}
use Rattle.uf_tree.specs.declared.profile.Profile.{Profile}
use Rattle.uf_tree.specs.DirPlan.{is_sharded, trail, weight}
use Rattle.uf_tree.specs.declared.nodes.DirNode.{DirNode}
use Rattle.uf_tree.specs.declared.nodes.ShardNode.{ShardNode}
use Rattle.uf_tree.specs.Codecs.{dir_node_block}
use Rattle.uf_tree.specs.Metas.{none}
use Rattle.uf_tree.specs.Nodes.{Named}
use Rattle.uf_tree.specs.Roles.{IsCanonicalDirectory, WithSome}
use Rattle.uf_tree.specs.Roots.{dir_root}
use Rattle.uf_tree.specs.ShardPlan.{shard, shard_items}
use Rattle.uf_tree.specs.Validity.{IsDirNode, IsHash}
use Rattle.uf_shard.specs.Listing.{AreRows, in_order}
use Rattle.uf_shard.specs.Planned as shards
use Rattle.uf_shard.proofs.One.{one_shard}
use Rattle.uf_dir.specs.Planned.{IsFitting, IsPlanned, own_blocks}
use Rattle.uf_dir.specs.Roots.{IsLight, IsListed, IsRootOf, IsThere, IsUnread}
use Rattle.uf_dir.specs.declared.root.Root.{Root}
use Rattle.uf_dir.specs.declared.root.Root.TheVariants as root
use Rattle.uf_dir.proofs.Apart.{one_basic, shard-basic}
use Rattle.uf_dir.proofs.Planning.{InOne, InShards, RootForm, blocks-from_root, blocks-sharded, planned-cid, planned-sharded, root-canonical, root-form, trail-from_root}

-- ---- the first of some blocks, of which the CID is known

module _ (cid : Cid) (b : Held) (rest : List Held) (same : cid ≡ b.0) where
  -- what is held under the CID is that block
  pub the_block : (told : Told) (lent : List ℕ) → Agrees told (b ∷ rest) → IfSome told (λ t. held_at t cid ≡ Some lent) → lent ≡ b.1
  the_block None lent agrees held = absurd agrees
  the_block (Some t) lent agrees held = by (held_at t cid) held (subst (λ (c : Cid). IfSome (held_at t c) (λ bytes. bytes ≡ b.1)) (sym same) agrees.0)
    where
      by : (o : Option (List ℕ)) → o ≡ Some lent → IfSome o (λ bytes. bytes ≡ b.1) → lent ≡ b.1
      by None e h = absurd (let none : None ≡ Some lent = e in cc)
      by (Some found) e h = (let one : found ≡ lent = cc in sym one) ∙ h

  pub the_held : (told : Told) (lent : List ℕ) → Agrees told (b ∷ rest) → IfSome told (λ t. held_at t cid ≡ Some lent) → Holds told (b ∷ [])
  the_held None lent agrees held = tt
  the_held (Some t) lent agrees held = (ap (held_at t) (sym same) ∙ held ∙ ap (λ (x : List ℕ). Some x) (the_block (Some t) lent agrees held), tt)

  pub the_lost : (told : Told) (c : Cid) → c ≡ cid → IfSome told (λ t. held_at t cid ≡ None) → LosesFirst told c (b ∷ rest)
  the_lost None c is h = tt
  the_lost (Some t) c is h = inl (is ∙ same, ap (held_at t) (sym same) ∙ h)

  -- a block that wasn't read is lost, where it would have been canonical and the store hasn't failed
  pub unread : {A : Type 0} (X : List ℕ → List ℕ) (IsBad : Role → List ℕ → Type 0) (profile : Option Profile) (required : Bool) (before now : Seen) (fault : StoreFault) (value : A)
      → IsCanonicalDirectory profile required b.1 → IsUnread profile required cid before now fault → Shows X IsBad fault before now
      → Agrees before.told (b ∷ rest) → Stood before.faults now.faults → FindsOver before.told (b ∷ rest) value (Err fault)
  unread X IsBad profile required before now Failed value canonical is shows agrees stood = let r = shows.rose in omega (arith, r, stood)
  unread X IsBad profile required before now (Damaged c) value canonical is shows agrees stood = let r = shows.rose in omega (arith, r, stood)
  unread X IsBad profile required before now (Missing c) value canonical is shows agrees stood = the_lost before.told c is.0 is.1
  unread X IsBad profile required before now (BadBlock c role) value canonical is shows agrees stood =
      is.bad (subst (IsCanonicalDirectory profile required) (sym (the_block before.told now.lent agrees is.there.held)) canonical)
  unread X IsBad profile required before now (Clash c first second) value canonical is shows agrees stood = is
  unread X IsBad profile required before now Memory value canonical is shows agrees stood = tt

-- the first that is lost is one that is lost
pub one_lost : (held : blocks.Lookup) (c : Cid) (l : List Held) → IsFirstLost held c l → IsLost held c l
one_lost held c [] h = h
one_lost held c (b ∷ l) (inl h) = inl h
one_lost held c (b ∷ l) (inr h) = inr (one_lost held c l h.1)

pub loss-from_finds : {A : Type 0} (told : Told) (l : List Held) (value : A) (fault : StoreFault) → FindsOver told l value (Err fault) → IsLossOf told l fault
loss-from_finds told l value Failed h = h
loss-from_finds told l value (Damaged c) h = h
loss-from_finds None l value (Missing c) h = tt
loss-from_finds (Some t) l value (Missing c) h = one_lost (held_at t) c l h
loss-from_finds told l value (BadBlock c role) h = h
loss-from_finds told l value (Clash c first second) h = h
loss-from_finds told l value Memory h = tt

module _ (X : List ℕ → List ℕ) (good : IsHash X) (N : List ℕ → ℕ) (p : Profile) (meta : Meta) (cid : Cid) (l : List Named) (is : IsPlanned X N p meta cid l) where
  -- ---- the root that was read is that of the plan

  -- the root of a directory in one block, and in shards
  abbrev pub basic_of : DirNode
  basic_of = record { pairs = l; meta = meta }

  abbrev pub sharded_of : ShardNode
  sharded_of = record { items = shard_items N (shard X N 6 none) 0 l; meta = meta }

  basic-valid : IsDirNode basic_of
  basic-valid = record { pairs = is.valid; meta = is.good }

  pub read-basic : (rest : List Held) (before now : Seen) (node : DirNode) → Agrees before.told (dir_root X N p meta l ∷ rest) → IsThere cid before now → IsRootOf now.lent (root.Basic node)
      → (is_sharded p l ≡ false) × (node ≡ basic_of)
  read-basic rest before now node agrees there read = by (root-form X N p meta l good is.valid)
    where
      block : now.lent ≡ (dir_root X N p meta l).1
      block = the_block cid (dir_root X N p meta l) rest (planned-cid X N p meta l cid is) before.told now.lent agrees there.held

      by : RootForm X N p meta l → (is_sharded p l ≡ false) × (node ≡ basic_of)
      by (InOne e root) = (e, one_basic now.lent node basic_of (omega (arith, there.size)) read.0 basic-valid read.1 (block ∙ root))
      by (InShards e root) = absurd (shard-basic sharded_of node (record { items = root.0; meta = is.good }) read.0 (sym root.1 ∙ sym block ∙ read.1))

  pub read-sharded : (rest : List Held) (before now : Seen) (node : ShardNode) → Agrees before.told (dir_root X N p meta l ∷ rest) → IsThere cid before now → IsRootOf now.lent (root.Sharded node)
      → (is_sharded p l ≡ true) × (node ≡ sharded_of)
  read-sharded rest before now node agrees there read = by (root-form X N p meta l good is.valid)
    where
      block : now.lent ≡ (dir_root X N p meta l).1
      block = the_block cid (dir_root X N p meta l) rest (planned-cid X N p meta l cid is) before.told now.lent agrees there.held

      by : RootForm X N p meta l → (is_sharded p l ≡ true) × (node ≡ sharded_of)
      by (InOne e root) = absurd (shard-basic node basic_of read.0 basic-valid (sym read.1 ∙ block ∙ root))
      by (InShards e root) = (e, one_shard node sharded_of read.0 (record { items = root.0; meta = is.good }) (sym read.1 ∙ block ∙ root.1))

  -- ---- a name that is looked up

  module _ (name : List ℕ) where
    pub find-unread : (IsBad : Role → List ℕ → Type 0) (before now : Seen) (fault : StoreFault) (value : Option Entry) → IsUnread None true cid before now fault → Shows X IsBad fault before now
        → Agrees before.told (trail X N p meta l name) → Stood before.faults now.faults → FindsOver before.told (trail X N p meta l name) value (Err fault)
    find-unread IsBad before now fault value unread_is shows agrees stood =
        let from = trail-from_root X N p meta l name in
        subst (λ (path : List Held). FindsOver before.told path value (Err fault)) (sym from.1)
        (unread cid (dir_root X N p meta l) from.0 (planned-cid X N p meta l cid is) X IsBad None true before now fault value (root-canonical X N p meta l good is.good is.valid None tt) unread_is shows
        (subst (Agrees before.told) from.1 agrees) stood)

  -- ---- a directory that is read whole

  pub entries-unread : {A : Type 0} (IsBad : Role → List ℕ → Type 0) (profile : Option Profile) (before now : Seen) (fault : StoreFault) (value : A) → WithSome profile (λ known. known ≡ p)
      → IsUnread profile true cid before now fault → Shows X IsBad fault before now → Agrees before.told (own_blocks X N p meta l) → Stood before.faults now.faults → ReadsOver before.told (own_blocks X N p meta l) value (Err fault)
  entries-unread IsBad profile before now fault value known unread_is shows agrees stood =
      let from = blocks-from_root X N p meta l in
      loss-from_finds before.told (own_blocks X N p meta l) value fault
      (subst (λ (path : List Held). FindsOver before.told path value (Err fault)) (sym from.1)
      (unread cid (dir_root X N p meta l) from.0 (planned-cid X N p meta l cid is) X IsBad profile true before now fault value (root-canonical X N p meta l good is.good is.valid profile known) unread_is shows
      (subst (Agrees before.told) from.1 agrees) stood))

  pub entries-basic : (before now : Seen) (found : Root) (node : DirNode) → found ≡ root.Basic node → IsThere cid before now × IsRootOf now.lent found → Agrees before.told (own_blocks X N p meta l) → node ≡ basic_of
  entries-basic before now found node at looks agrees =
      let from = blocks-from_root X N p meta l in
      (read-basic from.0 before now node (subst (Agrees before.told) from.1 agrees) looks.0 (subst (IsRootOf now.lent) at looks.1)).1

  -- a directory that is read in one block is light
  pub basic-light : (before now : Seen) (found : Root) (node : DirNode) → found ≡ root.Basic node → IsThere cid before now × IsRootOf now.lent found → Agrees before.told (own_blocks X N p meta l) → is_sharded p l ≡ false
  basic-light before now found node at looks agrees =
      let from = blocks-from_root X N p meta l in
      (read-basic from.0 before now node (subst (Agrees before.told) from.1 agrees) looks.0 (subst (IsRootOf now.lent) at looks.1)).0

  -- the root was read as a shard
  module _ (before mid : Seen) (found : Root) (node : ShardNode) (at : found ≡ root.Sharded node) (looks : IsThere cid before mid × IsRootOf mid.lent found) (same : mid.told ≡ before.told) (agrees : Agrees before.told (own_blocks X N p meta l)) where
    pub sharded_is : is_sharded p l ≡ true
    sharded_is =
        let from = blocks-from_root X N p meta l in
        (read-sharded from.0 before mid node (subst (Agrees before.told) from.1 agrees) looks.0 (subst (IsRootOf mid.lent) at looks.1)).0

    -- its metadata is the directory's
    pub sharded-meta : node.meta ≡ meta
    sharded-meta =
        let from = blocks-from_root X N p meta l in
        ap (λ (n : ShardNode). n.meta) (read-sharded from.0 before mid node (subst (Agrees before.told) from.1 agrees) looks.0 (subst (IsRootOf mid.lent) at looks.1)).1

    agrees_below : Agrees before.told (shard X N 7 meta l).blocks
    agrees_below = subst (Agrees before.told) (blocks-sharded X N p meta l sharded_is) agrees

    -- what the shards answer where they are read
    abbrev pub ReadBelow : Seen → Result (List Named) StoreFault → Type 0
    ReadBelow now r = (M : List ℕ → ℕ) (n : Meta) (k : List Named) → shards.IsPlanned X M cid n k → Agrees before.told (shard X M 7 n k).blocks → Stood before.faults now.faults → ReadsOver before.told (shard X M 7 n k).blocks k r

    -- a load for each shard
    pub entries-touches : (t0 t1 t2 : ℕ) → t1 ≡ t0 + 1 → ((M : List ℕ → ℕ) (n : Meta) (k : List Named) → shards.IsPlanned X M cid n k → Agrees before.told (shard X M 7 n k).blocks → t2 < t1 + length (shard X M 7 n k).blocks)
        → t2 ≤ t0 + (length (own_blocks X N p meta l) + 1)
    entries-touches t0 t1 t2 first below =
        let most = below N meta l (planned-sharded X N p meta l cid is sharded_is) agrees_below in
        let same = ap (λ (b : List Held). length b) (blocks-sharded X N p meta l sharded_is) in
        omega (arith, most, same, first)

    pub entries-sharded : (now : Seen) (r : Result (List Named) StoreFault) → ReadBelow now r → Stood before.faults now.faults → ReadsOver before.told (own_blocks X N p meta l) l r
    entries-sharded now r below stood =
        subst (λ (path : List Held). ReadsOver before.told path l r) (sym (blocks-sharded X N p meta l sharded_is))
        (below N meta l (planned-sharded X N p meta l cid is sharded_is) agrees_below stood)

-- ---- what is listed of any tree

pub listed-none : (told : Told) → IfSome told (λ t. ⊤)
listed-none None = tt
listed-none (Some t) = tt

pub listed-basic : (cid : Cid) (before now : Seen) (found : Root) (node : DirNode) → found ≡ root.Basic node → IsThere cid before now × IsRootOf now.lent found → IfSome before.told (λ t. IsListed (held_at t) cid node.pairs)
listed-basic cid before now found node at looks = by before.told looks.0.held
  where
    by : (told : Told) → IfSome told (λ t. held_at t cid ≡ Some now.lent) → IfSome told (λ t. IsListed (held_at t) cid node.pairs)
    by None held = tt
    by (Some t) held = let is = subst (IsRootOf now.lent) at looks.1 in inl (node.meta, (is.0.meta, held ∙ ap (λ (b : List ℕ). Some b) is.1))

pub listed-sharded : (cid : Cid) (told : Told) (r : Result (List Named) StoreFault) → IfSome told (λ t. IfOk r (λ l. (rows : List Named) × AreRows (held_at t) 7 cid rows × (l ≡ in_order rows)))
    → IfSome told (λ t. IfOk r (IsListed (held_at t) cid))
listed-sharded cid None r h = tt
listed-sharded cid (Some t) (Ok l) h = inr h
listed-sharded cid (Some t) (Err fault) h = tt

-- a directory in one block that is held isn't too heavy, where its root was read
pub fitting : (p : Profile) (cid : Cid) (before now : Seen) (found : Root) → IsThere cid before now × IsRootOf now.lent found → IsLight (Some p) found → IsFitting p cid before.told
fitting p cid before now found looks light = by before.told looks.0.held
  where
    heavy : (r : Root) → IsRootOf now.lent r → IsLight (Some p) r → (node : DirNode) → IsDirNode node → now.lent ≡ dir_node_block node → weight node.pairs ≤ p.threshold
    heavy (root.Basic found) is light node valid same = subst (λ (n : DirNode). weight n.pairs ≤ p.threshold) (one_basic now.lent found node (omega (arith, looks.0.size)) is.0 valid is.1 same) light
    heavy (root.Sharded found) is light node valid same = absurd (shard-basic found node is.0 valid (sym is.1 ∙ same))

    by : (told : Told) → IfSome told (λ t. held_at t cid ≡ Some now.lent) → IsFitting p cid told
    by None held = tt
    by (Some t) held = λ node valid there. heavy found looks.1 light node valid (let same : Some now.lent ≡ Some (dir_node_block node) = sym held ∙ there in cc)

pub fitting-at : {A E : Type 0} (r : Result A E) (p : Profile) (cid : Cid) (before now : Seen) (found : Root) → IsThere cid before now × IsRootOf now.lent found → IsLight (Some p) found → OnOk r (IsFitting p cid before.told)
fitting-at (Ok x) p cid before now found looks light = fitting p cid before now found looks light
fitting-at (Err e) p cid before now found looks light = tt

-- what holds whatever is answered
pub always-ok : {A E : Type 0} (r : Result A E) (P : Type 0) → P → OnOk r P
always-ok (Ok a) P p = p
always-ok (Err e) P p = tt
