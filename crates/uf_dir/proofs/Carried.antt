-- A directory whose metadata is set.
use Rattle.std.proofs.Common.{◌≡◌, ℕ, ◌^◌, List, [], ◌∷◌, refl, ap, sym, ◌∙◌, subst, inl, Some, None, Bool, true, false, cond}
use Rattle.std.specs.Prelude.{IfOk, IsTrue, nat_lt}
use Rattle.std.specs.declared.result.Result.{Result}
use Rattle.std.specs.declared.result.Result.TheVariants.{Ok, Err}
use Rattle.uf_cid.specs.Blocks.{Held}
use Rattle.uf_cid.specs.Cid.{cid_of}
use Rattle.uf_cid.specs.declared.cid.Cid.{Cid}
use Rattle.uf_cid.specs.declared.cid.Codec.TheVariants.{DagPb}
use Rattle.uf_edge.specs.Counts.{Stood}
use Rattle.uf_store.specs.declared.store.Role.{Role}
use Rattle.uf_store.specs.declared.store.StoreFault.{StoreFault}
use Rattle.uf_store.specs.Among.{SavesAmong}
use Rattle.uf_store.specs.Contents.{Told}
use Rattle.uf_store.specs.Faults.{NoneIsBad, Shows, StaysCalm}
use Rattle.uf_store.specs.Keeping.{Agrees, AreGood, Holds, KeepsGood, StaysAgreed}
use Rattle.uf_store.specs.Lost.{AgreesAfter}
use Rattle.uf_store.specs.Seen.{Seen}
use Rattle.uf_store.specs.Writing.{SavesOnly}
use Rattle.uf_tree.specs.declared.meta.Meta.{Meta}
use Rattle.uf_tree.specs.declared.nodes.DirNode.{DirNode}
use Rattle.uf_tree.specs.declared.nodes.Entry.{Entry}
use Rattle.uf_tree.specs.declared.nodes.ShardNode.{ShardNode}
use Rattle.uf_tree.specs.declared.profile.Profile.{Profile}
use Rattle.uf_tree.specs.DirPlan.{basic_dir, is_sharded}
use Rattle.uf_tree.specs.Metas.{is_meta, none}
use Rattle.uf_tree.specs.Nodes.{InSlot, Named, shard_block}
use Rattle.uf_tree.specs.Roots.{dir_root}
use Rattle.uf_tree.specs.ShardPlan.{shard, shard_items}
use Rattle.uf_tree.specs.TreePlan.{Collision as Collides, TooBig as IsTooBig, too_big}
use Rattle.uf_tree.specs.Validity.{IsHash}
use Rattle.uf_shard.specs.Answers.{AtCollision, Gives, GivesOver, Shown, root_entry, shard_node_held}
use Rattle.uf_shard.specs.Changed.{below}
use Rattle.uf_shard.specs.Known.{AreKnown}
use Rattle.uf_shard.specs.declared.fault.DirFault.{DirFault}
use Rattle.uf_shard.specs.declared.fault.DirFault.TheVariants.{Collision, TooBig, Store}
use Rattle.uf_shard.proofs.Knowing.{after-known, known-old}
use Rattle.uf_shard.proofs.Placing.{below-in, shard-good}
use Rattle.uf_dir.specs.Planned.{IsPlanned, dir_entry, dir_held, own_blocks}
use Rattle.uf_dir.specs.Roots.{IsLight, IsRootCid, IsRootOf, IsThere, IsUnread}
use Rattle.uf_dir.specs.declared.root.Root.{Root}
use Rattle.uf_dir.specs.declared.root.Root.TheVariants as root
use Rattle.uf_dir.proofs.Changing.{gives-over, light_bound}
use Rattle.uf_dir.proofs.Edited.{after-held}
use Rattle.uf_dir.proofs.Looked.{loss-from_finds, read-basic, read-sharded, unread}
use Rattle.uf_dir.proofs.Nodes.{planned-root}
use Rattle.uf_dir.proofs.Saving.{heavy-root-saves, light-root-saves}
use Rattle.uf_dir.proofs.Planning.{blocks-sharded, blocks-from_root, light-entry, light-held, planned-cid, root-canonical}

-- the blocks of a shard tree with other metadata: its root, and the same blocks below it
module _ (X : List ℕ → List ℕ) (N : List ℕ → ℕ) (l : List Named) where
  abbrev top : List InSlot
  top = shard_items N (shard X N 6 none) 0 l

  pub shard-entry : (m : Meta) → (shard X N 7 m l).entry ≡ root_entry X m top
  unfolding shard
  shard-entry m = refl

  pub shard-blocks : (m : Meta) → (shard X N 7 m l).blocks ≡ (cid_of X DagPb (shard_block m top), shard_block m top) ∷ below X N 7 l
  unfolding shard
  shard-blocks m = refl

module _ (X : List ℕ → List ℕ) (good : IsHash X) (N : List ℕ → ℕ) (p : Profile) (m : Meta) (cid : Cid) (l : List Named) (is : IsPlanned X N p m cid l) (meta : Meta) where
  abbrev pub head : List Held
  head = dir_root X N p m l ∷ []

  -- the entry by the form
  sharded-entry : is_sharded p l ≡ true → (shard X N 7 meta l).entry ≡ dir_entry X N p meta l
  sharded-entry e = ap (λ (b : Bool). (cond b (shard X N 7 meta l) (basic_dir X N meta l)).entry) (sym e)

  -- what is answered of the new entry
  gives-at : (told : Told) (e : Entry) (r : Result Entry DirFault) (before mid now : Seen) → e ≡ dir_entry X N p meta l → Gives (too_big e.tsize) e r → StaysCalm before mid → Shown X NoneIsBad r mid now
      → Stood before.faults now.faults → Stood before.clashes now.clashes → GivesOver told head (too_big (dir_entry X N p meta l).tsize) (dir_entry X N p meta l) r
  gives-at told e r before mid now same gives calm shown faults clashes =
      gives-over X told head _ _ r before mid now (subst (λ (x : Entry). Gives (too_big x.tsize) x r) same gives) calm shown faults clashes

  pub set-unread : (IsBad : Role → List ℕ → Type 0) (before now : Seen) (fault : StoreFault) → IsUnread (Some p) true cid before now fault → Shows X IsBad fault before now
      → Agrees before.told head → Stood before.faults now.faults → GivesOver before.told head (too_big (dir_entry X N p meta l).tsize) (dir_entry X N p meta l) (Err (Store fault))
  set-unread IsBad before now fault unread_is shows agrees stood =
      loss-from_finds before.told head m fault
      (unread cid (dir_root X N p m l) [] (planned-cid X N p m l cid is) X IsBad (Some p) true before now fault m (root-canonical X N p m l good is.good is.valid (Some p) refl) unread_is shows agrees stood)

  -- ---- in one block

  module _ (before mid : Seen) (found : Root) (node : DirNode) (at : found ≡ root.Basic node) (looks : IsThere cid before mid × IsRootOf mid.lent found) where
    read-pairs : (rest : List Held) → Agrees before.told (dir_root X N p m l ∷ rest) → (is_sharded p l ≡ false) × (node.pairs ≡ l)
    read-pairs rest agrees = let read = read-basic X good N p m cid l is rest before mid node agrees looks.0 (subst (IsRootOf mid.lent) at looks.1) in (read.0, ap (λ (n : DirNode). n.pairs) read.1)

    pub set-basic : (now : Seen) (r : Result Entry DirFault) → ((N : List ℕ → ℕ) → Gives (too_big (basic_dir X N meta node.pairs).entry.tsize) (basic_dir X N meta node.pairs).entry r) → StaysCalm before mid → Shown X NoneIsBad r mid now
        → Agrees before.told head → Stood before.faults now.faults → Stood before.clashes now.clashes → GivesOver before.told head (too_big (dir_entry X N p meta l).tsize) (dir_entry X N p meta l) r
    set-basic now r gives calm shown agrees faults clashes =
        let read = read-pairs [] agrees in
        gives-at before.told (basic_dir X N meta node.pairs).entry r before mid now (ap (λ (k : List Named). (basic_dir X N meta k).entry) read.1 ∙ light-entry X N p meta l read.0) (gives N) calm shown faults clashes

    pub set-basic-saves : (now : Told) → mid.told ≡ before.told → Agrees before.told head → SavesAmong X (dir_held X meta node.pairs ∷ []) mid.told now → SavesAmong X (dir_root X N p meta l ∷ []) before.told now
    set-basic-saves now same agrees h =
        let read = read-pairs [] agrees in
        subst (λ (t : Told). SavesAmong X (dir_root X N p meta l ∷ []) t now) same
        (light-root-saves X N p meta l mid.told now read.0 (subst (λ (k : List Named). SavesAmong X (dir_held X meta k ∷ []) mid.told now) read.1 h))

    pub set-basic-after : (now : Told) → SavesOnly X before.told now → Holds now (basic_dir X N meta node.pairs).blocks → Agrees before.told (own_blocks X N p m l) → AgreesAfter before.told now (own_blocks X N p m l) (own_blocks X N p meta l)
    set-basic-after now saves held agrees =
        let from = blocks-from_root X N p m l in
        let read = read-pairs from.0 (subst (Agrees before.told) from.1 agrees) in
        after-held X before.told now (own_blocks X N p m l) (own_blocks X N p meta l) agrees saves
        (light-held X N p meta l now read.0 (subst (λ (k : List Named). Holds now (basic_dir X N meta k).blocks) read.1 held))

  -- ---- in shards

  module _ (before mid : Seen) (found : Root) (node : ShardNode) (at : found ≡ root.Sharded node) (looks : IsThere cid before mid × IsRootOf mid.lent found) where
    read-slots : (rest : List Held) → Agrees before.told (dir_root X N p m l ∷ rest) → (is_sharded p l ≡ true) × (node.items ≡ top X N l)
    read-slots rest agrees = let read = read-sharded X good N p m cid l is rest before mid node agrees looks.0 (subst (IsRootOf mid.lent) at looks.1) in (read.0, ap (λ (n : ShardNode). n.items) read.1)

    pub set-sharded : (now : Seen) (r : Result Entry DirFault) → Gives (too_big (root_entry X meta node.items).tsize) (root_entry X meta node.items) r → StaysCalm before mid → Shown X NoneIsBad r mid now
        → Agrees before.told head → Stood before.faults now.faults → Stood before.clashes now.clashes → GivesOver before.told head (too_big (dir_entry X N p meta l).tsize) (dir_entry X N p meta l) r
    set-sharded now r gives calm shown agrees faults clashes =
        let read = read-slots [] agrees in
        gives-at before.told (root_entry X meta node.items) r before mid now (ap (root_entry X meta) read.1 ∙ sym (shard-entry X N l meta) ∙ sharded-entry read.0) gives calm shown faults clashes

    pub set-sharded-saves : (now : Told) → mid.told ≡ before.told → Agrees before.told head → SavesAmong X (shard_node_held X meta node.items ∷ []) mid.told now → SavesAmong X (dir_root X N p meta l ∷ []) before.told now
    set-sharded-saves now same agrees h =
        let read = read-slots [] agrees in
        subst (λ (t : Told). SavesAmong X (dir_root X N p meta l ∷ []) t now) same
        (heavy-root-saves X N p meta l mid.told now read.0 (subst (λ (i : List InSlot). SavesAmong X (shard_node_held X meta i ∷ []) mid.told now) read.1 h))

    pub set-sharded-after : (now : Told) → KeepsGood X before.told now → Holds now ((cid_of X DagPb (shard_block meta node.items), shard_block meta node.items) ∷ []) → StaysAgreed before.told now (own_blocks X N p m l)
        → AgreesAfter before.told now (own_blocks X N p m l) (own_blocks X N p meta l)
    set-sharded-after now keeps held stays =
        let from = blocks-from_root X N p m l in
        let read = read-slots from.0 (subst (Agrees before.told) from.1 stays.first) in
        let old = blocks-sharded X N p m l read.0 in
        subst (AgreesAfter before.told now (own_blocks X N p m l)) (sym (blocks-sharded X N p meta l read.0 ∙ shard-blocks X N l meta))
        (after-known X before.told now (own_blocks X N p m l) ((cid_of X DagPb (shard_block meta (top X N l)), shard_block meta (top X N l)) ∷ below X N 7 l)
        (subst (AreGood X) (sym old) (shard-good X N 7 m l)) stays keeps (
          inl (subst (λ (i : List InSlot). Holds now ((cid_of X DagPb (shard_block meta i), shard_block meta i) ∷ [])) read.1 held),
          subst (λ (k : List Held). AreKnown now k (below X N 7 l)) (sym old) (known-old now (shard X N 7 m l).blocks (below X N 7 l) (below-in X N 7 m l)),
        ))

-- ---- whatever the store

pub basic-made : (X : List ℕ → List ℕ) → IsHash X → (p : Profile) (meta : Meta) (node : DirNode) (bytes : List ℕ) → IsTrue (is_meta meta) → IsRootOf bytes (root.Basic node) → IsLight (Some p) (root.Basic node)
    → (r : Result Entry DirFault) → ((N : List ℕ → ℕ) → Gives (too_big (basic_dir X N meta node.pairs).entry.tsize) (basic_dir X N meta node.pairs).entry r) → IfOk r (λ e. IsRootCid X (Some p) e.cid)
basic-made X good p meta node bytes carried is light (Ok e) gives =
    let any : List ℕ → ℕ = λ name. 0 in
    subst (λ (x : Entry). IsRootCid X (Some p) x.cid) (sym ((gives any).1 ∙ light-entry X any p meta node.pairs (light_bound p.threshold _ light))) (planned-root X good any p meta node.pairs carried is.0.pairs)
basic-made X good p meta node bytes carried is light (Err fault) gives = tt

-- a size refuses no two names
pub no-collision : (n : ℕ) (e : Entry) (r : Result Entry DirFault) → Gives (too_big n) e r → AtCollision r ⊥
no-collision n e (Ok x) h = tt
no-collision n e (Err (Collision a b)) h = by (nat_lt (2 ^ 62) n) h
  where
    by : (t : Bool) → cond t (Some IsTooBig) None ≡ Some (Collides a b) → ⊥
    by true h = cc
    by false h = cc
no-collision n e (Err TooBig) h = tt
no-collision n e (Err (Store fault)) h = tt
