-- The root block of a tree.
use Rattle.std.proofs.Common.{◌≡◌, ℕ, zero, suc, List, [], ◌∷◌, ◌++◌, refl, ap, sym, ◌∙◌, subst, Bool, true, false, cond, Option, Some, None, ◌⊎◌, inl, inr}
use Rattle.std.specs.Cmp.{eq_by_cmp_equiv}
use Rattle.std.specs.List.{AllByRecursion}
use Rattle.std.specs.FinMap.Entries.{find}
use Rattle.std.specs.Ordering.{eq_by_cmp, is_eq}
use Rattle.std.specs.declared.cmp.Ordering.{Ordering}
use Rattle.std.specs.declared.cmp.Ordering.TheVariants.{Less, Equal, Greater}
use Rattle.uf_cid.specs.Blocks.{Held, Lookup}
use Rattle.uf_cid.specs.Cid.{cid_cmp, cid_of}
use Rattle.uf_cid.specs.declared.cid.Cid.{Cid}
use Rattle.uf_cid.specs.declared.cid.Codec.TheVariants.{DagPb}
use Rattle.uf_store.specs.Contents.{Told}
use Rattle.uf_store.specs.Lost.{IsLossOf, IsLost}
use Rattle.uf_store.specs.declared.store.StoreFault.{StoreFault}
use Rattle.uf_store.proofs.Holding.{cid_cmp_total, cid_cmp-IsAntisymmetric}
use Rattle.uf_tree.specs.declared.meta.Meta.{Meta}
use Rattle.uf_tree.specs.declared.nodes.Entry.{Entry}
use Rattle.uf_tree.specs.declared.profile.Profile.{Profile}
use Rattle.uf_tree.specs.DirPlan.{basic_dir, is_sharded, own_plan}
use Rattle.uf_tree.specs.FileSub.{whole_part}
use Rattle.uf_tree.specs.Metas.{none}
use Rattle.uf_tree.specs.Nodes.{Named, dir_block}
use Rattle.uf_tree.specs.Roots.{dir_root, root_over}
use Rattle.uf_tree.specs.ShardPlan.{shard, shard_held, shard_items}
use Rattle.uf_tree.specs.Tree.{Tree, File, Dir, Entries, fold, own_meta}
use Rattle.uf_tree.specs.TreePlan.{blocks as blocks_of, entry, named_entries, planned}
use Rattle.uf_tree.specs.Validity.{IsHash}
use Rattle.uf_plain.specs.Replies.{root_block}
use Rattle.uf_plain.specs.Needs.{root_of}
use Rattle.uf_light.specs.Standing.{IsTreeAt}
use Rattle.uf_light.proofs.Holding.{loss-by}
use Rattle.uf_light.proofs.Files as files
use Rattle.uf_plain.proofs.Plans.{blocks-is, entry-is}
use Rattle.uf_light.proofs.Planning.{root-among}

-- ---- the root block is found among the blocks

equal_of : (r : Ordering) → is_eq r ≡ true → r ≡ Equal
equal_of Less e = cc
equal_of Equal e = refl
equal_of Greater e = cc

module _ (cid : Cid) where
  abbrev Other : Held → Type 0
  Other b = eq_by_cmp cid_cmp cid b.0 ≡ false

  abbrev Found : List Held → Type 0
  Found l = (bytes : List ℕ) × (find cid_cmp cid l ≡ Some bytes)

  looked : (l : List Held) → Found l ⊎ AllByRecursion Other l
  looked [] = inr tt
  looked (b ∷ l) = by (eq_by_cmp cid_cmp cid b.0) refl (looked l)
    where
      by : (t : Bool) → eq_by_cmp cid_cmp cid b.0 ≡ t → Found l ⊎ AllByRecursion Other l → ((bytes : List ℕ) × (cond t (Some b.1) (find cid_cmp cid l) ≡ Some bytes)) ⊎ AllByRecursion Other (b ∷ l)
      by true e rest = inl (b.1, refl)
      by false e (inl found) = inl found
      by false e (inr rest) = inr (e, rest)

  -- a block that is among them under this CID is found, or one before it
  pub some-found : (l : List Held) (root : Held) → ((P : Held → Type 0) → AllByRecursion P l → P root) → root.0 ≡ cid → Found l
  some-found l root among is = by (looked l)
    where
      by : Found l ⊎ AllByRecursion Other l → Found l
      by (inl found) = found
      by (inr all) =
          let no : eq_by_cmp cid_cmp cid cid ≡ false = subst (λ c. eq_by_cmp cid_cmp cid c ≡ false) is (among Other all) in
          let yes : eq_by_cmp cid_cmp cid cid ≡ true = (eq_by_cmp_equiv cid_cmp_total).refl cid in
          absurd (let e : true ≡ false = sym yes ∙ no in cc)

  -- what is found is among them
  pub found-among : (bytes : List ℕ) (l : List Held) (P : Held → Type 0) → find cid_cmp cid l ≡ Some bytes → AllByRecursion P l → P (cid, bytes)
  found-among bytes [] P is h = absurd cc
  found-among bytes (b ∷ l) P is h = by (λ is. found-among bytes l P is h.1) (eq_by_cmp cid_cmp cid b.0) refl is
    where
      by : (find cid_cmp cid l ≡ Some bytes → P (cid, bytes)) → (t : Bool) → eq_by_cmp cid_cmp cid b.0 ≡ t → cond t (Some b.1) (find cid_cmp cid l) ≡ Some bytes → P (cid, bytes)
      by rec true e is =
          let same : cid ≡ b.0 = cid_cmp-IsAntisymmetric cid b.0 (equal_of (cid_cmp cid b.0) e) in
          let one : b.1 ≡ bytes = cc in
          subst (λ (x : Held). P x) (λ i. (sym same i, one i)) h.0
      by rec false e is = rec is

-- ---- the root block

-- the root block of a tree: it is one of its blocks
pub record IsRootBlock (X : List ℕ → List ℕ) (N : List ℕ → ℕ) (p : Profile) (t : Tree) (root : Held) : Type 1 where
  pub cid : root.0 ≡ (entry X N p t).cid
  pub among : (P : Held → Type 0) → AllByRecursion P (blocks_of X N p t) → P root

module _ (X : List ℕ → List ℕ) (N : List ℕ → ℕ) (hash : IsHash X) where
  pub dir-cid : (p : Profile) (meta : Meta) (l : List Named) → (dir_root X N p meta l).0 ≡ (own_plan X N p meta l).entry.cid
  unfolding shard
  dir-cid p meta l = elim (is_sharded p l) as (λ b. (cond b (shard_held X N meta (shard_items N (shard X N 6 none) 0 l)) (cid_of X DagPb (dir_block meta l), dir_block meta l)).0 ≡ (cond b (shard X N 7 meta l) (basic_dir X N meta l)).entry.cid) [ true ↦ refl | false ↦ refl ]

  back-of : (P : Held → Type 0) (k l : List Held) → AllByRecursion P (k ++ l) → AllByRecursion P l
  back-of P [] l h = h
  back-of P (b ∷ k) l h = back-of P k l h.1

  dir-root : (p : Profile) (c : Cid) (es : Entries) → IsTreeAt X N p c (Dir es) → IsRootBlock X N p (Dir es) (dir_root X N p (own_meta es) (named_entries X N p es))
  dir-root p c es s = let l = named_entries X N p es in record {
    cid = dir-cid p (own_meta es) l ∙ ap (λ (e : Entry). e.cid) (sym (entry-is X N p es));
    among = λ P all. (root-among X N p (own_meta es) l P (back-of P _ _ (subst (AllByRecursion P) (blocks-is X N p es) all))).0;
  }

  file-cid : (c w : ℕ) (m : Meta) (height : ℕ) (bytes : List ℕ) → (root_over X c w m height bytes).0 ≡ (whole_part X c w m height bytes).entry.cid
  unfolding whole_part
  file-cid c w m zero bytes = refl
  file-cid c w m (suc k) bytes = refl

  file-root : (p : Profile) (c : Cid) (m : Meta) (bytes : List ℕ) (s : IsTreeAt X N p c (File m bytes)) → IsRootBlock X N p (File m bytes) (files.root X N p c m bytes s)
  unfolding planned fold
  file-root p c m bytes s = record {
    cid = file-cid p.chunk p.width m (files.rooted X p m bytes s.profile).0 bytes ∙ ap (λ (e : Entry). e.cid) (sym (files.rooted X p m bytes s.profile).1.entry);
    among = λ P all. (files.root-among X p m bytes s.profile P all).0;
  }

  pub root-block-of : (p : Profile) (c : Cid) (t : Tree) → IsTreeAt X N p c t → (root : Held) × IsRootBlock X N p t root
  root-block-of p c (File m bytes) s = (files.root X N p c m bytes s, file-root p c m bytes s)
  root-block-of p c (Dir es) s = (dir_root X N p (own_meta es) (named_entries X N p es), dir-root p c es s)

  -- the root block is found among those of the plan
  pub root-some : (p : Profile) (c : Cid) (t : Tree) → IsTreeAt X N p c t → (bytes : List ℕ) × (root_block X N p t ≡ Some bytes)
  root-some p c t s = (let r = root-block-of p c t s in some-found (entry X N p t).cid (blocks_of X N p t) r.0 r.1.among r.1.cid)

  -- so a loss of the block under a tree's CID is one of its root block
  pub root-loss : (told : Told) (p : Profile) (c : Cid) (t : Tree) (root : Held) (f : StoreFault) → IsTreeAt X N p c t → root.0 ≡ (entry X N p t).cid → IsLossOf told (root ∷ []) f → IsLossOf told (root_of X N p t) f
  root-loss told p c t root f s is loss =
      let some = root-some p c t s in
      subst (λ (o : Option (List ℕ)). IsLossOf told (elim o as (λ o. List Held) [ None ↦ [] | Some bytes ↦ ((entry X N p t).cid, bytes) ∷ [] ]) f) (sym some.1)
      (loss-by told (root ∷ []) (((entry X N p t).cid, some.0) ∷ []) f (λ held c. one held c) loss)
    where
      one : (held : Lookup) (c : Cid) → IsLost held c (root ∷ []) → ((c ≡ (entry X N p t).cid) × (held (entry X N p t).cid ≡ None)) ⊎ ⊥
      one held c (inl x) = inl (x.0 ∙ is, ap held (sym is) ∙ x.1)
      one held c (inr x) = absurd x
