-- Trees of one root are one tree.
use Rattle.std.proofs.Common.{◌≡◌, ℕ, zero, suc, ◌^◌, ◌<◌, ◌≤◌, List, [], ◌∷◌, length, refl, ap, arith, sym, ◌∙◌, subst, Bool, true, false, cond, Option, None, Some}
use Rattle.std.specs.Prelude.{IsTrue}
use Rattle.std.specs.List.{flat_map}
use Rattle.std.proofs.lemmas.Bool.Decides.{nat_tests}
use Rattle.uf_cid.specs.Blocks.{Held, Lookup, Holds}
use Rattle.uf_cid.specs.Cid.{cid_of, codec_byte}
use Rattle.uf_cid.specs.declared.cid.Cid.{Cid}
use Rattle.uf_cid.specs.declared.cid.Codec.TheVariants.{DagPb}
use Rattle.uf_tree.specs.declared.meta.Meta.{Meta}
use Rattle.uf_tree.specs.declared.nodes.Entry.{Entry}
use Rattle.uf_tree.specs.declared.profile.Profile.{Profile}
use Rattle.uf_tree.specs.DirPlan.{basic_dir, is_sharded, own_plan}
use Rattle.uf_tree.specs.FilePlan.{Plan, root_node}
use Rattle.uf_tree.specs.FileSub.{whole_part, whole_blocks}
use Rattle.uf_tree.specs.Metas.{is_meta}
use Rattle.uf_tree.specs.Nodes.{Named, dir_block, shard_block, file_block}
use Rattle.uf_tree.specs.Profiles.{is_profile}
use Rattle.uf_tree.specs.ShardPlan.{shard, twins, same_hash, same_slots}
use Rattle.uf_tree.specs.Tree.{Tree, File, Dir, Entries, Nothing, With, own_meta, is_tree, are_trees, fold, fold_each}
use Rattle.uf_tree.specs.TreePlan.{Planned, Refusal, Collision, planned, planned_file, planned_dir, members, entry, blocks, refusal, named_entries, first_refusal, dir_refusal, collision, or_else, too_big}
use Rattle.uf_tree.specs.Validity.{IsHash, IsDirectory}
use Rattle.uf_tree.proofs.Each.{front, back}
use Rattle.uf_tree.proofs.Told.{as_T}
use Rattle.uf_tree.proofs.Twins.{Apart-HasShard, both_true, same_slots-hash, twins-Apart, twins-same}
use Rattle.uf_tree.proofs.Valid.{directory-valid}
use Rattle.uf_laws.proofs.Files.{StoodWhole, Rooted, whole, root_parts, file_rooted, whole_valid, same_whole}
use Rattle.uf_laws.proofs.OneBlock.{file_or_dir, file_or_shard, one_basic, one_block, shard_or_dir}
use Rattle.uf_laws.proofs.Shards.{Sharded, root_held, root_items, root_valid, same_shard}

both_none : (a b : Option Refusal) → or_else a b ≡ None → (a ≡ None) × (b ≡ None)
both_none None b h = (refl, h)
both_none (Some r) b h = absurd cc

-- names that don't collide have no twins
no_twins : (N : List ℕ → ℕ) (l : List Named) → collision N l ≡ None → twins (same_hash N) l ≡ None
no_twins N l h = by (twins (same_hash N) l) refl
  where
    by : (o : Option (List ℕ × List ℕ)) → twins (same_hash N) l ≡ o → twins (same_hash N) l ≡ None
    by None e = e
    by (Some names) e = absurd (some (sym (ap (λ (o : Option (List ℕ × List ℕ)). elim o [ None ↦ None | Some names ↦ Some (Collision names.0 names.1) ]) e) ∙ h))
      where
        some : ◌≡◌ {A = Option Refusal} (Some (Collision names.0 names.1)) None → ⊥
        some k = cc

-- a sharded directory has a name
some_name : (p : Profile) (l : List Named) → is_sharded p l ≡ true → 1 ≤ length l
some_name p [] h = absurd (none h)
  where
    none : is_sharded p [] ≡ true → ⊥
    none h = grind (arith, nat_tests)
some_name p (e ∷ l) h = omega arith

module _ (X : List ℕ → List ℕ) (N : List ℕ → ℕ) (good : IsHash X) (small : (name : List ℕ) → N name < 2 ^ 64) (held : Lookup) where
  -- ---- a directory's own blocks

  -- names and entries that have a plan, whose own blocks are held
  pub record Own (p : Profile) (m : Meta) (l : List Named) : Type 0 where
    pub profile : IsTrue (is_profile p)
    pub carried : IsTrue (is_meta m)
    pub valid : IsDirectory l
    pub planned : dir_refusal X N p m l ≡ None
    pub all : Holds held (own_plan X N p m l).blocks

  -- they stand in one block, or in shards
  data Form (p : Profile) (m : Meta) (l : List Named) : Type 0 where
    Basic : is_sharded p l ≡ false → (own_plan X N p m l).entry.cid ≡ cid_of X DagPb (dir_block m l) → held (cid_of X DagPb (dir_block m l)) ≡ Some (dir_block m l) → Form p m l
    InShards : Sharded X N good held 7 m l → (own_plan X N p m l).entry.cid ≡ (shard X N 7 m l).entry.cid → Form p m l

  sharded_own : (p : Profile) (m : Meta) (l : List Named) → Own p m l → is_sharded p l ≡ true → Holds held (shard X N 7 m l).blocks → Sharded X N good held 7 m l
  sharded_own p m l h e all =
      let alone : collision N l ≡ None = sym (ap (λ b. cond b (collision N l) None) e) ∙ (both_none (cond (is_sharded p l) (collision N l) None) (too_big (own_plan X N p m l).entry.tsize) h.planned).0 in
      let apart : twins (same_slots N 7) l ≡ None = twins-same (same_slots N 7) (same_hash N) (λ a b. same_slots-hash N small a b) l ∙ no_twins N l alone in
      record {
        carried = h.carried;
        sorted = as_T _ h.valid.sorted;
        named = h.valid.each;
        some = some_name p l e;
        has = Apart-HasShard N 7 l (twins-Apart (same_slots N 7) l apart);
        all = all;
      }

  form : (p : Profile) (m : Meta) (l : List Named) → Own p m l → Form p m l
  form p m l h = by (is_sharded p l) refl
    where
      by : (b : Bool) → is_sharded p l ≡ b → Form p m l
      by true e =
          let own : own_plan X N p m l ≡ shard X N 7 m l = ap (λ b. cond b (shard X N 7 m l) (basic_dir X N m l)) e in
          InShards (sharded_own p m l h e (subst (λ (x : Plan). Holds held x.blocks) own h.all)) (ap (λ (x : Plan). x.entry.cid) own)
      by false e =
          let own : own_plan X N p m l ≡ basic_dir X N m l = ap (λ b. cond b (shard X N 7 m l) (basic_dir X N m l)) e in
          let all : Holds held (basic_dir X N m l).blocks = subst (λ (x : Plan). Holds held x.blocks) own h.all in
          Basic e (ap (λ (x : Plan). x.entry.cid) own) all.0

  -- directories of one root have the same metadata, names and entries
  same_own : (p q : Profile) (a b : Meta) (l m : List Named) → Own p a l → Own q b m → (own_plan X N p a l).entry.cid ≡ (own_plan X N q b m).entry.cid → (a ≡ b) × (l ≡ m)
  same_own p q a b l m h k same = by (form p a l h) (form q b m k)
    where
      by : Form p a l → Form q b m → (a ≡ b) × (l ≡ m)
      by (Basic light c here) (Basic heavy d there) =
          one_basic p h.profile a b l m h.carried k.carried h.valid k.valid light
          (one_block held (cid_of X DagPb (dir_block a l)) (cid_of X DagPb (dir_block b m)) (dir_block a l) (dir_block b m) (sym c ∙ same ∙ d) here there)
      by (Basic light c here) (InShards s d) =
          absurd (shard_or_dir b (root_items X N good held m) a l k.carried (root_valid X N good held b m s) h.carried h.valid
          (one_block held (shard X N 7 b m).entry.cid (cid_of X DagPb (dir_block a l)) (shard_block b (root_items X N good held m)) (dir_block a l) (sym d ∙ sym same ∙ c) (root_held X N good held b m s) here))
      by (InShards s c) (Basic light d there) =
          absurd (shard_or_dir a (root_items X N good held l) b m h.carried (root_valid X N good held a l s) k.carried k.valid
          (one_block held (shard X N 7 a l).entry.cid (cid_of X DagPb (dir_block b m)) (shard_block a (root_items X N good held l)) (dir_block b m) (sym c ∙ same ∙ d) (root_held X N good held a l s) there))
      by (InShards s c) (InShards r d) = same_shard X N good held 7 a b l m s r (sym c ∙ same ∙ d)

  -- the root of a directory is a node
  shard_codec : (left : ℕ) (m : Meta) (l : List Named) → (shard X N left m l).entry.cid.codec ≡ DagPb
  unfolding shard
  shard_codec zero m l = refl
  shard_codec (suc left) m l = refl

  pub own_codec : (p : Profile) (m : Meta) (l : List Named) → (own_plan X N p m l).entry.cid.codec ≡ DagPb
  own_codec p m l = elim (is_sharded p l) as (λ b. (cond b (shard X N 7 m l) (basic_dir X N m l)).entry.cid.codec ≡ DagPb) [ true ↦ shard_codec 7 m l | false ↦ refl ]

  -- no file has the root of a directory
  file_or_own : (p q : Profile) (n : Meta) (h : ℕ) (b : List ℕ) (m : Meta) (l : List Named) → StoodWhole X good held p n h b → Own q m l
      → (whole X good held p n h b).entry.cid ≡ (own_plan X N q m l).entry.cid → ⊥
  unfolding whole_part whole_blocks
  file_or_own p q n zero b m l s k e = let codes : ◌≡◌ {A = ℕ} 0x55 0x70 = ap (λ (c : Cid). codec_byte c.codec) e ∙ ap codec_byte (own_codec q m l) in omega arith
  file_or_own p q n (suc h) b m l s k e = by (form q m l k)
    where
      by : Form q m l → ⊥
      by (Basic light c here) =
          file_or_dir (root_node n (root_parts X good held p h b)) m l (whole_valid X good held p n h b s) k.carried k.valid
          (one_block held (whole X good held p n (suc h) b).entry.cid (cid_of X DagPb (dir_block m l)) (file_block (root_node n (root_parts X good held p h b))) (dir_block m l) (e ∙ c) s.all.0 here)
      by (InShards r c) =
          file_or_shard (root_node n (root_parts X good held p h b)) m (root_items X N good held l) (whole_valid X good held p n h b s) k.carried (root_valid X N good held m l r)
          (one_block held (whole X good held p n (suc h) b).entry.cid (shard X N 7 m l).entry.cid (file_block (root_node n (root_parts X good held p h b))) (shard_block m (root_items X N good held l)) (e ∙ c) s.all.0 (root_held X N good held m l r))

  -- ---- trees

  abbrev each_planned : Profile → Entries → List (List ℕ × Planned)
  each_planned p es = fold_each (planned_file X N p) (planned_dir X N p) es

  abbrev named : Profile → Entries → List Named
  named p es = members X N p (each_planned p es)

  abbrev blocks_of : Profile → Entries → List Held
  blocks_of p es = flat_map (λ (m : List ℕ × Planned). m.1.plan.blocks) (each_planned p es)

  -- a tree that has a plan, whose blocks are held
  pub record Stands (p : Profile) (t : Tree) : Type 0 where
    pub profile : IsTrue (is_profile p)
    pub tree : IsTrue (is_tree t)
    pub planned : refusal X N p t ≡ None
    pub all : Holds held (blocks X N p t)

  -- the same of each member
  record EachStands (p : Profile) (es : Entries) : Type 0 where
    profile : IsTrue (is_profile p)
    trees : are_trees es ≡ true
    planned : first_refusal (each_planned p es) ≡ None
    all : Holds held (blocks_of p es)

  named_is : (p : Profile) (es : Entries) → named_entries X N p es ≡ named p es
  unfolding planned fold
  named_is p (Nothing m) = refl
  named_is p (With name t es) = ap (λ (l : List Named). (name, entry X N p t) ∷ l) (named_is p es)

  members_stand : (p : Profile) (es : Entries) → Stands p (Dir es) → EachStands p es
  unfolding planned fold is_tree
  members_stand p es h = record {
    profile = h.profile;
    trees = (both_true _ _ h.tree).1;
    planned = (both_none (first_refusal (each_planned p es)) (dir_refusal X N p (own_meta es) (named p es)) h.planned).0;
    all = front (λ (b : Held). held b.0 ≡ Some b.1) (blocks_of p es) (own_plan X N p (own_meta es) (named p es)).blocks h.all;
  }

  -- a directory's own metadata is good
  own_good : (es : Entries) → are_trees es ≡ true → IsTrue (is_meta (own_meta es))
  unfolding is_tree
  own_good (Nothing m) h = h
  own_good (With name t es) h = own_good es (both_true _ _ h).1

  own_stands : (p : Profile) (es : Entries) → Stands p (Dir es) → Own p (own_meta es) (named p es)
  unfolding planned fold is_tree
  own_stands p es h = record {
    profile = h.profile;
    carried = own_good es (both_true _ _ h.tree).1;
    valid = subst IsDirectory (named_is p es) (directory-valid X good N p h.profile es h.tree);
    planned = (both_none (first_refusal (each_planned p es)) (dir_refusal X N p (own_meta es) (named p es)) h.planned).1;
    all = back (λ (b : Held). held b.0 ≡ Some b.1) (blocks_of p es) (own_plan X N p (own_meta es) (named p es)).blocks h.all;
  }

  first_stands : (p : Profile) (name : List ℕ) (t : Tree) (es : Entries) → EachStands p (With name t es) → Stands p t
  unfolding planned fold is_tree
  first_stands p name t es h = record {
    profile = h.profile;
    tree = (both_true _ _ (both_true _ _ h.trees).0).1;
    planned = (both_none (refusal X N p t) (first_refusal (each_planned p es)) h.planned).0;
    all = front (λ (b : Held). held b.0 ≡ Some b.1) (blocks X N p t) (blocks_of p es) h.all;
  }

  others_stand : (p : Profile) (name : List ℕ) (t : Tree) (es : Entries) → EachStands p (With name t es) → EachStands p es
  unfolding planned fold is_tree
  others_stand p name t es h = record {
    profile = h.profile;
    trees = (both_true _ _ h.trees).1;
    planned = (both_none (refusal X N p t) (first_refusal (each_planned p es)) h.planned).1;
    all = back (λ (b : Held). held b.0 ≡ Some b.1) (blocks X N p t) (blocks_of p es) h.all;
  }

  rooted : (p : Profile) (m : Meta) (b : List ℕ) → Stands p (File m b) → Rooted X good held p m b
  unfolding planned fold is_tree
  rooted p m b h = file_rooted X good held p m b h.profile (both_true _ _ h.tree).0 h.planned h.all

  -- so no file has the root of a folder
  file_or_folder : (p q : Profile) (m : Meta) (b : List ℕ) (es : Entries) → Stands p (File m b) → Stands q (Dir es) → (entry X N p (File m b)).cid ≡ (entry X N q (Dir es)).cid → ⊥
  unfolding planned fold
  file_or_folder p q m b es h k e =
      let r = rooted p m b h in
      file_or_own p q m r.height b (own_meta es) (named q es) r.stood (own_stands q es k) (sym (ap (λ (x : Entry). x.cid) r.entry) ∙ e)

  same_file : (p q : Profile) (m n : Meta) (a b : List ℕ) → Stands p (File m a) → Stands q (File n b) → (entry X N p (File m a)).cid ≡ (entry X N q (File n b)).cid → (m ≡ n) × (a ≡ b)
  unfolding planned fold
  same_file p q m n a b h k e =
      let r = rooted p m a h in
      let s = rooted q n b k in
      same_whole X good held p q m n r.height s.height a b r.stood s.stood (sym (ap (λ (x : Entry). x.cid) r.entry) ∙ e ∙ ap (λ (x : Entry). x.cid) s.entry)

  same_named : (p q : Profile) (es fs : Entries) → Stands p (Dir es) → Stands q (Dir fs) → (entry X N p (Dir es)).cid ≡ (entry X N q (Dir fs)).cid → (own_meta es ≡ own_meta fs) × (named p es ≡ named q fs)
  unfolding planned fold
  same_named p q es fs h k e = same_own p q (own_meta es) (own_meta fs) (named p es) (named q fs) (own_stands p es h) (own_stands q fs k) e

  record Heads (a b : Named) (l m : List Named) : Type 0 where
    name : a.0 ≡ b.0
    cid : a.1.cid ≡ b.1.cid
    rest : l ≡ m

  heads : (a b : Named) (l m : List Named) → a ∷ l ≡ b ∷ m → Heads a b l m
  heads a b l m e = let first : a ≡ b = cc in record { name = ap (λ (x : Named). x.0) first; cid = ap (λ (x : Named). x.1.cid) first; rest = cc }

  mutual
    unfolding planned fold

    -- trees of one root are one
    pub same_tree : (p q : Profile) (t u : Tree) → Stands p t → Stands q u → (entry X N p t).cid ≡ (entry X N q u).cid → t ≡ u
    same_tree p q (File m a) (File n b) h k e = let same = same_file p q m n a b h k e in λ i. File (same.0 i) (same.1 i)
    same_tree p q (File m a) (Dir fs) h k e = absurd (file_or_folder p q m a fs h k e)
    same_tree p q (Dir es) (File n b) h k e = absurd (file_or_folder q p n b es k h (sym e))
    same_tree p q (Dir es) (Dir fs) h k e = let same = same_named p q es fs h k e in ap Dir (same_each p q es fs (members_stand p es h) (members_stand q fs k) same.0 same.1)

    same_each : (p q : Profile) (es fs : Entries) → EachStands p es → EachStands q fs → own_meta es ≡ own_meta fs → named p es ≡ named q fs → es ≡ fs
    same_each p q (Nothing m) (Nothing n) h k c e = ap Nothing c
    same_each p q (Nothing m) (With n u fs) h k c e = absurd cc
    same_each p q (With n t es) (Nothing m) h k c e = absurd cc
    same_each p q (With n t es) (With m u fs) h k c e =
        let parts = heads (n, entry X N p t) (m, entry X N q u) (named p es) (named q fs) e in
        let first : t ≡ u = same_tree p q t u (first_stands p n t es h) (first_stands q m u fs k) parts.cid in
        let rest : es ≡ fs = same_each p q es fs (others_stand p n t es h) (others_stand q m u fs k) c parts.rest in
        λ i. With (parts.name i) (first i) (rest i)
