-- A tree's plan is read as the tree.
use Rattle.std.proofs.Common.{◌≡◌, ℕ, zero, suc, pred, ◌+◌, ◌^◌, ◌<◌, ◌≤◌, List, [], ◌∷◌, length, map, refl, ap, arith, sym, ◌∙◌, subst, T, Bool, true, false, cond, Option, None, Some, Ok, Err}
use Rattle.std.specs.Prelude.{IsTrue}
use Rattle.std.specs.List.{flat_map}
use Rattle.std.specs.FinMap.Entries.{is_sorted}
use Rattle.std.proofs.lemmas.Bool.Decides.{nat_tests}
use Rattle.uf_cid.specs.Blocks.{Held, Lookup, Holds}
use Rattle.uf_cid.specs.declared.cid.Cid.{Cid}
use Rattle.uf_tree.specs.declared.profile.Profile.{Profile}
use Rattle.uf_tree.specs.declared.meta.Meta.{Meta}
use Rattle.uf_tree.specs.DirPlan.{basic_dir, is_sharded, own_plan}
use Rattle.uf_tree.specs.FilePlan.{Plan}
use Rattle.uf_tree.specs.Names.{names_cmp}
use Rattle.uf_tree.specs.Nodes.{Named, dir_block, link_of, shard_block, slot_link}
use Rattle.uf_tree.specs.Profiles.{is_profile}
use Rattle.uf_tree.specs.ShardPlan.{shard, twins, same_hash, same_slots}
use Rattle.uf_tree.specs.Metas.{is_meta}
use Rattle.uf_tree.specs.Tree.{Tree, File as FileTree, Dir, Entries, Nothing, With, entries, own_meta, pairs, is_tree, are_trees, fold, fold_each}
use Rattle.uf_tree.specs.TreePlan.{Planned, Refusal, Collision, planned, planned_file, planned_dir, members, entry, blocks, refusal, named_entries, first_refusal, dir_refusal, collision, or_else, too_big}
use Rattle.uf_tree.specs.Validity.{IsHash, IsDirectory}
use Rattle.uf_tree.proofs.Each.{front, back}
use Rattle.uf_tree.proofs.Sizes.{dir_length}
use Rattle.uf_tree.proofs.Told.{as_T}
use Rattle.uf_tree.proofs.TreeLaws.{entries-pairs}
use Rattle.uf_tree.proofs.Twins.{Apart-HasShard, both_true, same_slots-hash, twins-Apart, twins-same}
use Rattle.uf_tree.proofs.Valid.{directory-valid}
use Rattle.uf_lenient.specs.declared.gathered.Gathered.{Gathered}
use Rattle.uf_lenient.specs.declared.gathered.Gathered.TheVariants.{File as IsFile, Folder as IsFolder}
use Rattle.uf_lenient.specs.declared.shapes.Limits.{Limits}
use Rattle.uf_lenient.specs.declared.unixfs.Unixfs.TheVariants.{Directory, Shard}
use Rattle.uf_lenient.specs.Reading.{◌>>◌, Visits, Ways, answered, completed, denotes, gathered, gathers, leads, member_trees, shard_ways, unvisited, sub_ways, tree_under, tree_within, visit_of}
use Rattle.uf_lenient.specs.Unixfs.{unixfs_of}
use Rattle.uf_lenient.specs.Within.{GivesWithinLimits, IsLimit}
use Rattle.uf_lenient.proofs.FilesAgain.{file-read}
use Rattle.uf_lenient.proofs.Rereading.{dir-reread, shard-reread}
use Rattle.uf_lenient.proofs.ShardsAgain.{Adds, ShardHeld, all-met, block-met, cids, root-adds, root-cid, root-held, root-valid, root_items, wanted}
use Rattle.uf_lenient.proofs.Within.{Gives, gives-on, gives-then, tree-of-file, visit-gives}

both_none : (a b : Option Refusal) → or_else a b ≡ None → (a ≡ None) × (b ≡ None)
both_none None b h = (refl, h)
both_none (Some r) b h = absurd cc

-- names that don't collide have no twins
no_twins : (N : List ℕ → ℕ) (l : List Named) → collision N l ≡ None → twins (same_hash N) l ≡ None
no_twins N l h = by (twins (same_hash N) l) refl
  where
    by : (o : Option (List ℕ × List ℕ)) → twins (same_hash N) l ≡ o → twins (same_hash N) l ≡ None
    by None e = e
    by (Some names) e = absurd (some (sym (ap (λ (o : Option (List ℕ × List ℕ)). elim o [ None ↦ None | Some names ↦ Some (Collision names.0 names.1) ]) e) ∙ h))
      where
        some : ◌≡◌ {A = Option Refusal} (Some (Collision names.0 names.1)) None → ⊥
        some k = cc

-- a sharded directory has a name
some_name : (p : Profile) (l : List Named) → is_sharded p l ≡ true → 1 ≤ length l
some_name p [] h = absurd (none h)
  where
    none : is_sharded p [] ≡ true → ⊥
    none h = grind (arith, nat_tests)
some_name p (e ∷ l) h = omega arith

-- what was gathered is a directory of this metadata and these names, each with its CID
abbrev LeadsTo : Meta → List Named → Gathered → Type 0
LeadsTo own l (IsFile meta bytes links) = ⊥
LeadsTo own l (IsFolder meta ways) = (meta ≡ own) × (leads ways ≡ cids l)

abbrev Gathers : Meta → List Named → Visits Gathered → Type 0
Gathers own l (Ok x) = LeadsTo own l x.0
Gathers own l (Err e) = IsLimit e

gathers_ways : (meta : Meta) (l : List Named) (r : Visits Ways) → T (is_sorted names_cmp l) → Adds (wanted l) [] r → Gathers meta l (r >> λ ways m. Ok (IsFolder meta ways, m))
gathers_ways meta l (Ok x) sorted h = (refl, all-met l x.0 sorted h)
gathers_ways meta l (Err e) sorted h = h

gathers_then : (own : Meta) (l : List Named) (t : Tree) (r : Visits Gathered) (f : Gathered → ℕ → Visits Tree) → Gathers own l r → ((ways : Ways) (m : ℕ) → leads ways ≡ cids l → Gives t (f (IsFolder own ways) m)) → Gives t (r >> f)
gathers_then own l t (Ok x) f h next = by x.0 x.1 h
  where
    by : (g : Gathered) (m : ℕ) → LeadsTo own l g → Gives t (f g m)
    by (IsFile meta bytes links) m h = absurd h
    by (IsFolder meta ways) m h = subst (λ (x : Meta). Gives t (f (IsFolder x ways) m)) (sym h.0) (next ways m h.1)
gathers_then own l t (Err e) f h next = h

record Heads (a : List ℕ × Cid) (b : List ℕ × Cid) (l m : List (List ℕ × Cid)) : Type 0 where
  name : a.0 ≡ b.0
  cid : a.1 ≡ b.1
  rest : l ≡ m

heads : (a b : List ℕ × Cid) (l m : List (List ℕ × Cid)) → a ∷ l ≡ b ∷ m → Heads a b l m
heads a b l m e = let first : a ≡ b = cc in record { name = ap (λ (x : List ℕ × Cid). x.0) first; cid = ap (λ (x : List ℕ × Cid). x.1) first; rest = cc }

module _ (X : List ℕ → List ℕ) (N : List ℕ → ℕ) (good : IsHash X) (small : (name : List ℕ) → N name < 2 ^ 64) (held : Lookup) where
  -- ---- a directory's own blocks

  -- names and entries that have a plan, whose own blocks are held
  pub record OwnHeld (p : Profile) (m : Meta) (l : List Named) : Type 0 where
    pub profile : IsTrue (is_profile p)
    pub meta : IsTrue (is_meta m)
    pub valid : IsDirectory l
    pub planned : dir_refusal X N p m l ≡ None
    pub all : Holds held (own_plan X N p m l).blocks

  pub shards_held : (p : Profile) (m : Meta) (l : List Named) → OwnHeld p m l → is_sharded p l ≡ true → Holds held (shard X N 7 m l).blocks → ShardHeld X N good held 7 m l
  shards_held p m l h e all =
      let alone : collision N l ≡ None = sym (ap (λ b. cond b (collision N l) None) e) ∙ (both_none (cond (is_sharded p l) (collision N l) None) (too_big (own_plan X N p m l).entry.tsize) h.planned).0 in
      let apart : twins (same_slots N 7) l ≡ None = twins-same (same_slots N 7) (same_hash N) (λ a b. same_slots-hash N small a b) l ∙ no_twins N l alone in
      record {
        meta = h.meta;
        sorted = as_T _ h.valid.sorted;
        named = h.valid.each;
        some = some_name p l e;
        has = Apart-HasShard N 7 l (twins-Apart (same_slots N 7) l apart);
        all = all;
      }

  in_block : (p : Profile) (own : Meta) (l : List Named) → OwnHeld p own l → is_sharded p l ≡ false → Holds held (basic_dir X N own l).blocks → (left n : ℕ) → Gathers own l (gathered held left (basic_dir X N own l).entry.cid n)
  unfolding gathered
  in_block p own l h light all left n =
      let c = (basic_dir X N own l).entry.cid in
      let links = map (λ (e : Named). link_of e.0 e.1) l in
      let short : length (dir_block own l) ≤ 2097152 = dir_length p own l h.profile h.valid.each light in
      gives-on (Gathers own l) (λ e k. k) (Directory own links) (visit_of held left c n) (λ u m. gathers held (pred left) c u m)
      (visit-gives held c (dir_block own l) (Directory own links) all.0 (dir-reread (X (dir_block own l)) own l h.meta h.valid.each (omega arith)) left n)
      (λ m. let met = block-met c (pred left) l [] (as_T _ h.valid.sorted) h.valid.each (λ q some. refl) tt in
      subst (λ r. Gathers own l (unvisited m r >> λ ways m. Ok (IsFolder own ways, m))) (sym met.is) (refl, all-met l met.now (as_T _ h.valid.sorted) met.added))

  in_shards : (own : Meta) (l : List Named) → ShardHeld X N good held 7 own l → (left n : ℕ) → Gathers own l (gathered held left (shard X N 7 own l).entry.cid n)
  unfolding gathered
  in_shards own l h left n =
      let c = (shard X N 7 own l).entry.cid in
      let items = root_items X N good held l in
      let block = shard_block own items in
      gives-on (Gathers own l) (λ e k. k) (Shard own (map slot_link items)) (visit_of held left c n) (λ u m. gathers held (pred left) c u m)
      (visit-gives held c block (Shard own (map slot_link items)) (root-held X N good held own l h) (ap (λ d. unixfs_of d block) (root-cid X N good held own l) ∙ shard-reread (X block) own items h.meta (root-valid X N good held own l h)) left n)
      (λ m. gathers_ways own l (shard_ways (sub_ways held (pred left)) c (pred left) (map slot_link items) [] m) h.sorted (root-adds X N good held own l h c (pred left) m))

  -- a directory whose own blocks are held is gathered as its names
  own_gathered : (p : Profile) (m : Meta) (l : List Named) → OwnHeld p m l → (left n : ℕ) → Gathers m l (gathered held left (own_plan X N p m l).entry.cid n)
  own_gathered p m l h left n = by (is_sharded p l) refl
    where
      by : (b : Bool) → is_sharded p l ≡ b → Gathers m l (gathered held left (own_plan X N p m l).entry.cid n)
      by true e =
          let own : own_plan X N p m l ≡ shard X N 7 m l = ap (λ b. cond b (shard X N 7 m l) (basic_dir X N m l)) e in
          subst (λ (x : Plan). Gathers m l (gathered held left x.entry.cid n)) (sym own) (in_shards m l (shards_held p m l h e (subst (λ (x : Plan). Holds held x.blocks) own h.all)) left n)
      by false e =
          let own : own_plan X N p m l ≡ basic_dir X N m l = ap (λ b. cond b (shard X N 7 m l) (basic_dir X N m l)) e in
          subst (λ (x : Plan). Gathers m l (gathered held left x.entry.cid n)) (sym own) (in_block p m l h e (subst (λ (x : Plan). Holds held x.blocks) own h.all) left n)

  -- ---- trees

  abbrev pub each_planned : Profile → Entries → List (List ℕ × Planned)
  each_planned p es = fold_each (planned_file X N p) (planned_dir X N p) es

  abbrev pub named : Profile → Entries → List Named
  named p es = members X N p (each_planned p es)

  abbrev pub blocks_of : Profile → Entries → List Held
  blocks_of p es = flat_map (λ (m : List ℕ × Planned). m.1.plan.blocks) (each_planned p es)

  -- a tree that has a plan, whose blocks are held
  pub record TreeHeld (p : Profile) (t : Tree) : Type 0 where
    pub profile : IsTrue (is_profile p)
    pub tree : IsTrue (is_tree t)
    pub planned : refusal X N p t ≡ None
    pub all : Holds held (blocks X N p t)

  -- the same of each member
  pub record EachHeld (p : Profile) (es : Entries) : Type 0 where
    profile : IsTrue (is_profile p)
    trees : are_trees es ≡ true
    planned : first_refusal (each_planned p es) ≡ None
    all : Holds held (blocks_of p es)

  named_is : (p : Profile) (es : Entries) → named_entries X N p es ≡ named p es
  unfolding planned fold
  named_is p (Nothing m) = refl
  named_is p (With name t es) = ap (λ (l : List Named). (name, entry X N p t) ∷ l) (named_is p es)

  own_good : (es : Entries) → are_trees es ≡ true → IsTrue (is_meta (own_meta es))
  unfolding is_tree
  own_good (Nothing m) h = h
  own_good (With name t es) h = own_good es (both_true _ _ h).1

  pub members_held : (p : Profile) (es : Entries) → TreeHeld p (Dir es) → EachHeld p es
  unfolding planned fold is_tree
  members_held p es h = record {
    profile = h.profile;
    trees = (both_true _ _ h.tree).1;
    planned = (both_none (first_refusal (each_planned p es)) (dir_refusal X N p (own_meta es) (named p es)) h.planned).0;
    all = front (λ (b : Held). held b.0 ≡ Some b.1) (blocks_of p es) (own_plan X N p (own_meta es) (named p es)).blocks h.all;
  }

  pub own_held : (p : Profile) (es : Entries) → TreeHeld p (Dir es) → OwnHeld p (own_meta es) (named p es)
  unfolding planned fold is_tree
  own_held p es h = record {
    profile = h.profile;
    meta = own_good es (both_true _ _ h.tree).1;
    valid = subst IsDirectory (named_is p es) (directory-valid X good N p h.profile es h.tree);
    planned = (both_none (first_refusal (each_planned p es)) (dir_refusal X N p (own_meta es) (named p es)) h.planned).1;
    all = back (λ (b : Held). held b.0 ≡ Some b.1) (blocks_of p es) (own_plan X N p (own_meta es) (named p es)).blocks h.all;
  }

  pub first_held : (p : Profile) (name : List ℕ) (t : Tree) (es : Entries) → EachHeld p (With name t es) → TreeHeld p t
  unfolding planned fold is_tree
  first_held p name t es h = record {
    profile = h.profile;
    tree = (both_true _ _ (both_true _ _ h.trees).0).1;
    planned = (both_none (refusal X N p t) (first_refusal (each_planned p es)) h.planned).0;
    all = front (λ (b : Held). held b.0 ≡ Some b.1) (blocks X N p t) (blocks_of p es) h.all;
  }

  pub others_held : (p : Profile) (name : List ℕ) (t : Tree) (es : Entries) → EachHeld p (With name t es) → EachHeld p es
  unfolding planned fold is_tree
  others_held p name t es h = record {
    profile = h.profile;
    trees = (both_true _ _ h.trees).1;
    planned = (both_none (refusal X N p t) (first_refusal (each_planned p es)) h.planned).1;
    all = back (λ (b : Held). held b.0 ≡ Some b.1) (blocks X N p t) (blocks_of p es) h.all;
  }

  pub file_good : (p : Profile) (m : Meta) (b : List ℕ) → TreeHeld p (FileTree m b) → IsTrue (is_meta m)
  unfolding is_tree
  file_good p m b h = (both_true _ _ h.tree).0

  file_tree : (p : Profile) (m : Meta) (b : List ℕ) → TreeHeld p (FileTree m b) → (room left n : ℕ) → Gives (FileTree m b) (tree_within held room left (entry X N p (FileTree m b)).cid n)
  unfolding planned fold
  file_tree p m b h room left n = tree-of-file held (entry X N p (FileTree m b)).cid m b (file-read X good held p m b h.profile (file_good p m b h) h.planned h.all) room left n

  folder_tree : (p : Profile) (es : Entries) → TreeHeld p (Dir es) → (room left n : ℕ)
      → ((ways : Ways) (m : ℕ) → leads ways ≡ cids (named p es) → Gives (pairs es) (member_trees (tree_within held room) ways m)) → Gives (Dir es) (tree_within held (suc room) left (entry X N p (Dir es)).cid n)
  unfolding planned fold tree_within
  folder_tree p es h room left n each =
      gathers_then (own_meta es) (named p es) (Dir es) (gathered held left (own_plan X N p (own_meta es) (named p es)).entry.cid n) (λ g m. completed held (tree_within held room) (pred left) g m)
      (own_gathered p (own_meta es) (named p es) (own_held p es h) left n)
      (λ ways m is. gives-then (pairs es) (Dir es) (member_trees (tree_within held room) ways m) (λ l k. Ok (Dir (entries (own_meta es) l), k)) (each ways m is) (λ k. ap Dir (entries-pairs es)))

  mutual
    unfolding planned fold tree_within

    pub tree_gives : (p : Profile) (t : Tree) → TreeHeld p t → (room left n : ℕ) → Gives t (tree_within held room left (entry X N p t).cid n)
    tree_gives p (FileTree m b) h room left n = file_tree p m b h room left n
    tree_gives p (Dir es) h zero left n = tt
    tree_gives p (Dir es) h (suc room) left n = folder_tree p es h room left n (λ ways m is. each_gives p es (members_held p es h) room ways m is)

    each_gives : (p : Profile) (es : Entries) → EachHeld p es → (room : ℕ) (ways : Ways) (n : ℕ) → leads ways ≡ cids (named p es) → Gives (pairs es) (member_trees (tree_within held room) ways n)
    each_gives p (Nothing m) h room [] n is = refl
    each_gives p (Nothing m) h room (w ∷ ws) n is = absurd cc
    each_gives p (With name t es) h room [] n is = absurd cc
    each_gives p (With name t es) h room (w ∷ ws) n is =
        let parts = heads (w.0, w.1.cid) (name, (entry X N p t).cid) (leads ws) (cids (named p es)) is in
        gives-then t ((name, t) ∷ pairs es) (tree_within held room w.1.left w.1.cid n) (λ u m. member_trees (tree_within held room) ws m >> λ more k. Ok ((w.0, u) ∷ more, k))
        (subst (λ c. Gives t (tree_within held room w.1.left c n)) (sym parts.cid) (tree_gives p t (first_held p name t es h) room w.1.left n))
        (λ m. gives-then (pairs es) ((name, t) ∷ pairs es) (member_trees (tree_within held room) ws m) (λ more k. Ok ((w.0, t) ∷ more, k)) (each_gives p es (others_held p name t es h) room ws m parts.rest)
        (λ k. ap (λ (x : List ℕ). (x, t) ∷ pairs es) parts.name))

  answer : (t : Tree) (r : Visits Tree) → Gives t r → GivesWithinLimits t (answered (λ u. u) r)
  answer t (Ok x) h = h
  answer t (Err e) h = h

  -- the root of a tree's plan denotes the tree
  pub tree-denoted : (p : Profile) (t : Tree) (limits : Limits) → IsTrue (is_profile p) → IsTrue (is_tree t) → refusal X N p t ≡ None → Holds held (blocks X N p t) → GivesWithinLimits t (denotes held limits (entry X N p t).cid)
  tree-denoted p t limits ok is fits all =
      answer t (tree_under held (limits.depth + 1) (entry X N p t).cid limits.visits) (tree_gives p t (record { profile = ok; tree = is; planned = fits; all = all }) (limits.depth + 1) (limits.depth + 1) limits.visits)
