-- A plan's blocks are those to which links lead from its root.
use Rattle.std.proofs.Common.{◌≡◌, ℕ, zero, suc, ◌+◌, ◌-◌, ◌^◌, ◌<◌, ◌≤◌, List, [], ◌∷◌, Contains, length, map, refl, ap, arith, sym, ◌∙◌, subst, ◌⊎◌, inl, inr, ◌≢◌, Bool, true, false, cond, Option, None, Some, Ok}
use Rattle.std.specs.Prelude.{IfSome, IsTrue, ◌==◌}
use Rattle.std.specs.List.{AllByRecursion, cons_option, flat_map}
use Rattle.std.specs.Option.{option_map}
use Rattle.std.proofs.lemmas.Bool.{cases_eq, false≢true}
use Rattle.std.proofs.lemmas.List.Elements.{All-contains_itself, recursion_from_All}
use Rattle.uf_cid.specs.Blocks.{Held, Holds, Lookup}
use Rattle.uf_cid.specs.declared.cid.Cid.{Cid}
use Rattle.uf_dagpb.specs.declared.node.Link.{Link}
use Rattle.uf_murmur.specs.Slots.{slot}
use Rattle.uf_tree.specs.declared.meta.Meta.{Meta}
use Rattle.uf_tree.specs.declared.nodes.Entry.{Entry}
use Rattle.uf_tree.specs.declared.nodes.Item.{Item}
use Rattle.uf_tree.specs.declared.profile.Profile.{Profile}
use Rattle.uf_tree.specs.DirPlan.{basic_dir, is_sharded, own_plan}
use Rattle.uf_tree.specs.FilePlan.{Plan, file_plan, groups, node_over, root_node}
use Rattle.uf_tree.specs.FileSub.{blocks_over, part_over, span, whole_blocks, whole_part}
use Rattle.uf_tree.specs.Metas.{is_meta, none}
use Rattle.uf_tree.specs.Nodes.{Named, dir_block, file_block, item_entry, link_of, shard_block, slot_link}
use Rattle.uf_tree.specs.Profiles.{is_profile}
use Rattle.uf_tree.specs.ShardPlan.{bucket, flat_tabulate, no_shard, shard, shard_items, slot_blocks, slot_item, tabulate}
use Rattle.uf_tree.specs.Shardable.{HasShard}
use Rattle.uf_tree.specs.Tree.{Dir, Entries, File as FileTree, Nothing, Tree, With, fold, is_tree, own_meta}
use Rattle.uf_tree.specs.TreePlan.{blocks, entry, planned, refusal, too_long}
use Rattle.uf_tree.specs.Validity.{IsHash}
use Rattle.uf_tree.proofs.Each.{at_flat_tabulate, back, both, each_filter, front}
use Rattle.uf_tree.proofs.Rows.{file_plan-rows, plan-sub, sub-plan}
use Rattle.uf_tree.proofs.ShardLaws.{eqb_same, slot-bound}
use Rattle.uf_tree.proofs.Sizes.{dir_length}
use Rattle.uf_tree.proofs.Told.{kept}
use Rattle.uf_tree.proofs.Valid.{file_node-valid, root_node-valid, shard-valid, shard_items-valid}
use Rattle.uf_lenient.specs.declared.unixfs.Unixfs.{Unixfs}
use Rattle.uf_lenient.specs.declared.unixfs.Unixfs.TheVariants.{Directory, File, Shard}
use Rattle.uf_lenient.specs.Leading.{AgreeAmong, LeadsInto, block_cids, links_to_read}
use Rattle.uf_lenient.specs.Unixfs.{unixfs_of}
use Rattle.uf_lenient.proofs.FilesAgain.{PartHeld, WholeHeld, below_held, below_root, file-held, part, whole}
use Rattle.uf_lenient.proofs.Rereading.{dir-reread, file-reread, shard-reread}
use Rattle.uf_lenient.proofs.ShardsAgain.{ShardHeld, below_shard, none_valid}
use Rattle.uf_lenient.proofs.TreesAgain.{EachHeld, OwnHeld, TreeHeld, blocks_of, file_good, first_held, members_held, named, others_held, own_held, shards_held}

-- what holds at each number below 256
flat_each : (R : Held → Type 0) (n a : ℕ) (f : ℕ → List Held) → a + n ≤ 256 → ((s : ℕ) → s < 256 → AllByRecursion R (f s)) → AllByRecursion R (flat_tabulate n a f)
unfolding flat_tabulate
flat_each R zero a f few h = tt
flat_each R (suc n) a f few h = both R (f a) (flat_tabulate n (suc a) f) (h a (omega arith)) (flat_each R n (suc a) f (omega arith) h)

module _ (P : Cid → Type 0) where
  abbrev BlocksIn : List Held → Type 0
  BlocksIn bs = AllByRecursion (λ (b : Held). P b.0) bs

  abbrev LinksIn : List Link → Type 0
  LinksIn links = AllByRecursion (λ (l : Link). P l.cid) links

  abbrev NamesIn : List Named → Type 0
  NamesIn l = AllByRecursion (λ (e : Named). P e.1.cid) l

  names_in : (l : List Named) → LinksIn (map (λ (e : Named). link_of e.0 e.1) l) → NamesIn l
  names_in [] h = tt
  names_in (e ∷ l) h = (h.0, names_in l h.1)

  linked_names : (l : List Named) → NamesIn l → LinksIn (map (λ (e : Named). link_of e.0 e.1) l)
  linked_names [] h = tt
  linked_names (e ∷ l) h = (h.0, linked_names l h.1)

  -- the links of slots, from one slot on
  slot_parts : (n a : ℕ) (f : ℕ → Option Item) (o : Option Item) → LinksIn (map slot_link (cons_option (option_map (λ x. (a, x)) o) (tabulate n (suc a) f))) → IfSome o (λ x. P (item_entry x).cid) × LinksIn (map slot_link (tabulate n (suc a) f))
  slot_parts n a f None all = (tt, all)
  slot_parts n a f (Some x) all = (all.0, all.1)

  at_slot : (n a : ℕ) (f : ℕ → Option Item) (s : ℕ) → a ≤ s → s < a + n → LinksIn (map slot_link (tabulate n a f)) → IfSome (f s) (λ x. P (item_entry x).cid)
  unfolding tabulate
  at_slot zero a f s low high all = absurd (omega arith)
  at_slot (suc n) a f s low high all =
      let parts = slot_parts n a f (f a) all in
      by (cases_eq s a) parts.0 (λ more. at_slot n (suc a) f s more (omega arith) parts.1)
    where
      by : (s ≡ a) ⊎ (s ≢ a) → IfSome (f a) (λ x. P (item_entry x).cid) → (suc a ≤ s → IfSome (f s) (λ x. P (item_entry x).cid)) → IfSome (f s) (λ x. P (item_entry x).cid)
      by (inl e) here later = subst (λ s. IfSome (f s) (λ x. P (item_entry x).cid)) (sym e) here
      by (inr e) here later = later (omega arith)

  slot_added : (n a : ℕ) (f : ℕ → Option Item) (o : Option Item) → IfSome o (λ x. P (item_entry x).cid) → LinksIn (map slot_link (tabulate n (suc a) f)) → LinksIn (map slot_link (cons_option (option_map (λ x. (a, x)) o) (tabulate n (suc a) f)))
  slot_added n a f None here later = later
  slot_added n a f (Some x) here later = (here, later)

  slots_in : (n a : ℕ) (f : ℕ → Option Item) → a + n ≤ 256 → ((s : ℕ) → s < 256 → IfSome (f s) (λ x. P (item_entry x).cid)) → LinksIn (map slot_link (tabulate n a f))
  unfolding tabulate
  slots_in zero a f few h = tt
  slots_in (suc n) a f few h = slot_added n a f (f a) (h a (omega arith)) (slots_in n (suc a) f (omega arith) h)

  -- each name is in the slot of its hash
  module _ (N : List ℕ → ℕ) (k : ℕ) where
    rest_in : (e : Named) (m : List Named) (b : Bool) → NamesIn (cond b (e ∷ m) m) → NamesIn m
    rest_in e m true h = h.1
    rest_in e m false h = h

    first_in : (e : Named) (m : List Named) (b : Bool) → b ≡ true → NamesIn (cond b (e ∷ m) m) → P e.1.cid
    first_in e m true is h = h.0
    first_in e m false is h = absurd (false≢true is)

    buckets_in : (l : List Named) → ((s : ℕ) → s < 256 → NamesIn (bucket N k s l)) → NamesIn l
    buckets_in [] h = tt
    buckets_in (e ∷ l) h =
        let s = slot (N e.0) k in
        (first_in e (bucket N k s l) (s == s) (eqb_same s) (h s (slot-bound (N e.0) k)), buckets_in l (λ r small. rest_in e (bucket N k r l) (slot (N e.0) k == r) (h r small)))

-- ---- what links lead to from a root

module _ (held : Lookup) (P : Cid → Type 0) (closed : (c : Cid) (block : List ℕ) (u : Unixfs) → P c → held c ≡ Some block → unixfs_of c block ≡ Ok u → AllByRecursion (λ (l : Link). P l.cid) (links_to_read u)) where
  module _ (X : List ℕ → List ℕ) (good : IsHash X) where
    parts_reached : (p : Profile) (h : ℕ) → ((b : List ℕ) → PartHeld X good held p h b → P (part X good held p h b).entry.cid → BlocksIn P (blocks_over X p.chunk p.width h b))
        → (gs : List (List ℕ)) → AllByRecursion (PartHeld X good held p h) gs → LinksIn P (node_over (map (part X good held p h) gs)).parts → BlocksIn P (flat_map (blocks_over X p.chunk p.width h) gs)
    parts_reached p h one [] all links = tt
    parts_reached p h one (g ∷ gs) all links =
        both (λ (b : Held). P b.0) (blocks_over X p.chunk p.width h g) (flat_map (blocks_over X p.chunk p.width h) gs) (one g all.0 links.0) (parts_reached p h one gs all.1 links.1)

    part_reached : (p : Profile) (h : ℕ) (b : List ℕ) → PartHeld X good held p h b → P (part X good held p h b).entry.cid → BlocksIn P (blocks_over X p.chunk p.width h b)
    unfolding part_over blocks_over
    part_reached p zero b s here = (here, tt)
    part_reached p (suc h) b s here =
        let one = part_reached p h in
        let cut = span p.chunk p.width h in
        let node = node_over (map (part X good held p h) (groups cut b)) in (
          here,
          parts_reached p h one (groups cut b) (below_held X good held p h b s)
              (closed (part X good held p (suc h) b).entry.cid (file_block node) (File none [] node.parts) here s.all.0 (file-reread (X (file_block node)) node (file_node-valid X good p s.profile h b s.fits s.few))),
        )

    whole_reached : (p : Profile) (m : Meta) (h : ℕ) (b : List ℕ) → WholeHeld X good held p m h b → P (whole X good held p m h b).entry.cid → BlocksIn P (whole_blocks X p.chunk p.width m h b)
    unfolding whole_part whole_blocks part_over blocks_over
    whole_reached p m zero b s here = (here, tt)
    whole_reached p m (suc h) b s here =
        let node = root_node m (map (part X good held p h) (groups (span p.chunk p.width h) b)) in (
          here,
          parts_reached p h (part_reached p h) (groups (span p.chunk p.width h) b) (below_root X good held p m h b s)
              (closed (whole X good held p m (suc h) b).entry.cid (file_block node) (File m [] node.parts) here s.all.0 (file-reread (X (file_block node)) node (root_node-valid X good p s.profile m s.meta h b s.fits s.few))),
        )

    file_reached : (p : Profile) (m : Meta) (b : List ℕ) → IsTrue (is_profile p) → IsTrue (is_meta m) → too_long p b ≡ None → Holds held (file_plan X p m b).blocks → P (file_plan X p m b).entry.cid → BlocksIn P (file_plan X p m b).blocks
    file_reached p m b ok carried fits all here =
        let k = kept p ok in
        let r = file_plan-rows X p m b k.some k.two in
        sub-plan X p m b k.some k.two (λ (x : Held). P x.0) r.0 r.2.fits _ r.3 (whole_reached p m r.0 b (file-held X good held p m b ok carried fits all) (subst P (ap (λ (e : Entry). e.cid) r.1) here))

  module _ (X : List ℕ → List ℕ) (N : List ℕ → ℕ) (good : IsHash X) where
    -- a slot whose item is reached, with the shard below it
    slot_reached : (deeper : List Named → Plan) (H : List Named → Type 0) → ((m : List Named) → H m → P (deeper m).entry.cid → BlocksIn P (deeper m).blocks × NamesIn P m)
        → (m : List Named) → (2 ≤ length m → H m) → IfSome (slot_item deeper m) (λ x. P (item_entry x).cid) → BlocksIn P (slot_blocks deeper m) × NamesIn P m
    slot_reached deeper H one [] two here = (tt, tt)
    slot_reached deeper H one (e ∷ []) two here = (tt, (here, tt))
    slot_reached deeper H one (e ∷ f ∷ m) two here = one (e ∷ f ∷ m) (two (omega arith)) here

    slots_reached : (deeper : List Named → Plan) (H : List Named → Type 0) → ((m : List Named) → H m → P (deeper m).entry.cid → BlocksIn P (deeper m).blocks × NamesIn P m)
        → (k : ℕ) (l : List Named) → ((s : ℕ) → s < 256 → 2 ≤ length (bucket N k s l) → H (bucket N k s l)) → LinksIn P (map slot_link (shard_items N deeper k l))
        → BlocksIn P (flat_tabulate 256 0 (λ s. slot_blocks deeper (bucket N k s l))) × NamesIn P l
    slots_reached deeper H one k l two links =
        let at : (s : ℕ) → s < 256 → BlocksIn P (slot_blocks deeper (bucket N k s l)) × NamesIn P (bucket N k s l) =
        λ s small. slot_reached deeper H one (bucket N k s l) (two s small) (at_slot P 256 0 (λ s. slot_item deeper (bucket N k s l)) s (omega arith) (omega arith) links) in
        (flat_each (λ (b : Held). P b.0) 256 0 (λ s. slot_blocks deeper (bucket N k s l)) (omega arith) (λ s small. (at s small).0), buckets_in P N k l (λ s small. (at s small).1))

    shard_reached : (lv : ℕ) (m : Meta) (l : List Named) → ShardHeld X N good held lv m l → P (shard X N lv m l).entry.cid → BlocksIn P (shard X N lv m l).blocks × NamesIn P l
    unfolding shard HasShard
    shard_reached zero m l h here =
        let items = shard_items N (no_shard X N) 7 l in
        let links = closed (shard X N zero m l).entry.cid (shard_block m items) (Shard m (map slot_link items)) here h.all.0 (shard-reread (X (shard_block m items)) m items h.meta (shard_items-valid N (no_shard X N) (none_valid X N good held) 7 l h.named h.some)) in
        let all = slots_reached (no_shard X N) (λ i. ⊥) (λ i no root. absurd no) 7 l (λ s small two. let few : length (bucket N 7 s l) ≤ 1 = h.has s in omega arith) links in
        ((here, all.0), all.1)
    shard_reached (suc lv) m l h here =
        let below = shard_reached lv none in
        let items = shard_items N (shard X N lv none) (6 - lv) l in
        let links = closed (shard X N (suc lv) m l).entry.cid (shard_block m items) (Shard m (map slot_link items)) here h.all.0 (shard-reread (X (shard_block m items)) m items h.meta (shard_items-valid N (shard X N lv none) (shard-valid X good N lv none) (6 - lv) l h.named h.some)) in
        let all = slots_reached (shard X N lv none) (ShardHeld X N good held lv none) below (6 - lv) l (λ s small two. below_shard X N good held lv m l h s small two) links in
        ((here, all.0), all.1)

    module _ (small : (name : List ℕ) → N name < 2 ^ 64) where
      block_reached : (p : Profile) (m : Meta) (l : List Named) → OwnHeld X N good small held p m l → is_sharded p l ≡ false → Holds held (basic_dir X N m l).blocks → P (basic_dir X N m l).entry.cid → BlocksIn P (basic_dir X N m l).blocks × NamesIn P l
      block_reached p m l h light all here =
          let short : length (dir_block m l) ≤ 2097152 = dir_length p m l h.profile h.valid.each light in
          ((here, tt), names_in P l (closed (basic_dir X N m l).entry.cid (dir_block m l) (Directory m (map (λ (e : Named). link_of e.0 e.1) l)) here all.0 (dir-reread (X (dir_block m l)) m l h.meta h.valid.each (omega arith))))

      own_reached : (p : Profile) (m : Meta) (l : List Named) → OwnHeld X N good small held p m l → P (own_plan X N p m l).entry.cid → BlocksIn P (own_plan X N p m l).blocks × NamesIn P l
      own_reached p m l h here = by (is_sharded p l) refl
        where
          by : (b : Bool) → is_sharded p l ≡ b → BlocksIn P (own_plan X N p m l).blocks × NamesIn P l
          by true e =
              let own : own_plan X N p m l ≡ shard X N 7 m l = ap (λ b. cond b (shard X N 7 m l) (basic_dir X N m l)) e in
              let all = shard_reached 7 m l (shards_held X N good small held p m l h e (subst (λ (x : Plan). Holds held x.blocks) own h.all)) (subst (λ (x : Plan). P x.entry.cid) own here) in
              (subst (λ (x : Plan). BlocksIn P x.blocks) (sym own) all.0, all.1)
          by false e =
              let own : own_plan X N p m l ≡ basic_dir X N m l = ap (λ b. cond b (shard X N 7 m l) (basic_dir X N m l)) e in
              let all = block_reached p m l h e (subst (λ (x : Plan). Holds held x.blocks) own h.all) (subst (λ (x : Plan). P x.entry.cid) own here) in
              (subst (λ (x : Plan). BlocksIn P x.blocks) (sym own) all.0, all.1)

      mutual
        unfolding planned fold

        pub tree-reached : (p : Profile) (t : Tree) → TreeHeld X N good small held p t → P (entry X N p t).cid → BlocksIn P (blocks X N p t)
        tree-reached p (FileTree m b) h here = file_reached X good p m b h.profile (file_good X N good small held p m b h) h.planned h.all here
        tree-reached p (Dir es) h here =
            let own = own_reached p (own_meta es) (named X N good small held p es) (own_held X N good small held p es h) here in
            both (λ (b : Held). P b.0) (blocks_of X N good small held p es) (own_plan X N p (own_meta es) (named X N good small held p es)).blocks (each_reached p es (members_held X N good small held p es h) own.1) own.0

        each_reached : (p : Profile) (es : Entries) → EachHeld X N good small held p es → NamesIn P (named X N good small held p es) → BlocksIn P (blocks_of X N good small held p es)
        each_reached p (Nothing m) h names = tt
        each_reached p (With name t es) h names =
            both (λ (b : Held). P b.0) (blocks X N p t) (blocks_of X N good small held p es) (tree-reached p t (first_held X N good small held p name t es h) names.0) (each_reached p es (others_held X N good small held p name t es h) names.1)

-- ---- where the links of a plan's blocks lead

module _ (held : Lookup) (cids : List Cid) where
  abbrev Q : Cid → Type 0
  Q c = Contains cids c

  abbrev Laid : List Held → Type 0
  Laid bs = AllByRecursion (LeadsInto cids) bs

  module _ (X : List ℕ → List ℕ) (good : IsHash X) where
    part_top : (p : Profile) (h : ℕ) (b : List ℕ) → BlocksIn Q (blocks_over X p.chunk p.width h b) → Q (part X good held p h b).entry.cid
    unfolding part_over blocks_over
    part_top p zero b all = all.0
    part_top p (suc h) b all = all.0

    part_tops : (p : Profile) (h : ℕ) (gs : List (List ℕ)) → BlocksIn Q (flat_map (blocks_over X p.chunk p.width h) gs) → LinksIn Q (node_over (map (part X good held p h) gs)).parts
    part_tops p h [] all = tt
    part_tops p h (g ∷ gs) all =
        (part_top p h g (front (λ (b : Held). Q b.0) (blocks_over X p.chunk p.width h g) (flat_map (blocks_over X p.chunk p.width h) gs) all), part_tops p h gs (back (λ (b : Held). Q b.0) (blocks_over X p.chunk p.width h g) (flat_map (blocks_over X p.chunk p.width h) gs) all))

    parts_laid : (p : Profile) (h : ℕ) → ((b : List ℕ) → PartHeld X good held p h b → BlocksIn Q (blocks_over X p.chunk p.width h b) → Laid (blocks_over X p.chunk p.width h b))
        → (gs : List (List ℕ)) → AllByRecursion (PartHeld X good held p h) gs → BlocksIn Q (flat_map (blocks_over X p.chunk p.width h) gs) → Laid (flat_map (blocks_over X p.chunk p.width h) gs)
    parts_laid p h one [] held_each all = tt
    parts_laid p h one (g ∷ gs) held_each all =
        both (LeadsInto cids) (blocks_over X p.chunk p.width h g) (flat_map (blocks_over X p.chunk p.width h) gs) (one g held_each.0 (front (λ (b : Held). Q b.0) (blocks_over X p.chunk p.width h g) (flat_map (blocks_over X p.chunk p.width h) gs) all))
        (parts_laid p h one gs held_each.1 (back (λ (b : Held). Q b.0) (blocks_over X p.chunk p.width h g) (flat_map (blocks_over X p.chunk p.width h) gs) all))

    part_laid : (p : Profile) (h : ℕ) (b : List ℕ) → PartHeld X good held p h b → BlocksIn Q (blocks_over X p.chunk p.width h b) → Laid (blocks_over X p.chunk p.width h b)
    unfolding part_over blocks_over unixfs_of
    part_laid p zero b s all = (record { node = File none b []; says = refl; followed = tt; links = tt }, tt)
    part_laid p (suc h) b s all =
        let one = part_laid p h in
        let cut = span p.chunk p.width h in
        let node = node_over (map (part X good held p h) (groups cut b)) in (
          record {
            node = File none [] node.parts;
            says = file-reread (X (file_block node)) node (file_node-valid X good p s.profile h b s.fits s.few);
            followed = tt;
            links = part_tops p h (groups cut b) all.1;
          },
          parts_laid p h one (groups cut b) (below_held X good held p h b s) all.1,
        )

    whole_top : (p : Profile) (m : Meta) (h : ℕ) (b : List ℕ) → BlocksIn Q (whole_blocks X p.chunk p.width m h b) → Q (whole X good held p m h b).entry.cid
    unfolding whole_part whole_blocks part_over blocks_over
    whole_top p m zero b all = all.0
    whole_top p m (suc h) b all = all.0

    whole_laid : (p : Profile) (m : Meta) (h : ℕ) (b : List ℕ) → WholeHeld X good held p m h b → BlocksIn Q (whole_blocks X p.chunk p.width m h b) → Laid (whole_blocks X p.chunk p.width m h b)
    unfolding whole_part whole_blocks part_over blocks_over unixfs_of
    whole_laid p m zero b s all = (record { node = File none b []; says = refl; followed = tt; links = tt }, tt)
    whole_laid p m (suc h) b s all =
        let cut = span p.chunk p.width h in
        let node = root_node m (map (part X good held p h) (groups cut b)) in (
          record {
            node = File m [] node.parts;
            says = file-reread (X (file_block node)) node (root_node-valid X good p s.profile m s.meta h b s.fits s.few);
            followed = tt;
            links = part_tops p h (groups cut b) all.1;
          },
          parts_laid p h (part_laid p h) (groups cut b) (below_root X good held p m h b s) all.1,
        )

    file_top : (p : Profile) (m : Meta) (b : List ℕ) → IsTrue (is_profile p) → BlocksIn Q (file_plan X p m b).blocks → Q (file_plan X p m b).entry.cid
    file_top p m b ok all =
        let k = kept p ok in
        let r = file_plan-rows X p m b k.some k.two in
        subst Q (sym (ap (λ (e : Entry). e.cid) r.1)) (whole_top p m r.0 b (plan-sub X p m b k.some k.two (λ (x : Held). Q x.0) r.0 r.2.fits _ r.3 all))

    file_laid : (p : Profile) (m : Meta) (b : List ℕ) → IsTrue (is_profile p) → IsTrue (is_meta m) → too_long p b ≡ None → Holds held (file_plan X p m b).blocks → BlocksIn Q (file_plan X p m b).blocks → Laid (file_plan X p m b).blocks
    file_laid p m b ok carried fits here all =
        let k = kept p ok in
        let r = file_plan-rows X p m b k.some k.two in
        sub-plan X p m b k.some k.two (LeadsInto cids) r.0 r.2.fits _ r.3 (whole_laid p m r.0 b (file-held X good held p m b ok carried fits here) (plan-sub X p m b k.some k.two (λ (x : Held). Q x.0) r.0 r.2.fits _ r.3 all))

  module _ (X : List ℕ → List ℕ) (N : List ℕ → ℕ) (good : IsHash X) where
    slot_laid : (deeper : List Named → Plan) (H : List Named → Type 0) → ((m : List Named) → H m → BlocksIn Q (deeper m).blocks → NamesIn Q m → Laid (deeper m).blocks)
        → (m : List Named) → (2 ≤ length m → H m) → BlocksIn Q (slot_blocks deeper m) → NamesIn Q m → Laid (slot_blocks deeper m)
    slot_laid deeper H one [] two all names = tt
    slot_laid deeper H one (e ∷ []) two all names = tt
    slot_laid deeper H one (e ∷ f ∷ m) two all names = one (e ∷ f ∷ m) (two (omega arith)) all names

    record SlotsLaid (deeper : List Named → Plan) (k : ℕ) (l : List Named) : Type 0 where
      links : LinksIn Q (map slot_link (shard_items N deeper k l))
      below : Laid (flat_tabulate 256 0 (λ s. slot_blocks deeper (bucket N k s l)))

    slots_laid : (deeper : List Named → Plan) (H : List Named → Type 0) (k : ℕ) (l : List Named) → ((s : ℕ) → s < 256 → 2 ≤ length (bucket N k s l) → H (bucket N k s l))
        → ((m : List Named) → H m → BlocksIn Q (deeper m).blocks → Q (deeper m).entry.cid) → ((m : List Named) → H m → BlocksIn Q (deeper m).blocks → NamesIn Q m → Laid (deeper m).blocks)
        → BlocksIn Q (flat_tabulate 256 0 (λ s. slot_blocks deeper (bucket N k s l))) → NamesIn Q l → SlotsLaid deeper k l
    slots_laid deeper H k l two top one all names =
        let at : (s : ℕ) → s < 256 → BlocksIn Q (slot_blocks deeper (bucket N k s l)) = λ s small. at_flat_tabulate (λ (b : Held). Q b.0) 256 0 (λ s. slot_blocks deeper (bucket N k s l)) s (omega arith) (omega arith) all in
        let named_in : (s : ℕ) → NamesIn Q (bucket N k s l) = λ s. each_filter (λ (e : Named). Q e.1.cid) (λ (e : Named). slot (N e.0) k == s) l names in
        record {
          links = slots_in Q 256 0 (λ s. slot_item deeper (bucket N k s l)) (omega arith) (λ s small. slot_top_at (bucket N k s l) (two s small) (at s small) (named_in s));
          below = flat_each (LeadsInto cids) 256 0 (λ s. slot_blocks deeper (bucket N k s l)) (omega arith) (λ s small. slot_laid deeper H one (bucket N k s l) (two s small) (at s small) (named_in s));
        }
      where
        slot_top_at : (m : List Named) → (2 ≤ length m → H m) → BlocksIn Q (slot_blocks deeper m) → NamesIn Q m → IfSome (slot_item deeper m) (λ x. Q (item_entry x).cid)
        slot_top_at [] many here leads = tt
        slot_top_at (e ∷ []) many here leads = leads.0
        slot_top_at (e ∷ f ∷ m) many here leads = top (e ∷ f ∷ m) (many (omega arith)) here

    shard_top : (lv : ℕ) (m : Meta) (l : List Named) → BlocksIn Q (shard X N lv m l).blocks → Q (shard X N lv m l).entry.cid
    unfolding shard
    shard_top zero m l all = all.0
    shard_top (suc lv) m l all = all.0

    shard_laid : (lv : ℕ) (m : Meta) (l : List Named) → ShardHeld X N good held lv m l → BlocksIn Q (shard X N lv m l).blocks → NamesIn Q l → Laid (shard X N lv m l).blocks
    unfolding shard HasShard
    shard_laid zero m l h all names =
        let items = shard_items N (no_shard X N) 7 l in
        let slots = slots_laid (no_shard X N) (λ i. ⊥) 7 l (λ s small two. let few : length (bucket N 7 s l) ≤ 1 = h.has s in omega arith) (λ i no here. absurd no) (λ i no here leads. absurd no) all.1 names in
        (record { node = Shard m (map slot_link items); says = shard-reread (X (shard_block m items)) m items h.meta (shard_items-valid N (no_shard X N) (none_valid X N good held) 7 l h.named h.some); followed = tt; links = slots.links }, slots.below)
    shard_laid (suc lv) m l h all names =
        let below = shard_laid lv none in
        let items = shard_items N (shard X N lv none) (6 - lv) l in
        let slots = slots_laid (shard X N lv none) (ShardHeld X N good held lv none) (6 - lv) l (λ s small two. below_shard X N good held lv m l h s small two) (λ i has here. shard_top lv none i here) below all.1 names in
        (record { node = Shard m (map slot_link items); says = shard-reread (X (shard_block m items)) m items h.meta (shard_items-valid N (shard X N lv none) (shard-valid X good N lv none) (6 - lv) l h.named h.some); followed = tt; links = slots.links }, slots.below)

    module _ (small : (name : List ℕ) → N name < 2 ^ 64) where
      own_top : (p : Profile) (m : Meta) (l : List Named) → BlocksIn Q (own_plan X N p m l).blocks → Q (own_plan X N p m l).entry.cid
      own_top p m l all = by (is_sharded p l) refl
        where
          by : (b : Bool) → is_sharded p l ≡ b → Q (own_plan X N p m l).entry.cid
          by true e =
              let own : own_plan X N p m l ≡ shard X N 7 m l = ap (λ b. cond b (shard X N 7 m l) (basic_dir X N m l)) e in
              subst (λ (x : Plan). Q x.entry.cid) (sym own) (shard_top 7 m l (subst (λ (x : Plan). BlocksIn Q x.blocks) own all))
          by false e =
              let own : own_plan X N p m l ≡ basic_dir X N m l = ap (λ b. cond b (shard X N 7 m l) (basic_dir X N m l)) e in
              subst (λ (x : Plan). Q x.entry.cid) (sym own) (subst (λ (x : Plan). BlocksIn Q x.blocks) own all).0

      own_laid : (p : Profile) (m : Meta) (l : List Named) → OwnHeld X N good small held p m l → BlocksIn Q (own_plan X N p m l).blocks → NamesIn Q l → Laid (own_plan X N p m l).blocks
      own_laid p m l h all names = by (is_sharded p l) refl
        where
          by : (b : Bool) → is_sharded p l ≡ b → Laid (own_plan X N p m l).blocks
          by true e =
              let own : own_plan X N p m l ≡ shard X N 7 m l = ap (λ b. cond b (shard X N 7 m l) (basic_dir X N m l)) e in
              subst (λ (x : Plan). Laid x.blocks) (sym own)
              (shard_laid 7 m l (shards_held X N good small held p m l h e (subst (λ (x : Plan). Holds held x.blocks) own h.all)) (subst (λ (x : Plan). BlocksIn Q x.blocks) own all) names)
          by false e =
              let own : own_plan X N p m l ≡ basic_dir X N m l = ap (λ b. cond b (shard X N 7 m l) (basic_dir X N m l)) e in
              let short : length (dir_block m l) ≤ 2097152 = dir_length p m l h.profile h.valid.each e in
              subst (λ (x : Plan). Laid x.blocks) (sym own)
              (record { node = Directory m (map (λ (e : Named). link_of e.0 e.1) l); says = dir-reread (X (dir_block m l)) m l h.meta h.valid.each (omega arith); followed = tt; links = linked_names Q l names }, tt)

      pub tree-top : (p : Profile) (t : Tree) → TreeHeld X N good small held p t → BlocksIn Q (blocks X N p t) → Q (entry X N p t).cid
      unfolding planned fold
      tree-top p (FileTree m b) h all = file_top X good p m b h.profile all
      tree-top p (Dir es) h all = own_top p (own_meta es) (named X N good small held p es) (back (λ (b : Held). Q b.0) (blocks_of X N good small held p es) (own_plan X N p (own_meta es) (named X N good small held p es)).blocks all)

      tops : (p : Profile) (es : Entries) → EachHeld X N good small held p es → BlocksIn Q (blocks_of X N good small held p es) → NamesIn Q (named X N good small held p es)
      unfolding planned fold
      tops p (Nothing m) h all = tt
      tops p (With name t es) h all = (
        tree-top p t (first_held X N good small held p name t es h) (front (λ (b : Held). Q b.0) (blocks X N p t) (blocks_of X N good small held p es) all),
        tops p es (others_held X N good small held p name t es h) (back (λ (b : Held). Q b.0) (blocks X N p t) (blocks_of X N good small held p es) all),
      )

      mutual
        unfolding planned fold

        pub tree-laid : (p : Profile) (t : Tree) → TreeHeld X N good small held p t → BlocksIn Q (blocks X N p t) → Laid (blocks X N p t)
        tree-laid p (FileTree m b) h all = file_laid X good p m b h.profile (file_good X N good small held p m b h) h.planned h.all all
        tree-laid p (Dir es) h all =
            let l = named X N good small held p es in
            let each = members_held X N good small held p es h in
            let below = front (λ (b : Held). Q b.0) (blocks_of X N good small held p es) (own_plan X N p (own_meta es) l).blocks all in
            both (LeadsInto cids) (blocks_of X N good small held p es) (own_plan X N p (own_meta es) l).blocks (each_laid p es each below)
            (own_laid p (own_meta es) l (own_held X N good small held p es h) (back (λ (b : Held). Q b.0) (blocks_of X N good small held p es) (own_plan X N p (own_meta es) l).blocks all) (tops p es each below))

        each_laid : (p : Profile) (es : Entries) → EachHeld X N good small held p es → BlocksIn Q (blocks_of X N good small held p es) → Laid (blocks_of X N good small held p es)
        each_laid p (Nothing m) h all = tt
        each_laid p (With name t es) h all =
            both (LeadsInto cids) (blocks X N p t) (blocks_of X N good small held p es) (tree-laid p t (first_held X N good small held p name t es h) (front (λ (b : Held). Q b.0) (blocks X N p t) (blocks_of X N good small held p es) all))
            (each_laid p es (others_held X N good small held p name t es h) (back (λ (b : Held). Q b.0) (blocks X N p t) (blocks_of X N good small held p es) all))

-- ---- the laws

each_cid : (P : Cid → Type 0) (bs : List Held) → AllByRecursion P (block_cids bs) → AllByRecursion (λ (b : Held). P b.0) bs
each_cid P [] h = tt
each_cid P (b ∷ bs) h = (h.0, each_cid P bs h.1)

pub cids-there : (bs : List Held) → AllByRecursion (λ (b : Held). Contains (block_cids bs) b.0) bs
cids-there bs = each_cid (Contains (block_cids bs)) bs (recursion_from_All (Contains (block_cids bs)) (block_cids bs) (All-contains_itself (block_cids bs)))

held_too : (held other : Lookup) (cids : List Cid) → AgreeAmong held other cids → (bs : List Held) → AllByRecursion (λ (b : Held). Contains cids b.0) bs → Holds held bs → Holds other bs
held_too held other cids agree [] here all = tt
held_too held other cids agree (b ∷ bs) here all = (sym (agree.same b.0 here.0) ∙ all.0, held_too held other cids agree bs here.1 all.1)

module _ (X : List ℕ → List ℕ) (N : List ℕ → ℕ) (p : Profile) (t : Tree) (held : Lookup) (good : IsHash X) (small : (name : List ℕ) → N name < 2 ^ 64)
    (ok : IsTrue (is_profile p)) (tree : IsTrue (is_tree t)) (fits : refusal X N p t ≡ None) (all : Holds held (blocks X N p t)) where
  stands : TreeHeld X N good small held p t
  stands = record { profile = ok; tree = tree; planned = fits; all = all }

  -- the links of a plan's blocks lead to its blocks
  pub plan-closed : AllByRecursion (LeadsInto (block_cids (blocks X N p t))) (blocks X N p t)
  plan-closed = tree-laid held (block_cids (blocks X N p t)) X N good small p t stands (cids-there (blocks X N p t))

  -- the root of a plan is the CID of one of its blocks
  pub plan-rooted : Contains (block_cids (blocks X N p t)) (entry X N p t).cid
  plan-rooted = tree-top held (block_cids (blocks X N p t)) X N good small p t stands (cids-there (blocks X N p t))

  -- a plan that is held is held too where the same is held wherever links lead from its root
  pub plan-reached : (other : Lookup) (cids : List Cid) → AgreeAmong held other cids → Contains cids (entry X N p t).cid → Holds other (blocks X N p t)
  plan-reached other cids agree here = held_too held other cids agree (blocks X N p t) (tree-reached held (Contains cids) agree.closed X N good small p t stands here) all
