-- What plans give is valid.
use Rattle.std.proofs.Common.{◌≡◌, ℕ, zero, suc, ◌+◌, ◌-◌, ◌*◌, ◌^◌, ◌<◌, ◌≤◌, List, [], ◌∷◌, length, map, refl, ap, arith, sym, ◌∙◌, subst, ◌⊎◌, inl, inr, true, false, cond, Option, Some, None, Ordering, min, length-append, mul_comm}
use Rattle.std.specs.Prelude.{◌&&◌, ◌==◌, IsTrue, IfSome, sum}
use Rattle.std.specs.List.{AllByRecursion, sum_by}
use Rattle.std.specs.Ordering.{nat_cmp, is_lt}
use Rattle.std.specs.FinMap.Entries.{is_sorted, below_all, find}
use Rattle.std.proofs.Math.Nat.{min-le_right, mul-le-mul_left}
use Rattle.std.proofs.lemmas.List.{length-map}
use Rattle.std.proofs.lemmas.Bool.{cases_lt}
use Rattle.std.proofs.lemmas.List.Sums.{sum-map, sum_by-cons}
use Rattle.uf_murmur.specs.Slots.{slot}
use Rattle.uf_tree.specs.declared.meta.Meta.{Meta}
use Rattle.uf_tree.specs.declared.nodes.Entry.{Entry}
use Rattle.uf_tree.specs.declared.nodes.Item.{Item}
use Rattle.uf_tree.specs.declared.nodes.Item.TheVariants.{Leaf, Sub}
use Rattle.uf_tree.specs.declared.nodes.Part.{Part}
use Rattle.uf_tree.specs.declared.profile.Profile.{Profile}
use Rattle.uf_tree.specs.Cutting.{joined, room_after}
use Rattle.uf_tree.specs.DirPlan.{own_plan, basic_dir, is_sharded}
use Rattle.uf_tree.specs.FilePlan.{Plan, file_plan, groups, split_from, node_over, root_node, leaf_part}
use Rattle.uf_tree.specs.FileSub.{span, part_over, whole_part}
use Rattle.uf_tree.specs.Metas.{is_meta, none}
use Rattle.uf_tree.specs.Names.{names_cmp}
use Rattle.uf_tree.specs.Nodes.{Named, InSlot, node_entry}
use Rattle.uf_tree.specs.Profiles.{is_profile}
use Rattle.uf_tree.specs.ShardPlan.{shard, shard_items, slot_item, bucket}
use Rattle.uf_tree.specs.Tree.{Tree, File, Dir, Entries, Nothing, With, own_meta, pairs, is_tree, are_trees, fold}
use Rattle.uf_tree.specs.TreePlan.{entry, named_entries, planned}
use Rattle.uf_tree.specs.Validity.{IsHash, IsEntry, IsNamed, IsDirectory, IsItem, IsInSlot, IsShard, IsPartLink, IsFileNode}
use Rattle.uf_tree.proofs.Each.{each_filter, each_tabulate}
use Rattle.uf_tree.proofs.Groups.{joined-split, length-split, width-split, room-below}
use Rattle.uf_tree.proofs.MetaNumbers.{none-is_meta}
use Rattle.uf_tree.proofs.Rows.{file_plan-rows}
use Rattle.uf_tree.proofs.ShardLaws.{slot-bound, sorted-tabulate, find-tabulate}
use Rattle.uf_tree.proofs.Sub.{span-pos}
use Rattle.uf_tree.proofs.Told.{as_true, kept}
use Rattle.uf_tree.proofs.TreeLaws.{entry-dir}
use Rattle.uf_tree.proofs.Twins.{both_true, same_key}

below_cap : (n : ℕ) → min n (2 ^ 64 - 1) < 2 ^ 64
below_cap n = let le : min n (2 ^ 64 - 1) ≤ 2 ^ 64 - 1 = min-le_right n (2 ^ 64 - 1) in omega arith

module _ (X : List ℕ → List ℕ) (good : IsHash X) where
  pub node_entry-valid : (bytes : List ℕ) (below : List Entry) → IsEntry (node_entry X bytes below)
  node_entry-valid bytes below = record { cid = record { size = good.size bytes; bytes = good.are_bytes bytes }; tsize = below_cap _ }

  pub leaf-valid : (bytes : List ℕ) → length bytes < 2 ^ 64 → IsEntry (leaf_part X bytes).entry
  leaf-valid bytes h = record { cid = record { size = good.size bytes; bytes = good.are_bytes bytes }; tsize = h }

  pub shard-valid : (N : List ℕ → ℕ) (left : ℕ) (m : Meta) (l : List Named) → IsEntry (shard X N left m l).entry
  unfolding shard
  shard-valid N zero m l = record { cid = record { size = good.size _; bytes = good.are_bytes _ }; tsize = below_cap _ }
  shard-valid N (suc left) m l = record { cid = record { size = good.size _; bytes = good.are_bytes _ }; tsize = below_cap _ }

  pub own_plan-valid : (N : List ℕ → ℕ) (p : Profile) (m : Meta) (l : List Named) → IsEntry (own_plan X N p m l).entry
  own_plan-valid N p m l = elim (is_sharded p l) as (λ b. IsEntry (cond b (shard X N 7 m l) (basic_dir X N m l)).entry) [
    | true ↦ shard-valid N 7 m l
    | false ↦ record { cid = record { size = good.size _; bytes = good.are_bytes _ }; tsize = below_cap _ }
  ]

  -- of the part of a height over no more bytes than it can have
  pub sub-valid : (p : Profile) → IsTrue (is_profile p) → (k : ℕ) (bytes : List ℕ) → length bytes ≤ span p.chunk p.width k → IsEntry (part_over X p.chunk p.width k bytes).entry
  unfolding part_over span
  sub-valid p ok zero bytes h = leaf-valid bytes (let short : p.chunk ≤ 1048576 = (kept p ok).short in omega arith)
  sub-valid p ok (suc k) bytes h = record { cid = record { size = good.size _; bytes = good.are_bytes _ }; tsize = below_cap _ }

  whole-valid : (p : Profile) → IsTrue (is_profile p) → (m : Meta) (k : ℕ) (bytes : List ℕ) → length bytes ≤ span p.chunk p.width k → IsEntry (whole_part X p.chunk p.width m k bytes).entry
  unfolding whole_part part_over span
  whole-valid p ok m zero bytes h = sub-valid p ok zero bytes h
  whole-valid p ok m (suc k) bytes h = record { cid = record { size = good.size _; bytes = good.are_bytes _ }; tsize = below_cap _ }

  pub file-valid : (p : Profile) → IsTrue (is_profile p) → (m : Meta) (bytes : List ℕ) → IsEntry (file_plan X p m bytes).entry
  file-valid p ok m bytes = let r = file_plan-rows X p m bytes (kept p ok).some (kept p ok).two in
      subst IsEntry (sym r.1) (whole-valid p ok m r.0 bytes r.2.fits)

  -- the entry of every tree
  pub entry-valid : (N : List ℕ → ℕ) (p : Profile) → IsTrue (is_profile p) → (t : Tree) → IsEntry (entry X N p t)
  unfolding planned fold
  entry-valid N p ok (File m bytes) = file-valid p ok m bytes
  entry-valid N p ok (Dir es) = subst IsEntry (sym (entry-dir X N p es)) (own_plan-valid N p (own_meta es) (named_entries X N p es))

module _ {K A B : Type 0} (R : K → K → Ordering) (f : A → B) where
  abbrev over : K × A → K × B
  over e = (e.0, f e.1)

  below-map : (x : K) (l : List (K × A)) → below_all R x (map over l) ≡ below_all R x l
  below-map x [] = refl
  below-map x (e ∷ l) = ap (λ b. is_lt (R x e.0) && b) (below-map x l)

  pub sorted-map : (l : List (K × A)) → is_sorted R (map over l) ≡ is_sorted R l
  sorted-map [] = refl
  sorted-map (e ∷ l) = ap (λ b. b && is_sorted R (map over l)) (below-map e.0 l) ∙ ap (λ b. below_all R e.0 l && b) (sorted-map l)

-- the names and entries of a directory
pub named-valid : (X : List ℕ → List ℕ) → IsHash X → (N : List ℕ → ℕ) (p : Profile) → IsTrue (is_profile p) → (es : Entries) → are_trees es ≡ true → AllByRecursion IsNamed (named_entries X N p es)
unfolding is_tree
named-valid X good N p ok (Nothing m) h = tt
named-valid X good N p ok (With name t es) h =
    let parts = both_true _ _ h in
    (record { name = (both_true _ _ parts.0).0; entry = entry-valid X good N p ok t }, named-valid X good N p ok es parts.1)

pub directory-valid : (X : List ℕ → List ℕ) → IsHash X → (N : List ℕ → ℕ) (p : Profile) → IsTrue (is_profile p) → (es : Entries) → IsTrue (is_tree (Dir es)) → IsDirectory (named_entries X N p es)
unfolding is_tree
directory-valid X good N p ok es h =
    let parts = both_true _ _ h in
    record { sorted = sorted-map names_cmp (λ t. entry X N p t) (pairs es) ∙ parts.0; each = named-valid X good N p ok es parts.1 }

-- what a slot has of valid pairs
item-valid : (deeper : List Named → Plan) → ((l : List Named) → IsEntry (deeper l).entry) → (l : List Named) → AllByRecursion IsNamed l → IfSome (slot_item deeper l) IsItem
item-valid deeper good [] h = tt
item-valid deeper good (e ∷ []) h = h.0
item-valid deeper good (e ∷ f ∷ l) h = good (e ∷ f ∷ l)

in_slot : (s : ℕ) → s < 256 → (o : Option Item) → IfSome o IsItem → IfSome o (λ x. IsInSlot (s, x))
in_slot s h None k = tt
in_slot s h (Some x) k = record { slot = h; item = k }

not_empty : (s : ℕ) (items : List InSlot) (x : Item) → find nat_cmp s items ≡ Some x → 1 ≤ length items
not_empty s [] x h = absurd (no h)
  where
    no : None ≡ Some x → ⊥
    no e = cc
not_empty s (i ∷ items) x h = omega arith

some_item : (deeper : List Named → Plan) (e : Named) (l : List Named) → (x : Item) × (slot_item deeper (e ∷ l) ≡ Some x)
some_item deeper e [] = (Leaf e.0 e.1, refl)
some_item deeper e (f ∷ l) = (Sub (deeper (e ∷ f ∷ l)).entry, refl)

some_slot : (N : List ℕ → ℕ) (deeper : List Named → Plan) (k : ℕ) (l : List Named) → 1 ≤ length l → 1 ≤ length (shard_items N deeper k l)
some_slot N deeper k [] h = absurd (omega arith)
some_slot N deeper k (e ∷ l) h =
    let s = slot (N e.0) k in
    let item = some_item deeper e (bucket N k s l) in
    let there : bucket N k s (e ∷ l) ≡ e ∷ bucket N k s l = ap (λ b. cond b (e ∷ bucket N k s l) (bucket N k s l)) (same_key s s refl) in
    not_empty s (shard_items N deeper k (e ∷ l)) item.0
    (find-tabulate 256 0 (λ s. slot_item deeper (bucket N k s (e ∷ l))) s (omega arith) (let bound : s < 256 = slot-bound (N e.0) k in omega arith)
    ∙ ap (slot_item deeper) there ∙ item.1)

-- the slots of a shard of valid pairs
pub shard_items-valid : (N : List ℕ → ℕ) (deeper : List Named → Plan) → ((l : List Named) → IsEntry (deeper l).entry) → (k : ℕ) (l : List Named) → AllByRecursion IsNamed l → 1 ≤ length l → IsShard (shard_items N deeper k l)
shard_items-valid N deeper good k l h some = record {
  some = some_slot N deeper k l some;
  sorted = as_true _ (sorted-tabulate 256 0 (λ s. slot_item deeper (bucket N k s l)));
  each = each_tabulate IsInSlot 256 0 256 (λ s. slot_item deeper (bucket N k s l)) (omega arith)
      (λ s less. in_slot s less _ (item-valid deeper good (bucket N k s l) (each_filter IsNamed (λ e. slot (N e.0) k == s) l h)));
}

module _ (X : List ℕ → List ℕ) (good : IsHash X) (p : Profile) (ok : IsTrue (is_profile p)) where
  -- the sizes of the parts of a height are the numbers of their bytes
  pub sum_sizes : (gs : List (List ℕ)) (f : List ℕ → Part) → ((g : List ℕ) → (f g).size ≡ length g) → sum_by (λ (m : Part). m.size) (map f gs) ≡ length (joined gs)
  sum_sizes [] f h = refl
  sum_sizes (g ∷ gs) f h =
      let front : sum_by (λ (m : Part). m.size) (map f (g ∷ gs)) ≡ (f g).size + sum_by (λ (m : Part). m.size) (map f gs) = sum_by-cons (λ (m : Part). m.size) (f g) (map f gs) in
      let all : length (joined (g ∷ gs)) ≡ length g + length (joined gs) = length-append g (joined gs) in
      let one : (f g).size ≡ length g = h g in
      let rest : sum_by (λ (m : Part). m.size) (map f gs) ≡ length (joined gs) = sum_sizes gs f h in
      omega arith

  pub sub-size : (k : ℕ) (bytes : List ℕ) → (part_over X p.chunk p.width k bytes).size ≡ length bytes
  unfolding part_over
  sub-size zero bytes = refl
  sub-size (suc k) bytes = sum_sizes (groups (span p.chunk p.width k) bytes) (part_over X p.chunk p.width k) (sub-size k) ∙ ap length (joined-split (span p.chunk p.width k) (span p.chunk p.width k) bytes)

  few_groups : (s w : ℕ) → 1 ≤ s → (bytes : List ℕ) → length bytes ≤ w * s → 1 ≤ w → length (groups s bytes) ≤ w
  few_groups s w h [] k j = omega arith
  few_groups s w h (x ∷ xs) k j =
      let count = length-split s s (x ∷ xs) h (omega arith) in
      let room = room-below s s x xs h (omega arith) in
      by s w (length (split_from s s (x ∷ xs)).1) (length (x ∷ xs)) (room_after s s (x ∷ xs)) h count room k
    where
      by : (s w n l r : ℕ) → 1 ≤ s → s * n + s ≡ l + r → r < s → l ≤ w * s → suc n ≤ w
      by s w n l r h e k j = by_cases (cases_lt n w)
        where
          by_cases : (n < w) ⊎ (w ≤ n) → suc n ≤ w
          by_cases (inl le) = omega arith
          by_cases (inr less) = let more : s * w ≤ s * n = mul-le-mul_left s less in let turned : w * s ≡ s * w = mul_comm w s in absurd (omega arith)

  pub links-valid : (f : List ℕ → Part) (gs : List (List ℕ)) (s : ℕ) → ((g : List ℕ) → length g ≤ s → IsEntry (f g).entry) → AllByRecursion (λ g. length g ≤ s) gs → AllByRecursion IsPartLink (node_over (map f gs)).parts
  links-valid f [] s h all = tt
  links-valid f (g ∷ gs) s h all = (record { name = refl; cid = (h g all.0).cid; tsize = (h g all.0).tsize }, links-valid f gs s h all.1)

  -- a node over no more bytes than its height can have, with the file's metadata at its root
  pub root_node-valid : (m : Meta) → IsTrue (is_meta m) → (k : ℕ) (bytes : List ℕ) → length bytes ≤ span p.chunk p.width (suc k) → length bytes < 2 ^ 63
      → IsFileNode (root_node m (map (part_over X p.chunk p.width k) (groups (span p.chunk p.width k) bytes)))
  unfolding span
  root_node-valid m carried k bytes fit small =
      let s = span p.chunk p.width k in
      let pos : 1 ≤ s = span-pos p.chunk p.width k (kept p ok).some (let two : 2 ≤ p.width = (kept p ok).two in omega arith) in
      let gs = groups s bytes in
      let parts = map (part_over X p.chunk p.width k) gs in
      let links : length (node_over parts).parts ≡ length parts = length-map parts _ in
      let sizes : length (node_over parts).sizes ≡ length parts = length-map parts _ in
      let count : length parts ≡ length gs = length-map gs _ in
      let few : length gs ≤ p.width = few_groups s p.width pos bytes fit (let two : 2 ≤ p.width = (kept p ok).two in omega arith) in
      let most : p.width ≤ 1024 = (kept p ok).few in
      let widths = width-split s s bytes pos (omega arith) in
      let total : sum (node_over parts).sizes ≡ length bytes = sum-map (λ (m : Part). m.size) parts ∙ sum_sizes gs (part_over X p.chunk p.width k) (sub-size k) ∙ ap length (joined-split s s bytes) in
      record {
        some = omega arith;
        few = omega arith;
        sizes = sizes ∙ sym links;
        total = omega arith;
        each = links-valid (part_over X p.chunk p.width k) gs s (λ g h. sub-valid X good p ok k g h) (widths.0, widths.1);
        meta = carried;
      }

  pub file_node-valid : (k : ℕ) (bytes : List ℕ) → length bytes ≤ span p.chunk p.width (suc k) → length bytes < 2 ^ 63
      → IsFileNode (node_over (map (part_over X p.chunk p.width k) (groups (span p.chunk p.width k) bytes)))
  file_node-valid k bytes fit small = root_node-valid none none-is_meta k bytes fit small
