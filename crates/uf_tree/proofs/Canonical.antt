-- The blocks of plans are canonical in their roles.
use Rattle.std.proofs.Common.{◌≡◌, ℕ, zero, suc, ◌+◌, ◌*◌, ◌^◌, ◌<◌, ◌≤◌, List, [], ◌∷◌, ◌++◌, length, map, refl, ap, arith, sym, ◌∙◌, subst, ◌⊎◌, inl, inr, Bool, true, false, cond, Some, replicate, add-one, mul_assoc}
use Rattle.std.proofs.lemmas.Nat.{pow-add}
use Rattle.std.specs.Prelude.{◌==◌, IsTrue, IfSome, sum}
use Rattle.std.specs.List.{AllByRecursion, range_with_len}
use Rattle.std.proofs.Math.Nat.{mul-le-mul}
use Rattle.std.proofs.lemmas.Bool.{cases_lt}
use Rattle.std.proofs.lemmas.Bool.Decides.{nat_tests}
use Rattle.std.proofs.lemmas.List.{length-map, map-append}
use Rattle.std.proofs.lemmas.List.Sums.{sum-map}
use Rattle.uf_dagpb.specs.declared.node.Link.{Link}
use Rattle.uf_murmur.specs.Slots.{slot}
use Rattle.uf_tree.specs.declared.meta.Meta.{Meta}
use Rattle.uf_tree.specs.declared.nodes.Part.{Part}
use Rattle.uf_tree.specs.declared.profile.Profile.{Profile}
use Rattle.uf_tree.specs.DirPlan.{is_sharded, weight}
use Rattle.uf_tree.specs.FilePlan.{Plan, groups, node_over, root_node}
use Rattle.uf_tree.specs.FileSub.{span, part_over, IsFileHeight, IsHeight, lowest}
use Rattle.uf_tree.specs.Metas.{is_meta, none}
use Rattle.uf_tree.specs.Nodes.{Named, file_block, dir_block, shard_block}
use Rattle.uf_tree.specs.Profiles.{is_profile}
use Rattle.uf_tree.specs.Roles.{CarriesAt, IsHeightAt, IsCanonicalDirectory, Basic, Sharded, IsCanonicalShard, IsOnWay, IsCanonicalFileNode, IsSpanned, MayCarry, Root, Below, part_sizes, part_codec}
use Rattle.uf_tree.specs.Shardable.{HasShard}
use Rattle.uf_tree.specs.ShardPlan.{shard, shard_items, slot_item, bucket}
use Rattle.uf_tree.specs.Validity.{IsHash, IsEntry, IsNamed, IsDirectory}
use Rattle.uf_tree.proofs.Each.{each_tabulate}
use Rattle.uf_tree.proofs.Groups.{joined-split}
use Rattle.uf_tree.proofs.Nested.{groups-map}
use Rattle.uf_tree.proofs.Rows.{lowest-one}
use Rattle.uf_tree.proofs.Valid.{shard-valid, shard_items-valid, file_node-valid, root_node-valid, sub-size, sum_sizes}

pub light : (p : Profile) (l : List Named) → is_sharded p l ≡ false → weight l ≤ p.threshold
light p l h = grind (arith, nat_tests)

pub heavy : (p : Profile) (l : List Named) → is_sharded p l ≡ true → 1 ≤ length l
heavy p [] h = absurd (no p h)
  where
    no : (p : Profile) → is_sharded p [] ≡ true → ⊥
    no p h = grind (arith, nat_tests)
heavy p (e ∷ l) h = omega arith

pub basic-canonical : (p : Profile) (m : Meta) (l : List Named) → IsTrue (is_meta m) → IsDirectory l → is_sharded p l ≡ false → IsCanonicalDirectory (Some p) true (dir_block m l)
basic-canonical p m l good valid h = Basic (record { meta = m; pairs = l; good = good; valid = valid; light = light p l h; is = refl })

pub sharded-canonical : (X : List ℕ → List ℕ) → IsHash X → (N : List ℕ → ℕ) (p : Profile) (m : Meta) (l : List Named) → IsTrue (is_meta m) → IsDirectory l → is_sharded p l ≡ true
    → IsCanonicalDirectory (Some p) true (shard_block m (shard_items N (shard X N 6 none) 0 l))
sharded-canonical X good N p m l carried valid h = Sharded (record {
  meta = m;
  items = shard_items N (shard X N 6 none) 0 l;
  good = carried;
  valid = shard_items-valid N (shard X N 6 none) (shard-valid X good N 6 none) 0 l valid.each (heavy p l h);
  is = refl;
})

module _ (N : List ℕ → ℕ) where
  -- the slots of a name down to a level are these
  abbrev pub Along : List ℕ → Named → Type 0
  Along way e = map (slot (N e.0)) (range_with_len 0 (length way)) ≡ way

  one_more : (n a : ℕ) → range_with_len a (suc n) ≡ range_with_len a n ++ (a + n) ∷ []
  one_more zero a = let e : a ≡ a + 0 = omega arith in ap (λ n. n ∷ []) e
  one_more (suc n) a = ap (λ l. a ∷ l) (one_more n (a + 1) ∙ ap (λ m. range_with_len (a + 1) n ++ m ∷ []) (let e : a + 1 + n ≡ a + suc n = omega arith in e))

  further : (way : List ℕ) (s : ℕ) (e : Named) → Along way e → slot (N e.0) (length way) ≡ s → map (slot (N e.0)) (range_with_len 0 (length way + 1)) ≡ way ++ s ∷ []
  further way s e h k =
      ap (λ n. map (slot (N e.0)) (range_with_len 0 n)) (add-one (length way))
      ∙ ap (map (slot (N e.0))) (one_more (length way) 0)
      ∙ map-append (slot (N e.0)) (range_with_len 0 (length way)) ((0 + length way) ∷ [])
      ∙ ap (λ l. l ++ slot (N e.0) (0 + length way) ∷ []) h
      ∙ ap (λ m. way ++ m ∷ []) (ap (slot (N e.0)) (let z : 0 + length way ≡ length way = omega arith in z) ∙ k)

  tested : (a b : ℕ) → (a == b) ≡ true → a ≡ b
  tested a b h = grind (arith, nat_tests)

  pub along_bucket : (way : List ℕ) (s : ℕ) (l : List Named) → AllByRecursion (Along way) l → AllByRecursion (λ e. map (slot (N e.0)) (range_with_len 0 (length way + 1)) ≡ way ++ s ∷ []) (bucket N (length way) s l)
  along_bucket way s [] h = tt
  along_bucket way s (e ∷ l) h = by (slot (N e.0) (length way) == s) refl (along_bucket way s l h.1)
    where
      by : (b : Bool) → (slot (N e.0) (length way) == s) ≡ b → AllByRecursion (λ e. map (slot (N e.0)) (range_with_len 0 (length way + 1)) ≡ way ++ s ∷ []) (bucket N (length way) s l)
          → AllByRecursion (λ e. map (slot (N e.0)) (range_with_len 0 (length way + 1)) ≡ way ++ s ∷ []) (cond (slot (N e.0) (length way) == s) (e ∷ bucket N (length way) s l) (bucket N (length way) s l))
      by true k later = subst (λ b. AllByRecursion (λ e. map (slot (N e.0)) (range_with_len 0 (length way + 1)) ≡ way ++ s ∷ []) (cond b (e ∷ bucket N (length way) s l) (bucket N (length way) s l))) (sym k) (further way s e h.0 (tested _ _ k), later)
      by false k later = subst (λ b. AllByRecursion (λ e. map (slot (N e.0)) (range_with_len 0 (length way + 1)) ≡ way ++ s ∷ []) (cond b (e ∷ bucket N (length way) s l) (bucket N (length way) s l))) (sym k) later

  item_on_way : (deeper : List Named → Plan) (way : List ℕ) (s : ℕ) (l : List Named) → AllByRecursion (λ e. map (slot (N e.0)) (range_with_len 0 (length way + 1)) ≡ way ++ s ∷ []) l
      → (length way ≡ 7 → length l ≤ 1) → IfSome (slot_item deeper l) (λ x. IsOnWay N way (s, x))
  item_on_way deeper way s [] h last = tt
  item_on_way deeper way s (e ∷ []) h last = h.0
  item_on_way deeper way s (e ∷ f ∷ l) h last = λ seven. let few : length (e ∷ f ∷ l) ≤ 1 = last seven in absurd (no (length l) few)
    where
      no : (n : ℕ) → suc (suc n) ≤ 1 → ⊥
      no n h = omega arith

  pub few_last : (left : ℕ) (way : List ℕ) (l : List Named) → length way + left ≡ 7 → HasShard N left l → (s : ℕ) → length way ≡ 7 → length (bucket N (length way) s l) ≤ 1
  unfolding HasShard
  few_last zero way l e h s seven = subst (λ k. length (bucket N k s l) ≤ 1) (sym seven) (h s)
  few_last (suc left) way l e h s seven = absurd (omega arith)

  pub shard-canonical : (deeper : List Named → Plan) → ((m : List Named) → IsEntry (deeper m).entry) → (left : ℕ) (way : List ℕ) (meta : Meta) (l : List Named) → length way + left ≡ 7
      → IsTrue (is_meta meta) → MayCarry way meta → AllByRecursion IsNamed l → 1 ≤ length l → AllByRecursion (Along way) l → HasShard N left l
      → IsCanonicalShard N way (shard_block meta (shard_items N deeper (length way) l))
  shard-canonical deeper good left way meta l e carried may named some along has = record {
    meta = meta;
    good = carried;
    carries = may;
    items = shard_items N deeper (length way) l;
    valid = shard_items-valid N deeper good (length way) l named some;
    on_way = each_tabulate (IsOnWay N way) 256 0 256 (λ s. slot_item deeper (bucket N (length way) s l)) (omega arith)
        (λ s less. item_on_way deeper way s (bucket N (length way) s l) (along_bucket way s l along) (few_last left way l e has s));
    is = refl;
  }

abbrev nought : ℕ → ℕ
nought b = 0

zeros : (bytes : List ℕ) → map nought bytes ≡ replicate (length bytes) 0
zeros [] = refl
zeros (b ∷ bytes) = ap (λ l. 0 ∷ l) (zeros bytes)

same_lengths : (gs : List (List ℕ)) → map (λ (g : List ℕ). length g) (map (map nought) gs) ≡ map (λ (g : List ℕ). length g) gs
same_lengths [] = refl
same_lengths (g ∷ gs) = λ i. length-map g nought i ∷ same_lengths gs i

module _ (X : List ℕ → List ℕ) (good : IsHash X) (p : Profile) (ok : IsTrue (is_profile p)) where
  sizes_are : (k : ℕ) (gs : List (List ℕ)) → map (λ (m : Part). m.size) (map (part_over X p.chunk p.width k) gs) ≡ map (λ (g : List ℕ). length g) gs
  sizes_are k [] = refl
  sizes_are k (g ∷ gs) = λ i. sub-size X good p ok k g i ∷ sizes_are k gs i

  codecs_are : (k : ℕ) (gs : List (List ℕ)) → AllByRecursion (λ (l : Link). l.cid.codec ≡ part_codec k) (node_over (map (part_over X p.chunk p.width k) gs)).parts
  unfolding part_over
  codecs_are k [] = tt
  codecs_are zero (g ∷ gs) = (refl, codecs_are zero gs)
  codecs_are (suc k) (g ∷ gs) = (refl, codecs_are (suc k) gs)

  abbrev node_at : ℕ → List ℕ → List Part
  node_at k bytes = map (part_over X p.chunk p.width k) (groups (span p.chunk p.width k) bytes)

  total : (k : ℕ) (bytes : List ℕ) → sum (node_over (node_at k bytes)).sizes ≡ length bytes
  total k bytes = sum-map (λ (m : Part). m.size) (node_at k bytes) ∙ sum_sizes X good p ok (groups (span p.chunk p.width k) bytes) (part_over X p.chunk p.width k) (sub-size X good p ok k)
      ∙ ap length (joined-split (span p.chunk p.width k) (span p.chunk p.width k) bytes)

  planned_sizes : (k : ℕ) (bytes : List ℕ) → (node_over (node_at k bytes)).sizes ≡ part_sizes p k (sum (node_over (node_at k bytes)).sizes)
  planned_sizes k bytes =
      sizes_are k (groups (span p.chunk p.width k) bytes)
      ∙ sym (same_lengths (groups (span p.chunk p.width k) bytes))
      ∙ ap (map (λ (g : List ℕ). length g)) (sym (groups-map nought (span p.chunk p.width k) bytes))
      ∙ ap (λ zs. map (λ (g : List ℕ). length g) (groups (span p.chunk p.width k) zs)) (zeros bytes)
      ∙ ap (part_sizes p k) (sym (total k bytes))

  -- what has no metadata may stand at every place
  carries-none : (above declared whole : ℕ) → CarriesAt (Below above declared whole) none
  carries-none zero declared whole = tt
  carries-none (suc above) declared whole = refl

  height-none : (above declared whole total height : ℕ) → IsHeight p.chunk p.width whole height → IsHeightAt p (Below above declared whole) none total height
  height-none zero declared whole total height h = record { fits = h.fits; enough = omega arith; least = λ k low less. h.least k less }
  height-none (suc above) declared whole total height h = h

  -- a node of a file at its place
  pub node-canonical : (above k whole : ℕ) (bytes : List ℕ) → IsHeight p.chunk p.width whole (above + suc k) → above < 22
      → IsSpanned p (suc k) whole (length bytes) → length bytes < 2 ^ 63
      → IsCanonicalFileNode (Some p) (Below above (length bytes) whole) (file_block (node_over (node_at k bytes)))
  node-canonical above k whole bytes height few place small = let fit : length bytes ≤ span p.chunk p.width (suc k) = omega (arith, place.is) in record {
    node = node_over (node_at k bytes);
    valid = file_node-valid X good p ok k bytes fit small;
    few = few;
    carries = carries-none above (length bytes) whole;
    declared = total k bytes;
    planned = record { below = k; height = height-none above (length bytes) whole (sum (node_over (node_at k bytes)).sizes) (above + suc k) height; has_place = place; sizes = planned_sizes k bytes; codecs = codecs_are k (groups (span p.chunk p.width k) bytes) };
    is = refl;
  }

  -- the root of a file that has a node
  pub root-canonical : (m : Meta) → IsTrue (is_meta m) → (k : ℕ) (bytes : List ℕ) → IsFileHeight p.chunk p.width m (length bytes) (suc k) → length bytes < 2 ^ 63
      → IsCanonicalFileNode (Some p) Root (file_block (root_node m (node_at k bytes)))
  root-canonical m carried k bytes height small = record {
    node = root_node m (node_at k bytes);
    valid = root_node-valid X good p ok m carried k bytes height.fits small;
    few = omega arith;
    carries = tt;
    declared = tt;
    planned = record {
      below = k;
      height = subst (λ n. IsFileHeight p.chunk p.width m n (0 + suc k)) (sym (total k bytes)) (subst (λ h. IsFileHeight p.chunk p.width m (length bytes) h) (let z : suc k ≡ 0 + suc k = omega arith in z) height);
      has_place = tt;
      sizes = planned_sizes k bytes;
      codecs = codecs_are k (groups (span p.chunk p.width k) bytes);
    };
    is = refl;
  }

-- each row at least doubles the bytes that a part may have
doubles : (c w k : ℕ) → 2 ≤ w → c * 2 ^ k ≤ span c w k
unfolding span
doubles c w zero h = let e : c * 2 ^ 0 ≡ c = omega arith in omega arith
doubles c w (suc k) h =
    let more : 2 * (c * 2 ^ k) ≤ w * span c w k = mul-le-mul h (doubles c w k h) in
    let e : c * 2 ^ suc k ≡ c * 2 ^ k * 2 = ap (λ j. c * 2 ^ j) (sym (add-one k)) ∙ ap (λ q. c * q) (pow-add 2 k 1) ∙ sym (mul_assoc c (2 ^ k) 2) in
    omega arith

-- a file of no more than 4194304 times a piece has at most 22 rows of nodes
pub few_rows : (c w n h : ℕ) → 2 ≤ w → n ≤ c * 4194304 → IsHeight c w n h → h ≤ 22
few_rows c w n h two short height = by (cases_lt 22 h)
  where
    by : (22 < h) ⊎ (h ≤ 22) → h ≤ 22
    by (inl high) = let past : span c w 22 < n = height.least 22 high in let big : c * 4194304 ≤ span c w 22 = doubles c w 22 two in absurd (omega arith)
    by (inr le) = le

pub few_file_rows : (c w : ℕ) (m : Meta) (n h : ℕ) → 2 ≤ w → n ≤ c * 4194304 → IsFileHeight c w m n h → h ≤ 22
few_file_rows c w m n h two short height = by (cases_lt 22 h)
  where
    low : lowest m ≤ 22
    low = let one : lowest m ≤ 1 = lowest-one m in omega arith

    by : (22 < h) ⊎ (h ≤ 22) → h ≤ 22
    by (inl high) = let past : span c w 22 < n = height.least 22 low high in let big : c * 4194304 ≤ span c w 22 = doubles c w 22 two in absurd (omega arith)
    by (inr le) = le
