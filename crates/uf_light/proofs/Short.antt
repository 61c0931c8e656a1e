-- No block of a tree with a plan is longer than a store may hold.
use Rattle.std.proofs.Common.{◌≡◌, ℕ, zero, suc, ◌+◌, ◌-◌, ◌^◌, ◌<◌, ◌≤◌, List, [], ◌∷◌, length, length-append, refl, sym, ap, ◌∙◌, subst, arith, Bool, true, false, cond, None}
use Rattle.std.specs.Prelude.{◌==◌, IsTrue, map}
use Rattle.std.specs.List.{AllByRecursion, flat_map}
use Rattle.std.proofs.lemmas.Bool.Decides.{nat_tests}
use Rattle.uf_cid.specs.declared.cid.Cid.{Cid}
use Rattle.uf_murmur.specs.Slots.{slot}
use Rattle.uf_tree.specs.declared.meta.Meta.{Meta}
use Rattle.uf_tree.specs.declared.profile.Profile.{Profile}
use Rattle.uf_tree.specs.Cutting.{joined}
use Rattle.uf_tree.specs.DirPlan.{basic_dir, is_sharded, own_plan}
use Rattle.uf_tree.specs.FilePlan.{Plan, file_plan, groups, root_node}
use Rattle.uf_tree.specs.FileSub.{blocks_over, part_over, span, whole_blocks}
use Rattle.uf_tree.specs.Metas.{is_meta, none}
use Rattle.uf_tree.specs.Nodes.{Named}
use Rattle.uf_tree.specs.Profiles.{is_profile}
use Rattle.uf_tree.specs.ShardPlan.{bucket, no_shard, shard, shard_items, slot_blocks}
use Rattle.uf_tree.specs.Tree.{Tree, File, Dir, Entries, Nothing, With, own_meta, pairs, is_tree, are_trees, fold}
use Rattle.uf_tree.specs.TreePlan.{blocks, entry, first_refusal, named_entries, planned, refusal}
use Rattle.uf_tree.specs.Validity.{IsHash, IsNamed}
use Rattle.uf_tree.proofs.Each.{both, each_filter, each_flat_tabulate}
use Rattle.uf_tree.proofs.Groups.{joined-split, width-split}
use Rattle.uf_tree.proofs.MetaNumbers.{none-is_meta}
use Rattle.uf_tree.proofs.Rows.{file_plan-rows, sub-plan}
use Rattle.uf_tree.proofs.Sizes.{dir_length, file_length, shard_length}
use Rattle.uf_tree.proofs.Sub.{span-pos}
use Rattle.uf_tree.proofs.Told.{kept}
use Rattle.uf_tree.proofs.Twins.{both_true}
use Rattle.uf_tree.proofs.Valid.{named-valid, node_entry-valid, root_node-valid, shard-valid, shard_items-valid}
use Rattle.uf_plain.proofs.Kept.{tree-meta}
use Rattle.uf_plain.proofs.Plans.{below_blocks, blocks-is, none-first, none-second, plans, refusal-is}
use Rattle.uf_light.proofs.Sound.{IsShort}
use Rattle.uf_light.specs.Standing.{IsTreeAt}
use Rattle.uf_light.proofs.Files as files

-- no part of a list is longer than all of it
in-joined : (n : ℕ) (gs : List (List ℕ)) → length (joined gs) < n → AllByRecursion (λ g. length g < n) gs
in-joined n [] h = tt
in-joined n (g ∷ gs) h =
    let all : length (joined (g ∷ gs)) ≡ length g + length (joined gs) = length-append g (joined gs) in
    (omega arith, in-joined n gs (omega arith))

module _ (X : List ℕ → List ℕ) (good : IsHash X) (p : Profile) (ok : IsTrue (is_profile p)) where
  -- ---- the blocks of a file

  chunk-few : p.chunk ≤ 1048576
  chunk-few = (kept p ok).short

  groups-small : (k : ℕ) (bytes : List ℕ) → length bytes < 2 ^ 63
      → AllByRecursion (λ g. length g ≤ span p.chunk p.width k) (groups (span p.chunk p.width k) bytes) × AllByRecursion (λ g. length g < 2 ^ 63) (groups (span p.chunk p.width k) bytes)
  groups-small k bytes small =
      let s = span p.chunk p.width k in
      let pos : 1 ≤ s = span-pos p.chunk p.width k (kept p ok).some (let two : 2 ≤ p.width = (kept p ok).two in omega arith) in
      let widths = width-split s s bytes pos (omega arith) in
      let whole : length (joined (groups s bytes)) ≡ length bytes = ap length (joined-split s s bytes) in
      ((widths.0, widths.1), in-joined (2 ^ 63) (groups s bytes) (subst (λ n. n < 2 ^ 63) (sym whole) small))

  part-short : (k : ℕ) (bytes : List ℕ) → length bytes ≤ span p.chunk p.width k → length bytes < 2 ^ 63 → AllByRecursion IsShort (blocks_over X p.chunk p.width k bytes)
  unfolding blocks_over part_over span
  part-short zero bytes fit small = (let few = chunk-few in omega arith, tt)
  part-short (suc k) bytes fit small =
      let parts = groups-small k bytes small in (
        file_length (root_node none (map (part_over X p.chunk p.width k) (groups (span p.chunk p.width k) bytes))) (root_node-valid X good p ok none none-is_meta k bytes fit small),
        each k (λ g a b. part-short k g a b) (groups (span p.chunk p.width k) bytes) parts.0 parts.1,
      )
    where
      each : (k : ℕ) → ((g : List ℕ) → length g ≤ span p.chunk p.width k → length g < 2 ^ 63 → AllByRecursion IsShort (blocks_over X p.chunk p.width k g)) → (gs : List (List ℕ))
          → AllByRecursion (λ g. length g ≤ span p.chunk p.width k) gs → AllByRecursion (λ g. length g < 2 ^ 63) gs → AllByRecursion IsShort (flat_map (blocks_over X p.chunk p.width k) gs)
      each k one [] a b = tt
      each k one (g ∷ gs) a b = both IsShort (blocks_over X p.chunk p.width k g) (flat_map (blocks_over X p.chunk p.width k) gs) (one g a.0 b.0) (each k one gs a.1 b.1)

  each-part : (k : ℕ) (gs : List (List ℕ)) → AllByRecursion (λ g. length g ≤ span p.chunk p.width k) gs → AllByRecursion (λ g. length g < 2 ^ 63) gs → AllByRecursion IsShort (flat_map (blocks_over X p.chunk p.width k) gs)
  each-part k [] a b = tt
  each-part k (g ∷ gs) a b = both IsShort (blocks_over X p.chunk p.width k g) (flat_map (blocks_over X p.chunk p.width k) gs) (part-short k g a.0 b.0) (each-part k gs a.1 b.1)

  whole-short : (m : Meta) → IsTrue (is_meta m) → (k : ℕ) (bytes : List ℕ) → length bytes ≤ span p.chunk p.width k → length bytes < 2 ^ 63 → AllByRecursion IsShort (whole_blocks X p.chunk p.width m k bytes)
  unfolding whole_blocks span
  whole-short m carried zero bytes fit small = (let few = chunk-few in omega arith, tt)
  whole-short m carried (suc k) bytes fit small =
      let parts = groups-small k bytes small in
      (file_length (root_node m (map (part_over X p.chunk p.width k) (groups (span p.chunk p.width k) bytes))) (root_node-valid X good p ok m carried k bytes fit small), each-part k (groups (span p.chunk p.width k) bytes) parts.0 parts.1)

  file-short : (m : Meta) (bytes : List ℕ) → IsTrue (is_meta m) → length bytes < 2 ^ 63 → AllByRecursion IsShort (file_plan X p m bytes).blocks
  file-short m bytes carried small =
      let pos = (kept p ok).some in
      let two = (kept p ok).two in
      let r = file_plan-rows X p m bytes pos two in
      sub-plan X p m bytes pos two IsShort r.0 r.2.fits _ r.3 (whole-short m carried r.0 bytes r.2.fits small)

  -- ---- the own blocks of a directory

  module _ (N : List ℕ → ℕ) where
    slot-short : (deeper : List Named → Plan) → ((l : List Named) → AllByRecursion IsNamed l → 1 ≤ length l → AllByRecursion IsShort (deeper l).blocks) → (l : List Named) → AllByRecursion IsNamed l
        → AllByRecursion IsShort (slot_blocks deeper l)
    slot-short deeper h [] named = tt
    slot-short deeper h (e ∷ []) named = tt
    slot-short deeper h (e ∷ f ∷ l) named = h (e ∷ f ∷ l) named (omega arith)

    bucket-named : (k s : ℕ) (l : List Named) → AllByRecursion IsNamed l → AllByRecursion IsNamed (bucket N k s l)
    bucket-named k s l h = each_filter IsNamed (λ e. slot (N e.0) k == s) l h

    shard-short : (left : ℕ) (m : Meta) (l : List Named) → AllByRecursion IsNamed l → 1 ≤ length l → AllByRecursion IsShort (shard X N left m l).blocks
    unfolding shard
    shard-short zero m l named some = (
      shard_length m (shard_items N (no_shard X N) 7 l) (shard_items-valid N (no_shard X N) (λ l. node_entry-valid X good [] []) 7 l named some),
      each_flat_tabulate IsShort 256 0 _ (λ s. slot-short (no_shard X N) (λ l n k. tt) (bucket N 7 s l) (bucket-named 7 s l named)),
    )
    shard-short (suc left) m l named some = (
      shard_length m (shard_items N (shard X N left none) (6 - left) l) (shard_items-valid N (shard X N left none) (λ l. shard-valid X good N left none l) (6 - left) l named some),
      each_flat_tabulate IsShort 256 0 _ (λ s. slot-short (shard X N left none) (shard-short left none) (bucket N (6 - left) s l) (bucket-named (6 - left) s l named)),
    )

    some-name : (l : List Named) → is_sharded p l ≡ true → 1 ≤ length l
    some-name [] h = absurd (no h)
      where
        no : is_sharded p [] ≡ true → ⊥
        no h = grind (arith, nat_tests)
    some-name (e ∷ l) h = omega arith

    own-short : (m : Meta) (l : List Named) → AllByRecursion IsNamed l → AllByRecursion IsShort (own_plan X N p m l).blocks
    own-short m l named = by (is_sharded p l) refl
      where
        by : (b : Bool) → is_sharded p l ≡ b → AllByRecursion IsShort (cond b (shard X N 7 m l) (basic_dir X N m l)).blocks
        by true e = shard-short 7 m l named (some-name l e)
        by false e = (dir_length p m l ok named e, tt)

    -- ---- the blocks of a tree

    few-bytes : (m : Meta) (bytes : List ℕ) → IsTrue (is_tree (File m bytes)) → refusal X N p (File m bytes) ≡ None → length bytes < 2 ^ 63
    few-bytes m bytes tree none =
        let few = files.few X N p (entry X N p (File m bytes)).cid m bytes (record { profile = ok; tree = tree; planned = none; is = refl }) in
        let chunk = chunk-few in omega arith

    -- of a directory, by those of its members
    dir-blocks : (es : Entries) → is_tree (Dir es) ≡ true → refusal X N p (Dir es) ≡ None
        → (are_trees es ≡ true → first_refusal (plans X N p (pairs es)) ≡ None → AllByRecursion IsShort (below_blocks X N p (pairs es))) → AllByRecursion IsShort (blocks X N p (Dir es))
    unfolding is_tree
    dir-blocks es tree none each =
        let trees : are_trees es ≡ true = (both_true _ _ tree).1 in
        subst (AllByRecursion IsShort) (sym (blocks-is X N p es))
        (both IsShort (below_blocks X N p (pairs es)) _ (each trees (none-first _ _ (sym (refusal-is X N p es) ∙ none))) (own-short (own_meta es) (named_entries X N p es) (named-valid X good N p ok es trees)))

    file-blocks : (m : Meta) (bytes : List ℕ) → is_tree (File m bytes) ≡ true → refusal X N p (File m bytes) ≡ None → AllByRecursion IsShort (blocks X N p (File m bytes))
    unfolding planned fold
    file-blocks m bytes tree none = file-short m bytes (tree-meta (File m bytes) tree) (few-bytes m bytes tree none)

    -- of one more member, by those of the others
    with-blocks : (name : List ℕ) (t : Tree) (es : Entries) → are_trees (With name t es) ≡ true → first_refusal (plans X N p (pairs (With name t es))) ≡ None
        → (is_tree t ≡ true → refusal X N p t ≡ None → AllByRecursion IsShort (blocks X N p t))
        → (are_trees es ≡ true → first_refusal (plans X N p (pairs es)) ≡ None → AllByRecursion IsShort (below_blocks X N p (pairs es)))
        → AllByRecursion IsShort (below_blocks X N p (pairs (With name t es)))
    unfolding is_tree
    with-blocks name t es trees none one more =
        let parts = both_true _ _ trees in
        both IsShort (blocks X N p t) (below_blocks X N p (pairs es)) (one (both_true _ _ parts.0).1 (none-first _ _ none)) (more parts.1 (none-second _ _ none))

    mutual
      tree-blocks : (t : Tree) → is_tree t ≡ true → refusal X N p t ≡ None → AllByRecursion IsShort (blocks X N p t)
      tree-blocks (File m bytes) tree none = file-blocks m bytes tree none
      tree-blocks (Dir es) tree none = dir-blocks es tree none (each-blocks es)

      each-blocks : (es : Entries) → are_trees es ≡ true → first_refusal (plans X N p (pairs es)) ≡ None → AllByRecursion IsShort (below_blocks X N p (pairs es))
      each-blocks (Nothing m) trees none = tt
      each-blocks (With name t es) trees none = with-blocks name t es trees none (tree-blocks t) (each-blocks es)

-- the blocks of a tree that has a plan
pub tree-short : (X : List ℕ → List ℕ) → IsHash X → (N : List ℕ → ℕ) (p : Profile) (c : Cid) (t : Tree) → IsTreeAt X N p c t → AllByRecursion IsShort (blocks X N p t)
tree-short X good N p c t s = tree-blocks X good p s.profile N t s.tree s.planned
