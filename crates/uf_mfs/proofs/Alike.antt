-- Which directories become sharded by a put depends on the name that is put, and not on the tree.
use Rattle.std.proofs.Common.{◌≡◌, ℕ, ◌+◌, ◌-◌, ◌*◌, List, [], ◌∷◌, ◌++◌, length, map, arith, Bool, true, false, cond, refl, ap, sym, ◌∙◌, subst, Option, Some, None, Result, Ok, Err}
use Rattle.std.specs.Prelude.{◌==◌, nat_lt, if◌then◌else◌, ⊤}
use Rattle.std.specs.List.{find, fold, sum_by}
use Rattle.std.specs.FinMap.Entries.{by_order, where_key}
use Rattle.std.proofs.lemmas.List.{length-append}
use Rattle.std.specs.declared.cmp.Ordering.{Ordering}
use Rattle.std.specs.declared.cmp.Ordering.TheVariants.{Less, Equal, Greater}
use Rattle.uf_cid.specs.Blocks.{Held}
use Rattle.uf_tree.specs.declared.profile.Profile.{Profile}
use Rattle.uf_tree.specs.Changes.{with_name}
use Rattle.uf_tree.specs.DirPlan.{is_sharded, weight}
use Rattle.uf_tree.specs.FilePlan.{Plan}
use Rattle.uf_tree.specs.Metas.{none}
use Rattle.uf_tree.specs.Names.{names_cmp}
use Rattle.uf_tree.specs.Nodes.{Named}
use Rattle.uf_tree.specs.ShardPlan.{bucket, flat_tabulate, no_shard, same_hash, shard, shard_at, shard_below, shard_held, shard_items, slot_blocks, tabulate, twins}
use Rattle.uf_tree.specs.Tree.{Tree, File, Dir, Entries, Nothing, pairs}
use Rattle.uf_tree.specs.TreePlan.{Collision, Refusal, collision, entry, named_entries}
use Rattle.uf_murmur.specs.Slots.{slot}
use Rattle.uf_dir.specs.Bounds.{crossing, shard_count, splitting}
use Rattle.uf_plain.specs.declared.rule.Refused.{Refused}
use Rattle.uf_plain.specs.declared.spot.Spot.{Spot}
use Rattle.uf_plain.specs.Edits.{and_then, as_folder, child, edited, with_child, with_folder}
use Rattle.uf_plain.specs.Moves.{edited_at, put_over, spot_names}
use Rattle.uf_plain.proofs.Kept.{pairs-with}
use Rattle.uf_mfs.specs.Moving.{put_crossings}
use Rattle.uf_mfs.specs.Touches.{crossings, crossings_of, entries_at, entries_in}
use Rattle.uf_mfs.proofs.Touching.{entries-put}

-- the same names in one order
abbrev SameNames : List Named → List Named → Type 0
SameNames [] [] = ⊤
SameNames [] (f ∷ m) = ⊥
SameNames (e ∷ l) [] = ⊥
SameNames (e ∷ l) (f ∷ m) = (e.0 ≡ f.0) × SameNames l m

same-refl : (l : List Named) → SameNames l l
same-refl [] = tt
same-refl (e ∷ l) = (refl, same-refl l)

-- ---- the weight

weight-from : (a : ℕ) (l m : List Named) → SameNames l m → fold (λ (n : ℕ) (e : Named). n + (length e.0 + 36)) a l ≡ fold (λ (n : ℕ) (e : Named). n + (length e.0 + 36)) a m
weight-from a [] [] s = refl
weight-from a [] (f ∷ m) s = absurd s
weight-from a (e ∷ l) [] s = absurd s
weight-from a (e ∷ l) (f ∷ m) s =
    ap (λ (name : List ℕ). fold (λ (n : ℕ) (e : Named). n + (length e.0 + 36)) (a + (length name + 36)) l) s.0
    ∙ weight-from (a + (length f.0 + 36)) l m s.1

sharded-same : (p : Profile) (l m : List Named) → SameNames l m → is_sharded p l ≡ is_sharded p m
sharded-same p l m s = ap (nat_lt p.threshold) (weight-from 0 l m s)

-- ---- two names of one hash

abbrev SameFirst : Option Named → Option Named → Type 0
SameFirst None None = ⊤
SameFirst None (Some f) = ⊥
SameFirst (Some e) None = ⊥
SameFirst (Some e) (Some f) = e.0 ≡ f.0

find-same : (test : List ℕ → Bool) (l m : List Named) → SameNames l m → SameFirst (find (λ (f : Named). test f.0) l) (find (λ (f : Named). test f.0) m)
find-same test [] [] s = tt
find-same test [] (f ∷ m) s = absurd s
find-same test (e ∷ l) [] s = absurd s
find-same test (e ∷ l) (f ∷ m) s = by (test e.0) (test f.0) (ap test s.0) (find-same test l m s.1)
  where
    by : (b c : Bool) → b ≡ c → SameFirst (find (λ (f : Named). test f.0) l) (find (λ (f : Named). test f.0) m) → SameFirst (cond b (Some e) (find (λ (f : Named). test f.0) l)) (cond c (Some f) (find (λ (f : Named). test f.0) m))
    by true true is rest = s.0
    by true false is rest = absurd cc
    by false true is rest = absurd cc
    by false false is rest = rest

twins-same : (same : List ℕ → List ℕ → Bool) (l m : List Named) → SameNames l m → twins same l ≡ twins same m
unfolding twins
twins-same same [] [] s = refl
twins-same same [] (f ∷ m) s = absurd s
twins-same same (e ∷ l) [] s = absurd s
twins-same same (e ∷ l) (f ∷ m) s =
    ap (λ (name : List ℕ). elim (find (λ (f : Named). same name f.0) l) as (λ o. Option (List ℕ × List ℕ)) [ None ↦ twins same l | Some f ↦ Some (name, f.0) ]) s.0
    ∙ by (find (λ (g : Named). same f.0 g.0) l) (find (λ (g : Named). same f.0 g.0) m) (find-same (same f.0) l m s.1) (twins-same same l m s.1)
  where
    by : (o q : Option Named) → SameFirst o q → twins same l ≡ twins same m → elim o as (λ o. Option (List ℕ × List ℕ)) [ None ↦ twins same l | Some g ↦ Some (f.0, g.0) ] ≡ elim q as (λ o. Option (List ℕ × List ℕ)) [ None ↦ twins same m | Some g ↦ Some (f.0, g.0) ]
    by None None h rest = rest
    by None (Some g) h rest = absurd h
    by (Some g) None h rest = absurd h
    by (Some g) (Some k) h rest = ap (λ (name : List ℕ). Some (f.0, name)) h

collision-same : (N : List ℕ → ℕ) (l m : List Named) → SameNames l m → collision N l ≡ collision N m
collision-same N l m s = ap (λ (o : Option (List ℕ × List ℕ)). elim o as (λ o. Option Refusal) [ None ↦ None | Some names ↦ Some (Collision names.0 names.1) ]) (twins-same (same_hash N) l m s)

-- ---- how many shard blocks

bucket-same : (test : List ℕ → Bool) (l m : List Named) → SameNames l m → SameNames (where_key names_cmp test l) (where_key names_cmp test m)
bucket-same test [] [] s = tt
bucket-same test [] (f ∷ m) s = absurd s
bucket-same test (e ∷ l) [] s = absurd s
bucket-same test (e ∷ l) (f ∷ m) s = by (test e.0) (test f.0) (ap test s.0) (bucket-same test l m s.1)
  where
    by : (b c : Bool) → b ≡ c → SameNames (where_key names_cmp test l) (where_key names_cmp test m) → SameNames (cond b (e ∷ where_key names_cmp test l) (where_key names_cmp test l)) (cond c (f ∷ where_key names_cmp test m) (where_key names_cmp test m))
    by true true is rest = (s.0, rest)
    by true false is rest = absurd cc
    by false true is rest = absurd cc
    by false false is rest = rest

flat-length : (n a : ℕ) (f g : ℕ → List Held) → ((s : ℕ) → length (f s) ≡ length (g s)) → length (flat_tabulate n a f) ≡ length (flat_tabulate n a g)
unfolding flat_tabulate
flat-length ℕ.zero a f g same = refl
flat-length (ℕ.suc n) a f g same =
    length-append (f a) (flat_tabulate n (ℕ.suc a) f) ∙ ap (λ k. k + length (flat_tabulate n (ℕ.suc a) f)) (same a) ∙ ap (λ k. length (g a) + k) (flat-length n (ℕ.suc a) f g same)
    ∙ sym (length-append (g a) (flat_tabulate n (ℕ.suc a) g))

one-more : (b c : Held) (l m : List Held) → length l ≡ length m → length (b ∷ l) ≡ length (c ∷ m)
one-more b c l m h = omega (arith, h)

module _ (X : List ℕ → List ℕ) (N : List ℕ → ℕ) where
  abbrev CountsSame : (List Named → Plan) → Type 0
  CountsSame deeper = (l m : List Named) → SameNames l m → length (deeper l).blocks ≡ length (deeper m).blocks

  slot-same : (deeper : List Named → Plan) → CountsSame deeper → (l m : List Named) → SameNames l m → length (slot_blocks deeper l) ≡ length (slot_blocks deeper m)
  slot-same deeper counts [] [] s = refl
  slot-same deeper counts [] (f ∷ m) s = absurd s
  slot-same deeper counts (e ∷ l) [] s = absurd s
  slot-same deeper counts (e ∷ []) (f ∷ []) s = refl
  slot-same deeper counts (e ∷ []) (f ∷ g ∷ m) s = absurd s.1
  slot-same deeper counts (e ∷ d ∷ l) (f ∷ []) s = absurd s.1
  slot-same deeper counts (e ∷ d ∷ l) (f ∷ g ∷ m) s = counts (e ∷ d ∷ l) (f ∷ g ∷ m) s

  below-same : (deeper : List Named → Plan) → CountsSame deeper → (k : ℕ) (l m : List Named) → SameNames l m → length (shard_below N deeper k l) ≡ length (shard_below N deeper k m)
  below-same deeper counts k l m s =
      flat-length 256 0 (λ i. slot_blocks deeper (bucket N k i l)) (λ i. slot_blocks deeper (bucket N k i m)) (λ i. slot-same deeper counts (bucket N k i l) (bucket N k i m) (bucket-same (λ name. slot (N name) k == i) l m s))

  count-at : (deeper : List Named → Plan) (k : ℕ) (l m : List Named) → length (shard_below N deeper k l) ≡ length (shard_below N deeper k m) → length (shard_at X N deeper k none l).blocks ≡ length (shard_at X N deeper k none m).blocks
  count-at deeper k l m h = one-more (shard_held X N none (shard_items N deeper k l)) (shard_held X N none (shard_items N deeper k m)) (shard_below N deeper k l) (shard_below N deeper k m) h

  shard-same : (n : ℕ) → CountsSame (shard X N n none)
  unfolding shard
  shard-same ℕ.zero l m s = count-at (no_shard X N) 7 l m (below-same (no_shard X N) (λ l m s. refl) 7 l m s)
  shard-same (ℕ.suc left) l m s = count-at (shard X N left none) (6 - left) l m (below-same (shard X N left none) (shard-same left) (6 - left) l m s)

  splitting-same : (l m : List Named) → SameNames l m → splitting X N l ≡ splitting X N m
  splitting-same l m s =
      ap (λ (o : Option Refusal). elim o as (λ o. ℕ) [ None ↦ 4 * shard_count X N l | Some why ↦ 0 ]) (collision-same N l m s)
      ∙ ap (λ (n : ℕ). elim (collision N m) as (λ o. ℕ) [ None ↦ 4 * n | Some why ↦ 0 ]) (shard-same 7 l m s)

  module _ (p : Profile) where
    crossing-same : (l m k : List Named) → SameNames m k → crossing X N p l m ≡ crossing X N p l k
    crossing-same l m k s =
        ap (λ (b : Bool). if is_sharded p l then (if b then 0 else splitting X N l) else (if b then splitting X N m else 0)) (sharded-same p m k s)
        ∙ ap (λ (n : ℕ). if is_sharded p l then (if is_sharded p k then 0 else splitting X N l) else (if is_sharded p k then n else 0)) (splitting-same m k s)

    -- ---- a put along a path

    abbrev name_all : List (List ℕ × Tree) → List Named
    name_all l = map (λ (e : List ℕ × Tree). (e.0, entry X N p e.1)) l

    put-same : (name : List ℕ) (t u : Tree) (l : List (List ℕ × Tree)) → SameNames (name_all (with_name name t l)) (name_all (with_name name u l))
    put-same name t u [] = (refl, tt)
    put-same name t u (e ∷ l) = by (names_cmp name e.0) (put-same name t u l)
      where
        by : (o : Ordering) → SameNames (name_all (with_name name t l)) (name_all (with_name name u l)) → SameNames (name_all (by_order o ((name, t) ∷ e ∷ l) ((e.0, t) ∷ l) (e ∷ with_name name t l))) (name_all (by_order o ((name, u) ∷ e ∷ l) ((e.0, u) ∷ l) (e ∷ with_name name u l)))
        by Less rest = (refl, same-refl (name_all (e ∷ l)))
        by Equal rest = (refl, same-refl (name_all l))
        by Greater rest = (refl, rest)

    child-same : (name : List ℕ) (t u : Tree) (es : Entries) → SameNames (named_entries X N p (with_child name t es)) (named_entries X N p (with_child name u es))
    child-same name t u es =
        subst (λ l. SameNames (name_all l) (named_entries X N p (with_child name u es))) (sym (pairs-with name t es))
        (subst (λ l. SameNames (name_all (with_name name t (pairs es))) (name_all l)) (sym (pairs-with name u es)) (put-same name t u (pairs es)))

    -- two edits that make the same directories sharded, or are both refused
    abbrev CrossSame : List (List ℕ) → Entries → Result Entries Refused → Result Entries Refused → Type 0
    CrossSame names es (Ok fs) (Ok gs) = crossings X N p names es fs ≡ crossings X N p names es gs
    CrossSame names es (Ok fs) (Err why) = ⊥
    CrossSame names es (Err why) (Ok gs) = ⊥
    CrossSame names es (Err why) (Err given) = ⊤

    cross-of : (names : List (List ℕ)) (es : Entries) (w v : Result Entries Refused) → CrossSame names es w v → crossings_of X N p names es w ≡ crossings_of X N p names es v
    cross-of names es (Ok fs) (Ok gs) h = h
    cross-of names es (Ok fs) (Err why) h = absurd h
    cross-of names es (Err why) (Ok gs) h = absurd h
    cross-of names es (Err why) (Err given) h = refl

    above : (name : List ℕ) (names : List (List ℕ)) (es below : Entries) (w v : Result Entries Refused) → entries_at name es ≡ below → CrossSame names below w v → CrossSame (name ∷ names) es (with_folder name es w) (with_folder name es v)
    above name names es below (Ok fs) (Ok gs) is h =
        ap (λ (n : ℕ). n + crossings X N p names (entries_at name es) (entries_at name (with_child name (Dir fs) es))) (crossing-same (named_entries X N p es) (named_entries X N p (with_child name (Dir fs) es)) (named_entries X N p (with_child name (Dir gs) es)) (child-same name (Dir fs) (Dir gs) es))
        ∙ ap (λ (n : ℕ). crossing X N p (named_entries X N p es) (named_entries X N p (with_child name (Dir gs) es)) + n)
        (ap (crossings X N p names (entries_at name es)) (entries-put name fs es)
        ∙ ap (λ (b : Entries). crossings X N p names b fs) is ∙ h ∙ ap (λ (b : Entries). crossings X N p names b gs) (sym is)
        ∙ ap (crossings X N p names (entries_at name es)) (sym (entries-put name gs es)))
    above name names es below (Ok fs) (Err why) is h = absurd h
    above name names es below (Err why) (Ok gs) is h = absurd h
    above name names es below (Err why) (Err given) is h = tt

    along : (t u : Tree) (led : ℕ) (name : List ℕ) (names : List (List ℕ)) (es : Entries) → CrossSame (name ∷ names) es (edited (put_over t) led name names es) (edited (put_over u) led name names es)
    along t u led name [] es =
        ap (λ (n : ℕ). n + 0) (crossing-same (named_entries X N p es) (named_entries X N p (with_child name t es)) (named_entries X N p (with_child name u es)) (child-same name t u es))
    along t u led name (next ∷ names) es = by (λ below. along t u (led + 1) next names below) (child name es) refl
      where
        at-child : (below : Entries) → child name es ≡ Some (Dir below) → entries_at name es ≡ below
        at-child below is = ap (λ (o : Option Tree). elim o as (λ o. Entries) [ None ↦ Nothing none | Some t ↦ entries_in t ]) is

        by : ((below : Entries) → CrossSame (next ∷ names) below (edited (put_over t) (led + 1) next names below) (edited (put_over u) (led + 1) next names below)) → (o : Option Tree) → child name es ≡ o
            → CrossSame (name ∷ next ∷ names) es (with_folder name es (and_then (as_folder (led + 1) o) (λ below. edited (put_over t) (led + 1) next names below))) (with_folder name es (and_then (as_folder (led + 1) o) (λ below. edited (put_over u) (led + 1) next names below)))
        by rec None is = tt
        by rec (Some (File m bytes)) is = tt
        by rec (Some (Dir below)) is = above name (next ∷ names) es below (edited (put_over t) (led + 1) next names below) (edited (put_over u) (led + 1) next names below) (at-child below is) (rec below)

    -- a put at a spot
    pub put-alike : (spot : Spot) (t u : Tree) (es : Entries) → put_crossings X N p spot t es ≡ put_crossings X N p spot u es
    put-alike spot t u es = by (spot_names spot)
      where
        by : (names : List (List ℕ)) → crossings_of X N p names es (edited_at (put_over t) names es) ≡ crossings_of X N p names es (edited_at (put_over u) names es)
        by [] = refl
        by (name ∷ names) = cross-of (name ∷ names) es (edited (put_over t) 0 name names es) (edited (put_over u) 0 name names es) (along t u 0 name names es)
