-- How many blocks decide a path, and how many a file has.
use Rattle.std.proofs.Common.{◌≡◌, ℕ, zero, suc, ◌+◌, ◌-◌, ◌*◌, ◌≤◌, List, [], ◌∷◌, ◌++◌, arith, fold, length, length-append, refl, ap, Bool, true, false, cond, Option, Some, None, Result, Ok, Err}
use Rattle.std.specs.Prelude.{IsOk, if◌then◌else◌}
use Rattle.uf_cid.specs.Blocks.{Held}
use Rattle.uf_tree.specs.declared.meta.Meta.{Meta}
use Rattle.uf_tree.specs.declared.profile.Profile.{Profile}
use Rattle.uf_tree.specs.DirPlan.{basic_dir, is_sharded, trail}
use Rattle.uf_tree.specs.Metas.{none}
use Rattle.uf_tree.specs.Nodes.{Named}
use Rattle.uf_murmur.specs.Slots.{slot}
use Rattle.uf_tree.specs.ShardPlan.{bucket, shard_trail, where_shared}
use Rattle.uf_tree.specs.Tree.{Tree, File, Dir, own_meta}
use Rattle.uf_tree.specs.TreePlan.{named_entries}
use Rattle.uf_plain.specs.declared.rule.Refused.{Refused}
use Rattle.uf_plain.specs.Edits.{at, child}
use Rattle.uf_walk.specs.Order.{is_met}
use Rattle.uf_light.specs.FileCids.{cids_of}
use Rattle.uf_light.specs.Light.{block_once, file_blocks, light_order, light_says, trails}
use Rattle.uf_light.specs.Needs.{finding_touches, proof_touches, shown_blocks}

-- of some blocks, of which each CID stands once, there are no more than of all
once-few : (done l : List Held) → length (fold block_once done l) ≤ length done + length l
once-few done [] = omega arith
once-few done (b ∷ l) =
    let more = once-few (block_once done b) l in
    let one : length (block_once done b) ≤ length done + 1 = by (is_met (cids_of done) b.0) in
    omega (arith, more, one)
  where
    by : (x : Bool) → length (if x then done else done ++ b ∷ []) ≤ length done + 1
    by true = omega arith
    by false = let all = length-append done (b ∷ []) in omega (arith, all)

module _ (X : List ℕ → List ℕ) (N : List ℕ → ℕ) where
  shared-few : (n : ℕ) (shared : List Named) (l : List Held) → length l ≤ n → length (where_shared shared l) ≤ n
  shared-few n [] l h = omega arith
  shared-few n (e ∷ []) l h = omega arith
  shared-few n (e ∷ f ∷ shared) l h = h

  -- a shard on each level
  shards-few : (left : ℕ) (m : Meta) (l : List Named) (name : List ℕ) → length (shard_trail X N left m l name) ≤ left + 1
  unfolding shard_trail
  shards-few zero m l name = omega arith
  shards-few (suc left) m l name =
      let shared = bucket N (6 - left) (slot (N name) (6 - left)) l in
      let more : length (where_shared shared (shard_trail X N left none shared name)) ≤ left + 1 = shared-few (left + 1) shared (shard_trail X N left none shared name) (shards-few left none shared name) in
      omega (arith, more)

  -- eight blocks decide a name at most
  trail-few : (p : Profile) (m : Meta) (l : List Named) (name : List ℕ) → length (trail X N p m l name) ≤ 8
  trail-few p m l name = by (is_sharded p l)
    where
      by : (b : Bool) → length (cond b (shard_trail X N 7 m l name) (basic_dir X N m l).blocks) ≤ 8
      by true = shards-few 7 m l name
      by false = omega arith

  module _ (p : Profile) where
    trails-few : (names : List (List ℕ)) (t : Tree) → length (trails X N p names t) ≤ 8 * length names
    trails-few [] t = omega arith
    trails-few (name ∷ names) (File m bytes) = omega arith
    trails-few (name ∷ names) (Dir es) =
        let l = trail X N p (own_meta es) (named_entries X N p es) name in
        let own = trail-few p (own_meta es) (named_entries X N p es) name in
        let more = by (λ u. trails-few names u) (child name es) in
        let all = length-append l (elim (child name es) as (λ o. List Held) [ None ↦ [] | Some t ↦ trails X N p names t ]) in
        omega (arith, own, more, all)
      where
        by : ((u : Tree) → length (trails X N p names u) ≤ 8 * length names) → (o : Option Tree) → length (elim o as (λ o. List Held) [ None ↦ [] | Some t ↦ trails X N p names t ]) ≤ 8 * length names
        by few None = omega arith
        by few (Some u) = few u

    -- where there is something to show, a proof contains all blocks of the file there
    pub shown-is : (names : List (List ℕ)) (height : ℕ) (absent : Bool) (w : Result Tree Refused) → IsOk (light_says absent names w) → file_blocks X N p height w ≡ shown_blocks X N p height absent w
    shown-is names height true (Ok t) some = absurd (let no : false ≡ true = some in cc)
    shown-is names height true (Err why) some = refl
    shown-is names height false w some = refl

    module _ (height : ℕ) (absent : Bool) (names : List (List ℕ)) (t : Tree) where
      -- the blocks of a proof that is made
      pub order-few : IsOk (light_says absent names (at 0 names t)) → length (light_order X N p height names t) ≤ 8 * length names + length (shown_blocks X N p height absent (at 0 names t))
      order-few some =
          let way = trails-few names t in
          let once = once-few [] (trails X N p names t ++ file_blocks X N p height (at 0 names t)) in
          let all = length-append (trails X N p names t) (file_blocks X N p height (at 0 names t)) in
          let same = ap length (shown-is names height absent (at 0 names t) some) in
          omega (arith, way, once, all, same)

      -- finding them and writing them
      pub all-touches : (was mid now : ℕ) → IsOk (light_says absent names (at 0 names t)) → mid ≤ was + finding_touches X N p height absent names t → now ≤ mid + length (light_order X N p height names t)
          → now ≤ was + proof_touches X N p height absent names t
      all-touches was mid now some first next = let few = order-few some in omega (arith, first, next, few)

      -- where nothing is written
      pub some-touches : (was now : ℕ) → now ≤ was + finding_touches X N p height absent names t → now ≤ was + proof_touches X N p height absent names t
      some-touches was now first = omega (arith, first)
