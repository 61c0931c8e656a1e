-- The first two rows of one hash, and what is answered of them.
use Rattle.std.proofs.Common.{◌≡◌, ℕ, suc, ◌-◌, ◌^◌, ◌<◌, ◌≤◌, List, [], ◌∷◌, length, drop, get_or, refl, ap, arith, sym, ◌∙◌, subst, Bool, true, false, cond, Option, Some, None, BTreeMap, drop-cons}
use Rattle.std.proofs.Math.Seq.{drop-length}
use Rattle.std.specs.Prelude.{◌==◌}
use Rattle.std.specs.BTreeMap.{IsEmpty, get}
use Rattle.std.specs.List.{AllByRecursion, find}
use Rattle.std.specs.Map.{lookup}
use Rattle.std.specs.Option.{option_map, option_or}
use Rattle.std.specs.Ordering.{is_eq, nat_cmp}
use Rattle.std.proofs.lemmas.Bool.Decides.{nat_tests}
use Rattle.std.proofs.lemmas.List.{length-map}
use Rattle.uf_tree.specs.Nodes.{Named}
use Rattle.uf_tree.specs.ShardPlan.{same_hash, same_slots, twins}
use Rattle.uf_tree.specs.Validity.{IsDirectory, IsNamed}
use Rattle.uf_tree.proofs.Twins.{Apart-HasShard, same_slots-hash, twins-Apart, twins-same}
use Rattle.uf_shard.specs.Buckets.{AreForShard, AreHashed, pairs_of}
use Rattle.uf_shard.specs.Saving.{names_of}
use Rattle.uf_shard.specs.declared.hashed.Hashed.{Hashed}

-- the first row of a hash
abbrev pub first_of : ℕ → List Hashed → Option Hashed
first_of q rows = find (λ (r : Hashed). q == r.hash) rows

same_way : (a b : ℕ) → is_eq (nat_cmp a b) ≡ (b == a)
same_way a b = grind (arith, nat_tests)

-- a row before the others is the first of its hash
pub first-of-more : (q : ℕ) (row : Hashed) (rest : List Hashed) → cond (is_eq (nat_cmp row.hash q)) (Some row) (first_of q rest) ≡ first_of q (row ∷ rest)
first-of-more q row rest = ap (λ b. cond b (Some row) (first_of q rest)) (same_way row.hash q)

module _ (N : List ℕ → ℕ) where
  found-pairs : (name : List ℕ) (hash : ℕ) (rest : List Hashed) → hash ≡ N name → AreHashed N rest
      → find (λ (f : Named). same_hash N name f.0) (pairs_of rest) ≡ option_map (λ (r : Hashed). r.pair.now) (first_of hash rest)
  found-pairs name hash [] e h = refl
  found-pairs name hash (r ∷ rest) e h =
      ap (λ (b : Bool). cond b (Some r.pair.now) (find (λ (f : Named). same_hash N name f.0) (pairs_of rest))) (ap (λ (n : ℕ). n == N r.pair.now.0) (sym e) ∙ ap (λ (n : ℕ). hash == n) (sym h.0))
      ∙ by (hash == r.hash) (found-pairs name hash rest e h.1)
    where
      by : (b : Bool) → find (λ (f : Named). same_hash N name f.0) (pairs_of rest) ≡ option_map (λ (r : Hashed). r.pair.now) (first_of hash rest)
          → cond b (Some r.pair.now) (find (λ (f : Named). same_hash N name f.0) (pairs_of rest)) ≡ option_map (λ (r : Hashed). r.pair.now) (cond b (Some r) (first_of hash rest))
      by true later = refl
      by false later = later

  -- the twins from one row more
  pub twins-more : (row : Hashed) (rest : List Hashed) (twin : Option Hashed) (behind found : Option (Hashed × Hashed)) → twin ≡ first_of row.hash rest
      → found ≡ option_or (option_map (λ (t : Hashed). (row, t)) twin) behind → AreHashed N (row ∷ rest)
      → option_map names_of behind ≡ twins (same_hash N) (pairs_of rest) → option_map names_of found ≡ twins (same_hash N) (pairs_of (row ∷ rest))
  unfolding twins
  twins-more row rest twin behind found first is hashed later =
      ap (option_map names_of) is ∙ by twin
      ∙ ap (λ (o : Option Hashed). elim (option_map (λ (r : Hashed). r.pair.now) o) [ None ↦ twins (same_hash N) (pairs_of rest) | Some f ↦ Some (row.pair.now.0, f.0) ]) first
      ∙ ap (λ (o : Option Named). elim o [ None ↦ twins (same_hash N) (pairs_of rest) | Some f ↦ Some (row.pair.now.0, f.0) ]) (sym (found-pairs row.pair.now.0 row.hash rest hashed.0 hashed.1))
    where
      by : (o : Option Hashed) → option_map names_of (option_or (option_map (λ (t : Hashed). (row, t)) o) behind)
          ≡ elim (option_map (λ (r : Hashed). r.pair.now) o) [ None ↦ twins (same_hash N) (pairs_of rest) | Some f ↦ Some (row.pair.now.0, f.0) ]
      by None = later
      by (Some t) = refl

-- one row before the others, from its place on
pub drop-back : (rows : List Hashed) (at : ℕ) (row : Hashed) → 0 < at → at ≤ length rows → row ≡ get_or rows (at - 1) row → drop (at - 1) rows ≡ row ∷ drop at rows
drop-back rows at row some low is =
    let next : suc (at - 1) ≡ at = omega arith in
    drop-cons rows (at - 1) row (omega arith) ∙ ap (λ (r : Hashed). r ∷ drop (suc (at - 1)) rows) (sym is) ∙ ap (λ (n : ℕ). row ∷ drop n rows) next

-- no row is behind the last
pub none-behind : (m : BTreeMap ℕ Hashed) (rows : List Hashed) (q : ℕ) → IsEmpty m → get nat_cmp m q ≡ first_of q (drop (length rows) rows)
none-behind m rows q h = ap (lookup (λ k. is_eq (nat_cmp q k))) h ∙ ap (first_of q) (sym (drop-length rows))

pub no-twins-behind : (N : List ℕ → ℕ) (rows : List Hashed) → None ≡ twins (same_hash N) (pairs_of (drop (length rows) rows))
unfolding twins
no-twins-behind N rows = ap (λ (l : List Hashed). twins (same_hash N) (pairs_of l)) (sym (drop-length rows))

-- ---- the root

-- where no two names have one hash, the pairs of a directory have a shard at level 0
pub root-rows : (N : List ℕ → ℕ) → ((name : List ℕ) → N name < 2 ^ 64) → (rows : List Hashed) (pairs : List Named) → AreHashed N rows → pairs_of rows ≡ pairs → IsDirectory pairs
    → 1 ≤ length pairs → None ≡ twins (same_hash N) (pairs_of rows) → AreForShard N 7 rows
root-rows N fit rows pairs hashed is directory some none =
    let count : length (pairs_of rows) ≡ length rows = length-map rows _ in
    let same : length (pairs_of rows) ≡ length pairs = ap length is in
    record {
      hashed = hashed;
      named = subst (AllByRecursion IsNamed) (sym is) directory.each;
      some = omega arith;
      apart = Apart-HasShard N 7 (pairs_of rows) (twins-Apart (same_slots N 7) (pairs_of rows)
          (twins-same (same_slots N 7) (same_hash N) (λ a b. same_slots-hash N fit a b) (pairs_of rows) ∙ sym none));
    }
