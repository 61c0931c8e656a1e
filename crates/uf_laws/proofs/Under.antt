-- Lists of the same names, with Tsizes that are no greater.
use Rattle.std.proofs.Common.{◌≡◌, ℕ, zero, suc, ◌+◌, ◌-◌, ◌≤◌, List, [], ◌∷◌, length, Bool, true, false, cond, Some, None, refl, ap, arith, sym, ◌∙◌, Ordering, Less, Equal, Greater}
use Rattle.std.specs.Prelude.{◌==◌}
use Rattle.std.specs.List.{AllByRecursion}
use Rattle.std.specs.Ordering.{is_lt, is_eq}
use Rattle.std.specs.FinMap.Entries.{find, put, by_order, where_key, is_sorted, below_all}
use Rattle.std.proofs.lemmas.List.Sums.{sum_by-cons}
use Rattle.uf_murmur.specs.Slots.{slot}
use Rattle.uf_tree.specs.declared.nodes.Entry.{Entry}
use Rattle.uf_tree.specs.DirPlan.{weight}
use Rattle.uf_tree.specs.FilePlan.{Plan}
use Rattle.uf_tree.specs.Metas.{none}
use Rattle.uf_tree.specs.Names.{names_cmp}
use Rattle.uf_tree.specs.Nodes.{Named, bitfield}
use Rattle.uf_tree.specs.ShardPlan.{shard, slot_item}
use Rattle.uf_tree.specs.Validity.{IsHash, IsEntry, IsNamed}
use Rattle.uf_tree.proofs.ShardLaws.{names_total}
use Rattle.uf_tree.proofs.Twins.{Alone, Apart, both_true}
use Rattle.uf_laws.proofs.Blocks.{slot_cost, bits, slots_cost, pair_cost}
use Rattle.uf_laws.proofs.Levels.{below, level, size, size-is, pairs_of, pairs-named, shard-tsize, cap-mono}
use Rattle.uf_laws.proofs.Totals.{total-mono, adds, there, tabulate-keys}
use Rattle.uf_laws.proofs.Widths.{cost-mono}

-- the same names in the same order, each with no greater Tsize
abbrev pub Under : List Named → List Named → Type 0
Under [] [] = Unit {0}
Under [] (b ∷ m) = ⊥
Under (a ∷ l) [] = ⊥
Under (a ∷ l) (b ∷ m) = (a.0 ≡ b.0) × (a.1.tsize ≤ b.1.tsize) × Under l m

under-itself : (l : List Named) → Under l l
under-itself [] = tt
under-itself (a ∷ l) = (refl, omega arith, under-itself l)

-- ---- a put

less-is : (r : Ordering) → is_lt r ≡ true → r ≡ Less
less-is Less e = refl
less-is Equal e = absurd cc
less-is Greater e = absurd cc

none-below : (name key : List ℕ) (l : List Named) → names_cmp name key ≡ Less → below_all names_cmp key l ≡ true → find names_cmp name l ≡ None
none-below name key [] less h = refl
none-below name key (f ∷ l) less h =
    let parts = both_true (is_lt (names_cmp key f.0)) (below_all names_cmp key l) h in
    ap (λ r. cond (is_eq r) (Some f.1) (find names_cmp name l)) (names_total.trans name key f.0 less (less-is (names_cmp key f.0) parts.0)) ∙ none-below name key l less parts.1

-- an entry that replaces one of no less Tsize
pub put-under : (name : List ℕ) (e old : Entry) (l : List Named) → is_sorted names_cmp l ≡ true → AllByRecursion IsNamed l → IsEntry e → find names_cmp name l ≡ Some old → e.tsize ≤ old.tsize
    → Under (put names_cmp name e l) l × AllByRecursion IsNamed (put names_cmp name e l)
put-under name e old [] sorted h good is le = absurd cc
put-under name e old (f ∷ l) sorted h good is le =
    let parts = both_true (below_all names_cmp f.0 l) (is_sorted names_cmp l) sorted in
    by parts.0 (names_cmp name f.0) refl (λ k. put-under name e old l parts.1 h.1 good k le) is
  where
    same : (x y : Entry) → Some x ≡ Some y → x.tsize ≡ y.tsize
    same x y e = let whole : x ≡ y = cc in ap (λ (z : Entry). z.tsize) whole

    by : below_all names_cmp f.0 l ≡ true → (r : Ordering) → names_cmp name f.0 ≡ r → (find names_cmp name l ≡ Some old → Under (put names_cmp name e l) l × AllByRecursion IsNamed (put names_cmp name e l))
        → cond (is_eq r) (Some f.1) (find names_cmp name l) ≡ Some old
        → Under (by_order r ((name, e) ∷ f ∷ l) ((f.0, e) ∷ l) (f ∷ put names_cmp name e l)) (f ∷ l) × AllByRecursion IsNamed (by_order r ((name, e) ∷ f ∷ l) ((f.0, e) ∷ l) (f ∷ put names_cmp name e l))
    by above Less at later k = absurd (none (sym (none-below name f.0 l at above) ∙ k))
      where
        none : None ≡ Some old → ⊥
        none e = cc
    by above Equal at later k = ((refl, omega (arith, same f.1 old k, le), under-itself l), (record { name = h.0.name; entry = good }, h.1))
    by above Greater at later k = let rest = later k in ((refl, omega arith, rest.0), (h.0, rest.1))

-- ---- what follows of names alone

pub under-weight : (l m : List Named) → Under l m → weight l ≡ weight m
under-weight [] [] h = refl
under-weight [] (b ∷ m) h = absurd h
under-weight (a ∷ l) [] h = absurd h
under-weight (a ∷ l) (b ∷ m) h =
    let c = λ (e : Named). length e.0 + 36 in
    omega (arith, sum_by-cons c a l, sum_by-cons c b m, under-weight l m h.2, ap length h.0)

under-alone : (same : List ℕ → List ℕ → Bool) (name other : List ℕ) (l m : List Named) → name ≡ other → Under l m → Alone same other m → Alone same name l
under-alone same name other [] [] e h k = tt
under-alone same name other [] (b ∷ m) e h k = absurd h
under-alone same name other (a ∷ l) [] e h k = absurd h
under-alone same name other (a ∷ l) (b ∷ m) e h k = ((λ i. same (e i) (h.0 i)) ∙ k.0, under-alone same name other l m e h.2 k.1)

pub under-apart : (same : List ℕ → List ℕ → Bool) (l m : List Named) → Under l m → Apart same m → Apart same l
under-apart same [] [] h k = tt
under-apart same [] (b ∷ m) h k = absurd h
under-apart same (a ∷ l) [] h k = absurd h
under-apart same (a ∷ l) (b ∷ m) h k = (under-alone same a.0 b.0 l m h.0 h.2 k.0, under-apart same l m h.2 k.1)

-- ---- sizes

pub under-pairs : (l m : List Named) → Under l m → adds pair_cost l ≤ adds pair_cost m
unfolding adds
under-pairs [] [] h = omega arith
under-pairs [] (b ∷ m) h = absurd h
under-pairs (a ∷ l) [] h = absurd h
under-pairs (a ∷ l) (b ∷ m) h = omega (arith, under-pairs l m h.2, cost-mono (length a.0) (length b.0) a.1.tsize b.1.tsize (omega (arith, ap length h.0)) h.1)

under-where : (p : List ℕ → Bool) (l m : List Named) → Under l m → Under (where_key names_cmp p l) (where_key names_cmp p m)
under-where p [] [] h = tt
under-where p [] (b ∷ m) h = absurd h
under-where p (a ∷ l) [] h = absurd h
under-where p (a ∷ l) (b ∷ m) h = by (p a.0) (p b.0) (ap p h.0) (under-where p l m h.2)
  where
    by : (s t : Bool) → s ≡ t → Under (where_key names_cmp p l) (where_key names_cmp p m) → Under (cond s (a ∷ where_key names_cmp p l) (where_key names_cmp p l)) (cond t (b ∷ where_key names_cmp p m) (where_key names_cmp p m))
    by true true e rest = (h.0, h.1, rest)
    by false false e rest = rest
    by true false e rest = absurd cc
    by false true e rest = absurd cc

under-there : (deeper : List Named → Plan) (l m : List Named) → Under l m → there (slot_item deeper l) ≡ there (slot_item deeper m)
under-there deeper [] [] h = refl
under-there deeper [] (b ∷ m) h = absurd h
under-there deeper (a ∷ l) [] h = absurd h
under-there deeper (a ∷ []) (b ∷ []) h = refl
under-there deeper (a ∷ []) (b ∷ c ∷ m) h = refl
under-there deeper (a ∷ c ∷ l) (b ∷ []) h = refl
under-there deeper (a ∷ c ∷ l) (b ∷ d ∷ m) h = refl

under-slot : (deeper : List Named → Plan) (l m : List Named) → Under l m → (deeper l).entry.tsize ≤ (deeper m).entry.tsize → slot_cost deeper l ≤ slot_cost deeper m
under-slot deeper [] [] h k = omega arith
under-slot deeper [] (b ∷ m) h k = absurd h
under-slot deeper (a ∷ l) [] h k = absurd h
under-slot deeper (a ∷ []) (b ∷ []) h k = cost-mono (2 + length a.0) (2 + length b.0) a.1.tsize b.1.tsize (omega (arith, ap length h.0)) h.1
under-slot deeper (a ∷ []) (b ∷ d ∷ m) h k = absurd h.2
under-slot deeper (a ∷ c ∷ l) (b ∷ []) h k = absurd h.2
under-slot deeper (a ∷ c ∷ l) (b ∷ d ∷ m) h k = cost-mono 2 2 (deeper (a ∷ c ∷ l)).entry.tsize (deeper (b ∷ d ∷ m)).entry.tsize (omega arith) k

module _ (X : List ℕ → List ℕ) (N : List ℕ → ℕ) (good : IsHash X) where
  under-level : (left : ℕ) (l m : List Named) → AllByRecursion IsNamed l → AllByRecursion IsNamed m → Under l m
      → ((s : ℕ) → (below X N left (pairs_of X N left s l)).entry.tsize ≤ (below X N left (pairs_of X N left s m)).entry.tsize) → size X N left l ≤ size X N left m
  under-level left l m h k under deep =
      let deeper = below X N left in
      let parts : (s : ℕ) → Under (pairs_of X N left s l) (pairs_of X N left s m) = λ s. under-where (λ name. slot (N name) (level X N left) == s) l m under in
      let slots : bits N deeper (level X N left) l ≡ bits N deeper (level X N left) m = ap (λ slots. length (bitfield slots)) (tabulate-keys 256 0 (λ s. slot_item deeper (pairs_of X N left s l)) (λ s. slot_item deeper (pairs_of X N left s m))
      (λ s. under-there deeper (pairs_of X N left s l) (pairs_of X N left s m) (parts s))) in
      let costs : slots_cost N deeper (level X N left) l ≤ slots_cost N deeper (level X N left) m = total-mono 256 0 (λ s. slot_cost deeper (pairs_of X N left s l)) (λ s. slot_cost deeper (pairs_of X N left s m))
      (λ s le less. under-slot deeper (pairs_of X N left s l) (pairs_of X N left s m) (parts s) (deep s)) in
      omega (arith, slots, costs, size-is X N good left l h, size-is X N good left m k)

  -- a shard of the same names with no greater Tsizes is no greater
  pub under-size : (left : ℕ) (l m : List Named) → AllByRecursion IsNamed l → AllByRecursion IsNamed m → Under l m → size X N left l ≤ size X N left m
  under-size zero l m h k under = under-level zero l m h k under (λ s. omega arith)
  under-size (suc left) l m h k under = under-level (suc left) l m h k under (λ s. deep s (under-size left (pairs_of X N (suc left) s l) (pairs_of X N (suc left) s m) (pairs-named X N good (suc left) s l h) (pairs-named X N good (suc left) s m k)
      (under-where (λ name. slot (N name) (6 - left) == s) l m under)))
    where
      deep : (s : ℕ) → size X N left (pairs_of X N (suc left) s l) ≤ size X N left (pairs_of X N (suc left) s m) → (shard X N left none (pairs_of X N (suc left) s l)).entry.tsize ≤ (shard X N left none (pairs_of X N (suc left) s m)).entry.tsize
      deep s le = omega (arith, cap-mono _ _ le, shard-tsize X N left (pairs_of X N (suc left) s l), shard-tsize X N left (pairs_of X N (suc left) s m))
