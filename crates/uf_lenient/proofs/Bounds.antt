-- What is gathered of a directory has less depth left than the directory.
use Rattle.std.proofs.Common.{◌≡◌, ℕ, zero, suc, pred, ◌≤◌, List, [], ◌∷◌, refl, ap, ◌∙◌, arith, Bool, true, false, Ordering, Less, Equal, Greater, Result, Ok, Err}
use Rattle.std.specs.Prelude.{Some, None, Option, ⊤, IfOk, is_some, if◌then◌else◌}
use Rattle.std.specs.List.{AllByRecursion}
use Rattle.std.specs.FinMap.Entries.{by_order, find, put}
use Rattle.uf_varint.specs.Fields.{◌>>=◌}
use Rattle.uf_cid.specs.Blocks.{Lookup}
use Rattle.uf_cid.specs.declared.cid.Cid.{Cid}
use Rattle.uf_dagpb.specs.declared.node.Link.{Link}
use Rattle.uf_tree.specs.Names.{is_name, names_cmp}
use Rattle.uf_tree.specs.Tree.{Tree, Dir, entries}
use Rattle.uf_lenient.specs.declared.fault.DagFault.{DagFault}
use Rattle.uf_lenient.specs.declared.fault.DagFault.TheVariants.{BadName, DuplicateName}
use Rattle.uf_lenient.specs.declared.found.Found.{Found}
use Rattle.uf_lenient.specs.declared.gathered.Gathered.{Gathered}
use Rattle.uf_lenient.specs.declared.gathered.Gathered.TheVariants.{File as IsFile, Folder as IsFolder}
use Rattle.uf_lenient.specs.declared.unixfs.Unixfs.{Unixfs}
use Rattle.uf_lenient.specs.declared.unixfs.Unixfs.TheVariants.{File, Directory, Shard, OtherShard, Other}
use Rattle.uf_lenient.specs.Reading.{◌>>◌, Visits, Ways, behind_slot, completed, gathered, gathers, meet, meet_all, meet_name, member_trees, shard_ways, slot_ways, unvisited, sub_ways, tree_under, tree_within, visit_of}
use Rattle.uf_lenient.specs.Unixfs.{as_shard}

abbrev Below : ℕ → Ways → Type 0
Below b ways = AllByRecursion (λ (w : List ℕ × Found). w.1.left ≤ b) ways

abbrev AreBelow : ℕ → Visits Ways → Type 0
AreBelow b r = IfOk r (λ x. Below b x.0)

abbrev IsBelow : ℕ → Gathered → Type 0
IsBelow b (IsFile meta bytes links) = ⊤
IsBelow b (IsFolder meta ways) = Below b ways

put_below : (b : ℕ) (name : List ℕ) (f : Found) (ways : Ways) → f.left ≤ b → Below b ways → Below b (put names_cmp name f ways)
put_below b name f [] p q = (p, tt)
put_below b name f (w ∷ ws) p q = by (names_cmp name w.0) (put_below b name f ws p q.1)
  where
    by : (o : Ordering) → Below b (put names_cmp name f ws) → Below b (by_order o ((name, f) ∷ w ∷ ws) ((w.0, f) ∷ ws) (w ∷ put names_cmp name f ws))
    by Less more = (p, q)
    by Equal more = (p, q.1)
    by Greater more = (q.0, more)

name_below : (b : ℕ) (by : Cid) (name : List ℕ) (f : Found) (ways : Ways) → f.left ≤ b → Below b ways → IfOk (meet_name by name f ways) (Below b)
name_below b by name f ways p q = cases (is_some (find names_cmp name ways))
  where
    cases : (t : Bool) → IfOk (if t then Err (DuplicateName by name) else Ok (put names_cmp name f ways)) (Below b)
    cases true = tt
    cases false = put_below b name f ways p q

meet_below : (b : ℕ) (by : Cid) (left : ℕ) (name : List ℕ) (c : Cid) (ways : Ways) → left ≤ b → Below b ways → IfOk (meet by left name c ways) (Below b)
meet_below b by left name c ways p q = cases (is_name name)
  where
    cases : (t : Bool) → IfOk (if t then meet_name by name (record { cid = c; left = left }) ways else Err (BadName by)) (Below b)
    cases true = name_below b by name (record { cid = c; left = left }) ways p q
    cases false = tt

then_ok : {A B : Type 0} (P : A → Type 0) (Q : B → Type 0) (r : Result A DagFault) (f : A → Result B DagFault) → IfOk r P → ((a : A) → P a → IfOk (f a) Q) → IfOk (r >>= f) Q
then_ok P Q (Ok a) f p q = q a p
then_ok P Q (Err e) f p q = tt

behind_ok : {A B : Type 0} (P : A → Type 0) (Q : B → Type 0) (r : Visits A) (f : A → ℕ → Visits B) → IfOk r (λ x. P x.0) → ((a : A) (n : ℕ) → P a → IfOk (f a n) (λ x. Q x.0)) → IfOk (r >> f) (λ x. Q x.0)
behind_ok P Q (Ok x) f p q = q x.0 x.1 p
behind_ok P Q (Err e) f p q = tt

still_ok : {A : Type 0} (P : A → Type 0) (n : ℕ) (r : Result A DagFault) → IfOk r P → IfOk (unvisited n r) (λ x. P x.0)
still_ok P n (Ok a) p = p
still_ok P n (Err e) p = tt

ok_always : {A : Type 0} (r : Visits A) → IfOk r (λ x. ⊤)
ok_always (Ok x) = tt
ok_always (Err e) = tt

all_below : (b : ℕ) (by : Cid) (left : ℕ) (links : List Link) (ways : Ways) → left ≤ b → Below b ways → IfOk (meet_all by left links ways) (Below b)
all_below b by left [] ways p q = q
all_below b by left (l ∷ ls) ways p q = then_ok (Below b) (Below b) (meet by left l.name l.cid ways) (λ more. meet_all by left ls more) (meet_below b by left l.name l.cid ways p q) (λ more r. all_below b by left ls more p r)

slots_below : (b : ℕ) (deeper : Cid → Ways → ℕ → Visits Ways) → ((c : Cid) (ways : Ways) (n : ℕ) → Below b ways → AreBelow b (deeper c ways n)) → (by : Cid) (left : ℕ) (links : List Link) (ways : Ways) (n : ℕ)
    → left ≤ b → Below b ways → AreBelow b (shard_ways deeper by left links ways n)
slots_below b deeper below by left [] ways n p q = q
slots_below b deeper below by left (l ∷ ls) ways n p q =
    behind_ok (Below b) (Below b) (slot_ways deeper by left l ways n (behind_slot l.name)) (λ more m. shard_ways deeper by left ls more m) (one (behind_slot l.name)) (λ more m r. slots_below b deeper below by left ls more m p r)
  where
    one : (name : Option (List ℕ)) → AreBelow b (slot_ways deeper by left l ways n name)
    one None = tt
    one (Some []) = below l.cid ways n q
    one (Some (x ∷ xs)) = still_ok (Below b) n (meet by left (x ∷ xs) l.cid ways) (meet_below b by left (x ∷ xs) l.cid ways p q)

module _ (held : Lookup) where
  sub_below : (b left : ℕ) (c : Cid) (ways : Ways) (n : ℕ) → left ≤ suc b → Below b ways → AreBelow b (sub_ways held left c ways n)
  unfolding sub_ways
  sub_below b zero c ways n p q = tt
  sub_below b (suc left) c ways n p q =
      behind_ok (λ u. ⊤) (Below b) (visit_of held (suc left) c n) (λ u m. unvisited m (as_shard c u) >> λ links k. shard_ways (sub_ways held left) c left links ways k) (ok_always (visit_of held (suc left) c n))
      (λ u m _. behind_ok (λ links. ⊤) (Below b) (unvisited m (as_shard c u)) (λ links k. shard_ways (sub_ways held left) c left links ways k) (ok_always (unvisited m (as_shard c u)))
      (λ links k _. slots_below b (sub_ways held left) (λ d more j r. sub_below b left d more j (omega arith) r) c left links ways k (omega arith) q))

  gathers_below : (left : ℕ) (c : Cid) (u : Unixfs) (n : ℕ) → IfOk (gathers held left c u n) (λ x. IsBelow left x.0)
  gathers_below left c (File meta bytes links) n = tt
  gathers_below left c (Directory meta links) n =
      behind_ok (Below left) (IsBelow left) (unvisited n (meet_all c left links [])) (λ ways m. Ok (IsFolder meta ways, m)) (still_ok (Below left) n (meet_all c left links []) (all_below left c left links [] (omega arith) tt)) (λ ways m r. r)
  gathers_below left c (Shard meta links) n =
      behind_ok (Below left) (IsBelow left) (shard_ways (sub_ways held left) c left links [] n) (λ ways m. Ok (IsFolder meta ways, m))
      (slots_below left (sub_ways held left) (λ d more j r. sub_below left left d more j (omega arith) r) c left links [] n (omega arith) tt) (λ ways m r. r)
  gathers_below left c OtherShard n = tt
  gathers_below left c Other n = tt

  gathered_below : (left : ℕ) (c : Cid) (n : ℕ) → IfOk (gathered held left c n) (λ x. IsBelow (pred left) x.0)
  unfolding gathered
  gathered_below left c n = behind_ok (λ u. ⊤) (IsBelow (pred left)) (visit_of held left c n) (λ u m. gathers held (pred left) c u m) (ok_always (visit_of held left c n)) (λ u m _. gathers_below (pred left) c u m)

  -- ---- how much room is given doesn't matter

  members_same : (b : ℕ) (f g : ℕ → Cid → ℕ → Visits Tree) → ((k : ℕ) (c : Cid) (n : ℕ) → k ≤ b → f k c n ≡ g k c n) → (ways : Ways) (n : ℕ) → Below b ways → member_trees f ways n ≡ member_trees g ways n
  members_same b f g same [] n q = refl
  members_same b f g same (w ∷ ws) n q =
      ap (λ r. r >> λ t m. member_trees f ws m >> λ more k. Ok ((w.0, t) ∷ more, k)) (same w.1.left w.1.cid n q.0) ∙ inside (g w.1.left w.1.cid n) (λ m. members_same b f g same ws m q.1)
    where
      inside : (r : Visits Tree) → ((m : ℕ) → member_trees f ws m ≡ member_trees g ws m) → (r >> λ t m. member_trees f ws m >> λ more k. Ok ((w.0, t) ∷ more, k)) ≡ (r >> λ t m. member_trees g ws m >> λ more k. Ok ((w.0, t) ∷ more, k))
      inside (Ok x) ih = ap (λ s. s >> λ more k. Ok ((w.0, x.0) ∷ more, k)) (ih x.1)
      inside (Err e) ih = refl

  completed_same : (b : ℕ) (f g : ℕ → Cid → ℕ → Visits Tree) → ((k : ℕ) (c : Cid) (n : ℕ) → k ≤ b → f k c n ≡ g k c n) → (left : ℕ) (x : Gathered) (n : ℕ) → IsBelow b x → completed held f left x n ≡ completed held g left x n
  completed_same b f g same left (IsFile meta bytes links) n q = refl
  completed_same b f g same left (IsFolder meta ways) n q = ap (λ r. r >> λ es m. Ok (Dir (entries meta es), m)) (members_same b f g same ways n q)

  behind_same : {A B : Type 0} (P : A → Type 0) (r : Visits A) (f g : A → ℕ → Visits B) → IfOk r (λ x. P x.0) → ((a : A) (n : ℕ) → P a → f a n ≡ g a n) → (r >> f) ≡ (r >> g)
  behind_same P (Ok x) f g p same = same x.0 x.1 p
  behind_same P (Err e) f g p same = refl

  rooms : (r s left : ℕ) (c : Cid) (n : ℕ) → left ≤ r → left ≤ s → tree_within held r left c n ≡ tree_within held s left c n
  unfolding gathered tree_within
  rooms zero zero zero c n p q = refl
  rooms zero (suc s) zero c n p q = refl
  rooms (suc r) zero zero c n p q = refl
  rooms (suc r) (suc s) zero c n p q = refl
  rooms zero s (suc left) c n p q = absurd (omega arith)
  rooms (suc r) zero (suc left) c n p q = absurd (omega arith)
  rooms (suc r) (suc s) (suc left) c n p q =
      behind_same (IsBelow left) (gathered held (suc left) c n) (λ g m. completed held (tree_within held r) left g m) (λ g m. completed held (tree_within held s) left g m) (gathered_below (suc left) c n)
      (λ g m b. completed_same left (tree_within held r) (tree_within held s) (λ k d j h. rooms r s k d j (omega arith) (omega arith)) left g m b)

  -- a tree is what was gathered, and the trees of the members
  pub tree-step : (left : ℕ) (c : Cid) (n : ℕ) → tree_under held (suc left) c n ≡ (gathered held (suc left) c n >> λ g m. completed held (tree_under held) left g m)
  unfolding gathered tree_within
  tree-step left c n =
      behind_same (IsBelow left) (gathered held (suc left) c n) (λ g m. completed held (tree_within held left) left g m) (λ g m. completed held (tree_under held) left g m) (gathered_below (suc left) c n)
      (λ g m b. completed_same left (tree_within held left) (tree_under held) (λ k d j h. rooms left k k d j h (omega arith)) left g m b)
