-- A reading that gives a value within some limits gives it within greater ones too.
use Rattle.std.proofs.Common.{◌≡◌, ℕ, zero, suc, pred, ◌≤◌, List, [], ◌∷◌, ◌++◌, refl, sym, ap, subst, ◌∙◌, arith, Bool, true, false, Ordering, Less, Equal, Greater, Result, Ok, Err}
use Rattle.std.specs.Prelude.{Some, None, Option, ⊤, is_some, cond, if◌then◌else◌}
use Rattle.std.specs.FinMap.Entries.{by_order, find, put}
use Rattle.std.specs.Ordering.{eq_by_cmp}
use Rattle.uf_varint.specs.Fields.{◌>>=◌}
use Rattle.uf_cid.specs.Blocks.{Lookup}
use Rattle.uf_cid.specs.declared.cid.Cid.{Cid}
use Rattle.uf_dagpb.specs.declared.node.Link.{Link}
use Rattle.uf_store.specs.declared.store.StoreFault.TheVariants.{Missing}
use Rattle.uf_tree.specs.declared.meta.Meta.{Meta}
use Rattle.uf_tree.specs.Names.{is_name, names_cmp}
use Rattle.uf_tree.specs.Tree.{Tree, Dir, entries, File as FileTree}
use Rattle.uf_lenient.specs.declared.fault.DagFault.{DagFault}
use Rattle.uf_lenient.specs.declared.fault.DagFault.TheVariants.{BadName, DuplicateName, Store}
use Rattle.uf_lenient.specs.declared.found.Found.{Found}
use Rattle.uf_lenient.specs.declared.gathered.Gathered.{Gathered}
use Rattle.uf_lenient.specs.declared.gathered.Gathered.TheVariants.{File as IsFile, Folder as IsFolder}
use Rattle.uf_lenient.specs.declared.unixfs.Unixfs.{Unixfs}
use Rattle.uf_lenient.specs.declared.unixfs.Unixfs.TheVariants.{File, Directory, Shard, OtherShard, Other}
use Rattle.uf_lenient.specs.Reading.{◌>>◌, Visits, Ways, behind_slot, completed, gathered, gathers, joined_parts, loads, meet, meet_all, meet_name, member_trees, part_bytes, shard_ways, slot_ways, sub_ways, tree_within, unvisited, visit_of}
use Rattle.uf_lenient.specs.Unixfs.{as_part, as_shard, unixfs_of}

-- another reading gives a value like this one, and leaves no fewer visits
pub record GivesLike {A : Type 0} (R : A → A → Type 0) (top : ℕ) (x : A × ℕ) (r : Visits A) : Type 0 where
  pub value : A
  pub left : ℕ
  pub is : r ≡ Ok (value, left)
  pub like : R x.0 value
  pub more : x.1 ≤ left
  pub few : x.1 ≤ top

-- where one reading gives a value, another one gives one like it
abbrev pub Follows : {A : Type 0} → (A → A → Type 0) → ℕ → Visits A → Visits A → Type 0
Follows R top (Ok x) r = GivesLike R top x r
Follows R top (Err e) r = ⊤

abbrev pub Like : {A : Type 0} → (A → A → Type 0) → Result A DagFault → Result A DagFault → Type 0
Like R (Ok a) r = (b : _) × ((r ≡ Ok b) × R a b)
Like R (Err e) r = ⊤

abbrev pub Same : {A : Type 0} → A → A → Type 0
Same a b = a ≡ b

-- a way with no less depth left
pub record IsLike (bound : ℕ) (w v : List ℕ × Found) : Type 0 where
  pub name : w.0 ≡ v.0
  pub cid : w.1.cid ≡ v.1.cid
  pub deeper : w.1.left ≤ v.1.left
  pub within : w.1.left ≤ bound

abbrev pub AreLike : ℕ → Ways → Ways → Type 0
AreLike b [] [] = ⊤
AreLike b [] (v ∷ vs) = ⊥
AreLike b (w ∷ ws) [] = ⊥
AreLike b (w ∷ ws) (v ∷ vs) = IsLike b w v × AreLike b ws vs

abbrev pub IsLikeGathered : ℕ → Gathered → Gathered → Type 0
IsLikeGathered b (IsFile meta bytes links) (IsFile other others more) = (meta ≡ other) × (bytes ≡ others) × (links ≡ more)
IsLikeGathered b (IsFile meta bytes links) (IsFolder other vs) = ⊥
IsLikeGathered b (IsFolder other ws) (IsFile meta bytes links) = ⊥
IsLikeGathered b (IsFolder meta ws) (IsFolder other vs) = (meta ≡ other) × AreLike b ws vs

-- ---- the ways of a directory

put_like : (b : ℕ) (name : List ℕ) (f g : Found) (ws vs : Ways) → IsLike b (name, f) (name, g) → AreLike b ws vs → AreLike b (put names_cmp name f ws) (put names_cmp name g vs)
put_like b name f g [] [] one h = (one, tt)
put_like b name f g [] (v ∷ vs) one h = absurd h
put_like b name f g (w ∷ ws) [] one h = absurd h
put_like b name f g (w ∷ ws) (v ∷ vs) one h =
    subst (λ (x : List ℕ). AreLike b (by_order (names_cmp name w.0) ((name, f) ∷ w ∷ ws) ((w.0, f) ∷ ws) (w ∷ put names_cmp name f ws)) (by_order (names_cmp name x) ((name, g) ∷ v ∷ vs) ((v.0, g) ∷ vs) (v ∷ put names_cmp name g vs))) h.0.name
    (by (names_cmp name w.0) (put_like b name f g ws vs one h.1))
  where
    by : (o : Ordering) → AreLike b (put names_cmp name f ws) (put names_cmp name g vs)
        → AreLike b (by_order o ((name, f) ∷ w ∷ ws) ((w.0, f) ∷ ws) (w ∷ put names_cmp name f ws)) (by_order o ((name, g) ∷ v ∷ vs) ((v.0, g) ∷ vs) (v ∷ put names_cmp name g vs))
    by Less more = (one, h)
    by Equal more = (record { name = h.0.name; cid = one.cid; deeper = one.deeper; within = one.within }, h.1)
    by Greater more = (h.0, more)

found_like : (b : ℕ) (q : List ℕ) (ws vs : Ways) → AreLike b ws vs → is_some (find names_cmp q ws) ≡ is_some (find names_cmp q vs)
found_like b q [] [] h = refl
found_like b q [] (v ∷ vs) h = absurd h
found_like b q (w ∷ ws) [] h = absurd h
found_like b q (w ∷ ws) (v ∷ vs) h =
    subst (λ (x : List ℕ). is_some (cond (eq_by_cmp names_cmp q w.0) (Some w.1) (find names_cmp q ws)) ≡ is_some (cond (eq_by_cmp names_cmp q x) (Some v.1) (find names_cmp q vs))) h.0.name
    (by (eq_by_cmp names_cmp q w.0) (found_like b q ws vs h.1))
  where
    by : (t : Bool) → is_some (find names_cmp q ws) ≡ is_some (find names_cmp q vs)
        → is_some (cond t (Some w.1) (find names_cmp q ws)) ≡ is_some (cond t (Some v.1) (find names_cmp q vs))
    by true more = refl
    by false more = more

name_like : (b : ℕ) (c : Cid) (name : List ℕ) (f g : Found) (ws vs : Ways) → IsLike b (name, f) (name, g) → AreLike b ws vs → Like (AreLike b) (meet_name c name f ws) (meet_name c name g vs)
name_like b c name f g ws vs one h = by (is_some (find names_cmp name ws)) (is_some (find names_cmp name vs)) (found_like b name ws vs h)
  where
    by : (s t : Bool) → s ≡ t → Like (AreLike b) (if s then Err (DuplicateName c name) else Ok (put names_cmp name f ws)) (if t then Err (DuplicateName c name) else Ok (put names_cmp name g vs))
    by true t e = tt
    by false true e = absurd cc
    by false false e = (put names_cmp name g vs, (refl, put_like b name f g ws vs one h))

meet_like : (b : ℕ) (c : Cid) (left deep : ℕ) (name : List ℕ) (d : Cid) (ws vs : Ways) → left ≤ deep → left ≤ b → AreLike b ws vs → Like (AreLike b) (meet c left name d ws) (meet c deep name d vs)
meet_like b c left deep name d ws vs p q h = by (is_name name)
  where
    by : (t : Bool) → Like (AreLike b) (if t then meet_name c name (record { cid = d; left = left }) ws else Err (BadName c)) (if t then meet_name c name (record { cid = d; left = deep }) vs else Err (BadName c))
    by true = name_like b c name (record { cid = d; left = left }) (record { cid = d; left = deep }) ws vs (record { name = refl; cid = refl; deeper = p; within = q }) h
    by false = tt

then_like : {A B : Type 0} (R : A → A → Type 0) (Q : B → B → Type 0) (r s : Result A DagFault) (f g : A → Result B DagFault) → Like R r s → ((a b : A) → R a b → Like Q (f a) (g b)) → Like Q (r >>= f) (s >>= g)
then_like R Q (Ok a) s f g h next = subst (λ t. Like Q (f a) (t >>= g)) (sym h.1.0) (next a h.0 h.1.1)
then_like R Q (Err e) s f g h next = tt

all_like : (b : ℕ) (c : Cid) (left deep : ℕ) (links : List Link) (ws vs : Ways) → left ≤ deep → left ≤ b → AreLike b ws vs → Like (AreLike b) (meet_all c left links ws) (meet_all c deep links vs)
all_like b c left deep [] ws vs p q h = (vs, (refl, h))
all_like b c left deep (l ∷ ls) ws vs p q h =
    then_like (AreLike b) (AreLike b) (meet c left l.name l.cid ws) (meet c deep l.name l.cid vs) (λ more. meet_all c left ls more) (λ more. meet_all c deep ls more) (meet_like b c left deep l.name l.cid ws vs p q h)
    (λ more others k. all_like b c left deep ls more others p q k)

same_itself : {A : Type 0} (r : Result A DagFault) → Like Same r r
same_itself (Ok a) = (a, (refl, refl))
same_itself (Err e) = tt

module _ (held : Lookup) (top : ℕ) where
  -- ---- one reading after the other

  behind : {A B : Type 0} (R : A → A → Type 0) (Q : B → B → Type 0) (r s : Visits A) (f g : A → ℕ → Visits B) → Follows R top r s → ((a b : A) (n m : ℕ) → R a b → n ≤ m → n ≤ top → Follows Q top (f a n) (g b m)) → Follows Q top (r >> f) (s >> g)
  behind R Q (Ok x) s f g h next = subst (λ t. Follows Q top (f x.0 x.1) (t >> g)) (sym h.is) (next x.0 h.value x.1 h.left h.like h.more h.few)
  behind R Q (Err e) s f g h next = tt

  still : {A : Type 0} (R : A → A → Type 0) (n m : ℕ) (r s : Result A DagFault) → n ≤ m → n ≤ top → Like R r s → Follows R top (unvisited n r) (unvisited m s)
  still R n m (Ok a) s p q h = record { value = h.0; left = m; is = ap (unvisited m) h.1.0; like = h.1.1; more = p; few = q }
  still R n m (Err e) s p q h = tt

  load_like : (left deep : ℕ) (c : Cid) (n m : ℕ) → left ≤ deep → n ≤ m → n ≤ top → Follows Same top (loads held left c n) (loads held deep c m)
  load_like zero deep c n m p q r = tt
  load_like (suc left) deep c zero m p q r = tt
  load_like (suc left) zero c (suc n) m p q r = absurd (omega arith)
  load_like (suc left) (suc deep) c (suc n) zero p q r = absurd (omega arith)
  load_like (suc left) (suc deep) c (suc n) (suc m) p q r = by (held c)
    where
      by : (o : Option (List ℕ)) → Follows {A = List ℕ} Same top (elim o [ None ↦ Err (Store (Missing c)) | Some bytes ↦ Ok (bytes, n) ]) (elim o [ None ↦ Err (Store (Missing c)) | Some bytes ↦ Ok (bytes, m) ])
      by None = tt
      by (Some bytes) = record { value = bytes; left = m; is = refl; like = refl; more = omega (arith, q); few = omega (arith, r) }

  still_same : {A B : Type 0} (f : A → Result B DagFault) (a b : A) (n m : ℕ) → a ≡ b → n ≤ m → n ≤ top → Follows Same top (unvisited n (f a)) (unvisited m (f b))
  still_same f a b n m same p q = subst (λ x. Follows Same top (unvisited n (f a)) (unvisited m (f x))) same (still Same n m (f a) (f a) p q (same_itself (f a)))

  visit_like : (left deep : ℕ) (c : Cid) (n m : ℕ) → left ≤ deep → n ≤ m → n ≤ top → Follows Same top (visit_of held left c n) (visit_of held deep c m)
  visit_like left deep c n m p q r =
      behind Same Same (loads held left c n) (loads held deep c m) (λ b k. unvisited k (unixfs_of c b)) (λ b k. unvisited k (unixfs_of c b)) (load_like left deep c n m p q r)
      (λ a b i j same le few. still_same (unixfs_of c) a b i j same le few)

  -- ---- the bytes of files

  appended : (own : List ℕ) (r s : Visits (List ℕ)) → Follows Same top r s → Follows Same top (r >> λ more k. Ok (own ++ more, k)) (s >> λ more k. Ok (own ++ more, k))
  appended own r s h = behind Same Same r s (λ more k. Ok (own ++ more, k)) (λ more k. Ok (own ++ more, k)) h (λ a b i j same le few. record { value = own ++ b; left = j; is = refl; like = ap (λ l. own ++ l) same; more = le; few = few })

  joined_like : (f g : Cid → ℕ → Visits (List ℕ)) → ((c : Cid) (n m : ℕ) → n ≤ m → n ≤ top → Follows Same top (f c n) (g c m)) → (links : List Link) (n m : ℕ) → n ≤ m → n ≤ top → Follows Same top (joined_parts f links n) (joined_parts g links m)
  joined_like f g like [] n m p q = record { value = []; left = m; is = refl; like = refl; more = p; few = q }
  joined_like f g like (l ∷ ls) n m p q =
      behind Same Same (f l.cid n) (g l.cid m) (λ bytes k. joined_parts f ls k >> λ more j. Ok (bytes ++ more, j)) (λ bytes k. joined_parts g ls k >> λ more j. Ok (bytes ++ more, j)) (like l.cid n m p q)
      (λ a b i j same le few. subst (λ x. Follows Same top (joined_parts f ls i >> λ more k. Ok (a ++ more, k)) (joined_parts g ls j >> λ more k. Ok (x ++ more, k))) same
      (appended a (joined_parts f ls i) (joined_parts g ls j) (joined_like f g like ls i j le few)))

  part_like : (left deep : ℕ) (c : Cid) (n m : ℕ) → left ≤ deep → n ≤ m → n ≤ top → Follows Same top (part_bytes held left c n) (part_bytes held deep c m)
  unfolding part_bytes
  part_like zero deep c n m p q r = tt
  part_like (suc left) zero c n m p q r = absurd (omega arith)
  part_like (suc left) (suc deep) c n m p q r =
      let below = λ (d : Cid) (i j : ℕ) (le : i ≤ j) (few : i ≤ top). part_like left deep d i j (omega (arith, p)) le few in
      behind Same Same (visit_of held (suc left) c n) (visit_of held (suc deep) c m) (λ u i. unvisited i (as_part c u) >> λ own k. joined_parts (part_bytes held left) own.1 k >> λ more j. Ok (own.0 ++ more, j))
      (λ u i. unvisited i (as_part c u) >> λ own k. joined_parts (part_bytes held deep) own.1 k >> λ more j. Ok (own.0 ++ more, j)) (visit_like (suc left) (suc deep) c n m p q r)
      (λ u v i j same le few. behind Same Same (unvisited i (as_part c u)) (unvisited j (as_part c v)) (λ own k. joined_parts (part_bytes held left) own.1 k >> λ more j. Ok (own.0 ++ more, j)) (λ own k. joined_parts (part_bytes held deep) own.1 k >> λ more j. Ok (own.0 ++ more, j))
      (still_same (as_part c) u v i j same le few)
      (λ own other k l alike less fewer. subst (λ (x : List ℕ × List Link). Follows Same top (joined_parts (part_bytes held left) own.1 k >> λ more j. Ok (own.0 ++ more, j)) (joined_parts (part_bytes held deep) x.1 l >> λ more j. Ok (x.0 ++ more, j))) alike
      (appended own.0 (joined_parts (part_bytes held left) own.1 k) (joined_parts (part_bytes held deep) own.1 l) (joined_like (part_bytes held left) (part_bytes held deep) below own.1 k l less fewer))))

  -- ---- the ways of directories

  module _ (b : ℕ) where
    slots_like : (d e : Cid → Ways → ℕ → Visits Ways) → ((c : Cid) (ws vs : Ways) (n m : ℕ) → AreLike b ws vs → n ≤ m → n ≤ top → Follows (AreLike b) top (d c ws n) (e c vs m)) → (c : Cid) (left deep : ℕ) (links : List Link) (ws vs : Ways) (n m : ℕ)
        → left ≤ deep → left ≤ b → AreLike b ws vs → n ≤ m → n ≤ top → Follows (AreLike b) top (shard_ways d c left links ws n) (shard_ways e c deep links vs m)
    slots_like d e like c left deep [] ws vs n m p q h r s = record { value = vs; left = m; is = refl; like = h; more = r; few = s }
    slots_like d e like c left deep (l ∷ ls) ws vs n m p q h r s =
        behind (AreLike b) (AreLike b) (slot_ways d c left l ws n (behind_slot l.name)) (slot_ways e c deep l vs m (behind_slot l.name)) (λ more i. shard_ways d c left ls more i) (λ more i. shard_ways e c deep ls more i) (one (behind_slot l.name))
        (λ xs ys i j k le few. slots_like d e like c left deep ls xs ys i j p q k le few)
      where
        one : (name : Option (List ℕ)) → Follows (AreLike b) top (slot_ways d c left l ws n name) (slot_ways e c deep l vs m name)
        one None = tt
        one (Some []) = like l.cid ws vs n m h r s
        one (Some (x ∷ xs)) = still (AreLike b) n m (meet c left (x ∷ xs) l.cid ws) (meet c deep (x ∷ xs) l.cid vs) r s (meet_like b c left deep (x ∷ xs) l.cid ws vs p q h)

    sub_like : (left deep : ℕ) (c : Cid) (ws vs : Ways) (n m : ℕ) → left ≤ deep → left ≤ suc b → AreLike b ws vs → n ≤ m → n ≤ top → Follows (AreLike b) top (sub_ways held left c ws n) (sub_ways held deep c vs m)
    unfolding sub_ways
    sub_like zero deep c ws vs n m p q h r s = tt
    sub_like (suc left) zero c ws vs n m p q h r s = absurd (omega arith)
    sub_like (suc left) (suc deep) c ws vs n m p q h r s =
        let below = λ (d : Cid) (xs ys : Ways) (i j : ℕ) (k : AreLike b xs ys) (le : i ≤ j) (few : i ≤ top). sub_like left deep d xs ys i j (omega (arith, p)) (omega (arith, q)) k le few in
        behind Same (AreLike b) (visit_of held (suc left) c n) (visit_of held (suc deep) c m) (λ u i. unvisited i (as_shard c u) >> λ links k. shard_ways (sub_ways held left) c left links ws k)
        (λ u i. unvisited i (as_shard c u) >> λ links k. shard_ways (sub_ways held deep) c deep links vs k) (visit_like (suc left) (suc deep) c n m p r s)
        (λ u v i j same le few. behind Same (AreLike b) (unvisited i (as_shard c u)) (unvisited j (as_shard c v)) (λ links k. shard_ways (sub_ways held left) c left links ws k) (λ links k. shard_ways (sub_ways held deep) c deep links vs k) (still_same (as_shard c) u v i j same le few)
        (λ links others k l alike less fewer. subst (λ (x : List Link). Follows (AreLike b) top (shard_ways (sub_ways held left) c left links ws k) (shard_ways (sub_ways held deep) c deep x vs l)) alike
        (slots_like (sub_ways held left) (sub_ways held deep) below c left deep links ws vs k l (omega (arith, p)) (omega (arith, q)) h less fewer)))

    folder : (meta : Meta) (r s : Visits Ways) → Follows (AreLike b) top r s → Follows (IsLikeGathered b) top (r >> λ ways m. Ok (IsFolder meta ways, m)) (s >> λ ways m. Ok (IsFolder meta ways, m))
    folder meta r s h = behind (AreLike b) (IsLikeGathered b) r s (λ ways m. Ok (IsFolder meta ways, m)) (λ ways m. Ok (IsFolder meta ways, m)) h (λ ws vs i j k le few. record { value = IsFolder meta vs; left = j; is = refl; like = (refl, k); more = le; few = few })

    gathers_like : (left deep : ℕ) (c : Cid) (u : Unixfs) (n m : ℕ) → left ≤ deep → left ≤ b → n ≤ m → n ≤ top → Follows (IsLikeGathered b) top (gathers held left c u n) (gathers held deep c u m)
    gathers_like left deep c (File meta bytes links) n m p q r s = record { value = IsFile meta bytes links; left = m; is = refl; like = (refl, refl, refl); more = r; few = s }
    gathers_like left deep c (Directory meta links) n m p q r s = folder meta (unvisited n (meet_all c left links [])) (unvisited m (meet_all c deep links [])) (still (AreLike b) n m (meet_all c left links []) (meet_all c deep links []) r s (all_like b c left deep links [] [] p q tt))
    gathers_like left deep c (Shard meta links) n m p q r s =
        folder meta (shard_ways (sub_ways held left) c left links [] n) (shard_ways (sub_ways held deep) c deep links [] m)
        (slots_like (sub_ways held left) (sub_ways held deep) (λ d xs ys i j k le few. sub_like left deep d xs ys i j p (omega (arith, q)) k le few) c left deep links [] [] n m p q tt r s)
    gathers_like left deep c OtherShard n m p q r s = tt
    gathers_like left deep c Other n m p q r s = tt

    pub gathered-like : (left deep : ℕ) (c : Cid) (n m : ℕ) → left ≤ deep → left ≤ suc b → n ≤ m → n ≤ top → Follows (IsLikeGathered b) top (gathered held left c n) (gathered held deep c m)
    unfolding gathered
    gathered-like left deep c n m p q r s =
        behind Same (IsLikeGathered b) (visit_of held left c n) (visit_of held deep c m) (λ u k. gathers held (pred left) c u k) (λ u k. gathers held (pred deep) c u k) (visit_like left deep c n m p r s)
        (λ u v i j same le few. subst (λ x. Follows (IsLikeGathered b) top (gathers held (pred left) c u i) (gathers held (pred deep) c x j)) same (gathers_like (pred left) (pred deep) c u i j (omega (arith, p)) (omega (arith, q)) le few))

    -- ---- trees

    members_like : (f g : ℕ → Cid → ℕ → Visits Tree) → ((left deep : ℕ) (c : Cid) (n m : ℕ) → left ≤ deep → left ≤ b → n ≤ m → n ≤ top → Follows Same top (f left c n) (g deep c m)) → (ws vs : Ways) (n m : ℕ) → AreLike b ws vs → n ≤ m → n ≤ top → Follows Same top (member_trees f ws n) (member_trees g vs m)
    members_like f g like [] [] n m h p q = record { value = []; left = m; is = refl; like = refl; more = p; few = q }
    members_like f g like [] (v ∷ vs) n m h p q = absurd h
    members_like f g like (w ∷ ws) [] n m h p q = absurd h
    members_like f g like (w ∷ ws) (v ∷ vs) n m h p q =
        behind Same Same (f w.1.left w.1.cid n) (g v.1.left v.1.cid m) (λ t k. member_trees f ws k >> λ more j. Ok ((w.0, t) ∷ more, j)) (λ t k. member_trees g vs k >> λ more j. Ok ((v.0, t) ∷ more, j))
        (subst (λ x. Follows Same top (f w.1.left w.1.cid n) (g v.1.left x m)) h.0.cid (like w.1.left v.1.left w.1.cid n m h.0.deeper h.0.within p q))
        (λ t u i j same le few. behind Same Same (member_trees f ws i) (member_trees g vs j) (λ more k. Ok ((w.0, t) ∷ more, k)) (λ more k. Ok ((v.0, u) ∷ more, k)) (members_like f g like ws vs i j h.1 le few)
        (λ xs ys k l alike less fewer. record { value = (v.0, u) ∷ ys; left = l; is = refl; like = ap (λ (x : List ℕ). (x, t) ∷ xs) h.0.name ∙ ap (λ (x : Tree). (v.0, x) ∷ xs) same ∙ ap (λ l. (v.0, u) ∷ l) alike; more = less; few = fewer }))

    completed_like : (f g : ℕ → Cid → ℕ → Visits Tree) → ((left deep : ℕ) (c : Cid) (n m : ℕ) → left ≤ deep → left ≤ b → n ≤ m → n ≤ top → Follows Same top (f left c n) (g deep c m)) → (left deep : ℕ) (x y : Gathered) (n m : ℕ) → left ≤ deep → IsLikeGathered b x y → n ≤ m → n ≤ top
        → Follows Same top (completed held f left x n) (completed held g deep y m)
    completed_like f g like left deep (IsFile meta bytes links) (IsFile other others more) n m p h q r =
        subst (λ (x : Meta). Follows Same top (completed held f left (IsFile meta bytes links) n) (completed held g deep (IsFile x others more) m)) h.0
        (subst (λ (l : List Link). Follows Same top (completed held f left (IsFile meta bytes links) n) (completed held g deep (IsFile meta others l) m)) h.2
        (subst (λ (l : List ℕ). Follows Same top (completed held f left (IsFile meta bytes links) n) (completed held g deep (IsFile meta l links) m)) h.1
        (behind Same Same (joined_parts (part_bytes held left) links n) (joined_parts (part_bytes held deep) links m) (λ rest k. Ok (FileTree meta (bytes ++ rest), k)) (λ rest k. Ok (FileTree meta (bytes ++ rest), k))
        (joined_like (part_bytes held left) (part_bytes held deep) (λ c i j le few. part_like left deep c i j p le few) links n m q r)
        (λ xs ys i j same le few. record { value = FileTree meta (bytes ++ ys); left = j; is = refl; like = ap (λ l. FileTree meta (bytes ++ l)) same; more = le; few = few }))))
    completed_like f g like left deep (IsFile meta bytes links) (IsFolder other vs) n m p h q r = absurd h
    completed_like f g like left deep (IsFolder other ws) (IsFile meta bytes links) n m p h q r = absurd h
    completed_like f g like left deep (IsFolder meta ws) (IsFolder other vs) n m p h q r =
        subst (λ (x : Meta). Follows Same top (completed held f left (IsFolder meta ws) n) (completed held g deep (IsFolder x vs) m)) h.0
        (behind Same Same (member_trees f ws n) (member_trees g vs m) (λ es k. Ok (Dir (entries meta es), k)) (λ es k. Ok (Dir (entries meta es), k)) (members_like f g like ws vs n m h.1 q r)
        (λ xs ys i j same le few. record { value = Dir (entries meta ys); left = j; is = refl; like = ap (λ l. Dir (entries meta l)) same; more = le; few = few }))

    -- a tree that is read within some limits is read within greater ones
    pub within-like : (room left deep : ℕ) (c : Cid) (n m : ℕ) → left ≤ deep → left ≤ suc b → n ≤ m → n ≤ top → Follows Same top (tree_within held room left c n) (tree_within held room deep c m)
    unfolding tree_within
    within-like zero left deep c n m p q r s = tt
    within-like (suc room) left deep c n m p q r s =
        let below = λ (k l : ℕ) (d : Cid) (i j : ℕ) (le : k ≤ l) (small : k ≤ b) (less : i ≤ j) (few : i ≤ top). within-like room k l d i j le (omega (arith, small)) less few in
        behind (IsLikeGathered b) Same (gathered held left c n) (gathered held deep c m) (λ g k. completed held (tree_within held room) (pred left) g k) (λ g k. completed held (tree_within held room) (pred deep) g k) (gathered-like left deep c n m p q r s)
        (λ x y i j like le few. completed_like (tree_within held room) (tree_within held room) below (pred left) (pred deep) x y i j (omega (arith, p)) like le few)
