-- What is read stays the same in a map that holds more.
use Rattle.std.proofs.Common.{◌≡◌, ℕ, zero, suc, pred, ◌+◌, List, [], ◌∷◌, ◌++◌, refl, ap, subst, sym, Result, Ok, Err}
use Rattle.std.specs.Prelude.{Option, Some, None}
use Rattle.uf_varint.specs.Fields.{◌>>=◌}
use Rattle.uf_cid.specs.Blocks.{Lookup}
use Rattle.uf_cid.specs.declared.cid.Cid.{Cid}
use Rattle.uf_dagpb.specs.declared.node.Link.{Link}
use Rattle.uf_store.specs.declared.store.StoreFault.TheVariants.{Missing}
use Rattle.uf_tree.specs.Tree.{Tree, Dir, File as FileTree, entries}
use Rattle.uf_lenient.specs.declared.due.Due.{Due}
use Rattle.uf_lenient.specs.declared.due.Visited.{Visited}
use Rattle.uf_lenient.specs.declared.due.Visited.TheVariants.{Whole, File as Begins, Part}
use Rattle.uf_lenient.specs.declared.fault.DagFault.{DagFault}
use Rattle.uf_lenient.specs.declared.fault.DagFault.TheVariants.{Store}
use Rattle.uf_lenient.specs.declared.gathered.Gathered.{Gathered}
use Rattle.uf_lenient.specs.declared.gathered.Gathered.TheVariants.{File as IsFile, Folder as IsFolder}
use Rattle.uf_lenient.specs.declared.shapes.Limits.{Limits}
use Rattle.uf_lenient.specs.declared.unixfs.Unixfs.{Unixfs}
use Rattle.uf_lenient.specs.declared.unixfs.Unixfs.TheVariants.{File, Directory, Shard, OtherShard, Other}
use Rattle.uf_lenient.specs.Reading.{◌>>◌, Visits, Ways, answered, behind_slot, completed, denotes, file_of, file_under, gathered, gathers, joined_parts, loads, meet_all, member_trees, part_bytes, resolve_from, shallow_of, shape_of, shard_ways, slot_ways, step_of, unvisited, sub_ways, tree_under, tree_within, visit_of, way_in_shape}
use Rattle.uf_lenient.specs.Pending.{all_bytes, due_bytes}
use Rattle.uf_lenient.specs.Steps.{Rest, to_come}
use Rattle.uf_lenient.specs.Unixfs.{as_file, as_part, as_shard, unixfs_of}
use Rattle.uf_lenient.specs.Within.{AnswersSame, HoldsAllOf}

module _ (more : Lookup) where
  -- ---- one reading after the other

  gives_itself : {A : Type 0} (r : Result A DagFault) → AnswersSame more r r
  gives_itself (Ok a) = refl
  gives_itself (Err e) = λ gone. refl

  behind_same : {A B : Type 0} (r s : Visits A) (f g : A → ℕ → Visits B) → AnswersSame more r s → ((a : A) (n : ℕ) → AnswersSame more (f a n) (g a n)) → AnswersSame more (r >> f) (s >> g)
  behind_same (Ok x) s f g same next = subst (λ t. AnswersSame more (f x.0 x.1) (t >> g)) (sym same) (next x.0 x.1)
  behind_same (Err e) s f g same next = λ gone. ap (λ t. t >> g) (same gone)

  then_same : {A B : Type 0} (r s : Result A DagFault) (f g : A → Result B DagFault) → AnswersSame more r s → ((a : A) → AnswersSame more (f a) (g a)) → AnswersSame more (r >>= f) (s >>= g)
  then_same (Ok x) s f g same next = subst (λ t. AnswersSame more (f x) (t >>= g)) (sym same) (next x)
  then_same (Err e) s f g same next = λ gone. ap (λ t. t >>= g) (same gone)

  answered_same : {A B : Type 0} (view : A → B) (r s : Visits A) → AnswersSame more r s → AnswersSame more (answered view r) (answered view s)
  answered_same view (Ok x) s same = ap (answered view) same
  answered_same view (Err e) s same = λ gone. ap (answered view) (same gone)

  joined_same : (f g : Cid → ℕ → Visits (List ℕ)) → ((c : Cid) (n : ℕ) → AnswersSame more (f c n) (g c n)) → (links : List Link) (n : ℕ) → AnswersSame more (joined_parts f links n) (joined_parts g links n)
  joined_same f g same [] n = refl
  joined_same f g same (l ∷ ls) n =
      behind_same (f l.cid n) (g l.cid n) (λ bytes m. joined_parts f ls m >> λ more k. Ok (bytes ++ more, k)) (λ bytes m. joined_parts g ls m >> λ more k. Ok (bytes ++ more, k)) (same l.cid n)
      (λ bytes m. behind_same (joined_parts f ls m) (joined_parts g ls m) (λ more k. Ok (bytes ++ more, k)) (λ more k. Ok (bytes ++ more, k)) (joined_same f g same ls m) (λ more k. refl))

  members_alike : (f g : ℕ → Cid → ℕ → Visits Tree) → ((left : ℕ) (c : Cid) (n : ℕ) → AnswersSame more (f left c n) (g left c n)) → (ways : Ways) (n : ℕ) → AnswersSame more (member_trees f ways n) (member_trees g ways n)
  members_alike f g same [] n = refl
  members_alike f g same (w ∷ ws) n =
      behind_same (f w.1.left w.1.cid n) (g w.1.left w.1.cid n) (λ t m. member_trees f ws m >> λ more k. Ok ((w.0, t) ∷ more, k)) (λ t m. member_trees g ws m >> λ more k. Ok ((w.0, t) ∷ more, k)) (same w.1.left w.1.cid n)
      (λ t m. behind_same (member_trees f ws m) (member_trees g ws m) (λ more k. Ok ((w.0, t) ∷ more, k)) (λ more k. Ok ((w.0, t) ∷ more, k)) (members_alike f g same ws m) (λ more k. refl))

  slots_same : (f g : Cid → Ways → ℕ → Visits Ways) → ((c : Cid) (met : Ways) (n : ℕ) → AnswersSame more (f c met n) (g c met n)) → (by : Cid) (left : ℕ) (links : List Link) (met : Ways) (n : ℕ)
      → AnswersSame more (shard_ways f by left links met n) (shard_ways g by left links met n)
  slots_same f g same by left [] met n = refl
  slots_same f g same by left (l ∷ ls) met n =
      behind_same (slot_ways f by left l met n (behind_slot l.name)) (slot_ways g by left l met n (behind_slot l.name)) (λ more m. shard_ways f by left ls more m) (λ more m. shard_ways g by left ls more m) (one (behind_slot l.name))
      (λ more m. slots_same f g same by left ls more m)
    where
      one : (name : Option (List ℕ)) → AnswersSame more (slot_ways f by left l met n name) (slot_ways g by left l met n name)
      one None = λ gone. refl
      one (Some []) = same l.cid met n
      one (Some (x ∷ xs)) = gives_itself (slot_ways f by left l met n (Some (x ∷ xs)))

module _ (held more : Lookup) (all : HoldsAllOf held more) where
  loads_same : (left : ℕ) (c : Cid) (n : ℕ) → AnswersSame more (loads held left c n) (loads more left c n)
  loads_same zero c n = λ gone. refl
  loads_same (suc left) c zero = λ gone. refl
  loads_same (suc left) c (suc n) = by (held c) refl
    where
      by : (o : Option (List ℕ)) → held c ≡ o → AnswersSame {A = List ℕ × ℕ} more (elim o [ None ↦ Err (Store (Missing c)) | Some bytes ↦ Ok (bytes, n) ]) (elim (more c) [ None ↦ Err (Store (Missing c)) | Some bytes ↦ Ok (bytes, n) ])
      by None is = λ gone. ap (λ (o : Option (List ℕ)). elim o [ None ↦ Err (Store (Missing c)) | Some bytes ↦ Ok (bytes, n) ]) gone
      by (Some bytes) is = ap (λ (o : Option (List ℕ)). elim o [ None ↦ Err (Store (Missing c)) | Some bytes ↦ Ok (bytes, n) ]) (all c bytes is)

  visit_same : (left : ℕ) (c : Cid) (n : ℕ) → AnswersSame more (visit_of held left c n) (visit_of more left c n)
  visit_same left c n = behind_same more (loads held left c n) (loads more left c n) (λ b m. unvisited m (unixfs_of c b)) (λ b m. unvisited m (unixfs_of c b)) (loads_same left c n) (λ b m. gives_itself more (unvisited m (unixfs_of c b)))

  part_same : (left : ℕ) (c : Cid) (n : ℕ) → AnswersSame more (part_bytes held left c n) (part_bytes more left c n)
  unfolding part_bytes
  part_same zero c n = λ gone. refl
  part_same (suc left) c n =
      let below = part_same left in
      behind_same more (visit_of held (suc left) c n) (visit_of more (suc left) c n) (λ u m. unvisited m (as_part c u) >> λ own k. joined_parts (part_bytes held left) own.1 k >> λ rest j. Ok (own.0 ++ rest, j))
      (λ u m. unvisited m (as_part c u) >> λ own k. joined_parts (part_bytes more left) own.1 k >> λ rest j. Ok (own.0 ++ rest, j)) (visit_same (suc left) c n)
      (λ u m. behind_same more (unvisited m (as_part c u)) (unvisited m (as_part c u)) (λ own k. joined_parts (part_bytes held left) own.1 k >> λ rest j. Ok (own.0 ++ rest, j)) (λ own k. joined_parts (part_bytes more left) own.1 k >> λ rest j. Ok (own.0 ++ rest, j)) (gives_itself more (unvisited m (as_part c u)))
      (λ own k. behind_same more (joined_parts (part_bytes held left) own.1 k) (joined_parts (part_bytes more left) own.1 k) (λ rest j. Ok (own.0 ++ rest, j)) (λ rest j. Ok (own.0 ++ rest, j)) (joined_same more (part_bytes held left) (part_bytes more left) below own.1 k) (λ rest j. refl)))

  sub_same : (left : ℕ) (c : Cid) (met : Ways) (n : ℕ) → AnswersSame more (sub_ways held left c met n) (sub_ways more left c met n)
  unfolding sub_ways
  sub_same zero c met n = λ gone. refl
  sub_same (suc left) c met n =
      let below = sub_same left in
      behind_same more (visit_of held (suc left) c n) (visit_of more (suc left) c n) (λ u m. unvisited m (as_shard c u) >> λ links k. shard_ways (sub_ways held left) c left links met k)
      (λ u m. unvisited m (as_shard c u) >> λ links k. shard_ways (sub_ways more left) c left links met k) (visit_same (suc left) c n)
      (λ u m. behind_same more (unvisited m (as_shard c u)) (unvisited m (as_shard c u)) (λ links k. shard_ways (sub_ways held left) c left links met k) (λ links k. shard_ways (sub_ways more left) c left links met k) (gives_itself more (unvisited m (as_shard c u)))
      (λ links k. slots_same more (sub_ways held left) (sub_ways more left) below c left links met k))

  gathers_same : (left : ℕ) (c : Cid) (u : Unixfs) (n : ℕ) → AnswersSame more (gathers held left c u n) (gathers more left c u n)
  gathers_same left c (File meta bytes links) n = refl
  gathers_same left c (Directory meta links) n = gives_itself more (unvisited n (meet_all c left links []) >> λ ways m. Ok (IsFolder meta ways, m))
  gathers_same left c (Shard meta links) n =
      behind_same more (shard_ways (sub_ways held left) c left links [] n) (shard_ways (sub_ways more left) c left links [] n) (λ ways m. Ok (IsFolder meta ways, m)) (λ ways m. Ok (IsFolder meta ways, m)) (slots_same more (sub_ways held left) (sub_ways more left) (sub_same left) c left links [] n) (λ ways m. refl)
  gathers_same left c OtherShard n = λ gone. refl
  gathers_same left c Other n = λ gone. refl

  gathered_same : (left : ℕ) (c : Cid) (n : ℕ) → AnswersSame more (gathered held left c n) (gathered more left c n)
  unfolding gathered
  gathered_same left c n = behind_same more (visit_of held left c n) (visit_of more left c n) (λ u m. gathers held (pred left) c u m) (λ u m. gathers more (pred left) c u m) (visit_same left c n) (λ u m. gathers_same (pred left) c u m)

  completed_same : (f g : ℕ → Cid → ℕ → Visits Tree) → ((left : ℕ) (c : Cid) (n : ℕ) → AnswersSame more (f left c n) (g left c n)) → (left : ℕ) (x : Gathered) (n : ℕ) → AnswersSame more (completed held f left x n) (completed more g left x n)
  completed_same f g same left (IsFile meta bytes links) n =
      behind_same more (joined_parts (part_bytes held left) links n) (joined_parts (part_bytes more left) links n) (λ rest m. Ok (FileTree meta (bytes ++ rest), m)) (λ rest m. Ok (FileTree meta (bytes ++ rest), m)) (joined_same more (part_bytes held left) (part_bytes more left) (part_same left) links n) (λ rest m. refl)
  completed_same f g same left (IsFolder meta ways) n =
      behind_same more (member_trees f ways n) (member_trees g ways n) (λ es m. Ok (Dir (entries meta es), m)) (λ es m. Ok (Dir (entries meta es), m)) (members_alike more f g same ways n) (λ es m. refl)

  within_same : (room left : ℕ) (c : Cid) (n : ℕ) → AnswersSame more (tree_within held room left c n) (tree_within more room left c n)
  unfolding tree_within
  within_same zero left c n = λ gone. refl
  within_same (suc room) left c n =
      let below = within_same room in
      behind_same more (gathered held left c n) (gathered more left c n) (λ g m. completed held (tree_within held room) (pred left) g m) (λ g m. completed more (tree_within more room) (pred left) g m) (gathered_same left c n)
      (λ g m. completed_same (tree_within held room) (tree_within more room) below (pred left) g m)

  file_same : (left : ℕ) (c : Cid) (n : ℕ) → AnswersSame more (file_under held left c n) (file_under more left c n)
  unfolding file_under
  file_same left c n =
      behind_same more (visit_of held left c n) (visit_of more left c n) (λ u m. unvisited m (as_file c u) >> λ own k. joined_parts (part_bytes held (pred left)) own.1 k >> λ rest j. Ok (own.0 ++ rest, j))
      (λ u m. unvisited m (as_file c u) >> λ own k. joined_parts (part_bytes more (pred left)) own.1 k >> λ rest j. Ok (own.0 ++ rest, j)) (visit_same left c n)
      (λ u m. behind_same more (unvisited m (as_file c u)) (unvisited m (as_file c u)) (λ own k. joined_parts (part_bytes held (pred left)) own.1 k >> λ rest j. Ok (own.0 ++ rest, j)) (λ own k. joined_parts (part_bytes more (pred left)) own.1 k >> λ rest j. Ok (own.0 ++ rest, j)) (gives_itself more (unvisited m (as_file c u)))
      (λ own k. behind_same more (joined_parts (part_bytes held (pred left)) own.1 k) (joined_parts (part_bytes more (pred left)) own.1 k) (λ rest j. Ok (own.0 ++ rest, j)) (λ rest j. Ok (own.0 ++ rest, j)) (joined_same more (part_bytes held (pred left)) (part_bytes more (pred left)) (part_same (pred left)) own.1 k) (λ rest j. refl)))

  due_same : (v : Visited) (left : ℕ) (c : Cid) (n : ℕ) → AnswersSame more (due_bytes held (record { cid = c; left = left; visited = v }) n) (due_bytes more (record { cid = c; left = left; visited = v }) n)
  due_same Whole left c n = file_same left c n
  due_same Begins left c n = file_same left c n
  due_same Part left c n = part_same left c n

  bytes_same : (ds : List Due) (n : ℕ) → AnswersSame more (all_bytes held ds n) (all_bytes more ds n)
  bytes_same [] n = refl
  bytes_same (d ∷ ds) n =
      behind_same more (due_bytes held d n) (due_bytes more d n) (λ bytes m. all_bytes held ds m >> λ rest k. Ok (bytes ++ rest, k)) (λ bytes m. all_bytes more ds m >> λ rest k. Ok (bytes ++ rest, k)) (due_same d.visited d.left d.cid n)
      (λ bytes m. behind_same more (all_bytes held ds m) (all_bytes more ds m) (λ rest k. Ok (bytes ++ rest, k)) (λ rest k. Ok (bytes ++ rest, k)) (bytes_same ds m) (λ rest k. refl))

  pub rest-stays : (rest : Rest) → AnswersSame more (to_come held rest) (to_come more rest)
  rest-stays rest = answered_same more (λ bytes. bytes) (all_bytes held rest.0 rest.1) (all_bytes more rest.0 rest.1) (bytes_same rest.0 rest.1)

  module _ (limits : Limits) where
    pub tree-stays : (c : Cid) → AnswersSame more (denotes held limits c) (denotes more limits c)
    tree-stays c = answered_same more (λ t. t) (tree_under held (limits.depth + 1) c limits.visits) (tree_under more (limits.depth + 1) c limits.visits) (within_same (limits.depth + 1) (limits.depth + 1) c limits.visits)

    pub shape-stays : (c : Cid) → AnswersSame more (shallow_of held limits c) (shallow_of more limits c)
    shape-stays c = answered_same more shape_of (gathered held (limits.depth + 1) c limits.visits) (gathered more (limits.depth + 1) c limits.visits) (gathered_same (limits.depth + 1) c limits.visits)

    pub file-stays : (c : Cid) → AnswersSame more (file_of held limits c) (file_of more limits c)
    file-stays c = answered_same more (λ bytes. bytes) (file_under held (limits.depth + 1) c limits.visits) (file_under more (limits.depth + 1) c limits.visits) (file_same (limits.depth + 1) c limits.visits)

    step_same : (place : ℕ) (name : List ℕ) (c : Cid) → AnswersSame more (step_of held limits place name c) (step_of more limits place name c)
    step_same place name c = then_same more (shallow_of held limits c) (shallow_of more limits c) (λ shape. way_in_shape place name shape) (λ shape. way_in_shape place name shape) (shape-stays c) (λ shape. gives_itself more (way_in_shape place name shape))

    pub path-stays : (place : ℕ) (names : List (List ℕ)) (c : Cid) → AnswersSame more (resolve_from held limits place names c) (resolve_from more limits place names c)
    path-stays place [] c = refl
    path-stays place (name ∷ names) c =
        then_same more (step_of held limits place name c) (step_of more limits place name c) (λ next. resolve_from held limits (place + 1) names next) (λ next. resolve_from more limits (place + 1) names next) (step_same place name c)
        (λ next. path-stays (place + 1) names next)
