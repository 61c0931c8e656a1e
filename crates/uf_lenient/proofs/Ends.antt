-- A reading one visit after the other ends as the whole reading.
use Rattle.std.proofs.Common.{◌≡◌, inl, inr, ℕ, zero, suc, pred, ◌+◌, ◌-◌, ◌≤◌, ◌≢◌, List, [], ◌∷◌, ◌++◌, map, refl, sym, ap, subst, ◌∙◌, arith, Result, Ok, Err}
use Rattle.std.specs.Prelude.{IfOk, OnOk}
use Rattle.uf_varint.specs.Fields.{◌>>=◌}
use Rattle.uf_cid.specs.Blocks.{Lookup}
use Rattle.uf_cid.specs.declared.cid.Cid.{Cid}
use Rattle.uf_cid.specs.declared.cid.Codec.TheVariants as codec
use Rattle.uf_dagpb.specs.declared.node.Link.{Link}
use Rattle.uf_tree.specs.Metas.{none}
use Rattle.uf_tree.specs.Tree.{Tree, Dir, File as FileTree, entries}
use Rattle.uf_lenient.specs.declared.due.Due.{Due}
use Rattle.uf_lenient.specs.declared.due.Visited.{Visited}
use Rattle.uf_lenient.specs.declared.due.Visited.TheVariants.{Whole, File, Part}
use Rattle.uf_lenient.specs.declared.fault.DagFault.{DagFault}
use Rattle.uf_lenient.specs.declared.gathered.Gathered.{Gathered}
use Rattle.uf_lenient.specs.declared.gathered.Gathered.TheVariants.{File as IsFile, Folder as IsFolder}
use Rattle.uf_lenient.specs.declared.shapes.Limits.{Limits}
use Rattle.uf_lenient.specs.declared.shapes.Shape.{Shape}
use Rattle.uf_lenient.specs.declared.unixfs.Unixfs.TheVariants.{File as IsRaw}
use Rattle.uf_lenient.specs.Answers.{IsFault, FollowsReading}
use Rattle.uf_lenient.specs.Pending.{all_end, as_due, due_bytes, due_ends, how_ends, gathered_due, own_part, parts_due, way_due}
use Rattle.uf_lenient.specs.Reading.{◌>>◌, Visits, Ways, answered, completed, denotes, file_under, gathered, gathers, joined_parts, loads, member_trees, part_bytes, shape_of, unvisited, tree_under, tree_within, visit_of}
use Rattle.uf_lenient.specs.Steps.{IsRead, StepsTo, Surveys}
use Rattle.uf_lenient.specs.Unixfs.{as_file, as_part, unixfs_of}
use Rattle.uf_lenient.proofs.Bounds.{tree-step}
use Rattle.uf_lenient.proofs.Saying.{fault-then, fault-behind, fault-is}

-- ---- one reading after the other

pub behind-behind : {A B C : Type 0} (r : Visits A) (f : A → ℕ → Visits B) (g : B → ℕ → Visits C) → ((r >> f) >> g) ≡ (r >> λ a n. f a n >> g)
behind-behind (Ok x) f g = refl
behind-behind (Err e) f g = refl

then-then : {A B C : Type 0} (r : Result A DagFault) (f : A → Result B DagFault) (g : B → Result C DagFault) → ((r >>= f) >>= g) ≡ (r >>= λ a. f a >>= g)
then-then (Ok x) f g = refl
then-then (Err e) f g = refl

-- only what is answered changes
ends-pure : {A B : Type 0} (r : Visits A) (f : A → B) → how_ends (r >> λ a n. Ok (f a, n)) ≡ how_ends r
ends-pure (Ok x) f = refl
ends-pure (Err e) f = refl

-- ---- one answer

ok_else : {A : Type 0} → A → Result A DagFault → A
ok_else d (Ok a) = a
ok_else d (Err e) = d

err_else : {A : Type 0} → DagFault → Result A DagFault → DagFault
err_else d (Ok a) = d
err_else d (Err e) = e

abbrev Is_err : {A : Type 0} → Result A DagFault → Type 0
Is_err (Ok a) = ⊥
Is_err (Err e) = Unit {0}

pub same_ok : {A : Type 0} (x y : A) → ◌≡◌ {A = Result A DagFault} (Ok x) (Ok y) → x ≡ y
unfolding ok_else
same_ok x y is = ap (ok_else x) is

same_err : {A : Type 0} (x y : DagFault) → ◌≡◌ {A = Result A DagFault} (Err x) (Err y) → x ≡ y
unfolding err_else
same_err x y is = ap (err_else x) is

err_ok : {A : Type 0} (e : DagFault) (x : A) → ◌≡◌ {A = Result A DagFault} (Err e) (Ok x) → ⊥
err_ok e x is = subst Is_err is tt

pub ends_ok : {A : Type 0} (r : Visits A) (k : ℕ) → how_ends r ≡ Ok k → (a : A) × (r ≡ Ok (a, k))
ends_ok (Ok x) k is = (x.0, ap (λ n. Ok (x.0, n)) (same_ok x.1 k is))
ends_ok (Err e) k is = absurd (err_ok e k is)

pub ends_err : {A : Type 0} (r : Visits A) (fault : DagFault) → how_ends r ≡ Err fault → r ≡ Err fault
ends_err (Ok x) fault is = absurd (err_ok fault x.1 (sym is))
ends_err (Err e) fault is = ap Err (same_err {A = ℕ} e fault is)

pub less-one : (n : ℕ) → n - 1 ≡ pred n
less-one zero = refl
less-one (suc n) = omega arith

abbrev Is_other : Visited → Type 0
Is_other Whole = ⊥
Is_other File = Unit {0}
Is_other Part = Unit {0}

part_differs : Part ≢ Whole
part_differs is = subst Is_other is tt

file_differs : File ≢ Whole
file_differs is = subst Is_other is tt

-- the beginning of a file, and a part of one, are no whole block
pub file-part : (v : Visited) → v ≡ File → v ≢ Whole
file-part v is whole = file_differs (sym is ∙ whole)

pub part-part : (v : Visited) → v ≡ Part → v ≢ Whole
part-part v is whole = part_differs (sym is ∙ whole)

module _ (held : Lookup) where
  pub all_end-append : (xs ys : List Due) (n : ℕ) → all_end held (xs ++ ys) n ≡ (all_end held xs n >>= λ m. all_end held ys m)
  all_end-append [] ys n = refl
  all_end-append (x ∷ xs) ys n = inside (due_ends held x n) (λ m. all_end-append xs ys m)
    where
      inside : (r : Result ℕ DagFault) → ((m : ℕ) → all_end held (xs ++ ys) m ≡ (all_end held xs m >>= λ k. all_end held ys k)) → (r >>= λ m. all_end held (xs ++ ys) m) ≡ ((r >>= λ m. all_end held xs m) >>= λ m. all_end held ys m)
      inside (Ok m) ih = ih m
      inside (Err e) ih = refl

  joined-ends : (left : ℕ) (links : List Link) (n : ℕ) → how_ends (joined_parts (part_bytes held left) links n) ≡ all_end held (parts_due left links) n
  joined-ends left [] n = refl
  joined-ends left (l ∷ ls) n = inside (part_bytes held left l.cid n) (λ m. joined-ends left ls m)
    where
      inside : (r : Visits (List ℕ)) → ((m : ℕ) → how_ends (joined_parts (part_bytes held left) ls m) ≡ all_end held (parts_due left ls) m) → how_ends (r >> λ bytes m. joined_parts (part_bytes held left) ls m >> λ more k. Ok (bytes ++ more, k)) ≡ (how_ends r >>= λ m. all_end held (parts_due left ls) m)
      inside (Ok x) ih = ends-pure (joined_parts (part_bytes held left) ls x.1) (λ more. x.0 ++ more) ∙ ih x.1
      inside (Err e) ih = refl

  members-ends : (ways : Ways) (n : ℕ) → how_ends (member_trees (tree_under held) ways n) ≡ all_end held (map way_due ways) n
  members-ends [] n = refl
  members-ends (w ∷ ws) n = inside (tree_under held w.1.left w.1.cid n) (λ m. members-ends ws m)
    where
      inside : (r : Visits Tree) → ((m : ℕ) → how_ends (member_trees (tree_under held) ws m) ≡ all_end held (map way_due ws) m) → how_ends (r >> λ t m. member_trees (tree_under held) ws m >> λ more k. Ok ((w.0, t) ∷ more, k)) ≡ (how_ends r >>= λ m. all_end held (map way_due ws) m)
      inside (Ok x) ih = ends-pure (member_trees (tree_under held) ws x.1) (λ more. (w.0, x.0) ∷ more) ∙ ih x.1
      inside (Err e) ih = refl

  pub completed-ends : (left : ℕ) (g : Gathered) (n : ℕ) → how_ends (completed held (tree_under held) left g n) ≡ all_end held (gathered_due left g) n
  completed-ends left (IsFile meta bytes links) n = ends-pure (joined_parts (part_bytes held left) links n) (λ more. FileTree meta (bytes ++ more)) ∙ joined-ends left links n
  completed-ends left (IsFolder meta ways) n = ends-pure (member_trees (tree_under held) ways n) (λ es. Dir (entries meta es)) ∙ members-ends ways n

  -- ---- a member of a directory is read

  whole_ok : (left : ℕ) (c : Cid) (n : ℕ) (g : Gathered) (m : ℕ) → 1 ≤ left → gathered held left c n ≡ Ok (g, m) → how_ends (tree_under held left c n) ≡ all_end held (gathered_due (pred left) g) m
  whole_ok zero c n g m some is = absurd (omega arith)
  whole_ok (suc left) c n g m some is = ap how_ends (tree-step held left c n) ∙ ap (λ r. how_ends (r >> λ x k. completed held (tree_under held) left x k)) is ∙ completed-ends left g m

  pub whole-steps : (d : Due) (ds : List Due) (n : ℕ) (g : Gathered) (m : ℕ) → d.visited ≡ Whole → 1 ≤ d.left → gathered held d.left d.cid n ≡ Ok (g, m)
      → all_end held (d ∷ ds) n ≡ all_end held (gathered_due (pred d.left) g ++ ds) m
  whole-steps d ds n g m whole some is =
      ap (λ r. r >>= λ k. all_end held ds k) (ap (λ v. due_ends held (record { cid = d.cid; left = d.left; visited = v }) n) whole ∙ whole_ok d.left d.cid n g m some is)
      ∙ sym (all_end-append (gathered_due (pred d.left) g) ds m)

  whole_err : (left : ℕ) (c : Cid) (n : ℕ) (fault : DagFault) → IsFault (gathered held left c n) fault → IsFault (how_ends (tree_under held left c n)) fault
  unfolding tree_within gathered
  whole_err left c n fault (inl own) = inl own
  whole_err zero c n fault (inr is) = inr (ap how_ends is)
  whole_err (suc left) c n fault (inr is) = inr (ap how_ends (tree-step held left c n) ∙ ap (λ r. how_ends (r >> λ x k. completed held (tree_under held) left x k)) is)

  pub whole-fault : (d : Due) (ds : List Due) (n : ℕ) (fault : DagFault) → d.visited ≡ Whole → IsFault (gathered held d.left d.cid n) fault → IsFault (all_end held (d ∷ ds) n) fault
  whole-fault d ds n fault whole is =
      fault-then (due_ends held d n) (λ k. all_end held ds k) fault
      (fault-is (how_ends (tree_under held d.left d.cid n)) (due_ends held d n) fault (ap (λ v. due_ends held (record { cid = d.cid; left = d.left; visited = v }) n) whole) (whole_err d.left d.cid n fault is))

  -- ---- a part of a file is read

  -- the bytes of a node of a file are its own, and those of its links
  abbrev pub with_below : ℕ → List ℕ × List Link → ℕ → Visits (List ℕ)
  with_below left own k = joined_parts (part_bytes held left) own.1 k >> λ more j. Ok (own.0 ++ more, j)

  bytes_step : (v : Visited) (left : ℕ) (c : Cid) (n : ℕ) → due_bytes held (record { cid = c; left = left; visited = v }) n ≡ (own_part held (record { cid = c; left = left; visited = v }) n >> with_below (pred left))
  unfolding file_under part_bytes
  bytes_step Whole left c n = sym (behind-behind (visit_of held left c n) (λ u m. unvisited m (as_file c u)) (with_below (pred left)))
  bytes_step File left c n = sym (behind-behind (visit_of held left c n) (λ u m. unvisited m (as_file c u)) (with_below (pred left)))
  bytes_step Part zero c n = refl
  bytes_step Part (suc left) c n = sym (behind-behind (visit_of held (suc left) c n) (λ u m. unvisited m (as_part c u)) (with_below left))

  pub bytes-step : (d : Due) (n : ℕ) → due_bytes held d n ≡ (own_part held d n >> with_below (pred d.left))
  bytes-step d n = bytes_step d.visited d.left d.cid n

  ends_bytes : (v : Visited) (left : ℕ) (c : Cid) (n : ℕ) → v ≢ Whole → due_ends held (record { cid = c; left = left; visited = v }) n ≡ how_ends (due_bytes held (record { cid = c; left = left; visited = v }) n)
  ends_bytes Whole left c n other = absurd (other refl)
  ends_bytes File left c n other = refl
  ends_bytes Part left c n other = refl

  part_ends : (d : Due) (n : ℕ) → d.visited ≢ Whole → due_ends held d n ≡ how_ends (own_part held d n >> with_below (pred d.left))
  part_ends d n other = ends_bytes d.visited d.left d.cid n other ∙ ap how_ends (bytes-step d n)

  below_ends : (left : ℕ) (own : List ℕ × List Link) (n : ℕ) → how_ends (with_below left own n) ≡ all_end held (parts_due left own.1) n
  below_ends left own n = ends-pure (joined_parts (part_bytes held left) own.1 n) (λ more. own.0 ++ more) ∙ joined-ends left own.1 n

  pub part-steps : (d : Due) (ds : List Due) (n : ℕ) (own : List ℕ × List Link) (m : ℕ) → d.visited ≢ Whole → own_part held d n ≡ Ok (own, m)
      → all_end held (d ∷ ds) n ≡ all_end held (parts_due (pred d.left) own.1 ++ ds) m
  part-steps d ds n own m other is =
      ap (λ r. r >>= λ k. all_end held ds k) (part_ends d n other ∙ ap (λ r. how_ends (r >> with_below (pred d.left))) is ∙ below_ends (pred d.left) own m)
      ∙ sym (all_end-append (parts_due (pred d.left) own.1) ds m)

  pub part-fault : (d : Due) (ds : List Due) (n : ℕ) (fault : DagFault) → d.visited ≢ Whole → IsFault (own_part held d n) fault → IsFault (all_end held (d ∷ ds) n) fault
  part-fault d ds n fault other (inl own) = inl own
  part-fault d ds n fault other (inr is) = inr (ap (λ r. r >>= λ k. all_end held ds k) (part_ends d n other ∙ ap (λ r. how_ends (r >> with_below (pred d.left))) is))

  -- ---- a raw block is read

  raw_visit : (left : ℕ) (c : Cid) (n : ℕ) (bytes : List ℕ) (m : ℕ) → c.codec ≡ codec.Raw → loads held left c n ≡ Ok (bytes, m) → visit_of held left c n ≡ Ok (IsRaw none bytes [], m)
  unfolding unixfs_of
  raw_visit left c n bytes m raw is = ap (λ r. r >> λ b k. unvisited k (unixfs_of c b)) is ∙ ap (λ x. unvisited m (unixfs_of (record { codec = x; digest = c.digest }) bytes)) raw

  raw_own : (v : Visited) (left : ℕ) (c : Cid) (n : ℕ) (bytes : List ℕ) (m : ℕ) → visit_of held left c n ≡ Ok (IsRaw none bytes [], m) → own_part held (record { cid = c; left = left; visited = v }) n ≡ Ok ((bytes, []), m)
  raw_own Whole left c n bytes m is = ap (λ r. r >> λ u k. unvisited k (as_file c u)) is
  raw_own File left c n bytes m is = ap (λ r. r >> λ u k. unvisited k (as_file c u)) is
  raw_own Part left c n bytes m is = ap (λ r. r >> λ u k. unvisited k (as_part c u)) is

  raw_whole : (left : ℕ) (c : Cid) (n : ℕ) (bytes : List ℕ) (m : ℕ) → visit_of held left c n ≡ Ok (IsRaw none bytes [], m) → gathered held left c n ≡ Ok (IsFile none bytes [], m)
  unfolding gathered
  raw_whole left c n bytes m is = ap (λ r. r >> λ u k. gathers held (pred left) c u k) is

  raw_steps : (v : Visited) (left : ℕ) (c : Cid) (ds : List Due) (n : ℕ) (bytes : List ℕ) (m : ℕ) → 1 ≤ left → visit_of held left c n ≡ Ok (IsRaw none bytes [], m)
      → all_end held (record { cid = c; left = left; visited = v } ∷ ds) n ≡ all_end held ds m
  raw_steps Whole left c ds n bytes m some is = whole-steps (record { cid = c; left = left; visited = Whole }) ds n (IsFile none bytes []) m refl some (raw_whole left c n bytes m is)
  raw_steps File left c ds n bytes m some is = part-steps (record { cid = c; left = left; visited = File }) ds n (bytes, []) m file_differs (raw_own File left c n bytes m is)
  raw_steps Part left c ds n bytes m some is = part-steps (record { cid = c; left = left; visited = Part }) ds n (bytes, []) m part_differs (raw_own Part left c n bytes m is)

  pub raw-steps : (d : Due) (ds : List Due) (n : ℕ) (bytes : List ℕ) (m : ℕ) → d.cid.codec ≡ codec.Raw → 1 ≤ d.left → loads held d.left d.cid n ≡ Ok (bytes, m) → all_end held (d ∷ ds) n ≡ all_end held ds m
  raw-steps d ds n bytes m raw some is = raw_steps d.visited d.left d.cid ds n bytes m some (raw_visit d.left d.cid n bytes m raw is)

  visit_fault : (left : ℕ) (c : Cid) (n : ℕ) (fault : DagFault) → IsFault (loads held left c n) fault → IsFault (visit_of held left c n) fault
  visit_fault left c n fault is = fault-behind (loads held left c n) (λ b k. unvisited k (unixfs_of c b)) fault is

  pub gathered-fault : (left : ℕ) (c : Cid) (n : ℕ) (fault : DagFault) → IsFault (visit_of held left c n) fault → IsFault (gathered held left c n) fault
  unfolding gathered
  gathered-fault left c n fault is = fault-behind (visit_of held left c n) (λ u k. gathers held (pred left) c u k) fault is

  pub own-fault : (d : Due) (n : ℕ) (fault : DagFault) → IsFault (visit_of held d.left d.cid n) fault → IsFault (own_part held d n) fault
  own-fault d n fault is = fault-behind (visit_of held d.left d.cid n) (λ u m. unvisited m (as_due held d u)) fault is

  load_fault : (v : Visited) (left : ℕ) (c : Cid) (ds : List Due) (n : ℕ) (fault : DagFault) → IsFault (visit_of held left c n) fault → IsFault (all_end held (record { cid = c; left = left; visited = v } ∷ ds) n) fault
  load_fault Whole left c ds n fault is = whole-fault (record { cid = c; left = left; visited = Whole }) ds n fault refl (gathered-fault left c n fault is)
  load_fault File left c ds n fault is = part-fault (record { cid = c; left = left; visited = File }) ds n fault file_differs (own-fault (record { cid = c; left = left; visited = File }) n fault is)
  load_fault Part left c ds n fault is = part-fault (record { cid = c; left = left; visited = Part }) ds n fault part_differs (own-fault (record { cid = c; left = left; visited = Part }) n fault is)

  pub load-fault : (d : Due) (ds : List Due) (n : ℕ) (fault : DagFault) → IsFault (loads held d.left d.cid n) fault → IsFault (all_end held (d ∷ ds) n) fault
  load-fault d ds n fault is = load_fault d.visited d.left d.cid ds n fault (visit_fault d.left d.cid n fault is)

  -- ---- everything is read

  pub read-all : (limits : Limits) (c : Cid) (g : Gathered) (m k left : ℕ) (shape : Shape) → left ≡ limits.depth + 1 → gathered held left c limits.visits ≡ Ok (g, m) → all_end held (gathered_due (left - 1) g) m ≡ Ok k → shape ≡ shape_of g → IsRead held limits c shape
  read-all limits c g m k left shape depth is all shaped =
      let some : 1 ≤ left = omega (arith, depth) in
      let whole : how_ends (tree_under held left c limits.visits) ≡ Ok k = whole_ok left c limits.visits g m some is ∙ ap (λ l. all_end held (gathered_due l g) m) (sym (less-one left)) ∙ all in
      let read = ends_ok (tree_under held left c limits.visits) k whole in
      record {
        tree = read.0;
        denoted = ap (λ l. answered (λ t. t) (tree_under held l c limits.visits)) (sym depth) ∙ ap (answered (λ t. t)) read.1;
        shaped = ap (λ l. answered shape_of (gathered held l c limits.visits)) (sym depth) ∙ ap (answered shape_of) is ∙ ap Ok (sym shaped);
      }

  pub not-read : (limits : Limits) (c : Cid) (g : Gathered) (m left : ℕ) (fault : DagFault) → left ≡ limits.depth + 1 → gathered held left c limits.visits ≡ Ok (g, m) → IsFault (all_end held (gathered_due (left - 1) g) m) fault → IsFault (denotes held limits c) fault
  not-read limits c g m left fault depth is (inl own) = inl own
  not-read limits c g m left fault depth is (inr all) =
      let some : 1 ≤ left = omega (arith, depth) in
      let whole : how_ends (tree_under held left c limits.visits) ≡ Err fault = whole_ok left c limits.visits g m some is ∙ ap (λ l. all_end held (gathered_due l g) m) (sym (less-one left)) ∙ all in
      inr (ap (λ l. answered (λ t. t) (tree_under held l c limits.visits)) (sym depth) ∙ ap (answered (λ t. t)) (ends_err (tree_under held left c limits.visits) fault whole))

  pub not-gathered : (limits : Limits) (c : Cid) (left : ℕ) (fault : DagFault) → left ≡ limits.depth + 1 → IsFault (gathered held left c limits.visits) fault → IsFault (denotes held limits c) fault
  not-gathered limits c left fault depth is = by (whole_err left c limits.visits fault is)
    where
      by : IsFault (how_ends (tree_under held left c limits.visits)) fault → IsFault (denotes held limits c) fault
      by (inl own) = inl own
      by (inr ended) = inr (ap (λ l. answered (λ t. t) (tree_under held l c limits.visits)) (sym depth) ∙ ap (answered (λ t. t)) (ends_err (tree_under held left c limits.visits) fault ended))

  -- ---- what is below a block is put on the pile

  pub put-steps : (d : Due) (ds now : List Due) (n : ℕ) (bytes : List ℕ) (links put : List Link) (m : ℕ) → d.visited ≢ Whole → own_part held d n ≡ Ok ((bytes, links), m) → put ≡ links → now ≡ parts_due (d.left - 1) put ++ ds
      → all_end held (d ∷ ds) n ≡ all_end held now m
  put-steps d ds now n bytes links put m other is same put_is =
      part-steps d ds n (bytes, links) m other is ∙ ap (λ l. all_end held (parts_due l links ++ ds) m) (sym (less-one d.left)) ∙ ap (λ ls. all_end held (parts_due (d.left - 1) ls ++ ds) m) (sym same) ∙ ap (λ x. all_end held x m) (sym put_is)

  pub put-whole : (d : Due) (ds now : List Due) (n : ℕ) (g : Gathered) (m : ℕ) → d.visited ≡ Whole → 1 ≤ d.left → gathered held d.left d.cid n ≡ Ok (g, m) → now ≡ gathered_due (d.left - 1) g ++ ds → all_end held (d ∷ ds) n ≡ all_end held now m
  put-whole d ds now n g m whole some is put_is =
      whole-steps d ds n g m whole some is ∙ ap (λ l. all_end held (gathered_due l g ++ ds) m) (sym (less-one d.left)) ∙ ap (λ x. all_end held x m) (sym put_is)

  -- ---- what calls answer

  -- a leaf that is lent is met
  pub lent-met : (left : ℕ) (c : Cid) (n : ℕ) (bytes : List ℕ) (m : ℕ) (r : Result (Unit {0}) DagFault) → FollowsReading (λ _. (bytes, m)) (loads held left c n) r
      → FollowsReading (λ _. m) (how_ends (loads held left c n)) r
  lent-met left c n bytes m (Ok u) says = ap how_ends says
  lent-met left c n bytes m (Err fault) (inl own) = inl own
  lent-met left c n bytes m (Err fault) (inr is) = inr (ap how_ends is)

  pub raw-says : (d : Due) (ds : List Due) (n m : ℕ) (r : Result (Unit {0}) DagFault) → d.cid.codec ≡ codec.Raw → OnOk r (1 ≤ d.left) → FollowsReading (λ _. m) (how_ends (loads held d.left d.cid n)) r
      → StepsTo (all_end held (d ∷ ds) n) (all_end held ds m) r
  raw-says d ds n m (Ok u) raw some says = let read = ends_ok (loads held d.left d.cid n) m says in raw-steps d ds n read.0 m raw some read.1
  raw-says d ds n m (Err fault) raw some (inl own) = inl own
  raw-says d ds n m (Err fault) raw some (inr is) = load-fault d ds n fault (inr (ends_err (loads held d.left d.cid n) fault is))

  pub surveyed : (limits : Limits) (c : Cid) (g : Gathered) (m k left : ℕ) (r : Result Shape DagFault) → left ≡ limits.depth + 1 → gathered held left c limits.visits ≡ Ok (g, m) → FollowsReading (λ _. k) (all_end held (gathered_due (left - 1) g) m) r
      → IfOk r (λ s. s ≡ shape_of g) → Surveys held limits c r
  surveyed limits c g m k left (Ok shape) depth is says shaped = read-all limits c g m k left shape depth is says shaped
  surveyed limits c g m k left (Err fault) depth is says shaped = not-read limits c g m left fault depth is says
