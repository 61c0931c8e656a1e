-- Two maps that agree where links lead are read alike.
use Rattle.std.proofs.Common.{◌≡◌, ℕ, zero, suc, pred, ◌+◌, List, [], ◌∷◌, ◌++◌, Contains, refl, ap, subst, ◌∙◌, Result, Ok, Err, Bool, true, false, cond, Ordering, Less, Equal, Greater}
use Rattle.std.specs.Prelude.{Option, Some, None, ⊤, if◌then◌else◌, is_some}
use Rattle.std.specs.List.{AllByRecursion}
use Rattle.std.specs.FinMap.Entries.{by_order, find, put}
use Rattle.std.specs.Ordering.{eq_by_cmp}
use Rattle.uf_varint.specs.Fields.{◌>>=◌}
use Rattle.uf_cid.specs.Blocks.{Lookup}
use Rattle.uf_cid.specs.declared.cid.Cid.{Cid}
use Rattle.uf_dagpb.specs.declared.node.Link.{Link}
use Rattle.uf_store.specs.declared.store.StoreFault.TheVariants.{Missing}
use Rattle.uf_tree.specs.Names.{names_cmp, is_name}
use Rattle.uf_tree.specs.Tree.{Tree, Dir, File as FileTree, entries}
use Rattle.uf_lenient.specs.declared.due.Due.{Due}
use Rattle.uf_lenient.specs.declared.due.Visited.{Visited}
use Rattle.uf_lenient.specs.declared.due.Visited.TheVariants.{Whole, File as Begins, Part}
use Rattle.uf_lenient.specs.declared.fault.DagFault.{DagFault}
use Rattle.uf_lenient.specs.declared.fault.DagFault.TheVariants.{BadName, DuplicateName, Store}
use Rattle.uf_lenient.specs.declared.found.Found.{Found}
use Rattle.uf_lenient.specs.declared.gathered.Gathered.{Gathered}
use Rattle.uf_lenient.specs.declared.gathered.Gathered.TheVariants.{File as IsFile, Folder as IsFolder}
use Rattle.uf_lenient.specs.declared.shapes.Limits.{Limits}
use Rattle.uf_lenient.specs.declared.shapes.Shape.{Shape}
use Rattle.uf_lenient.specs.declared.shapes.Shape.TheVariants.{File as FileShape, Folder as FolderShape}
use Rattle.uf_lenient.specs.declared.unixfs.Unixfs.{Unixfs}
use Rattle.uf_lenient.specs.declared.unixfs.Unixfs.TheVariants.{File, Directory, Shard, OtherShard, Other}
use Rattle.uf_lenient.specs.Leading.{AgreeAmong, links_to_read}
use Rattle.uf_lenient.specs.Reading.{◌>>◌, Visits, Ways, answered, behind_slot, completed, denotes, file_of, file_under, gathered, gathers, joined_parts, leads, meet, meet_all, meet_name, member_trees, part_bytes, resolve_from, shallow_of, shape_of, shard_ways, slot_ways, step_of, sub_ways, tree_within, unvisited, visit_of, way_at, way_in_shape}
use Rattle.uf_lenient.specs.Pending.{all_bytes, due_bytes}
use Rattle.uf_lenient.specs.Steps.{Rest, to_come}
use Rattle.uf_lenient.specs.Unixfs.{as_file, as_part, as_shard, unixfs_of}

-- this holds of the value, unless there is a fault
abbrev Kept : {A : Type 0} → (A → Type 0) → Result A DagFault → Type 0
Kept P (Ok a) = P a
Kept P (Err e) = ⊤

-- the same of a reading's answer
abbrev Keeps : {A : Type 0} → (A → Type 0) → Visits A → Type 0
Keeps P (Ok x) = P x.0
Keeps P (Err e) = ⊤

-- two readings are one, and this holds of their answer
abbrev Alike : {A : Type 0} → (A → Type 0) → Visits A → Visits A → Type 0
Alike P r s = (r ≡ s) × Keeps P r

behind : {A B : Type 0} (P : A → Type 0) (Q : B → Type 0) (r s : Visits A) (f g : A → ℕ → Visits B) → Alike P r s → ((a : A) (n : ℕ) → P a → Alike Q (f a n) (g a n)) → Alike Q (r >> f) (s >> g)
behind P Q (Ok x) s f g h next = subst (λ t. Alike Q (f x.0 x.1) (t >> g)) h.0 (next x.0 x.1 h.1)
behind P Q (Err e) s f g h next = subst (λ t. Alike Q (Err e) (t >> g)) h.0 (refl, tt)

-- what makes no visit
still : {A : Type 0} (P : A → Type 0) (n : ℕ) (r : Result A DagFault) → Kept P r → Alike P (unvisited n r) (unvisited n r)
still P n (Ok a) h = (refl, h)
still P n (Err e) h = (refl, tt)

kept-then : {A B : Type 0} (P : A → Type 0) (Q : B → Type 0) (r : Result A DagFault) (f : A → Result B DagFault) → Kept P r → ((a : A) → P a → Kept Q (f a)) → Kept Q (r >>= f)
kept-then P Q (Ok a) f h next = next a h
kept-then P Q (Err e) f h next = tt

then-alike : {A B : Type 0} (P : A → Type 0) (r s : Result A DagFault) (f g : A → Result B DagFault) → r ≡ s → Kept P r → ((a : A) → P a → f a ≡ g a) → (r >>= f) ≡ (s >>= g)
then-alike P (Ok a) s f g same h next = next a h ∙ ap (λ t. t >>= g) same
then-alike P (Err e) s f g same h next = ap (λ t. t >>= g) same

-- nothing is asked of bytes and of trees
abbrev Bytes : List ℕ → Type 0
Bytes b = ⊤

abbrev Trees : List (List ℕ × Tree) → Type 0
Trees ts = ⊤

abbrev OneTree : Tree → Type 0
OneTree t = ⊤

module _ (left right : Lookup) (cids : List Cid) (agree : AgreeAmong left right cids) where
  abbrev Here : Cid → Type 0
  Here c = Contains cids c

  abbrev LinksHere : List Link → Type 0
  LinksHere links = AllByRecursion (λ (l : Link). Contains cids l.cid) links

  abbrev WaysHere : Ways → Type 0
  WaysHere ways = AllByRecursion (λ (w : List ℕ × Found). Contains cids w.1.cid) ways

  abbrev NodeHere : Unixfs → Type 0
  NodeHere u = LinksHere (links_to_read u)

  abbrev OwnHere : List ℕ × List Link → Type 0
  OwnHere own = LinksHere own.1

  abbrev GatheredHere : Gathered → Type 0
  GatheredHere (IsFile meta bytes links) = LinksHere links
  GatheredHere (IsFolder meta ways) = WaysHere ways

  -- ---- visits

  abbrev block_from : Option (List ℕ) → Cid → ℕ → Visits (List ℕ)
  block_from o c n = elim o [ None ↦ Err (Store (Missing c)) | Some bytes ↦ Ok (bytes, n) ]

  abbrev node_from : Option (List ℕ) → Cid → ℕ → Visits Unixfs
  node_from o c n = block_from o c n >> λ bytes m. unvisited m (unixfs_of c bytes)

  visited : (d : ℕ) (c : Cid) (n : ℕ) → Here c → Alike NodeHere (visit_of left d c n) (visit_of right d c n)
  visited zero c n here = (refl, tt)
  visited (suc d) c zero here = (refl, tt)
  visited (suc d) c (suc n) here = (ap (λ (o : Option (List ℕ)). node_from o c n) (agree.same c here), by (left c) refl)
    where
      one : (bytes : List ℕ) (r : Result Unixfs DagFault) → left c ≡ Some bytes → unixfs_of c bytes ≡ r → Keeps NodeHere (unvisited n r)
      one bytes (Ok u) held says = agree.closed c bytes u here held says
      one bytes (Err e) held says = tt

      by : (o : Option (List ℕ)) → left c ≡ o → Keeps NodeHere (node_from o c n)
      by None e = tt
      by (Some bytes) e = one bytes (unixfs_of c bytes) e refl

  -- ---- files

  part_here : (c : Cid) (u : Unixfs) → NodeHere u → Kept OwnHere (as_part c u)
  part_here c (File meta bytes links) h = h
  part_here c (Directory meta links) h = tt
  part_here c (Shard meta links) h = tt
  part_here c OtherShard h = tt
  part_here c Other h = tt

  file_here : (c : Cid) (u : Unixfs) → NodeHere u → Kept OwnHere (as_file c u)
  file_here c (File meta bytes links) h = h
  file_here c (Directory meta links) h = tt
  file_here c (Shard meta links) h = tt
  file_here c OtherShard h = tt
  file_here c Other h = tt

  joined : (f g : Cid → ℕ → Visits (List ℕ)) → ((c : Cid) (n : ℕ) → Here c → Alike Bytes (f c n) (g c n)) → (links : List Link) (n : ℕ) → LinksHere links → Alike Bytes (joined_parts f links n) (joined_parts g links n)
  joined f g same [] n h = (refl, tt)
  joined f g same (l ∷ ls) n h =
      behind Bytes Bytes (f l.cid n) (g l.cid n) (λ bytes m. joined_parts f ls m >> λ more k. Ok (bytes ++ more, k)) (λ bytes m. joined_parts g ls m >> λ more k. Ok (bytes ++ more, k)) (same l.cid n h.0)
      (λ bytes m any. behind Bytes Bytes (joined_parts f ls m) (joined_parts g ls m) (λ more k. Ok (bytes ++ more, k)) (λ more k. Ok (bytes ++ more, k)) (joined f g same ls m h.1) (λ more k any. (refl, tt)))

  -- own bytes, and then those of what links lead to
  own_and_parts : (f g : Cid → ℕ → Visits (List ℕ)) → ((c : Cid) (n : ℕ) → Here c → Alike Bytes (f c n) (g c n)) → (r : Result (List ℕ × List Link) DagFault) (n : ℕ) → Kept OwnHere r
      → Alike Bytes (unvisited n r >> λ own k. joined_parts f own.1 k >> λ more j. Ok (own.0 ++ more, j)) (unvisited n r >> λ own k. joined_parts g own.1 k >> λ more j. Ok (own.0 ++ more, j))
  own_and_parts f g same r n h =
      behind OwnHere Bytes (unvisited n r) (unvisited n r) (λ own k. joined_parts f own.1 k >> λ more j. Ok (own.0 ++ more, j)) (λ own k. joined_parts g own.1 k >> λ more j. Ok (own.0 ++ more, j)) (still OwnHere n r h)
      (λ own k links. behind Bytes Bytes (joined_parts f own.1 k) (joined_parts g own.1 k) (λ more j. Ok (own.0 ++ more, j)) (λ more j. Ok (own.0 ++ more, j)) (joined f g same own.1 k links) (λ more j any. (refl, tt)))

  part_alike : (d : ℕ) (c : Cid) (n : ℕ) → Here c → Alike Bytes (part_bytes left d c n) (part_bytes right d c n)
  unfolding part_bytes
  part_alike zero c n here = (refl, tt)
  part_alike (suc d) c n here =
      let below = part_alike d in
      behind NodeHere Bytes (visit_of left (suc d) c n) (visit_of right (suc d) c n) (λ u m. unvisited m (as_part c u) >> λ own k. joined_parts (part_bytes left d) own.1 k >> λ more j. Ok (own.0 ++ more, j))
      (λ u m. unvisited m (as_part c u) >> λ own k. joined_parts (part_bytes right d) own.1 k >> λ more j. Ok (own.0 ++ more, j)) (visited (suc d) c n here)
      (λ u m h. own_and_parts (part_bytes left d) (part_bytes right d) below (as_part c u) m (part_here c u h))

  file_alike : (d : ℕ) (c : Cid) (n : ℕ) → Here c → Alike Bytes (file_under left d c n) (file_under right d c n)
  unfolding file_under
  file_alike d c n here =
      behind NodeHere Bytes (visit_of left d c n) (visit_of right d c n) (λ u m. unvisited m (as_file c u) >> λ own k. joined_parts (part_bytes left (pred d)) own.1 k >> λ more j. Ok (own.0 ++ more, j))
      (λ u m. unvisited m (as_file c u) >> λ own k. joined_parts (part_bytes right (pred d)) own.1 k >> λ more j. Ok (own.0 ++ more, j)) (visited d c n here)
      (λ u m h. own_and_parts (part_bytes left (pred d)) (part_bytes right (pred d)) (part_alike (pred d)) (as_file c u) m (file_here c u h))

  abbrev DuesHere : List Due → Type 0
  DuesHere ds = AllByRecursion (λ (d : Due). Contains cids d.cid) ds

  due_alike : (v : Visited) (d : ℕ) (c : Cid) (n : ℕ) → Here c → Alike Bytes (due_bytes left (record { cid = c; left = d; visited = v }) n) (due_bytes right (record { cid = c; left = d; visited = v }) n)
  due_alike Whole d c n here = file_alike d c n here
  due_alike Begins d c n here = file_alike d c n here
  due_alike Part d c n here = part_alike d c n here

  dues_alike : (ds : List Due) (n : ℕ) → DuesHere ds → Alike Bytes (all_bytes left ds n) (all_bytes right ds n)
  dues_alike [] n h = (refl, tt)
  dues_alike (d ∷ ds) n h =
      behind Bytes Bytes (due_bytes left d n) (due_bytes right d n) (λ bytes m. all_bytes left ds m >> λ more k. Ok (bytes ++ more, k)) (λ bytes m. all_bytes right ds m >> λ more k. Ok (bytes ++ more, k)) (due_alike d.visited d.left d.cid n h.0)
      (λ bytes m any. behind Bytes Bytes (all_bytes left ds m) (all_bytes right ds m) (λ more k. Ok (bytes ++ more, k)) (λ more k. Ok (bytes ++ more, k)) (dues_alike ds m h.1) (λ more k any. (refl, tt)))

  pub rest-alike : (rest : Rest) → DuesHere rest.0 → to_come left rest ≡ to_come right rest
  rest-alike rest h = ap (answered (λ bytes. bytes)) (dues_alike rest.0 rest.1 h).0

  -- ---- directories

  put_here : (name : List ℕ) (f : Found) (ways : Ways) → Here f.cid → WaysHere ways → WaysHere (put names_cmp name f ways)
  put_here name f [] here h = (here, tt)
  put_here name f (w ∷ ws) here h = by (names_cmp name w.0) (put_here name f ws here h.1)
    where
      by : (o : Ordering) → WaysHere (put names_cmp name f ws) → WaysHere (by_order o ((name, f) ∷ w ∷ ws) ((w.0, f) ∷ ws) (w ∷ put names_cmp name f ws))
      by Less later = (here, h)
      by Equal later = (here, h.1)
      by Greater later = (h.0, later)

  name_here : (from : Cid) (name : List ℕ) (f : Found) (ways : Ways) → Here f.cid → WaysHere ways → Kept WaysHere (meet_name from name f ways)
  name_here from name f ways here h = by (is_some (find names_cmp name ways))
    where
      by : (b : Bool) → Kept WaysHere (if b then Err (DuplicateName from name) else Ok (put names_cmp name f ways))
      by true = tt
      by false = put_here name f ways here h

  meet_here : (from : Cid) (d : ℕ) (name : List ℕ) (c : Cid) (ways : Ways) → Here c → WaysHere ways → Kept WaysHere (meet from d name c ways)
  meet_here from d name c ways here h = by (is_name name)
    where
      by : (b : Bool) → Kept WaysHere (if b then meet_name from name (record { cid = c; left = d }) ways else Err (BadName from))
      by true = name_here from name (record { cid = c; left = d }) ways here h
      by false = tt

  all_here : (from : Cid) (d : ℕ) (links : List Link) (ways : Ways) → LinksHere links → WaysHere ways → Kept WaysHere (meet_all from d links ways)
  all_here from d [] ways h met = met
  all_here from d (l ∷ ls) ways h met =
      kept-then WaysHere WaysHere (meet from d l.name l.cid ways) (λ more. meet_all from d ls more) (meet_here from d l.name l.cid ways h.0 met) (λ more also. all_here from d ls more h.1 also)

  module _ (f g : Cid → Ways → ℕ → Visits Ways) (same : (c : Cid) (met : Ways) (n : ℕ) → Here c → WaysHere met → Alike WaysHere (f c met n) (g c met n)) (from : Cid) (d : ℕ) where
    slot_alike : (l : Link) (met : Ways) (n : ℕ) (name : Option (List ℕ)) → Here l.cid → WaysHere met → Alike WaysHere (slot_ways f from d l met n name) (slot_ways g from d l met n name)
    slot_alike l met n None here h = (refl, tt)
    slot_alike l met n (Some []) here h = same l.cid met n here h
    slot_alike l met n (Some (b ∷ bs)) here h = still WaysHere n (meet from d (b ∷ bs) l.cid met) (meet_here from d (b ∷ bs) l.cid met here h)

    slots_alike : (links : List Link) (met : Ways) (n : ℕ) → LinksHere links → WaysHere met → Alike WaysHere (shard_ways f from d links met n) (shard_ways g from d links met n)
    slots_alike [] met n links h = (refl, h)
    slots_alike (l ∷ ls) met n links h =
        behind WaysHere WaysHere (slot_ways f from d l met n (behind_slot l.name)) (slot_ways g from d l met n (behind_slot l.name)) (λ more m. shard_ways f from d ls more m) (λ more m. shard_ways g from d ls more m)
        (slot_alike l met n (behind_slot l.name) links.0 h) (λ more m also. slots_alike ls more m links.1 also)

  shard_here : (c : Cid) (u : Unixfs) → NodeHere u → Kept LinksHere (as_shard c u)
  shard_here c (File meta bytes links) h = tt
  shard_here c (Directory meta links) h = tt
  shard_here c (Shard meta links) h = h
  shard_here c OtherShard h = tt
  shard_here c Other h = tt

  sub_alike : (d : ℕ) (c : Cid) (met : Ways) (n : ℕ) → Here c → WaysHere met → Alike WaysHere (sub_ways left d c met n) (sub_ways right d c met n)
  unfolding sub_ways
  sub_alike zero c met n here h = (refl, tt)
  sub_alike (suc d) c met n here h =
      let below = sub_alike d in
      behind NodeHere WaysHere (visit_of left (suc d) c n) (visit_of right (suc d) c n) (λ u m. unvisited m (as_shard c u) >> λ links k. shard_ways (sub_ways left d) c d links met k)
      (λ u m. unvisited m (as_shard c u) >> λ links k. shard_ways (sub_ways right d) c d links met k) (visited (suc d) c n here)
      (λ u m node. behind LinksHere WaysHere (unvisited m (as_shard c u)) (unvisited m (as_shard c u)) (λ links k. shard_ways (sub_ways left d) c d links met k) (λ links k. shard_ways (sub_ways right d) c d links met k) (still LinksHere m (as_shard c u) (shard_here c u node))
      (λ links k all. slots_alike (sub_ways left d) (sub_ways right d) below c d links met k all h))

  gathers_alike : (d : ℕ) (c : Cid) (u : Unixfs) (n : ℕ) → NodeHere u → Alike GatheredHere (gathers left d c u n) (gathers right d c u n)
  gathers_alike d c (File meta bytes links) n h = (refl, h)
  gathers_alike d c (Directory meta links) n h =
      behind WaysHere GatheredHere (unvisited n (meet_all c d links [])) (unvisited n (meet_all c d links [])) (λ ways m. Ok (IsFolder meta ways, m)) (λ ways m. Ok (IsFolder meta ways, m)) (still WaysHere n (meet_all c d links []) (all_here c d links [] h tt)) (λ ways m all. (refl, all))
  gathers_alike d c (Shard meta links) n h =
      behind WaysHere GatheredHere (shard_ways (sub_ways left d) c d links [] n) (shard_ways (sub_ways right d) c d links [] n) (λ ways m. Ok (IsFolder meta ways, m)) (λ ways m. Ok (IsFolder meta ways, m)) (slots_alike (sub_ways left d) (sub_ways right d) (sub_alike d) c d links [] n h tt) (λ ways m all. (refl, all))
  gathers_alike d c OtherShard n h = (refl, tt)
  gathers_alike d c Other n h = (refl, tt)

  gathered_alike : (d : ℕ) (c : Cid) (n : ℕ) → Here c → Alike GatheredHere (gathered left d c n) (gathered right d c n)
  unfolding gathered
  gathered_alike d c n here = behind NodeHere GatheredHere (visit_of left d c n) (visit_of right d c n) (λ u m. gathers left (pred d) c u m) (λ u m. gathers right (pred d) c u m) (visited d c n here) (λ u m h. gathers_alike (pred d) c u m h)

  -- ---- trees

  members_alike : (f g : ℕ → Cid → ℕ → Visits Tree) → ((d : ℕ) (c : Cid) (n : ℕ) → Here c → Alike OneTree (f d c n) (g d c n)) → (ways : Ways) (n : ℕ) → WaysHere ways → Alike Trees (member_trees f ways n) (member_trees g ways n)
  members_alike f g same [] n h = (refl, tt)
  members_alike f g same (w ∷ ws) n h =
      behind OneTree Trees (f w.1.left w.1.cid n) (g w.1.left w.1.cid n) (λ t m. member_trees f ws m >> λ more k. Ok ((w.0, t) ∷ more, k)) (λ t m. member_trees g ws m >> λ more k. Ok ((w.0, t) ∷ more, k)) (same w.1.left w.1.cid n h.0)
      (λ t m any. behind Trees Trees (member_trees f ws m) (member_trees g ws m) (λ more k. Ok ((w.0, t) ∷ more, k)) (λ more k. Ok ((w.0, t) ∷ more, k)) (members_alike f g same ws m h.1) (λ more k any. (refl, tt)))

  completed_alike : (f g : ℕ → Cid → ℕ → Visits Tree) → ((d : ℕ) (c : Cid) (n : ℕ) → Here c → Alike OneTree (f d c n) (g d c n)) → (d : ℕ) (x : Gathered) (n : ℕ) → GatheredHere x → Alike OneTree (completed left f d x n) (completed right g d x n)
  completed_alike f g same d (IsFile meta bytes links) n h =
      behind Bytes OneTree (joined_parts (part_bytes left d) links n) (joined_parts (part_bytes right d) links n) (λ more m. Ok (FileTree meta (bytes ++ more), m)) (λ more m. Ok (FileTree meta (bytes ++ more), m)) (joined (part_bytes left d) (part_bytes right d) (part_alike d) links n h) (λ more m any. (refl, tt))
  completed_alike f g same d (IsFolder meta ways) n h =
      behind Trees OneTree (member_trees f ways n) (member_trees g ways n) (λ es m. Ok (Dir (entries meta es), m)) (λ es m. Ok (Dir (entries meta es), m)) (members_alike f g same ways n h) (λ es m any. (refl, tt))

  within_alike : (room d : ℕ) (c : Cid) (n : ℕ) → Here c → Alike OneTree (tree_within left room d c n) (tree_within right room d c n)
  unfolding tree_within
  within_alike zero d c n here = (refl, tt)
  within_alike (suc room) d c n here =
      let below = within_alike room in
      behind GatheredHere OneTree (gathered left d c n) (gathered right d c n) (λ g m. completed left (tree_within left room) (pred d) g m) (λ g m. completed right (tree_within right room) (pred d) g m) (gathered_alike d c n here)
      (λ g m h. completed_alike (tree_within left room) (tree_within right room) below (pred d) g m h)

  -- ---- paths

  abbrev LeadsHere : List (List ℕ × Cid) → Type 0
  LeadsHere ways = AllByRecursion (λ (w : List ℕ × Cid). Contains cids w.1) ways

  abbrev ShapeHere : Shape → Type 0
  ShapeHere (FileShape meta) = ⊤
  ShapeHere (FolderShape meta ways) = LeadsHere ways

  leads_here : (ways : Ways) → WaysHere ways → LeadsHere (leads ways)
  leads_here [] h = tt
  leads_here (w ∷ ws) h = (h.0, leads_here ws h.1)

  shape_here : (r : Visits Gathered) → Keeps GatheredHere r → Kept ShapeHere (answered shape_of r)
  shape_here (Ok x) h = by x.0 h
    where
      by : (g : Gathered) → GatheredHere g → ShapeHere (shape_of g)
      by (IsFile meta bytes links) k = tt
      by (IsFolder meta ways) k = leads_here ways k
  shape_here (Err e) h = tt

  found_here : (place : ℕ) (name : List ℕ) (ways : List (List ℕ × Cid)) → LeadsHere ways → Kept Here (way_at place (find names_cmp name ways))
  found_here place name [] h = tt
  found_here place name (w ∷ ws) h = by (eq_by_cmp names_cmp name w.0) (found_here place name ws h.1)
    where
      by : (b : Bool) → Kept Here (way_at place (find names_cmp name ws)) → Kept Here (way_at place (cond b (Some w.1) (find names_cmp name ws)))
      by true later = h.0
      by false later = later

  way_here : (place : ℕ) (name : List ℕ) (shape : Shape) → ShapeHere shape → Kept Here (way_in_shape place name shape)
  way_here place name (FileShape meta) h = tt
  way_here place name (FolderShape meta ways) h = found_here place name ways h

  module _ (limits : Limits) where
    pub tree-alike : (c : Cid) → Here c → denotes left limits c ≡ denotes right limits c
    tree-alike c here = ap (answered (λ t. t)) (within_alike (limits.depth + 1) (limits.depth + 1) c limits.visits here).0

    pub shape-alike : (c : Cid) → Here c → shallow_of left limits c ≡ shallow_of right limits c
    shape-alike c here = ap (answered shape_of) (gathered_alike (limits.depth + 1) c limits.visits here).0

    pub bytes-alike : (c : Cid) → Here c → file_of left limits c ≡ file_of right limits c
    bytes-alike c here = ap (answered (λ bytes. bytes)) (file_alike (limits.depth + 1) c limits.visits here).0

    shallow_here : (c : Cid) → Here c → Kept ShapeHere (shallow_of left limits c)
    shallow_here c here = shape_here (gathered left (limits.depth + 1) c limits.visits) (gathered_alike (limits.depth + 1) c limits.visits here).1

    step_alike : (place : ℕ) (name : List ℕ) (c : Cid) → Here c → step_of left limits place name c ≡ step_of right limits place name c
    step_alike place name c here = ap (λ r. r >>= λ shape. way_in_shape place name shape) (shape-alike c here)

    step_here : (place : ℕ) (name : List ℕ) (c : Cid) → Here c → Kept Here (step_of left limits place name c)
    step_here place name c here = kept-then ShapeHere Here (shallow_of left limits c) (λ shape. way_in_shape place name shape) (shallow_here c here) (λ shape h. way_here place name shape h)

    pub path-alike : (place : ℕ) (names : List (List ℕ)) (c : Cid) → Here c → resolve_from left limits place names c ≡ resolve_from right limits place names c
    path-alike place [] c here = refl
    path-alike place (name ∷ names) c here =
        then-alike Here (step_of left limits place name c) (step_of right limits place name c) (λ next. resolve_from left limits (place + 1) names next) (λ next. resolve_from right limits (place + 1) names next) (step_alike place name c here) (step_here place name c here)
        (λ next at. path-alike (place + 1) names next at)
