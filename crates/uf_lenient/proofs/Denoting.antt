-- What a CID denotes by its own blocks and by what its ways lead to.
use Rattle.std.proofs.Common.{◌≡◌, ℕ, zero, suc, pred, ◌+◌, ◌≤◌, List, [], ◌∷◌, ◌++◌, refl, sym, ap, subst, ◌∙◌, arith, Ok, Err}
use Rattle.uf_cid.specs.Blocks.{Lookup}
use Rattle.uf_cid.specs.declared.cid.Cid.{Cid}
use Rattle.uf_dagpb.specs.declared.node.Link.{Link}
use Rattle.uf_tree.specs.declared.meta.Meta.{Meta}
use Rattle.uf_tree.specs.Tree.{Tree, Dir, entries, File as FileTree}
use Rattle.uf_tree.proofs.TreeLaws.{meta-entries}
use Rattle.uf_lenient.specs.declared.gathered.Gathered.{Gathered}
use Rattle.uf_lenient.specs.declared.gathered.Gathered.TheVariants.{File as IsFile, Folder as IsFolder}
use Rattle.uf_lenient.specs.declared.shapes.Limits.{Limits}
use Rattle.uf_lenient.specs.declared.shapes.Shape.TheVariants.{File as FileShape, Folder as FolderShape}
use Rattle.uf_lenient.specs.declared.unixfs.Unixfs.{Unixfs}
use Rattle.uf_lenient.specs.declared.unixfs.Unixfs.TheVariants.{File, Directory, Shard, OtherShard, Other}
use Rattle.uf_lenient.specs.Reading.{◌>>◌, Visits, Ways, answered, completed, file_under, gathered, gathers, joined_parts, leads, meet_all, member_trees, part_bytes, shape_of, shard_ways, sub_ways, tree_within, unvisited, visit_of}
use Rattle.uf_lenient.specs.Unixfs.{as_file}
use Rattle.uf_lenient.specs.Denoted.{AreDenoted, DenotesBy, IsStep, denotes_within}
use Rattle.uf_lenient.proofs.Looser.{AreLike, Follows, IsLikeGathered, Same, gathered-like, within-like}

-- a reading behind another one gives a value only where both do
record BothGive {A B : Type 0} (r : Visits A) (f : A → ℕ → Visits B) (y : B × ℕ) : Type 0 where
  first : A × ℕ
  is : r ≡ Ok first
  then : f first.0 first.1 ≡ Ok y

both_give : {A B : Type 0} (r : Visits A) (f : A → ℕ → Visits B) (y : B × ℕ) → (r >> f) ≡ Ok y → BothGive r f y
both_give (Ok x) f y e = record { first = x; is = refl; then = e }
both_give (Err e) f y is = absurd (let no : Err e ≡ Ok y = is in cc)

abbrev ok_visits : {A : Type 0} → A × ℕ → Visits A
ok_visits x = Ok x

firsts : {A : Type 0} {x y : A × ℕ} → ok_visits x ≡ ok_visits y → x.0 ≡ y.0
firsts {A} {x} {y} e = let pair : x ≡ y = cc in ap (λ (z : A × ℕ). z.0) pair

-- a value with how many visits are left behind it
record GivesBehind {A : Type 0} (r : Visits A) (a : A) : Type 0 where
  left : ℕ
  is : r ≡ Ok (a, left)

was_answered : {A : Type 0} (r : Visits A) (a : A) → answered (λ x. x) r ≡ Ok a → GivesBehind r a
was_answered (Ok x) a e = record { left = x.1; is = ap (λ y. Ok (y, x.1)) (let one : x.0 ≡ a = cc in one) }
was_answered (Err e) a is = absurd (let no : Err e ≡ Ok a = is in cc)

module _ (held : Lookup) where
  -- ---- files

  -- the first node of a file was gathered
  record IsNode (left : ℕ) (c : Cid) (n : ℕ) (meta : Meta) (bytes : List ℕ) (links : List Link) (m : ℕ) : Type 0 where
    visited : visit_of held left c n ≡ Ok (File meta bytes links, m)

  no_folder : {P : Type 0} (own : Meta) (r : Visits Ways) (meta : Meta) (bytes : List ℕ) (links : List Link) (m : ℕ) → (r >> λ ways k. Ok (IsFolder own ways, k)) ≡ Ok (IsFile meta bytes links, m) → P
  no_folder own (Ok x) meta bytes links m e = let pair : (IsFolder own x.0, x.1) ≡ (IsFile meta bytes links, m) = cc in absurd (let no : IsFolder own x.0 ≡ IsFile meta bytes links = ap (λ (y : Gathered × ℕ). y.0) pair in cc)
  no_folder own (Err e) meta bytes links m is = absurd (let no : Err e ≡ Ok (IsFile meta bytes links, m) = is in cc)

  node_gathered : (left : ℕ) (c : Cid) (n : ℕ) (meta : Meta) (bytes : List ℕ) (links : List Link) (m : ℕ) → gathered held left c n ≡ Ok (IsFile meta bytes links, m) → IsNode left c n meta bytes links m
  unfolding gathered
  node_gathered left c n meta bytes links m is =
      let g = both_give (visit_of held left c n) (λ u k. gathers held (pred left) c u k) (IsFile meta bytes links, m) is in
      by g.first.0 g.first.1 g.is g.then
    where
      by : (u : Unixfs) (k : ℕ) → visit_of held left c n ≡ Ok (u, k) → gathers held (pred left) c u k ≡ Ok (IsFile meta bytes links, m) → IsNode left c n meta bytes links m
      by (File its own more) k e f =
          let pair : (IsFile its own more, k) ≡ (IsFile meta bytes links, m) = cc in
          let whole : IsFile its own more ≡ IsFile meta bytes links = ap (λ (y : Gathered × ℕ). y.0) pair in
          let zeroth : its ≡ meta = cc in
          let first : own ≡ bytes = cc in
          let second : more ≡ links = cc in
          record { visited = e ∙ ap (λ (x : Meta). Ok (File x own more, k)) zeroth ∙ ap (λ (x : List ℕ). Ok (File meta x more, k)) first ∙ ap (λ (x : List Link). Ok (File meta bytes x, k)) second ∙ ap (λ (x : ℕ). Ok (File meta bytes links, x)) (ap (λ (y : Gathered × ℕ). y.1) pair) }
      by (Directory its ls) k e f = no_folder its (unvisited k (meet_all c (pred left) ls [])) meta bytes links m f
      by (Shard its ls) k e f = no_folder its (shard_ways (sub_ways held (pred left)) c (pred left) ls [] k) meta bytes links m f
      by OtherShard k e f = absurd cc
      by Other k e f = absurd cc

  file_read : (left : ℕ) (c : Cid) (n : ℕ) (meta : Meta) (bytes : List ℕ) (links : List Link) (m : ℕ) (more : List ℕ) (k : ℕ) → gathered held left c n ≡ Ok (IsFile meta bytes links, m) → joined_parts (part_bytes held (pred left)) links m ≡ Ok (more, k) → file_under held left c n ≡ Ok (bytes ++ more, k)
  unfolding file_under
  file_read left c n meta bytes links m more k is e =
      ap (λ (r : Visits Unixfs). r >> λ u i. unvisited i (as_file c u) >> λ own j. joined_parts (part_bytes held (pred left)) own.1 j >> λ rest l. Ok (own.0 ++ rest, l)) (node_gathered left c n meta bytes links m is).visited
      ∙ ap (λ (r : Visits (List ℕ)). r >> λ rest l. Ok (bytes ++ rest, l)) e

  module _ (limits : Limits) where
    -- ---- the members of a directory

    members_denoted : (meta : Meta) (room : ℕ) (ways others : Ways) (n : ℕ) (es : List (List ℕ × Tree)) (m : ℕ) → AreLike limits.depth ways others → n ≤ limits.visits → member_trees (tree_within held room) ways n ≡ Ok (es, m) → AreDenoted held limits room (leads ways) (entries meta es)
    members_denoted meta room [] [] n es m like few is = subst (λ l. AreDenoted held limits room [] (entries meta l)) (let pair : ([], n) ≡ (es, m) = cc in ap (λ (y : List (List ℕ × Tree) × ℕ). y.0) pair) tt
    members_denoted meta room [] (v ∷ vs) n es m like few is = absurd like
    members_denoted meta room (w ∷ ws) [] n es m like few is = absurd like
    members_denoted meta room (w ∷ ws) (v ∷ vs) n es m like few is =
        let g = both_give (tree_within held room w.1.left w.1.cid n) (λ t k. member_trees (tree_within held room) ws k >> λ more j. Ok ((w.0, t) ∷ more, j)) (es, m) is in
        let h = both_give (member_trees (tree_within held room) ws g.first.1) (λ more j. Ok ((w.0, g.first.0) ∷ more, j)) (es, m) g.then in
        let far = within-like held limits.visits limits.depth room w.1.left (limits.depth + 1) w.1.cid n limits.visits (omega (arith, like.0.within)) (omega (arith, like.0.within)) few few in
        let one = subst (λ r. Follows Same limits.visits r (tree_within held room (limits.depth + 1) w.1.cid limits.visits)) g.is far in
        let list : (w.0, g.first.0) ∷ h.first.0 ≡ es = firsts {x = ((w.0, g.first.0) ∷ h.first.0, h.first.1)} {y = (es, m)} h.then in
        subst (λ l. AreDenoted held limits room ((w.0, w.1.cid) ∷ leads ws) (entries meta l)) list
        (refl, ap (answered (λ t. t)) one.is ∙ ap Ok (sym one.like), members_denoted meta room ws vs g.first.1 h.first.0 h.first.1 like.1 one.few h.is)

    -- ---- one step

    step_of_gathered : (room : ℕ) (c : Cid) (t : Tree) (x : Gathered) (n m : ℕ) → gathered held (limits.depth + 1) c limits.visits ≡ Ok (x, n) → completed held (tree_within held room) (pred (limits.depth + 1)) x n ≡ Ok (t, m) → IsStep held limits room c t
    step_of_gathered room c t (IsFile meta bytes links) n m is e =
        let g = both_give (joined_parts (part_bytes held (pred (limits.depth + 1))) links n) (λ more k. Ok (FileTree meta (bytes ++ more), k)) (t, m) e in
        let same : FileTree meta (bytes ++ g.first.0) ≡ t = firsts {x = (FileTree meta (bytes ++ g.first.0), g.first.1)} {y = (t, m)} g.then in
        record {
          shape = FileShape meta;
          shaped = ap (answered shape_of) is;
          by = subst (λ (u : Tree). DenotesBy held limits room c u (FileShape meta)) same (refl, ap (answered (λ (l : List ℕ). l)) (file_read (limits.depth + 1) c limits.visits meta bytes links n g.first.0 g.first.1 is g.is));
        }
    step_of_gathered room c t (IsFolder meta ways) n m is e =
        let g = both_give (member_trees (tree_within held room) ways n) (λ es k. Ok (Dir (entries meta es), k)) (t, m) e in
        let same : Dir (entries meta g.first.0) ≡ t = firsts {x = (Dir (entries meta g.first.0), g.first.1)} {y = (t, m)} g.then in
        let far = gathered-like held limits.visits limits.depth (limits.depth + 1) (limits.depth + 1) c limits.visits limits.visits (omega arith) (omega arith) (omega arith) (omega arith) in
        let own = subst (λ r. Follows (IsLikeGathered limits.depth) limits.visits r (gathered held (limits.depth + 1) c limits.visits)) is far in
        record {
          shape = FolderShape meta (leads ways);
          shaped = ap (answered shape_of) is;
          by = subst (λ (u : Tree). DenotesBy held limits room c u (FolderShape meta (leads ways))) same (meta-entries meta g.first.0, members own.value own.like own.few g.is);
        }
      where
        members : (y : Gathered) → IsLikeGathered limits.depth (IsFolder meta ways) y → n ≤ limits.visits → {es : List (List ℕ × Tree)} {k : ℕ} → member_trees (tree_within held room) ways n ≡ Ok (es, k) → AreDenoted held limits room (leads ways) (entries meta es)
        members (IsFile meta bytes links) like few {es} {k} is = absurd like
        members (IsFolder other vs) like few {es} {k} is = members_denoted meta room ways vs n es k like.1 few is

    pub denoted-step : (room : ℕ) (c : Cid) (t : Tree) → denotes_within held limits (suc room) c ≡ Ok t → IsStep held limits room c t
    unfolding tree_within
    denoted-step room c t is =
        let a = was_answered (tree_within held (suc room) (limits.depth + 1) c limits.visits) t is in
        let g = both_give (gathered held (limits.depth + 1) c limits.visits) (λ x m. completed held (tree_within held room) (pred (limits.depth + 1)) x m) (t, a.left) a.is in
        step_of_gathered room c t g.first.0 g.first.1 a.left g.is g.then

    pub none-denoted : (c : Cid) (t : Tree) → denotes_within held limits zero c ≡ Ok t → ⊥
    unfolding tree_within
    none-denoted c t is = absurd (let no : Err _ ≡ Ok t = is in cc)
