-- What a walk says of files, folders and members.
use Rattle.std.proofs.Common.{◌≡◌, ℕ, zero, suc, ◌+◌, ◌<◌, ◌≤◌, List, [], ◌∷◌, ◌++◌, length, take, drop, map, Bool, true, false, refl, ap, sym, ◌∙◌, subst, arith, cond, nat_lt, append-nil, append_assoc, get_or, take-append-drop}
use Rattle.std.proofs.lemmas.List.{drop_more}
use Rattle.std.proofs.Math.Seq.{take-suc}
use Rattle.std.proofs.lemmas.Bool.Decides.{nat_tests}
use Rattle.std.specs.Prelude.{Some, None, Option, IfSome, IsTrue}
use Rattle.std.specs.declared.result.Result.{Result}
use Rattle.std.specs.declared.result.Result.TheVariants.{Ok, Err}
use Rattle.std.specs.FinMap.{get}
use Rattle.std.specs.List.{AllByRecursion}
use Rattle.uf_varint.specs.Fields.{◌>>=◌}
use Rattle.uf_edge.specs.Host.{AreNames, HostTold, HostTree, IsAbsentAt, IsFileAt, IsFolderAt, front, names_in}
use Rattle.uf_edge.specs.declared.host.Place.{Place}
use Rattle.uf_edge.specs.declared.host.Place.TheVariants as place
use Rattle.std.specs.List.Sorted.{IsStrictlySortedBy}
use Rattle.std.specs.Ordering.{nat_cmp}
use Rattle.std.specs.Cmp.Lexicographic.{slice_cmp}
use Rattle.uf_cid.specs.Bytes.{IsBytes}
use Rattle.uf_tree.specs.Metas.{none}
use Rattle.uf_tree.specs.FilePlan.{file_plan}
use Rattle.uf_shard.specs.Answers.{Gives}
use Rattle.uf_shard.specs.declared.fault.DirFault.{DirFault}
use Rattle.uf_shard.specs.declared.fault.DirFault.TheVariants as directory
use Rattle.uf_cid.specs.Blocks.{Held}
use Rattle.uf_store.specs.Among.{SavesAmong}
use Rattle.uf_store.specs.Contents.{Told}
use Rattle.uf_store.proofs.Among.{SavesAmong-append, SavesAmong-refl}
use Rattle.uf_store.specs.Keeping.{Holds, KeepsGood}
use Rattle.uf_tree.specs.Names.{is_name}
use Rattle.uf_tree.specs.Profiles.{most_bytes}
use Rattle.uf_tree.specs.Tree.{Tree, File, Dir, entries, is_tree, fold}
use Rattle.uf_tree.specs.TreePlan as plan
use Rattle.uf_tree.specs.TreePlan.{planned}
use Rattle.uf_tree.specs.DirPlan.{own_plan}
use Rattle.uf_tree.specs.Nodes.{Named}
use Rattle.uf_tree.specs.declared.nodes.Entry.{Entry}
use Rattle.uf_tree.specs.declared.profile.Profile.{Profile}
use Rattle.uf_host.specs.Adding.{AddsAs, AddsAt, AddsBelow, AddsMember, AddsRow, AddsTree, HasHeldPlan, IsMember, IsOfMembers, IsRefusal, IsSaid, members_blocks}
use Rattle.uf_host.specs.Faults.{for_one, of_directory}
use Rattle.uf_host.specs.Paths.{is_folder_there}
use Rattle.uf_host.specs.HostTree.{Members, Walk, directory_of, each_member, member_at, rows_below, rows_in, rows_of, tree_there, unless_refused, walk_down, walk_of, with_entries}
use Rattle.uf_host.specs.Naming.{IsBadName, IsNameOf}
use Rattle.uf_host.specs.Reading.{AddsFile, IsLongFile, OfFileAt}
use Rattle.uf_host.specs.declared.fault.HostFault.{HostFault}
use Rattle.uf_host.specs.declared.fault.HostFault.TheVariants as faults
use Rattle.uf_host.specs.declared.import.AddedRow.{AddedRow}
use Rattle.uf_host.specs.declared.site.Site.{Site}
use Rattle.uf_host.proofs.Bytes.{bytes-all}
use Rattle.uf_host.proofs.Folders.{blocks-more, entry-is, folder-plan, folder-saves, members-kept, sorted-names}
use Rattle.uf_host.proofs.Saids.{bare-said, one-said, refusal-more, said-more, told-both, told-more}

-- ---- members in a row

and-then : {A B E : Type 0} (r : Result A E) (f g : A → Result B E) → ((a : A) → f a ≡ g a) → (r >>= f) ≡ (r >>= g)
and-then (Ok a) f g h = h a
and-then (Err e) f g h = refl

module _ (walk : Walk) (folder : List ℕ) where
  -- members in front of one more
  pub each-more : (names : List (List ℕ)) (name : List ℕ) (ms : Members) (t : Tree) → each_member walk folder names ≡ Ok ms
      → member_at walk folder name ≡ Ok t → each_member walk folder (names ++ name ∷ []) ≡ Ok (ms ++ (name, t) ∷ [])
  each-more [] name ms t h k =
      ap (λ (r : Result Tree HostFault). r >>= λ tree. Ok ((name, tree) ∷ [])) k ∙ ap (λ (r : Result Members HostFault). r >>= λ l. Ok (l ++ (name, t) ∷ [])) h
  each-more (first ∷ names) name ms t h k = by (member_at walk folder first) refl (each_member walk folder names) refl (λ l rest. each-more names name l t rest k)
    where
      by : (r : Result Tree HostFault) → member_at walk folder first ≡ r → (s : Result Members HostFault) → each_member walk folder names ≡ s
          → ((l : Members) → each_member walk folder names ≡ Ok l → each_member walk folder (names ++ name ∷ []) ≡ Ok (l ++ (name, t) ∷ []))
          → each_member walk folder (first ∷ names ++ name ∷ []) ≡ Ok (ms ++ (name, t) ∷ [])
      by (Err e) is s rest more =
          absurd (let no : Err e ≡ Ok ms = sym (ap (λ (r : Result Tree HostFault). r >>= λ tree. each_member walk folder names >>= λ l. Ok ((first, tree) ∷ l)) is) ∙ h in cc)
      by (Ok u) is (Err e) rest more =
          absurd (let no : Err e ≡ Ok ms = sym (ap (λ (r : Result Tree HostFault). r >>= λ tree. each_member walk folder names >>= λ l. Ok ((first, tree) ∷ l)) is
          ∙ ap (λ (s : Result Members HostFault). s >>= λ l. Ok ((first, u) ∷ l)) rest) ∙ h in cc)
      by (Ok u) is (Ok l) rest more =
          let here : Ok ((first, u) ∷ l) ≡ Ok ms = sym (ap (λ (r : Result Tree HostFault). r >>= λ tree. each_member walk folder names >>= λ l. Ok ((first, tree) ∷ l)) is
          ∙ ap (λ (s : Result Members HostFault). s >>= λ l. Ok ((first, u) ∷ l)) rest) ∙ h in
          ap (λ (r : Result Tree HostFault). r >>= λ tree. each_member walk folder (names ++ name ∷ []) >>= λ l. Ok ((first, tree) ∷ l)) is
          ∙ ap (λ (s : Result Members HostFault). s >>= λ l. Ok ((first, u) ∷ l)) (more l rest)
          ∙ ap (λ (r : Result Members HostFault). r >>= λ l. Ok (l ++ (name, t) ∷ [])) here

  -- members in front of one that has a fault
  pub each-fault : (names later : List (List ℕ)) (name : List ℕ) (ms : Members) (f : HostFault) → each_member walk folder names ≡ Ok ms
      → member_at walk folder name ≡ Err f → each_member walk folder (names ++ name ∷ later) ≡ Err f
  each-fault [] later name ms f h k = ap (λ (r : Result Tree HostFault). r >>= λ tree. each_member walk folder later >>= λ rest. Ok ((name, tree) ∷ rest)) k
  each-fault (first ∷ names) later name ms f h k = by (member_at walk folder first) refl (each_member walk folder names) refl (λ l rest. each-fault names later name l f rest k)
    where
      by : (r : Result Tree HostFault) → member_at walk folder first ≡ r → (s : Result Members HostFault) → each_member walk folder names ≡ s
          → ((l : Members) → each_member walk folder names ≡ Ok l → each_member walk folder (names ++ name ∷ later) ≡ Err f)
          → each_member walk folder (first ∷ names ++ name ∷ later) ≡ Err f
      by (Err e) is s rest more =
          absurd (let no : Err e ≡ Ok ms = sym (ap (λ (r : Result Tree HostFault). r >>= λ tree. each_member walk folder names >>= λ l. Ok ((first, tree) ∷ l)) is) ∙ h in cc)
      by (Ok u) is (Err e) rest more =
          absurd (let no : Err e ≡ Ok ms = sym (ap (λ (r : Result Tree HostFault). r >>= λ tree. each_member walk folder names >>= λ l. Ok ((first, tree) ∷ l)) is
          ∙ ap (λ (s : Result Members HostFault). s >>= λ l. Ok ((first, u) ∷ l)) rest) ∙ h in cc)
      by (Ok u) is (Ok l) rest more =
          ap (λ (r : Result Tree HostFault). r >>= λ tree. each_member walk folder (names ++ name ∷ later) >>= λ l. Ok ((first, tree) ∷ l)) is
          ∙ ap (λ (s : Result Members HostFault). s >>= λ l. Ok ((first, u) ∷ l)) (more l rest)

-- a list at one of its places
pub cut-at : (l : List (List ℕ)) (at : ℕ) (x : List ℕ) → at < length l → x ≡ get_or l at x → l ≡ take at l ++ x ∷ drop (at + 1) l
cut-at l at x low is = sym (take-append-drop at l) ∙ ap (λ (ys : List (List ℕ)). take at l ++ ys) (drop_more l at x low ∙ ap (λ (y : List ℕ). y ∷ drop (at + 1) l) (sym is))

pub next-at : (l : List (List ℕ)) (at : ℕ) (x : List ℕ) → at < length l → x ≡ get_or l at x → take (at + 1) l ≡ take at l ++ x ∷ []
next-at l at x low is =
    let next : at + 1 ≡ suc at = omega arith in
    ap (λ (n : ℕ). take n l) next ∙ take-suc l at x low ∙ ap (λ (y : List ℕ). take at l ++ y ∷ []) (sym is)

each-last : {A : Type 0} (P : A → Type 0) (xs : List A) (x : A) → AllByRecursion P xs → P x → AllByRecursion P (xs ++ x ∷ [])
each-last P [] x h k = (k, tt)
each-last P (y ∷ xs) x h k = (h.0, each-last P xs x h.1 k)

map-last : {A B : Type 0} (f : A → B) (xs : List A) (x : A) → map f (xs ++ x ∷ []) ≡ map f xs ++ f x ∷ []
map-last f [] x = refl
map-last f (y ∷ xs) x = ap (λ l. f y ∷ l) (map-last f xs x)

module _ (X : List ℕ → List ℕ) (N : List ℕ → ℕ) (p : Profile) where
  rows-more : (row : List ℕ) (ms : Members) (name : List ℕ) (t : Tree)
      → rows_in X N p row (entries none (ms ++ (name, t) ∷ [])) ≡ rows_in X N p row (entries none ms) ++ rows_of X N p (row ++ 47 ∷ name) t
  unfolding rows_of
  rows-more row [] name t = append-nil _
  rows-more row (m ∷ ms) name t =
      ap (λ xs. rows_of X N p (row ++ 47 ∷ m.0) m.1 ++ xs) (rows-more row ms name t)
      ∙ sym (append_assoc (rows_of X N p (row ++ 47 ∷ m.0) m.1) (rows_in X N p row (entries none ms)) (rows_of X N p (row ++ 47 ∷ name) t))

  pub rows-whole : (row : List ℕ) (t : Tree) → rows_of X N p row t ≡ rows_below X N p row t ++ record { path = row; entry = plan.entry X N p t } ∷ []
  unfolding rows_of
  rows-whole row (File m bytes) = refl
  rows-whole row (Dir es) = refl

  module _ (host : HostTold) (levels : ℕ) (site : Site) where
    pub members-none : (told : Told) (rows : List AddedRow) → IsOfMembers X N p told told host levels site [] rows rows []
    unfolding rows_of
    members-none told rows = record {
      members = [];
      are_named = refl;
      each = tt;
      is = refl;
      rows_are = sym (append-nil rows);
      said = by host;
      no_other = SavesAmong-refl X [] told;
    }
      where
        by : (h : HostTold) → IsSaid h (λ tree. each_member (walk_down X N p tree levels) site.path []) (Ok [])
        by None = tt
        by (Some tree) = refl

    pub members-more : (start a b : Told) (names : List (List ℕ)) (name : List ℕ) (rows mid rows_now : List AddedRow) (l : List Named) (e : Named)
        → KeepsGood X a b → IsOfMembers X N p start a host levels site names rows mid l → AddsMember X N p a b host levels site name mid rows_now (Ok e)
        → IsOfMembers X N p start b host levels site (names ++ name ∷ []) rows rows_now (l ++ e ∷ [])
    members-more start a b names name rows mid rows_now l e keeps are adds =
        let t = adds.adds.0 in let added = adds.adds.1 in let said = adds.adds.2 in
        let ms = are.members in
        record {
          members = ms ++ (name, t) ∷ [];
          are_named = map-last (λ (m : List ℕ × Tree). m.0) ms (name, t) ∙ ap (λ xs. xs ++ name ∷ []) are.are_named;
          each = each-last (IsMember X N p b) ms (name, t) (members-kept X N p a b ms keeps are.each) (record { name = adds.good; plan = added.plan });
          is = ap (λ xs. xs ++ e ∷ []) are.is ∙ ap (λ (x : Named). with_entries X N p ms ++ x ∷ []) (pair-is e name (plan.entry X N p t) adds.same added.entry_is)
              ∙ sym (map-last (λ (m : List ℕ × Tree). (m.0, plan.entry X N p m.1)) ms (name, t));
          rows_are = added.rows_are ∙ ap (λ xs. xs ++ rows_of X N p (site.row ++ 47 ∷ name) t) are.rows_are
              ∙ append_assoc rows (rows_in X N p site.row (entries none ms)) (rows_of X N p (site.row ++ 47 ∷ name) t)
              ∙ ap (λ xs. rows ++ xs) (sym (rows-more site.row ms name t));
          said = told-both host _ _ _ (λ tree h k. each-more (walk_down X N p tree levels) site.path names name ms t h k) are.said said;
          no_other = subst (λ (l : List Held). SavesAmong X l start b) (sym (blocks-more X N p ms name t)) (SavesAmong-append X (members_blocks X N p ms) (plan.blocks X N p t) start a b are.no_other added.no_other);
        }
      where
        pair-is : (e : Named) (name : List ℕ) (x : Entry) → e.0 ≡ name → e.1 ≡ x → e ≡ (name, x)
        pair-is (n, y) name x h k = ap (λ m. (m, y)) h ∙ ap (λ z. (name, z)) k

    pub members-fault : (start a : Told) (names later all : List (List ℕ)) (name : List ℕ) (rows mid : List AddedRow) (l : List Named) (f : HostFault)
        → all ≡ names ++ name ∷ later → IsOfMembers X N p start a host levels site names rows mid l
        → IsRefusal host (λ tree. member_at (walk_down X N p tree levels) site.path name) f
        → IsRefusal host (λ tree. each_member (walk_down X N p tree levels) site.path all) f
    members-fault start a names later all name rows mid l f is are refused = by host are.said refused
      where
        by : (h : HostTold) → IsSaid h (λ tree. each_member (walk_down X N p tree levels) site.path names) (Ok are.members)
            → IsRefusal h (λ tree. member_at (walk_down X N p tree levels) site.path name) f
            → IsRefusal h (λ tree. each_member (walk_down X N p tree levels) site.path all) f
        by None said refused = said-more (λ f. Unit {0}) (λ f. Unit {0}) f (λ h. tt) refused
        by (Some tree) said refused = said-more (λ f. member_at (walk_down X N p tree levels) site.path name ≡ Err f) (λ f. each_member (walk_down X N p tree levels) site.path all ≡ Err f) f
            (λ h. ap (each_member (walk_down X N p tree levels) site.path) is ∙ each-fault (walk_down X N p tree levels) site.path names later name are.members f said h) refused

  -- ---- a member

  good-walk : (levels : ℕ) (site : Site) (name : List ℕ) (tree : HostTree) → is_name name ≡ true
      → member_at (walk_down X N p tree levels) site.path name ≡ walk_down X N p tree levels (front site.path ++ name)
  good-walk levels site name tree h = ap (λ (b : Bool). cond b (walk_down X N p tree levels (front site.path ++ name)) (Err (faults.Name (front site.path ++ name)))) h

  bad-walk : (levels : ℕ) (site : Site) (name : List ℕ) (tree : HostTree) → is_name name ≡ false
      → member_at (walk_down X N p tree levels) site.path name ≡ Err (faults.Name (front site.path ++ name))
  bad-walk levels site name tree h = ap (λ (b : Bool). cond b (walk_down X N p tree levels (front site.path ++ name)) (Err (faults.Name (front site.path ++ name)))) h

  pub member-added : (before told : Told) (host : HostTold) (levels : ℕ) (site below : Site) (name own : List ℕ) (rows rows_now : List AddedRow) (e : Entry)
      → below.path ≡ front site.path ++ name → below.row ≡ site.row ++ 47 ∷ name → own ≡ name → IsTrue (is_name name)
      → AddsAt X N p before told host levels below rows rows_now (Ok e) → AddsMember X N p before told host levels site name rows rows_now (Ok (own, e))
  member-added before told host levels site below name own rows rows_now e path row same good adds = record {
    same = same;
    good = good;
    adds = (
      adds.0,
      subst (λ r. AddsTree X N p before told (rows_of X N p r adds.0) rows rows_now adds.0 e) row adds.1,
      told-more host _ _ (λ tree h. good-walk levels site name tree good ∙ ap (walk_down X N p tree levels) (sym path) ∙ h) adds.2,
    );
  }

  pub member-refused : (host : HostTold) (levels : ℕ) (site below : Site) (name : List ℕ) (f : HostFault)
      → below.path ≡ front site.path ++ name → IsTrue (is_name name)
      → IsRefusal host (λ tree. walk_down X N p tree levels below.path) f → IsRefusal host (λ tree. member_at (walk_down X N p tree levels) site.path name) f
  member-refused host levels site below name f path good refused =
      refusal-more host _ _ f (λ tree h. good-walk levels site name tree good ∙ ap (walk_down X N p tree levels) (sym path) ∙ h) refused

  pub name-refused : (host : HostTold) (levels : ℕ) (site below : Site) (name : List ℕ) (f : HostFault)
      → below.path ≡ front site.path ++ name → IsNameOf below.path name (Err f)
      → IsRefusal host (λ tree. member_at (walk_down X N p tree levels) site.path name) f
  name-refused host levels site below name f path h =
      said-more (IsBadName below.path name) (λ f. IsSaid host (λ tree. member_at (walk_down X N p tree levels) site.path name) (Err f)) f (λ bad. by f host bad) (bare-said (IsBadName below.path name) f h)
    where
      by : (f : HostFault) (host : HostTold) → IsBadName below.path name f → IsSaid host (λ tree. member_at (walk_down X N p tree levels) site.path name) (Err f)
      by f None bad = tt
      by f (Some tree) bad = bad-walk levels site name tree bad.bad ∙ ap (λ (q : List ℕ). Err (faults.Name q)) (sym path) ∙ ap (λ (g : HostFault). Err g) (sym bad.is)

  -- ---- a file

  pub file-walk : (tree : HostTree) (levels : ℕ) (path bytes : List ℕ) → get tree path ≡ Some (place.File bytes)
      → walk_down X N p tree levels path ≡ unless_refused path (File none bytes) (plan.too_long p bytes)
  unfolding walk_down
  file-walk tree zero path bytes there = ap (tree_there X N p (Err (faults.TooDeep path)) path) there
  file-walk tree (suc levels) path bytes there =
      ap (tree_there X N p (each_member (walk_down X N p tree levels) path (names_in tree path) >>= directory_of X N p path) path) there

  long-is : (bytes : List ℕ) → most_bytes p < length bytes → plan.too_long p bytes ≡ Some plan.FileTooLong
  long-is bytes h = let test : nat_lt (most_bytes p) (length bytes) ≡ true = grind (arith, nat_tests) in
      ap (λ (b : Bool). cond b (Some plan.FileTooLong) None) test

  long-not : (bytes : List ℕ) → length bytes ≤ most_bytes p → plan.too_long p bytes ≡ None
  long-not bytes h = let test : nat_lt (most_bytes p) (length bytes) ≡ false = grind (arith, nat_tests) in
      ap (λ (b : Bool). cond b (Some plan.FileTooLong) None) test

  file-plan : (told : Told) (bytes : List ℕ) → IsTrue (is_tree (File none bytes)) → length bytes ≤ most_bytes p → Holds told (plan.blocks X N p (File none bytes)) → HasHeldPlan X N p told (File none bytes)
  unfolding planned fold
  file-plan told bytes tree few held = record { tree = tree; whole = long-not bytes few; held = held }

  is-file : (bytes : List ℕ) → IsBytes bytes → IsTrue (is_tree (File none bytes))
  unfolding is_tree
  is-file bytes h = bytes-all bytes h

  entry-file : (bytes : List ℕ) → plan.entry X N p (File none bytes) ≡ (file_plan X p none bytes).entry
  unfolding planned fold
  entry-file bytes = refl

  pub blocks-file : (bytes : List ℕ) → plan.blocks X N p (File none bytes) ≡ (file_plan X p none bytes).blocks
  unfolding planned fold
  blocks-file bytes = refl

  pub file-below : (before told : Told) (host : HostTold) (levels : ℕ) (site : Site) (rows rows_now : List AddedRow) (r : Result Entry HostFault)
      → IsFileAt host site.path → rows_now ≡ rows → AddsFile X p before told host site.path r → AddsBelow X N p before told host levels site rows rows_now r
  file-below before told host levels site rows rows_now (Ok e) file same adds = (
    File none adds.bytes,
    record {
      plan = file-plan told adds.bytes (is-file adds.bytes adds.are_bytes) adds.few (subst (Holds told) (sym (blocks-file adds.bytes)) adds.held);
      entry_is = adds.entry_is ∙ sym (entry-file adds.bytes);
      rows_are = same ∙ sym (append-nil rows);
      no_other = subst (λ (l : List Held). SavesAmong X l before told) (sym (blocks-file adds.bytes)) adds.no_other;
    },
    by host file adds.is,
  )
    where
      by : (h : HostTold) → IsFileAt h site.path → OfFileAt h site.path (λ whole. whole ≡ adds.bytes)
          → IsSaid h (λ tree. walk_down X N p tree levels site.path) (Ok (File none adds.bytes))
      by None file is = tt
      by (Some tree) file is =
          file-walk tree levels site.path file.bytes file.there
          ∙ ap (λ (b : List ℕ). unless_refused site.path (File none b) (plan.too_long p b)) (is file.bytes file.there)
          ∙ ap (unless_refused site.path (File none adds.bytes)) (long-not adds.bytes adds.few)
  file-below before told host levels site rows rows_now (Err f) file same adds = said-more (IsLongFile p host site.path) (λ f. IsSaid host (λ tree. walk_down X N p tree levels site.path) (Err f)) f (λ long. by host file long) adds
    where
      by : (h : HostTold) → IsFileAt h site.path → IsLongFile p h site.path f → IsSaid h (λ tree. walk_down X N p tree levels site.path) (Err f)
      by None file long = tt
      by (Some tree) file long =
          file-walk tree levels site.path file.bytes file.there
          ∙ ap (unless_refused site.path (File none file.bytes)) (long-is file.bytes (long.many file.bytes file.there))
          ∙ ap (λ (g : HostFault). Err g) (sym long.is)

  -- ---- nothing, and a folder

  pub absent-walk : (tree : HostTree) (levels : ℕ) (path : List ℕ) → get tree path ≡ None → walk_down X N p tree levels path ≡ Err faults.Absent
  unfolding walk_down
  absent-walk tree zero path absent = ap (tree_there X N p (Err (faults.TooDeep path)) path) absent
  absent-walk tree (suc levels) path absent = ap (tree_there X N p (each_member (walk_down X N p tree levels) path (names_in tree path) >>= directory_of X N p path) path) absent

  pub absent-said : (host : HostTold) (levels : ℕ) (path : List ℕ) → IsAbsentAt host path → IsSaid host (λ tree. walk_down X N p tree levels path) (Err faults.Absent)
  absent-said None levels path absent = tt
  absent-said (Some tree) levels path absent = absent-walk tree levels path absent

  pub deep-said : (host : HostTold) (levels : ℕ) (path : List ℕ) → levels ≡ 0 → IsFolderAt host path → IsSaid host (λ tree. walk_down X N p tree levels path) (Err (faults.TooDeep path))
  unfolding walk_down
  deep-said None levels path zero_is folder = tt
  deep-said (Some tree) levels path zero_is folder =
      ap (λ n. walk_down X N p tree n path) zero_is ∙ ap (tree_there X N p (Err (faults.TooDeep path)) path) folder

  pub folder-walk : (tree : HostTree) (levels below : ℕ) (path : List ℕ) (names : List (List ℕ)) → levels ≡ suc below → get tree path ≡ Some place.Folder → names ≡ names_in tree path
      → walk_down X N p tree levels path ≡ (each_member (walk_down X N p tree below) path names >>= directory_of X N p path)
  unfolding walk_down
  folder-walk tree levels below path names one there is =
      ap (λ n. walk_down X N p tree n path) one
      ∙ ap (tree_there X N p (each_member (walk_down X N p tree below) path (names_in tree path) >>= directory_of X N p path) path) there
      ∙ ap (λ (l : List (List ℕ)). each_member (walk_down X N p tree below) path l >>= directory_of X N p path) (sym is)

  -- what refuses a member refuses the folder
  pub members-refused : (host : HostTold) (levels below : ℕ) (path : List ℕ) (names : List (List ℕ)) (f : HostFault) → levels ≡ suc below
      → IsFolderAt host path → AreNames names host path → IsRefusal host (λ tree. each_member (walk_down X N p tree below) path names) f
      → IsRefusal host (λ tree. walk_down X N p tree levels path) f
  members-refused host levels below path names f one folder are refused = said-more (λ f. IsSaid host (λ tree. each_member (walk_down X N p tree below) path names) (Err f)) (λ f. IsSaid host (λ tree. walk_down X N p tree levels path) (Err f)) f (λ h. by host folder are.members h) refused
    where
      by : (h : HostTold) → IsFolderAt h path → IfSome h (λ tree. names ≡ names_in tree path)
          → IsSaid h (λ tree. each_member (walk_down X N p tree below) path names) (Err f) → IsSaid h (λ tree. walk_down X N p tree levels path) (Err f)
      by None folder is h = tt
      by (Some tree) folder is h = folder-walk tree levels below path names one folder is ∙ ap (λ (r : Result Members HostFault). r >>= directory_of X N p path) h

  -- what is said of the members is said of the folder
  members-then : (host : HostTold) (levels below : ℕ) (path : List ℕ) (names : List (List ℕ)) (ms : Members) (r : Result Tree HostFault) → levels ≡ suc below
      → IsFolderAt host path → AreNames names host path → directory_of X N p path ms ≡ r
      → IsSaid host (λ tree. each_member (walk_down X N p tree below) path names) (Ok ms) → IsSaid host (λ tree. walk_down X N p tree levels path) r
  members-then host levels below path names ms r one folder are gives said = by host folder are.members said
    where
      by : (h : HostTold) → IsFolderAt h path → IfSome h (λ tree. names ≡ names_in tree path)
          → IsSaid h (λ tree. each_member (walk_down X N p tree below) path names) (Ok ms) → IsSaid h (λ tree. walk_down X N p tree levels path) r
      by None folder is h = tt
      by (Some tree) folder is h = folder-walk tree levels below path names one folder is ∙ ap (λ (r : Result Members HostFault). r >>= directory_of X N p path) h ∙ gives

  -- the directory of the members was built, or refused
  pub folder-below : (start a b : Told) (host : HostTold) (levels below : ℕ) (site : Site) (names : List (List ℕ)) (rows rows_now : List AddedRow) (l : List Named) (e : Entry)
      → levels ≡ suc below → IsFolderAt host site.path → AreNames names host site.path → KeepsGood X a b
      → IsOfMembers X N p start a host below site names rows rows_now l
      → Gives (plan.dir_refusal X N p none l) (own_plan X N p none l).entry (Ok e) → Holds b (own_plan X N p none l).blocks
      → SavesAmong X (own_plan X N p none l).blocks a b → AddsBelow X N p start b host levels site rows rows_now (Ok e)
  folder-below start a b host levels below site names rows rows_now l e one folder are keeps of gives held saves =
      let ms = of.members in
      let whole : plan.dir_refusal X N p none (with_entries X N p ms) ≡ None = ap (plan.dir_refusal X N p none) (sym of.is) ∙ gives.0 in
      let sorted = sorted-names ms (subst (IsStrictlySortedBy (slice_cmp nat_cmp)) (sym of.are_named) are.ascend) in (
        Dir (entries none ms),
        record {
          plan = folder-plan X N p b ms (members-kept X N p a b ms keeps of.each) sorted whole (subst (λ (l : List Named). Holds b (own_plan X N p none l).blocks) of.is held);
          entry_is = gives.1 ∙ ap (λ (l : List Named). (own_plan X N p none l).entry) of.is ∙ sym (entry-is X N p ms);
          rows_are = of.rows_are;
          no_other = folder-saves X N p ms l start a b of.is of.no_other saves;
        },
        members-then host levels below site.path names ms (Ok (Dir (entries none ms))) one folder are (ap (unless_refused site.path (Dir (entries none ms))) whole) of.said,
      )

  pub folder-refused : (start a : Told) (host : HostTold) (levels below : ℕ) (site : Site) (names : List (List ℕ)) (rows rows_now : List AddedRow) (l : List Named) (why : DirFault)
      → levels ≡ suc below → IsFolderAt host site.path → AreNames names host site.path
      → IsOfMembers X N p start a host below site names rows rows_now l
      → Gives (plan.dir_refusal X N p none l) (own_plan X N p none l).entry (Err why)
      → IsRefusal host (λ tree. walk_down X N p tree levels site.path) (of_directory why)
  folder-refused start a host levels below site names rows rows_now l (directory.Collision first second) one folder are of gives =
      members-then host levels below site.path names of.members (Err (faults.Collision first second)) one folder are
      (ap (λ (l : List Named). unless_refused site.path (Dir (entries none of.members)) (plan.dir_refusal X N p none l)) (sym of.is) ∙ ap (unless_refused site.path (Dir (entries none of.members))) gives) of.said
  folder-refused start a host levels below site names rows rows_now l directory.TooBig one folder are of gives =
      members-then host levels below site.path names of.members (Err faults.TooBig) one folder are
      (ap (λ (l : List Named). unless_refused site.path (Dir (entries none of.members)) (plan.dir_refusal X N p none l)) (sym of.is) ∙ ap (unless_refused site.path (Dir (entries none of.members))) gives) of.said
  folder-refused start a host levels below site names rows rows_now l (directory.Store fault) one folder are of gives = gives

  -- ---- a row

  pub row-added : (before told : Told) (host : HostTold) (levels : ℕ) (site : Site) (rows mid rows_now : List AddedRow) (e : Entry)
      → AddsBelow X N p before told host levels site rows mid (Ok e) → AddsRow site.row e mid rows_now → AddsAt X N p before told host levels site rows rows_now (Ok e)
  row-added before told host levels site rows mid rows_now e adds row =
      let t = adds.0 in let added = adds.1 in (
        t,
        record {
          plan = added.plan;
          entry_is = added.entry_is;
          rows_are = row ∙ ap (λ xs. xs ++ record { path = site.row; entry = e } ∷ []) added.rows_are
              ∙ append_assoc rows (rows_below X N p site.row t) (record { path = site.row; entry = e } ∷ [])
              ∙ ap (λ (x : Entry). rows ++ (rows_below X N p site.row t ++ record { path = site.row; entry = x } ∷ [])) added.entry_is
              ∙ ap (λ xs. rows ++ xs) (sym (rows-whole site.row t));
          no_other = added.no_other;
        },
        adds.2,
      )

  -- ---- where folders aren't asked for

  abbrev one : Result Tree HostFault → Result Tree HostFault
  one r = elim r as (λ r. Result Tree HostFault) [ Ok t ↦ Ok t | Err f ↦ Err (for_one f) ]

  one-file : (path bytes : List ℕ) (o : Option plan.Refusal) → unless_refused path (File none bytes) o ≡ one (unless_refused path (File none bytes) o)
  one-file path bytes None = refl
  one-file path bytes (Some plan.FileTooLong) = refl
  one-file path bytes (Some (plan.Collision first second)) = refl
  one-file path bytes (Some plan.TooBig) = refl

  none-walk : (tree : HostTree) (path : List ℕ) (o : Option Place) → get tree path ≡ o → walk_of X N p tree false path ≡ one (walk_down X N p tree 0 path)
  unfolding walk_down
  none-walk tree path None there =
      ap (λ (o : Option Place). cond (is_folder_there o) (Err faults.NeedsRecursive) (walk_down X N p tree 257 path)) there
      ∙ absent-walk tree 257 path there ∙ ap one (sym (absent-walk tree 0 path there))
  none-walk tree path (Some (place.File bytes)) there =
      ap (λ (o : Option Place). cond (is_folder_there o) (Err faults.NeedsRecursive) (walk_down X N p tree 257 path)) there
      ∙ file-walk tree 257 path bytes there ∙ one-file path bytes (plan.too_long p bytes) ∙ ap one (sym (file-walk tree 0 path bytes there))
  none-walk tree path (Some place.Folder) there =
      ap (λ (o : Option Place). cond (is_folder_there o) (Err faults.NeedsRecursive) (walk_down X N p tree 257 path)) there
      ∙ ap one (sym (ap (tree_there X N p (Err (faults.TooDeep path)) path) there))

  pub one-added : (before told : Told) (host : HostTold) (site : Site) (rows rows_now : List AddedRow) (e : Entry) → AddsAt X N p before told host 0 site rows rows_now (Ok e)
      → AddsAs X N p (rows_of X N p site.row) before told host (λ tree. walk_of X N p tree false site.path) rows rows_now (Ok e)
  one-added before told host site rows rows_now e adds =
      (adds.0, adds.1, told-more host _ _ (λ tree h. none-walk tree site.path (get tree site.path) refl ∙ ap one h) adds.2)

  pub one-refused : (host : HostTold) (path : List ℕ) (f : HostFault) → IsRefusal host (λ tree. walk_down X N p tree 0 path) f
      → IsRefusal host (λ tree. walk_of X N p tree false path) (for_one f)
  one-refused host path f refused = one-said (λ f. IsSaid host (λ tree. walk_down X N p tree 0 path) (Err f)) (λ f. IsSaid host (λ tree. walk_of X N p tree false path) (Err f)) f
      (λ f h. told-more host _ _ (λ tree h. none-walk tree path (get tree path) refl ∙ ap one h) h) refused
