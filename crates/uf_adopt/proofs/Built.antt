-- Trees that are built, member by member.
use Rattle.std.proofs.Common.{◌≡◌, inl, inr, ℕ, ◌<◌, List, [], ◌∷◌, ◌++◌, length, map, refl, sym, ap, subst, ◌∙◌, arith, Bool, true, false, append-nil, append_assoc, Result, Ok, Err}
use Rattle.std.specs.Prelude.{Some, None, IsTrue, nat_lt, ◌&&◌, if◌then◌else◌}
use Rattle.std.specs.List.{AllByRecursion, list_all}
use Rattle.std.specs.FinMap.Entries.{below_all, is_sorted}
use Rattle.std.specs.Ordering.{is_lt}
use Rattle.std.proofs.lemmas.Bool.Decides.{nat_tests}
use Rattle.uf_cid.specs.Blocks.{Held, Lookup}
use Rattle.uf_cid.specs.Bytes.{IsBytes}
use Rattle.uf_cid.specs.declared.cid.Cid.{Cid}
use Rattle.uf_shard.specs.Answers.{Gives}
use Rattle.uf_shard.specs.declared.fault.DirFault.{DirFault}
use Rattle.uf_shard.specs.declared.fault.DirFault.TheVariants as dir
use Rattle.uf_store.specs.Contents.{Told}
use Rattle.uf_store.specs.Keeping.{AreGood, Holds, KeepsGood}
use Rattle.uf_store.proofs.Keeping.{Holds-append, Holds-kept}
use Rattle.uf_dir.specs.Planned.{dir_entry, own_blocks}
use Rattle.uf_tree.specs.Metas.{is_meta}
use Rattle.uf_tree.specs.Names.{is_name, names_cmp}
use Rattle.uf_tree.specs.Nodes.{Named}
use Rattle.uf_tree.specs.Profiles.{most_bytes}
use Rattle.uf_tree.specs.Tree.{Dir, Entries, File, Nothing, Tree, With, are_trees, fold, is_tree, own_meta, pairs}
use Rattle.uf_tree.specs.TreePlan.{blocks as blocks_of, dir_refusal, entry, first_refusal, members, or_else, planned, refusal}
use Rattle.uf_tree.specs.TreePlan.{FileTooLong as IsTooLong}
use Rattle.uf_tree.specs.declared.meta.Meta.{Meta}
use Rattle.uf_tree.specs.declared.nodes.Entry.{Entry}
use Rattle.uf_tree.specs.declared.profile.Profile.{Profile}
use Rattle.uf_laws.proofs.Held.{Digested, trees-digested}
use Rattle.uf_lenient.specs.Reading.{shallow_of}
use Rattle.uf_lenient.specs.declared.shapes.Limits.{Limits}
use Rattle.uf_lenient.specs.declared.shapes.Shape.TheVariants.{Folder as FolderShape}
use Rattle.uf_adopt.specs.Adopting.{AreBuilt, BuildsEach, BuildsTree, IsBuilt, IsFirstAmong, IsFirstTooLong, each_blocks, planned_each}
use Rattle.uf_lenient.specs.Denoted.{AreDenoted, denotes_within}
use Rattle.uf_adopt.specs.Faults.{of_directory}
use Rattle.uf_adopt.specs.Feeding.{AdoptsFile}
use Rattle.uf_adopt.specs.declared.fault.AdoptFault.{AdoptFault}
use Rattle.uf_adopt.specs.declared.fault.AdoptFault.TheVariants.{Dag, FileTooLong, Collision, TooBig, Store}

true_both : (a b : Bool) → a ≡ true → b ≡ true → a && b ≡ true
true_both true b p q = q
true_both false b p q = p

bytes_all : (bytes : List ℕ) → IsBytes bytes → list_all (λ b. nat_lt b 256) bytes ≡ true
bytes_all [] h = refl
bytes_all (b ∷ bytes) h = true_both (nat_lt b 256) (list_all (λ b. nat_lt b 256) bytes) (below b h.0) (bytes_all bytes h.1)
  where
    below : (b : ℕ) → b < 256 → nat_lt b 256 ≡ true
    below b h = grind (arith, nat_tests)

-- ---- names in order

abbrev pub names_of : {A : Type 0} → List (List ℕ × A) → List (List ℕ)
names_of {A} l = map (λ (e : List ℕ × A). e.0) l

below_by_names : {A B : Type 0} (q : List ℕ) (xs : List (List ℕ × A)) (ys : List (List ℕ × B)) → names_of xs ≡ names_of ys → below_all names_cmp q xs ≡ below_all names_cmp q ys
below_by_names q [] [] same = refl
below_by_names q [] (y ∷ ys) same = absurd cc
below_by_names q (x ∷ xs) [] same = absurd cc
below_by_names q (x ∷ xs) (y ∷ ys) same =
    let first : x.0 ≡ y.0 = cc in
    let rest : names_of xs ≡ names_of ys = cc in
    ap (λ (n : List ℕ). is_lt (names_cmp q n) && below_all names_cmp q xs) first ∙ ap (λ (b : Bool). is_lt (names_cmp q y.0) && b) (below_by_names q xs ys rest)

pub sorted-by-names : {A B : Type 0} (xs : List (List ℕ × A)) (ys : List (List ℕ × B)) → names_of xs ≡ names_of ys → is_sorted names_cmp xs ≡ is_sorted names_cmp ys
sorted-by-names [] [] same = refl
sorted-by-names [] (y ∷ ys) same = absurd cc
sorted-by-names (x ∷ xs) [] same = absurd cc
sorted-by-names (x ∷ xs) (y ∷ ys) same =
    let first : x.0 ≡ y.0 = cc in
    let rest : names_of xs ≡ names_of ys = cc in
    ap (λ (n : List ℕ). below_all names_cmp n xs && is_sorted names_cmp xs) first ∙ ap (λ (b : Bool). b && is_sorted names_cmp xs) (below_by_names y.0 xs ys rest) ∙ ap (λ (b : Bool). below_all names_cmp y.0 ys && b) (sorted-by-names xs ys rest)

module _ (X : List ℕ → List ℕ) (N : List ℕ → ℕ) (p : Profile) where
  -- the file that a CID denotes
  pub file-built : (held : Lookup) (limits : Limits) (now : Told) (c : Cid) (m : Meta) (bytes : List ℕ) (r : Result Entry AdoptFault) → IsTrue (is_meta m) → AdoptsFile X p m c bytes now r → BuildsTree X N p held limits now c (File m bytes) r
  unfolding planned fold is_tree IsFirstTooLong
  file-built held limits now c m bytes (Ok e) good h = record {
    tree = true_both (is_meta m) (list_all (λ b. nat_lt b 256) bytes) good (bytes_all bytes h.are_bytes);
    planned = fits (nat_lt (most_bytes p) (length bytes)) refl;
    is = h.is;
    held = h.held;
  }
    where
      fits : (b : Bool) → nat_lt (most_bytes p) (length bytes) ≡ b → (if b then Some IsTooLong else None) ≡ None
      fits true e = absurd (let few = h.few in grind (arith, nat_tests))
      fits false e = refl
  file-built held limits now c m bytes (Err (FileTooLong node)) good h = (long (nat_lt (most_bytes p) (length bytes)) refl, h)
    where
      long : (b : Bool) → nat_lt (most_bytes p) (length bytes) ≡ b → (if b then Some IsTooLong else None) ≡ Some IsTooLong
      long true e = refl
      long false e = absurd (let many = h.1 in grind (arith, nat_tests))
  file-built held limits now c m bytes (Err (Store fault)) good h = h
  file-built held limits now c m bytes (Err (Dag fault)) good h = absurd h
  file-built held limits now c m bytes (Err (Collision x y)) good h = absurd h
  file-built held limits now c m bytes (Err TooBig) good h = absurd h

  -- ---- members

  good_blocks : (es : Entries) → AllByRecursion (Digested X N) (each_blocks X N p es)
  good_blocks es = trees-digested X N p es

  front_good : (front rest : List Held) → AllByRecursion (Digested X N) (front ++ rest) → AreGood X front
  front_good [] rest h = tt
  front_good (b ∷ front) rest h = (sym h.0, front_good front rest h.1)

  -- some of a directory's members are built: what is left of the directory, and of what its ways lead to
  pub record Went (held : Lookup) (limits : Limits) (room : ℕ) (told : Told) (ways : List (List ℕ × Cid)) (es : Entries) (left : List (List ℕ × Cid)) (l : List Named) : Type 0 where
    pub rest : Entries
    pub own : own_meta rest ≡ own_meta es
    pub denoted : AreDenoted held limits room left rest
    pub are : members X N p (planned_each X N p es) ≡ l ++ members X N p (planned_each X N p rest)
    pub refused : first_refusal (planned_each X N p es) ≡ first_refusal (planned_each X N p rest)
    pub front : List Held
    pub blocks : each_blocks X N p es ≡ front ++ each_blocks X N p rest
    pub is_held : Holds told front
    pub trees : are_trees rest ≡ true → are_trees es ≡ true
    pub long : (node : Cid) → IsFirstAmong X N p held limits rest left node → IsFirstAmong X N p held limits es ways node

  module _ (held : Lookup) (limits : Limits) (room : ℕ) (ways : List (List ℕ × Cid)) (es : Entries) where
    Gone : Told → List (List ℕ × Cid) → List Named → Type 0
    Gone told left l = Went held limits room told ways es left l

    pub went-none : (told : Told) → AreDenoted held limits room ways es → Went held limits room told ways es ways []
    went-none told d = record { rest = es; own = refl; denoted = d; are = refl; refused = refl; front = []; blocks = refl; is_held = nothing told; trees = λ h. h; long = λ node h. h }
      where
        nothing : (t : Told) → Holds t []
        nothing None = tt
        nothing (Some t) = tt

    -- the tree that the next way leads to
    pub record Next (told : Told) (w : List ℕ × Cid) (left : List (List ℕ × Cid)) (l : List Named) : Type 0 where
      pub tree : Tree
      pub denoted : denotes_within held limits room w.1 ≡ Ok tree
      pub others : Entries
      pub own : own_meta others ≡ own_meta es
      pub denoted_others : AreDenoted held limits room left others
      pub are : members X N p (planned_each X N p es) ≡ l ++ (w.0, entry X N p tree) ∷ members X N p (planned_each X N p others)
      pub refused : first_refusal (planned_each X N p es) ≡ or_else (refusal X N p tree) (first_refusal (planned_each X N p others))
      pub front : List Held
      pub blocks : each_blocks X N p es ≡ front ++ (blocks_of X N p tree ++ each_blocks X N p others)
      pub is_held : Holds told front
      pub trees : IsTrue (is_name w.0) → IsTrue (is_tree tree) → are_trees others ≡ true → are_trees es ≡ true
      pub here : (node : Cid) → IsFirstTooLong X N p held limits tree w.1 node → IsFirstAmong X N p held limits es ways node
      pub later : (node : Cid) → refusal X N p tree ≡ None → IsFirstAmong X N p held limits others left node → IsFirstAmong X N p held limits es ways node

    pub next-of : (told : Told) (w : List ℕ × Cid) (left : List (List ℕ × Cid)) (l : List Named) → Went held limits room told ways es (w ∷ left) l → Next told w left l
    unfolding planned fold is_tree IsFirstTooLong
    next-of told w left l g = by g.rest g.own g.denoted g.are g.refused g.blocks g.trees g.long
      where
        by : (rest : Entries) → own_meta rest ≡ own_meta es → AreDenoted held limits room (w ∷ left) rest → members X N p (planned_each X N p es) ≡ l ++ members X N p (planned_each X N p rest) → first_refusal (planned_each X N p es) ≡ first_refusal (planned_each X N p rest)
            → each_blocks X N p es ≡ g.front ++ each_blocks X N p rest → (are_trees rest ≡ true → are_trees es ≡ true) → ((node : Cid) → IsFirstAmong X N p held limits rest (w ∷ left) node → IsFirstAmong X N p held limits es ways node) → Next told w left l
        by (Nothing m) own d are refused blocks trees long = absurd d
        by (With name t others) own d are refused blocks trees long = record {
          tree = t;
          denoted = d.1;
          others = others;
          own = own;
          denoted_others = d.2;
          are = subst (λ (n : List ℕ). members X N p (planned_each X N p es) ≡ l ++ (n, entry X N p t) ∷ members X N p (planned_each X N p others)) d.0 are;
          refused = refused;
          front = g.front;
          blocks = blocks;
          is_held = g.is_held;
          trees = λ name_is tree_is others_are. trees (true_both (is_name name && is_tree t) (are_trees others) (true_both (is_name name) (is_tree t) (ap is_name d.0 ∙ name_is) tree_is) others_are);
          here = λ node h. long node (inl h);
          later = λ node none h. long node (inr (none, h));
        }

    -- it is built
    pub went-more : (told now : Told) (w : List ℕ × Cid) (left : List (List ℕ × Cid)) (l : List Named) (e : Entry) (n : Next told w left l) → KeepsGood X told now → IsTrue (is_name w.0) → IsBuilt X N p now n.tree e → Went held limits room now ways es left (l ++ (w.0, e) ∷ [])
    went-more told now w left l e n keeps name b = record {
      rest = n.others;
      own = n.own;
      denoted = n.denoted_others;
      are = n.are ∙ ap (λ (x : Entry). l ++ (w.0, x) ∷ members X N p (planned_each X N p n.others)) (sym b.is) ∙ sym (append_assoc l ((w.0, e) ∷ []) (members X N p (planned_each X N p n.others)));
      refused = n.refused ∙ ap (λ r. or_else r (first_refusal (planned_each X N p n.others))) b.planned;
      front = n.front ++ blocks_of X N p n.tree;
      blocks = n.blocks ∙ sym (append_assoc n.front (blocks_of X N p n.tree) (each_blocks X N p n.others));
      is_held = Holds-append now n.front (blocks_of X N p n.tree) (Holds-kept X told now n.front (front_good n.front (blocks_of X N p n.tree ++ each_blocks X N p n.others) (subst (AllByRecursion (Digested X N)) n.blocks (good_blocks es))) keeps n.is_held) b.held;
      trees = λ h. n.trees name b.tree h;
      long = λ node h. n.later node b.planned h;
    }

    -- it is refused
    pub went-err : (told now : Told) (w : List ℕ × Cid) (left : List (List ℕ × Cid)) (l : List Named) (n : Next told w left l) (why : AdoptFault) → BuildsTree X N p held limits now w.1 n.tree (Err why) → BuildsEach X N p held limits now ways es (Err why)
    went-err told now w left l n (FileTooLong node) h = (n.refused ∙ ap (λ r. or_else r (first_refusal (planned_each X N p n.others))) h.0, n.here node h.1)
    went-err told now w left l n (Collision x y) h = n.refused ∙ ap (λ r. or_else r (first_refusal (planned_each X N p n.others))) h
    went-err told now w left l n TooBig h = n.refused ∙ ap (λ r. or_else r (first_refusal (planned_each X N p n.others))) h
    went-err told now w left l n (Store fault) h = h
    went-err told now w left l n (Dag fault) h = absurd h

    -- all are built
    pub went-all : (told : Told) (l : List Named) → Went held limits room told ways es [] l → AreBuilt X N p told es l
    unfolding planned fold is_tree
    went-all told l g = by g.rest g.own g.denoted g.are g.refused g.blocks g.trees
      where
        by : (rest : Entries) → own_meta rest ≡ own_meta es → AreDenoted held limits room [] rest → members X N p (planned_each X N p es) ≡ l ++ members X N p (planned_each X N p rest) → first_refusal (planned_each X N p es) ≡ first_refusal (planned_each X N p rest)
            → each_blocks X N p es ≡ g.front ++ each_blocks X N p rest → (are_trees rest ≡ true → are_trees es ≡ true) → AreBuilt X N p told es l
        by (With name t others) own d are refused blocks trees = absurd d
        by (Nothing m) own d are refused blocks trees = record {
          trees = λ good. trees (ap is_meta own ∙ good);
          planned = refused;
          are = sym (are ∙ append-nil l);
          held = subst (Holds told) (sym (blocks ∙ append-nil g.front)) g.is_held;
        }

  -- ---- directories

  module _ (held : Lookup) (limits : Limits) (room : ℕ) (c : Cid) (meta : Meta) (ways : List (List ℕ × Cid)) (es : Entries) (its : own_meta es ≡ meta) where
    -- a member is refused
    pub folder-err : (now : Told) (why : AdoptFault) → shallow_of held limits c ≡ Ok (FolderShape meta ways) → BuildsEach X N p held limits now ways es (Err why) → BuildsTree X N p held limits now c (Dir es) (Err why)
    unfolding planned fold IsFirstTooLong
    folder-err now (FileTooLong node) shape h = (ap (λ r. or_else r (dir_refusal X N p (own_meta es) (members X N p (planned_each X N p es)))) h.0, (meta, ways, shape, h.1))
    folder-err now (Collision x y) shape h = ap (λ r. or_else r (dir_refusal X N p (own_meta es) (members X N p (planned_each X N p es)))) h
    folder-err now TooBig shape h = ap (λ r. or_else r (dir_refusal X N p (own_meta es) (members X N p (planned_each X N p es)))) h
    folder-err now (Store fault) shape h = h
    folder-err now (Dag fault) shape h = absurd h

    own_refused : (l : List Named) → first_refusal (planned_each X N p es) ≡ None → l ≡ members X N p (planned_each X N p es) → refusal X N p (Dir es) ≡ dir_refusal X N p meta l
    unfolding planned fold
    own_refused l none are = ap (λ r. or_else r (dir_refusal X N p (own_meta es) (members X N p (planned_each X N p es)))) none ∙ ap (λ (m : Meta). dir_refusal X N p m (members X N p (planned_each X N p es))) its ∙ sym (ap (dir_refusal X N p meta) are)

    -- all members are built, and the directory is refused
    pub folder-refused : (told now : Told) (l : List Named) (fault : DirFault) → AreBuilt X N p told es l → Gives (dir_refusal X N p meta l) (dir_entry X N p meta l) (Err fault) → BuildsTree X N p held limits now c (Dir es) (Err (of_directory fault))
    folder-refused told now l (dir.Collision x y) b g = own_refused l b.planned b.are ∙ g
    folder-refused told now l dir.TooBig b g = own_refused l b.planned b.are ∙ g
    folder-refused told now l (dir.Store fault) b g = inr g

    -- or it is built
    pub folder-built : (told now : Told) (l : List Named) (e : Entry) → KeepsGood X told now → IsTrue (is_meta meta) → IsTrue (is_sorted names_cmp l) → AreBuilt X N p told es l → Gives (dir_refusal X N p meta l) (dir_entry X N p meta l) (Ok e) → Holds now (own_blocks X N p meta l) → BuildsTree X N p held limits now c (Dir es) (Ok e)
    unfolding planned fold is_tree
    folder-built told now l e keeps good sorted b g own = record {
      tree = (true_both (is_sorted names_cmp (pairs es)) (are_trees es) (sorted-by-names (pairs es) l (pair_names es ∙ sym (ap names_of b.are)) ∙ sorted) (b.trees (subst (λ (m : Meta). IsTrue (is_meta m)) (sym its) good)));
      planned = own_refused l b.planned b.are ∙ g.0;
      is = g.1 ∙ ap (dir_entry X N p meta) b.are ∙ ap (λ (m : Meta). dir_entry X N p m (members X N p (planned_each X N p es))) (sym its);
      held = Holds-append now (each_blocks X N p es) (own_blocks X N p (own_meta es) (members X N p (planned_each X N p es))) (Holds-kept X told now (each_blocks X N p es) (front_good (each_blocks X N p es) [] (subst (AllByRecursion (Digested X N)) (sym (append-nil (each_blocks X N p es))) (good_blocks es))) keeps b.held)
          (subst (λ (m : Meta). Holds now (own_blocks X N p m (members X N p (planned_each X N p es)))) (sym its) (subst (λ (k : List Named). Holds now (own_blocks X N p meta k)) b.are own));
    }
      where
        pair_names : (fs : Entries) → names_of (pairs fs) ≡ names_of (members X N p (planned_each X N p fs))
        pair_names (Nothing m) = refl
        pair_names (With name t fs) = ap (λ l. name ∷ l) (pair_names fs)
