-- What is saved of what a walk has read where it stops.
use Rattle.std.proofs.Common.{◌≡◌, ◌⊎◌, inl, inr, ℕ, zero, suc, List, [], ◌∷◌, ◌++◌, map, refl, ap, sym, ◌∙◌, subst, append-nil}
use Rattle.std.specs.Prelude.{Some, None, Option, IfSome, OnErr}
use Rattle.std.specs.declared.result.Result.{Result}
use Rattle.std.specs.declared.result.Result.TheVariants.{Ok, Err}
use Rattle.std.specs.FinMap.{get}
use Rattle.std.specs.List.{flat_map}
use Rattle.std.proofs.lemmas.Grind.{flat_map-append}
use Rattle.uf_varint.specs.Fields.{◌>>=◌}
use Rattle.uf_cid.specs.Blocks.{Held}
use Rattle.uf_edge.specs.Host.{AreNames, HasFile, HostTold, HostTree, IsFileAt, IsFolderAt, front, names_in}
use Rattle.uf_edge.specs.declared.host.Place.{Place}
use Rattle.uf_edge.specs.declared.host.Place.TheVariants as place
use Rattle.uf_store.specs.Among.{SavesAmong}
use Rattle.uf_store.specs.Contents.{Told}
use Rattle.uf_store.proofs.Among.{SavesAmong-append, SavesAmong-same}
use Rattle.uf_tree.specs.DirPlan.{own_plan}
use Rattle.uf_tree.specs.FilePlan.{file_plan}
use Rattle.uf_tree.specs.Metas.{none}
use Rattle.uf_tree.specs.Nodes.{Named}
use Rattle.uf_tree.specs.Tree.{Tree, File, Dir, entries}
use Rattle.uf_tree.specs.TreePlan as plan
use Rattle.uf_tree.specs.declared.nodes.Entry.{Entry}
use Rattle.uf_tree.specs.declared.profile.Profile.{Profile}
use Rattle.uf_host.specs.Adding.{IsOfMembers, IsSaid, SavesRead, SavesReadAt, SavesReadIn, members_blocks}
use Rattle.uf_host.specs.HostTree.{Members, directory_of, each_member, unless_refused, walk_down, with_entries}
use Rattle.uf_host.specs.Reading.{OfFileAt, SavesFileAt}
use Rattle.uf_host.specs.Stopping.{HasRead, ReadsFirst, ReadsFolder, ReadsMembers, ReadsPlace}
use Rattle.uf_host.specs.declared.fault.HostFault.{HostFault}
use Rattle.uf_host.specs.declared.fault.HostFault.TheVariants as faults
use Rattle.uf_host.specs.declared.import.AddedRow.{AddedRow}
use Rattle.uf_host.specs.declared.site.Site.{Site}
use Rattle.uf_host.proofs.Folders.{folder-saves}
use Rattle.uf_host.proofs.Saids.{told-both, told-more}
use Rattle.uf_host.proofs.Walks.{absent-walk, blocks-file, deep-said, file-walk, folder-walk}

-- a tree that isn't refused is the tree
unrefused : (path : List ℕ) (a t : Tree) (o : Option plan.Refusal) → unless_refused path a o ≡ Ok t → a ≡ t
unrefused path a t None is = cc
unrefused path a t (Some plan.FileTooLong) is = absurd cc
unrefused path a t (Some (plan.Collision first second)) is = absurd cc
unrefused path a t (Some plan.TooBig) is = absurd cc

module _ (X : List ℕ → List ℕ) (N : List ℕ → ℕ) (p : Profile) where
  abbrev Reads : ℕ → List ℕ → HostTree → List Tree → Type 0
  Reads levels path = λ tree. HasRead X N p tree levels path

  abbrev ReadsAmong : ℕ → List ℕ → List (List ℕ) → HostTree → List Tree → Type 0
  ReadsAmong levels path names = λ tree. ReadsMembers (walk_down X N p tree levels) (HasRead X N p tree levels) path names

  -- ---- what was read

  pub reads-none : (levels : ℕ) (path : List ℕ) (tree : HostTree) → Reads levels path tree []
  unfolding HasRead
  reads-none zero path tree = tt
  reads-none (suc levels) path tree = tt

  reads-first : (levels : ℕ) (path : List ℕ) (later : List (List ℕ)) (tree : HostTree) → ReadsFirst (HasRead X N p tree levels) path later []
  reads-first levels path [] tree = refl
  reads-first levels path (name ∷ later) tree = reads-none levels (front path ++ name) tree

  abbrev InFolder : ℕ → List ℕ → HostTree → List Tree → Type 0
  InFolder below path tree read =
      ReadsFolder (walk_down X N p tree below) path (names_in tree path) read ⊎ ReadsAmong below path (names_in tree path) tree read

  reads-file : (levels : ℕ) (path bytes : List ℕ) (tree : HostTree) → get tree path ≡ Some (place.File bytes) → Reads levels path tree (File none bytes ∷ [])
  unfolding HasRead
  reads-file zero path bytes tree there = subst (ReadsPlace (λ read. ⊥) (File none bytes ∷ [])) (sym there) refl
  reads-file (suc levels) path bytes tree there = subst (ReadsPlace (InFolder levels path tree) (File none bytes ∷ [])) (sym there) refl

  reads-folder : (levels below : ℕ) (path : List ℕ) (read : List Tree) (tree : HostTree) → levels ≡ suc below → get tree path ≡ Some place.Folder → InFolder below path tree read → Reads levels path tree read
  unfolding HasRead
  reads-folder levels below path [] tree one there h = reads-none levels path tree
  reads-folder levels below path (t ∷ ts) tree one there h =
      subst (λ (n : ℕ). HasRead X N p tree n path (t ∷ ts)) (sym one) (subst (ReadsPlace (InFolder below path tree) (t ∷ ts)) (sym there) h)

  -- a tree that a walk has is read whole
  reads-whole : (levels : ℕ) (path : List ℕ) (t : Tree) (tree : HostTree) → walk_down X N p tree levels path ≡ Ok t → Reads levels path tree (t ∷ [])
  reads-whole levels path t tree is = by (get tree path) refl levels refl
    where
      in_folder : (below : ℕ) → levels ≡ suc below → get tree path ≡ Some place.Folder → (r : Result Members HostFault) → each_member (walk_down X N p tree below) path (names_in tree path) ≡ r
          → (r >>= directory_of X N p path) ≡ Ok t → Reads levels path tree (t ∷ [])
      in_folder below one there (Err f) said h = absurd cc
      in_folder below one there (Ok ms) said h =
          let same : Dir (entries none ms) ≡ t = unrefused path (Dir (entries none ms)) t (plan.dir_refusal X N p none (with_entries X N p ms)) h in
          subst (λ (u : Tree). Reads levels path tree (u ∷ [])) same
          (reads-folder levels below path (Dir (entries none ms) ∷ []) tree one there (inl (record { members = ms; said = said; is = refl })))

      by : (o : Option Place) → get tree path ≡ o → (n : ℕ) → levels ≡ n → Reads levels path tree (t ∷ [])
      by None absent n one = absurd (let no : Err faults.Absent ≡ Ok t = sym (absent-walk X N p tree levels path absent) ∙ is in cc)
      by (Some (place.File bytes)) there n one =
          let same : File none bytes ≡ t = unrefused path (File none bytes) t (plan.too_long p bytes) (sym (file-walk X N p tree levels path bytes there) ∙ is) in
          subst (λ (u : Tree). Reads levels path tree (u ∷ [])) same (reads-file levels path bytes tree there)
      by (Some place.Folder) there zero one = absurd (let no : Err (faults.TooDeep path) ≡ Ok t = sym (deep-said X N p (Some tree) levels path one there) ∙ is in cc)
      by (Some place.Folder) there (suc below) one =
          in_folder below one there (each_member (walk_down X N p tree below) path (names_in tree path)) refl (sym (folder-walk X N p tree levels below path (names_in tree path) one there refl) ∙ is)

  -- ---- what is saved of it

  trees-blocks : (ms : Members) → flat_map (plan.blocks X N p) (map (λ (m : List ℕ × Tree). m.1) ms) ≡ members_blocks X N p ms
  trees-blocks [] = refl
  trees-blocks (m ∷ ms) = ap (λ l. plan.blocks X N p m.1 ++ l) (trees-blocks ms)

  module _ (host : HostTold) where
    each-host : (P : HostTree → Type 0) → ((tree : HostTree) → P tree) → IfSome host P
    each-host P h = by host
      where
        by : (told : HostTold) → IfSome told P
        by None = tt
        by (Some tree) = h tree

    -- nothing was read yet
    pub nothing-read : (told : Told) (levels : ℕ) (path : List ℕ) → SavesReadAt X N p told told host levels path
    nothing-read told levels path = record { read = []; are = each-host (λ tree. Reads levels path tree []) (reads-none levels path); no_other = SavesAmong-same X [] told told refl }

    pub unread : {A : Type 0} (r : Result A HostFault) (told : Told) (levels : ℕ) (path : List ℕ) → OnErr r (SavesReadAt X N p told told host levels path)
    unread (Ok a) told levels path = tt
    unread (Err f) told levels path = nothing-read told levels path

    saves-tree : (a b : Told) (P : HostTree → List Tree → Type 0) (t : Tree) → IfSome host (λ tree. P tree (t ∷ [])) → SavesAmong X (plan.blocks X N p t) a b → SavesRead X N p a b host P
    saves-tree a b P t are saves = record { read = t ∷ []; are = are; no_other = subst (λ (l : List Held). SavesAmong X l a b) (sym (append-nil (plan.blocks X N p t))) saves }

    -- all of a tree was saved
    pub saves-whole : (a b : Told) (levels : ℕ) (path : List ℕ) (t : Tree) → IsSaid host (λ tree. walk_down X N p tree levels path) (Ok t) → SavesAmong X (plan.blocks X N p t) a b → SavesReadAt X N p a b host levels path
    saves-whole a b levels path t said saves = saves-tree a b (Reads levels path) t (told-more host (λ tree. walk_down X N p tree levels path ≡ Ok t) (λ tree. Reads levels path tree (t ∷ [])) (reads-whole levels path t) said) saves

    -- a file, or some of it
    saves-file : (a b : Told) (levels : ℕ) (path : List ℕ) → IsFileAt host path → SavesFileAt X p a b host path → SavesReadAt X N p a b host levels path
    saves-file a b levels path file h =
        saves-tree a b (Reads levels path) (File none h.bytes)
        (told-both host (λ tree. HasFile tree path) (λ tree. (bytes : List ℕ) → get tree path ≡ Some (place.File bytes) → bytes ≡ h.bytes) (λ tree. Reads levels path tree (File none h.bytes ∷ [])) (λ tree there is.
        reads-file levels path h.bytes tree (there.there ∙ ap (λ (l : List ℕ). Some (place.File l)) (is there.bytes there.there))) file h.is)
        (subst (λ (l : List Held). SavesAmong X l a b) (sym (blocks-file X N p h.bytes)) h.no_other)

    pub file-stops : (a b : Told) (levels : ℕ) (path : List ℕ) (r : Result Entry HostFault) → IsFileAt host path → OnErr r (SavesFileAt X p a b host path) → OnErr r (SavesReadAt X N p a b host levels path)
    file-stops a b levels path (Ok e) file h = tt
    file-stops a b levels path (Err f) file h = saves-file a b levels path file h

    -- some members of a folder
    pub saves-members : (a b : Told) (levels below : ℕ) (path : List ℕ) (names : List (List ℕ)) → levels ≡ suc below → IsFolderAt host path → AreNames names host path
        → SavesReadIn X N p a b host below path names → SavesReadAt X N p a b host levels path
    saves-members a b levels below path names one folder are h = record {
      read = h.read;
      are = told-both host (λ tree. get tree path ≡ Some place.Folder) (λ tree. InFolder below path tree h.read) (λ tree. Reads levels path tree h.read)
          (λ tree there in_folder. reads-folder levels below path h.read tree one there in_folder) folder
          (told-both host (λ tree. names ≡ names_in tree path) (λ tree. ReadsAmong below path names tree h.read) (λ tree. InFolder below path tree h.read)
          (λ tree is reads. inr (subst (λ (ns : List (List ℕ)). ReadsAmong below path ns tree h.read) is reads)) are.members h.are);
      no_other = h.no_other;
    }

    -- all members of a folder, and some of its own blocks
    pub saves-folder : (start a b : Told) (levels below : ℕ) (site : Site) (names : List (List ℕ)) (rows rows_now : List AddedRow) (l : List Named) → levels ≡ suc below → IsFolderAt host site.path → AreNames names host site.path
        → IsOfMembers X N p start a host below site names rows rows_now l → SavesAmong X (own_plan X N p none l).blocks a b → SavesReadAt X N p start b host levels site.path
    saves-folder start a b levels below site names rows rows_now l one folder are of saves =
        saves-tree start b (Reads levels site.path) (Dir (entries none of.members))
        (told-both host (λ tree. get tree site.path ≡ Some place.Folder) (λ tree. InFolder below site.path tree (Dir (entries none of.members) ∷ [])) (λ tree. Reads levels site.path tree (Dir (entries none of.members) ∷ []))
        (λ tree there in_folder. reads-folder levels below site.path (Dir (entries none of.members) ∷ []) tree one there in_folder) folder
        (told-both host (λ tree. names ≡ names_in tree site.path) (λ tree. each_member (walk_down X N p tree below) site.path names ≡ Ok of.members) (λ tree. InFolder below site.path tree (Dir (entries none of.members) ∷ []))
        (λ tree is said. inl (record { members = of.members; said = subst (λ (ns : List (List ℕ)). each_member (walk_down X N p tree below) site.path ns ≡ Ok of.members) is said; is = refl })) are.members of.said))
        (folder-saves X N p of.members l start a b of.is of.no_other saves)

    -- first members of a folder as a whole, and some of the next one
    pub saves-first : (start a b : Told) (levels : ℕ) (site : Site) (names later all : List (List ℕ)) (name : List ℕ) (rows mid : List AddedRow) (l : List Named) → all ≡ names ++ name ∷ later → IsOfMembers X N p start a host levels site names rows mid l
        → SavesReadAt X N p a b host levels (front site.path ++ name) → SavesReadIn X N p start b host levels site.path all
    saves-first start a b levels site names later all name rows mid l is of h = record {
      read = map (λ (m : List ℕ × Tree). m.1) of.members ++ h.read;
      are = told-both host (λ tree. each_member (walk_down X N p tree levels) site.path names ≡ Ok of.members) (λ tree. Reads levels (front site.path ++ name) tree h.read)
          (λ tree. ReadsAmong levels site.path all tree (map (λ (m : List ℕ × Tree). m.1) of.members ++ h.read)) (λ tree said part. record {
            whole = of.members;
            later = name ∷ later;
            part = h.read;
            are_named = is ∙ ap (λ ns. ns ++ name ∷ later) (sym of.are_named);
            said = subst (λ (ns : List (List ℕ)). each_member (walk_down X N p tree levels) site.path ns ≡ Ok of.members) (sym of.are_named) said;
            next = part;
            is = refl;
          }) of.said h.are;
      no_other = subst (λ (k : List Held). SavesAmong X k start b)
          (ap (λ k. k ++ flat_map (plan.blocks X N p) h.read) (sym (trees-blocks of.members))
          ∙ sym (flat_map-append (plan.blocks X N p) (map (λ (m : List ℕ × Tree). m.1) of.members) h.read))
          (SavesAmong-append X (members_blocks X N p of.members) (flat_map (plan.blocks X N p) h.read) start a b of.no_other h.no_other);
    }

    -- first members of a folder as a whole
    pub saves-front : (start a : Told) (levels : ℕ) (site : Site) (names later all : List (List ℕ)) (rows mid : List AddedRow) (l : List Named) → all ≡ names ++ later → IsOfMembers X N p start a host levels site names rows mid l
        → SavesReadIn X N p start a host levels site.path all
    saves-front start a levels site names later all rows mid l is of = record {
      read = map (λ (m : List ℕ × Tree). m.1) of.members;
      are = told-more host (λ tree. each_member (walk_down X N p tree levels) site.path names ≡ Ok of.members)
          (λ tree. ReadsAmong levels site.path all tree (map (λ (m : List ℕ × Tree). m.1) of.members)) (λ tree said. record {
            whole = of.members;
            later = later;
            part = [];
            are_named = is ∙ ap (λ ns. ns ++ later) (sym of.are_named);
            said = subst (λ (ns : List (List ℕ)). each_member (walk_down X N p tree levels) site.path ns ≡ Ok of.members) (sym of.are_named) said;
            next = reads-first levels site.path later tree;
            is = sym (append-nil (map (λ (m : List ℕ × Tree). m.1) of.members));
          }) of.said;
      no_other = subst (λ (k : List Held). SavesAmong X k start a) (sym (trees-blocks of.members)) of.no_other;
    }
