-- A folder that is adopted, way by way.
use Rattle.std.proofs.Common.{◌≡◌, inl, ℕ, zero, suc, ◌+◌, ◌-◌, ◌<◌, ◌≤◌, List, [], ◌∷◌, ◌++◌, drop, get_or, length, refl, sym, ap, subst, ◌∙◌, arith, append_assoc, append-nil, Result, Ok, Err}
use Rattle.std.specs.Prelude.{IfSome, IsTrue, Some, None}
use Rattle.std.specs.List.{AllByRecursion}
use Rattle.std.specs.FinMap.Entries.{is_sorted}
use Rattle.std.proofs.lemmas.List.{drop_more}
use Rattle.uf_cid.specs.Blocks.{Lookup}
use Rattle.uf_cid.specs.declared.cid.Cid.{Cid}
use Rattle.uf_shard.specs.Answers.{dir_fault}
use Rattle.uf_shard.specs.declared.fault.DirFault.{DirFault}
use Rattle.uf_shard.specs.declared.fault.DirFault.TheVariants as dir
use Rattle.uf_store.specs.Calls.{OnlySaves}
use Rattle.uf_store.specs.Contents.{Told, held_at}
use Rattle.uf_store.specs.Faults.{NoneIsBad}
use Rattle.uf_store.specs.Seen.{Seen}
use Rattle.uf_store.specs.declared.store.StoreFault.TheVariants.{Memory}
use Rattle.uf_store.proofs.Causes.{calm-memory}
use Rattle.uf_tree.specs.Names.{names_cmp}
use Rattle.uf_tree.specs.Nodes.{Named}
use Rattle.uf_tree.specs.Metas.{is_meta}
use Rattle.uf_tree.specs.Tree.{Dir, Entries, File, Tree, own_meta}
use Rattle.uf_tree.specs.Validity.{IsDirectory, IsNamed}
use Rattle.uf_tree.specs.declared.meta.Meta.{Meta}
use Rattle.uf_tree.specs.declared.nodes.Entry.{Entry}
use Rattle.uf_tree.specs.declared.profile.Profile.{Profile}
use Rattle.uf_lenient.specs.Answers.{FollowsReading, IsOwn}
use Rattle.uf_lenient.specs.Reading.{file_of, shallow_of}
use Rattle.uf_lenient.specs.declared.fault.DagFault.{DagFault}
use Rattle.uf_lenient.specs.declared.fault.DagFault.TheVariants as dag
use Rattle.uf_lenient.specs.declared.shapes.Limits.{Limits}
use Rattle.uf_lenient.specs.declared.shapes.Shape.{Shape}
use Rattle.uf_lenient.specs.declared.shapes.Shape.TheVariants.{File as FileShape, Folder as FolderShape}
use Rattle.uf_lenient.specs.Within.{AnswersSame}
use Rattle.uf_lenient.proofs.Greater.{shape-stays}
use Rattle.uf_adopt.specs.Adopting.{BuildsTree}
use Rattle.uf_lenient.specs.Denoted.{AreDenoted, DenotesBy, IsStep, denotes_within}
use Rattle.uf_adopt.specs.Faults.{OnlyAdopts, of_directory, of_reading}
use Rattle.uf_adopt.specs.Feeding.{AdoptsFile, HoldsGoodMap}
use Rattle.uf_adopt.specs.declared.fault.AdoptFault.{AdoptFault}
use Rattle.uf_adopt.specs.declared.fault.AdoptFault.TheVariants.{Store}
use Rattle.uf_adopt.proofs.Built.{Next, Went, file-built, names_of, next-of, sorted-by-names}
use Rattle.uf_lenient.proofs.Denoting.{denoted-step, none-denoted}
use Rattle.uf_adopt.proofs.Fed.{map-all, own-fault}

-- ---- what is shown

pub memory-adopts : {A : Type 0} (hash : List ℕ → List ℕ) (a b : Seen) → OnlySaves hash NoneIsBad None a b → OnlyAdopts {A = A} hash (Err (Store Memory)) a b
memory-adopts hash a b h = record { saves = record { cause = calm-memory a b h.cause; good = h.good; saves = h.saves }; apart = tt }

pub dir-adopts : {A : Type 0} (hash : List ℕ → List ℕ) (fault : DirFault) (a b : Seen) → OnlySaves hash NoneIsBad (dir_fault {A = A} (Err fault)) a b → OnlyAdopts {A = A} hash (Err (of_directory fault)) a b
dir-adopts hash (dir.Collision x y) a b h = record { saves = h; apart = tt }
dir-adopts hash dir.TooBig a b h = record { saves = h; apart = tt }
dir-adopts hash (dir.Store fault) a b h = record { saves = h; apart = tt }

-- ---- lists of ways

at_drop : {A : Type 0} (l : List A) (i : ℕ) (w : A) → i < length l → w ≡ get_or l i w → drop i l ≡ w ∷ drop (i + 1) l
at_drop l i w low is = drop_more l i w low ∙ ap (λ x. x ∷ drop (i + 1) l) (sym is)

past_drop : {A : Type 0} (l : List A) (i : ℕ) → length l ≤ i → drop i l ≡ []
past_drop [] zero p = refl
past_drop [] (suc i) p = refl
past_drop (x ∷ l) zero p = absurd (omega arith)
past_drop (x ∷ l) (suc i) p = past_drop l i (omega (arith, p))

names_append : (l : List Named) (e : Named) → names_of (l ++ e ∷ []) ≡ names_of l ++ e.0 ∷ []
names_append [] e = refl
names_append (x ∷ l) e = ap (λ m. x.0 ∷ m) (names_append l e)

pub names-more : (ways : List (List ℕ × Cid)) (i : ℕ) (w : List ℕ × Cid) (l : List Named) (e : Entry) → i < length ways → w ≡ get_or ways i w → names_of l ++ names_of (drop i ways) ≡ names_of ways → names_of (l ++ (w.0, e) ∷ []) ++ names_of (drop (i + 1) ways) ≡ names_of ways
names-more ways i w l e low is h =
    ap (λ m. m ++ names_of (drop (i + 1) ways)) (names_append l (w.0, e)) ∙ append_assoc (names_of l) (w.0 ∷ []) (names_of (drop (i + 1) ways))
    ∙ subst (λ m. names_of l ++ names_of m ≡ names_of ways) (at_drop ways i w low is) h

pub all-named : (l : List Named) (e : Named) → AllByRecursion IsNamed l → IsNamed e → AllByRecursion IsNamed (l ++ e ∷ [])
all-named [] e h p = (p, tt)
all-named (x ∷ l) e h p = (h.0, all-named l e h.1 p)

pub all-directory : (ways : List (List ℕ × Cid)) (i : ℕ) (l : List Named) → length ways ≤ i → names_of l ++ names_of (drop i ways) ≡ names_of ways → AllByRecursion IsNamed l → IsTrue (is_sorted names_cmp ways) → IsDirectory l
all-directory ways i l past names named sorted = record {
  sorted = sorted-by-names l ways (sym (append-nil (names_of l)) ∙ subst (λ m. names_of l ++ names_of m ≡ names_of ways) (past_drop ways i past) names) ∙ sorted;
  each = named;
}

module _ (X : List ℕ → List ℕ) (N : List ℕ → ℕ) (p : Profile) (held : Lookup) (limits : Limits) where
  pub next-at : (room : ℕ) (ways : List (List ℕ × Cid)) (es : Entries) (told : Told) (i : ℕ) (w : List ℕ × Cid) (l : List Named) → i < length ways → w ≡ get_or ways i w → Went X N p held limits room told ways es (drop i ways) l → Next X N p held limits room ways es told w (drop (i + 1) ways) l
  next-at room ways es told i w l low is g = next-of X N p held limits room ways es told w (drop (i + 1) ways) l (subst (λ left. Went X N p held limits room told ways es left l) (at_drop ways i w low is) g)

  pub past-all : (room : ℕ) (ways : List (List ℕ × Cid)) (es : Entries) (told : Told) (i : ℕ) (l : List Named) → length ways ≤ i → Went X N p held limits room told ways es (drop i ways) l → Went X N p held limits room told ways es [] l
  past-all room ways es told i l past g = subst (λ left. Went X N p held limits room told ways es left l) (past_drop ways i past) g

  -- ---- one step

  pub step_at : (room : ℕ) (c : Cid) (t : Tree) → 1 ≤ room → denotes_within held limits room c ≡ Ok t → IsStep held limits (room - 1) c t
  step_at zero c t some is = absurd (omega arith)
  step_at (suc room) c t some is = let same : room ≡ suc room - 1 = omega arith in subst (λ n. IsStep held limits n c t) same (denoted-step held limits room c t is)

  pub no-room : (room : ℕ) (c : Cid) (t : Tree) → room ≡ 0 → denotes_within held limits room c ≡ Ok t → ⊥
  no-room room c t none is = none-denoted held limits c t (subst (λ n. denotes_within held limits n c ≡ Ok t) none is)

  -- what was read of a CID that denotes something
  pub shape_read : (told : Told) (c : Cid) (shape s : Shape) → HoldsGoodMap X held told → shallow_of held limits c ≡ Ok shape → IfSome told (λ t. FollowsReading (λ s. s) (shallow_of (held_at t) limits c) (Ok s)) → s ≡ shape
  shape_read None c shape s good is says = absurd good
  shape_read (Some t) c shape s good is says =
      let more = shape-stays held (held_at t) (map-all X held t good) limits c in
      let there : shallow_of (held_at t) limits c ≡ Ok shape = subst (λ r. AnswersSame (held_at t) r (shallow_of (held_at t) limits c)) is more in
      let same : Ok s ≡ Ok shape = sym says ∙ there in
      cc

  fault_read : (told : Told) (c : Cid) (shape : Shape) (fault : DagFault) → HoldsGoodMap X held told → shallow_of held limits c ≡ Ok shape → IfSome told (λ t. FollowsReading (λ s. s) (shallow_of (held_at t) limits c) (Err fault)) → IsOwn fault
  fault_read None c shape fault good is says = absurd good
  fault_read (Some t) c shape fault good is says =
      let more = shape-stays held (held_at t) (map-all X held t good) limits c in
      own-fault (shallow_of (held_at t) limits c) shape fault (subst (λ r. AnswersSame (held_at t) r (shallow_of (held_at t) limits c)) is more) says

  own_builds : (now : Told) (c : Cid) (t : Tree) (fault : DagFault) → IsOwn fault → BuildsTree X N p held limits now c t (Err (of_reading fault))
  own_builds now c t (dag.Store fault) own = inl own
  own_builds now c t other own = absurd own

  -- the shape can't be read
  pub shape-fault : (told now : Told) (room : ℕ) (c : Cid) (t : Tree) (fault : DagFault) → 1 ≤ room → HoldsGoodMap X held told → denotes_within held limits room c ≡ Ok t → IfSome told (λ t. FollowsReading (λ s. s) (shallow_of (held_at t) limits c) (Err fault)) → BuildsTree X N p held limits now c t (Err (of_reading fault))
  shape-fault told now room c t fault some good is says = let s = step_at room c t some is in own_builds now c t fault (fault_read told c s.shape fault good s.shaped says)

  -- it is a file
  pub file-case : (told now : Told) (room : ℕ) (c : Cid) (t : Tree) (shape : Shape) (meta : Meta) (r : Result Entry AdoptFault) → 1 ≤ room → HoldsGoodMap X held told → denotes_within held limits room c ≡ Ok t → IfSome told (λ t. FollowsReading (λ s. s) (shallow_of (held_at t) limits c) (Ok shape)) → shape ≡ FileShape meta → IsTrue (is_meta meta)
      → ((bytes : List ℕ) → file_of held limits c ≡ Ok bytes → AdoptsFile X p meta c bytes now r) → BuildsTree X N p held limits now c t r
  file-case told now room c t shape meta r some good is says same its adopts =
      let s = step_at room c t some is in
      by t (subst (DenotesBy held limits (room - 1) c t) (sym (shape_read told c s.shape shape good s.shaped says) ∙ same) s.by)
    where
      by : (u : Tree) → DenotesBy held limits (room - 1) c u (FileShape meta) → BuildsTree X N p held limits now c u r
      by (File m bytes) d = file-built X N p held limits now c m bytes r (subst (λ (n : Meta). IsTrue (is_meta n)) (sym d.0) its) (subst (λ (n : Meta). AdoptsFile X p n c bytes now r) (sym d.0) (adopts bytes d.1))
      by (Dir es) d = absurd d

  -- it is a directory
  pub record IsFolderAt (room : ℕ) (c : Cid) (t : Tree) (meta : Meta) (ways : List (List ℕ × Cid)) : Type 0 where
    pub es : Entries
    pub is : Dir es ≡ t
    pub its : own_meta es ≡ meta
    pub shaped : shallow_of held limits c ≡ Ok (FolderShape meta ways)
    pub denoted : AreDenoted held limits room ways es

  pub folder-case : (told : Told) (room : ℕ) (c : Cid) (t : Tree) (shape : Shape) (meta : Meta) (ways list : List (List ℕ × Cid)) → 1 ≤ room → HoldsGoodMap X held told → denotes_within held limits room c ≡ Ok t → IfSome told (λ t. FollowsReading (λ s. s) (shallow_of (held_at t) limits c) (Ok shape)) → shape ≡ FolderShape meta ways → list ≡ ways
      → IsFolderAt (room - 1) c t meta list
  folder-case told room c t shape meta ways list some good is says same same_list =
      let s = step_at room c t some is in
      let whole : s.shape ≡ FolderShape meta list = sym (shape_read told c s.shape shape good s.shaped says) ∙ same ∙ ap (FolderShape meta) (sym same_list) in
      by t (s.shaped ∙ ap Ok whole) (subst (DenotesBy held limits (room - 1) c t) whole s.by)
    where
      by : (u : Tree) → shallow_of held limits c ≡ Ok (FolderShape meta list) → DenotesBy held limits (room - 1) c u (FolderShape meta list) → IsFolderAt (room - 1) c u meta list
      by (File m bytes) shaped d = absurd d
      by (Dir es) shaped d = record { es = es; is = refl; its = d.0; shaped = shaped; denoted = d.1 }
