-- The proof that `prove` writes is accepted.
use Rattle.std.proofs.Common.{◌≡◌, ◌⊎◌, ℕ, ◌+◌, ◌-◌, ◌^◌, ◌≤◌, zero, suc, List, [], ◌∷◌, ◌++◌, append_assoc, arith, Bool, true, false, cond, length, refl, sym, ap, subst, ◌∙◌, inl, inr, Some, None, Option, Result, Ok, Err, if◌then◌else◌}
use Rattle.std.proofs.lemmas.List.Elements.{All-contains, All-from_recursion}
use Rattle.std.specs.Cmp.{eq_by_cmp_equiv}
use Rattle.std.specs.Cmp.Lexicographic.{bytes_decides, on_texts}
use Rattle.std.specs.FinMap.{get, get-empty, get-insert}
use Rattle.std.specs.List.{AllByRecursion, flat_map}
use Rattle.std.specs.Ordering.{eq_by_cmp}
use Rattle.std.specs.Prelude.{IfErr, IfSome}
use Rattle.uf_car.specs.Clashing.{TwoBlocks, first_clash, or_other, sections_clash}
use Rattle.uf_car.specs.Importing.{with_saves}
use Rattle.uf_car.specs.Reading.{Read, car_read}
use Rattle.uf_car.specs.Text.{car_bytes}
use Rattle.uf_cid.specs.Blocks.{Held, Lookup}
use Rattle.uf_cid.specs.Blocks as blocks
use Rattle.uf_cid.specs.Cid.{cid_bytes, cid_cmp}
use Rattle.uf_cid.specs.Bytes.{IsBytes}
use Rattle.uf_cid.specs.Read.{IsCid}
use Rattle.uf_edge.specs.Counts.{Stood}
use Rattle.uf_edge.specs.Streams.{Told as SinkTold}
use Rattle.uf_cid.specs.declared.cid.Cid.{Cid}
use Rattle.uf_fileread.specs.Ranges.{IsFile, blocks_met, blocks_read, meets}
use Rattle.uf_store.specs.Contents.{Contents, held_at, with_save}
use Rattle.uf_store.specs.InMemory.{no_contents}
use Rattle.uf_store.specs.Keeping.{Agrees}
use Rattle.uf_store.specs.Lost.{IsLost}
use Rattle.uf_store.specs.declared.store.StoreFault.TheVariants as store
use Rattle.uf_store.proofs.Holding.{cid_cmp_total}
use Rattle.uf_store.proofs.Keeping.{held-saved, same_of}
use Rattle.uf_tree.specs.declared.profile.Profile.{Profile}
use Rattle.uf_tree.specs.DirPlan.{trail}
use Rattle.uf_tree.specs.FilePlan.{groups}
use Rattle.uf_tree.specs.FileSub.{IsFileHeight, blocks_over, span, whole_blocks, whole_part}
use Rattle.uf_tree.specs.Metas.{none}
use Rattle.uf_tree.specs.declared.meta.Meta.{Meta}
use Rattle.uf_tree.specs.Roots.{root_over}
use Rattle.uf_tree.specs.declared.nodes.Entry.{Entry}
use Rattle.uf_tree.specs.Tree.{Tree, File, Dir, own_meta, pairs}
use Rattle.uf_tree.specs.TreePlan.{entry, named_entries}
use Rattle.uf_tree.specs.TreePlan as plans
use Rattle.uf_tree.specs.Validity.{IsHash}
use Rattle.uf_plain.specs.declared.rule.Refused.{Refused}
use Rattle.uf_plain.specs.declared.rule.Refused.TheVariants as why
use Rattle.uf_plain.specs.Edits.{at, child}
use Rattle.uf_plain.specs.Needs.{needs_at, root_of, way}
use Rattle.uf_plain.specs.Replies.{root_block}
use Rattle.uf_plain.proofs.Plans.{each-find}
use Rattle.uf_laws.proofs.Held.{tree-digested}
use Rattle.uf_light.specs.declared.fault.LightFault.{LightFault}
use Rattle.uf_light.specs.declared.fault.LightFault.TheVariants as fault
use Rattle.uf_light.specs.Answers.{Accepts, ClashesWithPlan, CountsSink, IsBehindCar, file_needs, is_light_sink, opened, same_root, unless_clash}
use Rattle.uf_light.specs.Light.{HasHeight, file_blocks, light_order, light_says, light_text, trails}
use Rattle.uf_light.proofs.Short.{tree-short}
use Rattle.uf_light.proofs.Sound.{AreSound, IsShort}
use Rattle.uf_light.specs.Sections.{AnswersTree, IsOkOrMemory, sections_told}
use Rattle.uf_light.specs.Standing.{IsTreeAt}
use Rattle.uf_light.proofs.Again.{car-again}
use Rattle.uf_light.proofs.Agreed.{Own, members-own}
use Rattle.uf_light.proofs.Collecting.{at-among, root-of-among, trails-among}
use Rattle.uf_light.proofs.Files as files
use Rattle.uf_light.proofs.Holding.{append, back, front}
use Rattle.uf_light.proofs.Once.{once-among, once-back}
use Rattle.uf_light.proofs.Rooting.{root-block-of}
use Rattle.uf_light.proofs.Saving.{section-of}

-- ---- sections that are all held in one place don't clash

-- what is held here is held there
abbrev Below : Lookup → Contents → Type 0
Below held t = (c : Cid) (a : List ℕ) → held_at t c ≡ Some a → held c ≡ Some a

nothing-below : (held : Lookup) → Below held no_contents
nothing-below held c a is = absurd (let none : None ≡ Some a = sym (get-empty cid_cmp c) ∙ is in cc)

module _ (held : Lookup) where
  saved-below : (b : Held) (t : Contents) → held b.0 ≡ Some b.1 → Below held t → Below held (with_save b.0 b.1 t)
  saved-below b t here below c a is = by (eq_by_cmp cid_cmp c b.0) refl (sym (get-insert cid_cmp_total t.held b.0 b.1 c) ∙ is)
    where
      by : (tied : Bool) → eq_by_cmp cid_cmp c b.0 ≡ tied → cond tied (Some b.1) (get t.held c) ≡ Some a → held c ≡ Some a
      by true tie e = ap held (same_of c b.0 tie) ∙ here ∙ e
      by false tie e = below c a e

  -- a block that is held stays so
  kept-saved : (b : Held) (t : Contents) (c : Cid) (a : List ℕ) → held b.0 ≡ Some b.1 → Below held t → held_at t c ≡ Some a → held_at (with_save b.0 b.1 t) c ≡ Some a
  kept-saved b t c a here below is = get-insert cid_cmp_total t.held b.0 b.1 c ∙ by (eq_by_cmp cid_cmp c b.0) refl
    where
      by : (tied : Bool) → eq_by_cmp cid_cmp c b.0 ≡ tied → cond tied (Some b.1) (get t.held c) ≡ Some a
      by true tie = sym here ∙ ap held (sym (same_of c b.0 tie)) ∙ below c a is
      by false tie = is

  kept-all : (l : List Held) (t : Contents) (c : Cid) (a : List ℕ) → blocks.Holds held l → Below held t → held_at t c ≡ Some a → held_at (with_saves l t) c ≡ Some a
  kept-all [] t c a h below is = is
  kept-all (b ∷ l) t c a h below is = kept-all l (with_save b.0 b.1 t) c a h.1 (saved-below b t h.0 below) (kept-saved b t c a h.0 below is)

  all-held : (l : List Held) (t : Contents) → blocks.Holds held l → Below held t → blocks.Holds (held_at (with_saves l t)) l
  all-held [] t h below = tt
  all-held (b ∷ l) t h below = (kept-all l (with_save b.0 b.1 t) b.0 b.1 h.1 (saved-below b t h.0 below) (held-saved t b.0 b.1), all-held l (with_save b.0 b.1 t) h.1 (saved-below b t h.0 below))

  -- so all of them are held where they alone are saved
  pub sections-held : (l : List Held) → blocks.Holds held l → blocks.Holds (held_at (with_saves l no_contents)) l
  sections-held l h = all-held l no_contents h (nothing-below held)

  clash-free : (l : List Held) (t : Contents) → blocks.Holds held l → Below held t → first_clash t l ≡ None
  unfolding first_clash
  clash-free [] t h below = refl
  clash-free (b ∷ l) t h below = pass (held_at t b.0) refl ∙ clash-free l (with_save b.0 b.1 t) h.1 (saved-below b t h.0 below)
    where
      behind : Option TwoBlocks
      behind = first_clash (with_save b.0 b.1 t) l

      pass : (o : Option (List ℕ)) → held_at t b.0 ≡ o → or_other o b behind ≡ behind
      pass None is = refl
      pass (Some other) is =
          let same : other ≡ b.1 = (let one : Some other ≡ Some b.1 = sym (below b.0 other is) ∙ h.0 in cc) in
          ap (λ (x : Bool). if x then behind else Some (record { cid = b.0; first = other; second = b.1 })) ((bytes_decides other b.1).1 same)

  pub none-clash : (l : List Held) → blocks.Holds held l → sections_clash l ≡ None
  none-clash l h = clash-free l no_contents h (nothing-below held)

  -- and they agree with all blocks that are held with them
  agrees-one : (l : List Held) (b : Held) → blocks.Holds held l → held b.0 ≡ Some b.1 → (o : Option (List ℕ)) → held_at (with_saves l no_contents) b.0 ≡ o → IfSome o (λ bytes. bytes ≡ b.1)
  agrees-one l b h here None is = tt
  agrees-one l b h here (Some bytes) is =
      let there : held b.0 ≡ Some bytes = All-contains (λ (d : Held). held d.0 ≡ Some d.1) l (b.0, bytes) (All-from_recursion (λ (d : Held). held d.0 ≡ Some d.1) l h) (section-of l b.0 bytes is) in
      let one : Some bytes ≡ Some b.1 = sym there ∙ here in cc

  pub sections-agree : (l all : List Held) → blocks.Holds held l → blocks.Holds held all → Agrees (sections_told l) all
  sections-agree l [] h k = tt
  sections-agree l (b ∷ all) h k = (agrees-one l b h k.0 (held_at (with_saves l no_contents) b.0) refl, sections-agree l all h k.1)

-- ---- what is read of a proof

pub proof-opens : (X : List ℕ → List ℕ) (limit : ℕ) (held : Lookup) (root : Cid) (l : List Held) → IsCid root → AreSound X l → blocks.Holds held l → length (car_bytes root l) ≤ limit
    → (opened root (car_read X limit (car_bytes root l)) ≡ Ok tt) × ((car_read X limit (car_bytes root l)).sections ≡ l)
proof-opens X limit held root l whole good h few =
    let again = car-again X limit root l whole good few in (
      ap (opened root) again
          ∙ ap (λ (o : Option TwoBlocks). opened-by o) (none-clash held l h)
          ∙ ap (λ (b : Bool). if b then Ok tt else Err (fault.OtherRoot root)) ((eq_by_cmp_equiv (on_texts cid_bytes)).refl root),
      ap (λ (r : Read (List Cid)). r.sections) again,
    )
  where
    opened-by : Option TwoBlocks → Result Unit LightFault
    opened-by o = unless_clash o (same_root root (Ok root))

-- ---- what is needed of a file is among its blocks

module _ (X : List ℕ → List ℕ) (c w : ℕ) (P : Held → Type 0) where
  met-among : (b : Bool) (l : List Held) → AllByRecursion P l → AllByRecursion P (cond b l [])
  met-among true l h = h
  met-among false l h = tt

  -- what holds of all parts does of those that a range meets
  mets : (k : ℕ) → ((o n : ℕ) (g : List ℕ) → AllByRecursion P (blocks_over X c w k g) → AllByRecursion P (blocks_read X c w none k o n g)) → (o n : ℕ) (gs : List (List ℕ))
      → AllByRecursion P (flat_map (blocks_over X c w k) gs) → AllByRecursion P (blocks_met (λ o n g. blocks_read X c w none k o n g) o n gs)
  mets k rec o n [] h = tt
  mets k rec o n (g ∷ gs) h =
      append P (cond (meets o n g) (blocks_read X c w none k o n g) []) (blocks_met (λ o n g. blocks_read X c w none k o n g) (o - length g) (n - (length g - o)) gs)
      (met-among (meets o n g) (blocks_read X c w none k o n g) (rec o n g (front P (blocks_over X c w k g) (flat_map (blocks_over X c w k) gs) h)))
      (mets k rec (o - length g) (n - (length g - o)) gs (back P (blocks_over X c w k g) (flat_map (blocks_over X c w k) gs) h))

  below-among : (k offset count : ℕ) (bytes : List ℕ) → AllByRecursion P (blocks_over X c w k bytes) → AllByRecursion P (blocks_read X c w none k offset count bytes)
  unfolding blocks_over blocks_read
  below-among zero offset count bytes h = h
  below-among (suc k) offset count bytes h = (h.0, mets k (λ o n g j. below-among k o n g j) offset count (groups (span c w k) bytes) h.1)

  pub read-among : (m : Meta) (k offset count : ℕ) (bytes : List ℕ) → AllByRecursion P (whole_blocks X c w m k bytes) → AllByRecursion P (blocks_read X c w m k offset count bytes)
  unfolding whole_blocks blocks_read
  read-among m zero offset count bytes h = h
  read-among m (suc k) offset count bytes h = (h.0, mets k (λ o n g j. below-among k o n g j) offset count (groups (span c w k) bytes) h.1)

-- ---- what the way of a path needs

module _ (X : List ℕ → List ℕ) (N : List ℕ → ℕ) (p : Profile) where
  -- where nothing is at a path, the way to it is its trails
  pub way-absent : (led k : ℕ) (names : List (List ℕ)) (t : Tree) → at led names t ≡ Err (why.NotFound k) → way X N p names t ≡ trails X N p names t
  way-absent led k [] t is = absurd (let no : ◌≡◌ {A = Result Tree Refused} (Ok t) (Err (why.NotFound k)) = is in cc)
  way-absent led k (name ∷ names) (File m bytes) is = absurd (let no : ◌≡◌ {A = Result Tree Refused} (Err (why.NotADirectory led)) (Err (why.NotFound k)) = is in cc)
  way-absent led k (name ∷ names) (Dir es) is = by (λ u is. way-absent (led + 1) k names u is) (child name es) is
    where
      by : ((u : Tree) → at (led + 1) names u ≡ Err (why.NotFound k) → way X N p names u ≡ trails X N p names u) → (o : Option Tree)
          → (elim o as (λ o. Result Tree Refused) [ None ↦ Err (why.NotFound (led + 1)) | Some u ↦ at (led + 1) names u ]) ≡ Err (why.NotFound k)
          → trail X N p (own_meta es) (named_entries X N p es) name ++ elim o as (λ o. List Held) [ None ↦ [] | Some u ↦ way X N p names u ]
          ≡ trail X N p (own_meta es) (named_entries X N p es) name ++ elim o as (λ o. List Held) [ None ↦ [] | Some u ↦ trails X N p names u ]
      by rec None is = refl
      by rec (Some u) is = ap (λ (l : List Held). trail X N p (own_meta es) (named_entries X N p es) name ++ l) (rec u is)

  -- where something is, its root block follows
  pub way-there : (led : ℕ) (names : List (List ℕ)) (t found : Tree) → at led names t ≡ Ok found → way X N p names t ≡ trails X N p names t ++ root_of X N p found
  way-there led [] t found is = ap (root_of X N p) (let same : t ≡ found = cc in same)
  way-there led (name ∷ names) (File m bytes) found is = absurd (let no : ◌≡◌ {A = Result Tree Refused} (Err (why.NotADirectory led)) (Ok found) = is in cc)
  way-there led (name ∷ names) (Dir es) found is = by (λ u is. way-there (led + 1) names u found is) (child name es) is
    where
      front-blocks : List Held
      front-blocks = trail X N p (own_meta es) (named_entries X N p es) name

      by : ((u : Tree) → at (led + 1) names u ≡ Ok found → way X N p names u ≡ trails X N p names u ++ root_of X N p found) → (o : Option Tree)
          → (elim o as (λ o. Result Tree Refused) [ None ↦ Err (why.NotFound (led + 1)) | Some u ↦ at (led + 1) names u ]) ≡ Ok found
          → trail X N p (own_meta es) (named_entries X N p es) name ++ elim o as (λ o. List Held) [ None ↦ [] | Some u ↦ way X N p names u ]
          ≡ (trail X N p (own_meta es) (named_entries X N p es) name ++ elim o as (λ o. List Held) [ None ↦ [] | Some u ↦ trails X N p names u ]) ++ root_of X N p found
      by rec None is = absurd (let no : ◌≡◌ {A = Result Tree Refused} (Err (why.NotFound (led + 1))) (Ok found) = is in cc)
      by rec (Some u) is =
          ap (λ (l : List Held). trail X N p (own_meta es) (named_entries X N p es) name ++ l) (rec u is)
          ∙ sym (append_assoc (trail X N p (own_meta es) (named_entries X N p es) name) (trails X N p names u) (root_of X N p found))

  -- what is at a path is a tree with a plan
  pub planned-at : (led : ℕ) (names : List (List ℕ)) (t found : Tree) (c : Cid) → IsTreeAt X N p c t → at led names t ≡ Ok found → IsTreeAt X N p (entry X N p found).cid found
  planned-at led [] t found c s is = subst (λ (u : Tree). IsTreeAt X N p (entry X N p u).cid u) (let same : t ≡ found = cc in same) (record { profile = s.profile; tree = s.tree; planned = s.planned; is = refl })
  planned-at led (name ∷ names) (File m bytes) found c s is = absurd (let no : ◌≡◌ {A = Result Tree Refused} (Err (why.NotADirectory led)) (Ok found) = is in cc)
  planned-at led (name ∷ names) (Dir es) found c s is = by (λ u su is. planned-at (led + 1) names u found (entry X N p u).cid su is) (child name es) refl is
    where
      by : ((u : Tree) → IsTreeAt X N p (entry X N p u).cid u → at (led + 1) names u ≡ Ok found → IsTreeAt X N p (entry X N p found).cid found) → (o : Option Tree) → child name es ≡ o
          → (elim o as (λ o. Result Tree Refused) [ None ↦ Err (why.NotFound (led + 1)) | Some u ↦ at (led + 1) names u ]) ≡ Ok found → IsTreeAt X N p (entry X N p found).cid found
      by rec None there is = absurd (let no : ◌≡◌ {A = Result Tree Refused} (Err (why.NotFound (led + 1))) (Ok found) = is in cc)
      by rec (Some u) there is = rec u (each-find (Own X N p) name u (pairs es) (members-own X N p c es s) there) is

  -- ---- what is held of the plan and of a proof's sections

  module _ (held look : Lookup) where
    -- the root block of a file that is found, where those below it and it are held
    file-root : (m : Meta) (bytes : List ℕ) (height : ℕ) (s : IsTreeAt X N p (entry X N p (File m bytes)).cid (File m bytes)) → IsFileHeight p.chunk p.width m (length bytes) height
        → blocks.Holds held (plans.blocks X N p (File m bytes)) → blocks.Holds held (whole_blocks X p.chunk p.width m height bytes) → blocks.Holds look (whole_blocks X p.chunk p.width m height bytes)
        → blocks.Holds look (root_of X N p (File m bytes))
    unfolding whole_part whole_blocks
    file-root m bytes height s tall plan here there =
        by (root_block X N p (File m bytes)) (root-of-among X N p (File m bytes) (λ (b : Held). held b.0 ≡ Some b.1) plan)
      where
        file : IsFile X p m bytes (entry X N p (File m bytes)).cid height
        file = files.is-file X N p (entry X N p (File m bytes)).cid m bytes s height tall

        under : (k : ℕ) → (whole_part X p.chunk p.width m k bytes).entry.cid ≡ (root_over X p.chunk p.width m k bytes).0
        under zero = refl
        under (suc k) = refl

        cid : (entry X N p (File m bytes)).cid ≡ (root_over X p.chunk p.width m height bytes).0
        cid = file.cid_is ∙ ap (λ (e : Entry). e.cid) file.rooted.entry ∙ under height

        first : (P : Held → Type 0) (k : ℕ) → AllByRecursion P (whole_blocks X p.chunk p.width m k bytes) → P (root_over X p.chunk p.width m k bytes)
        first P zero h = h.0
        first P (suc k) h = h.0

        by : (o : Option (List ℕ)) → blocks.Holds held (elim o as (λ o. List Held) [ None ↦ [] | Some found ↦ ((entry X N p (File m bytes)).cid, found) ∷ [] ])
            → blocks.Holds look (elim o as (λ o. List Held) [ None ↦ [] | Some found ↦ ((entry X N p (File m bytes)).cid, found) ∷ [] ])
        by None h = tt
        by (Some found) h =
            let mine = first (λ (b : Held). held b.0 ≡ Some b.1) height here in
            let seen = first (λ (b : Held). look b.0 ≡ Some b.1) height there in
            let one : Some found ≡ Some (root_over X p.chunk p.width m height bytes).1 = sym h.0 ∙ ap held cid ∙ mine in
            (ap look cid ∙ seen ∙ sym one, tt)

    -- ---- what a check needs is held where the blocks of the proof are

    module _ (root : Cid) (t : Tree) (names : List (List ℕ)) (height : ℕ) (s : IsTreeAt X N p root t) (plan : blocks.Holds held (plans.blocks X N p t)) where
      abbrev w : Result Tree Refused
      w = at 0 names t

      abbrev needs : List Held
      needs = needs_at X N p (file_needs X p height) names t

      pub needs-there : (m : Meta) (bytes : List ℕ) → w ≡ Ok (File m bytes) → HasHeight p height w → blocks.Holds look (trails X N p names t ++ file_blocks X N p height w) → blocks.Holds look needs
      needs-there m bytes is tall there =
          let found = planned-at 0 names t (File m bytes) root s is in
          let all : IsFileHeight p.chunk p.width m (length bytes) height = subst (HasHeight p height) is tall in
          let here : blocks.Holds held (plans.blocks X N p (File m bytes)) = at-among X N p 0 names t (File m bytes) is (λ (b : Held). held b.0 ≡ Some b.1) plan in
          let own = files.down-among X N p (entry X N p (File m bytes)).cid m bytes found height all (λ (b : Held). held b.0 ≡ Some b.1) here in
          let file : blocks.Holds look (whole_blocks X p.chunk p.width m height bytes) = subst (blocks.Holds look) (ap (file_blocks X N p height) is) (back (λ (b : Held). look b.0 ≡ Some b.1) (trails X N p names t) (file_blocks X N p height w) there) in
          let ways : blocks.Holds look (way X N p names t) = subst (blocks.Holds look) (sym (way-there 0 names t (File m bytes) is))
          (append (λ (b : Held). look b.0 ≡ Some b.1) (trails X N p names t) (root_of X N p (File m bytes)) (front (λ (b : Held). look b.0 ≡ Some b.1) (trails X N p names t) (file_blocks X N p height w) there) (file-root m bytes height found all here own file)) in
          append (λ (b : Held). look b.0 ≡ Some b.1) (way X N p names t) _ ways
          (subst (λ (v : Result Tree Refused). blocks.Holds look (elim v as (λ v. List Held) [ Ok u ↦ file_needs X p height u | Err e ↦ [] ])) (sym is)
          (read-among X p.chunk p.width (λ (b : Held). look b.0 ≡ Some b.1) m height 0 (2 ^ 64 - 1) bytes file))

      pub needs-absent : (k : ℕ) → w ≡ Err (why.NotFound k) → blocks.Holds look (trails X N p names t ++ file_blocks X N p height w) → blocks.Holds look needs
      needs-absent k is there =
          append (λ (b : Held). look b.0 ≡ Some b.1) (way X N p names t) _
          (subst (blocks.Holds look) (sym (way-absent 0 k names t is)) (front (λ (b : Held). look b.0 ≡ Some b.1) (trails X N p names t) (file_blocks X N p height w) there))
          (subst (λ (v : Result Tree Refused). blocks.Holds look (elim v as (λ v. List Held) [ Ok u ↦ file_needs X p height u | Err e ↦ [] ])) (sym is) tt)

-- what is held isn't lost
pub none-lost : (held : Lookup) (c : Cid) (l : List Held) → blocks.Holds held l → IsLost held c l → ⊥
none-lost held c [] h x = x
none-lost held c (b ∷ l) h (inl x) = (let no : None ≡ Some b.1 = sym x.1 ∙ h.0 in cc)
none-lost held c (b ∷ l) h (inr x) = none-lost held c l h.1 x

-- two blocks that are held in one place don't clash
pub none-clashes : (X : List ℕ → List ℕ) (held : Lookup) (plan sections : List Held) → blocks.Holds held plan → blocks.Holds held sections → ClashesWithPlan X plan sections → ⊥
none-clashes X held plan sections h k clash =
    let block : held clash.block.0 ≡ Some clash.block.1 = All-contains (λ (b : Held). held b.0 ≡ Some b.1) plan clash.block (All-from_recursion (λ (b : Held). held b.0 ≡ Some b.1) plan h) clash.planned in
    let section : held clash.section.0 ≡ Some clash.section.1 = All-contains (λ (b : Held). held b.0 ≡ Some b.1) sections clash.section (All-from_recursion (λ (b : Held). held b.0 ≡ Some b.1) sections k) clash.there in
    clash.clash.differ (let one : Some clash.block.1 ≡ Some clash.section.1 = sym block ∙ ap held (sym clash.one_cid) ∙ section in let same : clash.block.1 ≡ clash.section.1 = cc in same)

-- where the tree's answer is some bytes, and all that it needs is there, the answer is they, or want of memory
pub answered : (sections needs : List Held) (said : List ℕ) (r : Result ℕ LightFault) (out out_now : SinkTold) (faults faults_now : ℕ) → blocks.Holds (held_at (with_saves sections no_contents)) needs
    → IfErr r IsBehindCar → Accepts (sections_told sections) needs (Ok said) r out out_now → CountsSink (is_light_sink r) faults faults_now → Stood faults faults_now → IsOkOrMemory r
answered sections needs said (Ok n) out out_now faults faults_now h opens a counts stood = tt
answered sections needs said (Err fault.Sink) out out_now faults faults_now h opens a counts stood = absurd (let rose = counts.rose refl in omega (arith, rose, stood))
answered sections needs said (Err (fault.Store store.Failed)) out out_now faults faults_now h opens a counts stood = absurd a
answered sections needs said (Err (fault.Store (store.Damaged c))) out out_now faults faults_now h opens a counts stood = absurd a
answered sections needs said (Err (fault.Store (store.Missing c))) out out_now faults faults_now h opens a counts stood = absurd (none-lost (held_at (with_saves sections no_contents)) c needs h a)
answered sections needs said (Err (fault.Store (store.BadBlock c role))) out out_now faults faults_now h opens a counts stood = absurd a
answered sections needs said (Err (fault.Store (store.Clash c x y))) out out_now faults faults_now h opens a counts stood = absurd a
answered sections needs said (Err (fault.Store store.Memory)) out out_now faults faults_now h opens a counts stood = refl
answered sections needs said (Err (fault.NotFound k)) out out_now faults faults_now h opens a counts stood = absurd (let no : ◌≡◌ {A = Result (List ℕ) LightFault} (Ok said) (Err (fault.NotFound k)) = a in cc)
answered sections needs said (Err (fault.NotADirectory k)) out out_now faults faults_now h opens a counts stood = absurd (let no : ◌≡◌ {A = Result (List ℕ) LightFault} (Ok said) (Err (fault.NotADirectory k)) = a in cc)
answered sections needs said (Err fault.IsADirectory) out out_now faults faults_now h opens a counts stood = absurd (let no : ◌≡◌ {A = Result (List ℕ) LightFault} (Ok said) (Err fault.IsADirectory) = a in cc)
answered sections needs said (Err fault.Exists) out out_now faults faults_now h opens a counts stood = absurd (let no : ◌≡◌ {A = Result (List ℕ) LightFault} (Ok said) (Err fault.Exists) = a in cc)
answered sections needs said (Err (fault.OtherRoot c)) out out_now faults faults_now h opens a counts stood = absurd opens
answered sections needs said (Err (fault.Car g)) out out_now faults faults_now h opens a counts stood = absurd opens

-- ---- what the plain tree says, where it is some bytes

-- a lookup leads to something, or to nothing, or behind a file
abbrev Ends : Result Tree Refused → Type 0
Ends w = ((u : Tree) × (w ≡ Ok u)) ⊎ (((k : ℕ) × (w ≡ Err (why.NotFound k))) ⊎ ((k : ℕ) × (w ≡ Err (why.NotADirectory k))))

ends-so : (led : ℕ) (names : List (List ℕ)) (t : Tree) → Ends (at led names t)
ends-so led [] t = inl (t, refl)
ends-so led (name ∷ names) (File m bytes) = inr (inr (led, refl))
ends-so led (name ∷ names) (Dir es) = by (λ u. ends-so (led + 1) names u) (child name es)
  where
    by : ((u : Tree) → Ends (at (led + 1) names u)) → (o : Option Tree) → Ends (elim o as (λ o. Result Tree Refused) [ None ↦ Err (why.NotFound (led + 1)) | Some u ↦ at (led + 1) names u ])
    by rec None = inr (inl (led + 1, refl))
    by rec (Some u) = rec u

-- a file is to be shown, or that nothing is there
abbrev Says : Result Tree Refused → Type 0
Says w = ((m : Meta) × (bytes : List ℕ) × (w ≡ Ok (File m bytes))) ⊎ ((k : ℕ) × (w ≡ Err (why.NotFound k)))

says-so : (absent : Bool) (names : List (List ℕ)) (w : Result Tree Refused) (said : List ℕ) → Ends w → light_says absent names w ≡ Ok said → Says w
says-so true names w said (inl there) e = absurd (let no : ◌≡◌ {A = Result (List ℕ) LightFault} (Err fault.Exists) (Ok said) = sym (ap (light_says true names) there.1) ∙ e in cc)
says-so false names w said (inl there) e = by there.0 there.1
  where
    by : (u : Tree) → w ≡ Ok u → Says w
    by (File m bytes) is = inl (m, bytes, is)
    by (Dir es) is = absurd (let no : ◌≡◌ {A = Result (List ℕ) LightFault} (Err fault.IsADirectory) (Ok said) = sym (ap (light_says false names) is) ∙ e in cc)
says-so absent names w said (inr (inl gone)) e = inr gone
says-so true names w said (inr (inr behind)) e = absurd (let no : ◌≡◌ {A = Result (List ℕ) LightFault} (Err (fault.NotADirectory behind.0)) (Ok said) = sym (ap (light_says true names) behind.1) ∙ e in cc)
says-so false names w said (inr (inr behind)) e = absurd (let no : ◌≡◌ {A = Result (List ℕ) LightFault} (Err (fault.NotADirectory behind.0)) (Ok said) = sym (ap (light_says false names) behind.1) ∙ e in cc)

-- ---- a proof is accepted

module _ (X : List ℕ → List ℕ) (good : IsHash X) (N : List ℕ → ℕ) (p : Profile) (t : Tree) (root : Cid) (names : List (List ℕ)) (absent : Bool) (height limit : ℕ) (held : Lookup) (said : List ℕ)
    (s : IsTreeAt X N p root t) (plan : blocks.Holds held (plans.blocks X N p t)) (tall : HasHeight p height (at 0 names t)) (is : light_says absent names (at 0 names t) ≡ Ok said) where
  abbrev there : List Held
  there = trails X N p names t ++ file_blocks X N p height (at 0 names t)

  abbrev order : List Held
  order = light_order X N p height names t

  whats : Says (at 0 names t)
  whats = says-so absent names (at 0 names t) said (ends-so 0 names t) is

  -- the blocks of the proof are the plan's
  file-in : (P : Held → Type 0) → AllByRecursion P (plans.blocks X N p t) → AllByRecursion P (file_blocks X N p height (at 0 names t))
  file-in P h = by whats
    where
      by : Says (at 0 names t) → AllByRecursion P (file_blocks X N p height (at 0 names t))
      by (inl (m, bytes, found)) =
          subst (AllByRecursion P) (sym (ap (file_blocks X N p height) found))
          (files.down-among X N p (entry X N p (File m bytes)).cid m bytes (planned-at X N p 0 names t (File m bytes) root s found) height (subst (HasHeight p height) found tall) P (at-among X N p 0 names t (File m bytes) found P h))
      by (inr gone) = subst (AllByRecursion P) (sym (ap (file_blocks X N p height) gone.1)) tt

  in-plan : (P : Held → Type 0) → AllByRecursion P (plans.blocks X N p t) → AllByRecursion P order
  in-plan P h = once-among P [] there tt (append P (trails X N p names t) (file_blocks X N p height (at 0 names t)) (trails-among X N p names t P h) (file-in P h))

  whole-cid : (b : Held) → b.0.digest ≡ X b.1 → IsCid b.0
  whole-cid b digest = record { size = ap length digest ∙ good.size b.1; bytes = subst IsBytes (sym digest) (good.are_bytes b.1) }

  sounds : (l : List Held) → AllByRecursion (λ (b : Held). b.0.digest ≡ X b.1) l → AllByRecursion IsShort l → AreSound X l
  sounds [] h k = tt
  sounds (b ∷ l) h k = (record { cid = whole-cid b h.0; digest = sym h.0; short = k.0 }, sounds l h.1 k.1)

  short : AllByRecursion IsShort order
  short = in-plan IsShort (tree-short X good N p root t s)

  module _ (few : length (light_text X N p height names t) ≤ limit) where
    root-whole : IsCid (entry X N p t).cid
    root-whole =
        let r = root-block-of X N good p root t s in
        subst IsCid r.1.cid (whole-cid r.0 (r.1.among (λ (b : Held). b.0.digest ≡ X b.1) (tree-digested X N p t)))

    opens-so : (opened root (car_read X limit (light_text X N p height names t)) ≡ Ok tt) × ((car_read X limit (light_text X N p height names t)).sections ≡ order)
    opens-so =
        let o = proof-opens X limit held (entry X N p t).cid order root-whole (sounds order (in-plan (λ (b : Held). b.0.digest ≡ X b.1) (tree-digested X N p t)) short) (in-plan (λ (b : Held). held b.0 ≡ Some b.1) plan) few in
        (subst (λ (c : Cid). opened c (car_read X limit (light_text X N p height names t)) ≡ Ok tt) (sym s.is) o.0, o.1)

    needs-so : blocks.Holds (held_at (with_saves order no_contents)) (needs_at X N p (file_needs X p height) names t)
    needs-so = by whats
      where
        look : Lookup
        look = held_at (with_saves order no_contents)

        all : blocks.Holds held there
        all = append (λ (b : Held). held b.0 ≡ Some b.1) (trails X N p names t) (file_blocks X N p height (at 0 names t)) (trails-among X N p names t (λ (b : Held). held b.0 ≡ Some b.1) plan) (file-in (λ (b : Held). held b.0 ≡ Some b.1) plan)

        seen : blocks.Holds look there
        seen = once-back held look [] there tt all (sections-held held order (in-plan (λ (b : Held). held b.0 ≡ Some b.1) plan))

        by : Says (at 0 names t) → blocks.Holds look (needs_at X N p (file_needs X p height) names t)
        by (inl (m, bytes, found)) = needs-there X N p held look root t names height s plan m bytes found tall seen
        by (inr gone) = needs-absent X N p held look root t names height s plan gone.0 gone.1 seen

    pub opens-light : opened root (car_read X limit (light_text X N p height names t)) ≡ Ok tt
    opens-light = opens-so.0

    pub accepted : (r : Result ℕ LightFault) (out out_now : SinkTold) (faults faults_now : ℕ) → IfErr r IsBehindCar
        → AnswersTree X (car_read X limit (light_text X N p height names t)).sections (plans.blocks X N p t) (needs_at X N p (file_needs X p height) names t) (light_says absent names (at 0 names t)) r out out_now
        → CountsSink (is_light_sink r) faults faults_now → Stood faults faults_now → IsOkOrMemory r
    accepted r out out_now faults faults_now behind answers counts stood =
        by (subst (λ (l : List Held). ClashesWithPlan X (plans.blocks X N p t) l ⊎ Accepts (sections_told l) (needs_at X N p (file_needs X p height) names t) (light_says absent names (at 0 names t)) r out out_now) opens-so.1 (answers behind))
      where
        by : ClashesWithPlan X (plans.blocks X N p t) order ⊎ Accepts (sections_told order) (needs_at X N p (file_needs X p height) names t) (light_says absent names (at 0 names t)) r out out_now → IsOkOrMemory r
        by (inl clash) = absurd (none-clashes X held (plans.blocks X N p t) order plan (in-plan (λ (b : Held). held b.0 ≡ Some b.1) plan) clash)
        by (inr a) =
            answered order (needs_at X N p (file_needs X p height) names t) said r out out_now faults faults_now needs-so behind
            (subst (λ (v : Result (List ℕ) LightFault). Accepts (sections_told order) (needs_at X N p (file_needs X p height) names t) v r out out_now) is a) counts stood
