-- The plan of a folder, by those of its members.
use Rattle.std.proofs.Common.{◌≡◌, ℕ, List, [], ◌∷◌, ◌++◌, refl, ap, sym, ◌∙◌, subst, Bool, true, false, ◌&&◌, Some, None, map}
use Rattle.std.specs.Prelude.{IsTrue}
use Rattle.std.specs.declared.cmp.Ordering.{Ordering}
use Rattle.std.specs.declared.cmp.Ordering.TheVariants.{Less}
use Rattle.std.specs.FinMap.Entries.{below_all, is_sorted}
use Rattle.std.specs.List.{AllByRecursion, flat_map}
use Rattle.std.specs.List.Sorted.{IsStrictlySortedBy}
use Rattle.std.specs.Ordering.{is_lt, nat_cmp}
use Rattle.std.proofs.lemmas.Grind.{flat_map-append}
use Rattle.std.proofs.lemmas.List.{append-nil}
use Rattle.std.specs.Cmp.Lexicographic.{slice_cmp}
use Rattle.uf_cid.specs.Blocks.{Held}
use Rattle.uf_store.specs.Among.{SavesAmong}
use Rattle.uf_store.specs.Contents.{Told}
use Rattle.uf_store.proofs.Among.{SavesAmong-append}
use Rattle.uf_store.specs.Keeping.{AreGood, Holds, KeepsGood}
use Rattle.uf_store.proofs.Keeping.{Holds-append, Holds-kept}
use Rattle.uf_tree.specs.Metas.{none}
use Rattle.uf_tree.specs.declared.profile.Profile.{Profile}
use Rattle.uf_tree.specs.DirPlan.{own_plan}
use Rattle.uf_tree.specs.Names.{names_cmp}
use Rattle.uf_tree.specs.Nodes.{Named}
use Rattle.uf_tree.specs.Profiles.{is_profile}
use Rattle.uf_tree.specs.Tree.{Tree, Dir, entries, fold, fold_each, is_tree, are_trees}
use Rattle.uf_tree.specs.TreePlan.{Planned, planned, planned_file, planned_dir, members, first_refusal, or_else, dir_refusal, entry, blocks, refusal}
use Rattle.uf_tree.specs.Validity.{IsDirectory, IsHash, IsNamed}
use Rattle.uf_tree.proofs.TreeLaws.{fold_each-pairs, meta-entries, pairs-entries}
use Rattle.uf_tree.proofs.Valid.{entry-valid}
use Rattle.uf_tree.specs.declared.meta.Meta.{Meta}
use Rattle.uf_laws.proofs.Held.{tree-digested}
use Rattle.uf_host.specs.Adding.{HasHeldPlan, IsMember, members_blocks}
use Rattle.uf_host.specs.HostTree.{Members, with_entries}

and-true : (a b : Bool) → a ≡ true → b ≡ true → a && b ≡ true
and-true true b h k = k
and-true false b h k = h

below-each : {A : Type 0} (c : List ℕ) (ms : List (List ℕ × A)) → AllByRecursion (λ y. slice_cmp nat_cmp c y ≡ Less) (map (λ (m : List ℕ × A). m.0) ms) → below_all names_cmp c ms ≡ true
below-each c [] h = refl
below-each c (m ∷ ms) h = ap (λ (r : Ordering). is_lt r && below_all names_cmp c ms) h.0 ∙ below-each c ms h.1

-- names that ascend are those of sorted pairs
pub sorted-names : {A : Type 0} (ms : List (List ℕ × A)) → IsStrictlySortedBy (slice_cmp nat_cmp) (map (λ (m : List ℕ × A). m.0) ms) → is_sorted names_cmp ms ≡ true
unfolding IsStrictlySortedBy
sorted-names [] h = refl
sorted-names (m ∷ ms) h = ap (λ (b : Bool). b && is_sorted names_cmp ms) (below-each m.0 ms h.0) ∙ sorted-names ms h.1

module _ (X : List ℕ → List ℕ) (N : List ℕ → ℕ) (p : Profile) where
  -- the members' plans
  abbrev plans : Members → List (List ℕ × Planned)
  plans ms = map (λ (m : List ℕ × Tree). (m.0, planned X N p m.1)) ms

  abbrev below_blocks : Members → List Held
  below_blocks ms = flat_map (λ (m : List ℕ × Planned). m.1.plan.blocks) (plans ms)

  planned-dir : (ms : Members) → planned X N p (Dir (entries none ms)) ≡ planned_dir X N p none (plans ms)
  unfolding planned fold
  planned-dir ms = ap (λ (m : Meta). planned_dir X N p m (fold_each (planned_file X N p) (planned_dir X N p) (entries none ms))) (meta-entries none ms) ∙ ap (planned_dir X N p none) (fold_each-pairs (planned_file X N p) (planned_dir X N p) (entries none ms) ∙ ap plans (pairs-entries none ms))

  members-plans : (ms : Members) → members X N p (plans ms) ≡ with_entries X N p ms
  members-plans [] = refl
  members-plans (m ∷ ms) = ap (λ k. (m.0, entry X N p m.1) ∷ k) (members-plans ms)

  pub entry-is : (ms : Members) → entry X N p (Dir (entries none ms)) ≡ (own_plan X N p none (with_entries X N p ms)).entry
  entry-is ms = ap (λ (q : Planned). q.plan.entry) (planned-dir ms) ∙ ap (λ l. (own_plan X N p none l).entry) (members-plans ms)

  blocks-is : (ms : Members) → blocks X N p (Dir (entries none ms)) ≡ below_blocks ms ++ (own_plan X N p none (with_entries X N p ms)).blocks
  blocks-is ms = ap (λ (q : Planned). q.plan.blocks) (planned-dir ms) ∙ ap (λ l. below_blocks ms ++ (own_plan X N p none l).blocks) (members-plans ms)

  below-members : (ms : Members) → below_blocks ms ≡ members_blocks X N p ms
  below-members [] = refl
  below-members (m ∷ ms) = ap (λ l. blocks X N p m.1 ++ l) (below-members ms)

  pub blocks-more : (ms : Members) (name : List ℕ) (t : Tree) → members_blocks X N p (ms ++ (name, t) ∷ []) ≡ members_blocks X N p ms ++ blocks X N p t
  blocks-more ms name t =
      flat_map-append (λ (m : List ℕ × Tree). blocks X N p m.1) ms ((name, t) ∷ []) ∙ ap (λ l. members_blocks X N p ms ++ l) (append-nil (blocks X N p t))

  -- what is saved of the members, and then of the folder
  pub folder-saves : (ms : Members) (l : List Named) (start a b : Told) → l ≡ with_entries X N p ms → SavesAmong X (members_blocks X N p ms) start a → SavesAmong X (own_plan X N p none l).blocks a b
      → SavesAmong X (blocks X N p (Dir (entries none ms))) start b
  folder-saves ms l start a b is first then =
      let own : List Held = (own_plan X N p none (with_entries X N p ms)).blocks in
      let whole : members_blocks X N p ms ++ own ≡ blocks X N p (Dir (entries none ms)) = ap (λ k. k ++ own) (sym (below-members ms)) ∙ sym (blocks-is ms) in
      subst (λ (k : List Held). SavesAmong X k start b) whole
      (SavesAmong-append X (members_blocks X N p ms) own start a b first (subst (λ (k : List Named). SavesAmong X (own_plan X N p none k).blocks a b) is then))

  refusal-is : (ms : Members) → refusal X N p (Dir (entries none ms)) ≡ or_else (first_refusal (plans ms)) (dir_refusal X N p none (with_entries X N p ms))
  refusal-is ms = ap (λ (q : Planned). q.refusal) (planned-dir ms) ∙ ap (λ l. or_else (first_refusal (plans ms)) (dir_refusal X N p none l)) (members-plans ms)

  module _ (told : Told) where
    members-held : (ms : Members) → AllByRecursion (IsMember X N p told) ms → Holds told [] → Holds told (below_blocks ms)
    members-held [] h k = k
    members-held (m ∷ ms) h k = Holds-append told (blocks X N p m.1) (below_blocks ms) h.0.plan.held (members-held ms h.1 k)

    first-none : (ms : Members) → AllByRecursion (IsMember X N p told) ms → first_refusal (plans ms) ≡ None
    first-none [] h = refl
    first-none (m ∷ ms) h = ap (λ o. or_else o (first_refusal (plans ms))) h.0.plan.whole ∙ first-none ms h.1

    members-trees : (ms : Members) → AllByRecursion (IsMember X N p told) ms → are_trees (entries none ms) ≡ true
    unfolding is_tree
    members-trees [] h = refl
    members-trees (m ∷ ms) h = and-true _ _ (and-true _ _ h.0.name h.0.plan.tree) (members-trees ms h.1)

    nothing-held : Holds told []
    nothing-held = by told
      where
        by : (t : Told) → Holds t []
        by None = tt
        by (Some t) = tt

    -- where nothing refuses the directory of members that have plans, the folder has one
    pub folder-plan : (ms : Members) → AllByRecursion (IsMember X N p told) ms → is_sorted names_cmp ms ≡ true
        → dir_refusal X N p none (with_entries X N p ms) ≡ None → Holds told (own_plan X N p none (with_entries X N p ms)).blocks
        → HasHeldPlan X N p told (Dir (entries none ms))
    unfolding is_tree
    folder-plan ms each sorted unrefused held = record {
      tree = and-true _ _ (ap (is_sorted names_cmp) (pairs-entries none ms) ∙ sorted) (members-trees ms each);
      whole = refusal-is ms ∙ ap (λ o. or_else o (dir_refusal X N p none (with_entries X N p ms))) (first-none ms each) ∙ unrefused;
      held = subst (Holds told) (sym (blocks-is ms)) (Holds-append told (below_blocks ms) _ (members-held ms each nothing-held) held);
    }

    pub members-valid : IsHash X → IsTrue (is_profile p) → (ms : Members) → AllByRecursion (IsMember X N p told) ms → AllByRecursion IsNamed (with_entries X N p ms)
    members-valid good ok [] h = tt
    members-valid good ok (m ∷ ms) h = (record { name = h.0.name; entry = entry-valid X good N p ok m.1 }, members-valid good ok ms h.1)

  -- each block of a tree has its CID's digest
  are-good : (t : Tree) → AreGood X (blocks X N p t)
  are-good t = flip _ (tree-digested X N p t)
    where
      flip : (l : List Held) → AllByRecursion (λ (b : Held). b.0.digest ≡ X b.1) l → AreGood X l
      flip [] h = tt
      flip (b ∷ l) h = (sym h.0, flip l h.1)

  -- what is held stays held where good blocks are kept
  pub plan-kept : (a b : Told) (t : Tree) → KeepsGood X a b → HasHeldPlan X N p a t → HasHeldPlan X N p b t
  plan-kept a b t keeps h = record { tree = h.tree; whole = h.whole; held = Holds-kept X a b (blocks X N p t) (are-good t) keeps h.held }

  pub members-kept : (a b : Told) (ms : Members) → KeepsGood X a b → AllByRecursion (IsMember X N p a) ms → AllByRecursion (IsMember X N p b) ms
  members-kept a b [] keeps h = tt
  members-kept a b (m ∷ ms) keeps h = (record { name = h.0.name; plan = plan-kept a b m.1 keeps h.0.plan }, members-kept a b ms keeps h.1)

  with-names : (ms : Members) → map (λ (e : Named). e.0) (with_entries X N p ms) ≡ map (λ (m : List ℕ × Tree). m.0) ms
  with-names [] = refl
  with-names (m ∷ ms) = ap (λ names. m.0 ∷ names) (with-names ms)

  -- the pairs of members under names that ascend are those of a directory
  pub directory-of : IsHash X → IsTrue (is_profile p) → (told : Told) (ms : Members) (names : List (List ℕ)) → map (λ (m : List ℕ × Tree). m.0) ms ≡ names
      → IsStrictlySortedBy (slice_cmp nat_cmp) names → AllByRecursion (IsMember X N p told) ms → IsDirectory (with_entries X N p ms)
  directory-of good ok told ms names named ascend each = record {
    sorted = sorted-names (with_entries X N p ms) (subst (IsStrictlySortedBy (slice_cmp nat_cmp)) (sym (with-names ms ∙ named)) ascend);
    each = members-valid told good ok ms each;
  }
