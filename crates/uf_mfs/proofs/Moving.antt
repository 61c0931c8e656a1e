-- Folders whose members change, over blocks of which some may be lost.
use Rattle.std.proofs.Common.{◌≡◌, ◌≢◌, ℕ, ◌<◌, ◌^◌, List, [], ◌∷◌, ◌++◌, refl, ap, sym, ◌∙◌, subst, Option, Some, None, Result, Ok, Err, ◌≤◌, ◌+◌}
use Rattle.std.specs.Prelude.{IsTrue}
use Rattle.std.specs.Option.{option_map}
use Rattle.std.specs.FinMap.Entries.{find, put}
use Rattle.uf_cid.specs.Blocks.{Held}
use Rattle.uf_shard.specs.declared.fault.DirFault.{DirFault}
use Rattle.uf_shard.specs.declared.fault.DirFault.TheVariants as dir
use Rattle.uf_shard.specs.Answers.{GivesOver}
use Rattle.uf_store.specs.declared.store.StoreFault.{StoreFault}
use Rattle.uf_store.specs.Contents.{Told}
use Rattle.uf_store.specs.Keeping.{Agrees, AreGood, KeepsGood, StaysAgreed}
use Rattle.uf_store.specs.Lost.{AgreesAfter, IsLossOf, ReadsOver}
use Rattle.uf_store.proofs.Lost.{after-then}
use Rattle.uf_tree.specs.declared.nodes.Entry.{Entry}
use Rattle.uf_tree.specs.declared.profile.Profile.{Profile}
use Rattle.uf_tree.specs.Changes.{with_name, without}
use Rattle.uf_tree.specs.Names.{names_cmp, is_name}
use Rattle.uf_tree.specs.Nodes.{Named}
use Rattle.uf_tree.specs.Profiles.{is_profile}
use Rattle.uf_tree.specs.Tree.{own_meta, Tree, Dir, Entries, pairs, is_tree}
use Rattle.uf_tree.specs.TreePlan.{Refusal, blocks, dir_refusal, entry, first_refusal, named_entries, or_else, refusal}
use Rattle.uf_tree.specs.Validity.{IsHash}
use Rattle.uf_tree.proofs.TreeLaws.{named_entries-with, named_entries-without}
use Rattle.uf_laws.proofs.Removed.{removed-plan}
use Rattle.uf_dir.specs.Bounds.{crossing, weighing_from}
use Rattle.uf_dir.specs.Planned.{IsPlanned, dir_entry, entry_without, own_blocks}
use Rattle.uf_plain.specs.declared.rule.Refused.{Refused}
use Rattle.uf_plain.proofs.Edited.{tree-with, tree-without}
use Rattle.uf_plain.specs.Rules.{allowed, refused_by, unless}
use Rattle.uf_plain.specs.Edits.{child, with_child, with_folder, without_child}
use Rattle.uf_plain.proofs.Plans.{Each, below_blocks, blocks-is, each-put, each-where, entry-is, find-child, first-none, first-put, named, none-second, plans, refusal-is}
use Rattle.uf_mfs.specs.declared.fault.Stop.{Stop}
use Rattle.uf_mfs.specs.declared.fault.Stop.TheVariants as stop
use Rattle.uf_mfs.specs.Answers.{EditsAfter, stop_of}
use Rattle.uf_mfs.specs.Missing.{MissesOnly}
use Rattle.uf_mfs.specs.Steps.{stop_fault}
use Rattle.uf_plain.specs.Needs.{own_needs}
use Rattle.uf_mfs.specs.Standing.{IsAfter, IsPlanOf}
use Rattle.uf_mfs.proofs.After.{Among, after-both, after-kept, after-some, after-wider, among-then, back-among, front-among, loss-after, loss-among, stays-some}
use Rattle.uf_mfs.proofs.Agreed.{Own, members-own, own-among}
use Rattle.uf_mfs.proofs.Hinge.{are-good}
use Rattle.uf_mfs.proofs.Holding.{agrees-among, append}
use Rattle.uf_mfs.proofs.Planning.{planned-of}
use Rattle.uf_tree.specs.declared.meta.Meta.{Meta}
use Rattle.uf_plain.proofs.Kept.{meta-without, meta-with, pairs-without, pairs-with}

module _ (X : List ℕ → List ℕ) (N : List ℕ → ℕ) (p : Profile) where
  -- ---- plans

  each-planned : (l : List (List ℕ × Tree)) → Each (Own X N p) l → Each (λ t. refusal X N p t ≡ None) l
  each-planned [] h = tt
  each-planned (m ∷ l) h = (h.0.planned, each-planned l h.1)

  -- where each member has a plan, the folder is refused as its directory is
  pub own-refusal : (es : Entries) → Each (Own X N p) (pairs es) → refusal X N p (Dir es) ≡ dir_refusal X N p (own_meta es) (named_entries X N p es)
  own-refusal es all = refusal-is X N p es ∙ ap (λ o. or_else o (dir_refusal X N p (own_meta es) (named X N p (pairs es)))) (first-none X N p (pairs es) (each-planned (pairs es) all))

  pub plan-from : (e : Entry) (es : Entries) → IsTrue (is_profile p) → IsTrue (is_tree (Dir es)) → Each (Own X N p) (pairs es) → e ≡ dir_entry X N p (own_meta es) (named_entries X N p es)
      → dir_refusal X N p (own_meta es) (named_entries X N p es) ≡ None → IsPlanOf X N p e (Dir es)
  plan-from e es ok tree all is planned = record { profile = ok; tree = tree; planned = own-refusal es all ∙ planned; is = is ∙ sym (entry-is X N p es) }

  own-of : (e : Entry) (t : Tree) → IsPlanOf X N p e t → Own X N p t
  own-of e t s = record { profile = s.profile; tree = s.tree; planned = s.planned; is = refl }

  own-with : (folder e : Entry) (es : Entries) (name : List ℕ) (u : Tree) → IsPlanOf X N p folder (Dir es) → IsPlanOf X N p e u → Each (Own X N p) (pairs (with_child name u es))
  own-with folder e es name u s new = subst (Each (Own X N p)) (sym (pairs-with name u es)) (each-put (Own X N p) name u (pairs es) (own-of e u new) (members-own X N p folder es s))

  own-without : (folder : Entry) (es : Entries) (name : List ℕ) → IsPlanOf X N p folder (Dir es) → Each (Own X N p) (pairs (without_child name es))
  own-without folder es name s = subst (Each (Own X N p)) (sym (pairs-without name es)) (each-where (Own X N p) _ (pairs es) (members-own X N p folder es s))

  -- what refuses a member refuses the folder with it
  pub refused-above : (folder : Entry) (es : Entries) (name : List ℕ) (u : Tree) (x : Refusal) → IsPlanOf X N p folder (Dir es) → refusal X N p u ≡ Some x → refusal X N p (Dir (with_child name u es)) ≡ Some x
  refused-above folder es name u x s h =
      let list : pairs (with_child name u es) ≡ put names_cmp name u (pairs es) = pairs-with name u es in
      refusal-is X N p (with_child name u es)
      ∙ ap (λ l. or_else (first_refusal (plans X N p l)) (dir_refusal X N p (own_meta (with_child name u es)) (named X N p (pairs (with_child name u es))))) list
      ∙ ap (λ o. or_else o (dir_refusal X N p (own_meta (with_child name u es)) (named X N p (pairs (with_child name u es))))) (first-put X N p name u (pairs es) (each-planned (pairs es) (members-own X N p folder es s)) ∙ h)

  -- the list of a folder after a put
  pub list-with : (name : List ℕ) (u : Tree) (e : Entry) (es : Entries) → e ≡ entry X N p u → with_name name e (named_entries X N p es) ≡ named_entries X N p (with_child name u es)
  list-with name u e es is = ap (λ e. with_name name e (named_entries X N p es)) is ∙ sym (named_entries-with X N p (own_meta es) name u es)

  -- ---- blocks

  pub own-dir : (es : Entries) → Among (own_blocks X N p (own_meta es) (named_entries X N p es)) (blocks X N p (Dir es))
  own-dir es P h = own-among X N p es P h

  pub good-both : (k l : List Held) → AreGood X k → AreGood X l → AreGood X (k ++ l)
  good-both k l g h = append _ k l g h

  module _ (a b : Told) (old : List Held) where
    abbrev After : Tree → Type 0
    After t = AgreesAfter a b old (blocks X N p t)

    below-after : (l : List (List ℕ × Tree)) → AgreesAfter a b old (below_blocks X N p l) → Each After l
    below-after [] h = tt
    below-after (m ∷ l) h =
        (after-some a b old _ _ (front-among (blocks X N p m.1) (below_blocks X N p l)) h, below-after l (after-some a b old _ _ (back-among (blocks X N p m.1) (below_blocks X N p l)) h))

    pub members-after : (es : Entries) → After (Dir es) → Each After (pairs es)
    members-after es h = below-after (pairs es) (after-some a b old _ _ (front-among (below_blocks X N p (pairs es)) _) (subst (AgreesAfter a b old) (blocks-is X N p es) h))

    after-below : (l : List (List ℕ × Tree)) → AgreesAfter a b old [] → Each After l → AgreesAfter a b old (below_blocks X N p l)
    after-below [] none h = none
    after-below (m ∷ l) none h = after-both a b old (blocks X N p m.1) (below_blocks X N p l) h.0 (after-below l none h.1)

    -- a folder's blocks, by those of its members and its own
    pub folder-after : (es : Entries) → Each After (pairs es) → AgreesAfter a b old (own_blocks X N p (own_meta es) (named_entries X N p es)) → After (Dir es)
    folder-after es each own = subst (AgreesAfter a b old) (sym (blocks-is X N p es))
        (after-both a b old (below_blocks X N p (pairs es)) _ (after-below (pairs es) (after-some a b old [] _ (λ P h. tt) own) each) own)

    abbrev pub Is : Entries → Entry → Type 0
    Is es e = IsAfter X N a b old p e (Dir es)

    unless-ok : (es : Entries) (e : Entry) (o : Option Refusal) → o ≡ None → Is es e → EditsAfter X N a b old p (unless es o) (Ok e)
    unless-ok es e o none s = subst (λ o. EditsAfter X N a b old p (unless es o) (Ok e)) (sym none) s

    unless-stop : (es : Entries) (o : Option Refusal) (x : Refusal) → o ≡ Some x → EditsAfter X N a b old p (unless es o) (Err (stop.Refused (refused_by x)))
    unless-stop es o x some = subst (λ o. EditsAfter X N a b old p (unless es o) (Err (stop.Refused (refused_by x)))) (sym some) refl

    -- a loss that may come, whatever the plain tree gives
    pub lost-edit : (w : Result Entries Refused) (f : StoreFault) → IsLossOf a old f → EditsAfter X N a b old p w (Err (stop.Store f))
    lost-edit (Ok es) f h = h
    lost-edit (Err why) f h = h

    pub allowed-ok : (es : Entries) (e : Entry) → EditsAfter X N a b old p (allowed X N p (Ok es)) (Ok e) → Is es e
    allowed-ok es e h = by (refusal X N p (Dir es)) h
      where
        by : (o : Option Refusal) → EditsAfter X N a b old p (unless es o) (Ok e) → Is es e
        by None h = h
        by (Some x) h = absurd h

  -- what is said from a later moment is said from an earlier one
  pub later : (a c d : Told) (old mid : List Held) (w : Result Entries Refused) (r : Result Entry Stop) → AgreesAfter a c old mid → EditsAfter X N c d mid p w r → EditsAfter X N a d old p w r
  later a c d old mid (Ok es) (Ok e) first h = record { plan = h.plan; after = after-then a c d old mid _ first h.after }
  later a c d old mid (Err why) (Ok e) first h = h
  later a c d old mid (Ok es) (Err (stop.Refused given)) first h = h
  later a c d old mid (Err why) (Err (stop.Refused given)) first h = h
  later a c d old mid (Ok es) (Err (stop.Store f)) first h = loss-after a c old mid f first h
  later a c d old mid (Err why) (Err (stop.Store f)) first h = loss-after a c old mid f first h

  module _ (hash : IsHash X) (fits : (name : List ℕ) → N name < 2 ^ 64) (c d : Told) (folder : Entry) (es : Entries) where
    l : List Named
    l = named_entries X N p es

    abbrev meta : Meta
    meta = own_meta es

    -- ---- a put

    -- what it misses is one of the directory's own blocks
    pub put-loses : (e : Entry) (name : List ℕ) (f : DirFault) (s : Stop) → s ≡ stop_of f → IsPlanOf X N p folder (Dir es) → StaysAgreed c d (blocks X N p (Dir es))
        → ((meta : Meta) (l : List Named) → IsPlanned X N p meta folder.cid l → Agrees c (own_blocks X N p meta l) → GivesOver c (own_blocks X N p meta l) (dir_refusal X N p meta (with_name name e l)) (dir_entry X N p meta (with_name name e l)) (Err f))
        → MissesOnly c (own_needs X N p (Dir es)) (stop_fault {A = Option Entry} (Err s))
    put-loses e name f s is i stays puts =
        subst (λ s. MissesOnly c (own_needs X N p (Dir es)) (stop_fault {A = Option Entry} (Err s))) (sym is)
        (by f (puts meta (named_entries X N p es) (planned-of X N p folder es i hash fits) (agrees-among c _ _ (own-dir es) stays.first)))
      where
        by : (f : DirFault) → GivesOver c (own_blocks X N p (own_meta es) (named_entries X N p es)) (dir_refusal X N p meta (with_name name e (named_entries X N p es))) (dir_entry X N p meta (with_name name e (named_entries X N p es))) (Err f)
            → MissesOnly c (own_needs X N p (Dir es)) (stop_fault {A = Option Entry} (Err (stop_of f)))
        by (dir.Collision first second) gives = tt
        by dir.TooBig gives = tt
        by (dir.Store g) gives = gives

    module _ (e : Entry) (name : List ℕ) (u : Tree) where
      abbrev Mid : List Held
      Mid = blocks X N p u ++ blocks X N p (Dir es)

      own-mid : Among (own_blocks X N p (own_meta es) (named_entries X N p es)) Mid
      own-mid = among-then _ _ _ (own-dir es) (back-among (blocks X N p u) (blocks X N p (Dir es)))

      -- a put is refused as the edited folder is, or an own block is lost
      pub put-err : (f : DirFault) (s : Stop) → s ≡ stop_of f → IsPlanOf X N p folder (Dir es) → IsPlanOf X N p e u → StaysAgreed c d Mid
          → ((meta : Meta) (l : List Named) → IsPlanned X N p meta folder.cid l → Agrees c (own_blocks X N p meta l) → GivesOver c (own_blocks X N p meta l) (dir_refusal X N p meta (with_name name e l)) (dir_entry X N p meta (with_name name e l)) (Err f))
          → EditsAfter X N c d Mid p (allowed X N p (Ok (with_child name u es))) (Err s)
      put-err f s is i new stays puts =
          let gives = puts meta (named_entries X N p es) (planned-of X N p folder es i hash fits) (agrees-among c Mid _ own-mid stays.first) in
          let own : refusal X N p (Dir (with_child name u es)) ≡ dir_refusal X N p meta (with_name name e (named_entries X N p es)) =
          own-refusal (with_child name u es) (own-with folder e es name u i new) ∙ ap (λ m. dir_refusal X N p m (named_entries X N p (with_child name u es))) (meta-with name u es)
          ∙ ap (dir_refusal X N p meta) (sym (list-with name u e es new.is)) in
          subst (λ s. EditsAfter X N c d Mid p (allowed X N p (Ok (with_child name u es))) (Err s)) (sym is) (by f gives own)
        where
          by : (f : DirFault) → GivesOver c (own_blocks X N p (own_meta es) (named_entries X N p es)) (dir_refusal X N p meta (with_name name e (named_entries X N p es))) (dir_entry X N p meta (with_name name e (named_entries X N p es))) (Err f)
              → refusal X N p (Dir (with_child name u es)) ≡ dir_refusal X N p meta (with_name name e (named_entries X N p es))
              → EditsAfter X N c d Mid p (allowed X N p (Ok (with_child name u es))) (Err (stop_of f))
          by (dir.Collision first second) gives own = unless-stop c d Mid (with_child name u es) _ _ (own ∙ gives)
          by dir.TooBig gives own = unless-stop c d Mid (with_child name u es) _ _ (own ∙ gives)
          by (dir.Store g) gives own = lost-edit c d Mid (allowed X N p (Ok (with_child name u es))) g (loss-among c _ Mid g own-mid gives)

      -- a put is done where the edited folder has a plan
      pub put-done : (new : Entry) → IsTrue (is_name name) → IsPlanOf X N p folder (Dir es) → IsPlanOf X N p e u → KeepsGood X c d → StaysAgreed c d Mid
          → ((meta : Meta) (l : List Named) → IsPlanned X N p meta folder.cid l → Agrees c (own_blocks X N p meta l) → GivesOver c (own_blocks X N p meta l) (dir_refusal X N p meta (with_name name e l)) (dir_entry X N p meta (with_name name e l)) (Ok new))
          → ((meta : Meta) (l : List Named) → IsPlanned X N p meta folder.cid l → StaysAgreed c d (own_blocks X N p meta l) → AgreesAfter c d (own_blocks X N p meta l) (own_blocks X N p meta (with_name name e l)))
          → EditsAfter X N c d Mid p (allowed X N p (Ok (with_child name u es))) (Ok new)
      put-done new good i j keeps stays puts after =
          let planned = planned-of X N p folder es i hash fits in
          let gives = puts meta (named_entries X N p es) planned (agrees-among c Mid _ own-mid stays.first) in
          let same = list-with name u e es j.is in
          let own : AgreesAfter c d Mid (own_blocks X N p (own_meta (with_child name u es)) (named_entries X N p (with_child name u es))) =
          subst (λ m. AgreesAfter c d Mid (own_blocks X N p m (named_entries X N p (with_child name u es)))) (sym (meta-with name u es))
          (subst (λ l. AgreesAfter c d Mid (own_blocks X N p meta l)) same (after-wider c d _ Mid _ own-mid (after meta (named_entries X N p es) planned (stays-some c d _ Mid own-mid stays)))) in
          let kept : AgreesAfter c d Mid Mid = after-kept X c d Mid (good-both _ _ (are-good X N p u) (are-good X N p (Dir es))) keeps stays in
          let each = subst (Each (λ t. AgreesAfter c d Mid (blocks X N p t))) (sym (pairs-with name u es))
          (each-put (λ t. AgreesAfter c d Mid (blocks X N p t)) name u (pairs es) (after-some c d Mid _ _ (front-among (blocks X N p u) (blocks X N p (Dir es))) kept)
          (members-after c d Mid es (after-some c d Mid _ _ (back-among (blocks X N p u) (blocks X N p (Dir es))) kept))) in
          let plan = plan-from new (with_child name u es) i.profile (tree-with name u es good j.tree i.tree) (own-with folder e es name u i j)
          (gives.1 ∙ ap (dir_entry X N p meta) same ∙ ap (λ m. dir_entry X N p m (named_entries X N p (with_child name u es))) (sym (meta-with name u es)))
          (ap (λ m. dir_refusal X N p m (named_entries X N p (with_child name u es))) (meta-with name u es) ∙ ap (dir_refusal X N p meta) (sym same) ∙ gives.0) in
          unless-ok c d Mid (with_child name u es) new _ plan.planned (record { plan = plan; after = folder-after c d Mid (with_child name u es) each own })

      -- and so are its touches
      pub put-bound : (t0 t1 : ℕ) → IsPlanOf X N p folder (Dir es) → IsPlanOf X N p e u → StaysAgreed c d Mid
          → ((meta : Meta) (l : List Named) → IsPlanned X N p meta folder.cid l → Agrees c (own_blocks X N p meta l) → t1 ≤ t0 + (17 + crossing X N p l (with_name name e l)))
          → t1 ≤ t0 + (17 + crossing X N p (named_entries X N p es) (named_entries X N p (with_child name u es)))
      put-bound t0 t1 i new stays puts =
          subst (λ l. t1 ≤ t0 + (17 + crossing X N p (named_entries X N p es) l)) (list-with name u e es new.is)
          (puts meta (named_entries X N p es) (planned-of X N p folder es i hash fits) (agrees-among c Mid _ own-mid stays.first))

    -- ---- a removal of a name that is there

    there : (o : Option Tree) → o ≢ None → (t : Tree) × (o ≡ Some t)
    there None h = absurd (h refl)
    there (Some t) h = (t, refl)

    found-old : (name : List ℕ) → child name es ≢ None → (old : Entry) × (find names_cmp name (named_entries X N p es) ≡ Some old)
    found-old name h =
        let t = there (child name es) h in
        (entry X N p t.0, find-child X N p es name ∙ ap (option_map (λ t. entry X N p t)) t.1)

    left-is : (name : List ℕ) → child name es ≢ None → entry_without X N p meta name (named_entries X N p es) ≡ Some (dir_entry X N p meta (without name (named_entries X N p es)))
    left-is name h =
        let old = found-old name h in
        ap (λ (o : Option Entry). elim o as (λ o. Option Entry) [ None ↦ None | Some old ↦ Some (dir_entry X N p meta (without name (named_entries X N p es))) ]) old.1

    pub take-says : (name : List ℕ) (r q : Result (Option Entry) StoreFault) → r ≡ q → IsPlanOf X N p folder (Dir es) → StaysAgreed c d (blocks X N p (Dir es))
        → ((meta : Meta) (l : List Named) → IsPlanned X N p meta folder.cid l → StaysAgreed c d (own_blocks X N p meta l) → ReadsOver c (own_blocks X N p meta l) (entry_without X N p meta name l) r)
        → ReadsOver c (own_blocks X N p (own_meta es) (named_entries X N p es)) (entry_without X N p meta name (named_entries X N p es)) q
    take-says name r q is i stays takes =
        subst (ReadsOver c (own_blocks X N p (own_meta es) (named_entries X N p es)) (entry_without X N p meta name (named_entries X N p es))) is
        (takes meta _ (planned-of X N p folder es i hash fits) (stays-some c d _ _ (own-dir es) stays))

    pub take-err : (name : List ℕ) (f : StoreFault) → IsLossOf c (own_blocks X N p (own_meta es) (named_entries X N p es)) f
        → EditsAfter X N c d (blocks X N p (Dir es)) p (allowed X N p (Ok (without_child name es))) (Err (stop.Store f))
    take-err name f loss = lost-edit c d _ (allowed X N p (Ok (without_child name es))) f (loss-among c _ _ f (own-dir es) loss)

    pub taken-not : (name : List ℕ) → child name es ≢ None → None ≡ entry_without X N p meta name (named_entries X N p es) → ⊥
    taken-not name h is = (let some : None ≡ Some (dir_entry X N p meta (without name (named_entries X N p es))) = is ∙ left-is name h in cc)

    pub take-done : (new : Entry) (name : List ℕ) → KeepsGood X c d → IsPlanOf X N p folder (Dir es) → StaysAgreed c d (blocks X N p (Dir es)) → child name es ≢ None
        → Some new ≡ entry_without X N p meta name (named_entries X N p es)
        → ((meta : Meta) (l : List Named) → IsPlanned X N p meta folder.cid l → StaysAgreed c d (own_blocks X N p meta l) → AgreesAfter c d (own_blocks X N p meta l) (own_blocks X N p meta (without name l)))
        → EditsAfter X N c d (blocks X N p (Dir es)) p (allowed X N p (Ok (without_child name es))) (Ok new)
    take-done new name keeps i stays h is after =
        let planned = planned-of X N p folder es i hash fits in
        let old = found-old name h in
        let same : without name (named_entries X N p es) ≡ named_entries X N p (without_child name es) = sym (named_entries-without X N p (own_meta es) name es) in
        let some : Some new ≡ Some (dir_entry X N p meta (without name (named_entries X N p es))) = is ∙ left-is name h in
        let new_is : new ≡ dir_entry X N p meta (without name (named_entries X N p es)) = cc in
        let gone = removed-plan X N meta name old.0 (named_entries X N p es) hash fits planned.valid old.1 p (none-second _ _ (sym (refusal-is X N p es) ∙ i.planned)) in
        let own : AgreesAfter c d (blocks X N p (Dir es)) (own_blocks X N p (own_meta (without_child name es)) (named_entries X N p (without_child name es))) =
        subst (λ m. AgreesAfter c d (blocks X N p (Dir es)) (own_blocks X N p m (named_entries X N p (without_child name es)))) (sym (meta-without name es))
        (subst (λ l. AgreesAfter c d (blocks X N p (Dir es)) (own_blocks X N p meta l)) same (after-wider c d _ _ _ (own-dir es) (after meta (named_entries X N p es) planned (stays-some c d _ _ (own-dir es) stays)))) in
        let kept = after-kept X c d (blocks X N p (Dir es)) (are-good X N p (Dir es)) keeps stays in
        let each = subst (Each (λ t. AgreesAfter c d (blocks X N p (Dir es)) (blocks X N p t))) (sym (pairs-without name es))
        (each-where (λ t. AgreesAfter c d (blocks X N p (Dir es)) (blocks X N p t)) _ (pairs es) (members-after c d _ es kept)) in
        let plan = plan-from new (without_child name es) i.profile (tree-without name es i.tree) (own-without folder es name i)
        (new_is ∙ ap (dir_entry X N p meta) same ∙ ap (λ m. dir_entry X N p m (named_entries X N p (without_child name es))) (sym (meta-without name es)))
        (ap (λ m. dir_refusal X N p m (named_entries X N p (without_child name es))) (meta-without name es) ∙ ap (dir_refusal X N p meta) (sym same) ∙ gone) in
        unless-ok c d _ (without_child name es) new _ plan.planned (record { plan = plan; after = folder-after c d _ (without_child name es) each own })

    pub take-bound : (name : List ℕ) (t0 t1 : ℕ) → IsPlanOf X N p folder (Dir es) → StaysAgreed c d (blocks X N p (Dir es))
        → ((meta : Meta) (l : List Named) → IsPlanned X N p meta folder.cid l → StaysAgreed c d (own_blocks X N p meta l) → t1 ≤ t0 + (18 + weighing_from X N p name l + crossing X N p l (without name l)))
        → t1 ≤ t0 + (18 + weighing_from X N p name (named_entries X N p es) + crossing X N p (named_entries X N p es) (named_entries X N p (without_child name es)))
    take-bound name t0 t1 i stays takes =
        subst (λ l. t1 ≤ t0 + (18 + weighing_from X N p name (named_entries X N p es) + crossing X N p (named_entries X N p es) l)) (sym (named_entries-without X N p (own_meta es) name es))
        (takes meta (named_entries X N p es) (planned-of X N p folder es i hash fits) (stays-some c d _ _ (own-dir es) stays))

  -- ---- along the path

  -- what refuses below refuses above
  pub refused-up : (a d : Told) (old : List Held) (folder : Entry) (name : List ℕ) (es : Entries) (w : Result Entries Refused) (s : Stop) → IsPlanOf X N p folder (Dir es)
      → EditsAfter X N a d old p (allowed X N p w) (Err s) → EditsAfter X N a d old p (allowed X N p (with_folder name es w)) (Err s)
  refused-up a d old folder name es (Err why) s i h = h
  refused-up a d old folder name es (Ok below) s i h = by (refusal X N p (Dir below)) refl s h
    where
      by : (o : Option Refusal) → refusal X N p (Dir below) ≡ o → (s : Stop) → EditsAfter X N a d old p (unless below o) (Err s) → EditsAfter X N a d old p (allowed X N p (Ok (with_child name (Dir below) es))) (Err s)
      by None q (stop.Refused given) h = absurd h
      by None q (stop.Store f) h = lost-edit a d old (allowed X N p (Ok (with_child name (Dir below) es))) f h
      by (Some x) q s h = subst (λ o. EditsAfter X N a d old p (unless (with_child name (Dir below) es) o) (Err s)) (sym (refused-above folder es name (Dir below) x i q)) h
