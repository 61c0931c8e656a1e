-- What is under a name, or the root, with other metadata.
use Rattle.std.proofs.Common.{◌≡◌, ℕ, ◌+◌, ◌*◌, ◌≤◌, length, List, [], ◌∷◌, ◌++◌, refl, ap, sym, ◌∙◌, subst, arith, inl, inr, Option, Some, None, Result, Ok, Err}
use Rattle.std.specs.List.{AllByRecursion}
use Rattle.std.specs.Prelude.{IsTrue}
use Rattle.uf_cid.specs.Blocks.{Held}
use Rattle.uf_cid.specs.declared.cid.Cid.{Cid}
use Rattle.uf_store.specs.declared.store.Role.{Role}
use Rattle.uf_store.specs.declared.store.StoreFault.{StoreFault}
use Rattle.uf_store.specs.Calls.{OnlySaves}
use Rattle.uf_store.specs.Contents.{Told}
use Rattle.uf_store.specs.Keeping.{StaysAgreed}
use Rattle.uf_store.specs.Lost.{AgreesAfter, IsLossOf}
use Rattle.uf_store.specs.Seen.{Seen}
use Rattle.uf_store.proofs.Calls.{saves-by}
use Rattle.uf_tree.specs.declared.nodes.Entry.{Entry}
use Rattle.uf_tree.specs.declared.profile.Profile.{Profile}
use Rattle.uf_tree.specs.Metas.{none}
use Rattle.uf_tree.specs.Tree.{Tree, Dir, Entries, Nothing, entries, is_tree, meta_of, own_meta, pairs}
use Rattle.uf_tree.specs.TreePlan.{Refusal, blocks, named_entries, refusal}
use Rattle.uf_dir.specs.Bounds.{crossing}
use Rattle.uf_plain.specs.declared.meta_edit.MetaEdit.{MetaEdit}
use Rattle.uf_plain.specs.declared.rule.Refused.{Refused}
use Rattle.uf_plain.specs.declared.rule.Refused.TheVariants as why
use Rattle.uf_plain.specs.Edits.{and_then, at, child, with_child}
use Rattle.uf_plain.specs.Metas.{as_there, meta_after, meta_edited, remade, with_remade}
use Rattle.uf_plain.specs.Rules.{allowed, unless}
use Rattle.uf_plain.proofs.Edited.{with-same}
use Rattle.uf_mfs.specs.declared.fault.Stop.{Stop}
use Rattle.uf_mfs.specs.declared.fault.Stop.TheVariants as stop
use Rattle.uf_mfs.specs.declared.editing.Act.TheVariants.{Remake}
use Rattle.uf_mfs.specs.Acts.{acted_at}
use Rattle.uf_mfs.specs.Answers.{EditsAfter, MeetsOr}
use Rattle.uf_mfs.specs.Bad.{RequiresDirectory}
use Rattle.uf_mfs.specs.Remade.{ChangesMember, ChangesMeta, IsBadRemadeIn, member_blocks}
use Rattle.uf_mfs.specs.Standing.{IsAfter, IsPlanOf}
use Rattle.uf_mfs.specs.Steps.{ChangesFolder, ChangesOver, EditsFolder, IsFolderOver}
use Rattle.uf_mfs.specs.Touches.{TouchesFolder, crossings_of, where_done}
use Rattle.uf_mfs.proofs.After.{Among, after-wider, back-among, loss-among, stays-some}
use Rattle.uf_mfs.proofs.Agreed.{child-among}
use Rattle.uf_mfs.proofs.Folders.{beside, changes-over, over-then}
use Rattle.uf_mfs.proofs.Hinge.{are-good}
use Rattle.uf_mfs.proofs.Judging.{bad-below}
use Rattle.uf_mfs.proofs.Moving.{lost-edit, refused-above}
use Rattle.uf_mfs.proofs.Remade.{edit-refused, edit-there, put-there}
use Rattle.uf_mfs.proofs.Renewing.{renew-made}
use Rattle.uf_mfs.proofs.Touching.{done-most}

module _ (X : List ℕ → List ℕ) (N : List ℕ → ℕ) (p : Profile) where
  -- what is bad below a directory that is required
  pub remade-below : {fault : Option StoreFault} {a b : Seen} (root below : Cid) → RequiresDirectory X root below.digest
      → OnlySaves X (IsBadRemadeIn X N p below) fault a b → OnlySaves X (IsBadRemadeIn X N p root) fault a b
  remade-below root below r h = saves-by (IsBadRemadeIn X N p root) by h
    where
      by : (role : Role) (bytes : List ℕ) → IsBadRemadeIn X N p below role bytes → IsBadRemadeIn X N p root role bytes
      by role bytes (inl bad) = inl (bad-below X N (Some p) root below r role bytes bad)
      by role bytes (inr bad) = inr bad

  -- ---- what is under a name

  members-among : (name : List ℕ) (es : Entries) → Among (member_blocks X N p (child name es)) (blocks X N p (Dir es))
  members-among name es P h = by (child name es) refl
    where
      by : (o : Option Tree) → child name es ≡ o → AllByRecursion P (member_blocks X N p o)
      by None is = tt
      by (Some t) is = child-among X N p es name t is P h

  pub member-stays : (a b : Told) (name : List ℕ) (es : Entries) → StaysAgreed a b (blocks X N p (Dir es)) → StaysAgreed a b (member_blocks X N p (child name es))
  member-stays a b name es h = stays-some a b _ _ (members-among name es) h

  -- a change that stops stops the edit
  pub remake-stopped : (a c : Told) (what : MetaEdit) (led : ℕ) (folder : Entry) (name : List ℕ) (es : Entries) (s : Stop) → IsPlanOf X N p folder (Dir es)
      → ChangesMember X N p a c what led (child name es) (Err s) → EditsAfter X N a c (blocks X N p (Dir es)) p (allowed X N p (with_remade what led name es)) (Err s)
  remake-stopped a c what led folder name es s plan h = by (child name es) refl s h
    where
      lost : (t : Tree) (f : StoreFault) (o : Option Refusal)
          → MeetsOr (IsLossOf a (blocks X N p t)) (λ u e. IsAfter X N a c (blocks X N p t) p e u) (unless (remade what t) o) (Err (stop.Store f)) → IsLossOf a (blocks X N p t) f
      lost t f None h = h
      lost t f (Some x) h = h

      stops : (t : Tree) (given : Refused) (o : Option Refusal) → refusal X N p (remade what t) ≡ o
          → MeetsOr (IsLossOf a (blocks X N p t)) (λ u e. IsAfter X N a c (blocks X N p t) p e u) (unless (remade what t) o) (Err (stop.Refused given))
          → EditsAfter X N a c (blocks X N p (Dir es)) p (allowed X N p (Ok (with_child name (remade what t) es))) (Err (stop.Refused given))
      stops t given None is h = absurd h
      stops t given (Some x) is h =
          subst (λ o. EditsAfter X N a c (blocks X N p (Dir es)) p (unless (with_child name (remade what t) es) o) (Err (stop.Refused given)))
          (sym (refused-above X N p folder es name (remade what t) x plan is)) h

      by : (o : Option Tree) → child name es ≡ o → (s : Stop) → ChangesMember X N p a c what led o (Err s)
          → EditsAfter X N a c (blocks X N p (Dir es)) p (allowed X N p (and_then (as_there led o) (λ t. Ok (with_child name (remade what t) es)))) (Err s)
      by None is (stop.Refused given) h = (let e : ◌≡◌ {A = Result (Option Entry) Stop} (Err (stop.Refused given)) (Err (stop.Refused (why.NotFound led))) = h in let same : given ≡ why.NotFound led = cc in same)
      by None is (stop.Store f) h = absurd (let e : ◌≡◌ {A = Result (Option Entry) Stop} (Err (stop.Store f)) (Err (stop.Refused (why.NotFound led))) = h in cc)
      by (Some t) is (stop.Refused given) h = stops t given (refusal X N p (remade what t)) refl h
      by (Some t) is (stop.Store f) h =
          lost-edit X N p a c _ (allowed X N p (Ok (with_child name (remade what t) es))) f (loss-among a _ _ f (λ P k. child-among X N p es name t is P k) (lost t f (refusal X N p (remade what t)) h))

  -- one that changes nothing leaves the folder
  pub remake-none : (a c : Told) (what : MetaEdit) (led : ℕ) (name : List ℕ) (es : Entries) → IsTrue (is_tree (Dir es)) → ChangesMember X N p a c what led (child name es) (Ok None)
      → with_remade what led name es ≡ Ok es
  remake-none a c what led name es tree h = by (child name es) refl h
    where
      by : (o : Option Tree) → child name es ≡ o → ChangesMember X N p a c what led o (Ok None) → and_then (as_there led o) (λ t. Ok (with_child name (remade what t) es)) ≡ Ok es
      by None is h = absurd (let e : ◌≡◌ {A = Result (Option Entry) Stop} (Ok None) (Err (stop.Refused (why.NotFound led))) = h in cc)
      by (Some t) is h = ap (λ (t : Tree). Ok (with_child name t es)) h ∙ ap (λ (es : Entries). Ok es) (with-same name t es tree is)

  -- what else is made
  record Made (a c : Told) (what : MetaEdit) (led : ℕ) (name : List ℕ) (es : Entries) (new : Entry) : Type 0 where
    t : Tree
    puts : with_remade what led name es ≡ Ok (with_child name (remade what t) es)
    is : IsAfter X N a c (blocks X N p (Dir es)) p new (remade what t)

  made : (a c : Told) (what : MetaEdit) (led : ℕ) (name : List ℕ) (es : Entries) (new : Entry) → ChangesMember X N p a c what led (child name es) (Ok (Some new)) → Made a c what led name es new
  made a c what led name es new h = by (child name es) refl h
    where
      by : (o : Option Tree) → child name es ≡ o → ChangesMember X N p a c what led o (Ok (Some new)) → Made a c what led name es new
      by None is h = absurd (let e : ◌≡◌ {A = Result (Option Entry) Stop} (Ok (Some new)) (Err (stop.Refused (why.NotFound led))) = h in cc)
      by (Some t) is h =
          let after = renew-made X N p a c (meta_after what (meta_of t)) t new h in
          record {
            t = t;
            puts = ap (λ (o : Option Tree). and_then (as_there led o) (λ t. Ok (with_child name (remade what t) es))) is;
            is = record { plan = after.plan; after = after-wider a c _ _ _ (λ P k. child-among X N p es name t is P k) after.after };
          }

  module _ {Bad Other : Role → List ℕ → Type 0} {fault : Option StoreFault} {a b c : Seen} (before : OnlySaves X Bad None a b) (after : OnlySaves X Other fault b c)
      (folder new : Entry) (what : MetaEdit) (led : ℕ) (name : List ℕ) (es : Entries) (o : IsFolderOver X N p a c [] folder es)
      (h : ChangesMember X N p a.told b.told what led (child name es) (Ok (Some new))) where
    m : Made a.told b.told what led name es new
    m = made a.told b.told what led name es new h

    abbrev u : Tree
    u = remade what m.t

    came : AgreesAfter a.told b.told (blocks X N p (Dir es)) (blocks X N p u ++ blocks X N p (Dir es))
    came = beside X N p before after [] (blocks X N p u) folder es tt o m.is.after

    beside-it : IsFolderOver X N p b c (blocks X N p u) folder es
    beside-it = over-then X N p before after [] (blocks X N p u) folder folder es es (are-good X N p u) o.plan o came

    -- it is put into its folder
    pub remake-put : (r : Result (Option Entry) Stop)
        → ((t : Tree) → IsPlanOf X N p new t → ChangesFolder X N p b c (blocks X N p t) folder (λ es. Ok (with_child name t es)) r)
        → ChangesOver X N p a c [] es (with_remade what led name es) r
    remake-put r puts = subst (λ (w : Result Entries Refused). ChangesOver X N p a c [] es w r) (sym m.puts)
        (changes-over X N p before after [] (blocks X N p u) folder es (Ok (with_child name u es)) r o came (puts u m.is.plan es beside-it))

    pub remake-touches : (t0 t1 t2 : ℕ) → t1 ≤ t0 + 3
        → ((t : Tree) → IsPlanOf X N p new t → TouchesFolder X N p b c (blocks X N p t) folder (λ es. 17 + crossing X N p (named_entries X N p es) (named_entries X N p (with_child name t es))) t1 t2)
        → t2 ≤ t0 + (19 + crossings_of X N p (name ∷ []) es (with_remade what led name es) + where_done (with_remade what led name es) 3)
    remake-touches t0 t1 t2 first takes =
        let r = takes u m.is.plan es beside-it in
        subst (λ (w : Result Entries Refused). t2 ≤ t0 + (19 + crossings_of X N p (name ∷ []) es w + where_done w 3)) (sym m.puts) (omega (arith, first, r))

  -- ---- the root

  pub root-remade : (a b : Seen) (more : List Held) (what : MetaEdit) (es : Entries) (r : Result (Option Entry) Stop) → ChangesMeta X N p a.told b.told what (Dir es) r
      → ChangesOver X N p a b more es (meta_edited what [] es) r
  root-remade a b more what es r h = by r h
    where
      next : Entries
      next = entries (meta_after what (own_meta es)) (pairs es)

      over : (o : Option Refusal) (r : Result Entry Stop)
          → MeetsOr (IsLossOf a.told (blocks X N p (Dir es))) (λ u e. IsAfter X N a.told b.told (blocks X N p (Dir es)) p e u) (unless (Dir next) o) r
          → EditsAfter X N a.told b.told (more ++ blocks X N p (Dir es)) p (unless next o) r
      over None (Ok e) h = record { plan = h.plan; after = after-wider a.told b.told _ _ _ (back-among more (blocks X N p (Dir es))) h.after }
      over None (Err (stop.Refused given)) h = absurd h
      over None (Err (stop.Store f)) h = loss-among a.told _ _ f (back-among more (blocks X N p (Dir es))) h
      over (Some x) (Ok e) h = absurd h
      over (Some x) (Err (stop.Refused given)) h = h
      over (Some x) (Err (stop.Store f)) h = loss-among a.told _ _ f (back-among more (blocks X N p (Dir es))) h

      by : (r : Result (Option Entry) Stop) → ChangesMeta X N p a.told b.told what (Dir es) r → ChangesOver X N p a b more es (Ok next) r
      by (Ok None) h = (let e : Dir next ≡ Dir es = h in let same : next ≡ es = cc in ap (λ (es : Entries). Ok es) same)
      by (Ok (Some e)) h = over (refusal X N p (Dir next)) (Ok e) h
      by (Err s) h = over (refusal X N p (Dir next)) (Err s) h

  -- ---- no directory becomes sharded or basic

  pub remade-crossings : (what : MetaEdit) (names : List (List ℕ)) (root : Entry) (es : Entries) → IsPlanOf X N p root (Dir es) → crossings_of X N p names es (meta_edited what names es) ≡ 0
  remade-crossings what [] root es plan = refl
  remade-crossings what (name ∷ names) root es plan = by (at 0 (name ∷ names) (Dir es)) refl
    where
      by : (w : Result Tree Refused) → at 0 (name ∷ names) (Dir es) ≡ w → crossings_of X N p (name ∷ names) es (meta_edited what (name ∷ names) es) ≡ 0
      by (Ok t) there =
          let put = put-there X N p (remade what t) t 0 name names root es plan there in
          ap (λ (w : Result Entries Refused). crossings_of X N p (name ∷ names) es w) (edit-there what name names es t there ∙ put.is) ∙ put.crossed
      by (Err given) there = ap (λ (w : Result Entries Refused). crossings_of X N p (name ∷ names) es w) (edit-refused what (name ∷ names) es given there)

  -- ---- the tree at some names

  pub remakes-at : (what : MetaEdit) (names : List (List ℕ)) (es : Entries) → acted_at p (Remake what) [] (Dir (Nothing none)) names es ≡ meta_edited what names es
  remakes-at what [] es = refl
  remakes-at what (name ∷ names) es = refl

  pub remade-edits : (a b : Seen) (root : Entry) (what : MetaEdit) (names : List (List ℕ)) (r : Result Entry Stop) → EditsFolder X N p a b [] root (acted_at p (Remake what) [] (Dir (Nothing none)) names) r
      → EditsFolder X N p a b [] root (meta_edited what names) r
  remade-edits a b root what names r h = λ es o. subst (λ w. EditsAfter X N a.told b.told (blocks X N p (Dir es)) p (allowed X N p w) r) (remakes-at what names es) (h es o)

  pub remade-touches : (root : Entry) (what : MetaEdit) (names path : List (List ℕ)) (es : Entries) (t0 t1 : ℕ) → IsPlanOf X N p root (Dir es) → names ≡ path
      → t1 ≤ t0 + (40 * length names + crossings_of X N p names es (acted_at p (Remake what) [] (Dir (Nothing none)) names es) + where_done (acted_at p (Remake what) [] (Dir (Nothing none)) names es) 3) → t1 ≤ t0 + 64 * (length path + 3)
  remade-touches root what names path es t0 t1 plan same h =
      let few = done-most (acted_at p (Remake what) [] (Dir (Nothing none)) names es) 3 in
      let none = ap (λ (w : Result Entries Refused). crossings_of X N p names es w) (remakes-at what names es) ∙ remade-crossings what names root es plan in
      subst (λ (ns : List (List ℕ)). t1 ≤ t0 + 64 * (length ns + 3)) same (omega (arith, h, none, few))
