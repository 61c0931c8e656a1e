-- Edits along a path, whatever they do at its end.
use Rattle.std.proofs.Common.{◌≡◌, ◌≤◌, ◌+◌, ℕ, List, [], ◌∷◌, ◌++◌, Option, Some, None, Result, Ok, Err, arith, refl, subst, sym, true}
use Rattle.std.specs.Prelude.{IfOk, IfSome}
use Rattle.uf_cid.specs.Blocks.{Held}
use Rattle.uf_cid.specs.declared.cid.Cid.{Cid}
use Rattle.uf_dir.specs.Roots.{IsRootCid}
use Rattle.uf_edge.specs.Counts.{Stood}
use Rattle.uf_store.specs.declared.store.Role.{Role}
use Rattle.uf_store.specs.declared.store.StoreFault.{StoreFault}
use Rattle.uf_store.specs.Calls.{OnlySaves}
use Rattle.uf_store.specs.Contents.{Told}
use Rattle.uf_store.specs.Seen.{Seen}
use Rattle.uf_store.proofs.Calls.{saves-by}
use Rattle.uf_store.specs.Keeping.{AreGood}
use Rattle.uf_tree.specs.declared.profile.Profile.{Profile}
use Rattle.uf_tree.specs.declared.nodes.Entry.{Entry}
use Rattle.uf_tree.specs.Tree.{Dir, Entries, File, Tree}
use Rattle.uf_tree.specs.TreePlan.{blocks}
use Rattle.uf_plain.specs.declared.change.Change.TheVariants.{Make}
use Rattle.uf_plain.specs.declared.file.FileEdit.{FileEdit}
use Rattle.uf_plain.specs.declared.rule.Refused.{Refused}
use Rattle.uf_plain.specs.Rules.{allowed, unless}
use Rattle.uf_mfs.specs.Answers.{EditsAfter}
use Rattle.uf_mfs.specs.Standing.{IsAgreedMember}
use Rattle.uf_mfs.specs.Steps.{ChangesFolder, ChangesOver, EditsFolder, IsFolderOver, entry_or, stop_fault}
use Rattle.uf_mfs.specs.Writes.{leaves_found}
use Rattle.uf_mfs.specs.declared.fault.Stop.{Stop}
use Rattle.uf_mfs.specs.declared.fault.Stop.TheVariants as stop
use Rattle.uf_mfs.specs.declared.thing.Thing.{Thing}
use Rattle.uf_mfs.specs.declared.thing.Thing.TheVariants.{File as FileAt, Folder as FolderAt}
use Rattle.uf_plain.specs.Edits.{and_then, as_folder, child, with_folder}
use Rattle.uf_mfs.specs.declared.editing.Act.{Act}
use Rattle.uf_mfs.specs.declared.editing.Act.TheVariants.{Change, Remake, Rewrite}
use Rattle.uf_mfs.specs.Acts.{HasRows, IsActMeant, IsBadActed, LeavesTree, act_brought, act_touches, acted, acted_at, root_touches}
use Rattle.uf_mfs.specs.Bad.{AtRoot, IsBadInTree, RequiresDirectory}
use Rattle.uf_mfs.specs.Touches.{crossings_of, entries_at}
use Rattle.uf_mfs.proofs.After.{after-kept, after-some, back-among}
use Rattle.uf_mfs.proofs.Folders.{brought-good}
use Rattle.uf_mfs.proofs.Hinge.{are-good}
use Rattle.uf_mfs.proofs.Judging.{bad-below, made-required}
use Rattle.uf_mfs.proofs.Moving.{good-both}
use Rattle.uf_mfs.proofs.MetaEdits.{remade-below}
use Rattle.uf_mfs.proofs.Renewing.{tree-saves}
use Rattle.uf_mfs.proofs.Rewriting.{file-leads, way-written, written-below}
use Rattle.uf_mfs.proofs.Touching.{done-on, folder-leads}

module _ (X : List ℕ → List ℕ) (N : List ℕ → ℕ) (p : Profile) where
  -- what an edit brings is good
  pub act-good : (what : Act) (t : Tree) → AreGood X (act_brought X N p what t)
  act-good (Change what) t = brought-good X N p what t
  act-good (Rewrite what) t = tt
  act-good (Remake what) t = tt

  -- a folder that is there leads on
  pub act-leads : (rows : ℕ → ℕ) (what : Act) (piece : List ℕ) (led : ℕ) (name next : List ℕ) (more : List (List ℕ)) (go : Entries → Result Entries Refused) (es below : Entries) → as_folder led (child name es) ≡ Ok below
      → (entries_at name es ≡ below) × (act_touches X N p rows what piece (next ∷ more) below (go below) ≤ act_touches X N p rows what piece (name ∷ next ∷ more) es (with_folder name es (and_then (as_folder led (child name es)) go)))
  act-leads rows (Change what) piece led name next more go es below is = folder-leads X N p what led name next more go es below is
  act-leads rows (Rewrite what) piece led name next more go es below is =
      let on = file-leads X N p rows what piece led name next more es below is in
      (on.0, done-on X N p name es below (as_folder led (child name es)) go _ _ is on.1)
  act-leads rows (Remake what) piece led name next more go es below is =
      ((folder-leads X N p Make led name next more go es below is).0, done-on X N p name es below (as_folder led (child name es)) go 3 3 is (omega arith))

  -- what is bad on the way is bad for the edit
  pub act-way : {fault : Option StoreFault} {a b : Seen} (told : Told) (root : Cid) (what : Act) → OnlySaves X (IsBadInTree X N (Some p) root) fault a b → OnlySaves X (IsBadActed X N p told root what) fault a b
  act-way told root (Change what) h = h
  act-way told root (Rewrite what) h = way-written X N p told root h
  act-way told root (Remake what) h = tree-saves X N p root h

  -- and what is bad below a directory that is required
  pub act-below : {fault : Option StoreFault} {a b : Seen} (told : Told) (root below : Cid) (what : Act) → RequiresDirectory X root below.digest
      → OnlySaves X (IsBadActed X N p told below what) fault a b → OnlySaves X (IsBadActed X N p told root what) fault a b
  act-below told root below (Change what) r h = saves-by (IsBadInTree X N (Some p) root) (bad-below X N (Some p) root below r) h
  act-below told root below (Rewrite what) r h = written-below X N p told root below r h
  act-below told root below (Remake what) r h = remade-below X N p root below r h

  -- the touches of the root are among them
  pub root-touches : (rows : ℕ → ℕ) (what : Act) (piece : List ℕ) (t : Tree) (es : Entries) → root_touches what ≤ act_touches X N p rows what piece [] es (acted_at p what piece t [] es)
  root-touches rows (Change what) piece t es = omega arith
  root-touches rows (Rewrite what) piece t es = omega arith
  root-touches rows (Remake what) piece t es = omega arith

-- what an edit of this folder owes, by what it does
module _ (X : List ℕ → List ℕ) (N : List ℕ → ℕ) (p : Profile) (a d : Seen) (folder : Entry) (name piece : List ℕ) (led : ℕ) (found : Option Thing) where
  abbrev pub EditsHere : Result (Option Entry) Stop → Act → Type 0
  EditsHere r what = (t : Tree) (es : Entries) → IsActMeant X N p what t → IsAgreedMember X N a.told p (child name es) found → IsFolderOver X N p a d (act_brought X N p what t) folder es
      → ChangesOver X N p a d (act_brought X N p what t) es (acted p what piece t (led + 1) name es) r

  abbrev pub IdleHere : Result (Option Entry) Stop → Act → Type 0
  IdleHere r what = (q : Profile) (t : Tree) → IsAgreedMember X N a.told q (Some t) found → Stood a.faults d.faults → LeavesTree what piece t → (d.told ≡ a.told) × IfOk r (λ new. new ≡ None)

  abbrev pub TouchesHere : (t0 t1 : ℕ) → Act → Type 0
  TouchesHere t0 t1 what = (t : Tree) (rows : ℕ → ℕ) (es : Entries) → IsActMeant X N p what t → HasRows X N p what rows → IsAgreedMember X N a.told p (child name es) found
      → IsFolderOver X N p a d (act_brought X N p what t) folder es
      → t1 ≤ t0 + (19 + crossings_of X N p (name ∷ []) es (acted p what piece t (led + 1) name es) + act_touches X N p rows what piece (name ∷ []) es (acted p what piece t (led + 1) name es))

  abbrev pub SavesHere : Option StoreFault → Act → Type 0
  SavesHere fault what = OnlySaves X (IsBadActed X N p d.told folder.cid what) fault a d

-- what is found of a file that an edit leaves says so
pub leaves-there : (X : List ℕ → List ℕ) (N : List ℕ → ℕ) (told : Told) (q : Profile) (what : FileEdit) (piece : List ℕ) (t : Tree) (found : Option Thing) → IsAgreedMember X N told q (Some t) found
    → LeavesTree (Rewrite what) piece t → leaves_found what piece found ≡ true
leaves-there X N told q what piece (File m bytes) None h leaves = absurd h
leaves-there X N told q what piece (File m bytes) (Some (FileAt e size)) h leaves = leaves
leaves-there X N told q what piece (File m bytes) (Some (FolderAt e root)) h leaves = absurd h
leaves-there X N told q what piece (Dir es) found h leaves = absurd leaves

-- the root after an edit of it, or as it was
module _ (X : List ℕ → List ℕ) (N : List ℕ → ℕ) (p : Profile) {a b : Seen} {Bad : Role → List ℕ → Type 0} {fault : Option StoreFault} where
  pub or-edits : (more : List Held) (root : Entry) (edit : Entries → Result Entries Refused) (r : Result (Option Entry) Stop) → AreGood X more → OnlySaves X Bad fault a b
      → ChangesFolder X N p a b more root edit r → EditsFolder X N p a b more root edit (entry_or root r)
  or-edits more root edit (Ok None) good saved h = λ es o.
      subst (λ w. EditsAfter X N a.told b.told (more ++ blocks X N p (Dir es)) p (allowed X N p w) (Ok root)) (sym (h es o))
      (subst (λ o. EditsAfter X N a.told b.told (more ++ blocks X N p (Dir es)) p (unless es o) (Ok root)) (sym o.plan.planned)
      (record {
        plan = o.plan;
        after = after-some a.told b.told _ _ _ (back-among more (blocks X N p (Dir es))) (after-kept X a.told b.told _ (good-both X N p more _ good (are-good X N p (Dir es))) saved.good o.stays);
      }))
  or-edits more root edit (Ok (Some e)) good saved h = h
  or-edits more root edit (Err s) good saved h = h

pub or-idle : (root : Entry) (r : Result (Option Entry) Stop) → IfOk r (λ new. new ≡ None) → IfOk (entry_or root r) (λ e. e ≡ root)
or-idle root (Ok None) h = refl
or-idle root (Ok (Some e)) h = absurd (let no : Some e ≡ None = h in cc)
or-idle root (Err s) h = tt

pub or-made : (X : List ℕ → List ℕ) (N : List ℕ → ℕ) (p : Profile) (root : Entry) (r : Result (Option Entry) Stop) → IfOk r (λ new. IfSome new (λ e. IsRootCid X (Some p) e.cid))
    → IfOk (entry_or root r) (λ e. RequiresDirectory X root.cid e.cid.digest)
or-made X N p root (Ok None) h = AtRoot refl
or-made X N p root (Ok (Some e)) h = made-required X N (Some p) root.cid e.cid h
or-made X N p root (Err s) h = tt

pub or-fault : (root : Entry) (r : Result (Option Entry) Stop) → stop_fault r ≡ stop_fault (entry_or root r)
or-fault root (Ok None) = refl
or-fault root (Ok (Some e)) = refl
or-fault root (Err (stop.Refused why)) = refl
or-fault root (Err (stop.Store f)) = refl
