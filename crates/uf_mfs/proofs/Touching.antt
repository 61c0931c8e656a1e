-- Touches of edits along a path, over calls in a row.
use Rattle.std.proofs.Common.{◌≡◌, ℕ, ◌+◌, ◌*◌, ◌≤◌, List, [], ◌∷◌, ◌++◌, Bool, cond, refl, ap, sym, ◌∙◌, subst, arith, Option, Some, None, Result, Ok, Err, length}
use Rattle.std.specs.Cmp.{eq_by_cmp_equiv}
use Rattle.std.specs.FinMap.Entries.{find, find-put}
use Rattle.uf_cid.specs.Blocks.{Held}
use Rattle.uf_store.specs.declared.store.Role.{Role}
use Rattle.uf_store.specs.declared.store.StoreFault.{StoreFault}
use Rattle.uf_store.specs.Calls.{OnlySaves}
use Rattle.uf_store.specs.Keeping.{AreGood}
use Rattle.uf_store.specs.Seen.{Seen}
use Rattle.uf_store.proofs.Calls.{saves-saves}
use Rattle.uf_tree.specs.declared.nodes.Entry.{Entry}
use Rattle.uf_tree.specs.declared.profile.Profile.{Profile}
use Rattle.uf_tree.specs.Names.{names_cmp}
use Rattle.uf_tree.specs.Metas.{none}
use Rattle.uf_tree.specs.Tree.{Tree, File, Dir, Entries, Nothing, pairs}
use Rattle.uf_tree.specs.TreePlan.{blocks, named_entries}
use Rattle.uf_tree.proofs.ShardLaws.{names_total}
use Rattle.uf_dir.specs.Bounds.{crossing}
use Rattle.uf_plain.specs.declared.change.Change.{Change}
use Rattle.uf_plain.specs.declared.change.Change.TheVariants.{Make, Put, Remove}
use Rattle.uf_plain.specs.declared.rule.Refused.{Refused}
use Rattle.uf_plain.specs.Edits.{and_then, as_folder, at, child, or_new, with_child, with_folder}
use Rattle.uf_plain.specs.Rules.{allowed}
use Rattle.uf_mfs.specs.Answers.{EditsAfter, MeetsOr}
use Rattle.uf_mfs.specs.Standing.{IsAfter, IsPlanOf}
use Rattle.uf_mfs.specs.Steps.{EditsFolder, GivesFolder, IsFolderOver}
use Rattle.uf_mfs.specs.Touches.{TouchesFolder, crossings, crossings_of, entries_at, entries_in, read_bound, weighing_at, weighing_of, where_done}
use Rattle.uf_mfs.proofs.After.{back-among, stays-some}
use Rattle.uf_mfs.proofs.Folders.{below-over, beside, over-first, over-then, step-edit}
use Rattle.uf_mfs.proofs.Hinge.{are-good}
use Rattle.uf_mfs.proofs.Moving.{allowed-ok}
use Rattle.uf_plain.proofs.Kept.{pairs-with}

-- what was put under a name is there
pub child-put : (name : List ℕ) (t : Tree) (es : Entries) → child name (with_child name t es) ≡ Some t
child-put name t es =
    ap (find names_cmp name) (pairs-with name t es) ∙ find-put names_cmp names_total name name t (pairs es)
    ∙ ap (λ (b : Bool). cond b (Some t) (find names_cmp name (pairs es))) ((eq_by_cmp_equiv names_total).refl name)

pub entries-put : (name : List ℕ) (new es : Entries) → entries_at name (with_child name (Dir new) es) ≡ new
entries-put name new es = ap (λ (o : Option Tree). elim o as (λ o. Entries) [ None ↦ Nothing none | Some t ↦ entries_in t ]) (child-put name (Dir new) es)

-- what is done takes no more than it may
pub done-most : {A : Type 0} (w : Result A Refused) (touches : ℕ) → where_done w touches ≤ touches
done-most (Ok a) touches = omega arith
done-most (Err why) touches = omega arith

-- ---- calls that read

pub look-touches : (more : Tree → ℕ) (names : List (List ℕ)) (t : Tree) (t0 t1 : ℕ) → t1 ≤ t0 + 11 * length names → t1 ≤ t0 + read_bound more names t
look-touches more names t t0 t1 h = by (at 0 names t)
  where
    by : (w : Result Tree Refused) → t1 ≤ t0 + (64 * (length names + 3) + elim w as (λ w. ℕ) [ Ok found ↦ more found | Err why ↦ 0 ])
    by w = omega (arith, h)

pub read-touches : {B : Type 0} (May : StoreFault → Type 0) (P : Tree → B → Type 0) (more : Tree → ℕ) (names : List (List ℕ)) (t : Tree) (b : B) (t0 t1 t2 : ℕ) → MeetsOr May P (at 0 names t) (Ok b) → t1 ≤ t0 + 11 * length names
    → ((found : Tree) → P found b → t2 ≤ t1 + (more found + 1)) → t2 ≤ t0 + read_bound more names t
read-touches {B} May P more names t b t0 t1 t2 h first then = by (at 0 names t) h
  where
    by : (w : Result Tree Refused) → MeetsOr May P w (Ok b) → t2 ≤ t0 + (64 * (length names + 3) + elim w as (λ w. ℕ) [ Ok found ↦ more found | Err why ↦ 0 ])
    by (Ok found) h = (let r = then found h in omega (arith, first, r))
    by (Err why) h = absurd h

module _ (X : List ℕ → List ℕ) (N : List ℕ → ℕ) (p : Profile) where
  only : {Bad Third : Role → List ℕ → Type 0} {fault : Option StoreFault} {a b d : Seen} (more : List Held) (folder : Entry) (es : Entries) → OnlySaves X Bad None a b → OnlySaves X Third fault b d
      → IsFolderOver X N p a d more folder es → IsFolderOver X N p a b [] folder es
  only {a = a} {d = d} more folder es before after o =
      over-first X N p before after [] folder es (record { plan = o.plan; stays = stays-some a.told d.told _ _ (back-among more (blocks X N p (Dir es))) o.stays; calm = o.calm })

  module _ (name : List ℕ) (names : List (List ℕ)) (step go : Entries → Result Entries Refused) (k : ℕ) where
    abbrev pub Bound : (Entries → ℕ) → Entries → ℕ
    Bound weighs es = 40 * (k + 1) + crossings_of X N p (name ∷ names) es (with_folder name es (and_then (step es) go)) + weighs es

    abbrev pub Below : (Entries → ℕ) → Entries → ℕ
    Below weigh below = 40 * k + crossings_of X N p names below (go below) + weigh below

  module _ {Bad Other : Role → List ℕ → Type 0} {a b c : Seen} (folder e : Entry) (more : List Held) (name : List ℕ) (names : List (List ℕ)) (step go : Entries → Result Entries Refused) (weigh weighs : Entries → ℕ) (k : ℕ)
      (good : AreGood X more) (leads : (es below : Entries) → step es ≡ Ok below → (entries_at name es ≡ below) × (weigh below ≤ weighs es)) where
    -- the folder of the step, as the premise of what follows it
    step-over : {fault : Option StoreFault} (es below : Entries) → OnlySaves X Bad None a b → OnlySaves X Other fault b c → IsFolderOver X N p a c more folder es
        → IsAfter X N a.told b.told (blocks X N p (Dir es)) p e (Dir below) → IsFolderOver X N p b c more e below
    step-over es below before after o h = over-then X N p before after more more folder e es below good h.plan o (below-over X N p before after more folder e es below good o h)

    -- an edit below that stopped
    pub stopped-touches : {fault : Option StoreFault} (t0 t1 t2 : ℕ) → t1 ≤ t0 + 12
        → OnlySaves X Bad None a b → GivesFolder X N p a b [] folder step (Ok e) → OnlySaves X Other fault b c → TouchesFolder X N p b c more e (Below name names step go k weigh) t1 t2
        → TouchesFolder X N p a c more folder (Bound name names step go k weighs) t0 t2
    stopped-touches {fault} t0 t1 t2 first before gives after rec = λ es o. by es o (step es) refl (gives es (only more folder es before after o))
      where
        less : (es below : Entries) (w : Result Entries Refused) → entries_at name es ≡ below → crossings_of X N p names below w ≤ crossings_of X N p (name ∷ names) es (with_folder name es w)
        less es below (Err why) is = omega arith
        less es below (Ok new) is =
            subst (λ (x : Entries). crossings X N p names below new ≤ crossing X N p (named_entries X N p es) (named_entries X N p (with_child name (Dir new) es)) + crossings X N p names x (entries_at name (with_child name (Dir new) es))) (sym is)
            (subst (λ (y : Entries). crossings X N p names below new ≤ crossing X N p (named_entries X N p es) (named_entries X N p (with_child name (Dir new) es)) + crossings X N p names below y) (sym (entries-put name new es)) (omega arith))

        by : (es : Entries) → IsFolderOver X N p a c more folder es → (w : Result Entries Refused) → step es ≡ w → EditsAfter X N a.told b.told (blocks X N p (Dir es)) p w (Ok e)
            → t2 ≤ t0 + (40 * (k + 1) + crossings_of X N p (name ∷ names) es (with_folder name es (and_then w go)) + weighs es)
        by es o (Err why) is h = absurd h
        by es o (Ok below) is h =
            let led = leads es below is in
            let r = rec below (step-over es below before after o h) in
            let l = less es below (go below) led.0 in
            let w = led.1 in
            omega (arith, first, r, l, w)

    -- and one that is put into the folder
    pub put-touches : {d : Seen} {Third : Role → List ℕ → Type 0} {fault : Option StoreFault} (f : Entry) (t0 t1 t2 t3 : ℕ) → t1 ≤ t0 + 12
        → OnlySaves X Bad None a b → GivesFolder X N p a b [] folder step (Ok e) → OnlySaves X Other None b c → EditsFolder X N p b c more e go (Ok f) → TouchesFolder X N p b c more e (Below name names step go k weigh) t1 t2
        → OnlySaves X Third fault c d
        → ((t : Tree) → IsPlanOf X N p f t → TouchesFolder X N p c d (blocks X N p t) folder (λ es. 17 + crossing X N p (named_entries X N p es) (named_entries X N p (with_child name t es))) t2 t3)
        → TouchesFolder X N p a d more folder (Bound name names step go k weighs) t0 t3
    put-touches {d} {Third} {fault} f t0 t1 t2 t3 first before gives middle edits rec after puts = λ es o. by es o (step es) refl (gives es (only more folder es before rest o))
      where
        both : OnlySaves X Other None a c
        both = saves-saves before middle

        rest : OnlySaves X Third fault b d
        rest = saves-saves middle after

        by2 : (es below : Entries) → IsFolderOver X N p a d more folder es → entries_at name es ≡ below → weigh below ≤ weighs es → (w : Result Entries Refused)
            → EditsAfter X N a.told c.told (more ++ blocks X N p (Dir es)) p (allowed X N p w) (Ok f) → t2 ≤ t1 + (40 * k + crossings_of X N p names below w + weigh below)
            → t3 ≤ t0 + (40 * (k + 1) + crossings_of X N p (name ∷ names) es (with_folder name es w) + weighs es)
        by2 es below o is heavy (Err why) h r = absurd h
        by2 es below o is heavy (Ok new) h r =
            let made = allowed-ok X N p a.told c.told _ new f h in
            let came = beside X N p both after more (blocks X N p (Dir new)) folder es good o made.after in
            let q = puts (Dir new) made.plan es (over-then X N p both after more (blocks X N p (Dir new)) folder folder es es (are-good X N p (Dir new)) o.plan o came) in
            subst (λ (x : Entries). t3 ≤ t0 + (40 * (k + 1) + (crossing X N p (named_entries X N p es) (named_entries X N p (with_child name (Dir new) es)) + crossings X N p names x (entries_at name (with_child name (Dir new) es))) + weighs es)) (sym is)
            (subst (λ (y : Entries). t3 ≤ t0 + (40 * (k + 1) + (crossing X N p (named_entries X N p es) (named_entries X N p (with_child name (Dir new) es)) + crossings X N p names below y) + weighs es)) (sym (entries-put name new es))
            (omega (arith, first, r, q, heavy)))

        by : (es : Entries) → IsFolderOver X N p a d more folder es → (w : Result Entries Refused) → step es ≡ w → EditsAfter X N a.told b.told (blocks X N p (Dir es)) p w (Ok e)
            → t3 ≤ t0 + (40 * (k + 1) + crossings_of X N p (name ∷ names) es (with_folder name es (and_then w go)) + weighs es)
        by es o (Err why) is h = absurd h
        by es o (Ok below) is h =
            let led = leads es below is in
            let first_two = over-first X N p both after more folder es o in
            by2 es below o led.0 led.1 (go below) (step-edit X N p folder e more es below go (Ok f) good before middle first_two h edits) (rec below (step-over es below before middle first_two h))

  -- ---- what steps lead to

  -- what is done below is done in the folder that has it
  pub done-on : (name : List ℕ) (es below : Entries) (step : Result Entries Refused) (go : Entries → Result Entries Refused) (few many : ℕ) → step ≡ Ok below → few ≤ many
      → where_done (go below) few ≤ where_done (with_folder name es (and_then step go)) many
  done-on name es below step go few many is less = subst (λ (w : Result Entries Refused). where_done (go below) few ≤ where_done (with_folder name es (and_then w go)) many) (sym is) (by (go below))
    where
      by : (w : Result Entries Refused) → where_done w few ≤ where_done (with_folder name es w) many
      by (Ok new) = less
      by (Err why) = omega arith

  weighs-on : (what : Change) (led : ℕ) (name next : List ℕ) (more : List (List ℕ)) (go : Entries → Result Entries Refused) (es below : Entries) → as_folder led (child name es) ≡ Ok below → entries_at name es ≡ below
      → weighing_of X N p what (next ∷ more) below (go below) ≤ weighing_of X N p what (name ∷ next ∷ more) es (with_folder name es (and_then (as_folder led (child name es)) go))
  weighs-on Make led name next more go es below step is = omega arith
  weighs-on (Put e) led name next more go es below step is = omega arith
  weighs-on (Remove recursive) led name next more go es below step is =
      done-on name es below (as_folder led (child name es)) go _ _ step (subst (λ (x : Entries). weighing_at X N p (next ∷ more) below ≤ weighing_at X N p (next ∷ more) x) (sym is) (omega arith))

  abbrev under : Option Tree → Entries
  under o = elim o as (λ o. Entries) [ None ↦ Nothing none | Some t ↦ entries_in t ]

  as-under : (led : ℕ) (o : Option Tree) (below : Entries) → as_folder led o ≡ Ok below → under o ≡ below
  as-under led None below is = absurd cc
  as-under led (Some (File m bytes)) below is = absurd cc
  as-under led (Some (Dir fs)) below is = (let same : fs ≡ below = cc in same)

  new-under : (led : ℕ) (o : Option Tree) (below : Entries) → or_new led o ≡ Ok below → under o ≡ below
  new-under led None below is = (let same : Nothing none ≡ below = cc in same)
  new-under led (Some (File m bytes)) below is = absurd cc
  new-under led (Some (Dir fs)) below is = (let same : fs ≡ below = cc in same)

  pub folder-leads : (what : Change) (led : ℕ) (name next : List ℕ) (more : List (List ℕ)) (go : Entries → Result Entries Refused) (es below : Entries) → as_folder led (child name es) ≡ Ok below
      → (entries_at name es ≡ below) × (weighing_of X N p what (next ∷ more) below (go below) ≤ weighing_of X N p what (name ∷ next ∷ more) es (with_folder name es (and_then (as_folder led (child name es)) go)))
  folder-leads what led name next more go es below is =
      let there = as-under led (child name es) below is in
      (there, weighs-on what led name next more go es below is there)

  pub new-leads : (led : ℕ) (name : List ℕ) (es below : Entries) → or_new led (child name es) ≡ Ok below → (entries_at name es ≡ below) × (0 ≤ 0)
  new-leads led name es below is = (new-under led (child name es) below is, omega arith)

  -- fewer touches are enough too
  pub touches-by : {a b : Seen} (more : List Held) (folder : Entry) (bound other : Entries → ℕ) (t0 t1 : ℕ) → ((es : Entries) → bound es ≤ other es) → TouchesFolder X N p a b more folder bound t0 t1 → TouchesFolder X N p a b more folder other t0 t1
  touches-by more folder bound other t0 t1 fewer h = λ es o. (let x = h es o in let y = fewer es in omega (arith, x, y))
  -- ---- an edit of this folder
