-- Edits along a path, over calls in a row.
use Rattle.std.proofs.Common.{◌≡◌, ℕ, List, [], ◌++◌, ap, refl, subst, sym, ◌∙◌, Option, Some, None, Result, Ok, Err}
use Rattle.uf_cid.specs.Blocks.{Held}
use Rattle.uf_store.specs.declared.store.Role.{Role}
use Rattle.uf_store.specs.declared.store.StoreFault.{StoreFault}
use Rattle.uf_store.specs.Calls.{OnlyReads, OnlySaves}
use Rattle.uf_store.specs.Contents.{Told}
use Rattle.uf_store.specs.Keeping.{AreGood, StaysAgreed}
use Rattle.uf_store.specs.Lost.{AgreesAfter, IsLossOf}
use Rattle.uf_store.specs.Seen.{Seen}
use Rattle.uf_store.proofs.Calls.{calm-first, calm-then, reads-saves, saves-saves}
use Rattle.uf_tree.specs.declared.nodes.Entry.{Entry}
use Rattle.uf_tree.specs.declared.profile.Profile.{Profile}
use Rattle.uf_tree.specs.Metas.{none}
use Rattle.uf_tree.specs.Tree.{Tree, File, Dir, Entries, Nothing}
use Rattle.uf_tree.specs.TreePlan.{blocks}
use Rattle.uf_plain.specs.declared.rule.Refused.{Refused}
use Rattle.uf_plain.specs.declared.change.Change.{Change}
use Rattle.uf_plain.specs.declared.change.Change.TheVariants.{Make, Put, Remove}
use Rattle.uf_plain.specs.Edits.{and_then, as_folder, child, or_new, with_child, with_folder}
use Rattle.uf_plain.specs.Needs.{member_needs}
use Rattle.uf_plain.specs.Rules.{allowed}
use Rattle.uf_mfs.specs.declared.fault.Stop.{Stop}
use Rattle.uf_mfs.specs.declared.fault.Stop.TheVariants as stop
use Rattle.uf_mfs.specs.declared.thing.FolderRoot.{FolderRoot}
use Rattle.uf_mfs.specs.declared.thing.Thing.TheVariants.{Folder as FolderAt}
use Rattle.uf_mfs.specs.Answers.{Decides, EditsAfter, MeetsOr}
use Rattle.uf_mfs.specs.Standing.{IsAfter, IsAgreed, IsAgreedMember, IsPlanOf, brought}
use Rattle.uf_mfs.specs.Steps.{ChangesFolder, ChangesOver, EditsFolder, GivesFolder, IsFolderOver}
use Rattle.uf_mfs.proofs.After.{after-both, after-kept, after-some, after-wider, among-then, back-among, front-among, loss-among, onward, stays-first, stays-some}
use Rattle.uf_mfs.proofs.Hinge.{are-good}
use Rattle.uf_mfs.proofs.Agreed.{child-among}
use Rattle.uf_mfs.proofs.Moving.{allowed-ok, good-both, later, lost-edit, refused-up}
use Rattle.uf_mfs.proofs.Needed.{member-among}
use Rattle.uf_plain.proofs.Edited.{with-same}

module _ (X : List ℕ → List ℕ) (N : List ℕ → ℕ) (p : Profile) where
  -- what an edit brings is good
  pub brought-good : (what : Change) (t : Tree) → AreGood X (brought X N p what t)
  brought-good Make t = tt
  brought-good (Put e) t = are-good X N p t
  brought-good (Remove recursive) t = tt

  -- ---- one name

  -- a member that isn't found stops the edit
  pub member-stops : {A B : Type 0} (a b : Told) (more : List Held) (P : A → B → Type 0) (o : A) (name : List ℕ) (es : Entries) (w : Result Entries Refused) (s : Stop)
      → MeetsOr (IsLossOf a (member_needs X N p name es)) P (Ok o) (Err s) → EditsAfter X N a b (more ++ blocks X N p (Dir es)) p w (Err s)
  member-stops a b more P o name es w (stop.Refused why) h = absurd h
  member-stops a b more P o name es w (stop.Store f) h =
      lost-edit X N p a b _ w f (loss-among a _ _ f (among-then _ (blocks X N p (Dir es)) _ (λ Q k. member-among X N p name es Q k) (back-among more (blocks X N p (Dir es)))) h)

  -- a member that has to be a folder, and isn't
  pub folder-stops : (a b : Told) (old : List Held) (name : List ℕ) (es : Entries) (w : Result Entries Refused) (go : Entries → Result Entries Refused) (given : Refused) → Decides (λ es e. IsAgreed X N a p e (Dir es)) w (Err given)
      → EditsAfter X N a b old p (allowed X N p (with_folder name es (and_then w go))) (Err (stop.Refused given))
  folder-stops a b old name es (Ok below) go given h = absurd h
  folder-stops a b old name es (Err why) go given h = h

  -- and one that is
  child-over : {a b : Seen} {Bad : Role → List ℕ → Type 0} {fault : Option StoreFault} (folder e : Entry) (es fs : Entries) (name : List ℕ) → OnlySaves X Bad fault a b → IsFolderOver X N p a b [] folder es
      → child name es ≡ Some (Dir fs) → IsPlanOf X N p e (Dir fs) → IsAfter X N a.told b.told (blocks X N p (Dir es)) p e (Dir fs)
  child-over {a} {b} folder e es fs name saved o is plan = record {
    plan = plan;
    after = after-some a.told b.told _ _ _ (λ Q k. child-among X N p es name (Dir fs) is Q k) (after-kept X a.told b.told _ (are-good X N p (Dir es)) saved.good o.stays);
  }

  pub folder-there : {a b : Seen} {Bad : Role → List ℕ → Type 0} {fault : Option StoreFault} (led : ℕ) (folder e : Entry) (name : List ℕ) → OnlySaves X Bad fault a b
      → ((es : Entries) → IsFolderOver X N p a b [] folder es → Decides (λ es e. IsAgreed X N a.told p e (Dir es)) (as_folder led (child name es)) (Ok e))
      → GivesFolder X N p a b [] folder (λ es. as_folder led (child name es)) (Ok e)
  folder-there {a} {b} led folder e name saved found = λ es o. by es o (child name es) refl (found es o)
    where
      by : (es : Entries) → IsFolderOver X N p a b [] folder es → (m : Option Tree) → child name es ≡ m → Decides (λ es e. IsAgreed X N a.told p e (Dir es)) (as_folder led m) (Ok e)
          → EditsAfter X N a.told b.told (blocks X N p (Dir es)) p (as_folder led m) (Ok e)
      by es o None is h = absurd h
      by es o (Some (File m bytes)) is h = absurd h
      by es o (Some (Dir fs)) is h = child-over folder e es fs name saved o is h.plan

  pub opened-folder : {a b : Seen} {Bad : Role → List ℕ → Type 0} {fault : Option StoreFault} (led : ℕ) (folder e : Entry) (links : Option FolderRoot) (name : List ℕ) (es : Entries) → OnlySaves X Bad fault a b → IsFolderOver X N p a b [] folder es
      → IsAgreedMember X N a.told p (child name es) (Some (FolderAt e links)) → EditsAfter X N a.told b.told (blocks X N p (Dir es)) p (or_new led (child name es)) (Ok e)
  opened-folder {a} {b} led folder e links name es saved o found = by (child name es) refl found
    where
      by : (m : Option Tree) → child name es ≡ m → IsAgreedMember X N a.told p m (Some (FolderAt e links)) → EditsAfter X N a.told b.told (blocks X N p (Dir es)) p (or_new led m) (Ok e)
      by None is h = absurd h
      by (Some (File m bytes)) is h = absurd h
      by (Some (Dir fs)) is h = child-over folder e es fs name saved o is h.0.plan

  pub opened-new : (a b : Told) (old : List Held) (led : ℕ) (o : Option Tree) (new : Entry) → IsAgreedMember X N a p o None → IsAfter X N a b old p new (Dir (Nothing none))
      → EditsAfter X N a b old p (or_new led o) (Ok new)
  opened-new a b old led None new h s = s
  opened-new a b old led (Some t) new h s = absurd h

  -- ---- calls in a row

  -- after a call that reads alone
  pub read-over : {Bad : Role → List ℕ → Type 0} {a b c : Seen} (more : List Held) (folder : Entry) (es : Entries) → OnlyReads X Bad None a b → IsFolderOver X N p a c more folder es → IsFolderOver X N p b c more folder es
  read-over {a} {b} {c} more folder es reads o = record {
    plan = o.plan;
    stays = subst (λ told. StaysAgreed told c.told (more ++ blocks X N p (Dir es))) (sym reads.told) o.stays;
    calm = calm-then (reads-saves reads) o.calm;
  }

  -- what is said from a moment is said from one at which the store told the same
  pub changes-since : (a b c : Seen) (more : List Held) (es : Entries) (w : Result Entries Refused) (r : Result (Option Entry) Stop) → b.told ≡ a.told → ChangesOver X N p b c more es w r → ChangesOver X N p a c more es w r
  changes-since a b c more es w (Ok None) same h = h
  changes-since a b c more es w (Ok (Some e)) same h = subst (λ told. EditsAfter X N told c.told (more ++ blocks X N p (Dir es)) p (allowed X N p w) (Ok e)) same h
  changes-since a b c more es w (Err s) same h = subst (λ told. EditsAfter X N told c.told (more ++ blocks X N p (Dir es)) p (allowed X N p w) (Err s)) same h

  module _ {Bad Other : Role → List ℕ → Type 0} {fault : Option StoreFault} {a b c : Seen} (before : OnlySaves X Bad None a b) (after : OnlySaves X Other fault b c) where
    -- a folder before calls in a row is one before the first of them
    pub over-first : (more : List Held) (folder : Entry) (es : Entries) → IsFolderOver X N p a c more folder es → IsFolderOver X N p a b more folder es
    over-first more folder es o = record { plan = o.plan; stays = stays-first X a.told b.told c.told _ before.saves after.saves o.stays; calm = calm-first before after o.calm }

    -- its blocks and the others are kept by the first
    pub kept-old : (more : List Held) (folder : Entry) (es : Entries) → AreGood X more → IsFolderOver X N p a c more folder es
        → AgreesAfter a.told b.told (more ++ blocks X N p (Dir es)) (more ++ blocks X N p (Dir es))
    kept-old more folder es good o =
        after-kept X a.told b.told _ (good-both X N p more _ good (are-good X N p (Dir es))) before.good (stays-first X a.told b.told c.told _ before.saves after.saves o.stays)

    -- what came of it and of the others is one before the second
    pub over-then : (more mid : List Held) (folder e : Entry) (es fs : Entries) → AreGood X mid → IsPlanOf X N p e (Dir fs) → IsFolderOver X N p a c more folder es
        → AgreesAfter a.told b.told (more ++ blocks X N p (Dir es)) (mid ++ blocks X N p (Dir fs)) → IsFolderOver X N p b c mid e fs
    over-then more mid folder e es fs good plan o came = record {
      plan = plan;
      stays = onward X a.told b.told c.told _ _ came (good-both X N p mid _ good (are-good X N p (Dir fs))) after.good o.stays;
      calm = calm-then before o.calm;
    }

    -- the folder itself beside blocks that came of it
    pub beside : (more new : List Held) (folder : Entry) (es : Entries) → AreGood X more → IsFolderOver X N p a c more folder es → AgreesAfter a.told b.told (more ++ blocks X N p (Dir es)) new
        → AgreesAfter a.told b.told (more ++ blocks X N p (Dir es)) (new ++ blocks X N p (Dir es))
    beside more new folder es good o came =
        after-both a.told b.told _ new _ came (after-some a.told b.told _ _ _ (back-among more (blocks X N p (Dir es))) (kept-old more folder es good o))

    -- a folder that a step led to
    pub below-over : (more : List Held) (folder e : Entry) (es below : Entries) → AreGood X more → IsFolderOver X N p a c more folder es
        → IsAfter X N a.told b.told (blocks X N p (Dir es)) p e (Dir below) → AgreesAfter a.told b.told (more ++ blocks X N p (Dir es)) (more ++ blocks X N p (Dir below))
    below-over more folder e es below good o h =
        after-both a.told b.told _ more _ (after-some a.told b.told _ _ _ (front-among more (blocks X N p (Dir es))) (kept-old more folder es good o))
        (after-wider a.told b.told _ _ _ (back-among more (blocks X N p (Dir es))) h.after)

    -- what follows a step of which this came
    pub on-over : (more mid : List Held) (folder : Entry) (es : Entries) (w : Result Entries Refused) (r : Result Entry Stop) → IsFolderOver X N p a c more folder es
        → AgreesAfter a.told b.told (more ++ blocks X N p (Dir es)) mid → EditsAfter X N b.told c.told mid p w r → EditsAfter X N a.told c.told (more ++ blocks X N p (Dir es)) p w r
    on-over more mid folder es w r o came h = later X N p a.told b.told c.told _ mid w r came h

    -- the same of an edit that may leave the folder as it is
    pub changes-over : (more mid : List Held) (folder : Entry) (es : Entries) (w : Result Entries Refused) (r : Result (Option Entry) Stop) → IsFolderOver X N p a c more folder es
        → AgreesAfter a.told b.told (more ++ blocks X N p (Dir es)) (mid ++ blocks X N p (Dir es)) → ChangesOver X N p b c mid es w r → ChangesOver X N p a c more es w r
    changes-over more mid folder es w (Ok None) o came h = h
    changes-over more mid folder es w (Ok (Some e)) o came h = on-over more (mid ++ blocks X N p (Dir es)) folder es (allowed X N p w) (Ok e) o came h
    changes-over more mid folder es w (Err s) o came h = on-over more (mid ++ blocks X N p (Dir es)) folder es (allowed X N p w) (Err s) o came h

  module _ {Bad Other : Role → List ℕ → Type 0} {a b c : Seen} where
    -- the step below and the edit there
    pub step-edit : {fault : Option StoreFault} (folder e : Entry) (more : List Held) (es below : Entries) (go : Entries → Result Entries Refused) (r : Result Entry Stop) → AreGood X more
        → OnlySaves X Bad None a b → OnlySaves X Other fault b c → IsFolderOver X N p a c more folder es → IsAfter X N a.told b.told (blocks X N p (Dir es)) p e (Dir below)
        → EditsFolder X N p b c more e go r → EditsAfter X N a.told c.told (more ++ blocks X N p (Dir es)) p (allowed X N p (go below)) r
    step-edit folder e more es below go r good before after o h edits =
        let came = below-over before after more folder e es below good o h in
        on-over before after more _ folder es (allowed X N p (go below)) r o came (edits below (over-then before after more more folder e es below good h.plan o came))

    -- an edit that stopped below stops the edit of the folder
    pub path-stopped : {fault : Option StoreFault} (folder e : Entry) (more : List Held) (name : List ℕ) (step go : Entries → Result Entries Refused) (s : Stop) → AreGood X more
        → OnlySaves X Bad None a b → GivesFolder X N p a b [] folder step (Ok e) → OnlySaves X Other fault b c → EditsFolder X N p b c more e go (Err s)
        → EditsFolder X N p a c more folder (λ es. with_folder name es (and_then (step es) go)) (Err s)
    path-stopped {fault} folder e more name step go s good before leads after edits = λ es o. by es o (step es)
        (leads es (over-first before after [] folder es (record { plan = o.plan; stays = stays-some a.told c.told _ _ (back-among more (blocks X N p (Dir es))) o.stays; calm = o.calm })))
      where
        by : (es : Entries) → IsFolderOver X N p a c more folder es → (w : Result Entries Refused) → EditsAfter X N a.told b.told (blocks X N p (Dir es)) p w (Ok e)
            → EditsAfter X N a.told c.told (more ++ blocks X N p (Dir es)) p (allowed X N p (with_folder name es (and_then w go))) (Err s)
        by es o (Err why) h = absurd h
        by es o (Ok below) h = refused-up X N p a.told c.told _ folder name es (go below) s o.plan (step-edit folder e more es below go (Err s) good before after o h edits)

    -- what an edit below gives is put into the folder
    pub path-put : {d : Seen} {Third : Role → List ℕ → Type 0} {fault : Option StoreFault} (folder e f : Entry) (more : List Held) (name : List ℕ) (step go : Entries → Result Entries Refused) (r : Result (Option Entry) Stop) → AreGood X more
        → OnlySaves X Bad None a b → GivesFolder X N p a b [] folder step (Ok e) → OnlySaves X Other None b c → EditsFolder X N p b c more e go (Ok f)
        → OnlySaves X Third fault c d → ((t : Tree) → IsPlanOf X N p f t → ChangesFolder X N p c d (blocks X N p t) folder (λ es. Ok (with_child name t es)) r)
        → ChangesFolder X N p a d more folder (λ es. with_folder name es (and_then (step es) go)) r
    path-put {d} {Third} {fault} folder e f more name step go r good before leads middle edits after puts = λ es o. by es o (step es)
        (leads es (over-first before rest [] folder es (record { plan = o.plan; stays = stays-some a.told d.told _ _ (back-among more (blocks X N p (Dir es))) o.stays; calm = o.calm })))
      where
        both : OnlySaves X Other None a c
        both = saves-saves before middle

        rest : OnlySaves X Third fault b d
        rest = saves-saves middle after

        by2 : (es : Entries) → IsFolderOver X N p a d more folder es → (w : Result Entries Refused) → EditsAfter X N a.told c.told (more ++ blocks X N p (Dir es)) p (allowed X N p w) (Ok f)
            → ChangesOver X N p a d more es (with_folder name es w) r
        by2 es o (Err why) h = absurd h
        by2 es o (Ok new) h =
            let is = allowed-ok X N p a.told c.told _ new f h in
            let came = beside both after more (blocks X N p (Dir new)) folder es good o is.after in
            changes-over both after more (blocks X N p (Dir new)) folder es (Ok (with_child name (Dir new) es)) r o came
            (puts (Dir new) is.plan es (over-then both after more (blocks X N p (Dir new)) folder folder es es (are-good X N p (Dir new)) o.plan o came))

        by : (es : Entries) → IsFolderOver X N p a d more folder es → (w : Result Entries Refused) → EditsAfter X N a.told b.told (blocks X N p (Dir es)) p w (Ok e)
            → ChangesOver X N p a d more es (with_folder name es (and_then w go)) r
        by es o (Err why) h = absurd h
        by es o (Ok below) h = by2 es o (go below) (step-edit folder e more es below go (Ok f) good before middle (over-first both after more folder es o) h edits)

    -- where the folder below stays as it is, so does the folder
    pub path-none : {fault : Option StoreFault} (folder e : Entry) (more : List Held) (name : List ℕ) (led : ℕ) (go : Entries → Result Entries Refused) → AreGood X more → OnlySaves X Bad None a b
        → ((es : Entries) → IsFolderOver X N p a b [] folder es → Decides (λ es e. IsAgreed X N a.told p e (Dir es)) (as_folder led (child name es)) (Ok e))
        → OnlySaves X Other fault b c → ((fs : Entries) → IsFolderOver X N p b c more e fs → go fs ≡ Ok fs)
        → (es : Entries) → IsFolderOver X N p a c more folder es → with_folder name es (and_then (as_folder led (child name es)) go) ≡ Ok es
    path-none {fault} folder e more name led go good before found after same es o = by (child name es) refl (found es first) (folder-there led folder e name before found es first)
      where
        first : IsFolderOver X N p a b [] folder es
        first = over-first before after [] folder es (record { plan = o.plan; stays = stays-some a.told c.told _ _ (back-among more (blocks X N p (Dir es))) o.stays; calm = o.calm })

        by : (m : Option Tree) → child name es ≡ m → Decides (λ es e. IsAgreed X N a.told p e (Dir es)) (as_folder led m) (Ok e) → EditsAfter X N a.told b.told (blocks X N p (Dir es)) p (as_folder led m) (Ok e)
            → with_folder name es (and_then (as_folder led m) go) ≡ Ok es
        by None is h k = absurd h
        by (Some (File m bytes)) is h k = absurd h
        by (Some (Dir fs)) is h k =
            ap (with_folder name es) (same fs (over-then before after more more folder e es fs good k.plan o (below-over before after more folder e es fs good o k)))
            ∙ ap (λ (es : Entries). Ok es) (with-same name (Dir fs) es o.plan.tree is)
