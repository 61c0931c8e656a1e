-- Missing folders that are made along a path.
use Rattle.std.proofs.Common.{◌≡◌, ◌≢◌, ℕ, ◌+◌, List, [], ◌∷◌, Bool, true, false, refl, ap, sym, subst, ◌∙◌, Option, Some, None, Result, Ok, Err}
use Rattle.uf_edge.specs.Counts.{Stood}
use Rattle.uf_cid.specs.Blocks.{Held}
use Rattle.uf_store.specs.declared.store.Role.{Role}
use Rattle.uf_store.specs.declared.store.StoreFault.{StoreFault}
use Rattle.uf_store.specs.Contents.{Told}
use Rattle.uf_store.specs.Seen.{Seen}
use Rattle.uf_tree.specs.declared.nodes.Entry.{Entry}
use Rattle.uf_tree.specs.declared.profile.Profile.{Profile}
use Rattle.uf_tree.specs.Metas.{none}
use Rattle.uf_tree.specs.Tree.{Tree, File, Dir, Entries}
use Rattle.uf_plain.specs.declared.rule.Refused.{Refused}
use Rattle.uf_plain.specs.declared.rule.Refused.TheVariants as why
use Rattle.uf_store.specs.Calls.{OnlyReads, OnlySaves}
use Rattle.uf_tree.specs.TreePlan.{blocks}
use Rattle.uf_plain.specs.Edits.{and_then, as_folder, at, child, or_new, with_folder}
use Rattle.uf_plain.specs.Rules.{allowed, unless}
use Rattle.uf_mfs.specs.Answers.{Decides, EditsAfter}
use Rattle.uf_mfs.specs.Standing.{IsAgreed, IsAgreedMember}
use Rattle.uf_mfs.specs.Steps.{ChangesFolder, EditsFolder, IsFolderOver, IsOpened, changed_below}
use Rattle.uf_store.proofs.Calls.{calm-then, reads-saves, shown-rises}
use Rattle.uf_store.proofs.Calls.{stood-back, stood-front}
use Rattle.uf_mfs.proofs.After.{after-kept, back-among, stays-some}
use Rattle.uf_mfs.proofs.Agreed.{child-among}
use Rattle.uf_mfs.proofs.Folders.{over-first}
use Rattle.uf_mfs.proofs.Hinge.{are-good}
use Rattle.uf_plain.proofs.Edited.{with-same}
use Rattle.uf_tree.specs.declared.meta.Meta.{Meta}

-- no folder below is new or was changed
pub unchanged : (found : Entry × Bool) (filled : Option Entry) → changed_below found filled ≡ None → (found.1 ≡ false) × (filled ≡ None)
unchanged found (Some below) h = absurd cc
unchanged found None h = by found.1 refl h
  where
    by : (b : Bool) → found.1 ≡ b → elim b as (λ b. Option Entry) [ true ↦ Some found.0 | false ↦ None ] ≡ None → (found.1 ≡ false) × (◌≡◌ {A = Option Entry} None None)
    by true is h = absurd cc
    by false is h = (is, refl)

-- a folder that is there leads on
pub at-under : (led : ℕ) (name : List ℕ) (more : List (List ℕ)) (es below : Entries) → at led (name ∷ more) (Dir es) ≡ Ok (Dir below)
    → (fs : Entries) × (child name es ≡ Some (Dir fs)) × (at (led + 1) more (Dir fs) ≡ Ok (Dir below))
at-under led name more es below h = by (child name es) refl h
  where
    file : (more : List (List ℕ)) (m : Meta) (bytes : List ℕ) → at (led + 1) more (File m bytes) ≡ Ok (Dir below) → ⊥
    file [] m bytes h = cc
    file (next ∷ more) m bytes h = cc

    by : (o : Option Tree) → child name es ≡ o → elim o as (λ o. Result Tree Refused) [ None ↦ Err (why.NotFound (led + 1)) | Some t ↦ at (led + 1) more t ] ≡ Ok (Dir below)
        → (fs : Entries) × (child name es ≡ Some (Dir fs)) × (at (led + 1) more (Dir fs) ≡ Ok (Dir below))
    by None is h = absurd cc
    by (Some (File m bytes)) is h = absurd (file more m bytes h)
    by (Some (Dir fs)) is h = (fs, is, h)

module _ (X : List ℕ → List ℕ) (N : List ℕ → ℕ) (p : Profile) where
  -- a name under which nothing was found is free
  pub free : (told : Told) (o : Option Tree) → IsAgreedMember X N told p o None → o ≡ None
  free told None h = refl
  free told (Some t) h = absurd h

  pub opened-new : (told : Told) (o : Option Tree) (found : Entry × Bool) → o ≡ None → found.1 ≡ true → IsOpened X N told p o found
  opened-new told o found none is = subst (λ o. IsOpened X N told p o found) (sym none) is

  old-folder : (told : Told) (o : Option Tree) (found : Entry × Bool) → found.1 ≡ false → IsOpened X N told p o found → (fs : Entries) × (o ≡ Some (Dir fs)) × IsAgreed X N told p found.0 (Dir fs)
  old-folder told None found is h = absurd (let clash : true ≡ false = sym h ∙ is in cc)
  old-folder told (Some (File m bytes)) found is h = absurd h
  old-folder told (Some (Dir fs)) found is h = (fs, refl, h.1)

  -- an entry of a folder's plan, where the store agrees with its blocks
  pub agreed-over : {a b : Seen} (folder : Entry) (es : Entries) → IsFolderOver X N p a b [] folder es → IsAgreed X N a.told p folder (Dir es)
  agreed-over folder es o = record { plan = o.plan; agrees = o.stays.first }

  pub agreed-beside : {a b : Seen} (more : List Held) (folder : Entry) (es : Entries) → IsFolderOver X N p a b more folder es → IsAgreed X N a.told p folder (Dir es)
  agreed-beside {a} {b} more folder es o = record { plan = o.plan; agrees = (stays-some a.told b.told _ _ (back-among more (blocks X N p (Dir es))) o.stays).first }

  -- the folder as it was
  pub same-folder : {a b : Seen} {Bad : Role → List ℕ → Type 0} {fault : Option StoreFault} (folder : Entry) (es : Entries) (w : Result Entries Refused) → w ≡ Ok es → OnlySaves X Bad fault a b
      → IsFolderOver X N p a b [] folder es → EditsAfter X N a.told b.told (blocks X N p (Dir es)) p (allowed X N p w) (Ok folder)
  same-folder {a} {b} folder es w is saved o =
      subst (λ w. EditsAfter X N a.told b.told (blocks X N p (Dir es)) p (allowed X N p w) (Ok folder)) (sym is)
      (subst (λ o. EditsAfter X N a.told b.told (blocks X N p (Dir es)) p (unless es o) (Ok folder)) (sym o.plan.planned)
      (record { plan = o.plan; after = after-kept X a.told b.told _ (are-good X N p (Dir es)) saved.good o.stays }))

  module _ {Bad Other : Role → List ℕ → Type 0} {a b c : Seen} where
    -- nothing is missing below: nothing was here
    pub filled-none : (k : ℕ) (folder : Entry) (name : List ℕ) (go : Entries → Result Entries Refused) (found : Entry × Bool) (filled : Option Entry)
        → changed_below found filled ≡ None → OnlySaves X Bad None a b
        → ((es : Entries) → IsAgreed X N a.told p folder (Dir es) → Stood a.faults b.faults → IsOpened X N b.told p (child name es) found)
        → OnlySaves X Other None b c → ChangesFolder X N p b c [] found.0 go (Ok filled)
        → ChangesFolder X N p a c [] folder (λ es. with_folder name es (and_then (or_new k (child name es)) go)) (Ok None)
    filled-none k folder name go found filled none before opens after fills = λ es o.
        let was = unchanged found filled none in
        let first = over-first X N p before after [] folder es o in
        let old = old-folder b.told (child name es) found was.0 (opens es (agreed-over folder es first) first.calm.faults) in
        let fills-none = subst (λ (o : Option Entry). ChangesFolder X N p b c [] found.0 go (Ok o)) was.1 fills in
        let below : IsFolderOver X N p b c [] found.0 old.0 = record {
          plan = old.2.plan;
          stays = record { first = old.2.agrees; last = (stays-some a.told c.told _ _ (λ P h. child-among X N p es name (Dir old.0) old.1 P h) o.stays).last };
          calm = calm-then before o.calm;
        } in
        ap (λ (o : Option Tree). with_folder name es (and_then (or_new k o) go)) old.1 ∙ ap (with_folder name es) (fills-none old.0 below)
        ∙ ap (λ (es : Entries). Ok es) (with-same name (Dir old.0) es o.plan.tree old.1)

  module _ {Bad : Role → List ℕ → Type 0} {a b : Seen} where
    -- the folder below that is put is what was filled
    pub filled-edits : (found : Entry × Bool) (filled : Option Entry) (below : Entry) (go : Entries → Result Entries Refused) → changed_below found filled ≡ Some below
        → OnlySaves X Bad None a b → ChangesFolder X N p a b [] found.0 go (Ok filled) → EditsFolder X N p a b [] found.0 go (Ok below)
    filled-edits found (Some e) below go is saved fills = subst (λ (e : Entry). EditsFolder X N p a b [] found.0 go (Ok e)) (let same : e ≡ below = cc in same) fills
    filled-edits found None below go is saved fills = by found.1 is
      where
        by : (b' : Bool) → elim b' as (λ b. Option Entry) [ true ↦ Some found.0 | false ↦ None ] ≡ Some below → EditsFolder X N p a b [] found.0 go (Ok below)
        by true is = subst (λ (e : Entry). EditsFolder X N p a b [] found.0 go (Ok e)) (let same : found.0 ≡ below = cc in same)
            (λ es o. same-folder found.0 es (go es) (fills es o) saved o)
        by false is = absurd cc

module _ (X : List ℕ → List ℕ) (N : List ℕ → ℕ) (p : Profile) {Bad Other : Role → List ℕ → Type 0} {a b c : Seen} where
  -- where each folder is there, what is known of the first is known of all
  pub there-under : {fault : Option StoreFault} {Q : Type 0} (led : ℕ) (name : List ℕ) (more : List (List ℕ)) (es below : Entries) (folder : Entry) (found : Entry × Bool)
      → OnlySaves X Bad None a b → OnlySaves X Other fault b c → IsAgreed X N a.told p folder (Dir es) → Stood a.faults c.faults → at led (name ∷ more) (Dir es) ≡ Ok (Dir below)
      → (IsAgreed X N a.told p folder (Dir es) → Stood a.faults b.faults → IsOpened X N b.told p (child name es) found)
      → (IsAgreed X N a.told p folder (Dir es) → Stood a.faults b.faults → child name es ≢ None → b.told ≡ a.told)
      → ((fs : Entries) → IsAgreed X N b.told p found.0 (Dir fs) → Stood b.faults c.faults → at (led + 1) more (Dir fs) ≡ Ok (Dir below) → (c.told ≡ b.told) × Q)
      → (found.1 ≡ false) × (c.told ≡ a.told) × Q
  there-under {fault} led name more es below folder found before after i stood is opens same deeper =
      let rises = shown-rises X Other fault b c after.cause in
      let front = stood-front a.faults b.faults c.faults before.cause.faults rises.faults stood in
      let under = at-under led name more es below is in
      let start = subst (λ (o : Option Tree). IsOpened X N b.told p o found) under.1 (opens i front) in
      let rest = deeper under.0 start.1 (stood-back a.faults b.faults c.faults before.cause.faults stood) under.2 in
      (start.0, rest.0 ∙ same i front (λ none. (let clash : None ≡ Some (Dir under.0) = sym none ∙ under.1 in cc)), rest.1)

  -- so nothing new is put
  pub there-not : {fault : Option StoreFault} (led : ℕ) (name : List ℕ) (more : List (List ℕ)) (es below : Entries) (folder : Entry) (found : Entry × Bool) (filled : Option Entry) (e : Entry)
      → changed_below found filled ≡ Some e
      → OnlySaves X Bad None a b → OnlySaves X Other fault b c → IsAgreed X N a.told p folder (Dir es) → Stood a.faults c.faults → at led (name ∷ more) (Dir es) ≡ Ok (Dir below)
      → (IsAgreed X N a.told p folder (Dir es) → Stood a.faults b.faults → IsOpened X N b.told p (child name es) found)
      → (IsAgreed X N a.told p folder (Dir es) → Stood a.faults b.faults → child name es ≢ None → b.told ≡ a.told)
      → ((fs : Entries) → IsAgreed X N b.told p found.0 (Dir fs) → Stood b.faults c.faults → at (led + 1) more (Dir fs) ≡ Ok (Dir below) → (c.told ≡ b.told) × (filled ≡ None)) → ⊥
  there-not led name more es below folder found filled e some before after i stood is opens same deeper =
      let under = there-under led name more es below folder found before after i stood is opens same deeper in
      let none : changed_below found filled ≡ None = ap (changed_below found) under.2 ∙ ap (λ (b : Bool). elim b as (λ b. Option Entry) [ true ↦ Some found.0 | false ↦ None ]) under.0 in
      (let clash : Some e ≡ None = sym some ∙ none in cc)

-- a count that did not rise over a later call did not rise before it
pub stood-before : (hash : List ℕ → List ℕ) (Bad Other : Role → List ℕ → Type 0) (fault : Option StoreFault) (a b c : Seen)
    → OnlySaves hash Bad None a b → OnlySaves hash Other fault b c → Stood a.faults c.faults → Stood a.faults b.faults
stood-before hash Bad Other fault a b c before after stood =
    let rises = shown-rises hash Other fault b c after.cause in
    stood-front a.faults b.faults c.faults before.cause.faults rises.faults stood

-- something at two names or more is in a folder
at-below : (led : ℕ) (name next : List ℕ) (more : List (List ℕ)) (es : Entries) (t : Tree) → at led (name ∷ next ∷ more) (Dir es) ≡ Ok t
    → (fs : Entries) × (child name es ≡ Some (Dir fs)) × (at (led + 1) (next ∷ more) (Dir fs) ≡ Ok t)
at-below led name next more es t h = by (child name es) refl h
  where
    by : (o : Option Tree) → child name es ≡ o → elim o as (λ o. Result Tree Refused) [ None ↦ Err (why.NotFound (led + 1)) | Some u ↦ at (led + 1) (next ∷ more) u ] ≡ Ok t
        → (fs : Entries) × (child name es ≡ Some (Dir fs)) × (at (led + 1) (next ∷ more) (Dir fs) ≡ Ok t)
    by None is h = absurd cc
    by (Some (File m bytes)) is h = absurd cc
    by (Some (Dir fs)) is h = (fs, is, h)

-- something at one name is a member
pub at-one : (led : ℕ) (name : List ℕ) (es : Entries) (t : Tree) → at led (name ∷ []) (Dir es) ≡ Ok t → child name es ≡ Some t
at-one led name es t h = by (child name es) h
  where
    by : (o : Option Tree) → elim o as (λ o. Result Tree Refused) [ None ↦ Err (why.NotFound (led + 1)) | Some u ↦ at (led + 1) [] u ] ≡ Ok t → o ≡ Some t
    by None h = absurd cc
    by (Some u) h = (let same : u ≡ t = cc in ap (λ (u : Tree). Some u) same)

module _ (X : List ℕ → List ℕ) (N : List ℕ → ℕ) (p : Profile) {Bad Other : Role → List ℕ → Type 0} {a b c : Seen} where
  -- what leaves the folder below leaves the folder
  pub idle-below : {fault : Option StoreFault} {Q : Type 0} (led : ℕ) (name next : List ℕ) (more : List (List ℕ)) (es : Entries) (t : Tree) (below : Entry)
      → OnlyReads X Bad None a b → OnlySaves X Other fault b c → Stood a.faults c.faults → at led (name ∷ next ∷ more) (Dir es) ≡ Ok t
      → (Stood a.faults b.faults → Decides (λ es e. IsAgreed X N a.told p e (Dir es)) (as_folder (led + 1) (child name es)) (Ok below))
      → ((fs : Entries) → IsAgreed X N b.told p below (Dir fs) → Stood b.faults c.faults → at (led + 1) (next ∷ more) (Dir fs) ≡ Ok t → (c.told ≡ b.told) × Q)
      → (c.told ≡ a.told) × Q
  idle-below {fault} led name next more es t below reads after stood there decides deeper =
      let front = stood-before X _ _ fault a b c (reads-saves {f = None} reads) after stood in
      let under = at-below led name next more es t there in
      let s = subst (λ (o : Option Tree). Decides (λ es e. IsAgreed X N a.told p e (Dir es)) (as_folder (led + 1) o) (Ok below)) under.1 (decides front) in
      let rest = deeper under.0 (subst (λ told. IsAgreed X N told p below (Dir under.0)) (sym reads.told) s) (stood-back a.faults b.faults c.faults reads.cause.faults stood) under.2 in
      (rest.0 ∙ reads.told, rest.1)
