-- What is saved along a path is among the blocks of the tree that an edit gives.
use Rattle.std.proofs.Common.{◌≡◌, ℕ, ◌+◌, ◌<◌, ◌^◌, List, [], ◌∷◌, ◌++◌, refl, sym, subst, Option, Some, None, Result, Ok, Err}
use Rattle.std.specs.List.{AllByRecursion, Contains}
use Rattle.uf_cid.specs.Blocks.{Held}
use Rattle.uf_dir.specs.Left.{CanRise}
use Rattle.uf_dir.specs.Planned.{IsPlanned, own_blocks, removal_blocks}
use Rattle.uf_edge.specs.Counts.{Stood}
use Rattle.uf_store.specs.declared.store.Role.{Role}
use Rattle.uf_store.specs.declared.store.StoreFault.{StoreFault}
use Rattle.uf_store.specs.Among.{SavesAmong}
use Rattle.uf_store.specs.Calls.{Calm, OnlySaves}
use Rattle.uf_store.specs.Contents.{Told}
use Rattle.uf_store.specs.Faults.{StaysCalm}
use Rattle.uf_store.specs.Keeping.{Agrees, AreGood, StaysAgreed}
use Rattle.uf_store.specs.Lost.{AgreesAfter}
use Rattle.uf_store.specs.Seen.{Seen}
use Rattle.uf_store.proofs.Among.{SavesAmong-more, among-refl}
use Rattle.uf_store.proofs.Calls.{saves-saves}
use Rattle.uf_tree.specs.declared.meta.Meta.{Meta}
use Rattle.uf_tree.specs.declared.nodes.Entry.{Entry}
use Rattle.uf_tree.specs.declared.profile.Profile.{Profile}
use Rattle.uf_tree.specs.Changes.{with_name}
use Rattle.uf_tree.specs.Nodes.{Named}
use Rattle.uf_tree.specs.Metas.{none}
use Rattle.uf_tree.specs.Tree.{Tree, Dir, Entries, Nothing, own_meta}
use Rattle.uf_tree.specs.TreePlan.{blocks, named_entries}
use Rattle.uf_tree.specs.Validity.{IsHash}
use Rattle.uf_plain.specs.declared.rule.Refused.{Refused}
use Rattle.uf_plain.specs.Edits.{and_then, child, made_all, or_new, with_child, with_folder}
use Rattle.uf_plain.specs.Rules.{allowed}
use Rattle.uf_plain.proofs.Kept.{meta-with}
use Rattle.uf_mfs.specs.Answers.{EditsAfter}
use Rattle.uf_mfs.specs.Saving.{AgreesThroughout, SavesFolder, SavesPut, next_blocks, opened_blocks, saved_for, taken_blocks}
use Rattle.uf_mfs.specs.Standing.{IsAfter, IsAgreed, IsPlanOf}
use Rattle.uf_mfs.specs.Steps.{EditsFolder, GivesFolder, IsFolderOver}
use Rattle.uf_mfs.proofs.After.{Among, after-both, after-kept, after-some, after-wider, among-then, back-among, front-among, onward, stays-first, stays-some}
use Rattle.uf_mfs.proofs.Agreed.{child-among}
use Rattle.uf_mfs.proofs.Folders.{step-edit}
use Rattle.uf_mfs.proofs.Hinge.{are-good}
use Rattle.uf_mfs.proofs.Holding.{agrees-among, append}
use Rattle.uf_mfs.proofs.Moving.{allowed-ok, good-both, list-with, own-dir}
use Rattle.uf_mfs.proofs.Planning.{planned-of}
use Rattle.uf_mfs.proofs.Touching.{child-put}

-- ---- blocks among others

pub saved-more : (hash : List ℕ → List ℕ) (few many : List Held) (a b : Told) → Among few many → SavesAmong hash few a b → SavesAmong hash many a b
saved-more hash few many a b more h = SavesAmong-more hash few many a b (more (Contains many) (among-refl many)) h

pub both-among : (k l m : List Held) → Among k m → Among l m → Among (k ++ l) m
both-among k l m p q P h = append P k l (p P h) (q P h)

pub none-among : (l : List Held) → Among [] l
none-among l P h = tt

pub beside-among : (k l m n : List Held) → Among k m → Among l n → Among (k ++ l) (m ++ n)
beside-among k l m n p q = λ P h. both-among k l (m ++ n) (among-then k m (m ++ n) p (front-among m n)) (among-then l n (m ++ n) q (back-among m n)) P h

-- ---- counts that can rise

pub calm-of : (a b : Seen) → CanRise a → StaysCalm a b → Calm a b
calm-of a b can calm = record {
  faults = subst (λ (n : ℕ). Stood a.faults n) (sym calm.faults) can.faults;
  clashes = subst (λ (n : ℕ). Stood a.clashes n) (sym calm.clashes) can.clashes;
}

rise-on : (a b : Seen) → CanRise a → StaysCalm a b → CanRise b
rise-on a b can calm = record {
  faults = subst (λ (n : ℕ). Stood n n) (sym calm.faults) can.faults;
  clashes = subst (λ (n : ℕ). Stood n n) (sym calm.clashes) can.clashes;
}

-- of fewer blocks
pub throughout-some : (a b : Seen) (k l : List Held) → Among k l → AgreesThroughout a b l → AgreesThroughout a b k
throughout-some a b k l more h = record { stays = stays-some a.told b.told k l more h.stays; can = h.can }

module _ (X : List ℕ → List ℕ) (N : List ℕ → ℕ) (p : Profile) where
  -- ---- calls in a row

  module _ {Bad Other : Role → List ℕ → Type 0} {fault : Option StoreFault} {a b c : Seen} (before : OnlySaves X Bad None a b) (after : OnlySaves X Other fault b c) where
    -- what holds throughout both holds throughout the first
    pub throughout-first : (l : List Held) → AgreesThroughout a c l → AgreesThroughout a b l
    throughout-first l h = record { stays = stays-first X a.told b.told c.told l before.saves after.saves h.stays; can = h.can }

    -- over which the store has stayed calm
    pub throughout-over : (more : List Held) (folder : Entry) (es : Entries) → IsPlanOf X N p folder (Dir es) → AgreesThroughout a c (more ++ blocks X N p (Dir es)) → IsFolderOver X N p a b more folder es
    throughout-over more folder es plan h = record { plan = plan; stays = (throughout-first _ h).stays; calm = calm-of a b h.can before.cause }

    -- and of what came of it throughout the second
    pub throughout-then : (old mid : List Held) → AreGood X mid → AgreesAfter a.told b.told old mid → AgreesThroughout a c old → AgreesThroughout b c mid
    throughout-then old mid good came h = record { stays = onward X a.told b.told c.told old mid came good after.good h.stays; can = rise-on a b h.can before.cause }

  -- after calls that save nothing
  pub throughout-since : (a b c : Seen) (l : List Held) → b.told ≡ a.told → StaysCalm a b → AgreesThroughout a c l → AgreesThroughout b c l
  throughout-since a b c l same calm h = record { stays = subst (λ told. StaysAgreed told c.told l) (sym same) h.stays; can = rise-on a b h.can calm }

  -- a folder throughout, as the entry of a plan with whose blocks the store agrees
  pub throughout-agreed : (a b : Seen) (more : List Held) (folder : Entry) (es : Entries) → IsPlanOf X N p folder (Dir es) → AgreesThroughout a b (more ++ blocks X N p (Dir es)) → IsAgreed X N a.told p folder (Dir es)
  throughout-agreed a b more folder es plan h = record { plan = plan; agrees = (stays-some a.told b.told _ _ (back-among more (blocks X N p (Dir es))) h.stays).first }

  -- and as one over a call that stayed calm
  pub throughout-calm : (a b : Seen) (more : List Held) (folder : Entry) (es : Entries) → IsPlanOf X N p folder (Dir es) → StaysCalm a b → AgreesThroughout a b (more ++ blocks X N p (Dir es)) → IsFolderOver X N p a b more folder es
  throughout-calm a b more folder es plan calm h = record { plan = plan; stays = h.stays; calm = calm-of a b h.can calm }

  -- the blocks of a folder and others are kept by calls
  pub kept-all : {Bad : Role → List ℕ → Type 0} {fault : Option StoreFault} {a b : Seen} (more : List Held) (es : Entries) → AreGood X more → OnlySaves X Bad fault a b
      → StaysAgreed a.told b.told (more ++ blocks X N p (Dir es)) → AgreesAfter a.told b.told (more ++ blocks X N p (Dir es)) (more ++ blocks X N p (Dir es))
  kept-all {a = a} {b = b} more es good saved stays = after-kept X a.told b.told _ (good-both X N p more _ good (are-good X N p (Dir es))) saved.good stays

  -- ---- what is put into a folder

  pub below-among : (name : List ℕ) (t : Tree) (es : Entries) → Among (blocks X N p t) (blocks X N p (Dir (with_child name t es)))
  below-among name t es P h = child-among X N p (with_child name t es) name t (child-put name t es) P h

  own-put : (name : List ℕ) (t : Tree) (e : Entry) (es : Entries) → IsPlanOf X N p e t → Among (own_blocks X N p (own_meta es) (with_name name e (named_entries X N p es))) (blocks X N p (Dir (with_child name t es)))
  own-put name t e es plan P h =
      subst (λ (l : List Named). AllByRecursion P (own_blocks X N p (own_meta es) l)) (sym (list-with X N p name t e es plan.is))
      (subst (λ (m : Meta). AllByRecursion P (own_blocks X N p m (named_entries X N p (with_child name t es)))) (meta-with name t es) (own-dir X N p (with_child name t es) P h))

  module _ (hash : IsHash X) (fits : (name : List ℕ) → N name < 2 ^ 64) where
    pub put-saves : (c d : Told) (folder : Entry) (es : Entries) (e : Entry) (name : List ℕ) (t : Tree) → IsPlanOf X N p folder (Dir es) → IsPlanOf X N p e t → Agrees c (blocks X N p t ++ blocks X N p (Dir es))
        → ((meta : Meta) (l : List Named) → IsPlanned X N p meta folder.cid l → Agrees c (own_blocks X N p meta l) → SavesAmong X (own_blocks X N p meta (with_name name e l)) c d)
        → SavesAmong X (blocks X N p (Dir (with_child name t es))) c d
    put-saves c d folder es e name t plan new agrees saves =
        saved-more X _ _ c d (own-put name t e es new)
        (saves (own_meta es) (named_entries X N p es) (planned-of X N p folder es plan hash fits)
        (agrees-among c _ _ (among-then _ _ _ (own-dir X N p es) (back-among (blocks X N p t) (blocks X N p (Dir es)))) agrees))

    pub take-saves : (a b : Seen) (folder : Entry) (es : Entries) (name : List ℕ) → IsPlanOf X N p folder (Dir es) → AgreesThroughout a b (blocks X N p (Dir es))
        → ((meta : Meta) (l : List Named) → IsPlanned X N p meta folder.cid l → StaysAgreed a.told b.told (own_blocks X N p meta l) → CanRise a → SavesAmong X (removal_blocks X N p meta name l) a.told b.told)
        → SavesAmong X (taken_blocks X N p (name ∷ []) es) a.told b.told
    take-saves a b folder es name plan h saves =
        saves (own_meta es) (named_entries X N p es) (planned-of X N p folder es plan hash fits) (stays-some a.told b.told _ _ (own-dir X N p es) h.stays) h.can

  -- what an edit gave is put into its folder
  module _ {Bad Other : Role → List ℕ → Type 0} {fault : Option StoreFault} {a c d : Seen} (before : OnlySaves X Bad None a c) (after : OnlySaves X Other fault c d) where
    pub put-then : (more : List Held) (folder f : Entry) (name : List ℕ) (t : Tree) (es : Entries) → AreGood X more → IsPlanOf X N p folder (Dir es) → AgreesThroughout a d (more ++ blocks X N p (Dir es))
        → IsPlanOf X N p f t → AgreesAfter a.told c.told (more ++ blocks X N p (Dir es)) (blocks X N p t)
        → SavesPut X N c d p f folder (λ t es. blocks X N p (Dir (with_child name t es))) → SavesAmong X (blocks X N p (Dir (with_child name t es))) c.told d.told
    put-then more folder f name t es good plan h new came puts =
        let kept = kept-all more es good before (throughout-first before after _ h).stays in
        let beside = after-both a.told c.told _ (blocks X N p t) _ came (after-some a.told c.told _ _ _ (back-among more (blocks X N p (Dir es))) kept) in
        puts t new es plan (throughout-then before after _ _ (good-both X N p (blocks X N p t) _ (are-good X N p t) (are-good X N p (Dir es))) beside h)

  -- ---- an edit below

  -- what is saved for the folder below is saved for the folder
  pub saved-up : (between-below between : List Held) (name : List ℕ) (es : Entries) (w : Result Entries Refused) → Among between-below between
      → Among (saved_for X N p between-below w) (saved_for X N p between (with_folder name es w))
  saved-up between-below between name es (Ok gs) more =
      beside-among between-below (blocks X N p (Dir gs)) between (blocks X N p (Dir (with_child name (Dir gs) es))) more (below-among name (Dir gs) es)
  saved-up between-below between name es (Err why) more = none-among []

  -- ---- folders that are opened or made

  -- the empty directory is in what is made in it
  fresh : (led : ℕ) (names : List (List ℕ)) → Among (blocks X N p (Dir (Nothing none))) (next_blocks X N p (made_all led names (Nothing none)))
  fresh led [] P h = h
  fresh led (name ∷ names) P h = fresh (led + 1) names P (saved-up [] [] name (Nothing none) (made_all (led + 1) names (Nothing none)) (none-among []) P h)

  -- what is saved where a folder is opened is in what is made along the names
  pub opened-among : (led : ℕ) (name : List ℕ) (names : List (List ℕ)) (es : Entries) → Among (opened_blocks X N p (child name es)) (next_blocks X N p (made_all led (name ∷ names) es))
  opened-among led name names es P h = by (child name es) h
    where
      by : (o : Option Tree) → AllByRecursion P (next_blocks X N p (with_folder name es (and_then (or_new (led + 1) o) (λ below. made_all (led + 1) names below)))) → AllByRecursion P (opened_blocks X N p o)
      by None h = fresh (led + 1) names P (saved-up [] [] name es (made_all (led + 1) names (Nothing none)) (none-among []) P h)
      by (Some t) h = tt

  -- ---- an edit of the folder of a step

  module _ {Bad Other : Role → List ℕ → Type 0} {fault : Option StoreFault} {a b c : Seen} (before : OnlySaves X Bad None a b) (middle : OnlySaves X Other fault b c) where
    -- the folder of the step, throughout the edit there
    below-throughout : (more : List Held) (folder e : Entry) (es below : Entries) → AreGood X more → AgreesThroughout a c (more ++ blocks X N p (Dir es))
        → IsAfter X N a.told b.told (blocks X N p (Dir es)) p e (Dir below) → AgreesThroughout b c (more ++ blocks X N p (Dir below))
    below-throughout more folder e es below good h is =
        let kept = kept-all more es good before (throughout-first before middle _ h).stays in
        let came = after-both a.told b.told _ more _ (after-some a.told b.told _ _ _ (front-among more (blocks X N p (Dir es))) kept)
        (after-wider a.told b.told _ _ _ (back-among more (blocks X N p (Dir es))) is.after) in
        throughout-then before middle _ _ (good-both X N p more _ good (are-good X N p (Dir below))) came h

    -- what the edit there saves
    pub below-saves : (folder e : Entry) (more : List Held) (name : List ℕ) (step go : Entries → Result Entries Refused) (between-below between : Entries → List Held) → AreGood X more
        → GivesFolder X N p a b [] folder step (Ok e) → ((es below : Entries) → step es ≡ Ok below → Among (between-below below) (between es))
        → SavesFolder X N b c p more e (λ fs. saved_for X N p (between-below fs) (go fs))
        → (es : Entries) → IsPlanOf X N p folder (Dir es) → AgreesThroughout a c (more ++ blocks X N p (Dir es))
        → SavesAmong X (saved_for X N p (between es) (with_folder name es (and_then (step es) go))) b.told c.told
    below-saves folder e more name step go between-below between good leads among saves es plan h =
        by (step es) refl (leads es (throughout-over before middle [] folder es plan (throughout-some a c _ _ (back-among more (blocks X N p (Dir es))) h)))
      where
        by : (w : Result Entries Refused) → step es ≡ w → EditsAfter X N a.told b.told (blocks X N p (Dir es)) p w (Ok e)
            → SavesAmong X (saved_for X N p (between es) (with_folder name es (and_then w go))) b.told c.told
        by (Err why) is k = absurd k
        by (Ok below) is k =
            saved-more X _ _ b.told c.told (saved-up (between-below below) (between es) name es (go below) (among es below is))
            (saves below k.plan (below-throughout more folder e es below good h k))

  -- what is saved when its folder is put into this one
  pub path-saves : {Bad Other Third : Role → List ℕ → Type 0} {fault : Option StoreFault} {a b c d : Seen} (folder e f : Entry) (more : List Held) (name : List ℕ) (step go : Entries → Result Entries Refused) (between : Entries → List Held)
      → AreGood X more → OnlySaves X Bad None a b → GivesFolder X N p a b [] folder step (Ok e) → OnlySaves X Other None b c → EditsFolder X N p b c more e go (Ok f)
      → OnlySaves X Third fault c d → SavesPut X N c d p f folder (λ t es. blocks X N p (Dir (with_child name t es)))
      → (es : Entries) → IsPlanOf X N p folder (Dir es) → AgreesThroughout a d (more ++ blocks X N p (Dir es))
      → SavesAmong X (saved_for X N p (between es) (with_folder name es (and_then (step es) go))) c.told d.told
  path-saves {Bad} {Other} {Third} {fault} {a} {b} {c} {d} folder e f more name step go between good before leads middle edits after puts es plan h =
      by (step es) (leads es (throughout-over before middle [] folder es plan (throughout-some a c _ _ (back-among more (blocks X N p (Dir es))) (throughout-first both after _ h))))
    where
      both : OnlySaves X Other None a c
      both = saves-saves before middle

      by2 : (w : Result Entries Refused) → EditsAfter X N a.told c.told (more ++ blocks X N p (Dir es)) p (allowed X N p w) (Ok f)
          → SavesAmong X (saved_for X N p (between es) (with_folder name es w)) c.told d.told
      by2 (Err why) k = absurd k
      by2 (Ok new) k =
          let is = allowed-ok X N p a.told c.told _ new f k in
          saved-more X _ _ c.told d.told (back-among (between es) (blocks X N p (Dir (with_child name (Dir new) es))))
          (put-then both after more folder f name (Dir new) es good plan h is.plan is.after puts)

      by : (w : Result Entries Refused) → EditsAfter X N a.told b.told (blocks X N p (Dir es)) p w (Ok e)
          → SavesAmong X (saved_for X N p (between es) (with_folder name es (and_then w go))) c.told d.told
      by (Err why) k = absurd k
      by (Ok below) k = by2 (go below) (step-edit X N p folder e more es below go (Ok f) good before middle (throughout-over both after more folder es plan h) k edits)
