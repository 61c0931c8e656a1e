-- What a stop during a command leaves, by what the command writes.
use Rattle.std.proofs.Common.{◌≡◌, ℕ, ◌<◌, ◌^◌, List, [], ◌∷◌, ◌++◌, Bool, true, false, refl, sym, ap, subst, ◌∙◌, inl, inr, append_assoc, append-nil, Some, None, Result, Ok, Err}
use Rattle.std.specs.FinMap.{get}
use Rattle.std.specs.List.{AllByRecursion}
use Rattle.uf_cid.specs.Blocks.{Held}
use Rattle.uf_cid.specs.Blocks as blocks
use Rattle.uf_mfs.specs.Standing.{Commits, Idle, LeavesHead, OnlySynced, Same, SavesThen, Written}
use Rattle.uf_store.specs.Contents.{Contents, HeldMap, Notes, Told, changed, held_at, no_notes, notes_after, with_sync, with_text}
use Rattle.uf_store.specs.Stops.{IsPlain, firm, held_by, notes_by, written}
use Rattle.uf_store.specs.Writing.{Appends, IsSave, ReplaceNone, SavesOnly}
use Rattle.uf_store.specs.declared.store.Note.TheVariants.{Head, Pins}
use Rattle.uf_store.specs.declared.store.Write.{Write}
use Rattle.uf_store.specs.declared.store.Write.TheVariants.{Synced, Noted}
use Rattle.uf_store.proofs.Writing.{SavesOnly-refl, fold-append, saves-notes}
use Rattle.uf_cid.specs.declared.cid.Cid.{Cid}
use Rattle.uf_tree.specs.Heads.{head_text}
use Rattle.uf_tree.specs.Standing.{Standing, NoHead, BadHead, Stands}
use Rattle.uf_tree.specs.Tree.{Entries}
use Rattle.uf_tree.specs.Validity.{IsHash}
use Rattle.uf_tree.specs.declared.profile.Profile.{Profile}
use Rattle.uf_laws.proofs.Heads.{one_standing}
use Rattle.uf_command.specs.Natures.{WriteShape, MakesHead, MovesHead, NoWrites, NotesPins, SyncsBlocks, SyncsPins, command_writes}
use Rattle.uf_command.specs.declared.types.Command.{Command}
use Rattle.uf_command.specs.declared.types.Refusal.{Refusal}
use Rattle.uf_top.proofs.Notes.{note-there}
use Rattle.uf_top.proofs.Shaped.{head-after}
use Rattle.uf_top.specs.Outcomes.{EachOutcome, EachStop, IsSafeFor, LeavesEither, LeavesNoneOr, LeavesTree}
use Rattle.uf_top.specs.Shapes.{HeadAfter, SyncsAfter, WritesAs, WritesFor}
use Rattle.uf_headline.proofs.Firm.{IsFirm, firm-leaves, firm-of, firm-pinned, plain-pinned, firm-safe, firm-saved, firm-stands, firm-synced, holds-part, noted-firm, plain-noted, plain-saves, plain-synced, safe-firm, saves-append, stops-none, stops-one, stops-saves, stops-then, synced-firm}

told-is : (a b : Contents) → ◌≡◌ {A = Told} (Some a) (Some b) → a ≡ b
told-is a b e = cc

-- what the Head is after saves, a sync and a text
abbrev noted : List ℕ → Contents → Contents
noted text m = with_text Head text (with_sync m)

-- and after a note of pins
abbrev pinned : List ℕ → Contents → Contents
pinned text m = with_text Pins text m

module _ (X : List ℕ → List ℕ) where
  -- after a sync all that is told is firm
  firm-then : (m : Contents) → IsPlain m → firm (with_sync m).writes ≡ m.held
  firm-then m plain = synced-firm m.writes ∙ sym plain.held

  -- where what saves, and then one thing, left is known
  saved-to : (a : Contents) (between : Told) → SavesOnly X (Some a) between → (m : Contents) × (between ≡ Some m) × Appends X IsSave a m
  saved-to a None saves = absurd saves
  saved-to a (Some m) saves = (m, refl, saves)

  -- the blocks of `add`
  synced-held : (m b : Contents) (l : List Held) → IsPlain m → b ≡ with_sync m → blocks.Holds (held_at b) l → EachOutcome (λ held notes. blocks.Holds (λ cid. get held cid) l) b.writes
  synced-held m b l plain is holds = λ held notes left.
      let firm_is : firm b.writes ≡ b.held = ap (λ (t : Contents). firm t.writes) is ∙ firm-then m plain ∙ ap (λ (t : Contents). t.held) (sym is) in
      holds-part (firm b.writes) held l left.firm_stays (subst (λ (h : HeldMap). blocks.Holds (λ cid. get h cid) l) (sym firm_is) holds)

  pub add-stops : (a b : Contents) (l : List Held) → IsPlain a → SyncsAfter X (Some a) (Some b) → blocks.Holds (held_at b) l → EachOutcome (λ held notes. blocks.Holds (λ cid. get held cid) l) b.writes
  add-stops a b l plain synced holds = by synced.between synced.saves synced.last
    where
      by : (between : Told) → SavesOnly X (Some a) between → Some b ≡ changed with_sync between → EachOutcome (λ held notes. blocks.Holds (λ cid. get held cid) l) b.writes
      by None saves last = absurd saves
      by (Some m) saves last = synced-held m b l (plain-saves X a m plain saves) (told-is b (with_sync m) last) holds

  module _ (N : List ℕ → ℕ) where
    -- ---- a store without a Head

    module _ (p : Profile) (es : Entries) where
      none-leaves : (ws : List Write) → (notes_by ws).head ≡ None → EachOutcome (LeavesNoneOr X N p es) ws
      none-leaves ws none = λ held notes left. inl (ap (λ (n : Notes). n.head) left.notes_are ∙ none)

      none-saved : (ws us : List Write) → AllByRecursion IsSave us → ReplaceNone X (held_by ws) us → (notes_by ws).head ≡ None → (notes_by (ws ++ us)).head ≡ None
      none-saved ws us each free none = ap (λ (n : Notes). n.head) (saves-notes X (written ws) (written (ws ++ us)) (saves-append X ws us each free)) ∙ none

      none-synced : (ws : List Write) → (notes_by ws).head ≡ None → (notes_by (ws ++ Synced ∷ [])).head ≡ None
      none-synced ws none = ap (λ (n : Notes). n.head) (fold-append notes_after no_notes ws (Synced ∷ [])) ∙ none

      module _ (a m : Contents) (plain : IsPlain a) (none : a.notes.head ≡ None) (saves : Appends X IsSave a m) where
        at-first : (notes_by a.writes).head ≡ None
        at-first = ap (λ (n : Notes). n.head) (sym plain.notes) ∙ none

        still-none : (notes_by m.writes).head ≡ None
        still-none = ap (λ (n : Notes). n.head) (sym (plain-saves X a m plain saves).notes ∙ saves-notes X a m saves) ∙ none

        saved-none : EachStop (LeavesNoneOr X N p es) a m
        saved-none = stops-saves (LeavesNoneOr X N p es) X a m plain saves (λ us each free. none-leaves (a.writes ++ us) (none-saved a.writes us each free at-first))

        synced-none : EachStop (LeavesNoneOr X N p es) a (with_sync m)
        synced-none =
            stops-then (LeavesNoneOr X N p es) a m (with_sync m) saves.added (Synced ∷ []) saves.writes refl saved-none
            (stops-one (LeavesNoneOr X N p es) m (with_sync m) Synced refl (none-leaves m.writes still-none) (none-leaves (with_sync m).writes (none-synced m.writes still-none)))

        noted-firm-too : (text : List ℕ) → LeavesTree X N p es m.held (noted text m).notes → IsFirm X N p es (noted text m).writes
        noted-firm-too text stands =
            let plain_m = plain-saves X a m plain saves in
            let plain_n = plain-noted X (with_sync m) text (plain-synced X m plain_m) in
            firm-of X N p es (noted text m) plain_n (noted-firm (with_sync m).writes Head text ∙ firm-then m plain_m ∙ plain_n.held) stands

        noted-none : (text : List ℕ) → LeavesTree X N p es m.held (noted text m).notes → EachStop (LeavesNoneOr X N p es) a (noted text m)
        noted-none text stands =
            stops-then (LeavesNoneOr X N p es) a (with_sync m) (noted text m) (saves.added ++ Synced ∷ []) (Noted Head text ∷ [])
            (ap (λ (l : List Write). l ++ Synced ∷ []) saves.writes ∙ append_assoc a.writes saves.added (Synced ∷ [])) refl synced-none
            (stops-one (LeavesNoneOr X N p es) (with_sync m) (noted text m) (Noted Head text) refl (none-leaves (with_sync m).writes (none-synced m.writes still-none))
            (λ held notes left. inr (firm-leaves X N p es (noted text m).writes (noted-firm-too text stands) held notes left)))

      -- the store was made ready, and no stop takes that away
      pub init-safe : (a b : Contents) → IsPlain a → a.notes.head ≡ None → HeadAfter X (Some a) (Some b) → LeavesTree X N p es b.held b.notes → IsSafeFor X N b p es
      init-safe a b plain none written stands = by written.2.between written.2.saves written.2.last
        where
          by : (between : Told) → SavesOnly X (Some a) between → Commits written.0 written.1 between (Some b) → IsSafeFor X N b p es
          by None saves last = absurd saves
          by (Some m) saves (Idle head same) = absurd (note-there m.notes.head written.0 written.1 head (ap (λ (n : Notes). n.head) (saves-notes X a m saves) ∙ none))
          by (Some m) saves (Written head same) =
              let text = head_text written.0 written.1 in
              let is : b ≡ noted text m = told-is b (noted text m) same in
              let plain_n = plain-noted X (with_sync m) text (plain-synced X m (plain-saves X a m plain saves)) in
              subst (λ (t : Contents). IsSafeFor X N t p es) (sym is)
              (firm-safe X N p es (noted text m) plain_n (noted-firm-too a m plain none saves text (subst (λ (t : Contents). LeavesTree X N p es t.held t.notes) is stands)))

      pub init-stops : (done : Bool) (a b : Contents) → IsPlain a → a.notes.head ≡ None → WritesAs X MakesHead done (Some a) (Some b) → LeavesNoneOr X N p es b.held b.notes → EachStop (LeavesNoneOr X N p es) a b
      init-stops true a b plain none (none_there, written) now = by written.2.between written.2.saves written.2.last
        where
          is-tree : (text : List ℕ) (m : Contents) → b ≡ noted text m → LeavesNoneOr X N p es b.held b.notes → LeavesTree X N p es m.held (noted text m).notes
          is-tree text m is (inl gone) = absurd (let k : Some text ≡ None = ap (λ (t : Contents). t.notes.head) (sym is) ∙ gone in cc)
          is-tree text m is (inr stands) = subst (λ (t : Contents). LeavesTree X N p es t.held t.notes) is stands

          by : (between : Told) → SavesOnly X (Some a) between → Commits written.0 written.1 between (Some b) → EachStop (LeavesNoneOr X N p es) a b
          by None saves last = absurd saves
          by (Some m) saves (Idle head same) = absurd (note-there m.notes.head written.0 written.1 head (ap (λ (n : Notes). n.head) (saves-notes X a m saves) ∙ none))
          by (Some m) saves (Written head same) =
              let text = head_text written.0 written.1 in
              let is : b ≡ noted text m = told-is b (noted text m) same in
              subst (EachStop (LeavesNoneOr X N p es) a) (sym is) (noted-none a m plain none saves text (is-tree text m is now))
      init-stops false a b plain none written now = by written.between written.saves written.last
        where
          by : (between : Told) → SavesOnly X (Some a) between → LeavesHead between (Some b) → EachStop (LeavesNoneOr X N p es) a b
          by None saves last = absurd saves
          by (Some m) saves (Same same) = subst (EachStop (LeavesNoneOr X N p es) a) (sym (told-is b m same)) (saved-none a m plain none saves)
          by (Some m) saves (OnlySynced same) = subst (EachStop (LeavesNoneOr X N p es) a) (sym (told-is b (with_sync m) same)) (synced-none a m plain none saves)

    -- ---- a store that is safe for a tree

    module _ (hash : IsHash X) (small : (name : List ℕ) → N name < 2 ^ 64) (a : Contents) (p q : Profile) (es fs : Entries) (safe : IsSafeFor X N a p es) where
      abbrev Either : HeldMap → Notes → Type 0
      Either = LeavesEither X N p es q fs

      -- the store is safe for the next tree, and each stop leaves it or the one before
      abbrev EndsWell : Contents → Type 0
      EndsWell b = IsSafeFor X N b q fs × EachStop Either a b

      abbrev IsNext : Contents → Type 0
      IsNext b = LeavesTree X N q fs b.held b.notes

      before-too : (ws : List Write) → IsFirm X N p es ws → EachOutcome Either ws
      before-too ws f = λ held notes left. inl (firm-leaves X N p es ws f held notes left)

      abbrev SafeAs : Contents → Standing → Type 0
      SafeAs b NoHead = ⊥
      SafeAs b BadHead = ⊥
      SafeAs b (Stands r gs) = IsSafeFor X N b r gs

      -- the tree before still stands, so it is the next one
      ends-same : (b : Contents) → IsPlain b → IsFirm X N p es b.writes → IsNext b → EachStop Either a b → EndsWell b
      ends-same b plain f next stops =
          (subst (SafeAs b) (one_standing X N hash small (held_at b) b.notes.head (Stands p es) (Stands q fs) (firm-stands X N p es b plain f) next) (firm-safe X N p es b plain f), stops)

      first-firm : IsFirm X N p es a.writes
      first-firm = safe-firm X N p es a safe

      nothing-ends : IsNext a → EndsWell a
      nothing-ends next = ends-same a safe.safe.plain first-firm next (stops-none Either a a refl (before-too a.writes first-firm))

      module _ (m : Contents) (saves : Appends X IsSave a m) where
        plain_m : IsPlain m
        plain_m = plain-saves X a m safe.safe.plain saves

        saved-firm-too : IsFirm X N p es m.writes
        saved-firm-too =
            subst (IsFirm X N p es) (sym saves.writes)
            (firm-saved X N p es a.writes saves.added saves.each (subst (λ (h : HeldMap). ReplaceNone X h saves.added) safe.safe.plain.held saves.replace_none) first-firm)

        saved-stops : EachStop Either a m
        saved-stops = stops-saves Either X a m safe.safe.plain saves (λ us each none. before-too (a.writes ++ us) (firm-saved X N p es a.writes us each none first-firm))

        synced-firm-too : IsFirm X N p es (with_sync m).writes
        synced-firm-too = firm-synced X N p es m plain_m saved-firm-too

        synced-stops : EachStop Either a (with_sync m)
        synced-stops =
            stops-then Either a m (with_sync m) saves.added (Synced ∷ []) saves.writes refl saved-stops
            (stops-one Either m (with_sync m) Synced refl (before-too m.writes saved-firm-too) (before-too (with_sync m).writes synced-firm-too))

        saved-ends : IsNext m → EndsWell m
        saved-ends next = ends-same m plain_m saved-firm-too next saved-stops

        synced-ends : IsNext (with_sync m) → EndsWell (with_sync m)
        synced-ends next = ends-same (with_sync m) (plain-synced X m plain_m) synced-firm-too next synced-stops

        noted-ends : (text : List ℕ) → IsNext (noted text m) → EndsWell (noted text m)
        noted-ends text next =
            let plain_n = plain-noted X (with_sync m) text (plain-synced X m plain_m) in
            let f : IsFirm X N q fs (noted text m).writes =
            firm-of X N q fs (noted text m) plain_n (noted-firm (with_sync m).writes Head text ∙ firm-then m plain_m ∙ plain_n.held) next in (
              firm-safe X N q fs (noted text m) plain_n f,
              stops-then Either a (with_sync m) (noted text m) (saves.added ++ Synced ∷ []) (Noted Head text ∷ [])
                  (ap (λ (l : List Write). l ++ Synced ∷ []) saves.writes ∙ append_assoc a.writes saves.added (Synced ∷ [])) refl synced-stops
                  (stops-one Either (with_sync m) (noted text m) (Noted Head text) refl (before-too (with_sync m).writes synced-firm-too)
                  (λ held notes left. inr (firm-leaves X N q fs (noted text m).writes f held notes left))),
            )

      along : (b c : Contents) → b ≡ c → IsNext b → (IsNext c → EndsWell c) → EndsWell b
      along b c same next go = subst EndsWell (sym same) (go (subst IsNext same next))

      leaves-ends : (b : Contents) → SavesThen X LeavesHead (Some a) (Some b) → IsNext b → EndsWell b
      leaves-ends b written next = by written.between written.saves written.last
        where
          by : (between : Told) → SavesOnly X (Some a) between → LeavesHead between (Some b) → EndsWell b
          by None saves last = absurd saves
          by (Some m) saves (Same same) = along b m (told-is b m same) next (saved-ends m saves)
          by (Some m) saves (OnlySynced same) = along b (with_sync m) (told-is b (with_sync m) same) next (synced-ends m saves)

      syncs-ends : (b : Contents) → SyncsAfter X (Some a) (Some b) → IsNext b → EndsWell b
      syncs-ends b written next = leaves-ends b (record { between = written.between; saves = written.saves; last = OnlySynced written.last }) next

      head-ends : (b : Contents) → HeadAfter X (Some a) (Some b) → IsNext b → EndsWell b
      head-ends b written next = by written.2.between written.2.saves written.2.last
        where
          by : (between : Told) → SavesOnly X (Some a) between → Commits written.0 written.1 between (Some b) → EndsWell b
          by None saves last = absurd saves
          by (Some m) saves (Idle head same) = along b m (told-is b m same) next (saved-ends m saves)
          by (Some m) saves (Written head same) =
              let text = head_text written.0 written.1 in
              along b (noted text m) (told-is b (noted text m) same) next (noted-ends m saves text)

      pub commit-ends : (r : Profile) (root : Cid) (b : Contents) → Commits r root (Some a) (Some b) → IsNext b → EndsWell b
      commit-ends r root b commits next = head-ends b (r, root, record { between = Some a; saves = SavesOnly-refl X (Some a); last = commits }) next

      -- a note of pins that is written changes no tree
      none-saved-yet : Appends X IsSave a a
      none-saved-yet = SavesOnly-refl X (Some a)

      pinned-ends : (m : Contents) (xs : List Write) → m.writes ≡ a.writes ++ xs → IsPlain m → IsFirm X N p es m.writes → EachStop Either a m → (text : List ℕ) → IsNext (pinned text m) → EndsWell (pinned text m)
      pinned-ends m xs is plain firm_m early text next =
          let plain_n = plain-pinned X m text plain in
          let firm_n = firm-pinned X N p es m text plain firm_m in
          ends-same (pinned text m) plain_n firm_n next
          (stops-then Either a m (pinned text m) xs (Noted Pins text ∷ []) is refl early
          (stops-one Either m (pinned text m) (Noted Pins text) refl (before-too m.writes firm_m) (before-too (pinned text m).writes firm_n)))

      shape-ends : (shape : WriteShape) (done : Bool) (b : Contents) → WritesAs X shape done (Some a) (Some b) → IsNext b → EndsWell b
      shape-ends NoWrites done b written next = along b a (told-is b a written) next nothing-ends
      shape-ends SyncsBlocks true b written next = syncs-ends b written next
      shape-ends SyncsBlocks false b written next = leaves-ends b written next
      shape-ends MakesHead true b written next = head-ends b written.1 next
      shape-ends MakesHead false b written next = leaves-ends b written next
      shape-ends MovesHead true b written next = head-ends b (head-after X (Some a) (Some b) written) next
      shape-ends MovesHead false b written next = leaves-ends b written next
      shape-ends SyncsPins true b (inl written) next = leaves-ends b (record { between = Some a; saves = SavesOnly-refl X (Some a); last = OnlySynced written }) next
      shape-ends SyncsPins true b (inr written) next = along b (pinned written.0 (with_sync a)) (told-is b (pinned written.0 (with_sync a)) written.1) next (pinned-ends (with_sync a) (Synced ∷ []) refl (plain-synced X a safe.safe.plain) (synced-firm-too a none-saved-yet) (synced-stops a none-saved-yet) written.0)
      shape-ends SyncsPins false b (inl written) next = along b a (told-is b a written) next nothing-ends
      shape-ends SyncsPins false b (inr written) next = leaves-ends b (record { between = Some a; saves = SavesOnly-refl X (Some a); last = OnlySynced written }) next
      shape-ends NotesPins true b written next = along b (pinned written.0 a) (told-is b (pinned written.0 a) written.1) next (pinned-ends a [] (sym (append-nil a.writes)) safe.safe.plain first-firm (stops-none Either a a refl (before-too a.writes first-firm)) written.0)
      shape-ends NotesPins false b written next = along b a (told-is b a written) next nothing-ends

      pub words-end : (asked : Result Command Refusal) (done : Bool) (b : Contents) → WritesFor X asked done (Some a) (Some b) → IsNext b → EndsWell b
      words-end (Ok command) done b written next = shape-ends (command_writes command) done b written next
      words-end (Err why) done b written next = along b a (told-is b a written) next nothing-ends
