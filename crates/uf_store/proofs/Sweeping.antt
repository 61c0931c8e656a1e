-- A store that tells what was written, and of which some blocks went, tells what its list of writes makes.
use Rattle.std.proofs.Common.{◌≡◌, ℕ, List, [], ◌∷◌, ◌++◌, Bool, true, false, cond, refl, sym, ap, subst, ◌∙◌, ◌||◌}
use Rattle.std.specs.Prelude.{fold, Some, None}
use Rattle.std.specs.declared.option.Option.{Option}
use Rattle.std.specs.FinMap.{get, insert, empty, get-empty, get-insert, get-retain_keys, same_map}
use Rattle.std.specs.Ordering.{eq_by_cmp}
use Rattle.uf_cid.specs.declared.cid.Cid.{Cid}
use Rattle.uf_cid.specs.Blocks.{Lookup}
use Rattle.uf_cid.specs.Cid.{cid_cmp}
use Rattle.uf_store.specs.declared.store.Note.{Note}
use Rattle.uf_store.specs.declared.store.Note.TheVariants.{Head, Pins}
use Rattle.uf_store.specs.declared.store.Write.{Write}
use Rattle.uf_store.specs.declared.store.Write.TheVariants.{Saved, Synced, Noted}
use Rattle.uf_store.specs.Contents.{Contents, HeldMap, Notes, held_after, no_notes, notes_after}
use Rattle.uf_store.specs.Stops.{IsPlain, held_by, notes_by}
use Rattle.uf_store.specs.Sweeping.{is_saved, last_saves, left_of, note_of, part_of, save_of, swept, sync_of, writes_of, is_synced}
use Rattle.uf_store.proofs.Holding.{cid_cmp_total, cid_cmp-IsAntisymmetric}
use Rattle.uf_store.proofs.Keeping.{same_of}
use Rattle.uf_store.proofs.Writing.{fold-append}

-- what is held under a CID, of a part
pub get-part : (held : HeldMap) (stays : Cid → Bool) (c : Cid) → get (part_of held stays) c ≡ cond (stays c) (get held c) None
get-part held stays c = get-retain_keys held stays c (λ x tie. ap stays (sym (cid_cmp-IsAntisymmetric c x tie)))

-- the first, where there is one and it is saved, over the second
abbrev pub over : Bool → Option (List ℕ) → Option (List ℕ) → Option (List ℕ)
over true None old = old
over true (Some bytes) old = Some bytes
over false new old = old

module _ (held : Lookup) (c : Cid) where
  -- what one save that is left puts under a CID
  left-saved : (cid : Cid) (bytes : List ℕ) (ws : List Write) (m : HeldMap) (tied later : Bool) (here : Option (List ℕ)) → eq_by_cmp cid_cmp c cid ≡ tied
      → is_saved cid ws ≡ later → held cid ≡ here
      → ((n : HeldMap) → get (fold held_after n (last_saves held ws)) c ≡ over (is_saved c ws) (held c) (get n c))
      → get (fold held_after m (cond later [] (save_of cid here) ++ last_saves held ws)) c ≡ over (tied || is_saved c ws) (held c) (get m c)
  left-saved cid bytes ws m true true here tie late is so =
      so m ∙ ap (λ b. over b (held c) (get m c)) (ap (λ d. is_saved d ws) (same_of c cid tie) ∙ late)
  left-saved cid bytes ws m false true here tie late is so = so m
  left-saved cid bytes ws m true false None tie late is so =
      so m ∙ ap (λ b. over b (held c) (get m c)) (ap (λ d. is_saved d ws) (same_of c cid tie) ∙ late)
      ∙ sym (ap (λ o. over true o (get m c)) (ap held (same_of c cid tie) ∙ is))
  left-saved cid bytes ws m false false None tie late is so = so m
  left-saved cid bytes ws m true false (Some b) tie late is so =
      so (insert m cid b)
      ∙ ap (λ x. over x (held c) (get (insert m cid b) c)) (ap (λ d. is_saved d ws) (same_of c cid tie) ∙ late)
      ∙ get-insert cid_cmp_total m cid b c ∙ ap (λ x. cond x (Some b) (get m c)) tie
      ∙ sym (ap (λ o. over true o (get m c)) (ap held (same_of c cid tie) ∙ is))
  left-saved cid bytes ws m false false (Some b) tie late is so =
      so (insert m cid b) ∙ ap (over (is_saved c ws) (held c)) (get-insert cid_cmp_total m cid b c ∙ ap (λ x. cond x (Some b) (get m c)) tie)

  -- what the saves that are left put under a CID
  after_saves : (ws : List Write) (m : HeldMap) → get (fold held_after m (last_saves held ws)) c ≡ over (is_saved c ws) (held c) (get m c)
  after_saves [] m = refl
  after_saves (Saved cid bytes ∷ ws) m =
      left-saved cid bytes ws m (eq_by_cmp cid_cmp c cid) (is_saved cid ws) (held cid) refl refl refl (after_saves ws)
  after_saves (Synced ∷ ws) m = after_saves ws m
  after_saves (Noted which text ∷ ws) m = after_saves ws m

-- nothing is under a CID that wasn't saved
neither : (a b : Bool) → (a || b) ≡ false → (a ≡ false) × (b ≡ false)
neither true b e = absurd cc
neither false b e = (refl, e)

unsaved : (c : Cid) (ws : List Write) (m : HeldMap) → is_saved c ws ≡ false → get (fold held_after m ws) c ≡ get m c
unsaved c [] m none = refl
unsaved c (Saved cid bytes ∷ ws) m none =
    let both = neither (eq_by_cmp cid_cmp c cid) (is_saved c ws) none in
    unsaved c ws (insert m cid bytes) both.1 ∙ get-insert cid_cmp_total m cid bytes c ∙ ap (λ x. cond x (Some bytes) (get m c)) both.0
unsaved c (Synced ∷ ws) m none = unsaved c ws m none
unsaved c (Noted which text ∷ ws) m none = unsaved c ws m none

-- saves, the notes and a sync, one behind the other
in_turn : {B : Type 0} (f : B → Write → B) (b : B) (saves head pins sync : List Write)
    → fold f b (saves ++ head ++ pins ++ sync) ≡ fold f (fold f (fold f (fold f b saves) head) pins) sync
in_turn f b saves head pins sync =
    fold-append f b (saves ++ head ++ pins) sync
    ∙ ap (λ x. fold f x sync) (fold-append f b (saves ++ head) pins ∙ ap (λ x. fold f x pins) (fold-append f b saves head))

-- notes and a sync are no saves
no_save : (m : HeldMap) (which : Note) (text : Option (List ℕ)) → fold held_after m (note_of which text) ≡ m
no_save m which None = refl
no_save m which (Some text) = refl

no_save_synced : (m : HeldMap) (b : Bool) → fold held_after m (sync_of b) ≡ m
no_save_synced m true = refl
no_save_synced m false = refl

-- and saves are no notes
no_note : (n : Notes) (l : List Write) (cid : Cid) (later : Bool) (here : Option (List ℕ)) → fold notes_after n (cond later [] (save_of cid here) ++ l) ≡ fold notes_after n l
no_note n l cid true here = refl
no_note n l cid false None = refl
no_note n l cid false (Some b) = refl

no_notes_left : (held : Lookup) (n : Notes) (ws : List Write) → fold notes_after n (last_saves held ws) ≡ n
no_notes_left held n [] = refl
no_notes_left held n (Saved cid bytes ∷ ws) = no_note n (last_saves held ws) cid (is_saved cid ws) (held cid) ∙ no_notes_left held n ws
no_notes_left held n (Synced ∷ ws) = no_notes_left held n ws
no_notes_left held n (Noted which text ∷ ws) = no_notes_left held n ws

notes_back : (head pins : Option (List ℕ)) (b : Bool) → fold notes_after (fold notes_after (fold notes_after no_notes (note_of Head head)) (note_of Pins pins)) (sync_of b) ≡ record { head = head; pins = pins }
notes_back None None true = refl
notes_back None None false = refl
notes_back None (Some p) true = refl
notes_back None (Some p) false = refl
notes_back (Some h) None true = refl
notes_back (Some h) None false = refl
notes_back (Some h) (Some p) true = refl
notes_back (Some h) (Some p) false = refl

module _ (held : Lookup) (notes : Notes) (ws : List Write) where
  abbrev saved : HeldMap
  saved = fold held_after empty (last_saves held ws)

  -- the blocks and the notes that the writes make
  pub held-again : held_by (writes_of held notes ws) ≡ fold held_after empty (last_saves held ws)
  held-again =
      in_turn held_after empty (last_saves held ws) (note_of Head notes.head) (note_of Pins notes.pins) (sync_of (is_synced ws))
      ∙ no_save_synced (fold held_after (fold held_after saved (note_of Head notes.head)) (note_of Pins notes.pins)) (is_synced ws)
      ∙ no_save (fold held_after saved (note_of Head notes.head)) Pins notes.pins
      ∙ no_save saved Head notes.head

  pub notes-again : notes_by (writes_of held notes ws) ≡ notes
  notes-again =
      in_turn notes_after no_notes (last_saves held ws) (note_of Head notes.head) (note_of Pins notes.pins) (sync_of (is_synced ws))
      ∙ ap (λ (n : Notes). fold notes_after (fold notes_after (fold notes_after n (note_of Head notes.head)) (note_of Pins notes.pins)) (sync_of (is_synced ws))) (no_notes_left held no_notes ws)
      ∙ notes_back notes.head notes.pins (is_synced ws)

over-empty : (saved : Bool) (new : Option (List ℕ)) → (saved ≡ false → new ≡ None) → over saved new None ≡ new
over-empty true None h = refl
over-empty true (Some b) h = refl
over-empty false new h = sym (h refl)

cond-none : (b : Bool) → ◌≡◌ {A = Option (List ℕ)} (cond b None None) None
cond-none true = refl
cond-none false = refl

module _ (stays : Cid → Bool) (t : Contents) (plain : IsPlain t) where
  abbrev part_at : Lookup
  part_at c = get (part_of t.held stays) c

  nothing_unsaved : (c : Cid) → is_saved c t.writes ≡ false → part_at c ≡ None
  nothing_unsaved c none =
      get-part t.held stays c
      ∙ ap (λ (o : Option (List ℕ)). cond (stays c) o None) (ap (λ (m : HeldMap). get m c) plain.held ∙ unsaved c t.writes empty none ∙ get-empty cid_cmp c)
      ∙ cond-none (stays c)

  held-left : part_of t.held stays ≡ held_by (writes_of part_at t.notes t.writes)
  held-left = same_map cid_cmp_total cid_cmp-IsAntisymmetric (part_of t.held stays) (held_by (writes_of part_at t.notes t.writes)) (λ c.
      sym (ap (λ (m : HeldMap). get m c) (held-again part_at t.notes t.writes)
      ∙ after_saves part_at c t.writes empty
      ∙ ap (over (is_saved c t.writes) (part_at c)) (get-empty cid_cmp c)
      ∙ over-empty (is_saved c t.writes) (part_at c) (nothing_unsaved c)))

  -- the law
  pub swept-plain : IsPlain (swept stays t)
  swept-plain = record { held = held-left; notes = sym (notes-again part_at t.notes t.writes) }
