-- What the sections of a CAR leave in a store.
use Rattle.std.proofs.Common.{◌≡◌, ℕ, List, [], ◌∷◌, ◌++◌, refl, sym, subst, ◌∙◌, append_assoc, append-nil, Some}
use Rattle.std.proofs.lemmas.List.{append_cancel_left}
use Rattle.uf_car.specs.Importing.{with_saves}
use Rattle.uf_car.proofs.Clashing.{saves_of}
use Rattle.uf_cid.specs.Blocks.{Held}
use Rattle.uf_cid.specs.Blocks as blocks
use Rattle.uf_mfs.specs.Standing.{TellsHeld}
use Rattle.uf_store.specs.Contents.{Contents, Told, changed, held_at, with_save}
use Rattle.uf_store.specs.Writing.{Appends, IsSave, ReplaceNone, SavesOnly}
use Rattle.uf_store.specs.declared.store.Write.TheVariants.{Saved}
use Rattle.uf_store.proofs.Keeping.{held-saved}
use Rattle.uf_store.proofs.Writing.{SavesOnly-refl, SavesOnly-saved, SavesOnly-trans, Wrote-good}

writes-are : (sections : List Held) (t : Contents) → (with_saves sections t).writes ≡ t.writes ++ saves_of sections
writes-are [] t = sym (append-nil t.writes)
writes-are (b ∷ sections) t = writes-are sections (with_save b.0 b.1 t) ∙ append_assoc t.writes (Saved b.0 b.1 ∷ []) (saves_of sections)

module _ (X : List ℕ → List ℕ) where
  saves-only : (sections : List Held) (t : Contents) → ReplaceNone X t.held (saves_of sections) → SavesOnly X (Some t) (Some (with_saves sections t))
  saves-only [] t free = SavesOnly-refl X (Some t)
  saves-only (b ∷ sections) t free =
      SavesOnly-trans X (Some t) (Some (with_save b.0 b.1 t)) (Some (with_saves sections (with_save b.0 b.1 t))) (SavesOnly-saved X b.0 b.1 (Some t) (Some (with_save b.0 b.1 t)) free.0 free.1 refl)
      (saves-only sections (with_save b.0 b.1 t) free.2)

  -- no save replaced another's block
  all-held : (sections : List Held) (t : Contents) → ReplaceNone X t.held (saves_of sections) → blocks.Holds (held_at (with_saves sections t)) sections
  all-held [] t free = tt
  all-held (b ∷ sections) t free =
      let more = Wrote-good X IsSave (Some (with_save b.0 b.1 t)) (Some (with_saves sections (with_save b.0 b.1 t))) (saves-only sections (with_save b.0 b.1 t) free.2) in
      (more.stays b.0 b.1 (held-saved t b.0 b.1) free.0, all-held sections (with_save b.0 b.1 t) free.2)

  -- saves replaced no other block
  pub free-of : (sections : List Held) (t : Contents) → Appends X IsSave t (with_saves sections t) → ReplaceNone X t.held (saves_of sections)
  free-of sections t h = subst (ReplaceNone X t.held) (append_cancel_left t.writes h.added (saves_of sections) (sym h.writes ∙ writes-are sections t)) h.replace_none

  -- sections that were saved are held
  pub sections-held : (sections : List Held) (t : Contents) (now : Told) → now ≡ changed (with_saves sections) (Some t) → SavesOnly X (Some t) now → TellsHeld now sections
  sections-held sections t now is saves =
      subst (λ n. TellsHeld n sections) (sym is) (all-held sections t (free-of sections t (subst (SavesOnly X (Some t)) is saves)))
