-- The sections of a CAR as an empty store holds them.
use Rattle.std.proofs.Common.{◌≡◌, ◌⊎◌, ℕ, List, [], ◌∷◌, ◌++◌, take, drop, refl, sym, ap, subst, ◌∙◌, append_assoc, append-nil, inl, inr, Some, None}
use Rattle.std.proofs.lemmas.List.{append_cancel_left, take-append-drop}
use Rattle.std.specs.FinMap.{get-empty, get-insert}
use Rattle.std.specs.List.{AllByRecursion}
use Rattle.std.specs.Ordering.{eq_by_cmp}
use Rattle.std.specs.Prelude.{Contains}
use Rattle.uf_car.specs.Clashing.{HasTwo, sections_clash}
use Rattle.uf_car.specs.Importing.{with_saves}
use Rattle.uf_car.proofs.Clashing.{clash-behind, clash-here, clash-none, held-of, none-good, saves_of}
use Rattle.uf_cid.specs.Blocks as blocks
use Rattle.uf_cid.specs.Blocks.{Held, IsClash}
use Rattle.uf_cid.specs.Cid.{cid_cmp}
use Rattle.uf_cid.specs.declared.cid.Cid.{Cid}
use Rattle.uf_store.specs.Contents.{Contents, Told, changed, held_at, with_save}
use Rattle.uf_store.specs.InMemory.{no_contents}
use Rattle.uf_store.specs.Keeping.{Holds, HoldsOne}
use Rattle.uf_store.specs.Writing.{Appends, IsSave, ReplaceNone, SavesOnly}
use Rattle.uf_store.specs.declared.store.Write.TheVariants.{Saved}
use Rattle.uf_store.proofs.Holding.{cid_cmp_total}
use Rattle.uf_store.proofs.Keeping.{get_kept, held-saved}
use Rattle.uf_light.specs.Sections.{sections_told}

writes-are : (sections : List Held) (t : Contents) → (with_saves sections t).writes ≡ t.writes ++ saves_of sections
writes-are [] t = sym (append-nil t.writes)
writes-are (b ∷ sections) t = writes-are sections (with_save b.0 b.1 t) ∙ append_assoc t.writes (Saved b.0 b.1 ∷ []) (saves_of sections)

-- what is held of sections alone is one of them
pub section-of : (sections : List Held) (c : Cid) (bytes : List ℕ) → held_at (with_saves sections no_contents) c ≡ Some bytes → Contains sections (c, bytes)
section-of sections c bytes is = by (held-of sections no_contents c bytes is)
  where
    by : Contains sections (c, bytes) ⊎ (held_at no_contents c ≡ Some bytes) → Contains sections (c, bytes)
    by (inl there) = there
    by (inr none) = absurd (let e : None ≡ Some bytes = sym (get-empty cid_cmp c) ∙ none in cc)

module _ (X : List ℕ → List ℕ) where
  -- saves replaced no other block
  free-of : (sections : List Held) (t : Contents) → Appends X IsSave t (with_saves sections t) → ReplaceNone X t.held (saves_of sections)
  free-of sections t h = subst (ReplaceNone X t.held) (append_cancel_left t.writes h.added (saves_of sections) (sym h.writes ∙ writes-are sections t)) h.replace_none

  digests-of : (sections : List Held) (t : Contents) → ReplaceNone X t.held (saves_of sections) → AllByRecursion (λ (b : Held). X b.1 ≡ b.0.digest) sections
  digests-of [] t free = tt
  digests-of (b ∷ sections) t free = (free.0, digests-of sections (with_save b.0 b.1 t) free.2)

  -- a block with its CID's digest that is held stays so
  stays-held : (sections : List Held) (t : Contents) → ReplaceNone X t.held (saves_of sections) → (c : Cid) (bytes : List ℕ) → X bytes ≡ c.digest → held_at t c ≡ Some bytes → held_at (with_saves sections t) c ≡ Some bytes
  stays-held [] t free c bytes digest is = is
  stays-held (b ∷ sections) t free c bytes digest is =
      stays-held sections (with_save b.0 b.1 t) free.2 c bytes digest
      (get-insert cid_cmp_total t.held b.0 b.1 c ∙ get_kept t.held X b.0 c b.1 bytes (eq_by_cmp cid_cmp c b.0) refl free.1 is digest)

  each-held : (sections : List Held) (t : Contents) → ReplaceNone X t.held (saves_of sections) → blocks.Holds (held_at (with_saves sections t)) sections
  each-held [] t free = tt
  each-held (b ∷ sections) t free = (stays-held sections (with_save b.0 b.1 t) free.2 b.0 b.1 free.0 (held-saved t b.0 b.1), each-held sections (with_save b.0 b.1 t) free.2)

  module _ (told now : Told) (empty : told ≡ Some no_contents) (saves : SavesOnly X told now) where
    free-at : (done : List Held) → now ≡ changed (with_saves done) told → ReplaceNone X no_contents.held (saves_of done)
    free-at done kept = free-of done no_contents (subst (λ (t : Told). SavesOnly X t (changed (with_saves done) t)) empty (subst (SavesOnly X told) kept saves))

    pub now-is : (done : List Held) → now ≡ changed (with_saves done) told → now ≡ Some (with_saves done no_contents)
    now-is done kept = kept ∙ ap (changed (with_saves done)) empty

    -- where all are kept, none clashes with another
    pub sound-all : (sections : List Held) → now ≡ changed (with_saves sections) told → sections_clash sections ≡ None
    sound-all sections kept =
        ap sections_clash (sym (append-nil sections)) ∙ clash-behind X sections [] no_contents (none-good X) (free-at sections kept) ∙ clash-none (with_saves sections no_contents)

    -- and each has its CID's digest
    pub digests-all : (sections : List Held) → now ≡ changed (with_saves sections) told → AllByRecursion (λ (b : Held). X b.1 ≡ b.0.digest) sections
    digests-all sections kept = digests-of sections no_contents (free-at sections kept)

    -- and is held
    pub holds-all : (sections : List Held) → now ≡ changed (with_saves sections) told → Holds (sections_told sections) sections
    holds-all sections kept = each-held sections no_contents (free-at sections kept)

    -- a clash with a block of the sections that were kept
    module _ (sections : List Held) (count : ℕ) (kept : now ≡ changed (with_saves (take count sections)) told) (cid : Cid) (first second : List ℕ) (rest : List Held)
        (next : drop count sections ≡ (cid, second) ∷ rest) (held : HoldsOne now cid first) where
      abbrev done : List Held
      done = take count sections

      all-are : sections ≡ done ++ (cid, second) ∷ rest
      all-are = sym (take-append-drop count sections) ∙ ap (λ (xs : List Held). done ++ xs) next

      held-is : held_at (with_saves done no_contents) cid ≡ Some first
      held-is = subst (λ (t : Told). HoldsOne t cid first) (now-is done kept) held

      pub two-are : HasTwo sections cid first second
      two-are = record { front = done; rest = rest; is = all-are; earlier = section-of done cid first held-is }

      pub clash-is : IsClash X first second → sections_clash sections ≡ Some (record { cid = cid; first = first; second = second })
      clash-is clash =
          ap sections_clash all-are ∙ clash-behind X done ((cid, second) ∷ rest) no_contents (none-good X) (free-at done kept)
          ∙ clash-here (cid, second) rest (with_saves done no_contents) first held-is clash.differ
