-- Sections that were saved, and the first of them that clashes.
use Rattle.std.proofs.Common.{◌≡◌, ◌⊎◌, ℕ, List, [], ◌∷◌, ◌++◌, Bool, true, false, cond, refl, sym, ap, subst, ◌∙◌, inl, inr, Some, None, Option}
use Rattle.std.specs.Prelude.{Contains, nat_eq, if◌then◌else◌}
use Rattle.std.specs.Cmp.Lexicographic.{other_text, pointwise, same_text}
use Rattle.std.specs.FinMap.{get, get-empty, get-insert}
use Rattle.std.specs.Ordering.{eq_by_cmp}
use Rattle.std.proofs.lemmas.List.Elements.{Contains-append_left, Contains-append_right, Contains-push}
use Rattle.uf_cid.specs.Blocks.{Held}
use Rattle.uf_cid.specs.Cid.{cid_cmp}
use Rattle.uf_cid.specs.declared.cid.Cid.{Cid}
use Rattle.uf_store.specs.Contents.{Contents, held_at, with_save}
use Rattle.uf_store.specs.InMemory.{no_contents}
use Rattle.uf_store.specs.Writing.{ReplaceNone}
use Rattle.uf_store.specs.declared.store.Write.{Write}
use Rattle.uf_store.specs.declared.store.Write.TheVariants.{Saved}
use Rattle.uf_store.proofs.Holding.{cid_cmp_total}
use Rattle.uf_store.proofs.Keeping.{same_of}
use Rattle.uf_car.specs.Clashing.{TwoBlocks, first_clash, or_other}
use Rattle.uf_car.specs.Importing.{with_saves}

-- the saves of these blocks
abbrev pub saves_of : List Held → List Write
saves_of [] = []
saves_of (b ∷ sections) = Saved b.0 b.1 ∷ saves_of sections

-- a block that is held once another was saved: it is that one, or it was held
after-save : (A : Type 0) (b : Held) (t : Contents) (c : Cid) (a : List ℕ) → held_at (with_save b.0 b.1 t) c ≡ Some a
    → (c ≡ b.0 → b.1 ≡ a → A) → (held_at t c ≡ Some a → A) → A
after-save A b t c a is saved kept = by (eq_by_cmp cid_cmp c b.0) refl (sym (get-insert cid_cmp_total t.held b.0 b.1 c) ∙ is)
  where
    by : (tied : Bool) → eq_by_cmp cid_cmp c b.0 ≡ tied → cond tied (Some b.1) (get t.held c) ≡ Some a → A
    by true tie e = saved (same_of c b.0 tie) (let same : b.1 ≡ a = cc in same)
    by false tie e = kept e

-- what is held after saves is one of their blocks, or was held
pub held-of : (done : List Held) (t : Contents) (c : Cid) (a : List ℕ) → held_at (with_saves done t) c ≡ Some a → Contains done (c, a) ⊎ (held_at t c ≡ Some a)
held-of [] t c a is = inr is
held-of (b ∷ done) t c a is = by (held-of done (with_save b.0 b.1 t) c a is)
  where
    by : Contains done (c, a) ⊎ (held_at (with_save b.0 b.1 t) c ≡ Some a) → Contains (b ∷ done) (c, a) ⊎ (held_at t c ≡ Some a)
    by (inl more) = inl (Contains-append_right (b ∷ []) done (c, a) more)
    by (inr e) =
        after-save (Contains (b ∷ done) (c, a) ⊎ (held_at t c ≡ Some a)) b t c a e
        (λ one other. inl (subst (Contains (b ∷ done)) (λ i. (sym one i, other i)) (Contains-append_left (b ∷ []) done b (Contains-push [] b))))
        (λ kept. inr kept)

module _ (X : List ℕ → List ℕ) where
  -- each block that is held has its CID's digest
  abbrev pub IsGood : Contents → Type 0
  IsGood t = (c : Cid) (bytes : List ℕ) → held_at t c ≡ Some bytes → X bytes ≡ c.digest

  good-saved : (b : Held) (t : Contents) → X b.1 ≡ b.0.digest → IsGood t → IsGood (with_save b.0 b.1 t)
  good-saved b t digest good c bytes is =
      after-save (X bytes ≡ c.digest) b t c bytes is
      (λ one other. ap X (sym other) ∙ digest ∙ ap (λ (d : Cid). d.digest) (sym one))
      (λ kept. good c bytes kept)

  -- saves that replaced no other block met none
  pub clash-behind : (done rest : List Held) (t : Contents) → IsGood t → ReplaceNone X t.held (saves_of done) → first_clash t (done ++ rest) ≡ first_clash (with_saves done t) rest
  unfolding first_clash
  clash-behind [] rest t good free = refl
  clash-behind (b ∷ done) rest t good free = pass (held_at t b.0) refl ∙ clash-behind done rest (with_save b.0 b.1 t) (good-saved b t free.0 good) free.2
    where
      behind : Option TwoBlocks
      behind = first_clash (with_save b.0 b.1 t) (done ++ rest)

      pass : (o : Option (List ℕ)) → held_at t b.0 ≡ o → or_other o b behind ≡ behind
      pass None is = refl
      pass (Some other) is = one (pointwise nat_eq other b.1) refl
        where
          same : other ≡ b.1
          same = free.1 other is (good b.0 other is)

          one : (x : Bool) → pointwise nat_eq other b.1 ≡ x → (if x then behind else Some (record { cid = b.0; first = other; second = b.1 })) ≡ behind
          one true e = refl
          one false e = absurd (other_text other b.1 (sym e) same)

-- a section meets another block
pub clash-here : (b : Held) (rest : List Held) (t : Contents) (first : List ℕ) → held_at t b.0 ≡ Some first → (first ≡ b.1 → ⊥) → first_clash t (b ∷ rest) ≡ Some (record { cid = b.0; first = first; second = b.1 })
unfolding first_clash
clash-here b rest t first held differ = ap (λ o. or_other o b (first_clash (with_save b.0 b.1 t) rest)) held ∙ one (pointwise nat_eq first b.1) refl
  where
    two : Option TwoBlocks
    two = Some (record { cid = b.0; first = first; second = b.1 })

    one : (x : Bool) → pointwise nat_eq first b.1 ≡ x → (if x then first_clash (with_save b.0 b.1 t) rest else two) ≡ two
    one true e = absurd (differ (same_text first b.1 (sym e)))
    one false e = refl

-- no section meets another block behind the last
pub clash-none : (t : Contents) → first_clash t [] ≡ None
unfolding first_clash
clash-none t = refl

-- nothing is held of nothing
pub none-good : (X : List ℕ → List ℕ) → IsGood X no_contents
none-good X c bytes is = absurd (let none : None ≡ Some bytes = sym (get-empty cid_cmp c) ∙ is in cc)
