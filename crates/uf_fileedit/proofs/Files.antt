-- What is held after a file is changed.
use Rattle.std.proofs.Common.{◌≡◌, ℕ, List, [], ◌∷◌, refl, ap, sym, ◌∙◌, subst, Option, None, Some, inl, inr}
use Rattle.std.specs.Prelude.{IfSome}
use Rattle.std.specs.List.{AllByRecursion}
use Rattle.uf_cid.specs.Blocks as blocks
use Rattle.uf_cid.specs.Blocks.{Held, Lookup}
use Rattle.uf_cid.specs.declared.cid.Cid.{Cid}
use Rattle.uf_store.specs.declared.store.StoreFault.{StoreFault}
use Rattle.uf_store.specs.declared.store.StoreFault.TheVariants.{Failed, Damaged, Missing, BadBlock, Clash, Memory}
use Rattle.uf_store.specs.Contents.{Contents, Told, held_at}
use Rattle.uf_store.specs.Keeping.{Agrees, AreGood, Holds, KeepsGood}
use Rattle.uf_store.specs.Lost.{AgreesAfter, IsLossOf, IsLost, IsLostBlock, LosesBlock}
use Rattle.uf_store.proofs.Keeping.{Holds-kept}
use Rattle.uf_store.specs.Writing.{IsSave, SavesOnly}
use Rattle.uf_store.proofs.Writing.{Wrote-good}
use Rattle.uf_fileedit.specs.Changes.{IsIn, IsKnown}
use Rattle.uf_fileedit.proofs.Kept.{all-in, each-in}

-- ---- where all old blocks are held

holds-agrees : (t : Contents) (l : List Held) → blocks.Holds (held_at t) l → blocks.Agrees (held_at t) l
holds-agrees t [] h = tt
holds-agrees t (b ∷ l) h = (subst (λ (o : Option (List ℕ)). IfSome o (λ bytes. bytes ≡ b.1)) (sym h.0) refl, holds-agrees t l h.1)

-- a telling store agrees with what it holds, and goes on to hold it
pub still-agrees : (X : List ℕ → List ℕ) (before now : Told) (l : List Held) → AreGood X l → Agrees before l → Holds before l → SavesOnly X before now → Agrees now l × Holds now l
still-agrees X None now l good agrees holds saves = absurd agrees
still-agrees X (Some t) None l good agrees holds saves = absurd saves
still-agrees X (Some t) (Some u) l good agrees holds saves = let h = Holds-kept X (Some t) (Some u) l good (Wrote-good X IsSave (Some t) (Some u) saves) holds in (holds-agrees u l h, h)

pub known-holds : (told : Told) (olds l : List Held) → Holds told olds → AllByRecursion (IsKnown told olds) l → Holds told l
known-holds None olds l holds known = tt
known-holds (Some t) olds l holds known = each-in (λ (x : Held). held_at t x.0 ≡ Some x.1) l (λ x k. by x (all-in (IsKnown (Some t) olds) l x known k))
  where
    by : (x : Held) → IsKnown (Some t) olds x → held_at t x.0 ≡ Some x.1
    by x (inl h) = h.0
    by x (inr h) = all-in (λ (y : Held). held_at t y.0 ≡ Some y.1) olds x holds h

-- ---- where some may be lost

-- a block that isn't held now wasn't held before
lost-before : (X : List ℕ → List ℕ) (t u : Contents) (l : List Held) → AreGood X l → blocks.Agrees (held_at t) l → KeepsGood X (Some t) (Some u) → (x : Held) → IsIn x l → held_at u x.0 ≡ None → held_at t x.0 ≡ None
lost-before X t u l good agrees keeps x k none =
    by (held_at t x.0) refl (all-in (λ (y : Held). IfSome (held_at t y.0) (λ bytes. bytes ≡ y.1)) l x agrees k) (all-in (λ (y : Held). X y.1 ≡ y.0.digest) l x good k)
  where
    by : (o : Option (List ℕ)) → held_at t x.0 ≡ o → IfSome o (λ bytes. bytes ≡ x.1) → X x.1 ≡ x.0.digest → o ≡ None
    by None e h d = refl
    by (Some y) e h d = absurd (let no : None ≡ Some y = sym none ∙ keeps.stays x.0 y e (ap X h ∙ d) in cc)

is-lost : (held : Lookup) (b : Held) (l : List Held) → IsIn b l → held b.0 ≡ None → IsLostBlock held b l
is-lost held b [] h gone = absurd h
is-lost held b (d ∷ l) (inl h) gone = inl (h, ap (λ (x : Held). held x.0) (sym h) ∙ gone)
is-lost held b (d ∷ l) (inr h) gone = inr (is-lost held b l h gone)

lost-back : (X : List ℕ → List ℕ) (t u : Contents) (whole l : List Held) (c : Cid) → AreGood X whole → blocks.Agrees (held_at t) whole → KeepsGood X (Some t) (Some u) → ((x : Held) → IsIn x l → IsIn x whole) → IsLost (held_at u) c l → IsLost (held_at t) c l
lost-back X t u whole [] c good agrees keeps among lost = lost
lost-back X t u whole (b ∷ l) c good agrees keeps among (inl h) = inl (h.0, lost-before X t u whole good agrees keeps b (among b (inl refl)) h.1)
lost-back X t u whole (b ∷ l) c good agrees keeps among (inr h) = inr (lost-back X t u whole l c good agrees keeps (λ x k. among x (inr k)) h)

pub loss-back : (X : List ℕ → List ℕ) (before now : Told) (l : List Held) (fault : StoreFault) → AreGood X l → Agrees before l → SavesOnly X before now → IsLossOf now l fault → IsLossOf before l fault
loss-back X before now l Failed good agrees keeps loss = loss
loss-back X before now l (Damaged c) good agrees keeps loss = loss
loss-back X None now l (Missing c) good agrees keeps loss = absurd agrees
loss-back X (Some t) None l (Missing c) good agrees keeps loss = absurd keeps
loss-back X (Some t) (Some u) l (Missing c) good agrees keeps loss = lost-back X t u l l c good agrees (Wrote-good X IsSave (Some t) (Some u) keeps) (λ x k. k) loss
loss-back X before now l (BadBlock c role) good agrees keeps loss = loss
loss-back X before now l (Clash c x y) good agrees keeps loss = loss
loss-back X before now l Memory good agrees keeps loss = tt

none_some : (t : Contents) (x : Held) (A : Type 0) → held_at t x.0 ≡ Some x.1 → held_at t x.0 ≡ None → A
none_some t x A some none = absurd (let e : Some x.1 ≡ None = sym some ∙ none in cc)

pub known-after : (X : List ℕ → List ℕ) (before now : Told) (olds news : List Held) → AreGood X olds → Agrees before olds → Agrees now olds → KeepsGood X before now → AllByRecursion (IsKnown now olds) news → AgreesAfter before now olds news
known-after X None now olds news good agrees after keeps known = absurd agrees
known-after X (Some t) None olds news good agrees after keeps known = absurd after
known-after X (Some t) (Some u) olds news good agrees after keeps known = (
  each-in (λ (x : Held). IfSome (held_at u x.0) (λ bytes. bytes ≡ x.1)) news (λ x k. agreed x (all-in (IsKnown (Some u) olds) news x known k)),
  each-in (λ (x : Held). held_at u x.0 ≡ None → LosesBlock (Some t) x olds) news (λ x k none. lost x (all-in (IsKnown (Some u) olds) news x known k) none),
)
  where
    agreed : (x : Held) → IsKnown (Some u) olds x → IfSome (held_at u x.0) (λ bytes. bytes ≡ x.1)
    agreed x (inl h) = subst (λ (o : Option (List ℕ)). IfSome o (λ bytes. bytes ≡ x.1)) (sym h.0) refl
    agreed x (inr h) = all-in (λ (y : Held). IfSome (held_at u y.0) (λ bytes. bytes ≡ y.1)) olds x after h

    lost : (x : Held) → IsKnown (Some u) olds x → held_at u x.0 ≡ None → LosesBlock (Some t) x olds
    lost x (inl h) none = none_some u x (LosesBlock (Some t) x olds) h.0 none
    lost x (inr h) none = is-lost (held_at t) x olds h (lost-before X t u olds good agrees keeps x h none)
