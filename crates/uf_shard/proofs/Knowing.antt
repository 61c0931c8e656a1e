-- Blocks that are held or old ones.
use Rattle.std.proofs.Common.{◌≡◌, ℕ, zero, suc, ◌+◌, ◌<◌, ◌≤◌, ◌≢◌, List, [], ◌∷◌, ◌++◌, arith, refl, sym, ap, subst, ◌∙◌, ◌⊎◌, inl, inr}
use Rattle.std.specs.Prelude.{Some, None, IfSome}
use Rattle.std.specs.declared.option.Option.{Option}
use Rattle.std.proofs.lemmas.Bool.{cases_eq}
use Rattle.uf_cid.specs.Blocks.{Held}
use Rattle.uf_cid.specs.Blocks as blocks
use Rattle.uf_store.specs.Contents.{Contents, Told, held_at}
use Rattle.uf_store.specs.Keeping.{AreGood, KeepsGood, StaysAgreed}
use Rattle.uf_store.specs.Lost.{AgreesAfter, IsLostBlock}
use Rattle.uf_store.proofs.Keeping.{Holds-kept}
use Rattle.uf_tree.specs.ShardPlan.{flat_tabulate}
use Rattle.uf_tree.proofs.Each.{both}
use Rattle.uf_shard.specs.Known.{AreKnown, IsIn, IsKnown}

pub In-front : (b : Held) (k l : List Held) → IsIn b k → IsIn b (k ++ l)
In-front b [] l i = absurd i
In-front b (a ∷ k) l (inl same) = inl same
In-front b (a ∷ k) l (inr later) = inr (In-front b k l later)

pub In-back : (b : Held) (k l : List Held) → IsIn b l → IsIn b (k ++ l)
In-back b [] l i = i
In-back b (a ∷ k) l i = inr (In-back b k l i)

-- the blocks are among these
abbrev pub AreIn : List Held → List Held → Type 0
AreIn k l = (b : Held) → IsIn b k → IsIn b l

pub In-flat : (b : Held) (n a : ℕ) (f : ℕ → List Held) (q : ℕ) → a ≤ q → q < a + n → IsIn b (f q) → IsIn b (flat_tabulate n a f)
unfolding flat_tabulate
In-flat b zero a f q low high i = absurd (omega arith)
In-flat b (suc n) a f q low high i = here (cases_eq q a) (λ (other : q ≢ a). In-flat b n (suc a) f q (omega (arith, other)) (omega arith) i)
  where
    here : (q ≡ a) ⊎ (q ≢ a) → (q ≢ a → IsIn b (flat_tabulate n (suc a) f)) → IsIn b (f a ++ flat_tabulate n (suc a) f)
    here (inl same) later = In-front b (f a) _ (subst (λ (x : ℕ). IsIn b (f x)) same i)
    here (inr other) later = In-back b (f a) _ (later other)

-- what is known stays known where good blocks are kept and more are old
pub known-more : (X : List ℕ → List ℕ) (a b : Told) (k old l : List Held) → AreGood X l → KeepsGood X a b → AreIn k old → AreKnown a k l → AreKnown b old l
known-more X a b k old [] good keeps more known = tt
known-more X a b k old (x ∷ l) good keeps more known = (here known.0, known-more X a b k old l good.1 keeps more known.1)
  where
    here : IsKnown a k x → IsKnown b old x
    here (inl held) = inl (Holds-kept X a b (x ∷ []) (good.0, tt) keeps held)
    here (inr i) = inr (more x i)

-- the same in one store
pub known-in : (a : Told) (k old l : List Held) → AreIn k old → AreKnown a k l → AreKnown a old l
known-in a k old [] more known = tt
known-in a k old (x ∷ l) more known = (here known.0, known-in a k old l more known.1)
  where
    here : IsKnown a k x → IsKnown a old x
    here (inl held) = inl held
    here (inr i) = inr (more x i)

pub known-old : (a : Told) (old l : List Held) → AreIn l old → AreKnown a old l
known-old a old [] more = tt
known-old a old (x ∷ l) more = (inr (more x (inl refl)), known-old a old l (λ b i. more b (inr i)))

-- of each number
pub known-flat : (a : Told) (old : List Held) (n s : ℕ) (f : ℕ → List Held) → ((q : ℕ) → s ≤ q → q < s + n → AreKnown a old (f q)) → AreKnown a old (flat_tabulate n s f)
unfolding flat_tabulate
known-flat a old zero s f h = tt
known-flat a old (suc n) s f h = both (IsKnown a old) (f s) (flat_tabulate n (suc s) f) (h s (omega arith) (omega arith)) (known-flat a old n (suc s) f (λ q low high. h q (omega arith) (omega arith)))

-- ---- at the end

in_agrees : (t : Contents) (b : Held) (old : List Held) → blocks.Agrees (held_at t) old → IsIn b old → IfSome (held_at t b.0) (λ bytes. bytes ≡ b.1)
in_agrees t b [] agrees i = absurd i
in_agrees t b (a ∷ old) agrees (inl same) = subst (λ (x : Held). IfSome (held_at t x.0) (λ bytes. bytes ≡ x.1)) (sym same) agrees.0
in_agrees t b (a ∷ old) agrees (inr later) = in_agrees t b old agrees.1 later

in_good : (X : List ℕ → List ℕ) (b : Held) (old : List Held) → AreGood X old → IsIn b old → X b.1 ≡ b.0.digest
in_good X b [] good i = absurd i
in_good X b (a ∷ old) good (inl same) = subst (λ (x : Held). X x.1 ≡ x.0.digest) (sym same) good.0
in_good X b (a ∷ old) good (inr later) = in_good X b old good.1 later

in_lost : (t : Contents) (b : Held) (old : List Held) → held_at t b.0 ≡ None → IsIn b old → IsLostBlock (held_at t) b old
in_lost t b [] none i = absurd i
in_lost t b (a ∷ old) none (inl same) = inl (same, ap (λ (x : Held). held_at t x.0) (sym same) ∙ none)
in_lost t b (a ∷ old) none (inr later) = inr (in_lost t b old none later)

module _ (X : List ℕ → List ℕ) (t u : Contents) (old : List Held) (good : AreGood X old) (agrees : blocks.Agrees (held_at t) old) (now_agrees : blocks.Agrees (held_at u) old) (keeps : KeepsGood X (Some t) (Some u)) where
  -- a block that is lost afterwards was lost before
  old-lost : (b : Held) → IsIn b old → held_at u b.0 ≡ None → IsLostBlock (held_at t) b old
  old-lost b i gone = by (held_at t b.0) refl
    where
      by : (o : Option (List ℕ)) → held_at t b.0 ≡ o → IsLostBlock (held_at t) b old
      by None e = in_lost t b old e i
      by (Some x) e =
          let same : x ≡ b.1 = subst (λ (o : Option (List ℕ)). IfSome o (λ bytes. bytes ≡ b.1)) e (in_agrees t b old agrees i) in
          let there : held_at u b.0 ≡ Some x = keeps.stays b.0 x e (ap X same ∙ in_good X b old good i) in
          absurd (let no : Some x ≡ None = sym there ∙ gone in cc)

  after-each : (new : List Held) → AreKnown (Some u) old new → AgreesAfter (Some t) (Some u) old new
  after-each [] known = (tt, tt)
  after-each (b ∷ new) known = let rest = after-each new known.1 in by rest known.0
    where
      by : AgreesAfter (Some t) (Some u) old new → IsKnown (Some u) old b → AgreesAfter (Some t) (Some u) old (b ∷ new)
      by rest (inl held) = (
        (subst (λ (o : Option (List ℕ)). IfSome o (λ bytes. bytes ≡ b.1)) (sym held.0) refl, rest.0),
        (λ gone. absurd (let no : Some b.1 ≡ None = sym held.0 ∙ gone in cc), rest.1),
      )
      by rest (inr i) = ((in_agrees u b old now_agrees i, rest.0), (old-lost b i, rest.1))

-- where the new blocks are held or old ones, what is told agrees with them afterwards
pub after-known : (X : List ℕ → List ℕ) (before now : Told) (old new : List Held) → AreGood X old → StaysAgreed before now old → KeepsGood X before now → AreKnown now old new
    → AgreesAfter before now old new
after-known X None now old new good stays keeps known = absurd stays.first
after-known X (Some t) None old new good stays keeps known = absurd stays.last
after-known X (Some t) (Some u) old new good stays keeps known = after-each X t u old good stays.first stays.last keeps new known
