-- What a call gave, and the same with its fault as a refusal.
use Rattle.std.proofs.Common.{◌≡◌, ℕ, List, ap, sym, subst, inl, inr, Result, Ok, Err, IsErrAnd, MatchResult}
use Rattle.uf_mfs.specs.Answers.{ShownInTree}
use Rattle.uf_mfs.specs.Steps.{tree_fault}
use Rattle.uf_mfs.specs.Touches.{CountsUp}
use Rattle.uf_mfs.specs.declared.fault.MfsFault.{MfsFault}
use Rattle.uf_plain.specs.declared.ready.Ready.{Ready}
use Rattle.uf_store.specs.Contents.{Told}
use Rattle.uf_store.specs.Faults.{Shown}
use Rattle.uf_store.specs.Seen.{Seen}
use Rattle.uf_store.specs.declared.store.Role.{Role}
use Rattle.uf_store.specs.declared.store.StoreFault.{StoreFault}
use Rattle.uf_command.specs.Kinds.{refusal_fault}
use Rattle.uf_command.specs.declared.types.Refusal.{Refusal}
use Rattle.uf_command.specs.declared.types.Refusal.TheVariants as refusal
use Rattle.uf_top.specs.Causes.{IsReasonInTree, RefusesInTree}
use Rattle.uf_top.specs.Opening.{IsUnopened}
use Rattle.uf_top.proofs.Shows.{Shown-tree, tree-touched}

-- the call's value is given, or its fault as such a refusal
abbrev pub IsRefusedAs : {A F : Type 0} → (F → Refusal → Type 0) → Result A F → Result A Refusal → Type 0
IsRefusedAs Refuses r given = MatchResult r (λ a. given ≡ Ok a) (λ f. IsErrAnd given (Refuses f))

-- so the call gave the same value
pub gave-same : {A F : Type 0} (Refuses : F → Refusal → Type 0) (r : Result A F) (a : A) → IsRefusedAs Refuses r (Ok a) → r ≡ Ok a
gave-same Refuses (Ok b) a is = let same : a ≡ b = cc in ap Ok (sym same)
gave-same Refuses (Err f) a is = absurd is

module _ {A : Type 0} (r : Result A MfsFault) (given : Result A Refusal) where
  -- what holds of the same value, and of a fault and its refusal, holds of both
  pub of-both : (P : Result A MfsFault → Result A Refusal → Type 0) → IsRefusedAs RefusesInTree r given → ((a : A) → P (Ok a) (Ok a)) → ((f : MfsFault) (why : Refusal) → RefusesInTree f why → P (Err f) (Err why))
      → P r given
  of-both P is done refused = by r given is
    where
      by : (r : Result A MfsFault) (given : Result A Refusal) → IsRefusedAs RefusesInTree r given → P r given
      by (Ok a) given is = subst (P (Ok a)) (sym is) (done a)
      by (Err f) (Ok a) is = absurd is
      by (Err f) (Err why) is = refused f why is

  pub shown-both : (X : List ℕ → List ℕ) (Bad More : Role → List ℕ → Type 0) → ((role : Role) (bytes : List ℕ) → Bad role bytes → More role bytes) → (a b : Seen) → IsRefusedAs RefusesInTree r given → ShownInTree X Bad r a b
      → Shown X More (refusal_fault given) a b
  shown-both X Bad More more a b is =
      of-both (λ r given. ShownInTree X Bad r a b → Shown X More (refusal_fault given) a b) is (λ x h. h) (λ f why. Shown-tree A X Bad More more f why a b)

  pub counts-both : (t0 t1 : ℕ) → IsRefusedAs RefusesInTree r given → CountsUp (tree_fault r) t0 t1 → CountsUp (refusal_fault given) t0 t1
  counts-both t0 t1 is = of-both (λ r given. CountsUp (tree_fault r) t0 t1 → CountsUp (refusal_fault given) t0 t1) is (λ x h. h) (λ f why. tree-touched A f why t0 t1)

-- what holds of both refusals by which a tree isn't opened
pub by-unopened : (P : Refusal → Type 0) (told : Told) (why : Refusal) → ((reason : Ready) → IsReasonInTree reason told → P (refusal.Ready reason)) → ((f : StoreFault) → P (refusal.Store f)) → IsUnopened told why → P why
by-unopened P told why ready store (inl u) = subst P (sym u.2) (ready u.0 u.1)
by-unopened P told why ready store (inr u) = subst P (sym u.1) (store u.0)
