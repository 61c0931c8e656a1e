-- How what calls over a store show and leave composes: calls in a row, and a call of another kind.
use Rattle.std.proofs.Common.{◌≡◌, ℕ, ◌≤◌, List, arith, sym, subst, ◌∙◌, Option, Some, None}
use Rattle.uf_edge.specs.Counts.{Stood}
use Rattle.uf_store.specs.declared.store.Role.{Role}
use Rattle.uf_store.specs.declared.store.StoreFault.{StoreFault}
use Rattle.uf_store.specs.Calls.{Calm, OnlyReads, OnlySaves}
use Rattle.uf_store.specs.Faults.{Rises, Shown, StaysCalm}
use Rattle.uf_store.specs.Seen.{Seen}
use Rattle.uf_store.proofs.Causes.{Shows-after, Shows-by, Shows-rises, StaysCalm-trans, calm-rises}
use Rattle.uf_store.proofs.Keeping.{KeepsGood-same, KeepsGood-trans}
use Rattle.uf_store.proofs.Writing.{SavesOnly-trans, Wrote-same}
use Rattle.uf_store.specs.Writing.{IsSave}

-- a count that didn't rise over two calls didn't rise in either, where the first left it
pub stood-front : (a b c : ℕ) → b ≡ a → b ≤ c → Stood a c → Stood a b
stood-front a b c same later h = omega (arith, same, later, h)

pub stood-back : (a b c : ℕ) → b ≡ a → Stood a c → Stood b c
stood-back a b c same h = subst (λ x. Stood x c) (sym same) h

-- ---- one word for the causes

module _ (hash : List ℕ → List ℕ) (Bad : Role → List ℕ → Type 0) where
  pub shown-after : (f : Option StoreFault) (a b c : Seen) → StaysCalm a b → Shown hash Bad f b c → Shown hash Bad f a c
  shown-after None a b c p q = StaysCalm-trans a b c p q
  shown-after (Some f) a b c p q = Shows-after hash Bad f a b c p q

  pub shown-rises : (f : Option StoreFault) (a b : Seen) → Shown hash Bad f a b → Rises a b
  shown-rises None a b h = calm-rises a b h
  shown-rises (Some f) a b h = Shows-rises hash Bad f a b h

  pub shown-by : (Other : Role → List ℕ → Type 0) (f : Option StoreFault) (a b : Seen) → ((role : Role) (bytes : List ℕ) → Bad role bytes → Other role bytes) → Shown hash Bad f a b → Shown hash Other f a b
  shown-by Other None a b more h = h
  shown-by Other (Some f) a b more h = Shows-by hash Bad Other f a b more h

-- ---- calls in a row

module _ {hash : List ℕ → List ℕ} {Bad : Role → List ℕ → Type 0} {f : Option StoreFault} {a b : Seen} where
  -- a call that reads alone saves nothing
  pub reads-saves : OnlyReads hash Bad f a b → OnlySaves hash Bad f a b
  reads-saves h = record { cause = h.cause; good = KeepsGood-same hash a.told b.told h.told; saves = Wrote-same hash IsSave a.told b.told h.told }

  -- what one judge calls bad, another does too
  pub reads-by : (Other : Role → List ℕ → Type 0) → ((role : Role) (bytes : List ℕ) → Bad role bytes → Other role bytes) → OnlyReads hash Bad f a b → OnlyReads hash Other f a b
  reads-by Other more h = record { cause = shown-by hash Bad Other f a b more h.cause; told = h.told }

  pub saves-by : (Other : Role → List ℕ → Type 0) → ((role : Role) (bytes : List ℕ) → Bad role bytes → Other role bytes) → OnlySaves hash Bad f a b → OnlySaves hash Other f a b
  saves-by Other more h = record { cause = shown-by hash Bad Other f a b more h.cause; good = h.good; saves = h.saves }

module _ {hash : List ℕ → List ℕ} {Bad : Role → List ℕ → Type 0} {a b c : Seen} where
  -- where no count rose over two calls, none rose in the second
  pub calm-then : OnlySaves hash Bad None a b → Calm a c → Calm b c
  calm-then p h = record { faults = omega (arith, p.cause.faults, h.faults); clashes = omega (arith, p.cause.clashes, h.clashes) }

module _ {hash : List ℕ → List ℕ} {Bad Other : Role → List ℕ → Type 0} {f : Option StoreFault} {a b c : Seen} where
  -- nor in the first
  pub calm-first : OnlySaves hash Other None a b → OnlySaves hash Bad f b c → Calm a c → Calm a b
  calm-first p q h =
      let rises = shown-rises hash Bad f b c q.cause in
      record { faults = omega (arith, p.cause.faults, rises.faults, h.faults); clashes = omega (arith, p.cause.clashes, rises.clashes, h.clashes) }

  pub reads-reads : OnlyReads hash Other None a b → OnlyReads hash Bad f b c → OnlyReads hash Bad f a c
  reads-reads p q = record { cause = shown-after hash Bad f a b c p.cause q.cause; told = q.told ∙ p.told }

  pub saves-saves : OnlySaves hash Other None a b → OnlySaves hash Bad f b c → OnlySaves hash Bad f a c
  saves-saves p q = record {
    cause = shown-after hash Bad f a b c p.cause q.cause;
    good = KeepsGood-trans hash a.told b.told c.told p.good q.good;
    saves = SavesOnly-trans hash a.told b.told c.told p.saves q.saves;
  }
