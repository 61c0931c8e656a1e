-- How the causes of calls in a row compose.
use Rattle.std.proofs.Common.{ℕ, List, refl, ◌∙◌, arith}
use Rattle.std.specs.declared.result.Result.{Result}
use Rattle.std.specs.declared.result.Result.TheVariants.{Ok, Err}
use Rattle.uf_store.specs.declared.store.Role.{Role}
use Rattle.uf_store.specs.declared.store.StoreFault.{StoreFault}
use Rattle.uf_store.specs.declared.store.StoreFault.TheVariants.{Failed, Damaged, Missing, BadBlock, Clash, Memory}
use Rattle.uf_store.specs.Seen.{Seen}
use Rattle.uf_store.specs.Faults.{Rises, StaysCalm, HasNotFailed, Shows, Answers, NoneIsBad}

pub StaysCalm-refl : (a : Seen) → StaysCalm a a
StaysCalm-refl a = record { finds = omega arith; misses = omega arith; faults = refl; clashes = refl }

pub StaysCalm-trans : (a b c : Seen) → StaysCalm a b → StaysCalm b c → StaysCalm a c
StaysCalm-trans a b c p q = record {
  finds = omega (arith, p.finds, q.finds);
  misses = omega (arith, p.misses, q.misses);
  faults = q.faults ∙ p.faults;
  clashes = q.clashes ∙ p.clashes;
}

-- where no count but those of what was found and missed rose, none has fallen
pub calm-rises : (a b : Seen) → StaysCalm a b → Rises a b
calm-rises a b h = record { finds = h.finds; misses = h.misses; faults = omega (arith, h.faults); clashes = omega (arith, h.clashes) }

-- a store that has stayed calm has not failed
pub calm-memory : (a b : Seen) → StaysCalm a b → HasNotFailed a b
calm-memory a b h = record { finds = h.finds; misses = h.misses; faults = h.faults; clashes = omega (arith, h.clashes) }

-- where the store has not failed, no count has fallen
pub memory-rises : (a b : Seen) → HasNotFailed a b → Rises a b
memory-rises a b h = record { finds = h.finds; misses = h.misses; faults = omega (arith, h.faults); clashes = h.clashes }

-- it hasn't failed from an earlier moment on either
pub memory-after : (a b c : Seen) → HasNotFailed a b → HasNotFailed b c → HasNotFailed a c
memory-after a b c p q = record {
  finds = omega (arith, p.finds, q.finds);
  misses = omega (arith, p.misses, q.misses);
  faults = q.faults ∙ p.faults;
  clashes = omega (arith, p.clashes, q.clashes);
}

rises-after : (a b c : Seen) → StaysCalm a b → Rises b c → Rises a c
rises-after a b c p q = record {
  finds = omega (arith, p.finds, q.finds);
  misses = omega (arith, p.misses, q.misses);
  faults = omega (arith, p.faults, q.faults);
  clashes = omega (arith, p.clashes, q.clashes);
}

-- a fault shows its cause from an earlier moment on too, if the store has stayed calm until then
pub Shows-after : (hash : List ℕ → List ℕ) (IsBad : Role → List ℕ → Type 0) (fault : StoreFault) (a b c : Seen)
    → StaysCalm a b → Shows hash IsBad fault b c → Shows hash IsBad fault a c
Shows-after hash IsBad Failed a b c p q = record { rose = omega (arith, p.faults, q.rose); rises = rises-after a b c p q.rises; clashes = q.clashes ∙ p.clashes }
Shows-after hash IsBad (Damaged cid) a b c p q = record { rose = omega (arith, p.faults, q.rose); rises = rises-after a b c p q.rises; clashes = q.clashes ∙ p.clashes }
Shows-after hash IsBad (Missing cid) a b c p q = record { rose = omega (arith, p.misses, q.rose); not_held = q.not_held; calm = StaysCalm-trans a b c p q.calm }
Shows-after hash IsBad (BadBlock cid role) a b c p q = record {
  rose = omega (arith, p.finds, q.rose);
  digest = q.digest;
  is_held = q.is_held;
  bad = q.bad;
  calm = StaysCalm-trans a b c p q.calm;
}
Shows-after hash IsBad (Clash cid held bytes) a b c p q = record {
  rose = omega (arith, p.clashes, q.rose);
  clash = q.clash;
  is_lent = q.is_lent;
  is_held = q.is_held;
  rises = rises-after a b c p q.rises;
  faults = q.faults ∙ p.faults;
}
Shows-after hash IsBad Memory a b c p q = memory-after a b c (calm-memory a b p) q

pub Answers-after : {A : Type 0} (hash : List ℕ → List ℕ) (IsBad : Role → List ℕ → Type 0) (answer : Result A StoreFault) (a b c : Seen)
    → StaysCalm a b → Answers hash IsBad answer b c → Answers hash IsBad answer a c
Answers-after hash IsBad (Ok x) a b c p q = StaysCalm-trans a b c p q
Answers-after hash IsBad (Err fault) a b c p q = Shows-after hash IsBad fault a b c p q

-- what a call shows that refuses no block's content, it shows whatever blocks are bad
pub Shows-any : (hash : List ℕ → List ℕ) (IsBad : Role → List ℕ → Type 0) (fault : StoreFault) (a b : Seen) → Shows hash NoneIsBad fault a b → Shows hash IsBad fault a b
Shows-any hash IsBad Failed a b p = p
Shows-any hash IsBad (Damaged cid) a b p = p
Shows-any hash IsBad (Missing cid) a b p = p
Shows-any hash IsBad (BadBlock cid role) a b p = absurd p.bad
Shows-any hash IsBad (Clash cid held bytes) a b p = p
Shows-any hash IsBad Memory a b p = p

-- what one judge calls bad, another does too
pub Shows-by : (hash : List ℕ → List ℕ) (P Q : Role → List ℕ → Type 0) (fault : StoreFault) (a b : Seen)
    → ((role : Role) (bytes : List ℕ) → P role bytes → Q role bytes) → Shows hash P fault a b → Shows hash Q fault a b
Shows-by hash P Q Failed a b more h = h
Shows-by hash P Q (Damaged cid) a b more h = h
Shows-by hash P Q (Missing cid) a b more h = h
Shows-by hash P Q (BadBlock cid role) a b more h = record { rose = h.rose; digest = h.digest; is_held = h.is_held; bad = more role b.lent h.bad; calm = h.calm }
Shows-by hash P Q (Clash cid held bytes) a b more h = h
Shows-by hash P Q Memory a b more h = h

-- whatever a fault shows, no count has fallen
pub Shows-rises : (hash : List ℕ → List ℕ) (IsBad : Role → List ℕ → Type 0) (fault : StoreFault) (a b : Seen) → Shows hash IsBad fault a b → Rises a b
Shows-rises hash IsBad Failed a b h = h.rises
Shows-rises hash IsBad (Damaged cid) a b h = h.rises
Shows-rises hash IsBad (Missing cid) a b h = calm-rises a b h.calm
Shows-rises hash IsBad (BadBlock cid role) a b h = calm-rises a b h.calm
Shows-rises hash IsBad (Clash cid held bytes) a b h = h.rises
Shows-rises hash IsBad Memory a b h = memory-rises a b h
