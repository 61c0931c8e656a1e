use Rattle.std.proofs.Common.{◌≡◌, inl, inr, ℕ, List, refl, arith}
use Rattle.std.specs.Prelude.{Some}
use Rattle.uf_store.specs.Calls.{Calm}
use Rattle.uf_store.specs.Faults.{NoneIsBad, Shown}
use Rattle.uf_store.specs.Seen.{Seen}
use Rattle.uf_store.specs.declared.store.StoreFault.{StoreFault}
use Rattle.uf_store.specs.declared.store.StoreFault.TheVariants.{Failed, Damaged, Missing, BadBlock, Clash, Memory}
use Rattle.uf_adopt.specs.Faults.{IsStoreFailing}
use Rattle.uf_adopt.proofs.laws.a_calm_store_lacks_memory_alone.Goals as goal

memory_alone : (X : List ℕ → List ℕ) (fault : StoreFault) (a b : Seen) → IsStoreFailing fault → Shown X NoneIsBad (Some fault) a b → Calm a b → fault ≡ Memory
memory_alone X Failed a b own h calm = absurd (let rose = h.rose in let stood = calm.faults in omega (arith, rose, stood))
memory_alone X (Damaged c) a b own h calm = absurd (let rose = h.rose in let stood = calm.faults in omega (arith, rose, stood))
memory_alone X (Missing c) a b (inl own) h calm = absurd own
memory_alone X (Missing c) a b (inr own) h calm = absurd own
memory_alone X (BadBlock c role) a b (inl own) h calm = absurd own
memory_alone X (BadBlock c role) a b (inr own) h calm = absurd own
memory_alone X (Clash c first second) a b own h calm = absurd (let rose = h.rose in let stood = calm.clashes in omega (arith, rose, stood))
memory_alone X Memory a b own h calm = refl

pub returns : goal.returns
returns c = λ X fault before now own h calm. memory_alone X fault before now own h calm
