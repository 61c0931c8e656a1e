use Rattle.std.proofs.Common.{refl, sym}
use Rattle.uf_store.proofs.memory.MemStore.lend.Goals as goal

pub returns-then-is_damaged-clause-damaged : goal.returns-then-is_damaged-clause-damaged
returns-then-is_damaged-clause-damaged g c = (
  (λ _. record { bytes = c.in-Some.block.now; held = sym c.in-Some.ensures; damaged = c.is_damaged.ensures.damaged.0 c.if-is_damaged.true }),
  (λ _. refl),
)
