use Rattle.std.proofs.Common.{ap}
use Rattle.uf_cache.proofs.Bytes.{room-none}
use Rattle.uf_cache.proofs.Emptied.{swept-above}
use Rattle.uf_cache.proofs.Kept.{AreKept-none}
use Rattle.uf_cache.specs.Entries.{Entries}
use Rattle.uf_cache.proofs.cached.CachedSweep.sweep.Goals as goal

pub invariant_of-self : goal.invariant_of-self
invariant_of-self g c = record { small = room-none _ c.args.self.now.entries _ c.let_go.ensures.entries c.let_go.ensures.room; kept = AreKept-none g.S.X.BlockHash.block32 _ c.let_go.new.entries (ap (λ (x : Entries). x.entries) c.let_go.ensures.entries); rests = tt }

pub returns-clause-swept : goal.returns-clause-swept
returns-clause-swept g c = swept-above c.args.kept.now _ _ _ _ c.sweep.result c.sweep.ensures.swept
