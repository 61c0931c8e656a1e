use Rattle.uf_store.specs.Writing.{IsAny}
use Rattle.uf_store.proofs.Plain.{calls_write}
use Rattle.uf_store.proofs.Writing.{Wrote-good}
use Rattle.uf_cache.proofs.Kept.{AreKept-on}
use Rattle.uf_cache.proofs.cached.CachedStore.write_note.Goals as goal

pub invariant_of-self : goal.invariant_of-self
invariant_of-self g c =
    let hash = g.S.X.BlockHash.block32 in let self = c.args.self.now in
    let writes = (calls_write hash _ _).write_note _ _ _ c.write_note.ensures.seen in
    record { small = self.small; kept = AreKept-on hash _ _ self.entries (Wrote-good hash IsAny _ _ writes) self.kept; rests = tt }
