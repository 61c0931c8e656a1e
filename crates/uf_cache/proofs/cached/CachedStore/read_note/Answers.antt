use Rattle.uf_store.proofs.Plain.{calls_write}
use Rattle.uf_cache.proofs.Kept.{AreKept-same}
use Rattle.uf_cache.proofs.cached.CachedStore.read_note.Goals as goal

pub invariant_of-self : goal.invariant_of-self
invariant_of-self g c =
    let hash = g.S.X.BlockHash.block32 in let self = c.args.self.now in
    let same = (calls_write hash _ _).read_note _ _ c.read_note.ensures.seen in
    record { small = self.small; kept = AreKept-same hash _ _ self.entries same self.kept; rests = tt }
