use Rattle.uf_store.specs.Writing.{IsSave}
use Rattle.uf_store.proofs.Plain.{calls_write}
use Rattle.uf_store.proofs.Writing.{Wrote-good}
use Rattle.uf_cache.proofs.Kept.{AreKept-on}
use Rattle.uf_cache.proofs.cached.CachedStore.save.Goals as goal

pub invariant_of-self : goal.invariant_of-self
invariant_of-self g c =
    let hash = g.S.X.BlockHash.block32 in let self = c.args.self.now in
    let writes = calls_write hash _ _ in
    let saves = writes.save c.args.cid.now c.args.bytes.now _ c.requires.digest c.save-answer.ensures.seen in
    record { small = self.small; kept = AreKept-on hash _ _ self.entries (Wrote-good hash IsSave _ _ saves) self.kept; rests = tt }

pub invariant_of-self-else-eq : goal.invariant_of-self-else-eq
invariant_of-self-else-eq g c =
    let hash = g.S.X.BlockHash.block32 in let self = c.args.self.now in
    let writes = calls_write hash _ _ in
    let saves = writes.save c.args.cid.now c.args.bytes.now _ c.requires.digest c.save-answer.ensures.seen in
    record { small = self.small; kept = AreKept-on hash _ _ self.entries (Wrote-good hash IsSave _ _ saves) self.kept; rests = tt }
