use Rattle.uf_store.proofs.Holding.{from_entries-removed, whole-removed}
use Rattle.uf_store.proofs.shelf.Shelf.remove.Goals as goal

pub returns : goal.returns
returns g c = from_entries-removed _ _ _ c.remove.ensures.updates.0

pub invariant_of-self : goal.invariant_of-self
invariant_of-self g c = record { whole = λ known. whole-removed g.X.BlockHash.block32 _ _ _ (from_entries-removed _ _ _ c.remove.ensures.updates.0) (c.args.self.now.whole known) }
