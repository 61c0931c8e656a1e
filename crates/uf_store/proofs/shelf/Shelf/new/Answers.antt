use Rattle.std.proofs.Common.{sym, subst}
use Rattle.uf_store.specs.Whole.{AreWhole}
use Rattle.uf_store.proofs.Holding.{whole-none}
use Rattle.uf_store.proofs.shelf.Shelf.new.Goals as goal

pub invariant_of-result : goal.invariant_of-result
invariant_of-result g c = record { whole = λ e. subst (AreWhole g.X.BlockHash.block32) (sym c.new.ensures.empty) (whole-none g.X.BlockHash.block32) }
