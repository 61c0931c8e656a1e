use Rattle.std.proofs.Common.{◌∙◌}
use Rattle.uf_store.proofs.Holding.{get-held}
use Rattle.uf_store.proofs.shelf.Shelf.get.Goals as goal

pub returns : goal.returns
returns g c = c.get.ensures.value ∙ get-held c.args.self.now.blocks.entries c.args.cid.now
