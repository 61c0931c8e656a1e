use Rattle.std.proofs.Common.{sym, ◌∙◌}
use Rattle.uf_store.proofs.Holding.{len-from_entries}
use Rattle.uf_store.proofs.shelf.Shelf.len.Goals as goal

pub returns : goal.returns
returns g c = c.len.ensures.len ∙ sym (len-from_entries _ c.len.ensures.ordered)
