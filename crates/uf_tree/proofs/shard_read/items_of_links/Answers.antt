use Rattle.std.proofs.lemmas.Result.{err_from_is_err_and}
use Rattle.uf_tree.specs.Nodes.{slot_link}
use Rattle.uf_tree.specs.Validity.{IsInSlot}
use Rattle.uf_tree.proofs.Reading.{each_refused}
use Rattle.uf_tree.proofs.shard_read.items_of_links.Goals as goal

pub returns-in_err-placed : goal.returns-in_err-placed
returns-in_err-placed c =
    let out = err_from_is_err_and c.from_residual.result c.from_residual.ensures.1 in rw (out.1, out.2)
    (each_refused IsInSlot slot_link c.args.links.now c.loop-link.link-index c.link-item.result c.in_err-placed.field-0.0 c.loop-link-test.true c.link-item.is c.in_err-placed.ensures)
