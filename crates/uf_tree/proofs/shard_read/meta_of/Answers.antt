use Rattle.std.proofs.lemmas.Result.{err_from_is_err_and}
use Rattle.uf_tree.proofs.Shards.{meta_refused, the_meta}
use Rattle.uf_tree.proofs.shard_read.meta_of.Goals as goal

pub returns-in_err-message : goal.returns-in_err-message
returns-in_err-message c =
    let out = err_from_is_err_and c.from_residual.result c.from_residual.ensures.1 in rw (out.1, out.2)
    (meta_refused c.args.content.now c.in_err-message.field-0.0 c.in_err-message.ensures.only)

pub returns : goal.returns
returns c = the_meta c.args.content.now c.in_ok-message.message c.metadata.result c.in_ok-message.ensures.only c.metadata.ensures
