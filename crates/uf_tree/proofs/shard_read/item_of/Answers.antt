use Rattle.std.proofs.Common.{inr}
use Rattle.uf_tree.proofs.Shards.{not_text}
use Rattle.uf_tree.proofs.shard_read.item_of.Goals as goal

pub returns-in-Err : goal.returns-in-Err
returns-in-Err c = inr (not_text c.args.name.now c.in-Err.ensures.cases.0)
