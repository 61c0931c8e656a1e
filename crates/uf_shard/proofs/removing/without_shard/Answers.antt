use Rattle.std.proofs.Common.{sym, arith}
use Rattle.uf_shard.proofs.Takes.{collapsed-lone}
use Rattle.uf_shard.proofs.removing.without_shard.Goals as goal

pub returns-in-len1 : goal.returns-in-len1
returns-in-len1 c = collapsed-lone c.args.items.now c.placed-item.result c.placed.inside.slot c.placed.inside.item c.lone.result c.in-len1.len_at_least (omega arith) c.placed-item.is (sym c.placed.view_is) c.lone.ensures
