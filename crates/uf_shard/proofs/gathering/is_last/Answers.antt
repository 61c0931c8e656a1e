use Rattle.std.proofs.Common.{◌∙◌, sym, ap}
use Rattle.std.specs.Ordering.{eq_by_cmp}
use Rattle.uf_tree.specs.Names.{names_cmp}
use Rattle.uf_tree.specs.Nodes.{Named}
use Rattle.uf_shard.proofs.Sorts.{last_named}
use Rattle.uf_shard.proofs.gathering.is_last.Goals as goal

pub returns-in-len1-up : goal.returns-in-len1-up
returns-in-len1-up c = c.is_same.ensures ∙ ap (λ (p : Named). eq_by_cmp names_cmp p.0 c.args.name.now) c.last.view_is ∙ sym (last_named c.args.name.now c.args.pairs.now c.last-item.result c.in-len1-up.len_at_least c.last-item.is)
