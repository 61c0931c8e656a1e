use Rattle.std.proofs.Common.{ap}
use Rattle.std.specs.Ordering.{is_lt}
use Rattle.std.proofs.lemmas.List.Sorted.{answers_always, ranks_by}
use Rattle.uf_tree.specs.Nodes.{Named}
use Rattle.uf_tree.proofs.ShardLaws.{names_total}
use Rattle.uf_shard.proofs.Sorts.{before, ordered-is, ordered-valid}
use Rattle.uf_shard.proofs.gathering.ordered.Goals as goal

pub returns-clause-order : goal.returns-clause-order
returns-clause-order c =
    let ranks = ranks_by names_total (λ (p : Named). p.0) in
    ordered-is c.first_of_each.result c.args.rows.items c.sort_by.new.self.items (c.in_ok-sort_by.ensures.sorted before ranks (answers_always _ _ _ (λ f a r f' k. ap is_lt k.met)))
    (c.sort_by.ensures.stable before ranks (answers_always _ _ _ (λ f a r f' k. ap is_lt k.met))) c.first_of_each.ensures.pairs

pub returns-clause-valid : goal.returns-clause-valid
returns-clause-valid c =
    let ranks = ranks_by names_total (λ (p : Named). p.0) in
    ordered-valid c.first_of_each.result c.args.rows.items
    (ordered-is c.first_of_each.result c.args.rows.items c.sort_by.new.self.items (c.in_ok-sort_by.ensures.sorted before ranks (answers_always _ _ _ (λ f a r f' k. ap is_lt k.met)))
    (c.sort_by.ensures.stable before ranks (answers_always _ _ _ (λ f a r f' k. ap is_lt k.met))) c.first_of_each.ensures.pairs)
    c.first_of_each.ensures.named
