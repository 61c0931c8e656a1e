use Rattle.std.proofs.Common.{ap, Option}
use Rattle.std.specs.FinMap.Entries.{find}
use Rattle.std.proofs.lemmas.Result.{err_from_is_err_and}
use Rattle.uf_tree.specs.declared.nodes.Entry.{Entry}
use Rattle.uf_tree.specs.Names.{names_cmp}
use Rattle.uf_tree.specs.ShardPlan.{shard_trail}
use Rattle.uf_shard.specs.Trails.{traced}
use Rattle.uf_shard.specs.declared.traced.Traced.{Traced}
use Rattle.uf_shard.proofs.Trails.{loses}
use Rattle.uf_shard.proofs.lookup.find.Goals as goal

pub returns-in_err-traced-clause-value : goal.returns-in_err-traced-clause-value
returns-in_err-traced-clause-value g c = λ m l is agrees stood.
    let X = g.S.X.BlockHash.block32 in let N = g.N.NameHash.name64 in
    let out = err_from_is_err_and c.from_residual.result c.from_residual.ensures.1 in
    rw (out.1, out.2) (loses {A = Traced} {B = Option Entry} (g.S.Store.seen c.args.store.now).told (shard_trail X N 7 m l c.args.name.now)
    (traced (find names_cmp c.args.name.now l) (shard_trail X N 7 m l c.args.name.now)) (find names_cmp c.args.name.now l) c.in_err-traced.field-0.0 (c.in_err-traced.ensures.value m l is agrees stood))

pub returns-clause-value : goal.returns-clause-value
returns-clause-value g c = λ m l is agrees stood. let is_it = c.in_ok-traced.ensures.value m l is agrees stood in (ap (λ (t : Traced). t.entry) is_it.0, is_it.1)
