use Rattle.std.proofs.Common.{ap, List}
use Rattle.std.specs.FinMap.Entries.{find}
use Rattle.std.proofs.lemmas.Result.{err_from_is_err_and}
use Rattle.uf_cid.specs.declared.cid.Cid.{Cid}
use Rattle.uf_tree.specs.DirPlan.{trail}
use Rattle.uf_tree.specs.Names.{names_cmp}
use Rattle.uf_shard.specs.Trails.{traced, trail_cids}
use Rattle.uf_shard.specs.declared.traced.Traced.{Traced}
use Rattle.uf_shard.proofs.Trails.{loses}
use Rattle.uf_dir.proofs.reading.trail.Goals as goal

pub returns-in_err-traced-clause-value : goal.returns-in_err-traced-clause-value
returns-in_err-traced-clause-value g c = λ p meta l is agrees stood.
    let X = g.S.X.BlockHash.block32 in let N = g.N.NameHash.name64 in
    let out = err_from_is_err_and c.from_residual.result c.from_residual.ensures.1 in
    rw (out.1, out.2) (loses {A = Traced} {B = List Cid} (g.S.Store.seen c.args.store.now).told (trail X N p meta l c.args.name.now)
    (traced (find names_cmp c.args.name.now l) (trail X N p meta l c.args.name.now)) (trail_cids (trail X N p meta l c.args.name.now)) c.in_err-traced.field-0.0 (c.in_err-traced.ensures.value p meta l is agrees stood))

pub returns-clause-value : goal.returns-clause-value
returns-clause-value g c = λ p meta l is agrees stood. let is_it = c.in_ok-traced.ensures.value p meta l is agrees stood in (ap (λ (t : Traced). t.trail) is_it.0, is_it.1)
