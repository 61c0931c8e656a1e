use Rattle.std.proofs.Common.{ap, refl, Some}
use Rattle.std.proofs.lemmas.Result.{err_from_is_err_and}
use Rattle.uf_store.specs.InMemory.{contents_of}
use Rattle.uf_store.specs.Seen.{Seen}
use Rattle.uf_top.proofs.Comparing.{rooted, unrooted}
use Rattle.uf_top.proofs.commands.dag.comparison.Goals as goal

pub returns-in_err-root : goal.returns-in_err-root
returns-in_err-root g c =
    let out = err_from_is_err_and c.from_residual.result c.from_residual.ensures.1 in
    rw (out.1, out.2) (unrooted g.S.X.BlockHash.block32 c.args.cid.now (g.S.Store.seen c.args.store.now) (g.S.Store.seen c.args.store.now) (g.I.Source.left c.args.input.now) (g.I.Source.faults c.args.input.now) (g.I.Source.faults c.one_root.new.input)
    (Some (contents_of c.new-right.result)) (Some (contents_of c.one_root.new.store)) (ap (λ (s : Seen). s.told) c.new-right.ensures.seen) c.in_err-root.field-0.0 c.in_err-root.ensures)

pub returns : goal.returns
returns g c =
    rooted g.S.X.BlockHash.block32 c.args.cid.now (g.S.Store.seen c.args.store.now) (g.S.Store.seen c.compare_stores.new.left) (g.I.Source.left c.args.input.now) (g.I.Source.faults c.args.input.now) (g.I.Source.faults c.one_root.new.input)
    (Some (contents_of c.new-right.result)) (Some (contents_of c.one_root.new.store)) (ap (λ (s : Seen). s.told) c.new-right.ensures.seen) c.in_ok-root.root c.compare_stores.result (contents_of c.one_root.new.store) refl c.in_ok-root.ensures c.compare_stores.ensures
