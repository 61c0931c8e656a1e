use Rattle.std.proofs.lemmas.Result.{err_from_is_err_and}
use Rattle.uf_dir.proofs.Asked.{never_raw}
use Rattle.uf_dir.proofs.Rooted.{meta-found, meta-good, meta-unread}
use Rattle.uf_dir.proofs.reading.meta_of.Goals as goal

pub returns-in-Raw-clause-value : goal.returns-in-Raw-clause-value
returns-in-Raw-clause-value g c = λ N p meta l is agrees stood. absurd (never_raw g.S.X.BlockHash.block32 (record { size = g.met.S.X.BlockHash.size; are_bytes = g.met.S.X.BlockHash.are_bytes }) N p meta c.args.entry.now.cid l is c.in-Raw.is)

pub returns-in_err-found-in-DagPb-clause-value : goal.returns-in_err-found-in-DagPb-clause-value
returns-in_err-found-in-DagPb-clause-value g c = λ N p meta l is agrees stood.
    let out = err_from_is_err_and c.from_residual.result c.from_residual.ensures.1 in rw (out.1, out.2) (meta-unread g.S.X.BlockHash.block32 (record { size = g.met.S.X.BlockHash.size; are_bytes = g.met.S.X.BlockHash.are_bytes }) N p meta c.args.entry.now.cid l is _ _ _ _ c.in_err-found-in-DagPb.ensures.looks c.in_err-found-in-DagPb.ensures.reads.cause agrees stood)

pub returns-in_ok-found-in-DagPb-clause-value : goal.returns-in_ok-found-in-DagPb-clause-value
returns-in_ok-found-in-DagPb-clause-value g c = λ N p meta l is agrees stood. meta-found g.S.X.BlockHash.block32 (record { size = g.met.S.X.BlockHash.size; are_bytes = g.met.S.X.BlockHash.are_bytes }) N p meta c.args.entry.now.cid l is _ _ c.in_ok-found-in-DagPb.found _ c.in_ok-found-in-DagPb.ensures.looks c.meta_at.ensures agrees

pub returns-in_ok-found-in-DagPb-clause-good : goal.returns-in_ok-found-in-DagPb-clause-good
returns-in_ok-found-in-DagPb-clause-good g c = meta-good _ c.in_ok-found-in-DagPb.found _ c.in_ok-found-in-DagPb.ensures.looks.1 c.meta_at.ensures
