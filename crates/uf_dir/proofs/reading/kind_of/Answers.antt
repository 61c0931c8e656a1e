use Rattle.uf_dir.proofs.Asked.{asked-file, asked-folder, never_raw}
use Rattle.uf_dir.proofs.reading.kind_of.Goals as goal

pub returns-in-Raw-clause-folder : goal.returns-in-Raw-clause-folder
returns-in-Raw-clause-folder g c = λ N p meta l is agrees stood. absurd (never_raw g.S.X.BlockHash.block32 (record { size = g.met.S.X.BlockHash.size; are_bytes = g.met.S.X.BlockHash.are_bytes }) N p meta c.args.entry.now.cid l is c.in-Raw.is)

pub returns-in-DagPb-clause-folder : goal.returns-in-DagPb-clause-folder
returns-in-DagPb-clause-folder g c = λ N p meta l is agrees stood. asked-folder g.S.X.BlockHash.block32 (record { size = g.met.S.X.BlockHash.size; are_bytes = g.met.S.X.BlockHash.are_bytes }) N p meta c.args.entry.now.cid l is _ _ _ _ c.look_at_kind.ensures.looks c.look_at_kind.ensures.reads.cause agrees stood

pub returns-in-DagPb-clause-file : goal.returns-in-DagPb-clause-file
returns-in-DagPb-clause-file g c = λ p m bytes root is node agrees stood. asked-file g.S.X.BlockHash.block32 (record { size = g.met.S.X.BlockHash.size; are_bytes = g.met.S.X.BlockHash.are_bytes }) p m bytes c.args.entry.now.cid root is node _ _ _ _ c.look_at_kind.ensures.looks c.look_at_kind.ensures.reads.cause agrees stood
