use Rattle.uf_store.specs.Seen.{Finds}
use Rattle.uf_dir.proofs.Looked.{always-ok}
use Rattle.uf_dir.proofs.looking.look_at_root.Goals as goal

pub returns-clause-found : goal.returns-clause-found
returns-clause-found g c = always-ok c.ok_or.result (Finds g.S.X.BlockHash.block32 c.args.cid.now (g.S.Store.seen c.args.store.now) (g.S.Store.seen c.need.new.store)) c.in_ok-need.ensures.found
