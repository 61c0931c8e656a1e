use Rattle.uf_lenient.proofs.Ends.{lent-met}
use Rattle.uf_lenient.proofs.Saying.{by-good}
use Rattle.uf_lenient.proofs.surveying.meet_leaf.Goals as goal

pub returns-in-Loaded-clause-says : goal.returns-in-Loaded-clause-says
returns-in-Loaded-clause-says g c = rw c.in-Loaded.is (by-good g.S.X.BlockHash.block32 (g.S.Store.seen c.args.store.now).told (λ held says. lent-met held c.args.next.now.left c.args.next.now.cid c.args.visits.now (g.S.Store.seen c.enter_ahead.new.store).lent c.enter_ahead.new.visits c.enter_ahead.result says) c.enter_ahead.ensures.says)
