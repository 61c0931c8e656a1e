use Rattle.uf_walk.proofs.Piles.{drop-first}
use Rattle.uf_walk.proofs.ahead.Frontier.take_away.Goals as goal

pub loop-preserved : goal.loop-preserved
loop-preserved c = drop-first c.loop.counter _ c.loop.self _ _ c.loop.invariant c.pop_front.ensures
