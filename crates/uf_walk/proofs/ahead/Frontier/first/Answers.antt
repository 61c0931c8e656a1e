use Rattle.uf_walk.proofs.Piles.{first-root}
use Rattle.uf_walk.proofs.ahead.Frontier.first.Goals as goal

pub returns-in-None : goal.returns-in-None
returns-in-None c = first-root c.self.inside.top c.self.inside.roots.items c.args.self.now c.self.inside.below.items c.front_of.result c.self.invariant c.in-None.ensures c.self.view_is c.front_of.ensures
