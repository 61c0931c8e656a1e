use Rattle.uf_walk.proofs.Piles.{refilled}
use Rattle.uf_walk.proofs.ahead.refill.Goals as goal

pub returns-in-Some-clause-same : goal.returns-in-Some-clause-same
returns-in-Some-clause-same c = (refilled _ _ _ c.in-Some.chunk c.pop.ensures.items c.in-Some.is c.requires.some).same

pub returns-in-Some-clause-piled : goal.returns-in-Some-clause-piled
returns-in-Some-clause-piled c = (refilled _ _ _ c.in-Some.chunk c.pop.ensures.items c.in-Some.is c.requires.some).piled
