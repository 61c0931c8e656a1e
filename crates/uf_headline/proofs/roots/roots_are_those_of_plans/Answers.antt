use Rattle.uf_headline.proofs.Rooted.{by-plans}
use Rattle.uf_headline.proofs.roots.roots_are_those_of_plans.Goals as goal

pub returns : goal.returns
returns c = by-plans
