use Rattle.uf_dagpb.proofs.Fronts.{links_break}
use Rattle.uf_dagpb.proofs.strict.behind_links.Goals as goal

pub returns-in-None-clause-front : goal.returns-in-None-clause-front
returns-in-None-clause-front c = links_break c.args.links.now c.loop-link.link-index c.link-item.result c.args.bytes.now c.loop-link.rest.now c.loop-link-test.true c.link-item.is c.loop-link.invariant.front c.in-None.ensures.front
