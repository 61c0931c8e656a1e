use Rattle.uf_top.proofs.Standings.{stands-kept}
use Rattle.uf_headline.proofs.standing.what_stands_stays.Goals as goal

pub returns : goal.returns
returns c = λ X N a b standing stands good head. stands-kept X N a b standing good head stands
