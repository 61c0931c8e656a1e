use Rattle.uf_top.proofs.Losing.{named-of, names-of}
use Rattle.uf_headline.proofs.standing.what_stands_is_named.Goals as goal

pub returns-clause-first : goal.returns-clause-first
returns-clause-first c = names-of

pub returns-clause-throughout : goal.returns-clause-throughout
returns-clause-throughout c = named-of
