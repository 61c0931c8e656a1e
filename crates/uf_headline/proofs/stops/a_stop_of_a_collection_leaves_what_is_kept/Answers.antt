use Rattle.uf_headline.proofs.Spared.{sweep-again, sweep-keeps, sweep-keeps-below}
use Rattle.uf_headline.proofs.stops.a_stop_of_a_collection_leaves_what_is_kept.Goals as goal

pub returns-clause-kept : goal.returns-clause-kept
returns-clause-kept c = λ t kept plain. sweep-keeps t kept plain

pub returns-clause-pins : goal.returns-clause-pins
returns-clause-pins c = λ t pins list plain is. sweep-keeps-below t pins list plain is

pub returns-clause-again : goal.returns-clause-again
returns-clause-again c = λ t pins list plain is. sweep-again t pins list plain is
