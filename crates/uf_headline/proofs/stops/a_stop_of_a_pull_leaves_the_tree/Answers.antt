use Rattle.uf_headline.proofs.Pulled.{pull-safe, pull-stops}
use Rattle.uf_headline.proofs.stops.a_stop_of_a_pull_leaves_the_tree.Goals as goal

pub returns-clause-safe : goal.returns-clause-safe
returns-clause-safe c = λ X N cid given before now a b p es runs was is safe. pull-safe X N p es cid given before now runs a b was is safe

pub returns-clause-stops : goal.returns-clause-stops
returns-clause-stops c = λ X N cid given before now a b p es runs was is safe. pull-stops X N p es cid given before now runs a b was is safe
