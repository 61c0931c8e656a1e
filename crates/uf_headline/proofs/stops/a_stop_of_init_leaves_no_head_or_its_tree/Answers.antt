use Rattle.uf_headline.proofs.Stopped.{init-safe, init-stops}
use Rattle.uf_headline.proofs.stops.a_stop_of_init_leaves_no_head_or_its_tree.Goals as goal

pub returns-clause-stops : goal.returns-clause-stops
returns-clause-stops c = λ X N done a b p es plain none written now. init-stops X N p es done a b plain none written now

pub returns-clause-safe : goal.returns-clause-safe
returns-clause-safe c = λ X N a b p es plain none written stands. init-safe X N p es a b plain none written stands
