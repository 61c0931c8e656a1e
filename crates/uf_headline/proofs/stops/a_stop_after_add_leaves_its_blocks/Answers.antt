use Rattle.uf_headline.proofs.AddStays.{hosted-stays, input-stays}
use Rattle.uf_headline.proofs.stops.a_stop_after_add_leaves_its_blocks.Goals as goal

pub returns-clause-input : goal.returns-clause-input
returns-clause-input c = λ X N before now a b runs was is plain. input-stays X N before now a b was is plain runs

pub returns-clause-host : goal.returns-clause-host
returns-clause-host c = λ X N recursive path before now a b runs was is plain. hosted-stays X N before now a b was is plain recursive path runs
