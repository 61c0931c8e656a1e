use Rattle.uf_headline.proofs.Stopped.{commit-ends, words-end}
use Rattle.uf_headline.proofs.stops.a_stop_leaves_the_tree_before_or_after.Goals as goal

pub returns-clause-commit : goal.returns-clause-commit
returns-clause-commit c = λ X N r root a b p q es fs hash small safe commits stands. commit-ends X N hash small a p q es fs safe r root b commits stands

pub returns-clause-command : goal.returns-clause-command
returns-clause-command c = λ X N asked done a b p q es fs hash small safe written stands. words-end X N hash small a p q es fs safe asked done b written stands
