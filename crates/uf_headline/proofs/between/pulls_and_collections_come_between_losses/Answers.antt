use Rattle.uf_headline.proofs.Calling.{losses-then, meanwhile-names, nothing-lost}
use Rattle.uf_headline.proofs.Meanwhile.{check-named, gc-named, pull-named, serve-named}
use Rattle.uf_headline.proofs.between.pulls_and_collections_come_between_losses.Goals as goal

pub returns-clause-none : goal.returns-clause-none
returns-clause-none c = λ X N s a b same. nothing-lost X N s a b same

pub returns-clause-more : goal.returns-clause-more
returns-clause-more _ = λ X N s a b c first last. losses-then X N s a b c first last

pub returns-clause-names : goal.returns-clause-names
returns-clause-names c = λ X N s a b m names. meanwhile-names X N s a b m names

pub returns-clause-pull : goal.returns-clause-pull
returns-clause-pull c = λ X N s cid given before now a b runs was is agrees. pull-named X N s given before now a b was is cid runs agrees

pub returns-clause-serve : goal.returns-clause-serve
returns-clause-serve c = λ X N s given before now a b runs was is. serve-named X N s given before now a b was is runs

pub returns-clause-collect : goal.returns-clause-collect
returns-clause-collect c = λ X N s given before now a b runs was is agrees. gc-named X N s given before now a b was is runs agrees

pub returns-clause-check : goal.returns-clause-check
returns-clause-check c = λ X N s absent root names given before now a b runs was is. check-named X N s given before now a b was is absent root names runs
