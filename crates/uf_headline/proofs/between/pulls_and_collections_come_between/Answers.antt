use Rattle.uf_headline.proofs.Meanwhile.{between-same, between-then, check-between, gc-between, pull-between, serve-between}
use Rattle.uf_headline.proofs.between.pulls_and_collections_come_between.Goals as goal

pub returns-clause-none : goal.returns-clause-none
returns-clause-none c = λ X N before now same. between-same X N before now same

pub returns-clause-more : goal.returns-clause-more
returns-clause-more c = λ X N before between now first last. between-then X N before between now first last

pub returns-clause-pull : goal.returns-clause-pull
returns-clause-pull c = λ X N cid given before now runs. pull-between X N given before now cid runs

pub returns-clause-serve : goal.returns-clause-serve
returns-clause-serve c = λ X N given before now runs. serve-between X N given before now runs

pub returns-clause-collect : goal.returns-clause-collect
returns-clause-collect c = λ X N given before now runs. gc-between X N given before now runs

pub returns-clause-check : goal.returns-clause-check
returns-clause-check c = λ X N absent root names given before now runs. check-between X N given before now absent root names runs
