use Rattle.uf_headline.proofs.Meanwhile.{check-safely, gc-safely, pull-safely, pull-stopped, safely-same, safely-then, serve-safely}
use Rattle.uf_headline.proofs.between.pulls_and_collections_leave_a_tree_safe.Goals as goal

pub returns-clause-none : goal.returns-clause-none
returns-clause-none c = λ X N a b same. safely-same X N a b same

pub returns-clause-more : goal.returns-clause-more
returns-clause-more _ = λ X N a b c first last. safely-then X N a b c first last

pub returns-clause-pull : goal.returns-clause-pull
returns-clause-pull c = λ X N cid given before now a b runs was is. pull-safely X N given before now a b was is cid runs

pub returns-clause-stopped : goal.returns-clause-stopped
returns-clause-stopped _ = λ X N cid given before now a b c made rest runs was is cut again. pull-stopped X N given before now a b was is cid made rest c runs cut again

pub returns-clause-serve : goal.returns-clause-serve
returns-clause-serve c = λ X N given before now a b runs was is. serve-safely X N given before now a b was is runs

pub returns-clause-collect : goal.returns-clause-collect
returns-clause-collect c = λ X N given before now a b runs was is. gc-safely X N given before now a b was is runs

pub returns-clause-check : goal.returns-clause-check
returns-clause-check c = λ X N absent root names given before now a b runs was is. check-safely X N given before now a b was is absent root names runs
