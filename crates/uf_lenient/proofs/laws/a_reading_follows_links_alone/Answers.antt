use Rattle.uf_lenient.proofs.Leading.{bytes-alike, path-alike, rest-alike, shape-alike, tree-alike}
use Rattle.uf_lenient.proofs.laws.a_reading_follows_links_alone.Goals as goal

pub returns-clause-tree : goal.returns-clause-tree
returns-clause-tree c = λ left right cids limits start agree here. tree-alike left right cids agree limits start here

pub returns-clause-shape : goal.returns-clause-shape
returns-clause-shape c = λ left right cids limits start agree here. shape-alike left right cids agree limits start here

pub returns-clause-file : goal.returns-clause-file
returns-clause-file c = λ left right cids limits start agree here. bytes-alike left right cids agree limits start here

pub returns-clause-path : goal.returns-clause-path
returns-clause-path c = λ place names left right cids limits start agree here. path-alike left right cids agree limits place names start here

pub returns-clause-rest : goal.returns-clause-rest
returns-clause-rest c = λ left right cids rest agree here. rest-alike left right cids agree rest here
