use Rattle.uf_lenient.proofs.Greater.{file-stays, path-stays, rest-stays, shape-stays, tree-stays}
use Rattle.uf_lenient.proofs.laws.a_reading_stays_in_a_greater_map.Goals as goal

pub returns-clause-tree : goal.returns-clause-tree
returns-clause-tree c = λ held more limits start all. tree-stays held more all limits start

pub returns-clause-shape : goal.returns-clause-shape
returns-clause-shape c = λ held more limits start all. shape-stays held more all limits start

pub returns-clause-file : goal.returns-clause-file
returns-clause-file c = λ held more limits start all. file-stays held more all limits start

pub returns-clause-rest : goal.returns-clause-rest
returns-clause-rest c = λ held more rest all. rest-stays held more all rest

pub returns-clause-path : goal.returns-clause-path
returns-clause-path c = λ place names held more limits start all. path-stays held more all limits place names start
