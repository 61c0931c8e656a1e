use Rattle.uf_lenient.proofs.Leading.{bytes-alike, path-alike, shape-alike, tree-alike}
use Rattle.uf_same.proofs.Alike.{equal_alike}
use Rattle.uf_same.proofs.Readings.{agree-among, root-there}
use Rattle.uf_same.proofs.laws.equal_means_the_same_readings.Goals as goal

pub returns-clause-tree : goal.returns-clause-tree
returns-clause-tree c = λ left right most a b limits equal.
    let h = equal_alike left right most a b equal in tree-alike left right h.list (agree-among left right most a h) limits a (root-there left most a h.list h.order_left)

pub returns-clause-shape : goal.returns-clause-shape
returns-clause-shape c = λ left right most a b limits equal.
    let h = equal_alike left right most a b equal in shape-alike left right h.list (agree-among left right most a h) limits a (root-there left most a h.list h.order_left)

pub returns-clause-file : goal.returns-clause-file
returns-clause-file c = λ left right most a b limits equal.
    let h = equal_alike left right most a b equal in bytes-alike left right h.list (agree-among left right most a h) limits a (root-there left most a h.list h.order_left)

pub returns-clause-path : goal.returns-clause-path
returns-clause-path c = λ left right most a b limits place names equal.
    let h = equal_alike left right most a b equal in path-alike left right h.list (agree-among left right most a h) limits place names a (root-there left most a h.list h.order_left)
