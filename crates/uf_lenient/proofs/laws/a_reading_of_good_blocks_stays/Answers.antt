use Rattle.uf_lenient.specs.Within.{good_blocks}
use Rattle.uf_lenient.proofs.Good.{good-greater, good-is}
use Rattle.uf_lenient.proofs.Greater.{file-stays, tree-stays}
use Rattle.uf_lenient.proofs.laws.a_reading_of_good_blocks_stays.Goals as goal

pub returns-clause-saves : goal.returns-clause-saves
returns-clause-saves c = λ hash before now keeps. keeps.stays

pub returns-clause-good : goal.returns-clause-good
returns-clause-good c = λ hash held cid block. good-is hash held cid block

pub returns-clause-tree : goal.returns-clause-tree
returns-clause-tree c = λ hash held more limits start all. tree-stays (good_blocks hash held) (good_blocks hash more) (good-greater hash held more all) limits start

pub returns-clause-file : goal.returns-clause-file
returns-clause-file c = λ hash held more limits start all. file-stays (good_blocks hash held) (good_blocks hash more) (good-greater hash held more all) limits start
