use Rattle.uf_lenient.proofs.Rereading.{dir-reread, file-reread, shard-reread}
use Rattle.uf_lenient.proofs.laws.canonical_nodes_are_read.Goals as goal

pub returns-clause-file : goal.returns-clause-file
returns-clause-file c = file-reread

pub returns-clause-directory : goal.returns-clause-directory
returns-clause-directory c = dir-reread

pub returns-clause-shard : goal.returns-clause-shard
returns-clause-shard c = shard-reread
