use Rattle.std.proofs.Common.{ap}
use Rattle.std.specs.FinMap.Entries.{same_entries}
use Rattle.uf_tree.specs.DirPlan.{dir_plan}
use Rattle.uf_tree.specs.Names.{names_cmp}
use Rattle.uf_tree.proofs.ShardLaws.{names_total, names_exact}
use Rattle.uf_tree.proofs.Told.{as_T}
use Rattle.uf_laws.proofs.laws.a_directory_depends_on_its_names_alone.Goals as goal

pub returns : goal.returns
returns c = λ X N p meta l m h k same. ap (dir_plan X N p meta) (same_entries names_cmp names_total names_exact l m (as_T _ h) (as_T _ k) same)
