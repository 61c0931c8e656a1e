use Rattle.uf_tree.proofs.Rows.{file_plan-top}
use Rattle.uf_tree.proofs.Told.{kept}
use Rattle.uf_laws.proofs.laws.a_file_plan_stands_on_its_first_row_of_one_group.Goals as goal

pub returns : goal.returns
returns c = λ X p m bytes h. file_plan-top X p m bytes (kept p h).some (kept p h).two
