use Rattle.uf_laws.proofs.Held.{dir_plan-own}
use Rattle.uf_laws.proofs.laws.a_directory_has_a_plan_unless_names_collide.Goals as goal

pub returns : goal.returns
returns c = λ X N p m l fits. dir_plan-own X N fits p m l
