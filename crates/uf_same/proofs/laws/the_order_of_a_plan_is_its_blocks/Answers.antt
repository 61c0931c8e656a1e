use Rattle.uf_same.proofs.PlanOrder.{plan-ordered}
use Rattle.uf_same.proofs.laws.the_order_of_a_plan_is_its_blocks.Goals as goal

pub returns : goal.returns
returns c = λ X N p t held most good small ok tree fits all. plan-ordered X N good small p t held (record { profile = ok; tree = tree; planned = fits; all = all }) most
