use Rattle.uf_lenient.proofs.Reached.{plan-closed, plan-reached, plan-rooted}
use Rattle.uf_lenient.proofs.laws.a_plan_is_where_links_lead.Goals as goal

pub returns-clause-rooted : goal.returns-clause-rooted
returns-clause-rooted c = λ X N p t held good small ok tree fits all. plan-rooted X N p t held good small ok tree fits all

pub returns-clause-closed : goal.returns-clause-closed
returns-clause-closed c = λ X N p t held good small ok tree fits all. plan-closed X N p t held good small ok tree fits all

pub returns-clause-reached : goal.returns-clause-reached
returns-clause-reached c = λ X N p t held good small ok tree fits all more cids agree here. plan-reached X N p t held good small ok tree fits all more cids agree here
