use Rattle.uf_lenient.proofs.TreesAgain.{tree-denoted}
use Rattle.uf_lenient.proofs.laws.a_plan_denotes_its_tree.Goals as goal

pub returns : goal.returns
returns c = record { denotes = λ X N p t held good small ok is fits all limits. tree-denoted X N good small held p t limits ok is fits all }
