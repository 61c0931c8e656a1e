use Rattle.uf_tree.proofs.Naming.{name_by}
use Rattle.uf_tree.proofs.name.Name.as_str.Goals as goal

pub returns-clause-good : goal.returns-clause-good
returns-clause-good c = name_by c.self.inside.text c.as_str.result.now c.args.self.now c.as_str.ensures c.self.view_is c.self.invariant c.as_str.utf8
