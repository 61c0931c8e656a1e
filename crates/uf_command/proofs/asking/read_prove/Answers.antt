use Rattle.uf_command.proofs.Few.{tree-few}
use Rattle.uf_command.proofs.asking.read_prove.Goals as goal

pub returns-clause-profile : goal.returns-clause-profile
returns-clause-profile c = tree-few c.as_str.result.now c.in_ok-path.path c.in_ok-path.ensures
