use Rattle.uf_command.proofs.Few.{dag-few}
use Rattle.uf_command.proofs.asking.read_adopt.Goals as goal

pub returns-clause-profile : goal.returns-clause-profile
returns-clause-profile c = dag-few c.as_str.result.now c.in_ok-source.source c.in_ok-source.ensures
