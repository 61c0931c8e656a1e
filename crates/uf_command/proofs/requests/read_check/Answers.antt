use Rattle.uf_command.proofs.Few.{tree-few}
use Rattle.uf_command.proofs.requests.read_check.Goals as goal

pub returns-in-Ok-parse-clause-profile : goal.returns-in-Ok-parse-clause-profile
returns-in-Ok-parse-clause-profile c = tree-few c.as_str-in-Ok.result.now c.in-Ok-parse.path c.in-Ok-parse.ensures
