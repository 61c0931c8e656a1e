use Rattle.std.proofs.Common.{refl}
use Rattle.uf_gen.specs.Rules.{digits}
use Rattle.uf_gen.proofs.laws.files_are_named_and_changed_by_the_rules.Goals as goal

pub returns-clause-name : goal.returns-clause-name
unfolding digits
returns-clause-name c = refl
