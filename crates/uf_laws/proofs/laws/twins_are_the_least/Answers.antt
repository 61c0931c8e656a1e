use Rattle.uf_laws.proofs.Least.{twins-least}
use Rattle.uf_laws.proofs.laws.twins_are_the_least.Goals as goal

pub returns : goal.returns
returns c = λ same l a b sorted h. twins-least same l a b sorted h
