use Rattle.uf_tree.proofs.Climb.{climb-fuel}
use Rattle.uf_laws.proofs.laws.the_rows_end_before_the_fuel.Goals as goal

pub returns : goal.returns
returns c = λ X width fuel other row two p q. climb-fuel X width fuel other row two p q
