use Rattle.std.proofs.Common.{◌≡◌}
use Rattle.std.specs.Prelude.{IfSome, Some}
use Rattle.uf_laws.proofs.Held.{trail-among}
use Rattle.uf_laws.proofs.laws.a_trail_is_among_the_blocks.Goals as goal

pub returns : goal.returns
returns c = record {
  holds = λ X N p m l name held. trail-among X N (λ b. held b.0 ≡ Some b.1) p m l name;
  agrees = λ X N p m l name held. trail-among X N (λ b. IfSome (held b.0) (λ found. found ≡ b.1)) p m l name;
}
