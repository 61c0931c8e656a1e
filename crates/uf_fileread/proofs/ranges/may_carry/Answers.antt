use Rattle.std.proofs.Common.{refl, arith}
use Rattle.uf_fileread.proofs.ranges.may_carry.Goals as goal

pub returns : goal.returns
returns c = (λ t lt. absurd (omega (arith, lt)), λ h. refl)
