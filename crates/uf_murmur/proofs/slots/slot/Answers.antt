use Rattle.std.proofs.Common.{◌-◌, ◌/◌, ◌%◌, ap}
use Rattle.uf_murmur.proofs.Words.{power_of_bytes}
use Rattle.uf_murmur.proofs.slots.slot.Goals as goal

pub returns : goal.returns
returns c = ap (λ p. c.args.hash / p % 256) (power_of_bytes (7 - c.args.level))
