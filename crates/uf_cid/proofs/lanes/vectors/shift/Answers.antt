use Rattle.std.proofs.Common.{◌/◌, ◌^◌}
use Rattle.uf_cid.proofs.LaneLemmas.{of_splat}
use Rattle.uf_cid.proofs.lanes.vectors.shift.Goals as goal

pub returns : goal.returns
returns c = of_splat (λ a i. a / 2 ^ i) 8 c.args.x c.args.k c.fits-x.0
