use Rattle.uf_cid.proofs.LaneLemmas.{chooses}
use Rattle.uf_cid.proofs.lanes.vectors.ch.Goals as goal

pub returns : goal.returns
returns c = chooses 8 c.args.x c.args.y c.args.z c.fits-x.0 c.fits-y.0 c.fits-z.0 c.fits-x.1 c.fits-y.1 c.fits-z.1
