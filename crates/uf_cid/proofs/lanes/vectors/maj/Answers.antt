use Rattle.uf_cid.proofs.LaneLemmas.{majors}
use Rattle.uf_cid.proofs.lanes.vectors.maj.Goals as goal

pub returns : goal.returns
returns c = majors 8 c.args.x c.args.y c.args.z c.fits-x.0 c.fits-y.0 c.fits-z.0
