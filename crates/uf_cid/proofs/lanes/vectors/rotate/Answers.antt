use Rattle.uf_cid.proofs.LaneLemmas.{rotates}
use Rattle.uf_cid.proofs.lanes.vectors.rotate.Goals as goal

pub returns : goal.returns
returns c = rotates 8 c.args.k c.requires.0 c.requires.1 c.args.x c.fits-x.0
