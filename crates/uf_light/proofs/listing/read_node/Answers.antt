use Rattle.uf_light.proofs.Going.{root-reads}
use Rattle.uf_light.proofs.listing.read_node.Goals as goal

pub returns : goal.returns
returns c = root-reads c.args.bytes.now c.read_parts.result c.read_parts.ensures
