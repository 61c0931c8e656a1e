use Rattle.uf_dagpb.proofs.Fronts.{other_bytes}
use Rattle.uf_dagpb.proofs.strict.behind.Goals as goal

pub returns-else-eq : goal.returns-else-eq
returns-else-eq c = other_bytes c.args.front.now c.args.bytes.now c.split_at.result.0.now c.eq.result c.split_at.ensures.front c.eq.ensures c.if-eq.false
