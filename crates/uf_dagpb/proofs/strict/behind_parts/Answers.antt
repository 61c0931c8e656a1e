use Rattle.uf_dagpb.proofs.Fronts.{parts_front}
use Rattle.uf_dagpb.proofs.strict.behind_parts.Goals as goal

pub returns-in-Some : goal.returns-in-Some
returns-in-Some c = parts_front c.args.link.now _ c.as_slice.result.now c.args.bytes.now c.in-Some.rest.now _ c.as_slice.ensures c.new.ensures c.in-Some.ensures c.behind.ensures
