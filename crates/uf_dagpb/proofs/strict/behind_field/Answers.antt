use Rattle.std.proofs.Common.{refl}
use Rattle.uf_dagpb.proofs.Fronts.{field_front_none, field_front}
use Rattle.uf_dagpb.proofs.strict.behind_field.Goals as goal

pub returns-in-None : goal.returns-in-None
returns-in-None c = field_front_none c.args.key _ c.args.content.now _ c.as_slice.result.now c.args.bytes.now c.as_slice.ensures c.new.ensures refl c.in-None.ensures

pub returns-in-Some : goal.returns-in-Some
returns-in-Some c = field_front c.args.key _ c.args.content.now _ c.as_slice.result.now c.args.bytes.now c.in-Some.rest.now _ c.as_slice.ensures c.new.ensures refl c.in-Some.ensures c.behind-in-Some.ensures
