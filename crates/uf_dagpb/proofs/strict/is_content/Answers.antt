use Rattle.uf_dagpb.proofs.Fronts.{no_content}
use Rattle.uf_dagpb.proofs.strict.is_content.Goals as goal

pub returns-in-None-behind_field : goal.returns-in-None-behind_field
returns-in-None-behind_field c = no_content c.in-Some.block c.args.content.now c.as_slice.result.now c.args.bytes.now c.in-Some.is c.as_slice.ensures c.in-None-behind_field.ensures
