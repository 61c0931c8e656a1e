use Rattle.std.proofs.Common.{◌∙◌}
use Rattle.uf_dagpb.proofs.Fronts.{names_front}
use Rattle.uf_dagpb.proofs.strict.behind_names.Goals as goal

pub returns-in-Some : goal.returns-in-Some
returns-in-Some c = names_front c.args.link.now _ c.as_bytes.result.now c.args.bytes.now c.in-Some.rest.now _ c.to_binary.ensures (c.as_bytes.ensures.value ∙ c.as_str.ensures) c.in-Some.ensures c.behind_field-in-Some.ensures
