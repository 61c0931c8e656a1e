use Rattle.uf_dagpb.specs.Spelling.{link_bytes}
use Rattle.uf_dagpb.proofs.Fronts.{field_front_none, field_front}
use Rattle.uf_dagpb.proofs.strict.behind_link.Goals as goal

pub returns-in-None-clause-front : goal.returns-in-None-clause-front
returns-in-None-clause-front c = field_front_none 0x12 c.link_len.result (link_bytes c.args.link.now) _ c.as_slice.result.now c.args.bytes.now c.as_slice.ensures c.new.ensures c.link_len.ensures c.in-None.ensures

pub returns-in-Some-clause-front : goal.returns-in-Some-clause-front
returns-in-Some-clause-front c = field_front 0x12 c.link_len.result (link_bytes c.args.link.now) _ c.as_slice.result.now c.args.bytes.now c.in-Some.rest.now _ c.as_slice.ensures c.new.ensures c.link_len.ensures c.in-Some.ensures c.behind_parts.ensures
