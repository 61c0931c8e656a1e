use Rattle.uf_varint.proofs.Cutting.{fields-number_field, fields-content_field}
use Rattle.uf_varint.proofs.laws.what_was_written_is_cut.Goals as goal

pub returns-clause-number : goal.returns-clause-number
returns-clause-number c = fields-number_field

pub returns-clause-content : goal.returns-clause-content
returns-clause-content c = fields-content_field
