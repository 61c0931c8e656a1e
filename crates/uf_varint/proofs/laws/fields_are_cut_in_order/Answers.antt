use Rattle.std.proofs.Common.{refl}
use Rattle.uf_varint.specs.Fields.{fields, fields_within}
use Rattle.uf_varint.proofs.Cutting.{fields-cons}
use Rattle.uf_varint.proofs.laws.fields_are_cut_in_order.Goals as goal

pub returns-clause-none : goal.returns-clause-none
unfolding fields fields_within
returns-clause-none c = refl

pub returns-clause-next : goal.returns-clause-next
returns-clause-next c = fields-cons
