use Rattle.std.specs.Prelude.{flat_map}
use Rattle.uf_varint.specs.Fields.{number_field}
use Rattle.uf_message.specs.Left.{left}
use Rattle.uf_message.proofs.Fronts.{sizes_go_on, sizes_break, sizes_end}
use Rattle.uf_message.proofs.strict.behind_sizes.Goals as goal

pub returns-in-None : goal.returns-in-None
returns-in-None c = sizes_break c.args.sizes.now c.loop-size.size-index c.as_slice.result.now _ c.loop-size.rest.now (left (flat_map (number_field 0x20) c.args.sizes.now) c.args.bytes.now) c.loop-size-test.true c.as_slice.ensures c.new.ensures c.in-None.ensures c.loop-size.invariant

pub loop-size-preserved : goal.loop-size-preserved
loop-size-preserved c = sizes_go_on c.args.sizes.now c.loop-size.size-index c.as_slice.result.now _ c.loop-size.rest.now c.in-Some.after.now (left (flat_map (number_field 0x20) c.args.sizes.now) c.args.bytes.now) c.loop-size-test.true c.as_slice.ensures c.new.ensures c.in-Some.ensures c.loop-size.invariant

pub returns : goal.returns
returns c = sizes_end c.args.sizes.now c.loop-size.size-index c.loop-size.rest.now (left (flat_map (number_field 0x20) c.args.sizes.now) c.args.bytes.now) c.loop-size-test.false c.loop-size.invariant
