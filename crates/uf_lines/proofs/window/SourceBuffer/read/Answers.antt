use Rattle.std.proofs.Common.{◌∙◌, arith}
use Rattle.uf_lines.proofs.Windows.{gave, got_fits, part_same}
use Rattle.uf_lines.proofs.window.SourceBuffer.read.Goals as goal

pub invariant_of-self : goal.invariant_of-self
invariant_of-self g c =
    let old = c.make_room.new.self in
    let fits = got_fits old c.read_between.new.buffer.items c.in-Got.got _ _ _ c.in-Got.ensures.bytes in
    let order = old.in_order in
    let range = old.in_range in
    let size = c.in-Got.ensures.len in
    record { in_order = omega arith; in_range = omega (arith, fits, size) }

pub returns-in-Got-clause-bytes : goal.returns-in-Got-clause-bytes
returns-in-Got-clause-bytes g c =
    gave c.make_room.new.self c.read_between.new.buffer.items c.in-Got.got _ _ _ c.in-Got.ensures.bytes c.args.count _
    c.in_ok-make_room.ensures.keeps (let range = c.make_room.new.self.in_range in omega arith) (omega arith) c.in-Got.ensures.front

pub returns-in-End-clause-bytes : goal.returns-in-End-clause-bytes
returns-in-End-clause-bytes g c =
    let old = c.make_room.new.self in
    (part_same old.buffer.items c.read_between.new.buffer.items old.from old.to old.in_order c.in-End.ensures.front ∙ c.in_ok-make_room.ensures.keeps, c.in-End.ensures.bytes.0, c.in-End.ensures.bytes.1)

pub returns-in-Failed-clause-bytes : goal.returns-in-Failed-clause-bytes
returns-in-Failed-clause-bytes g c =
    let old = c.make_room.new.self in
    (part_same old.buffer.items c.read_between.new.buffer.items old.from old.to old.in_order c.in-Failed.ensures.front ∙ c.in_ok-make_room.ensures.keeps, c.in-Failed.ensures.bytes)
