use Rattle.std.proofs.Common.{sym, ap, ◌∙◌, subst, Err, inl, inr}
use Rattle.uf_car.specs.Importing.{SaysUnlessStopped}
use Rattle.uf_varint.specs.Varint.{read_multi_of}
use Rattle.uf_car.proofs.Aheads.{header_read, header_short, header_wrong}
use Rattle.uf_car.proofs.Openings.{length_used}
use Rattle.uf_car.proofs.importing.read_header.Goals as goal
use Rattle.uf_car.proofs.importing.read_header.Goals.{then-length-eq0-via-then-length-eq0, then-length-eq0-via-else-length-eq0+then-length-gt16384}

pub read_roots-requires-clause-front : goal.read_roots-requires-clause-front
read_roots-requires-clause-front g c = length_used _ _ _ (sym c.in-Value.ensures.exact)

pub returns-in-Short-clause-says : goal.returns-in-Short-clause-says
returns-in-Short-clause-says g c a e ok = header_short c.look_ahead.new.self _ a (c.look_ahead.ensures.ahead.same ∙ e) c.in_ok-look_ahead.ensures.settled (c.in-Short.ensures.exact ∙ ap read_multi_of c.bytes.ensures) ∙ ap Err (sym c.cut_at.ensures)

pub returns-in-Bad-clause-says : goal.returns-in-Bad-clause-says
returns-in-Bad-clause-says g c a e ok = header_read c.look_ahead.new.self _ a (c.look_ahead.ensures.ahead.same ∙ e) _ c.in_ok-look_ahead.ensures.settled (c.in-Bad.ensures.exact ∙ ap read_multi_of c.bytes.ensures)

pub returns-then-length-eq0-clause-says : goal.returns-then-length-eq0-clause-says
returns-then-length-eq0-clause-says g c a e ok = header_wrong c.look_ahead.new.self _ a (c.look_ahead.ensures.ahead.same ∙ e) _ _ c.in_ok-look_ahead.ensures.settled (c.in-Value.ensures.exact ∙ ap read_multi_of c.bytes.ensures) (elim c.then-length-eq0.branch [ then-length-eq0-via-then-length-eq0 w ↦ inl w.if-length-eq0.true | then-length-eq0-via-else-length-eq0+then-length-gt16384 w ↦ inr w.if-length-gt16384.true ])

pub returns-else-length-gt16384-clause-says : goal.returns-else-length-gt16384-clause-says
returns-else-length-gt16384-clause-says g c a e =
    subst (SaysUnlessStopped (λ x. (x.0, x.1)) c.read_roots.result) (sym (header_read c.look_ahead.new.self _ a (c.look_ahead.ensures.ahead.same ∙ e) _ c.in_ok-look_ahead.ensures.settled (c.in-Value.ensures.exact ∙ ap read_multi_of c.bytes.ensures)))
    (c.read_roots.ensures.says a (c.look_ahead.ensures.ahead.same ∙ e))
