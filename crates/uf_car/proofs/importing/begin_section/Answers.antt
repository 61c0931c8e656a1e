use Rattle.std.proofs.Common.{sym, ap, ◌∙◌, refl, Err, inl}
use Rattle.uf_car.specs.Importing.{no_more}
use Rattle.uf_car.specs.Reading.{opening_of}
use Rattle.uf_car.specs.declared.section.Opening.TheVariants.{End}
use Rattle.uf_car.proofs.Aheads.{begun_is, closed_at, has_ended}
use Rattle.uf_car.proofs.importing.begin_section.Goals as goal

pub returns-else-is_over-clause-says : goal.returns-else-is_over-clause-says
returns-else-is_over-clause-says g c a e =
    begun_is c.look_ahead.new.self _ a (c.look_ahead.ensures.ahead.same ∙ e) c.args.place _ c.in_ok-look_ahead.ensures.settled (c.in-End.ensures.exact ∙ ap (opening_of c.args.place) c.bytes.ensures) ∙ ap no_more (sym c.is_over.ensures ∙ c.if-is_over.false)

pub returns-in-Cut-clause-says : goal.returns-in-Cut-clause-says
returns-in-Cut-clause-says g c a e ok =
    begun_is c.look_ahead.new.self _ a (c.look_ahead.ensures.ahead.same ∙ e) c.args.place _ c.in_ok-look_ahead.ensures.settled (c.in-Cut.ensures.exact ∙ ap (opening_of c.args.place) c.bytes.ensures) ∙ ap Err (sym c.cut_at.ensures)

pub returns-in-Wrong-clause-says : goal.returns-in-Wrong-clause-says
returns-in-Wrong-clause-says g c a e ok =
    begun_is c.look_ahead.new.self _ a (c.look_ahead.ensures.ahead.same ∙ e) c.args.place _ c.in_ok-look_ahead.ensures.settled (c.in-Wrong.ensures.exact ∙ ap (opening_of c.args.place) c.bytes.ensures)

pub returns-in-Found-clause-says : goal.returns-in-Found-clause-says
returns-in-Found-clause-says g c a e =
    begun_is c.look_ahead.new.self _ a (c.look_ahead.ensures.ahead.same ∙ e) c.args.place _ c.in_ok-look_ahead.ensures.settled (c.in-Found.ensures.exact ∙ ap (opening_of c.args.place) c.bytes.ensures)

pub returns-else-is_over-clause-last : goal.returns-else-is_over-clause-last
returns-else-is_over-clause-last g c =
    has_ended _ _ (closed_at c.look_ahead.new.self c.args.place End c.in_ok-look_ahead.ensures.settled (sym (c.in-End.ensures.exact ∙ ap (opening_of c.args.place) c.bytes.ensures)) (inl refl))
    (sym c.is_over.ensures ∙ c.if-is_over.false) c.look_ahead.ensures.ended
