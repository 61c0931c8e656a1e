use Rattle.std.proofs.Common.{ap, ◌∙◌, refl, Ok}
use Rattle.uf_car.proofs.Aheads.{begun_none}
use Rattle.uf_car.proofs.importing.import_section.Goals as goal

pub returns-in-None-clause-reads : goal.returns-in-None-clause-reads
returns-in-None-clause-reads g c a e = record {
  none = begun_none a.1 c.args.place a.0 (c.in_ok-begin_section.ensures.says a e ∙ ap Ok c.in-None.is);
  same = c.begin_section.ensures.ahead.same ∙ e;
  same_told = refl;
}
