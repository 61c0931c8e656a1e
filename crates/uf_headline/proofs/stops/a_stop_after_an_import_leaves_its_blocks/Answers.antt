use Rattle.uf_headline.proofs.AddStays.{import-stays}
use Rattle.uf_headline.proofs.stops.a_stop_after_an_import_leaves_its_blocks.Goals as goal

pub returns : goal.returns
returns c = λ X N before now a b bytes runs was is plain left room reads writes. import-stays X N before now a b was is plain bytes left room reads writes runs
