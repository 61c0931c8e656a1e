use Rattle.std.proofs.Common.{arith}
use Rattle.uf_fileedit.proofs.layout.heights_of.Goals as goal

pub returns : goal.returns
returns c = record {
  before = c.height_of-rows.ensures;
  top_is = c.max.ensures;
  after = c.height_of.result;
  high = c.height_of.ensures;
  height_is = c.saturating_sub-height.ensures;
  first_is = (let m = c.min.ensures in let s = c.span_of.ensures in let b = c.requires.small in omega arith);
}
