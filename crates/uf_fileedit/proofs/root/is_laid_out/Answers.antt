use Rattle.std.proofs.Common.{arith}
use Rattle.uf_fileedit.proofs.Ways.{many-laid}
use Rattle.uf_fileedit.proofs.root.is_laid_out.Goals as goal

pub returns : goal.returns
returns c = many-laid c.args.p.now c.requires.profile c.args.codec c.args.root.now c.as_slice-parts.result.now c.size_over-size.result c.height_of.result c.saturating_sub-below.result c.is_many_root.result c.as_slice-parts.ensures c.size_over-size.ensures
    (let f = c.from.ensures in let m = c.if-size-from.false in omega arith) c.height_of.ensures c.saturating_sub-below.ensures c.is_many_root.ensures
