use Rattle.std.proofs.Common.{ap, arith, ◌∙◌}
use Rattle.sha2.specs.Sha256.{word_at}
use Rattle.uf_cid.proofs.LaneLemmas.{below_eight}
use Rattle.uf_cid.proofs.lanes.block.load.Goals as goal

pub returns : goal.returns
returns c =
    let at = word_at c.args.bytes.now in
    below_eight _
    (c.load_be.ensures ∙ ap at (omega arith))
    (c.load_be-2.ensures ∙ ap at (omega arith))
    c.load_be-3.ensures
    c.load_be-4.ensures
    c.load_be-5.ensures
    c.load_be-6.ensures
    c.load_be-7.ensures
    c.load_be-8.ensures
