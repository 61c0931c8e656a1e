use Rattle.std.proofs.Common.{refl, sym, arith}
use Rattle.sha2.proofs.Schedule256.{rounds_first}
use Rattle.uf_cid.specs.Lanes.{lane, words}
use Rattle.uf_cid.proofs.LaneLemmas.{word_in}
use Rattle.uf_cid.proofs.lanes.block.first_step.Goals as goal

pub returns : goal.returns
returns c = λ j lt b h window held.
    rounds_first b h (words j c.args.w.now) (lane j c.args.v) c.args.t _ _ _ c.requires window held refl
    (sym (word_in c.args.w.now j c.args.t (omega arith))) (c.round.ensures j lt)
