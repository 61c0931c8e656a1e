use Rattle.std.proofs.Common.{◌∷◌, List, ap, ◌∙◌}
use Rattle.std.proofs.lemmas.Result.{err_from_is_err_and}
use Rattle.uf_lenient.specs.declared.due.Frame.{Frame}
use Rattle.uf_lenient.proofs.Frames.{first-fault, first-frame}
use Rattle.uf_lenient.proofs.Saying.{by-good}
use Rattle.uf_lenient.proofs.gathering.gather_shards.Goals as goal

pub returns-in_err-gather_frames-clause-says : goal.returns-in_err-gather_frames-clause-says
returns-in_err-gather_frames-clause-says g c =
    let out = err_from_is_err_and c.from_residual-in_err-gather_frames.result c.from_residual-in_err-gather_frames.ensures.1 in
    rw (out.1, out.2) (by-good g.S.X.BlockHash.block32 (g.S.Store.seen c.args.store.now).told
    (λ held says. first-fault held c.push.new.self c.args.meta c.args.first c.new-met.result c.args.visits.now c.in_err-gather_frames.field-0.0
    (c.in_ok-push.ensures.ok ∙ ap (λ (fs : List Frame). c.args.first ∷ fs) c.new-frames.ensures) c.new-met.ensures says)
    c.in_err-gather_frames.ensures.says)

pub returns-clause-says : goal.returns-clause-says
returns-clause-says g c =
    by-good g.S.X.BlockHash.block32 (g.S.Store.seen c.args.store.now).told
    (λ held says. first-frame held c.push.new.self c.args.meta c.args.first c.new-met.result c.args.visits.now c.gather_frames.new.met c.gather_frames.new.visits
    (c.in_ok-push.ensures.ok ∙ ap (λ (fs : List Frame). c.args.first ∷ fs) c.new-frames.ensures) c.new-met.ensures says)
    c.in_ok-gather_frames.ensures.says
