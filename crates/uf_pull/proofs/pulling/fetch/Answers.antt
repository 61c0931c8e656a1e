use Rattle.std.proofs.Common.{◌≡◌, ◌∙◌, ap, refl, subst, sym, Ok, Err}
use Rattle.std.proofs.lemmas.Result.{err_from_is_err_and}
use Rattle.uf_store.specs.Contents.{changed, with_save}
use Rattle.uf_walk.specs.Turns.{TakesDue}
use Rattle.uf_pull.specs.declared.fault.PullFault.TheVariants as fault
use Rattle.uf_pull.specs.Due.{Answered}
use Rattle.uf_pull.specs.Frames.{frames_from}
use Rattle.uf_pull.specs.Pulling.{stand}
use Rattle.uf_pull.proofs.Visiting.{kept_and_taken, peer_refuses, unanswered, untaken}
use Rattle.uf_pull.proofs.pulling.fetch.Goals as goal

pub returns-in_err-found-clause-visits : goal.returns-in_err-found-clause-visits
returns-in_err-found-clause-visits g c = λ t bytes root given is left on none.
    let out = err_from_is_err_and c.from_residual.result c.from_residual.ensures.1 in
    rw (out.1, out.2) (λ n. peer_refuses g.S.X.BlockHash.block32 root c.args.cid.now c.args.walk.now t (stand c.args.peer.now) bytes on c.requires.due none n c.in_err-found.field-0.0 _ given _ is
    (c.in_err-found.ensures.answers bytes left))

pub returns-in_err-save_under-clause-visits : goal.returns-in_err-save_under-clause-visits
returns-in_err-save_under-clause-visits g c = λ t bytes root given is left on none.
    let out = err_from_is_err_and c.from_residual-in_err-save_under.result c.from_residual-in_err-save_under.ensures.1 in
    rw (out.1, out.2) (λ n. unanswered g.S.X.BlockHash.block32 root c.args.cid.now c.args.walk.now t (stand c.args.peer.now) bytes on c.requires.due none n (fault.Store c.in_err-save_under.field-0.0) _ given (g.I.Source.left c.answer.new.input) refl
    (c.in_err-save_under.ensures.err ∙ is))

pub returns-in_err-take-clause-visits : goal.returns-in_err-take-clause-visits
returns-in_err-take-clause-visits g c = λ t bytes root given is left on none.
    let out = err_from_is_err_and c.from_residual-in_err-take.result c.from_residual-in_err-take.ensures.1 in
    let with = c.in_ok-found.ensures.answers bytes left in
    let says = with.says ∙ ap (λ b. Answered b c.answer.new.self.more (frames_from c.answer.new.self.place with.uses.rest)) (sym c.bytes-block.ensures) in
    let takes = subst (λ d. TakesDue d c.bytes-block.result.now (Err c.in_err-take.field-0.0) c.args.walk.now c.take.new.self) c.requires.due c.in_err-take.ensures in
    rw (out.1, out.2) (λ n. untaken g.S.X.BlockHash.block32 root c.args.cid.now c.args.walk.now t (stand c.args.peer.now) bytes on c.requires.due none c.bytes-block.result.now (stand c.answer.new.self) with.uses.rest
    says n c.in_err-take.field-0.0 c.take.new.self _ given _ with.uses.used (c.in_ok-save_under.ensures.kept.kept ∙ ap (changed (with_save c.args.cid.now c.bytes-block.result.now)) is) takes with.uses.left with.uses.moved with.uses.behind)

pub returns-clause-visits : goal.returns-clause-visits
returns-clause-visits g c = λ t bytes root given is left on none.
    let with = c.in_ok-found.ensures.answers bytes left in
    let says = with.says ∙ ap (λ b. Answered b c.answer.new.self.more (frames_from c.answer.new.self.place with.uses.rest)) (sym c.bytes-block.ensures) in
    let takes = subst (λ d. TakesDue d c.bytes-block.result.now (Ok tt) c.args.walk.now c.take.new.self) c.requires.due c.in_ok-take.ensures in
    kept_and_taken g.S.X.BlockHash.block32 root c.args.cid.now c.args.walk.now t (stand c.args.peer.now) bytes on c.requires.due none c.bytes-block.result.now (stand c.answer.new.self) with.uses.rest
    says c.take.new.self _ _ given with.uses.used (c.in_ok-save_under.ensures.kept.kept ∙ ap (changed (with_save c.args.cid.now c.bytes-block.result.now)) is) takes with.uses.left with.uses.moved with.uses.behind c.in_ok-found.ensures.added
