use Rattle.std.proofs.Common.{refl}
use Rattle.std.proofs.lemmas.Result.{err_from_is_err_and}
use Rattle.uf_store.proofs.Calls.{saves-saves}
use Rattle.uf_build.proofs.FeedingAll.{FeedsRest-after, last_of, no-memory, part_of, stopped-after}
use Rattle.uf_build.proofs.intake.feed_all.Goals as goal

pub returns-in_err-feed_next-clause-feeds : goal.returns-in_err-feed_next-clause-feeds
returns-in_err-feed_next-clause-feeds g c = λ p.
    let out = err_from_is_err_and c.from_residual-in_err-feed_next.result c.from_residual-in_err-feed_next.ensures.1 in
    rw (out.1, out.2) (c.in_err-feed_next.ensures.feeds p)

pub returns-then-not-branch-clause-feeds : goal.returns-then-not-branch-clause-feeds
returns-then-not-branch-clause-feeds g c = λ p. last_of _ p _ _ _ _ _ _ _ c.if-not-branch.true (c.in_ok-feed_next.ensures.feeds p)

pub returns-clause-feeds : goal.returns-clause-feeds
returns-clause-feeds g c = λ p. FeedsRest-after _ p _ _ _ _ _ _ _ _ _ _ (part_of _ p _ _ _ _ _ _ _ c.if-not-branch.false (c.in_ok-feed_next.ensures.feeds p)) (c.feed_rest.ensures.feeds p)

pub returns-clause-saves : goal.returns-clause-saves
returns-clause-saves g c = saves-saves c.in_ok-feed_next.ensures.saves c.feed_rest.ensures.saves

pub returns-in_err-piece-clause-feeds : goal.returns-in_err-piece-clause-feeds
returns-in_err-piece-clause-feeds g c = λ p.
    let out = err_from_is_err_and c.from_residual.result c.from_residual.ensures.1 in
    rw (out.1, out.2) (no-memory _ p _ _ _ _ _ refl)

pub returns-in_err-pieces-clause-feeds : goal.returns-in_err-pieces-clause-feeds
returns-in_err-pieces-clause-feeds g c = λ p.
    let out = err_from_is_err_and c.from_residual-in_err-pieces.result c.from_residual-in_err-pieces.ensures.1 in
    rw (out.1, out.2) (stopped-after _ p _ _ _ _ _ _ _ _ _ (part_of _ p _ _ _ _ _ _ _ c.if-not-branch.false (c.in_ok-feed_next.ensures.feeds p)) (no-memory _ p _ _ _ _ _ refl))
