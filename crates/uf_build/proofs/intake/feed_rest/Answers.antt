use Rattle.std.proofs.Common.{ap, refl, Ok, ◌∙◌}
use Rattle.std.proofs.lemmas.Result.{err_from_is_err_and}
use Rattle.uf_store.proofs.Calls.{saves-saves}
use Rattle.uf_store.proofs.Causes.{StaysCalm-refl}
use Rattle.uf_store.proofs.Keeping.{KeepsGood-refl}
use Rattle.uf_store.proofs.Writing.{SavesOnly-refl}
use Rattle.uf_build.proofs.FeedingAll.{FeedsPart-after, FeedsPart-refl, FeedsLast-after, last_of, part_of, stopped-after}
use Rattle.uf_build.proofs.intake.feed_rest.Goals as goal

pub pieces-init : goal.pieces-init
pieces-init g c =
    let hash = g.S.X.BlockHash.block32 in
    let seen = g.S.Store.seen c.args.store.now in
    record {
      feeds = λ p. FeedsPart-refl hash p seen.told c.args.builder.now (g.I.Source.left c.args.input.now) c.requires.ready;
      ready = c.requires.ready;
      counted = refl;
      saves = record { cause = StaysCalm-refl seen; good = KeepsGood-refl hash seen.told; saves = SavesOnly-refl hash seen.told };
    }

pub pieces-preserved : goal.pieces-preserved
pieces-preserved g c = record {
  feeds = λ p. FeedsPart-after _ p _ _ _ _ _ _ _ _ _ (c.pieces.invariant.feeds p) (part_of _ p _ _ _ _ _ _ _ c.if-not-branch.false (c.in_ok-feed_next.ensures.feeds p));
  ready = (c.in_ok-feed_next.ensures.grows (ap Ok c.if-not-branch.false)).ready;
  counted = c.in_ok-feed_next.ensures.counts.still refl ∙ c.pieces.invariant.counted;
  saves = saves-saves c.pieces.invariant.saves c.in_ok-feed_next.ensures.saves;
}

pub returns-then-not-branch-clause-feeds : goal.returns-then-not-branch-clause-feeds
returns-then-not-branch-clause-feeds g c = λ p. FeedsLast-after _ p _ _ _ _ _ _ _ _ _ (c.pieces.invariant.feeds p) (last_of _ p _ _ _ _ _ _ _ c.if-not-branch.true (c.in_ok-feed_next.ensures.feeds p))

pub returns-then-not-branch-clause-saves : goal.returns-then-not-branch-clause-saves
returns-then-not-branch-clause-saves g c = saves-saves c.pieces.invariant.saves c.in_ok-feed_next.ensures.saves

pub returns-in_err-feed_next-clause-feeds : goal.returns-in_err-feed_next-clause-feeds
returns-in_err-feed_next-clause-feeds g c = λ p.
    let out = err_from_is_err_and c.from_residual.result c.from_residual.ensures.1 in
    rw (out.1, out.2) (stopped-after _ p _ _ _ _ _ _ _ _ _ (c.pieces.invariant.feeds p) (c.in_err-feed_next.ensures.feeds p))

pub returns-in_err-feed_next-clause-saves : goal.returns-in_err-feed_next-clause-saves
returns-in_err-feed_next-clause-saves g c =
    let out = err_from_is_err_and c.from_residual.result c.from_residual.ensures.1 in
    rw (out.1, out.2) (saves-saves c.pieces.invariant.saves c.in_err-feed_next.ensures.saves)
