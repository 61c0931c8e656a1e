use Rattle.std.proofs.Common.{take}
use Rattle.std.proofs.lemmas.Result.{err_from_is_err_and}
use Rattle.uf_build.proofs.FeedingAll.{fed-saves, saves-nothing, stopped-more}
use Rattle.uf_build.proofs.intake.feed_next.Goals as goal

pub returns-in_ok-feed_piece-in-Full-clause-feeds : goal.returns-in_ok-feed_piece-in-Full-clause-feeds
returns-in_ok-feed_piece-in-Full-clause-feeds g c = λ p. record {
  bytes = c.fill.new.buffer;
  feeds = record {
    taken = c.in-Full.ensures.bytes;
    fed = c.in_ok-feed_piece-in-Full.ensures.feeds p;
    ready = c.in_ok-feed_piece-in-Full.ensures.count.ready;
    no_other = fed-saves _ p c.fill.new.buffer _ _ _ c.feed_piece.ensures.no_other;
  };
}

pub returns-in_err-feed_piece-in-Full-clause-feeds : goal.returns-in_err-feed_piece-in-Full-clause-feeds
returns-in_err-feed_piece-in-Full-clause-feeds g c = λ p.
    let out = err_from_is_err_and c.from_residual.result c.from_residual.ensures.1 in
    rw (out.1, out.2) (record {
      cause = stopped-more _ _ c.in_err-feed_piece-in-Full.field-0.0 (λ many. record { bytes = c.fill.new.buffer; taken = c.in-Full.ensures.bytes; many = many }) (c.in_err-feed_piece-in-Full.ensures.feeds p);
      saves = record {
        bytes = c.fill.new.buffer;
        rest = g.I.Source.left c.fill.new.input;
        taken = c.in-Full.ensures.bytes;
        no_other = fed-saves _ p c.fill.new.buffer _ _ _ c.feed_piece.ensures.no_other;
      };
    })

pub returns-in_ok-feed_piece-in-Ended-clause-feeds : goal.returns-in_ok-feed_piece-in-Ended-clause-feeds
returns-in_ok-feed_piece-in-Ended-clause-feeds g c = λ p. record {
  bytes = take c.in-Ended.count c.fill.new.buffer;
  feeds = record {
    taken = c.in-Ended.ensures.bytes.taken;
    fed = c.in_ok-feed_piece-in-Ended.ensures.feeds p;
    ready = c.in_ok-feed_piece-in-Ended.ensures.count.ready;
    no_other = fed-saves _ p (take c.in-Ended.count c.fill.new.buffer) _ _ _ c.feed_piece-in-Ended.ensures.no_other;
  };
  nothing_left = c.in-Ended.ensures.bytes.nothing_left;
}

pub returns-in_err-feed_piece-in-Ended-clause-feeds : goal.returns-in_err-feed_piece-in-Ended-clause-feeds
returns-in_err-feed_piece-in-Ended-clause-feeds g c = λ p.
    let out = err_from_is_err_and c.from_residual-in_err-feed_piece-in-Ended.result c.from_residual-in_err-feed_piece-in-Ended.ensures.1 in
    rw (out.1, out.2) (record {
      cause = stopped-more _ _ c.in_err-feed_piece-in-Ended.field-0.0 (λ many. record { bytes = take c.in-Ended.count c.fill.new.buffer; taken = c.in-Ended.ensures.bytes.taken; many = many }) (c.in_err-feed_piece-in-Ended.ensures.feeds p);
      saves = record {
        bytes = take c.in-Ended.count c.fill.new.buffer;
        rest = g.I.Source.left c.fill.new.input;
        taken = c.in-Ended.ensures.bytes.taken;
        no_other = fed-saves _ p (take c.in-Ended.count c.fill.new.buffer) _ _ _ c.feed_piece-in-Ended.ensures.no_other;
      };
    })

pub returns-in-Failed-clause-feeds : goal.returns-in-Failed-clause-feeds
returns-in-Failed-clause-feeds g c = λ p. record { cause = tt; saves = saves-nothing _ p _ _ _ }
