use Rattle.std.proofs.Common.{◌≡◌, ◌+◌, ◌-◌, ◌^◌, ℕ, List, Ok, ap, arith, length, min, refl, subst, ◌∙◌}
use Rattle.std.specs.Prelude.{IfSome, Option}
use Rattle.uf_edge.specs.Streams.{AppendsPrefix, after}
use Rattle.uf_store.specs.Contents.{held_at}
use Rattle.uf_store.proofs.Causes.{StaysCalm-trans}
use Rattle.uf_lenient.specs.Steps.{IsNextPiece}
use Rattle.uf_lenient.proofs.Sending.{part-sent, sent-more}
use Rattle.uf_lenient.proofs.streaming.write_pieces.Goals as goal

pub returns-in-Failed-clause-front : goal.returns-in-Failed-clause-front
returns-in-Failed-clause-front g c =
    part-sent (g.S.Store.seen c.args.store.now).told (g.S.Store.seen c.loop-piece.store).told c.args.pieces.now c.loop-piece.pieces c.next.new.self (g.O.Sink.holds c.args.out.now) (g.O.Sink.holds c.loop-piece.out) (g.O.Sink.holds c.write_all.new.out) c.loop-piece.count c.in-Some.piece
    c.loop-piece.invariant.told c.loop-piece.invariant.sent
    (subst (λ (r : Option (List ℕ)). IfSome (g.S.Store.seen c.loop-piece.store).told (λ t. IsNextPiece (held_at t) c.loop-piece.pieces c.next.new.self (Ok r))) c.in-Some.is c.in_ok-piece.ensures.says)
    (subst (λ (l : List ℕ). AppendsPrefix l (g.O.Sink.holds c.loop-piece.out) (g.O.Sink.holds c.write_all.new.out)) c.as_slice.ensures c.in-Failed.ensures.bytes)

pub loop-piece-preserved : goal.loop-piece-preserved
loop-piece-preserved g c =
    let fewer : c.next.new.self.1 + 1 ≡ c.loop-piece.pieces.1 = subst (λ (r : Option (List ℕ)). IfSome r (λ _. c.next.new.self.1 + 1 ≡ c.loop-piece.pieces.1)) c.in-Some.is c.in_ok-piece.ensures.fewer in
    record {
      sent = sent-more (g.S.Store.seen c.args.store.now).told (g.S.Store.seen c.loop-piece.store).told c.args.pieces.now c.loop-piece.pieces c.next.new.self (g.O.Sink.holds c.args.out.now) (g.O.Sink.holds c.loop-piece.out) (g.O.Sink.holds c.write_all.new.out) c.loop-piece.count c.saturating_add-count.result c.in-Some.piece
          c.loop-piece.invariant.told c.loop-piece.invariant.sent
          (subst (λ (r : Option (List ℕ)). IfSome (g.S.Store.seen c.loop-piece.store).told (λ t. IsNextPiece (held_at t) c.loop-piece.pieces c.next.new.self (Ok r))) c.in-Some.is c.in_ok-piece.ensures.says)
          (c.in-Done.ensures.bytes ∙ ap (after (g.O.Sink.holds c.loop-piece.out)) c.as_slice.ensures)
          (c.saturating_add-count.ensures ∙ ap (λ (l : List ℕ). min (c.loop-piece.count + length l) (2 ^ 64 - 1)) c.as_slice-in-Done.ensures);
      sink = c.in-Done.ensures.counts.still refl ∙ c.loop-piece.invariant.sink;
      calm = StaysCalm-trans _ _ _ c.loop-piece.invariant.calm c.in_ok-piece.ensures.cause;
      told = c.in_ok-piece.ensures.told ∙ c.loop-piece.invariant.told;
      touched = omega (arith, c.loop-piece.invariant.touched, c.in_ok-piece.ensures.touched);
      touches = omega (arith, c.loop-piece.invariant.touches, c.in_ok-piece.ensures.touches, fewer);
    }
