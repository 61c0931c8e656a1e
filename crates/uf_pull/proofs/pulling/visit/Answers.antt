use Rattle.std.proofs.Common.{◌≡◌, ◌∙◌, suc, Bool, ap, refl, subst, sym, None, Some, Ok, Err}
use Rattle.std.proofs.lemmas.Result.{err_from_is_err_and}
use Rattle.std.specs.Prelude.{IfSome}
use Rattle.uf_store.specs.Contents.{held_at}
use Rattle.uf_walk.specs.Turns.{TakesDue}
use Rattle.uf_pull.specs.Pulling.{LooksFor, due_at, stand}
use Rattle.uf_pull.specs.Reading.{pull_fault, stops_pull}
use Rattle.uf_pull.proofs.Pullings.{pulls-pulls, pulls-reads, pulls-saves}
use Rattle.uf_pull.proofs.Visiting.{held_taken, held_untaken, stopped_by, stopped_so, unasked}
use Rattle.uf_pull.proofs.Written.{part-none}
use Rattle.uf_pull.proofs.pulling.visit.Goals as goal

pub returns-in_err-is_held-clause-visits : goal.returns-in_err-is_held-clause-visits
returns-in_err-is_held-clause-visits g c = λ t bytes root is left on.
    let out = err_from_is_err_and c.from_residual.result c.from_residual.ensures.1 in
    let looks = c.in_err-is_held.ensures.looks in
    rw (out.1, out.2) (λ n. stopped_by c.in_err-is_held.field-0.0 (due_at g.S.X.BlockHash.block32 c.args.walk.now.most root (suc n) t (stand c.args.peer.now) bytes) (stand c.args.peer.now).place bytes t
    (g.S.Store.seen c.is_held.new.store).told (g.O.Sink.holds c.args.out.now) (g.O.Sink.holds c.args.out.now) (g.I.Source.left c.args.input.now) looks.1
    (stopped_so _ t _ _ _ (looks.0 ∙ is) (part-none _ _ _ refl)))

pub returns-in_err-take-clause-visits : goal.returns-in_err-take-clause-visits
returns-in_err-take-clause-visits g c = λ t bytes root is left on.
    let out = err_from_is_err_and c.from_residual-in_err-take.result c.from_residual-in_err-take.ensures.1 in
    let finds = subst (λ (b : Bool). LooksFor g.S.X.BlockHash.block32 c.args.cid.now (Ok b) (g.S.Store.seen c.args.store.now) (g.S.Store.seen c.is_held.new.store)) c.if-branch.true c.in_ok-is_held.ensures.looks in
    let held = subst (λ x. IfSome x (λ u. held_at u c.args.cid.now ≡ Some (g.S.Store.seen c.is_held.new.store).lent)) is finds.is_held ∙ ap Some (sym c.block.ensures) in
    let takes = subst (λ d. TakesDue d c.block.result.now (Err c.in_err-take.field-0.0) c.args.walk.now c.take.new.self) c.requires.due c.in_err-take.ensures in
    rw (out.1, out.2) (λ n. held_untaken g.S.X.BlockHash.block32 root c.args.cid.now c.args.walk.now t (stand c.args.peer.now) bytes on c.requires.due c.block.result.now held n c.in_err-take.field-0.0 c.take.new.self
    (g.S.Store.seen c.is_held.new.store).told (g.O.Sink.holds c.args.out.now) (g.O.Sink.holds c.args.out.now) (g.I.Source.left c.args.input.now) (finds.same_told ∙ is) refl takes left)

pub returns-then-branch-clause-visits : goal.returns-then-branch-clause-visits
returns-then-branch-clause-visits g c = λ t bytes root is left on.
    let finds = subst (λ (b : Bool). LooksFor g.S.X.BlockHash.block32 c.args.cid.now (Ok b) (g.S.Store.seen c.args.store.now) (g.S.Store.seen c.is_held.new.store)) c.if-branch.true c.in_ok-is_held.ensures.looks in
    let held = subst (λ x. IfSome x (λ u. held_at u c.args.cid.now ≡ Some (g.S.Store.seen c.is_held.new.store).lent)) is finds.is_held ∙ ap Some (sym c.block.ensures) in
    let takes = subst (λ d. TakesDue d c.block.result.now (Ok tt) c.args.walk.now c.take.new.self) c.requires.due c.in_ok-take.ensures in
    held_taken g.S.X.BlockHash.block32 root c.args.cid.now c.args.walk.now t (stand c.args.peer.now) bytes on c.requires.due c.block.result.now held c.take.new.self
    (g.S.Store.seen c.is_held.new.store).told (g.I.Source.left c.args.input.now) (g.O.Sink.holds c.args.out.now) (g.O.Sink.holds c.args.out.now) (finds.same_told ∙ is) left refl takes

pub returns-in_err-ask-clause-visits : goal.returns-in_err-ask-clause-visits
returns-in_err-ask-clause-visits g c = λ t bytes root is left on.
    let out = err_from_is_err_and c.from_residual-in_err-ask.result c.from_residual-in_err-ask.ensures.1 in
    let misses = subst (λ (b : Bool). LooksFor g.S.X.BlockHash.block32 c.args.cid.now (Ok b) (g.S.Store.seen c.args.store.now) (g.S.Store.seen c.is_held.new.store)) c.if-branch.false c.in_ok-is_held.ensures.looks in
    let none = subst (λ x. IfSome x (λ u. held_at u c.args.cid.now ≡ None)) is misses.not_held in
    let asks = c.in_err-ask.ensures.asks in
    rw (out.1, out.2) (λ n. unasked g.S.X.BlockHash.block32 root c.args.cid.now c.args.walk.now t (stand c.args.peer.now) bytes on c.requires.due none n c.in_err-ask.field-0.0
    (g.S.Store.seen c.is_held.new.store).told (g.O.Sink.holds c.args.out.now) (g.O.Sink.holds c.ask.new.out) (g.I.Source.left c.args.input.now) (ap stops_pull asks.0) (misses.stays.same_told ∙ is) asks.1)

pub returns-clause-pulls : goal.returns-clause-pulls
returns-clause-pulls g c =
    let misses = subst (λ (b : Bool). LooksFor g.S.X.BlockHash.block32 c.args.cid.now (Ok b) (g.S.Store.seen c.args.store.now) (g.S.Store.seen c.is_held.new.store)) c.if-branch.false c.in_ok-is_held.ensures.looks in
    pulls-pulls g.S.X.BlockHash.block32 (pull_fault c.fetch.result) (g.S.Store.seen c.args.store.now) (g.S.Store.seen c.is_held.new.store) (g.S.Store.seen c.fetch.new.store)
    (pulls-reads g.S.X.BlockHash.block32 None (g.S.Store.seen c.args.store.now) (g.S.Store.seen c.is_held.new.store) c.in_ok-is_held.ensures.cause misses.stays.same_told)
    (pulls-saves g.S.X.BlockHash.block32 (pull_fault c.fetch.result) (g.S.Store.seen c.is_held.new.store) (g.S.Store.seen c.fetch.new.store) c.fetch.ensures.saves)
