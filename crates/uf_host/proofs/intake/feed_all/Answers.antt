use Rattle.std.proofs.Common.{refl, subst, ◌∙◌}
use Rattle.std.proofs.lemmas.Result.{err_from_is_err_and}
use Rattle.uf_edge.specs.Host.{HostTold}
use Rattle.uf_store.proofs.Calls.{saves-saves}
use Rattle.uf_host.specs.Faults.{IsSaidOr}
use Rattle.uf_host.specs.Reading.{IsLongFile, StopsNext, TakesNext}
use Rattle.uf_host.proofs.Takings.{front-all, front-next, front-stops}
use Rattle.uf_host.proofs.intake.feed_all.Goals as goal

pub returns-in_err-count-clause-reads_all : goal.returns-in_err-count-clause-reads_all
returns-in_err-count-clause-reads_all g c =
    let out = err_from_is_err_and c.from_residual.result c.from_residual.ensures.1 in
    let front = c.pieces.invariant.front in
    rw (out.1, out.2) (subst (λ (h : HostTold). IsSaidOr (IsLongFile c.args.builder.now.profile h c.args.path.now) c.in_err-count.field-0.0) c.pieces.invariant.told
    (c.in_err-count.ensures.reads_next c.args.builder.now.profile front.bytes front.taken front.size))

pub returns-in_err-count-clause-saves : goal.returns-in_err-count-clause-saves
returns-in_err-count-clause-saves g c =
    let out = err_from_is_err_and c.from_residual.result c.from_residual.ensures.1 in
    rw (out.1, out.2) (saves-saves c.pieces.invariant.saves c.in_err-count.ensures.saves)

pub returns-then-count-eq0-clause-reads_all : goal.returns-then-count-eq0-clause-reads_all
returns-then-count-eq0-clause-reads_all g c =
    let X = g.S.X.BlockHash.block32 in let p = c.args.builder.now.profile in let front = c.pieces.invariant.front in
    front-all X p (g.S.Store.seen c.args.store.now).told (g.S.Store.seen c.pieces.store).told (g.S.Store.seen c.feed_next.new.store).told (g.W.Host.tree c.args.host.now) c.args.path.now c.pieces.builder c.feed_next.new.builder c.pieces.offset c.in_ok-count.count front c.if-count-eq0.true
    (subst (λ (h : HostTold). TakesNext X p (g.S.Store.seen c.pieces.store).told (g.S.Store.seen c.feed_next.new.store).told h c.args.path.now front.bytes c.feed_next.new.builder c.in_ok-count.count) c.pieces.invariant.told
    (c.in_ok-count.ensures.reads_next p front.bytes front.taken front.size))

pub returns-then-count-eq0-clause-saves : goal.returns-then-count-eq0-clause-saves
returns-then-count-eq0-clause-saves g c = saves-saves c.pieces.invariant.saves c.in_ok-count.ensures.saves

pub pieces-preserved : goal.pieces-preserved
pieces-preserved g c =
    let X = g.S.X.BlockHash.block32 in let p = c.args.builder.now.profile in let front = c.pieces.invariant.front in
    record {
      front = front-next X p (g.S.Store.seen c.args.store.now).told (g.S.Store.seen c.pieces.store).told (g.S.Store.seen c.feed_next.new.store).told (g.W.Host.tree c.args.host.now) c.args.path.now c.pieces.builder c.feed_next.new.builder c.pieces.offset c.in_ok-count.count front
          (subst (λ (h : HostTold). TakesNext X p (g.S.Store.seen c.pieces.store).told (g.S.Store.seen c.feed_next.new.store).told h c.args.path.now front.bytes c.feed_next.new.builder c.in_ok-count.count) c.pieces.invariant.told
          (c.in_ok-count.ensures.reads_next p front.bytes front.taken front.size));
      saves = saves-saves c.pieces.invariant.saves c.in_ok-count.ensures.saves;
      told = c.in_ok-count.ensures.told ∙ c.pieces.invariant.told;
      reads = c.in_ok-count.ensures.reads.still refl ∙ c.pieces.invariant.reads;
      writes = c.in_ok-count.ensures.writes ∙ c.pieces.invariant.writes;
    }

pub returns-in_err-count-clause-no_other : goal.returns-in_err-count-clause-no_other
returns-in_err-count-clause-no_other g c =
    let X = g.S.X.BlockHash.block32 in let p = c.args.builder.now.profile in let front = c.pieces.invariant.front in
    let told = (g.S.Store.seen c.pieces.store).told in let now = (g.S.Store.seen c.feed_next.new.store).told in
    let out = err_from_is_err_and c.from_residual.result c.from_residual.ensures.1 in
    rw out.1 (front-stops X p (g.S.Store.seen c.args.store.now).told told now (g.W.Host.tree c.args.host.now) c.args.path.now c.pieces.builder c.pieces.offset c.requires.file front
    (subst (λ (h : HostTold). StopsNext X p told now h c.args.path.now front.bytes) c.pieces.invariant.told
    (c.in_err-count.ensures.no_other p front.bytes front.taken front.size)))
