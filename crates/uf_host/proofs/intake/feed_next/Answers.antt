use Rattle.std.proofs.Common.{ℕ, List, refl, subst, take}
use Rattle.std.proofs.lemmas.Result.{err_from_is_err_and}
use Rattle.uf_edge.specs.Host.{ReadsAt}
use Rattle.uf_edge.specs.declared.host.Fetched.TheVariants.{Got}
use Rattle.uf_host.proofs.Takings.{next-long, next-none, next-stops, next-taken, piece-saves}
use Rattle.uf_host.proofs.intake.feed_next.Goals as goal

pub returns-in_err-feed_piece-in-Got-clause-reads_next : goal.returns-in_err-feed_piece-in-Got-clause-reads_next
returns-in_err-feed_piece-in-Got-clause-reads_next g c = λ p bytes taken at.
    let out = err_from_is_err_and c.from_residual.result c.from_residual.ensures.1 in
    rw (out.1, out.2) (next-long g.S.X.BlockHash.block32 p (g.W.Host.tree c.args.host.now) c.args.path.now bytes c.read_at.new.buf (take c.in-Got.count c.read_at.new.buf) c.args.offset c.in-Got.count c.in_err-feed_piece-in-Got.field-0.0 at refl (subst (λ (q : List ℕ). ReadsAt (Got c.in-Got.count) c.args.offset c.read_at.new.buf (g.W.Host.tree c.args.host.now) q) c.as_str.ensures c.in-Got.ensures.bytes) (c.in_err-feed_piece-in-Got.ensures.takes p bytes taken))

pub returns-in_ok-feed_piece-in-Got-clause-reads_next : goal.returns-in_ok-feed_piece-in-Got-clause-reads_next
returns-in_ok-feed_piece-in-Got-clause-reads_next g c = λ p bytes taken at.
    let X = g.S.X.BlockHash.block32 in let before = (g.S.Store.seen c.args.store.now).told in let now = (g.S.Store.seen c.feed_piece.new.store).told in
    next-taken X p before now (g.W.Host.tree c.args.host.now) c.args.path.now bytes c.read_at.new.buf (take c.in-Got.count c.read_at.new.buf) c.args.offset c.in-Got.count c.feed_piece.new.builder at refl (subst (λ (q : List ℕ). ReadsAt (Got c.in-Got.count) c.args.offset c.read_at.new.buf (g.W.Host.tree c.args.host.now) q) c.as_str.ensures c.in-Got.ensures.bytes)
    (c.in_ok-feed_piece-in-Got.ensures.takes p bytes taken) (piece-saves X p before before now bytes (take c.in-Got.count c.read_at.new.buf) c.args.builder.now taken c.feed_piece.ensures.no_other)

pub returns-in_err-feed_piece-in-Got-clause-no_other : goal.returns-in_err-feed_piece-in-Got-clause-no_other
returns-in_err-feed_piece-in-Got-clause-no_other g c =
    let X = g.S.X.BlockHash.block32 in let before = (g.S.Store.seen c.args.store.now).told in let now = (g.S.Store.seen c.feed_piece.new.store).told in
    let out = err_from_is_err_and c.from_residual.result c.from_residual.ensures.1 in
    rw out.1 (λ p bytes taken at. next-stops X p before now (g.W.Host.tree c.args.host.now) c.args.path.now bytes c.read_at.new.buf (take c.in-Got.count c.read_at.new.buf) c.args.offset c.in-Got.count at refl (subst (λ (q : List ℕ). ReadsAt (Got c.in-Got.count) c.args.offset c.read_at.new.buf (g.W.Host.tree c.args.host.now) q) c.as_str.ensures c.in-Got.ensures.bytes)
    (piece-saves X p before before now bytes (take c.in-Got.count c.read_at.new.buf) c.args.builder.now taken c.feed_piece.ensures.no_other))

pub returns-in-Failed-clause-no_other : goal.returns-in-Failed-clause-no_other
returns-in-Failed-clause-no_other g c = λ p bytes taken at. next-none g.S.X.BlockHash.block32 p (g.S.Store.seen c.args.store.now).told (g.W.Host.tree c.args.host.now) c.args.path.now bytes

pub returns-in-Memory-clause-no_other : goal.returns-in-Memory-clause-no_other
returns-in-Memory-clause-no_other g c = λ p bytes taken at. next-none g.S.X.BlockHash.block32 p (g.S.Store.seen c.args.store.now).told (g.W.Host.tree c.args.host.now) c.args.path.now bytes
