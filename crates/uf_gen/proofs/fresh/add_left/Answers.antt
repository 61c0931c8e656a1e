use Rattle.std.proofs.Common.{◌∙◌, ap, arith, length}
use Rattle.uf_gen.proofs.Left.{few-last}
use Rattle.uf_gen.proofs.Saving.{left-saves}
use Rattle.uf_gen.proofs.fresh.add_left.Goals as goal

pub file_entry-requires-clause-few : goal.file_entry-requires-clause-few
file_entry-requires-clause-few g c =
    omega (arith, ap length (c.as_slice.ensures ∙ c.in_ok-bytes.ensures), few-last c.args.seed c.args.i)

pub returns-in_err-entry-clause-no_other : goal.returns-in_err-entry-clause-no_other
returns-in_err-entry-clause-no_other g c =
    left-saves g.S.X.BlockHash.block32 c.args.p.now c.args.seed c.args.i c.as_slice.result.now (g.S.Store.seen c.args.store.now).told (g.S.Store.seen c.file_entry.new.store).told
    c.if-i-eq0.false (c.as_slice.ensures ∙ c.in_ok-bytes.ensures) c.file_entry.ensures.no_other

pub returns-in_err-push-clause-no_other : goal.returns-in_err-push-clause-no_other
returns-in_err-push-clause-no_other g c =
    left-saves g.S.X.BlockHash.block32 c.args.p.now c.args.seed c.args.i c.as_slice.result.now (g.S.Store.seen c.args.store.now).told (g.S.Store.seen c.file_entry.new.store).told
    c.if-i-eq0.false (c.as_slice.ensures ∙ c.in_ok-bytes.ensures) c.file_entry.ensures.no_other

pub returns-clause-no_other : goal.returns-clause-no_other
returns-clause-no_other g c =
    left-saves g.S.X.BlockHash.block32 c.args.p.now c.args.seed c.args.i c.as_slice.result.now (g.S.Store.seen c.args.store.now).told (g.S.Store.seen c.file_entry.new.store).told
    c.if-i-eq0.false (c.as_slice.ensures ∙ c.in_ok-bytes.ensures) c.file_entry.ensures.no_other
