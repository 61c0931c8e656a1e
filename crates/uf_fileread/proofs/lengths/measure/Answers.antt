use Rattle.std.proofs.lemmas.Result.{err_from_is_err_and}
use Rattle.std.proofs.Common.{subst, List, ℕ}
use Rattle.uf_fileread.specs.Sizes.{SaysSize}
use Rattle.uf_fileread.proofs.Rooted.{found, not_found}
use Rattle.uf_fileread.proofs.lengths.measure.Goals as goal

pub returns-in_err-need-clause-value : goal.returns-in_err-need-clause-value
returns-in_err-need-clause-value g c p m bytes root is agrees stood =
    let out = err_from_is_err_and c.from_residual.result c.from_residual.ensures.1 in rw (out.1, out.2) (not_found g.S.X.BlockHash.block32 (record { size = g.met.S.X.BlockHash.size; are_bytes = g.met.S.X.BlockHash.are_bytes }) p m bytes c.args.entry.now.cid root is (g.S.Store.seen c.args.store.now) (g.S.Store.seen c.need.new.store) c.in_err-need.field-0.0 c.in_err-need.ensures.cause c.in_err-need.ensures.fault c.need.ensures.told agrees stood)

pub returns-clause-value : goal.returns-clause-value
returns-clause-value g c p m bytes root is agrees stood =
    found g.S.X.BlockHash.block32 (record { size = g.met.S.X.BlockHash.size; are_bytes = g.met.S.X.BlockHash.are_bytes }) p m bytes c.args.entry.now.cid root is (g.S.Store.seen c.args.store.now).told (g.S.Store.seen c.need.new.store).lent c.size_of.result agrees c.in_ok-need.ensures.found.is_held (subst (λ (b : List ℕ). SaysSize c.args.entry.now.cid b c.size_of.result) c.block.ensures c.size_of.ensures)
