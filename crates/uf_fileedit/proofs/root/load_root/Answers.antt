use Rattle.std.proofs.Common.{◌≡◌, ℕ, List, Some, subst, sym, rules}
use Rattle.std.proofs.lemmas.Result.{err_from_is_err_and}
use Rattle.std.specs.Prelude.{IfSome}
use Rattle.uf_store.specs.Contents.{held_at}
use Rattle.uf_fileedit.proofs.Roots.{root-missed, says-gives, says-lost}
use Rattle.uf_fileedit.proofs.root.load_root.Goals as goal

pub returns-in_err-need-clause-gives : goal.returns-in_err-need-clause-gives
returns-in_err-need-clause-gives g c = (
  search rules,
  (λ p m b height is agrees stood.
      let out = err_from_is_err_and c.from_residual.result c.from_residual.ensures.1 in rw (out.1, out.2) (root-missed g.S.X.BlockHash.block32 (record { size = g.met.S.X.BlockHash.size; are_bytes = g.met.S.X.BlockHash.are_bytes }) p m b c.args.entry.now.cid height is (g.S.Store.seen c.args.store.now) (g.S.Store.seen c.need.new.store) c.in_err-need.field-0.0
      c.in_err-need.ensures.cause c.in_err-need.ensures.fault c.in_err-need.ensures.told stood)),
)

pub returns-clause-gives : goal.returns-clause-gives
returns-clause-gives g c = (
  (λ p m b height is agrees.
      says-gives g.S.X.BlockHash.block32 (record { size = g.met.S.X.BlockHash.size; are_bytes = g.met.S.X.BlockHash.are_bytes }) p m b c.args.entry.now.cid height is (g.S.Store.seen c.args.store.now).told c.block.result.now agrees (subst (λ (l : List ℕ). IfSome (g.S.Store.seen c.args.store.now).told (λ t. held_at t c.args.entry.now.cid ≡ Some l)) (sym c.block.ensures) c.in_ok-need.ensures.found.is_held) c.root_in.result c.root_in.ensures.says),
  (λ p m b height is agrees stood.
      says-lost g.S.X.BlockHash.block32 (record { size = g.met.S.X.BlockHash.size; are_bytes = g.met.S.X.BlockHash.are_bytes }) p m b c.args.entry.now.cid height is (g.S.Store.seen c.args.store.now).told c.block.result.now agrees (subst (λ (l : List ℕ). IfSome (g.S.Store.seen c.args.store.now).told (λ t. held_at t c.args.entry.now.cid ≡ Some l)) (sym c.block.ensures) c.in_ok-need.ensures.found.is_held) c.root_in.result c.root_in.ensures.says),
)
