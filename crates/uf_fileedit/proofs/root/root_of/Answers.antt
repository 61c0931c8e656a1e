use Rattle.std.proofs.Common.{◌≡◌, ℕ, List, Err, Some, subst, sym, ◌∙◌, rules}
use Rattle.std.specs.Prelude.{IfSome}
use Rattle.std.proofs.lemmas.Bool.{false≢true}
use Rattle.std.proofs.lemmas.Result.{err_from_is_err_and}
use Rattle.uf_store.specs.Contents.{held_at}
use Rattle.uf_fileedit.proofs.Blames.{root-bad, root-stands, root-unread}
use Rattle.uf_fileedit.proofs.Roots.{root-is-laid, root-is-over, root-missed, says-lost}
use Rattle.uf_fileedit.proofs.Ways.{root-good}
use Rattle.uf_fileedit.proofs.root.root_of.Goals as goal

pub returns-in_err-need-clause-gives : goal.returns-in_err-need-clause-gives
returns-in_err-need-clause-gives g c = (
  search rules,
  (λ m b height is agrees stood.
      let out = err_from_is_err_and c.from_residual.result c.from_residual.ensures.1 in rw (out.1, out.2) (root-missed g.S.X.BlockHash.block32 (record { size = g.met.S.X.BlockHash.size; are_bytes = g.met.S.X.BlockHash.are_bytes }) c.args.p.now m b c.args.entry.now.cid height is (g.S.Store.seen c.args.store.now) (g.S.Store.seen c.need.new.store) c.in_err-need.field-0.0
      c.in_err-need.ensures.cause c.in_err-need.ensures.fault c.in_err-need.ensures.told stood)),
)

pub returns-in_err-root-clause-gives : goal.returns-in_err-root-clause-gives
returns-in_err-root-clause-gives g c = (
  search rules,
  (λ m b height is agrees stood.
      let out = err_from_is_err_and c.from_residual-in_err-root.result c.from_residual-in_err-root.ensures.1 in rw (out.1, out.2) (says-lost g.S.X.BlockHash.block32 (record { size = g.met.S.X.BlockHash.size; are_bytes = g.met.S.X.BlockHash.are_bytes }) c.args.p.now m b c.args.entry.now.cid height is (g.S.Store.seen c.args.store.now).told c.block.result.now agrees (subst (λ (l : List ℕ). IfSome (g.S.Store.seen c.args.store.now).told (λ t. held_at t c.args.entry.now.cid ≡ Some l)) (sym c.block.ensures) c.in_ok-need.ensures.found.is_held) (Err c.in_err-root.field-0.0) c.in_err-root.ensures.says)),
)

pub returns-in_err-root-clause-reads : goal.returns-in_err-root-clause-reads
returns-in_err-root-clause-reads g c = (
  (let out = err_from_is_err_and c.from_residual-in_err-root.result c.from_residual-in_err-root.ensures.1 in rw (out.1, out.2) (root-unread g.S.X.BlockHash.block32 c.args.p.now c.args.entry.now.cid c.block.result.now (g.S.Store.seen c.args.store.now) (g.S.Store.seen c.need.new.store) c.in_err-root.field-0.0
      c.in_ok-need.ensures.found c.in_ok-need.ensures.cause c.block.ensures c.in_err-root.ensures.says)),
  search rules,
)

pub returns-then-is_laid_out-clause-good : goal.returns-then-is_laid_out-clause-good
returns-then-is_laid_out-clause-good g c = root-good c.args.entry.now.cid.codec c.args.entry.now.cid c.block.result.now c.in_ok-root.root c.in_ok-root.ensures.says

pub returns-then-is_laid_out-clause-gives : goal.returns-then-is_laid_out-clause-gives
returns-then-is_laid_out-clause-gives g c = (
  (λ m b height is agrees.
      root-is-over g.S.X.BlockHash.block32 (record { size = g.met.S.X.BlockHash.size; are_bytes = g.met.S.X.BlockHash.are_bytes }) c.args.p.now m b c.args.entry.now.cid height is (g.S.Store.seen c.args.store.now).told c.block.result.now agrees (subst (λ (l : List ℕ). IfSome (g.S.Store.seen c.args.store.now).told (λ t. held_at t c.args.entry.now.cid ≡ Some l)) (sym c.block.ensures) c.in_ok-need.ensures.found.is_held) c.in_ok-root.root c.in_ok-root.ensures.says),
  search rules,
)

pub returns-then-is_laid_out-clause-stand : goal.returns-then-is_laid_out-clause-stand
returns-then-is_laid_out-clause-stand g c = root-stands g.S.X.BlockHash.block32 c.args.p.now c.requires.profile c.args.entry.now.cid c.block.result.now c.in_ok-root.root (g.S.Store.seen c.args.store.now) (g.S.Store.seen c.need.new.store) c.in_ok-need.ensures.found c.block.ensures c.in_ok-root.ensures.says
    (c.is_laid_out.ensures.0 c.if-is_laid_out.true)

pub returns-else-is_laid_out-clause-gives : goal.returns-else-is_laid_out-clause-gives
returns-else-is_laid_out-clause-gives g c = (
  search rules,
  (λ m b height is agrees stood.
      root-is-laid g.S.X.BlockHash.block32 (record { size = g.met.S.X.BlockHash.size; are_bytes = g.met.S.X.BlockHash.are_bytes }) c.args.p.now m b c.args.entry.now.cid height is (g.S.Store.seen c.args.store.now).told c.block.result.now agrees (subst (λ (l : List ℕ). IfSome (g.S.Store.seen c.args.store.now).told (λ t. held_at t c.args.entry.now.cid ≡ Some l)) (sym c.block.ensures) c.in_ok-need.ensures.found.is_held) c.in_ok-root.root c.in_ok-root.ensures.says (λ laid. false≢true (sym c.if-is_laid_out.false ∙ c.is_laid_out.ensures.1 laid))),
)

pub returns-else-is_laid_out-clause-reads : goal.returns-else-is_laid_out-clause-reads
returns-else-is_laid_out-clause-reads g c = (
  (root-bad g.S.X.BlockHash.block32 c.args.p.now c.requires.profile c.args.entry.now.cid c.role_of.result c.block.result.now c.in_ok-root.root (g.S.Store.seen c.args.store.now) (g.S.Store.seen c.need.new.store) c.role_of.ensures c.in_ok-need.ensures.found c.in_ok-need.ensures.cause c.block.ensures
      c.in_ok-root.ensures.says (λ laid. false≢true (sym c.if-is_laid_out.false ∙ c.is_laid_out.ensures.1 laid))),
  search rules,
)
