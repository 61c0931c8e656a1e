use Rattle.std.proofs.Common.{ap, ◌∙◌, length, List, ℕ, rules}
use Rattle.uf_fileedit.specs.Changes.{overlaid}
use Rattle.std.proofs.lemmas.Result.{err_from_is_err_and}
use Rattle.uf_fileedit.proofs.Blames.{leaf-bad}
use Rattle.uf_fileedit.proofs.Steps.{over-bytes, over-lost, over-no_bad}
use Rattle.uf_fileedit.proofs.leaves.over_block.Goals as goal

pub returns-in_err-need-clause-lost : goal.returns-in_err-need-clause-lost
returns-in_err-need-clause-lost g c = λ p b is before now stood.
    let out = err_from_is_err_and c.from_residual.result c.from_residual.ensures.1 in rw (out.1, out.2) (over-lost g.S.X.BlockHash.block32 p (g.S.Store.seen c.args.store.now) (g.S.Store.seen c.need.new.store) c.args.part.now b c.in_err-need.field-0.0 is c.in_err-need.ensures.cause c.in_err-need.ensures.fault c.in_err-need.ensures.told stood)

pub returns-then-block-part-clause-lost : goal.returns-then-block-part-clause-lost
returns-then-block-part-clause-lost g c = λ p b is before now stood. over-no_bad g.S.X.BlockHash.block32 p (g.S.Store.seen c.args.store.now).told c.args.part.now b (g.S.Store.seen c.need.new.store).lent is before c.in_ok-need.ensures.found.is_held
    (λ e. c.if-block-part.true (ap (λ (l : List ℕ). length l) c.block-block.ensures ∙ e))

pub returns-then-block-part-clause-reads : goal.returns-then-block-part-clause-reads
returns-then-block-part-clause-reads g c = (
  (λ p rows. leaf-bad g.S.X.BlockHash.block32 p rows c.args.part.now c.block-block.result.now (g.S.Store.seen c.args.store.now) (g.S.Store.seen c.need.new.store) c.in_ok-need.ensures.found c.in_ok-need.ensures.cause c.block-block.ensures c.if-block-part.true),
  search rules,
)

pub returns-clause-bytes : goal.returns-clause-bytes
returns-clause-bytes g c = λ p b is before now. over-bytes g.S.X.BlockHash.block32 p (g.S.Store.seen c.args.store.now).told c.args.part.now b (g.S.Store.seen c.need.new.store).lent c.in_ok-laid_over.field-0.items c.args.piece.now c.args.size c.args.offset is before c.in_ok-need.ensures.found.is_held
    (c.in_ok-laid_over.ensures.bytes ∙ ap (λ (l : List ℕ). overlaid c.args.size l c.args.offset c.args.piece.now) c.block-block.ensures)
