use Rattle.std.proofs.Common.{List, ap, subst, ◌∙◌, sym, Result, Err, ◌≡◌, ℕ, rules}
use Rattle.std.specs.Prelude.{IfSome, Some}
use Rattle.uf_store.specs.Contents.{held_at}
use Rattle.uf_cid.specs.declared.bytes.StrictFault.{StrictFault}
use Rattle.uf_tree.specs.Codecs.{Reads}
use Rattle.uf_fileread.specs.Parts.{parts_block}
use Rattle.uf_fileread.specs.declared.node_parts.NodeParts.{NodeParts}
use Rattle.uf_fileedit.specs.Planned.{IsPlannedNode}
use Rattle.std.proofs.lemmas.Result.{err_from_is_err_and}
use Rattle.uf_fileedit.proofs.Blames.{load-bad, load-stands}
use Rattle.uf_fileedit.proofs.Old.{load-gives, load-lost, load-no_bad}
use Rattle.uf_fileedit.proofs.nodes.load_parts.Goals as goal

pub returns-in_err-need-clause-gives : goal.returns-in_err-need-clause-gives
returns-in_err-need-clause-gives g c = (
  search rules,
  (λ b low is agrees stood.
      let out = err_from_is_err_and c.from_residual.result c.from_residual.ensures.1 in rw (out.1, out.2) (load-lost g.S.X.BlockHash.block32 (record { size = g.met.S.X.BlockHash.size; are_bytes = g.met.S.X.BlockHash.are_bytes }) c.args.p.now c.requires.profile c.args.height c.args.part.now b is (g.S.Store.seen c.args.store.now) (g.S.Store.seen c.need.new.store) c.in_err-need.field-0.0
      c.in_err-need.ensures.cause c.in_err-need.ensures.fault c.in_err-need.ensures.told stood)),
)

pub returns-in-Ok-clause-gives : goal.returns-in-Ok-clause-gives
returns-in-Ok-clause-gives g c = (
  (λ b is agrees.
      load-gives g.S.X.BlockHash.block32 (record { size = g.met.S.X.BlockHash.size; are_bytes = g.met.S.X.BlockHash.are_bytes }) c.args.p.now c.requires.profile c.args.height c.args.part.now b is c.args.rows (g.S.Store.seen c.args.store.now).told c.block.result.now c.in-Ok.node agrees
      (subst (λ (l : List ℕ). IfSome (g.S.Store.seen c.args.store.now).told (λ t. held_at t c.args.part.now.entry.cid ≡ Some l)) (sym c.block.ensures) c.in_ok-need.ensures.found.is_held) c.in-Ok.ensures),
  search rules,
)

pub returns-in-Err-NotCanonical-clause-gives : goal.returns-in-Err-NotCanonical-clause-gives
returns-in-Err-NotCanonical-clause-gives g c = (
  search rules,
  (λ b low is agrees stood.
      load-no_bad g.S.X.BlockHash.block32 (record { size = g.met.S.X.BlockHash.size; are_bytes = g.met.S.X.BlockHash.are_bytes }) c.args.p.now c.requires.profile c.args.height c.args.part.now b is c.args.rows (g.S.Store.seen c.args.store.now).told c.block.result.now low agrees
      (subst (λ (l : List ℕ). IfSome (g.S.Store.seen c.args.store.now).told (λ t. held_at t c.args.part.now.entry.cid ≡ Some l)) (sym c.block.ensures) c.in_ok-need.ensures.found.is_held)
      (subst (λ (r : Result NodeParts StrictFault). Reads (IsPlannedNode c.args.p.now c.args.rows c.args.height c.args.part.now.size) parts_block c.block.result.now r) (c.in-Err-NotCanonical.is ∙ ap (λ (f : StrictFault). Err f) c.in-Err-NotCanonical.field-0-is) c.read_planned.ensures)),
)

pub returns-in-Err-NotCanonical-clause-reads : goal.returns-in-Err-NotCanonical-clause-reads
returns-in-Err-NotCanonical-clause-reads g c = (
  (load-bad g.S.X.BlockHash.block32 c.args.p.now c.requires.profile c.args.rows c.args.height c.args.part.now c.block.result.now (g.S.Store.seen c.args.store.now) (g.S.Store.seen c.need.new.store) c.in_ok-need.ensures.found c.in_ok-need.ensures.cause c.block.ensures
      (subst (λ (r : Result NodeParts StrictFault). Reads (IsPlannedNode c.args.p.now c.args.rows c.args.height c.args.part.now.size) parts_block c.block.result.now r) (c.in-Err-NotCanonical.is ∙ ap (λ (f : StrictFault). Err f) c.in-Err-NotCanonical.field-0-is) c.read_planned.ensures)),
  search rules,
)

pub returns-in-Ok-clause-stand : goal.returns-in-Ok-clause-stand
returns-in-Ok-clause-stand g c = load-stands g.S.X.BlockHash.block32 c.args.p.now c.requires.profile c.args.rows c.args.height c.args.part.now c.in-Ok.node c.block.result.now (g.S.Store.seen c.args.store.now) (g.S.Store.seen c.need.new.store) c.in_ok-need.ensures.found c.block.ensures c.in-Ok.ensures
