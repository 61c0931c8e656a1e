use Rattle.std.proofs.Common.{ℕ, ◌^◌, ◌<◌, List, length, arith, subst, sym}
use Rattle.std.proofs.lemmas.Result.{err_from_is_err_and}
use Rattle.uf_dir.specs.Roots.{TellsKind}
use Rattle.uf_dir.proofs.Roots.{unread-any}
use Rattle.uf_dir.proofs.looking.kind_by.Goals as goal

pub returns-in_err-node : goal.returns-in_err-node
returns-in_err-node c =
    let out = err_from_is_err_and c.from_residual.result c.from_residual.ensures.1 in
    rw (out.1, out.2) (unread-any c.args.bytes.now c.in_err-node.field-0.0 c.in_err-node.ensures)

pub kind_of_node-requires-clause-short : goal.kind_of_node-requires-clause-short
kind_of_node-requires-clause-short c = subst (λ (b : List ℕ). length b < 2 ^ 64) c.in_ok-node.ensures.1 (omega arith)

pub returns : goal.returns
returns c = subst (λ (b : List ℕ). TellsKind b c.kind_of_node.result) (sym c.in_ok-node.ensures.1) c.kind_of_node.ensures
