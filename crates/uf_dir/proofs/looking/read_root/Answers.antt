use Rattle.std.proofs.Common.{ℕ, ◌^◌, ◌<◌, List, length, arith, subst, sym}
use Rattle.std.proofs.lemmas.Result.{err_from_is_err_and}
use Rattle.uf_dir.specs.Roots.{ReadsRoot}
use Rattle.uf_dir.proofs.Roots.{unread-node}
use Rattle.uf_dir.proofs.looking.read_root.Goals as goal

pub returns-in_err-node-clause-reads : goal.returns-in_err-node-clause-reads
returns-in_err-node-clause-reads c =
    let out = err_from_is_err_and c.from_residual.result c.from_residual.ensures.1 in
    rw (out.1, out.2) (unread-node c.args.profile c.args.bytes.now c.in_err-node.field-0.0 c.in_err-node.ensures)

pub root_of_node-requires-clause-short : goal.root_of_node-requires-clause-short
root_of_node-requires-clause-short c = subst (λ (b : List ℕ). length b < 2 ^ 64) c.in_ok-node.ensures.1 (omega arith)

pub returns-clause-reads : goal.returns-clause-reads
returns-clause-reads c = subst (λ (b : List ℕ). ReadsRoot c.args.profile b c.root_of_node.result) (sym c.in_ok-node.ensures.1) c.root_of_node.ensures.reads
