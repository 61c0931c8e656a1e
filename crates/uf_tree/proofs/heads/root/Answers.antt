use Rattle.std.proofs.Common.{◌≡◌, ◌∙◌, ap, cond, sym, true, Bool, None, Some, rules}
use Rattle.uf_tree.proofs.HeadLines.{root_no_text, root_judged}
use Rattle.uf_tree.proofs.heads.root.Goals as goal

pub returns-in-Err : goal.returns-in-Err
returns-in-Err c = root_no_text c.args.text.now c.in-Err.ensures.cases.0

pub returns-then-eq : goal.returns-then-eq
returns-then-eq c =
    let node : c.is_node.result ≡ true = search rules in
    sym (ap (λ (t : Bool). cond t (Some c.in-Ok-parse.cid) None) c.if-eq.true)
    ∙ root_judged c.args.text.now c.in-Ok.spelled.now c.text.result c.as_slice.result.now c.in-Ok-parse.cid c.is_node.result c.eq.result c.in-Ok.ensures.cases.1 c.in-Ok.ensures.cases.0 c.in-Ok-parse.ensures
    c.is_node.ensures node c.text.ensures c.as_slice.ensures c.eq.ensures
