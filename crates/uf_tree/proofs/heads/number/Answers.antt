use Rattle.std.proofs.Common.{◌∙◌, arith}
use Rattle.uf_tree.proofs.HeadLines.{number_no_text, number_unread, number_other, number_same}
use Rattle.uf_tree.proofs.heads.number.Goals as goal

pub returns-in-Err : goal.returns-in-Err
returns-in-Err c = number_no_text c.args.low c.args.high c.args.text.now (omega arith) c.in-Err.ensures.cases.0

pub returns-in-Err-parse : goal.returns-in-Err-parse
returns-in-Err-parse c = number_unread c.args.low c.args.high c.args.text.now c.in-Ok.spelled.now c.in-Err-parse.field-0 (omega arith) c.in-Ok.ensures.cases.0 c.in-Err-parse.ensures.value.0

pub returns-then-eq : goal.returns-then-eq
returns-then-eq c =
    number_same c.args.low c.args.high c.in-Ok-parse.number c.args.text.now c.as_bytes.result.now c.eq.result c.in_range.result (omega arith)
    (c.as_bytes.ensures.value ∙ c.in_ok-again-in-Ok-parse.ensures.ok) c.eq.ensures c.if-eq.true c.in_range.ensures

pub returns : goal.returns
returns c =
    number_other c.args.low c.args.high c.in-Ok-parse.number c.args.text.now c.in-Ok.spelled.now c.as_bytes.result.now c.parse.result c.eq.result (omega arith)
    c.in-Ok.ensures.cases.0 c.parse.ensures.value.0 c.in-Ok-parse.is (c.as_bytes.ensures.value ∙ c.in_ok-again-in-Ok-parse.ensures.ok) c.eq.ensures c.if-eq.false
