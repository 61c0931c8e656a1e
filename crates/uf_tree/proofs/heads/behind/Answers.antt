use Rattle.std.proofs.Common.{◌≡◌, true, false, rules}
use Rattle.uf_tree.proofs.HeadLines.{behind_short, behind_there, behind_other}
use Rattle.uf_tree.proofs.heads.behind.Goals as goal

pub returns-then-bytes-word : goal.returns-then-bytes-word
returns-then-bytes-word c = behind_short c.args.word.now c.args.bytes.now c.if-bytes-word.true

pub returns-then-eq : goal.returns-then-eq
returns-then-eq c =
    let holds : c.eq.result ≡ true = search rules in
    behind_there c.args.word.now c.args.bytes.now c.split_at.result.0.now c.split_at.result.1.now c.eq.result c.split_at.ensures.front c.split_at.ensures.back c.eq.ensures holds

pub returns-else-eq : goal.returns-else-eq
returns-else-eq c =
    let fails : c.eq.result ≡ false = search rules in
    behind_other c.args.word.now c.args.bytes.now c.split_at.result.0.now c.eq.result c.split_at.ensures.front c.eq.ensures fails
