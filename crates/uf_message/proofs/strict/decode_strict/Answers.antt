use Rattle.std.proofs.Common.{Err, sym, ap, subst, ◌∙◌}
use Rattle.uf_cid.specs.declared.bytes.StrictFault.{StrictFault}
use Rattle.uf_message.specs.Spelling.{message_bytes}
use Rattle.uf_message.specs.Strict.{GivesValue}
use Rattle.uf_message.proofs.Again.{read_is, refuses}
use Rattle.uf_message.proofs.strict.decode_strict.Goals as goal

pub returns-in-Err-clause-only : goal.returns-in-Err-clause-only
returns-in-Err-clause-only c = λ m h e. subst (λ (why : StrictFault). GivesValue (Err why) m) (sym c.refused.ensures) (refuses c.in-Err.why c.args.bytes.now m c.in-Err.ensures h e)

pub returns-then-is_canonical-clause-only : goal.returns-then-is_canonical-clause-only
returns-then-is_canonical-clause-only c = λ m h e. read_is c.args.bytes.now c.in-Ok.message m c.in-Ok.ensures h e

pub returns-else-is_canonical-clause-only : goal.returns-else-is_canonical-clause-only
returns-else-is_canonical-clause-only c =
    λ m h e. c.if-is_canonical.ensures (e ∙ ap message_bytes (sym (read_is c.args.bytes.now c.in-Ok.message m c.in-Ok.ensures h e)))
