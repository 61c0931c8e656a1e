use Rattle.std.proofs.Common.{◌∙◌, refl, false}
use Rattle.uf_message.specs.Spelling.{message_bytes}
use Rattle.uf_message.proofs.Fronts.{decides, message_parts}
use Rattle.uf_message.proofs.strict.is_canonical.Goals as goal

pub returns-in-None : goal.returns-in-None
returns-in-None c = decides false (message_bytes c.args.message.now) c.args.bytes.now _ (c.in-None.ensures ∙ message_parts c.args.message.now c.args.bytes.now) refl

pub returns-in-Some : goal.returns-in-Some
returns-in-Some c = decides c.is_empty.result (message_bytes c.args.message.now) c.args.bytes.now _ (c.in-Some.ensures ∙ message_parts c.args.message.now c.args.bytes.now) c.is_empty.ensures
