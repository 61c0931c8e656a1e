-- What the strict reader answers.
use Rattle.std.specs.Prelude.{◌≡◌}
use Rattle.std.specs.declared.result.Result.{Result}
use Rattle.std.specs.declared.result.Result.TheVariants.{Ok, Err}
use Rattle.uf_cid.specs.declared.bytes.StrictFault.{StrictFault}
use Rattle.uf_cid.specs.declared.bytes.StrictFault.TheVariants.{NotCanonical, Memory}
use Rattle.uf_message.specs.declared.message.Message.{Message}
use Rattle.uf_message.specs.declared.message.MsgFault.{MsgFault}
use Rattle.uf_message.specs.declared.message.MsgFault.TheVariants as fault

-- this message, unless memory ran out
abbrev pub GivesValue : Result Message StrictFault → Message → Type 0
GivesValue (Ok m) value = m ≡ value
GivesValue (Err NotCanonical) value = ⊥
GivesValue (Err Memory) value = Unit {0}

-- why the strict reader refuses what the lenient one refuses
abbrev pub strict_fault : MsgFault → StrictFault
strict_fault fault.Memory = Memory
strict_fault fault.Truncated = NotCanonical
strict_fault fault.Varint = NotCanonical
strict_fault fault.Wire = NotCanonical
strict_fault fault.NoType = NotCanonical
strict_fault fault.UnknownType = NotCanonical
strict_fault fault.BadTime = NotCanonical
