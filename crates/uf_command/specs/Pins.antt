-- Pins in commands: why a call on them is refused, and what is printed of them.
use Rattle.std.specs.Prelude.{◌≡◌, ℕ, List, [], ◌∷◌, codes, nat_le, if◌then◌else◌, false, true, IfSome}
use Rattle.std.specs.Fmt.{decimal}
use Rattle.std.specs.List.{flat_map}
use Rattle.std.specs.declared.option.Option.{Option}
use Rattle.std.specs.declared.option.Option.TheVariants.{None, Some}
use Rattle.std.specs.declared.result.Result.{Result}
use Rattle.std.specs.declared.result.Result.TheVariants.{Ok, Err}
use Rattle.uf_cid.specs.Blocks.{Lookup}
use Rattle.uf_cid.specs.Cid.{cid_text}
use Rattle.uf_cid.specs.declared.cid.Cid.{Cid}
use Rattle.uf_pins.specs.Calls.{others}
use Rattle.uf_pins.specs.Notes.{IsReadAs}
use Rattle.uf_pins.specs.Reach.{reach}
use Rattle.uf_pins.specs.declared.fault.PinFault.{PinFault}
use Rattle.uf_pins.specs.declared.fault.PinFault.TheVariants as fault
use Rattle.uf_store.specs.Contents.{Told}
use Rattle.uf_store.specs.Sweeping.{is_among}
use Rattle.uf_walk.specs.Order.{OrderFault}
use Rattle.uf_command.specs.Cars.{most_blocks, order_refusal}
use Rattle.uf_command.specs.Commands.{of_command}
use Rattle.uf_command.specs.Lines.{line}
use Rattle.uf_command.specs.Natures.{uses_pins}
use Rattle.uf_command.specs.declared.types.Command.{Command}
use Rattle.uf_command.specs.declared.types.DagRule.TheVariants as rule
use Rattle.uf_command.specs.declared.types.PinAsk.{PinAsk}
use Rattle.uf_command.specs.declared.types.PinAsk.TheVariants as pins
use Rattle.uf_command.specs.declared.types.Refusal.{Refusal}
use Rattle.uf_command.specs.declared.types.Refusal.TheVariants as refusal

-- a CID is pinned beside fewer others than this
abbrev pub most_pins : ℕ
most_pins = 65536

-- a fault of a call on pins, as a refusal
abbrev pub pin_refusal : PinFault → Refusal
pin_refusal fault.BadPins = refusal.BadPins
pin_refusal fault.TooManyPins = refusal.Dag rule.TooManyPins
pin_refusal (fault.NotPinned cid) = refusal.Dag (rule.NotPinned cid)
pin_refusal (fault.NotDagPb cid why) = refusal.Dag (rule.NotUnixfs cid why)
pin_refusal fault.TooMany = refusal.Dag rule.TooMany
pin_refusal (fault.Store f) = refusal.Store f

-- a CID in a line
abbrev pub cid_line : Cid → List ℕ
cid_line cid = line (cid_text cid) []

-- how many blocks a collection let go, in a line
abbrev pub removed_line : ℕ → List ℕ
removed_line count = line (codes "removed ") (decimal count)

-- a CID is pinned beside these where all below it is there, unless as many others are pinned as may be
abbrev pub pinning : Cid → List Cid → Result (List Cid) OrderFault → Result (List ℕ) Refusal
pinning cid listed (Ok below) =
    if nat_le most_pins (others cid listed) then Err (refusal.Dag rule.TooManyPins) else Ok []
pinning cid listed (Err why) = Err (order_refusal why)

-- what a command on pins prints or why it is refused, where the note lists these, or isn't read
abbrev pub pins_told : PinAsk → Lookup → Option (List Cid) → Result (List ℕ) Refusal
pins_told ask held None = Err refusal.BadPins
pins_told (pins.Add cid) held (Some listed) = pinning cid listed (reach held most_blocks (cid ∷ []))
pins_told (pins.Remove cid) held (Some listed) =
    if is_among listed cid then Ok [] else Err (refusal.Dag (rule.NotPinned cid))
pins_told pins.List held (Some listed) = Ok (flat_map cid_line listed)

-- where the command reads the note of pins, the store tells one that lists these, or that isn't read
abbrev pub HasPins : Result Command Refusal → Told → Option (List Cid) → Type 0
HasPins command told listed =
    of_command uses_pins false command ≡ true → IfSome told (λ t. IsReadAs t.notes.pins listed)
