-- What a command leaves of the note of pins.
use Rattle.std.specs.Prelude.{◌≡◌, ℕ, List, IfSome, ⊤}
use Rattle.std.specs.declared.option.Option.{Option}
use Rattle.std.specs.declared.option.Option.TheVariants.{None, Some}
use Rattle.std.specs.declared.result.Result.{Result}
use Rattle.std.specs.declared.result.Result.TheVariants.{Ok, Err}
use Rattle.uf_pins.specs.Calls.{PinsBelow, Unpins}
use Rattle.uf_pins.specs.Notes.{IsBadNote}
use Rattle.uf_command.specs.Cars.{most_blocks}
use Rattle.uf_command.specs.declared.status.Status.{Status}
use Rattle.uf_command.specs.declared.status.Status.TheVariants as status
use Rattle.uf_command.specs.declared.types.Command.{Command}
use Rattle.uf_command.specs.declared.types.Command.TheVariants.{Pin}
use Rattle.uf_command.specs.declared.types.PinAsk.{PinAsk}
use Rattle.uf_command.specs.declared.types.PinAsk.TheVariants as pins
use Rattle.uf_command.specs.Statuses.{ended}
use Rattle.uf_command.specs.declared.types.Refusal.{Refusal}
use Rattle.uf_command.specs.declared.types.Refusal.TheVariants as refusal
use Rattle.uf_store.specs.Contents.{Told}

-- the text of the note of pins, where it is told and there
abbrev pub pins_in : Told → Option (List ℕ)
pins_in None = None
pins_in (Some t) = t.notes.pins

-- `pin add` that is done leaves a note that lists the CID too, all of which is below it being there and synced, and
-- `pin rm` one that doesn't list it; whatever else a command on pins ends with, the note stays
abbrev pub PinsLeft : PinAsk → Status → Told → Told → Type 0
PinsLeft (pins.Add cid) status.Ok before now = IfSome before (λ t. PinsBelow t most_blocks cid now)
PinsLeft (pins.Remove cid) status.Ok before now = IfSome before (λ t. Unpins t cid now)
PinsLeft ask given before now = pins_in now ≡ pins_in before

-- each other command leaves the note
abbrev pub PinsAfter : Result Command Refusal → Status → Told → Told → Type 0
PinsAfter (Ok (Pin ask)) given before now = PinsLeft ask given before now
PinsAfter asked given before now = pins_in now ≡ pins_in before

-- it is refused as not read only where it isn't
abbrev pub UnreadBy : Result (Unit {0}) Refusal → Told → Type 0
UnreadBy (Err refusal.BadPins) told = IfSome told (λ t. IsBadNote t.notes.pins)
UnreadBy done told = ⊤

-- what a command on pins finds and leaves of the note; of another command what it writes says that
abbrev pub PinsFor : Command → Result (Unit {0}) Refusal → Told → Told → Type 0
PinsFor (Pin ask) done before now = PinsLeft ask (ended done) before now × UnreadBy done before
PinsFor command done before now = ⊤
