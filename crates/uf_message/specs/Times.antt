-- The fields of a time taken one after the other, as a reader goes.
use Rattle.std.specs.Prelude.{ℕ, List, if◌then◌else◌, is_some}
use Rattle.std.specs.Option.{option_or}
use Rattle.std.specs.declared.option.Option.{Option}
use Rattle.std.specs.declared.option.Option.TheVariants.{None, Some}
use Rattle.std.specs.declared.result.Result.{Result}
use Rattle.std.specs.declared.result.Result.TheVariants.{Ok, Err}
use Rattle.uf_varint.specs.declared.fields.CutFault.{CutFault}
use Rattle.uf_varint.specs.Fields.{Content, Keyed}
use Rattle.uf_message.specs.Reading.{mtime_field_fault, number_of, nanos_of}
use Rattle.uf_message.specs.declared.seen.SeenTime.{SeenTime}

-- a field taken after what was seen, and the bytes that follow it, where it has no fault
abbrev pub time_took : ℕ → SeenTime → Result (Content × List ℕ) CutFault → Option (SeenTime × List ℕ)
time_took key seen (Ok c) =
    if is_some (mtime_field_fault (Keyed key (Ok c.0))) then None
    else Some (
      record {
        seconds = option_or (number_of 0x08 (Keyed key (Ok c.0))) seen.seconds;
        nanos = option_or (nanos_of (Keyed key (Ok c.0))) seen.nanos;
      },
      c.1,
    )
time_took key seen (Err f) = None
