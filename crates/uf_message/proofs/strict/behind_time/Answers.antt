use Rattle.std.proofs.Common.{◌≡◌, ℕ, ◌+◌, List, length, ◌∙◌, sym, ap}
use Rattle.std.specs.Int.{w64, cast_unsigned}
use Rattle.uf_varint.specs.Fields.{number_field}
use Rattle.uf_message.proofs.Fronts.{time_front}
use Rattle.uf_message.proofs.strict.behind_time.Goals as goal

pub returns-in-None : goal.returns-in-None
returns-in-None c =
    let seconds : c.as_slice-3.result.now ≡ number_field 0x08 (cast_unsigned w64 c.args.mtime.seconds) = c.as_slice-3.ensures ∙ c.seconds_field-seconds.ensures in
    let front = c.as_slice-2.ensures ∙ c.new-front.ensures ∙ ap (λ (xs : List ℕ). number_field 0x42 (length xs + c.nanos_len.result)) (c.as_slice.ensures ∙ sym c.as_slice-3.ensures) in
    time_front c.args.mtime c.as_slice-2.result.now c.as_slice-3.result.now c.args.bytes.now c.nanos_len.result _ seconds c.nanos_len.ensures front c.in-None.ensures

pub returns-in-Some : goal.returns-in-Some
returns-in-Some c =
    let seconds : c.as_slice-3.result.now ≡ number_field 0x08 (cast_unsigned w64 c.args.mtime.seconds) = c.as_slice-3.ensures ∙ c.seconds_field-seconds.ensures in
    let front = c.as_slice-2.ensures ∙ c.new-front.ensures ∙ ap (λ (xs : List ℕ). number_field 0x42 (length xs + c.nanos_len.result)) (c.as_slice.ensures ∙ sym c.as_slice-3.ensures) in
    c.behind_nanos.ensures ∙ time_front c.args.mtime c.as_slice-2.result.now c.as_slice-3.result.now c.args.bytes.now c.nanos_len.result _ seconds c.nanos_len.ensures front c.in-Some.ensures
