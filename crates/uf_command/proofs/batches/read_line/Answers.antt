use Rattle.std.proofs.Common.{◌≡◌, ◌∙◌, ◌<◌, Err, ap, arith, false, length, map, string_bytes, sym, vec_len}
use Rattle.std.proofs.lemmas.Bool.Decides.{nat_tests}
use Rattle.std.proofs.lemmas.List.{length-map}
use Rattle.std.specs.Prelude.{◌==◌}
use Rattle.uf_command.proofs.LineWords.{asks-no-texts, asks-words}
use Rattle.uf_command.proofs.batches.read_line.Goals as goal

pub returns-in-Ok-2-clause-asked : goal.returns-in-Ok-2-clause-asked
returns-in-Ok-2-clause-asked c =
    let words = c.deref.result.now in
    let empty : (vec_len c.in-Ok.words == 0) ≡ false = sym c.is_empty.ensures ∙ c.if-is_empty.false in
    let size : length (map string_bytes words) ≡ vec_len c.in-Ok.words = length-map words string_bytes ∙ c.deref.ensures.len in
    let some : 0 < length (map string_bytes words) = grind (arith, nat_tests, size, empty) in
    asks-words c.args.line.now (map string_bytes words) c.read_in_batch.result (ap (map string_bytes) c.deref.ensures.value ∙ c.in-Ok.ensures.words) c.in-Ok.ensures.text some c.read_in_batch.ensures.asked

pub returns-in-Err-Usage-clause-asked : goal.returns-in-Err-Usage-clause-asked
returns-in-Err-Usage-clause-asked c = asks-no-texts c.args.line.now (c.split_line.ensures.usage (c.in-Err-Usage.is ∙ ap Err c.in-Err-Usage.field-0-is))
