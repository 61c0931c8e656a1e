use Rattle.std.proofs.Common.{sym}
use Rattle.std.specs.declared.num.ParseIntError.{ParseIntError}
use Rattle.uf_words.proofs.Numerals.{number_read, number_refused}
use Rattle.uf_words.proofs.options.number.Goals as goal

pub returns-in-Ok : goal.returns-in-Ok
returns-in-Ok c = number_read ParseIntError c.args.word.now c.in-Ok.value (sym c.if-not-is_numeral_text.ensures) c.in-Ok.ensures.value.0

pub returns-in-Err : goal.returns-in-Err
returns-in-Err c = number_refused ParseIntError c.args.word.now c.in-Err.field-0 (sym c.if-not-is_numeral_text.ensures) c.in-Err.ensures.value.0
