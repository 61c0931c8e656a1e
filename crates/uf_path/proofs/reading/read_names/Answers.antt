use Rattle.std.proofs.Common.{rules}
use Rattle.std.proofs.lemmas.Result.{err_from_is_err_and}
use Rattle.uf_path.specs.Paths.{names_in, parts}
use Rattle.uf_path.proofs.Parts.{hands_on, reading_goes_on, reading_fails, reading_ends, reading_fails_last}
use Rattle.uf_path.proofs.reading.read_names.Goals as goal

pub returns-in_err-put_part : goal.returns-in_err-put_part
returns-in_err-put_part c =
    let exit = err_from_is_err_and c.from_residual.result c.from_residual.ensures.1 in
    let at = c.loop-part in
    hands_on _ (names_in c.args.start (parts c.args.text.now)) _ exit
    (reading_fails c.args.start c.args.text.now at.names at.at at.rest.now (c.in-Some.part, c.in-Some.after) _ at.invariant.1 c.in-Some.ensures.cases c.in_err-put_part.ensures)

pub loop-part-preserved : goal.loop-part-preserved
loop-part-preserved c =
    let found = c.in_ok-put_part.ensures in
    let at = c.loop-part in
    let next = reading_goes_on c.args.start c.args.text.now at.names at.at at.rest.now (c.in-Some.part, c.in-Some.after) found.0 at.invariant.1 c.in-Some.ensures.cases found.1 in
    rw found.2 (search rules, next)

pub returns-in_err-put_part-2 : goal.returns-in_err-put_part-2
returns-in_err-put_part-2 c =
    let exit = err_from_is_err_and c.from_residual-in_err-put_part-2.result c.from_residual-in_err-put_part-2.ensures.1 in
    let at = c.loop-part in
    hands_on _ (names_in c.args.start (parts c.args.text.now)) _ exit
    (reading_fails_last c.args.start c.args.text.now at.names at.at at.rest.now _ at.invariant.1 c.in_default.ensures.cases c.in_err-put_part-2.ensures)

pub returns : goal.returns
returns c =
    let found = c.in_ok-put_part-2.ensures in
    let at = c.loop-part in
    rw found.2 (reading_ends _ _ _ _ _ found.0 at.invariant.1 c.in_default.ensures.cases found.1)
