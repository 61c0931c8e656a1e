use Rattle.std.proofs.lemmas.Result.{err_from_is_err_and}
use Rattle.uf_lenient.proofs.surveying.complete.Goals as goal

pub returns-in_err-read_gathered-clause-says : goal.returns-in_err-read_gathered-clause-says
returns-in_err-read_gathered-clause-says g c =
    let out = err_from_is_err_and c.from_residual-in_err-read_gathered.result c.from_residual-in_err-read_gathered.ensures.1 in rw (out.1, out.2) c.in_err-read_gathered.ensures.says
