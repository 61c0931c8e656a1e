use Rattle.std.proofs.lemmas.Result.{err_from_is_err_and}
use Rattle.uf_car.proofs.Cars.{header_refused, sections_kept, sections_refused}
use Rattle.uf_car.proofs.importing.import_all.Goals as goal

pub returns-in_err-roots-clause-reads : goal.returns-in_err-roots-clause-reads
returns-in_err-roots-clause-reads g c = λ a e.
    let out = err_from_is_err_and c.from_residual.result c.from_residual.ensures.1 in
    rw (out.1, out.2) (header_refused g.S.X.BlockHash.block32 a.1 a.0 c.in_err-roots.field-0.0 _ c.in_err-roots.ensures.of_input (c.in_err-roots.ensures.says a e))

pub returns-in_err-blocks-clause-reads : goal.returns-in_err-blocks-clause-reads
returns-in_err-blocks-clause-reads g c = λ a e.
    let out = err_from_is_err_and c.from_residual-in_err-blocks.result c.from_residual-in_err-blocks.ensures.1 in
    rw (out.1, out.2) (sections_refused g.S.X.BlockHash.block32 a.1 a.0 c.in_ok-roots.roots c.in_ok-roots.place (c.in_ok-roots.ensures.says a e) _ _ c.in_err-blocks.field-0.0
    (c.in_err-blocks.ensures.reads _ (c.in_ok-roots.ensures.rest.rest a e)))

pub returns-clause-reads : goal.returns-clause-reads
returns-clause-reads g c = λ a e.
    sections_kept g.S.X.BlockHash.block32 a.1 a.0 c.in_ok-roots.roots c.in_ok-roots.place (c.in_ok-roots.ensures.says a e) _ _ c.in_ok-blocks.blocks
    (c.in_ok-blocks.ensures.reads _ (c.in_ok-roots.ensures.rest.rest a e))
