use Rattle.std.proofs.Common.{take, length}
use Rattle.std.specs.Prelude.{nat_lt}
use Rattle.uf_car.proofs.Cars.{at_first}
use Rattle.uf_car.proofs.importing.import.Goals as goal

pub returns-clause-reads : goal.returns-clause-reads
returns-clause-reads g c = λ bytes is.
    c.import_all.ensures.reads (take c.args.limit bytes, nat_lt c.args.limit (length bytes))
    (at_first c.in_ok-window.window c.args.limit _ bytes c.in_ok-window.ensures.bytes c.in_ok-window.ensures.room c.in_ok-window.ensures.supply is)
