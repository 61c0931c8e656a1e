use Rattle.std.proofs.Common.{None, Ok, Err}
use Rattle.std.proofs.lemmas.Result.{err_from_is_err_and}
use Rattle.uf_top.proofs.Givens.{entry-counts, entry-row, entry-wants}
use Rattle.uf_top.proofs.commands.add.hash_by.Goals as goal

pub returns-in_err-given : goal.returns-in_err-given
returns-in_err-given g c =
    let out = err_from_is_err_and c.from_residual.result c.from_residual.ensures.1 in
    let e = c.hash_of.ensures in let r = c.hash_of.result in let why = c.in_err-given.field-0.0 in
    rw (out.1, out.2) (record {
      row = entry-row g.X.BlockHash.block32 c.args.profile None (g.I.Source.left c.args.input.now) (g.I.Source.left c.hash_of.new.input) r (Err why) c.in_err-given.ensures e.file;
      wants = entry-wants r (Err why) c.in_err-given.ensures e.wants;
      counts = entry-counts (g.I.Source.faults c.args.input.now) (g.I.Source.faults c.hash_of.new.input) r (Err why) c.in_err-given.ensures e.counts;
    })

pub returns : goal.returns
returns g c =
    let e = c.hash_of.ensures in let r = c.hash_of.result in let given = c.in_ok-given.given in
    record {
      row = entry-row g.X.BlockHash.block32 c.args.profile None (g.I.Source.left c.args.input.now) (g.I.Source.left c.hash_of.new.input) r (Ok given) c.in_ok-given.ensures e.file;
      wants = entry-wants r (Ok given) c.in_ok-given.ensures e.wants;
      counts = entry-counts (g.I.Source.faults c.args.input.now) (g.I.Source.faults c.hash_of.new.input) r (Ok given) c.in_ok-given.ensures e.counts;
    }
