use Rattle.std.proofs.Common.{refl}
use Rattle.uf_mfs.specs.Standing.{Same}
use Rattle.uf_top.proofs.Givens.{entry-counts, entry-given, entry-shown}
use Rattle.uf_top.proofs.Plans.{file-kept}
use Rattle.uf_top.proofs.commands.add_to_files.read_input.Goals as goal

pub returns : goal.returns
returns g c =
    let X = g.S.X.BlockHash.block32 in let e = c.file_apart.ensures in let r = c.file_apart.result in let given = c.file_given.result in
    record {
      gives = λ N. entry-given X N c.args.profile (g.S.Store.seen c.file_apart.new.store).told (g.I.Source.left c.args.input.now) (g.I.Source.left c.file_apart.new.input) r given c.file_given.ensures e.file;
      no_other = file-kept X c.args.profile (g.S.Store.seen c.args.store.now).told (g.S.Store.seen c.file_apart.new.store).told (g.S.Store.seen c.file_apart.new.store).told (g.I.Source.left c.args.input.now) (g.I.Source.left c.file_apart.new.input) r e.no_other (Same refl);
      counts = entry-counts (g.I.Source.faults c.args.input.now) (g.I.Source.faults c.file_apart.new.input) r given c.file_given.ensures e.counts;
      saves = record {
        cause = entry-shown X (g.S.Store.seen c.args.store.now) (g.S.Store.seen c.file_apart.new.store) r given c.file_given.ensures e.cause;
        good = e.good;
        saves = e.saves;
      };
    }
