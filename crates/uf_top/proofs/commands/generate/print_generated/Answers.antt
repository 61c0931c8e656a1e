use Rattle.std.proofs.lemmas.Result.{err_from_is_err_and}
use Rattle.uf_top.proofs.TreePrinted.{cut-own, generated-does, refused-own, ungenerated-does}
use Rattle.uf_top.proofs.commands.generate.print_generated.Goals as goal

pub returns-in_err-text : goal.returns-in_err-text
returns-in_err-text g c =
    let out = err_from_is_err_and c.from_residual.result c.from_residual.ensures.1 in
    rw (out.1, out.2) (record {
      does = λ seen touches left reads side er er2.
          ungenerated-does g.X.BlockHash.block32 g.N.NameHash.name64 c.args.n c.args.seed seen left reads touches (g.O.Sink.holds c.args.output.now) (g.O.Sink.faults c.args.output.now) side er er2 c.in_err-text.field-0.0 c.in_err-text.ensures;
      own = λ seen left. refused-own g.X.BlockHash.block32 g.N.NameHash.name64 c.args.n c.args.seed left seen seen c.in_err-text.field-0.0 c.in_err-text.ensures;
    })

pub returns : goal.returns
returns g c = record {
  does = λ seen touches left reads side er er2.
      generated-does g.X.BlockHash.block32 g.N.NameHash.name64 c.args.n c.args.seed seen left reads touches (g.O.Sink.holds c.args.output.now) (g.O.Sink.faults c.args.output.now) side er er2
      c.in_ok-text.text c.in_ok-text.ensures (g.O.Sink.holds c.print.new.output) (g.O.Sink.faults c.print.new.output) c.print.result c.print.ensures;
  own = λ seen left.
      cut-own g.X.BlockHash.block32 left seen seen c.in_ok-text.text (g.O.Sink.holds c.args.output.now) (g.O.Sink.holds c.print.new.output) (g.O.Sink.faults c.args.output.now) (g.O.Sink.faults c.print.new.output)
      c.print.result c.print.ensures;
}
