use Rattle.std.proofs.Common.{subst}
use Rattle.uf_top.specs.Light.{EndsLight}
use Rattle.uf_top.proofs.commands.prove.check_input.Goals as goal

pub returns : goal.returns
returns g c =
    let said = c.check-done.ensures in
    record {
      answer = c.check-done.result;
      checks = record { opens = said.opens; tree = said.tree; accepts = said.accepts; front = said.prefix; some = said.some; first = said.first; root_section = said.root; line = said.line; shown = said.shown; own = said.own; reads = said.read; writes = said.sent };
      ends = subst (λ names. EndsLight names c.check-done.result c.end.result) c.as_slice.ensures c.end.ensures;
    }
