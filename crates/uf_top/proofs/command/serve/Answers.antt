use Rattle.std.proofs.Common.{◌≡◌, false, true, refl, sym, subst, ap, ◌∙◌, Ok}
use Rattle.std.proofs.lemmas.Result.{err_from_is_err_and}
use Rattle.std.specs.Prelude.{IfErr}
use Rattle.uf_command.specs.Commands.{IsAsked, of_command}
use Rattle.uf_command.specs.Natures.{IsOfCommand, NoStore, generates, own_store, reads_input, touches_nothing, uses_host}
use Rattle.uf_top.specs.Around.{around, host_side}
use Rattle.uf_top.specs.Working.{Serves}
use Rattle.uf_top.specs.Cars.{ByOwnStore}
use Rattle.uf_top.proofs.Serving.{asked-kinds, asked-spare, words-serve}
use Rattle.uf_top.proofs.command.serve.Goals as goal

pub returns-in_err-command-clause-serves : goal.returns-in_err-command-clause-serves
returns-in_err-command-clause-serves g c = λ told h er er2.
    let out = err_from_is_err_and c.from_residual.result c.from_residual.ensures.1 in
    rw (out.1, out.2) (words-serve g.S.X.BlockHash.block32 g.N.NameHash.name64
    (around (g.S.Store.seen c.args.store.now) (g.I.Source.left c.args.input.now) (g.I.Source.faults c.args.input.now) (g.O.Sink.holds c.args.output.now) (g.O.Sink.faults c.args.output.now) c.args.touches.now (host_side (g.W.Host.tree c.args.host.now) (g.W.Host.read_faults c.args.host.now) (g.W.Host.write_faults c.args.host.now)) er) er2
    told c.in_err-command.field-0.0 (subst (λ asked. IsAsked asked told) c.in_err-command.was h))

pub returns-clause-serves : goal.returns-clause-serves
returns-clause-serves g c = λ told h er er2.
    let e : told ≡ Ok c.in_ok-command.command = subst (λ asked. IsAsked asked told) c.in_ok-command.was h in
    subst (λ asked. Serves g.S.X.BlockHash.block32 g.N.NameHash.name64 asked c.work.result
    (around (g.S.Store.seen c.args.store.now) (g.I.Source.left c.args.input.now) (g.I.Source.faults c.args.input.now) (g.O.Sink.holds c.args.output.now) (g.O.Sink.faults c.args.output.now) c.args.touches.now (host_side (g.W.Host.tree c.args.host.now) (g.W.Host.read_faults c.args.host.now) (g.W.Host.write_faults c.args.host.now)) er)
    (around (g.S.Store.seen c.work.new.store) (g.I.Source.left c.work.new.input) (g.I.Source.faults c.work.new.input) (g.O.Sink.holds c.work.new.output) (g.O.Sink.faults c.work.new.output) c.work.new.touches (host_side (g.W.Host.tree c.work.new.host) (g.W.Host.read_faults c.work.new.host) (g.W.Host.write_faults c.work.new.host)) er2))
    (sym e) (c.work.ensures.does er er2)

pub returns-in_err-command-clause-own : goal.returns-in_err-command-clause-own
returns-in_err-command-clause-own g c = λ told h words.
    let out = err_from_is_err_and c.from_residual.result c.from_residual.ensures.1 in
    rw (out.1, out.2) (asked-spare g.S.X.BlockHash.block32 (g.I.Source.left c.args.input.now) (g.S.Store.seen c.args.store.now) (of_command own_store NoStore told) c.in_err-command.field-0.0 told words
    (subst (λ asked. IsAsked asked told) c.in_err-command.was h))

pub returns-clause-own : goal.returns-clause-own
returns-clause-own g c = λ told h words.
    let e : told ≡ Ok c.in_ok-command.command = subst (λ asked. IsAsked asked told) c.in_ok-command.was h in
    subst (λ asked. IfErr c.work.result (ByOwnStore g.S.X.BlockHash.block32 (of_command own_store NoStore asked) (g.I.Source.left c.args.input.now) (g.S.Store.seen c.args.store.now) (g.S.Store.seen c.work.new.store)))
    (sym e) c.work.ensures.own

pub returns-in_err-command-clause-kinds : goal.returns-in_err-command-clause-kinds
returns-in_err-command-clause-kinds g c = λ told h.
    let out = err_from_is_err_and c.from_residual.result c.from_residual.ensures.1 in
    rw (out.1, out.2) (asked-kinds told c.in_err-command.field-0.0 (subst (λ asked. IsAsked asked told) c.in_err-command.was h))

pub returns-clause-kinds : goal.returns-clause-kinds
returns-clause-kinds g c = λ told h.
    let e : told ≡ Ok c.in_ok-command.command = subst (λ asked. IsAsked asked told) c.in_ok-command.was h in
    subst (λ asked. IsOfCommand asked c.work.result) (sym e) c.work.ensures.kinds

pub returns-in_err-command-clause-spares : goal.returns-in_err-command-clause-spares
returns-in_err-command-clause-spares g c = λ told h. record { left = λ is. refl; input = λ is. refl; host = λ is. refl; untouched = λ is. refl }

pub returns-clause-spares : goal.returns-clause-spares
returns-clause-spares g c = λ told h.
    let e : told ≡ Ok c.in_ok-command.command = subst (λ asked. IsAsked asked told) c.in_ok-command.was h in
    let s = c.work.ensures.spares in
    record {
      left = λ is. s.left (ap (of_command generates true) (sym e) ∙ is);
      input = λ is. s.input (ap (of_command reads_input false) (sym e) ∙ is);
      host = λ is. s.host (ap (of_command uses_host false) (sym e) ∙ is);
      untouched = λ is. s.untouched (ap (of_command touches_nothing true) (sym e) ∙ is);
    }
