use Rattle.uf_host.proofs.Texts.{none-behind, some-behind}
use Rattle.uf_host.proofs.paths.last_of.Goals as goal

pub returns-in-Some : goal.returns-in-Some
returns-in-Some c =
    let h = c.in-Some.ensures.cases in
    some-behind c.args.path.now c.in-Some.last.now h.0 h.1 h.2.0 h.2.1 h.4 h.7

pub returns-in-None : goal.returns-in-None
returns-in-None c = none-behind c.args.path.now c.in-None.ensures.cases
