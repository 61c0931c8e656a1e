use Rattle.uf_host.proofs.Room.{split-at-none, split-at-some}
use Rattle.uf_host.proofs.paths.split_last.Goals as goal

pub returns-in-Some : goal.returns-in-Some
returns-in-Some c =
    let h = c.in-Some.ensures.cases in
    split-at-some c.args.path.now c.in-Some.front.now c.in-Some.last.now h.0 h.1 h.2.0 h.2.1 h.3 h.4 h.7

pub returns-in-None : goal.returns-in-None
returns-in-None c = split-at-none c.args.path.now c.in-None.ensures.cases
