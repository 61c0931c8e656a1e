use Rattle.std.proofs.Common.{ap, refl, ◌∙◌}
use Rattle.std.proofs.lemmas.Result.{err_from_is_err_and}
use Rattle.uf_lenient.specs.Steps.{Rest}
use Rattle.uf_lenient.proofs.Coming.{come-fault, comes-next}
use Rattle.uf_lenient.proofs.Saying.{by-good}
use Rattle.uf_lenient.proofs.Visited.{visits-next}
use Rattle.uf_lenient.proofs.pieces.Pieces.read.Goals as goal

pub returns-in_err-bytes-clause-says : goal.returns-in_err-bytes-clause-says
returns-in_err-bytes-clause-says g c =
    let out = err_from_is_err_and c.from_residual.result c.from_residual.ensures.1 in rw (out.1, out.2) (by-good g.S.X.BlockHash.block32 (g.S.Store.seen c.args.store.now).told (λ held says. come-fault held c.args.self.now c.args.next.now c.self.inside.visits c.in_err-bytes.field-0.0 (ap (λ (r : Rest). r.1) c.self.view_is) c.requires.top says) c.in_err-bytes.ensures.says)

pub returns-clause-says : goal.returns-clause-says
returns-clause-says g c = by-good g.S.X.BlockHash.block32 (g.S.Store.seen c.args.store.now).told
    (λ held says. comes-next held c.args.self.now (c.self-2.inside.due, c.read_ahead.new.visits) c.args.next.now c.self.inside.visits c.in_ok-bytes.bytes c.in_ok-bytes.links c.read_ahead.new.visits (ap (λ (r : Rest). r.1) c.self.view_is) c.requires.top says
    (ap (λ (r : Rest). r.0) c.self-2.view_is ∙ c.in_ok-replace.ensures.ok) refl) c.in_ok-bytes.ensures.says

pub returns-clause-visits : goal.returns-clause-visits
returns-clause-visits g c = by-good g.S.X.BlockHash.block32 (g.S.Store.seen c.args.store.now).told
    (λ held says. visits-next held c.args.self.now (c.self-2.inside.due, c.read_ahead.new.visits) c.args.next.now c.self.inside.visits c.in_ok-bytes.bytes c.in_ok-bytes.links c.read_ahead.new.visits (ap (λ (r : Rest). r.1) c.self.view_is) c.requires.top says
    (ap (λ (r : Rest). r.0) c.self-2.view_is ∙ c.in_ok-replace.ensures.ok) refl) c.in_ok-bytes.ensures.says
