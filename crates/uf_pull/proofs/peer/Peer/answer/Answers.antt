use Rattle.std.proofs.Common.{◌∙◌, refl}
use Rattle.std.proofs.lemmas.Result.{err_from_is_err_and}
use Rattle.uf_pull.proofs.Stepping.{answers_more, leaves_first, leaves_more, refused_more}
use Rattle.uf_pull.proofs.peer.Peer.answer.Goals as goal

pub rest-init : goal.rest-init
rest-init g c = record {
  leaves = λ bytes left. leaves_first g.X.BlockHash.block32 c.args.cid.now c.args.self.now bytes (g.I.Source.left c.args.input.now) left;
  place = c.requires.place;
  added = refl;
  source = refl;
}

pub returns-in-Some-clause-answers : goal.returns-in-Some-clause-answers
returns-in-Some-clause-answers g c = λ bytes left.
    let first = c.rest.invariant.leaves bytes left in
    answers_more g.X.BlockHash.block32 c.args.cid.now _ c.args.self.now.place bytes c.rest.self (g.I.Source.left c.rest.input) first c.in-Some.found c.step.new.self _ (g.I.Source.left c.step.new.input) refl refl refl
    (rw c.in-Some.is at (c.in_ok-found.ensures.steps first.uses.rest first.uses.left))

pub rest-preserved : goal.rest-preserved
rest-preserved g c =
    let inv = c.rest.invariant in
    let counted = rw c.in_default.is at c.in_ok-found.ensures.counted in
    record {
      leaves = λ bytes left.
          let first = inv.leaves bytes left in
          leaves_more g.X.BlockHash.block32 c.args.cid.now _ c.args.self.now.place bytes c.rest.self (g.I.Source.left c.rest.input) first c.step.new.self (g.I.Source.left c.step.new.input)
          (rw c.in_default.is at (c.in_ok-found.ensures.steps first.uses.rest first.uses.left));
      place = counted.2;
      added = counted.1 ∙ inv.added;
      source = c.in_ok-found.ensures.counts.still refl ∙ inv.source;
    }

pub returns-in_err-found-clause-answers : goal.returns-in_err-found-clause-answers
returns-in_err-found-clause-answers g c = λ bytes left.
    let out = err_from_is_err_and c.from_residual.result c.from_residual.ensures.1 in
    let first = c.rest.invariant.leaves bytes left in
    rw (out.1, out.2) (refused_more g.X.BlockHash.block32 c.args.cid.now _ c.args.self.now.place bytes c.rest.self (g.I.Source.left c.rest.input) first c.in_err-found.field-0.0 (g.I.Source.left c.step.new.input)
    (c.in_err-found.ensures.steps first.uses.rest first.uses.left))
