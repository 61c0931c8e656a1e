use Rattle.std.proofs.Common.{arith, subst, sym, ◌∙◌}
use Rattle.std.proofs.lemmas.Result.{err_from_is_err_and}
use Rattle.uf_store.proofs.Causes.{StaysCalm-trans}
use Rattle.uf_dir.specs.Bad.{IsBadRoot}
use Rattle.uf_store.specs.Faults.{fault_in}
use Rattle.uf_store.specs.Lost.{IsLossOf}
use Rattle.uf_plain.specs.Needs.{root_of}
use Rattle.uf_mfs.specs.Standing.{IsAgreed}
use Rattle.uf_store.proofs.Calls.{shown-rises}
use Rattle.uf_store.proofs.Calls.{stood-back, stood-front}
use Rattle.uf_mfs.proofs.Counting.{counts-then}
use Rattle.uf_mfs.proofs.Membering.{all-rows, none-more, one-more}
use Rattle.uf_mfs.proofs.listing.rows_from.Goals as goal

pub returns-in_err-push_row-clause-rows : goal.returns-in_err-push_row-clause-rows
returns-in_err-push_row-clause-rows g c = λ p k h stood.
    let X = g.S.X.BlockHash.block32 in let N = g.N.NameHash.name64 in
    let a = g.S.Store.seen c.args.store.now in let b = g.S.Store.seen c.loop-pair.store in let d = g.S.Store.seen c.push_row.new.store in
    let back = stood-back a.faults b.faults d.faults c.loop-pair.invariant.calm.faults stood in
    let out = err_from_is_err_and c.from_residual.result c.from_residual.ensures.1 in
    rw (out.1, out.2) (none-more X N p a.told c.args.pairs.now k c.loop-pair.pair-index c.pair-item.result c.in_err-push_row.field-0.0 h c.loop-pair-test.true c.pair-item.is
    (λ t s. subst (λ told. IsLossOf told (root_of X N p t) c.in_err-push_row.field-0.0) c.loop-pair.invariant.told (c.in_err-push_row.ensures.pushed p t (subst (λ told. IsAgreed X N told p c.pair-item.result.1 t) (sym c.loop-pair.invariant.told) s) back)))

pub loop-pair-preserved : goal.loop-pair-preserved
loop-pair-preserved g c =
    let X = g.S.X.BlockHash.block32 in let N = g.N.NameHash.name64 in
    let a = g.S.Store.seen c.args.store.now in let b = g.S.Store.seen c.loop-pair.store in let d = g.S.Store.seen c.push_row.new.store in
    record {
      rows = λ p k h stood.
          let front = stood-front a.faults b.faults d.faults c.loop-pair.invariant.calm.faults (shown-rises X IsBadRoot (fault_in c.push_row.result) b d c.push_row.ensures.reads.cause).faults stood in
          let back = stood-back a.faults b.faults d.faults c.loop-pair.invariant.calm.faults stood in
          one-more X N p a.told c.args.pairs.now k c.loop-pair.pair-index c.pair-item.result c.loop-pair.rows c.push_row.new.rows h c.loop-pair-test.true c.pair-item.is (c.loop-pair.invariant.rows p k h front)
          (λ t s. c.in_ok-push_row.ensures.pushed p t (subst (λ told. IsAgreed X N told p c.pair-item.result.1 t) (sym c.loop-pair.invariant.told) s) back);
      calm = StaysCalm-trans _ _ _ c.loop-pair.invariant.calm c.in_ok-push_row.ensures.reads.cause;
      touched = counts-then c.loop-pair.invariant.touched c.in_ok-push_row.ensures.touched;
      touches = (let was = c.loop-pair.invariant.touches in let more = c.in_ok-push_row.ensures.touches in omega (arith, was, more));
      told = c.in_ok-push_row.ensures.reads.told ∙ c.loop-pair.invariant.told;
    }

pub returns-clause-rows : goal.returns-clause-rows
returns-clause-rows g c = λ p k h stood.
    let X = g.S.X.BlockHash.block32 in let N = g.N.NameHash.name64 in
    all-rows X N p (g.S.Store.seen c.args.store.now).told c.args.pairs.now k c.loop-pair.pair-index c.loop-pair.rows h c.loop-pair-test.false (c.loop-pair.invariant.rows p k h stood)

pub returns-in_err-push_row-clause-touched : goal.returns-in_err-push_row-clause-touched
returns-in_err-push_row-clause-touched g c =
    let out = err_from_is_err_and c.from_residual.result c.from_residual.ensures.1 in
    rw (out.1, out.2) (counts-then c.loop-pair.invariant.touched c.in_err-push_row.ensures.touched)
