use Rattle.std.proofs.Common.{refl, ap, sym, ◌∙◌, ◌++◌, take, List, ℕ, arith}
use Rattle.uf_varint.specs.Varint.{varint}
use Rattle.uf_varint.proofs.Loops.{put_ends, put_len, put_goes_on, put_behind, put_below, put_done, written_ends}
use Rattle.uf_varint.proofs.varint.put.Goals as goal

pub loop-i-init : goal.loop-i-init
unfolding varint
loop-i-init c = record { spelled = refl; behind = refl; below = omega arith }

pub loop-i-preserved : goal.loop-i-preserved
loop-i-preserved c = record {
  spelled = put_goes_on c.loop-i.out _ c.loop-i.i c.loop-i.rest c.loop-i-test.true (omega arith) c.if-rest-lt128.false c.loop-i.invariant.spelled;
  behind = put_behind _ c.loop-i.out c.loop-i.i _ c.loop-i.invariant.behind;
  below = put_below c.loop-i.i c.loop-i.rest c.loop-i-test.true c.loop-i.invariant.below;
}

pub returns-then-rest-lt128-clause-spelled : goal.returns-then-rest-lt128-clause-spelled
returns-then-rest-lt128-clause-spelled c = put_ends _ c.loop-i.out _ c.loop-i.i c.loop-i.rest (omega arith) (ap (λ (xs : List ℕ). take c.loop-i.i c.loop-i.out ++ xs) (sym (written_ends c.loop-i.i c.loop-i.rest c.loop-i-test.true c.if-rest-lt128.true)) ∙ c.loop-i.invariant.spelled) c.loop-i.invariant.behind

pub returns-then-rest-lt128-clause-len : goal.returns-then-rest-lt128-clause-len
returns-then-rest-lt128-clause-len c = put_len c.loop-i.out _ c.loop-i.i c.loop-i.rest (omega arith) (ap (λ (xs : List ℕ). take c.loop-i.i c.loop-i.out ++ xs) (sym (written_ends c.loop-i.i c.loop-i.rest c.loop-i-test.true c.if-rest-lt128.true)) ∙ c.loop-i.invariant.spelled)

pub returns-clause-spelled : goal.returns-clause-spelled
returns-clause-spelled c = (put_done c.args.out.now c.loop-i.out _ c.loop-i.i c.loop-i.rest (omega arith) c.loop-i-test.false (omega arith) c.loop-i.invariant.spelled c.loop-i.invariant.behind).0

pub returns-clause-len : goal.returns-clause-len
returns-clause-len c = (put_done c.args.out.now c.loop-i.out _ c.loop-i.i c.loop-i.rest (omega arith) c.loop-i-test.false (omega arith) c.loop-i.invariant.spelled c.loop-i.invariant.behind).1
