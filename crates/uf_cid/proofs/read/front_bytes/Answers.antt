use Rattle.std.proofs.Common.{◌≡◌, ℕ, ◌<◌, ◌-◌, true, false, Some, get_or, ap, sym, ◌∙◌, arith}
use Rattle.uf_cid.specs.Read.{value_of}
use Rattle.uf_cid.proofs.Letters.{cast_fits, next_bits, next_byte, next_passed, ends}
use Rattle.uf_cid.proofs.read.front_bytes.Goals as goal
use Rattle.uf_cid.proofs.read.front_bytes.Goals.{then-held-lt3, else-held-lt3+then-len-lt37, else-held-lt3+else-len-lt37}

pub overflow_cast-bytes-then-len-lt37 : goal.overflow_cast-bytes-then-len-lt37
overflow_cast-bytes-then-len-lt37 c = record { fits = cast_fits c.loop-letter.held c.loop-letter.bits c.from.result c.if-held-lt3.false c.loop-letter.invariant.few c.loop-letter.invariant.small (omega (arith, c.in_ok-value.ensures.below)) }

pub loop-letter-preserved : goal.loop-letter-preserved
loop-letter-preserved c =
    let at = c.loop-letter in
    let v = c.in_ok-value.value in
    let told = c.in_ok-value.ensures in
    let is : value_of c.args.first (get_or c.args.letters.now at.letter-index 0) ≡ Some c.from.result = sym told.value ∙ ap (λ (n : ℕ). Some n) (sym c.from.ensures) in
    let small : c.from.result < 32 = omega (arith, told.below) in
    elim c.if-held-lt3.branch [
      | then-held-lt3 w ↦ rw (w.bytes-is, w.len-is, w.bits-is, w.held-is) (next_bits c.args.first c.args.letters.now at.bytes at.letter-index at.len at.bits at.held c.from.result at.invariant c.loop-letter-test.true is small w.if-held-lt3.true)
      | else-held-lt3+then-len-lt37 w ↦ rw (w.bytes-is, w.len-is, w.bits-is, w.held-is) (next_byte c.args.first c.args.letters.now at.bytes at.letter-index at.len at.bits at.held (at.held - 3) c.from.result at.invariant c.loop-letter-test.true is small (omega arith) w.if-len-lt37.true)
      | else-held-lt3+else-len-lt37 w ↦ rw (w.bytes-is, w.len-is, w.bits-is, w.held-is) (next_passed c.args.first c.args.letters.now at.bytes at.letter-index at.len at.bits at.held (at.held - 3) c.from.result at.invariant c.loop-letter-test.true is small (omega arith) w.if-len-lt37.false)
    ]

pub returns-then-is_padding-clause-bytes : goal.returns-then-is_padding-clause-bytes
returns-then-is_padding-clause-bytes c =
    let at = c.loop-letter in
    sym (ends c.args.first c.args.letters.now at.bytes at.letter-index at.len at.bits at.held true at.invariant c.loop-letter-test.false (sym c.if-is_padding.ensures))

pub returns-else-is_padding-clause-bytes : goal.returns-else-is_padding-clause-bytes
returns-else-is_padding-clause-bytes c =
    let at = c.loop-letter in
    sym (ends c.args.first c.args.letters.now at.bytes at.letter-index at.len at.bits at.held false at.invariant c.loop-letter-test.false (sym c.if-is_padding.ensures))
