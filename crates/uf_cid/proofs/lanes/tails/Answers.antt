use Rattle.std.proofs.Common.{◌≡◌, ℕ, List, ◌+◌, ◌-◌, ◌*◌, length, take, drop, inl, inr, arith, sym, ap, subst, ◌∙◌}
use Rattle.std.proofs.lemmas.Bool.{cases_lt}
use Rattle.uf_cid.specs.Bytes.{piece}
use Rattle.uf_cid.specs.Lanes.{IsTail}
use Rattle.uf_cid.proofs.Messages.{length-piece, length-put_mid, part-at, part-below, tail_of}
use borrow.Rule.Slice.PartMut.{put_mid}
use Rattle.uf_cid.proofs.lanes.tails.Goals as goal

pub pieces-preserved : goal.pieces-preserved
pieces-preserved c =
    let d = c.args.bytes.now in
    let size = c.args.size in
    let i = c.pieces.i in
    let one = c.copy_from_slice.new.self in
    let now : List ℕ = put_mid (128 * i) (128 * i + 128 - 128 * i) c.pieces.out one in
    let wide : 128 * i + 128 - 128 * i ≡ 128 = omega arith in
    let width : i * size + size - i * size ≡ size = omega arith in
    let same : one ≡ c.tail-one.result = c.copy_from_slice.ensures.after in
    let long : length one ≡ 128 = omega (arith, c.copy_from_slice.ensures.len) in (
      length-put_mid (128 * i) (128 * i + 128 - 128 * i) c.pieces.out one (omega arith) (omega arith) ∙ c.pieces.invariant.0,
      λ j lt. elim (cases_lt j i) [
        | inl below ↦ subst (λ t. IsTail (piece d size j) size t)
            (sym (part-below c.pieces.out one (128 * i) (128 * i + 128 - 128 * i) (j * 128 + 0) 128 (omega arith) (omega arith)))
            (c.pieces.invariant.1 j below)
        | inr above ↦
            let e : i ≡ j = omega arith in
            let at : 128 * i ≡ j * 128 + 0 = omega arith in
            let written : take 128 (drop (j * 128 + 0) now) ≡ one =
            ap (λ p. take 128 (drop p now)) (sym at) ∙ part-at c.pieces.out one (128 * i) (128 * i + 128 - 128 * i) 128 long (omega arith) in
            subst (λ t. IsTail (piece d size j) size t) (sym (written ∙ same))
            (subst (λ k. IsTail (piece d size k) size c.tail-one.result) e
            (tail_of (piece d size i) _ c.tail-one.result size (ap (λ n. take n (drop (i * size) d)) width)
            (length-piece d size (omega arith) i (omega arith)) c.tail-one.ensures))
      ],
    )
