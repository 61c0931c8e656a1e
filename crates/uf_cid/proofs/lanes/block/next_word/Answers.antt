use Rattle.std.proofs.Common.{◌≡◌, ◌+◌, ◌%◌, arith, refl}
use Rattle.uf_cid.proofs.LaneLemmas.{word_in}
use Rattle.uf_cid.proofs.lanes.block.next_word.Goals as goal

pub returns : goal.returns
returns c = record {
  value = λ j h.
      let at : c.args.place % 16 ≡ c.args.place = omega arith in
      let w14 = word_in c.args.w.now j ((c.args.place + 14) % 16) (omega arith) in
      let w9 = word_in c.args.w.now j ((c.args.place + 9) % 16) (omega arith) in
      let w1 = word_in c.args.w.now j ((c.args.place + 1) % 16) (omega arith) in
      let w0 = word_in c.args.w.now j c.args.place (omega arith) in
      rw (at, w14, w9, w1, w0, c.add-word.ensures j h, c.add-2.ensures j h, c.add.ensures j h, c.small_sigma1.ensures j h, c.small_sigma0.ensures j h) refl;
  window = refl;
}
