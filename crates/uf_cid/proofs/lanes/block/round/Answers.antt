use Rattle.std.proofs.Common.{refl}
use Rattle.std.proofs.lemmas.Simd.{get_or-replicate}
use Rattle.uf_cid.proofs.lanes.block.round.Goals as goal

pub returns : goal.returns
returns c j h =
    rw (
      c.add-4.ensures j h,
      c.add-5.ensures j h,
      c.add-temp1.ensures j h,
      c.add-temp2.ensures j h,
      c.add-3.ensures j h,
      c.add-2.ensures j h,
      c.add.ensures j h,
      get_or-replicate 8 j c.args.k 0 h,
      c.ch.ensures j h,
      c.maj.ensures j h,
      c.big_sigma0.ensures j h,
      c.big_sigma1.ensures j h,
    ) refl
