use Rattle.std.proofs.Common.{◌≡◌, length, arith}
use Rattle.uf_cid.proofs.Again.{is_whole}
use Rattle.uf_cid.proofs.laws.cids_are_whole.Goals as goal

pub returns : goal.returns
returns c =
    let made = c.to_binary.result in
    let size : length made ≡ 36 = omega arith in
    is_whole c.args.cid.now made c.to_binary.ensures size c.slices_hold_bytes.ensures
