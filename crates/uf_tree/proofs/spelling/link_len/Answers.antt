use Rattle.std.proofs.Common.{◌≡◌, ◌+◌, arith, length, refl}
use Rattle.uf_cid.specs.Cid.{cid_bytes}
use Rattle.uf_tree.proofs.Spelt.{two_pieces}
use Rattle.uf_tree.proofs.spelling.link_len.Goals as goal

pub returns : goal.returns
returns c =
    let size : length (cid_bytes c.args.entry.now.cid) ≡ 36 = search (arith, c.to_binary.ensures, c.to_binary.type_inv) in
    let whole = two_pieces c.args.front.now c.args.name.now c.args.entry.now 36 (length c.args.front.now + length c.args.name.now) c.width.result c.width-2.result size refl refl c.width.ensures.exact c.width-2.ensures.exact in
    omega (arith, whole)
