use Rattle.uf_tree.proofs.Bitfields.{byte_is}
use Rattle.uf_tree.proofs.bits.byte_of.Goals as goal

pub returns : goal.returns
returns c =
    byte_is c.args.there.now c.args.n c.bit.result c.bit-2.result c.bit-3.result c.bit-4.result c.bit-5.result c.bit-6.result c.bit-7.result c.bit-8.result
    c.bit.ensures.exact c.bit-2.ensures.exact c.bit-3.ensures.exact c.bit-4.ensures.exact c.bit-5.ensures.exact c.bit-6.ensures.exact c.bit-7.ensures.exact c.bit-8.ensures.exact
