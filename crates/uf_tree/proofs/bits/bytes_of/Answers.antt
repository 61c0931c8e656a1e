use Rattle.std.proofs.Common.{arith, rules}
use Rattle.uf_tree.proofs.Bitfields.{bytes_go_on, bytes_end}
use Rattle.uf_tree.proofs.bits.bytes_of.Goals as goal

pub loop-k-preserved : goal.loop-k-preserved
loop-k-preserved c = record {
  long = search rules;
  made = bytes_go_on c.args.there.now c.loop-k.bytes c.loop-k.k c.byte_of.result (omega arith) c.loop-k.invariant.made c.byte_of.ensures;
}

pub returns : goal.returns
returns c = bytes_end c.args.there.now c.loop-k.bytes c.loop-k.k c.loop-k.invariant.long (omega arith) c.loop-k.invariant.made
