use Rattle.uf_cid.proofs.Letters.{Reading}
use Rattle.uf_cid.proofs.read.front_bytes.Given as goal

abbrev pub invariant-loop-letter : goal.invariant-loop-letter
invariant-loop-letter l = Reading l.first l.letters l.letter-index l.bytes l.len l.bits l.held
