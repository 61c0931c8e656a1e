use Rattle.std.proofs.Common.{◌≡◌, ℕ, ◌<◌, [], length, slice_index_or}
use Rattle.sha2.specs.Sha256.{sha256}
use Rattle.uf_cid.specs.Bytes.{block_in}
use Rattle.uf_cid.proofs.lanes.apart.sha256_apart.Given as goal

abbrev pub invariant-rest : goal.invariant-rest
invariant-rest l = (length l.out ≡ length l.fn.out)
    × ((k : ℕ) → k < l.i → slice_index_or l.out k [] ≡ sha256 (block_in l.bytes l.size l.lengths k))
