use Rattle.std.proofs.Common.{◌≡◌, ℕ, ◌<◌, [], length, slice_index_or}
use Rattle.uf_cid.specs.Bytes.{block_in}
use Rattle.uf_cid.proofs.hash.BlockHash.block32_apart.Given as goal

abbrev pub invariant-loop-i : goal.invariant-loop-i
invariant-loop-i g l = (length l.out ≡ length l.fn.out)
    × ((k : ℕ) → k < l.i → slice_index_or l.out k [] ≡ g.Self.BlockHash.block32 (block_in l.bytes l.size l.lengths k))
