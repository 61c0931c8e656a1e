use Rattle.std.proofs.Common.{◌≡◌, ℕ, ◌<◌, [], length, slice_index_or}
use Rattle.uf_cid.specs.Bytes.{piece}
use Rattle.uf_cid.proofs.hash.BlockHash.block32_group.Given as goal

abbrev pub invariant-loop-i : goal.invariant-loop-i
invariant-loop-i g l = (length l.out ≡ length l.fn.out)
    × ((k : ℕ) → k < l.i → slice_index_or l.out k [] ≡ g.Self.BlockHash.block32 (piece l.bytes l.size k))
