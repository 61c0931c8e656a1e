use Rattle.std.proofs.Common.{◌≡◌, ℕ, ◌*◌, ◌<◌, [], length, slice_index_or}
use Rattle.sha2.specs.Sha256.{sha256}
use Rattle.uf_cid.specs.Bytes.{piece}
use Rattle.uf_cid.proofs.lanes.sha256_pieces.Given as goal

abbrev pub invariant-groups : goal.invariant-groups
invariant-groups l = (length l.out ≡ length l.fn.out)
    × ((i : ℕ) → i < 8 * l.g → slice_index_or l.out i [] ≡ sha256 (piece l.bytes l.size i))

abbrev pub invariant-rest : goal.invariant-rest
invariant-rest l = (length l.out ≡ length l.fn.out)
    × ((j : ℕ) → j < l.i → slice_index_or l.out j [] ≡ sha256 (piece l.bytes l.size j))
