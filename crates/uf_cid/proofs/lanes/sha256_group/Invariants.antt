use Rattle.std.proofs.Common.{◌≡◌, ℕ, ◌+◌, ◌<◌, ◌/◌, length, slice_index_or, []}
use Rattle.sha2.specs.Sha256.{hash_after, initial_hash_256, padded_message, sha256}
use Rattle.uf_cid.specs.Bytes.{piece}
use Rattle.uf_cid.specs.Lanes.{lane}
use Rattle.uf_cid.proofs.lanes.sha256_group.Given as goal

abbrev pub invariant-whole : goal.invariant-whole
invariant-whole l = (j : ℕ) → j < 8
    → lane j l.state ≡ hash_after initial_hash_256 (padded_message (piece l.bytes l.size j)) l.i

abbrev pub invariant-tails : goal.invariant-tails
invariant-tails l = (j : ℕ) → j < 8
    → lane j l.state ≡ hash_after initial_hash_256 (padded_message (piece l.bytes l.size j)) (l.size / 64 + l.i)

abbrev pub invariant-digests : goal.invariant-digests
invariant-digests l = (length l.out ≡ 8)
    × ((j : ℕ) → j < l.j → slice_index_or l.out j [] ≡ sha256 (piece l.bytes l.size j))
