use Rattle.std.proofs.Common.{◌≡◌, ℕ, ◌<◌, ◌≤◌, [], slice_index, slice_index_or}
use Rattle.sha2.specs.Sha256.{hash_after, initial_hash_256, sha256}
use Rattle.uf_cid.specs.Bytes.{block_in, piece}
use Rattle.uf_cid.specs.Lanes.{blocks_of, lane}
use Rattle.uf_cid.proofs.lanes.apart.sha256_group.Given as goal

abbrev pub invariant-loop-i : goal.invariant-loop-i
invariant-loop-i l = record {
  hashed : (j : ℕ) → j < 8 → lane j l.state ≡ hash_after initial_hash_256 (piece l.bytes l.size j) l.i;
  ended : (j : ℕ) → j < 8 → blocks_of (slice_index l.lengths j) ≤ l.i
      → slice_index_or l.out j [] ≡ sha256 (block_in l.bytes l.size l.lengths j);
}
