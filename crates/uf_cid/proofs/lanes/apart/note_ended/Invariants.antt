use Rattle.std.proofs.Common.{◌≡◌, ℕ, ◌<◌, ◌≤◌, ◌==◌, [], slice_index, slice_index_or, if◌then◌else◌}
use Rattle.sha2.specs.Sha256.{digest_bytes}
use Rattle.uf_cid.specs.Lanes.{blocks_of, lane}
use Rattle.uf_cid.proofs.lanes.apart.note_ended.Given as goal

abbrev pub invariant-places : goal.invariant-places
invariant-places l =
    ((k : ℕ) → k < l.j → slice_index_or l.out k []
    ≡ (if blocks_of (slice_index l.lengths k) == l.count then digest_bytes (lane k l.state) 8 else slice_index_or l.fn.out k []))
    × ((k : ℕ) → l.j ≤ k → slice_index_or l.out k [] ≡ slice_index_or l.fn.out k [])
