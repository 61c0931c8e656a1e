use Rattle.std.proofs.Common.{◌≡◌, ℕ, ◌<◌, length, slice_index}
use Rattle.uf_cid.specs.Bytes.{block_in, piece}
use Rattle.uf_cid.specs.Lanes.{IsPadded}
use Rattle.uf_cid.proofs.lanes.apart.pad_all.Given as goal

abbrev pub invariant-pieces : goal.invariant-pieces
invariant-pieces l = record {
  padded : (k : ℕ) → k < l.i → IsPadded (slice_index l.lengths k) (piece l.bytes l.size k);
  kept : (k : ℕ) → k < length l.lengths → block_in l.bytes l.size l.lengths k ≡ block_in l.fn.bytes l.size l.lengths k;
}
