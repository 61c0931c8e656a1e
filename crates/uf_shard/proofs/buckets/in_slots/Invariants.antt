use Rattle.std.proofs.Common.{◌≡◌, ℕ, ◌<◌, [], length, slice_index_or, take}
use Rattle.uf_shard.specs.Buckets.{rows_at}
use Rattle.uf_shard.proofs.buckets.in_slots.Given as goal

abbrev pub invariant-loop-row : goal.invariant-loop-row
invariant-loop-row l = record {
  count : length l.slots.items ≡ 256;
  rows : (s : ℕ) → s < 256 → slice_index_or l.slots.items s [] ≡ rows_at l.level s (take l.row-index l.rows);
}
