use Rattle.std.proofs.Common.{◌≡◌, ℕ, [], length, slice_index_or}
use Rattle.uf_shard.proofs.buckets.empty_slots.Given as goal

abbrev pub invariant-loop : goal.invariant-loop
invariant-loop l = record {
  count : length l.slots.items ≡ l.counter;
  empty : (s : ℕ) → slice_index_or l.slots.items s [] ≡ [];
}
