use Rattle.std.proofs.Common.{◌≡◌, ◌++◌, Some, take}
use Rattle.uf_shard.specs.Weighed.{least_of, room_after, shards_in}
use Rattle.uf_shard.proofs.weighing.room_behind.Given as goal

abbrev pub invariant-loop-placed : goal.invariant-loop-placed
invariant-loop-placed l = record {
  room : room_after l.room (least_of (take l.placed-index l.items)) ≡ Some l.rest;
  below : l.below ≡ l.initial.below ++ shards_in (take l.placed-index l.items);
}
