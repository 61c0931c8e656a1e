use Rattle.std.proofs.Common.{◌≡◌, ◌≤◌, ◌*◌, vec_len}
use Rattle.uf_car.proofs.hashed.gather.Given as goal

abbrev pub invariant-loop-count : goal.invariant-loop-count
invariant-loop-count l = record {
  inside : vec_len l.bytes ≡ l.count * l.size;
  few : l.count ≤ 8;
}
