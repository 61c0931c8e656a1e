use Rattle.std.proofs.Common.{◌≡◌, ◌-◌, length, map, take}
use Rattle.std.specs.List.{range_with_len}
use Rattle.uf_tree.specs.Bits.{byte_from}
use Rattle.uf_tree.proofs.bits.bytes_of.Given as goal

abbrev pub invariant-loop-k : goal.invariant-loop-k
invariant-loop-k l = record {
  long : length l.bytes ≡ 32;
  made : take l.k l.bytes ≡ map (λ k. byte_from l.there (31 - k)) (range_with_len 0 l.k);
}
