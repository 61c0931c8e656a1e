use Rattle.std.proofs.Common.{◌≡◌, ◌≤◌, ◌*◌, vec_len}
use Rattle.uf_disk.proofs.ahead.gather.Given as goal

abbrev pub invariant-loop-at : goal.invariant-loop-at
invariant-loop-at g l = record {
  inside : l.pieces.count * l.pieces.size ≤ vec_len l.bytes;
  size : l.pieces.size ≡ l.size;
  all : l.pieces.count ≡ l.at;
  end : l.at-end ≤ 8;
}
