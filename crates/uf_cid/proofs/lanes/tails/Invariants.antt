use Rattle.std.proofs.Common.{◌≡◌, ℕ, ◌<◌, length}
use Rattle.uf_cid.specs.Bytes.{piece}
use Rattle.uf_cid.specs.Lanes.{IsTail, part_of}
use Rattle.uf_cid.proofs.lanes.tails.Given as goal

abbrev pub invariant-pieces : goal.invariant-pieces
invariant-pieces l = (length l.out ≡ 1024)
    × ((j : ℕ) → j < l.i → IsTail (piece l.bytes l.size j) l.size (part_of l.out 128 j 0 128))
