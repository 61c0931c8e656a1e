use Rattle.std.proofs.Common.{◌≡◌, ℕ, ◌+◌, ◌<◌, ◌*◌, length}
use Rattle.sha2.specs.Sha256.{IsRoundsAt, IsWindow, rounds, schedule, word_at}
use Rattle.uf_cid.specs.Lanes.{lane, lane_at, part_of, words}
use Rattle.uf_cid.proofs.lanes.block.compress.Given as goal

abbrev pub invariant-load : goal.invariant-load
invariant-load l = (length l.w ≡ 16)
    × ((j : ℕ) → j < 8 → (k : ℕ) → k < l.i → lane_at l.w k j ≡ word_at l.bytes (j * l.size + (l.at + 4 * k)))

abbrev pub invariant-first : goal.invariant-first
invariant-first l = (j : ℕ) → j < 8 → IsWindow (words j l.w) (schedule (part_of l.bytes l.size j l.at 64) 48) 16
    × (lane j l.v ≡ rounds (lane j l.state) (schedule (part_of l.bytes l.size j l.at 64) 48) (2 * l.pair))

abbrev pub invariant-turns : goal.invariant-turns
invariant-turns l = (j : ℕ) → j < 8
    → IsRoundsAt (part_of l.bytes l.size j l.at 64) (lane j l.state) (words j l.w) (lane j l.v) (16 * l.turn)

abbrev pub invariant-places : goal.invariant-places
invariant-places l = (j : ℕ) → j < 8
    → IsRoundsAt (part_of l.bytes l.size j l.at 64) (lane j l.state) (words j l.w) (lane j l.v) (16 * l.turn + 2 * l.pair)
