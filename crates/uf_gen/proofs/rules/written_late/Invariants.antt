use Rattle.std.proofs.Common.{◌≡◌, ◌⊎◌, ◌≤◌, ◌-◌, ◌++◌, length, replicate}
use Rattle.uf_gen.proofs.rules.written_late.Given as goal

abbrev pub invariant-loop : goal.invariant-loop
invariant-loop l = (l.padded ≡ l.bytes ++ replicate (l.counter - length l.bytes) 0)
    × ((l.counter ≤ l.offset) ⊎ (l.counter ≡ length l.bytes))
