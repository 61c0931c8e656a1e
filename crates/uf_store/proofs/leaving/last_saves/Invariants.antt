use Rattle.std.proofs.Common.{◌≡◌, ◌-◌, drop, length, reverse}
use Rattle.std.specs.FinMap.{from_entries, get}
use Rattle.uf_cid.specs.Cid.{cid_cmp}
use Rattle.uf_store.specs.Sweeping.{AreSaved, last_saves as saves_left}
use Rattle.uf_store.proofs.leaving.last_saves.Given as goal

abbrev pub invariant-loop-behind : goal.invariant-loop-behind
invariant-loop-behind g l = record {
  saves : l.saves.items ≡ reverse (saves_left (λ cid. get (from_entries {R = cid_cmp} l.blocks.blocks.entries) cid) (drop (length l.writes - l.behind) l.writes));
  seen : AreSaved l.seen.keys (drop (length l.writes - l.behind) l.writes);
}
