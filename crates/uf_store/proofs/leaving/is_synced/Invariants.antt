use Rattle.std.proofs.Common.{◌≡◌, take}
use Rattle.uf_store.specs.Sweeping.{is_synced as are_synced}
use Rattle.uf_store.proofs.leaving.is_synced.Given as goal

abbrev pub invariant-loop-place : goal.invariant-loop-place
invariant-loop-place l = l.is_synced ≡ are_synced (take l.place l.writes)
