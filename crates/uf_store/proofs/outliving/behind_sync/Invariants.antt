use Rattle.std.proofs.Common.{◌≡◌, take}
use Rattle.uf_store.specs.Stops.{behind_sync as place_behind_sync}
use Rattle.uf_store.proofs.outliving.behind_sync.Given as goal

abbrev pub invariant-loop-place : goal.invariant-loop-place
invariant-loop-place l = l.behind ≡ place_behind_sync 0 (take l.place l.writes)
