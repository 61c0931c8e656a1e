use Rattle.std.proofs.Common.{◌≡◌, take, Some}
use Rattle.uf_store.specs.InMemory.{failures_of, memory_seen, new_seen}
use Rattle.uf_store.specs.Stops.{survivors, written}
use Rattle.uf_store.proofs.memory.MemStore.redo_survivors.Given as goal

abbrev pub invariant-loop-place : goal.invariant-loop-place
invariant-loop-place g l =
    (memory_seen l.self ≡ record new_seen { told = Some (written (survivors l.lost l.firm 0 (take l.place l.writes))) })
    × (failures_of l.self ≡ failures_of l.initial.self)
