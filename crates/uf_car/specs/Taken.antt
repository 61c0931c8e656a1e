-- Why a block wasn't taken by the walk of an export.
use Rattle.uf_store.specs.declared.store.StoreFault.TheVariants.{Memory}
use Rattle.uf_walk.specs.declared.turn.WalkFault.{WalkFault}
use Rattle.uf_walk.specs.declared.turn.WalkFault.TheVariants as walk
use Rattle.uf_car.specs.declared.fault.ExportFault.{ExportFault}
use Rattle.uf_car.specs.declared.fault.ExportFault.TheVariants as fault

-- the walk's fault as one of an export
abbrev pub untaken : WalkFault → ExportFault
untaken (walk.NotDagPb c why) = fault.NotDagPb c why
untaken walk.Memory = fault.Store Memory
