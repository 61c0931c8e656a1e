-- Why the walk of a comparison stopped.
use Rattle.uf_walk.specs.declared.turn.WalkFault.{WalkFault}
use Rattle.uf_walk.specs.declared.turn.WalkFault.TheVariants as walk
use Rattle.uf_same.specs.declared.answer.SameFault.{SameFault}
use Rattle.uf_same.specs.declared.answer.SameFault.TheVariants as fault

-- the walk's fault as one of a comparison
abbrev pub not_compared : WalkFault → SameFault
not_compared (walk.NotDagPb c why) = fault.NotDagPb c why
not_compared walk.Memory = fault.Memory
