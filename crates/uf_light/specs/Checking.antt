-- The faults of a store of the check's own, which holds what it was given and doesn't fail.
use Rattle.uf_store.specs.declared.store.StoreFault.TheVariants as store
use Rattle.uf_light.specs.declared.fault.LightFault.{LightFault}
use Rattle.uf_light.specs.declared.fault.LightFault.TheVariants as fault

-- where the sections are kept: two of them clash, and all else is out of memory
abbrev pub keeping_fault : LightFault → LightFault
keeping_fault (fault.Store (store.Clash c a b)) = fault.Store (store.Clash c a b)
keeping_fault (fault.Store f) = fault.Store store.Memory
keeping_fault f = f

-- where they are read: a block isn't there or is bad, and all else is out of memory
abbrev pub reading_fault : LightFault → LightFault
reading_fault (fault.Store (store.Missing c)) = fault.Store (store.Missing c)
reading_fault (fault.Store (store.BadBlock c role)) = fault.Store (store.BadBlock c role)
reading_fault (fault.Store f) = fault.Store store.Memory
reading_fault f = f
