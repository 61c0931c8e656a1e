-- What is seen of a store that keeps nothing.
use Rattle.std.specs.Prelude.{[], None}
use Rattle.uf_store.specs.declared.discard.Discard.{Discard}
use Rattle.uf_store.specs.Seen.{Seen}

-- it tells nothing, lends nothing, and misses each block
abbrev pub discard_seen : {X : Type 0} → Discard X → Seen
discard_seen s = record { told = None; lent = []; finds = 0; misses = s.misses; faults = 0; clashes = 0 }

-- nothing has happened to a store that tells nothing
abbrev pub nothing_seen : Seen
nothing_seen = record { told = None; lent = []; finds = 0; misses = 0; faults = 0; clashes = 0 }
