-- A denoted tree that was put where there was room.
use Rattle.std.proofs.Common.{◌≡◌, ◌≢◌, inr, List, [], ℕ, Result, Ok, Err}
use Rattle.std.specs.Prelude.{IfSome, OnOk}
use Rattle.uf_cid.specs.Blocks.{Lookup}
use Rattle.uf_cid.specs.declared.cid.Cid.{Cid}
use Rattle.uf_edge.specs.Host.{HostTold}
use Rattle.uf_lenient.specs.Reading.{denotes}
use Rattle.uf_lenient.specs.declared.shapes.Limits.{Limits}
use Rattle.uf_tree.specs.Tree.{Tree}
use Rattle.uf_host.specs.Getting.{Gets, HasRoom}
use Rattle.uf_host.specs.Places.{Puts, places_of}
use Rattle.uf_host.specs.declared.fault.HostFault.{HostFault}
use Rattle.uf_host.specs.declared.fault.HostFault.TheVariants as faults

pub gets-of : (held : Lookup) (limits : Limits) (c : Cid) (path : List ℕ) (told now : HostTold) (tree : Tree) (r : Result (Unit {0}) HostFault) → denotes held limits c ≡ Ok tree → IfSome told (λ host. HasRoom host path) → OnOk r (path ≢ []) → Puts (places_of path tree) told now r → Gets held limits c path told now r
gets-of held limits c path told now tree (Ok done) denoted room named puts = record { named = named; tree = tree; denoted = denoted; room = room; are_put = puts }
gets-of held limits c path told now tree (Err faults.Write) denoted room named puts = record { tree = tree; denoted = denoted; room = room; puts = puts.1 }
gets-of held limits c path told now tree (Err (faults.Store fault)) denoted room named puts = inr (puts.0, record { tree = tree; denoted = denoted; room = room; puts = puts.1 })
gets-of held limits c path told now tree (Err faults.Absent) denoted room named puts = absurd puts.0
gets-of held limits c path told now tree (Err faults.NeedsRecursive) denoted room named puts = absurd puts.0
gets-of held limits c path told now tree (Err (faults.Other p)) denoted room named puts = absurd puts.0
gets-of held limits c path told now tree (Err faults.Exists) denoted room named puts = absurd puts.0
gets-of held limits c path told now tree (Err (faults.Name p)) denoted room named puts = absurd puts.0
gets-of held limits c path told now tree (Err (faults.TooDeep p)) denoted room named puts = absurd puts.0
gets-of held limits c path told now tree (Err (faults.FileTooLong p)) denoted room named puts = absurd puts.0
gets-of held limits c path told now tree (Err (faults.Collision x y)) denoted room named puts = absurd puts.0
gets-of held limits c path told now tree (Err faults.TooBig) denoted room named puts = absurd puts.0
gets-of held limits c path told now tree (Err faults.Read) denoted room named puts = absurd puts.0
gets-of held limits c path told now tree (Err (faults.Dag fault)) denoted room named puts = absurd puts.0
