-- The order below the root of a plan that is held.
use Rattle.std.specs.Prelude.{◌↔◌, List, Contains, ⊤}
use Rattle.std.specs.declared.result.Result.{Result}
use Rattle.std.specs.declared.result.Result.TheVariants.{Ok, Err}
use Rattle.uf_cid.specs.declared.cid.Cid.{Cid}
use Rattle.uf_walk.specs.Order.{Missing, NotDagPb, OrderFault, OverMost}

-- the order is of just these CIDs, or longer than it may be: nothing is missing, and each block is read
abbrev pub OrdersJust : List Cid → Result (List Cid) OrderFault → Type 0
OrdersJust cids (Ok list) = (c : Cid) → (Contains list c ↔ Contains cids c)
OrdersJust cids (Err OverMost) = ⊤
OrdersJust cids (Err (Missing c)) = ⊥
OrdersJust cids (Err (NotDagPb c why)) = ⊥
