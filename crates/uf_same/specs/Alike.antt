-- What two places have in common below one CID.
use Rattle.std.specs.Prelude.{◌≡◌, ℕ, List, Contains}
use Rattle.std.specs.declared.option.Option.TheVariants.{Some}
use Rattle.std.specs.declared.result.Result.TheVariants.{Ok}
use Rattle.uf_cid.specs.Blocks.{Lookup}
use Rattle.uf_cid.specs.declared.cid.Cid.{Cid}
use Rattle.uf_walk.specs.Order.{order}

-- one block is held under the CID in both places
pub record HoldAlike (left right : Lookup) (c : Cid) : Type 0 where
  pub bytes : List ℕ
  pub held_left : left c ≡ Some bytes
  pub held_right : right c ≡ Some bytes

-- both places have one order below the root, and one block under each of its CIDs
pub record AreAlike (left right : Lookup) (most : ℕ) (root : Cid) : Type 0 where
  pub list : List Cid
  pub order_left : order left most root ≡ Ok list
  pub order_right : order right most root ≡ Ok list
  pub alike : (c : Cid) → Contains list c → HoldAlike left right c
