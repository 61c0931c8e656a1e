-- A pull that is whole: what it asked for, and of which peer it can be sure.
use Rattle.std.specs.Prelude.{◌≡◌, ◌≤◌, ℕ, List, [], ◌∷◌, filter, is_none, length, IfSome}
use Rattle.std.specs.List.{AllByRecursion}
use Rattle.std.specs.declared.option.Option.TheVariants.{Some}
use Rattle.std.specs.declared.result.Result.TheVariants.{Ok}
use Rattle.uf_cid.specs.Blocks.{Held, Lookup}
use Rattle.uf_cid.specs.Read.{IsCid}
use Rattle.uf_cid.specs.declared.cid.Cid.{Cid}
use Rattle.uf_walk.specs.Order.{order}
use Rattle.uf_pull.specs.Due.{Due, holding}
use Rattle.uf_pull.specs.Frames.{serve_text}

-- those of these CIDs whose block isn't held, in their order
abbrev pub unheld : Lookup → List Cid → List Cid
unheld held cids = filter (λ c. is_none (held c)) cids

-- what is held with these blocks more
abbrev pub holding_all : List Held → Lookup → Lookup
holding_all [] held = held
holding_all (b ∷ blocks) held = holding_all blocks (holding b.0 b.1 held)

-- over what is held now the order is whole, and those of its CIDs were asked for that weren't held before, in its order
pub record AsksForUnheld (most : ℕ) (root : Cid) (held now : Lookup) (wants : List Cid) : Type 0 where
  pub list : List Cid
  pub whole : order now most root ≡ Ok list
  pub asked : wants ≡ unheld held list

-- a peer holds the block of a CID, which isn't too long for a frame; where one is held already, it is the same
pub record GivesBlock (hash : List ℕ → List ℕ) (held peer : Lookup) (c : Cid) : Type 0 where
  pub block : List ℕ
  pub gives : peer c ≡ Some block
  pub digest : hash block ≡ c.digest
  pub size : length block ≤ 2097152
  pub agrees : IfSome (held c) (λ other. other ≡ block)
  pub cid : IsCid c

-- a peer holds all blocks below the root
pub record IsHonest (hash : List ℕ → List ℕ) (most : ℕ) (root : Cid) (held peer : Lookup) (list : List Cid)
    : Type 0 where
  pub whole : order peer most root ≡ Ok list
  pub gives : AllByRecursion (GivesBlock hash held peer) list

-- all of them were asked for and came, and no more of the input was used
pub record EndsWell (d : Due) (peer : Lookup) (wants : List Cid) : Type 0 where
  pub ends : d.ends ≡ Ok tt
  pub asked : d.wants ≡ wants
  pub used : d.used ≡ length (serve_text peer wants)
