-- What is found before a light proof is written.
use Rattle.std.specs.Prelude.{◌≡◌, ℕ, List, IsOk}
use Rattle.std.specs.declared.result.Result.{Result}
use Rattle.std.specs.declared.result.Result.TheVariants.{Ok, Err}
use Rattle.uf_cid.specs.Blocks.{Held}
use Rattle.uf_cid.specs.declared.cid.Cid.{Cid}
use Rattle.uf_store.specs.Contents.{Told}
use Rattle.uf_store.specs.Keeping.{Holds}
use Rattle.uf_store.specs.Lost.{IsLossOf}
use Rattle.uf_light.specs.declared.fault.LightFault.{LightFault}
use Rattle.uf_light.specs.declared.fault.LightFault.TheVariants as fault
use Rattle.uf_light.specs.FileCids.{cids_of}

-- there is something to show, and these are the CIDs of the blocks that do, which are held
pub record FindsOrder (told : Told) (blocks : List Held) (said : Result (List ℕ) LightFault) (order : List Cid)
    : Type 0 where
  pub something : IsOk said
  pub order_is : order ≡ cids_of blocks
  pub held : Holds told blocks

-- the blocks of a proof, or the refusal of the plain tree, or one of the blocks that are needed is lost
abbrev pub FindsLight : Told → (needs blocks : List Held) → Result (List ℕ) LightFault → Result (List Cid) LightFault
    → Type 0
FindsLight told needs blocks said (Ok order) = FindsOrder told blocks said order
FindsLight told needs blocks said (Err (fault.Store f)) = IsLossOf told needs f
FindsLight told needs blocks said (Err f) = said ≡ Err f
