-- A range read part by part.
use Rattle.std.specs.Prelude.{◌≡◌, ◌≢◌, ℕ, ◌+◌, ◌<◌, ◌≤◌, ◌^◌, List, length, map, sum, IsTrue, ⊤, IfSome, Some, None}
use Rattle.std.specs.List.{AllByRecursion}
use Rattle.std.specs.declared.option.Option.{Option}
use Rattle.std.specs.declared.result.Result.{Result}
use Rattle.std.specs.declared.result.Result.TheVariants.{Ok, Err}
use Rattle.uf_cid.specs.Blocks.{Held}
use Rattle.uf_cid.specs.declared.cid.Cid.{Cid}
use Rattle.uf_edge.specs.Counts.{Stood}
use Rattle.uf_edge.specs.Streams.{Told as SinkTold, AppendsPrefix, after}
use Rattle.uf_fileread.specs.declared.fault.RangeFault.{RangeFault}
use Rattle.uf_fileread.specs.declared.fault.RangeFault.TheVariants.{Sink, Store}
use Rattle.uf_store.specs.Contents.{Told, held_at}
use Rattle.uf_store.specs.Keeping.{Holds}
use Rattle.uf_store.specs.Seen.{Seen}
use Rattle.uf_store.specs.declared.store.StoreFault.{StoreFault}
use Rattle.uf_store.specs.declared.store.StoreFault.TheVariants.{Failed, Damaged, Missing, BadBlock, Clash, Memory}
use Rattle.uf_tree.specs.declared.nodes.Part.{Part}
use Rattle.uf_tree.specs.declared.profile.Profile.{Profile}
use Rattle.uf_tree.specs.declared.meta.Meta.{Meta}
use Rattle.uf_tree.specs.FilePlan.{root_node}
use Rattle.uf_tree.specs.FileSub.{part_over, span, whole_part}
use Rattle.uf_tree.specs.Metas.{is_meta, none}
use Rattle.uf_tree.specs.Profiles.{is_profile}
use Rattle.uf_tree.specs.Roles.{WithSome}
use Rattle.uf_fileread.specs.Parts.{AreParts, parts_block}
use Rattle.uf_fileread.specs.declared.node_parts.NodeParts.{NodeParts}
use Rattle.uf_fileread.specs.Ranges.{IsFirstLossOf}

-- metadata that a node may carry where n rows of nodes may stand: any at the root, where 22 may, and none below it
abbrev pub CarriesHere : ℕ → Meta → Type 0
CarriesHere rows meta = rows < 22 → meta ≡ none

-- parts of a node that may stand where n rows of nodes may, and of which this size is declared
pub record MayStand (rows : ℕ) (declared : Option ℕ) (parts : NodeParts) : Type 0 where
  pub valid : AreParts parts
  pub some : 1 ≤ rows
  pub carries : CarriesHere rows parts.meta
  pub size : WithSome declared (λ n. sum (root_node parts.meta parts.parts).sizes ≡ n)

-- the block was found, and it is that of the node over these parts
pub record HasParts (rows : ℕ) (declared : Option ℕ) (cid : Cid) (before : Seen) (parts : NodeParts) : Type 0 where
  pub stands : MayStand rows declared parts
  pub is_held : IfSome before.told (λ t. held_at t cid ≡ Some (parts_block parts))

-- the block was found, and it is that of no such node
pub record IsNoParts (rows : ℕ) (declared : Option ℕ) (cid : Cid) (before now : Seen) : Type 0 where
  pub is_held : IfSome before.told (λ t. held_at t cid ≡ Some now.lent)
  pub none : (parts : NodeParts) → MayStand rows declared parts → now.lent ≢ parts_block parts

-- a node was loaded, or its block is lost or bad, or the store failed
abbrev pub LoadsParts : ℕ → Option ℕ → Cid → Seen → Seen → Result NodeParts StoreFault → Type 0
LoadsParts rows declared cid before now (Ok parts) = HasParts rows declared cid before parts
LoadsParts rows declared cid before now (Err Failed) = ⊤
LoadsParts rows declared cid before now (Err (Damaged c)) = ⊤
LoadsParts rows declared cid before now (Err (Missing c)) = (c ≡ cid) × IfSome before.told (λ t. held_at t cid ≡ None)
LoadsParts rows declared cid before now (Err (BadBlock c role)) = IsNoParts rows declared cid before now
LoadsParts rows declared cid before now (Err (Clash c held bytes)) = ⊥
LoadsParts rows declared cid before now (Err Memory) = ⊤

-- bytes that a part of this height may have
pub record Fits (p : Profile) (k : ℕ) (bytes : List ℕ) : Type 0 where
  pub few : length bytes ≤ span p.chunk p.width k
  pub small : length bytes < 2 ^ 63

-- the CID is that of the part of this height over these bytes, of which the node above declares the number; at the
-- root it is that of the whole file, with its metadata
pub record IsFilePart (X : List ℕ → List ℕ) (p : Profile) (rows : ℕ) (meta : Meta) (k : ℕ) (cid : Cid)
    (declared : Option ℕ) (bytes : List ℕ) : Type 0 where
  pub profile : IsTrue (is_profile p)
  pub low : k ≤ rows
  pub good : IsTrue (is_meta meta)
  pub carries : CarriesHere rows meta
  pub cid_is : cid ≡ (whole_part X p.chunk p.width meta k bytes).entry.cid
  pub size : WithSome declared (λ n. length bytes ≡ n)
  pub fits : Fits p k bytes

-- the parts are those of this height over these groups
pub record ArePartsOver (X : List ℕ → List ℕ) (p : Profile) (rows k : ℕ) (parts : List Part)
    (gs : List (List ℕ)) : Type 0 where
  pub profile : IsTrue (is_profile p)
  pub low : k ≤ rows
  pub same : parts ≡ map (part_over X p.chunk p.width k) gs
  pub fits : AllByRecursion (Fits p k) gs

-- bytes were written, and the blocks that they need are held
pub record WroteRange (told : Told) (l : List Held) (bytes : List ℕ) (held held_now : SinkTold)
    (touches touches_now n : ℕ) : Type 0 where
  pub count : n ≡ length bytes
  pub blocks : Holds told l
  pub written : held_now ≡ after held bytes
  pub steps : touches_now ≤ touches + length l

-- what a fault of the store says of lost blocks, where the store has not failed
abbrev pub IsFirstLoss : Told → List Held → RangeFault → Type 0
IsFirstLoss told l Sink = ⊤
IsFirstLoss told l (Store fault) = IsFirstLossOf told l fault

-- a prefix of the bytes was written
pub record Stopped (told : Told) (l : List Held) (bytes : List ℕ) (held held_now : SinkTold)
    (faults faults_now touches touches_now : ℕ) (fault : RangeFault) : Type 0 where
  pub loss : Stood faults faults_now → IsFirstLoss told l fault
  pub written : AppendsPrefix bytes held held_now
  pub steps : touches_now ≤ touches + length l

-- the answer of the reading of a range, over the blocks that it needs
abbrev pub ReadsPart : Told → List Held → List ℕ → SinkTold → SinkTold → ℕ → ℕ → ℕ → ℕ → Result ℕ RangeFault → Type 0
ReadsPart told l bytes held held_now faults faults_now touches touches_now (Ok n) =
    WroteRange told l bytes held held_now touches touches_now n
ReadsPart told l bytes held held_now faults faults_now touches touches_now (Err fault) =
    Stopped told l bytes held held_now faults faults_now touches touches_now fault
