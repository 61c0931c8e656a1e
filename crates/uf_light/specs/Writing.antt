-- What a CAR that is written from a list of CIDs leaves.
use Rattle.std.specs.Prelude.{◌≡◌, ℕ, List, Contains, None}
use Rattle.std.specs.declared.result.Result.{Result}
use Rattle.std.specs.declared.result.Result.TheVariants.{Ok, Err}
use Rattle.uf_cid.specs.Blocks.{Lookup}
use Rattle.uf_cid.specs.declared.cid.Cid.{Cid}
use Rattle.uf_edge.specs.Streams.{AppendsPrefix, Told as SinkTold}
use Rattle.uf_car.specs.Exporting.{IsOtherFault, WritesAll, WritesPart, WritesSection}
use Rattle.uf_store.specs.Clashes.{IsLoadFault}
use Rattle.uf_store.specs.Seen.{Seen}
use Rattle.uf_light.specs.declared.fault.LightFault.{LightFault}
use Rattle.uf_light.specs.declared.fault.LightFault.TheVariants as fault

-- something is held under each of these CIDs
abbrev pub AreThere : Lookup → List Cid → Type 0
AreThere held cids = (c : Cid) → Contains cids c → held c ≡ None → ⊥

-- a block was written as a section, or a part of that, or nothing
abbrev pub WritesSectionOf : Cid → Result ℕ LightFault → Seen → Seen → SinkTold → SinkTold → Type 0
WritesSectionOf cid (Ok n) before now out out_now = WritesSection cid n before now out out_now
WritesSectionOf cid (Err fault.Sink) before now out out_now = WritesPart cid before now out out_now
WritesSectionOf cid (Err (fault.Store f)) before now out out_now = IsLoadFault cid f × (out_now ≡ out)
WritesSectionOf cid (Err f) before now out out_now = ⊥

-- the text was written, or a prefix of it where the sink or the store failed or there was no memory
abbrev pub WritesCar : List ℕ → Result ℕ LightFault → SinkTold → SinkTold → Type 0
WritesCar text (Ok n) out out_now = WritesAll text n out out_now
WritesCar text (Err fault.Sink) out out_now = AppendsPrefix text out out_now
WritesCar text (Err (fault.Store f)) out out_now = IsOtherFault f × AppendsPrefix text out out_now
WritesCar text (Err f) out out_now = ⊥
