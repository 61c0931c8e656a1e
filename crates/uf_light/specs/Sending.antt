-- What was written of what is at a path.
use Rattle.std.specs.Prelude.{◌≡◌, ℕ, List}
use Rattle.std.specs.declared.result.Result.{Result}
use Rattle.std.specs.declared.result.Result.TheVariants.{Ok, Err}
use Rattle.uf_car.specs.Exporting.{WritesAll}
use Rattle.uf_cid.specs.Blocks.{Held}
use Rattle.uf_edge.specs.Streams.{AppendsPrefix, Told as SinkTold}
use Rattle.uf_store.specs.Contents.{Told}
use Rattle.uf_store.specs.Lost.{IsLossOf}
use Rattle.uf_store.specs.declared.store.StoreFault.TheVariants as store
use Rattle.uf_light.specs.declared.fault.LightFault.{LightFault}
use Rattle.uf_light.specs.declared.fault.LightFault.TheVariants as fault

-- the fault is none of a CAR
abbrev pub IsNoCar : LightFault → Type 0
IsNoCar (fault.Car f) = ⊥
IsNoCar (fault.OtherRoot c) = ⊥
IsNoCar f = Unit {0}

-- these bytes were written, or one of these blocks is lost, or the sink failed
abbrev pub SendsFile : Told → List Held → List ℕ → Result ℕ LightFault → SinkTold → SinkTold → Type 0
SendsFile told l bytes (Ok n) out out_now = WritesAll bytes n out out_now
SendsFile told l bytes (Err fault.Sink) out out_now = Unit {0}
SendsFile told l bytes (Err (fault.Store f)) out out_now = IsLossOf told l f
SendsFile told l bytes (Err f) out out_now = ⊥

-- this text was written, or there was no memory, or the sink failed
abbrev pub SendsAbsent : List ℕ → Result ℕ LightFault → SinkTold → SinkTold → Type 0
SendsAbsent text (Ok n) out out_now = WritesAll text n out out_now
SendsAbsent text (Err fault.Sink) out out_now = AppendsPrefix text out out_now
SendsAbsent text (Err f) out out_now = (f ≡ fault.Store store.Memory) × (out_now ≡ out)

-- a refusal, and a block that is missing or bad, is found before anything is written
abbrev pub ComesFirst : Result ℕ LightFault → SinkTold → SinkTold → Type 0
ComesFirst (Ok n) out out_now = Unit {0}
ComesFirst (Err fault.Sink) out out_now = Unit {0}
ComesFirst (Err (fault.Store store.Memory)) out out_now = Unit {0}
ComesFirst (Err f) out out_now = out_now ≡ out
