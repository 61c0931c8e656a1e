-- What `serve` and its steps answer and leave.
use Rattle.std.specs.Prelude.{◌≡◌, ℕ, ◌≤◌, Bool, true, false, List, length, take, ⊤}
use Rattle.std.specs.declared.option.Option.{Option}
use Rattle.std.specs.declared.option.Option.TheVariants.{None, Some}
use Rattle.std.specs.declared.result.Result.{Result}
use Rattle.std.specs.declared.result.Result.TheVariants.{Ok, Err}
use Rattle.uf_cid.specs.Blocks.{Lookup}
use Rattle.uf_cid.specs.declared.cid.Cid.{Cid}
use Rattle.uf_edge.specs.Streams.{AppendsPrefix, Told, after}
use Rattle.uf_store.specs.declared.store.StoreFault.{StoreFault}
use Rattle.uf_store.specs.declared.store.StoreFault.TheVariants as store
use Rattle.uf_pull.specs.declared.fault.ServeFault.{ServeFault}
use Rattle.uf_pull.specs.declared.fault.ServeFault.TheVariants as fault
use Rattle.uf_pull.specs.Frames.{answer_bytes, serve_text}
use Rattle.uf_pull.specs.Wants.{Asked}

-- the source failed
abbrev pub is_serve_read : {A : Type 0} → Result A ServeFault → Bool
is_serve_read (Err fault.Read) = true
is_serve_read _ = false

-- the sink failed
abbrev pub is_serve_sink : {A : Type 0} → Result A ServeFault → Bool
is_serve_sink (Err fault.Sink) = true
is_serve_sink _ = false

-- the store's fault in an answer
abbrev pub serve_fault : {A : Type 0} → Result A ServeFault → Option StoreFault
serve_fault (Err (fault.Store f)) = Some f
serve_fault _ = None

-- the store failed, met a damaged block, or there was no memory: a block that isn't held is no fault
abbrev pub IsServing : StoreFault → Type 0
IsServing store.Failed = ⊤
IsServing (store.Damaged c) = ⊤
IsServing (store.Missing c) = ⊥
IsServing (store.BadBlock c role) = ⊥
IsServing (store.Clash c a b) = ⊥
IsServing store.Memory = ⊤

-- some bytes were written after what the sink held
abbrev pub WritesBytes : Told → Told → Type 0
WritesBytes out out_now = (text : List ℕ) × (out_now ≡ after out text)

-- the frame for a CID was written, or a part of it where the sink failed, or nothing
abbrev pub SendsFrame : List ℕ → Result Unit ServeFault → Told → Told → Type 0
SendsFrame frame (Ok t) out out_now = out_now ≡ after out frame
SendsFrame frame (Err (fault.BadWant n)) out out_now = ⊥
SendsFrame frame (Err fault.TooLong) out out_now = ⊥
SendsFrame frame (Err fault.Read) out out_now = ⊥
SendsFrame frame (Err fault.Sink) out out_now = AppendsPrefix frame out out_now
SendsFrame frame (Err (fault.Store f)) out out_now = out_now ≡ out

-- all that was asked for was answered, and the asking ended so
pub record ServesAll (held : Lookup) (asked : Asked) (ends : Result Unit ServeFault) (out out_now : Told) : Type 0 where
  pub ends_so : asked.ends ≡ ends
  pub written : out_now ≡ after out (serve_text held asked.wants)

-- the answer of `serve` over what is held: a frame for each CID that is asked for, or a prefix of that where it was
-- stopped
abbrev pub ServesLines : Lookup → Asked → Result ℕ ServeFault → Told → Told → Type 0
ServesLines held asked (Ok n) out out_now = ServesAll held asked (Ok tt) out out_now × (n ≡ length asked.wants)
ServesLines held asked (Err (fault.BadWant n)) out out_now = ServesAll held asked (Err (fault.BadWant n)) out out_now
ServesLines held asked (Err fault.TooLong) out out_now = ServesAll held asked (Err fault.TooLong) out out_now
ServesLines held asked (Err fault.Read) out out_now = AppendsPrefix (serve_text held asked.wants) out out_now
ServesLines held asked (Err fault.Sink) out out_now = AppendsPrefix (serve_text held asked.wants) out out_now
ServesLines held asked (Err (fault.Store f)) out out_now = AppendsPrefix (serve_text held asked.wants) out out_now
