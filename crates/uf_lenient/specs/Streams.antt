-- What is written out of a file.
use Rattle.std.specs.Prelude.{◌≡◌, ℕ, List, ◌++◌, length, Bool, true, false, IfSome, None, ⊤}
use Rattle.std.specs.declared.option.Option.{Option}
use Rattle.std.specs.declared.result.Result.{Result}
use Rattle.std.specs.declared.result.Result.TheVariants.{Ok, Err}
use Rattle.uf_cid.specs.Blocks.{Lookup}
use Rattle.uf_edge.specs.Streams.{Told as Sent, after}
use Rattle.uf_store.specs.Contents.{Told, held_at}
use Rattle.uf_store.specs.declared.store.StoreFault.{StoreFault}
use Rattle.uf_tree.specs.Nodes.{capped}
use Rattle.uf_lenient.specs.declared.fault.DagFault.{DagFault}
use Rattle.uf_lenient.specs.declared.fault.StreamFault.{StreamFault}
use Rattle.uf_lenient.specs.declared.fault.StreamFault.TheVariants.{Sink, Dag}
use Rattle.uf_lenient.specs.Answers.{IsFault, store_fault_of}
use Rattle.uf_lenient.specs.Steps.{Rest, prefixed, to_come}

-- the n bytes of a file were written; a count stands at the last value of a u64
pub record IsStreamed (said : Result (List ℕ) DagFault) (held now : Sent) (count : ℕ) : Type 0 where
  pub bytes : List ℕ
  pub is : said ≡ Ok bytes
  pub sent : now ≡ after held bytes
  pub counted : count ≡ capped (length bytes)

-- they were, or why not; a sink that fails shows that itself
abbrev pub Streams : Result (List ℕ) DagFault → Sent → Sent → Result ℕ StreamFault → Type 0
Streams said held now (Ok count) = IsStreamed said held now count
Streams said held now (Err Sink) = ⊤
Streams said held now (Err (Dag fault)) = IsFault said fault

-- the bytes that a file begins with, where it has bytes
abbrev pub IsFileFront : List ℕ → Result (List ℕ) DagFault → Type 0
IsFileFront front (Ok bytes) = (rest : List ℕ) × (bytes ≡ front ++ rest)
IsFileFront front (Err fault) = ⊤

-- whatever the answer, what was written is a prefix of the file
pub record SendsFront (told : Told) (said : Lookup → Result (List ℕ) DagFault) (held now : Sent) : Type 0 where
  pub front : List ℕ
  pub sent : now ≡ after held front
  pub is_front : IfSome told (λ t. IsFileFront front (said (held_at t)))

-- what was written so far: what was to come is that, and what is to come now
pub record HasSent (told : Told) (start now : Rest) (held held_now : Sent) (count : ℕ) : Type 0 where
  pub bytes : List ℕ
  pub sent : held_now ≡ after held bytes
  pub counted : count ≡ capped (length bytes)
  pub said : IfSome told (λ t. to_come (held_at t) start ≡ prefixed bytes (to_come (held_at t) now))

-- the sink failed
abbrev pub sink_failed : Result ℕ StreamFault → Bool
sink_failed (Ok count) = false
sink_failed (Err Sink) = true
sink_failed (Err (Dag fault)) = false

-- the store's fault in an answer
abbrev pub stream_fault : Result ℕ StreamFault → Option StoreFault
stream_fault (Ok count) = None
stream_fault (Err Sink) = None
stream_fault (Err (Dag fault)) = store_fault_of fault
