-- What is lent to `run`, by the words of the traits, at one moment.
use Rattle.std.specs.Prelude.{ℕ, []}
use Rattle.std.specs.declared.option.Option.TheVariants.{Some}
use Rattle.uf_edge.specs.declared.host.Host.{Ghosts as HostGhosts}
use Rattle.uf_edge.specs.declared.streams.Sink.{Ghosts as SinkGhosts}
use Rattle.uf_edge.specs.declared.streams.Source.{Ghosts as SourceGhosts}
use Rattle.uf_edge.specs.Streams as streams
use Rattle.uf_store.specs.Seen.{Seen}
use Rattle.uf_top.specs.Around.{Around, HostSide, SinkSide, around, host_side}

-- a host
abbrev pub side_at : {W : Type 0} → HostGhosts W → W → HostSide
side_at w host = host_side (w.tree host) (w.read_faults host) (w.write_faults host)

-- an output, or the error lines
abbrev pub sink_at : {O : Type 0} → SinkGhosts O → O → SinkSide
sink_at o sink = record { held = o.holds sink; faults = o.faults sink }

-- a store that shows this, an input, an output, the touches, a host, and the error lines
abbrev pub lent : {I O W E : Type 0} → SourceGhosts I → SinkGhosts O → HostGhosts W → SinkGhosts E
    → Seen → I → O → ℕ → W → E → Around
lent i o w e seen input output touches host errors = around seen (i.left input) (i.faults input) (o.holds output)
    (o.faults output) touches (side_at w host) (sink_at e errors)

-- the same for a line of a batch, whose command has no input
abbrev pub lent_line : {O W E : Type 0} → SinkGhosts O → HostGhosts W → SinkGhosts E → Seen → O → ℕ → W → E → Around
lent_line o w e seen output touches host errors =
    around seen (Some []) 0 (o.holds output) (o.faults output) touches (side_at w host) (sink_at e errors)

-- this holds of the moments before and after, with a store and touches, whatever else stands around
abbrev pub OverStore : (Around → Around → Type 0) → Seen → ℕ → Seen → ℕ → Type 0
OverStore did was from now to =
    (left : streams.Told) (reads : ℕ) (held : streams.Told) (writes : ℕ) (host : HostSide)
    (errors errors_now : SinkSide)
    → did (around was left reads held writes from host errors) (around now left reads held writes to host errors_now)

-- the same with a host
abbrev pub OverHost : {W : Type 0} → HostGhosts W → (Around → Around → Type 0) → Seen → ℕ → W → Seen → ℕ → W → Type 0
OverHost w did was from host now to host_now =
    (left : streams.Told) (reads : ℕ) (held : streams.Told) (writes : ℕ) (errors errors_now : SinkSide)
    → did (around was left reads held writes from (side_at w host) errors)
    (around now left reads held writes to (side_at w host_now) errors_now)

-- the same with an input
abbrev pub OverInput : {I : Type 0} → SourceGhosts I → (Around → Around → Type 0) → Seen → I → ℕ → Seen → I → ℕ → Type 0
OverInput i did was input from now rest to =
    (held : streams.Told) (writes : ℕ) (host : HostSide) (errors errors_now : SinkSide)
    → did (around was (i.left input) (i.faults input) held writes from host errors)
    (around now (i.left rest) (i.faults rest) held writes to host errors_now)

-- the same with an input and a host
abbrev pub OverInputHost : {I W : Type 0} → SourceGhosts I → HostGhosts W → (Around → Around → Type 0)
    → Seen → I → ℕ → W → Seen → I → ℕ → W → Type 0
OverInputHost i w did was input from host now rest to host_now =
    (held : streams.Told) (writes : ℕ) (errors errors_now : SinkSide)
    → did (around was (i.left input) (i.faults input) held writes from (side_at w host) errors)
    (around now (i.left rest) (i.faults rest) held writes to (side_at w host_now) errors_now)

-- the same with an output
abbrev pub OverOutput : {O : Type 0} → SinkGhosts O → (Around → Around → Type 0) → Seen → O → ℕ → Seen → O → ℕ → Type 0
OverOutput o did was output from now written to =
    (left : streams.Told) (reads : ℕ) (host : HostSide) (errors errors_now : SinkSide)
    → did (around was left reads (o.holds output) (o.faults output) from host errors)
    (around now left reads (o.holds written) (o.faults written) to host errors_now)

-- the same with an input and an output
abbrev pub OverStreams : {I O : Type 0} → SourceGhosts I → SinkGhosts O → (Around → Around → Type 0)
    → Seen → I → O → ℕ → Seen → I → O → ℕ → Type 0
OverStreams i o did was input output from now rest written to = (host : HostSide) (errors errors_now : SinkSide)
    → did (around was (i.left input) (i.faults input) (o.holds output) (o.faults output) from host errors)
    (around now (i.left rest) (i.faults rest) (o.holds written) (o.faults written) to host errors_now)

-- the same with an input, an output and the error lines
abbrev pub OverTalk : {I O E : Type 0} → SourceGhosts I → SinkGhosts O → SinkGhosts E → (Around → Around → Type 0)
    → Seen → I → O → E → ℕ → Seen → I → O → E → ℕ → Type 0
OverTalk i o e did was input output errors from now rest written errors_now to = (host : HostSide)
    → did (around was (i.left input) (i.faults input) (o.holds output) (o.faults output) from host (sink_at e errors))
    (around now (i.left rest) (i.faults rest) (o.holds written) (o.faults written) to host (sink_at e errors_now))

-- with all that a command is lent: an input, an output and a host
abbrev pub OverAll : {I O W : Type 0} → SourceGhosts I → SinkGhosts O → HostGhosts W → (Around → Around → Type 0)
    → Seen → I → O → ℕ → W → Seen → I → O → ℕ → W → Type 0
OverAll i o w did was input output from host now rest written to host_now = (errors errors_now : SinkSide)
    → did (around was (i.left input) (i.faults input) (o.holds output) (o.faults output) from (side_at w host) errors)
    (around now (i.left rest) (i.faults rest) (o.holds written) (o.faults written) to (side_at w host_now) errors_now)

-- the same with an output and a host, and no input, for the command of a line of a batch
abbrev pub OverLine : {O W : Type 0} → SinkGhosts O → HostGhosts W → (Around → Around → Type 0)
    → Seen → O → ℕ → W → Seen → O → ℕ → W → Type 0
OverLine o w did was output from host now written to host_now = (errors errors_now : SinkSide)
    → did (around was (Some []) 0 (o.holds output) (o.faults output) from (side_at w host) errors)
    (around now (Some []) 0 (o.holds written) (o.faults written) to (side_at w host_now) errors_now)
