-- How talks with peers end, and how that is reported: `pull` and `serve` (this project's own).
use Rattle.std.specs.Prelude.{◌≡◌, ◌⊎◌, ℕ, List, [], ◌++◌, codes}
use Rattle.std.specs.Fmt.{decimal}
use Rattle.std.specs.declared.result.Result.{Result}
use Rattle.std.specs.declared.result.Result.TheVariants.{Ok, Err}
use Rattle.uf_cid.specs.Cid.{cid_text}
use Rattle.uf_pull.specs.declared.fault.PullFault.{PullFault}
use Rattle.uf_pull.specs.declared.fault.PullFault.TheVariants as pull
use Rattle.uf_pull.specs.declared.fault.ServeFault.{ServeFault}
use Rattle.uf_pull.specs.declared.fault.ServeFault.TheVariants as serve
use Rattle.uf_command.specs.Lines.{line}
use Rattle.uf_command.specs.Statuses.{plain_line}
use Rattle.uf_command.specs.Telling.{TellsWhy}
use Rattle.uf_command.specs.declared.status.Status.{Status}
use Rattle.uf_command.specs.declared.status.Status.TheVariants as status
use Rattle.uf_command.specs.declared.types.DagRule.TheVariants as rule
use Rattle.uf_command.specs.declared.types.PeerRefusal.{PeerRefusal}
use Rattle.uf_command.specs.declared.types.PeerRefusal.TheVariants.{Peer, Other}
use Rattle.uf_command.specs.declared.types.PeerRule.{PeerRule}
use Rattle.uf_command.specs.declared.types.PeerRule.TheVariants as peer
use Rattle.uf_command.specs.declared.types.Refusal.TheVariants as refusal

-- the greatest number of CIDs of a DAG that is pulled
abbrev pub most_pulled : ℕ
most_pulled = 16777216

-- and n bytes of a peer's lines are read
abbrev pub most_of_wants : ℕ
most_of_wants = 1073741824

-- why a DAG wasn't pulled, as a refusal
abbrev pub pull_refusal : PullFault → PeerRefusal
pull_refusal (pull.Lacks cid) = Peer (peer.Lacks cid)
pull_refusal (pull.Ended cid) = Peer (peer.Ended cid)
pull_refusal (pull.Bad place) = Peer (peer.Bad place)
pull_refusal pull.Noise = Peer peer.Noise
pull_refusal (pull.NotDagPb cid why) = Other (refusal.Dag (rule.NotUnixfs cid why))
pull_refusal pull.TooMany = Other (refusal.Dag rule.TooMany)
pull_refusal pull.Read = Other refusal.Read
pull_refusal pull.Sink = Other refusal.Write
pull_refusal (pull.Store fault) = Other (refusal.Store fault)

-- why the lines of a peer weren't all answered
abbrev pub serve_refusal : ServeFault → PeerRefusal
serve_refusal (serve.BadWant number) = Peer (peer.BadWant number)
serve_refusal serve.TooLong = Other refusal.InputTooLong
serve_refusal serve.Read = Other refusal.Read
serve_refusal serve.Sink = Other refusal.Write
serve_refusal (serve.Store fault) = Other (refusal.Store fault)

-- how a pull ended: done, or refused
abbrev pub pull_end : Result ℕ PullFault → Result (Unit {0}) PeerRefusal
pull_end (Ok n) = Ok tt
pull_end (Err fault) = Err (pull_refusal fault)

-- how the lines of a peer were answered: to their end, or refused
abbrev pub serve_end : Result ℕ ServeFault → Result (Unit {0}) PeerRefusal
serve_end (Ok n) = Ok tt
serve_end (Err fault) = Err (serve_refusal fault)

-- the name of a rule for peers and its details
abbrev pub peer_words : PeerRule → List ℕ
peer_words (peer.Lacks cid) = codes "PeerLacks " ++ cid_text cid
peer_words (peer.Ended cid) = codes "PeerEnded " ++ cid_text cid
peer_words (peer.Bad place) = codes "PeerBad " ++ decimal place
peer_words peer.Noise = codes "PeerNoise"
peer_words (peer.BadWant number) = codes "BadWant " ++ decimal number

abbrev pub peer_line : PeerRule → List ℕ
peer_line rule = line (codes "error: rule ") (peer_words rule)

-- in the words below, Says holds of the line that went to `errors`
module _ (Says : List ℕ → Type 0) where
  -- the status is that of a rule and the line is the rule's, or memory was wanting for the line
  abbrev pub TellsRule : PeerRule → Status → Type 0
  TellsRule rule given = ((given ≡ status.Rule) × Says (peer_line rule))
      ⊎ ((given ≡ status.Memory) × Says (plain_line status.Memory))

  -- how a talk ends that was done or refused so
  abbrev pub TellsTalk : Result (Unit {0}) PeerRefusal → Status → Type 0
  TellsTalk (Ok done) given = (given ≡ status.Ok) × Says []
  TellsTalk (Err (Peer rule)) given = TellsRule rule given
  TellsTalk (Err (Other why)) given = TellsWhy Says why given
