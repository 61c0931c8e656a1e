-- Why a command ended with its status.
use Rattle.std.specs.Prelude.{◌≡◌, List, ℕ, ⊤}
use Rattle.uf_cid.specs.declared.cid.Cid.{Cid}
use Rattle.uf_command.specs.Natures.{own_store, uses_host, writes_host}
use Rattle.uf_command.specs.Lines.{bad_block_line, clash_line, missing_line}
use Rattle.uf_command.specs.declared.status.Status.{Status}
use Rattle.uf_command.specs.declared.status.Status.TheVariants as status
use Rattle.uf_command.specs.declared.types.Command.{Command}
use Rattle.uf_store.specs.Faults.{ShowsBadBlock, ShowsFailure}
use Rattle.uf_store.specs.declared.store.Role.{Role}
use Rattle.uf_top.specs.Around.{Around, RoseAt, Said}
use Rattle.uf_top.specs.Cars.{IsClashing, IsMissing}
use Rattle.uf_top.specs.Causes.{IsBadBlock, IsBadIn}
use Rattle.uf_top.specs.Endings.{IsNotReady, IsRule}

module _ (X : List ℕ → List ℕ) (N : List ℕ → ℕ) (before now : Around) where
  -- the cause of each status of a command, with its details in the line. It is a rule, a count that rose, a block that
  -- was missed, one that was found and isn't canonical in its role, two of one digest, or the bytes of the Head
  abbrev pub StatusShows : Command → Status → Type 0
  StatusShows command status.Ok = ⊤
  StatusShows command status.Rule = IsRule command before now
  StatusShows command status.Usage = ⊥
  StatusShows command status.StoreFault = ShowsFailure before.store now.store
  StatusShows command status.Missing = (cid : Cid)
      × IsMissing X (own_store command) before.left cid before.store now.store
      × Said before.errors now.errors (missing_line cid)
  StatusShows command status.BadBlock = (cid : Cid) × (role : Role)
      × ShowsBadBlock X (IsBadBlock N before.store.told) cid role before.store now.store
      × Said before.errors now.errors (bad_block_line cid role)
  StatusShows command status.ReadFault =
      RoseAt (uses_host command) before.reads now.reads before.host.reads now.host.reads
  StatusShows command status.WriteFault =
      RoseAt (writes_host command) before.writes now.writes before.host.writes now.host.writes
  StatusShows command status.Clash = (cid : Cid) × (held : List ℕ) × (bytes : List ℕ)
      × IsClashing X (own_store command) before.left cid held bytes before.store now.store
      × Said before.errors now.errors (clash_line cid held bytes)
  StatusShows command status.Memory = ⊤
  StatusShows command status.NotReady = IsNotReady command before now

  -- a block that was called bad isn't canonical where it lay: as a directory or a shard, or at its place in a file
  abbrev pub BlamesWhereRead : Status → Type 0
  BlamesWhereRead given = given ≡ status.BadBlock → (cid : Cid) × (role : Role)
      × ShowsBadBlock X (IsBadIn X N before.store.told now.store.told) cid role before.store now.store
      × Said before.errors now.errors (bad_block_line cid role)
