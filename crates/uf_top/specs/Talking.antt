-- What `pull` and `serve` did, which talk with a peer over the input and the output.
use Rattle.std.specs.Prelude.{◌≡◌, ℕ, List, OnOk, IfSome}
use Rattle.std.specs.declared.option.Option.TheVariants.{Some}
use Rattle.std.specs.declared.result.Result.{Result}
use Rattle.uf_cid.specs.declared.cid.Cid.{Cid}
use Rattle.uf_edge.specs.Counts.{Counts}
use Rattle.uf_mfs.specs.Standing.{TellsAs, head_in}
use Rattle.uf_pull.specs.Due.{due}
use Rattle.uf_pull.specs.Pulling.{IsDoneLast, IsPulling, IsSaveOrSync, Pulls}
use Rattle.uf_pull.specs.Reading.{is_pull_read, is_pull_sink, pull_fault}
use Rattle.uf_pull.specs.Serving.{IsServing, ServesLines, WritesBytes, is_serve_read, is_serve_sink, serve_fault}
use Rattle.uf_pull.specs.Wants.{asked_in}
use Rattle.uf_pull.specs.Wholes.{AsksForUnheld}
use Rattle.uf_pull.specs.declared.fault.PullFault.{PullFault}
use Rattle.uf_pull.specs.declared.fault.ServeFault.{ServeFault}
use Rattle.uf_command.specs.Peers.{TellsTalk, most_of_wants, most_pulled, pull_end, serve_end}
use Rattle.uf_command.specs.declared.status.Status.{Status}
use Rattle.uf_store.specs.Contents.{Contents, held_at}
use Rattle.uf_store.specs.Faults.{NoneIsBad, Shown}
use Rattle.uf_store.specs.Keeping.{KeepsGood}
use Rattle.uf_store.specs.Writing.{Wrote}
use Rattle.uf_top.specs.Around.{Around, Said}
use Rattle.uf_tree.specs.Standing.{Standing}

module _ (X : List ℕ → List ℕ) (N : List ℕ → ℕ) where
  -- what `pull` did: how it ended, what was asked for and kept, and that the tree stands as before
  pub record RunsPull (cid : Cid) (given : Status) (before now : Around) : Type 0 where
    -- how the pull ended, which the status and the line report
    pub done : Result ℕ PullFault
    pub tells : TellsTalk (Said before.errors now.errors) (pull_end done) given
    -- over a store and an input that tell, what is due was asked for and kept, and it ended so; a failure leaves a
    -- prefix
    pub pulls : (t : Contents) (bytes : List ℕ) → before.store.told ≡ Some t → before.left ≡ Some bytes
        → Pulls (due X most_pulled cid (held_at t) bytes) bytes done t now.store.told before.held now.held now.left
    -- however it ended, no byte of `done` is written unless all blocks were kept and then synced
    pub last : (t : Contents) (bytes : List ℕ) → before.store.told ≡ Some t → before.left ≡ Some bytes
        → IsDoneLast (due X most_pulled cid (held_at t) bytes) t now.store.told before.held now.held
    -- after Ok all below the CID is held, and exactly what of it wasn't held was asked for
    pub wants : (t u : Contents) (bytes : List ℕ) → before.store.told ≡ Some t → before.left ≡ Some bytes
        → now.store.told ≡ Some u → OnOk done (AsksForUnheld most_pulled cid (held_at t) (held_at u)
        (due X most_pulled cid (held_at t) bytes).wants)
    -- whatever failed, some bytes were written after what was there
    pub some : WritesBytes before.held now.held
    -- each fault has its cause, and none is a missing block
    pub cause : Shown X NoneIsBad (pull_fault done) before.store now.store
    pub fault : IfSome (pull_fault done) IsPulling
    pub reads : Counts (is_pull_read done) before.reads now.reads
    pub writes : Counts (is_pull_sink done) before.writes now.writes
    -- blocks that were good stay, nothing but blocks and syncs is written, and the tree and the host are as before
    pub good : KeepsGood X before.store.told now.store.told
    pub saves : Wrote X IsSaveOrSync before.store.told now.store.told
    pub head : head_in now.store.told ≡ head_in before.store.told
    pub stands : (standing : Standing) → TellsAs X N before.store.told standing → TellsAs X N now.store.told standing
    pub host : now.host ≡ before.host

  -- what `serve` did: how it ended, one frame for each line that asked for a block, and that nothing was kept
  pub record RunsServe (given : Status) (before now : Around) : Type 0 where
    -- how the answering ended, which the status and the line report
    pub done : Result ℕ ServeFault
    pub tells : TellsTalk (Said before.errors now.errors) (serve_end done) given
    -- over a store and an input that tell, a frame was written for each block that is asked for, and it ended as the
    -- lines do; a failure leaves a prefix
    pub frames : (t : Contents) (bytes : List ℕ) → before.store.told ≡ Some t → before.left ≡ Some bytes
        → ServesLines (held_at t) (asked_in most_of_wants bytes) done before.held now.held
    -- whatever failed, some bytes were written after what was there
    pub some : WritesBytes before.held now.held
    -- each fault has its cause, and none is a missing block
    pub cause : Shown X NoneIsBad (serve_fault done) before.store now.store
    pub fault : IfSome (serve_fault done) IsServing
    pub reads : Counts (is_serve_read done) before.reads now.reads
    pub writes : Counts (is_serve_sink done) before.writes now.writes
    -- what the store tells and the host are as before
    pub told : now.store.told ≡ before.store.told
    pub host : now.host ≡ before.host
