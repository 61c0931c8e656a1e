use Rattle.std.proofs.Common.{◌≡◌, ◌≢◌, ◌⊎◌, [], None}
use Rattle.uf_store.specs.Calls.{OnlyReads}
use Rattle.uf_store.specs.Faults.{NoneIsBad}
use Rattle.uf_host.proofs.FilePuts.{PutSoFar}
use Rattle.uf_host.proofs.putting.put_pieces.Given as goal

abbrev pub invariant-loop-piece : goal.invariant-loop-piece
invariant-loop-piece g l = record {
  so_far : PutSoFar (g.S.Store.seen l.initial.store).told l.path l.initial.pieces l.pieces (g.W.Host.tree l.initial.host) (g.W.Host.tree l.host);
  named : (l.pieces ≡ l.initial.pieces) ⊎ (l.path ≢ []);
  shown : OnlyReads g.S.X.BlockHash.block32 NoneIsBad None (g.S.Store.seen l.initial.store) (g.S.Store.seen l.store);
  reads : g.W.Host.read_faults l.host ≡ g.W.Host.read_faults l.initial.host;
  writes : g.W.Host.write_faults l.host ≡ g.W.Host.write_faults l.initial.host;
}

abbrev pub decreases-loop-piece : goal.decreases-loop-piece
decreases-loop-piece g l = l.pieces.1
