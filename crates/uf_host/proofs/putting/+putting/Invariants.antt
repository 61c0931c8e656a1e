use Rattle.std.proofs.Common.{◌≡◌, ◌+◌, ◌*◌, drop, None, Some}
use Rattle.uf_store.specs.Calls.{OnlyReads}
use Rattle.uf_store.specs.Contents.{Contents, held_at}
use Rattle.uf_store.specs.Faults.{NoneIsBad}
use Rattle.uf_tree.specs.Tree.{Entries}
use Rattle.uf_lenient.specs.Denoted.{AreDenoted}
use Rattle.uf_host.proofs.Members.{PutSome, Went}
use Rattle.uf_host.proofs.putting.+putting.Given as goal

abbrev pub decreases-put_tree : goal.decreases-put_tree
decreases-put_tree g l = 2 * l.room

abbrev pub decreases-put_members : goal.decreases-put_members
decreases-put_members g l = 2 * l.room + 1

abbrev pub invariant-put_members-loop-at : goal.invariant-put_members-loop-at
invariant-put_members-loop-at g l = record {
  some : (t : Contents) (es : Entries) → (g.S.Store.seen l.initial.store).told ≡ Some t → AreDenoted (held_at t) l.export.limits l.room l.ways es
      → PutSome (held_at t) l.export.limits l.room l.folder (drop l.at l.ways) es (g.W.Host.tree l.initial.host) (g.W.Host.tree l.host);
  went : Went l.folder (drop l.at l.ways) (g.W.Host.tree l.initial.host) (g.W.Host.tree l.host);
  shown : OnlyReads g.S.X.BlockHash.block32 NoneIsBad None (g.S.Store.seen l.initial.store) (g.S.Store.seen l.store);
  reads : g.W.Host.read_faults l.host ≡ g.W.Host.read_faults l.initial.host;
  writes : g.W.Host.write_faults l.host ≡ g.W.Host.write_faults l.initial.host;
}
