use Rattle.std.proofs.Common.{◌≡◌, ◌-◌, None}
use Rattle.uf_store.specs.Calls.{OnlySaves}
use Rattle.uf_store.specs.Faults.{NoneIsBad}
use Rattle.uf_tree.specs.Profiles.{most_bytes}
use Rattle.uf_host.specs.Reading.{FedFront}
use Rattle.uf_host.proofs.intake.feed_all.Given as goal

abbrev pub invariant-pieces : goal.invariant-pieces
invariant-pieces g l = record {
  front : FedFront g.S.X.BlockHash.block32 l.initial.builder.profile (g.S.Store.seen l.initial.store).told (g.S.Store.seen l.store).told (g.W.Host.tree l.initial.host) l.path l.builder l.offset;
  saves : OnlySaves g.S.X.BlockHash.block32 NoneIsBad None (g.S.Store.seen l.initial.store) (g.S.Store.seen l.store);
  told : g.W.Host.tree l.host ≡ g.W.Host.tree l.initial.host;
  reads : g.W.Host.read_faults l.host ≡ g.W.Host.read_faults l.initial.host;
  writes : g.W.Host.write_faults l.host ≡ g.W.Host.write_faults l.initial.host;
}

abbrev pub decreases-pieces : goal.decreases-pieces
decreases-pieces g l = most_bytes l.initial.builder.profile - l.offset
