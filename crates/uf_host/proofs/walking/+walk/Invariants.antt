use Rattle.std.proofs.Common.{◌≡◌, ◌+◌, ◌*◌, take, None}
use Rattle.uf_store.specs.Calls.{OnlySaves}
use Rattle.uf_store.specs.Faults.{NoneIsBad}
use Rattle.uf_host.specs.Adding.{IsOfMembers}
use Rattle.uf_host.proofs.walking.+walk.Given as goal

abbrev pub decreases-add_at : goal.decreases-add_at
decreases-add_at g l = 5 * l.levels + 4

abbrev pub decreases-add_below : goal.decreases-add_below
decreases-add_below g l = 5 * l.levels + 3

abbrev pub decreases-add_folder : goal.decreases-add_folder
decreases-add_folder g l = 5 * l.levels + 2

abbrev pub decreases-add_members : goal.decreases-add_members
decreases-add_members g l = 5 * l.levels + 6

abbrev pub decreases-add_member : goal.decreases-add_member
decreases-add_member g l = 5 * l.levels + 5

abbrev pub invariant-add_members-loop-at : goal.invariant-add_members-loop-at
invariant-add_members-loop-at g l = record {
  of : IsOfMembers g.S.X.BlockHash.block32 g.N.NameHash.name64 l.initial.import.profile (g.S.Store.seen l.initial.store).told (g.S.Store.seen l.store).told (g.W.Host.tree l.initial.host) l.levels l.site (take l.at l.listed) l.initial.import.rows l.import.rows l.pairs;
  profile : l.import.profile ≡ l.initial.import.profile;
  saves : OnlySaves g.S.X.BlockHash.block32 NoneIsBad None (g.S.Store.seen l.initial.store) (g.S.Store.seen l.store);
  told : g.W.Host.tree l.host ≡ g.W.Host.tree l.initial.host;
  reads : g.W.Host.read_faults l.host ≡ g.W.Host.read_faults l.initial.host;
  writes : g.W.Host.write_faults l.host ≡ g.W.Host.write_faults l.initial.host;
}
