use Rattle.std.proofs.Common.{None, ◌≡◌, ◌*◌, [], take}
use Rattle.uf_build.specs.Answers.{OnlyBuilds}
use Rattle.uf_build.specs.Layouts.{Takes}
use Rattle.uf_build.proofs.layout.Layout.save_group.Given as goal

abbrev pub invariant-loop-i : goal.invariant-loop-i
invariant-loop-i g l = record {
  took : Takes g.S.X.BlockHash.block32 (take (l.i * l.chunk) l.bytes) l.initial.self l.self (g.S.Store.seen l.initial.store).told (g.S.Store.seen l.store).told l.initial.touches l.touches;
  profile : l.self.profile ≡ l.initial.self.profile;
  begun : l.self.begun.items ≡ [];
  builds : OnlyBuilds g.S.X.BlockHash.block32 None (g.S.Store.seen l.initial.store) (g.S.Store.seen l.store);
}
