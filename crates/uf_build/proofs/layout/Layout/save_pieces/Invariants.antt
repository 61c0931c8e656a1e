use Rattle.std.proofs.Common.{None, ◌≡◌, ℕ, ◌*◌, List, ◌++◌, length}
use Rattle.uf_build.specs.Answers.{OnlyBuilds}
use Rattle.uf_build.specs.Layouts.{Takes}
use Rattle.uf_build.proofs.layout.Layout.save_pieces.Given as goal

abbrev pub invariant-loop-left : goal.invariant-loop-left
invariant-loop-left g l = record {
  took : (done : List ℕ) × (l.bytes ≡ done ++ l.rest) × Takes g.S.X.BlockHash.block32 done l.initial.self l.self (g.S.Store.seen l.initial.store).told (g.S.Store.seen l.store).told l.initial.touches l.touches;
  profile : l.self.profile ≡ l.initial.self.profile;
  begun : l.self.begun.items ≡ l.initial.self.begun.items;
  left : length l.rest ≡ l.left * l.chunk;
  builds : OnlyBuilds g.S.X.BlockHash.block32 None (g.S.Store.seen l.initial.store) (g.S.Store.seen l.store);
}

abbrev pub decreases-loop-left : goal.decreases-loop-left
decreases-loop-left g l = l.left
