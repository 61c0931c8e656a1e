use Rattle.std.proofs.Common.{◌≡◌, ◌≤◌, ◌<◌, ◌+◌, ◌^◌, length, None, Some}
use Rattle.uf_car.specs.Importing.{GoesOn, OnlyImports}
use Rattle.uf_car.specs.Windows.{Ahead, ComesTo, ahead, window_bytes}
use Rattle.uf_car.proofs.importing.import_sections.Given as goal

abbrev pub invariant-loop-hashed : goal.invariant-loop-hashed
invariant-loop-hashed g l = record {
  ended : ComesTo l.window.supply (g.I.Source.left l.input);
  few : l.at + (length (window_bytes l.window) + l.window.room) < 2 ^ 64;
  blocks : l.blocks ≤ l.at;
  reads : (a : Ahead) → ahead l.initial.window (g.I.Source.left l.initial.input) ≡ Some a
      → GoesOn g.S.X.BlockHash.block32 l.initial.at a l.at (ahead l.window (g.I.Source.left l.input)) (g.S.Store.seen l.initial.store).told (g.S.Store.seen l.store).told l.blocks;
  imports : OnlyImports g.S.X.BlockHash.block32 None (g.S.Store.seen l.initial.store) (g.S.Store.seen l.store);
  counted : g.I.Source.faults l.input ≡ g.I.Source.faults l.initial.input;
}

abbrev pub decreases-loop-hashed : goal.decreases-loop-hashed
decreases-loop-hashed g l = length (window_bytes l.window) + l.window.room
