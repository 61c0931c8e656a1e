use Rattle.std.proofs.Common.{◌≡◌, Contains}
use Rattle.uf_lines.specs.Reading.{GivesNone, HasEnded, TakesFew, bytes_ahead}
use Rattle.uf_lines.specs.Seeking.{readings}
use Rattle.uf_lines.proofs.lines.Lines.next.Given as goal

abbrev pub invariant-loop-line : goal.invariant-loop-line
invariant-loop-line g l = record {
  passed : l.self.used ≡ 0;
  none : GivesNone l.initial.self l.self (g.I.Source.left l.initial.input) (g.I.Source.left l.input);
  few : TakesFew l.initial.self l.self (g.I.Source.left l.initial.input) (g.I.Source.left l.input);
  ended : HasEnded l.self (g.I.Source.left l.input);
  same_most : l.self.most ≡ l.initial.self.most;
  counted : g.I.Source.faults l.input ≡ g.I.Source.faults l.initial.input;
  waits : Contains (bytes_ahead l.initial.self) 10 → (l.input ≡ l.initial.input) × (bytes_ahead l.self ≡ bytes_ahead l.initial.self);
}

abbrev pub decreases-loop-line : goal.decreases-loop-line
decreases-loop-line g l = readings l.self
