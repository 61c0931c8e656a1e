use Rattle.std.proofs.Common.{arith, inl, inr}
use Rattle.uf_lines.proofs.Lookings.{feed_gives, feed_too_long}
use Rattle.uf_lines.proofs.lines.Lines.at_feed.Goals as goal
use Rattle.uf_lines.proofs.lines.Lines.at_feed.Goals.{then-self-via-then-self, then-self-via-else-self+then-self-2}

pub returns-then-self : goal.returns-then-self
returns-then-self c =
    feed_too_long c.args.self.now c.requires.passed c.requires.stands
    (elim c.then-self.branch [ then-self-via-then-self w ↦ inl w.if-self.true | then-self-via-else-self+then-self-2 w ↦ inr w.if-self-2.true ])

pub returns : goal.returns
returns c = feed_gives c.args.self.now c.requires.passed c.give.new.self c.requires.stands (omega arith) (omega arith) c.give.ensures
