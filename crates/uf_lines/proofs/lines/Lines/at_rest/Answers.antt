use Rattle.std.proofs.Common.{arith, inl, inr}
use Rattle.uf_lines.proofs.Lookings.{rest_ends, rest_gives, rest_too_long, rest_wants}
use Rattle.uf_lines.proofs.lines.Lines.at_rest.Goals as goal
use Rattle.uf_lines.proofs.lines.Lines.at_rest.Goals.{then-self-via-then-self, then-self-via-else-self+then-self-2}

pub returns-then-self : goal.returns-then-self
returns-then-self c =
    rest_too_long c.args.self.now c.requires.passed c.requires.stands
    (elim c.then-self.branch [ then-self-via-then-self w ↦ inl w.if-self.true | then-self-via-else-self+then-self-2 w ↦ inr w.if-self-2.true ])

pub returns-then-not-self : goal.returns-then-not-self
returns-then-not-self c = rest_wants c.args.self.now c.requires.passed c.requires.stands c.if-not-self.true (omega arith) (omega arith)

pub returns-then-self-eq0 : goal.returns-then-self-eq0
returns-then-self-eq0 c = rest_ends c.args.self.now c.requires.passed c.requires.stands c.if-not-self.false c.if-self-eq0.true

pub returns : goal.returns
returns c = rest_gives c.args.self.now c.requires.passed c.requires.stands c.give.new.self c.if-not-self.false (omega arith) (omega arith) (omega arith) c.give.ensures
