use Rattle.std.proofs.Common.{◌∙◌, refl}
use Rattle.uf_lines.proofs.Steps.{counts_of, few_from, few_read, none_read, wants_none}
use Rattle.uf_lines.proofs.lines.Lines.next.Goals as goal

pub returns-in-Some-clause-counts : goal.returns-in-Some-clause-counts
returns-in-Some-clause-counts g c = counts_of _ _ _ c.in-Some.ensures.says.no_fault c.loop-line.invariant.counted

pub returns-in-Some-read_more-clause-few : goal.returns-in-Some-read_more-clause-few
returns-in-Some-read_more-clause-few g c =
    few_from c.args.self.now c.pass.new.self _ _ _ c.pass.ensures.same_bytes c.pass.ensures.same_room
    (few_read c.pass.new.self _ _ _ _ _ _ c.loop-line.invariant.few c.in_default.ensures.says c.read_more.ensures.reads.few)

pub loop-line-preserved : goal.loop-line-preserved
loop-line-preserved g c =
    let reads = c.read_more.ensures.reads in
    let inv = c.loop-line.invariant in
    let wants = c.in_default.ensures.says in
    record {
      passed = reads.passed;
      none = none_read c.pass.new.self _ _ _ _ _ _ inv.none wants reads.none;
      few = few_read c.pass.new.self _ _ _ _ _ _ inv.few wants reads.few;
      ended = reads.ended;
      same_most = reads.same_most ∙ c.in_default.ensures.same_most ∙ inv.same_most;
      counted = c.in_default-read_more.ensures.counts.still refl ∙ inv.counted;
      waits = λ there. absurd (wants_none c.pass.new.self _ _ wants (inv.waits there).1 there);
    }
