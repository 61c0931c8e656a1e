use Rattle.std.proofs.Common.{rules, ◌∙◌}
use Rattle.uf_walk.proofs.Piles.{put-full, still-piled}
use Rattle.uf_walk.proofs.ahead.put_on_top.Goals as goal

pub returns-clause-ok : goal.returns-clause-ok
returns-clause-ok c = put-full c.args.below.now.items _ _ c.args.top.now c.replace.result c.replace.new.dest c.args.cid c.push_reserved.ensures.items c.in_ok-reserve.ensures.items c.replace.ensures.value (c.replace.ensures.after ∙ c.in_ok-fresh.ensures)

pub returns-clause-piled : goal.returns-clause-piled
returns-clause-piled c = still-piled c.args.below.now.items _ _ c.args.top.now c.replace.result c.replace.new.dest c.args.cid c.push_reserved.ensures.items c.in_ok-reserve.ensures.items c.replace.ensures.value (c.replace.ensures.after ∙ c.in_ok-fresh.ensures) c.requires.some (search rules)
