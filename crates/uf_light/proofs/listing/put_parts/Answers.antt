use Rattle.std.proofs.Common.{length, refl}
use Rattle.uf_light.proofs.Going.{put-all, put-more, put-none}
use Rattle.uf_light.proofs.listing.put_parts.Goals as goal

pub loop-i-init : goal.loop-i-init
loop-i-init c = put-none c.args.parts.now c.args.due.now

pub loop-i-preserved : goal.loop-i-preserved
loop-i-preserved c = put-more c.args.parts.now _ (length c.args.parts.now) c.loop-i.i c.args.due.now c.loop-i.due c.push.new.self refl c.loop-i-test.true c.loop-i.invariant c.in_ok-push.ensures.ok

pub returns : goal.returns
returns c = record { ok = put-all c.args.parts.now (length c.args.parts.now) c.loop-i.i c.args.due.now c.loop-i.due refl c.loop-i-test.false c.loop-i.invariant }
