use Rattle.std.proofs.Common.{◌+◌, ◌≤◌, List, length, subst}
use Rattle.uf_tree.specs.Nodes.{Named}
use Rattle.uf_dir.specs.Bounds.{IsFree}
use Rattle.uf_dir.specs.Planned.{own_blocks}
use Rattle.uf_store.specs.Among.{SavesAmong}
use Rattle.uf_dir.proofs.editing.put_basic.Goals as goal

pub returns-clause-early : goal.returns-clause-early
returns-clause-early g c = subst (λ (l : List Named). IsFree g.N.NameHash.name64 c.args.p.now l c.args.touches.now c.build.new.touches) c.in_ok-changed.ensures.pairs c.build.ensures.early

pub returns-clause-touches : goal.returns-clause-touches
returns-clause-touches g c = subst (λ (l : List Named). c.build.new.touches ≤ c.args.touches.now + length (own_blocks g.S.X.BlockHash.block32 g.N.NameHash.name64 c.args.p.now c.args.node.now.meta l)) c.in_ok-changed.ensures.pairs c.build.ensures.touches

pub returns-clause-no_other : goal.returns-clause-no_other
returns-clause-no_other g c = subst (λ (l : List Named). SavesAmong g.S.X.BlockHash.block32 (own_blocks g.S.X.BlockHash.block32 g.N.NameHash.name64 c.args.p.now c.args.node.now.meta l) (g.S.Store.seen c.args.store.now).told (g.S.Store.seen c.build.new.store).told) c.in_ok-changed.ensures.pairs c.build.ensures.no_other
