use Rattle.std.proofs.Common.{◌≤◌, arith}
use Rattle.uf_tree.proofs.Told.{kept}
use Rattle.uf_dir.proofs.Changing.{left-basic, left-light}
use Rattle.std.proofs.Common.{List, [], ◌∷◌, subst}
use Rattle.uf_store.specs.Among.{SavesAmong}
use Rattle.uf_tree.specs.Nodes.{Named}
use Rattle.uf_dir.specs.Planned.{dir_held}
use Rattle.uf_dir.proofs.Edited.{left-some}
use Rattle.uf_dir.proofs.editing.remove_basic.Goals as goal

pub save_basic-requires-clause-light : goal.save_basic-requires-clause-light
save_basic-requires-clause-light g c = let most : c.args.p.now.threshold ≤ 1048576 = (kept c.args.p.now c.requires.profile).threshold in
    left-light c.args.name.now c.args.node.now.pairs c.in-Some.left _ c.in-Some.is c.in_ok-rest.ensures.pairs 1048576 (omega (arith, most, c.requires.light))

pub returns-in_ok-entry-in-Some-clause-takes : goal.returns-in_ok-entry-in-Some-clause-takes
returns-in_ok-entry-in-Some-clause-takes g c = left-basic c.args.name.now c.args.node.now.pairs c.in-Some.left _ c.in-Some.is c.in_ok-rest.ensures.pairs g.S.X.BlockHash.block32 g.N.NameHash.name64 c.args.p.now c.args.node.now.meta c.in_ok-entry-in-Some.entry (g.S.Store.seen c.save_basic.new.store).told
    c.requires.light (c.in_ok-entry-in-Some.ensures.entry g.N.NameHash.name64) c.in_ok-entry-in-Some.ensures.held

pub returns-in_err-entry-in-Some-clause-no_other : goal.returns-in_err-entry-in-Some-clause-no_other
returns-in_err-entry-in-Some-clause-no_other g c = subst (λ (l : List Named). SavesAmong g.S.X.BlockHash.block32 (dir_held g.S.X.BlockHash.block32 c.args.node.now.meta l ∷ []) (g.S.Store.seen c.args.store.now).told (g.S.Store.seen c.save_basic.new.store).told)
    (left-some c.args.name.now c.args.node.now.pairs c.in-Some.left _ c.in-Some.is c.in_ok-rest.ensures.pairs) c.save_basic.ensures.no_other

pub returns-in_ok-entry-in-Some-clause-no_other : goal.returns-in_ok-entry-in-Some-clause-no_other
returns-in_ok-entry-in-Some-clause-no_other g c = subst (λ (l : List Named). SavesAmong g.S.X.BlockHash.block32 (dir_held g.S.X.BlockHash.block32 c.args.node.now.meta l ∷ []) (g.S.Store.seen c.args.store.now).told (g.S.Store.seen c.save_basic.new.store).told)
    (left-some c.args.name.now c.args.node.now.pairs c.in-Some.left _ c.in-Some.is c.in_ok-rest.ensures.pairs) c.save_basic.ensures.no_other
