use Rattle.std.proofs.Common.{ℕ, List, subst}
use Rattle.uf_tree.specs.FilePlan.{file_plan}
use Rattle.uf_tree.specs.declared.meta.Meta.{Meta}
use Rattle.uf_store.specs.Among.{SavesAmong}
use Rattle.uf_build.proofs.builder.Builder.finish.Goals as goal

pub returns-clause-no_other : goal.returns-clause-no_other
returns-clause-no_other g c = λ bytes h.
    let hash : List ℕ → List ℕ = g.S.X.BlockHash.block32 in
    let before = g.S.Store.seen c.args.store.now in
    let now = g.S.Store.seen c.finish_with.new.store in
    subst (λ (m : Meta). SavesAmong hash (file_plan hash c.args.self.profile m bytes).blocks before.told now.told) c.none.ensures (c.finish_with.ensures.no_other bytes h)
