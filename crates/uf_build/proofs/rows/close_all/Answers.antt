use Rattle.std.proofs.Common.{ℕ, List, subst}
use Rattle.uf_tree.specs.declared.nodes.Part.{Part}
use Rattle.uf_store.specs.Among.{SavesAmong}
use Rattle.uf_build.specs.Rows.{close_held}
use Rattle.uf_build.proofs.rows.close_all.Goals as goal

pub returns-clause-no_other : goal.returns-clause-no_other
returns-clause-no_other g c =
    let hash : List ℕ → List ℕ = g.S.X.BlockHash.block32 in
    let before = g.S.Store.seen c.args.store.now in
    let now = g.S.Store.seen c.close.new.store in
    subst (λ (rows : List (List Part)). SavesAmong hash (close_held hash c.args.meta.now rows c.args.last) before.told now.told) c.in_ok-with_row.ensures c.close.ensures.no_other
