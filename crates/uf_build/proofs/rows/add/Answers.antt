use Rattle.std.proofs.Common.{◌≡◌, ℕ, List, ◌∷◌, Option, Some, sym, ◌∙◌, subst}
use Rattle.std.specs.Option.{option_to_list}
use Rattle.uf_tree.specs.declared.nodes.Part.{Part}
use Rattle.uf_store.specs.Among.{SavesAmong}
use Rattle.uf_build.specs.Rows.{add_held}
use Rattle.uf_build.proofs.rows.add.Goals as goal

pub returns-in-Some-clause-no_other : goal.returns-in-Some-clause-no_other
returns-in-Some-clause-no_other g c =
    let hash : List ℕ → List ℕ = g.S.X.BlockHash.block32 in
    let before = g.S.Store.seen c.args.store.now in
    let now = g.S.Store.seen c.push.new.store in
    let last : Some c.in-Some.before ≡ c.args.opened.now.last = sym c.in-Some.is ∙ c.replace.ensures.value in
    subst (λ (o : Option Part). SavesAmong hash (add_held hash c.args.width c.args.part (option_to_list o ∷ c.args.opened.now.rows.items)) before.told now.told) last c.push.ensures.no_other
