use Rattle.std.proofs.Common.{◌≡◌, [], List, Ok, subst, sym, ℕ}
use Rattle.uf_plain.specs.Edits.{at}
use Rattle.uf_plain.specs.Metas.{meta_edited}
use Rattle.uf_plain.specs.Rules.{allowed}
use Rattle.uf_mfs.specs.Steps.{MovesTree}
use Rattle.uf_tree.specs.Metas.{none}
use Rattle.uf_tree.specs.Tree.{Dir, Nothing}
use Rattle.uf_mfs.proofs.MetaEdits.{remade-edits, remade-touches, remakes-at}
use Rattle.uf_mfs.proofs.Settling.{moves-held, moves-tree, settled-same}
use Rattle.uf_store.specs.Among.{SavesAmong}
use Rattle.uf_mfs.specs.Saving.{SavesFolder, next_blocks}
use Rattle.uf_mfs.proofs.SavingActs.{for-edit}
use Rattle.uf_mfs.proofs.mfs.Mfs.remake.Goals as goal

pub returns-clause-lost : goal.returns-clause-lost
returns-clause-lost g c =
    let X = g.S.X.BlockHash.block32 in let N = g.N.NameHash.name64 in
    let a = g.S.Store.seen c.args.store.now in let b = g.S.Store.seen c.edited_root-edited.new.store in
    subst (λ (ns : List (List ℕ)). MovesTree X N a b [] c.args.self.now c.take_over.new.self ns (λ p es. allowed X N p (meta_edited c.args.what ns es)) c.take_over.result) c.as_slice-names.ensures
    (moves-tree X N a b c.as_slice-names.result.now c.args.self.now c.take_over.new.self (λ p es. allowed X N p (meta_edited c.args.what c.as_slice-names.result.now es)) c.edited_root-edited.result c.take_over.result c.take_over.ensures.settles (remade-edits X N c.args.self.now.profile a b c.args.self.now.root c.args.what c.as_slice-names.result.now c.edited_root-edited.result (c.edited_root-edited.ensures.edits (Dir (Nothing none)) tt)))

pub returns-clause-answer : goal.returns-clause-answer
returns-clause-answer g c = λ p es s faults clashes.
    let X = g.S.X.BlockHash.block32 in let N = g.N.NameHash.name64 in
    moves-held X N (g.S.Store.seen c.args.store.now) (g.S.Store.seen c.edited_root-edited.new.store) c.args.path.now.names c.args.self.now c.take_over.new.self (λ p es. allowed X N p (meta_edited c.args.what c.args.path.now.names es)) c.take_over.result c.edited_root-edited.ensures.saves.good
    (returns-clause-lost g c) p es s faults clashes

pub returns-clause-touches : goal.returns-clause-touches
returns-clause-touches g c = λ es o.
    let X = g.S.X.BlockHash.block32 in let N = g.N.NameHash.name64 in let p = c.args.self.now.profile in
    remade-touches X N p c.args.self.now.root c.args.what c.as_slice-names.result.now c.args.path.now.names es c.args.touches.now c.edited_root-edited.new.touches o.plan c.as_slice-names.ensures
    (c.edited_root-edited.ensures.touches (Dir (Nothing none)) (λ n. n) tt tt es o)

pub returns-clause-idle : goal.returns-clause-idle
returns-clause-idle g c = λ p es t s stood there same.
    let done = c.edited_root-edited.ensures.idle p es t s.root stood (subst (λ (ns : List (List ℕ)). at 0 ns (Dir es) ≡ Ok t) (sym c.as_slice-names.ensures) there) same in
    (done.0, settled-same c.as_slice-names.result.now c.edited_root-edited.result c.args.self.now c.take_over.new.self c.take_over.result c.take_over.ensures.settles c.take_over.ensures.stays.0 done.1)

pub returns-clause-no_other : goal.returns-clause-no_other
returns-clause-no_other g c =
    let X = g.S.X.BlockHash.block32 in let N = g.N.NameHash.name64 in let self = c.args.self.now in let q = self.profile in let names = c.as_slice-names.result.now in
    let a = g.S.Store.seen c.args.store.now in let b = g.S.Store.seen c.edited_root-edited.new.store in
    for-edit X N a b self (λ p es. next_blocks X N p (meta_edited c.args.what c.args.path.now.names es))
    (subst (λ (ns : List (List ℕ)). SavesFolder X N a b q [] self.root (λ es. next_blocks X N q (meta_edited c.args.what ns es))) c.as_slice-names.ensures (λ es plan h.
    subst (λ w. SavesAmong X (next_blocks X N q w) a.told b.told) (remakes-at X N q c.args.what names es) (c.edited_root-edited.ensures.no_other (Dir (Nothing none)) tt es plan h)))
