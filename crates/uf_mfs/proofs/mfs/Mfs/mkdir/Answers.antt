use Rattle.std.proofs.Common.{[], List, subst, ℕ}
use Rattle.uf_plain.specs.Edits.{made}
use Rattle.uf_plain.specs.Rules.{allowed}
use Rattle.uf_mfs.specs.Steps.{MovesTree}
use Rattle.uf_mfs.proofs.Settling.{moves-held, moves-tree}
use Rattle.uf_mfs.specs.Saving.{SavesFolder, next_blocks}
use Rattle.uf_mfs.proofs.SavingActs.{for-edit}
use Rattle.uf_mfs.proofs.mfs.Mfs.mkdir.Goals as goal

pub returns-clause-lost : goal.returns-clause-lost
returns-clause-lost g c =
    let X = g.S.X.BlockHash.block32 in let N = g.N.NameHash.name64 in
    let a = g.S.Store.seen c.args.store.now in let b = g.S.Store.seen c.root_with_dirs-edited.new.store in
    subst (λ (ns : List (List ℕ)). MovesTree X N a b [] c.args.self.now c.take_over.new.self ns (λ p es. allowed X N p (made c.args.parents ns es)) c.take_over.result) c.as_slice-names.ensures
    (moves-tree X N a b c.as_slice-names.result.now c.args.self.now c.take_over.new.self (λ p es. allowed X N p (made c.args.parents c.as_slice-names.result.now es)) c.root_with_dirs-edited.result c.take_over.result c.take_over.ensures.settles c.root_with_dirs-edited.ensures.edits)

pub returns-clause-answer : goal.returns-clause-answer
returns-clause-answer g c = λ p es s faults clashes.
    let X = g.S.X.BlockHash.block32 in let N = g.N.NameHash.name64 in
    moves-held X N (g.S.Store.seen c.args.store.now) (g.S.Store.seen c.root_with_dirs-edited.new.store) c.args.path.now.names c.args.self.now c.take_over.new.self (λ p es. allowed X N p (made c.args.parents c.args.path.now.names es)) c.take_over.result c.root_with_dirs-edited.ensures.saves.good
    (returns-clause-lost g c) p es s faults clashes

pub returns-clause-no_other : goal.returns-clause-no_other
returns-clause-no_other g c =
    let X = g.S.X.BlockHash.block32 in let N = g.N.NameHash.name64 in let self = c.args.self.now in let q = self.profile in let names = c.as_slice-names.result.now in
    let a = g.S.Store.seen c.args.store.now in let b = g.S.Store.seen c.root_with_dirs-edited.new.store in
    for-edit X N a b self (λ p es. next_blocks X N p (made c.args.parents c.args.path.now.names es))
    (subst (λ (ns : List (List ℕ)). SavesFolder X N a b q [] self.root (λ es. next_blocks X N q (made c.args.parents ns es))) c.as_slice-names.ensures (c.root_with_dirs-edited.ensures.no_other))
