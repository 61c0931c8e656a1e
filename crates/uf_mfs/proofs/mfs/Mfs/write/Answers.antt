use Rattle.std.proofs.Common.{◌≡◌, [], List, Ok, ap, subst, sym, true, ℕ}
use Rattle.std.specs.Prelude.{not}
use Rattle.uf_tree.specs.declared.profile.Profile.{Profile}
use Rattle.uf_tree.specs.Metas.{none}
use Rattle.uf_tree.specs.Tree.{Dir, File, Nothing}
use Rattle.uf_plain.specs.Edits.{at}
use Rattle.uf_mfs.specs.Writes.{leaves_bytes}
use Rattle.uf_plain.specs.declared.file.FileEdit.TheVariants.{Write}
use Rattle.uf_plain.specs.Files.{written}
use Rattle.uf_plain.specs.Rules.{allowed}
use Rattle.uf_mfs.specs.Steps.{MovesTree}
use Rattle.uf_mfs.specs.Reading.{AreHeights}
use Rattle.uf_mfs.proofs.Fitting.{rewritten-edits, rewritten-touches}
use Rattle.uf_mfs.proofs.Settling.{moves-held, moves-tree, settled-same}
use Rattle.uf_store.specs.Among.{SavesAmong}
use Rattle.uf_mfs.specs.Saving.{SavesFolder, next_blocks}
use Rattle.uf_mfs.specs.Writes.{fitting_edit}
use Rattle.uf_mfs.proofs.SavingActs.{for-edit, writes-at}
use Rattle.uf_mfs.proofs.mfs.Mfs.write.Goals as goal

pub returns-clause-lost : goal.returns-clause-lost
returns-clause-lost g c =
    let X = g.S.X.BlockHash.block32 in let N = g.N.NameHash.name64 in
    let a = g.S.Store.seen c.args.store.now in let b = g.S.Store.seen c.edited_root-edited.new.store in
    subst (λ (ns : List (List ℕ)). MovesTree X N a b [] c.args.self.now c.take_over.new.self ns (λ p es. allowed X N p (written c.args.how.now c.args.piece.now ns es)) c.take_over.result) c.as_slice-names.ensures
    (moves-tree X N a b c.as_slice-names.result.now c.args.self.now c.take_over.new.self (λ p es. allowed X N p (written c.args.how.now c.args.piece.now c.as_slice-names.result.now es)) c.edited_root-edited.result c.take_over.result c.take_over.ensures.settles (rewritten-edits X N c.args.self.now.profile a b c.args.self.now.root (Write c.args.how.now) c.args.piece.now c.as_slice-names.result.now c.edited_root-edited.result (c.edited_root-edited.ensures.edits (Dir (Nothing none)) tt)))

pub returns-clause-answer : goal.returns-clause-answer
returns-clause-answer g c = λ p es s faults clashes.
    let X = g.S.X.BlockHash.block32 in let N = g.N.NameHash.name64 in
    moves-held X N (g.S.Store.seen c.args.store.now) (g.S.Store.seen c.edited_root-edited.new.store) c.args.path.now.names c.args.self.now c.take_over.new.self (λ p es. allowed X N p (written c.args.how.now c.args.piece.now c.args.path.now.names es)) c.take_over.result c.edited_root-edited.ensures.saves.good
    (returns-clause-lost g c) p es s faults clashes

pub returns-clause-touches : goal.returns-clause-touches
returns-clause-touches g c = λ p rows same heights.
    let X = g.S.X.BlockHash.block32 in let N = g.N.NameHash.name64 in let own = c.args.self.now.profile in
    rewritten-touches X N own p c.args.self.now.root (Write c.args.how.now) c.args.piece.now rows c.as_slice-names.result.now c.args.path.now.names c.args.touches.now c.edited_root-edited.new.touches same c.as_slice-names.ensures
    (c.edited_root-edited.ensures.touches (Dir (Nothing none)) rows tt (subst (λ (q : Profile). AreHeights q rows) (sym same) heights))

pub returns-clause-idle : goal.returns-clause-idle
returns-clause-idle g c = λ p es m bytes s stood empty keep there.
    let left : leaves_bytes (Write c.args.how.now) c.args.piece.now ≡ true = subst (λ (x : List ℕ). leaves_bytes (Write c.args.how.now) x ≡ true) (sym empty) (ap not keep) in
    let done = c.edited_root-edited.ensures.idle p es (File m bytes) s.root stood (subst (λ (ns : List (List ℕ)). at 0 ns (Dir es) ≡ Ok (File m bytes)) (sym c.as_slice-names.ensures) there) left in
    (done.0, settled-same c.as_slice-names.result.now c.edited_root-edited.result c.args.self.now c.take_over.new.self c.take_over.result c.take_over.ensures.settles c.take_over.ensures.stays.0 done.1)

pub returns-clause-no_other : goal.returns-clause-no_other
returns-clause-no_other g c =
    let X = g.S.X.BlockHash.block32 in let N = g.N.NameHash.name64 in let self = c.args.self.now in let q = self.profile in let names = c.as_slice-names.result.now in
    let a = g.S.Store.seen c.args.store.now in let b = g.S.Store.seen c.edited_root-edited.new.store in
    for-edit X N a b self (λ p es. next_blocks X N p (fitting_edit p (Write c.args.how.now) c.args.piece.now c.args.path.now.names es))
    (subst (λ (ns : List (List ℕ)). SavesFolder X N a b q [] self.root (λ es. next_blocks X N q (fitting_edit q (Write c.args.how.now) c.args.piece.now ns es))) c.as_slice-names.ensures (λ es plan h.
    subst (λ w. SavesAmong X (next_blocks X N q w) a.told b.told) (writes-at X N q (Write c.args.how.now) c.args.piece.now (Dir (Nothing none)) names es) (c.edited_root-edited.ensures.no_other (Dir (Nothing none)) tt es plan h)))
