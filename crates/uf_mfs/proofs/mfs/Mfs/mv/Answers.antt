use Rattle.std.proofs.Common.{Err, List, Ok, subst, ℕ, []}
use Rattle.std.proofs.lemmas.Result.{err_from_is_err_and}
use Rattle.uf_plain.specs.Moves.{allowed_move, carried}
use Rattle.uf_mfs.specs.declared.mfs.Mfs.{Mfs}
use Rattle.uf_mfs.specs.Moving.{MovesBy}
use Rattle.uf_mfs.proofs.Carrying.{moves-by-held, root-moves, root-stops}
use Rattle.uf_mfs.specs.Saving.{SavesFolder, moved_blocks}
use Rattle.uf_mfs.proofs.SavingActs.{for-edit}
use Rattle.uf_mfs.proofs.mfs.Mfs.mv.Goals as goal

pub returns-in_err-moved-clause-lost : goal.returns-in_err-moved-clause-lost
returns-in_err-moved-clause-lost g c =
    let X = g.S.X.BlockHash.block32 in let N = g.N.NameHash.name64 in let a = g.S.Store.seen c.args.store.now in let b = g.S.Store.seen c.moved_root.new.store in
    let dest = c.args.dest.now in let self = c.args.self.now in let out = err_from_is_err_and c.from_residual.result c.from_residual.ensures.1 in
    rw (out.1, out.2) (subst (λ (ns : List (List ℕ)). MovesBy X N a b self self (λ p es. allowed_move X N p (carried ns dest es)) (Err c.in_err-moved.field-0.0)) c.as_slice-names.ensures
    (root-stops X N a b self self c.in_err-moved.field-0.0 (λ p es. allowed_move X N p (carried c.as_slice-names.result.now dest es)) c.in_err-moved.ensures.moves))

pub returns-in_err-moved-clause-answer : goal.returns-in_err-moved-clause-answer
returns-in_err-moved-clause-answer g c = λ p es s faults clashes.
    let X = g.S.X.BlockHash.block32 in let N = g.N.NameHash.name64 in
    moves-by-held X N (g.S.Store.seen c.args.store.now) (g.S.Store.seen c.moved_root.new.store) c.args.self.now c.args.self.now (λ p es. allowed_move X N p (carried c.args.source.now.names c.args.dest.now es)) c.from_residual.result
    c.in_err-moved.ensures.saves.saves.good (returns-in_err-moved-clause-lost g c) p es s faults clashes

pub returns-clause-lost : goal.returns-clause-lost
returns-clause-lost g c =
    let X = g.S.X.BlockHash.block32 in let N = g.N.NameHash.name64 in let a = g.S.Store.seen c.args.store.now in let b = g.S.Store.seen c.moved_root.new.store in
    let dest = c.args.dest.now in let self = c.args.self.now in let is : Mfs = record { profile = self.profile; root = c.in_ok-moved.moved } in
    subst (λ (ns : List (List ℕ)). MovesBy X N a b self is (λ p es. allowed_move X N p (carried ns dest es)) (Ok tt)) c.as_slice-names.ensures
    (root-moves X N a b self c.in_ok-moved.moved (λ p es. allowed_move X N p (carried c.as_slice-names.result.now dest es)) c.in_ok-moved.ensures.moves)

pub returns-clause-answer : goal.returns-clause-answer
returns-clause-answer g c = λ p es s faults clashes.
    let X = g.S.X.BlockHash.block32 in let N = g.N.NameHash.name64 in
    moves-by-held X N (g.S.Store.seen c.args.store.now) (g.S.Store.seen c.moved_root.new.store) c.args.self.now (record { profile = c.args.self.now.profile; root = c.in_ok-moved.moved })
    (λ p es. allowed_move X N p (carried c.args.source.now.names c.args.dest.now es)) (Ok tt) c.in_ok-moved.ensures.saves.saves.good (returns-clause-lost g c) p es s faults clashes

pub returns-in_err-moved-clause-no_other : goal.returns-in_err-moved-clause-no_other
returns-in_err-moved-clause-no_other g c =
    let X = g.S.X.BlockHash.block32 in let N = g.N.NameHash.name64 in let self = c.args.self.now in let q = self.profile in
    let a = g.S.Store.seen c.args.store.now in let b = g.S.Store.seen c.moved_root.new.store in
    for-edit X N a b self (λ p es. moved_blocks X N p c.args.source.now.names es (carried c.args.source.now.names c.args.dest.now es))
    (subst (λ (ns : List (List ℕ)). SavesFolder X N a b q [] self.root (λ es. moved_blocks X N q ns es (carried ns c.args.dest.now es))) c.as_slice-names.ensures c.in_err-moved.ensures.no_other)

pub returns-clause-no_other : goal.returns-clause-no_other
returns-clause-no_other g c =
    let X = g.S.X.BlockHash.block32 in let N = g.N.NameHash.name64 in let self = c.args.self.now in let q = self.profile in
    let a = g.S.Store.seen c.args.store.now in let b = g.S.Store.seen c.moved_root.new.store in
    for-edit X N a b self (λ p es. moved_blocks X N p c.args.source.now.names es (carried c.args.source.now.names c.args.dest.now es))
    (subst (λ (ns : List (List ℕ)). SavesFolder X N a b q [] self.root (λ es. moved_blocks X N q ns es (carried ns c.args.dest.now es))) c.as_slice-names.ensures c.in_ok-moved.ensures.no_other)
