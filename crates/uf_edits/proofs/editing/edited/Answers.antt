use Rattle.std.proofs.Common.{[], refl, sym, ap, subst, ◌∙◌}
use Rattle.uf_mfs.specs.Moving.{copy_bound, move_bound}
use Rattle.uf_mfs.specs.Touches.{TouchesFolder}
use Rattle.uf_plain.specs.Edits.{made, removed}
use Rattle.uf_plain.specs.Files.{truncated, written}
use Rattle.uf_plain.specs.Rules.{allowed}
use Rattle.uf_command.specs.declared.types.Edit.{Edit}
use Rattle.uf_command.specs.declared.types.Edit.TheVariants.{Mkdir, Rm, Write, Truncate}
use Rattle.uf_edits.specs.Edits.{EditsInMemory}
use Rattle.uf_edits.proofs.Edits.{file-shown, idle-mkdir, idle-move, idle-write, told-edit, way-shown}
use Rattle.uf_edits.proofs.editing.edited.Goals as goal

pub returns-in-Mkdir-clause-edits : goal.returns-in-Mkdir-clause-edits
returns-in-Mkdir-clause-edits g c =
    let X = g.S.X.BlockHash.block32 in let N = g.N.NameHash.name64 in let names = c.args.path.now.names in let e = c.mkdir.ensures in
    let a = g.S.Store.seen c.args.store.now in let b = g.S.Store.seen c.mkdir.new.store in
    subst (λ (edit : Edit). EditsInMemory X N c.args.tree.now c.mkdir.new.self edit c.args.path.now c.mkdir.result a b c.args.touches.now c.mkdir.new.touches) (sym c.in-Mkdir.is)
    (told-edit X N c.args.tree.now c.mkdir.new.self c.args.path.now a b c.args.touches.now c.mkdir.new.touches c.mkdir.result
    (way-shown X N c.args.tree.now.profile c.mkdir.result a b c.args.tree.now.root.cid e.cause) e.touched e.good e.saves e.stays (Mkdir c.in-Mkdir.parents)
    (λ p es. allowed X N p (made c.in-Mkdir.parents names es)) (λ p es. refl) e.answer e.lost
    (λ p es over stood is. (let i = idle-mkdir c.in-Mkdir.parents names es is in e.there p es i.0 over stood i.1 i.2))
    (λ p rows same heights. e.touches p same) e.no_other)

pub returns-in-Rm-clause-edits : goal.returns-in-Rm-clause-edits
returns-in-Rm-clause-edits g c =
    let X = g.S.X.BlockHash.block32 in let N = g.N.NameHash.name64 in let names = c.args.path.now.names in let e = c.rm.ensures in
    let a = g.S.Store.seen c.args.store.now in let b = g.S.Store.seen c.rm.new.store in
    subst (λ (edit : Edit). EditsInMemory X N c.args.tree.now c.rm.new.self edit c.args.path.now c.rm.result a b c.args.touches.now c.rm.new.touches) (sym c.in-Rm.is)
    (told-edit X N c.args.tree.now c.rm.new.self c.args.path.now a b c.args.touches.now c.rm.new.touches c.rm.result
    (way-shown X N c.args.tree.now.profile c.rm.result a b c.args.tree.now.root.cid e.cause) e.touched e.good e.saves e.stays (Rm c.in-Rm.recursive)
    (λ p es. removed c.in-Rm.recursive names es) (λ p es. refl) e.answer e.lost
    (λ p es over stood is. absurd cc)
    (λ p rows same heights. e.touches p same) e.no_other)

pub returns-in-Write-clause-edits : goal.returns-in-Write-clause-edits
returns-in-Write-clause-edits g c =
    let X = g.S.X.BlockHash.block32 in let N = g.N.NameHash.name64 in let names = c.args.path.now.names in let e = c.write.ensures in
    let a = g.S.Store.seen c.args.store.now in let b = g.S.Store.seen c.write.new.store in
    subst (λ (edit : Edit). EditsInMemory X N c.args.tree.now c.write.new.self edit c.args.path.now c.write.result a b c.args.touches.now c.write.new.touches) (sym (c.in-Write.is ∙ ap (λ piece. Write c.in-Write.how piece) (sym c.as_slice.ensures)))
    (told-edit X N c.args.tree.now c.write.new.self c.args.path.now a b c.args.touches.now c.write.new.touches c.write.result
    (file-shown X N c.args.tree.now.profile c.write.result a b c.args.tree.now.root.cid e.cause) e.touched e.good e.saves e.stays (Write c.in-Write.how c.as_slice.result.now)
    (λ p es. allowed X N p (written c.in-Write.how c.as_slice.result.now names es)) (λ p es. refl) e.answer e.lost
    (λ p es over stood is. (let i = idle-write c.in-Write.how c.as_slice.result.now names es is in e.idle p es i.0 i.1 over stood i.2 i.3 i.4))
    (λ p rows same heights. e.touches p rows same heights) e.no_other)

pub returns-in-Truncate-clause-edits : goal.returns-in-Truncate-clause-edits
returns-in-Truncate-clause-edits g c =
    let X = g.S.X.BlockHash.block32 in let N = g.N.NameHash.name64 in let names = c.args.path.now.names in let e = c.truncate.ensures in
    let a = g.S.Store.seen c.args.store.now in let b = g.S.Store.seen c.truncate.new.store in
    subst (λ (edit : Edit). EditsInMemory X N c.args.tree.now c.truncate.new.self edit c.args.path.now c.truncate.result a b c.args.touches.now c.truncate.new.touches) (sym c.in-Truncate.is)
    (told-edit X N c.args.tree.now c.truncate.new.self c.args.path.now a b c.args.touches.now c.truncate.new.touches c.truncate.result
    (file-shown X N c.args.tree.now.profile c.truncate.result a b c.args.tree.now.root.cid e.cause) e.touched e.good e.saves e.stays (Truncate c.in-Truncate.length)
    (λ p es. allowed X N p (truncated c.in-Truncate.length names es)) (λ p es. refl) e.answer e.lost
    (λ p es over stood is. absurd cc)
    (λ p rows same heights. e.touches p rows same heights) e.no_other)

pub returns-in-Cp-clause-edits : goal.returns-in-Cp-clause-edits
returns-in-Cp-clause-edits g c =
    let X = g.S.X.BlockHash.block32 in let N = g.N.NameHash.name64 in let names = c.args.path.now.names in let e = c.cp.ensures in
    let was = c.args.tree.now in let dest = c.in-Cp.dest in
    let a = g.S.Store.seen c.args.store.now in let b = g.S.Store.seen c.cp.new.store in
    subst (λ (edit : Edit). EditsInMemory X N was c.cp.new.self edit c.args.path.now c.cp.result a b c.args.touches.now c.cp.new.touches) (sym c.in-Cp.is)
    (record {
      answers = λ p es at_tree calm. e.answer p es at_tree calm.faults calm.clashes;
      lost = e.lost;
      idle = λ p es over stood is. absurd cc;
      cause = way-shown X N was.profile c.cp.result a b was.root.cid e.cause;
      touches = λ p rows same heights.
          subst (λ q. TouchesFolder X N q a b [] was.root (copy_bound X N q names dest) c.args.touches.now c.cp.new.touches) same e.touches;
      touched = e.touched;
      stays = e.stays;
      good = e.good;
      saves = e.saves;
      no_other = e.no_other;
    })

pub returns-in-Mv-clause-edits : goal.returns-in-Mv-clause-edits
returns-in-Mv-clause-edits g c =
    let X = g.S.X.BlockHash.block32 in let N = g.N.NameHash.name64 in let names = c.args.path.now.names in let e = c.mv.ensures in
    let was = c.args.tree.now in let dest = c.in-Mv.dest in
    let a = g.S.Store.seen c.args.store.now in let b = g.S.Store.seen c.mv.new.store in
    subst (λ (edit : Edit). EditsInMemory X N was c.mv.new.self edit c.args.path.now c.mv.result a b c.args.touches.now c.mv.new.touches) (sym c.in-Mv.is)
    (record {
      answers = λ p es at_tree calm. e.answer p es at_tree calm.faults calm.clashes;
      lost = e.lost;
      idle = λ p es over stood is. e.itself p es over stood (idle-move names dest es is);
      cause = way-shown X N was.profile c.mv.result a b was.root.cid e.cause;
      touches = λ p rows same heights.
          subst (λ q. TouchesFolder X N q a b [] was.root (move_bound X N q names dest) c.args.touches.now c.mv.new.touches) same e.touches;
      touched = e.touched;
      stays = e.stays;
      good = e.good;
      saves = e.saves;
      no_other = e.no_other;
    })

pub returns-in-SetMeta-clause-edits : goal.returns-in-SetMeta-clause-edits
returns-in-SetMeta-clause-edits g c =
    let X = g.S.X.BlockHash.block32 in let N = g.N.NameHash.name64 in
    let a = g.S.Store.seen c.args.store.now in let b = g.S.Store.seen c.remade.new.store in
    subst (λ (edit : Edit). EditsInMemory X N c.args.tree.now c.remade.new.tree edit c.args.path.now c.remade.result a b c.args.touches.now c.remade.new.touches) (sym c.in-SetMeta.is) c.remade.ensures.edits
