use Rattle.std.proofs.Common.{◌+◌, ◌*◌, [], length, refl, sym, subst}
use Rattle.uf_mfs.specs.Touches.{TouchesFolder}
use Rattle.uf_plain.specs.Edits.{at}
use Rattle.uf_plain.specs.Metas.{meta_edited}
use Rattle.uf_plain.specs.Rules.{allowed}
use Rattle.uf_plain.specs.declared.meta_edit.MetaEdit.{MetaEdit}
use Rattle.uf_plain.specs.declared.meta_edit.MetaEdit.TheVariants.{Mode, Modified, Strip}
use Rattle.uf_tree.specs.Tree.{Dir}
use Rattle.uf_command.specs.declared.types.Edit.TheVariants.{SetMeta}
use Rattle.uf_edits.specs.Edits.{EditsInMemory}
use Rattle.uf_command.proofs.SameMeta.{meta-there}
use Rattle.uf_edits.proofs.Edits.{root-shown, told-edit}
use Rattle.uf_edits.proofs.editing.remade.Goals as goal

pub returns-in-Mode-clause-edits : goal.returns-in-Mode-clause-edits
returns-in-Mode-clause-edits g c =
    let X = g.S.X.BlockHash.block32 in let N = g.N.NameHash.name64 in let names = c.args.path.now.names in let e = c.set_mode.ensures in
    let was = c.args.tree.now in let what = Mode c.in-Mode.mode in
    let a = g.S.Store.seen c.args.store.now in let b = g.S.Store.seen c.set_mode.new.store in
    subst (λ (what : MetaEdit). EditsInMemory X N was c.set_mode.new.self (SetMeta what) c.args.path.now c.set_mode.result a b c.args.touches.now c.set_mode.new.touches) (sym c.in-Mode.is)
    (told-edit X N was c.set_mode.new.self c.args.path.now a b c.args.touches.now c.set_mode.new.touches c.set_mode.result
    (root-shown X N was.profile c.set_mode.result a b was.root.cid e.cause) e.touched e.good e.saves e.stays (SetMeta what)
    (λ p es. allowed X N p (meta_edited what names es)) (λ p es. refl) e.answer e.lost
    (λ p es over stood is. (let i = meta-there what (at 0 names (Dir es)) is in e.idle p es i.0 over stood i.1 i.2))
    (λ p rows same heights. subst (λ q. TouchesFolder X N q a b [] was.root (λ es. 64 * (length names + 3)) c.args.touches.now c.set_mode.new.touches) same e.touches) e.no_other)

pub returns-in-Modified-clause-edits : goal.returns-in-Modified-clause-edits
returns-in-Modified-clause-edits g c =
    let X = g.S.X.BlockHash.block32 in let N = g.N.NameHash.name64 in let names = c.args.path.now.names in let e = c.set_mtime.ensures in
    let was = c.args.tree.now in let what = Modified c.in-Modified.mtime in
    let a = g.S.Store.seen c.args.store.now in let b = g.S.Store.seen c.set_mtime.new.store in
    subst (λ (what : MetaEdit). EditsInMemory X N was c.set_mtime.new.self (SetMeta what) c.args.path.now c.set_mtime.result a b c.args.touches.now c.set_mtime.new.touches) (sym c.in-Modified.is)
    (told-edit X N was c.set_mtime.new.self c.args.path.now a b c.args.touches.now c.set_mtime.new.touches c.set_mtime.result
    (root-shown X N was.profile c.set_mtime.result a b was.root.cid e.cause) e.touched e.good e.saves e.stays (SetMeta what)
    (λ p es. allowed X N p (meta_edited what names es)) (λ p es. refl) e.answer e.lost
    (λ p es over stood is. (let i = meta-there what (at 0 names (Dir es)) is in e.idle p es i.0 over stood i.1 i.2))
    (λ p rows same heights. subst (λ q. TouchesFolder X N q a b [] was.root (λ es. 64 * (length names + 3)) c.args.touches.now c.set_mtime.new.touches) same e.touches) e.no_other)

pub returns-in-Strip-clause-edits : goal.returns-in-Strip-clause-edits
returns-in-Strip-clause-edits g c =
    let X = g.S.X.BlockHash.block32 in let N = g.N.NameHash.name64 in let names = c.args.path.now.names in let e = c.strip.ensures in
    let was = c.args.tree.now in let what = Strip in
    let a = g.S.Store.seen c.args.store.now in let b = g.S.Store.seen c.strip.new.store in
    subst (λ (what : MetaEdit). EditsInMemory X N was c.strip.new.self (SetMeta what) c.args.path.now c.strip.result a b c.args.touches.now c.strip.new.touches) (sym c.in-Strip.is)
    (told-edit X N was c.strip.new.self c.args.path.now a b c.args.touches.now c.strip.new.touches c.strip.result
    (root-shown X N was.profile c.strip.result a b was.root.cid e.cause) e.touched e.good e.saves e.stays (SetMeta what)
    (λ p es. allowed X N p (meta_edited what names es)) (λ p es. refl) e.answer e.lost
    (λ p es over stood is. (let i = meta-there what (at 0 names (Dir es)) is in e.idle p es i.0 over stood i.1 i.2))
    (λ p rows same heights. subst (λ q. TouchesFolder X N q a b [] was.root (λ es. 64 * (length names + 3)) c.args.touches.now c.strip.new.touches) same e.touches) e.no_other)
