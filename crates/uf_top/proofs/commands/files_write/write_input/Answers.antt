use Rattle.std.proofs.lemmas.Result.{err_from_is_err_and}
use Rattle.uf_command.specs.declared.types.Ask.TheVariants.{Edit as Edits}
use Rattle.uf_command.specs.declared.types.Edit.TheVariants.{Write}
use Rattle.uf_top.proofs.Opening.{at-opened}
use Rattle.uf_top.proofs.Written.{input-refused, input-unopened, input-written}
use Rattle.uf_top.proofs.commands.files_write.write_input.Goals as goal

pub returns-in_err-tree : goal.returns-in_err-tree
returns-in_err-tree g c = λ h w side er er2.
    let out = err_from_is_err_and c.from_residual.result c.from_residual.ensures.1 in let l = g.I.Source.left c.args.input.now in let i = g.I.Source.faults c.args.input.now in
    rw (out.1, out.2) (input-unopened c.args.how c.args.path.now g.S.X.BlockHash.block32 g.N.NameHash.name64 (g.S.Store.seen c.args.store.now) (g.S.Store.seen c.opened.new.store) l l i i h w c.args.touches.now c.opened.new.touches side er er2
    c.in_err-tree.field-0.0 c.in_err-tree.ensures)

pub returns-in_err-piece : goal.returns-in_err-piece
returns-in_err-piece g c = λ h w side er er2.
    let out = err_from_is_err_and c.from_residual-in_err-piece.result c.from_residual-in_err-piece.ensures.1 in
    rw (out.1, out.2) (input-refused c.args.how c.args.path.now g.S.X.BlockHash.block32 g.N.NameHash.name64 (g.S.Store.seen c.args.store.now) (g.S.Store.seen c.opened.new.store)
    (g.I.Source.left c.args.input.now) (g.I.Source.left c.taken.new.input) (g.I.Source.faults c.args.input.now) (g.I.Source.faults c.taken.new.input) h w c.args.touches.now c.opened.new.touches side er er2
    c.in_ok-tree.tree c.in_ok-tree.ensures c.in_err-piece.field-0.0 c.in_err-piece.ensures.takes c.in_err-piece.ensures.counts)

pub returns : goal.returns
returns g c = λ h w side er er2.
    let X = g.S.X.BlockHash.block32 in let N = g.N.NameHash.name64 in
    let l = g.I.Source.left c.args.input.now in let i = g.I.Source.faults c.args.input.now in let piece = c.in_ok-piece.piece in
    input-written c.args.how c.args.path.now X N piece l (g.I.Source.left c.taken.new.input) i (g.I.Source.faults c.taken.new.input) c.in_ok-piece.ensures.takes c.in_ok-piece.ensures.counts
    c.edit_at.result (g.S.Store.seen c.args.store.now) (g.S.Store.seen c.edit_at.new.store) h w c.args.touches.now c.edit_at.new.touches side er er2
    (at-opened X N (Edits (Write c.args.how piece)) c.args.path.now (g.S.Store.seen c.args.store.now) (g.S.Store.seen c.opened.new.store) l i h w c.args.touches.now c.opened.new.touches side er er2
    c.in_ok-tree.tree c.in_ok-tree.ensures c.edit_at.result (g.S.Store.seen c.edit_at.new.store) c.edit_at.new.touches c.edit_at.ensures)
    c.edit_at.ensures.kinds
