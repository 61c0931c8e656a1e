use Rattle.uf_gen.specs.Grown.{file_path}
use Rattle.uf_edits.proofs.Grown.{edit-grows}
use Rattle.uf_edits.proofs.generating.edit_file.Goals as goal

pub returns-clause-grows : goal.returns-clause-grows
returns-clause-grows g c = λ made stands.
    edit-grows g.S.X.BlockHash.block32 g.N.NameHash.name64 c.args.tree.now c.edited.new.tree c.args.edit.now c.in_ok-path.path
    (file_path c.args.i) c.edited.result (g.S.Store.seen c.args.store.now) (g.S.Store.seen c.edited.new.store) c.args.touches.now
    c.edited.new.touches c.in_ok-path.ensures.names c.edited.ensures.edits made stands
