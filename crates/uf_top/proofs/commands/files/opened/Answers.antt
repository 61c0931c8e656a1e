use Rattle.uf_top.proofs.Opening.{opens-tree}
use Rattle.uf_top.proofs.commands.files.opened.Goals as goal

pub returns : goal.returns
returns g c =
    let e = c.from_store.ensures in
    opens-tree g.S.X.BlockHash.block32 g.N.NameHash.name64 c.from_store.result c.map_err.result (g.S.Store.seen c.args.store.now) (g.S.Store.seen c.from_store.new.store) c.args.touches.now c.from_store.new.touches
    c.map_err.ensures.cases e.opens e.lost e.head e.mfs e.cause e.told e.touches e.touched
