use Rattle.std.proofs.Common.{Ok, Err}
use Rattle.std.proofs.lemmas.Result.{err_from_is_err_and}
use Rattle.uf_top.proofs.FileSent.{send-unopened, sends-does, sent-done, sent-refused}
use Rattle.uf_top.proofs.commands.files_read.send_part.Goals as goal

pub returns-in_err-tree : goal.returns-in_err-tree
returns-in_err-tree g c = λ left reads side er er2.
    let out = err_from_is_err_and c.from_residual.result c.from_residual.ensures.1 in
    rw (out.1, out.2) (send-unopened g.S.X.BlockHash.block32 g.N.NameHash.name64 c.args.offset c.args.count c.args.path.now (g.S.Store.seen c.args.store.now) (g.S.Store.seen c.opened.new.store) left reads
    (g.O.Sink.holds c.args.output.now) (g.O.Sink.faults c.args.output.now) c.args.touches.now c.opened.new.touches side er er2 c.in_err-tree.field-0.0 c.in_err-tree.ensures)

pub returns-in_err-map_err : goal.returns-in_err-map_err
returns-in_err-map_err g c = λ left reads side er er2.
    let r = c.read.ensures in let why = c.in_err-map_err.field-0.0 in let out = err_from_is_err_and c.from_residual-in_err-map_err.result c.from_residual-in_err-map_err.ensures.1 in
    rw (out.1, out.2) (sends-does g.S.X.BlockHash.block32 g.N.NameHash.name64 c.args.offset c.args.count c.args.path.now (g.S.Store.seen c.args.store.now) (g.S.Store.seen c.opened.new.store) left reads
    (g.O.Sink.holds c.args.output.now) (g.O.Sink.faults c.args.output.now) c.args.touches.now c.opened.new.touches side er er2
    c.in_ok-tree.tree c.in_ok-tree.ensures (g.S.Store.seen c.read.new.store) (g.O.Sink.holds c.read.new.out) (g.O.Sink.faults c.read.new.out) c.read.new.touches
    c.read.result (Err why) (sent-refused c.read.result why c.in_err-map_err.ensures.cases) r.answer r.lost r.prefix r.sends r.cause r.told r.touches r.touched)

pub returns : goal.returns
returns g c = λ left reads side er er2.
    let r = c.read.ensures in
    sends-does g.S.X.BlockHash.block32 g.N.NameHash.name64 c.args.offset c.args.count c.args.path.now (g.S.Store.seen c.args.store.now) (g.S.Store.seen c.opened.new.store) left reads
    (g.O.Sink.holds c.args.output.now) (g.O.Sink.faults c.args.output.now) c.args.touches.now c.opened.new.touches side er er2
    c.in_ok-tree.tree c.in_ok-tree.ensures (g.S.Store.seen c.read.new.store) (g.O.Sink.holds c.read.new.out) (g.O.Sink.faults c.read.new.out) c.read.new.touches
    c.read.result (Ok tt) (sent-done c.read.result c.in_ok-map_err.field-0 c.in_ok-map_err.ensures.cases) r.answer r.lost r.prefix r.sends r.cause r.told r.touches r.touched
