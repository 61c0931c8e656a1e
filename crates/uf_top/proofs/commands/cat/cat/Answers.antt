use Rattle.std.proofs.Common.{[], ◌∙◌, refl, subst, Ok, Err}
use Rattle.std.specs.Prelude.{IfSome}
use Rattle.std.proofs.lemmas.Result.{err_from_is_err_and}
use Rattle.uf_edge.specs.Counts.{Counts}
use Rattle.uf_lenient.specs.Reading.{file_of}
use Rattle.uf_lenient.specs.Streams.{IsFileFront, Streams, sink_failed, stream_fault}
use Rattle.uf_lenient.specs.declared.fault.StreamFault.TheVariants as stream
use Rattle.uf_command.specs.Dags.{usual_limits}
use Rattle.uf_store.specs.Contents.{held_at}
use Rattle.uf_store.specs.Faults.{NoneIsBad, Shown}
use Rattle.uf_store.proofs.Calls.{shown-after}
use Rattle.uf_command.specs.Kinds.{fault_behind}
use Rattle.uf_top.proofs.Cats.{all-said, cat-cut, cat-refused, cat-sent, nothing-told, of-reading, own-said, part-said, refusal-told, same-fault, told-back}
use Rattle.uf_top.proofs.Printing.{after-nothing}
use Rattle.uf_store.proofs.Causes.{StaysCalm-trans}
use Rattle.uf_top.proofs.commands.cat.cat.Goals as goal

pub returns-in_err-cid : goal.returns-in_err-cid
returns-in_err-cid g c =
    let out = err_from_is_err_and c.from_residual.result c.from_residual.ensures.1 in
    rw (out.1, out.2) (λ N left reads side er er2.
    let a = g.S.Store.seen c.args.store.now in let m = g.S.Store.seen c.file_in.new.store in let h = g.O.Sink.holds c.args.output.now in let w = g.O.Sink.faults c.args.output.now in
    let e = c.in_err-cid.ensures in
    cat-refused g.S.X.BlockHash.block32 N c.args.path.now a m e.reads.told left reads h h w w c.args.touches.now c.file_in.new.touches side er er2 c.in_err-cid.field-0.0
    (refusal-told a.told c.args.path.now c.in_err-cid.field-0.0 h e.finds) (nothing-told a.told c.args.path.now h) [] (after-nothing h) e.refuses e.reads.cause refl)

pub returns-in-Ok : goal.returns-in-Ok
returns-in-Ok g c = λ N left reads side er er2.
    let a = g.S.Store.seen c.args.store.now in let m = g.S.Store.seen c.file_in.new.store in let b = g.S.Store.seen c.stream.new.store in
    let h = g.O.Sink.holds c.args.output.now in let h2 = g.O.Sink.holds c.stream.new.out in let w = g.O.Sink.faults c.args.output.now in let v = g.O.Sink.faults c.stream.new.out in
    let e = c.in_ok-cid.ensures in let s = c.in-Ok.ensures in
    cat-sent g.S.X.BlockHash.block32 N c.args.path.now a b (s.told ∙ e.reads.told) left reads h h2 w v c.args.touches.now c.stream.new.touches side er er2
    (all-said c.args.path.now a.told c.in_ok-cid.cid h h2 e.finds c.in-Ok.field-0 (told-back (λ held. Streams (file_of held usual_limits c.in_ok-cid.cid) h h2 (Ok c.in-Ok.field-0)) a.told m.told e.reads.told s.says))
    s.front.front s.front.sent (StaysCalm-trans a m b e.reads.cause s.cause) (s.sink.still refl)

pub returns-in-Err-Sink : goal.returns-in-Err-Sink
returns-in-Err-Sink g c = λ N left reads side er er2.
    let a = g.S.Store.seen c.args.store.now in let m = g.S.Store.seen c.file_in.new.store in let b = g.S.Store.seen c.stream.new.store in
    let h = g.O.Sink.holds c.args.output.now in let h2 = g.O.Sink.holds c.stream.new.out in let w = g.O.Sink.faults c.args.output.now in let v = g.O.Sink.faults c.stream.new.out in
    let e = c.in_ok-cid.ensures in let s = c.in-Err-Sink.ensures in
    cat-cut g.S.X.BlockHash.block32 N c.args.path.now a b (s.told ∙ e.reads.told) left reads h h2 w v c.args.touches.now c.stream.new.touches side er er2
    (part-said c.args.path.now a.told c.in_ok-cid.cid h h2 e.finds s.front.front s.front.sent (told-back (λ held. IsFileFront s.front.front (file_of held usual_limits c.in_ok-cid.cid)) a.told m.told e.reads.told s.front.is_front))
    s.front.front s.front.sent
    (StaysCalm-trans a m b e.reads.cause (subst (λ f. Shown g.S.X.BlockHash.block32 NoneIsBad (stream_fault (Err f)) m b) c.in-Err-Sink.field-0-is s.cause))
    (subst (λ f. Counts (sink_failed (Err f)) w v) c.in-Err-Sink.field-0-is s.sink)

pub returns-in-Err-Dag : goal.returns-in-Err-Dag
returns-in-Err-Dag g c = λ N left reads side er er2.
    let X = g.S.X.BlockHash.block32 in let a = g.S.Store.seen c.args.store.now in let m = g.S.Store.seen c.file_in.new.store in let b = g.S.Store.seen c.stream.new.store in
    let h = g.O.Sink.holds c.args.output.now in let h2 = g.O.Sink.holds c.stream.new.out in let w = g.O.Sink.faults c.args.output.now in let v = g.O.Sink.faults c.stream.new.out in
    let e = c.in_ok-cid.ensures in let s = c.in-Err-Dag.ensures in let why = c.dag_refusal.result in
    cat-refused X N c.args.path.now a b (s.told ∙ e.reads.told) left reads h h2 w v c.args.touches.now c.stream.new.touches side er er2 why
    (own-said c.args.path.now a.told c.in_ok-cid.cid h h2 e.finds c.in-Err-Dag.fault why c.dag_refusal.ensures (told-back (λ held. Streams (file_of held usual_limits c.in_ok-cid.cid) h h2 (Err (stream.Dag c.in-Err-Dag.fault))) a.told m.told e.reads.told
    (subst (λ f. IfSome m.told (λ t. Streams (file_of (held_at t) usual_limits c.in_ok-cid.cid) h h2 (Err f))) c.in-Err-Dag.field-0-is s.says)))
    (part-said c.args.path.now a.told c.in_ok-cid.cid h h2 e.finds s.front.front s.front.sent (told-back (λ held. IsFileFront s.front.front (file_of held usual_limits c.in_ok-cid.cid)) a.told m.told e.reads.told s.front.is_front))
    s.front.front s.front.sent (of-reading c.args.path.now c.in-Err-Dag.fault why c.dag_refusal.ensures)
    (shown-after X NoneIsBad (fault_behind why) a m b e.reads.cause (same-fault c.args.path.now c.in-Err-Dag.fault X m b why c.dag_refusal.ensures
    (subst (λ f. Shown X NoneIsBad (stream_fault (Err f)) m b) c.in-Err-Dag.field-0-is s.cause))) ((subst (λ f. Counts (sink_failed (Err f)) w v) c.in-Err-Dag.field-0-is s.sink).still refl)
