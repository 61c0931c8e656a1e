use Rattle.std.proofs.Common.{None, Err, inl, inr, refl}
use Rattle.std.proofs.lemmas.Result.{err_from_is_err_and}
use Rattle.uf_top.specs.Placing.{SaysInput}
use Rattle.uf_top.specs.Reply.{input_row}
use Rattle.uf_top.proofs.Placed.{begun-put, begun-ungiven, find-unread, input-kinds, is-put-there, not-found, not-given, of-input, put-unread, some-input, ungiven-blameless}
use Rattle.uf_top.proofs.PutSaved.{file-put, file-saved, none-put}
use Rattle.uf_top.proofs.commands.add_to_files.add_to.Goals as goal

pub returns-in_err-found : goal.returns-in_err-found
returns-in_err-found g c =
    let out = err_from_is_err_and c.from_residual.result c.from_residual.ensures.1 in
    rw (out.1, out.2) (λ held writes side er er2.
    let X = g.S.X.BlockHash.block32 in let N = g.N.NameHash.name64 in let l = g.I.Source.left c.args.input.now in let i = g.I.Source.faults c.args.input.now in
    let a = g.S.Store.seen c.args.store.now in let m = g.S.Store.seen c.find.new.store in
    of-input X N c.args.dest.now l l i i held writes side er er2 (Err c.in_err-found.field-0.0) a m c.args.touches.now c.find.new.touches
    (not-found X N c.args.dest.now None (λ p. SaysInput p l) (input_row X N) (some-input l) a m c.args.touches.now c.find.new.touches c.in_err-found.field-0.0 c.in_err-found.ensures)
    (find-unread c.in_err-found.field-0.0 i c.in_err-found.ensures.unread)
    (none-put X N c.args.dest.now a m c.in_err-found.ensures.reads.told l)
    (inl (record { told = c.in_err-found.ensures.reads.told; left = refl; reads = refl })))

pub returns-in_err-given : goal.returns-in_err-given
returns-in_err-given g c =
    let out = err_from_is_err_and c.from_residual-in_err-given.result c.from_residual-in_err-given.ensures.1 in
    rw (out.1, out.2) (λ held writes side er er2.
    let X = g.S.X.BlockHash.block32 in let N = g.N.NameHash.name64 in let l = g.I.Source.left c.args.input.now in let i = g.I.Source.faults c.args.input.now in
    let a = g.S.Store.seen c.args.store.now in let m = g.S.Store.seen c.find.new.store in let b = g.S.Store.seen c.read_input.new.store in
    let e = c.in_err-given.ensures in
    of-input X N c.args.dest.now l (g.I.Source.left c.read_input.new.input) i (g.I.Source.faults c.read_input.new.input) held writes side er er2 (Err c.in_err-given.field-0.0) a b c.args.touches.now c.find.new.touches
    (not-given X N c.args.dest.now None (λ p. SaysInput p l) (input_row X N) (some-input l) a m c.args.touches.now c.find.new.touches c.in_ok-found.found c.in_ok-found.ensures
    b c.in_err-given.field-0.0 (e.gives N) e.saves (input-kinds c.in_ok-found.found.tree.profile l c.in_err-given.field-0.0 (e.gives N)) (ungiven-blameless (SaysInput c.in_ok-found.found.tree.profile l) c.in_err-given.field-0.0 (e.gives N)))
    e.counts
    (file-saved X N c.args.dest.now a m c.args.touches.now c.find.new.touches c.in_ok-found.found c.in_ok-found.ensures b l e.no_other)
    (inr (begun-ungiven X N c.args.dest.now None (λ p. SaysInput p l) (input_row X N) (some-input l) a m c.args.touches.now c.find.new.touches c.in_ok-found.found c.in_ok-found.ensures b c.in_err-given.field-0.0 (e.gives N) e.saves)))

pub returns : goal.returns
returns g c = λ held writes side er er2.
    let X = g.S.X.BlockHash.block32 in let N = g.N.NameHash.name64 in let l = g.I.Source.left c.args.input.now in let i = g.I.Source.faults c.args.input.now in
    let a = g.S.Store.seen c.args.store.now in let m = g.S.Store.seen c.find.new.store in let b = g.S.Store.seen c.read_input.new.store in let d = g.S.Store.seen c.put.new.store in
    let e = c.in_ok-given.ensures in
    of-input X N c.args.dest.now l (g.I.Source.left c.read_input.new.input) i (g.I.Source.faults c.read_input.new.input) held writes side er er2 c.put.result a d c.args.touches.now c.put.new.touches
    (is-put-there X N c.args.dest.now None (λ p. SaysInput p l) (input_row X N) (some-input l) a m c.args.touches.now c.find.new.touches c.in_ok-found.found c.in_ok-found.ensures
    b d c.put.new.touches c.in_ok-found.ensures.touched.kept c.in_ok-given.given (e.gives N) e.saves c.put.result c.put.ensures)
    (put-unread c.put.result i (g.I.Source.faults c.read_input.new.input) c.put.ensures.kinds e.counts)
    (file-put X N c.args.dest.now a m c.args.touches.now c.find.new.touches c.in_ok-found.found c.in_ok-found.ensures (input_row X N c.in_ok-found.found.tree.profile) b d c.put.new.touches l c.in_ok-given.given (e.gives N) e.saves e.no_other c.put.result c.put.ensures)
    (inr (begun-put X N c.args.dest.now None (λ p. SaysInput p l) (input_row X N) (some-input l) a m c.args.touches.now c.find.new.touches c.in_ok-found.found c.in_ok-found.ensures
    b d c.put.new.touches c.in_ok-found.ensures.touched.kept c.in_ok-given.given (e.gives N) e.saves c.put.result c.put.ensures))
