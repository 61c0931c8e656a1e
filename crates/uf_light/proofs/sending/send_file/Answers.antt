use Rattle.std.proofs.Common.{◌^◌, ◌-◌, Err, None, Ok, arith, subst, sym}
use Rattle.std.proofs.lemmas.Result.{err_from_is_err_and}
use Rattle.uf_fileread.specs.Bad.{IsBadInFile}
use Rattle.uf_fileread.specs.Ranges.{blocks_read, range_of}
use Rattle.uf_store.proofs.Calls.{stood-back, stood-front}
use Rattle.uf_store.specs.Keeping.{Agrees, Holds}
use Rattle.uf_light.specs.Answers.{of_range}
use Rattle.uf_light.proofs.First.{first-again, first-still, range-rises}
use Rattle.uf_tree.specs.FilePlan.{file_plan}
use Rattle.uf_edge.specs.Streams.{AppendsPrefix}
use Rattle.uf_fileread.proofs.Sending.{prefix-none}
use Rattle.uf_light.proofs.Fronts.{front-whole, some-range}
use Rattle.uf_light.proofs.Showing.{lost-after, range-counts, sent-lost, whole-after, whole-range}
use Rattle.uf_light.proofs.sending.send_file.Goals as goal

pub returns-in_err-read_range-clause-sends : goal.returns-in_err-read_range-clause-sends
returns-in_err-read_range-clause-sends g c = λ p m bytes height is agrees stood.
    let X = g.S.X.BlockHash.block32 in
    let out = err_from_is_err_and c.from_residual.result c.from_residual.ensures.1 in
    rw (out.1, out.2) (sent-lost (g.S.Store.seen c.args.store.now).told (blocks_read X p.chunk p.width m height 0 (2 ^ 64 - 1) bytes) bytes (range_of 0 (2 ^ 64 - 1) bytes) (g.O.Sink.holds c.args.out.now) (g.O.Sink.holds c.args.out.now) c.in_err-read_range.field-0.0 None None
    (c.in_err-read_range.ensures.value p m bytes height is agrees stood))

pub returns-in_err-count-clause-sends : goal.returns-in_err-count-clause-sends
returns-in_err-count-clause-sends g c = λ p m bytes height is agrees stood.
    let X = g.S.X.BlockHash.block32 in let a = g.S.Store.seen c.args.store.now in let b = g.S.Store.seen c.read_range.new.store in
    let same = c.in_ok-read_range.ensures.told in
    let out = err_from_is_err_and c.from_residual-in_err-count.result c.from_residual-in_err-count.ensures.1 in
    rw (out.1, out.2) (lost-after X p m bytes c.args.entry.now.cid height a.told b.told same (blocks_read X p.chunk p.width m height 0 (2 ^ 64 - 1) bytes) _ _ c.in_err-count.field-0.0
    (c.in_err-count.ensures.value p m bytes height is (subst (λ t. Agrees t (file_plan X p m bytes).blocks) (sym same) agrees) (stood-back a.faults b.faults _ c.in_ok-read_range.ensures.cause.0.faults stood)))

pub returns-in_err-count-clause-counts : goal.returns-in_err-count-clause-counts
returns-in_err-count-clause-counts g c =
    let out = err_from_is_err_and c.from_residual-in_err-count.result c.from_residual-in_err-count.ensures.1 in
    rw (out.1, out.2) (range-counts g.S.X.BlockHash.block32 (IsBadInFile (g.S.Store.seen c.read_range.new.store).told c.args.entry.now.cid) c.in_err-count.field-0.0 _ _ _ _ c.in_err-count.ensures.cause)

pub returns-clause-sends : goal.returns-clause-sends
returns-clause-sends g c = λ p m bytes height is agrees stood.
    let X = g.S.X.BlockHash.block32 in let a = g.S.Store.seen c.args.store.now in let b = g.S.Store.seen c.read_range.new.store in
    let same = c.in_ok-read_range.ensures.told in
    whole-after X p m bytes c.args.entry.now.cid height a.told b.told same (blocks_read X p.chunk p.width m height 0 (2 ^ 64 - 1) bytes) _ _ c.in_ok-count.count is
    (c.in_ok-count.ensures.value p m bytes height is (subst (λ t. Agrees t (file_plan X p m bytes).blocks) (sym same) agrees) (stood-back a.faults b.faults _ c.in_ok-read_range.ensures.cause.0.faults stood))

pub returns-in_err-read_range-clause-prefix : goal.returns-in_err-read_range-clause-prefix
returns-in_err-read_range-clause-prefix g c = λ p m bytes height is agrees low. prefix-none _ _

pub returns-in_err-count-clause-prefix : goal.returns-in_err-count-clause-prefix
returns-in_err-count-clause-prefix g c = λ p m bytes height is agrees low.
    let X = g.S.X.BlockHash.block32 in let same = c.in_ok-read_range.ensures.told in
    subst (λ bytes. AppendsPrefix bytes (g.O.Sink.holds c.args.out.now) (g.O.Sink.holds c.read_range-2.new.out)) (whole-range X p m bytes c.args.entry.now.cid height is)
    (c.in_err-count.ensures.fault p m bytes height is (subst (λ t. Agrees t (file_plan X p m bytes).blocks) (sym same) agrees))

pub returns-clause-prefix : goal.returns-clause-prefix
returns-clause-prefix g c = λ p m bytes height is agrees low.
    let X = g.S.X.BlockHash.block32 in let a = g.S.Store.seen c.args.store.now in let b = g.S.Store.seen c.read_range.new.store in
    let same = c.in_ok-read_range.ensures.told in let fb = c.in_ok-read_range.ensures.cause.0.faults in let fd = c.in_ok-count.ensures.cause.0.faults in
    front-whole bytes c.in_ok-count.count _ _
    (whole-after X p m bytes c.args.entry.now.cid height a.told b.told same (blocks_read X p.chunk p.width m height 0 (2 ^ 64 - 1) bytes) _ _ c.in_ok-count.count is
    (c.in_ok-count.ensures.value p m bytes height is (subst (λ t. Agrees t (file_plan X p m bytes).blocks) (sym same) agrees) (omega (arith, fb, fd, low))))

pub returns-in_err-count-clause-some : goal.returns-in_err-count-clause-some
returns-in_err-count-clause-some g c = some-range (2 ^ 64 - 1) (Err c.in_err-count.field-0.0) _ _ c.in_err-count.ensures.sends

pub returns-clause-some : goal.returns-clause-some
returns-clause-some g c = some-range (2 ^ 64 - 1) (Ok c.in_ok-count.count) _ _ c.in_ok-count.ensures.sends

pub returns-in_err-read_range-clause-first : goal.returns-in_err-read_range-clause-first
returns-in_err-read_range-clause-first g c = λ p m bytes height is agrees stood.
    let out = err_from_is_err_and c.from_residual.result c.from_residual.ensures.1 in
    rw (out.1, out.2) (first-still (of_range c.in_err-read_range.field-0.0) _)

pub returns-in_err-count-clause-first : goal.returns-in_err-count-clause-first
returns-in_err-count-clause-first g c = λ p m bytes height is agrees stood.
    let X = g.S.X.BlockHash.block32 in let a = g.S.Store.seen c.args.store.now in let b = g.S.Store.seen c.read_range.new.store in
    let same = c.in_ok-read_range.ensures.told in let fb = c.in_ok-read_range.ensures.cause.0.faults in
    let blocks = blocks_read X p.chunk p.width m height 0 (2 ^ 64 - 1) bytes in
    let once = c.in_ok-read_range.ensures.value p m bytes height is agrees (stood-front a.faults b.faults _ fb (range-rises X (IsBadInFile b.told c.args.entry.now.cid) b (g.S.Store.seen c.read_range-2.new.store) _ _ c.in_err-count.field-0.0 c.in_err-count.ensures.cause) stood) in
    let out = err_from_is_err_and c.from_residual-in_err-count.result c.from_residual-in_err-count.ensures.1 in
    rw (out.1, out.2) (first-again b.told (file_plan X p m bytes).blocks blocks (range_of 0 (2 ^ 64 - 1) bytes) (g.O.Sink.holds c.args.out.now) (g.O.Sink.holds c.read_range-2.new.out) c.in_err-count.field-0.0 (subst (λ t. Agrees t (file_plan X p m bytes).blocks) (sym same) agrees)
    (subst (λ t. Holds t blocks) (sym same) once.1)
    (c.in_err-count.ensures.value p m bytes height is (subst (λ t. Agrees t (file_plan X p m bytes).blocks) (sym same) agrees) (stood-back a.faults b.faults _ fb stood)))
