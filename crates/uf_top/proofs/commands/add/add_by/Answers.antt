use Rattle.std.proofs.Common.{Ok, Err, refl}
use Rattle.std.proofs.lemmas.Result.{err_from_is_err_and}
use Rattle.uf_command.specs.Kinds.{refusal_fault}
use Rattle.uf_mfs.specs.Standing.{Same}
use Rattle.uf_store.specs.Faults.{NoneIsBad}
use Rattle.uf_store.proofs.Calls.{shown-after}
use Rattle.uf_top.proofs.Givens.{entry-counts, entry-row, entry-shown, entry-synced, synced-counts}
use Rattle.uf_top.proofs.Plans.{file-kept, synced-leaves}
use Rattle.uf_top.proofs.commands.add.add_by.Goals as goal

pub returns-in_err-given-clause-row : goal.returns-in_err-given-clause-row
returns-in_err-given-clause-row g c =
    let out = err_from_is_err_and c.from_residual.result c.from_residual.ensures.1 in
    rw (out.1, out.2) (entry-row g.S.X.BlockHash.block32 c.args.profile (g.S.Store.seen c.file_of.new.store).told (g.I.Source.left c.args.input.now) (g.I.Source.left c.file_of.new.input) c.file_of.result (Err c.in_err-given.field-0.0) c.in_err-given.ensures c.file_of.ensures.file)

pub returns-in_err-given-clause-counts : goal.returns-in_err-given-clause-counts
returns-in_err-given-clause-counts g c =
    let out = err_from_is_err_and c.from_residual.result c.from_residual.ensures.1 in
    rw (out.1, out.2) (entry-counts (g.I.Source.faults c.args.input.now) (g.I.Source.faults c.file_of.new.input) c.file_of.result (Err c.in_err-given.field-0.0) c.in_err-given.ensures c.file_of.ensures.counts)

pub returns-in_err-given-clause-cause : goal.returns-in_err-given-clause-cause
returns-in_err-given-clause-cause g c =
    let out = err_from_is_err_and c.from_residual.result c.from_residual.ensures.1 in
    rw (out.1, out.2) (entry-shown g.S.X.BlockHash.block32 (g.S.Store.seen c.args.store.now) (g.S.Store.seen c.file_of.new.store) c.file_of.result (Err c.in_err-given.field-0.0) c.in_err-given.ensures c.file_of.ensures.cause)

pub returns-clause-row : goal.returns-clause-row
returns-clause-row g c =
    let e = c.synced.ensures in
    entry-synced g.S.X.BlockHash.block32 c.args.profile (g.S.Store.seen c.file_of.new.store).told (g.S.Store.seen c.synced.new.store).told (g.I.Source.left c.args.input.now) (g.I.Source.left c.file_of.new.input) c.file_of.result c.in_ok-given.given c.synced.result
    c.in_ok-given.ensures c.file_of.ensures.file e.synced e.row e.stopped

pub returns-clause-counts : goal.returns-clause-counts
returns-clause-counts g c =
    let i = g.I.Source.faults c.args.input.now in let j = g.I.Source.faults c.file_of.new.input in
    synced-counts i j c.synced.result c.synced.ensures.stopped (entry-counts i j c.file_of.result (Ok c.in_ok-given.given) c.in_ok-given.ensures c.file_of.ensures.counts)

pub returns-clause-cause : goal.returns-clause-cause
returns-clause-cause g c =
    let a = g.S.Store.seen c.args.store.now in let m = g.S.Store.seen c.file_of.new.store in let b = g.S.Store.seen c.synced.new.store in
    shown-after g.S.X.BlockHash.block32 NoneIsBad (refusal_fault c.synced.result) a m b
    (entry-shown g.S.X.BlockHash.block32 a m c.file_of.result (Ok c.in_ok-given.given) c.in_ok-given.ensures c.file_of.ensures.cause) c.synced.ensures.cause

pub returns-in_err-given-clause-no_other : goal.returns-in_err-given-clause-no_other
returns-in_err-given-clause-no_other g c =
    let m = (g.S.Store.seen c.file_of.new.store).told in
    file-kept g.S.X.BlockHash.block32 c.args.profile (g.S.Store.seen c.args.store.now).told m m (g.I.Source.left c.args.input.now) (g.I.Source.left c.file_of.new.input) c.file_of.result c.file_of.ensures.no_other (Same refl)

pub returns-clause-no_other : goal.returns-clause-no_other
returns-clause-no_other g c =
    let m = (g.S.Store.seen c.file_of.new.store).told in let b = (g.S.Store.seen c.synced.new.store).told in
    file-kept g.S.X.BlockHash.block32 c.args.profile (g.S.Store.seen c.args.store.now).told m b (g.I.Source.left c.args.input.now) (g.I.Source.left c.file_of.new.input) c.file_of.result c.file_of.ensures.no_other
    (synced-leaves c.synced.result m b c.synced.ensures.synced c.synced.ensures.failed)
