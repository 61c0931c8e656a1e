use Rattle.std.proofs.Common.{ap, ◌∙◌, ◌-◌, ◌+◌, take, drop}
use Rattle.std.proofs.lemmas.Result.{err_from_is_err_and}
use Rattle.uf_car.specs.Importing.{RefusesSection, store_fault}
use Rattle.uf_car.proofs.Aheads.{accepted, met, refused, used_ahead}
use Rattle.uf_car.proofs.importing.import_block.Goals as goal

pub returns-in_err-keep_block-in-Enough-clause-reads : goal.returns-in_err-keep_block-in-Enough-clause-reads
returns-in_err-keep_block-in-Enough-clause-reads g c a e found =
    let out = err_from_is_err_and c.from_residual-in_err-keep_block-in-Enough.result c.from_residual-in_err-keep_block-in-Enough.ensures.1 in
    let refuses : RefusesSection g.S.X.BlockHash.block32 c.args.place a c.in_err-keep_block-in-Enough.field-0.0 (g.S.Store.seen c.args.store.now).told (g.S.Store.seen c.keep_block.new.store).told = record {
      said = refused g.S.X.BlockHash.block32 c.args.place a c.args.begun.now found c.fill_to.new.self _ (c.fill_to.ensures.ahead.same ∙ e) (rw c.in-Enough.is at c.in_ok-fill_to.ensures.answer) _ _ (ap (λ xs. take (c.args.begun.now.front + c.args.begun.now.size - c.args.begun.now.front) (drop c.args.begun.now.front xs)) c.bytes-ahead.ensures) c.in_err-keep_block-in-Enough.ensures.says;
      same_told = c.in_err-keep_block-in-Enough.ensures.err;
      clash = met g.S.X.BlockHash.block32 c.args.place a c.args.begun.now found c.fill_to.new.self _ (c.fill_to.ensures.ahead.same ∙ e) (rw c.in-Enough.is at c.in_ok-fill_to.ensures.answer) _ (ap (λ xs. take (c.args.begun.now.front + c.args.begun.now.size - c.args.begun.now.front) (drop c.args.begun.now.front xs)) c.bytes-ahead.ensures) _ (store_fault c.in_err-keep_block-in-Enough.field-0.0) c.in_err-keep_block-in-Enough.ensures.clash;
    } in
    rw (out.1, out.2) refuses

pub returns-in_ok-keep_block-in-Enough-clause-reads : goal.returns-in_ok-keep_block-in-Enough-clause-reads
returns-in_ok-keep_block-in-Enough-clause-reads g c a e found = record {
  block = (c.args.begun.now.cid, take (c.args.begun.now.front + c.args.begun.now.size - c.args.begun.now.front) (drop c.args.begun.now.front c.bytes-ahead.result.now));
  has = accepted g.S.X.BlockHash.block32 c.args.place a c.args.begun.now found c.fill_to.new.self _ (c.fill_to.ensures.ahead.same ∙ e) (rw c.in-Enough.is at c.in_ok-fill_to.ensures.answer) _ (ap (λ xs. take (c.args.begun.now.front + c.args.begun.now.size - c.args.begun.now.front) (drop c.args.begun.now.front xs)) c.bytes-ahead.ensures) c.in_ok-keep_block-in-Enough.ensures.says;
  rest = used_ahead c.fill_to.new.self c.consume.new.self _ a (c.args.begun.now.front + c.args.begun.now.size) (c.fill_to.ensures.ahead.same ∙ e) (rw c.in-Enough.is at c.in_ok-fill_to.ensures.answer) c.consume.ensures.bytes c.consume.ensures.room c.consume.ensures.supply;
  kept = c.in_ok-keep_block-in-Enough.ensures.kept;
}
