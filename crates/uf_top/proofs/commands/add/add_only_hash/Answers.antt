use Rattle.std.proofs.Common.{true}
use Rattle.std.proofs.lemmas.Result.{err_from_is_err_and}
use Rattle.uf_top.proofs.Inputs.{head-unread, is-hashed}
use Rattle.uf_top.proofs.commands.add.add_only_hash.Goals as goal

pub returns-in_err-found : goal.returns-in_err-found
returns-in_err-found g c =
    let out = err_from_is_err_and c.from_residual.result c.from_residual.ensures.1 in
    rw (out.1, out.2) (λ N touches h w side er er2.
    head-unread g.S.X.BlockHash.block32 (record { size = g.met.S.X.BlockHash.size; are_bytes = g.met.S.X.BlockHash.are_bytes }) N (g.S.Store.seen c.args.store.now) (g.S.Store.seen c.head_profile.new.store) c.head_profile.ensures.told (g.I.Source.left c.args.input.now) (g.I.Source.faults c.args.input.now) h w touches side er er2 true c.in_err-found.field-0.0 c.in_err-found.ensures.read c.in_err-found.ensures.cause)

pub returns : goal.returns
returns g c = λ N touches h w side er er2.
    let e = c.hash_by.ensures in
    is-hashed g.S.X.BlockHash.block32 (record { size = g.met.S.X.BlockHash.size; are_bytes = g.met.S.X.BlockHash.are_bytes }) N (g.S.Store.seen c.args.store.now) (g.S.Store.seen c.head_profile.new.store) c.head_profile.ensures.told (g.I.Source.left c.args.input.now) (g.I.Source.faults c.args.input.now) h w touches side er er2 c.in_ok-found.ensures.cause
    c.hash_by.result (g.I.Source.left c.hash_by.new.input) (g.I.Source.faults c.hash_by.new.input) e.counts c.in_ok-found.found c.or_usual.result c.or_usual.ensures c.in_ok-found.ensures.read e.row e.wants
