use Rattle.std.proofs.Common.{false, subst}
use Rattle.std.proofs.lemmas.Result.{err_from_is_err_and}
use Rattle.std.specs.Prelude.{IfSome}
use Rattle.uf_top.specs.Causes.{IsProfileIn}
use Rattle.uf_top.proofs.Inputs.{head-unread, is-added, no-head}
use Rattle.uf_top.proofs.commands.add.add.Goals as goal

pub returns-in_err-head_profile : goal.returns-in_err-head_profile
returns-in_err-head_profile g c =
    let out = err_from_is_err_and c.from_residual.result c.from_residual.ensures.1 in
    rw (out.1, out.2) (λ N h w side er er2.
    head-unread g.S.X.BlockHash.block32 (record { size = g.met.S.X.BlockHash.size; are_bytes = g.met.S.X.BlockHash.are_bytes }) N (g.S.Store.seen c.args.store.now) (g.S.Store.seen c.head_profile.new.store) c.head_profile.ensures.told (g.I.Source.left c.args.input.now) (g.I.Source.faults c.args.input.now) h w c.args.touches.now side er er2 false c.in_err-head_profile.field-0.0 c.in_err-head_profile.ensures.read c.in_err-head_profile.ensures.cause)

pub returns-in-None : goal.returns-in-None
returns-in-None g c = λ N h w side er er2.
    no-head g.S.X.BlockHash.block32 (record { size = g.met.S.X.BlockHash.size; are_bytes = g.met.S.X.BlockHash.are_bytes }) N (g.S.Store.seen c.args.store.now) (g.S.Store.seen c.head_profile.new.store) c.head_profile.ensures.told (g.I.Source.left c.args.input.now) (g.I.Source.faults c.args.input.now) h w c.args.touches.now side er er2
    (subst (λ found. IfSome (g.S.Store.seen c.args.store.now).told (λ t. IsProfileIn found t.notes.head)) c.in-None.is c.in_ok-head_profile.ensures.read) c.in_ok-head_profile.ensures.cause

pub returns-in-Some : goal.returns-in-Some
returns-in-Some g c = λ N h w side er er2.
    let e = c.add_by.ensures in
    is-added g.S.X.BlockHash.block32 (record { size = g.met.S.X.BlockHash.size; are_bytes = g.met.S.X.BlockHash.are_bytes }) N (g.S.Store.seen c.args.store.now) (g.S.Store.seen c.head_profile.new.store) c.head_profile.ensures.told (g.I.Source.left c.args.input.now) (g.I.Source.faults c.args.input.now) h w c.args.touches.now side er er2 c.in_ok-head_profile.ensures.cause
    c.add_by.result (g.I.Source.left c.add_by.new.input) (g.I.Source.faults c.add_by.new.input) e.counts c.in-Some.profile (g.S.Store.seen c.add_by.new.store) c.add_by.new.touches
    (subst (λ found. IfSome (g.S.Store.seen c.args.store.now).told (λ t. IsProfileIn found t.notes.head)) c.in-Some.is c.in_ok-head_profile.ensures.read) e.row e.cause e.good e.writes e.no_other
