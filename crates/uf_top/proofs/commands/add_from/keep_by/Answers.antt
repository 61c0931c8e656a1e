use Rattle.std.proofs.Common.{ℕ, List, Ok, Err, refl, subst}
use Rattle.std.proofs.lemmas.Result.{err_from_is_err_and}
use Rattle.uf_host.specs.Adding.{AddsFromHost, SavesFromHost}
use Rattle.uf_mfs.specs.Standing.{Same}
use Rattle.uf_command.specs.Kinds.{refusal_fault}
use Rattle.uf_command.specs.Statuses.{ended, status_of}
use Rattle.uf_store.specs.Faults.{NoneIsBad}
use Rattle.uf_store.proofs.Calls.{shown-after}
use Rattle.uf_store.proofs.Writing.{SavesOnly-refl}
use Rattle.uf_top.specs.Around.{host_side}
use Rattle.uf_top.specs.Placing.{GivesHost}
use Rattle.uf_top.proofs.Givens.{last-there, no-reading, rows-read, rows-shown, rows-text}
use Rattle.uf_top.proofs.Hosts.{synced-reads, synced-text}
use Rattle.uf_top.proofs.Plans.{none-kept, rows-kept, synced-leaves}
use Rattle.uf_top.proofs.Telling.{not-ok}
use Rattle.uf_top.proofs.commands.add_from.keep_by.Goals as goal

pub rows_given-requires : goal.rows_given-requires
rows_given-requires g c =
    let X = g.S.X.BlockHash.block32 in let N = g.N.NameHash.name64 in let told = (g.S.Store.seen c.add-answer.new.store).told in let tells = g.W.Host.tree c.args.host.now in let r = c.add-answer.result in
    let adds = subst (λ (q : List ℕ). AddsFromHost X N c.args.profile told tells c.args.recursive q r) c.as_str-text.ensures c.add-answer.ensures.adds in
    record { last = last-there c.args.path.now X N c.args.profile told tells c.args.recursive r adds; walked = no-reading c.args.path.now X N c.args.profile told tells c.args.recursive r adds }

pub returns-in_err-own-clause-writes : goal.returns-in_err-own-clause-writes
returns-in_err-own-clause-writes g c =
    let t = (g.S.Store.seen c.args.store.now).told in
    let out = err_from_is_err_and c.from_residual.result c.from_residual.ensures.1 in
    rw out.1 (record { between = t; saves = SavesOnly-refl g.S.X.BlockHash.block32 t; last = Same refl })

pub returns-in_err-given-clause-text : goal.returns-in_err-given-clause-text
returns-in_err-given-clause-text g c =
    let X = g.S.X.BlockHash.block32 in let N = g.N.NameHash.name64 in let told = (g.S.Store.seen c.add-answer.new.store).told in let tells = g.W.Host.tree c.args.host.now in let r = c.add-answer.result in
    let adds = subst (λ (q : List ℕ). AddsFromHost X N c.args.profile told tells c.args.recursive q r) c.as_str-text.ensures c.add-answer.ensures.adds in
    let gives = subst (λ (q : List ℕ). GivesHost q r (Err c.in_err-given.field-0.0)) c.in_ok-own.ensures c.in_err-given.ensures in
    let out = err_from_is_err_and c.from_residual-in_err-given.result c.from_residual-in_err-given.ensures.1 in
    rw (out.1, out.2) (rows-text c.args.path.now X N c.args.profile told tells c.args.recursive r (Err c.in_err-given.field-0.0) gives adds)

pub returns-in_err-given-clause-host : goal.returns-in_err-given-clause-host
returns-in_err-given-clause-host g c =
    let X = g.S.X.BlockHash.block32 in let N = g.N.NameHash.name64 in let told = (g.S.Store.seen c.add-answer.new.store).told in let tells = g.W.Host.tree c.args.host.now in let r = c.add-answer.result in
    let adds = subst (λ (q : List ℕ). AddsFromHost X N c.args.profile told tells c.args.recursive q r) c.as_str-text.ensures c.add-answer.ensures.adds in
    let s = host_side (g.W.Host.tree c.args.host.now) (g.W.Host.read_faults c.args.host.now) (g.W.Host.write_faults c.args.host.now) in
    let t = host_side (g.W.Host.tree c.add-answer.new.host) (g.W.Host.read_faults c.add-answer.new.host) (g.W.Host.write_faults c.add-answer.new.host) in
    let e = c.add-answer.ensures in
    let out = err_from_is_err_and c.from_residual-in_err-given.result c.from_residual-in_err-given.ensures.1 in
    rw (out.1, out.2) (rows-read c.in_ok-own.own r (Err c.in_err-given.field-0.0) s t c.in_err-given.ensures (no-reading c.args.path.now X N c.args.profile told tells c.args.recursive r adds) e.told e.reads e.writes)

pub returns-in_err-given-clause-cause : goal.returns-in_err-given-clause-cause
returns-in_err-given-clause-cause g c =
    let X = g.S.X.BlockHash.block32 in let N = g.N.NameHash.name64 in let told = (g.S.Store.seen c.add-answer.new.store).told in let tells = g.W.Host.tree c.args.host.now in let r = c.add-answer.result in
    let adds = subst (λ (q : List ℕ). AddsFromHost X N c.args.profile told tells c.args.recursive q r) c.as_str-text.ensures c.add-answer.ensures.adds in
    let out = err_from_is_err_and c.from_residual-in_err-given.result c.from_residual-in_err-given.ensures.1 in
    rw (out.1, out.2) (rows-shown c.in_ok-own.own X (g.S.Store.seen c.args.store.now) (g.S.Store.seen c.add-answer.new.store) r (Err c.in_err-given.field-0.0) c.in_err-given.ensures (no-reading c.args.path.now X N c.args.profile told tells c.args.recursive r adds) c.add-answer.ensures.cause)

pub returns-clause-text : goal.returns-clause-text
returns-clause-text g c =
    let X = g.S.X.BlockHash.block32 in let N = g.N.NameHash.name64 in let told = (g.S.Store.seen c.add-answer.new.store).told in let tells = g.W.Host.tree c.args.host.now in let r = c.add-answer.result in
    let adds = subst (λ (q : List ℕ). AddsFromHost X N c.args.profile told tells c.args.recursive q r) c.as_str-text.ensures c.add-answer.ensures.adds in
    let gives = subst (λ (q : List ℕ). GivesHost q r (Ok c.in_ok-given.given)) c.in_ok-own.ensures c.in_ok-given.ensures in
    let e = c.synced.ensures in
    synced-text X N c.args.profile tells c.args.recursive c.args.path.now told (g.S.Store.seen c.synced.new.store).told c.in_ok-given.given.text c.synced.result e.synced e.row e.stopped
    (rows-text c.args.path.now X N c.args.profile told tells c.args.recursive r (Ok c.in_ok-given.given) gives adds)

pub returns-clause-host : goal.returns-clause-host
returns-clause-host g c =
    let X = g.S.X.BlockHash.block32 in let N = g.N.NameHash.name64 in let told = (g.S.Store.seen c.add-answer.new.store).told in let tells = g.W.Host.tree c.args.host.now in let r = c.add-answer.result in
    let adds = subst (λ (q : List ℕ). AddsFromHost X N c.args.profile told tells c.args.recursive q r) c.as_str-text.ensures c.add-answer.ensures.adds in
    let s = host_side (g.W.Host.tree c.args.host.now) (g.W.Host.read_faults c.args.host.now) (g.W.Host.write_faults c.args.host.now) in
    let t = host_side (g.W.Host.tree c.add-answer.new.host) (g.W.Host.read_faults c.add-answer.new.host) (g.W.Host.write_faults c.add-answer.new.host) in
    let e = c.add-answer.ensures in
    synced-reads c.synced.result s t c.synced.ensures.stopped (rows-read c.in_ok-own.own r (Ok c.in_ok-given.given) s t c.in_ok-given.ensures (no-reading c.args.path.now X N c.args.profile told tells c.args.recursive r adds) e.told e.reads e.writes)

pub returns-clause-cause : goal.returns-clause-cause
returns-clause-cause g c =
    let X = g.S.X.BlockHash.block32 in let N = g.N.NameHash.name64 in let told = (g.S.Store.seen c.add-answer.new.store).told in let tells = g.W.Host.tree c.args.host.now in let r = c.add-answer.result in
    let adds = subst (λ (q : List ℕ). AddsFromHost X N c.args.profile told tells c.args.recursive q r) c.as_str-text.ensures c.add-answer.ensures.adds in
    let a = g.S.Store.seen c.args.store.now in let m = g.S.Store.seen c.add-answer.new.store in let b = g.S.Store.seen c.synced.new.store in
    shown-after X NoneIsBad (refusal_fault c.synced.result) a m b
    (rows-shown c.in_ok-own.own X a m r (Ok c.in_ok-given.given) c.in_ok-given.ensures (no-reading c.args.path.now X N c.args.profile told tells c.args.recursive r adds) c.add-answer.ensures.cause) c.synced.ensures.cause

pub returns-in_err-own-clause-no_other : goal.returns-in_err-own-clause-no_other
returns-in_err-own-clause-no_other g c =
    let out = err_from_is_err_and c.from_residual.result c.from_residual.ensures.1 in
    rw out.1 (none-kept g.S.X.BlockHash.block32 g.N.NameHash.name64 (status_of out.0) c.args.profile (g.S.Store.seen c.args.store.now).told (g.W.Host.tree c.args.host.now) c.args.recursive c.args.path.now (not-ok out.0))

pub returns-in_err-given-clause-no_other : goal.returns-in_err-given-clause-no_other
returns-in_err-given-clause-no_other g c =
    let X = g.S.X.BlockHash.block32 in let N = g.N.NameHash.name64 in let tells = g.W.Host.tree c.args.host.now in let r = c.add-answer.result in
    let a = (g.S.Store.seen c.args.store.now).told in let m = (g.S.Store.seen c.add-answer.new.store).told in
    let saves = subst (λ (q : List ℕ). SavesFromHost X N c.args.profile a m tells c.args.recursive q r) c.as_str-text.ensures c.add-answer.ensures.no_other in
    let gives = subst (λ (q : List ℕ). GivesHost q r (Err c.in_err-given.field-0.0)) c.in_ok-own.ensures c.in_err-given.ensures in
    let out = err_from_is_err_and c.from_residual-in_err-given.result c.from_residual-in_err-given.ensures.1 in
    rw (out.1, out.2) (rows-kept X N c.args.profile a m m tells c.args.recursive c.args.path.now r (Err c.in_err-given.field-0.0) (status_of c.in_err-given.field-0.0) gives (λ why e. not-ok c.in_err-given.field-0.0) saves (Same refl))

pub returns-clause-no_other : goal.returns-clause-no_other
returns-clause-no_other g c =
    let X = g.S.X.BlockHash.block32 in let N = g.N.NameHash.name64 in let tells = g.W.Host.tree c.args.host.now in let r = c.add-answer.result in
    let a = (g.S.Store.seen c.args.store.now).told in let m = (g.S.Store.seen c.add-answer.new.store).told in let b = (g.S.Store.seen c.synced.new.store).told in
    let saves = subst (λ (q : List ℕ). SavesFromHost X N c.args.profile a m tells c.args.recursive q r) c.as_str-text.ensures c.add-answer.ensures.no_other in
    let gives = subst (λ (q : List ℕ). GivesHost q r (Ok c.in_ok-given.given)) c.in_ok-own.ensures c.in_ok-given.ensures in
    rows-kept X N c.args.profile a m b tells c.args.recursive c.args.path.now r (Ok c.in_ok-given.given) (ended c.synced.result) gives (λ why e. absurd cc) saves (synced-leaves c.synced.result m b c.synced.ensures.synced c.synced.ensures.failed)
