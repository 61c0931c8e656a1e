use Rattle.uf_tree.specs.declared.nodes.Entry.{Entry}
use Rattle.uf_top.proofs.Grafted.{adopted-fault, built-planned, refused-planned, up-none, up-ok}
use Rattle.uf_top.proofs.commands.files_cp.built.Goals as goal

pub returns-in-Ok-clause-builds : goal.returns-in-Ok-clause-builds
returns-in-Ok-clause-builds g c = λ held t good denoted.
    built-planned g.S.X.BlockHash.block32 g.N.NameHash.name64 c.args.tree.now.profile (g.S.Store.seen c.adopt_surveyed.new.store).told t c.in-Ok.entry (c.in-Ok.ensures.builds held t good denoted)

pub returns-in-Err-clause-builds : goal.returns-in-Err-clause-builds
returns-in-Err-clause-builds g c = λ held t good denoted.
    refused-planned g.S.X.BlockHash.block32 g.N.NameHash.name64 c.args.tree.now.profile held c.args.source.now (g.S.Store.seen c.adopt_surveyed.new.store).told c.args.cid.now t c.in-Err.fault c.adopting.result c.adopting.ensures (c.in-Err.ensures.builds held t good denoted)

pub returns-in-Ok-clause-touched : goal.returns-in-Ok-clause-touched
returns-in-Ok-clause-touched g c = up-ok Entry c.in-Ok.entry c.args.touches.now c.adopt_surveyed.new.touches c.in-Ok.ensures.touched

pub returns-in-Err-clause-touched : goal.returns-in-Err-clause-touched
returns-in-Err-clause-touched g c =
    let a = g.S.Store.seen c.args.store.now in let b = g.S.Store.seen c.adopt_surveyed.new.store in
    up-none Entry g.S.X.BlockHash.block32 c.adopting.result a b c.args.touches.now c.adopt_surveyed.new.touches
    (adopted-fault c.args.source.now c.in-Err.fault g.S.X.BlockHash.block32 a b c.adopting.result c.adopting.ensures c.in-Err.ensures.apart c.in-Err.ensures.cause)

pub returns-in-Err-clause-saves : goal.returns-in-Err-clause-saves
returns-in-Err-clause-saves g c =
    let a = g.S.Store.seen c.args.store.now in let b = g.S.Store.seen c.adopt_surveyed.new.store in let e = c.in-Err.ensures in
    record { cause = adopted-fault c.args.source.now c.in-Err.fault g.S.X.BlockHash.block32 a b c.adopting.result c.adopting.ensures e.apart e.cause; good = e.good; saves = e.saves }

pub returns-in-Ok-clause-no_other : goal.returns-in-Ok-clause-no_other
returns-in-Ok-clause-no_other g c = λ held t good denoted. c.in-Ok.ensures.no_other held t good denoted

pub returns-in-Err-clause-no_other : goal.returns-in-Err-clause-no_other
returns-in-Err-clause-no_other g c = λ held t good denoted. c.in-Err.ensures.no_other held t good denoted
