use Rattle.std.proofs.Common.{◌+◌, ap}
use Rattle.uf_adopt.proofs.Denoted.{with-room}
use Rattle.uf_adopt.proofs.adopting.adopt_surveyed.Goals as goal

pub returns-clause-builds : goal.returns-clause-builds
returns-clause-builds g c = λ held t good denoted.
    c.adopt_within.ensures.builds held t good
    (with-room g.S.X.BlockHash.block32 g.N.NameHash.name64 c.args.p.now c.args.limits.now held c.args.cid.now t (c.from-room.result + 1) (ap (λ n. n + 1) c.from-room.ensures) denoted)

pub returns-clause-no_other : goal.returns-clause-no_other
returns-clause-no_other g c = λ held t good denoted.
    c.adopt_within.ensures.no_other held t good
    (with-room g.S.X.BlockHash.block32 g.N.NameHash.name64 c.args.p.now c.args.limits.now held c.args.cid.now t (c.from-room.result + 1) (ap (λ n. n + 1) c.from-room.ensures) denoted)
