use Rattle.std.proofs.Common.{[]}
use Rattle.uf_build.proofs.Among.{front-whole}
use Rattle.uf_tree.specs.Metas.{none}
use Rattle.uf_gen.proofs.fresh.feed.Goals as goal

pub returns-in-Ok-clause-no_other : goal.returns-in-Ok-clause-no_other
returns-in-Ok-clause-no_other g c = λ fed. front-whole g.S.X.BlockHash.block32 c.args.builder.now.profile none c.args.bytes.now (g.S.Store.seen c.args.store.now).told (g.S.Store.seen c.feed.new.store).told (c.feed.ensures.no_other [] fed)

pub returns-in-Err-Store-clause-no_other : goal.returns-in-Err-Store-clause-no_other
returns-in-Err-Store-clause-no_other g c = λ fed. front-whole g.S.X.BlockHash.block32 c.args.builder.now.profile none c.args.bytes.now (g.S.Store.seen c.args.store.now).told (g.S.Store.seen c.feed.new.store).told (c.feed.ensures.no_other [] fed)
