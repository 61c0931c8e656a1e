use Rattle.uf_store.proofs.Holding.{damaged-not}
use Rattle.uf_store.proofs.shelf.Shelf.is_damaged.Goals as goal

pub returns-then-self-clause-damaged : goal.returns-then-self-clause-damaged
returns-then-self-clause-damaged g c = (
  (λ no. absurd (cc)),
  (λ damaged. absurd (damaged-not g.X.BlockHash.block32 c.args.cid.now c.args.block.now (c.args.self.now.whole c.if-self.true c.args.cid.now c.args.block.now c.requires) damaged)),
)

pub returns-then-self-clause-whole : goal.returns-then-self-clause-whole
returns-then-self-clause-whole g c = λ _. c.args.self.now.whole c.if-self.true c.args.cid.now c.args.block.now c.requires
