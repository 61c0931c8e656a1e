use Rattle.uf_top.proofs.commands.add.profile_of.Goals as goal

pub returns-in-Ok-clause-read : goal.returns-in-Ok-clause-read
returns-in-Ok-clause-read c = (c.in-Ok.head.root, c.in-Ok.ensures.read)
