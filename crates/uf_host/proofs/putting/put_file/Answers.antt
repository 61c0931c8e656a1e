use Rattle.std.proofs.Common.{◌∙◌}
use Rattle.uf_store.specs.Contents.{held_at}
use Rattle.uf_host.proofs.putting.put_file.Goals as goal

pub returns-clause-puts : goal.returns-clause-puts
returns-clause-puts g c = λ t bytes tells is. c.put_pieces.ensures.puts t bytes tells (c.in_ok-pieces.ensures.bytes (held_at t) ∙ is)
