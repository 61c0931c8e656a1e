use Rattle.uf_pull.specs.Frames.{frames}
use Rattle.uf_pull.proofs.WholeLaws.{whole_asks}
use Rattle.uf_pull.proofs.laws.whole_pulls_ask_for_what_was_lacking.Goals as goal

pub returns : goal.returns
returns c = λ hash most root held bytes ends. whole_asks hash most root most held 1024 (frames bytes) ends
