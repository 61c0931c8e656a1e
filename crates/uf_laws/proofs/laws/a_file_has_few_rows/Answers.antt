use Rattle.uf_tree.proofs.Canonical.{few_file_rows}
use Rattle.uf_tree.proofs.Told.{kept}
use Rattle.uf_laws.proofs.laws.a_file_has_few_rows.Goals as goal

pub returns : goal.returns
returns c = λ p m n height ok short h. few_file_rows p.chunk p.width m n height (kept p ok).two short h
