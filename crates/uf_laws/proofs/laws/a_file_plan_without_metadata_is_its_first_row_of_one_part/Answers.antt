use Rattle.uf_tree.specs.Metas.{none}
use Rattle.uf_tree.proofs.Rows.{file_plan-top}
use Rattle.uf_tree.proofs.Told.{kept}
use Rattle.uf_laws.proofs.FirstRows.{first-row}
use Rattle.uf_laws.proofs.laws.a_file_plan_without_metadata_is_its_first_row_of_one_part.Goals as goal

pub returns : goal.returns
returns c = λ X p bytes h.
    let top = file_plan-top X p none bytes (kept p h).some (kept p h).two in
    first-row X p bytes top.0 (kept p h).two top.1
