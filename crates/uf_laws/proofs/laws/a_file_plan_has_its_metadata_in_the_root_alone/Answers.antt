use Rattle.uf_laws.proofs.FirstRows.{under-roots}
use Rattle.uf_laws.proofs.laws.a_file_plan_has_its_metadata_in_the_root_alone.Goals as goal

pub returns : goal.returns
returns c = under-roots
