use Rattle.std.proofs.Common.{subst, ◌≤◌, length, add-one}
use Rattle.uf_tree.specs.FileSub.{span}
use Rattle.uf_tree.proofs.Valid.{root_node-valid}
use Rattle.uf_laws.proofs.laws.the_nodes_of_a_file_are_valid.Goals as goal

pub returns : goal.returns
returns c = λ X p m k bytes good ok carried fit small. root_node-valid X good p ok m carried k bytes (subst (λ h. length bytes ≤ span p.chunk p.width h) (add-one k) fit) small
