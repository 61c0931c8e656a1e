use Rattle.std.proofs.Common.{subst, ◌+◌, length, add-one}
use Rattle.uf_tree.specs.FileSub.{IsFileHeight, IsHeight}
use Rattle.uf_tree.specs.Roles.{IsSpanned}
use Rattle.uf_tree.proofs.Canonical.{node-canonical, root-canonical}
use Rattle.uf_laws.proofs.laws.the_nodes_of_a_file_are_canonical.Goals as goal

pub returns : goal.returns
returns c = record {
  root = λ X p m k bytes good ok carried height small. root-canonical X good p ok m carried k bytes (subst (λ h. IsFileHeight p.chunk p.width m (length bytes) h) (add-one k) height) small;
  below = λ X p above k whole bytes good ok height few fit small. node-canonical X good p ok above k whole bytes
      (subst (λ h. IsHeight p.chunk p.width whole (above + h)) (add-one k) height) few (subst (λ h. IsSpanned p h whole (length bytes)) (add-one k) fit) small;
}
