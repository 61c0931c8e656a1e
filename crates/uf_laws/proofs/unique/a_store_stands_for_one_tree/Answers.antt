use Rattle.uf_laws.proofs.Heads.{one_tree, one_standing}
use Rattle.uf_laws.proofs.unique.a_store_stands_for_one_tree.Goals as goal

pub returns : goal.returns
returns c = record {
  tree = λ X N held head p q es fs good small h k. one_tree X N good small held head p q es fs h k;
  standing = λ X N held head s r good small h k. one_standing X N good small held head s r h k;
}
