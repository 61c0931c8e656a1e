use Rattle.uf_tree.specs.ShardPlan.{same_slots, same_hash}
use Rattle.uf_tree.proofs.Twins.{twins-same, same_slots-hash}
use Rattle.uf_laws.proofs.laws.twins_at_level_0_have_one_hash.Goals as goal

pub returns : goal.returns
returns c = λ N l fits. twins-same (same_slots N 7) (same_hash N) (λ a b. same_slots-hash N fits a b) l
