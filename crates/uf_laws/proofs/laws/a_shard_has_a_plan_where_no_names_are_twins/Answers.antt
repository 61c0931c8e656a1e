use Rattle.uf_tree.specs.ShardPlan.{same_slots}
use Rattle.uf_tree.proofs.Twins.{HasShard-Apart, Apart-HasShard, twins-Apart, Apart-twins}
use Rattle.uf_laws.proofs.laws.a_shard_has_a_plan_where_no_names_are_twins.Goals as goal

pub returns : goal.returns
returns c = λ N left l. (λ h. Apart-twins (same_slots N left) l (HasShard-Apart N left l h), λ h. Apart-HasShard N left l (twins-Apart (same_slots N left) l h))
