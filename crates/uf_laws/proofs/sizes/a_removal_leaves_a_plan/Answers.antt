use Rattle.uf_laws.proofs.Removed.{removed-plan, removed-less}
use Rattle.uf_laws.proofs.sizes.a_removal_leaves_a_plan.Goals as goal

pub returns : goal.returns
returns c = record {
  plan = λ X N p meta name old l good fits dir is h. removed-plan X N meta name old l good fits dir is p h;
  smaller = λ X N p meta name old l good fits dir is h. removed-less X N meta name old l good fits dir is p h;
}
