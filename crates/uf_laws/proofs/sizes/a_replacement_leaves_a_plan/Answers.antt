use Rattle.uf_laws.proofs.Replaced.{replaced-plan, replaced-tsize}
use Rattle.uf_laws.proofs.sizes.a_replacement_leaves_a_plan.Goals as goal

pub returns : goal.returns
returns c = record {
  plan = λ X N p meta name old e l good dir is entry le h. replaced-plan X N p meta name old e l good dir is entry le h;
  no_greater = λ X N p meta name old e l good dir is entry le. replaced-tsize X N p meta name old e l good dir is entry le;
}
