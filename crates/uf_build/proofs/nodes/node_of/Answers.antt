use Rattle.std.proofs.Common.{arith, sym, subst}
use Rattle.std.proofs.lemmas.Grind.{common_steps}
use Rattle.std.proofs.lemmas.List.{map_more}
use Rattle.uf_tree.proofs.Each.{both}
use Rattle.uf_tree.specs.Validity.{IsPartLink}
use Rattle.std.specs.List.{AllByRecursion}
use Rattle.uf_build.proofs.nodes.node_of.Goals as goal

pub loop-part-preserved : goal.loop-part-preserved
loop-part-preserved c = record {
  links = grind (arith, common_steps, map_more);
  sizes = grind (arith, common_steps, map_more);
  valid = subst (λ l. AllByRecursion IsPartLink l) (sym c.in_ok-push.ensures.ok) (both IsPartLink c.loop-part.links _ c.loop-part.invariant.valid (c.link_to.ensures.valid, tt));
}
