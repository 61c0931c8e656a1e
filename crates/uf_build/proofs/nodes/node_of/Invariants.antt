use Rattle.std.proofs.Common.{◌≡◌, [], map, take}
use Rattle.std.specs.List.{AllByRecursion}
use Rattle.uf_tree.specs.Nodes.{link_of}
use Rattle.uf_tree.specs.Validity.{IsPartLink}
use Rattle.uf_build.proofs.nodes.node_of.Given as goal

abbrev pub invariant-loop-part : goal.invariant-loop-part
invariant-loop-part l = record {
  links : l.links ≡ map (λ m. link_of [] m.entry) (take l.part-index l.parts);
  sizes : l.sizes ≡ map (λ m. m.size) (take l.part-index l.parts);
  valid : AllByRecursion IsPartLink l.links;
}
