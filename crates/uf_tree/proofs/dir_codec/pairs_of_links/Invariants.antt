use Rattle.std.proofs.Common.{◌≡◌, map, take}
use Rattle.std.specs.List.{AllByRecursion}
use Rattle.uf_tree.specs.Codecs.{pair_link}
use Rattle.uf_tree.specs.Validity.{IsNamed}
use Rattle.uf_tree.proofs.dir_codec.pairs_of_links.Given as goal

abbrev pub invariant-loop-link : goal.invariant-loop-link
invariant-loop-link l = record {
  each : AllByRecursion IsNamed l.pairs;
  read : map pair_link l.pairs ≡ take l.link-index l.links;
}
