use Rattle.std.proofs.Common.{◌≡◌}
use Rattle.std.specs.List.{AllByRecursion}
use Rattle.uf_tree.specs.Validity.{IsNamed}
use Rattle.uf_shard.specs.Sorting.{without_repeats}
use Rattle.uf_shard.proofs.gathering.first_of_each.Given as goal

abbrev pub invariant-loop-pair : goal.invariant-loop-pair
invariant-loop-pair l = record {
  pairs : l.pairs ≡ without_repeats l.yielded;
  named : AllByRecursion IsNamed l.pairs;
}
