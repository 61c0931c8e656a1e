use Rattle.std.proofs.Common.{◌≡◌, ◌++◌, map, take}
use Rattle.uf_dagpb.specs.Spelling.{links_bytes}
use Rattle.uf_tree.specs.Codecs.{pair_link}
use Rattle.uf_tree.proofs.dir_codec.put_pairs.Given as goal

abbrev pub invariant-loop-pair : goal.invariant-loop-pair
invariant-loop-pair l = l.out ≡ l.initial.out ++ links_bytes (map pair_link (take l.pair-index l.pairs))
