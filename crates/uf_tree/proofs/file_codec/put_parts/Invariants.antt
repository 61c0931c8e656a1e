use Rattle.std.proofs.Common.{◌≡◌, ◌++◌, take}
use Rattle.uf_dagpb.specs.Spelling.{links_bytes}
use Rattle.uf_tree.proofs.file_codec.put_parts.Given as goal

abbrev pub invariant-loop-link : goal.invariant-loop-link
invariant-loop-link l = l.out ≡ l.initial.out ++ links_bytes (take l.link-index l.links)
