use Rattle.std.proofs.Common.{◌≡◌, ◌++◌, take}
use Rattle.uf_dagpb.specs.Spelling.{links_bytes}
use Rattle.uf_dagpb.proofs.writing.put_links.Given as goal

abbrev pub invariant-loop-link : goal.invariant-loop-link
invariant-loop-link l = l.out ≡ l.initial.out ++ links_bytes (take l.link-index l.links)
