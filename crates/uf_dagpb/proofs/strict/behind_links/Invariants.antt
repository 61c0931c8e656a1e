use Rattle.std.proofs.Common.{◌≡◌, ◌++◌, take}
use Rattle.uf_dagpb.specs.Spelling.{links_bytes, AreLinks}
use Rattle.uf_dagpb.proofs.strict.behind_links.Given as goal

abbrev pub invariant-loop-link : goal.invariant-loop-link
invariant-loop-link l = record {
  valid : AreLinks (take l.link-index l.links);
  front : l.bytes ≡ links_bytes (take l.link-index l.links) ++ l.rest;
}
