use Rattle.std.proofs.Common.{◌≡◌, ◌-◌, ◌^◌, length, min, take}
use Rattle.uf_dagpb.specs.Spelling.{links_bytes}
use Rattle.uf_dagpb.proofs.writing.links_len.Given as goal

abbrev pub invariant-loop-link : goal.invariant-loop-link
invariant-loop-link l = l.len ≡ min (length (links_bytes (take l.link-index l.links))) (2 ^ 64 - 1)
