use Rattle.std.proofs.Common.{◌≡◌, ◌-◌, ◌++◌, drop, length}
use Rattle.uf_light.specs.FileCids.{cids_in}
use Rattle.uf_light.proofs.listing.put_parts.Given as goal

abbrev pub invariant-loop-i : goal.invariant-loop-i
invariant-loop-i l = l.due ≡ cids_in (drop (length l.parts - l.i) l.parts) ++ l.initial.due
