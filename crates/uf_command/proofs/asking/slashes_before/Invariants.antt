use Rattle.std.proofs.Common.{◌≤◌, ◌-◌, length}
use Rattle.uf_command.proofs.Slashes.{AreSlashes}
use Rattle.uf_command.proofs.asking.slashes_before.Given as goal

abbrev pub invariant-slashes : goal.invariant-slashes
invariant-slashes l = (l.count ≤ length l.text) × AreSlashes l.count l.text

abbrev pub decreases-slashes : goal.decreases-slashes
decreases-slashes l = length l.text - l.count
