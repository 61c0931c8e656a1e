use Rattle.std.proofs.Common.{◌≡◌, ◌≤◌, ◌<◌, length}
use Rattle.std.specs.Prelude.{slice_index}
use Rattle.uf_host.specs.Paths.{kept_length}
use Rattle.uf_host.proofs.paths.trim.Given as goal

abbrev pub invariant-loop-end : goal.invariant-loop-end
invariant-loop-end l = record {
  same : kept_length l.path (length l.path) ≡ kept_length l.path l.end;
  fits : l.end ≤ length l.path;
  cut : l.end < length l.path → slice_index l.path l.end ≡ 47;
}

abbrev pub decreases-loop-end : goal.decreases-loop-end
decreases-loop-end l = l.end
