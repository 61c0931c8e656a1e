use Rattle.std.proofs.Common.{◌≡◌, ◌<◌, ℕ, false, get_or, length, map, take}
use Rattle.std.specs.Prelude.{◌==◌}
use Rattle.std.specs.List.{list_any}
use Rattle.uf_tree.specs.Nodes.{InSlot}
use Rattle.uf_tree.proofs.bits.slots_there.Given as goal

abbrev pub invariant-loop-placed : goal.invariant-loop-placed
invariant-loop-placed l = record {
  long : length l.there ≡ 256;
  there : (i : ℕ) → i < 256 → get_or l.there i false ≡ list_any (λ s. s == i) (map (λ (p : InSlot). p.0) (take l.placed-index l.items));
}
