use Rattle.std.proofs.Common.{◌≡◌, ℕ, ◌+◌, ◌<◌, [], length, slice_index_or}
use Rattle.uf_cid.proofs.lanes.apart.write_group.Given as goal

abbrev pub invariant-places : goal.invariant-places
invariant-places l = (length l.out ≡ length l.fn.out)
    × ((i : ℕ) → i < l.k → slice_index_or l.out i [] ≡ slice_index_or l.fn.out i [])
    × ((i : ℕ) → i < l.j → slice_index_or l.out (l.k + i) [] ≡ slice_index_or l.digests i [])
