use Rattle.std.proofs.Common.{◌≡◌, take}
use Rattle.std.specs.FinMap.{from_entries}
use Rattle.uf_cid.specs.Cid.{cid_cmp}
use Rattle.uf_store.specs.Sweeping.{is_among, part_of}
use Rattle.uf_store.proofs.shelf.Shelf.only.Given as goal

abbrev pub invariant-loop-place : goal.invariant-loop-place
invariant-loop-place g l =
    from_entries {R = cid_cmp} l.shelf.blocks.entries ≡ part_of (from_entries {R = cid_cmp} l.self.blocks.entries) (is_among (take l.place l.cids))
