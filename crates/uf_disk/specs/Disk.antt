-- What is seen of a store on disk.
use Rattle.std.specs.Prelude.{None}
use Rattle.uf_cid.specs.declared.hash.BlockHash.{Ghosts as HashGhosts}
use Rattle.uf_disk.specs.Lending.{lent_by}
use Rattle.uf_disk.specs.declared.store.DiskStore.{DiskStore}
use Rattle.uf_store.specs.Seen.{Seen}

-- it tells nothing
abbrev pub disk_seen : {X R : Type 0} {H : HashGhosts X} → DiskStore X R H → Seen
disk_seen s = record {
  told = None;
  lent = lent_by s.lending;
  finds = s.finds;
  misses = s.misses;
  faults = s.faults;
  clashes = s.clashes;
}
