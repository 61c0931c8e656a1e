use Rattle.std.proofs.Common.{◌≡◌, ◌+◌, ℕ, List, None, length}
use Rattle.uf_edge.specs.Counts.{Stood}
use Rattle.uf_store.specs.Calls.{OnlyReads}
use Rattle.uf_store.specs.Keeping.{Agrees}
use Rattle.uf_tree.specs.declared.meta.Meta.{Meta}
use Rattle.uf_tree.specs.declared.profile.Profile.{Profile}
use Rattle.uf_tree.specs.FilePlan.{file_plan}
use Rattle.uf_tree.specs.FileSub.{whole_blocks}
use Rattle.uf_fileread.specs.Ranges.{IsFile}
use Rattle.uf_light.specs.FileCids.{IsBadInSome}
use Rattle.uf_light.proofs.Going.{Gone}
use Rattle.uf_light.proofs.listing.file_cids.Given as goal

abbrev pub invariant-loop : goal.invariant-loop
invariant-loop g l = record {
  gone : (p : Profile) (m : Meta) (bytes : List ℕ) (height : ℕ) → IsFile g.S.X.BlockHash.block32 p m bytes l.entry.cid height
      → Agrees (g.S.Store.seen l.fn.store).told (file_plan g.S.X.BlockHash.block32 p m bytes).blocks
      → Stood (g.S.Store.seen l.fn.store).faults (g.S.Store.seen l.store).faults
      → Gone g.S.X.BlockHash.block32 p (g.S.Store.seen l.fn.store).told (whole_blocks g.S.X.BlockHash.block32 p.chunk p.width m height bytes) l.cids l.due;
  reads : OnlyReads g.S.X.BlockHash.block32 (IsBadInSome (g.S.Store.seen l.fn.store).told) None (g.S.Store.seen l.fn.store) (g.S.Store.seen l.store);
  touched : l.touches ≡ l.initial.touches + length l.cids;
}
