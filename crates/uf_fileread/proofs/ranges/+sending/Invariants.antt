use Rattle.std.proofs.Common.{◌≡◌, ◌≤◌, ◌+◌, ◌-◌, ◌*◌, ℕ, List, drop}
use Rattle.std.specs.List.{flat_map}
use Rattle.uf_store.specs.Faults.{StaysCalm}
use Rattle.uf_store.specs.Keeping.{Agrees}
use Rattle.uf_tree.specs.declared.profile.Profile.{Profile}
use Rattle.uf_tree.specs.FileSub.{blocks_over}
use Rattle.uf_tree.specs.Metas.{none}
use Rattle.uf_fileread.specs.Ranges.{AppendsCount, blocks_read}
use Rattle.uf_fileread.specs.Sending.{ArePartsOver}
use Rattle.uf_fileread.proofs.Sending.{Progress}
use Rattle.uf_fileread.proofs.ranges.+sending.Given as goal

abbrev pub decreases-send_part : goal.decreases-send_part
decreases-send_part g l = 3 * l.spot.rows

abbrev pub decreases-send_parts : goal.decreases-send_parts
decreases-send_parts g l = 3 * l.rows + 2

abbrev pub decreases-send_met : goal.decreases-send_met
decreases-send_met g l = 3 * l.rows + 1

abbrev pub invariant-send_parts-loop-part : goal.invariant-send_parts-loop-part
invariant-send_parts-loop-part g l = record {
  reads : (p : Profile) (k : ℕ) (gs : List (List ℕ)) → ArePartsOver g.S.X.BlockHash.block32 p l.rows k l.parts gs
      → Agrees (g.S.Store.seen l.initial.store).told (flat_map (blocks_over g.S.X.BlockHash.block32 p.chunk p.width k) gs)
      → Progress (g.S.Store.seen l.initial.store).told (λ o n b. blocks_read g.S.X.BlockHash.block32 p.chunk p.width none k o n b) l.reach.offset l.reach.count gs (drop l.part-index gs)
      l.place l.rest (g.O.Sink.holds l.initial.out) (g.O.Sink.holds l.out) l.initial.touches l.touches;
  few : l.rest ≤ l.reach.count;
  steps : l.initial.touches ≤ l.touches;
  appends : AppendsCount (l.reach.count - l.rest) (g.O.Sink.holds l.initial.out) (g.O.Sink.holds l.out);
  calm : StaysCalm (g.S.Store.seen l.initial.store) (g.S.Store.seen l.store);
  still : g.O.Sink.faults l.out ≡ g.O.Sink.faults l.initial.out;
  told : (g.S.Store.seen l.store).told ≡ (g.S.Store.seen l.initial.store).told;
}
