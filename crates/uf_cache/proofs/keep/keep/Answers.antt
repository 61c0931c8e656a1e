use Rattle.uf_cache.proofs.Bytes.{room-put}
use Rattle.uf_cache.proofs.keep.keep.Goals as goal

pub returns-then-eq-clause-room : goal.returns-then-eq-clause-room
returns-then-eq-clause-room c =
    room-put _ c.args.cid.now c.args.bytes.now c.make_room.new.entries _ c.put.ensures c.make_room.ensures.room
