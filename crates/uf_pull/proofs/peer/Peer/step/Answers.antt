use Rattle.std.proofs.Common.{◌≡◌, ◌&&◌, ap, false, refl}
use Rattle.std.specs.Ordering.{eq_by_cmp}
use Rattle.uf_cid.specs.Cid.{cid_cmp}
use Rattle.uf_pull.specs.Due.{is_block_of}
use Rattle.uf_pull.specs.Reading.{bytes_between}
use Rattle.uf_pull.proofs.Stepping.{drops_block, drops_other, step_block, step_cut, step_lacks, step_wrong}
use Rattle.uf_pull.proofs.Ties.{block_of, tie_of}
use Rattle.uf_pull.proofs.peer.Peer.step.Goals.{else-eq-2-via-then-eq-2+else-eq-3, else-eq-2-via-else-eq-2}
use Rattle.uf_pull.proofs.peer.Peer.step.Goals as goal

pub returns-in-Cut-clause-steps : goal.returns-in-Cut-clause-steps
returns-in-Cut-clause-steps g c = λ bytes left stop.
    step_cut g.X.BlockHash.block32 c.args.cid.now c.args.self.now c.read_front.new.self bytes (g.I.Source.left c.read_front.new.input) c.in_ok-read_front.ensures.same
    (rw c.in-Cut.is at (c.in_ok-read_front.ensures.reads bytes left))

pub returns-in-Wrong-clause-steps : goal.returns-in-Wrong-clause-steps
returns-in-Wrong-clause-steps g c = λ bytes left stop.
    step_wrong g.X.BlockHash.block32 c.args.cid.now c.args.self.now c.read_front.new.self bytes (g.I.Source.left c.read_front.new.input) c.in_ok-read_front.ensures.same
    (rw c.in-Wrong.is at (c.in_ok-read_front.ensures.reads bytes left))

pub returns-then-eq-clause-steps : goal.returns-then-eq-clause-steps
returns-then-eq-clause-steps g c = λ bytes left stop.
    step_lacks g.X.BlockHash.block32 c.args.cid.now c.args.self.now c.read_front.new.self bytes (g.I.Source.left c.read_front.new.input) c.in_ok-read_front.ensures.same
    c.in-Lacks.lacked (rw c.in-Lacks.is at (c.in_ok-read_front.ensures.reads bytes left)) (tie_of c.in-Lacks.lacked c.args.cid.now c.eq.result _ c.eq.ensures c.if-eq.true)

pub returns-else-eq-clause-steps : goal.returns-else-eq-clause-steps
returns-else-eq-clause-steps g c = λ bytes left.
    drops_other g.X.BlockHash.block32 c.args.cid.now c.args.self.now c.read_front.new.self bytes (g.I.Source.left c.read_front.new.input) c.in_ok-read_front.ensures.same
    c.in-Lacks.lacked (rw c.in-Lacks.is at (c.in_ok-read_front.ensures.reads bytes left)) (tie_of c.in-Lacks.lacked c.args.cid.now c.eq.result _ c.eq.ensures c.if-eq.false)
    c.drop_frame.result c.drop_frame.new.self c.drop_frame.ensures

pub returns-then-eq-3-clause-steps : goal.returns-then-eq-3-clause-steps
returns-then-eq-3-clause-steps g c = λ bytes left.
    let tie = tie_of c.in-Gives.given c.args.cid.now c.eq-in-Gives.result _ c.eq-in-Gives.ensures c.if-eq-2.true in
    let block = block_of g.X.BlockHash.block32 c.args.cid.now _ c.bytes.result.now c.block32.result c.eq-then-eq-2.result _ c.bytes.ensures c.block32.ensures c.eq-then-eq-2.ensures c.if-eq-3.true in
    step_block g.X.BlockHash.block32 c.args.cid.now c.args.self.now c.read_front.new.self bytes (g.I.Source.left c.read_front.new.input) c.in_ok-read_front.ensures.same
    c.in-Gives.given c.in-Gives.from c.in-Gives.to (rw c.in-Gives.is at (c.in_ok-read_front.ensures.reads bytes left)) _ (λ i. tie i && block i) refl refl refl

pub returns-else-eq-2-clause-steps : goal.returns-else-eq-2-clause-steps
returns-else-eq-2-clause-steps g c = λ bytes left.
    let block = bytes_between c.in-Gives.from c.in-Gives.to c.read_front.new.self.buffer.items in
    let no : (eq_by_cmp cid_cmp c.in-Gives.given c.args.cid.now && is_block_of g.X.BlockHash.block32 c.args.cid.now block) ≡ false =
    elim c.else-eq-2.branch [
      | else-eq-2-via-then-eq-2+else-eq-3 w ↦
          let tie = tie_of c.in-Gives.given c.args.cid.now c.eq-in-Gives.result _ c.eq-in-Gives.ensures w.if-eq-2.true in
          let wrong = block_of g.X.BlockHash.block32 c.args.cid.now block w.bytes.result.now w.block32.result w.eq-then-eq-2.result _ w.bytes.ensures w.block32.ensures w.eq-then-eq-2.ensures w.if-eq-3.false in
          λ i. tie i && wrong i
      | else-eq-2-via-else-eq-2 w ↦
          ap (λ b. b && is_block_of g.X.BlockHash.block32 c.args.cid.now block) (tie_of c.in-Gives.given c.args.cid.now c.eq-in-Gives.result _ c.eq-in-Gives.ensures w.if-eq-2.false)
    ] in
    drops_block g.X.BlockHash.block32 c.args.cid.now c.args.self.now c.read_front.new.self bytes (g.I.Source.left c.read_front.new.input) c.in_ok-read_front.ensures.same
    c.in-Gives.given c.in-Gives.from c.in-Gives.to (rw c.in-Gives.is at (c.in_ok-read_front.ensures.reads bytes left)) no c.drop_frame-in-Gives.result c.drop_frame-in-Gives.new.self c.drop_frame-in-Gives.ensures
