use Rattle.std.proofs.Common.{◌∷◌, ◌++◌, ◌∙◌, [], Err, List, None, Ok, Some, ap, arith, length, length-append, refl, subst, sym}
use Rattle.std.proofs.lemmas.Result.{err_from_is_err_and}
use Rattle.uf_cid.specs.declared.cid.Cid.{Cid}
use Rattle.uf_store.specs.Calls.{OnlyReads}
use Rattle.uf_store.specs.Contents.{Told}
use Rattle.uf_store.specs.Keeping.{Agrees}
use Rattle.uf_store.specs.Lost.{FindsOver}
use Rattle.uf_store.proofs.Calls.{reads-by, reads-reads, shown-rises, stood-back, stood-front}
use Rattle.uf_store.proofs.Causes.{StaysCalm-refl}
use Rattle.uf_tree.specs.declared.nodes.Part.{Part}
use Rattle.uf_tree.specs.FileSub.{whole_blocks}
use Rattle.uf_tree.specs.Roots.{root_over}
use Rattle.uf_tree.specs.Validity.{IsHash}
use Rattle.uf_fileread.proofs.Sending.{root-agrees}
use Rattle.uf_light.specs.FileCids.{IsBadInSome, below, cids_in}
use Rattle.uf_light.proofs.Going.{ends, goes-on, next-agrees, no-more, one-more, starts, stops, taken}
use Rattle.uf_light.proofs.listing.file_cids.Goals as goal

pub loop-init : goal.loop-init
loop-init g c = record {
  gone = λ p m bytes height is agrees stood.
      let X = g.S.X.BlockHash.block32 in let good : IsHash X = record { size = g.met.S.X.BlockHash.size; are_bytes = g.met.S.X.BlockHash.are_bytes } in
      starts X good p (g.S.Store.seen c.args.store.now).told m bytes height c.args.entry.now.cid c.new-cids.result c.push.new.self is c.new-cids.ensures
      (c.in_ok-push.ensures.ok ∙ ap (λ (l : List Cid). c.args.entry.now.cid ∷ l) c.new-due.ensures);
  reads = record { cause = StaysCalm-refl _; told = refl };
  touched = let none = ap length c.new-cids.ensures in omega (arith, none);
}

pub loop-preserved : goal.loop-preserved
loop-preserved g c = record {
  gone = λ p m bytes height is agrees stood.
      let X = g.S.X.BlockHash.block32 in let good : IsHash X = record { size = g.met.S.X.BlockHash.size; are_bytes = g.met.S.X.BlockHash.are_bytes } in
      let a = g.S.Store.seen c.args.store.now in let b = g.S.Store.seen c.loop.store in let d = g.S.Store.seen c.parts_below.new.store in
      let calm = c.loop.invariant.reads.cause.faults in let same = c.loop.invariant.reads.told in let later = c.in_ok-parts.ensures.reads.cause.faults in
      let front = stood-front a.faults b.faults d.faults calm (omega (arith, later)) stood in
      let back = stood-back a.faults b.faults d.faults calm stood in
      let whole = whole_blocks X p.chunk p.width m height bytes in let rest = c.pop.new.self in
      let n = taken X good p a.told whole c.loop.cids c.loop.due c.in-Some.cid rest (c.loop.invariant.gone p m bytes height is agrees front) c.in-Some.ensures in
      let own = root_over X p.chunk p.width n.meta n.height n.bytes in
      let here = next-agrees X good p a.told whole c.loop.cids c.in-Some.cid rest n (root-agrees X good p c.args.entry.now.cid m bytes height a.told is agrees) in
      goes-on X good p a.told whole c.loop.cids c.in-Some.cid rest n c.in_ok-parts.parts c.push-in-loop.new.self c.put_parts.new.due
      (subst (λ (t : Told). FindsOver t (own ∷ []) (below X p n.height n.bytes) (Ok c.in_ok-parts.parts)) same
      (c.in_ok-parts.ensures.parts p n.meta n.height n.bytes n.is (subst (λ (t : Told). Agrees t (own ∷ [])) (sym same) here) back))
      c.in_ok-push-2.ensures.ok (c.in_ok-put_parts.ensures.ok ∙ ap (λ (l : List Part). cids_in l ++ rest) c.as_slice.ensures);
  reads =
      let more : OnlyReads g.S.X.BlockHash.block32 (IsBadInSome (g.S.Store.seen c.args.store.now).told) None (g.S.Store.seen c.loop.store) (g.S.Store.seen c.parts_below.new.store) =
      record { cause = c.in_ok-parts.ensures.reads.cause; told = c.in_ok-parts.ensures.reads.told } in
      reads-reads c.loop.invariant.reads more;
  touched =
      let before = c.loop.invariant.touched in let more = c.in_ok-parts.ensures.touches in
      let all = ap length c.in_ok-push-2.ensures.ok in let parts = length-append c.loop.cids (c.in-Some.cid ∷ []) in
      omega (arith, before, more, all, parts);
}

pub returns-in_default-clause-value : goal.returns-in_default-clause-value
returns-in_default-clause-value g c = λ p m bytes height is agrees stood.
    let X = g.S.X.BlockHash.block32 in let good : IsHash X = record { size = g.met.S.X.BlockHash.size; are_bytes = g.met.S.X.BlockHash.are_bytes } in
    ends X good p (g.S.Store.seen c.args.store.now).told (whole_blocks X p.chunk p.width m height bytes) c.loop.cids c.loop.due (c.loop.invariant.gone p m bytes height is agrees stood) c.in_default.ensures.0

pub returns-in_err-parts-clause-value : goal.returns-in_err-parts-clause-value
returns-in_err-parts-clause-value g c = λ p m bytes height is agrees stood.
    let X = g.S.X.BlockHash.block32 in let good : IsHash X = record { size = g.met.S.X.BlockHash.size; are_bytes = g.met.S.X.BlockHash.are_bytes } in
    let a = g.S.Store.seen c.args.store.now in let b = g.S.Store.seen c.loop.store in let d = g.S.Store.seen c.parts_below.new.store in
    let f = c.in_err-parts.field-0.0 in
    let calm = c.loop.invariant.reads.cause.faults in let same = c.loop.invariant.reads.told in
    let front = stood-front a.faults b.faults d.faults calm (shown-rises X _ (Some f) b d c.in_err-parts.ensures.reads.cause).faults stood in
    let back = stood-back a.faults b.faults d.faults calm stood in
    let whole = whole_blocks X p.chunk p.width m height bytes in let rest = c.pop.new.self in
    let n = taken X good p a.told whole c.loop.cids c.loop.due c.in-Some.cid rest (c.loop.invariant.gone p m bytes height is agrees front) c.in-Some.ensures in
    let own = root_over X p.chunk p.width n.meta n.height n.bytes in
    let here = next-agrees X good p a.told whole c.loop.cids c.in-Some.cid rest n (root-agrees X good p c.args.entry.now.cid m bytes height a.told is agrees) in
    let out = err_from_is_err_and c.from_residual-in_err-parts.result c.from_residual-in_err-parts.ensures.1 in
    rw (out.1, out.2) (stops X good p a.told whole c.loop.cids c.in-Some.cid rest n f
    (subst (λ (t : Told). FindsOver t (own ∷ []) (below X p n.height n.bytes) (Err f)) same
    (c.in_err-parts.ensures.parts p n.meta n.height n.bytes n.is (subst (λ (t : Told). Agrees t (own ∷ [])) (sym same) here) back)))

pub returns-in_err-parts-clause-reads : goal.returns-in_err-parts-clause-reads
returns-in_err-parts-clause-reads g c =
    let X = g.S.X.BlockHash.block32 in let a = g.S.Store.seen c.args.store.now in let b = g.S.Store.seen c.loop.store in let d = g.S.Store.seen c.parts_below.new.store in
    let some = reads-by (IsBadInSome b.told) (λ role block bad. (c.in-Some.cid, bad)) c.in_err-parts.ensures.reads in
    let out = err_from_is_err_and c.from_residual-in_err-parts.result c.from_residual-in_err-parts.ensures.1 in
    rw (out.1, out.2) (reads-reads c.loop.invariant.reads (subst (λ (t : Told). OnlyReads X (IsBadInSome t) (Some c.in_err-parts.field-0.0) b d) c.loop.invariant.reads.told some))

pub returns-in_err-push-clause-few : goal.returns-in_err-push-clause-few
returns-in_err-push-clause-few g c = λ p m bytes height is agrees stood. omega arith

pub returns-in_default-clause-few : goal.returns-in_default-clause-few
returns-in_default-clause-few g c = λ p m bytes height is agrees stood.
    let X = g.S.X.BlockHash.block32 in let good : IsHash X = record { size = g.met.S.X.BlockHash.size; are_bytes = g.met.S.X.BlockHash.are_bytes } in
    let few = no-more X good p (g.S.Store.seen c.args.store.now).told (whole_blocks X p.chunk p.width m height bytes) c.loop.cids c.loop.due (c.loop.invariant.gone p m bytes height is agrees stood) in
    let before = c.loop.invariant.touched in omega (arith, few, before)

pub returns-clause-few : goal.returns-clause-few
returns-clause-few g c = λ p m bytes height is agrees stood.
    let X = g.S.X.BlockHash.block32 in let good : IsHash X = record { size = g.met.S.X.BlockHash.size; are_bytes = g.met.S.X.BlockHash.are_bytes } in
    let few = no-more X good p (g.S.Store.seen c.args.store.now).told (whole_blocks X p.chunk p.width m height bytes) c.loop.cids c.loop.due (c.loop.invariant.gone p m bytes height is agrees stood) in
    let before = c.loop.invariant.touched in omega (arith, few, before)

pub returns-in_err-parts-clause-few : goal.returns-in_err-parts-clause-few
returns-in_err-parts-clause-few g c = λ p m bytes height is agrees stood.
    let X = g.S.X.BlockHash.block32 in let good : IsHash X = record { size = g.met.S.X.BlockHash.size; are_bytes = g.met.S.X.BlockHash.are_bytes } in
    let a = g.S.Store.seen c.args.store.now in let b = g.S.Store.seen c.loop.store in let d = g.S.Store.seen c.parts_below.new.store in
    let front = stood-front a.faults b.faults d.faults c.loop.invariant.reads.cause.faults (shown-rises X _ (Some c.in_err-parts.field-0.0) b d c.in_err-parts.ensures.reads.cause).faults stood in
    let whole = whole_blocks X p.chunk p.width m height bytes in
    let n = taken X good p a.told whole c.loop.cids c.loop.due c.in-Some.cid c.pop.new.self (c.loop.invariant.gone p m bytes height is agrees front) c.in-Some.ensures in
    let few = one-more X good p a.told whole c.loop.cids c.in-Some.cid c.pop.new.self n in
    let before = c.loop.invariant.touched in let more = c.in_err-parts.ensures.touches in omega (arith, few, before, more)

pub returns-in_err-push-2-clause-few : goal.returns-in_err-push-2-clause-few
returns-in_err-push-2-clause-few g c = λ p m bytes height is agrees stood.
    let X = g.S.X.BlockHash.block32 in let good : IsHash X = record { size = g.met.S.X.BlockHash.size; are_bytes = g.met.S.X.BlockHash.are_bytes } in
    let a = g.S.Store.seen c.args.store.now in let b = g.S.Store.seen c.loop.store in let d = g.S.Store.seen c.parts_below.new.store in
    let later = c.in_ok-parts.ensures.reads.cause.faults in
    let front = stood-front a.faults b.faults d.faults c.loop.invariant.reads.cause.faults (omega (arith, later)) stood in
    let whole = whole_blocks X p.chunk p.width m height bytes in
    let n = taken X good p a.told whole c.loop.cids c.loop.due c.in-Some.cid c.pop.new.self (c.loop.invariant.gone p m bytes height is agrees front) c.in-Some.ensures in
    let few = one-more X good p a.told whole c.loop.cids c.in-Some.cid c.pop.new.self n in
    let before = c.loop.invariant.touched in let more = c.in_ok-parts.ensures.touches in omega (arith, few, before, more)

pub returns-in_err-put_parts-clause-few : goal.returns-in_err-put_parts-clause-few
returns-in_err-put_parts-clause-few g c = λ p m bytes height is agrees stood.
    let X = g.S.X.BlockHash.block32 in let good : IsHash X = record { size = g.met.S.X.BlockHash.size; are_bytes = g.met.S.X.BlockHash.are_bytes } in
    let a = g.S.Store.seen c.args.store.now in let b = g.S.Store.seen c.loop.store in let d = g.S.Store.seen c.parts_below.new.store in
    let later = c.in_ok-parts.ensures.reads.cause.faults in
    let front = stood-front a.faults b.faults d.faults c.loop.invariant.reads.cause.faults (omega (arith, later)) stood in
    let whole = whole_blocks X p.chunk p.width m height bytes in
    let n = taken X good p a.told whole c.loop.cids c.loop.due c.in-Some.cid c.pop.new.self (c.loop.invariant.gone p m bytes height is agrees front) c.in-Some.ensures in
    let few = one-more X good p a.told whole c.loop.cids c.in-Some.cid c.pop.new.self n in
    let before = c.loop.invariant.touched in let more = c.in_ok-parts.ensures.touches in omega (arith, few, before, more)
