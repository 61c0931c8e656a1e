use Rattle.std.proofs.Common.{◌≡◌, ◌≤◌, ◌∙◌, Result, Some, Ok, ap, arith, refl, subst, sym}
use Rattle.std.specs.Prelude.{IsErr}
use Rattle.uf_command.specs.declared.types.Refusal.{Refusal}
use Rattle.std.proofs.lemmas.Result.{err_from_is_err_and}
use Rattle.uf_mfs.specs.Bad.{IsBadInTree}
use Rattle.uf_command.specs.Kinds.{refusal_fault}
use Rattle.uf_store.proofs.Calls.{reads-reads, shown-rises, stood-back, stood-front}
use Rattle.uf_mfs.specs.Standing.{StandsOver}
use Rattle.uf_plain.specs.Moves.{spotted}
use Rattle.uf_command.specs.Dags.{adopted_name, tree_at}
use Rattle.uf_plain.specs.declared.spot.Spot.{Spot}
use Rattle.uf_top.specs.Reply.{by_rule}
use Rattle.uf_top.specs.Saving.{adopted_blocks}
use Rattle.uf_top.proofs.Putting.{ok-value}
use Rattle.uf_top.proofs.Saved.{can-rise-later, no-other-same, still-stood}
use Rattle.uf_top.proofs.Grafted.{adopted-saved, nowhere, put-there, spot-there, up-after, up-counts, up-none}
use Rattle.uf_top.proofs.commands.files_cp.grafted.Goals as goal

pub returns-in_err-spot-clause-puts : goal.returns-in_err-spot-clause-puts
returns-in_err-spot-clause-puts g c =
    let out = err_from_is_err_and c.from_residual-in_err-spot.result c.from_residual-in_err-spot.ensures.1 in
    rw (out.1, out.2) (λ held tells.
    let X = g.S.X.BlockHash.block32 in let N = g.N.NameHash.name64 in
    let a = g.S.Store.seen c.args.store.now in let m = g.S.Store.seen c.tree_in.new.store in let b = g.S.Store.seen c.spot_for.new.store in
    let t = c.in_ok-cid.ensures in let e = c.in_err-spot.ensures in
    nowhere X N c.args.source.now c.args.dest.now held c.args.tree.now c.args.tree.now a m t.reads.told c.in_ok-cid.cid tells t.finds b c.in_err-spot.field-0.0 e.finds
    (λ n stood. stood-back a.faults m.faults n t.reads.cause.faults stood))

pub returns-clause-puts : goal.returns-clause-puts
returns-clause-puts g c = λ held tells.
    let X = g.S.X.BlockHash.block32 in let N = g.N.NameHash.name64 in
    let a = g.S.Store.seen c.args.store.now in let m = g.S.Store.seen c.tree_in.new.store in let b = g.S.Store.seen c.spot_for.new.store in let d = g.S.Store.seen c.put_at.new.store in
    let t = c.in_ok-cid.ensures in let e = c.in_ok-spot.ensures in
    put-there X N c.args.source.now c.args.dest.now held c.args.tree.now c.put_at.new.tree a m t.reads.told c.in_ok-cid.cid tells t.finds b d e.reads.told c.in_ok-spot.spot c.put_at.result
    (reads-reads t.reads e.reads) e.finds
    (λ stood. stood-back a.faults m.faults b.faults t.reads.cause.faults
    (stood-front a.faults b.faults d.faults (e.reads.cause.faults ∙ t.reads.cause.faults) (shown-rises X (IsBadInTree X N (Some c.args.tree.now.profile) c.args.tree.now.root.cid) (refusal_fault c.put_at.result) b d c.put_at.ensures.saves.cause).faults stood)) c.put_at.ensures.puts

pub returns-in_err-cid-clause-touched : goal.returns-in_err-cid-clause-touched
returns-in_err-cid-clause-touched g c =
    let out = err_from_is_err_and c.from_residual.result c.from_residual.ensures.1 in
    rw (out.1, out.2) (up-none (Unit {0}) g.S.X.BlockHash.block32 c.in_err-cid.field-0.0 (g.S.Store.seen c.args.store.now) (g.S.Store.seen c.tree_in.new.store) c.args.touches.now c.tree_in.new.touches c.in_err-cid.ensures.reads.cause)

pub returns-in_err-spot-clause-touched : goal.returns-in_err-spot-clause-touched
returns-in_err-spot-clause-touched g c =
    let out = err_from_is_err_and c.from_residual-in_err-spot.result c.from_residual-in_err-spot.ensures.1 in
    rw (out.1, out.2) (up-counts (Unit {0}) c.in_err-spot.field-0.0 c.args.touches.now c.tree_in.new.touches c.spot_for.new.touches c.in_ok-cid.ensures.touched c.in_err-spot.ensures.touched)

pub returns-clause-touched : goal.returns-clause-touched
returns-clause-touched g c =
    let first = c.in_ok-cid.ensures.touched in
    let second = c.in_ok-spot.ensures.touched.kept in
    let low : c.args.touches.now ≤ c.spot_for.new.touches = omega (arith, first, second) in
    up-after (Unit {0}) c.put_at.result c.args.touches.now c.spot_for.new.touches c.put_at.new.touches low c.put_at.ensures.touched

pub returns-in_err-cid-clause-unplaced : goal.returns-in_err-cid-clause-unplaced
returns-in_err-cid-clause-unplaced g c = λ p es over stood none.
    let out = err_from_is_err_and c.from_residual.result c.from_residual.ensures.1 in
    (subst (λ (r : Result (Unit {0}) Refusal). IsErr r) (sym out.1) refl, c.in_err-cid.ensures.reads.told)

pub returns-in_err-spot-clause-unplaced : goal.returns-in_err-spot-clause-unplaced
returns-in_err-spot-clause-unplaced g c = λ p es over stood none.
    let out = err_from_is_err_and c.from_residual-in_err-spot.result c.from_residual-in_err-spot.ensures.1 in
    (subst (λ (r : Result (Unit {0}) Refusal). IsErr r) (sym out.1) refl, c.in_err-spot.ensures.reads.told ∙ c.in_ok-cid.ensures.reads.told)

pub returns-clause-unplaced : goal.returns-clause-unplaced
returns-clause-unplaced g c = λ p es over stood none.
    let X = g.S.X.BlockHash.block32 in let N = g.N.NameHash.name64 in
    let a = g.S.Store.seen c.args.store.now in let m = g.S.Store.seen c.tree_in.new.store in let b = g.S.Store.seen c.spot_for.new.store in let d = g.S.Store.seen c.put_at.new.store in
    let t = c.in_ok-cid.ensures in let e = c.in_ok-spot.ensures in
    let later = (shown-rises X (IsBadInTree X N (Some c.args.tree.now.profile) c.args.tree.now.root.cid) (refusal_fault c.put_at.result) b d c.put_at.ensures.saves.cause).faults in
    let on = stood-back a.faults m.faults b.faults t.reads.cause.faults (stood-front a.faults b.faults d.faults (e.reads.cause.faults ∙ t.reads.cause.faults) later stood) in
    absurd (spot-there (spotted c.args.dest.now (Some (adopted_name c.args.source.now)) es) c.in_ok-spot.spot (e.finds p es (subst (λ told. StandsOver X N told c.args.tree.now p es) (sym t.reads.told) over) on) none)

pub returns-in_err-cid-clause-no_other : goal.returns-in_err-cid-clause-no_other
returns-in_err-cid-clause-no_other g c = λ held p es tells over last can.
    let X = g.S.X.BlockHash.block32 in let N = g.N.NameHash.name64 in
    no-other-same X (adopted_blocks X N (tree_at held c.args.source.now) c.args.source.now c.args.dest.now p es) (g.S.Store.seen c.args.store.now).told (g.S.Store.seen c.tree_in.new.store).told c.in_err-cid.ensures.reads.told

pub returns-in_err-spot-clause-no_other : goal.returns-in_err-spot-clause-no_other
returns-in_err-spot-clause-no_other g c = λ held p es tells over last can.
    let X = g.S.X.BlockHash.block32 in let N = g.N.NameHash.name64 in
    no-other-same X (adopted_blocks X N (tree_at held c.args.source.now) c.args.source.now c.args.dest.now p es) (g.S.Store.seen c.args.store.now).told (g.S.Store.seen c.spot_for.new.store).told
    (c.in_err-spot.ensures.reads.told ∙ c.in_ok-cid.ensures.reads.told)

pub returns-clause-no_other : goal.returns-clause-no_other
returns-clause-no_other g c = λ held p es tells over last can.
    let X = g.S.X.BlockHash.block32 in let N = g.N.NameHash.name64 in
    let a = g.S.Store.seen c.args.store.now in let m = g.S.Store.seen c.tree_in.new.store in let b = g.S.Store.seen c.spot_for.new.store in let d = g.S.Store.seen c.put_at.new.store in
    let t = c.in_ok-cid.ensures in let e = c.in_ok-spot.ensures in
    let can_m = can-rise-later a m t.reads.cause can in
    let over_m = subst (λ told. StandsOver X N told c.args.tree.now p es) (sym t.reads.told) over in
    let v = ok-value (λ (spot : Spot). c.in_ok-spot.spot ≡ spot) (by_rule (spotted c.args.dest.now (Some (adopted_name c.args.source.now)) es)) (e.finds p es over_m (still-stood m.faults b.faults can_m.faults e.reads.cause.faults)) in
    adopted-saved X N c.args.source.now c.args.dest.now held c.args.tree.now c.put_at.new.tree a m t.reads.told c.in_ok-cid.cid tells t.finds b d e.reads.told c.in_ok-spot.spot p es
    (v.1 ∙ ap (λ (s : Spot). Ok s) (sym v.2))
    (λ good tree holds denoted. c.put_at.ensures.no_other good tree holds denoted p es (subst (λ told. StandsOver X N told c.args.tree.now p es) (sym e.reads.told) over_m) last (can-rise-later m b e.reads.cause can_m))
