use Rattle.std.proofs.Common.{Some}
use Rattle.std.proofs.lemmas.Result.{err_from_is_err_and}
use Rattle.uf_mfs.specs.Bad.{IsBadInTree}
use Rattle.uf_store.specs.Calls.{OnlySaves}
use Rattle.uf_store.proofs.Calls.{saves-saves}
use Rattle.uf_tree.specs.declared.nodes.Entry.{Entry}
use Rattle.uf_command.specs.Kinds.{IsOf, refusal_fault}
use Rattle.uf_top.specs.Grafts.{graft_kinds}
use Rattle.uf_top.proofs.Adopted.{tree-kind}
use Rattle.uf_top.proofs.Putting.{put-given}
use Rattle.uf_top.proofs.Grafted.{up-given, up-same}
use Rattle.uf_top.proofs.PutSaved.{built-saved, unbuilt-saved}
use Rattle.uf_top.proofs.Refusing.{counts-both, of-both, shown-both}
use Rattle.uf_top.proofs.commands.files_cp.put_at.Goals as goal

pub returns-clause-puts : goal.returns-clause-puts
returns-clause-puts g c = λ held t good denoted.
    let X = g.S.X.BlockHash.block32 in let N = g.N.NameHash.name64 in let bad = IsBadInTree X N (Some c.args.tree.now.profile) c.args.tree.now.root.cid in
    let b = g.S.Store.seen c.built.new.store in let d = g.S.Store.seen c.place.new.store in
    let e = c.in_ok-entry.ensures in let k = c.place.ensures in let is = c.map_err.ensures.cases in
    let after : OnlySaves X bad (refusal_fault c.map_err.result) b d = record { cause = shown-both c.place.result c.map_err.result X bad bad (λ role bytes h. h) b d is k.cause; good = k.good; saves = k.saves } in
    put-given X N c.args.tree.now c.place.new.self e.saves after (λ f u h. record { profile = c.requires.mfs; tree = h.tree; planned = h.planned; is = h.is })
    c.args.spot.now t c.in_ok-entry.entry c.place.result c.map_err.result is (e.builds held t good denoted) k.lost k.missing

pub returns-clause-saves : goal.returns-clause-saves
returns-clause-saves g c =
    let X = g.S.X.BlockHash.block32 in let bad = IsBadInTree X g.N.NameHash.name64 (Some c.args.tree.now.profile) c.args.tree.now.root.cid in
    let b = g.S.Store.seen c.built.new.store in let d = g.S.Store.seen c.place.new.store in let k = c.place.ensures in
    let after : OnlySaves X bad (refusal_fault c.map_err.result) b d = record { cause = shown-both c.place.result c.map_err.result X bad bad (λ role bytes h. h) b d c.map_err.ensures.cases k.cause; good = k.good; saves = k.saves } in
    saves-saves c.in_ok-entry.ensures.saves after

pub returns-clause-kinds : goal.returns-clause-kinds
returns-clause-kinds g c = of-both c.place.result c.map_err.result (λ r given. IsOf graft_kinds given) c.map_err.ensures.cases (λ done. tt) tree-kind

pub returns-in_err-entry-clause-touched : goal.returns-in_err-entry-clause-touched
returns-in_err-entry-clause-touched g c =
    let out = err_from_is_err_and c.from_residual.result c.from_residual.ensures.1 in
    rw (out.1, out.2) (up-same Entry (Unit {0}) c.in_err-entry.field-0.0 c.args.touches.now c.built.new.touches c.in_err-entry.ensures.touched)

pub returns-clause-touched : goal.returns-clause-touched
returns-clause-touched g c =
    up-given (Unit {0}) c.map_err.result c.args.touches.now c.built.new.touches c.place.new.touches c.in_ok-entry.ensures.touched.kept
    (counts-both c.place.result c.map_err.result c.built.new.touches c.place.new.touches c.map_err.ensures.cases c.place.ensures.touched)

pub returns-in_err-entry-clause-no_other : goal.returns-in_err-entry-clause-no_other
returns-in_err-entry-clause-no_other g c =
    λ held t good denoted p es over last can.
    unbuilt-saved g.S.X.BlockHash.block32 g.N.NameHash.name64 c.args.tree.now c.args.spot.now t (g.S.Store.seen c.args.store.now) (g.S.Store.seen c.built.new.store)
    (c.in_err-entry.ensures.no_other held t good denoted) p es over

pub returns-clause-no_other : goal.returns-clause-no_other
returns-clause-no_other g c = λ held t good denoted p es over last can.
    let e = c.in_ok-entry.ensures in let k = c.place.ensures in
    built-saved g.S.X.BlockHash.block32 g.N.NameHash.name64 c.args.tree.now c.place.new.self c.args.spot.now t c.in_ok-entry.entry (g.S.Store.seen c.args.store.now) (g.S.Store.seen c.built.new.store) (g.S.Store.seen c.place.new.store)
    c.requires.mfs e.saves (e.no_other held t good denoted) (e.builds held t good denoted) k.good k.saves k.no_other p es over last can
