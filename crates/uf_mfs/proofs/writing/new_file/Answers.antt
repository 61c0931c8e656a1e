use Rattle.std.proofs.Common.{◌+◌, [], Ok, arith, subst}
use Rattle.std.proofs.lemmas.Result.{err_from_is_err_and}
use Rattle.uf_cid.specs.declared.cid.Cid.{Cid}
use Rattle.uf_cid.specs.declared.cid.Codec.TheVariants.{Raw}
use Rattle.uf_mfs.specs.declared.writing.Start.{Start}
use Rattle.uf_plain.specs.Edits.{child}
use Rattle.uf_plain.specs.Files.{begun, kept_meta}
use Rattle.uf_mfs.specs.Answers.{Decides}
use Rattle.uf_mfs.specs.Writes.{IsStart}
use Rattle.uf_tree.specs.Tree.{Dir}
use Rattle.uf_tree.specs.TreePlan.{blocks}
use Rattle.uf_mfs.proofs.Folders.{over-first}
use Rattle.uf_mfs.proofs.Rewriting.{in-some, kept-good, new-created, new-created-touches, new-made, new-refused, new-touches, no-saves, start-there}
use Rattle.uf_store.proofs.Among.{SavesAmong-refl}
use Rattle.uf_mfs.proofs.SavingFiles.{empty-saves, member-good, there-saves}
use Rattle.uf_mfs.proofs.writing.new_file.Goals as goal

pub returns-in_err-start-clause-gives : goal.returns-in_err-start-clause-gives
returns-in_err-start-clause-gives g c = λ N folder name es member o.
    let X = g.S.X.BlockHash.block32 in let p = c.args.site.now.profile in let site = c.args.site.now in
    let a = g.S.Store.seen c.args.store.now in let led = site.led + 1 in let m = child name es in
    let out = err_from_is_err_and c.from_residual.result c.from_residual.ensures.1 in
    rw (out.1, out.2) (new-refused X N p a a (blocks X N p (Dir es)) (kept_meta m) c.args.what site.piece.now led m c.in_err-start.field-0.0 (c.in_err-start.ensures X N a.told p m member))

pub returns-in-There-clause-gives : goal.returns-in-There-clause-gives
returns-in-There-clause-gives g c = λ N folder name es member o.
    let X = g.S.X.BlockHash.block32 in let p = c.args.site.now.profile in let site = c.args.site.now in
    let a = g.S.Store.seen c.args.store.now in let led = site.led + 1 in let m = child name es in
    let none = no-saves X N p a in
    let first = over-first X N p none c.rewritten_file.ensures.saves [] folder es o in
    new-made X N p none c.rewritten_file.ensures.saves folder c.in-There.old c.args.what site.piece.now led name es c.rewritten_file.result o
    (start-there X N p a folder c.in-There.old c.args.what name es (begun c.args.what led m) first
    (subst (λ (start : Start). Decides (λ bytes start. IsStart X N a.told p c.args.what m bytes start) (begun c.args.what led m) (Ok start)) c.in-There.is (c.in_ok-start.ensures X N a.told p m member)))
    (c.rewritten_file.ensures.gives N)

pub returns-in-There-clause-saves : goal.returns-in-There-clause-saves
returns-in-There-clause-saves g c =
    in-some g.S.X.BlockHash.block32 (λ name. 0) c.args.site.now.profile (g.S.Store.seen c.rewritten_file.new.store).told c.in-There.old.cid c.rewritten_file.ensures.saves

pub returns-in-There-clause-touches : goal.returns-in-There-clause-touches
returns-in-There-clause-touches g c = λ N rows folder name es heights member o.
    let X = g.S.X.BlockHash.block32 in let p = c.args.site.now.profile in let site = c.args.site.now in
    let a = g.S.Store.seen c.args.store.now in let led = site.led + 1 in let m = child name es in
    let none = no-saves X N p a in
    let first = over-first X N p none c.rewritten_file.ensures.saves [] folder es o in
    new-touches X N p none c.rewritten_file.ensures.saves folder c.in-There.old c.args.what site.piece.now rows led name es
    c.args.touches.now c.args.touches.now c.rewritten_file.new.touches o
    (start-there X N p a folder c.in-There.old c.args.what name es (begun c.args.what led m) first
    (subst (λ (start : Start). Decides (λ bytes start. IsStart X N a.told p c.args.what m bytes start) (begun c.args.what led m) (Ok start)) c.in-There.is (c.in_ok-start.ensures X N a.told p m member)))
    (omega arith) (λ m bytes. c.rewritten_file.ensures.touches N rows m bytes heights)

pub returns-in-Empty-clause-gives : goal.returns-in-Empty-clause-gives
returns-in-Empty-clause-gives g c = λ N folder name es member o.
    let X = g.S.X.BlockHash.block32 in let p = c.args.site.now.profile in let site = c.args.site.now in
    let a = g.S.Store.seen c.args.store.now in let led = site.led + 1 in let m = child name es in
    let b = g.S.Store.seen c.created_file.new.store in
    new-created X N p a b (blocks X N p (Dir es)) c.in-Empty.meta c.good.result c.in-Empty.how c.args.what site.piece.now led m c.created_file.result (kept-good X N p folder name es o.plan)
    (subst (λ (start : Start). Decides (λ bytes start. IsStart X N a.told p c.args.what m bytes start) (begun c.args.what led m) (Ok start)) c.in-Empty.is (c.in_ok-start.ensures X N a.told p m member))
    c.good.ensures.same (c.created_file.ensures.gives N folder es o)

pub returns-in-Empty-clause-touches : goal.returns-in-Empty-clause-touches
returns-in-Empty-clause-touches g c = λ N rows folder name es heights member o.
    let X = g.S.X.BlockHash.block32 in let p = c.args.site.now.profile in let site = c.args.site.now in
    let a = g.S.Store.seen c.args.store.now in let led = site.led + 1 in let m = child name es in
    new-created-touches X N p a.told c.in-Empty.meta c.good.result c.in-Empty.how c.args.what site.piece.now rows led m c.args.touches.now c.created_file.new.touches (kept-good X N p folder name es o.plan)
    (subst (λ (start : Start). Decides (λ bytes start. IsStart X N a.told p c.args.what m bytes start) (begun c.args.what led m) (Ok start)) c.in-Empty.is (c.in_ok-start.ensures X N a.told p m member))
    c.good.ensures.same (c.created_file.ensures.touches rows heights)

pub returns-in-Empty-clause-saves : goal.returns-in-Empty-clause-saves
returns-in-Empty-clause-saves g c =
    let root : Cid = record { codec = Raw; digest = [] } in
    in-some g.S.X.BlockHash.block32 (λ name. 0) c.args.site.now.profile (g.S.Store.seen c.created_file.new.store).told root (c.created_file.ensures.saves root)

pub returns-in_err-start-clause-saves : goal.returns-in_err-start-clause-saves
returns-in_err-start-clause-saves g c =
    let none = no-saves g.S.X.BlockHash.block32 (λ name. 0) c.args.site.now.profile (g.S.Store.seen c.args.store.now) in
    let out = err_from_is_err_and c.from_residual.result c.from_residual.ensures.1 in
    rw (out.1, out.2) (record { cause = none.cause; good = none.good; saves = none.saves })

pub returns-in_err-start-clause-no_other : goal.returns-in_err-start-clause-no_other
returns-in_err-start-clause-no_other g c =
    λ N o member h. SavesAmong-refl g.S.X.BlockHash.block32 _ (g.S.Store.seen c.args.store.now).told

pub returns-in-There-clause-no_other : goal.returns-in-There-clause-no_other
returns-in-There-clause-no_other g c =
    λ N o member h.
    let X = g.S.X.BlockHash.block32 in let p = c.args.site.now.profile in let site = c.args.site.now in
    let a = g.S.Store.seen c.args.store.now in let led = site.led + 1 in let b = g.S.Store.seen c.rewritten_file.new.store in
    there-saves X N p a.told a b c.args.what site.piece.now led o c.in-There.old (subst (λ (start : Start). Decides (λ bytes start. IsStart X N a.told p c.args.what o bytes start) (begun c.args.what led o) (Ok start)) c.in-There.is (c.in_ok-start.ensures X N a.told p o member))
    h (c.rewritten_file.ensures.no_other N)

pub returns-in-Empty-clause-no_other : goal.returns-in-Empty-clause-no_other
returns-in-Empty-clause-no_other g c =
    λ N o member h.
    let X = g.S.X.BlockHash.block32 in let p = c.args.site.now.profile in let site = c.args.site.now in
    let a = g.S.Store.seen c.args.store.now in let led = site.led + 1 in let b = g.S.Store.seen c.created_file.new.store in
    empty-saves X N p a.told a.told b.told c.in-Empty.meta c.good.result c.in-Empty.how c.args.what site.piece.now led o (member-good X N p a.told o c.args.found member)
    (subst (λ (start : Start). Decides (λ bytes start. IsStart X N a.told p c.args.what o bytes start) (begun c.args.what led o) (Ok start)) c.in-Empty.is (c.in_ok-start.ensures X N a.told p o member))
    c.good.ensures.same (c.created_file.ensures.no_other N)
