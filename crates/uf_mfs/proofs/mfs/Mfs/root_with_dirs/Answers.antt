use Rattle.std.proofs.Common.{◌≡◌, ◌+◌, ◌*◌, ◌≤◌, ◌∙◌, [], Bool, Result, Some, ap, length, subst, sym, arith}
use Rattle.std.specs.Prelude.{IfOk}
use Rattle.uf_store.specs.Calls.{OnlySaves}
use Rattle.uf_tree.specs.declared.nodes.Entry.{Entry}
use Rattle.uf_tree.specs.declared.profile.Profile.{Profile}
use Rattle.uf_plain.specs.Edits.{made, made_all}
use Rattle.uf_plain.proofs.Edited.{made-true}
use Rattle.uf_mfs.specs.declared.fault.Stop.{Stop}
use Rattle.uf_mfs.specs.Bad.{IsBadInTree}
use Rattle.uf_mfs.specs.Standing.{IsAgreed}
use Rattle.uf_mfs.specs.Steps.{stop_fault}
use Rattle.uf_mfs.proofs.Acting.{or-edits, or-fault, or-idle}
use Rattle.uf_tree.specs.Metas.{none}
use Rattle.uf_tree.specs.Tree.{Dir, Nothing}
use Rattle.uf_tree.specs.TreePlan.{blocks}
use Rattle.uf_plain.specs.Rules.{allowed}
use Rattle.uf_mfs.specs.Answers.{EditsAfter}
use Rattle.uf_mfs.specs.Touches.{CountsUp, crossings_of}
use Rattle.uf_mfs.proofs.Removing.{makes-at}
use Rattle.uf_store.specs.Among.{SavesAmong}
use Rattle.uf_mfs.specs.Saving.{next_blocks}
use Rattle.uf_mfs.proofs.mfs.Mfs.root_with_dirs.Goals as goal

pub returns-else-parents-clause-edits : goal.returns-else-parents-clause-edits
returns-else-parents-clause-edits g c = λ es o.
    let X = g.S.X.BlockHash.block32 in let N = g.N.NameHash.name64 in let p = c.args.self.now.profile in
    let a = g.S.Store.seen c.args.store.now in let b = g.S.Store.seen c.edited_root.new.store in
    subst (λ w. EditsAfter X N a.told b.told (blocks X N p (Dir es)) p (allowed X N p w) c.edited_root.result) (makes-at p c.args.parents c.args.names.now es c.if-parents.false)
    (c.edited_root.ensures.edits (Dir (Nothing none)) tt es o)

pub returns-else-parents-clause-touches : goal.returns-else-parents-clause-touches
returns-else-parents-clause-touches g c = λ es o.
    let X = g.S.X.BlockHash.block32 in let N = g.N.NameHash.name64 in let p = c.args.self.now.profile in let names = c.args.names.now in
    let r = c.edited_root.ensures.touches (Dir (Nothing none)) (λ n. n) tt tt es o in
    subst (λ w. c.edited_root.new.touches ≤ c.args.touches.now + (40 * length names + crossings_of X N p names es w)) (makes-at p c.args.parents names es c.if-parents.false) (omega (arith, r))

pub returns-then-parents-clause-edits : goal.returns-then-parents-clause-edits
returns-then-parents-clause-edits g c = λ es o.
    let X = g.S.X.BlockHash.block32 in let N = g.N.NameHash.name64 in let p = c.args.self.now.profile in let names = c.args.names.now in let root = c.args.self.now.root in
    let a = g.S.Store.seen c.args.store.now in let b = g.S.Store.seen c.fill.new.store in
    let same = sym (ap (λ (b : Bool). made b names es) c.if-parents.true ∙ made-true names es) in
    subst (λ w. EditsAfter X N a.told b.told (blocks X N p (Dir es)) p (allowed X N p w) c.or_same.result) same
    (subst (λ (r : Result Entry Stop). EditsAfter X N a.told b.told (blocks X N p (Dir es)) p (allowed X N p (made_all 0 names es)) r) (sym c.or_same.ensures)
    (or-edits X N p [] root (made_all 0 names) c.fill.result tt c.fill.ensures.saves c.fill.ensures.fills es o))

pub returns-then-parents-clause-there : goal.returns-then-parents-clause-there
returns-then-parents-clause-there g c = λ p es below s stood yes is.
    let X = g.S.X.BlockHash.block32 in let N = g.N.NameHash.name64 in let root = c.args.self.now.root in let a = g.S.Store.seen c.args.store.now in
    let h = c.fill.ensures.there es below (subst (λ (q : Profile). IsAgreed X N a.told q root (Dir es)) (sym s.profile_is) s.root) stood is in
    (h.0, subst (λ (r : Result Entry Stop). IfOk r (λ e. e ≡ root)) (sym c.or_same.ensures) (or-idle root c.fill.result h.1))

pub returns-then-parents-clause-saves : goal.returns-then-parents-clause-saves
returns-then-parents-clause-saves g c =
    let X = g.S.X.BlockHash.block32 in let N = g.N.NameHash.name64 in let p = c.args.self.now.profile in let root = c.args.self.now.root in
    let a = g.S.Store.seen c.args.store.now in let b = g.S.Store.seen c.fill.new.store in
    subst (λ f. OnlySaves X (IsBadInTree X N (Some p) root.cid) f a b) (or-fault root c.fill.result ∙ ap (λ (r : Result Entry Stop). stop_fault r) (sym c.or_same.ensures)) c.fill.ensures.saves

pub returns-then-parents-clause-touches : goal.returns-then-parents-clause-touches
returns-then-parents-clause-touches g c = λ es o.
    let X = g.S.X.BlockHash.block32 in let N = g.N.NameHash.name64 in let p = c.args.self.now.profile in let names = c.args.names.now in
    let same = sym (ap (λ (b : Bool). made b names es) c.if-parents.true ∙ made-true names es) in
    subst (λ w. c.fill.new.touches ≤ c.args.touches.now + (40 * length names + crossings_of X N p names es w)) same (c.fill.ensures.touches es o)

pub returns-then-parents-clause-touched : goal.returns-then-parents-clause-touched
returns-then-parents-clause-touched g c =
    subst (λ f. CountsUp f c.args.touches.now c.fill.new.touches) (or-fault c.args.self.now.root c.fill.result ∙ ap (λ (r : Result Entry Stop). stop_fault r) (sym c.or_same.ensures)) c.fill.ensures.touched

pub returns-then-parents-clause-no_other : goal.returns-then-parents-clause-no_other
returns-then-parents-clause-no_other g c =
    λ es plan h.
    let X = g.S.X.BlockHash.block32 in let N = g.N.NameHash.name64 in let p = c.args.self.now.profile in let names = c.args.names.now in
    let a = g.S.Store.seen c.args.store.now in let b = g.S.Store.seen c.fill.new.store in
    let same = sym (ap (λ (b : Bool). made b names es) c.if-parents.true ∙ made-true names es) in
    subst (λ w. SavesAmong X (next_blocks X N p w) a.told b.told) same (c.fill.ensures.no_other es plan h)

pub returns-else-parents-clause-no_other : goal.returns-else-parents-clause-no_other
returns-else-parents-clause-no_other g c =
    λ es plan h.
    let X = g.S.X.BlockHash.block32 in let N = g.N.NameHash.name64 in let p = c.args.self.now.profile in let names = c.args.names.now in
    let a = g.S.Store.seen c.args.store.now in let b = g.S.Store.seen c.edited_root.new.store in
    subst (λ w. SavesAmong X (next_blocks X N p w) a.told b.told) (makes-at p c.args.parents names es c.if-parents.false) (c.edited_root.ensures.no_other (Dir (Nothing none)) tt es plan h)
