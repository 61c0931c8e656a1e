use Rattle.std.proofs.Common.{◌≡◌, ◌-◌, ◌+◌, ◌*◌, ◌∷◌, List, ℕ, Ok, Result, ap, arith, drop, length, subst, sym, take, ◌∙◌, []}
use Rattle.std.specs.Prelude.{IfOk}
use Rattle.uf_store.specs.Calls.{OnlySaves}
use Rattle.uf_tree.specs.declared.nodes.Entry.{Entry}
use Rattle.uf_tree.specs.Tree.{Dir, Tree}
use Rattle.uf_plain.specs.Edits.{at, edited}
use Rattle.uf_mfs.specs.declared.fault.Stop.{Stop}
use Rattle.uf_mfs.specs.Acts.{IsBadActed, LeavesTree, act_brought, act_touches, acted, acted_at, acted_root}
use Rattle.uf_mfs.specs.Bad.{RequiresDirectory}
use Rattle.uf_mfs.specs.Missing.{MissesOnly, put_needs}
use Rattle.uf_mfs.specs.Steps.{EditsFolder, stop_fault}
use Rattle.uf_mfs.specs.Touches.{CountsUp, TouchesFolder, crossings_of}
use Rattle.uf_mfs.proofs.Acting.{act-good, or-edits, or-fault, or-idle, or-made, root-touches}
use Rattle.uf_mfs.proofs.Meeting.{first-rest, no-names}
use Rattle.uf_mfs.proofs.Touching.{touches-by}
use Rattle.uf_store.specs.Among.{SavesAmong}
use Rattle.uf_tree.specs.TreePlan.{blocks}
use Rattle.uf_mfs.specs.Saving.{SavesFolder, act_blocks, between_blocks}
use Rattle.uf_mfs.proofs.After.{back-among}
use Rattle.uf_mfs.proofs.Saving.{saved-more, throughout-some}
use Rattle.uf_mfs.proofs.SavingActs.{saved-between}
use Rattle.uf_mfs.proofs.mfs.Mfs.edited_root.Goals as goal

pub returns-in-len1-up-clause-edits : goal.returns-in-len1-up-clause-edits
returns-in-len1-up-clause-edits g c = λ t meant.
    let X = g.S.X.BlockHash.block32 in let N = g.N.NameHash.name64 in let p = c.args.self.now.profile in let what = c.args.what in let piece = c.args.piece.now in let root = c.args.self.now.root in
    let a = g.S.Store.seen c.args.store.now in let b = g.S.Store.seen c.edit.new.store in let name = c.name-item.result in
    let more = take (length c.args.names.now - 1) (drop 1 c.args.names.now) in
    let names : name ∷ more ≡ c.args.names.now = first-rest c.args.names.now name c.in-len1-up.len_at_least c.name-item.is in
    subst (λ (l : List (List ℕ)). EditsFolder X N p a b (act_brought X N p what t) root (acted_at p what piece t l) c.or_same-in-len1-up.result) names
    (subst (λ (r : Result Entry Stop). EditsFolder X N p a b (act_brought X N p what t) root (edited (acted p what piece t) 0 name more) r) (sym c.or_same-in-len1-up.ensures)
    (or-edits X N p (act_brought X N p what t) root (edited (acted p what piece t) 0 name more) c.edit.result (act-good X N p what t) c.edit.ensures.saves (c.edit.ensures.edits t meant)))

pub returns-in-len1-up-clause-idle : goal.returns-in-len1-up-clause-idle
returns-in-len1-up-clause-idle g c = λ q es t i stood there left.
    let root = c.args.self.now.root in let name = c.name-item.result in
    let more = take (length c.args.names.now - 1) (drop 1 c.args.names.now) in
    let names : name ∷ more ≡ c.args.names.now = first-rest c.args.names.now name c.in-len1-up.len_at_least c.name-item.is in
    let done = c.edit.ensures.idle q es t i stood (subst (λ (l : List (List ℕ)). at 0 l (Dir es) ≡ Ok t) (sym names) there) left in
    (done.0, subst (λ (r : Result Entry Stop). IfOk r (λ e. e ≡ root)) (sym c.or_same-in-len1-up.ensures) (or-idle root c.edit.result done.1))

pub returns-in-len1-up-clause-made : goal.returns-in-len1-up-clause-made
returns-in-len1-up-clause-made g c =
    let X = g.S.X.BlockHash.block32 in let root = c.args.self.now.root in
    subst (λ (r : Result Entry Stop). IfOk r (λ e. RequiresDirectory X root.cid e.cid.digest)) (sym c.or_same-in-len1-up.ensures)
    (or-made X g.N.NameHash.name64 c.args.self.now.profile root c.edit.result c.edit.ensures.made)

pub returns-in-len1-up-clause-saves : goal.returns-in-len1-up-clause-saves
returns-in-len1-up-clause-saves g c =
    let X = g.S.X.BlockHash.block32 in let N = g.N.NameHash.name64 in let p = c.args.self.now.profile in let root = c.args.self.now.root in
    let a = g.S.Store.seen c.args.store.now in let b = g.S.Store.seen c.edit.new.store in
    subst (λ f. OnlySaves X (IsBadActed X N p b.told root.cid c.args.what) f a b) (or-fault root c.edit.result ∙ ap (λ (r : Result Entry Stop). stop_fault r) (sym c.or_same-in-len1-up.ensures)) c.edit.ensures.saves

pub returns-in-len1-up-clause-touches : goal.returns-in-len1-up-clause-touches
returns-in-len1-up-clause-touches g c = λ t rows meant heights.
    let X = g.S.X.BlockHash.block32 in let N = g.N.NameHash.name64 in let p = c.args.self.now.profile in let what = c.args.what in let piece = c.args.piece.now in let root = c.args.self.now.root in
    let a = g.S.Store.seen c.args.store.now in let b = g.S.Store.seen c.edit.new.store in let name = c.name-item.result in
    let more = take (length c.args.names.now - 1) (drop 1 c.args.names.now) in
    let names : name ∷ more ≡ c.args.names.now = first-rest c.args.names.now name c.in-len1-up.len_at_least c.name-item.is in
    subst (λ (l : List (List ℕ)). TouchesFolder X N p a b (act_brought X N p what t) root (λ es. 40 * length l + crossings_of X N p l es (acted_at p what piece t l es) + act_touches X N p rows what piece l es (acted_at p what piece t l es)) c.args.touches.now c.edit.new.touches) names
    (touches-by X N p (act_brought X N p what t) root _ _ c.args.touches.now c.edit.new.touches (λ es. omega arith) (c.edit.ensures.touches t rows meant heights))

pub returns-in-len1-up-clause-touched : goal.returns-in-len1-up-clause-touched
returns-in-len1-up-clause-touched g c =
    let root = c.args.self.now.root in
    subst (λ f. CountsUp f c.args.touches.now c.edit.new.touches) (or-fault root c.edit.result ∙ ap (λ (r : Result Entry Stop). stop_fault r) (sym c.or_same-in-len1-up.ensures)) c.edit.ensures.touched

pub returns-in-empty-clause-edits : goal.returns-in-empty-clause-edits
returns-in-empty-clause-edits g c = λ t meant.
    let X = g.S.X.BlockHash.block32 in let N = g.N.NameHash.name64 in let p = c.args.self.now.profile in let what = c.args.what in let piece = c.args.piece.now in let root = c.args.self.now.root in
    let a = g.S.Store.seen c.args.store.now in let b = g.S.Store.seen c.edit_root.new.store in
    subst (λ (l : List (List ℕ)). EditsFolder X N p a b (act_brought X N p what t) root (acted_at p what piece t l) c.or_same.result) (no-names c.args.names.now c.in-empty.len_below)
    (subst (λ (r : Result Entry Stop). EditsFolder X N p a b (act_brought X N p what t) root (acted_root what) r) (sym c.or_same.ensures)
    (or-edits X N p (act_brought X N p what t) root (acted_root what) c.edit_root.result (act-good X N p what t) c.edit_root.ensures.saves (c.edit_root.ensures.edits (act_brought X N p what t))))

pub returns-in-empty-clause-idle : goal.returns-in-empty-clause-idle
returns-in-empty-clause-idle g c = λ q es t i stood there left.
    let root = c.args.self.now.root in
    let is : Ok (Dir es) ≡ Ok t = subst (λ (l : List (List ℕ)). at 0 l (Dir es) ≡ Ok t) (sym (no-names c.args.names.now c.in-empty.len_below)) there in
    let same : t ≡ Dir es = cc in
    let done = c.edit_root.ensures.idle q es i stood (subst (λ (t : Tree). LeavesTree c.args.what c.args.piece.now t) same left) in
    (done.0, subst (λ (r : Result Entry Stop). IfOk r (λ e. e ≡ root)) (sym c.or_same.ensures) (or-idle root c.edit_root.result done.1))

pub returns-in-empty-clause-made : goal.returns-in-empty-clause-made
returns-in-empty-clause-made g c =
    let X = g.S.X.BlockHash.block32 in let root = c.args.self.now.root in
    subst (λ (r : Result Entry Stop). IfOk r (λ e. RequiresDirectory X root.cid e.cid.digest)) (sym c.or_same.ensures)
    (or-made X g.N.NameHash.name64 c.args.self.now.profile root c.edit_root.result c.edit_root.ensures.made)

pub returns-in-empty-clause-saves : goal.returns-in-empty-clause-saves
returns-in-empty-clause-saves g c =
    let X = g.S.X.BlockHash.block32 in let N = g.N.NameHash.name64 in let p = c.args.self.now.profile in let root = c.args.self.now.root in
    let a = g.S.Store.seen c.args.store.now in let b = g.S.Store.seen c.edit_root.new.store in
    subst (λ f. OnlySaves X (IsBadActed X N p b.told root.cid c.args.what) f a b) (or-fault root c.edit_root.result ∙ ap (λ (r : Result Entry Stop). stop_fault r) (sym c.or_same.ensures)) c.edit_root.ensures.saves

pub returns-in-empty-clause-touches : goal.returns-in-empty-clause-touches
returns-in-empty-clause-touches g c = λ t rows meant heights.
    let X = g.S.X.BlockHash.block32 in let N = g.N.NameHash.name64 in let p = c.args.self.now.profile in let what = c.args.what in let piece = c.args.piece.now in let root = c.args.self.now.root in
    let a = g.S.Store.seen c.args.store.now in let b = g.S.Store.seen c.edit_root.new.store in
    subst (λ (l : List (List ℕ)). TouchesFolder X N p a b (act_brought X N p what t) root (λ es. 40 * length l + crossings_of X N p l es (acted_at p what piece t l es) + act_touches X N p rows what piece l es (acted_at p what piece t l es)) c.args.touches.now c.edit_root.new.touches) (no-names c.args.names.now c.in-empty.len_below)
    (λ es o. let few = root-touches X N p rows what piece t es in let h = c.edit_root.ensures.touches in omega (arith, few, h))

pub returns-in-empty-clause-touched : goal.returns-in-empty-clause-touched
returns-in-empty-clause-touched g c =
    let root = c.args.self.now.root in
    subst (λ f. CountsUp f c.args.touches.now c.edit_root.new.touches) (or-fault root c.edit_root.result ∙ ap (λ (r : Result Entry Stop). stop_fault r) (sym c.or_same.ensures)) c.edit_root.ensures.touched

pub returns-in-len1-up-clause-missing : goal.returns-in-len1-up-clause-missing
returns-in-len1-up-clause-missing g c = λ put es o.
    let X = g.S.X.BlockHash.block32 in let N = g.N.NameHash.name64 in let p = c.args.self.now.profile in let root = c.args.self.now.root in let a = g.S.Store.seen c.args.store.now in
    let name = c.name-item.result in let more = take (length c.args.names.now - 1) (drop 1 c.args.names.now) in
    let names : name ∷ more ≡ c.args.names.now = first-rest c.args.names.now name c.in-len1-up.len_at_least c.name-item.is in
    subst (λ f. MissesOnly a.told (put_needs X N p c.args.names.now (Dir es)) f) (or-fault root c.edit.result ∙ ap (λ (r : Result Entry Stop). stop_fault r) (sym c.or_same-in-len1-up.ensures))
    (subst (λ (l : List (List ℕ)). MissesOnly a.told (put_needs X N p l (Dir es)) (stop_fault c.edit.result)) names (c.edit.ensures.missing put es o))

pub returns-in-empty-clause-missing : goal.returns-in-empty-clause-missing
returns-in-empty-clause-missing g c = λ put es o.
    let X = g.S.X.BlockHash.block32 in let N = g.N.NameHash.name64 in let p = c.args.self.now.profile in let root = c.args.self.now.root in let a = g.S.Store.seen c.args.store.now in
    subst (λ f. MissesOnly a.told (put_needs X N p c.args.names.now (Dir es)) f)
    (sym (c.edit_root.ensures.missing put) ∙ or-fault root c.edit_root.result ∙ ap (λ (r : Result Entry Stop). stop_fault r) (sym c.or_same.ensures)) tt

pub returns-in-len1-up-clause-no_other : goal.returns-in-len1-up-clause-no_other
returns-in-len1-up-clause-no_other g c =
    λ t meant.
    let X = g.S.X.BlockHash.block32 in let N = g.N.NameHash.name64 in let p = c.args.self.now.profile in let what = c.args.what in let piece = c.args.piece.now in let root = c.args.self.now.root in
    let a = g.S.Store.seen c.args.store.now in let b = g.S.Store.seen c.edit.new.store in let name = c.name-item.result in
    let more = take (length c.args.names.now - 1) (drop 1 c.args.names.now) in
    let names : name ∷ more ≡ c.args.names.now = first-rest c.args.names.now name c.in-len1-up.len_at_least c.name-item.is in
    subst (λ (l : List (List ℕ)). SavesFolder X N a b p (act_brought X N p what t) root (λ es. act_blocks X N p what l es (acted_at p what piece t l es))) names (c.edit.ensures.no_other t meant)

pub returns-in-empty-clause-no_other : goal.returns-in-empty-clause-no_other
returns-in-empty-clause-no_other g c =
    λ t meant es plan h.
    let X = g.S.X.BlockHash.block32 in let N = g.N.NameHash.name64 in let p = c.args.self.now.profile in let what = c.args.what in let piece = c.args.piece.now in let root = c.args.self.now.root in
    let a = g.S.Store.seen c.args.store.now in let b = g.S.Store.seen c.edit_root.new.store in
    subst (λ (l : List (List ℕ)). SavesAmong X (act_blocks X N p what l es (acted_at p what piece t l es)) a.told b.told) (no-names c.args.names.now c.in-empty.len_below)
    (saved-more X _ _ a.told b.told (saved-between X N p (between_blocks X N p what [] es) (acted_root what es))
    (c.edit_root.ensures.no_other es plan (throughout-some a b _ _ (back-among (act_brought X N p what t) (blocks X N p (Dir es))) h)))
