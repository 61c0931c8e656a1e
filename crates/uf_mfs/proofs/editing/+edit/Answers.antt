use Rattle.std.proofs.Common.{◌≡◌, ◌+◌, ◌-◌, ◌∷◌, ◌++◌, ◌∙◌, [], List, ℕ, Ok, Option, Err, refl, sym, None, Some, drop, length, subst, take, ◌*◌, ◌≤◌, Result, arith}
use Rattle.std.proofs.lemmas.Result.{err_from_is_err_and}
use Rattle.uf_edge.specs.Counts.{Stood}
use Rattle.uf_tree.specs.declared.nodes.Entry.{Entry}
use Rattle.uf_plain.specs.Edits.{as_folder, at, child, edited}
use Rattle.uf_mfs.specs.Standing.{IsAgreedMember}
use Rattle.uf_mfs.specs.Answers.{EditsAfter}
use Rattle.uf_mfs.specs.declared.thing.Thing.{Thing}
use Rattle.uf_mfs.specs.declared.fault.Stop.TheVariants as stop
use Rattle.uf_plain.specs.Rules.{allowed}
use Rattle.uf_tree.specs.Tree.{Dir, Entries, Tree}
use Rattle.uf_plain.specs.declared.rule.Refused.{Refused}
use Rattle.uf_mfs.specs.Touches.{TouchesFolder, crossings_of}
use Rattle.uf_mfs.proofs.Touching.{put-touches, stopped-touches, touches-by}
use Rattle.uf_tree.specs.TreePlan.{blocks}
use Rattle.uf_mfs.specs.Steps.{ChangesFolder, ChangesOver, stop_fault}
use Rattle.uf_store.proofs.Calls.{reads-saves, saves-by, saves-saves, stood-back}
use Rattle.uf_mfs.proofs.Filling.{agreed-beside, agreed-over, at-one, idle-below, stood-before}
use Rattle.uf_mfs.proofs.Folders.{changes-since, folder-stops, folder-there, member-stops, over-first, path-none, path-put, path-stopped, read-over}
use Rattle.uf_mfs.proofs.Meeting.{first-rest, no-names}
use Rattle.uf_mfs.proofs.Missing.{below-misses, here-misses, member-misses, put-misses}
use Rattle.uf_mfs.specs.Missing.{MissesOnly, put_needs}
use Rattle.uf_plain.specs.Needs.{own_needs}
use Rattle.uf_mfs.specs.Bad.{IsBadInTree}
use Rattle.uf_mfs.proofs.Judging.{folder-required, tree-more}
use Rattle.uf_mfs.specs.Acts.{act_brought, act_touches, acted}
use Rattle.uf_mfs.proofs.Acting.{act-below, act-good, act-leads, act-way}
use Rattle.uf_store.specs.Among.{SavesAmong}
use Rattle.uf_store.proofs.Among.{SavesAmong-same, SavesAmong-trans}
use Rattle.uf_mfs.specs.Saving.{act_blocks, between_blocks}
use Rattle.uf_mfs.proofs.Saving.{below-saves, calm-of, path-saves, throughout-agreed, throughout-first, throughout-since}
use Rattle.uf_mfs.proofs.SavingActs.{act-between}
use Rattle.uf_mfs.proofs.editing.+edit.Goals as goal

pub returns-in_err-entry-clause-edits : goal.returns-in_err-entry-clause-edits
returns-in_err-entry-clause-edits g t c = λ u meant.
    let X = g.S.X.BlockHash.block32 in let N = g.N.NameHash.name64 in let p = c.args.site.now.profile in let name = c.args.name.now in let what = c.args.site.now.what in let piece = c.args.site.now.piece.now in let led = c.args.site.now.led in
    let a = g.S.Store.seen c.args.store.now in let b = g.S.Store.seen c.member.new.store in let e = g.S.Store.seen c.edit.new.store in
    let found = reads-saves {f = None} c.in_ok-found.ensures.reads in
    let more = take (length c.args.rest.now - 1) (drop 1 c.args.rest.now) in
    let names : c.next-item.result ∷ more ≡ c.args.rest.now = first-rest c.args.rest.now c.next-item.result c.in-len1-up.len_at_least c.next-item.is in
    let out = err_from_is_err_and c.from_residual-in_err-entry.result c.from_residual-in_err-entry.ensures.1 in
    rw (out.1, out.2) (subst (λ l. ChangesFolder X N p a e (act_brought X N p what u) c.args.folder.now (edited (acted p what piece u) led name l) (Err c.in_err-entry.field-0.0)) names
    (path-stopped X N p c.args.folder.now c.in_ok-below.below (act_brought X N p what u) name (λ es. as_folder (led + 1) (child name es)) (edited (acted p what piece u) (led + 1) c.next-item.result more) c.in_err-entry.field-0.0 (act-good X N p what u)
    found (folder-there X N p (led + 1) c.args.folder.now c.in_ok-below.below name found (λ es o. c.in_ok-below.ensures.decides X N a.told p (child name es) (c.in_ok-found.ensures.member p es (agreed-over X N p c.args.folder.now es o) o.calm.faults)))
    c.in_err-entry.ensures.saves (c.in_err-entry.ensures.edits u meant)))

pub returns-clause-edits : goal.returns-clause-edits
returns-clause-edits g t c = λ u meant.
    let X = g.S.X.BlockHash.block32 in let N = g.N.NameHash.name64 in let p = c.args.site.now.profile in let name = c.args.name.now in let what = c.args.site.now.what in let piece = c.args.site.now.piece.now in let led = c.args.site.now.led in
    let a = g.S.Store.seen c.args.store.now in let b = g.S.Store.seen c.member.new.store in let d = g.S.Store.seen c.put_in.new.store in
    let found = reads-saves {f = None} c.in_ok-found.ensures.reads in
    let more = take (length c.args.rest.now - 1) (drop 1 c.args.rest.now) in
    let names : c.next-item.result ∷ more ≡ c.args.rest.now = first-rest c.args.rest.now c.next-item.result c.in-len1-up.len_at_least c.next-item.is in
    subst (λ l. ChangesFolder X N p a d (act_brought X N p what u) c.args.folder.now (edited (acted p what piece u) led name l) c.put_in.result) names
    (path-put X N p c.args.folder.now c.in_ok-below.below c.in-Some.entry (act_brought X N p what u) name (λ es. as_folder (led + 1) (child name es)) (edited (acted p what piece u) (led + 1) c.next-item.result more) c.put_in.result (act-good X N p what u)
    found (folder-there X N p (led + 1) c.args.folder.now c.in_ok-below.below name found (λ es o. c.in_ok-below.ensures.decides X N a.told p (child name es) (c.in_ok-found.ensures.member p es (agreed-over X N p c.args.folder.now es o) o.calm.faults)))
    c.in_ok-entry.ensures.saves (subst (λ (o : Option Entry). ChangesFolder X N p b (g.S.Store.seen c.edit.new.store) (act_brought X N p what u) c.in_ok-below.below (edited (acted p what piece u) (led + 1) c.next-item.result more) (Ok o)) c.in-Some.is (c.in_ok-entry.ensures.edits u meant)) c.put_in.ensures.saves c.put_in.ensures.edits)

pub returns-clause-saves : goal.returns-clause-saves
returns-clause-saves g t c = saves-saves (saves-saves (reads-saves {f = None} c.in_ok-found.ensures.reads) c.in_ok-entry.ensures.saves)
    (act-way g.S.X.BlockHash.block32 g.N.NameHash.name64 c.args.site.now.profile (g.S.Store.seen c.put_in.new.store).told c.args.folder.now.cid c.args.site.now.what c.put_in.ensures.saves)

pub returns-in_err-found-clause-saves : goal.returns-in_err-found-clause-saves
returns-in_err-found-clause-saves g t c =
    let X = g.S.X.BlockHash.block32 in let N = g.N.NameHash.name64 in let p = c.args.site.now.profile in
    let out = err_from_is_err_and c.from_residual.result c.from_residual.ensures.1 in
    rw (out.1, out.2) (act-way X N p (g.S.Store.seen c.member.new.store).told c.args.folder.now.cid c.args.site.now.what
    (saves-by (IsBadInTree X N (Some p) c.args.folder.now.cid) (tree-more X N p c.args.folder.now.cid) (reads-saves c.in_err-found.ensures.reads)))

pub returns-in_err-found-clause-edits : goal.returns-in_err-found-clause-edits
returns-in_err-found-clause-edits g t c = λ u meant es o.
    let X = g.S.X.BlockHash.block32 in let N = g.N.NameHash.name64 in let p = c.args.site.now.profile in let name = c.args.name.now in let what = c.args.site.now.what in let piece = c.args.site.now.piece.now in let led = c.args.site.now.led in
    let a = g.S.Store.seen c.args.store.now in let b = g.S.Store.seen c.member.new.store in
    let out = err_from_is_err_and c.from_residual.result c.from_residual.ensures.1 in
    rw (out.1, out.2) (member-stops X N p a.told b.told (act_brought X N p what u) (λ (m : Option Tree) (x : Option Thing). IsAgreedMember X N a.told p m x) (child name es) name es (allowed X N p (edited (acted p what piece u) led name c.args.rest.now es)) c.in_err-found.field-0.0
    (c.in_err-found.ensures.member p es (agreed-beside X N p (act_brought X N p what u) c.args.folder.now es o) o.calm.faults))

pub returns-in_default-clause-edits : goal.returns-in_default-clause-edits
returns-in_default-clause-edits g t c = λ u meant es o.
    let X = g.S.X.BlockHash.block32 in let N = g.N.NameHash.name64 in let p = c.args.site.now.profile in let name = c.args.name.now in let what = c.args.site.now.what in let piece = c.args.site.now.piece.now in let led = c.args.site.now.led in
    let a = g.S.Store.seen c.args.store.now in let b = g.S.Store.seen c.member.new.store in
    let d = g.S.Store.seen c.edit_here.new.store in let more = act_brought X N p what u in
    let first = over-first X N p (reads-saves {f = None} c.in_ok-found.ensures.reads) c.edit_here.ensures.saves more c.args.folder.now es o in
    let member = c.in_ok-found.ensures.member p es (agreed-beside X N p more c.args.folder.now es first) first.calm.faults in
    let same = c.in_ok-found.ensures.reads.told in
    subst (λ (l : List (List ℕ)). ChangesOver X N p a d more es (edited (acted p what piece u) led name l es) c.edit_here.result) (no-names c.args.rest.now c.in_default.len_below)
    (changes-since X N p a b d more es (acted p what piece u (led + 1) name es) c.edit_here.result same
    (c.edit_here.ensures.edits u es meant (subst (λ told. IsAgreedMember X N told p (child name es) c.in_ok-found.found) (sym same) member) (read-over X N p more c.args.folder.now es c.in_ok-found.ensures.reads o)))

pub returns-in_err-below-clause-edits : goal.returns-in_err-below-clause-edits
returns-in_err-below-clause-edits g t c = λ u meant es o.
    let X = g.S.X.BlockHash.block32 in let N = g.N.NameHash.name64 in let p = c.args.site.now.profile in let name = c.args.name.now in let what = c.args.site.now.what in let piece = c.args.site.now.piece.now in let led = c.args.site.now.led in
    let a = g.S.Store.seen c.args.store.now in let b = g.S.Store.seen c.member.new.store in
    let more = take (length c.args.rest.now - 1) (drop 1 c.args.rest.now) in
    let names : c.next-item.result ∷ more ≡ c.args.rest.now = first-rest c.args.rest.now c.next-item.result c.in-len1-up.len_at_least c.next-item.is in
    let old = act_brought X N p what u ++ blocks X N p (Dir es) in
    let member = c.in_ok-found.ensures.member p es (agreed-beside X N p (act_brought X N p what u) c.args.folder.now es o) o.calm.faults in
    let out = err_from_is_err_and c.from_residual-in_err-below.result c.from_residual-in_err-below.ensures.1 in
    rw (out.1, out.2) (subst (λ l. EditsAfter X N a.told b.told old p (allowed X N p (edited (acted p what piece u) led name l es)) (Err (stop.Refused c.in_err-below.field-0.0))) names
    (folder-stops X N p a.told b.told old name es (as_folder (led + 1) (child name es)) (edited (acted p what piece u) (led + 1) c.next-item.result more) c.in_err-below.field-0.0
    (c.in_err-below.ensures.decides X N a.told p (child name es) member)))

pub returns-in_default-clause-touches : goal.returns-in_default-clause-touches
returns-in_default-clause-touches g t c = λ u rows meant heights es o.
    let X = g.S.X.BlockHash.block32 in let N = g.N.NameHash.name64 in let p = c.args.site.now.profile in let name = c.args.name.now in let what = c.args.site.now.what in let piece = c.args.site.now.piece.now in let led = c.args.site.now.led in
    let a = g.S.Store.seen c.args.store.now in let b = g.S.Store.seen c.member.new.store in
    let more = act_brought X N p what u in
    let first = over-first X N p (reads-saves {f = None} c.in_ok-found.ensures.reads) c.edit_here.ensures.saves more c.args.folder.now es o in
    let member = c.in_ok-found.ensures.member p es (agreed-beside X N p more c.args.folder.now es first) first.calm.faults in
    let same = c.in_ok-found.ensures.reads.told in
    let r = c.edit_here.ensures.touches u rows es meant heights (subst (λ told. IsAgreedMember X N told p (child name es) c.in_ok-found.found) (sym same) member) (read-over X N p more c.args.folder.now es c.in_ok-found.ensures.reads o) in
    let t1 = c.in_ok-found.ensures.touches in
    subst (λ (l : List (List ℕ)). c.edit_here.new.touches ≤ c.args.touches.now + (40 * (length l + 1) + crossings_of X N p (name ∷ l) es (edited (acted p what piece u) led name l es) + act_touches X N p rows what piece (name ∷ l) es (edited (acted p what piece u) led name l es))) (no-names c.args.rest.now c.in_default.len_below)
    (omega (arith, r, t1))

pub returns-in_err-entry-clause-touches : goal.returns-in_err-entry-clause-touches
returns-in_err-entry-clause-touches g t c = λ u rows meant heights.
    let X = g.S.X.BlockHash.block32 in let N = g.N.NameHash.name64 in let p = c.args.site.now.profile in let name = c.args.name.now in let what = c.args.site.now.what in let piece = c.args.site.now.piece.now in let led = c.args.site.now.led in
    let a = g.S.Store.seen c.args.store.now in let b = g.S.Store.seen c.member.new.store in
    let e = g.S.Store.seen c.edit.new.store in
    let found = reads-saves {f = None} c.in_ok-found.ensures.reads in let folder = c.args.folder.now in
    let more = take (length c.args.rest.now - 1) (drop 1 c.args.rest.now) in let next = c.next-item.result in
    let names : next ∷ more ≡ c.args.rest.now = first-rest c.args.rest.now next c.in-len1-up.len_at_least c.next-item.is in
    let step : Entries → Result Entries Refused = (λ es. as_folder (led + 1) (child name es)) in let go = edited (acted p what piece u) (led + 1) next more in
    let t1 = c.in_ok-found.ensures.touches in
    subst (λ (l : List (List ℕ)). TouchesFolder X N p a e (act_brought X N p what u) folder (λ es. 40 * (length l + 1) + crossings_of X N p (name ∷ l) es (edited (acted p what piece u) led name l es) + act_touches X N p rows what piece (name ∷ l) es (edited (acted p what piece u) led name l es)) c.args.touches.now c.edit.new.touches) names
    (touches-by X N p (act_brought X N p what u) folder _ _ c.args.touches.now c.edit.new.touches (λ es. omega arith)
    (stopped-touches X N p folder c.in_ok-below.below (act_brought X N p what u) name (next ∷ more) step go (λ fs. act_touches X N p rows what piece (next ∷ more) fs (go fs)) (λ es. act_touches X N p rows what piece (name ∷ next ∷ more) es (edited (acted p what piece u) led name (next ∷ more) es)) (length more + 1) (act-good X N p what u) (act-leads X N p rows what piece (led + 1) name next more go)
    c.args.touches.now c.member.new.touches c.edit.new.touches (omega (arith, t1)) found (folder-there X N p (led + 1) folder c.in_ok-below.below name found (λ es o. c.in_ok-below.ensures.decides X N a.told p (child name es) (c.in_ok-found.ensures.member p es (agreed-over X N p folder es o) o.calm.faults)))
    c.in_err-entry.ensures.saves (c.in_err-entry.ensures.touches u rows meant heights)))

pub returns-clause-touches : goal.returns-clause-touches
returns-clause-touches g t c = λ u rows meant heights.
    let X = g.S.X.BlockHash.block32 in let N = g.N.NameHash.name64 in let p = c.args.site.now.profile in let name = c.args.name.now in let what = c.args.site.now.what in let piece = c.args.site.now.piece.now in let led = c.args.site.now.led in
    let a = g.S.Store.seen c.args.store.now in let b = g.S.Store.seen c.member.new.store in
    let d = g.S.Store.seen c.put_in.new.store in
    let found = reads-saves {f = None} c.in_ok-found.ensures.reads in let folder = c.args.folder.now in
    let more = take (length c.args.rest.now - 1) (drop 1 c.args.rest.now) in let next = c.next-item.result in
    let names : next ∷ more ≡ c.args.rest.now = first-rest c.args.rest.now next c.in-len1-up.len_at_least c.next-item.is in
    let step : Entries → Result Entries Refused = (λ es. as_folder (led + 1) (child name es)) in let go = edited (acted p what piece u) (led + 1) next more in
    let t1 = c.in_ok-found.ensures.touches in
    subst (λ (l : List (List ℕ)). TouchesFolder X N p a d (act_brought X N p what u) folder (λ es. 40 * (length l + 1) + crossings_of X N p (name ∷ l) es (edited (acted p what piece u) led name l es) + act_touches X N p rows what piece (name ∷ l) es (edited (acted p what piece u) led name l es)) c.args.touches.now c.put_in.new.touches) names
    (touches-by X N p (act_brought X N p what u) folder _ _ c.args.touches.now c.put_in.new.touches (λ es. omega arith)
    (put-touches X N p folder c.in_ok-below.below (act_brought X N p what u) name (next ∷ more) step go (λ fs. act_touches X N p rows what piece (next ∷ more) fs (go fs)) (λ es. act_touches X N p rows what piece (name ∷ next ∷ more) es (edited (acted p what piece u) led name (next ∷ more) es)) (length more + 1) (act-good X N p what u) (act-leads X N p rows what piece (led + 1) name next more go)
    c.in-Some.entry c.args.touches.now c.member.new.touches c.edit.new.touches c.put_in.new.touches (omega (arith, t1)) found (folder-there X N p (led + 1) folder c.in_ok-below.below name found (λ es o. c.in_ok-below.ensures.decides X N a.told p (child name es) (c.in_ok-found.ensures.member p es (agreed-over X N p folder es o) o.calm.faults)))
    c.in_ok-entry.ensures.saves (subst (λ (o : Option Entry). ChangesFolder X N p b (g.S.Store.seen c.edit.new.store) (act_brought X N p what u) c.in_ok-below.below (edited (acted p what piece u) (led + 1) c.next-item.result more) (Ok o)) c.in-Some.is (c.in_ok-entry.ensures.edits u meant)) (c.in_ok-entry.ensures.touches u rows meant heights) c.put_in.ensures.saves c.put_in.ensures.touches))

pub returns-in_err-entry-clause-saves : goal.returns-in_err-entry-clause-saves
returns-in_err-entry-clause-saves g t c =
    let X = g.S.X.BlockHash.block32 in let N = g.N.NameHash.name64 in let p = c.args.site.now.profile in let folder = c.args.folder.now.cid in
    let out = err_from_is_err_and c.from_residual-in_err-entry.result c.from_residual-in_err-entry.ensures.1 in
    rw (out.1, out.2) (saves-saves (reads-saves {f = None} c.in_ok-found.ensures.reads)
    (act-below X N p (g.S.Store.seen c.edit.new.store).told folder c.in_ok-below.below.cid c.args.site.now.what ((folder-required X N folder c.in_ok-found.found c.in_ok-below.below c.in_ok-below.ensures.folder c.in_ok-found.ensures.required)) c.in_err-entry.ensures.saves))

pub returns-in_default-2-clause-edits : goal.returns-in_default-2-clause-edits
returns-in_default-2-clause-edits g t c = λ u meant.
    let X = g.S.X.BlockHash.block32 in let N = g.N.NameHash.name64 in let p = c.args.site.now.profile in let name = c.args.name.now in let what = c.args.site.now.what in let piece = c.args.site.now.piece.now in let led = c.args.site.now.led in
    let a = g.S.Store.seen c.args.store.now in let b = g.S.Store.seen c.member.new.store in let e = g.S.Store.seen c.edit.new.store in
    let more = take (length c.args.rest.now - 1) (drop 1 c.args.rest.now) in
    let names : c.next-item.result ∷ more ≡ c.args.rest.now = first-rest c.args.rest.now c.next-item.result c.in-len1-up.len_at_least c.next-item.is in
    subst (λ l. ChangesFolder X N p a e (act_brought X N p what u) c.args.folder.now (edited (acted p what piece u) led name l) (Ok None)) names
    (path-none X N p c.args.folder.now c.in_ok-below.below (act_brought X N p what u) name (led + 1) (edited (acted p what piece u) (led + 1) c.next-item.result more) (act-good X N p what u) (reads-saves {f = None} c.in_ok-found.ensures.reads)
    (λ es o. c.in_ok-below.ensures.decides X N a.told p (child name es) (c.in_ok-found.ensures.member p es (agreed-over X N p c.args.folder.now es o) o.calm.faults))
    c.in_ok-entry.ensures.saves (subst (λ (o : Option Entry). ChangesFolder X N p b e (act_brought X N p what u) c.in_ok-below.below (edited (acted p what piece u) (led + 1) c.next-item.result more) (Ok o)) c.in_default-2.is (c.in_ok-entry.ensures.edits u meant)))

pub returns-in_default-2-clause-saves : goal.returns-in_default-2-clause-saves
returns-in_default-2-clause-saves g t c =
    let X = g.S.X.BlockHash.block32 in let N = g.N.NameHash.name64 in let p = c.args.site.now.profile in let folder = c.args.folder.now.cid in
    saves-saves (reads-saves {f = None} c.in_ok-found.ensures.reads)
    (act-below X N p (g.S.Store.seen c.edit.new.store).told folder c.in_ok-below.below.cid c.args.site.now.what ((folder-required X N folder c.in_ok-found.found c.in_ok-below.below c.in_ok-below.ensures.folder c.in_ok-found.ensures.required)) c.in_ok-entry.ensures.saves)

pub returns-in_default-2-clause-touches : goal.returns-in_default-2-clause-touches
returns-in_default-2-clause-touches g t c = λ u rows meant heights.
    let X = g.S.X.BlockHash.block32 in let N = g.N.NameHash.name64 in let p = c.args.site.now.profile in let name = c.args.name.now in let what = c.args.site.now.what in let piece = c.args.site.now.piece.now in let led = c.args.site.now.led in
    let a = g.S.Store.seen c.args.store.now in let b = g.S.Store.seen c.member.new.store in
    let e = g.S.Store.seen c.edit.new.store in
    let found = reads-saves {f = None} c.in_ok-found.ensures.reads in let folder = c.args.folder.now in
    let more = take (length c.args.rest.now - 1) (drop 1 c.args.rest.now) in let next = c.next-item.result in
    let names : next ∷ more ≡ c.args.rest.now = first-rest c.args.rest.now next c.in-len1-up.len_at_least c.next-item.is in
    let step : Entries → Result Entries Refused = (λ es. as_folder (led + 1) (child name es)) in let go = edited (acted p what piece u) (led + 1) next more in
    let t1 = c.in_ok-found.ensures.touches in
    subst (λ (l : List (List ℕ)). TouchesFolder X N p a e (act_brought X N p what u) folder (λ es. 40 * (length l + 1) + crossings_of X N p (name ∷ l) es (edited (acted p what piece u) led name l es) + act_touches X N p rows what piece (name ∷ l) es (edited (acted p what piece u) led name l es)) c.args.touches.now c.edit.new.touches) names
    (touches-by X N p (act_brought X N p what u) folder _ _ c.args.touches.now c.edit.new.touches (λ es. omega arith)
    (stopped-touches X N p folder c.in_ok-below.below (act_brought X N p what u) name (next ∷ more) step go (λ fs. act_touches X N p rows what piece (next ∷ more) fs (go fs)) (λ es. act_touches X N p rows what piece (name ∷ next ∷ more) es (edited (acted p what piece u) led name (next ∷ more) es)) (length more + 1) (act-good X N p what u) (act-leads X N p rows what piece (led + 1) name next more go)
    c.args.touches.now c.member.new.touches c.edit.new.touches (omega (arith, t1)) found (folder-there X N p (led + 1) folder c.in_ok-below.below name found (λ es o. c.in_ok-below.ensures.decides X N a.told p (child name es) (c.in_ok-found.ensures.member p es (agreed-over X N p folder es o) o.calm.faults)))
    c.in_ok-entry.ensures.saves (c.in_ok-entry.ensures.touches u rows meant heights)))

pub returns-in_default-clause-idle : goal.returns-in_default-clause-idle
returns-in_default-clause-idle g t c = λ p es u i stood there left.
    let X = g.S.X.BlockHash.block32 in let N = g.N.NameHash.name64 in let name = c.args.name.now in let led = c.args.site.now.led in
    let a = g.S.Store.seen c.args.store.now in let b = g.S.Store.seen c.member.new.store in
    let d = g.S.Store.seen c.edit_here.new.store in let reads = c.in_ok-found.ensures.reads in
    let front = stood-before X _ _ (stop_fault c.edit_here.result) a b d (reads-saves {f = None} reads) c.edit_here.ensures.saves stood in
    let one = at-one led name es u (subst (λ (l : List (List ℕ)). at led (name ∷ l) (Dir es) ≡ Ok u) (sym (no-names c.args.rest.now c.in_default.len_below)) there) in
    let member = subst (λ (o : Option Tree). IsAgreedMember X N a.told p o c.in_ok-found.found) one (c.in_ok-found.ensures.member p es i front) in
    let done = c.edit_here.ensures.idle p u (subst (λ told. IsAgreedMember X N told p (Some u) c.in_ok-found.found) (sym reads.told) member) (stood-back a.faults b.faults d.faults reads.cause.faults stood) left in
    (done.0 ∙ reads.told, done.1)

pub returns-in_err-entry-clause-idle : goal.returns-in_err-entry-clause-idle
returns-in_err-entry-clause-idle g t c = λ p es u i stood there left.
    let X = g.S.X.BlockHash.block32 in let N = g.N.NameHash.name64 in let name = c.args.name.now in let led = c.args.site.now.led in
    let a = g.S.Store.seen c.args.store.now in let b = g.S.Store.seen c.member.new.store in
    let more = take (length c.args.rest.now - 1) (drop 1 c.args.rest.now) in let next = c.next-item.result in let e = g.S.Store.seen c.edit.new.store in
    let names : next ∷ more ≡ c.args.rest.now = first-rest c.args.rest.now next c.in-len1-up.len_at_least c.next-item.is in
    let at_names = subst (λ (l : List (List ℕ)). at led (name ∷ l) (Dir es) ≡ Ok u) (sym names) there in
    let decides = (λ (front : Stood a.faults b.faults). c.in_ok-below.ensures.decides X N a.told p (child name es) (c.in_ok-found.ensures.member p es i front)) in
    let out = err_from_is_err_and c.from_residual-in_err-entry.result c.from_residual-in_err-entry.ensures.1 in
    let done = idle-below X N p {Q = Unit {0}} led name next more es u c.in_ok-below.below c.in_ok-found.ensures.reads c.in_err-entry.ensures.saves stood at_names decides
    (λ fs j s h. ((c.in_err-entry.ensures.idle p fs u j s h left).0, tt)) in
    rw out.1 (done.0, tt)

pub returns-in_default-2-clause-idle : goal.returns-in_default-2-clause-idle
returns-in_default-2-clause-idle g t c = λ p es u i stood there left.
    let X = g.S.X.BlockHash.block32 in let N = g.N.NameHash.name64 in let name = c.args.name.now in let led = c.args.site.now.led in
    let a = g.S.Store.seen c.args.store.now in let b = g.S.Store.seen c.member.new.store in
    let more = take (length c.args.rest.now - 1) (drop 1 c.args.rest.now) in let next = c.next-item.result in let e = g.S.Store.seen c.edit.new.store in
    let names : next ∷ more ≡ c.args.rest.now = first-rest c.args.rest.now next c.in-len1-up.len_at_least c.next-item.is in
    let at_names = subst (λ (l : List (List ℕ)). at led (name ∷ l) (Dir es) ≡ Ok u) (sym names) there in
    let decides = (λ (front : Stood a.faults b.faults). c.in_ok-below.ensures.decides X N a.told p (child name es) (c.in_ok-found.ensures.member p es i front)) in
    let done = idle-below X N p {Q = Unit {0}} led name next more es u c.in_ok-below.below c.in_ok-found.ensures.reads c.in_ok-entry.ensures.saves stood at_names decides
    (λ fs j s h. ((c.in_ok-entry.ensures.idle p fs u j s h left).0, tt)) in
    (done.0, refl)

pub returns-clause-idle : goal.returns-clause-idle
returns-clause-idle g t c = λ p es u i stood there left.
    let X = g.S.X.BlockHash.block32 in let N = g.N.NameHash.name64 in let name = c.args.name.now in let led = c.args.site.now.led in
    let a = g.S.Store.seen c.args.store.now in let b = g.S.Store.seen c.member.new.store in let d = g.S.Store.seen c.put_in.new.store in
    let more = take (length c.args.rest.now - 1) (drop 1 c.args.rest.now) in let next = c.next-item.result in let e = g.S.Store.seen c.edit.new.store in
    let names : next ∷ more ≡ c.args.rest.now = first-rest c.args.rest.now next c.in-len1-up.len_at_least c.next-item.is in
    let at_names = subst (λ (l : List (List ℕ)). at led (name ∷ l) (Dir es) ≡ Ok u) (sym names) there in
    let decides = (λ (front : Stood a.faults b.faults). c.in_ok-below.ensures.decides X N a.told p (child name es) (c.in_ok-found.ensures.member p es i front)) in
    let both = saves-saves (reads-saves {f = None} c.in_ok-found.ensures.reads) c.in_ok-entry.ensures.saves in
    let mid = stood-before X _ _ (stop_fault c.put_in.result) a e d both c.put_in.ensures.saves stood in
    let done = idle-below X N p {Q = ◌≡◌ {A = Option Entry} (Some c.in-Some.entry) None} led name next more es u c.in_ok-below.below c.in_ok-found.ensures.reads c.in_ok-entry.ensures.saves mid at_names decides
    (λ fs j s h. let under = c.in_ok-entry.ensures.idle p fs u j s h left in (under.0, sym c.in-Some.is ∙ under.1)) in
    absurd (let no : Some c.in-Some.entry ≡ None = done.1 in cc)

pub returns-in_err-found-clause-missing : goal.returns-in_err-found-clause-missing
returns-in_err-found-clause-missing g t c = λ put es o.
    let X = g.S.X.BlockHash.block32 in let N = g.N.NameHash.name64 in let p = c.args.site.now.profile in let name = c.args.name.now in let led = c.args.site.now.led in let folder = c.args.folder.now in
    let a = g.S.Store.seen c.args.store.now in
    let out = err_from_is_err_and c.from_residual.result c.from_residual.ensures.1 in
    rw (out.1, out.2) (member-misses X N p (Option Entry) a.told (λ (m : Option Tree) (x : Option Thing). IsAgreedMember X N a.told p m x) (child name es) name c.args.rest.now es c.in_err-found.field-0.0
    (c.in_err-found.ensures.member p es (agreed-over X N p folder es o) o.calm.faults))

pub returns-in_default-clause-missing : goal.returns-in_default-clause-missing
returns-in_default-clause-missing g t c = λ put es o.
    let X = g.S.X.BlockHash.block32 in let N = g.N.NameHash.name64 in let p = c.args.site.now.profile in let name = c.args.name.now in let led = c.args.site.now.led in let folder = c.args.folder.now in
    let a = g.S.Store.seen c.args.store.now in
    let reads = c.in_ok-found.ensures.reads in
    here-misses X N p a.told name c.args.rest.now es (stop_fault c.edit_here.result)
    (subst (λ told. MissesOnly told (own_needs X N p (Dir es)) (stop_fault c.edit_here.result)) reads.told (c.edit_here.ensures.missing put es (read-over X N p [] folder es reads o)))

pub returns-in_err-entry-clause-missing : goal.returns-in_err-entry-clause-missing
returns-in_err-entry-clause-missing g t c = λ put es o.
    let X = g.S.X.BlockHash.block32 in let N = g.N.NameHash.name64 in let p = c.args.site.now.profile in let name = c.args.name.now in let led = c.args.site.now.led in let folder = c.args.folder.now in
    let a = g.S.Store.seen c.args.store.now in
    let found = reads-saves {f = None} c.in_ok-found.ensures.reads in let s = c.in_err-entry.field-0.0 in
    let more = take (length c.args.rest.now - 1) (drop 1 c.args.rest.now) in let next = c.next-item.result in
    let names : next ∷ more ≡ c.args.rest.now = first-rest c.args.rest.now next c.in-len1-up.len_at_least c.next-item.is in
    let out = err_from_is_err_and c.from_residual-in_err-entry.result c.from_residual-in_err-entry.ensures.1 in
    rw (out.1, out.2) (subst (λ (l : List (List ℕ)). MissesOnly a.told (put_needs X N p (name ∷ l) (Dir es)) (stop_fault {A = Option Entry} (Err s))) names
    (below-misses X N p found c.in_err-entry.ensures.saves (led + 1) folder c.in_ok-below.below name (next ∷ more) (stop_fault {A = Option Entry} (Err s)) c.in_ok-found.ensures.reads.told
    (λ es o. c.in_ok-below.ensures.decides X N a.told p (child name es) (c.in_ok-found.ensures.member p es (agreed-over X N p folder es o) o.calm.faults))
    (c.in_err-entry.ensures.missing put) es o))

pub returns-clause-missing : goal.returns-clause-missing
returns-clause-missing g t c = λ put.
    let X = g.S.X.BlockHash.block32 in let N = g.N.NameHash.name64 in let p = c.args.site.now.profile in
    put-misses X N p (saves-saves (reads-saves {f = None} c.in_ok-found.ensures.reads) c.in_ok-entry.ensures.saves) c.put_in.ensures.saves
    c.args.folder.now c.args.name.now c.args.rest.now (stop_fault c.put_in.result) c.put_in.ensures.missing

pub returns-in_err-found-clause-no_other : goal.returns-in_err-found-clause-no_other
returns-in_err-found-clause-no_other g t c =
    λ u meant es plan h. let X = g.S.X.BlockHash.block32 in let N = g.N.NameHash.name64 in
    SavesAmong-same X _ _ _ c.in_err-found.ensures.reads.told

pub returns-in_err-below-clause-no_other : goal.returns-in_err-below-clause-no_other
returns-in_err-below-clause-no_other g t c =
    λ u meant es plan h. let X = g.S.X.BlockHash.block32 in let N = g.N.NameHash.name64 in
    SavesAmong-same X _ _ _ c.in_ok-found.ensures.reads.told

pub returns-in_default-clause-no_other : goal.returns-in_default-clause-no_other
returns-in_default-clause-no_other g t c =
    λ u meant es plan h.
    let X = g.S.X.BlockHash.block32 in let N = g.N.NameHash.name64 in let site = c.args.site.now in let p = site.profile in let name = c.args.name.now in let what = site.what in let piece = site.piece.now in let led = site.led in
    let folder = c.args.folder.now in let a = g.S.Store.seen c.args.store.now in let b = g.S.Store.seen c.member.new.store in let d = g.S.Store.seen c.edit_here.new.store in let old = act_brought X N p what u in
    let reads = c.in_ok-found.ensures.reads in
    let member = c.in_ok-found.ensures.member p es (throughout-agreed X N p a d old folder es plan h) (calm-of a b h.can reads.cause).faults in
    subst (λ (l : List (List ℕ)). SavesAmong X (act_blocks X N p what (name ∷ l) es (edited (acted p what piece u) led name l es)) a.told d.told) (no-names c.args.rest.now c.in_default.len_below)
    (SavesAmong-trans X _ a.told b.told d.told (SavesAmong-same X _ a.told b.told reads.told)
    (c.edit_here.ensures.no_other u es meant (subst (λ told. IsAgreedMember X N told p (child name es) c.in_ok-found.found) (sym reads.told) member) plan (throughout-since X N p a b d _ reads.told reads.cause h)))

pub returns-in_err-entry-clause-no_other : goal.returns-in_err-entry-clause-no_other
returns-in_err-entry-clause-no_other g t c =
    λ u meant es plan h.
    let X = g.S.X.BlockHash.block32 in let N = g.N.NameHash.name64 in let site = c.args.site.now in let p = site.profile in let name = c.args.name.now in let what = site.what in let piece = site.piece.now in let led = site.led in
    let folder = c.args.folder.now in let a = g.S.Store.seen c.args.store.now in let b = g.S.Store.seen c.member.new.store in
    let reads = c.in_ok-found.ensures.reads in let found = reads-saves {f = None} reads in
    let more = take (length c.args.rest.now - 1) (drop 1 c.args.rest.now) in let next = c.next-item.result in
    let names : next ∷ more ≡ c.args.rest.now = first-rest c.args.rest.now next c.in-len1-up.len_at_least c.next-item.is in
    let leads = folder-there X N p (led + 1) folder c.in_ok-below.below name found (λ es o. c.in_ok-below.ensures.decides X N a.told p (child name es) (c.in_ok-found.ensures.member p es (agreed-over X N p folder es o) o.calm.faults)) in let e = g.S.Store.seen c.edit.new.store in
    subst (λ (l : List (List ℕ)). SavesAmong X (act_blocks X N p what (name ∷ l) es (edited (acted p what piece u) led name l es)) a.told e.told) names (SavesAmong-trans X _ a.told b.told e.told (SavesAmong-same X _ a.told b.told reads.told)
    (below-saves X N p found c.in_err-entry.ensures.saves folder c.in_ok-below.below (act_brought X N p what u) name (λ es. as_folder (led + 1) (child name es)) (edited (acted p what piece u) (led + 1) next more) (between_blocks X N p what (next ∷ more)) (between_blocks X N p what (name ∷ next ∷ more)) (act-good X N p what u) leads
    (act-between X N p what (led + 1) name next more) (c.in_err-entry.ensures.no_other u meant) es plan h))

pub returns-in_default-2-clause-no_other : goal.returns-in_default-2-clause-no_other
returns-in_default-2-clause-no_other g t c =
    λ u meant es plan h.
    let X = g.S.X.BlockHash.block32 in let N = g.N.NameHash.name64 in let site = c.args.site.now in let p = site.profile in let name = c.args.name.now in let what = site.what in let piece = site.piece.now in let led = site.led in
    let folder = c.args.folder.now in let a = g.S.Store.seen c.args.store.now in let b = g.S.Store.seen c.member.new.store in
    let reads = c.in_ok-found.ensures.reads in let found = reads-saves {f = None} reads in
    let more = take (length c.args.rest.now - 1) (drop 1 c.args.rest.now) in let next = c.next-item.result in
    let names : next ∷ more ≡ c.args.rest.now = first-rest c.args.rest.now next c.in-len1-up.len_at_least c.next-item.is in
    let leads = folder-there X N p (led + 1) folder c.in_ok-below.below name found (λ es o. c.in_ok-below.ensures.decides X N a.told p (child name es) (c.in_ok-found.ensures.member p es (agreed-over X N p folder es o) o.calm.faults)) in let e = g.S.Store.seen c.edit.new.store in
    subst (λ (l : List (List ℕ)). SavesAmong X (act_blocks X N p what (name ∷ l) es (edited (acted p what piece u) led name l es)) a.told e.told) names (SavesAmong-trans X _ a.told b.told e.told (SavesAmong-same X _ a.told b.told reads.told)
    (below-saves X N p found c.in_ok-entry.ensures.saves folder c.in_ok-below.below (act_brought X N p what u) name (λ es. as_folder (led + 1) (child name es)) (edited (acted p what piece u) (led + 1) next more) (between_blocks X N p what (next ∷ more)) (between_blocks X N p what (name ∷ next ∷ more)) (act-good X N p what u) leads
    (act-between X N p what (led + 1) name next more) (c.in_ok-entry.ensures.no_other u meant) es plan h))

pub returns-clause-no_other : goal.returns-clause-no_other
returns-clause-no_other g t c =
    λ u meant es plan h.
    let X = g.S.X.BlockHash.block32 in let N = g.N.NameHash.name64 in let site = c.args.site.now in let p = site.profile in let name = c.args.name.now in let what = site.what in let piece = site.piece.now in let led = site.led in
    let folder = c.args.folder.now in let a = g.S.Store.seen c.args.store.now in let b = g.S.Store.seen c.member.new.store in
    let reads = c.in_ok-found.ensures.reads in let found = reads-saves {f = None} reads in
    let more = take (length c.args.rest.now - 1) (drop 1 c.args.rest.now) in let next = c.next-item.result in
    let names : next ∷ more ≡ c.args.rest.now = first-rest c.args.rest.now next c.in-len1-up.len_at_least c.next-item.is in
    let leads = folder-there X N p (led + 1) folder c.in_ok-below.below name found (λ es o. c.in_ok-below.ensures.decides X N a.told p (child name es) (c.in_ok-found.ensures.member p es (agreed-over X N p folder es o) o.calm.faults)) in let e = g.S.Store.seen c.edit.new.store in let d = g.S.Store.seen c.put_in.new.store in
    let edits = c.in_ok-entry.ensures.saves in let puts = c.put_in.ensures.saves in
    subst (λ (l : List (List ℕ)). SavesAmong X (act_blocks X N p what (name ∷ l) es (edited (acted p what piece u) led name l es)) a.told d.told) names (SavesAmong-trans X _ a.told e.told d.told (SavesAmong-trans X _ a.told b.told e.told (SavesAmong-same X _ a.told b.told reads.told)
    (below-saves X N p found edits folder c.in_ok-below.below (act_brought X N p what u) name (λ es. as_folder (led + 1) (child name es)) (edited (acted p what piece u) (led + 1) next more) (between_blocks X N p what (next ∷ more)) (between_blocks X N p what (name ∷ next ∷ more)) (act-good X N p what u) leads
    (act-between X N p what (led + 1) name next more) (c.in_ok-entry.ensures.no_other u meant) es plan (throughout-first X N p (saves-saves found edits) puts _ h)))
    (path-saves X N p folder c.in_ok-below.below c.in-Some.entry (act_brought X N p what u) name (λ es. as_folder (led + 1) (child name es)) (edited (acted p what piece u) (led + 1) next more) (between_blocks X N p what (name ∷ next ∷ more)) (act-good X N p what u) found leads edits
    (subst (λ (o : Option Entry). ChangesFolder X N p b e (act_brought X N p what u) c.in_ok-below.below (edited (acted p what piece u) (led + 1) next more) (Ok o)) c.in-Some.is (c.in_ok-entry.ensures.edits u meant))
    puts c.put_in.ensures.no_other es plan h))
