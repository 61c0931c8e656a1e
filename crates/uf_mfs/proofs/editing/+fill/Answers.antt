use Rattle.std.proofs.Common.{[], ◌≡◌, ◌+◌, ◌-◌, ◌∷◌, Err, None, Ok, Some, drop, length, refl, subst, sym, take, ◌∙◌, ◌*◌, List, ℕ, Result, arith}
use Rattle.std.proofs.lemmas.Result.{err_from_is_err_and}
use Rattle.uf_tree.specs.Tree.{Dir, Entries}
use Rattle.uf_plain.specs.declared.rule.Refused.{Refused}
use Rattle.uf_mfs.specs.Touches.{TouchesFolder, crossings_of}
use Rattle.uf_mfs.proofs.Touching.{new-leads, put-touches, stopped-touches, touches-by}
use Rattle.uf_plain.specs.Edits.{at, child, made_all, or_new}
use Rattle.uf_mfs.specs.Steps.{ChangesFolder, stop_fault}
use Rattle.uf_store.proofs.Calls.{saves-by, saves-saves}
use Rattle.uf_mfs.specs.Bad.{IsBadInTree}
use Rattle.uf_mfs.proofs.Judging.{bad-below, tree-more}
use Rattle.uf_mfs.proofs.Filling.{filled-edits, filled-none, stood-before, there-not, there-under}
use Rattle.uf_mfs.proofs.Folders.{path-put, path-stopped}
use Rattle.uf_mfs.proofs.Meeting.{first-rest}
use Rattle.uf_store.specs.Among.{SavesAmong}
use Rattle.uf_store.proofs.Among.{SavesAmong-trans}
use Rattle.uf_mfs.specs.Saving.{next_blocks}
use Rattle.uf_mfs.proofs.Saving.{below-saves, none-among, opened-among, path-saves, saved-more, throughout-first}
use Rattle.uf_mfs.proofs.editing.+fill.Goals as goal

pub returns-in_err-filled-clause-fills : goal.returns-in_err-filled-clause-fills
returns-in_err-filled-clause-fills g t c =
    let X = g.S.X.BlockHash.block32 in let N = g.N.NameHash.name64 in let p = c.args.profile.now in let name = c.name-item.result in
    let a = g.S.Store.seen c.args.store.now in let e = g.S.Store.seen c.fill.new.store in
    let more = take (length c.args.names.now - 1) (drop 1 c.args.names.now) in
    let names : name ∷ more ≡ c.args.names.now = first-rest c.args.names.now name c.in-len1-up.len_at_least c.name-item.is in
    let out = err_from_is_err_and c.from_residual-in_err-filled.result c.from_residual-in_err-filled.ensures.1 in
    rw (out.1, out.2) (subst (λ l. ChangesFolder X N p a e [] c.args.folder.now (made_all c.args.led l) (Err c.in_err-filled.field-0.0)) names
    (path-stopped X N p c.args.folder.now c.in_ok-start.start.0 [] name (λ es. or_new (c.args.led + 1) (child name es)) (made_all (c.args.led + 1) more) c.in_err-filled.field-0.0 tt
    c.in_ok-start.ensures.saves (c.in_ok-start.ensures.opens p) c.in_err-filled.ensures.saves c.in_err-filled.ensures.fills))

pub returns-in_err-filled-clause-there : goal.returns-in_err-filled-clause-there
returns-in_err-filled-clause-there g t c = λ es below i stood is.
    let X = g.S.X.BlockHash.block32 in let N = g.N.NameHash.name64 in let p = c.args.profile.now in let name = c.name-item.result in
    let more = take (length c.args.names.now - 1) (drop 1 c.args.names.now) in
    let names : name ∷ more ≡ c.args.names.now = first-rest c.args.names.now name c.in-len1-up.len_at_least c.name-item.is in
    let out = err_from_is_err_and c.from_residual-in_err-filled.result c.from_residual-in_err-filled.ensures.1 in
    let under = there-under X N p c.args.led name more es below c.args.folder.now c.in_ok-start.start c.in_ok-start.ensures.saves c.in_err-filled.ensures.saves i stood
    (subst (λ l. at c.args.led l (Dir es) ≡ Ok (Dir below)) (sym names) is) (c.in_ok-start.ensures.found p es) (c.in_ok-start.ensures.there p es) (λ fs j s h. c.in_err-filled.ensures.there fs below j s h) in
    rw out.1 (under.1, tt)

pub returns-in_err-filled-clause-saves : goal.returns-in_err-filled-clause-saves
returns-in_err-filled-clause-saves g t c =
    let out = err_from_is_err_and c.from_residual-in_err-filled.result c.from_residual-in_err-filled.ensures.1 in
    let X = g.S.X.BlockHash.block32 in let N = g.N.NameHash.name64 in let p = c.args.profile.now in let folder = c.args.folder.now.cid in
    rw (out.1, out.2) (saves-saves c.in_ok-start.ensures.saves (saves-by (IsBadInTree X N (Some p) folder) (bad-below X N (Some p) folder c.in_ok-start.start.0.cid c.in_ok-start.ensures.required) c.in_err-filled.ensures.saves))

pub returns-in_err-start-clause-saves : goal.returns-in_err-start-clause-saves
returns-in_err-start-clause-saves g t c =
    let X = g.S.X.BlockHash.block32 in let N = g.N.NameHash.name64 in let p = c.args.profile.now in let folder = c.args.folder.now.cid in
    let out = err_from_is_err_and c.from_residual.result c.from_residual.ensures.1 in
    rw (out.1, out.2) (saves-by (IsBadInTree X N (Some p) folder) (tree-more X N p folder) c.in_err-start.ensures.saves)

pub returns-in_default-below_of-clause-fills : goal.returns-in_default-below_of-clause-fills
returns-in_default-below_of-clause-fills g t c =
    let X = g.S.X.BlockHash.block32 in let N = g.N.NameHash.name64 in let p = c.args.profile.now in let name = c.name-item.result in
    let more = take (length c.args.names.now - 1) (drop 1 c.args.names.now) in
    let names : name ∷ more ≡ c.args.names.now = first-rest c.args.names.now name c.in-len1-up.len_at_least c.name-item.is in
    let a = g.S.Store.seen c.args.store.now in let e = g.S.Store.seen c.fill.new.store in
    subst (λ l. ChangesFolder X N p a e [] c.args.folder.now (made_all c.args.led l) (Ok None)) names
    (filled-none X N p (c.args.led + 1) c.args.folder.now name (made_all (c.args.led + 1) more) c.in_ok-start.start c.in_ok-filled.filled (sym c.below_of.ensures ∙ c.in_default-below_of.is)
    c.in_ok-start.ensures.saves (c.in_ok-start.ensures.found p) c.in_ok-filled.ensures.saves c.in_ok-filled.ensures.fills)

pub returns-in_default-below_of-clause-there : goal.returns-in_default-below_of-clause-there
returns-in_default-below_of-clause-there g t c = λ es below i stood is.
    let X = g.S.X.BlockHash.block32 in let N = g.N.NameHash.name64 in let p = c.args.profile.now in let name = c.name-item.result in
    let more = take (length c.args.names.now - 1) (drop 1 c.args.names.now) in
    let names : name ∷ more ≡ c.args.names.now = first-rest c.args.names.now name c.in-len1-up.len_at_least c.name-item.is in
    let under = there-under X N p c.args.led name more es below c.args.folder.now c.in_ok-start.start c.in_ok-start.ensures.saves c.in_ok-filled.ensures.saves i stood
    (subst (λ l. at c.args.led l (Dir es) ≡ Ok (Dir below)) (sym names) is) (c.in_ok-start.ensures.found p es) (c.in_ok-start.ensures.there p es) (λ fs j s h. c.in_ok-filled.ensures.there fs below j s h) in
    (under.1, refl)

pub returns-in_default-below_of-clause-saves : goal.returns-in_default-below_of-clause-saves
returns-in_default-below_of-clause-saves g t c =
    let X = g.S.X.BlockHash.block32 in let N = g.N.NameHash.name64 in let p = c.args.profile.now in let folder = c.args.folder.now.cid in
    saves-saves c.in_ok-start.ensures.saves (saves-by (IsBadInTree X N (Some p) folder) (bad-below X N (Some p) folder c.in_ok-start.start.0.cid c.in_ok-start.ensures.required) c.in_ok-filled.ensures.saves)

pub returns-clause-fills : goal.returns-clause-fills
returns-clause-fills g t c =
    let X = g.S.X.BlockHash.block32 in let N = g.N.NameHash.name64 in let p = c.args.profile.now in let name = c.name-item.result in
    let more = take (length c.args.names.now - 1) (drop 1 c.args.names.now) in
    let names : name ∷ more ≡ c.args.names.now = first-rest c.args.names.now name c.in-len1-up.len_at_least c.name-item.is in
    let a = g.S.Store.seen c.args.store.now in let d = g.S.Store.seen c.put_in.new.store in
    subst (λ l. ChangesFolder X N p a d [] c.args.folder.now (made_all c.args.led l) c.put_in.result) names
    (path-put X N p c.args.folder.now c.in_ok-start.start.0 c.in-Some.below [] name (λ es. or_new (c.args.led + 1) (child name es)) (made_all (c.args.led + 1) more) c.put_in.result tt
    c.in_ok-start.ensures.saves (c.in_ok-start.ensures.opens p) c.in_ok-filled.ensures.saves
    (filled-edits X N p c.in_ok-start.start c.in_ok-filled.filled c.in-Some.below (made_all (c.args.led + 1) more) (sym c.below_of.ensures ∙ c.in-Some.is) c.in_ok-filled.ensures.saves c.in_ok-filled.ensures.fills)
    c.put_in.ensures.saves c.put_in.ensures.edits)

pub returns-clause-there : goal.returns-clause-there
returns-clause-there g t c = λ es below i stood is.
    let X = g.S.X.BlockHash.block32 in let N = g.N.NameHash.name64 in let p = c.args.profile.now in let name = c.name-item.result in
    let more = take (length c.args.names.now - 1) (drop 1 c.args.names.now) in
    let names : name ∷ more ≡ c.args.names.now = first-rest c.args.names.now name c.in-len1-up.len_at_least c.name-item.is in
    let a = g.S.Store.seen c.args.store.now in let e = g.S.Store.seen c.fill.new.store in let d = g.S.Store.seen c.put_in.new.store in
    let both = saves-saves c.in_ok-start.ensures.saves c.in_ok-filled.ensures.saves in
    absurd (there-not X N p c.args.led name more es below c.args.folder.now c.in_ok-start.start c.in_ok-filled.filled c.in-Some.below (sym c.below_of.ensures ∙ c.in-Some.is)
    c.in_ok-start.ensures.saves c.in_ok-filled.ensures.saves i (stood-before X _ _ (stop_fault c.put_in.result) a e d both c.put_in.ensures.saves stood)
    (subst (λ l. at c.args.led l (Dir es) ≡ Ok (Dir below)) (sym names) is) (c.in_ok-start.ensures.found p es) (c.in_ok-start.ensures.there p es) (λ fs j s h. c.in_ok-filled.ensures.there fs below j s h))

pub returns-clause-saves : goal.returns-clause-saves
returns-clause-saves g t c = saves-saves (saves-saves c.in_ok-start.ensures.saves c.in_ok-filled.ensures.saves) c.put_in.ensures.saves

pub returns-in_err-filled-clause-touches : goal.returns-in_err-filled-clause-touches
returns-in_err-filled-clause-touches g t c =
    let X = g.S.X.BlockHash.block32 in let N = g.N.NameHash.name64 in let p = c.args.profile.now in let name = c.name-item.result in let folder = c.args.folder.now in let led = c.args.led in
    let more = take (length c.args.names.now - 1) (drop 1 c.args.names.now) in
    let names : name ∷ more ≡ c.args.names.now = first-rest c.args.names.now name c.in-len1-up.len_at_least c.name-item.is in
    let a = g.S.Store.seen c.args.store.now in let e = g.S.Store.seen c.fill.new.store in
    let step : Entries → Result Entries Refused = (λ es. or_new (led + 1) (child name es)) in
    let t1 = c.in_ok-start.ensures.touches in
    subst (λ (l : List (List ℕ)). TouchesFolder X N p a e [] folder (λ es. 40 * length l + crossings_of X N p l es (made_all led l es)) c.args.touches.now c.fill.new.touches) names
    (touches-by X N p [] folder _ _ c.args.touches.now c.fill.new.touches (λ es. omega arith)
    (stopped-touches X N p folder c.in_ok-start.start.0 [] name more step (made_all (led + 1) more) (λ es. 0) (λ es. 0) (length more) tt (new-leads X N p (led + 1) name)
    c.args.touches.now c.open_or_make.new.touches c.fill.new.touches t1 c.in_ok-start.ensures.saves (c.in_ok-start.ensures.opens p) c.in_err-filled.ensures.saves
    (touches-by X N p [] c.in_ok-start.start.0 _ _ c.open_or_make.new.touches c.fill.new.touches (λ es. omega arith) c.in_err-filled.ensures.touches)))

pub returns-in_default-below_of-clause-touches : goal.returns-in_default-below_of-clause-touches
returns-in_default-below_of-clause-touches g t c =
    let X = g.S.X.BlockHash.block32 in let N = g.N.NameHash.name64 in let p = c.args.profile.now in let name = c.name-item.result in let folder = c.args.folder.now in let led = c.args.led in
    let more = take (length c.args.names.now - 1) (drop 1 c.args.names.now) in
    let names : name ∷ more ≡ c.args.names.now = first-rest c.args.names.now name c.in-len1-up.len_at_least c.name-item.is in
    let a = g.S.Store.seen c.args.store.now in let e = g.S.Store.seen c.fill.new.store in
    let step : Entries → Result Entries Refused = (λ es. or_new (led + 1) (child name es)) in
    let t1 = c.in_ok-start.ensures.touches in
    subst (λ (l : List (List ℕ)). TouchesFolder X N p a e [] folder (λ es. 40 * length l + crossings_of X N p l es (made_all led l es)) c.args.touches.now c.fill.new.touches) names
    (touches-by X N p [] folder _ _ c.args.touches.now c.fill.new.touches (λ es. omega arith)
    (stopped-touches X N p folder c.in_ok-start.start.0 [] name more step (made_all (led + 1) more) (λ es. 0) (λ es. 0) (length more) tt (new-leads X N p (led + 1) name)
    c.args.touches.now c.open_or_make.new.touches c.fill.new.touches t1 c.in_ok-start.ensures.saves (c.in_ok-start.ensures.opens p) c.in_ok-filled.ensures.saves
    (touches-by X N p [] c.in_ok-start.start.0 _ _ c.open_or_make.new.touches c.fill.new.touches (λ es. omega arith) c.in_ok-filled.ensures.touches)))

pub returns-clause-touches : goal.returns-clause-touches
returns-clause-touches g t c =
    let X = g.S.X.BlockHash.block32 in let N = g.N.NameHash.name64 in let p = c.args.profile.now in let name = c.name-item.result in let folder = c.args.folder.now in let led = c.args.led in
    let more = take (length c.args.names.now - 1) (drop 1 c.args.names.now) in
    let names : name ∷ more ≡ c.args.names.now = first-rest c.args.names.now name c.in-len1-up.len_at_least c.name-item.is in
    let a = g.S.Store.seen c.args.store.now in let e = g.S.Store.seen c.fill.new.store in
    let step : Entries → Result Entries Refused = (λ es. or_new (led + 1) (child name es)) in
    let t1 = c.in_ok-start.ensures.touches in
    let d = g.S.Store.seen c.put_in.new.store in
    subst (λ (l : List (List ℕ)). TouchesFolder X N p a d [] folder (λ es. 40 * length l + crossings_of X N p l es (made_all led l es)) c.args.touches.now c.put_in.new.touches) names
    (touches-by X N p [] folder _ _ c.args.touches.now c.put_in.new.touches (λ es. omega arith)
    (put-touches X N p folder c.in_ok-start.start.0 [] name more step (made_all (led + 1) more) (λ es. 0) (λ es. 0) (length more) tt (new-leads X N p (led + 1) name)
    c.in-Some.below c.args.touches.now c.open_or_make.new.touches c.fill.new.touches c.put_in.new.touches t1 c.in_ok-start.ensures.saves (c.in_ok-start.ensures.opens p) c.in_ok-filled.ensures.saves
    (filled-edits X N p c.in_ok-start.start c.in_ok-filled.filled c.in-Some.below (made_all (led + 1) more) (sym c.below_of.ensures ∙ c.in-Some.is) c.in_ok-filled.ensures.saves c.in_ok-filled.ensures.fills)
    (touches-by X N p [] c.in_ok-start.start.0 _ _ c.open_or_make.new.touches c.fill.new.touches (λ es. omega arith) c.in_ok-filled.ensures.touches)
    c.put_in.ensures.saves c.put_in.ensures.touches))

pub returns-in_err-start-clause-no_other : goal.returns-in_err-start-clause-no_other
returns-in_err-start-clause-no_other g t c =
    λ es plan h.
    let X = g.S.X.BlockHash.block32 in let N = g.N.NameHash.name64 in let p = c.args.profile.now in let name = c.name-item.result in let folder = c.args.folder.now in let led = c.args.led in
    let more = take (length c.args.names.now - 1) (drop 1 c.args.names.now) in
    let names : name ∷ more ≡ c.args.names.now = first-rest c.args.names.now name c.in-len1-up.len_at_least c.name-item.is in
    let a = g.S.Store.seen c.args.store.now in let b = g.S.Store.seen c.open_or_make.new.store in
    subst (λ (l : List (List ℕ)). SavesAmong X (next_blocks X N p (made_all led l es)) a.told b.told) names (saved-more X _ _ a.told b.told (opened-among X N p led name more es) (c.in_err-start.ensures.no_other p es plan h))

pub returns-in_err-filled-clause-no_other : goal.returns-in_err-filled-clause-no_other
returns-in_err-filled-clause-no_other g t c =
    λ es plan h.
    let X = g.S.X.BlockHash.block32 in let N = g.N.NameHash.name64 in let p = c.args.profile.now in let name = c.name-item.result in let folder = c.args.folder.now in let led = c.args.led in
    let more = take (length c.args.names.now - 1) (drop 1 c.args.names.now) in
    let names : name ∷ more ≡ c.args.names.now = first-rest c.args.names.now name c.in-len1-up.len_at_least c.name-item.is in
    let a = g.S.Store.seen c.args.store.now in let b = g.S.Store.seen c.open_or_make.new.store in let e = g.S.Store.seen c.fill.new.store in
    subst (λ (l : List (List ℕ)). SavesAmong X (next_blocks X N p (made_all led l es)) a.told e.told) names (SavesAmong-trans X _ a.told b.told e.told
    (saved-more X _ _ a.told b.told (opened-among X N p led name more es) (c.in_ok-start.ensures.no_other p es plan (throughout-first X N p c.in_ok-start.ensures.saves c.in_err-filled.ensures.saves _ h)))
    (below-saves X N p c.in_ok-start.ensures.saves c.in_err-filled.ensures.saves folder c.in_ok-start.start.0 [] name (λ es. or_new (led + 1) (child name es)) (made_all (led + 1) more) (λ fs. []) (λ fs. []) tt (c.in_ok-start.ensures.opens p) (λ es below is. none-among []) c.in_err-filled.ensures.no_other es plan h))

pub returns-in_default-below_of-clause-no_other : goal.returns-in_default-below_of-clause-no_other
returns-in_default-below_of-clause-no_other g t c =
    λ es plan h.
    let X = g.S.X.BlockHash.block32 in let N = g.N.NameHash.name64 in let p = c.args.profile.now in let name = c.name-item.result in let folder = c.args.folder.now in let led = c.args.led in
    let more = take (length c.args.names.now - 1) (drop 1 c.args.names.now) in
    let names : name ∷ more ≡ c.args.names.now = first-rest c.args.names.now name c.in-len1-up.len_at_least c.name-item.is in
    let a = g.S.Store.seen c.args.store.now in let b = g.S.Store.seen c.open_or_make.new.store in let e = g.S.Store.seen c.fill.new.store in
    subst (λ (l : List (List ℕ)). SavesAmong X (next_blocks X N p (made_all led l es)) a.told e.told) names (SavesAmong-trans X _ a.told b.told e.told
    (saved-more X _ _ a.told b.told (opened-among X N p led name more es) (c.in_ok-start.ensures.no_other p es plan (throughout-first X N p c.in_ok-start.ensures.saves c.in_ok-filled.ensures.saves _ h)))
    (below-saves X N p c.in_ok-start.ensures.saves c.in_ok-filled.ensures.saves folder c.in_ok-start.start.0 [] name (λ es. or_new (led + 1) (child name es)) (made_all (led + 1) more) (λ fs. []) (λ fs. []) tt (c.in_ok-start.ensures.opens p) (λ es below is. none-among []) c.in_ok-filled.ensures.no_other es plan h))

pub returns-clause-no_other : goal.returns-clause-no_other
returns-clause-no_other g t c =
    λ es plan h.
    let X = g.S.X.BlockHash.block32 in let N = g.N.NameHash.name64 in let p = c.args.profile.now in let name = c.name-item.result in let folder = c.args.folder.now in let led = c.args.led in
    let more = take (length c.args.names.now - 1) (drop 1 c.args.names.now) in
    let names : name ∷ more ≡ c.args.names.now = first-rest c.args.names.now name c.in-len1-up.len_at_least c.name-item.is in
    let a = g.S.Store.seen c.args.store.now in let b = g.S.Store.seen c.open_or_make.new.store in let e = g.S.Store.seen c.fill.new.store in let d = g.S.Store.seen c.put_in.new.store in
    let opens = c.in_ok-start.ensures.saves in let fills = c.in_ok-filled.ensures.saves in let puts = c.put_in.ensures.saves in
    subst (λ (l : List (List ℕ)). SavesAmong X (next_blocks X N p (made_all led l es)) a.told d.told) names (SavesAmong-trans X _ a.told e.told d.told (SavesAmong-trans X _ a.told b.told e.told
    (saved-more X _ _ a.told b.told (opened-among X N p led name more es) (c.in_ok-start.ensures.no_other p es plan (throughout-first X N p opens (saves-saves fills puts) _ h)))
    (below-saves X N p opens fills folder c.in_ok-start.start.0 [] name (λ es. or_new (led + 1) (child name es)) (made_all (led + 1) more) (λ fs. []) (λ fs. []) tt (c.in_ok-start.ensures.opens p) (λ es below is. none-among []) c.in_ok-filled.ensures.no_other es plan
    (throughout-first X N p (saves-saves opens fills) puts _ h)))
    (path-saves X N p folder c.in_ok-start.start.0 c.in-Some.below [] name (λ es. or_new (led + 1) (child name es)) (made_all (led + 1) more) (λ fs. []) tt opens (c.in_ok-start.ensures.opens p) fills
    (filled-edits X N p c.in_ok-start.start c.in_ok-filled.filled c.in-Some.below (made_all (led + 1) more) (sym c.below_of.ensures ∙ c.in-Some.is) fills c.in_ok-filled.ensures.fills) puts c.put_in.ensures.no_other es plan h))
