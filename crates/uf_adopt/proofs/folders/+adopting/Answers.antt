use Rattle.std.proofs.Common.{◌≡◌, ◌+◌, ◌-◌, ◌++◌, ◌∷◌, ℕ, List, [], drop, Err, Ok, None, ap, arith, subst, sym, ◌∙◌}
use Rattle.std.specs.Prelude.{IsTrue}
use Rattle.std.specs.List.{AllByRecursion}
use Rattle.std.specs.FinMap.Entries.{is_sorted}
use Rattle.std.proofs.lemmas.Result.{err_from_is_err_and}
use Rattle.uf_cid.specs.declared.cid.Cid.{Cid}
use Rattle.uf_store.specs.Among.{SavesAmong}
use Rattle.uf_store.specs.Calls.{OnlyReads, OnlySaves}
use Rattle.uf_store.specs.Contents.{Told}
use Rattle.uf_store.proofs.Among.{SavesAmong-refl, SavesAmong-same, SavesAmong-trans}
use Rattle.uf_store.specs.Faults.{NoneIsBad}
use Rattle.uf_store.proofs.Calls.{reads-saves, saves-saves}
use Rattle.uf_shard.proofs.Saves.{saves-none}
use Rattle.uf_shard.specs.Answers.{dir_fault}
use Rattle.uf_tree.specs.Names.{names_cmp}
use Rattle.uf_tree.specs.Nodes.{Named}
use Rattle.uf_tree.specs.FilePlan.{file_plan}
use Rattle.uf_tree.specs.Tree.{Dir, Tree}
use Rattle.uf_tree.specs.TreePlan.{blocks as blocks_of}
use Rattle.uf_tree.specs.Validity.{IsDirectory, IsNamed}
use Rattle.uf_lenient.specs.Metas.{IsGoodShape}
use Rattle.uf_lenient.specs.Steps.{IsInOrder}
use Rattle.uf_tree.specs.declared.nodes.Entry.{Entry}
use Rattle.uf_adopt.specs.Adopting.{BuildsTree, each_blocks}
use Rattle.uf_lenient.specs.Denoted.{denotes_within}
use Rattle.uf_adopt.specs.Faults.{of_directory}
use Rattle.uf_adopt.specs.Feeding.{HoldsGoodMap}
use Rattle.uf_adopt.proofs.Built.{Went, folder-built, folder-err, folder-refused, names_of, went-all, went-err, went-more, went-none}
use Rattle.uf_adopt.proofs.Fed.{map-kept}
use Rattle.uf_adopt.proofs.Going.{all-directory, all-named, dir-adopts, file-case, folder-case, memory-adopts, names-more, next-at, no-room, past-all, shape-fault}
use Rattle.uf_adopt.proofs.Saving.{file-saves, members-saves, next-saves, own-saves}
use Rattle.uf_adopt.proofs.folders.+adopting.Goals as goal

pub adopt_each-loop-way-init : goal.adopt_each-loop-way-init
adopt_each-loop-way-init g t c = record {
  went = λ held es good denoted.
      subst (λ (l : List Named). Went g.S.X.BlockHash.block32 g.N.NameHash.name64 c.args.p.now held c.args.limits.now c.args.room (g.S.Store.seen c.args.store.now).told c.args.ways.now es c.args.ways.now l) (sym c.new-pairs.ensures)
      (went-none g.S.X.BlockHash.block32 g.N.NameHash.name64 c.args.p.now held c.args.limits.now c.args.room c.args.ways.now es (g.S.Store.seen c.args.store.now).told denoted);
  no_other = λ held es good denoted. SavesAmong-refl g.S.X.BlockHash.block32 (each_blocks g.S.X.BlockHash.block32 g.N.NameHash.name64 c.args.p.now es) (g.S.Store.seen c.args.store.now).told;
  names = ap (λ (l : List Named). names_of l ++ names_of c.args.ways.now) c.new-pairs.ensures;
  named = subst (AllByRecursion IsNamed) (sym c.new-pairs.ensures) tt;
  touched = omega arith;
  saves = saves-none (g.S.Store.seen c.args.store.now);
}

pub adopt_each-returns-in_err-entry-clause-builds :
    goal.adopt_each-returns-in_err-entry-clause-builds
adopt_each-returns-in_err-entry-clause-builds g t c = λ held es good denoted.
    let X = g.S.X.BlockHash.block32 in let N = g.N.NameHash.name64 in let p = c.args.p.now in
    let told = (g.S.Store.seen c.loop-way.store).told in let now = (g.S.Store.seen c.adopt_within.new.store).told in
    let w = c.way-item.result in
    let n = next-at X N p held c.args.limits.now c.args.room c.args.ways.now es told c.loop-way.way-index w c.loop-way.pairs c.loop-way-test.true c.way-item.is (c.loop-way.invariant.went held es good denoted) in
    let kept = map-kept X held (g.S.Store.seen c.args.store.now).told told c.loop-way.invariant.saves.good good in
    let cid = ap (λ (x : List ℕ × Cid). x.1) c.way.view_is in
    let out = err_from_is_err_and c.from_residual.result c.from_residual.ensures.1 in
    rw (out.1, out.2)
    (went-err X N p held c.args.limits.now c.args.room c.args.ways.now es told now w (drop (c.loop-way.way-index + 1) c.args.ways.now) c.loop-way.pairs n c.in_err-entry.field-0.0
    (subst (λ (x : Cid). BuildsTree X N p held c.args.limits.now now x n.tree (Err c.in_err-entry.field-0.0)) cid
    (c.in_err-entry.ensures.builds held n.tree kept (subst (λ (x : Cid). denotes_within held c.args.limits.now c.args.room x ≡ Ok n.tree) (sym cid) n.denoted))))

pub adopt_each-returns-in_err-entry-clause-adopts :
    goal.adopt_each-returns-in_err-entry-clause-adopts
adopt_each-returns-in_err-entry-clause-adopts g t c =
    let out = err_from_is_err_and c.from_residual.result c.from_residual.ensures.1 in
    rw (out.1, out.2) (record { saves = saves-saves c.loop-way.invariant.saves c.in_err-entry.ensures.adopts.saves; apart = c.in_err-entry.ensures.adopts.apart })

pub adopt_each-returns-in_err-pair_of-clause-adopts :
    goal.adopt_each-returns-in_err-pair_of-clause-adopts
adopt_each-returns-in_err-pair_of-clause-adopts g t c =
    let out = err_from_is_err_and c.from_residual-in_err-pair_of.result c.from_residual-in_err-pair_of.ensures.1 in
    rw (out.1, out.2) (memory-adopts g.S.X.BlockHash.block32 (g.S.Store.seen c.args.store.now) (g.S.Store.seen c.adopt_within.new.store) (saves-saves c.loop-way.invariant.saves c.in_ok-entry.ensures.adopts.saves))

pub adopt_each-returns-in_err-push-clause-adopts :
    goal.adopt_each-returns-in_err-push-clause-adopts
adopt_each-returns-in_err-push-clause-adopts g t c =
    let out = err_from_is_err_and c.from_residual-in_err-push.result c.from_residual-in_err-push.ensures.1 in
    rw (out.1, out.2) (memory-adopts g.S.X.BlockHash.block32 (g.S.Store.seen c.args.store.now) (g.S.Store.seen c.adopt_within.new.store) (saves-saves c.loop-way.invariant.saves c.in_ok-entry.ensures.adopts.saves))

pub adopt_each-loop-way-preserved : goal.adopt_each-loop-way-preserved
adopt_each-loop-way-preserved g t c =
    let X = g.S.X.BlockHash.block32 in let N = g.N.NameHash.name64 in let p = c.args.p.now in
    let told = (g.S.Store.seen c.loop-way.store).told in let now = (g.S.Store.seen c.adopt_within.new.store).told in
    let w = c.way-item.result in
    let left = drop (c.loop-way.way-index + 1) c.args.ways.now in
    let cid = ap (λ (x : List ℕ × Cid). x.1) c.way.view_is in
    let pair : c.in_ok-pair_of.field-0 ≡ (w.0, c.in_ok-entry.entry) = c.in_ok-pair_of.ensures.pair in
    let list : c.push.new.self ≡ c.loop-way.pairs ++ (w.0, c.in_ok-entry.entry) ∷ [] = c.in_ok-push.ensures.ok ∙ ap (λ (x : Named). c.loop-way.pairs ++ x ∷ []) pair in
    let named : IsNamed (w.0, c.in_ok-entry.entry) = subst IsNamed pair c.in_ok-pair_of.ensures.named in
    record {
      went = λ held es good denoted.
          let n = next-at X N p held c.args.limits.now c.args.room c.args.ways.now es told c.loop-way.way-index w c.loop-way.pairs c.loop-way-test.true c.way-item.is (c.loop-way.invariant.went held es good denoted) in
          let kept = map-kept X held (g.S.Store.seen c.args.store.now).told told c.loop-way.invariant.saves.good good in
          let built = c.in_ok-entry.ensures.builds held n.tree kept (subst (λ (x : Cid). denotes_within held c.args.limits.now c.args.room x ≡ Ok n.tree) (sym cid) n.denoted) in
          subst (λ (l : List Named). Went X N p held c.args.limits.now c.args.room now c.args.ways.now es left l) (sym list)
          (went-more X N p held c.args.limits.now c.args.room c.args.ways.now es told now w left c.loop-way.pairs c.in_ok-entry.entry n c.in_ok-entry.ensures.adopts.saves.good named.name built);
      no_other = λ held es good denoted.
          let n = next-at X N p held c.args.limits.now c.args.room c.args.ways.now es told c.loop-way.way-index w c.loop-way.pairs c.loop-way-test.true c.way-item.is (c.loop-way.invariant.went held es good denoted) in
          let kept = map-kept X held (g.S.Store.seen c.args.store.now).told told c.loop-way.invariant.saves.good good in
          SavesAmong-trans X (each_blocks X N p es) (g.S.Store.seen c.args.store.now).told told now (c.loop-way.invariant.no_other held es good denoted)
          (next-saves X N p held c.args.limits.now c.args.room c.args.ways.now es told w left c.loop-way.pairs n told now
          (c.adopt_within.ensures.no_other held n.tree kept (subst (λ (x : Cid). denotes_within held c.args.limits.now c.args.room x ≡ Ok n.tree) (sym cid) n.denoted)));
      names = subst (λ (l : List Named). names_of l ++ names_of left ≡ names_of c.args.ways.now) (sym list) (names-more c.args.ways.now c.loop-way.way-index w c.loop-way.pairs c.in_ok-entry.entry c.loop-way-test.true c.way-item.is c.loop-way.invariant.names);
      named = subst (AllByRecursion IsNamed) (sym list) (all-named c.loop-way.pairs (w.0, c.in_ok-entry.entry) c.loop-way.invariant.named named);
      touched = omega (arith, c.loop-way.invariant.touched, c.in_ok-entry.ensures.touched);
      saves = saves-saves c.loop-way.invariant.saves c.in_ok-entry.ensures.adopts.saves;
    }

pub adopt_each-returns-clause-builds : goal.adopt_each-returns-clause-builds
adopt_each-returns-clause-builds g t c = λ held es good denoted.
    let X = g.S.X.BlockHash.block32 in let N = g.N.NameHash.name64 in let p = c.args.p.now in
    let told = (g.S.Store.seen c.loop-way.store).told in
    went-all X N p held c.args.limits.now c.args.room c.args.ways.now es told c.loop-way.pairs
    (past-all X N p held c.args.limits.now c.args.room c.args.ways.now es told c.loop-way.way-index c.loop-way.pairs (let past = c.loop-way-test.false in omega arith) (c.loop-way.invariant.went held es good denoted))

pub adopt_each-returns-clause-directory : goal.adopt_each-returns-clause-directory
adopt_each-returns-clause-directory g t c = λ sorted. all-directory c.args.ways.now c.loop-way.way-index c.loop-way.pairs (let past = c.loop-way-test.false in omega arith) c.loop-way.invariant.names c.loop-way.invariant.named sorted

pub adopt_within-returns-then-room-eq0-clause-builds :
    goal.adopt_within-returns-then-room-eq0-clause-builds
adopt_within-returns-then-room-eq0-clause-builds g t c = λ held tree good is. no-room g.S.X.BlockHash.block32 g.N.NameHash.name64 c.args.p.now held c.args.limits.now c.args.room c.args.cid.now tree (let none = c.if-room-eq0.true in omega arith) is

pub adopt_within-returns-in_err-meta-clause-builds :
    goal.adopt_within-returns-in_err-meta-clause-builds
adopt_within-returns-in_err-meta-clause-builds g t c = λ held tree good is.
    let out = err_from_is_err_and c.from_residual.result c.from_residual.ensures.1 in
    rw (out.1, out.2) (shape-fault g.S.X.BlockHash.block32 g.N.NameHash.name64 c.args.p.now held c.args.limits.now (g.S.Store.seen c.args.store.now).told (g.S.Store.seen c.shallow.new.store).told c.args.room c.args.cid.now tree c.in_err-meta.field-0.0 (let some = c.if-room-eq0.false in omega arith) good is c.in_err-meta.ensures.says)

pub adopt_within-returns-in-File-clause-builds : goal.adopt_within-returns-in-File-clause-builds
adopt_within-returns-in-File-clause-builds g t c = λ held tree good is.
    let X = g.S.X.BlockHash.block32 in
    file-case X g.N.NameHash.name64 c.args.p.now held c.args.limits.now (g.S.Store.seen c.args.store.now).told (g.S.Store.seen c.adopt_file.new.store).told c.args.room c.args.cid.now tree c.in_ok-meta.field-0 c.in-File.meta c.adopt_file.result (let some = c.if-room-eq0.false in omega arith) good is c.in_ok-meta.ensures.says c.in-File.is (subst IsGoodShape c.in-File.is c.in_ok-meta.ensures.good_meta)
    (λ bytes file. c.adopt_file.ensures.file held bytes (subst (HoldsGoodMap X held) (sym c.in_ok-meta.ensures.told) good) file)

pub adopt_within-returns-in_err-pairs-in-Folder-clause-builds :
    goal.adopt_within-returns-in_err-pairs-in-Folder-clause-builds
adopt_within-returns-in_err-pairs-in-Folder-clause-builds g t c = λ held tree good is.
    let X = g.S.X.BlockHash.block32 in let N = g.N.NameHash.name64 in let p = c.args.p.now in
    let f = folder-case X N p held c.args.limits.now (g.S.Store.seen c.args.store.now).told c.args.room c.args.cid.now tree c.in_ok-meta.field-0 c.in-Folder.meta c.in-Folder.ways c.as_slice-ways.result.now (let some = c.if-room-eq0.false in omega arith) good is c.in_ok-meta.ensures.says c.in-Folder.is c.as_slice-ways.ensures in
    let out = err_from_is_err_and c.from_residual-in_err-pairs-in-Folder.result c.from_residual-in_err-pairs-in-Folder.ensures.1 in
    rw (out.1, out.2)
    (subst (λ (x : Tree). BuildsTree X N p held c.args.limits.now (g.S.Store.seen c.adopt_each.new.store).told c.args.cid.now x (Err c.in_err-pairs-in-Folder.field-0.0)) f.is
    (folder-err X N p held c.args.limits.now (c.args.room - 1) c.args.cid.now c.in-Folder.meta c.as_slice-ways.result.now f.es f.its (g.S.Store.seen c.adopt_each.new.store).told c.in_err-pairs-in-Folder.field-0.0 f.shaped
    (c.in_err-pairs-in-Folder.ensures.builds held f.es (subst (HoldsGoodMap X held) (sym c.in_ok-meta.ensures.told) good) f.denoted)))

pub adopt_within-returns-in_err-build-in-Folder-clause-builds :
    goal.adopt_within-returns-in_err-build-in-Folder-clause-builds
adopt_within-returns-in_err-build-in-Folder-clause-builds g t c = λ held tree good is.
    let X = g.S.X.BlockHash.block32 in let N = g.N.NameHash.name64 in let p = c.args.p.now in
    let f = folder-case X N p held c.args.limits.now (g.S.Store.seen c.args.store.now).told c.args.room c.args.cid.now tree c.in_ok-meta.field-0 c.in-Folder.meta c.in-Folder.ways c.as_slice-ways.result.now (let some = c.if-room-eq0.false in omega arith) good is c.in_ok-meta.ensures.says c.in-Folder.is c.as_slice-ways.ensures in
    let out = err_from_is_err_and c.from_residual-in_err-build-in-Folder.result c.from_residual-in_err-build-in-Folder.ensures.1 in
    rw (out.1, out.2)
    (subst (λ (x : Tree). BuildsTree X N p held c.args.limits.now (g.S.Store.seen c.build.new.store).told c.args.cid.now x (Err (of_directory c.in_err-build-in-Folder.field-0.0))) f.is
    (folder-refused X N p held c.args.limits.now (c.args.room - 1) c.args.cid.now c.in-Folder.meta c.as_slice-ways.result.now f.es f.its (g.S.Store.seen c.adopt_each.new.store).told (g.S.Store.seen c.build.new.store).told c.in_ok-pairs-in-Folder.pairs c.in_err-build-in-Folder.field-0.0
    (c.in_ok-pairs-in-Folder.ensures.builds held f.es (subst (HoldsGoodMap X held) (sym c.in_ok-meta.ensures.told) good) f.denoted) c.in_err-build-in-Folder.ensures.answer))

pub adopt_within-returns-in_err-build-in-Folder-clause-adopts :
    goal.adopt_within-returns-in_err-build-in-Folder-clause-adopts
adopt_within-returns-in_err-build-in-Folder-clause-adopts g t c =
    let X = g.S.X.BlockHash.block32 in
    let reads : OnlyReads X NoneIsBad None (g.S.Store.seen c.args.store.now) (g.S.Store.seen c.shallow.new.store) = record { cause = c.in_ok-meta.ensures.cause; told = c.in_ok-meta.ensures.told } in
    let builds : OnlySaves X NoneIsBad (dir_fault {A = Entry} (Err c.in_err-build-in-Folder.field-0.0)) (g.S.Store.seen c.adopt_each.new.store) (g.S.Store.seen c.build.new.store) = record { cause = c.in_err-build-in-Folder.ensures.cause; good = c.in_err-build-in-Folder.ensures.good; saves = c.in_err-build-in-Folder.ensures.saves } in
    let out = err_from_is_err_and c.from_residual-in_err-build-in-Folder.result c.from_residual-in_err-build-in-Folder.ensures.1 in
    rw (out.1, out.2) (dir-adopts X c.in_err-build-in-Folder.field-0.0 (g.S.Store.seen c.args.store.now) (g.S.Store.seen c.build.new.store) (saves-saves (reads-saves reads) (saves-saves c.in_ok-pairs-in-Folder.ensures.adopts.saves builds)))

pub adopt_within-returns-in_ok-build-in-Folder-clause-builds :
    goal.adopt_within-returns-in_ok-build-in-Folder-clause-builds
adopt_within-returns-in_ok-build-in-Folder-clause-builds g t c = λ held tree good is.
    let X = g.S.X.BlockHash.block32 in let N = g.N.NameHash.name64 in let p = c.args.p.now in
    let f = folder-case X N p held c.args.limits.now (g.S.Store.seen c.args.store.now).told c.args.room c.args.cid.now tree c.in_ok-meta.field-0 c.in-Folder.meta c.in-Folder.ways c.as_slice-ways.result.now (let some = c.if-room-eq0.false in omega arith) good is c.in_ok-meta.ensures.says c.in-Folder.is c.as_slice-ways.ensures in
    let order : IsTrue (is_sorted names_cmp c.in-Folder.ways) = subst IsInOrder c.in-Folder.is c.in_ok-meta.ensures.order in
    let sorted : IsDirectory c.in_ok-pairs-in-Folder.pairs = c.in_ok-pairs-in-Folder.ensures.directory (subst (λ (l : List (List ℕ × Cid)). IsTrue (is_sorted names_cmp l)) (sym c.as_slice-ways.ensures) order) in
    subst (λ (x : Tree). BuildsTree X N p held c.args.limits.now (g.S.Store.seen c.build.new.store).told c.args.cid.now x (Ok c.in_ok-build-in-Folder.field-0)) f.is
    (folder-built X N p held c.args.limits.now (c.args.room - 1) c.args.cid.now c.in-Folder.meta c.as_slice-ways.result.now f.es f.its (g.S.Store.seen c.adopt_each.new.store).told (g.S.Store.seen c.build.new.store).told c.in_ok-pairs-in-Folder.pairs c.in_ok-build-in-Folder.field-0 c.in_ok-build-in-Folder.ensures.good (subst IsGoodShape c.in-Folder.is c.in_ok-meta.ensures.good_meta) sorted.sorted
    (c.in_ok-pairs-in-Folder.ensures.builds held f.es (subst (HoldsGoodMap X held) (sym c.in_ok-meta.ensures.told) good) f.denoted) c.in_ok-build-in-Folder.ensures.answer c.in_ok-build-in-Folder.ensures.held)

pub adopt_within-returns-in_ok-build-in-Folder-clause-adopts :
    goal.adopt_within-returns-in_ok-build-in-Folder-clause-adopts
adopt_within-returns-in_ok-build-in-Folder-clause-adopts g t c =
    let X = g.S.X.BlockHash.block32 in
    let reads : OnlyReads X NoneIsBad None (g.S.Store.seen c.args.store.now) (g.S.Store.seen c.shallow.new.store) = record { cause = c.in_ok-meta.ensures.cause; told = c.in_ok-meta.ensures.told } in
    let builds : OnlySaves X NoneIsBad None (g.S.Store.seen c.adopt_each.new.store) (g.S.Store.seen c.build.new.store) = record { cause = c.in_ok-build-in-Folder.ensures.cause; good = c.in_ok-build-in-Folder.ensures.good; saves = c.in_ok-build-in-Folder.ensures.saves } in
    record { saves = saves-saves (reads-saves reads) (saves-saves c.in_ok-pairs-in-Folder.ensures.adopts.saves builds); apart = tt }

pub adopt_within-adopt_file-requires-clause-meta : goal.adopt_within-adopt_file-requires-clause-meta
adopt_within-adopt_file-requires-clause-meta g t c = subst IsGoodShape c.in-File.is c.in_ok-meta.ensures.good_meta

pub adopt_within-build-requires-clause-meta : goal.adopt_within-build-requires-clause-meta
adopt_within-build-requires-clause-meta g t c = subst IsGoodShape c.in-Folder.is c.in_ok-meta.ensures.good_meta

pub adopt_each-returns-in_err-entry-clause-no_other :
    goal.adopt_each-returns-in_err-entry-clause-no_other
adopt_each-returns-in_err-entry-clause-no_other g t c = λ held es good denoted.
    let X = g.S.X.BlockHash.block32 in let N = g.N.NameHash.name64 in let p = c.args.p.now in
    let told = (g.S.Store.seen c.loop-way.store).told in let now = (g.S.Store.seen c.adopt_within.new.store).told in
    let w = c.way-item.result in
    let n = next-at X N p held c.args.limits.now c.args.room c.args.ways.now es told c.loop-way.way-index w c.loop-way.pairs c.loop-way-test.true c.way-item.is (c.loop-way.invariant.went held es good denoted) in
    let kept = map-kept X held (g.S.Store.seen c.args.store.now).told told c.loop-way.invariant.saves.good good in
    let cid = ap (λ (x : List ℕ × Cid). x.1) c.way.view_is in
    SavesAmong-trans X (each_blocks X N p es) (g.S.Store.seen c.args.store.now).told told now (c.loop-way.invariant.no_other held es good denoted)
    (next-saves X N p held c.args.limits.now c.args.room c.args.ways.now es told w (drop (c.loop-way.way-index + 1) c.args.ways.now) c.loop-way.pairs n told now
    (c.adopt_within.ensures.no_other held n.tree kept (subst (λ (x : Cid). denotes_within held c.args.limits.now c.args.room x ≡ Ok n.tree) (sym cid) n.denoted)))

pub adopt_each-returns-in_err-pair_of-clause-no_other :
    goal.adopt_each-returns-in_err-pair_of-clause-no_other
adopt_each-returns-in_err-pair_of-clause-no_other g t c = λ held es good denoted.
    let X = g.S.X.BlockHash.block32 in let N = g.N.NameHash.name64 in let p = c.args.p.now in
    let told = (g.S.Store.seen c.loop-way.store).told in let now = (g.S.Store.seen c.adopt_within.new.store).told in
    let w = c.way-item.result in
    let n = next-at X N p held c.args.limits.now c.args.room c.args.ways.now es told c.loop-way.way-index w c.loop-way.pairs c.loop-way-test.true c.way-item.is (c.loop-way.invariant.went held es good denoted) in
    let kept = map-kept X held (g.S.Store.seen c.args.store.now).told told c.loop-way.invariant.saves.good good in
    let cid = ap (λ (x : List ℕ × Cid). x.1) c.way.view_is in
    SavesAmong-trans X (each_blocks X N p es) (g.S.Store.seen c.args.store.now).told told now (c.loop-way.invariant.no_other held es good denoted)
    (next-saves X N p held c.args.limits.now c.args.room c.args.ways.now es told w (drop (c.loop-way.way-index + 1) c.args.ways.now) c.loop-way.pairs n told now
    (c.adopt_within.ensures.no_other held n.tree kept (subst (λ (x : Cid). denotes_within held c.args.limits.now c.args.room x ≡ Ok n.tree) (sym cid) n.denoted)))

pub adopt_each-returns-in_err-push-clause-no_other :
    goal.adopt_each-returns-in_err-push-clause-no_other
adopt_each-returns-in_err-push-clause-no_other g t c = λ held es good denoted.
    let X = g.S.X.BlockHash.block32 in let N = g.N.NameHash.name64 in let p = c.args.p.now in
    let told = (g.S.Store.seen c.loop-way.store).told in let now = (g.S.Store.seen c.adopt_within.new.store).told in
    let w = c.way-item.result in
    let n = next-at X N p held c.args.limits.now c.args.room c.args.ways.now es told c.loop-way.way-index w c.loop-way.pairs c.loop-way-test.true c.way-item.is (c.loop-way.invariant.went held es good denoted) in
    let kept = map-kept X held (g.S.Store.seen c.args.store.now).told told c.loop-way.invariant.saves.good good in
    let cid = ap (λ (x : List ℕ × Cid). x.1) c.way.view_is in
    SavesAmong-trans X (each_blocks X N p es) (g.S.Store.seen c.args.store.now).told told now (c.loop-way.invariant.no_other held es good denoted)
    (next-saves X N p held c.args.limits.now c.args.room c.args.ways.now es told w (drop (c.loop-way.way-index + 1) c.args.ways.now) c.loop-way.pairs n told now
    (c.adopt_within.ensures.no_other held n.tree kept (subst (λ (x : Cid). denotes_within held c.args.limits.now c.args.room x ≡ Ok n.tree) (sym cid) n.denoted)))

pub adopt_within-returns-then-room-eq0-clause-no_other :
    goal.adopt_within-returns-then-room-eq0-clause-no_other
adopt_within-returns-then-room-eq0-clause-no_other g t c = λ held tree good is. SavesAmong-refl g.S.X.BlockHash.block32 (blocks_of g.S.X.BlockHash.block32 g.N.NameHash.name64 c.args.p.now tree) (g.S.Store.seen c.args.store.now).told

pub adopt_within-returns-in_err-meta-clause-no_other :
    goal.adopt_within-returns-in_err-meta-clause-no_other
adopt_within-returns-in_err-meta-clause-no_other g t c = λ held tree good is.
    SavesAmong-same g.S.X.BlockHash.block32 (blocks_of g.S.X.BlockHash.block32 g.N.NameHash.name64 c.args.p.now tree) (g.S.Store.seen c.args.store.now).told (g.S.Store.seen c.shallow.new.store).told c.shallow.ensures.told

pub adopt_within-returns-in-File-clause-no_other : goal.adopt_within-returns-in-File-clause-no_other
adopt_within-returns-in-File-clause-no_other g t c = λ held tree good is.
    let X = g.S.X.BlockHash.block32 in
    let now = (g.S.Store.seen c.adopt_file.new.store).told in
    file-saves X g.N.NameHash.name64 c.args.p.now held c.args.limits.now (g.S.Store.seen c.args.store.now).told c.args.room c.args.cid.now tree c.in_ok-meta.field-0 c.in-File.meta (g.S.Store.seen c.args.store.now).told now (let some = c.if-room-eq0.false in omega arith) good is c.in_ok-meta.ensures.says c.in-File.is
    (λ bytes file. subst (λ (u : Told). SavesAmong X (file_plan X c.args.p.now c.in-File.meta bytes).blocks u now) c.in_ok-meta.ensures.told
    (c.adopt_file.ensures.no_other held bytes (subst (HoldsGoodMap X held) (sym c.in_ok-meta.ensures.told) good) file))

pub adopt_within-returns-in_err-pairs-in-Folder-clause-no_other :
    goal.adopt_within-returns-in_err-pairs-in-Folder-clause-no_other
adopt_within-returns-in_err-pairs-in-Folder-clause-no_other g t c = λ held tree good is.
    let X = g.S.X.BlockHash.block32 in let N = g.N.NameHash.name64 in let p = c.args.p.now in
    let f = folder-case X N p held c.args.limits.now (g.S.Store.seen c.args.store.now).told c.args.room c.args.cid.now tree c.in_ok-meta.field-0 c.in-Folder.meta c.in-Folder.ways c.as_slice-ways.result.now (let some = c.if-room-eq0.false in omega arith) good is c.in_ok-meta.ensures.says c.in-Folder.is c.as_slice-ways.ensures in
    let now = (g.S.Store.seen c.adopt_each.new.store).told in
    subst (λ (x : Tree). SavesAmong X (blocks_of X N p x) (g.S.Store.seen c.args.store.now).told now) f.is
    (members-saves X N p f.es (g.S.Store.seen c.args.store.now).told now
    (subst (λ (u : Told). SavesAmong X (each_blocks X N p f.es) u now) c.in_ok-meta.ensures.told
    (c.adopt_each.ensures.no_other held f.es (subst (HoldsGoodMap X held) (sym c.in_ok-meta.ensures.told) good) f.denoted)))

pub adopt_within-returns-in_err-build-in-Folder-clause-no_other :
    goal.adopt_within-returns-in_err-build-in-Folder-clause-no_other
adopt_within-returns-in_err-build-in-Folder-clause-no_other g t c = λ held tree good is.
    let X = g.S.X.BlockHash.block32 in let N = g.N.NameHash.name64 in let p = c.args.p.now in
    let f = folder-case X N p held c.args.limits.now (g.S.Store.seen c.args.store.now).told c.args.room c.args.cid.now tree c.in_ok-meta.field-0 c.in-Folder.meta c.in-Folder.ways c.as_slice-ways.result.now (let some = c.if-room-eq0.false in omega arith) good is c.in_ok-meta.ensures.says c.in-Folder.is c.as_slice-ways.ensures in
    let before = (g.S.Store.seen c.args.store.now).told in
    let mid = (g.S.Store.seen c.adopt_each.new.store).told in
    let now = (g.S.Store.seen c.build.new.store).told in
    let there = subst (HoldsGoodMap X held) (sym c.in_ok-meta.ensures.told) good in
    subst (λ (x : Tree). SavesAmong X (blocks_of X N p x) before now) f.is
    (SavesAmong-trans X (blocks_of X N p (Dir f.es)) before mid now
    (members-saves X N p f.es before mid (subst (λ (u : Told). SavesAmong X (each_blocks X N p f.es) u mid) c.in_ok-meta.ensures.told (c.adopt_each.ensures.no_other held f.es there f.denoted)))
    (own-saves X N p f.es mid now c.in-Folder.meta c.in_ok-pairs-in-Folder.pairs f.its (c.in_ok-pairs-in-Folder.ensures.builds held f.es there f.denoted).are c.build.ensures.no_other))

pub adopt_within-returns-in_ok-build-in-Folder-clause-no_other :
    goal.adopt_within-returns-in_ok-build-in-Folder-clause-no_other
adopt_within-returns-in_ok-build-in-Folder-clause-no_other g t c = λ held tree good is.
    let X = g.S.X.BlockHash.block32 in let N = g.N.NameHash.name64 in let p = c.args.p.now in
    let f = folder-case X N p held c.args.limits.now (g.S.Store.seen c.args.store.now).told c.args.room c.args.cid.now tree c.in_ok-meta.field-0 c.in-Folder.meta c.in-Folder.ways c.as_slice-ways.result.now (let some = c.if-room-eq0.false in omega arith) good is c.in_ok-meta.ensures.says c.in-Folder.is c.as_slice-ways.ensures in
    let before = (g.S.Store.seen c.args.store.now).told in
    let mid = (g.S.Store.seen c.adopt_each.new.store).told in
    let now = (g.S.Store.seen c.build.new.store).told in
    let there = subst (HoldsGoodMap X held) (sym c.in_ok-meta.ensures.told) good in
    subst (λ (x : Tree). SavesAmong X (blocks_of X N p x) before now) f.is
    (SavesAmong-trans X (blocks_of X N p (Dir f.es)) before mid now
    (members-saves X N p f.es before mid (subst (λ (u : Told). SavesAmong X (each_blocks X N p f.es) u mid) c.in_ok-meta.ensures.told (c.adopt_each.ensures.no_other held f.es there f.denoted)))
    (own-saves X N p f.es mid now c.in-Folder.meta c.in_ok-pairs-in-Folder.pairs f.its (c.in_ok-pairs-in-Folder.ensures.builds held f.es there f.denoted).are c.build.ensures.no_other))
