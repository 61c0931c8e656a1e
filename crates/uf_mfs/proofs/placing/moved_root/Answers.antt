use Rattle.std.proofs.Common.{[], Err, List, Ok, Some, length, subst, sym, ℕ, ◌≡◌, ◌≤◌, ◌+◌, ◌∙◌}
use Rattle.std.proofs.lemmas.Result.{err_from_is_err_and}
use Rattle.uf_store.specs.Lost.{IsLossOf}
use Rattle.uf_store.proofs.Calls.{reads-by, reads-reads, reads-saves, saves-saves, shown-rises, stood-back, stood-front}
use Rattle.uf_tree.specs.Tree.{Dir, Entries, Tree}
use Rattle.uf_tree.specs.TreePlan.{blocks}
use Rattle.uf_tree.specs.declared.nodes.Entry.{Entry}
use Rattle.uf_plain.specs.Edits.{at}
use Rattle.uf_plain.specs.Needs.{way}
use Rattle.uf_plain.specs.Moves.{allowed_move, carried, moved_to, target}
use Rattle.uf_mfs.specs.declared.target.MoveTarget.{MoveTarget}
use Rattle.uf_mfs.specs.declared.thing.Thing.{Thing}
use Rattle.uf_mfs.specs.Moving.{GivesOver, IsFound}
use Rattle.uf_mfs.specs.Standing.{IsAfter, IsAgreed, IsAgreedThing}
use Rattle.uf_mfs.specs.Steps.{IsFolderOver}
use Rattle.uf_mfs.proofs.Carrying.{carried-on, meets-value, move-found, move-touches, onto-itself, source-stop, target-length, target-stops}
use Rattle.uf_mfs.proofs.Filling.{agreed-over}
use Rattle.uf_mfs.proofs.Folders.{over-first, read-over}
use Rattle.uf_mfs.proofs.Spots.{front-last, tells-saves, tree-rises}
use Rattle.uf_mfs.specs.Bad.{IsBadInTree}
use Rattle.uf_mfs.proofs.Judging.{tree-more}
use Rattle.std.specs.Prelude.{◌||◌}
use Rattle.uf_store.specs.Among.{SavesAmong}
use Rattle.uf_store.proofs.Among.{SavesAmong-refl, SavesAmong-same, SavesAmong-trans}
use Rattle.uf_plain.specs.Edits.{is_folder_at}
use Rattle.uf_plain.specs.Moves.{name_of}
use Rattle.uf_mfs.specs.Saving.{moved_blocks}
use Rattle.uf_mfs.proofs.Saving.{calm-of, throughout-agreed, throughout-since}
use Rattle.uf_mfs.proofs.SavingMoves.{landed}
use Rattle.uf_mfs.proofs.placing.moved_root.Goals as goal

pub returns-in-Err-clause-moves : goal.returns-in-Err-clause-moves
returns-in-Err-clause-moves g c = λ p es same o.
    let X = g.S.X.BlockHash.block32 in let N = g.N.NameHash.name64 in
    let a = g.S.Store.seen c.args.store.now in let b = g.S.Store.seen c.look.new.store in
    source-stop X N p a.told c.args.source.now c.args.dest.now es (λ (t : Tree) (x : Thing). IsAgreedThing X N a.told p t x)
    (λ (fs : Entries) (e : Entry). IsAfter X N a.told b.told (blocks X N p (Dir es)) p e (Dir fs)) c.in-Err.stop c.fault_of.result c.in-len1-up.len_at_least c.fault_of.ensures
    (c.in-Err.ensures.looks p (Dir es) (agreed-over X N p c.args.tree.now.root es o, tt) o.calm.faults)

pub returns-in_ok-target-in-Ok-clause-moves : goal.returns-in_ok-target-in-Ok-clause-moves
returns-in_ok-target-in-Ok-clause-moves g c = λ q es same over.
    let X = g.S.X.BlockHash.block32 in let N = g.N.NameHash.name64 in let source = c.args.source.now in let dest = c.args.dest.now in let root = c.args.tree.now.root in
    let a = g.S.Store.seen c.args.store.now in let d = g.S.Store.seen c.target_of.new.store in let e = g.S.Store.seen c.moved_to.new.store in
    let looked = c.in-Ok.ensures.reads in let targeted = c.in_ok-target-in-Ok.ensures.reads in let reads = reads-reads looked targeted.reads in
    let p = c.args.tree.now.profile in
    let o = subst (λ q. IsFolderOver X N q a e [] root es) (sym same) over in
    let first = over-first X N p (reads-saves reads) c.moved_to.ensures.saves.saves [] root es o in
    let m = move-found X N p source dest es root c.in-Ok.thing c.in_ok-target-in-Ok.target c.name-item.result looked targeted.reads c.in-len1-up.len_at_least c.name-item.is (agreed-over X N p root es o) first.calm.faults
    (λ s stood. c.in-Ok.ensures.looks p (Dir es) (s, tt) stood) (λ s stood. c.in_ok-target-in-Ok.ensures.found p es s stood) in
    subst (λ q. GivesOver X N a.told q es (λ (fs : Entries) (x : Entry). IsAfter X N a.told e.told (blocks X N q (Dir es)) q x (Dir fs)) (allowed_move X N q (carried source dest es)) c.moved_to.result) same
    (subst (λ w. GivesOver X N a.told p es (λ (fs : Entries) (x : Entry). IsAfter X N a.told e.told (blocks X N p (Dir es)) p x (Dir fs)) (allowed_move X N p w) c.moved_to.result)
    (sym (carried-on X N p source dest es m.t m.found c.in-len1-up.len_at_least m.there m.at_found))
    (subst (λ told. GivesOver X N told p es (λ (fs : Entries) (x : Entry). IsAfter X N told e.told (blocks X N p (Dir es)) p x (Dir fs)) (allowed_move X N p (moved_to source m.t m.found es)) c.moved_to.result) reads.told
    (c.moved_to.ensures.moves m.t m.found m.is_found es (read-over X N p [] root es reads o) m.there m.is_thing)))

pub returns-in_ok-target-in-Ok-clause-itself : goal.returns-in_ok-target-in-Ok-clause-itself
returns-in_ok-target-in-Ok-clause-itself g c = λ p es s stood itself.
    let X = g.S.X.BlockHash.block32 in let N = g.N.NameHash.name64 in let source = c.args.source.now in let dest = c.args.dest.now in let root = c.args.tree.now.root in
    let a = g.S.Store.seen c.args.store.now in let d = g.S.Store.seen c.target_of.new.store in let e = g.S.Store.seen c.moved_to.new.store in
    let looked = c.in-Ok.ensures.reads in let targeted = c.in_ok-target-in-Ok.ensures.reads in let reads = reads-reads looked targeted.reads in
    let stays = stood-front a.faults d.faults e.faults reads.cause.faults (shown-rises X _ _ d e c.moved_to.ensures.saves.saves.cause).faults stood in
    let m = move-found X N p source dest es root c.in-Ok.thing c.in_ok-target-in-Ok.target c.name-item.result looked targeted.reads c.in-len1-up.len_at_least c.name-item.is s.root stays
    (λ s stood. c.in-Ok.ensures.looks p (Dir es) (s, tt) stood) (λ s stood. c.in_ok-target-in-Ok.ensures.found p es s stood) in
    let done = c.moved_to.ensures.itself (onto-itself X N p source dest es m.found c.in_ok-target-in-Ok.target.names m.at_found m.is_found.names itself) in
    (done.0 ∙ reads.told, done.1)

pub returns-in_ok-target-in-Ok-clause-touches : goal.returns-in_ok-target-in-Ok-clause-touches
returns-in_ok-target-in-Ok-clause-touches g c = λ es o.
    let X = g.S.X.BlockHash.block32 in let N = g.N.NameHash.name64 in let source = c.args.source.now in let dest = c.args.dest.now in let root = c.args.tree.now.root in
    let a = g.S.Store.seen c.args.store.now in let d = g.S.Store.seen c.target_of.new.store in let e = g.S.Store.seen c.moved_to.new.store in
    let looked = c.in-Ok.ensures.reads in let targeted = c.in_ok-target-in-Ok.ensures.reads in let reads = reads-reads looked targeted.reads in
    let p = c.args.tree.now.profile in
    let first = over-first X N p (reads-saves reads) c.moved_to.ensures.saves.saves [] root es o in
    let m = move-found X N p source dest es root c.in-Ok.thing c.in_ok-target-in-Ok.target c.name-item.result looked targeted.reads c.in-len1-up.len_at_least c.name-item.is (agreed-over X N p root es o) first.calm.faults
    (λ s stood. c.in-Ok.ensures.looks p (Dir es) (s, tt) stood) (λ s stood. c.in_ok-target-in-Ok.ensures.found p es s stood) in
    let last = subst (λ n. target dest n es ≡ Ok m.found) (front-last source c.name-item.result c.in-len1-up.len_at_least c.name-item.is).1 m.at_found in
    move-touches X N p source dest es m.t m.found c.args.touches.now c.look.new.touches c.target_of.new.touches c.moved_to.new.touches (length c.in_ok-target-in-Ok.target.names) m.there m.at_found
    c.in-Ok.ensures.touches c.in_ok-target-in-Ok.ensures.touches (subst (λ (ns : List (List ℕ)). length ns ≤ length dest.names + 1) (sym m.is_found.names) (target-length dest c.name-item.result es m.found last))
    (c.moved_to.ensures.touches m.t m.found m.is_found es (read-over X N p [] root es reads o) m.there m.is_thing)

pub returns-in_err-target-in-Ok-clause-moves : goal.returns-in_err-target-in-Ok-clause-moves
returns-in_err-target-in-Ok-clause-moves g c = λ p es same o.
    let X = g.S.X.BlockHash.block32 in let N = g.N.NameHash.name64 in let source = c.args.source.now in let dest = c.args.dest.now in let root = c.args.tree.now.root in
    let a = g.S.Store.seen c.args.store.now in let b = g.S.Store.seen c.look.new.store in let d = g.S.Store.seen c.target_of.new.store in let looked = c.in-Ok.ensures.reads in
    let f = c.in_err-target-in-Ok.field-0.0 in let out = err_from_is_err_and c.from_residual.result c.from_residual.ensures.1 in
    let front = stood-front a.faults b.faults d.faults looked.cause.faults (tree-rises {A = MoveTarget} (Err f) c.in_err-target-in-Ok.ensures.reads) o.calm.faults in
    let back = stood-back a.faults b.faults d.faults looked.cause.faults o.calm.faults in
    let s = agreed-over X N p root es o in
    let met = meets-value (IsLossOf a.told (way X N p source (Dir es))) (λ (t : Tree) (x : Thing). IsAgreedThing X N a.told p t x) (at 0 source (Dir es)) c.in-Ok.thing (c.in-Ok.ensures.looks p (Dir es) (s, tt) front) in
    rw (out.1, out.2) (target-stops X N p a.told source dest es met.0 (IsFound X N a.told p) (λ (fs : Entries) (e : Entry). IsAfter X N a.told d.told (blocks X N p (Dir es)) p e (Dir fs)) f c.in-len1-up.len_at_least met.1
    (subst (λ n. GivesOver X N a.told p es (IsFound X N a.told p) (target dest n es) (Err f)) (sym (front-last source c.name-item.result c.in-len1-up.len_at_least c.name-item.is).1)
    (subst (λ told. GivesOver X N told p es (IsFound X N told p) (target dest (Some c.name-item.result) es) (Err f)) looked.told
    (c.in_err-target-in-Ok.ensures.found p es (subst (λ told. IsAgreed X N told p root (Dir es)) (sym looked.told) s) back))))

pub returns-in-Err-clause-saves : goal.returns-in-Err-clause-saves
returns-in-Err-clause-saves g c =
    let X = g.S.X.BlockHash.block32 in let N = g.N.NameHash.name64 in let p = c.args.tree.now.profile in
    tells-saves Thing Entry X (IsBadInTree X N (Some p) c.args.tree.now.root.cid) c.args.source.now c.in-Err.stop c.fault_of.result _ _ c.fault_of.ensures
    (reads-saves (reads-by (IsBadInTree X N (Some p) c.args.tree.now.root.cid) (tree-more X N p c.args.tree.now.root.cid) c.in-Err.ensures.reads))

pub returns-in_err-target-in-Ok-clause-saves : goal.returns-in_err-target-in-Ok-clause-saves
returns-in_err-target-in-Ok-clause-saves g c =
    let X = g.S.X.BlockHash.block32 in let N = g.N.NameHash.name64 in let p = c.args.tree.now.profile in let found = c.in_err-target-in-Ok.ensures.reads in
    let out = err_from_is_err_and c.from_residual.result c.from_residual.ensures.1 in
    rw (out.1, out.2) (record {
      saves = saves-saves (reads-saves c.in-Ok.ensures.reads) (reads-saves (reads-by (IsBadInTree X N (Some p) c.args.tree.now.root.cid) (tree-more X N p c.args.tree.now.root.cid) found.reads));
      in_tree = found.in_tree;
    })

pub returns-in_default-clause-no_other : goal.returns-in_default-clause-no_other
returns-in_default-clause-no_other g c =
    λ es plan h. SavesAmong-refl g.S.X.BlockHash.block32 _ (g.S.Store.seen c.args.store.now).told

pub returns-in-Err-clause-no_other : goal.returns-in-Err-clause-no_other
returns-in-Err-clause-no_other g c =
    λ es plan h. SavesAmong-same g.S.X.BlockHash.block32 _ _ _ c.in-Err.ensures.reads.told

pub returns-in_err-target-in-Ok-clause-no_other : goal.returns-in_err-target-in-Ok-clause-no_other
returns-in_err-target-in-Ok-clause-no_other g c =
    λ es plan h. SavesAmong-same g.S.X.BlockHash.block32 _ _ _ (c.in_err-target-in-Ok.ensures.reads.reads.told ∙ c.in-Ok.ensures.reads.told)

pub returns-in_ok-target-in-Ok-clause-no_other : goal.returns-in_ok-target-in-Ok-clause-no_other
returns-in_ok-target-in-Ok-clause-no_other g c =
    λ es plan h.
    let X = g.S.X.BlockHash.block32 in let N = g.N.NameHash.name64 in let source = c.args.source.now in let dest = c.args.dest.now in let root = c.args.tree.now.root in let p = c.args.tree.now.profile in
    let a = g.S.Store.seen c.args.store.now in let d = g.S.Store.seen c.target_of.new.store in let e = g.S.Store.seen c.moved_to.new.store in
    let looked = c.in-Ok.ensures.reads in let targeted = c.in_ok-target-in-Ok.ensures.reads in let reads = reads-reads looked targeted.reads in
    let m = move-found X N p source dest es root c.in-Ok.thing c.in_ok-target-in-Ok.target c.name-item.result looked targeted.reads c.in-len1-up.len_at_least c.name-item.is (throughout-agreed X N p a e [] root es plan h) (calm-of a d h.can reads.cause).faults
    (λ s stood. c.in-Ok.ensures.looks p (Dir es) (s, tt) stood) (λ s stood. c.in_ok-target-in-Ok.ensures.found p es s stood) in
    subst (λ w. SavesAmong X (moved_blocks X N p source es w) a.told e.told) (sym (carried-on X N p source dest es m.t m.found c.in-len1-up.len_at_least m.there m.at_found))
    (SavesAmong-trans X _ a.told d.told e.told (SavesAmong-same X _ a.told d.told reads.told)
    (c.moved_to.ensures.no_other m.t m.found m.is_found es (landed (dest.into || is_folder_at (at 0 dest.names (Dir es))) dest.names dest.names (name_of source) es m.found m.at_found) plan (throughout-since X N p a d e _ reads.told reads.cause h) m.there m.is_thing))
