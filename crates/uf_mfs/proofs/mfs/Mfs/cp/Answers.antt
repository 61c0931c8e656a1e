use Rattle.std.specs.Prelude.{option_copied}
use Rattle.std.proofs.Common.{Err, List, None, refl, subst, sym, ℕ, ◌≡◌, ◌≤◌, ◌+◌, ◌++◌, ◌∙◌}
use Rattle.std.proofs.lemmas.Result.{err_from_is_err_and}
use Rattle.uf_store.specs.Lost.{IsLossOf}
use Rattle.uf_store.specs.Calls.{OnlyReads}
use Rattle.uf_store.specs.Keeping.{KeepsGood}
use Rattle.uf_store.proofs.Calls.{reads-reads, reads-saves, stood-back, stood-front}
use Rattle.uf_store.proofs.Keeping.{KeepsGood-same}
use Rattle.uf_tree.specs.Tree.{Dir, Entries, Tree}
use Rattle.uf_tree.specs.TreePlan.{blocks}
use Rattle.uf_plain.specs.Edits.{at}
use Rattle.uf_plain.specs.Moves.{allowed_move, copied, name_of, put_at_spot, spot_names, spotted}
use Rattle.uf_plain.specs.Rules.{allowed}
use Rattle.uf_plain.specs.Needs.{way}
use Rattle.uf_plain.specs.declared.spot.Spot.{Spot}
use Rattle.uf_mfs.specs.declared.thing.Thing.{Thing}
use Rattle.uf_mfs.specs.Answers.{MovesAfter}
use Rattle.uf_mfs.specs.Bad.{IsBadInTree}
use Rattle.uf_mfs.specs.Moving.{GivesOver, copy_bound}
use Rattle.uf_mfs.specs.Standing.{IsAgreed, IsAgreedThing, IsPlanOf, StandsAfter}
use Rattle.uf_mfs.specs.Steps.{IsFolderOver}
use Rattle.uf_mfs.proofs.Carrying.{copied-moves, copied-stop, copy-found, copy-touches, meets-value, moves-by-held, over-beside, spot-length, spot-stop, tree-rises}
use Rattle.uf_mfs.proofs.Filling.{agreed-over}
use Rattle.std.proofs.Common.{Some}
use Rattle.uf_store.proofs.Calls.{shown-by}
use Rattle.uf_mfs.specs.Steps.{stop_fault}
use Rattle.uf_mfs.proofs.Judging.{in-tree-after, in-tree-by, in-tree-told, tree-more}
use Rattle.uf_store.specs.Among.{SavesAmong}
use Rattle.uf_store.proofs.Among.{SavesAmong-same, SavesAmong-trans}
use Rattle.uf_mfs.specs.Saving.{next_blocks}
use Rattle.uf_mfs.proofs.Saving.{calm-of, saved-more}
use Rattle.uf_mfs.proofs.SavingMoves.{copied-among, throughout-beside}
use Rattle.uf_mfs.proofs.mfs.Mfs.cp.Goals as goal

pub returns-in-Err-clause-saves : goal.returns-in-Err-clause-saves
returns-in-Err-clause-saves g c = (reads-saves c.in-Err.ensures.reads).saves

pub returns-in-Err-clause-lost : goal.returns-in-Err-clause-lost
returns-in-Err-clause-lost g c = λ p es same o.
    let X = g.S.X.BlockHash.block32 in let N = g.N.NameHash.name64 in let dest = c.args.dest.now in let self = c.args.self.now in let source = c.as_slice-names.result.now in
    let a = g.S.Store.seen c.args.store.now in let b = g.S.Store.seen c.look.new.store in
    subst (λ (ns : List (List ℕ)). GivesOver X N a.told p es (λ (fs : Entries) (done : Unit {0}). StandsAfter X N a.told b.told (blocks X N p (Dir es)) self p fs) (allowed_move X N p (copied ns dest es)) (Err c.fault_of.result)) c.as_slice-names.ensures
    (copied-stop X N p a.told source dest es (λ (t : Tree) (x : Thing). IsAgreedThing X N a.told p t x) (λ (fs : Entries) (done : Unit {0}). StandsAfter X N a.told b.told (blocks X N p (Dir es)) self p fs) c.in-Err.stop c.fault_of.result c.fault_of.ensures
    (c.in-Err.ensures.looks p (Dir es) (agreed-over X N p self.root es o, tt) o.calm.faults))

pub returns-in-Err-clause-answer : goal.returns-in-Err-clause-answer
returns-in-Err-clause-answer g c = λ p es s faults clashes.
    let X = g.S.X.BlockHash.block32 in let N = g.N.NameHash.name64 in let dest = c.args.dest.now in let self = c.args.self.now in let source = c.as_slice-names.result.now in
    let a = g.S.Store.seen c.args.store.now in let b = g.S.Store.seen c.look.new.store in
    moves-by-held X N a b self self (λ p es. allowed_move X N p (copied c.args.source.now.names dest es)) (Err c.fault_of.result) (reads-saves c.in-Err.ensures.reads).good (returns-in-Err-clause-lost g c) p es s faults clashes

pub returns-in_err-spot-in-Ok-clause-lost : goal.returns-in_err-spot-in-Ok-clause-lost
returns-in_err-spot-in-Ok-clause-lost g c = λ p es same o.
    let X = g.S.X.BlockHash.block32 in let N = g.N.NameHash.name64 in let dest = c.args.dest.now in let self = c.args.self.now in let source = c.as_slice-names.result.now in
    let a = g.S.Store.seen c.args.store.now in let b = g.S.Store.seen c.look.new.store in let d = g.S.Store.seen c.spot.new.store in let looked = c.in-Ok.ensures.reads in
    let f = c.in_err-spot-in-Ok.field-0.0 in let out = err_from_is_err_and c.from_residual.result c.from_residual.ensures.1 in
    let rises = tree-rises X _ {A = Spot} (Err f) b d c.in_err-spot-in-Ok.ensures.cause in
    let front = stood-front a.faults b.faults d.faults looked.cause.faults rises.faults o.calm.faults in
    let back = stood-back a.faults b.faults d.faults looked.cause.faults o.calm.faults in
    let s = agreed-over X N p self.root es o in
    let met = meets-value (IsLossOf a.told (way X N p source (Dir es))) (λ (t : Tree) (x : Thing). IsAgreedThing X N a.told p t x) (at 0 source (Dir es)) c.in-Ok.thing (c.in-Ok.ensures.looks p (Dir es) (s, tt) front) in
    rw (out.1, out.2) (subst (λ (ns : List (List ℕ)). GivesOver X N a.told p es (λ (fs : Entries) (done : Unit {0}). StandsAfter X N a.told d.told (blocks X N p (Dir es)) self p fs) (allowed_move X N p (copied ns dest es)) (Err f)) c.as_slice-names.ensures
    (spot-stop X N p a.told source dest es met.0 (λ (spot given : Spot). given ≡ spot) (λ (fs : Entries) (done : Unit {0}). StandsAfter X N a.told d.told (blocks X N p (Dir es)) self p fs) f met.1
    (subst (λ n. GivesOver X N a.told p es (λ (spot given : Spot). given ≡ spot) (spotted dest n es) (Err f)) c.last.ensures.value
    (subst (λ told. GivesOver X N told p es (λ (spot given : Spot). given ≡ spot) (spotted dest (option_copied c.last.result) es) (Err f)) looked.told
    (c.in_err-spot-in-Ok.ensures.lost p es (record { profile_is = same; root = subst (λ told. IsAgreed X N told p self.root (Dir es)) (sym looked.told) s }) back)))))

pub returns-in_err-spot-in-Ok-clause-answer : goal.returns-in_err-spot-in-Ok-clause-answer
returns-in_err-spot-in-Ok-clause-answer g c = λ p es s faults clashes.
    let X = g.S.X.BlockHash.block32 in let N = g.N.NameHash.name64 in let dest = c.args.dest.now in let self = c.args.self.now in let source = c.as_slice-names.result.now in
    let a = g.S.Store.seen c.args.store.now in let b = g.S.Store.seen c.look.new.store in let d = g.S.Store.seen c.spot.new.store in let looked = c.in-Ok.ensures.reads in
    let keeps = subst (KeepsGood X a.told) (sym (c.in_err-spot-in-Ok.ensures.told ∙ looked.told)) (KeepsGood-same X a.told a.told refl) in
    moves-by-held X N a d self self (λ p es. allowed_move X N p (copied c.args.source.now.names dest es)) c.from_residual.result keeps (returns-in_err-spot-in-Ok-clause-lost g c) p es s faults clashes

pub returns-in_ok-spot-in-Ok-clause-lost : goal.returns-in_ok-spot-in-Ok-clause-lost
returns-in_ok-spot-in-Ok-clause-lost g c = λ p es same o.
    let X = g.S.X.BlockHash.block32 in let N = g.N.NameHash.name64 in let dest = c.args.dest.now in let self = c.args.self.now in let source = c.as_slice-names.result.now in
    let a = g.S.Store.seen c.args.store.now in let b = g.S.Store.seen c.look.new.store in let d = g.S.Store.seen c.spot.new.store in let looked = c.in-Ok.ensures.reads in
    let e = g.S.Store.seen c.place.new.store in let spot = c.in_ok-spot-in-Ok.spot in
    let targeted : OnlyReads X (IsBadInTree X N None self.root.cid) None b d = record { cause = c.in_ok-spot-in-Ok.ensures.cause; told = c.in_ok-spot-in-Ok.ensures.told } in let reads = reads-reads looked targeted in
    let rises = tree-rises X _ c.place.result d e c.place.ensures.cause in
    let m = copy-found X N p source dest es self c.in-Ok.thing spot (option_copied c.last.result) looked targeted c.last.ensures.value same (agreed-over X N p self.root es o)
    (stood-front a.faults d.faults e.faults reads.cause.faults rises.faults o.calm.faults) (λ s stood. c.in-Ok.ensures.looks p (Dir es) (s, tt) stood) (λ s stood. c.in_ok-spot-in-Ok.ensures.lost p es s stood) in
    subst (λ (ns : List (List ℕ)). GivesOver X N a.told p es (λ (fs : Entries) (done : Unit {0}). StandsAfter X N a.told e.told (blocks X N p (Dir es)) c.place.new.self p fs) (allowed_move X N p (copied ns dest es)) c.place.result) c.as_slice-names.ensures
    (copied-moves X N p reads e source dest es m.t spot self c.place.new.self c.place.result m.there m.at_spot o
    (λ over. subst (λ q. IsFolderOver X N p d e (blocks X N q m.t) self.root es → MovesAfter X N d.told e.told (blocks X N q m.t ++ blocks X N p (Dir es)) p (spot_names spot) c.place.new.self (allowed X N p (put_at_spot spot m.t es)) c.place.result) same
    (c.place.ensures.lost m.t (subst (λ q. IsPlanOf X N q c.entry_of.result m.t) (sym same) (subst (λ x. IsPlanOf X N p x m.t) (sym c.entry_of.ensures) m.plan)) p es same) over))

pub returns-in_ok-spot-in-Ok-clause-answer : goal.returns-in_ok-spot-in-Ok-clause-answer
returns-in_ok-spot-in-Ok-clause-answer g c = λ p es s faults clashes.
    let X = g.S.X.BlockHash.block32 in let N = g.N.NameHash.name64 in let dest = c.args.dest.now in let self = c.args.self.now in let source = c.as_slice-names.result.now in
    let a = g.S.Store.seen c.args.store.now in let b = g.S.Store.seen c.look.new.store in let d = g.S.Store.seen c.spot.new.store in let looked = c.in-Ok.ensures.reads in
    let e = g.S.Store.seen c.place.new.store in
    let keeps = subst (λ told. KeepsGood X told e.told) (c.in_ok-spot-in-Ok.ensures.told ∙ looked.told) c.place.ensures.good in
    moves-by-held X N a e self c.place.new.self (λ p es. allowed_move X N p (copied c.args.source.now.names dest es)) c.place.result keeps (returns-in_ok-spot-in-Ok-clause-lost g c) p es s faults clashes

pub returns-in_ok-spot-in-Ok-clause-touches : goal.returns-in_ok-spot-in-Ok-clause-touches
returns-in_ok-spot-in-Ok-clause-touches g c = λ es o.
    let X = g.S.X.BlockHash.block32 in let N = g.N.NameHash.name64 in let dest = c.args.dest.now in let self = c.args.self.now in let source = c.as_slice-names.result.now in
    let a = g.S.Store.seen c.args.store.now in let b = g.S.Store.seen c.look.new.store in let d = g.S.Store.seen c.spot.new.store in let looked = c.in-Ok.ensures.reads in
    let e = g.S.Store.seen c.place.new.store in let spot = c.in_ok-spot-in-Ok.spot in
    let targeted : OnlyReads X (IsBadInTree X N None self.root.cid) None b d = record { cause = c.in_ok-spot-in-Ok.ensures.cause; told = c.in_ok-spot-in-Ok.ensures.told } in let reads = reads-reads looked targeted in
    let p = self.profile in let same : self.profile ≡ p = refl in
    let rises = tree-rises X _ c.place.result d e c.place.ensures.cause in
    let m = copy-found X N p source dest es self c.in-Ok.thing spot (option_copied c.last.result) looked targeted c.last.ensures.value same (agreed-over X N p self.root es o)
    (stood-front a.faults d.faults e.faults reads.cause.faults rises.faults o.calm.faults) (λ s stood. c.in-Ok.ensures.looks p (Dir es) (s, tt) stood) (λ s stood. c.in_ok-spot-in-Ok.ensures.lost p es s stood) in
    subst (λ (ns : List (List ℕ)). c.place.new.touches ≤ c.args.touches.now + copy_bound X N p ns dest es) c.as_slice-names.ensures
    (copy-touches X N p source dest es m.t spot c.args.touches.now c.look.new.touches c.spot.new.touches c.place.new.touches m.there m.at_spot c.in-Ok.ensures.touches c.in_ok-spot-in-Ok.ensures.touches
    (spot-length dest (name_of source) es spot m.at_spot)
    (c.place.ensures.touches m.t (subst (λ x. IsPlanOf X N p x m.t) (sym c.entry_of.ensures) m.plan) es (over-beside X N p reads e source self.root es m.t m.there o)))

pub returns-in-Err-clause-cause : goal.returns-in-Err-clause-cause
returns-in-Err-clause-cause g c =
    let X = g.S.X.BlockHash.block32 in let N = g.N.NameHash.name64 in let p = c.args.self.now.profile in let root = c.args.self.now.root.cid in
    let a = g.S.Store.seen c.args.store.now in let b = g.S.Store.seen c.look.new.store in
    in-tree-told Thing (Unit {0}) X (IsBadInTree X N (Some p) root) c.as_slice-names.result.now c.in-Err.stop c.fault_of.result a b c.fault_of.ensures
    (shown-by X (IsBadInTree X N None root) (IsBadInTree X N (Some p) root) (stop_fault {A = Thing} (Err c.in-Err.stop)) a b (tree-more X N p root) c.in-Err.ensures.reads.cause)

pub returns-in_err-spot-in-Ok-clause-cause : goal.returns-in_err-spot-in-Ok-clause-cause
returns-in_err-spot-in-Ok-clause-cause g c =
    let X = g.S.X.BlockHash.block32 in let N = g.N.NameHash.name64 in let p = c.args.self.now.profile in let root = c.args.self.now.root.cid in
    let a = g.S.Store.seen c.args.store.now in let b = g.S.Store.seen c.look.new.store in let d = g.S.Store.seen c.spot.new.store in
    let f = c.in_err-spot-in-Ok.field-0.0 in let out = err_from_is_err_and c.from_residual.result c.from_residual.ensures.1 in
    rw (out.1, out.2) (in-tree-after {A = Unit {0}} X (IsBadInTree X N (Some p) root) (Err f) a b d c.in-Ok.ensures.reads.cause
    (in-tree-by {A = Unit {0}} X (IsBadInTree X N None root) (IsBadInTree X N (Some p) root) (Err f) b d (tree-more X N p root) c.in_err-spot-in-Ok.ensures.cause))

pub returns-in-Err-clause-no_other : goal.returns-in-Err-clause-no_other
returns-in-Err-clause-no_other g c =
    λ p es s h. SavesAmong-same g.S.X.BlockHash.block32 _ _ _ c.in-Err.ensures.reads.told

pub returns-in_err-spot-in-Ok-clause-no_other : goal.returns-in_err-spot-in-Ok-clause-no_other
returns-in_err-spot-in-Ok-clause-no_other g c =
    λ p es s h. SavesAmong-same g.S.X.BlockHash.block32 _ _ _ (c.in_err-spot-in-Ok.ensures.told ∙ c.in-Ok.ensures.reads.told)

pub returns-in_ok-spot-in-Ok-clause-no_other : goal.returns-in_ok-spot-in-Ok-clause-no_other
returns-in_ok-spot-in-Ok-clause-no_other g c =
    λ p es s h.
    let X = g.S.X.BlockHash.block32 in let N = g.N.NameHash.name64 in let dest = c.args.dest.now in let self = c.args.self.now in let source = c.as_slice-names.result.now in
    let a = g.S.Store.seen c.args.store.now in let b = g.S.Store.seen c.look.new.store in let d = g.S.Store.seen c.spot.new.store in let looked = c.in-Ok.ensures.reads in
    let e = g.S.Store.seen c.place.new.store in let spot = c.in_ok-spot-in-Ok.spot in
    let targeted : OnlyReads X (IsBadInTree X N None self.root.cid) None b d = record { cause = c.in_ok-spot-in-Ok.ensures.cause; told = c.in_ok-spot-in-Ok.ensures.told } in let reads = reads-reads looked targeted in
    let m = copy-found X N p source dest es self c.in-Ok.thing spot (option_copied c.last.result) looked targeted c.last.ensures.value s.profile_is s.root (calm-of a d h.can reads.cause).faults
    (λ s stood. c.in-Ok.ensures.looks p (Dir es) (s, tt) stood) (λ s stood. c.in_ok-spot-in-Ok.ensures.lost p es s stood) in
    subst (λ (ns : List (List ℕ)). SavesAmong X (next_blocks X N p (copied ns dest es)) a.told e.told) c.as_slice-names.ensures
    (saved-more X _ _ a.told e.told (copied-among X N p source dest es m.t spot m.there m.at_spot)
    (SavesAmong-trans X _ a.told d.told e.told (SavesAmong-same X _ a.told d.told reads.told)
    (c.place.ensures.no_other p m.t es (subst (λ x. IsPlanOf X N p x m.t) (sym c.entry_of.ensures) m.plan)
    (record { profile_is = s.profile_is; root = subst (λ told. IsAgreed X N told p self.root (Dir es)) (sym reads.told) s.root })
    (throughout-beside X N p a d e es source m.t m.there reads.told reads.cause h))))
