use Rattle.std.proofs.Common.{[], ◌∷◌, None, Ok, subst, sym}
use Rattle.uf_tree.specs.Tree.{Dir, Entries}
use Rattle.uf_tree.specs.declared.nodes.Entry.{Entry}
use Rattle.uf_store.proofs.Calls.{stood-back, stood-front}
use Rattle.uf_mfs.specs.Moving.{GivesOver, IsFound}
use Rattle.uf_mfs.specs.Standing.{IsAgreed}
use Rattle.uf_mfs.proofs.Spots.{folder-leads, folder-stops, tree-after, tree-rises}
use Rattle.uf_mfs.proofs.Judging.{bad-below, target-below}
use Rattle.uf_mfs.proofs.Missing.{folder-misses, landed-misses}
use Rattle.uf_mfs.specs.Missing.{MissesOnly}
use Rattle.uf_mfs.specs.Steps.{tree_fault}
use Rattle.uf_mfs.specs.declared.target.MoveTarget.{MoveTarget}
use Rattle.uf_plain.specs.Needs.{member_needs}
use Rattle.uf_mfs.proofs.spotting.landing.Goals as goal

pub returns-in-Err-clause-found : goal.returns-in-Err-clause-found
returns-in-Err-clause-found g c = λ p es s stood.
    let X = g.S.X.BlockHash.block32 in let N = g.N.NameHash.name64 in let told = (g.S.Store.seen c.args.store.now).told in
    folder-stops X N p told c.args.told.now c.args.folder.now c.args.name.now es (λ (fs : Entries) (e : Entry). IsAgreed X N told p e (Dir fs)) (IsFound X N told p)
    c.in-Err.stop c.fault_of.result c.fault_of.ensures (c.in-Err.ensures.looks p es s stood)

pub returns-in-Ok-clause-found : goal.returns-in-Ok-clause-found
returns-in-Ok-clause-found g c = λ p es s stood.
    let X = g.S.X.BlockHash.block32 in let N = g.N.NameHash.name64 in
    let a = g.S.Store.seen c.args.store.now in let b = g.S.Store.seen c.look_at_folder.new.store in let d = g.S.Store.seen c.under.new.store in
    let same = c.in-Ok.ensures.reads.told in
    let front = stood-front a.faults b.faults d.faults c.in-Ok.ensures.reads.cause.faults (tree-rises c.under.result c.under.ensures.reads) stood in
    let back = stood-back a.faults b.faults d.faults c.in-Ok.ensures.reads.cause.faults stood in
    folder-leads X N p a.told c.args.told.now c.args.folder.now c.args.name.now es (λ (fs : Entries) (e : Entry). IsAgreed X N a.told p e (Dir fs)) (IsFound X N a.told p) c.in-Ok.entry c.under.result
    (c.in-Ok.ensures.looks p es s front) (λ fs s.
    subst (λ told. GivesOver X N told p fs (IsFound X N told p) (Ok (record { folder = c.args.folder.now; name = c.args.name.now }, fs)) c.under.result) same
    (c.under.ensures.found p fs (subst (λ told. IsAgreed X N told p c.in-Ok.entry (Dir fs)) (sym same) s) back))

pub returns-in-Ok-clause-reads : goal.returns-in-Ok-clause-reads
returns-in-Ok-clause-reads g c =
    let X = g.S.X.BlockHash.block32 in let N = g.N.NameHash.name64 in
    tree-after (bad-below X N None c.args.root.now.cid c.in-Ok.entry.cid c.in-Ok.ensures.required) c.in-Ok.ensures.reads c.under.ensures.reads

pub returns-in-Ok-clause-required : goal.returns-in-Ok-clause-required
returns-in-Ok-clause-required g c = target-below g.S.X.BlockHash.block32 g.N.NameHash.name64 c.args.root.now.cid c.in-Ok.entry.cid c.under.result c.in-Ok.ensures.required c.under.ensures.required

pub returns-in-Err-clause-missing : goal.returns-in-Err-clause-missing
returns-in-Err-clause-missing g c = λ p es s stood.
    let X = g.S.X.BlockHash.block32 in let N = g.N.NameHash.name64 in let told = (g.S.Store.seen c.args.store.now).told in
    folder-misses X N p MoveTarget told c.args.told.now c.args.folder.now (c.args.name.now ∷ []) es (λ (fs : Entries) (e : Entry). IsAgreed X N told p e (Dir fs))
    c.in-Err.stop c.fault_of.result c.fault_of.ensures (c.in-Err.ensures.looks p es s stood)

pub returns-in-Ok-clause-missing : goal.returns-in-Ok-clause-missing
returns-in-Ok-clause-missing g c = λ p es s stood.
    let X = g.S.X.BlockHash.block32 in let N = g.N.NameHash.name64 in
    let a = g.S.Store.seen c.args.store.now in let b = g.S.Store.seen c.look_at_folder.new.store in let d = g.S.Store.seen c.under.new.store in
    let same = c.in-Ok.ensures.reads.told in
    let front = stood-front a.faults b.faults d.faults c.in-Ok.ensures.reads.cause.faults (tree-rises c.under.result c.under.ensures.reads) stood in
    let back = stood-back a.faults b.faults d.faults c.in-Ok.ensures.reads.cause.faults stood in
    landed-misses X N p a.told c.args.folder.now c.args.name.now es (λ (fs : Entries) (e : Entry). IsAgreed X N a.told p e (Dir fs)) c.in-Ok.entry (tree_fault c.under.result)
    (c.in-Ok.ensures.looks p es s front) (λ fs s.
    subst (λ told. MissesOnly told (member_needs X N p c.args.name.now fs) (tree_fault c.under.result)) same
    (c.under.ensures.missing p fs (subst (λ told. IsAgreed X N told p c.in-Ok.entry (Dir fs)) (sym same) s) back))
