use Rattle.std.proofs.Common.{Ok, Option}
use Rattle.uf_tree.specs.Tree.{Tree}
use Rattle.uf_plain.specs.Edits.{child}
use Rattle.uf_mfs.specs.declared.thing.Thing.{Thing}
use Rattle.uf_mfs.specs.Moving.{IsFound}
use Rattle.uf_mfs.specs.Standing.{IsAgreedMember}
use Rattle.uf_mfs.proofs.Missing.{told-misses}
use Rattle.uf_mfs.proofs.Spots.{member-gives}
use Rattle.uf_mfs.specs.declared.target.MoveTarget.{MoveTarget}
use Rattle.uf_plain.specs.Needs.{member_needs}
use Rattle.uf_mfs.proofs.spotting.under.Goals as goal

pub returns-in-Err-clause-found : goal.returns-in-Err-clause-found
returns-in-Err-clause-found g c = λ p fs s stood.
    let X = g.S.X.BlockHash.block32 in let N = g.N.NameHash.name64 in let told = (g.S.Store.seen c.args.store.now).told in
    let name = c.args.name.now in
    member-gives X N p told name fs c.args.folder.now (λ (o : Option Tree) (x : Option Thing). IsAgreedMember X N told p o x) (IsFound X N told p) (child name fs)
    (Ok (record { folder = c.args.folder.now; name = name }, fs)) c.in-Err.stop c.fault_of.result c.fault_of.ensures (c.in-Err.ensures.member p fs s stood)

pub returns-in-Err-clause-missing : goal.returns-in-Err-clause-missing
returns-in-Err-clause-missing g c = λ p fs s stood.
    let X = g.S.X.BlockHash.block32 in let N = g.N.NameHash.name64 in let told = (g.S.Store.seen c.args.store.now).told in
    let name = c.args.name.now in
    told-misses MoveTarget told (member_needs X N p name fs) (member_needs X N p name fs) (λ (o : Option Tree) (x : Option Thing). IsAgreedMember X N told p o x) c.args.folder.now (Ok (child name fs))
    c.in-Err.stop c.fault_of.result (λ P h. h) c.fault_of.ensures (c.in-Err.ensures.member p fs s stood)
