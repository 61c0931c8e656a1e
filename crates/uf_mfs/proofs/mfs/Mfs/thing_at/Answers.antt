use Rattle.uf_store.specs.Lost.{IsLossOf}
use Rattle.uf_tree.specs.Tree.{Dir}
use Rattle.uf_plain.specs.Edits.{at}
use Rattle.uf_plain.specs.Needs.{way}
use Rattle.uf_mfs.specs.Standing.{IsAgreedThing}
use Rattle.uf_mfs.proofs.Needed.{call-err, call-ok}
use Rattle.std.proofs.Common.{refl}
use Rattle.uf_mfs.specs.Bad.{AtRoot}
use Rattle.uf_mfs.proofs.mfs.Mfs.thing_at.Goals as goal

pub returns-in-Err-clause-finds : goal.returns-in-Err-clause-finds
returns-in-Err-clause-finds g c = λ p es s stood.
    let X = g.S.X.BlockHash.block32 in let N = g.N.NameHash.name64 in let told = (g.S.Store.seen c.args.store.now).told in let names = c.args.names.now in
    call-err X N p (IsLossOf told (way X N p names (Dir es))) (λ t x. IsAgreedThing X N told p t x) (λ t x. IsAgreedThing X N told p t x) names (at 0 names (Dir es)) c.in-Err.stop c.fault_of.result tt c.fault_of.ensures
    (c.in-Err.ensures.looks p (Dir es) (s.root, tt) stood)

pub returns-in-Ok-clause-finds : goal.returns-in-Ok-clause-finds
returns-in-Ok-clause-finds g c = λ p es s stood.
    let X = g.S.X.BlockHash.block32 in let N = g.N.NameHash.name64 in let told = (g.S.Store.seen c.args.store.now).told in let names = c.args.names.now in
    call-ok X N p (IsLossOf told (way X N p names (Dir es))) (λ t x. IsAgreedThing X N told p t x) names (at 0 names (Dir es)) c.in-Ok.thing
    (c.in-Ok.ensures.looks p (Dir es) (s.root, tt) stood)

pub returns-in-Ok-clause-required : goal.returns-in-Ok-clause-required
returns-in-Ok-clause-required g c = c.in-Ok.ensures.required c.args.self.now.root.cid (AtRoot refl)
