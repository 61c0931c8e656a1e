use Rattle.std.proofs.Common.{Option, subst}
use Rattle.std.specs.Prelude.{IfSome}
use Rattle.uf_mfs.specs.Bad.{IsRequired}
use Rattle.uf_mfs.specs.declared.thing.Thing.{Thing}
use Rattle.uf_store.proofs.Among.{SavesAmong-refl}
use Rattle.uf_mfs.proofs.SavingFiles.{member-saves}
use Rattle.uf_mfs.proofs.remaking.change_member_meta.Goals as goal

pub returns-in-Some-clause-saves : goal.returns-in-Some-clause-saves
returns-in-Some-clause-saves g c = λ root required.
    c.change_meta.ensures.saves root (subst (λ (o : Option Thing). IfSome o (IsRequired g.S.X.BlockHash.block32 root)) c.in-Some.is required)

pub returns-in-Some-clause-no_other : goal.returns-in-Some-clause-no_other
returns-in-Some-clause-no_other g c =
    let X = g.S.X.BlockHash.block32 in let N = g.N.NameHash.name64 in
    member-saves X N c.args.site.now.profile (g.S.Store.seen c.args.store.now) (g.S.Store.seen c.change_meta.new.store) c.args.what c.args.found c.in-Some.thing c.in-Some.is c.change_meta.ensures.no_other

pub returns-in-None-clause-no_other : goal.returns-in-None-clause-no_other
returns-in-None-clause-no_other g c =
    λ o member h. SavesAmong-refl g.S.X.BlockHash.block32 _ (g.S.Store.seen c.args.store.now).told
