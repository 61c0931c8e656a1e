use Rattle.std.proofs.Common.{◌≡◌, Ok, false, true, refl, subst, sym}
use Rattle.uf_command.specs.declared.types.Adding.TheVariants as adding
use Rattle.uf_command.specs.declared.types.Command.TheVariants.{Add}
use Rattle.uf_top.specs.Lent.{OverInputHost, side_at}
use Rattle.uf_top.specs.Working.{Makes, Spares}
use Rattle.uf_top.proofs.commands.adding.adds.Goals as goal

pub returns-in-Input-true : goal.returns-in-Input-true
returns-in-Input-true g c =
    let e : c.args.adding.now ≡ adding.Input true = cc in
    record {
      makes = subst (λ what. OverInputHost g.I.Source g.W.Host (Makes g.S.X.BlockHash.block32 g.N.NameHash.name64 (Add what) c.add_only_hash.result)
          (g.S.Store.seen c.args.store.now) c.args.input.now c.args.touches.now c.args.host.now (g.S.Store.seen c.add_only_hash.new.store) c.add_only_hash.new.input c.args.touches.now c.args.host.now)
          (sym e) (λ held writes. c.add_only_hash.ensures g.N.NameHash.name64 c.args.touches.now held writes (side_at g.W.Host c.args.host.now));
      spares = subst (λ what. Spares (Ok (Add what)) c.args.store.now c.add_only_hash.new.store c.args.input.now c.add_only_hash.new.input c.args.host.now c.args.host.now c.args.touches.now c.args.touches.now)
          (sym e) (record { left = λ e. absurd cc; input = λ e. absurd cc; host = λ e. refl; untouched = λ e. refl });
    }

pub returns-in-Input-false : goal.returns-in-Input-false
returns-in-Input-false g c =
    let e : c.args.adding.now ≡ adding.Input false = cc in
    record {
      makes = subst (λ what. OverInputHost g.I.Source g.W.Host (Makes g.S.X.BlockHash.block32 g.N.NameHash.name64 (Add what) c.add.result)
          (g.S.Store.seen c.args.store.now) c.args.input.now c.args.touches.now c.args.host.now (g.S.Store.seen c.add.new.store) c.add.new.input c.add.new.touches c.args.host.now)
          (sym e) (λ held writes. c.add.ensures g.N.NameHash.name64 held writes (side_at g.W.Host c.args.host.now));
      spares = subst (λ what. Spares (Ok (Add what)) c.args.store.now c.add.new.store c.args.input.now c.add.new.input c.args.host.now c.args.host.now c.args.touches.now c.add.new.touches)
          (sym e) (record { left = λ e. absurd cc; input = λ e. absurd cc; host = λ e. refl; untouched = λ e. absurd cc });
    }

pub returns-in-Host-default-true-default : goal.returns-in-Host-default-true-default
returns-in-Host-default-true-default g c =
    let e : c.args.adding.now ≡ adding.Host c.in-Host-default-true-default.recursive true c.in-Host-default-true-default.path = cc in
    record {
      makes = subst (λ what. OverInputHost g.I.Source g.W.Host (Makes g.S.X.BlockHash.block32 g.N.NameHash.name64 (Add what) c.hash_from.result)
          (g.S.Store.seen c.args.store.now) c.args.input.now c.args.touches.now c.args.host.now (g.S.Store.seen c.hash_from.new.store) c.args.input.now c.args.touches.now c.hash_from.new.host)
          (sym e) (λ held writes. c.hash_from.ensures c.args.touches.now (g.I.Source.left c.args.input.now) (g.I.Source.faults c.args.input.now) held writes);
      spares = subst (λ what. Spares (Ok (Add what)) c.args.store.now c.hash_from.new.store c.args.input.now c.args.input.now c.args.host.now c.hash_from.new.host c.args.touches.now c.args.touches.now)
          (sym e) (record { left = λ e. absurd cc; input = λ e. refl; host = λ e. absurd cc; untouched = λ e. refl });
    }

pub returns-in-Host-default-false-default : goal.returns-in-Host-default-false-default
returns-in-Host-default-false-default g c =
    let e : c.args.adding.now ≡ adding.Host c.in-Host-default-false-default.recursive false c.in-Host-default-false-default.path = cc in
    record {
      makes = subst (λ what. OverInputHost g.I.Source g.W.Host (Makes g.S.X.BlockHash.block32 g.N.NameHash.name64 (Add what) c.keep_from.result)
          (g.S.Store.seen c.args.store.now) c.args.input.now c.args.touches.now c.args.host.now (g.S.Store.seen c.keep_from.new.store) c.args.input.now c.keep_from.new.touches c.keep_from.new.host)
          (sym e) (λ held writes. c.keep_from.ensures (g.I.Source.left c.args.input.now) (g.I.Source.faults c.args.input.now) held writes);
      spares = subst (λ what. Spares (Ok (Add what)) c.args.store.now c.keep_from.new.store c.args.input.now c.args.input.now c.args.host.now c.keep_from.new.host c.args.touches.now c.keep_from.new.touches)
          (sym e) (record { left = λ e. absurd cc; input = λ e. refl; host = λ e. absurd cc; untouched = λ e. absurd cc });
    }

pub returns-in-InputTo : goal.returns-in-InputTo
returns-in-InputTo g c =
    record {
      makes = subst (λ what. OverInputHost g.I.Source g.W.Host (Makes g.S.X.BlockHash.block32 g.N.NameHash.name64 (Add what) c.add_to.result)
          (g.S.Store.seen c.args.store.now) c.args.input.now c.args.touches.now c.args.host.now (g.S.Store.seen c.add_to.new.store) c.add_to.new.input c.add_to.new.touches c.args.host.now)
          (sym c.in-InputTo.is) (λ held writes. c.add_to.ensures held writes (side_at g.W.Host c.args.host.now));
      spares = subst (λ what. Spares (Ok (Add what)) c.args.store.now c.add_to.new.store c.args.input.now c.add_to.new.input c.args.host.now c.args.host.now c.args.touches.now c.add_to.new.touches)
          (sym c.in-InputTo.is) (record { left = λ e. absurd cc; input = λ e. absurd cc; host = λ e. refl; untouched = λ e. absurd cc });
    }

pub returns-in-HostTo : goal.returns-in-HostTo
returns-in-HostTo g c =
    record {
      makes = subst (λ what. OverInputHost g.I.Source g.W.Host (Makes g.S.X.BlockHash.block32 g.N.NameHash.name64 (Add what) c.add_from_to.result)
          (g.S.Store.seen c.args.store.now) c.args.input.now c.args.touches.now c.args.host.now (g.S.Store.seen c.add_from_to.new.store) c.args.input.now c.add_from_to.new.touches c.add_from_to.new.host)
          (sym c.in-HostTo.is) (λ held writes. c.add_from_to.ensures (g.I.Source.left c.args.input.now) (g.I.Source.faults c.args.input.now) held writes);
      spares = subst (λ what. Spares (Ok (Add what)) c.args.store.now c.add_from_to.new.store c.args.input.now c.args.input.now c.args.host.now c.add_from_to.new.host c.args.touches.now c.add_from_to.new.touches)
          (sym c.in-HostTo.is) (record { left = λ e. absurd cc; input = λ e. refl; host = λ e. absurd cc; untouched = λ e. absurd cc });
    }
