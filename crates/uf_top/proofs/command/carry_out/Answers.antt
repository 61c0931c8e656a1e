use Rattle.std.proofs.Common.{None, Ok, ◌∙◌, ◌≡◌, ap, false, refl, subst, sym, true}
use Rattle.std.specs.Prelude.{IfErr}
use Rattle.uf_command.specs.Natures.{generates, own_store, reads_input, reads_tree_alone, touches_nothing, uses_host}
use Rattle.uf_command.specs.declared.types.Adding.{Adding}
use Rattle.uf_command.specs.declared.types.Command.TheVariants.{Init, Add, WriteInput, At, Adopt, Cat, Export, Get, Import, Pin, Prove, Read, Same}
use Rattle.uf_command.specs.declared.types.Adding.TheVariants as adding
use Rattle.uf_command.specs.declared.types.PinAsk.{PinAsk}
use Rattle.uf_command.specs.declared.types.PinAsk.TheVariants as pins
use Rattle.uf_top.specs.Around.{SinkSide, around, host_side}
use Rattle.uf_top.specs.Cars.{ByOwnStore}
use Rattle.uf_top.specs.Working.{Does, Makes, Spares}
use Rattle.uf_top.proofs.Printing.{said-does}
use Rattle.uf_top.proofs.Serving.{alone-given, alone-spares, spares-own}
use Rattle.uf_top.proofs.command.carry_out.Goals as goal

-- some error lines
nothing : SinkSide
nothing = record { held = None; faults = 0 }

-- of the commands on pins the list alone makes no touch
only-lists : (ask : PinAsk) → touches_nothing (Pin ask) ≡ true → ask ≡ pins.List
only-lists (pins.Add cid) e = absurd cc
only-lists (pins.Remove cid) e = absurd cc
only-lists pins.List e = refl

-- what is added goes by the tree that the Head names alone
adds-alone : (what : Adding) → reads_tree_alone (Add what) ≡ true
adds-alone (adding.Input only_hash) = refl
adds-alone (adding.Host recursive only_hash path) = refl
adds-alone (adding.InputTo dest) = refl
adds-alone (adding.HostTo recursive path dest) = refl

pub returns-in-Init : goal.returns-in-Init
returns-in-Init g c =
    let l = g.I.Source.left c.args.input.now in let i = g.I.Source.faults c.args.input.now in
    let h = g.O.Sink.holds c.args.output.now in let w = g.O.Sink.faults c.args.output.now in
    let s = (host_side (g.W.Host.tree c.args.host.now) (g.W.Host.read_faults c.args.host.now) (g.W.Host.write_faults c.args.host.now)) in
    let alone : reads_tree_alone c.args.command.now ≡ true = ap reads_tree_alone c.in-Init.is in
    let does = said-does g.S.X.BlockHash.block32 g.N.NameHash.name64 c.args.command.now alone (g.S.Store.seen c.args.store.now) (g.S.Store.seen c.init.new.store)
    l l i i c.args.touches.now c.init.new.touches h w s s c.init.result
    (λ er er2. subst (λ command. Makes g.S.X.BlockHash.block32 g.N.NameHash.name64 command c.init.result (around (g.S.Store.seen c.args.store.now) l i h w c.args.touches.now s er) (around (g.S.Store.seen c.init.new.store) l i h w c.init.new.touches s er2)) (sym c.in-Init.is) (c.init.ensures l i h w s er er2))
    (g.O.Sink.holds c.say.new.output) (g.O.Sink.faults c.say.new.output) c.say.result c.say.ensures in
    record {
      does = does;
      own = spares-own g.S.X.BlockHash.block32 l (g.S.Store.seen c.args.store.now) (g.S.Store.seen c.init.new.store) c.args.command.now c.say.result (alone-spares c.args.command.now alone) (does nothing nothing).kinds;
      spares = record {
        left = λ e. absurd (alone-given c.args.command.now alone e);
        input = λ e. refl;
        host = λ e. refl;
        untouched = λ e. absurd (let k : touches_nothing (Init c.in-Init.profile) ≡ true = ap touches_nothing (sym c.in-Init.is) ∙ e in cc);
      };
    }

pub returns-in-Add : goal.returns-in-Add
returns-in-Add g c =
    let l = g.I.Source.left c.args.input.now in let i = g.I.Source.faults c.args.input.now in
    let h = g.O.Sink.holds c.args.output.now in let w = g.O.Sink.faults c.args.output.now in
    let s = (host_side (g.W.Host.tree c.args.host.now) (g.W.Host.read_faults c.args.host.now) (g.W.Host.write_faults c.args.host.now)) in
    let m = g.I.Source.left c.adds-rows.new.input in let j = g.I.Source.faults c.adds-rows.new.input in
    let t = (host_side (g.W.Host.tree c.adds-rows.new.host) (g.W.Host.read_faults c.adds-rows.new.host) (g.W.Host.write_faults c.adds-rows.new.host)) in
    let alone : reads_tree_alone c.args.command.now ≡ true = ap reads_tree_alone c.in-Add.is ∙ adds-alone c.in-Add.adding in
    let does = said-does g.S.X.BlockHash.block32 g.N.NameHash.name64 c.args.command.now alone (g.S.Store.seen c.args.store.now) (g.S.Store.seen c.adds-rows.new.store)
    l m i j c.args.touches.now c.adds-rows.new.touches h w s t c.adds-rows.result
    (λ er er2. subst (λ command. Makes g.S.X.BlockHash.block32 g.N.NameHash.name64 command c.adds-rows.result (around (g.S.Store.seen c.args.store.now) l i h w c.args.touches.now s er) (around (g.S.Store.seen c.adds-rows.new.store) m j h w c.adds-rows.new.touches t er2)) (sym c.in-Add.is) (c.adds-rows.ensures.makes h w er er2))
    (g.O.Sink.holds c.say-in-Add.new.output) (g.O.Sink.faults c.say-in-Add.new.output) c.say-in-Add.result c.say-in-Add.ensures in
    record {
      does = does;
      own = spares-own g.S.X.BlockHash.block32 l (g.S.Store.seen c.args.store.now) (g.S.Store.seen c.adds-rows.new.store) c.args.command.now c.say-in-Add.result (alone-spares c.args.command.now alone) (does nothing nothing).kinds;
      spares = subst (λ command. Spares (Ok command) c.args.store.now c.adds-rows.new.store c.args.input.now c.adds-rows.new.input c.args.host.now c.adds-rows.new.host c.args.touches.now c.adds-rows.new.touches)
          (sym c.in-Add.is) c.adds-rows.ensures.spares;
    }

pub returns-in-WriteInput : goal.returns-in-WriteInput
returns-in-WriteInput g c =
    let l = g.I.Source.left c.args.input.now in let i = g.I.Source.faults c.args.input.now in
    let h = g.O.Sink.holds c.args.output.now in let w = g.O.Sink.faults c.args.output.now in
    let s = (host_side (g.W.Host.tree c.args.host.now) (g.W.Host.read_faults c.args.host.now) (g.W.Host.write_faults c.args.host.now)) in
    let alone : reads_tree_alone c.args.command.now ≡ true = ap reads_tree_alone c.in-WriteInput.is in
    let does = said-does g.S.X.BlockHash.block32 g.N.NameHash.name64 c.args.command.now alone (g.S.Store.seen c.args.store.now) (g.S.Store.seen c.write_input-nothing.new.store)
    l (g.I.Source.left c.write_input-nothing.new.input) i (g.I.Source.faults c.write_input-nothing.new.input) c.args.touches.now c.write_input-nothing.new.touches h w s s c.write_input-nothing.result
    (λ er er2. subst (λ command. Makes g.S.X.BlockHash.block32 g.N.NameHash.name64 command c.write_input-nothing.result (around (g.S.Store.seen c.args.store.now) l i h w c.args.touches.now s er) (around (g.S.Store.seen c.write_input-nothing.new.store) (g.I.Source.left c.write_input-nothing.new.input) (g.I.Source.faults c.write_input-nothing.new.input) h w c.write_input-nothing.new.touches s er2)) (sym c.in-WriteInput.is) (c.write_input-nothing.ensures h w s er er2))
    (g.O.Sink.holds c.say-in-WriteInput.new.output) (g.O.Sink.faults c.say-in-WriteInput.new.output) c.say-in-WriteInput.result c.say-in-WriteInput.ensures in
    record {
      does = does;
      own = spares-own g.S.X.BlockHash.block32 l (g.S.Store.seen c.args.store.now) (g.S.Store.seen c.write_input-nothing.new.store) c.args.command.now c.say-in-WriteInput.result (alone-spares c.args.command.now alone) (does nothing nothing).kinds;
      spares = record {
        left = λ e. absurd (alone-given c.args.command.now alone e);
        input = λ e. absurd (let k : reads_input (WriteInput c.in-WriteInput.how c.in-WriteInput.path) ≡ false = ap reads_input (sym c.in-WriteInput.is) ∙ e in cc);
        host = λ e. refl;
        untouched = λ e. absurd (let k : touches_nothing (WriteInput c.in-WriteInput.how c.in-WriteInput.path) ≡ true = ap touches_nothing (sym c.in-WriteInput.is) ∙ e in cc);
      };
    }

pub returns-in-At : goal.returns-in-At
returns-in-At g c =
    let l = g.I.Source.left c.args.input.now in let i = g.I.Source.faults c.args.input.now in
    let h = g.O.Sink.holds c.args.output.now in let w = g.O.Sink.faults c.args.output.now in
    let s = (host_side (g.W.Host.tree c.args.host.now) (g.W.Host.read_faults c.args.host.now) (g.W.Host.write_faults c.args.host.now)) in
    let alone : reads_tree_alone c.args.command.now ≡ true = ap reads_tree_alone c.in-At.is in
    let does = said-does g.S.X.BlockHash.block32 g.N.NameHash.name64 c.args.command.now alone (g.S.Store.seen c.args.store.now) (g.S.Store.seen c.at.new.store)
    l l i i c.args.touches.now c.at.new.touches h w s s c.at.result
    (λ er er2. subst (λ command. Makes g.S.X.BlockHash.block32 g.N.NameHash.name64 command c.at.result (around (g.S.Store.seen c.args.store.now) l i h w c.args.touches.now s er) (around (g.S.Store.seen c.at.new.store) l i h w c.at.new.touches s er2)) (sym c.in-At.is) (c.at.ensures l i h w s er er2))
    (g.O.Sink.holds c.say-in-At.new.output) (g.O.Sink.faults c.say-in-At.new.output) c.say-in-At.result c.say-in-At.ensures in
    record {
      does = does;
      own = spares-own g.S.X.BlockHash.block32 l (g.S.Store.seen c.args.store.now) (g.S.Store.seen c.at.new.store) c.args.command.now c.say-in-At.result (alone-spares c.args.command.now alone) (does nothing nothing).kinds;
      spares = record {
        left = λ e. absurd (alone-given c.args.command.now alone e);
        input = λ e. refl;
        host = λ e. refl;
        untouched = λ e. absurd (let k : touches_nothing (At c.in-At.ask c.in-At.path) ≡ true = ap touches_nothing (sym c.in-At.is) ∙ e in cc);
      };
    }

pub returns-in-Read-clause-does : goal.returns-in-Read-clause-does
returns-in-Read-clause-does g c =
    let l = g.I.Source.left c.args.input.now in let i = g.I.Source.faults c.args.input.now in
    let s = (host_side (g.W.Host.tree c.args.host.now) (g.W.Host.read_faults c.args.host.now) (g.W.Host.write_faults c.args.host.now)) in
    λ er er2. subst (λ command. Does g.S.X.BlockHash.block32 g.N.NameHash.name64 command c.send_part.result
    (around (g.S.Store.seen c.args.store.now) l i (g.O.Sink.holds c.args.output.now) (g.O.Sink.faults c.args.output.now) c.args.touches.now s er)
    (around (g.S.Store.seen c.send_part.new.store) l i (g.O.Sink.holds c.send_part.new.output) (g.O.Sink.faults c.send_part.new.output) c.send_part.new.touches s er2))
    (sym c.in-Read.is) (c.send_part.ensures l i s er er2)

pub returns-in-Read-clause-own : goal.returns-in-Read-clause-own
returns-in-Read-clause-own g c =
    let l = g.I.Source.left c.args.input.now in let i = g.I.Source.faults c.args.input.now in
    let s = (host_side (g.W.Host.tree c.args.host.now) (g.W.Host.read_faults c.args.host.now) (g.W.Host.write_faults c.args.host.now)) in
    subst (λ command. IfErr c.send_part.result (ByOwnStore g.S.X.BlockHash.block32 (own_store command) l (g.S.Store.seen c.args.store.now) (g.S.Store.seen c.send_part.new.store))) (sym c.in-Read.is)
    (spares-own g.S.X.BlockHash.block32 l (g.S.Store.seen c.args.store.now) (g.S.Store.seen c.send_part.new.store) (Read c.in-Read.offset c.in-Read.count c.in-Read.path) c.send_part.result refl (c.send_part.ensures l i s nothing nothing).kinds)

pub returns-in-Read-clause-spares : goal.returns-in-Read-clause-spares
returns-in-Read-clause-spares g c = record {
  left = λ e. absurd (let k : generates (Read c.in-Read.offset c.in-Read.count c.in-Read.path) ≡ true = ap generates (sym c.in-Read.is) ∙ e in cc);
  input = λ e. refl;
  host = λ e. refl;
  untouched = λ e. absurd (let k : touches_nothing (Read c.in-Read.offset c.in-Read.count c.in-Read.path) ≡ true = ap touches_nothing (sym c.in-Read.is) ∙ e in cc);
}

pub returns-in-Cat : goal.returns-in-Cat
returns-in-Cat g c =
    let l = g.I.Source.left c.args.input.now in let i = g.I.Source.faults c.args.input.now in
    let s = (host_side (g.W.Host.tree c.args.host.now) (g.W.Host.read_faults c.args.host.now) (g.W.Host.write_faults c.args.host.now)) in
    record {
      does = λ er er2. subst (λ command. Does g.S.X.BlockHash.block32 g.N.NameHash.name64 command c.cat.result
          (around (g.S.Store.seen c.args.store.now) l i (g.O.Sink.holds c.args.output.now) (g.O.Sink.faults c.args.output.now) c.args.touches.now s er)
          (around (g.S.Store.seen c.cat.new.store) l i (g.O.Sink.holds c.cat.new.output) (g.O.Sink.faults c.cat.new.output) c.cat.new.touches s er2))
          (sym c.in-Cat.is) (c.cat.ensures g.N.NameHash.name64 l i s er er2);
      own = subst (λ command. IfErr c.cat.result (ByOwnStore g.S.X.BlockHash.block32 (own_store command) (g.I.Source.left c.args.input.now) (g.S.Store.seen c.args.store.now) (g.S.Store.seen c.cat.new.store))) (sym c.in-Cat.is)
          (spares-own g.S.X.BlockHash.block32 (g.I.Source.left c.args.input.now) (g.S.Store.seen c.args.store.now) (g.S.Store.seen c.cat.new.store) (Cat c.in-Cat.path) c.cat.result refl (c.cat.ensures g.N.NameHash.name64 l i s nothing nothing).kinds);
      spares = record {
        input = λ e. refl;
        host = λ e. refl;
        left = λ e. absurd (let k : generates (Cat c.in-Cat.path) ≡ true = ap generates (sym c.in-Cat.is) ∙ e in cc);
        untouched = λ e. absurd (let k : touches_nothing (Cat c.in-Cat.path) ≡ true = ap touches_nothing (sym c.in-Cat.is) ∙ e in cc);
      };
    }

pub returns-in-Get : goal.returns-in-Get
returns-in-Get g c =
    let l = g.I.Source.left c.args.input.now in let i = g.I.Source.faults c.args.input.now in
    let h = g.O.Sink.holds c.args.output.now in let w = g.O.Sink.faults c.args.output.now in
    record {
      does = λ er er2. subst (λ command. Does g.S.X.BlockHash.block32 g.N.NameHash.name64 command c.get.result
          (around (g.S.Store.seen c.args.store.now) l i h w c.args.touches.now (host_side (g.W.Host.tree c.args.host.now) (g.W.Host.read_faults c.args.host.now) (g.W.Host.write_faults c.args.host.now)) er)
          (around (g.S.Store.seen c.get.new.store) l i h w c.get.new.touches (host_side (g.W.Host.tree c.get.new.host) (g.W.Host.read_faults c.get.new.host) (g.W.Host.write_faults c.get.new.host)) er2))
          (sym c.in-Get.is) (c.get.ensures g.N.NameHash.name64 l i h w er er2);
      own = subst (λ command. IfErr c.get.result (ByOwnStore g.S.X.BlockHash.block32 (own_store command) l (g.S.Store.seen c.args.store.now) (g.S.Store.seen c.get.new.store))) (sym c.in-Get.is)
          (spares-own g.S.X.BlockHash.block32 l (g.S.Store.seen c.args.store.now) (g.S.Store.seen c.get.new.store) (Get c.in-Get.path c.in-Get.host_path) c.get.result refl (c.get.ensures g.N.NameHash.name64 l i h w nothing nothing).kinds);
      spares = record {
        input = λ e. refl;
        host = λ e. absurd (let k : uses_host (Get c.in-Get.path c.in-Get.host_path) ≡ false = ap uses_host (sym c.in-Get.is) ∙ e in cc);
        left = λ e. absurd (let k : generates (Get c.in-Get.path c.in-Get.host_path) ≡ true = ap generates (sym c.in-Get.is) ∙ e in cc);
        untouched = λ e. absurd (let k : touches_nothing (Get c.in-Get.path c.in-Get.host_path) ≡ true = ap touches_nothing (sym c.in-Get.is) ∙ e in cc);
      };
    }

pub returns-in-Export : goal.returns-in-Export
returns-in-Export g c =
    let l = g.I.Source.left c.args.input.now in let i = g.I.Source.faults c.args.input.now in
    let s = (host_side (g.W.Host.tree c.args.host.now) (g.W.Host.read_faults c.args.host.now) (g.W.Host.write_faults c.args.host.now)) in
    record {
      does = λ er er2. subst (λ command. Does g.S.X.BlockHash.block32 g.N.NameHash.name64 command c.export_car.result
          (around (g.S.Store.seen c.args.store.now) l i (g.O.Sink.holds c.args.output.now) (g.O.Sink.faults c.args.output.now) c.args.touches.now s er)
          (around (g.S.Store.seen c.export_car.new.store) l i (g.O.Sink.holds c.export_car.new.output) (g.O.Sink.faults c.export_car.new.output) c.export_car.new.touches s er2))
          (sym c.in-Export.is) (c.export_car.ensures g.N.NameHash.name64 l i s er er2);
      own = subst (λ command. IfErr c.export_car.result (ByOwnStore g.S.X.BlockHash.block32 (own_store command) (g.I.Source.left c.args.input.now) (g.S.Store.seen c.args.store.now) (g.S.Store.seen c.export_car.new.store))) (sym c.in-Export.is)
          (spares-own g.S.X.BlockHash.block32 (g.I.Source.left c.args.input.now) (g.S.Store.seen c.args.store.now) (g.S.Store.seen c.export_car.new.store) (Export c.in-Export.cid) c.export_car.result refl (c.export_car.ensures g.N.NameHash.name64 l i s nothing nothing).kinds);
      spares = record {
        input = λ e. refl;
        host = λ e. refl;
        left = λ e. absurd (let k : generates (Export c.in-Export.cid) ≡ true = ap generates (sym c.in-Export.is) ∙ e in cc);
        untouched = λ e. absurd (let k : touches_nothing (Export c.in-Export.cid) ≡ true = ap touches_nothing (sym c.in-Export.is) ∙ e in cc);
      };
    }

pub returns-in-Import : goal.returns-in-Import
returns-in-Import g c =
    let s = (host_side (g.W.Host.tree c.args.host.now) (g.W.Host.read_faults c.args.host.now) (g.W.Host.write_faults c.args.host.now)) in
    record {
      does = λ er er2. subst (λ command. Does g.S.X.BlockHash.block32 g.N.NameHash.name64 command c.import_car.result
          (around (g.S.Store.seen c.args.store.now) (g.I.Source.left c.args.input.now) (g.I.Source.faults c.args.input.now) (g.O.Sink.holds c.args.output.now) (g.O.Sink.faults c.args.output.now) c.args.touches.now s er)
          (around (g.S.Store.seen c.import_car.new.store) (g.I.Source.left c.import_car.new.input) (g.I.Source.faults c.import_car.new.input) (g.O.Sink.holds c.import_car.new.output) (g.O.Sink.faults c.import_car.new.output) c.import_car.new.touches s er2))
          (sym c.in-Import.is) (c.import_car.ensures g.N.NameHash.name64 s er er2);
      own = subst (λ command. IfErr c.import_car.result (ByOwnStore g.S.X.BlockHash.block32 (own_store command) (g.I.Source.left c.args.input.now) (g.S.Store.seen c.args.store.now) (g.S.Store.seen c.import_car.new.store))) (sym c.in-Import.is)
          (spares-own g.S.X.BlockHash.block32 (g.I.Source.left c.args.input.now) (g.S.Store.seen c.args.store.now) (g.S.Store.seen c.import_car.new.store) Import c.import_car.result refl (c.import_car.ensures g.N.NameHash.name64 s nothing nothing).kinds);
      spares = record {
        input = λ e. absurd (let k : reads_input Import ≡ false = ap reads_input (sym c.in-Import.is) ∙ e in cc);
        host = λ e. refl;
        left = λ e. absurd (let k : generates Import ≡ true = ap generates (sym c.in-Import.is) ∙ e in cc);
        untouched = λ e. absurd (let k : touches_nothing Import ≡ true = ap touches_nothing (sym c.in-Import.is) ∙ e in cc);
      };
    }

pub returns-in-Same : goal.returns-in-Same
returns-in-Same g c =
    let l = g.I.Source.left c.args.input.now in
    let s = (host_side (g.W.Host.tree c.args.host.now) (g.W.Host.read_faults c.args.host.now) (g.W.Host.write_faults c.args.host.now)) in
    record {
      does = λ er er2. subst (λ command. Does g.S.X.BlockHash.block32 g.N.NameHash.name64 command c.compare_car.result
          (around (g.S.Store.seen c.args.store.now) l (g.I.Source.faults c.args.input.now) (g.O.Sink.holds c.args.output.now) (g.O.Sink.faults c.args.output.now) c.args.touches.now s er)
          (around (g.S.Store.seen c.compare_car.new.store) (g.I.Source.left c.compare_car.new.input) (g.I.Source.faults c.compare_car.new.input) (g.O.Sink.holds c.compare_car.new.output) (g.O.Sink.faults c.compare_car.new.output) c.compare_car.new.touches s er2))
          (sym c.in-Same.is) (c.compare_car.ensures.does g.N.NameHash.name64 s er er2);
      own = subst (λ command. IfErr c.compare_car.result (ByOwnStore g.S.X.BlockHash.block32 (own_store command) l (g.S.Store.seen c.args.store.now) (g.S.Store.seen c.compare_car.new.store))) (sym c.in-Same.is) c.compare_car.ensures.own;
      spares = record {
        input = λ e. absurd (let k : reads_input (Same c.in-Same.cid) ≡ false = ap reads_input (sym c.in-Same.is) ∙ e in cc);
        host = λ e. refl;
        left = λ e. absurd (let k : generates (Same c.in-Same.cid) ≡ true = ap generates (sym c.in-Same.is) ∙ e in cc);
        untouched = λ e. absurd (let k : touches_nothing (Same c.in-Same.cid) ≡ true = ap touches_nothing (sym c.in-Same.is) ∙ e in cc);
      };
    }

pub returns-in-Adopt : goal.returns-in-Adopt
returns-in-Adopt g c =
    let l = g.I.Source.left c.args.input.now in let i = g.I.Source.faults c.args.input.now in
    let h = g.O.Sink.holds c.args.output.now in let w = g.O.Sink.faults c.args.output.now in
    let s = (host_side (g.W.Host.tree c.args.host.now) (g.W.Host.read_faults c.args.host.now) (g.W.Host.write_faults c.args.host.now)) in
    record {
      does = λ er er2. subst (λ command. Does g.S.X.BlockHash.block32 g.N.NameHash.name64 command c.graft.result
          (around (g.S.Store.seen c.args.store.now) l i h w c.args.touches.now s er) (around (g.S.Store.seen c.graft.new.store) l i h w c.graft.new.touches s er2))
          (sym c.in-Adopt.is) (c.graft.ensures l i h w s er er2);
      own = subst (λ command. IfErr c.graft.result (ByOwnStore g.S.X.BlockHash.block32 (own_store command) (g.I.Source.left c.args.input.now) (g.S.Store.seen c.args.store.now) (g.S.Store.seen c.graft.new.store))) (sym c.in-Adopt.is)
          (spares-own g.S.X.BlockHash.block32 (g.I.Source.left c.args.input.now) (g.S.Store.seen c.args.store.now) (g.S.Store.seen c.graft.new.store) (Adopt c.in-Adopt.source c.in-Adopt.dest) c.graft.result refl (c.graft.ensures l i h w s nothing nothing).kinds);
      spares = record {
        input = λ e. refl;
        host = λ e. refl;
        left = λ e. absurd (let k : generates (Adopt c.in-Adopt.source c.in-Adopt.dest) ≡ true = ap generates (sym c.in-Adopt.is) ∙ e in cc);
        untouched = λ e. absurd (let k : touches_nothing (Adopt c.in-Adopt.source c.in-Adopt.dest) ≡ true = ap touches_nothing (sym c.in-Adopt.is) ∙ e in cc);
      };
    }

pub returns-in-Gen : goal.returns-in-Gen
returns-in-Gen g c =
    let l = g.I.Source.left c.args.input.now in let i = g.I.Source.faults c.args.input.now in
    let b = g.S.Store.seen c.args.store.now in
    let s = (host_side (g.W.Host.tree c.args.host.now) (g.W.Host.read_faults c.args.host.now) (g.W.Host.write_faults c.args.host.now)) in
    record {
      does = λ er er2. subst (λ command. Does g.S.X.BlockHash.block32 g.N.NameHash.name64 command c.print_generated.result
          (around b l i (g.O.Sink.holds c.args.output.now) (g.O.Sink.faults c.args.output.now) c.args.touches.now s er)
          (around b l i (g.O.Sink.holds c.print_generated.new.output) (g.O.Sink.faults c.print_generated.new.output) c.args.touches.now s er2))
          (sym c.in-Gen.is) (c.print_generated.ensures.does b c.args.touches.now l i s er er2);
      own = subst (λ command. IfErr c.print_generated.result (ByOwnStore g.S.X.BlockHash.block32 (own_store command) l b b)) (sym c.in-Gen.is)
          (c.print_generated.ensures.own b l);
      spares = record {
        input = λ e. refl;
        left = λ e. refl;
        host = λ e. refl;
        untouched = λ e. refl;
      };
    }

pub returns-in-Pin : goal.returns-in-Pin
returns-in-Pin g c =
    let l = g.I.Source.left c.args.input.now in let i = g.I.Source.faults c.args.input.now in
    let s = (host_side (g.W.Host.tree c.args.host.now) (g.W.Host.read_faults c.args.host.now) (g.W.Host.write_faults c.args.host.now)) in
    record {
      does = λ er er2. subst (λ command. Does g.S.X.BlockHash.block32 g.N.NameHash.name64 command c.pin.result
          (around (g.S.Store.seen c.args.store.now) l i (g.O.Sink.holds c.args.output.now) (g.O.Sink.faults c.args.output.now) c.args.touches.now s er)
          (around (g.S.Store.seen c.pin.new.store) l i (g.O.Sink.holds c.pin.new.output) (g.O.Sink.faults c.pin.new.output) c.pin.new.touches s er2))
          (sym c.in-Pin.is) (c.pin.ensures.does g.N.NameHash.name64 l i s er er2);
      own = subst (λ command. IfErr c.pin.result (ByOwnStore g.S.X.BlockHash.block32 (own_store command) (g.I.Source.left c.args.input.now) (g.S.Store.seen c.args.store.now) (g.S.Store.seen c.pin.new.store))) (sym c.in-Pin.is)
          (spares-own g.S.X.BlockHash.block32 (g.I.Source.left c.args.input.now) (g.S.Store.seen c.args.store.now) (g.S.Store.seen c.pin.new.store) (Pin c.in-Pin.ask) c.pin.result refl (c.pin.ensures.does g.N.NameHash.name64 l i s nothing nothing).kinds);
      spares = record {
        input = λ e. refl;
        host = λ e. refl;
        left = λ e. absurd (let k : generates (Pin c.in-Pin.ask) ≡ true = ap generates (sym c.in-Pin.is) ∙ e in cc);
        untouched = λ e. c.pin.ensures.untouched (only-lists c.in-Pin.ask (ap touches_nothing (sym c.in-Pin.is) ∙ e));
      };
    }

pub returns-in-Prove : goal.returns-in-Prove
returns-in-Prove g c =
    let l = g.I.Source.left c.args.input.now in let i = g.I.Source.faults c.args.input.now in
    let s = (host_side (g.W.Host.tree c.args.host.now) (g.W.Host.read_faults c.args.host.now) (g.W.Host.write_faults c.args.host.now)) in
    record {
      does = λ er er2. subst (λ command. Does g.S.X.BlockHash.block32 g.N.NameHash.name64 command c.prove_at.result
          (around (g.S.Store.seen c.args.store.now) l i (g.O.Sink.holds c.args.output.now) (g.O.Sink.faults c.args.output.now) c.args.touches.now s er)
          (around (g.S.Store.seen c.prove_at.new.store) l i (g.O.Sink.holds c.prove_at.new.output) (g.O.Sink.faults c.prove_at.new.output) c.prove_at.new.touches s er2))
          (sym c.in-Prove.is) (c.prove_at.ensures l i s er er2);
      own = subst (λ command. IfErr c.prove_at.result (ByOwnStore g.S.X.BlockHash.block32 (own_store command) (g.I.Source.left c.args.input.now) (g.S.Store.seen c.args.store.now) (g.S.Store.seen c.prove_at.new.store))) (sym c.in-Prove.is)
          (spares-own g.S.X.BlockHash.block32 (g.I.Source.left c.args.input.now) (g.S.Store.seen c.args.store.now) (g.S.Store.seen c.prove_at.new.store) (Prove c.in-Prove.absent c.in-Prove.path) c.prove_at.result refl (c.prove_at.ensures l i s nothing nothing).kinds);
      spares = record {
        input = λ e. refl;
        host = λ e. refl;
        left = λ e. absurd (let k : generates (Prove c.in-Prove.absent c.in-Prove.path) ≡ true = ap generates (sym c.in-Prove.is) ∙ e in cc);
        untouched = λ e. absurd (let k : touches_nothing (Prove c.in-Prove.absent c.in-Prove.path) ≡ true = ap touches_nothing (sym c.in-Prove.is) ∙ e in cc);
      };
    }
