use Rattle.std.proofs.Common.{Err, Ok, Result, ap, inr, rules, subst, sym, ◌⊎◌}
use Rattle.uf_car.specs.Exporting.{WritesAll}
use Rattle.uf_car.specs.Reading.{car_read}
use Rattle.uf_edge.specs.Streams.{AppendsPrefix}
use Rattle.uf_fileread.proofs.Sending.{prefix-none}
use Rattle.uf_plain.specs.Edits.{at}
use Rattle.uf_plain.specs.Needs.{needs_at}
use Rattle.uf_store.specs.InMemory.{memory_seen}
use Rattle.uf_store.specs.Seen.{Seen}
use Rattle.uf_tree.specs.TreePlan.{blocks}
use Rattle.uf_tree.specs.Validity.{IsHash}
use Rattle.uf_light.specs.Along.{ChecksPath}
use Rattle.uf_light.specs.Answers.{Accepts, ClashesWithPlan, CountsSink, IsOwnFault, file_needs}
use Rattle.uf_light.specs.Below.{HasNames}
use Rattle.uf_light.specs.Checking.{reading_fault}
use Rattle.uf_light.specs.Light.{HasHeight, absent_text, light_says, said_bytes}
use Rattle.uf_light.specs.Opening.{IsStopOr}
use Rattle.uf_light.specs.Sections.{AnswersTree, IsOkOrMemory, ShownBySections}
use Rattle.uf_light.specs.Sending.{ComesFirst}
use Rattle.uf_light.specs.declared.fault.LightFault.{LightFault}
use Rattle.uf_light.proofs.Accepted.{not-counted, opening-stops, proof-is-accepted, proof-is-opened, reads-behind, sink-as}
use Rattle.uf_light.proofs.First.{first-still}
use Rattle.uf_light.proofs.Judging.{judges-err, judges-first, judges-front, judges-ok, keeps-own, reads-own, shows-err, shows-root}
use Rattle.uf_light.proofs.checking.check_in.Goals as goal

pub returns-in-Err : goal.returns-in-Err
returns-in-Err g c =
    let X = g.X.BlockHash.block32 in let N = g.N.NameHash.name64 in let a = c.args.asked.now in
    record {
      opens = search rules;
      tree = search rules;
      accepts = λ said bytes proof few left calm still.
          let hash : IsHash X = record { size = g.met.X.BlockHash.size; are_bytes = g.met.X.BlockHash.are_bytes } in
          let opens = c.in-Err.ensures.opens bytes left (ap (λ (s : Seen). s.told) c.requires.empty) in
          subst (λ (f : LightFault). IsOkOrMemory (Err f)) (sym c.keeping_fault.ensures)
          (opening-stops c.in-Err.fault (subst (λ (s : Result Unit LightFault). IsStopOr s c.in-Err.fault) (proof-is-opened X hash N a.root a.names a.absent c.args.limit said bytes proof few) opens.says)
          (not-counted _ _ _ c.in-Err.ensures.counts calm));
      prefix = λ bytes p t height left is tall. inr (prefix-none _ _);
      some = search rules;
      first = λ bytes p t height left is tall. inr (first-still c.keeping_fault.result _);
      root = search rules;
      line = search rules;
      shown = search rules;
      own = subst (IsOwnFault X) (sym c.keeping_fault.ensures) (keeps-own X c.in-Err.fault _ _ c.in-Err.ensures.cause);
      read = search rules;
      sent = search rules;
    }

pub returns-in-Err-show : goal.returns-in-Err-show
returns-in-Err-show g c =
    let X = g.X.BlockHash.block32 in let N = g.N.NameHash.name64 in let a = c.args.asked.now in
    let out = g.O.Sink.holds c.args.out.now in let out_now = g.O.Sink.holds c.show.new.out in
    let fault = c.in-Err-show.fault in let shows = c.in-Err-show.ensures in
    let tree : ChecksPath X N a c.args.limit (g.I.Source.left c.args.input.now) (Err c.reading_fault.result) out out_now = λ bytes p t height left is tall.
    let car = car_read X c.args.limit bytes in
    let needs = needs_at X N p (file_needs X p height) a.names t in let said = light_says a.absent a.names (at 0 a.names t) in
    subst (λ (f : LightFault). AnswersTree X car.sections (blocks X N p t) needs said (Err f) out out_now) (sym c.reading_fault.ensures)
    (λ behind. judges-err X N a.root car (memory_seen c.args.store.now) (memory_seen c.open.new.store) (memory_seen c.show.new.store) c.requires.empty c.in-Ok.ensures.cause c.in-Ok.ensures.saves (c.in-Ok.ensures.opens bytes left (ap (λ (s : Seen). s.told) c.requires.empty))
    p t is needs said out out_now fault shows.reads (λ agreed stood. subst (λ l. Accepts (memory_seen c.open.new.store).told (needs_at X N p (file_needs X p height) l t) (light_says a.absent l (at 0 l t)) (Err fault) out out_now) c.as_slice-names.ensures
    (shows.accepts p t height agreed stood (subst (λ l. HasHeight p height (at 0 l t)) (sym c.as_slice-names.ensures) tall)))) in
    record {
      opens = search rules;
      tree = tree;
      accepts = λ said bytes proof few left calm still.
          let hash : IsHash X = record { size = g.met.X.BlockHash.size; are_bytes = g.met.X.BlockHash.are_bytes } in
          subst (λ (f : LightFault). IsOkOrMemory (Err f)) (sym c.reading_fault.ensures)
          (proof-is-accepted X hash N a.root a.names a.absent c.args.limit said bytes proof few (Err (reading_fault fault)) out out_now
          (g.O.Sink.faults c.args.out.now) (g.O.Sink.faults c.show.new.out) (reads-behind fault shows.behind)
          (subst (λ (f : LightFault). AnswersTree X (car_read X c.args.limit bytes).sections (blocks X N proof.p proof.t) (needs_at X N proof.p (file_needs X proof.p proof.height) a.names proof.t)
          (light_says a.absent a.names (at 0 a.names proof.t)) (Err f) out out_now) c.reading_fault.ensures (tree bytes proof.p proof.t proof.height left proof.tree proof.tall))
          (subst (λ b. CountsSink b (g.O.Sink.faults c.args.out.now) (g.O.Sink.faults c.show.new.out)) (sym (sink-as fault)) shows.counts) still);
      prefix = λ bytes p t height left is tall.
          let car = car_read X c.args.limit bytes in
          let needs = needs_at X N p (file_needs X p height) a.names t in let said = light_says a.absent a.names (at 0 a.names t) in
          judges-front X N a.root car (memory_seen c.args.store.now) (memory_seen c.open.new.store) (memory_seen c.show.new.store) c.requires.empty c.in-Ok.ensures.cause c.in-Ok.ensures.saves (c.in-Ok.ensures.opens bytes left (ap (λ (s : Seen). s.told) c.requires.empty))
          p t is needs said out out_now (said_bytes said) (λ agreed low. subst (λ l. AppendsPrefix (said_bytes (light_says a.absent l (at 0 l t))) out out_now) c.as_slice-names.ensures
          (shows.prefix p t height agreed low (subst (λ l. HasHeight p height (at 0 l t)) (sym c.as_slice-names.ensures) tall)));
      some = shows.some;
      first = λ bytes p t height left is tall.
          let car = car_read X c.args.limit bytes in
          let needs = needs_at X N p (file_needs X p height) a.names t in let said = light_says a.absent a.names (at 0 a.names t) in
          subst (λ (f : LightFault). ClashesWithPlan X (blocks X N p t) car.sections ⊎ ComesFirst (Err f) out out_now) (sym c.reading_fault.ensures)
          (judges-first X N a.root car (memory_seen c.args.store.now) (memory_seen c.open.new.store) (memory_seen c.show.new.store) c.requires.empty c.in-Ok.ensures.cause c.in-Ok.ensures.saves (c.in-Ok.ensures.opens bytes left (ap (λ (s : Seen). s.told) c.requires.empty))
          p t is needs said out out_now fault shows.reads (λ agreed stood. subst (λ l. ComesFirst (Err fault) out out_now) c.as_slice-names.ensures
          (shows.first p t height agreed stood (subst (λ l. HasHeight p height (at 0 l t)) (sym c.as_slice-names.ensures) tall))));
      root = search rules;
      line = search rules;
      shown = λ bytes left.
          let car = car_read X c.args.limit bytes in
          subst (λ (f : LightFault). ShownBySections X N a.root car.sections (Err f)) (sym c.reading_fault.ensures)
          (shows-err X N a.root car (memory_seen c.args.store.now) (memory_seen c.open.new.store) (memory_seen c.show.new.store) c.requires.empty c.in-Ok.ensures.cause c.in-Ok.ensures.saves (c.in-Ok.ensures.opens bytes left (ap (λ (s : Seen). s.told) c.requires.empty))
          fault shows.reads);
      own = subst (IsOwnFault X) (sym c.reading_fault.ensures) (reads-own X fault);
      read = search rules;
      sent = search rules;
    }

pub returns-in-Ok-show : goal.returns-in-Ok-show
returns-in-Ok-show g c =
    let X = g.X.BlockHash.block32 in let N = g.N.NameHash.name64 in let a = c.args.asked.now in
    let out = g.O.Sink.holds c.args.out.now in let out_now = g.O.Sink.holds c.show.new.out in
    let shows = c.in-Ok-show.ensures in
    record {
      opens = search rules;
      tree = λ bytes p t height left is tall behind.
          let car = car_read X c.args.limit bytes in
          let needs = needs_at X N p (file_needs X p height) a.names t in let said = light_says a.absent a.names (at 0 a.names t) in
          judges-ok X N a.root car (memory_seen c.args.store.now) (memory_seen c.open.new.store) (memory_seen c.show.new.store) c.requires.empty c.in-Ok.ensures.cause c.in-Ok.ensures.saves (c.in-Ok.ensures.opens bytes left (ap (λ (s : Seen). s.told) c.requires.empty))
          p t is needs said out out_now c.in-Ok-show.count shows.reads (λ agreed stood. subst (λ l. Accepts (memory_seen c.open.new.store).told (needs_at X N p (file_needs X p height) l t) (light_says a.absent l (at 0 l t)) (Ok c.in-Ok-show.count) out out_now) c.as_slice-names.ensures
          (shows.accepts p t height agreed stood (subst (λ l. HasHeight p height (at 0 l t)) (sym c.as_slice-names.ensures) tall)));
      accepts = search rules;
      prefix = λ bytes p t height left is tall.
          let car = car_read X c.args.limit bytes in
          let needs = needs_at X N p (file_needs X p height) a.names t in let said = light_says a.absent a.names (at 0 a.names t) in
          judges-front X N a.root car (memory_seen c.args.store.now) (memory_seen c.open.new.store) (memory_seen c.show.new.store) c.requires.empty c.in-Ok.ensures.cause c.in-Ok.ensures.saves (c.in-Ok.ensures.opens bytes left (ap (λ (s : Seen). s.told) c.requires.empty))
          p t is needs said out out_now (said_bytes said) (λ agreed low. subst (λ l. AppendsPrefix (said_bytes (light_says a.absent l (at 0 l t))) out out_now) c.as_slice-names.ensures
          (shows.prefix p t height agreed low (subst (λ l. HasHeight p height (at 0 l t)) (sym c.as_slice-names.ensures) tall)));
      some = shows.some;
      first = λ bytes p t height left is tall. inr tt;
      root = λ bytes left.
          let car = car_read X c.args.limit bytes in
          shows-root X N a.root car (memory_seen c.args.store.now) (memory_seen c.open.new.store) (memory_seen c.show.new.store) c.requires.empty c.in-Ok.ensures.cause c.in-Ok.ensures.saves (c.in-Ok.ensures.opens bytes left (ap (λ (s : Seen). s.told) c.requires.empty))
          a.names (subst (λ l. HasNames X (memory_seen c.open.new.store).told a.root l) c.as_slice-names.ensures shows.root);
      line = λ absent. subst (λ l. WritesAll (absent_text l) c.in-Ok-show.count out out_now) c.as_slice-names.ensures (shows.line absent);
      shown = search rules;
      own = search rules;
      read = search rules;
      sent = search rules;
    }
