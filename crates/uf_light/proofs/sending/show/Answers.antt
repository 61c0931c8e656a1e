use Rattle.std.proofs.Common.{◌≡◌, ◌^◌, ◌-◌, ◌∙◌, Bool, Option, None, Some, Result, Ok, inl, inr, ap, arith, subst, sym}
use Rattle.std.proofs.lemmas.Result.{err_from_is_err_and}
use Rattle.uf_fileread.specs.Ranges.{blocks_read}
use Rattle.uf_store.proofs.Calls.{reads-by, reads-reads, shown-rises, stood-back, stood-front}
use Rattle.uf_store.specs.Calls.{OnlyReads}
use Rattle.uf_store.specs.Keeping.{Agrees}
use Rattle.uf_store.specs.Lost.{IsLossOf}
use Rattle.uf_tree.specs.declared.nodes.Entry.{Entry}
use Rattle.uf_tree.specs.FilePlan.{file_plan}
use Rattle.uf_tree.specs.Validity.{IsHash}
use Rattle.uf_plain.specs.Edits.{at}
use Rattle.uf_plain.specs.Needs.{way}
use Rattle.uf_light.specs.declared.fault.LightFault.{LightFault}
use Rattle.uf_light.specs.declared.fault.LightFault.TheVariants as fault
use Rattle.uf_light.proofs.First.{first-absent, first-still}
use Rattle.uf_edge.specs.Counts.{Stood}
use Rattle.uf_fileread.proofs.Sending.{prefix-none}
use Rattle.uf_light.specs.Answers.{light_fault}
use Rattle.uf_light.specs.Bad.{IsBadLight}
use Rattle.uf_light.specs.FileCids.{IsBadInSome}
use Rattle.uf_light.specs.Light.{absent_text, light_says}
use Rattle.uf_light.proofs.Below.{follows, if-ok, line-sent, none-absent}
use Rattle.uf_light.proofs.Blaming.{root-bad, under-bad}
use Rattle.uf_light.proofs.Fronts.{front-absent, front-said}
use Rattle.uf_light.specs.Met.{wanted_of}
use Rattle.uf_light.specs.Sending.{SendsFile}
use Rattle.uf_light.specs.Standing.{IsAgreedThing, IsMet}
use Rattle.uf_light.proofs.Files.{is-file, plan-agrees}
use Rattle.uf_light.proofs.Finding.{root-loss-way}
use Rattle.uf_light.proofs.Showing.{height-of, show-file, show-lost}
use Rattle.uf_light.proofs.Wanting.{IsFileWanted, IsNoneWanted, wanted-ok}
use Rattle.uf_light.proofs.sending.show.Goals as goal

pub returns-in_err-thing-clause-accepts : goal.returns-in_err-thing-clause-accepts
returns-in_err-thing-clause-accepts g c = λ p t height s stood tall.
    let X = g.S.X.BlockHash.block32 in let N = g.N.NameHash.name64 in let a = g.S.Store.seen c.args.store.now in
    let good : IsHash X = record { size = g.met.S.X.BlockHash.size; are_bytes = g.met.S.X.BlockHash.are_bytes } in
    let out = err_from_is_err_and c.from_residual.result c.from_residual.ensures.1 in
    rw (out.1, out.2) (show-lost X N a.told p c.args.names.now t c.args.absent height (g.O.Sink.holds c.args.out.now) (g.O.Sink.holds c.args.out.now) c.in_err-thing.field-0.0
    (root-loss-way X N p good a.told c.args.names.now t c.in_err-thing.field-0.0 (c.in_err-thing.ensures.thing p t s stood)))

pub returns-in_err-met-clause-accepts : goal.returns-in_err-met-clause-accepts
returns-in_err-met-clause-accepts g c = λ p t height s stood tall.
    let X = g.S.X.BlockHash.block32 in let N = g.N.NameHash.name64 in
    let a = g.S.Store.seen c.args.store.now in let b = g.S.Store.seen c.thing_of.new.store in let d = g.S.Store.seen c.look.new.store in
    let same = c.in_ok-thing.ensures.reads.told in let calm = c.in_ok-thing.ensures.reads.cause.faults in
    let front = stood-front a.faults b.faults d.faults calm (shown-rises X _ (Some c.in_err-met.field-0.0) b d c.in_err-met.ensures.reads.cause).faults stood in
    let back = stood-back a.faults b.faults d.faults calm stood in
    let out = err_from_is_err_and c.from_residual-in_err-met.result c.from_residual-in_err-met.ensures.1 in
    rw (out.1, out.2) (show-lost X N a.told p c.args.names.now t c.args.absent height (g.O.Sink.holds c.args.out.now) (g.O.Sink.holds c.args.out.now) c.in_err-met.field-0.0
    (subst (λ told. IsLossOf told (way X N p c.args.names.now t) c.in_err-met.field-0.0) same
    (c.in_err-met.ensures.looks p t (subst (λ told. IsAgreedThing X N told p t c.in_ok-thing.thing) (sym same) (c.in_ok-thing.ensures.thing p t s front)) back)))

pub returns-in-Some-clause-accepts : goal.returns-in-Some-clause-accepts
returns-in-Some-clause-accepts g c = λ p t height s stood tall.
    let X = g.S.X.BlockHash.block32 in let N = g.N.NameHash.name64 in let names = c.args.names.now in
    let a = g.S.Store.seen c.args.store.now in let b = g.S.Store.seen c.thing_of.new.store in let d = g.S.Store.seen c.look.new.store in let e = g.S.Store.seen c.send_file.new.store in
    let first = c.in_ok-thing.ensures.reads.told in let second = c.in_ok-met.ensures.reads.told in
    let fb = c.in_ok-thing.ensures.reads.cause.faults in let fd = c.in_ok-met.ensures.reads.cause.faults in
    let fe = (shown-rises X _ (light_fault c.send_file.result) d e c.send_file.ensures.reads.cause).faults in
    let front = stood-front a.faults b.faults e.faults fb (omega (arith, fd, fe)) stood in
    let after = stood-back a.faults b.faults e.faults fb stood in
    let mid = stood-front b.faults d.faults e.faults fd fe after in
    let back = stood-back b.faults d.faults e.faults fd after in
    let met : IsMet X N a.told p (at 0 names t) c.in_ok-met.met = subst (λ told. IsMet X N told p (at 0 names t) c.in_ok-met.met) first
    (c.in_ok-met.ensures.looks p t (subst (λ told. IsAgreedThing X N told p t c.in_ok-thing.thing) (sym first) (c.in_ok-thing.ensures.thing p t s front)) mid) in
    let is : ◌≡◌ {A = Result (Option Entry) LightFault} (wanted_of c.args.absent c.in_ok-met.met) (Ok (Some c.in-Some.file)) = sym c.in_ok-file.ensures ∙ ap (λ (o : Option Entry). Ok o) c.in-Some.is in
    let w : IsFileWanted X N a.told p names c.args.absent (at 0 names t) c.in-Some.file = wanted-ok X N a.told p names c.args.absent (at 0 names t) c.in_ok-met.met (Some c.in-Some.file) met is in
    let blocks = blocks_read X p.chunk p.width w.meta height 0 (2 ^ 64 - 1) w.bytes in
    let file = is-file X N p c.in-Some.file.cid w.meta w.bytes w.agreed.plan height (height-of X N a.told p names t c.args.absent height (g.O.Sink.holds c.args.out.now) (g.O.Sink.holds c.send_file.new.out) w.meta w.bytes w.is tall) in
    let agrees = plan-agrees X N p c.in-Some.file.cid w.meta w.bytes w.agreed.plan a.told w.agreed.agrees in
    show-file X N a.told p names t c.args.absent height (g.O.Sink.holds c.args.out.now) (g.O.Sink.holds c.send_file.new.out) c.in-Some.file c.send_file.result w
    (subst (λ told. SendsFile told blocks w.bytes c.send_file.result (g.O.Sink.holds c.args.out.now) (g.O.Sink.holds c.send_file.new.out)) (second ∙ first)
    (c.send_file.ensures.sends p w.meta w.bytes height file (subst (λ told. Agrees told (file_plan X p w.meta w.bytes).blocks) (sym (second ∙ first)) agrees) back))

pub returns-in-Some-clause-prefix : goal.returns-in-Some-clause-prefix
returns-in-Some-clause-prefix g c = λ p t height s low tall.
    let X = g.S.X.BlockHash.block32 in let N = g.N.NameHash.name64 in let names = c.args.names.now in
    let a = g.S.Store.seen c.args.store.now in let b = g.S.Store.seen c.thing_of.new.store in let d = g.S.Store.seen c.look.new.store in
    let first = c.in_ok-thing.ensures.reads.told in let second = c.in_ok-met.ensures.reads.told in
    let fb = c.in_ok-thing.ensures.reads.cause.faults in let fd = c.in_ok-met.ensures.reads.cause.faults in
    let front : Stood a.faults b.faults = omega (arith, fb, low) in
    let mid : Stood b.faults d.faults = omega (arith, fb, fd, low) in
    let met : IsMet X N a.told p (at 0 names t) c.in_ok-met.met = subst (λ told. IsMet X N told p (at 0 names t) c.in_ok-met.met) first
    (c.in_ok-met.ensures.looks p t (subst (λ told. IsAgreedThing X N told p t c.in_ok-thing.thing) (sym first) (c.in_ok-thing.ensures.thing p t s front)) mid) in
    let is : ◌≡◌ {A = Result (Option Entry) LightFault} (wanted_of c.args.absent c.in_ok-met.met) (Ok (Some c.in-Some.file)) = sym c.in_ok-file.ensures ∙ ap (λ (o : Option Entry). Ok o) c.in-Some.is in
    let w : IsFileWanted X N a.told p names c.args.absent (at 0 names t) c.in-Some.file = wanted-ok X N a.told p names c.args.absent (at 0 names t) c.in_ok-met.met (Some c.in-Some.file) met is in
    let file = is-file X N p c.in-Some.file.cid w.meta w.bytes w.agreed.plan height (height-of X N a.told p names t c.args.absent height (g.O.Sink.holds c.args.out.now) (g.O.Sink.holds c.send_file.new.out) w.meta w.bytes w.is tall) in
    let agrees = plan-agrees X N p c.in-Some.file.cid w.meta w.bytes w.agreed.plan a.told w.agreed.agrees in
    front-said (light_says c.args.absent names (at 0 names t)) w.bytes (g.O.Sink.holds c.args.out.now) (g.O.Sink.holds c.send_file.new.out) w.says
    (c.send_file.ensures.prefix p w.meta w.bytes height file (subst (λ told. Agrees told (file_plan X p w.meta w.bytes).blocks) (sym (second ∙ first)) agrees) (omega (arith, fb, fd, low)))

pub returns-in-None-clause-prefix : goal.returns-in-None-clause-prefix
returns-in-None-clause-prefix g c = λ p t height s low tall.
    let X = g.S.X.BlockHash.block32 in let N = g.N.NameHash.name64 in let names = c.args.names.now in
    let a = g.S.Store.seen c.args.store.now in let b = g.S.Store.seen c.thing_of.new.store in let d = g.S.Store.seen c.look.new.store in
    let first = c.in_ok-thing.ensures.reads.told in
    let fb = c.in_ok-thing.ensures.reads.cause.faults in let fd = c.in_ok-met.ensures.reads.cause.faults in
    let front : Stood a.faults b.faults = omega (arith, fb, low) in
    let mid : Stood b.faults d.faults = omega (arith, fb, fd, low) in
    let met : IsMet X N a.told p (at 0 names t) c.in_ok-met.met = subst (λ told. IsMet X N told p (at 0 names t) c.in_ok-met.met) first
    (c.in_ok-met.ensures.looks p t (subst (λ told. IsAgreedThing X N told p t c.in_ok-thing.thing) (sym first) (c.in_ok-thing.ensures.thing p t s front)) mid) in
    let is : ◌≡◌ {A = Result (Option Entry) LightFault} (wanted_of c.args.absent c.in_ok-met.met) (Ok None) = sym c.in_ok-file.ensures ∙ ap (λ (o : Option Entry). Ok o) c.in-None.is in
    let w : IsNoneWanted X N a.told p names c.args.absent (at 0 names t) = wanted-ok X N a.told p names c.args.absent (at 0 names t) c.in_ok-met.met None met is in
    front-said (light_says c.args.absent names (at 0 names t)) (absent_text names) (g.O.Sink.holds c.args.out.now) (g.O.Sink.holds c.send_absent.new.out) w.says
    (front-absent (absent_text names) c.send_absent.result (g.O.Sink.holds c.args.out.now) (g.O.Sink.holds c.send_absent.new.out) c.send_absent.ensures.sends)

pub returns-in_err-thing-clause-prefix : goal.returns-in_err-thing-clause-prefix
returns-in_err-thing-clause-prefix g c = λ p t height s low tall. prefix-none _ _

pub returns-in_err-met-clause-prefix : goal.returns-in_err-met-clause-prefix
returns-in_err-met-clause-prefix g c = λ p t height s low tall. prefix-none _ _

pub returns-in_err-file-clause-prefix : goal.returns-in_err-file-clause-prefix
returns-in_err-file-clause-prefix g c = λ p t height s low tall. prefix-none _ _

pub returns-in_err-thing-clause-reads : goal.returns-in_err-thing-clause-reads
returns-in_err-thing-clause-reads g c =
    let X = g.S.X.BlockHash.block32 in let N = g.N.NameHash.name64 in let root = c.args.root.now in
    let out = err_from_is_err_and c.from_residual.result c.from_residual.ensures.1 in
    rw (out.1, out.2) (reads-by (IsBadLight X N (g.S.Store.seen c.args.store.now).told root) (λ role bytes bad. inl (root-bad X N root role bytes bad)) c.in_err-thing.ensures.reads)

pub returns-in_err-met-clause-reads : goal.returns-in_err-met-clause-reads
returns-in_err-met-clause-reads g c =
    let X = g.S.X.BlockHash.block32 in let N = g.N.NameHash.name64 in let root = c.args.root.now in
    let out = err_from_is_err_and c.from_residual-in_err-met.result c.from_residual-in_err-met.ensures.1 in
    rw (out.1, out.2) (reads-reads c.in_ok-thing.ensures.reads (reads-by (IsBadLight X N (g.S.Store.seen c.args.store.now).told root)
    (λ role bytes bad. inl (under-bad X N root c.in_ok-thing.thing (c.in_ok-thing.ensures.required root) role bytes bad)) c.in_err-met.ensures.reads))

pub returns-in-Some-clause-reads : goal.returns-in-Some-clause-reads
returns-in-Some-clause-reads g c =
    let X = g.S.X.BlockHash.block32 in let N = g.N.NameHash.name64 in let d = g.S.Store.seen c.look.new.store in let e = g.S.Store.seen c.send_file.new.store in
    let told = (g.S.Store.seen c.args.store.now).told in
    reads-reads c.in_ok-thing.ensures.reads (reads-reads c.in_ok-met.ensures.reads (reads-by (IsBadLight X N told c.args.root.now) (λ role bytes bad. inr bad)
    (subst (λ told. OnlyReads X (IsBadInSome told) (light_fault c.send_file.result) d e) (c.in_ok-met.ensures.reads.told ∙ c.in_ok-thing.ensures.reads.told) c.send_file.ensures.reads)))

pub returns-in_err-thing-clause-first : goal.returns-in_err-thing-clause-first
returns-in_err-thing-clause-first g c = λ p t height s stood tall.
    let out = err_from_is_err_and c.from_residual.result c.from_residual.ensures.1 in
    rw (out.1, out.2) (first-still (fault.Store c.in_err-thing.field-0.0) _)

pub returns-in_err-met-clause-first : goal.returns-in_err-met-clause-first
returns-in_err-met-clause-first g c = λ p t height s stood tall.
    let out = err_from_is_err_and c.from_residual-in_err-met.result c.from_residual-in_err-met.ensures.1 in
    rw (out.1, out.2) (first-still (fault.Store c.in_err-met.field-0.0) _)

pub returns-in_err-file-clause-first : goal.returns-in_err-file-clause-first
returns-in_err-file-clause-first g c = λ p t height s stood tall.
    let out = err_from_is_err_and c.from_residual-in_err-file.result c.from_residual-in_err-file.ensures.1 in
    rw (out.1, out.2) (first-still c.in_err-file.field-0.0 _)

pub returns-in-Some-clause-first : goal.returns-in-Some-clause-first
returns-in-Some-clause-first g c = λ p t height s stood tall.
    let X = g.S.X.BlockHash.block32 in let N = g.N.NameHash.name64 in let names = c.args.names.now in
    let a = g.S.Store.seen c.args.store.now in let b = g.S.Store.seen c.thing_of.new.store in let d = g.S.Store.seen c.look.new.store in let e = g.S.Store.seen c.send_file.new.store in
    let first = c.in_ok-thing.ensures.reads.told in let second = c.in_ok-met.ensures.reads.told in
    let fb = c.in_ok-thing.ensures.reads.cause.faults in let fd = c.in_ok-met.ensures.reads.cause.faults in
    let fe = (shown-rises X _ (light_fault c.send_file.result) d e c.send_file.ensures.reads.cause).faults in
    let front = stood-front a.faults b.faults e.faults fb (omega (arith, fd, fe)) stood in
    let after = stood-back a.faults b.faults e.faults fb stood in
    let mid = stood-front b.faults d.faults e.faults fd fe after in
    let back = stood-back b.faults d.faults e.faults fd after in
    let met : IsMet X N a.told p (at 0 names t) c.in_ok-met.met = subst (λ told. IsMet X N told p (at 0 names t) c.in_ok-met.met) first
    (c.in_ok-met.ensures.looks p t (subst (λ told. IsAgreedThing X N told p t c.in_ok-thing.thing) (sym first) (c.in_ok-thing.ensures.thing p t s front)) mid) in
    let is : ◌≡◌ {A = Result (Option Entry) LightFault} (wanted_of c.args.absent c.in_ok-met.met) (Ok (Some c.in-Some.file)) = sym c.in_ok-file.ensures ∙ ap (λ (o : Option Entry). Ok o) c.in-Some.is in
    let w : IsFileWanted X N a.told p names c.args.absent (at 0 names t) c.in-Some.file = wanted-ok X N a.told p names c.args.absent (at 0 names t) c.in_ok-met.met (Some c.in-Some.file) met is in
    let file = is-file X N p c.in-Some.file.cid w.meta w.bytes w.agreed.plan height (height-of X N a.told p names t c.args.absent height (g.O.Sink.holds c.args.out.now) (g.O.Sink.holds c.send_file.new.out) w.meta w.bytes w.is tall) in
    let agrees = plan-agrees X N p c.in-Some.file.cid w.meta w.bytes w.agreed.plan a.told w.agreed.agrees in
    c.send_file.ensures.first p w.meta w.bytes height file (subst (λ told. Agrees told (file_plan X p w.meta w.bytes).blocks) (sym (second ∙ first)) agrees) back

pub returns-in-None-clause-first : goal.returns-in-None-clause-first
returns-in-None-clause-first g c = λ p t height s stood tall. first-absent (absent_text c.args.names.now) c.send_absent.result _ _ c.send_absent.ensures.sends

pub returns-in-Some-clause-root : goal.returns-in-Some-clause-root
returns-in-Some-clause-root g c =
    if-ok c.send_file.result (follows g.S.X.BlockHash.block32 (g.S.Store.seen c.args.store.now).told c.args.root.now c.args.absent c.in_ok-thing.thing c.args.names.now c.in_ok-met.met c.in_ok-file.field-0 c.in_ok-thing.ensures.seen c.in_ok-met.ensures.ends (sym c.in_ok-file.ensures))

pub returns-in-None-clause-root : goal.returns-in-None-clause-root
returns-in-None-clause-root g c =
    if-ok c.send_absent.result (follows g.S.X.BlockHash.block32 (g.S.Store.seen c.args.store.now).told c.args.root.now c.args.absent c.in_ok-thing.thing c.args.names.now c.in_ok-met.met c.in_ok-file.field-0 c.in_ok-thing.ensures.seen c.in_ok-met.ensures.ends (sym c.in_ok-file.ensures))

pub returns-in-Some-clause-line : goal.returns-in-Some-clause-line
returns-in-Some-clause-line g c = λ absent.
    let is : ◌≡◌ {A = Result (Option Entry) LightFault} (wanted_of c.args.absent c.in_ok-met.met) (Ok (Some c.in-Some.file)) = sym c.in_ok-file.ensures ∙ ap (λ (o : Option Entry). Ok o) c.in-Some.is in
    absurd (none-absent c.in_ok-met.met c.in-Some.file (subst (λ (b : Bool). ◌≡◌ {A = Result (Option Entry) LightFault} (wanted_of b c.in_ok-met.met) (Ok (Some c.in-Some.file))) absent is))

pub returns-in-None-clause-line : goal.returns-in-None-clause-line
returns-in-None-clause-line g c = λ absent. line-sent (absent_text c.args.names.now) c.send_absent.result _ _ c.send_absent.ensures.sends
