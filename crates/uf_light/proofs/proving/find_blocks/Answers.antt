use Rattle.std.proofs.Common.{Err, None, Ok, Some, [], ap, arith, fold, inl, inr, subst, sym, ◌∙◌}
use Rattle.std.proofs.lemmas.Result.{err_from_is_err_and}
use Rattle.uf_store.proofs.Calls.{reads-by, reads-reads, shown-rises, stood-back, stood-front}
use Rattle.uf_store.specs.Calls.{OnlyReads}
use Rattle.uf_store.specs.Keeping.{Agrees}
use Rattle.uf_store.specs.Lost.{IsLossOf}
use Rattle.uf_tree.specs.FilePlan.{file_plan}
use Rattle.uf_tree.specs.FileSub.{whole_blocks}
use Rattle.uf_tree.specs.Validity.{IsHash}
use Rattle.uf_plain.specs.Edits.{at}
use Rattle.uf_plain.specs.Needs.{way}
use Rattle.uf_light.specs.Answers.{light_fault}
use Rattle.uf_light.specs.Bad.{IsBadLight}
use Rattle.uf_light.specs.FileCids.{IsBadInSome}
use Rattle.uf_light.proofs.Blaming.{reads-none, root-bad, under-bad}
use Rattle.uf_light.specs.Gathered.{AddsBlocks, Gathered}
use Rattle.uf_light.specs.Light.{cid_once, light_order, light_says, trails}
use Rattle.uf_light.specs.Needs.{proof_needs}
use Rattle.uf_light.specs.Standing.{IsAgreedThing, IsMet}
use Rattle.uf_light.proofs.Wanting.{wanted-err, wanted-ok}
use Rattle.uf_light.proofs.Plainly.{plain-finds, plain-of}
use Rattle.uf_light.proofs.Proved.{add-few, add-says, file-lost, found-order, root-lost, way-lost}
use Rattle.uf_light.proofs.proving.find_blocks.Goals as goal

pub returns-in_err-thing-clause-finds : goal.returns-in_err-thing-clause-finds
returns-in_err-thing-clause-finds g c = λ p t height s stood tall.
    let X = g.S.X.BlockHash.block32 in let N = g.N.NameHash.name64 in let told = (g.S.Store.seen c.args.store.now).told in
    let good : IsHash X = record { size = g.met.S.X.BlockHash.size; are_bytes = g.met.S.X.BlockHash.are_bytes } in
    let out = err_from_is_err_and c.from_residual.result c.from_residual.ensures.1 in
    rw (out.1, out.2) (root-lost X N told p c.args.names.now c.args.absent height t good c.in_err-thing.field-0.0 (c.in_err-thing.ensures.thing p t s stood))

pub returns-in_err-met-clause-finds : goal.returns-in_err-met-clause-finds
returns-in_err-met-clause-finds g c = λ p t height s stood tall.
    let X = g.S.X.BlockHash.block32 in let N = g.N.NameHash.name64 in
    let a = g.S.Store.seen c.args.store.now in let b = g.S.Store.seen c.thing_of.new.store in let d = g.S.Store.seen c.gather.new.store in
    let same = c.in_ok-thing.ensures.reads.told in let calm = c.in_ok-thing.ensures.reads.cause.faults in
    let front = stood-front a.faults b.faults d.faults calm (shown-rises X _ (Some c.in_err-met.field-0.0) b d c.in_err-met.ensures.reads.cause).faults stood in
    let back = stood-back a.faults b.faults d.faults calm stood in
    let out = err_from_is_err_and c.from_residual-in_err-met.result c.from_residual-in_err-met.ensures.1 in
    rw (out.1, out.2) (way-lost X N a.told p c.args.names.now c.args.absent height t c.in_err-met.field-0.0 (subst (λ told. IsLossOf told (way X N p c.args.names.now t) c.in_err-met.field-0.0) same
    (c.in_err-met.ensures.gathers p t (subst (λ told. IsAgreedThing X N told p t c.in_ok-thing.thing) (sym same) (c.in_ok-thing.ensures.thing p t s front)) back)))

pub returns-in_err-file-clause-finds : goal.returns-in_err-file-clause-finds
returns-in_err-file-clause-finds g c = λ p t height s stood tall.
    let X = g.S.X.BlockHash.block32 in let N = g.N.NameHash.name64 in let names = c.args.names.now in
    let a = g.S.Store.seen c.args.store.now in let b = g.S.Store.seen c.thing_of.new.store in let d = g.S.Store.seen c.gather.new.store in
    let same = c.in_ok-thing.ensures.reads.told in let calm = c.in_ok-thing.ensures.reads.cause.faults in let fd = c.in_ok-met.ensures.reads.cause.faults in
    let front = stood-front a.faults b.faults d.faults calm (omega (arith, fd)) stood in
    let back = stood-back a.faults b.faults d.faults calm stood in
    let met : IsMet X N a.told p (at 0 names t) c.in_ok-met.met = subst (λ told. IsMet X N told p (at 0 names t) c.in_ok-met.met) same
    (c.in_ok-met.ensures.gathers p t (subst (λ told. IsAgreedThing X N told p t c.in_ok-thing.thing) (sym same) (c.in_ok-thing.ensures.thing p t s front)) back).0 in
    let f = c.in_err-file.field-0.0 in
    let out = err_from_is_err_and c.from_residual-in_err-file.result c.from_residual-in_err-file.ensures.1 in
    rw (out.1, out.2) (plain-finds a.told (light_says c.args.absent names (at 0 names t)) None None (proof_needs X N p height c.args.absent names t) (light_order X N p height names t) f (plain-of c.args.absent c.in_ok-met.met f (sym c.in_err-file.ensures))
    (wanted-err X N a.told p names c.args.absent (at 0 names t) c.in_ok-met.met f met (sym c.in_err-file.ensures)))

pub returns-in_err-add_file-clause-finds : goal.returns-in_err-add_file-clause-finds
returns-in_err-add_file-clause-finds g c = λ p t height s stood tall.
    let X = g.S.X.BlockHash.block32 in let N = g.N.NameHash.name64 in let names = c.args.names.now in
    let a = g.S.Store.seen c.args.store.now in let b = g.S.Store.seen c.thing_of.new.store in let d = g.S.Store.seen c.gather.new.store in let e = g.S.Store.seen c.add_file.new.store in
    let first = c.in_ok-thing.ensures.reads.told in let second = c.in_ok-met.ensures.reads.told in
    let fb = c.in_ok-thing.ensures.reads.cause.faults in let fd = c.in_ok-met.ensures.reads.cause.faults in
    let f = c.in_err-add_file.field-0.0 in
    let fe = (shown-rises X _ (light_fault {A = Unit {0}} (Err f)) d e c.in_err-add_file.ensures.reads.cause).faults in
    let front = stood-front a.faults b.faults e.faults fb (omega (arith, fd, fe)) stood in
    let after = stood-back a.faults b.faults e.faults fb stood in
    let mid = stood-front b.faults d.faults e.faults fd fe after in
    let back = stood-back b.faults d.faults e.faults fd after in
    let met : IsMet X N a.told p (at 0 names t) c.in_ok-met.met = subst (λ told. IsMet X N told p (at 0 names t) c.in_ok-met.met) first
    (c.in_ok-met.ensures.gathers p t (subst (λ told. IsAgreedThing X N told p t c.in_ok-thing.thing) (sym first) (c.in_ok-thing.ensures.thing p t s front)) mid).0 in
    let w = wanted-ok X N a.told p names c.args.absent (at 0 names t) c.in_ok-met.met c.in_ok-file.file met (sym c.in_ok-file.ensures) in
    let adds = add-says X N a.told p names c.args.absent height (at 0 names t) c.in_ok-file.file c.gather.new.cids c.add_file.new.cids (Err f) w tall
    (λ none. subst (λ told. AddsBlocks told [] c.gather.new.cids c.add_file.new.cids (Err f)) (second ∙ first) (c.in_err-add_file.ensures.none none))
    (λ entry m bytes is i agrees. subst (λ told. AddsBlocks told (whole_blocks X p.chunk p.width m height bytes) c.gather.new.cids c.add_file.new.cids (Err f)) (second ∙ first)
    (c.in_err-add_file.ensures.some entry p m bytes height is i (subst (λ told. Agrees told (file_plan X p m bytes).blocks) (sym (second ∙ first)) agrees) back)) in
    let out = err_from_is_err_and c.from_residual-in_err-add_file.result c.from_residual-in_err-add_file.ensures.1 in
    rw (out.1, out.2) (file-lost X N a.told p names c.args.absent height t c.in_ok-file.file c.gather.new.cids c.add_file.new.cids f w adds)

pub returns-clause-finds : goal.returns-clause-finds
returns-clause-finds g c = λ p t height s stood tall.
    let X = g.S.X.BlockHash.block32 in let N = g.N.NameHash.name64 in let names = c.args.names.now in
    let a = g.S.Store.seen c.args.store.now in let b = g.S.Store.seen c.thing_of.new.store in let d = g.S.Store.seen c.gather.new.store in let e = g.S.Store.seen c.add_file.new.store in
    let first = c.in_ok-thing.ensures.reads.told in let second = c.in_ok-met.ensures.reads.told in
    let fb = c.in_ok-thing.ensures.reads.cause.faults in let fd = c.in_ok-met.ensures.reads.cause.faults in
    let fe = c.in_ok-add_file.ensures.reads.cause.faults in
    let front = stood-front a.faults b.faults e.faults fb (omega (arith, fd, fe)) stood in
    let after = stood-back a.faults b.faults e.faults fb stood in
    let mid = stood-front b.faults d.faults e.faults fd (omega (arith, fe)) after in
    let back = stood-back b.faults d.faults e.faults fd after in
    let gathered = c.in_ok-met.ensures.gathers p t (subst (λ told. IsAgreedThing X N told p t c.in_ok-thing.thing) (sym first) (c.in_ok-thing.ensures.thing p t s front)) mid in
    let met : IsMet X N a.told p (at 0 names t) c.in_ok-met.met = subst (λ told. IsMet X N told p (at 0 names t) c.in_ok-met.met) first gathered.0 in
    let w = wanted-ok X N a.told p names c.args.absent (at 0 names t) c.in_ok-met.met c.in_ok-file.file met (sym c.in_ok-file.ensures) in
    let adds = add-says X N a.told p names c.args.absent height (at 0 names t) c.in_ok-file.file c.gather.new.cids c.add_file.new.cids (Ok tt) w tall
    (λ none. subst (λ told. AddsBlocks told [] c.gather.new.cids c.add_file.new.cids (Ok tt)) (second ∙ first) (c.in_ok-add_file.ensures.none none))
    (λ entry m bytes is i agrees. subst (λ told. AddsBlocks told (whole_blocks X p.chunk p.width m height bytes) c.gather.new.cids c.add_file.new.cids (Ok tt)) (second ∙ first)
    (c.in_ok-add_file.ensures.some entry p m bytes height is i (subst (λ told. Agrees told (file_plan X p m bytes).blocks) (sym (second ∙ first)) agrees) back)) in
    found-order X N a.told p names c.args.absent height t c.in_ok-file.file c.new-cids.result c.gather.new.cids c.add_file.new.cids c.in_ok-order.order c.new-cids.ensures w
    (subst (λ told. Gathered told (trails X N p names t) c.new-cids.result c.gather.new.cids) first gathered.1) adds (c.in_ok-order.ensures.once ∙ ap (fold cid_once []) c.as_slice.ensures)

pub returns-in_err-thing-clause-reads : goal.returns-in_err-thing-clause-reads
returns-in_err-thing-clause-reads g c =
    let X = g.S.X.BlockHash.block32 in let N = g.N.NameHash.name64 in let root = c.args.root.now.cid in
    let out = err_from_is_err_and c.from_residual.result c.from_residual.ensures.1 in
    rw (out.1, out.2) (reads-by (IsBadLight X N (g.S.Store.seen c.args.store.now).told root) (λ role bytes bad. inl (root-bad X N root role bytes bad)) c.in_err-thing.ensures.reads)

pub returns-in_err-met-clause-reads : goal.returns-in_err-met-clause-reads
returns-in_err-met-clause-reads g c =
    let X = g.S.X.BlockHash.block32 in let N = g.N.NameHash.name64 in let root = c.args.root.now.cid in
    let out = err_from_is_err_and c.from_residual-in_err-met.result c.from_residual-in_err-met.ensures.1 in
    rw (out.1, out.2) (reads-reads c.in_ok-thing.ensures.reads (reads-by (IsBadLight X N (g.S.Store.seen c.args.store.now).told root)
    (λ role bytes bad. inl (under-bad X N root c.in_ok-thing.thing (c.in_ok-thing.ensures.required root) role bytes bad)) c.in_err-met.ensures.reads))

pub returns-in_err-add_file-clause-reads : goal.returns-in_err-add_file-clause-reads
returns-in_err-add_file-clause-reads g c =
    let X = g.S.X.BlockHash.block32 in let N = g.N.NameHash.name64 in let d = g.S.Store.seen c.gather.new.store in let e = g.S.Store.seen c.add_file.new.store in
    let told = (g.S.Store.seen c.args.store.now).told in
    let same = c.in_ok-met.ensures.reads.told ∙ c.in_ok-thing.ensures.reads.told in
    let out = err_from_is_err_and c.from_residual-in_err-add_file.result c.from_residual-in_err-add_file.ensures.1 in
    rw (out.1, out.2) (reads-reads c.in_ok-thing.ensures.reads (reads-reads c.in_ok-met.ensures.reads (reads-by (IsBadLight X N told c.args.root.now.cid) (λ role bytes bad. inr bad)
    (subst (λ told. OnlyReads X (IsBadInSome told) (light_fault {A = Unit {0}} (Err c.in_err-add_file.field-0.0)) d e) same c.in_err-add_file.ensures.reads))))

pub returns-clause-reads : goal.returns-clause-reads
returns-clause-reads g c = reads-none (reads-reads c.in_ok-thing.ensures.reads (reads-reads c.in_ok-met.ensures.reads c.in_ok-add_file.ensures.reads))

pub returns-in_err-thing-clause-most : goal.returns-in_err-thing-clause-most
returns-in_err-thing-clause-most g c = λ p t height s stood tall. let one = c.in_err-thing.ensures.few in omega (arith, one)

pub returns-in_err-met-clause-most : goal.returns-in_err-met-clause-most
returns-in_err-met-clause-most g c = λ p t height s stood tall. let one = c.in_ok-thing.ensures.few in let way = c.in_err-met.ensures.few in omega (arith, one, way)

pub returns-in_err-file-clause-most : goal.returns-in_err-file-clause-most
returns-in_err-file-clause-most g c = λ p t height s stood tall. let one = c.in_ok-thing.ensures.few in let way = c.in_ok-met.ensures.few in omega (arith, one, way)

pub returns-in_err-add_file-clause-most : goal.returns-in_err-add_file-clause-most
returns-in_err-add_file-clause-most g c = λ p t height s stood tall.
    let X = g.S.X.BlockHash.block32 in let N = g.N.NameHash.name64 in let names = c.args.names.now in
    let a = g.S.Store.seen c.args.store.now in let b = g.S.Store.seen c.thing_of.new.store in let d = g.S.Store.seen c.gather.new.store in let e = g.S.Store.seen c.add_file.new.store in
    let first = c.in_ok-thing.ensures.reads.told in let second = c.in_ok-met.ensures.reads.told in
    let fb = c.in_ok-thing.ensures.reads.cause.faults in let fd = c.in_ok-met.ensures.reads.cause.faults in
    let fe = (shown-rises X _ (light_fault {A = Unit {0}} (Err c.in_err-add_file.field-0.0)) d e c.in_err-add_file.ensures.reads.cause).faults in
    let front = stood-front a.faults b.faults e.faults fb (omega (arith, fd, fe)) stood in
    let after = stood-back a.faults b.faults e.faults fb stood in
    let mid = stood-front b.faults d.faults e.faults fd (omega (arith, fe)) after in
    let back = stood-back b.faults d.faults e.faults fd after in
    let met : IsMet X N a.told p (at 0 names t) c.in_ok-met.met = subst (λ told. IsMet X N told p (at 0 names t) c.in_ok-met.met) first
    (c.in_ok-met.ensures.gathers p t (subst (λ told. IsAgreedThing X N told p t c.in_ok-thing.thing) (sym first) (c.in_ok-thing.ensures.thing p t s front)) mid).0 in
    let w = wanted-ok X N a.told p names c.args.absent (at 0 names t) c.in_ok-met.met c.in_ok-file.file met (sym c.in_ok-file.ensures) in
    let adds = add-few X N a.told p names c.args.absent height (at 0 names t) c.in_ok-file.file c.gather.new.touches c.add_file.new.touches w tall
    (λ none. c.in_err-add_file.ensures.untouched none)
    (λ entry m bytes is i agrees. c.in_err-add_file.ensures.few entry is p m bytes height i (subst (λ told. Agrees told (file_plan X p m bytes).blocks) (sym (second ∙ first)) agrees) back) in
    let one = c.in_ok-thing.ensures.few in let way = c.in_ok-met.ensures.few in
    omega (arith, adds, one, way)

pub returns-in_err-order-clause-most : goal.returns-in_err-order-clause-most
returns-in_err-order-clause-most g c = λ p t height s stood tall.
    let X = g.S.X.BlockHash.block32 in let N = g.N.NameHash.name64 in let names = c.args.names.now in
    let a = g.S.Store.seen c.args.store.now in let b = g.S.Store.seen c.thing_of.new.store in let d = g.S.Store.seen c.gather.new.store in let e = g.S.Store.seen c.add_file.new.store in
    let first = c.in_ok-thing.ensures.reads.told in let second = c.in_ok-met.ensures.reads.told in
    let fb = c.in_ok-thing.ensures.reads.cause.faults in let fd = c.in_ok-met.ensures.reads.cause.faults in
    let fe = c.in_ok-add_file.ensures.reads.cause.faults in
    let front = stood-front a.faults b.faults e.faults fb (omega (arith, fd, fe)) stood in
    let after = stood-back a.faults b.faults e.faults fb stood in
    let mid = stood-front b.faults d.faults e.faults fd (omega (arith, fe)) after in
    let back = stood-back b.faults d.faults e.faults fd after in
    let met : IsMet X N a.told p (at 0 names t) c.in_ok-met.met = subst (λ told. IsMet X N told p (at 0 names t) c.in_ok-met.met) first
    (c.in_ok-met.ensures.gathers p t (subst (λ told. IsAgreedThing X N told p t c.in_ok-thing.thing) (sym first) (c.in_ok-thing.ensures.thing p t s front)) mid).0 in
    let w = wanted-ok X N a.told p names c.args.absent (at 0 names t) c.in_ok-met.met c.in_ok-file.file met (sym c.in_ok-file.ensures) in
    let adds = add-few X N a.told p names c.args.absent height (at 0 names t) c.in_ok-file.file c.gather.new.touches c.add_file.new.touches w tall
    (λ none. c.in_ok-add_file.ensures.untouched none)
    (λ entry m bytes is i agrees. c.in_ok-add_file.ensures.few entry is p m bytes height i (subst (λ told. Agrees told (file_plan X p m bytes).blocks) (sym (second ∙ first)) agrees) back) in
    let one = c.in_ok-thing.ensures.few in let way = c.in_ok-met.ensures.few in
    omega (arith, adds, one, way)

pub returns-clause-most : goal.returns-clause-most
returns-clause-most g c = λ p t height s stood tall.
    let X = g.S.X.BlockHash.block32 in let N = g.N.NameHash.name64 in let names = c.args.names.now in
    let a = g.S.Store.seen c.args.store.now in let b = g.S.Store.seen c.thing_of.new.store in let d = g.S.Store.seen c.gather.new.store in let e = g.S.Store.seen c.add_file.new.store in
    let first = c.in_ok-thing.ensures.reads.told in let second = c.in_ok-met.ensures.reads.told in
    let fb = c.in_ok-thing.ensures.reads.cause.faults in let fd = c.in_ok-met.ensures.reads.cause.faults in
    let fe = c.in_ok-add_file.ensures.reads.cause.faults in
    let front = stood-front a.faults b.faults e.faults fb (omega (arith, fd, fe)) stood in
    let after = stood-back a.faults b.faults e.faults fb stood in
    let mid = stood-front b.faults d.faults e.faults fd (omega (arith, fe)) after in
    let back = stood-back b.faults d.faults e.faults fd after in
    let met : IsMet X N a.told p (at 0 names t) c.in_ok-met.met = subst (λ told. IsMet X N told p (at 0 names t) c.in_ok-met.met) first
    (c.in_ok-met.ensures.gathers p t (subst (λ told. IsAgreedThing X N told p t c.in_ok-thing.thing) (sym first) (c.in_ok-thing.ensures.thing p t s front)) mid).0 in
    let w = wanted-ok X N a.told p names c.args.absent (at 0 names t) c.in_ok-met.met c.in_ok-file.file met (sym c.in_ok-file.ensures) in
    let adds = add-few X N a.told p names c.args.absent height (at 0 names t) c.in_ok-file.file c.gather.new.touches c.add_file.new.touches w tall
    (λ none. c.in_ok-add_file.ensures.untouched none)
    (λ entry m bytes is i agrees. c.in_ok-add_file.ensures.few entry is p m bytes height i (subst (λ told. Agrees told (file_plan X p m bytes).blocks) (sym (second ∙ first)) agrees) back) in
    let one = c.in_ok-thing.ensures.few in let way = c.in_ok-met.ensures.few in
    omega (arith, adds, one, way)
