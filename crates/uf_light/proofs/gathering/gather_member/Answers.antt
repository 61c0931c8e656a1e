use Rattle.std.proofs.Common.{◌++◌, ◌∙◌, Err, Ok, ap, sym}
use Rattle.std.proofs.lemmas.Result.{err_from_is_err_and}
use Rattle.uf_store.proofs.Calls.{shown-rises, stood-back, stood-front}
use Rattle.uf_store.specs.Faults.{fault_in}
use Rattle.std.specs.Option.{option_map}
use Rattle.uf_shard.specs.Trails.{traced}
use Rattle.uf_shard.specs.declared.traced.Traced.{Traced}
use Rattle.uf_tree.specs.DirPlan.{trail}
use Rattle.uf_tree.specs.Tree.{own_meta}
use Rattle.uf_tree.specs.TreePlan.{entry, named_entries}
use Rattle.uf_plain.specs.Edits.{child}
use Rattle.uf_light.proofs.Blaming.{way-shows}
use Rattle.uf_light.proofs.Holding.{finds-loss, loss-front}
use Rattle.uf_light.proofs.Seeing.{member-err, member-none, member-some, trace-says}
use Rattle.uf_light.proofs.gathering.gather_member.Goals as goal

pub returns-in_err-traced-clause-gathers : goal.returns-in_err-traced-clause-gathers
returns-in_err-traced-clause-gathers g c = λ p es s stood.
    let X = g.S.X.BlockHash.block32 in let N = g.N.NameHash.name64 in let a = g.S.Store.seen c.args.store.now in let name = c.args.name.now in
    let out = err_from_is_err_and c.from_residual.result c.from_residual.ensures.1 in let f = c.in_err-traced.field-0.0 in
    rw (out.1, out.2) (loss-front a.told (trail X N p (own_meta es) (named_entries X N p es) name) _ f
    (finds-loss {A = Traced} a.told (trail X N p (own_meta es) (named_entries X N p es) name) (traced (option_map (entry X N p) (child name es)) (trail X N p (own_meta es) (named_entries X N p es) name)) f
    (trace-says X N (record { size = g.met.S.X.BlockHash.size; are_bytes = g.met.S.X.BlockHash.are_bytes }) g.met.N.NameHash.fits a.told p c.args.folder.now.cid es name (Err f) s (λ q m l i k. c.in_err-traced.ensures.value q m l i k stood))))

pub returns-in_err-traced-clause-reads : goal.returns-in_err-traced-clause-reads
returns-in_err-traced-clause-reads g c =
    let N = g.N.NameHash.name64 in
    let out = err_from_is_err_and c.from_residual.result c.from_residual.ensures.1 in
    rw (out.1, out.2) (record { cause = way-shows g.S.X.BlockHash.block32 N c.args.folder.now.cid (N c.args.name.now) c.in_err-traced.field-0.0 _ _ c.in_err-traced.ensures.blames c.in_err-traced.ensures.cause; told = c.in_err-traced.ensures.told })

pub returns-in_default-clause-gathers : goal.returns-in_default-clause-gathers
returns-in_default-clause-gathers g c = λ p es s stood.
    let X = g.S.X.BlockHash.block32 in let N = g.N.NameHash.name64 in let a = g.S.Store.seen c.args.store.now in let name = c.args.name.now in
    let w = trace-says X N (record { size = g.met.S.X.BlockHash.size; are_bytes = g.met.S.X.BlockHash.are_bytes }) g.met.N.NameHash.fits a.told p c.args.folder.now.cid es name (Ok c.in_ok-traced.traced) s (λ q m l i k. c.in_ok-traced.ensures.value q m l i k stood) in (
      member-none X N a.told p (child name es) (sym c.in_default.is ∙ ap (λ (t : Traced). t.entry) w.0),
      record { added = c.in_ok-append.ensures.ok ∙ ap (λ k. c.args.cids.now ++ k) (c.as_slice.ensures ∙ ap (λ (t : Traced). t.trail) w.0); held = w.1 },
    )

pub returns-in_err-thing-clause-gathers : goal.returns-in_err-thing-clause-gathers
returns-in_err-thing-clause-gathers g c = λ p es s stood.
    let X = g.S.X.BlockHash.block32 in let N = g.N.NameHash.name64 in let name = c.args.name.now in
    let a = g.S.Store.seen c.args.store.now in let b = g.S.Store.seen c.trace.new.store in let d = g.S.Store.seen c.thing_of.new.store in
    let rises = shown-rises X _ (fault_in c.thing_of.result) b d c.thing_of.ensures.reads.cause in
    let front = stood-front a.faults b.faults d.faults c.in_ok-traced.ensures.cause.faults rises.faults stood in
    let back = stood-back a.faults b.faults d.faults c.in_ok-traced.ensures.cause.faults stood in
    let w = trace-says X N (record { size = g.met.S.X.BlockHash.size; are_bytes = g.met.S.X.BlockHash.are_bytes }) g.met.N.NameHash.fits a.told p c.args.folder.now.cid es name (Ok c.in_ok-traced.traced) s (λ q m l i k. c.in_ok-traced.ensures.value q m l i k front) in
    let out = err_from_is_err_and c.from_residual-in_err-thing.result c.from_residual-in_err-thing.ensures.1 in
    rw (out.1, out.2) (member-err X N a.told b.told p c.args.folder.now.cid es name c.in-Some.entry c.in_err-thing.field-0.0 c.in_ok-traced.ensures.told s (sym c.in-Some.is ∙ ap (λ (t : Traced). t.entry) w.0)
    (λ t i. c.in_err-thing.ensures.thing p t i back))

pub returns-clause-gathers : goal.returns-clause-gathers
returns-clause-gathers g c = λ p es s stood.
    let X = g.S.X.BlockHash.block32 in let N = g.N.NameHash.name64 in let name = c.args.name.now in
    let a = g.S.Store.seen c.args.store.now in let b = g.S.Store.seen c.trace.new.store in let d = g.S.Store.seen c.thing_of.new.store in
    let rises = shown-rises X _ (fault_in c.thing_of.result) b d c.thing_of.ensures.reads.cause in
    let front = stood-front a.faults b.faults d.faults c.in_ok-traced.ensures.cause.faults rises.faults stood in
    let back = stood-back a.faults b.faults d.faults c.in_ok-traced.ensures.cause.faults stood in
    let w = trace-says X N (record { size = g.met.S.X.BlockHash.size; are_bytes = g.met.S.X.BlockHash.are_bytes }) g.met.N.NameHash.fits a.told p c.args.folder.now.cid es name (Ok c.in_ok-traced.traced) s (λ q m l i k. c.in_ok-traced.ensures.value q m l i k front) in (
      member-some X N a.told b.told p c.args.folder.now.cid es name c.in-Some.entry c.in_ok-thing.thing c.in_ok-traced.ensures.told s (sym c.in-Some.is ∙ ap (λ (t : Traced). t.entry) w.0)
          (λ t i. c.in_ok-thing.ensures.thing p t i back),
      record { added = c.in_ok-append.ensures.ok ∙ ap (λ k. c.args.cids.now ++ k) (c.as_slice.ensures ∙ ap (λ (t : Traced). t.trail) w.0); held = w.1 },
    )

pub returns-clause-required : goal.returns-clause-required
returns-clause-required g c = c.in_ok-thing.ensures.required c.args.folder.now.cid
