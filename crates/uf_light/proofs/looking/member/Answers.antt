use Rattle.std.proofs.Common.{Err, None, Ok, sym, ◌∙◌}
use Rattle.std.proofs.lemmas.Result.{err_from_is_err_and}
use Rattle.uf_store.proofs.Calls.{reads-by, reads-reads, shown-rises, stood-back, stood-front}
use Rattle.uf_store.specs.Calls.{OnlyReads}
use Rattle.uf_store.specs.Faults.{NoneIsBad, fault_in}
use Rattle.uf_tree.specs.DirPlan.{trail}
use Rattle.uf_tree.specs.Tree.{own_meta}
use Rattle.uf_tree.specs.TreePlan.{named_entries}
use Rattle.uf_plain.specs.Edits.{child}
use Rattle.uf_light.specs.Bad.{IsBadOnPath}
use Rattle.uf_light.proofs.Blaming.{root-bad, way-shows}
use Rattle.uf_light.proofs.Holding.{loss-front}
use Rattle.uf_light.proofs.Seeing.{find-says, member-err, member-none, member-some}
use Rattle.uf_light.proofs.looking.member.Goals as goal

pub returns-in_err-entry-clause-member : goal.returns-in_err-entry-clause-member
returns-in_err-entry-clause-member g c = λ p es s stood.
    let X = g.S.X.BlockHash.block32 in let N = g.N.NameHash.name64 in let a = g.S.Store.seen c.args.store.now in
    let out = err_from_is_err_and c.from_residual.result c.from_residual.ensures.1 in let f = c.in_err-entry.field-0.0 in
    rw (out.1, out.2) (loss-front a.told (trail X N p (own_meta es) (named_entries X N p es) c.args.name.now) _ f
    (find-says X N (record { size = g.met.S.X.BlockHash.size; are_bytes = g.met.S.X.BlockHash.are_bytes }) g.met.N.NameHash.fits a.told p c.args.folder.now.cid es c.args.name.now (Err f) s (λ q m l i k. c.in_err-entry.ensures.value q m l i k stood)))

pub returns-in_err-entry-clause-reads : goal.returns-in_err-entry-clause-reads
returns-in_err-entry-clause-reads g c =
    let N = g.N.NameHash.name64 in
    let out = err_from_is_err_and c.from_residual.result c.from_residual.ensures.1 in
    rw (out.1, out.2) (record { cause = way-shows g.S.X.BlockHash.block32 N c.args.folder.now.cid (N c.args.name.now) c.in_err-entry.field-0.0 _ _ c.in_err-entry.ensures.blames c.in_err-entry.ensures.cause; told = c.in_err-entry.ensures.told })

pub returns-in_default-clause-member : goal.returns-in_default-clause-member
returns-in_default-clause-member g c = λ p es s stood.
    let X = g.S.X.BlockHash.block32 in let N = g.N.NameHash.name64 in let a = g.S.Store.seen c.args.store.now in
    member-none X N a.told p (child c.args.name.now es)
    (sym c.in_default.is ∙ find-says X N (record { size = g.met.S.X.BlockHash.size; are_bytes = g.met.S.X.BlockHash.are_bytes }) g.met.N.NameHash.fits a.told p c.args.folder.now.cid es c.args.name.now (Ok c.in_ok-entry.field-0) s (λ q m l i k. c.in_ok-entry.ensures.value q m l i k stood))

pub returns-in_err-thing-clause-member : goal.returns-in_err-thing-clause-member
returns-in_err-thing-clause-member g c = λ p es s stood.
    let X = g.S.X.BlockHash.block32 in let N = g.N.NameHash.name64 in
    let a = g.S.Store.seen c.args.store.now in let b = g.S.Store.seen c.find.new.store in let d = g.S.Store.seen c.thing_of.new.store in
    let rises = shown-rises X _ (fault_in c.thing_of.result) b d c.thing_of.ensures.reads.cause in
    let front = stood-front a.faults b.faults d.faults c.in_ok-entry.ensures.cause.faults rises.faults stood in
    let back = stood-back a.faults b.faults d.faults c.in_ok-entry.ensures.cause.faults stood in
    let is = find-says X N (record { size = g.met.S.X.BlockHash.size; are_bytes = g.met.S.X.BlockHash.are_bytes }) g.met.N.NameHash.fits a.told p c.args.folder.now.cid es c.args.name.now (Ok c.in_ok-entry.field-0) s (λ q m l i k. c.in_ok-entry.ensures.value q m l i k front) in
    let out = err_from_is_err_and c.from_residual-in_err-thing.result c.from_residual-in_err-thing.ensures.1 in
    rw (out.1, out.2) (member-err X N a.told b.told p c.args.folder.now.cid es c.args.name.now c.in-Some.entry c.in_err-thing.field-0.0 c.in_ok-entry.ensures.told s (sym c.in-Some.is ∙ is)
    (λ t i. c.in_err-thing.ensures.thing p t i back))

pub returns-clause-member : goal.returns-clause-member
returns-clause-member g c = λ p es s stood.
    let X = g.S.X.BlockHash.block32 in let N = g.N.NameHash.name64 in
    let a = g.S.Store.seen c.args.store.now in let b = g.S.Store.seen c.find.new.store in let d = g.S.Store.seen c.thing_of.new.store in
    let rises = shown-rises X _ (fault_in c.thing_of.result) b d c.thing_of.ensures.reads.cause in
    let front = stood-front a.faults b.faults d.faults c.in_ok-entry.ensures.cause.faults rises.faults stood in
    let back = stood-back a.faults b.faults d.faults c.in_ok-entry.ensures.cause.faults stood in
    let is = find-says X N (record { size = g.met.S.X.BlockHash.size; are_bytes = g.met.S.X.BlockHash.are_bytes }) g.met.N.NameHash.fits a.told p c.args.folder.now.cid es c.args.name.now (Ok c.in_ok-entry.field-0) s (λ q m l i k. c.in_ok-entry.ensures.value q m l i k front) in
    member-some X N a.told b.told p c.args.folder.now.cid es c.args.name.now c.in-Some.entry c.in_ok-thing.thing c.in_ok-entry.ensures.told s (sym c.in-Some.is ∙ is)
    (λ t i. c.in_ok-thing.ensures.thing p t i back)

pub returns-in_err-thing-clause-reads : goal.returns-in_err-thing-clause-reads
returns-in_err-thing-clause-reads g c =
    let X = g.S.X.BlockHash.block32 in let N = g.N.NameHash.name64 in let a = g.S.Store.seen c.args.store.now in
    let found : OnlyReads X NoneIsBad None a (g.S.Store.seen c.find.new.store) = record { cause = c.in_ok-entry.ensures.cause; told = c.in_ok-entry.ensures.told } in
    let out = err_from_is_err_and c.from_residual-in_err-thing.result c.from_residual-in_err-thing.ensures.1 in
    rw (out.1, out.2) (reads-reads found (reads-by (IsBadOnPath X N c.args.folder.now.cid) (root-bad X N c.args.folder.now.cid) c.in_err-thing.ensures.reads))

pub returns-clause-required : goal.returns-clause-required
returns-clause-required g c = c.in_ok-thing.ensures.required c.args.folder.now.cid
