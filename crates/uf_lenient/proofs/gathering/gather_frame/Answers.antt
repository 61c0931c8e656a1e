use Rattle.std.proofs.Common.{ℕ, Ok, subst}
use Rattle.std.proofs.lemmas.Result.{err_from_is_err_and}
use Rattle.std.specs.Prelude.{Option}
use Rattle.uf_cid.specs.declared.cid.Cid.{Cid}
use Rattle.uf_lenient.specs.Reading.{sub_ways}
use Rattle.uf_lenient.specs.Steps.{AddsEntries}
use Rattle.uf_lenient.proofs.Frames.{below-fault, frame-below, frame-done}
use Rattle.uf_lenient.proofs.Saying.{by-good, good-always}
use Rattle.uf_lenient.proofs.gathering.gather_frame.Goals as goal

pub returns-in-None-clause-says : goal.returns-in-None-clause-says
returns-in-None-clause-says g c = good-always g.S.X.BlockHash.block32 (g.S.Store.seen c.args.store.now).told (λ held. frame-done held c.args.frame c.args.frames.now c.args.met.now c.add_entries.new.met c.args.visits.now
    (subst (λ (r : Option (ℕ × Cid)). AddsEntries c.args.frame c.args.met.now c.add_entries.new.met (sub_ways held c.args.frame.left) c.args.visits.now (Ok r)) c.in-None.is (c.in_ok-add_entries.ensures.says (sub_ways held c.args.frame.left) c.args.visits.now)))

pub returns-in_err-links-in-Some-clause-says : goal.returns-in_err-links-in-Some-clause-says
returns-in_err-links-in-Some-clause-says g c =
    let out = err_from_is_err_and c.from_residual-in_err-links-in-Some.result c.from_residual-in_err-links-in-Some.ensures.1 in rw (out.1, out.2) (by-good g.S.X.BlockHash.block32 (g.S.Store.seen c.args.store.now).told (λ held says. below-fault held c.args.frame c.args.frames.now c.args.met.now c.add_entries.new.met c.args.visits.now c.in-Some.at c.in-Some.cid c.in_err-links-in-Some.field-0.0
    (subst (λ (r : Option (ℕ × Cid)). AddsEntries c.args.frame c.args.met.now c.add_entries.new.met (sub_ways held c.args.frame.left) c.args.visits.now (Ok r)) c.in-Some.is (c.in_ok-add_entries.ensures.says (sub_ways held c.args.frame.left) c.args.visits.now)) says) c.in_err-links-in-Some.ensures.says)

pub returns-in_ok-put_below-in-Some-clause-says : goal.returns-in_ok-put_below-in-Some-clause-says
returns-in_ok-put_below-in-Some-clause-says g c = by-good g.S.X.BlockHash.block32 (g.S.Store.seen c.args.store.now).told (λ held says. frame-below held c.args.frame c.args.frames.now c.put_below.new.frames c.args.met.now c.add_entries.new.met c.args.visits.now c.in-Some.at c.in-Some.cid c.in_ok-links-in-Some.links c.enter_shard.new.visits
    (subst (λ (r : Option (ℕ × Cid)). AddsEntries c.args.frame c.args.met.now c.add_entries.new.met (sub_ways held c.args.frame.left) c.args.visits.now (Ok r)) c.in-Some.is (c.in_ok-add_entries.ensures.says (sub_ways held c.args.frame.left) c.args.visits.now)) says c.in_ok-put_below-in-Some.ensures) c.in_ok-links-in-Some.ensures.says
