use Rattle.std.proofs.Common.{◌+◌, ◌≤◌, Err, ap, arith, length, subst, sym, ◌∙◌}
use Rattle.std.proofs.lemmas.List.{length-map}
use Rattle.std.proofs.lemmas.Result.{err_from_is_err_and}
use Rattle.uf_cid.specs.Blocks.{Held}
use Rattle.uf_store.proofs.Calls.{reads-by, reads-reads, shown-rises, stood-back, stood-front}
use Rattle.uf_plain.specs.Edits.{at}
use Rattle.uf_edge.specs.Counts.{Stood}
use Rattle.uf_edge.specs.Streams.{AppendsPrefix}
use Rattle.uf_fileread.proofs.Sending.{prefix-none}
use Rattle.uf_light.specs.Answers.{Proves, light_fault}
use Rattle.uf_light.specs.Bad.{IsBadLight}
use Rattle.uf_light.specs.Light.{HasHeight, light_order, light_says, light_text, proof_of}
use Rattle.uf_light.specs.Needs.{proof_needs, proof_touches}
use Rattle.uf_light.proofs.Counting.{all-touches, some-touches}
use Rattle.uf_light.proofs.Fronts.{front-proof}
use Rattle.uf_light.proofs.Proved.{light-written, proves-err, proves-text}
use Rattle.uf_light.proofs.proving.prove.Goals as goal

pub returns-in_err-order-clause-proves : goal.returns-in_err-order-clause-proves
returns-in_err-order-clause-proves g c = λ p t height s stood tall.
    let X = g.S.X.BlockHash.block32 in let N = g.N.NameHash.name64 in let told = (g.S.Store.seen c.args.store.now).told in
    let l = c.as_slice.result.now in
    let out = err_from_is_err_and c.from_residual.result c.from_residual.ensures.1 in
    rw (out.1, out.2) (subst (λ l. Proves told (proof_needs X N p height c.args.absent l t) (light_text X N p height l t) (light_says c.args.absent l (at 0 l t)) (Err c.in_err-order.field-0.0) (g.O.Sink.holds c.args.out.now) (g.O.Sink.holds c.args.out.now)) c.as_slice.ensures
    (proves-err told (proof_needs X N p height c.args.absent l t) (light_text X N p height l t) (light_says c.args.absent l (at 0 l t)) (light_order X N p height l t) c.in_err-order.field-0.0 (g.O.Sink.holds c.args.out.now)
    (c.in_err-order.ensures.finds p t height s stood (subst (λ l. HasHeight p height (at 0 l t)) (sym c.as_slice.ensures) tall))))

pub returns-clause-proves : goal.returns-clause-proves
returns-clause-proves g c = λ p t height s stood tall.
    let X = g.S.X.BlockHash.block32 in let N = g.N.NameHash.name64 in let l = c.as_slice.result.now in
    let a = g.S.Store.seen c.args.store.now in let b = g.S.Store.seen c.find_blocks.new.store in let d = g.S.Store.seen c.write_light.new.store in
    let calm = c.in_ok-order.ensures.reads.cause.faults in
    let front = stood-front a.faults b.faults d.faults calm (shown-rises X _ (light_fault c.write_light.result) b d c.write_light.ensures.reads.cause).faults stood in
    let back = stood-back a.faults b.faults d.faults calm stood in
    let found = c.in_ok-order.ensures.finds p t height s front (subst (λ l. HasHeight p height (at 0 l t)) (sym c.as_slice.ensures) tall) in
    subst (λ l. Proves a.told (proof_needs X N p height c.args.absent l t) (light_text X N p height l t) (light_says c.args.absent l (at 0 l t)) c.write_light.result (g.O.Sink.holds c.args.out.now) (g.O.Sink.holds c.write_light.new.out)) c.as_slice.ensures
    (proves-text a.told (proof_needs X N p height c.args.absent l t) (light_text X N p height l t) (light_says c.args.absent l (at 0 l t)) X b d c.write_light.result (g.O.Sink.holds c.args.out.now) (g.O.Sink.holds c.write_light.new.out) found.something
    (light-written X N a.told p c.args.root.now.cid t l height (light_says c.args.absent l (at 0 l t)) _ c.write_light.result (g.O.Sink.holds c.args.out.now) (g.O.Sink.holds c.write_light.new.out) s found
    (λ u is there. c.write_light.ensures.text u (c.in_ok-order.ensures.reads.told ∙ is) there))
    c.write_light.ensures.reads.cause back)

pub returns-in_err-order-clause-prefix : goal.returns-in_err-order-clause-prefix
returns-in_err-order-clause-prefix g c = λ p t height s low tall. prefix-none _ _

pub returns-clause-prefix : goal.returns-clause-prefix
returns-clause-prefix g c = λ p t height s low tall.
    let X = g.S.X.BlockHash.block32 in let N = g.N.NameHash.name64 in let l = c.as_slice.result.now in
    let a = g.S.Store.seen c.args.store.now in let b = g.S.Store.seen c.find_blocks.new.store in
    let calm = c.in_ok-order.ensures.reads.cause.faults in
    let stood : Stood a.faults b.faults = omega (arith, calm, low) in
    let found = c.in_ok-order.ensures.finds p t height s stood (subst (λ l. HasHeight p height (at 0 l t)) (sym c.as_slice.ensures) tall) in
    subst (λ l. AppendsPrefix (proof_of (light_says c.args.absent l (at 0 l t)) (light_text X N p height l t)) (g.O.Sink.holds c.args.out.now) (g.O.Sink.holds c.write_light.new.out)) c.as_slice.ensures
    (front-proof (light_says c.args.absent l (at 0 l t)) (light_text X N p height l t) c.write_light.result (g.O.Sink.holds c.args.out.now) (g.O.Sink.holds c.write_light.new.out) found.something
    (light-written X N a.told p c.args.root.now.cid t l height (light_says c.args.absent l (at 0 l t)) _ c.write_light.result (g.O.Sink.holds c.args.out.now) (g.O.Sink.holds c.write_light.new.out) s found
    (λ u is there. c.write_light.ensures.text u (c.in_ok-order.ensures.reads.told ∙ is) there)))

pub returns-clause-cause : goal.returns-clause-cause
returns-clause-cause g c =
    let X = g.S.X.BlockHash.block32 in let N = g.N.NameHash.name64 in
    (reads-reads c.in_ok-order.ensures.reads (reads-by (IsBadLight X N (g.S.Store.seen c.args.store.now).told c.args.root.now.cid) (λ role bytes no. absurd no) c.write_light.ensures.reads)).cause

pub returns-in_err-order-clause-few : goal.returns-in_err-order-clause-few
returns-in_err-order-clause-few g c = λ p t height s stood tall.
    let X = g.S.X.BlockHash.block32 in let N = g.N.NameHash.name64 in let l = c.as_slice.result.now in
    subst (λ l. c.find_blocks.new.touches ≤ c.args.touches.now + proof_touches X N p height c.args.absent l t) c.as_slice.ensures
    (some-touches X N p height c.args.absent l t c.args.touches.now c.find_blocks.new.touches (c.in_err-order.ensures.most p t height s stood (subst (λ l. HasHeight p height (at 0 l t)) (sym c.as_slice.ensures) tall)))

pub returns-clause-few : goal.returns-clause-few
returns-clause-few g c = λ p t height s stood tall.
    let X = g.S.X.BlockHash.block32 in let N = g.N.NameHash.name64 in let l = c.as_slice.result.now in
    let a = g.S.Store.seen c.args.store.now in let b = g.S.Store.seen c.find_blocks.new.store in let d = g.S.Store.seen c.write_light.new.store in
    let front = stood-front a.faults b.faults d.faults c.in_ok-order.ensures.reads.cause.faults (shown-rises X _ (light_fault c.write_light.result) b d c.write_light.ensures.reads.cause).faults stood in
    let high = subst (λ l. HasHeight p height (at 0 l t)) (sym c.as_slice.ensures) tall in
    let found = c.in_ok-order.ensures.finds p t height s front high in
    let order = light_order X N p height l t in
    let few = c.write_light.ensures.few in let count = ap length found.order_is in let each = length-map order (λ (b : Held). b.0) in
    subst (λ l. c.write_light.new.touches ≤ c.args.touches.now + proof_touches X N p height c.args.absent l t) c.as_slice.ensures
    (all-touches X N p height c.args.absent l t c.args.touches.now c.find_blocks.new.touches c.write_light.new.touches found.something (c.in_ok-order.ensures.most p t height s front high) (omega (arith, few, count, each)))
