use Rattle.std.proofs.Common.{Err, List, None, Ok, Some, subst, sym, ℕ, ◌≡◌, ◌≤◌, ◌+◌, arith}
use Rattle.std.proofs.lemmas.Result.{err_from_is_err_and}
use Rattle.uf_store.specs.Faults.{fault_in}
use Rattle.uf_store.specs.Lost.{IsLossOf, ReadsOver}
use Rattle.uf_store.proofs.Calls.{shown-after, shown-by, shown-rises, stood-back, stood-front}
use Rattle.uf_tree.specs.Tree.{Dir}
use Rattle.uf_plain.specs.Edits.{at}
use Rattle.uf_plain.specs.Needs.{rows_need, needs_at, way}
use Rattle.uf_plain.specs.Replies.{rows_at}
use Rattle.uf_mfs.specs.declared.fault.MfsFault.TheVariants as fault
use Rattle.uf_mfs.specs.Answers.{AnswersOr}
use Rattle.uf_mfs.specs.Standing.{IsAgreedThing}
use Rattle.uf_mfs.proofs.Agreed.{stands-over}
use Rattle.uf_mfs.proofs.Needed.{answers-held, call-met, call-on, call-stopped, needs-held, rows-need-among}
use Rattle.uf_mfs.specs.Touches.{rows_touches, read_bound}
use Rattle.uf_mfs.proofs.Touching.{look-touches, read-touches}
use Rattle.uf_mfs.specs.Bad.{IsBadInTree, IsBadUnder}
use Rattle.uf_mfs.proofs.Judging.{under-bad}
use Rattle.uf_mfs.proofs.mfs.Mfs.ls.Goals as goal

pub returns-in_err-thing-clause-lost : goal.returns-in_err-thing-clause-lost
returns-in_err-thing-clause-lost g c = λ p es s stood.
    let X = g.S.X.BlockHash.block32 in let N = g.N.NameHash.name64 in let told = (g.S.Store.seen c.args.store.now).told in
    let out = err_from_is_err_and c.from_residual.result c.from_residual.ensures.1 in
    rw (out.1, out.2) (subst (λ (ns : List (List ℕ)). AnswersOr (IsLossOf told (needs_at X N p (rows_need X N p) ns (Dir es))) (λ t rows. rows ≡ rows_at X N p ns t) ns (at 0 ns (Dir es)) (Err c.in_err-thing.field-0.0)) c.as_slice-names.ensures
    (call-stopped X N p told (rows_need X N p) (λ t x. IsAgreedThing X N told p t x) (λ t rows. rows ≡ rows_at X N p c.as_slice-names.result.now t) c.as_slice-names.result.now (Dir es) c.in_err-thing.field-0.0 (c.in_err-thing.ensures.finds p es s stood)))

pub returns-in_err-rows-clause-lost : goal.returns-in_err-rows-clause-lost
returns-in_err-rows-clause-lost g c = λ p es s stood.
    let X = g.S.X.BlockHash.block32 in let N = g.N.NameHash.name64 in let told = (g.S.Store.seen c.args.store.now).told in
    let a = g.S.Store.seen c.args.store.now in let b = g.S.Store.seen c.thing_at.new.store in let d = g.S.Store.seen c.rows_of.new.store in
    let front = stood-front a.faults b.faults d.faults c.in_ok-thing.ensures.cause.faults (shown-rises X _ (fault_in c.rows_of.result) b d c.rows_of.ensures.reads.cause).faults stood in
    let back = stood-back a.faults b.faults d.faults c.in_ok-thing.ensures.cause.faults stood in
    let out = err_from_is_err_and c.from_residual-in_err-rows.result c.from_residual-in_err-rows.ensures.1 in
    rw (out.1, out.2) (subst (λ (ns : List (List ℕ)). AnswersOr (IsLossOf told (needs_at X N p (rows_need X N p) ns (Dir es))) (λ t rows. rows ≡ rows_at X N p ns t) ns (at 0 ns (Dir es)) (Err (fault.Store c.in_err-rows.field-0.0))) c.as_slice-names.ensures
    (call-on X N p told (rows_need X N p) (λ t x. IsAgreedThing X N told p t x) (λ t. rows_at X N p c.as_slice-names.result.now t) c.as_slice-names.result.now (Dir es) c.in_ok-thing.thing (Err c.in_err-rows.field-0.0) (call-met X N p (IsLossOf told (way X N p c.as_slice-names.result.now (Dir es))) (λ t x. IsAgreedThing X N told p t x) c.as_slice-names.result.now (at 0 c.as_slice-names.result.now (Dir es)) c.in_ok-thing.thing (c.in_ok-thing.ensures.finds p es s front))
    (λ found h. subst (λ told. ReadsOver told (rows_need X N p found) (rows_at X N p c.as_slice-names.result.now found) (Err c.in_err-rows.field-0.0)) c.in_ok-thing.ensures.told
    (c.in_err-rows.ensures.rows p found (subst (λ told. IsAgreedThing X N told p found c.in_ok-thing.thing) (sym c.in_ok-thing.ensures.told) h) back))))

pub returns-clause-lost : goal.returns-clause-lost
returns-clause-lost g c = λ p es s stood.
    let X = g.S.X.BlockHash.block32 in let N = g.N.NameHash.name64 in let told = (g.S.Store.seen c.args.store.now).told in
    let a = g.S.Store.seen c.args.store.now in let b = g.S.Store.seen c.thing_at.new.store in let d = g.S.Store.seen c.rows_of.new.store in
    let front = stood-front a.faults b.faults d.faults c.in_ok-thing.ensures.cause.faults (shown-rises X _ (fault_in c.rows_of.result) b d c.rows_of.ensures.reads.cause).faults stood in
    let back = stood-back a.faults b.faults d.faults c.in_ok-thing.ensures.cause.faults stood in
    subst (λ (ns : List (List ℕ)). AnswersOr (IsLossOf told (needs_at X N p (rows_need X N p) ns (Dir es))) (λ t rows. rows ≡ rows_at X N p ns t) ns (at 0 ns (Dir es)) (Ok c.in_ok-rows.rows)) c.as_slice-names.ensures
    (call-on X N p told (rows_need X N p) (λ t x. IsAgreedThing X N told p t x) (λ t. rows_at X N p c.as_slice-names.result.now t) c.as_slice-names.result.now (Dir es) c.in_ok-thing.thing (Ok c.in_ok-rows.rows) (call-met X N p (IsLossOf told (way X N p c.as_slice-names.result.now (Dir es))) (λ t x. IsAgreedThing X N told p t x) c.as_slice-names.result.now (at 0 c.as_slice-names.result.now (Dir es)) c.in_ok-thing.thing (c.in_ok-thing.ensures.finds p es s front))
    (λ found h. subst (λ told. ReadsOver told (rows_need X N p found) (rows_at X N p c.as_slice-names.result.now found) (Ok c.in_ok-rows.rows)) c.in_ok-thing.ensures.told
    (c.in_ok-rows.ensures.rows p found (subst (λ told. IsAgreedThing X N told p found c.in_ok-thing.thing) (sym c.in_ok-thing.ensures.told) h) back)))

pub returns-in_err-thing-clause-answer : goal.returns-in_err-thing-clause-answer
returns-in_err-thing-clause-answer g c = λ p es s stood.
    let X = g.S.X.BlockHash.block32 in let N = g.N.NameHash.name64 in let told = (g.S.Store.seen c.args.store.now).told in
    let names = c.args.path.now.names in
    answers-held told (needs_at X N p (rows_need X N p) names (Dir es)) (λ t rows. rows ≡ rows_at X N p names t) names (at 0 names (Dir es)) c.from_residual.result
    (needs-held X N p told (rows_need X N p) (rows-need-among X N p) names c.args.self.now es s) (returns-in_err-thing-clause-lost g c p es (stands-over X N p told c.args.self.now es s) stood)

pub returns-in_err-rows-clause-answer : goal.returns-in_err-rows-clause-answer
returns-in_err-rows-clause-answer g c = λ p es s stood.
    let X = g.S.X.BlockHash.block32 in let N = g.N.NameHash.name64 in let told = (g.S.Store.seen c.args.store.now).told in
    let names = c.args.path.now.names in
    answers-held told (needs_at X N p (rows_need X N p) names (Dir es)) (λ t rows. rows ≡ rows_at X N p names t) names (at 0 names (Dir es)) c.from_residual-in_err-rows.result
    (needs-held X N p told (rows_need X N p) (rows-need-among X N p) names c.args.self.now es s) (returns-in_err-rows-clause-lost g c p es (stands-over X N p told c.args.self.now es s) stood)

pub returns-clause-answer : goal.returns-clause-answer
returns-clause-answer g c = λ p es s stood.
    let X = g.S.X.BlockHash.block32 in let N = g.N.NameHash.name64 in let told = (g.S.Store.seen c.args.store.now).told in
    let names = c.args.path.now.names in
    answers-held told (needs_at X N p (rows_need X N p) names (Dir es)) (λ t rows. rows ≡ rows_at X N p names t) names (at 0 names (Dir es)) (Ok c.in_ok-rows.rows)
    (needs-held X N p told (rows_need X N p) (rows-need-among X N p) names c.args.self.now es s) (returns-clause-lost g c p es (stands-over X N p told c.args.self.now es s) stood)

pub returns-in_err-thing-clause-touches : goal.returns-in_err-thing-clause-touches
returns-in_err-thing-clause-touches g c = λ p es s stood.
    let X = g.S.X.BlockHash.block32 in let N = g.N.NameHash.name64 in
    subst (λ (ns : List (List ℕ)). c.thing_at.new.touches ≤ c.args.touches.now + read_bound (rows_touches X N p) ns (Dir es)) c.as_slice-names.ensures
    (look-touches (rows_touches X N p) c.as_slice-names.result.now (Dir es) c.args.touches.now c.thing_at.new.touches c.in_err-thing.ensures.touches)

pub returns-in_err-rows-clause-touches : goal.returns-in_err-rows-clause-touches
returns-in_err-rows-clause-touches g c = λ p es s stood.
    let X = g.S.X.BlockHash.block32 in let N = g.N.NameHash.name64 in let told = (g.S.Store.seen c.args.store.now).told in
    let a = g.S.Store.seen c.args.store.now in let b = g.S.Store.seen c.thing_at.new.store in let d = g.S.Store.seen c.rows_of.new.store in
    let front = stood-front a.faults b.faults d.faults c.in_ok-thing.ensures.cause.faults (shown-rises X _ (fault_in c.rows_of.result) b d c.rows_of.ensures.reads.cause).faults stood in
    let back = stood-back a.faults b.faults d.faults c.in_ok-thing.ensures.cause.faults stood in
    subst (λ (ns : List (List ℕ)). c.rows_of.new.touches ≤ c.args.touches.now + read_bound (rows_touches X N p) ns (Dir es)) c.as_slice-names.ensures
    (read-touches (IsLossOf told (way X N p c.as_slice-names.result.now (Dir es))) (λ t x. IsAgreedThing X N told p t x) (rows_touches X N p) c.as_slice-names.result.now (Dir es) c.in_ok-thing.thing c.args.touches.now c.thing_at.new.touches c.rows_of.new.touches
    (call-met X N p (IsLossOf told (way X N p c.as_slice-names.result.now (Dir es))) (λ t x. IsAgreedThing X N told p t x) c.as_slice-names.result.now (at 0 c.as_slice-names.result.now (Dir es)) c.in_ok-thing.thing (c.in_ok-thing.ensures.finds p es s front)) c.in_ok-thing.ensures.touches (λ found h. (let r = c.in_err-rows.ensures.touches p found (subst (λ told. IsAgreedThing X N told p found c.in_ok-thing.thing) (sym c.in_ok-thing.ensures.told) h) back in omega (arith, r))))

pub returns-clause-touches : goal.returns-clause-touches
returns-clause-touches g c = λ p es s stood.
    let X = g.S.X.BlockHash.block32 in let N = g.N.NameHash.name64 in let told = (g.S.Store.seen c.args.store.now).told in
    let a = g.S.Store.seen c.args.store.now in let b = g.S.Store.seen c.thing_at.new.store in let d = g.S.Store.seen c.rows_of.new.store in
    let front = stood-front a.faults b.faults d.faults c.in_ok-thing.ensures.cause.faults (shown-rises X _ (fault_in c.rows_of.result) b d c.rows_of.ensures.reads.cause).faults stood in
    let back = stood-back a.faults b.faults d.faults c.in_ok-thing.ensures.cause.faults stood in
    subst (λ (ns : List (List ℕ)). c.rows_of.new.touches ≤ c.args.touches.now + read_bound (rows_touches X N p) ns (Dir es)) c.as_slice-names.ensures
    (read-touches (IsLossOf told (way X N p c.as_slice-names.result.now (Dir es))) (λ t x. IsAgreedThing X N told p t x) (rows_touches X N p) c.as_slice-names.result.now (Dir es) c.in_ok-thing.thing c.args.touches.now c.thing_at.new.touches c.rows_of.new.touches
    (call-met X N p (IsLossOf told (way X N p c.as_slice-names.result.now (Dir es))) (λ t x. IsAgreedThing X N told p t x) c.as_slice-names.result.now (at 0 c.as_slice-names.result.now (Dir es)) c.in_ok-thing.thing (c.in_ok-thing.ensures.finds p es s front)) c.in_ok-thing.ensures.touches (λ found h. (let r = c.in_ok-rows.ensures.touches p found (subst (λ told. IsAgreedThing X N told p found c.in_ok-thing.thing) (sym c.in_ok-thing.ensures.told) h) back in omega (arith, r))))

pub returns-in_err-rows-clause-cause : goal.returns-in_err-rows-clause-cause
returns-in_err-rows-clause-cause g c =
    let X = g.S.X.BlockHash.block32 in let N = g.N.NameHash.name64 in let root = c.args.self.now.root.cid in let thing = c.in_ok-thing.thing in let f = c.in_err-rows.field-0.0 in
    let a = g.S.Store.seen c.args.store.now in let b = g.S.Store.seen c.thing_at.new.store in let d = g.S.Store.seen c.rows_of.new.store in
    let out = err_from_is_err_and c.from_residual-in_err-rows.result c.from_residual-in_err-rows.ensures.1 in
    rw (out.1, out.2) (shown-after X (IsBadInTree X N None root) (Some f) a b d c.in_ok-thing.ensures.cause
    (shown-by X (IsBadUnder X N None thing) (IsBadInTree X N None root) (Some f) b d (under-bad X N None root thing c.in_ok-thing.ensures.required) c.in_err-rows.ensures.reads.cause))
