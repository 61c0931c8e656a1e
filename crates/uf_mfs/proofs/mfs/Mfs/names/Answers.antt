use Rattle.std.proofs.Common.{Err, List, None, Ok, Some, subst, sym, ℕ, ◌≡◌, ◌≤◌, ◌+◌}
use Rattle.std.proofs.lemmas.Result.{err_from_is_err_and}
use Rattle.uf_store.specs.Faults.{fault_in}
use Rattle.uf_store.specs.Lost.{IsLossOf, ReadsOver}
use Rattle.uf_store.proofs.Calls.{shown-after, shown-by, shown-rises, stood-back, stood-front}
use Rattle.uf_tree.specs.Tree.{Dir}
use Rattle.uf_plain.specs.Edits.{at}
use Rattle.uf_plain.specs.Needs.{own_needs, needs_at, way}
use Rattle.uf_plain.specs.Replies.{names_at}
use Rattle.uf_mfs.specs.declared.fault.MfsFault.TheVariants as fault
use Rattle.uf_mfs.specs.Answers.{AnswersOr}
use Rattle.uf_mfs.specs.Standing.{IsAgreedThing}
use Rattle.uf_mfs.proofs.Agreed.{stands-over}
use Rattle.uf_mfs.proofs.Needed.{answers-held, call-met, call-on, call-stopped, needs-held, own-needs-among}
use Rattle.uf_mfs.specs.Touches.{names_touches, read_bound}
use Rattle.uf_mfs.proofs.Touching.{look-touches, read-touches}
use Rattle.uf_mfs.specs.Bad.{IsBadInTree, IsBadUnder}
use Rattle.uf_mfs.proofs.Judging.{under-bad}
use Rattle.uf_mfs.proofs.mfs.Mfs.names.Goals as goal

pub returns-in_err-thing-clause-lost : goal.returns-in_err-thing-clause-lost
returns-in_err-thing-clause-lost g c = λ p es s stood.
    let X = g.S.X.BlockHash.block32 in let N = g.N.NameHash.name64 in let told = (g.S.Store.seen c.args.store.now).told in
    let out = err_from_is_err_and c.from_residual.result c.from_residual.ensures.1 in
    rw (out.1, out.2) (subst (λ (ns : List (List ℕ)). AnswersOr (IsLossOf told (needs_at X N p (own_needs X N p) ns (Dir es))) (λ t found. found ≡ names_at ns t) ns (at 0 ns (Dir es)) (Err c.in_err-thing.field-0.0)) c.as_slice-names.ensures
    (call-stopped X N p told (own_needs X N p) (λ t x. IsAgreedThing X N told p t x) (λ t found. found ≡ names_at c.as_slice-names.result.now t) c.as_slice-names.result.now (Dir es) c.in_err-thing.field-0.0 (c.in_err-thing.ensures.finds p es s stood)))

pub returns-in_err-found-clause-lost : goal.returns-in_err-found-clause-lost
returns-in_err-found-clause-lost g c = λ p es s stood.
    let X = g.S.X.BlockHash.block32 in let N = g.N.NameHash.name64 in let told = (g.S.Store.seen c.args.store.now).told in
    let a = g.S.Store.seen c.args.store.now in let b = g.S.Store.seen c.thing_at.new.store in let d = g.S.Store.seen c.names_of.new.store in
    let front = stood-front a.faults b.faults d.faults c.in_ok-thing.ensures.cause.faults (shown-rises X _ (fault_in c.names_of.result) b d c.names_of.ensures.reads.cause).faults stood in
    let back = stood-back a.faults b.faults d.faults c.in_ok-thing.ensures.cause.faults stood in
    let out = err_from_is_err_and c.from_residual-in_err-found.result c.from_residual-in_err-found.ensures.1 in
    rw (out.1, out.2) (subst (λ (ns : List (List ℕ)). AnswersOr (IsLossOf told (needs_at X N p (own_needs X N p) ns (Dir es))) (λ t found. found ≡ names_at ns t) ns (at 0 ns (Dir es)) (Err (fault.Store c.in_err-found.field-0.0))) c.as_slice-names.ensures
    (call-on X N p told (own_needs X N p) (λ t x. IsAgreedThing X N told p t x) (λ t. names_at c.as_slice-names.result.now t) c.as_slice-names.result.now (Dir es) c.in_ok-thing.thing (Err c.in_err-found.field-0.0) (call-met X N p (IsLossOf told (way X N p c.as_slice-names.result.now (Dir es))) (λ t x. IsAgreedThing X N told p t x) c.as_slice-names.result.now (at 0 c.as_slice-names.result.now (Dir es)) c.in_ok-thing.thing (c.in_ok-thing.ensures.finds p es s front))
    (λ found h. subst (λ told. ReadsOver told (own_needs X N p found) (names_at c.as_slice-names.result.now found) (Err c.in_err-found.field-0.0)) c.in_ok-thing.ensures.told
    (c.in_err-found.ensures.names p found (subst (λ told. IsAgreedThing X N told p found c.in_ok-thing.thing) (sym c.in_ok-thing.ensures.told) h) back))))

pub returns-clause-lost : goal.returns-clause-lost
returns-clause-lost g c = λ p es s stood.
    let X = g.S.X.BlockHash.block32 in let N = g.N.NameHash.name64 in let told = (g.S.Store.seen c.args.store.now).told in
    let a = g.S.Store.seen c.args.store.now in let b = g.S.Store.seen c.thing_at.new.store in let d = g.S.Store.seen c.names_of.new.store in
    let front = stood-front a.faults b.faults d.faults c.in_ok-thing.ensures.cause.faults (shown-rises X _ (fault_in c.names_of.result) b d c.names_of.ensures.reads.cause).faults stood in
    let back = stood-back a.faults b.faults d.faults c.in_ok-thing.ensures.cause.faults stood in
    subst (λ (ns : List (List ℕ)). AnswersOr (IsLossOf told (needs_at X N p (own_needs X N p) ns (Dir es))) (λ t found. found ≡ names_at ns t) ns (at 0 ns (Dir es)) (Ok c.in_ok-found.found)) c.as_slice-names.ensures
    (call-on X N p told (own_needs X N p) (λ t x. IsAgreedThing X N told p t x) (λ t. names_at c.as_slice-names.result.now t) c.as_slice-names.result.now (Dir es) c.in_ok-thing.thing (Ok c.in_ok-found.found) (call-met X N p (IsLossOf told (way X N p c.as_slice-names.result.now (Dir es))) (λ t x. IsAgreedThing X N told p t x) c.as_slice-names.result.now (at 0 c.as_slice-names.result.now (Dir es)) c.in_ok-thing.thing (c.in_ok-thing.ensures.finds p es s front))
    (λ found h. subst (λ told. ReadsOver told (own_needs X N p found) (names_at c.as_slice-names.result.now found) (Ok c.in_ok-found.found)) c.in_ok-thing.ensures.told
    (c.in_ok-found.ensures.names p found (subst (λ told. IsAgreedThing X N told p found c.in_ok-thing.thing) (sym c.in_ok-thing.ensures.told) h) back)))

pub returns-in_err-thing-clause-answer : goal.returns-in_err-thing-clause-answer
returns-in_err-thing-clause-answer g c = λ p es s stood.
    let X = g.S.X.BlockHash.block32 in let N = g.N.NameHash.name64 in let told = (g.S.Store.seen c.args.store.now).told in
    let names = c.args.path.now.names in
    answers-held told (needs_at X N p (own_needs X N p) names (Dir es)) (λ t found. found ≡ names_at names t) names (at 0 names (Dir es)) c.from_residual.result
    (needs-held X N p told (own_needs X N p) (own-needs-among X N p) names c.args.self.now es s) (returns-in_err-thing-clause-lost g c p es (stands-over X N p told c.args.self.now es s) stood)

pub returns-in_err-found-clause-answer : goal.returns-in_err-found-clause-answer
returns-in_err-found-clause-answer g c = λ p es s stood.
    let X = g.S.X.BlockHash.block32 in let N = g.N.NameHash.name64 in let told = (g.S.Store.seen c.args.store.now).told in
    let names = c.args.path.now.names in
    answers-held told (needs_at X N p (own_needs X N p) names (Dir es)) (λ t found. found ≡ names_at names t) names (at 0 names (Dir es)) c.from_residual-in_err-found.result
    (needs-held X N p told (own_needs X N p) (own-needs-among X N p) names c.args.self.now es s) (returns-in_err-found-clause-lost g c p es (stands-over X N p told c.args.self.now es s) stood)

pub returns-clause-answer : goal.returns-clause-answer
returns-clause-answer g c = λ p es s stood.
    let X = g.S.X.BlockHash.block32 in let N = g.N.NameHash.name64 in let told = (g.S.Store.seen c.args.store.now).told in
    let names = c.args.path.now.names in
    answers-held told (needs_at X N p (own_needs X N p) names (Dir es)) (λ t found. found ≡ names_at names t) names (at 0 names (Dir es)) (Ok c.in_ok-found.found)
    (needs-held X N p told (own_needs X N p) (own-needs-among X N p) names c.args.self.now es s) (returns-clause-lost g c p es (stands-over X N p told c.args.self.now es s) stood)

pub returns-in_err-thing-clause-touches : goal.returns-in_err-thing-clause-touches
returns-in_err-thing-clause-touches g c = λ p es s stood.
    let X = g.S.X.BlockHash.block32 in let N = g.N.NameHash.name64 in
    subst (λ (ns : List (List ℕ)). c.thing_at.new.touches ≤ c.args.touches.now + read_bound (names_touches X N p) ns (Dir es)) c.as_slice-names.ensures
    (look-touches (names_touches X N p) c.as_slice-names.result.now (Dir es) c.args.touches.now c.thing_at.new.touches c.in_err-thing.ensures.touches)

pub returns-in_err-found-clause-touches : goal.returns-in_err-found-clause-touches
returns-in_err-found-clause-touches g c = λ p es s stood.
    let X = g.S.X.BlockHash.block32 in let N = g.N.NameHash.name64 in let told = (g.S.Store.seen c.args.store.now).told in
    let a = g.S.Store.seen c.args.store.now in let b = g.S.Store.seen c.thing_at.new.store in let d = g.S.Store.seen c.names_of.new.store in
    let front = stood-front a.faults b.faults d.faults c.in_ok-thing.ensures.cause.faults (shown-rises X _ (fault_in c.names_of.result) b d c.names_of.ensures.reads.cause).faults stood in
    let back = stood-back a.faults b.faults d.faults c.in_ok-thing.ensures.cause.faults stood in
    subst (λ (ns : List (List ℕ)). c.names_of.new.touches ≤ c.args.touches.now + read_bound (names_touches X N p) ns (Dir es)) c.as_slice-names.ensures
    (read-touches (IsLossOf told (way X N p c.as_slice-names.result.now (Dir es))) (λ t x. IsAgreedThing X N told p t x) (names_touches X N p) c.as_slice-names.result.now (Dir es) c.in_ok-thing.thing c.args.touches.now c.thing_at.new.touches c.names_of.new.touches
    (call-met X N p (IsLossOf told (way X N p c.as_slice-names.result.now (Dir es))) (λ t x. IsAgreedThing X N told p t x) c.as_slice-names.result.now (at 0 c.as_slice-names.result.now (Dir es)) c.in_ok-thing.thing (c.in_ok-thing.ensures.finds p es s front)) c.in_ok-thing.ensures.touches (λ found h. c.in_err-found.ensures.touches p found (subst (λ told. IsAgreedThing X N told p found c.in_ok-thing.thing) (sym c.in_ok-thing.ensures.told) h)))

pub returns-clause-touches : goal.returns-clause-touches
returns-clause-touches g c = λ p es s stood.
    let X = g.S.X.BlockHash.block32 in let N = g.N.NameHash.name64 in let told = (g.S.Store.seen c.args.store.now).told in
    let a = g.S.Store.seen c.args.store.now in let b = g.S.Store.seen c.thing_at.new.store in let d = g.S.Store.seen c.names_of.new.store in
    let front = stood-front a.faults b.faults d.faults c.in_ok-thing.ensures.cause.faults (shown-rises X _ (fault_in c.names_of.result) b d c.names_of.ensures.reads.cause).faults stood in
    let back = stood-back a.faults b.faults d.faults c.in_ok-thing.ensures.cause.faults stood in
    subst (λ (ns : List (List ℕ)). c.names_of.new.touches ≤ c.args.touches.now + read_bound (names_touches X N p) ns (Dir es)) c.as_slice-names.ensures
    (read-touches (IsLossOf told (way X N p c.as_slice-names.result.now (Dir es))) (λ t x. IsAgreedThing X N told p t x) (names_touches X N p) c.as_slice-names.result.now (Dir es) c.in_ok-thing.thing c.args.touches.now c.thing_at.new.touches c.names_of.new.touches
    (call-met X N p (IsLossOf told (way X N p c.as_slice-names.result.now (Dir es))) (λ t x. IsAgreedThing X N told p t x) c.as_slice-names.result.now (at 0 c.as_slice-names.result.now (Dir es)) c.in_ok-thing.thing (c.in_ok-thing.ensures.finds p es s front)) c.in_ok-thing.ensures.touches (λ found h. c.in_ok-found.ensures.touches p found (subst (λ told. IsAgreedThing X N told p found c.in_ok-thing.thing) (sym c.in_ok-thing.ensures.told) h)))

pub returns-in_err-found-clause-cause : goal.returns-in_err-found-clause-cause
returns-in_err-found-clause-cause g c =
    let X = g.S.X.BlockHash.block32 in let N = g.N.NameHash.name64 in let root = c.args.self.now.root.cid in let thing = c.in_ok-thing.thing in let f = c.in_err-found.field-0.0 in
    let a = g.S.Store.seen c.args.store.now in let b = g.S.Store.seen c.thing_at.new.store in let d = g.S.Store.seen c.names_of.new.store in
    let out = err_from_is_err_and c.from_residual-in_err-found.result c.from_residual-in_err-found.ensures.1 in
    rw (out.1, out.2) (shown-after X (IsBadInTree X N None root) (Some f) a b d c.in_ok-thing.ensures.cause
    (shown-by X (IsBadUnder X N None thing) (IsBadInTree X N None root) (Some f) b d (under-bad X N None root thing c.in_ok-thing.ensures.required) c.in_err-found.ensures.reads.cause))
