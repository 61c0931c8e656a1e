use Rattle.std.proofs.Common.{Err, List, Ok, subst, sym, ℕ, ◌≡◌, Some, None}
use Rattle.std.proofs.lemmas.Result.{err_from_is_err_and}
use Rattle.uf_store.specs.Faults.{fault_in}
use Rattle.uf_store.specs.Lost.{IsLossOf, ReadsOver}
use Rattle.uf_store.proofs.Calls.{shown-after, shown-by, shown-rises, stood-back, stood-front}
use Rattle.uf_tree.specs.Tree.{Dir}
use Rattle.uf_plain.specs.Edits.{at}
use Rattle.uf_plain.specs.Needs.{root_of, needs_at, way}
use Rattle.uf_plain.specs.Replies.{stat_of}
use Rattle.uf_mfs.specs.declared.fault.MfsFault.TheVariants as fault
use Rattle.uf_mfs.specs.Answers.{AnswersOr}
use Rattle.uf_dir.specs.Bad.{IsBadRoot}
use Rattle.uf_mfs.specs.Standing.{IsAgreedThing}
use Rattle.uf_mfs.proofs.Agreed.{stands-over}
use Rattle.uf_mfs.proofs.Needed.{answers-held, call-met, call-on, call-stopped, needs-held, root-of-among}
use Rattle.uf_mfs.specs.Bad.{IsBadInTree}
use Rattle.uf_mfs.proofs.Judging.{root-bad}
use Rattle.uf_mfs.proofs.mfs.Mfs.stat.Goals as goal

pub returns-in_err-thing-clause-lost : goal.returns-in_err-thing-clause-lost
returns-in_err-thing-clause-lost g c = λ p es s stood.
    let X = g.S.X.BlockHash.block32 in let N = g.N.NameHash.name64 in let told = (g.S.Store.seen c.args.store.now).told in
    let out = err_from_is_err_and c.from_residual.result c.from_residual.ensures.1 in
    rw (out.1, out.2) (subst (λ (ns : List (List ℕ)). AnswersOr (IsLossOf told (needs_at X N p (root_of X N p) ns (Dir es))) (λ t stat. stat ≡ stat_of X N p t) ns (at 0 ns (Dir es)) (Err c.in_err-thing.field-0.0)) c.as_slice-names.ensures
    (call-stopped X N p told (root_of X N p) (λ t x. IsAgreedThing X N told p t x) (λ t stat. stat ≡ stat_of X N p t) c.as_slice-names.result.now (Dir es) c.in_err-thing.field-0.0 (c.in_err-thing.ensures.finds p es s stood)))

pub returns-in_err-stat-clause-lost : goal.returns-in_err-stat-clause-lost
returns-in_err-stat-clause-lost g c = λ p es s stood.
    let X = g.S.X.BlockHash.block32 in let N = g.N.NameHash.name64 in let told = (g.S.Store.seen c.args.store.now).told in
    let a = g.S.Store.seen c.args.store.now in let b = g.S.Store.seen c.thing_at.new.store in let d = g.S.Store.seen c.stat_of.new.store in
    let front = stood-front a.faults b.faults d.faults c.in_ok-thing.ensures.cause.faults (shown-rises X IsBadRoot (fault_in c.stat_of.result) b d c.stat_of.ensures.reads.cause).faults stood in
    let back = stood-back a.faults b.faults d.faults c.in_ok-thing.ensures.cause.faults stood in
    let out = err_from_is_err_and c.from_residual-in_err-stat.result c.from_residual-in_err-stat.ensures.1 in
    rw (out.1, out.2) (subst (λ (ns : List (List ℕ)). AnswersOr (IsLossOf told (needs_at X N p (root_of X N p) ns (Dir es))) (λ t stat. stat ≡ stat_of X N p t) ns (at 0 ns (Dir es)) (Err (fault.Store c.in_err-stat.field-0.0))) c.as_slice-names.ensures
    (call-on X N p told (root_of X N p) (λ t x. IsAgreedThing X N told p t x) (λ t. stat_of X N p t) c.as_slice-names.result.now (Dir es) c.in_ok-thing.thing (Err c.in_err-stat.field-0.0) (call-met X N p (IsLossOf told (way X N p c.as_slice-names.result.now (Dir es))) (λ t x. IsAgreedThing X N told p t x) c.as_slice-names.result.now (at 0 c.as_slice-names.result.now (Dir es)) c.in_ok-thing.thing (c.in_ok-thing.ensures.finds p es s front))
    (λ found h. subst (λ told. ReadsOver told (root_of X N p found) (stat_of X N p found) (Err c.in_err-stat.field-0.0)) c.in_ok-thing.ensures.told
    (c.in_err-stat.ensures.stat p found (subst (λ told. IsAgreedThing X N told p found c.in_ok-thing.thing) (sym c.in_ok-thing.ensures.told) h) back))))

pub returns-clause-lost : goal.returns-clause-lost
returns-clause-lost g c = λ p es s stood.
    let X = g.S.X.BlockHash.block32 in let N = g.N.NameHash.name64 in let told = (g.S.Store.seen c.args.store.now).told in
    let a = g.S.Store.seen c.args.store.now in let b = g.S.Store.seen c.thing_at.new.store in let d = g.S.Store.seen c.stat_of.new.store in
    let front = stood-front a.faults b.faults d.faults c.in_ok-thing.ensures.cause.faults (shown-rises X IsBadRoot (fault_in c.stat_of.result) b d c.stat_of.ensures.reads.cause).faults stood in
    let back = stood-back a.faults b.faults d.faults c.in_ok-thing.ensures.cause.faults stood in
    subst (λ (ns : List (List ℕ)). AnswersOr (IsLossOf told (needs_at X N p (root_of X N p) ns (Dir es))) (λ t stat. stat ≡ stat_of X N p t) ns (at 0 ns (Dir es)) (Ok c.in_ok-stat.stat)) c.as_slice-names.ensures
    (call-on X N p told (root_of X N p) (λ t x. IsAgreedThing X N told p t x) (λ t. stat_of X N p t) c.as_slice-names.result.now (Dir es) c.in_ok-thing.thing (Ok c.in_ok-stat.stat) (call-met X N p (IsLossOf told (way X N p c.as_slice-names.result.now (Dir es))) (λ t x. IsAgreedThing X N told p t x) c.as_slice-names.result.now (at 0 c.as_slice-names.result.now (Dir es)) c.in_ok-thing.thing (c.in_ok-thing.ensures.finds p es s front))
    (λ found h. subst (λ told. ReadsOver told (root_of X N p found) (stat_of X N p found) (Ok c.in_ok-stat.stat)) c.in_ok-thing.ensures.told
    (c.in_ok-stat.ensures.stat p found (subst (λ told. IsAgreedThing X N told p found c.in_ok-thing.thing) (sym c.in_ok-thing.ensures.told) h) back)))

pub returns-in_err-thing-clause-answer : goal.returns-in_err-thing-clause-answer
returns-in_err-thing-clause-answer g c = λ p es s stood.
    let X = g.S.X.BlockHash.block32 in let N = g.N.NameHash.name64 in let told = (g.S.Store.seen c.args.store.now).told in
    let names = c.args.path.now.names in
    answers-held told (needs_at X N p (root_of X N p) names (Dir es)) (λ t stat. stat ≡ stat_of X N p t) names (at 0 names (Dir es)) c.from_residual.result
    (needs-held X N p told (root_of X N p) (root-of-among X N p) names c.args.self.now es s) (returns-in_err-thing-clause-lost g c p es (stands-over X N p told c.args.self.now es s) stood)

pub returns-in_err-stat-clause-answer : goal.returns-in_err-stat-clause-answer
returns-in_err-stat-clause-answer g c = λ p es s stood.
    let X = g.S.X.BlockHash.block32 in let N = g.N.NameHash.name64 in let told = (g.S.Store.seen c.args.store.now).told in
    let names = c.args.path.now.names in
    answers-held told (needs_at X N p (root_of X N p) names (Dir es)) (λ t stat. stat ≡ stat_of X N p t) names (at 0 names (Dir es)) c.from_residual-in_err-stat.result
    (needs-held X N p told (root_of X N p) (root-of-among X N p) names c.args.self.now es s) (returns-in_err-stat-clause-lost g c p es (stands-over X N p told c.args.self.now es s) stood)

pub returns-clause-answer : goal.returns-clause-answer
returns-clause-answer g c = λ p es s stood.
    let X = g.S.X.BlockHash.block32 in let N = g.N.NameHash.name64 in let told = (g.S.Store.seen c.args.store.now).told in
    let names = c.args.path.now.names in
    answers-held told (needs_at X N p (root_of X N p) names (Dir es)) (λ t stat. stat ≡ stat_of X N p t) names (at 0 names (Dir es)) (Ok c.in_ok-stat.stat)
    (needs-held X N p told (root_of X N p) (root-of-among X N p) names c.args.self.now es s) (returns-clause-lost g c p es (stands-over X N p told c.args.self.now es s) stood)

pub returns-in_err-stat-clause-cause : goal.returns-in_err-stat-clause-cause
returns-in_err-stat-clause-cause g c =
    let X = g.S.X.BlockHash.block32 in let N = g.N.NameHash.name64 in let root = c.args.self.now.root.cid in let f = c.in_err-stat.field-0.0 in
    let a = g.S.Store.seen c.args.store.now in let b = g.S.Store.seen c.thing_at.new.store in let d = g.S.Store.seen c.stat_of.new.store in
    let out = err_from_is_err_and c.from_residual-in_err-stat.result c.from_residual-in_err-stat.ensures.1 in
    rw (out.1, out.2) (shown-after X (IsBadInTree X N None root) (Some f) a b d c.in_ok-thing.ensures.cause
    (shown-by X IsBadRoot (IsBadInTree X N None root) (Some f) b d (root-bad X N None root) c.in_err-stat.ensures.reads.cause))
