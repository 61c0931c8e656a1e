use Rattle.std.proofs.Common.{◌≤◌, ◌+◌, ◌∙◌, Err, List, Ok, ap, refl, subst, sym, ℕ}
use Rattle.std.proofs.lemmas.Result.{err_from_is_err_and}
use Rattle.uf_fileread.specs.Bad.{IsBadInFile}
use Rattle.uf_fileread.specs.Ranges.{WritesOver, blocks_read, range_of}
use Rattle.uf_store.specs.Keeping.{Agrees}
use Rattle.uf_store.specs.Lost.{IsLossOf}
use Rattle.uf_store.proofs.Calls.{stood-back, stood-front}
use Rattle.uf_tree.specs.FilePlan.{file_plan}
use Rattle.uf_tree.specs.Tree.{Dir}
use Rattle.uf_plain.specs.Edits.{at}
use Rattle.uf_plain.specs.Files.{read as range_at}
use Rattle.uf_plain.specs.Needs.{needs_at}
use Rattle.uf_mfs.specs.Answers.{AnswersOr}
use Rattle.uf_mfs.specs.Reading.{IsHeightOf, SendsAll, range_needs, range_touches, to_read}
use Rattle.uf_mfs.specs.Standing.{IsAgreed}
use Rattle.uf_edge.specs.Streams.{AppendsPrefix}
use Rattle.uf_mfs.proofs.Agreed.{stands-over}
use Rattle.uf_mfs.proofs.Ranges.{calm-calm, nothing-sent, range-shows, read-done, read-front, read-held, none-appended, stood-calm, read-lost, read-stopped, range-rises, range-sink, stopped-shows}
use Rattle.uf_mfs.specs.Touches.{read_bound}
use Rattle.uf_mfs.specs.declared.fault.MfsFault.{MfsFault}
use Rattle.uf_mfs.proofs.Reaching.{range-reached}
use Rattle.uf_mfs.proofs.Touching.{look-touches}
use Rattle.uf_mfs.proofs.mfs.Mfs.read.Goals as goal

pub returns-in-Err-clause-lost : goal.returns-in-Err-clause-lost
returns-in-Err-clause-lost g c = λ p es height s tall stood calm.
    let X = g.S.X.BlockHash.block32 in let N = g.N.NameHash.name64 in let told = (g.S.Store.seen c.args.store.now).told in
    let held = g.O.Sink.holds c.args.out.now in
    subst (λ (ns : List (List ℕ)). AnswersOr (IsLossOf told (needs_at X N p (range_needs X p height c.args.offset c.args.count) ns (Dir es))) (λ bytes n. SendsAll held held bytes n) ns (range_at c.args.offset c.args.count ns es) (Err c.fault_of.result)) c.as_slice-names.ensures
    (read-stopped X N p told c.as_slice-names.result.now es (λ t e. IsAgreed X N told p e t) (λ bytes n. SendsAll held held bytes n) (range_needs X p height c.args.offset c.args.count) c.args.offset c.args.count
    c.in-Err.stop c.fault_of.result c.fault_of.ensures (c.in-Err.ensures.looks p es s.root stood))

pub returns-in_err-sent-in-Ok-clause-lost : goal.returns-in_err-sent-in-Ok-clause-lost
returns-in_err-sent-in-Ok-clause-lost g c = λ p es height s tall stood calm.
    let X = g.S.X.BlockHash.block32 in let N = g.N.NameHash.name64 in
    let a = g.S.Store.seen c.args.store.now in let b = g.S.Store.seen c.look_at_file.new.store in let d = g.S.Store.seen c.read_range.new.store in let told = a.told in
    let held = g.O.Sink.holds c.args.out.now in let held_now = g.O.Sink.holds c.read_range.new.out in
    let same = c.in-Ok.ensures.reads.told in
    let front = stood-front a.faults b.faults d.faults c.in-Ok.ensures.reads.cause.faults (range-rises X (IsBadInFile b.told c.in-Ok.entry.cid) (Err c.in_err-sent-in-Ok.field-0.0) b d _ _ c.in_err-sent-in-Ok.ensures.cause) stood in
    let back = stood-back a.faults b.faults d.faults c.in-Ok.ensures.reads.cause.faults stood in
    let out = err_from_is_err_and c.from_residual.result c.from_residual.ensures.1 in
    rw out.1 (subst (λ (ns : List (List ℕ)). IsHeightOf p height (at 0 ns (Dir es)) → AnswersOr (IsLossOf told (needs_at X N p (range_needs X p height c.args.offset c.args.count) ns (Dir es))) (λ bytes n. SendsAll held held_now bytes n) ns
    (range_at c.args.offset c.args.count ns es) (Err out.0)) c.as_slice-names.ensures
    (λ tall. read-lost X N p told c.as_slice-names.result.now es height c.args.offset c.args.count held held_now c.in-Ok.entry c.in_err-sent-in-Ok.field-0.0 out.0 out.2
    (λ is. calm (out.1 ∙ ap (λ (f : MfsFault). Err f) (range-sink c.in_err-sent-in-Ok.field-0.0 out.0 out.2 is))) (c.in-Ok.ensures.looks p es s.root front) tall
    (λ m bytes is agrees. subst (λ t. WritesOver t (blocks_read X p.chunk p.width m height c.args.offset c.args.count bytes) (range_of c.args.offset c.args.count bytes) held held_now (Err c.in_err-sent-in-Ok.field-0.0)) same
    (c.in_err-sent-in-Ok.ensures.value p m bytes height is (subst (λ t. Agrees t (file_plan X p m bytes).blocks) (sym same) agrees) back))) tall)

pub returns-in_ok-sent-in-Ok-clause-lost : goal.returns-in_ok-sent-in-Ok-clause-lost
returns-in_ok-sent-in-Ok-clause-lost g c = λ p es height s tall stood calm.
    let X = g.S.X.BlockHash.block32 in let N = g.N.NameHash.name64 in
    let a = g.S.Store.seen c.args.store.now in let b = g.S.Store.seen c.look_at_file.new.store in let d = g.S.Store.seen c.read_range.new.store in let told = a.told in
    let held = g.O.Sink.holds c.args.out.now in let held_now = g.O.Sink.holds c.read_range.new.out in
    let same = c.in-Ok.ensures.reads.told in
    let front = stood-front a.faults b.faults d.faults c.in-Ok.ensures.reads.cause.faults (range-rises X (IsBadInFile b.told c.in-Ok.entry.cid) (Ok c.in_ok-sent-in-Ok.sent) b d _ _ c.in_ok-sent-in-Ok.ensures.cause) stood in
    let back = stood-back a.faults b.faults d.faults c.in-Ok.ensures.reads.cause.faults stood in
    subst (λ (ns : List (List ℕ)). IsHeightOf p height (at 0 ns (Dir es)) → AnswersOr (IsLossOf told (needs_at X N p (range_needs X p height c.args.offset c.args.count) ns (Dir es))) (λ bytes n. SendsAll held held_now bytes n) ns
    (range_at c.args.offset c.args.count ns es) (Ok c.in_ok-sent-in-Ok.sent)) c.as_slice-names.ensures
    (λ tall. read-done X N p told c.as_slice-names.result.now es height c.args.offset c.args.count c.in_ok-sent-in-Ok.sent held held_now c.in-Ok.entry (c.in-Ok.ensures.looks p es s.root front) tall
    (λ m bytes is agrees. subst (λ t. WritesOver t (blocks_read X p.chunk p.width m height c.args.offset c.args.count bytes) (range_of c.args.offset c.args.count bytes) held held_now (Ok c.in_ok-sent-in-Ok.sent)) same
    (c.in_ok-sent-in-Ok.ensures.value p m bytes height is (subst (λ t. Agrees t (file_plan X p m bytes).blocks) (sym same) agrees) back))) tall

pub returns-in-Err-clause-answer : goal.returns-in-Err-clause-answer
returns-in-Err-clause-answer g c = λ p es s stood calm.
    let X = g.S.X.BlockHash.block32 in let N = g.N.NameHash.name64 in let told = (g.S.Store.seen c.args.store.now).told in let held = g.O.Sink.holds c.args.out.now in
    read-held X N p told c.args.path.now.names es (λ bytes n. SendsAll held held bytes n) c.args.self.now c.args.offset c.args.count (Err c.fault_of.result) s
    (λ height tall. returns-in-Err-clause-lost g c p es height (stands-over X N p told c.args.self.now es s) tall stood calm)

pub returns-in_err-sent-in-Ok-clause-answer : goal.returns-in_err-sent-in-Ok-clause-answer
returns-in_err-sent-in-Ok-clause-answer g c = λ p es s stood calm.
    let X = g.S.X.BlockHash.block32 in let N = g.N.NameHash.name64 in let told = (g.S.Store.seen c.args.store.now).told in
    let held = g.O.Sink.holds c.args.out.now in let held_now = g.O.Sink.holds c.read_range.new.out in
    read-held X N p told c.args.path.now.names es (λ bytes n. SendsAll held held_now bytes n) c.args.self.now c.args.offset c.args.count c.from_residual.result s
    (λ height tall. returns-in_err-sent-in-Ok-clause-lost g c p es height (stands-over X N p told c.args.self.now es s) tall stood calm)

pub returns-in_ok-sent-in-Ok-clause-answer : goal.returns-in_ok-sent-in-Ok-clause-answer
returns-in_ok-sent-in-Ok-clause-answer g c = λ p es s stood calm.
    let X = g.S.X.BlockHash.block32 in let N = g.N.NameHash.name64 in let told = (g.S.Store.seen c.args.store.now).told in
    let held = g.O.Sink.holds c.args.out.now in let held_now = g.O.Sink.holds c.read_range.new.out in
    read-held X N p told c.args.path.now.names es (λ bytes n. SendsAll held held_now bytes n) c.args.self.now c.args.offset c.args.count (Ok c.in_ok-sent-in-Ok.sent) s
    (λ height tall. returns-in_ok-sent-in-Ok-clause-lost g c p es height (stands-over X N p told c.args.self.now es s) tall stood calm)

pub returns-in-Err-clause-prefix : goal.returns-in-Err-clause-prefix
returns-in-Err-clause-prefix g c = λ p es s room. nothing-sent (to_read (range_at c.args.offset c.args.count c.args.path.now.names es)) (g.O.Sink.holds c.args.out.now)

pub returns-in_err-sent-in-Ok-clause-prefix : goal.returns-in_err-sent-in-Ok-clause-prefix
returns-in_err-sent-in-Ok-clause-prefix g c = λ p es s room.
    let X = g.S.X.BlockHash.block32 in let N = g.N.NameHash.name64 in
    let a = g.S.Store.seen c.args.store.now in let b = g.S.Store.seen c.look_at_file.new.store in let told = a.told in
    let held = g.O.Sink.holds c.args.out.now in let held_now = g.O.Sink.holds c.read_range.new.out in
    let same = c.in-Ok.ensures.reads.told in
    let front = stood-calm a.faults b.faults c.in-Ok.ensures.reads.cause.faults room in
    let out = err_from_is_err_and c.from_residual.result c.from_residual.ensures.1 in
    rw out.1 (subst (λ (ns : List (List ℕ)). AppendsPrefix (to_read (range_at c.args.offset c.args.count ns es)) held held_now) c.as_slice-names.ensures
    (read-front X N p told c.as_slice-names.result.now es c.args.offset c.args.count held held_now c.in-Ok.entry (c.in-Ok.ensures.looks p es s.root front)
    (λ m bytes height is agrees. c.in_err-sent-in-Ok.ensures.fault p m bytes height is (subst (λ t. Agrees t (file_plan X p m bytes).blocks) (sym same) agrees))))

pub returns-in-Err-clause-cause : goal.returns-in-Err-clause-cause
returns-in-Err-clause-cause g c =
    let X = g.S.X.BlockHash.block32 in let N = g.N.NameHash.name64 in let a = g.S.Store.seen c.args.store.now in let b = g.S.Store.seen c.look_at_file.new.store in
    stopped-shows X N a.told c.args.self.now.root.cid c.as_slice-names.result.now c.in-Err.stop c.fault_of.result a b (g.O.Sink.faults c.args.out.now) c.fault_of.ensures c.in-Err.ensures.reads.cause

pub returns-in_err-sent-in-Ok-clause-cause : goal.returns-in_err-sent-in-Ok-clause-cause
returns-in_err-sent-in-Ok-clause-cause g c =
    let X = g.S.X.BlockHash.block32 in let N = g.N.NameHash.name64 in
    let a = g.S.Store.seen c.args.store.now in let b = g.S.Store.seen c.look_at_file.new.store in let d = g.S.Store.seen c.read_range.new.store in
    let out = err_from_is_err_and c.from_residual.result c.from_residual.ensures.1 in
    rw out.1 (range-shows X N a.told c.args.self.now.root.cid c.in-Ok.entry.cid c.in_err-sent-in-Ok.field-0.0 out.0 a b d _ _ out.2 c.in-Ok.ensures.reads.cause c.in-Ok.ensures.reads.told refl c.in_err-sent-in-Ok.ensures.cause)

pub returns-in_ok-sent-in-Ok-clause-cause : goal.returns-in_ok-sent-in-Ok-clause-cause
returns-in_ok-sent-in-Ok-clause-cause g c =
    let X = g.S.X.BlockHash.block32 in let N = g.N.NameHash.name64 in
    let a = g.S.Store.seen c.args.store.now in let b = g.S.Store.seen c.look_at_file.new.store in let d = g.S.Store.seen c.read_range.new.store in
    (calm-calm X N a.told c.args.self.now.root.cid a b d c.in-Ok.ensures.reads.cause c.in_ok-sent-in-Ok.ensures.cause.0, c.in_ok-sent-in-Ok.ensures.cause.1)

pub returns-in-Err-clause-touches : goal.returns-in-Err-clause-touches
returns-in-Err-clause-touches g c = λ p es rows s heights stood.
    let more = range_touches p rows c.args.offset c.args.count in
    subst (λ (ns : List (List ℕ)). c.look_at_file.new.touches ≤ c.args.touches.now + read_bound more ns (Dir es)) c.as_slice-names.ensures
    (look-touches more c.as_slice-names.result.now (Dir es) c.args.touches.now c.look_at_file.new.touches c.in-Err.ensures.touches)

pub returns-in_err-sent-in-Ok-clause-touches : goal.returns-in_err-sent-in-Ok-clause-touches
returns-in_err-sent-in-Ok-clause-touches g c = λ p es rows s heights stood.
    let X = g.S.X.BlockHash.block32 in let N = g.N.NameHash.name64 in
    let a = g.S.Store.seen c.args.store.now in let b = g.S.Store.seen c.look_at_file.new.store in let d = g.S.Store.seen c.read_range.new.store in
    let same = c.in-Ok.ensures.reads.told in let names = c.as_slice-names.result.now in let more = range_touches p rows c.args.offset c.args.count in
    let front = stood-front a.faults b.faults d.faults c.in-Ok.ensures.reads.cause.faults (range-rises X (IsBadInFile b.told c.in-Ok.entry.cid) (Err c.in_err-sent-in-Ok.field-0.0) b d _ _ c.in_err-sent-in-Ok.ensures.cause) stood in
    subst (λ (ns : List (List ℕ)). c.read_range.new.touches ≤ c.args.touches.now + read_bound more ns (Dir es)) c.as_slice-names.ensures
    (range-reached X N p a.told names es rows c.args.offset c.args.count c.in-Ok.entry c.args.touches.now c.look_at_file.new.touches c.read_range.new.touches heights
    (c.in-Ok.ensures.looks p es s.root front) c.in-Ok.ensures.touches
    (λ m bytes height is agrees. c.in_err-sent-in-Ok.ensures.touches p m bytes height is (subst (λ t. Agrees t (file_plan X p m bytes).blocks) (sym same) agrees)))

pub returns-in_ok-sent-in-Ok-clause-touches : goal.returns-in_ok-sent-in-Ok-clause-touches
returns-in_ok-sent-in-Ok-clause-touches g c = λ p es rows s heights stood.
    let X = g.S.X.BlockHash.block32 in let N = g.N.NameHash.name64 in
    let a = g.S.Store.seen c.args.store.now in let b = g.S.Store.seen c.look_at_file.new.store in let d = g.S.Store.seen c.read_range.new.store in
    let same = c.in-Ok.ensures.reads.told in let names = c.as_slice-names.result.now in let more = range_touches p rows c.args.offset c.args.count in
    let front = stood-front a.faults b.faults d.faults c.in-Ok.ensures.reads.cause.faults (range-rises X (IsBadInFile b.told c.in-Ok.entry.cid) (Ok c.in_ok-sent-in-Ok.sent) b d _ _ c.in_ok-sent-in-Ok.ensures.cause) stood in
    subst (λ (ns : List (List ℕ)). c.read_range.new.touches ≤ c.args.touches.now + read_bound more ns (Dir es)) c.as_slice-names.ensures
    (range-reached X N p a.told names es rows c.args.offset c.args.count c.in-Ok.entry c.args.touches.now c.look_at_file.new.touches c.read_range.new.touches heights
    (c.in-Ok.ensures.looks p es s.root front) c.in-Ok.ensures.touches
    (λ m bytes height is agrees. c.in_ok-sent-in-Ok.ensures.touches p m bytes height is (subst (λ t. Agrees t (file_plan X p m bytes).blocks) (sym same) agrees)))

pub returns-in-Err-clause-sends : goal.returns-in-Err-clause-sends
returns-in-Err-clause-sends g c = none-appended c.args.count (g.O.Sink.holds c.args.out.now)

pub returns-in_err-sent-in-Ok-clause-sends : goal.returns-in_err-sent-in-Ok-clause-sends
returns-in_err-sent-in-Ok-clause-sends g c = c.in_err-sent-in-Ok.ensures.sends

pub returns-in_ok-sent-in-Ok-clause-sends : goal.returns-in_ok-sent-in-Ok-clause-sends
returns-in_ok-sent-in-Ok-clause-sends g c = record { count = c.in_ok-sent-in-Ok.sent; few = c.in_ok-sent-in-Ok.ensures.sends.0; appends = c.in_ok-sent-in-Ok.ensures.sends.1 }
