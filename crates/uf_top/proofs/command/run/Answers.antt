use Rattle.std.proofs.Common.{◌≡◌, refl, sym, subst, ◌∙◌, inl, Err, Result}
use Rattle.std.specs.Prelude.{ℕ, List, map, string_bytes}
use Rattle.uf_words.specs.Commands.{command_of}
use Rattle.uf_command.specs.Commands.{IsAsked, IsOfWords}
use Rattle.uf_command.specs.Requests.{IsAskedAlone, request_in}
use Rattle.uf_command.specs.Statuses.{no_memory}
use Rattle.uf_command.specs.declared.requests.Request.TheVariants as requests
use Rattle.uf_command.specs.declared.types.Command.{Command}
use Rattle.uf_command.specs.declared.types.Refusal.{Refusal}
use Rattle.uf_command.proofs.Asked.{IsOfWordsAlone, words-only}
use Rattle.uf_top.specs.Around.{around, host_side}
use Rattle.uf_top.specs.Talking.{RunsPull}
use Rattle.uf_top.proofs.Checked.{check-wants, checked-as}
use Rattle.uf_top.proofs.Collected.{gc-runs, gc-wants}
use Rattle.uf_top.proofs.Runs.{blames-of, runs-told}
use Rattle.uf_top.proofs.Standings.{stands-one}
use Rattle.uf_top.proofs.Talks.{pull-wants, serve-wants}
use Rattle.uf_top.proofs.Wanted.{batch-wants}
use Rattle.uf_top.proofs.command.run.Goals as goal

-- the one command that is asked for was read
read-alone : (words : List (List ℕ)) (given asked : Result Command Refusal) → request_in words ≡ requests.One asked → IsAskedAlone given (request_in words) → IsAsked given asked
read-alone words given asked is = subst (IsAskedAlone given) is

-- and is refused as no command, by a path, or never
of-words : (words : List (List ℕ)) (asked : Result Command Refusal) → request_in words ≡ requests.One asked → IsOfWords asked
of-words words asked is = subst IsOfWordsAlone is (words-only (command_of words))

pub returns-in-One-clause-runs : goal.returns-in-One-clause-runs
returns-in-One-clause-runs g c = λ asked is.
    let h : IsAsked c.in-One.asked asked = read-alone (map string_bytes c.args.words.now) c.in-One.asked asked is c.in-One.ensures.asked in
    let w : IsOfWords asked = of-words (map string_bytes c.args.words.now) asked is in
    runs-told c.tell_end.result g.S.X.BlockHash.block32 g.N.NameHash.name64
    (around (g.S.Store.seen c.args.store.now) (g.I.Source.left c.args.input.now) (g.I.Source.faults c.args.input.now) (g.O.Sink.holds c.args.output.now) (g.O.Sink.faults c.args.output.now) c.args.touches.now (host_side (g.W.Host.tree c.args.host.now) (g.W.Host.read_faults c.args.host.now) (g.W.Host.write_faults c.args.host.now)) (record { held = g.E.Sink.holds c.args.errors.now; faults = g.E.Sink.faults c.args.errors.now }))
    (around (g.S.Store.seen c.serve-done.new.store) (g.I.Source.left c.serve-done.new.input) (g.I.Source.faults c.serve-done.new.input) (g.O.Sink.holds c.serve-done.new.output) (g.O.Sink.faults c.serve-done.new.output) c.serve-done.new.touches (host_side (g.W.Host.tree c.serve-done.new.host) (g.W.Host.read_faults c.serve-done.new.host) (g.W.Host.write_faults c.serve-done.new.host)) (record { held = g.E.Sink.holds c.tell_end.new.errors; faults = g.E.Sink.faults c.tell_end.new.errors }))
    asked c.serve-done.result w (c.serve-done.ensures.serves asked h (record { held = g.E.Sink.holds c.args.errors.now; faults = g.E.Sink.faults c.args.errors.now }) (record { held = g.E.Sink.holds c.tell_end.new.errors; faults = g.E.Sink.faults c.tell_end.new.errors })) (c.serve-done.ensures.own asked h w) (c.serve-done.ensures.kinds asked h) c.tell_end.ensures

pub returns-in-One-clause-blames : goal.returns-in-One-clause-blames
returns-in-One-clause-blames g c = λ asked is.
    let h : IsAsked c.in-One.asked asked = read-alone (map string_bytes c.args.words.now) c.in-One.asked asked is c.in-One.ensures.asked in
    let w : IsOfWords asked = of-words (map string_bytes c.args.words.now) asked is in
    blames-of c.tell_end.result g.S.X.BlockHash.block32 g.N.NameHash.name64
    (around (g.S.Store.seen c.args.store.now) (g.I.Source.left c.args.input.now) (g.I.Source.faults c.args.input.now) (g.O.Sink.holds c.args.output.now) (g.O.Sink.faults c.args.output.now) c.args.touches.now (host_side (g.W.Host.tree c.args.host.now) (g.W.Host.read_faults c.args.host.now) (g.W.Host.write_faults c.args.host.now)) (record { held = g.E.Sink.holds c.args.errors.now; faults = g.E.Sink.faults c.args.errors.now }))
    (around (g.S.Store.seen c.serve-done.new.store) (g.I.Source.left c.serve-done.new.input) (g.I.Source.faults c.serve-done.new.input) (g.O.Sink.holds c.serve-done.new.output) (g.O.Sink.faults c.serve-done.new.output) c.serve-done.new.touches (host_side (g.W.Host.tree c.serve-done.new.host) (g.W.Host.read_faults c.serve-done.new.host) (g.W.Host.write_faults c.serve-done.new.host)) (record { held = g.E.Sink.holds c.tell_end.new.errors; faults = g.E.Sink.faults c.tell_end.new.errors }))
    asked c.serve-done.result (c.serve-done.ensures.serves asked h (record { held = g.E.Sink.holds c.args.errors.now; faults = g.E.Sink.faults c.args.errors.now }) (record { held = g.E.Sink.holds c.tell_end.new.errors; faults = g.E.Sink.faults c.tell_end.new.errors })) w c.tell_end.ensures

pub returns-in-One-clause-batch : goal.returns-in-One-clause-batch
returns-in-One-clause-batch g c = λ is.
    let m : c.in-One.asked ≡ Err no_memory = subst (IsAskedAlone c.in-One.asked) is c.in-One.ensures.asked in
    batch-wants g.S.X.BlockHash.block32 g.N.NameHash.name64 1048576 1073741824 c.tell_end.result c.serve-done.result
    (around (g.S.Store.seen c.args.store.now) (g.I.Source.left c.args.input.now) (g.I.Source.faults c.args.input.now) (g.O.Sink.holds c.args.output.now) (g.O.Sink.faults c.args.output.now) c.args.touches.now (host_side (g.W.Host.tree c.args.host.now) (g.W.Host.read_faults c.args.host.now) (g.W.Host.write_faults c.args.host.now)) (record { held = g.E.Sink.holds c.args.errors.now; faults = g.E.Sink.faults c.args.errors.now }))
    (around (g.S.Store.seen c.serve-done.new.store) (g.I.Source.left c.serve-done.new.input) (g.I.Source.faults c.serve-done.new.input) (g.O.Sink.holds c.serve-done.new.output) (g.O.Sink.faults c.serve-done.new.output) c.serve-done.new.touches (host_side (g.W.Host.tree c.serve-done.new.host) (g.W.Host.read_faults c.serve-done.new.host) (g.W.Host.write_faults c.serve-done.new.host)) (record { held = g.E.Sink.holds c.tell_end.new.errors; faults = g.E.Sink.faults c.tell_end.new.errors }))
    (c.serve-done.ensures.serves (Err no_memory) (subst (λ asked. IsAsked asked (Err no_memory)) (sym m) (inl refl)) (record { held = g.E.Sink.holds c.args.errors.now; faults = g.E.Sink.faults c.args.errors.now }) (record { held = g.E.Sink.holds c.tell_end.new.errors; faults = g.E.Sink.faults c.tell_end.new.errors })) c.tell_end.ensures

pub returns-in-One-clause-one : goal.returns-in-One-clause-one
returns-in-One-clause-one g c = λ s r stands other.
    stands-one g.S.X.BlockHash.block32 g.N.NameHash.name64 (record { size = g.met.S.X.BlockHash.size; are_bytes = g.met.S.X.BlockHash.are_bytes }) g.met.N.NameHash.fits (g.S.Store.seen c.serve-done.new.store).told s r stands other

pub returns-in-Batch-clause-one : goal.returns-in-Batch-clause-one
returns-in-Batch-clause-one g c = λ s r stands other.
    stands-one g.S.X.BlockHash.block32 g.N.NameHash.name64 (record { size = g.met.S.X.BlockHash.size; are_bytes = g.met.S.X.BlockHash.are_bytes }) g.met.N.NameHash.fits (g.S.Store.seen c.batch.new.store).told s r stands other

pub returns-in-Batch-clause-runs : goal.returns-in-Batch-clause-runs
returns-in-Batch-clause-runs g c = λ asked is. absurd (let k : requests.Batch ≡ requests.One asked = sym c.in-Batch.ensures.asked ∙ is in cc)

pub returns-in-Batch-clause-blames : goal.returns-in-Batch-clause-blames
returns-in-Batch-clause-blames g c = λ asked is. absurd (let k : requests.Batch ≡ requests.One asked = sym c.in-Batch.ensures.asked ∙ is in cc)

pub returns-in-One-clause-left : goal.returns-in-One-clause-left
returns-in-One-clause-left g c = λ asked is.
    (c.serve-done.ensures.spares asked (read-alone (map string_bytes c.args.words.now) c.in-One.asked asked is c.in-One.ensures.asked)).left

pub returns-in-Batch-clause-left : goal.returns-in-Batch-clause-left
returns-in-Batch-clause-left g c = λ asked is. absurd (let k : requests.Batch ≡ requests.One asked = sym c.in-Batch.ensures.asked ∙ is in cc)

pub returns-in-One-clause-input : goal.returns-in-One-clause-input
returns-in-One-clause-input g c = λ asked is.
    (c.serve-done.ensures.spares asked (read-alone (map string_bytes c.args.words.now) c.in-One.asked asked is c.in-One.ensures.asked)).input

pub returns-in-Batch-clause-input : goal.returns-in-Batch-clause-input
returns-in-Batch-clause-input g c = λ asked is. absurd (let k : requests.Batch ≡ requests.One asked = sym c.in-Batch.ensures.asked ∙ is in cc)

pub returns-in-One-clause-host : goal.returns-in-One-clause-host
returns-in-One-clause-host g c = λ asked is.
    (c.serve-done.ensures.spares asked (read-alone (map string_bytes c.args.words.now) c.in-One.asked asked is c.in-One.ensures.asked)).host

pub returns-in-Batch-clause-host : goal.returns-in-Batch-clause-host
returns-in-Batch-clause-host g c = λ asked is. absurd (let k : requests.Batch ≡ requests.One asked = sym c.in-Batch.ensures.asked ∙ is in cc)

pub returns-in-One-clause-untouched : goal.returns-in-One-clause-untouched
returns-in-One-clause-untouched g c = λ asked is.
    (c.serve-done.ensures.spares asked (read-alone (map string_bytes c.args.words.now) c.in-One.asked asked is c.in-One.ensures.asked)).untouched

pub returns-in-Batch-clause-untouched : goal.returns-in-Batch-clause-untouched
returns-in-Batch-clause-untouched g c = λ asked is. absurd (let k : requests.Batch ≡ requests.One asked = sym c.in-Batch.ensures.asked ∙ is in cc)

-- ---- talks with a peer

pub returns-in-Pull-clause-pull : goal.returns-in-Pull-clause-pull
returns-in-Pull-clause-pull g c = λ cid is.
    let same : requests.Pull c.in-Pull.cid ≡ requests.Pull cid = sym c.in-Pull.ensures.asked ∙ is in
    let one : c.in-Pull.cid ≡ cid = cc in
    subst (λ cid. RunsPull g.S.X.BlockHash.block32 g.N.NameHash.name64 cid c.pull_from.result
    (around (g.S.Store.seen c.args.store.now) (g.I.Source.left c.args.input.now) (g.I.Source.faults c.args.input.now) (g.O.Sink.holds c.args.output.now) (g.O.Sink.faults c.args.output.now) c.args.touches.now (host_side (g.W.Host.tree c.args.host.now) (g.W.Host.read_faults c.args.host.now) (g.W.Host.write_faults c.args.host.now)) (record { held = g.E.Sink.holds c.args.errors.now; faults = g.E.Sink.faults c.args.errors.now }))
    (around (g.S.Store.seen c.pull_from.new.store) (g.I.Source.left c.pull_from.new.input) (g.I.Source.faults c.pull_from.new.input) (g.O.Sink.holds c.pull_from.new.output) (g.O.Sink.faults c.pull_from.new.output) c.pull_from.new.touches (host_side (g.W.Host.tree c.args.host.now) (g.W.Host.read_faults c.args.host.now) (g.W.Host.write_faults c.args.host.now)) (record { held = g.E.Sink.holds c.pull_from.new.errors; faults = g.E.Sink.faults c.pull_from.new.errors }))) one
    (c.pull_from.ensures g.N.NameHash.name64 (host_side (g.W.Host.tree c.args.host.now) (g.W.Host.read_faults c.args.host.now) (g.W.Host.write_faults c.args.host.now)))

pub returns-in-Serve-clause-serve : goal.returns-in-Serve-clause-serve
returns-in-Serve-clause-serve g c = λ is. c.serve_wants.ensures g.N.NameHash.name64 (host_side (g.W.Host.tree c.args.host.now) (g.W.Host.read_faults c.args.host.now) (g.W.Host.write_faults c.args.host.now))

pub returns-in-One-clause-pull : goal.returns-in-One-clause-pull
returns-in-One-clause-pull g c = λ cid is.
    let m : c.in-One.asked ≡ Err no_memory = subst (IsAskedAlone c.in-One.asked) is c.in-One.ensures.asked in
    pull-wants g.S.X.BlockHash.block32 g.N.NameHash.name64 c.tell_end.result c.serve-done.result (around (g.S.Store.seen c.args.store.now) (g.I.Source.left c.args.input.now) (g.I.Source.faults c.args.input.now) (g.O.Sink.holds c.args.output.now) (g.O.Sink.faults c.args.output.now) c.args.touches.now (host_side (g.W.Host.tree c.args.host.now) (g.W.Host.read_faults c.args.host.now) (g.W.Host.write_faults c.args.host.now)) (record { held = g.E.Sink.holds c.args.errors.now; faults = g.E.Sink.faults c.args.errors.now })) (around (g.S.Store.seen c.serve-done.new.store) (g.I.Source.left c.serve-done.new.input) (g.I.Source.faults c.serve-done.new.input) (g.O.Sink.holds c.serve-done.new.output) (g.O.Sink.faults c.serve-done.new.output) c.serve-done.new.touches (host_side (g.W.Host.tree c.serve-done.new.host) (g.W.Host.read_faults c.serve-done.new.host) (g.W.Host.write_faults c.serve-done.new.host)) (record { held = g.E.Sink.holds c.tell_end.new.errors; faults = g.E.Sink.faults c.tell_end.new.errors }))
    (c.serve-done.ensures.serves (Err no_memory) (subst (λ asked. IsAsked asked (Err no_memory)) (sym m) (inl refl)) (record { held = g.E.Sink.holds c.args.errors.now; faults = g.E.Sink.faults c.args.errors.now }) (record { held = g.E.Sink.holds c.tell_end.new.errors; faults = g.E.Sink.faults c.tell_end.new.errors })) c.tell_end.ensures cid

pub returns-in-One-clause-serve : goal.returns-in-One-clause-serve
returns-in-One-clause-serve g c = λ is.
    let m : c.in-One.asked ≡ Err no_memory = subst (IsAskedAlone c.in-One.asked) is c.in-One.ensures.asked in
    serve-wants g.S.X.BlockHash.block32 g.N.NameHash.name64 c.tell_end.result c.serve-done.result (around (g.S.Store.seen c.args.store.now) (g.I.Source.left c.args.input.now) (g.I.Source.faults c.args.input.now) (g.O.Sink.holds c.args.output.now) (g.O.Sink.faults c.args.output.now) c.args.touches.now (host_side (g.W.Host.tree c.args.host.now) (g.W.Host.read_faults c.args.host.now) (g.W.Host.write_faults c.args.host.now)) (record { held = g.E.Sink.holds c.args.errors.now; faults = g.E.Sink.faults c.args.errors.now })) (around (g.S.Store.seen c.serve-done.new.store) (g.I.Source.left c.serve-done.new.input) (g.I.Source.faults c.serve-done.new.input) (g.O.Sink.holds c.serve-done.new.output) (g.O.Sink.faults c.serve-done.new.output) c.serve-done.new.touches (host_side (g.W.Host.tree c.serve-done.new.host) (g.W.Host.read_faults c.serve-done.new.host) (g.W.Host.write_faults c.serve-done.new.host)) (record { held = g.E.Sink.holds c.tell_end.new.errors; faults = g.E.Sink.faults c.tell_end.new.errors }))
    (c.serve-done.ensures.serves (Err no_memory) (subst (λ asked. IsAsked asked (Err no_memory)) (sym m) (inl refl)) (record { held = g.E.Sink.holds c.args.errors.now; faults = g.E.Sink.faults c.args.errors.now }) (record { held = g.E.Sink.holds c.tell_end.new.errors; faults = g.E.Sink.faults c.tell_end.new.errors })) c.tell_end.ensures

pub returns-in-Pull-clause-one : goal.returns-in-Pull-clause-one
returns-in-Pull-clause-one g c = λ s r stands other.
    stands-one g.S.X.BlockHash.block32 g.N.NameHash.name64 (record { size = g.met.S.X.BlockHash.size; are_bytes = g.met.S.X.BlockHash.are_bytes }) g.met.N.NameHash.fits (g.S.Store.seen c.pull_from.new.store).told s r stands other

pub returns-in-Serve-clause-one : goal.returns-in-Serve-clause-one
returns-in-Serve-clause-one g c = λ s r stands other.
    stands-one g.S.X.BlockHash.block32 g.N.NameHash.name64 (record { size = g.met.S.X.BlockHash.size; are_bytes = g.met.S.X.BlockHash.are_bytes }) g.met.N.NameHash.fits (g.S.Store.seen c.serve_wants.new.store).told s r stands other

-- ---- a collection

pub returns-in-Gc-clause-collect : goal.returns-in-Gc-clause-collect
returns-in-Gc-clause-collect g c = λ is.
    gc-runs g.S.X.BlockHash.block32 g.N.NameHash.name64 c.tell_end-in-Gc.result c.collect_rest-done.result
    (around (g.S.Store.seen c.args.store.now) (g.I.Source.left c.args.input.now) (g.I.Source.faults c.args.input.now) (g.O.Sink.holds c.args.output.now) (g.O.Sink.faults c.args.output.now) c.args.touches.now (host_side (g.W.Host.tree c.args.host.now) (g.W.Host.read_faults c.args.host.now) (g.W.Host.write_faults c.args.host.now)) (record { held = g.E.Sink.holds c.args.errors.now; faults = g.E.Sink.faults c.args.errors.now }))
    (around (g.S.Store.seen c.collect_rest-done.new.store) (g.I.Source.left c.args.input.now) (g.I.Source.faults c.args.input.now) (g.O.Sink.holds c.collect_rest-done.new.output) (g.O.Sink.faults c.collect_rest-done.new.output) c.collect_rest-done.new.touches (host_side (g.W.Host.tree c.args.host.now) (g.W.Host.read_faults c.args.host.now) (g.W.Host.write_faults c.args.host.now)) (record { held = g.E.Sink.holds c.tell_end-in-Gc.new.errors; faults = g.E.Sink.faults c.tell_end-in-Gc.new.errors }))
    (record { size = g.met.S.X.BlockHash.size; are_bytes = g.met.S.X.BlockHash.are_bytes }) g.met.N.NameHash.fits c.collect_rest-done.ensures.prints c.tell_end-in-Gc.ensures c.collect_rest-done.ensures.touches refl refl refl

pub returns-in-Gc-clause-one : goal.returns-in-Gc-clause-one
returns-in-Gc-clause-one g c = λ s r stands other.
    stands-one g.S.X.BlockHash.block32 g.N.NameHash.name64 (record { size = g.met.S.X.BlockHash.size; are_bytes = g.met.S.X.BlockHash.are_bytes }) g.met.N.NameHash.fits (g.S.Store.seen c.collect_rest-done.new.store).told s r stands other

pub returns-in-One-clause-collect : goal.returns-in-One-clause-collect
returns-in-One-clause-collect g c = λ is.
    let m : c.in-One.asked ≡ Err no_memory = subst (IsAskedAlone c.in-One.asked) is c.in-One.ensures.asked in
    gc-wants g.S.X.BlockHash.block32 g.N.NameHash.name64 c.tell_end.result c.serve-done.result (around (g.S.Store.seen c.args.store.now) (g.I.Source.left c.args.input.now) (g.I.Source.faults c.args.input.now) (g.O.Sink.holds c.args.output.now) (g.O.Sink.faults c.args.output.now) c.args.touches.now (host_side (g.W.Host.tree c.args.host.now) (g.W.Host.read_faults c.args.host.now) (g.W.Host.write_faults c.args.host.now)) (record { held = g.E.Sink.holds c.args.errors.now; faults = g.E.Sink.faults c.args.errors.now })) (around (g.S.Store.seen c.serve-done.new.store) (g.I.Source.left c.serve-done.new.input) (g.I.Source.faults c.serve-done.new.input) (g.O.Sink.holds c.serve-done.new.output) (g.O.Sink.faults c.serve-done.new.output) c.serve-done.new.touches (host_side (g.W.Host.tree c.serve-done.new.host) (g.W.Host.read_faults c.serve-done.new.host) (g.W.Host.write_faults c.serve-done.new.host)) (record { held = g.E.Sink.holds c.tell_end.new.errors; faults = g.E.Sink.faults c.tell_end.new.errors }))
    (c.serve-done.ensures.serves (Err no_memory) (subst (λ asked. IsAsked asked (Err no_memory)) (sym m) (inl refl)) (record { held = g.E.Sink.holds c.args.errors.now; faults = g.E.Sink.faults c.args.errors.now }) (record { held = g.E.Sink.holds c.tell_end.new.errors; faults = g.E.Sink.faults c.tell_end.new.errors })) c.tell_end.ensures

-- ---- the check of a proof

pub returns-in-Check-clause-check : goal.returns-in-Check-clause-check
returns-in-Check-clause-check g c = λ absent cid path is.
    let same : requests.Check c.in-Check.absent c.in-Check.cid c.in-Check.path ≡ requests.Check absent cid path = sym c.in-Check.ensures.asked ∙ is in
    checked-as c.tell_end-in-Check.result g.S.X.BlockHash.block32 g.N.NameHash.name64
    (around (g.S.Store.seen c.args.store.now) (g.I.Source.left c.args.input.now) (g.I.Source.faults c.args.input.now) (g.O.Sink.holds c.args.output.now) (g.O.Sink.faults c.args.output.now) c.args.touches.now (host_side (g.W.Host.tree c.args.host.now) (g.W.Host.read_faults c.args.host.now) (g.W.Host.write_faults c.args.host.now)) (record { held = g.E.Sink.holds c.args.errors.now; faults = g.E.Sink.faults c.args.errors.now }))
    (around (g.S.Store.seen c.args.store.now) (g.I.Source.left c.check_input-done.new.input) (g.I.Source.faults c.check_input-done.new.input) (g.O.Sink.holds c.check_input-done.new.output) (g.O.Sink.faults c.check_input-done.new.output) c.check_input-done.new.touches (host_side (g.W.Host.tree c.args.host.now) (g.W.Host.read_faults c.args.host.now) (g.W.Host.write_faults c.args.host.now)) (record { held = g.E.Sink.holds c.tell_end-in-Check.new.errors; faults = g.E.Sink.faults c.tell_end-in-Check.new.errors }))
    c.in-Check.absent absent c.in-Check.cid cid c.in-Check.path path same (record {
      done = c.check_input-done.result;
      tells = c.tell_end-in-Check.ensures;
      checks = c.check_input-done.ensures;
      store = refl;
      host = refl;
    })

pub returns-in-One-clause-check : goal.returns-in-One-clause-check
returns-in-One-clause-check g c = λ absent cid path is.
    let m : c.in-One.asked ≡ Err no_memory = subst (IsAskedAlone c.in-One.asked) is c.in-One.ensures.asked in
    check-wants g.S.X.BlockHash.block32 g.N.NameHash.name64 c.tell_end.result c.serve-done.result (around (g.S.Store.seen c.args.store.now) (g.I.Source.left c.args.input.now) (g.I.Source.faults c.args.input.now) (g.O.Sink.holds c.args.output.now) (g.O.Sink.faults c.args.output.now) c.args.touches.now (host_side (g.W.Host.tree c.args.host.now) (g.W.Host.read_faults c.args.host.now) (g.W.Host.write_faults c.args.host.now)) (record { held = g.E.Sink.holds c.args.errors.now; faults = g.E.Sink.faults c.args.errors.now })) (around (g.S.Store.seen c.serve-done.new.store) (g.I.Source.left c.serve-done.new.input) (g.I.Source.faults c.serve-done.new.input) (g.O.Sink.holds c.serve-done.new.output) (g.O.Sink.faults c.serve-done.new.output) c.serve-done.new.touches (host_side (g.W.Host.tree c.serve-done.new.host) (g.W.Host.read_faults c.serve-done.new.host) (g.W.Host.write_faults c.serve-done.new.host)) (record { held = g.E.Sink.holds c.tell_end.new.errors; faults = g.E.Sink.faults c.tell_end.new.errors }))
    (c.serve-done.ensures.serves (Err no_memory) (subst (λ asked. IsAsked asked (Err no_memory)) (sym m) (inl refl)) (record { held = g.E.Sink.holds c.args.errors.now; faults = g.E.Sink.faults c.args.errors.now }) (record { held = g.E.Sink.holds c.tell_end.new.errors; faults = g.E.Sink.faults c.tell_end.new.errors })) c.tell_end.ensures absent cid path.names

pub returns-in-Check-clause-one : goal.returns-in-Check-clause-one
returns-in-Check-clause-one g c = λ s r stands other.
    stands-one g.S.X.BlockHash.block32 g.N.NameHash.name64 (record { size = g.met.S.X.BlockHash.size; are_bytes = g.met.S.X.BlockHash.are_bytes }) g.met.N.NameHash.fits (g.S.Store.seen c.args.store.now).told s r stands other
