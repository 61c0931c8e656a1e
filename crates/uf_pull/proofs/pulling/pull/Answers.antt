use Rattle.std.proofs.Common.{◌∙◌, ℕ, arith, inr, refl, subst}
use Rattle.std.proofs.lemmas.Result.{err_from_is_err_and}
use Rattle.uf_store.specs.Contents.{held_at}
use Rattle.uf_pull.specs.Due.{due}
use Rattle.uf_pull.specs.Pulling.{Pulls}
use Rattle.uf_pull.proofs.Closing.{done_last}
use Rattle.uf_pull.proofs.Courses.{from_root}
use Rattle.uf_pull.proofs.Going.{asked_all}
use Rattle.uf_pull.proofs.Visiting.{stopped_so}
use Rattle.uf_pull.proofs.Written.{part-none}
use Rattle.uf_pull.proofs.pulling.pull.Goals as goal

pub returns-in_err-add_root-clause-pulls : goal.returns-in_err-add_root-clause-pulls
returns-in_err-add_root-clause-pulls g c = λ t bytes is left.
    let out = err_from_is_err_and c.from_residual.result c.from_residual.ensures.1 in
    rw (out.1, out.2) (stopped_so _ t _ _ _ is (part-none _ _ _ refl))

pub returns-in_err-peer-clause-pulls : goal.returns-in_err-peer-clause-pulls
returns-in_err-peer-clause-pulls g c = λ t bytes is left.
    let out = err_from_is_err_and c.from_residual-in_err-peer.result c.from_residual-in_err-peer.ensures.1 in
    rw (out.1, out.2) (stopped_so _ t _ _ _ is (part-none _ _ _ refl))

pub returns-in_err-add_root-clause-last : goal.returns-in_err-add_root-clause-last
returns-in_err-add_root-clause-last g c = λ t bytes is left. inr (part-none _ _ _ refl)

pub returns-in_err-peer-clause-last : goal.returns-in_err-peer-clause-last
returns-in_err-peer-clause-last g c = λ t bytes is left. inr (part-none _ _ _ refl)

pub pull_all-requires : goal.pull_all-requires
pull_all-requires g c =
    let new = c.new-walk.ensures in
    let adds = c.in_ok-add_root.ensures.ok in
    let peer = c.in_ok-peer.ensures in
    record {
      due = adds.due;
      most = omega (arith, c.ranges.most, adds.stays.same_most, new.most);
      handed = adds.stays.same_handed ∙ new.handed;
      first = λ i. record { more = peer.more i; place = peer.place i; added = peer.added i };
    }

pub returns-clause-pulls : goal.returns-clause-pulls
returns-clause-pulls g c = λ t bytes is left.
    let new = c.new-walk.ensures in
    let adds = c.in_ok-add_root.ensures.ok in
    subst (λ (m : ℕ). Pulls (due g.S.X.BlockHash.block32 m c.args.cid.now (held_at t) bytes) bytes c.pull_all.result t (g.S.Store.seen c.pull_all.new.store).told
    (g.O.Sink.holds c.args.out.now) (g.O.Sink.holds c.pull_all.new.out) (g.I.Source.left c.pull_all.new.input)) (adds.stays.same_most ∙ new.most)
    (c.pull_all.ensures.pulls t bytes c.args.cid.now is left (from_root c.args.cid.now (held_at t) c.new-walk.result c.add_root.new.self new.course adds))

pub returns-clause-last : goal.returns-clause-last
returns-clause-last g c = λ t bytes is left.
    done_last (due g.S.X.BlockHash.block32 c.args.most c.args.cid.now (held_at t) bytes) bytes c.pull_all.result t _ _ _ _ (returns-clause-pulls g c t bytes is left)

pub returns-clause-wants : goal.returns-clause-wants
returns-clause-wants g c = λ t u bytes is left now.
    asked_all g.S.X.BlockHash.block32 c.args.most c.args.cid.now bytes c.pull_all.result t u _ _ _ _ now (returns-clause-pulls g c t bytes is left)

pub returns-clause-cause : goal.returns-clause-cause
returns-clause-cause g c = c.pull_all.ensures.keeps.cause

pub returns-clause-good : goal.returns-clause-good
returns-clause-good g c = c.pull_all.ensures.keeps.good

pub returns-clause-saves : goal.returns-clause-saves
returns-clause-saves g c = c.pull_all.ensures.keeps.writes
