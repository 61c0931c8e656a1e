use Rattle.std.proofs.Common.{◌≡◌, ◌∙◌, List, ℕ, Err, None, Ok, inl, inr, ap, refl, rules, subst, sym}
use Rattle.std.specs.Prelude.{IfSome, Option}
use Rattle.std.proofs.lemmas.Result.{err_from_is_err_and}
use Rattle.uf_lenient.specs.Steps.{IsNextPiece}
use Rattle.uf_store.proofs.Calls.{reads-reads}
use Rattle.uf_store.specs.Contents.{held_at}
use Rattle.uf_host.specs.Places.{AppendsPiece}
use Rattle.uf_host.proofs.FilePuts.{made-changes, made-takes, so-far-all, so-far-fault, so-far-more, so-far-none, so-far-stopped, stopped-changes}
use Rattle.uf_host.proofs.Written.{host-shown, reading-shown}
use Rattle.uf_host.proofs.putting.put_pieces.Goals as goal

pub loop-piece-init : goal.loop-piece-init
loop-piece-init g c = record {
  so_far = so-far-none (g.S.Store.seen c.args.store.now).told c.args.path.now c.args.pieces.now (g.W.Host.tree c.args.host.now);
  named = inl refl;
  shown = search rules;
  reads = refl;
  writes = refl;
}

pub put_piece-requires : goal.put_piece-requires
put_piece-requires g c =
    let h = c.loop-piece.invariant.so_far in
    made-takes (c.loop-piece.pieces ≡ c.args.pieces.now) c.args.path.now h.sent (g.W.Host.tree c.args.host.now) (g.W.Host.tree c.loop-piece.host) c.requires.absent h.made

pub returns-in_err-piece-clause-puts : goal.returns-in_err-piece-clause-puts
returns-in_err-piece-clause-puts g c = λ t bytes tells is.
    let out = err_from_is_err_and c.from_residual.result c.from_residual.ensures.1 in
    let told = c.loop-piece.invariant.shown.told in
    rw (out.1, out.2)
    (so-far-fault (g.S.Store.seen c.args.store.now).told c.args.path.now c.args.pieces.now c.loop-piece.pieces (g.W.Host.tree c.args.host.now) (g.W.Host.tree c.loop-piece.host) c.loop-piece.invariant.so_far t bytes tells is
    c.next.new.self c.in_err-piece.field-0.0 (subst (λ u. IfSome u (λ t. IsNextPiece (held_at t) c.loop-piece.pieces c.next.new.self (Err c.in_err-piece.field-0.0))) told c.in_err-piece.ensures.says))

pub returns-in_err-piece-clause-below : goal.returns-in_err-piece-clause-below
returns-in_err-piece-clause-below g c =
    let h = c.loop-piece.invariant.so_far in
    made-changes (c.loop-piece.pieces ≡ c.args.pieces.now) c.args.path.now h.sent (g.W.Host.tree c.args.host.now) (g.W.Host.tree c.loop-piece.host) h.made

pub returns-in_err-piece-clause-shown : goal.returns-in_err-piece-clause-shown
returns-in_err-piece-clause-shown g c =
    let out = err_from_is_err_and c.from_residual.result c.from_residual.ensures.1 in
    rw (out.1, out.2)
    (reads-reads c.loop-piece.invariant.shown (reading-shown g.S.X.BlockHash.block32 c.in_err-piece.field-0.0 (g.S.Store.seen c.loop-piece.store) (g.S.Store.seen c.next.new.store)
    (record { cause = c.in_err-piece.ensures.cause; told = c.in_err-piece.ensures.told })))

pub returns-in_err-put_piece-clause-puts : goal.returns-in_err-put_piece-clause-puts
returns-in_err-put_piece-clause-puts g c = λ t bytes tells is.
    let out = err_from_is_err_and c.from_residual-in_err-put_piece.result c.from_residual-in_err-put_piece.ensures.1 in
    let told = c.loop-piece.invariant.shown.told in
    rw (out.1, out.2)
    (so-far-stopped (g.S.Store.seen c.args.store.now).told c.args.path.now c.args.pieces.now c.loop-piece.pieces (g.W.Host.tree c.args.host.now) (g.W.Host.tree c.loop-piece.host) c.loop-piece.invariant.so_far t bytes tells is
    c.in-Some.piece c.next.new.self (g.W.Host.tree c.put_piece.new.host) c.in_err-put_piece.field-0.0 c.requires.absent
    (subst (λ (r : Option (List ℕ)). IfSome (g.S.Store.seen c.args.store.now).told (λ t. IsNextPiece (held_at t) c.loop-piece.pieces c.next.new.self (Ok r))) c.in-Some.is
    (subst (λ u. IfSome u (λ t. IsNextPiece (held_at t) c.loop-piece.pieces c.next.new.self (Ok c.in_ok-piece.field-0))) told c.in_ok-piece.ensures.says))
    (subst (λ (l : List ℕ). AppendsPiece c.args.path.now l (g.W.Host.tree c.loop-piece.host) (g.W.Host.tree c.put_piece.new.host) (Err c.in_err-put_piece.field-0.0)) c.as_slice.ensures c.in_err-put_piece.ensures.appends))

pub returns-in_err-put_piece-clause-below : goal.returns-in_err-put_piece-clause-below
returns-in_err-put_piece-clause-below g c =
    let h = c.loop-piece.invariant.so_far in
    stopped-changes (c.loop-piece.pieces ≡ c.args.pieces.now) c.args.path.now h.sent c.in-Some.piece (g.W.Host.tree c.args.host.now) (g.W.Host.tree c.loop-piece.host) (g.W.Host.tree c.put_piece.new.host) c.in_err-put_piece.field-0.0 c.requires.absent h.made
    (subst (λ (l : List ℕ). AppendsPiece c.args.path.now l (g.W.Host.tree c.loop-piece.host) (g.W.Host.tree c.put_piece.new.host) (Err c.in_err-put_piece.field-0.0)) c.as_slice.ensures c.in_err-put_piece.ensures.appends)

pub returns-in_err-put_piece-clause-shown : goal.returns-in_err-put_piece-clause-shown
returns-in_err-put_piece-clause-shown g c =
    let out = err_from_is_err_and c.from_residual-in_err-put_piece.result c.from_residual-in_err-put_piece.ensures.1 in
    rw (out.1, out.2)
    (host-shown g.S.X.BlockHash.block32 c.in_err-put_piece.field-0.0 (g.S.Store.seen c.args.store.now) (g.S.Store.seen c.next.new.store) c.in_err-put_piece.ensures.appends.0
    (reads-reads c.loop-piece.invariant.shown (record { cause = c.in_ok-piece.ensures.cause; told = c.in_ok-piece.ensures.told })))

pub loop-piece-preserved : goal.loop-piece-preserved
loop-piece-preserved g c =
    let told = c.loop-piece.invariant.shown.told in
    record {
      so_far = so-far-more (g.S.Store.seen c.args.store.now).told c.args.path.now c.in-Some.piece c.args.pieces.now c.loop-piece.pieces c.next.new.self (g.W.Host.tree c.args.host.now) (g.W.Host.tree c.loop-piece.host) (g.W.Host.tree c.put_piece.new.host)
          c.requires.absent c.loop-piece.invariant.so_far
          (subst (λ (r : Option (List ℕ)). IfSome (g.S.Store.seen c.args.store.now).told (λ t. IsNextPiece (held_at t) c.loop-piece.pieces c.next.new.self (Ok r))) c.in-Some.is
          (subst (λ u. IfSome u (λ t. IsNextPiece (held_at t) c.loop-piece.pieces c.next.new.self (Ok c.in_ok-piece.field-0))) told c.in_ok-piece.ensures.says))
          (subst (λ (l : List ℕ). AppendsPiece c.args.path.now l (g.W.Host.tree c.loop-piece.host) (g.W.Host.tree c.put_piece.new.host) (Ok tt)) c.as_slice.ensures c.in_ok-put_piece.ensures.appends);
      named = inr c.in_ok-put_piece.ensures.named;
      shown = reads-reads c.loop-piece.invariant.shown (record { cause = c.in_ok-piece.ensures.cause; told = c.in_ok-piece.ensures.told });
      reads = c.put_piece.ensures.reads ∙ c.loop-piece.invariant.reads;
      writes = c.in_ok-put_piece.ensures.writes.still refl ∙ c.loop-piece.invariant.writes;
    }

pub returns-clause-puts : goal.returns-clause-puts
returns-clause-puts g c = λ t bytes tells is.
    let told = c.loop-piece.invariant.shown.told in
    let none : c.in_ok-piece.field-0 ≡ None = search rules in
    so-far-all (g.S.Store.seen c.args.store.now).told c.args.path.now c.args.pieces.now c.loop-piece.pieces (g.W.Host.tree c.args.host.now) (g.W.Host.tree c.loop-piece.host) c.loop-piece.invariant.so_far t bytes tells is
    c.next.new.self (λ same. c.requires.due (ap (λ r. r.0) (sym same) ∙ c.next.ensures.none.0 (c.in_ok-piece.was ∙ ap Ok none)))
    (subst (λ (r : Option (List ℕ)). IfSome (g.S.Store.seen c.args.store.now).told (λ t. IsNextPiece (held_at t) c.loop-piece.pieces c.next.new.self (Ok r))) none
    (subst (λ u. IfSome u (λ t. IsNextPiece (held_at t) c.loop-piece.pieces c.next.new.self (Ok c.in_ok-piece.field-0))) told c.in_ok-piece.ensures.says))

pub returns-clause-named : goal.returns-clause-named
returns-clause-named g c = elim c.loop-piece.invariant.named [
  | inl same ↦ absurd (let none : c.in_ok-piece.field-0 ≡ None = search rules in c.requires.due (ap (λ r. r.0) (sym same) ∙ c.next.ensures.none.0 (c.in_ok-piece.was ∙ ap Ok none)))
  | inr named ↦ named
]

pub returns-clause-below : goal.returns-clause-below
returns-clause-below g c =
    let h = c.loop-piece.invariant.so_far in
    made-changes (c.loop-piece.pieces ≡ c.args.pieces.now) c.args.path.now h.sent (g.W.Host.tree c.args.host.now) (g.W.Host.tree c.loop-piece.host) h.made

pub returns-clause-shown : goal.returns-clause-shown
returns-clause-shown g c = reads-reads c.loop-piece.invariant.shown (record { cause = c.in_ok-piece.ensures.cause; told = c.in_ok-piece.ensures.told })
