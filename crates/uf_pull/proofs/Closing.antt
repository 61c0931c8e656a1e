-- How a pull closes once its sync is made.
use Rattle.std.proofs.Common.{◌≡◌, ◌∙◌, ℕ, List, [], ◌++◌, append-nil, ap, refl, subst, sym, inl, inr, Bool, true, false, None, Some, Result, Ok, Err}
use Rattle.std.specs.Prelude.{Option}
use Rattle.uf_edge.specs.Streams.{AppendsPrefix, after}
use Rattle.uf_edge.specs.Streams as streams
use Rattle.uf_edge.specs.declared.host.Put.TheVariants.{Done}
use Rattle.uf_store.specs.Contents.{Contents, Told, with_sync}
use Rattle.uf_store.specs.Seen.{Seen, Syncs}
use Rattle.uf_store.specs.declared.store.StoreFault.{StoreFault}
use Rattle.uf_pull.specs.declared.fault.PullFault.{PullFault}
use Rattle.uf_pull.specs.Due.{Due, closing}
use Rattle.uf_pull.specs.Pulling.{Closes, IsDoneLast, OnlyPulls, Pulls, RefusesBy, SendsLine}
use Rattle.uf_pull.specs.Reading.{is_pull_read, pull_fault, stops_pull}
use Rattle.uf_pull.specs.Serving.{WritesBytes}
use Rattle.uf_pull.specs.Wants.{done_line, wants_text}
use Rattle.uf_pull.proofs.Pullings.{calm_of, pulls-syncs}
use Rattle.uf_pull.proofs.Written.{bytes-part, part-front}

pub closed_by : (r : Result (Unit {0}) PullFault) (t : Contents) (told_now : Told) (out out_now : streams.Told) → told_now ≡ Some (with_sync t) → SendsLine done_line r out out_now → Closes r t told_now out out_now
closed_by (Ok u) t told_now out out_now synced sent = (synced, sent)
closed_by (Err f) t told_now out out_now synced sent = record { stopped = ap stops_pull sent.0; last = inr (synced, sent.1) }

module _ (line : List ℕ) (out out_now : streams.Told) where
  pub line_bytes : (r : Result (Unit {0}) PullFault) → SendsLine line r out out_now → WritesBytes out out_now
  line_bytes (Ok u) sent = (line, sent)
  line_bytes (Err f) sent = bytes-part line out out_now sent.1

  -- the store has no part in it
  pub line_faultless : (r : Result (Unit {0}) PullFault) → SendsLine line r out out_now → pull_fault r ≡ None
  line_faultless (Ok u) sent = refl
  line_faultless (Err f) sent = ap (λ (g : PullFault). pull_fault {A = Unit {0}} (Err g)) sent.0

  -- nor has the source
  pub line_unread : (r : Result (Unit {0}) PullFault) → SendsLine line r out out_now → is_pull_read r ≡ false
  line_unread (Ok u) sent = refl
  line_unread (Err f) sent = ap (λ (g : PullFault). is_pull_read {A = Unit {0}} (Err g)) sent.0

-- what the sync leaves of the store
pub sync_pulls : (hash : List ℕ → List ℕ) (line : List ℕ) (out out_now : streams.Told) (r : Result (Unit {0}) PullFault) → SendsLine line r out out_now → (a b : Seen) → Syncs Done a b → OnlyPulls hash (pull_fault r) a b
sync_pulls hash line out out_now r sent a b synced = subst (λ (f : Option StoreFault). OnlyPulls hash f a b) (sym (line_faultless line out out_now r sent)) (pulls-syncs hash a b (calm_of a b synced.counted) synced.told_now)

-- what is written when
pub done_last : (d : Due) (bytes : List ℕ) (r : Result ℕ PullFault) (t : Contents) (told_now : Told) (out out_now left_now : streams.Told) → Pulls d bytes r t told_now out out_now left_now → IsDoneLast d t told_now out out_now
done_last d bytes (Ok n) t told_now out out_now left_now pulled = inl pulled.kept
done_last d bytes (Err f) t told_now out out_now left_now refused = by (stops_pull f) refused
  where
    by : (b : Bool) → RefusesBy b d f 0 bytes t told_now out out_now left_now → IsDoneLast d t told_now out out_now
    by true (inl early) = inr early.written
    by true (inr late) = inl late.kept
    by false r =
        let whole : out_now ≡ after out (wants_text d.wants) = r.written ∙ ap (λ (e : Result (Unit {0}) PullFault). after out (wants_text d.wants ++ closing e)) r.ends ∙ ap (after out) (append-nil (wants_text d.wants)) in
        inr (subst (λ (x : List ℕ). AppendsPrefix x out out_now) (append-nil (wants_text d.wants)) (part-front (wants_text d.wants) [] out out_now whole))
