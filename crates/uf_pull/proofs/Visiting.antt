-- What is due at one CID of the walk, and what is done of it.
use Rattle.std.proofs.Common.{◌≡◌, ℕ, suc, ◌+◌, List, [], ◌∷◌, ◌++◌, drop, Bool, true, false, append-nil, refl, sym, ap, subst, ◌∙◌, arith, Err, inl}
use Rattle.std.specs.Prelude.{Some, None}
use Rattle.uf_cid.specs.Blocks.{Lookup}
use Rattle.uf_cid.specs.declared.cid.Cid.{Cid}
use Rattle.uf_edge.specs.Streams.{AppendsPrefix, after}
use Rattle.uf_edge.specs.Streams as streams
use Rattle.uf_store.specs.Contents.{Contents, Told, held_at, with_save}
use Rattle.uf_walk.specs.Turns.{Follows, TakesBlockOf}
use Rattle.uf_walk.specs.Walked.{Walked}
use Rattle.uf_walk.specs.declared.turn.WalkFault.{WalkFault}
use Rattle.uf_walk.specs.declared.turn.WalkFault.TheVariants as walk
use Rattle.uf_pull.specs.declared.fault.PullFault.{PullFault}
use Rattle.uf_pull.specs.declared.fault.PullFault.TheVariants as fault
use Rattle.uf_pull.specs.Due.{Answer, Answered, Due, Refused, answer_to, due_asked, due_behind, due_end, due_within, holding}
use Rattle.uf_pull.specs.Frames.{Frames, frames_from}
use Rattle.uf_pull.specs.Pulling.{PullsOn, IsOnCourse, StopsPull, RefusesBy, RefusesSo, Stand, due_at}
use Rattle.uf_pull.specs.Reading.{RefusesWith, stops_pull}
use Rattle.uf_pull.specs.Untaken.{unfollowed}
use Rattle.uf_pull.specs.Wants.{want_line, wants_text}
use Rattle.uf_pull.proofs.Courses.{held-with, is_missing, is_no_node, kept_on, saved_is_held, took}
use Rattle.uf_pull.proofs.Dues.{due_missing, due_no_node}
use Rattle.uf_pull.proofs.Listing.{place_first}
use Rattle.uf_pull.proofs.Written.{after-none, part-front, part-more, part-none}

-- it was stopped before anything was kept
pub stopped_so : (d : Due) (t : Contents) (told_now : Told) (out out_now : streams.Told) → told_now ≡ Some t → AppendsPrefix (wants_text d.wants) out out_now → StopsPull d t told_now out out_now
stopped_so d t told_now out out_now same written = inl (record { count = 0; few = omega arith; kept = same; written = written })

pub stopped_by : (f : PullFault) (d : Due) (place : ℕ) (bytes : List ℕ) (t : Contents) (told_now : Told) (out out_now left_now : streams.Told) → stops_pull f ≡ true → StopsPull d t told_now out out_now
    → RefusesBy (stops_pull f) d f place bytes t told_now out out_now left_now
stopped_by f d place bytes t told_now out out_now left_now e stopped = subst (λ (b : Bool). RefusesBy b d f place bytes t told_now out out_now left_now) (sym e) stopped

-- it is asked for first
record AsksFirst (c : Cid) (d : Due) : Type 0 where
  tail : List ℕ
  is : wants_text d.wants ≡ want_line c ++ tail

asks_first : (c : Cid) (next : List ℕ → ℕ → Frames → Due) (a : Answer) → AsksFirst c (due_asked c next a)
asks_first c next (Answered block more rest) = record { tail = wants_text (next block more rest).wants; is = refl }
asks_first c next (Refused f used) = record { tail = []; is = refl }

-- ---- a block that isn't held

module _ (hash : List ℕ → List ℕ) (root c : Cid) (w : Walked) (t : Contents) (s : Stand) (bytes : List ℕ) (on : IsOnCourse root (held_at t) w) (due : w.due ≡ Some c) (none : held_at t c ≡ None) where
  asks : (n : ℕ) → due_at hash w.most root (suc n) t s bytes ≡ due_asked c (λ block m behind. due_within hash w.most root n (holding c block (held_at t)) m behind) (answer_to hash c s.more (frames_from s.place bytes))
  asks n = due_missing hash w.most root n (held_at t) s.more (frames_from s.place bytes) c (is_missing root (held_at t) w on c due none)

  first_asks : (n : ℕ) → AsksFirst c (due_at hash w.most root (suc n) t s bytes)
  first_asks n = subst (AsksFirst c) (sym (asks n)) (asks_first c _ _)

  -- the line was written
  asked_part : (n : ℕ) (given : streams.Told) → AppendsPrefix (wants_text (due_at hash w.most root (suc n) t s bytes).wants) given (after given (want_line c))
  asked_part n given =
      let first = first_asks n in
      subst (λ (x : List ℕ). AppendsPrefix x given (after given (want_line c))) (sym first.is) (part-front (want_line c) first.tail given _ refl)

  -- it was written in part
  pub unasked : (n : ℕ) (f : PullFault) (told_now : Told) (out out_now left_now : streams.Told) → stops_pull f ≡ true → told_now ≡ Some t → AppendsPrefix (want_line c) out out_now
      → RefusesBy (stops_pull f) (due_at hash w.most root (suc n) t s bytes) f s.place bytes t told_now out out_now left_now
  unasked n f told_now out out_now left_now e same part =
      let first = first_asks n in
      stopped_by f (due_at hash w.most root (suc n) t s bytes) s.place bytes t told_now out out_now left_now e
      (stopped_so _ t told_now out out_now same (subst (λ (x : List ℕ). AppendsPrefix x out out_now) (sym first.is) (part-more (want_line c) first.tail out out_now part)))

  -- it was stopped behind that
  pub unanswered : (n : ℕ) (f : PullFault) (told_now : Told) (given left_now : streams.Told) → stops_pull f ≡ true → told_now ≡ Some t
      → RefusesBy (stops_pull f) (due_at hash w.most root (suc n) t s bytes) f s.place bytes t told_now given (after given (want_line c)) left_now
  unanswered n f told_now given left_now e same = stopped_by f (due_at hash w.most root (suc n) t s bytes) s.place bytes t told_now given _ left_now e (stopped_so _ t told_now given _ same (asked_part n given))

  -- the peer refuses it
  pub peer_refuses : (n : ℕ) (f : PullFault) (told_now : Told) (given left_now : streams.Told) → told_now ≡ Some t
      → (stops_pull f ≡ false → RefusesWith (answer_to hash c s.more (frames_from s.place bytes)) f s.place bytes left_now)
      → RefusesBy (stops_pull f) (due_at hash w.most root (suc n) t s bytes) f s.place bytes t told_now given (after given (want_line c)) left_now
  peer_refuses n f told_now given left_now same says = by (stops_pull f) refl
    where
      refused : RefusesWith (answer_to hash c s.more (frames_from s.place bytes)) f s.place bytes left_now
          → RefusesSo (due_at hash w.most root (suc n) t s bytes) f s.place bytes t told_now given (after given (want_line c)) left_now
      refused with = subst (λ (d : Due). RefusesSo d f s.place bytes t told_now given (after given (want_line c)) left_now) (sym (asks n ∙ ap (due_asked c _) with.says))
          (record { ends = refl; kept = same; written = ap (after given) (sym (append-nil (want_line c ++ []) ∙ append-nil (want_line c))); rest = with.rest })

      by : (b : Bool) → stops_pull f ≡ b → RefusesBy b (due_at hash w.most root (suc n) t s bytes) f s.place bytes t told_now given (after given (want_line c)) left_now
      by true e = stopped_so _ t told_now given _ same (asked_part n given)
      by false e = refused (says e)

  -- a block has answered
  module _ (block : List ℕ) (now : Stand) (rest : List ℕ) (says : answer_to hash c s.more (frames_from s.place bytes) ≡ Answered block now.more (frames_from now.place rest)) where
    answered : (n : ℕ) → due_at hash w.most root (suc n) t s bytes ≡ due_behind ((c, block) ∷ []) (due_at hash w.most root n (with_save c block t) now rest)
    answered n =
        asks n ∙ ap (due_asked c _) says
        ∙ ap (λ (held : Lookup). due_behind ((c, block) ∷ []) (due_within hash w.most root n held now.more (frames_from now.place rest))) (sym (held-with t c block))

    -- the walk didn't take it
    pub untaken : (n : ℕ) (f : WalkFault) (w_now : Walked) (told_now : Told) (given left_now : streams.Told) (used : ℕ) → told_now ≡ Some (with_save c block t) → TakesBlockOf c block (Err f) w w_now
        → left_now ≡ Some rest → now.place ≡ s.place + used → rest ≡ drop used bytes
        → RefusesBy (stops_pull (unfollowed f)) (due_at hash w.most root (suc n) t s bytes) (unfollowed f) s.place bytes t told_now given (after given (want_line c)) left_now
    untaken n walk.Memory w_now told_now given left_now used kept takes left moved behind =
        subst (λ (d : Due). StopsPull d t told_now given (after given (want_line c))) (sym (answered n))
        (inl (record {
          count = 1;
          few = omega arith;
          kept = kept;
          written = subst (λ (d : Due). AppendsPrefix (wants_text d.wants) given (after given (want_line c))) (answered n) (asked_part n given);
        }))
    untaken n (walk.NotDagPb d why) w_now told_now given left_now used kept takes left moved behind =
        let no = is_no_node root (held_at (with_save c block t)) w (kept_on root t w c block none on) c due block why (saved_is_held t c block) takes.reads in
        let is : due_at hash w.most root (suc n) t s bytes ≡ due_behind ((c, block) ∷ []) (due_end (Err (fault.NotDagPb c why)) now.place) =
        answered n
        ∙ ap (due_behind ((c, block) ∷ []))
        (due_no_node hash w.most root n (held_at (with_save c block t)) now.more (frames_from now.place rest) c why no
        ∙ ap (due_end (Err (fault.NotDagPb c why))) (place_first now.place rest)) in
        subst (λ (e : Cid). RefusesSo (due_at hash w.most root (suc n) t s bytes) (fault.NotDagPb e why) s.place bytes t told_now given (after given (want_line c)) left_now) (sym takes.same)
        (subst (λ (x : Due). RefusesSo x (fault.NotDagPb c why) s.place bytes t told_now given (after given (want_line c)) left_now) (sym is)
        (record {
          ends = refl;
          kept = kept;
          written = ap (after given) (sym (append-nil (want_line c ++ []) ∙ append-nil (want_line c)));
          rest = record { count = used; moved = moved; left = left ∙ ap (λ (xs : List ℕ). Some xs) behind };
        }))

    -- it was kept and taken
    pub kept_and_taken : (w_now : Walked) (told_now : Told) (left_now given : streams.Told) (used : ℕ) → told_now ≡ Some (with_save c block t) → Follows c block w w_now
        → left_now ≡ Some rest → now.place ≡ s.place + used → rest ≡ drop used bytes → now.added ≡ s.added + 1
        → PullsOn hash w.most root s t bytes given now w_now told_now left_now (after given (want_line c))
    kept_and_taken w_now told_now left_now given used kept follows left moved behind added = record {
      blocks = (c, block) ∷ [];
      rest = rest;
      used = used;
      kept = kept;
      left = left;
      moved = moved;
      behind = behind;
      written = ap (after given) (sym (append-nil (want_line c)));
      added = added;
      due = λ n m is. ap (λ (k : ℕ). due_at hash w.most root k t s bytes) (let e : m ≡ suc n = omega (arith, is) in e) ∙ answered n;
      on_course = took root (held_at (with_save c block t)) w (kept_on root t w c block none on) c due block w_now (saved_is_held t c block) follows;
    }

-- ---- a block that is held

module _ (hash : List ℕ → List ℕ) (root c : Cid) (w : Walked) (t : Contents) (s : Stand) (bytes : List ℕ) (on : IsOnCourse root (held_at t) w) (due : w.due ≡ Some c) (block : List ℕ) (is_held : held_at t c ≡ Some block) where
  pub held_taken : (w_now : Walked) (told_now : Told) (left_now out out_now : streams.Told) → told_now ≡ Some t → left_now ≡ Some bytes → out_now ≡ out → Follows c block w w_now
      → PullsOn hash w.most root s t bytes out s w_now told_now left_now out_now
  held_taken w_now told_now left_now out out_now same left written follows = record {
    blocks = [];
    rest = bytes;
    used = 0;
    kept = same;
    left = left;
    moved = omega arith;
    behind = refl;
    written = written ∙ after-none out;
    added = omega arith;
    due = λ n m is. ap (λ (k : ℕ). due_at hash w.most root k t s bytes) (let e : m ≡ n = omega (arith, is) in e);
    on_course = took root (held_at t) w on c due block w_now is_held follows;
  }

  pub held_untaken : (n : ℕ) (f : WalkFault) (w_now : Walked) (told_now : Told) (out out_now left_now : streams.Told) → told_now ≡ Some t → out_now ≡ out → TakesBlockOf c block (Err f) w w_now → left_now ≡ Some bytes
      → RefusesBy (stops_pull (unfollowed f)) (due_at hash w.most root (suc n) t s bytes) (unfollowed f) s.place bytes t told_now out out_now left_now
  held_untaken n walk.Memory w_now told_now out out_now left_now same written takes left = stopped_so _ t told_now out out_now same (part-none _ out out_now written)
  held_untaken n (walk.NotDagPb d why) w_now told_now out out_now left_now same written takes left =
      let is = due_no_node hash w.most root (suc n) (held_at t) s.more (frames_from s.place bytes) c why (is_no_node root (held_at t) w on c due block why is_held takes.reads)
      ∙ ap (due_end (Err (fault.NotDagPb c why))) (place_first s.place bytes) in
      subst (λ (e : Cid). RefusesSo (due_at hash w.most root (suc n) t s bytes) (fault.NotDagPb e why) s.place bytes t told_now out out_now left_now) (sym takes.same)
      (subst (λ (x : Due). RefusesSo x (fault.NotDagPb c why) s.place bytes t told_now out out_now left_now) (sym is)
      (record { ends = refl; kept = same; written = written ∙ after-none out; rest = record { count = 0; moved = omega arith; left = left } }))
