-- How far a pull has come, and how it ends.
use Rattle.std.proofs.Common.{◌≡◌, ℕ, suc, ◌+◌, ◌-◌, ◌≤◌, ◌<◌, List, [], ◌∷◌, ◌++◌, length, take, drop, true, false, append-nil, length-append, refl, sym, ap, subst, ◌∙◌, arith, Result, Ok, Err, ◌⊎◌, inl, inr}
use Rattle.std.specs.Prelude.{Some, OnOk}
use Rattle.std.proofs.lemmas.List.{drop-drop, take_all}
use Rattle.uf_cid.specs.Blocks.{Held, Lookup}
use Rattle.uf_cid.specs.declared.cid.Cid.{Cid}
use Rattle.uf_edge.proofs.Appending.{after-after}
use Rattle.uf_edge.specs.Streams.{AppendsPrefix, after}
use Rattle.uf_edge.specs.Streams as streams
use Rattle.uf_store.specs.Contents.{Contents, Told, held_at, with_save, with_sync}
use Rattle.uf_walk.specs.Order.{OverMost, order}
use Rattle.uf_walk.specs.Turns.{HandsOut}
use Rattle.uf_walk.specs.Walked.{Walked}
use Rattle.uf_pull.specs.declared.fault.PullFault.{PullFault}
use Rattle.uf_pull.specs.declared.fault.PullFault.TheVariants as fault
use Rattle.uf_pull.specs.Due.{Due, cids_of, due, due_behind, due_end, due_text}
use Rattle.uf_pull.specs.Frames.{frames, frames_from}
use Rattle.uf_pull.specs.Pulling.{Closes, PullsOn, IsOnCourse, Pulls, RefusesBy, Stand, StopsPull, VisitsCid, due_at, with_all}
use Rattle.uf_pull.specs.Reading.{stops_pull}
use Rattle.uf_pull.specs.Wants.{done_line, wants_text}
use Rattle.uf_pull.specs.Wholes.{AsksForUnheld, holding_all}
use Rattle.uf_pull.proofs.Courses.{handed_out, held-with}
use Rattle.uf_pull.proofs.Dues.{behind-behind, cids-append, due_over, due_whole, refuses_behind, text-behind, wants-append, with_all-append}
use Rattle.uf_pull.proofs.Listing.{place_first}
use Rattle.uf_pull.proofs.Visiting.{stopped_by, stopped_so}
use Rattle.uf_pull.proofs.WholeLaws.{whole_asks}
use Rattle.uf_pull.proofs.Written.{after-none, part-front, part-none}

-- at first
pub starts : (hash : List ℕ → List ℕ) (most : ℕ) (root : Cid) (s : Stand) (t : Contents) (bytes : List ℕ) (w : Walked) (told_now : Told) (left_now out out_now : streams.Told)
    → told_now ≡ Some t → left_now ≡ Some bytes → out_now ≡ out → IsOnCourse root (held_at t) w → PullsOn hash most root s t bytes out s w told_now left_now out_now
starts hash most root s t bytes w told_now left_now out out_now same left written on = record {
  blocks = [];
  rest = bytes;
  used = 0;
  kept = same;
  left = left;
  moved = omega arith;
  behind = refl;
  written = written ∙ after-none out;
  added = omega arith;
  due = λ n m is. ap (λ (k : ℕ). due_at hash most root k t s bytes) (let e : m ≡ n = omega (arith, is) in e);
  on_course = on;
}

module _ (hash : List ℕ → List ℕ) (most : ℕ) (root : Cid) (s : Stand) (t : Contents) (bytes : List ℕ) (out : streams.Told) (s1 : Stand) (w1 : Walked) (told1 : Told) (left1 out1 : streams.Told)
    (far : PullsOn hash most root s t bytes out s1 w1 told1 left1 out1) where
  -- another walk of the same course
  pub goes_with : (w2 : Walked) → (IsOnCourse root (held_at (with_all far.blocks t)) w1 → IsOnCourse root (held_at (with_all far.blocks t)) w2) → PullsOn hash most root s t bytes out s1 w2 told1 left1 out1
  goes_with w2 on = record {
    blocks = far.blocks;
    rest = far.rest;
    used = far.used;
    kept = far.kept;
    left = far.left;
    moved = far.moved;
    behind = far.behind;
    written = far.written;
    added = far.added;
    due = far.due;
    on_course = on far.on_course;
  }

  -- one step more
  pub goes_goes : (s2 : Stand) (w2 : Walked) (told2 : Told) (left2 out2 : streams.Told) → PullsOn hash most root s1 (with_all far.blocks t) far.rest out1 s2 w2 told2 left2 out2
      → PullsOn hash most root s t bytes out s2 w2 told2 left2 out2
  goes_goes s2 w2 told2 left2 out2 step =
      let whole : with_all (far.blocks ++ step.blocks) t ≡ with_all step.blocks (with_all far.blocks t) = with_all-append far.blocks step.blocks t in
      let size : length (far.blocks ++ step.blocks) ≡ length far.blocks + length step.blocks = length-append far.blocks step.blocks in
      record {
        blocks = far.blocks ++ step.blocks;
        rest = step.rest;
        used = far.used + step.used;
        kept = step.kept ∙ ap Some (sym whole);
        left = step.left;
        moved = omega (arith, far.moved, step.moved);
        behind = step.behind ∙ ap (drop step.used) far.behind ∙ drop-drop step.used far.used bytes;
        written = step.written ∙ ap (λ (o : streams.Told). after o (wants_text (cids_of step.blocks))) far.written
            ∙ after-after out (wants_text (cids_of far.blocks)) (wants_text (cids_of step.blocks))
            ∙ ap (after out) (sym (ap wants_text (cids-append far.blocks step.blocks) ∙ wants-append (cids_of far.blocks) (cids_of step.blocks)));
        added = omega (arith, far.added, step.added, size);
        due = λ n m is.
            far.due (length step.blocks + n) m (omega (arith, is, size)) ∙ ap (due_behind far.blocks) (step.due n (length step.blocks + n) refl)
            ∙ behind-behind far.blocks step.blocks (due_at hash most root n (with_all step.blocks (with_all far.blocks t)) s2 step.rest)
            ∙ ap (λ (u : Contents). due_behind (far.blocks ++ step.blocks) (due_at hash most root n u s2 step.rest)) (sym whole);
        on_course = subst (λ (u : Contents). IsOnCourse root (held_at u) w2) (sym whole) step.on_course;
      }

  -- what was due at first is due now
  due_now : (n : ℕ) → most ≡ length far.blocks + n → due_at hash most root most t s bytes ≡ due_behind far.blocks (due_at hash most root n (with_all far.blocks t) s1 far.rest)
  due_now n is = far.due n most is

  -- a refusal from there on
  pub refuses_now : (n : ℕ) (f : PullFault) (told2 : Told) (out2 left2 : streams.Told) → most ≡ length far.blocks + n
      → RefusesBy (stops_pull f) (due_at hash most root n (with_all far.blocks t) s1 far.rest) f s1.place far.rest (with_all far.blocks t) told2 out1 out2 left2
      → RefusesBy (stops_pull f) (due_at hash most root most t s bytes) f s.place bytes t told2 out out2 left2
  refuses_now n f told2 out2 left2 is r =
      refuses_behind (stops_pull f) (due_at hash most root most t s bytes) (due_at hash most root n (with_all far.blocks t) s1 far.rest) far.blocks f s.place s1.place far.used bytes far.rest t told2 out out1 out2 left2
      (due_now n is) far.written far.moved far.behind r

  -- it was stopped there
  pub stops_now : (f : PullFault) → length far.blocks ≤ most → stops_pull f ≡ true → RefusesBy (stops_pull f) (due_at hash most root most t s bytes) f s.place bytes t told1 out out1 left1
  stops_now f few e =
      refuses_now (most - length far.blocks) f told1 out1 left1 (omega (arith, few))
      (stopped_by f _ s1.place far.rest (with_all far.blocks t) told1 out1 out1 left1 e (stopped_so _ (with_all far.blocks t) told1 out1 out1 far.kept (part-none _ out1 out1 refl)))

  -- there are too many CIDs
  pub over_now : length far.blocks ≤ most → order (held_at (with_all far.blocks t)) most root ≡ Err OverMost
      → RefusesBy false (due_at hash most root most t s bytes) fault.TooMany s.place bytes t told1 out out1 left1
  over_now few over =
      let is = due_over hash most root (most - length far.blocks) (held_at (with_all far.blocks t)) s1.more (frames_from s1.place far.rest) over
      ∙ ap (due_end (Err fault.TooMany)) (place_first s1.place far.rest) in
      refuses_now (most - length far.blocks) fault.TooMany told1 out1 left1 (omega (arith, few))
      (subst (λ (d : Due). RefusesBy false d fault.TooMany s1.place far.rest (with_all far.blocks t) told1 out1 out1 left1) (sym is)
      (record { ends = refl; kept = far.kept; written = after-none out1; rest = record { count = 0; moved = omega arith; left = far.left } }))

  -- all is there
  module _ (list : List Cid) (few : length far.blocks ≤ most) (whole : order (held_at (with_all far.blocks t)) most root ≡ Ok list) where
    due_is : due_at hash most root most t s bytes ≡ due_behind far.blocks (due_end (Ok tt) s1.place)
    due_is =
        due_now (most - length far.blocks) (omega (arith, few))
        ∙ ap (due_behind far.blocks) (due_whole hash most root (most - length far.blocks) (held_at (with_all far.blocks t)) s1.more (frames_from s1.place far.rest) list whole
        ∙ ap (due_end (Ok tt)) (place_first s1.place far.rest))

    text_is : due_text (due_behind far.blocks (due_end (Ok tt) s1.place)) ≡ wants_text (cids_of far.blocks) ++ done_line
    text_is = text-behind far.blocks (due_end (Ok tt) s1.place)

    pub closes_now : (told2 : Told) (out2 left2 : streams.Told) → s.place ≡ 0 → s.added ≡ 0 → Closes (Ok tt) (with_all far.blocks t) told2 out1 out2 → left2 ≡ left1
        → Pulls (due_at hash most root most t s bytes) bytes (Ok s1.added) t told2 out out2 left2
    closes_now told2 out2 left2 zero none closes left =
        subst (λ (d : Due). Pulls d bytes (Ok s1.added) t told2 out out2 left2) (sym due_is)
        (record {
          whole = refl;
          count = let size : length (far.blocks ++ []) ≡ length far.blocks = ap length (append-nil far.blocks) in omega (arith, none, far.added, size);
          kept = closes.0 ∙ ap (λ (l : List Held). Some (with_sync (with_all l t))) (sym (append-nil far.blocks));
          written = closes.1 ∙ ap (λ (o : streams.Told). after o done_line) far.written ∙ after-after out (wants_text (cids_of far.blocks)) done_line ∙ ap (after out) (sym text_is);
          rest = left ∙ far.left ∙ ap Some (far.behind ∙ ap (λ (n : ℕ). drop n bytes) (let e : far.used ≡ s1.place = omega (arith, zero, far.moved) in e));
        })

    pub unclosed : (f : PullFault) (told2 : Told) (out2 left2 : streams.Told) → Closes (Err f) (with_all far.blocks t) told2 out1 out2
        → RefusesBy (stops_pull f) (due_at hash most root most t s bytes) f s.place bytes t told2 out out2 left2
    unclosed f told2 out2 left2 stops =
        subst (λ (d : Due). RefusesBy (stops_pull f) d f s.place bytes t told2 out out2 left2) (sym due_is)
        (stopped_by f _ s.place bytes t told2 out out2 left2 stops.stopped (by stops.last))
      where
        all : take (length (far.blocks ++ [])) (far.blocks ++ []) ≡ far.blocks
        all = take_all (length (far.blocks ++ [])) (far.blocks ++ []) (omega arith) ∙ append-nil far.blocks

        by : ((told2 ≡ Some (with_all far.blocks t)) × (out2 ≡ out1)) ⊎ ((told2 ≡ Some (with_sync (with_all far.blocks t))) × AppendsPrefix done_line out1 out2)
            → StopsPull (due_behind far.blocks (due_end (Ok tt) s1.place)) t told2 out out2
        by (inl last) = inl (record {
          count = length (far.blocks ++ []);
          few = omega arith;
          kept = last.0 ∙ ap (λ (l : List Held). Some (with_all l t)) (sym all);
          written = subst (λ (x : List ℕ). AppendsPrefix x out out2) (sym (wants-append (cids_of far.blocks) [])) (part-front (wants_text (cids_of far.blocks)) [] out out2 (last.1 ∙ far.written));
        })
        by (inr last) = inr (record {
          whole = refl;
          kept = last.0 ∙ ap (λ (l : List Held). Some (with_sync (with_all l t))) (sym (append-nil far.blocks));
          written = subst (λ (o : streams.Told). AppendsPrefix done_line o out2) (far.written ∙ ap (λ (cs : List Cid). after out (wants_text cs)) (sym (append-nil (cids_of far.blocks)))) last.1;
        })

  -- the next CID was handed out and visited
  module _ (c : Cid) (w : Walked) (hands : HandsOut c w1 w) (same : w1.most ≡ most) (few : s1.added ≤ length w1.handed) (none : s.added ≡ 0) where
    room_for : length far.blocks < most
    room_for = omega (arith, hands.fits, same, few, none, far.added)

    pub on_handed : IsOnCourse root (held_at (with_all far.blocks t)) w
    on_handed = handed_out root (held_at (with_all far.blocks t)) w1 far.on_course c w hands

    pub visit_refuses : (f : PullFault) (s2 : Stand) (w2 : Walked) (told2 : Told) (left2 out2 : streams.Told)
        → VisitsCid hash w.most root (Err f) s1 (with_all far.blocks t) far.rest out1 s2 w2 told2 left2 out2 → RefusesBy (stops_pull f) (due_at hash most root most t s bytes) f s.place bytes t told2 out out2 left2
    visit_refuses f s2 w2 told2 left2 out2 visits =
        refuses_now (suc (most - suc (length far.blocks))) f told2 out2 left2 (omega (arith, room_for))
        (subst (λ (m : ℕ). RefusesBy (stops_pull f) (due_at hash m root (suc (most - suc (length far.blocks))) (with_all far.blocks t) s1 far.rest) f s1.place far.rest (with_all far.blocks t) told2 out1 out2 left2) (hands.same_most ∙ same)
        (visits (most - suc (length far.blocks))))

    pub visit_goes : (s2 : Stand) (w2 : Walked) (told2 : Told) (left2 out2 : streams.Told)
        → PullsOn hash w.most root s1 (with_all far.blocks t) far.rest out1 s2 w2 told2 left2 out2 → PullsOn hash most root s t bytes out s2 w2 told2 left2 out2
    visit_goes s2 w2 told2 left2 out2 step =
        goes_goes s2 w2 told2 left2 out2 (subst (λ (m : ℕ). PullsOn hash m root s1 (with_all far.blocks t) far.rest out1 s2 w2 told2 left2 out2) (hands.same_most ∙ same) step)

-- what is held at last, where all is there
held-with_all : (blocks : List Held) (t : Contents) → held_at (with_all blocks t) ≡ holding_all blocks (held_at t)
held-with_all [] t = refl
held-with_all (b ∷ blocks) t = held-with_all blocks (with_save b.0 b.1 t) ∙ ap (holding_all blocks) (held-with t b.0 b.1)

pub asked_all : (hash : List ℕ → List ℕ) (most : ℕ) (root : Cid) (bytes : List ℕ) (r : Result ℕ PullFault) (t u : Contents) (told_now : Told) (out out_now left_now : streams.Told) → told_now ≡ Some u
    → Pulls (due hash most root (held_at t) bytes) bytes r t told_now out out_now left_now
    → OnOk r (AsksForUnheld most root (held_at t) (held_at u) (due hash most root (held_at t) bytes).wants)
asked_all hash most root bytes (Err f) t u told_now out out_now left_now is refused = tt
asked_all hash most root bytes (Ok n) t u told_now out out_now left_now is pulled =
    let blocks = (due hash most root (held_at t) bytes).blocks in
    let same : ◌≡◌ {A = Told} (Some u) (Some (with_sync (with_all blocks t))) = sym is ∙ pulled.kept in
    let now : u ≡ with_sync (with_all blocks t) = cc in
    subst (λ (held : Lookup). AsksForUnheld most root (held_at t) held (due hash most root (held_at t) bytes).wants) (sym (ap held_at now ∙ held-with_all blocks t))
    (whole_asks hash most root most (held_at t) 1024 (frames bytes) pulled.whole)
