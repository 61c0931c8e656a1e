-- What one frame of a peer leads to.
use Rattle.std.proofs.Common.{◌≡◌, ℕ, zero, suc, ◌+◌, List, [], ◌∷◌, drop, Bool, true, false, ◌&&◌, refl, sym, ap, subst, ◌∙◌, arith, Result, Ok, Err}
use Rattle.std.specs.Prelude.{Option, Some, None}
use Rattle.std.proofs.lemmas.List.{drop-drop}
use Rattle.std.specs.Ordering.{eq_by_cmp}
use Rattle.uf_cid.specs.Cid.{cid_cmp}
use Rattle.uf_cid.specs.declared.cid.Cid.{Cid}
use Rattle.uf_edge.specs.Streams.{Told}
use Rattle.uf_pull.specs.declared.fault.PullFault.{PullFault}
use Rattle.uf_pull.specs.declared.fault.PullFault.TheVariants as fault
use Rattle.uf_pull.specs.declared.frame.FrameFront.TheVariants as front
use Rattle.uf_pull.specs.declared.peer.Peer.{Peer}
use Rattle.uf_pull.specs.Due.{Answer, Answered, Refused, answer_to, if_dropped, is_block_of}
use Rattle.uf_pull.specs.Frames.{Begins, Frame, Frames, Giving, Lacking, Stands, begins, frames_from}
use Rattle.uf_pull.specs.Reading.{AnswersWith, DropsFrame, HasDropped, IsLeftBehind, KeepsCounts, LeavesFrom, LeavesTo, ReadsFront, RefusesWith, StepsBy, UsesBytes, bytes_between, stops_pull}
use Rattle.uf_pull.proofs.Leaving.{rest_more}
use Rattle.uf_pull.proofs.Answering.{of_block, of_cut, of_lacks, of_other, of_wrong, of_wrong_block}

-- ---- frames one after another

pub leaves_first : (hash : List ℕ → List ℕ) (c : Cid) (peer : Peer) (bytes : List ℕ) (left : Told) → left ≡ Some bytes
    → LeavesTo hash c (answer_to hash c peer.more (frames_from peer.place bytes)) peer.place bytes peer left
leaves_first hash c peer bytes left is = record {
  uses = record { rest = bytes; used = 0; left = is; moved = omega arith; behind = refl };
  says = refl;
}

module _ (hash : List ℕ → List ℕ) (c : Cid) (said : Answer) (place : ℕ) (bytes : List ℕ) (mid : Peer) (mid_left : Told) (first : LeavesTo hash c said place bytes mid mid_left) where
  pub leaves_more : (now : Peer) (left_now : Told) → LeavesTo hash c (answer_to hash c mid.more (frames_from mid.place first.uses.rest)) mid.place first.uses.rest now left_now → LeavesTo hash c said place bytes now left_now
  leaves_more now left_now second = record {
    uses = record {
      rest = second.uses.rest;
      used = first.uses.used + second.uses.used;
      left = second.uses.left;
      moved = omega (arith, first.uses.moved, second.uses.moved);
      behind = second.uses.behind ∙ ap (drop second.uses.used) first.uses.behind ∙ drop-drop second.uses.used first.uses.used bytes;
    };
    says = first.says ∙ second.says;
  }

  pub answers_more : (found : ℕ × ℕ) (now last : Peer) (left_now : Told) → last.buffer ≡ now.buffer → last.more ≡ now.more → last.place ≡ now.place
      → AnswersWith (answer_to hash c mid.more (frames_from mid.place first.uses.rest)) found mid.place first.uses.rest now left_now → AnswersWith said found place bytes last left_now
  answers_more found now last left_now buffer more at second = record {
    uses = record {
      rest = second.uses.rest;
      used = first.uses.used + second.uses.used;
      left = second.uses.left;
      moved = omega (arith, at, first.uses.moved, second.uses.moved);
      behind = second.uses.behind ∙ ap (drop second.uses.used) first.uses.behind ∙ drop-drop second.uses.used first.uses.used bytes;
    };
    says = first.says ∙ second.says ∙ (λ i. Answered (bytes_between found.0 found.1 (sym buffer i).items) (sym more i) (frames_from (sym at i) second.uses.rest));
  }

  pub refused_more : (f : PullFault) (left_now : Told) → (stops_pull f ≡ false → RefusesWith (answer_to hash c mid.more (frames_from mid.place first.uses.rest)) f mid.place first.uses.rest left_now) → stops_pull f ≡ false
      → RefusesWith said f place bytes left_now
  refused_more f left_now second e =
      let r = second e in
      record {
        used = r.used;
        says = first.says ∙ r.says;
        rest = rest_more place mid.place first.uses.used r.used bytes first.uses.rest left_now first.uses.moved first.uses.behind f r.rest;
      }

-- ---- one frame

module _ (hash : List ℕ → List ℕ) (c : Cid) (before mid : Peer) (bytes : List ℕ) (left_now : Told) (same : KeepsCounts before mid) where
  said : Answer
  said = answer_to hash c before.more (frames_from before.place bytes)

  pub step_cut : ReadsFront mid.buffer.items bytes front.Cut left_now → RefusesWith (answer_to hash c before.more (frames_from before.place bytes)) (fault.Ended c) before.place bytes left_now
  step_cut r =
      let none : r.rest ≡ [] = subst (λ (x : Begins). IsLeftBehind bytes x r.rest) r.says r.behind in
      record { used = before.place; says = of_cut hash c before.more before.place bytes r.says; rest = r.left ∙ ap (λ (xs : List ℕ). Some xs) none }

  pub step_wrong : ReadsFront mid.buffer.items bytes front.Wrong left_now → RefusesWith (answer_to hash c before.more (frames_from before.place bytes)) (fault.Bad mid.place) before.place bytes left_now
  step_wrong r = record { used = before.place; says = of_wrong hash c before.more before.place bytes r.says ∙ ap (λ (n : ℕ). Refused (fault.Bad n) before.place) (sym same.same_place); rest = tt }

  behind_of : (frame : Frame) (used : ℕ) (rest : List ℕ) → begins bytes ≡ Stands frame used → IsLeftBehind bytes (begins bytes) rest → rest ≡ drop used bytes
  behind_of frame used rest is h = subst (λ (x : Begins). IsLeftBehind bytes x rest) is h

  -- the bytes behind a frame are left
  leaves_behind : (frame : Frame) (used : ℕ) (rest : List ℕ) → begins bytes ≡ Stands frame used → IsLeftBehind bytes (begins bytes) rest → left_now ≡ Some rest → LeavesFrom before.place (before.place + used) bytes left_now
  leaves_behind frame used rest is h left = record { count = used; moved = omega arith; left = left ∙ ap (λ (xs : List ℕ). Some xs) (behind_of frame used rest is h) }

  pub step_lacks : (d : Cid) → ReadsFront mid.buffer.items bytes (front.Lacks d) left_now → eq_by_cmp cid_cmp d c ≡ true → RefusesWith (answer_to hash c before.more (frames_from before.place bytes)) (fault.Lacks c) before.place bytes left_now
  step_lacks d r e = record {
    used = before.place + 37;
    says = of_lacks hash c before.more before.place bytes d 37 r.says e;
    rest = leaves_behind (Lacking d) 37 r.rest r.says r.behind r.left;
  }

  -- a frame that answers for nothing that was asked was dropped
  dropped : (frame : Frame) (used : ℕ) (now : Peer) (rest : List ℕ) → HasDropped used mid now → begins bytes ≡ Stands frame used → IsLeftBehind bytes (begins bytes) rest → left_now ≡ Some rest
      → answer_to hash c before.more (frames_from before.place bytes) ≡ if_dropped (λ n. answer_to hash c n (frames_from (before.place + used) (drop used bytes))) (before.place + used) before.more
      → LeavesTo hash c (answer_to hash c before.more (frames_from before.place bytes)) before.place bytes now left_now
  dropped frame used now rest drops is behind left says =
      let moved : now.place ≡ before.place + used = omega (arith, drops.place, same.same_place) in
      let one : before.more ≡ suc now.more = omega (arith, drops.one_less, same.same_more) in
      let after : rest ≡ drop used bytes = behind_of frame used rest is behind in
      record {
        uses = record { rest = rest; used = used; left = left; moved = moved; behind = after };
        says = says ∙ ap (if_dropped (λ n. answer_to hash c n (frames_from (before.place + used) (drop used bytes))) (before.place + used)) one
            ∙ (λ i. answer_to hash c now.more (frames_from (sym moved i) (sym after i)));
      }

  noise : (frame : Frame) (used : ℕ) (rest : List ℕ) → mid.more ≡ 0 → begins bytes ≡ Stands frame used → IsLeftBehind bytes (begins bytes) rest → left_now ≡ Some rest
      → answer_to hash c before.more (frames_from before.place bytes) ≡ if_dropped (λ n. answer_to hash c n (frames_from (before.place + used) (drop used bytes))) (before.place + used) before.more
      → RefusesWith (answer_to hash c before.more (frames_from before.place bytes)) fault.Noise before.place bytes left_now
  noise frame used rest none is behind left says =
      let zero_now : before.more ≡ zero = omega (arith, none, same.same_more) in
      record {
        used = before.place + used;
        says = says ∙ ap (if_dropped (λ n. answer_to hash c n (frames_from (before.place + used) (drop used bytes))) (before.place + used)) zero_now;
        rest = leaves_behind frame used rest is behind left;
      }

  pub step_other : (d : Cid) (now : Peer) (r : ReadsFront mid.buffer.items bytes (front.Lacks d) left_now) → eq_by_cmp cid_cmp d c ≡ false → HasDropped 37 mid now
      → LeavesTo hash c (answer_to hash c before.more (frames_from before.place bytes)) before.place bytes now left_now
  step_other d now r e drops = dropped (Lacking d) 37 now r.rest drops r.says r.behind r.left (of_other hash c before.more before.place bytes d 37 r.says e)

  pub noise_other : (d : Cid) → ReadsFront mid.buffer.items bytes (front.Lacks d) left_now → eq_by_cmp cid_cmp d c ≡ false → mid.more ≡ 0 → RefusesWith (answer_to hash c before.more (frames_from before.place bytes)) fault.Noise before.place bytes left_now
  noise_other d r e none = noise (Lacking d) 37 r.rest none r.says r.behind r.left (of_other hash c before.more before.place bytes d 37 r.says e)

  pub drops_other : (d : Cid) (r : ReadsFront mid.buffer.items bytes (front.Lacks d) left_now) → eq_by_cmp cid_cmp d c ≡ false → (result : Result (Option (ℕ × ℕ)) PullFault) (now : Peer) → DropsFrame 37 result mid now
      → StepsBy hash c (answer_to hash c before.more (frames_from before.place bytes)) result before.place bytes now left_now
  drops_other d r e (Ok None) now drops = step_other d now r e drops
  drops_other d r e (Ok (Some found)) now drops = absurd drops
  drops_other d r e (Err f) now drops = λ stop. subst (λ (g : PullFault). RefusesWith (answer_to hash c before.more (frames_from before.place bytes)) g before.place bytes left_now) (sym drops.0) (noise_other d r e drops.1)

  module _ (d : Cid) (from to : ℕ) (r : ReadsFront mid.buffer.items bytes (front.Gives d from to) left_now) where
    pub step_wrong_block : (now : Peer) → (eq_by_cmp cid_cmp d c && is_block_of hash c (bytes_between from to mid.buffer.items)) ≡ false → HasDropped to mid now
        → LeavesTo hash c (answer_to hash c before.more (frames_from before.place bytes)) before.place bytes now left_now
    step_wrong_block now e drops = dropped (Giving d (bytes_between from to mid.buffer.items)) to now r.rest drops r.says r.behind r.left (of_wrong_block hash c before.more before.place bytes d (bytes_between from to mid.buffer.items) to r.says e)

    pub noise_block : (eq_by_cmp cid_cmp d c && is_block_of hash c (bytes_between from to mid.buffer.items)) ≡ false → mid.more ≡ 0 → RefusesWith (answer_to hash c before.more (frames_from before.place bytes)) fault.Noise before.place bytes left_now
    noise_block e none = noise (Giving d (bytes_between from to mid.buffer.items)) to r.rest none r.says r.behind r.left (of_wrong_block hash c before.more before.place bytes d (bytes_between from to mid.buffer.items) to r.says e)

    pub step_block : (now : Peer) → (eq_by_cmp cid_cmp d c && is_block_of hash c (bytes_between from to mid.buffer.items)) ≡ true → now.buffer ≡ mid.buffer → now.more ≡ mid.more → now.place ≡ mid.place + to
        → AnswersWith (answer_to hash c before.more (frames_from before.place bytes)) (from, to) before.place bytes now left_now
    step_block now e buffer more place =
        let moved : now.place ≡ before.place + to = omega (arith, place, same.same_place) in
        let after : r.rest ≡ drop to bytes = behind_of (Giving d (bytes_between from to mid.buffer.items)) to r.rest r.says r.behind in
        let count : before.more ≡ now.more = omega (arith, more, same.same_more) in
        record {
          uses = record { rest = r.rest; used = to; left = r.left; moved = moved; behind = after };
          says = of_block hash c before.more before.place bytes d (bytes_between from to mid.buffer.items) to r.says e
              ∙ (λ i. Answered (bytes_between from to (sym buffer i).items) (count i) (frames_from (sym moved i) (sym after i)));
        }

    pub drops_block : (eq_by_cmp cid_cmp d c && is_block_of hash c (bytes_between from to mid.buffer.items)) ≡ false → (result : Result (Option (ℕ × ℕ)) PullFault) (now : Peer) → DropsFrame to result mid now
        → StepsBy hash c (answer_to hash c before.more (frames_from before.place bytes)) result before.place bytes now left_now
    drops_block e (Ok None) now drops = step_wrong_block now e drops
    drops_block e (Ok (Some found)) now drops = absurd drops
    drops_block e (Err f) now drops = λ stop. subst (λ (g : PullFault). RefusesWith (answer_to hash c before.more (frames_from before.place bytes)) g before.place bytes left_now) (sym drops.0) (noise_block e drops.1)
