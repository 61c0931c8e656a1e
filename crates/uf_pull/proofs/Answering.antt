-- What one frame answers.
use Rattle.std.proofs.Common.{◌≡◌, ℕ, suc, ◌+◌, List, [], ◌∷◌, drop, Bool, true, false, ◌&&◌, cond, refl, sym, ap, subst, ◌∙◌, arith}
use Rattle.std.specs.Prelude.{Some, None, if◌then◌else◌}
use Rattle.std.proofs.lemmas.List.{drop-drop}
use Rattle.std.specs.Ordering.{eq_by_cmp}
use Rattle.uf_cid.specs.Cid.{cid_cmp}
use Rattle.uf_cid.specs.declared.cid.Cid.{Cid}
use Rattle.uf_edge.specs.Streams.{Told}
use Rattle.uf_pull.specs.declared.fault.PullFault.{PullFault}
use Rattle.uf_pull.specs.declared.fault.PullFault.TheVariants as fault
use Rattle.uf_pull.specs.declared.frame.FrameFront.{FrameFront}
use Rattle.uf_pull.specs.declared.frame.FrameFront.TheVariants as front
use Rattle.uf_pull.specs.declared.peer.Peer.{Peer}
use Rattle.uf_pull.specs.Due.{Answer, Answered, Refused, answer_to, if_dropped, is_block_of}
use Rattle.uf_pull.specs.Frames.{Begins, BreaksOff, Deviates, DeviatesAt, EndsAt, Frame, Frames, Giving, Lacking, Next, Stands, begins, first_place, frames_by, frames_from}
use Rattle.uf_pull.specs.Reading.{AnswersWith, IsLeftBehind, LeavesTo, ReadsFront, UsesBytes, bytes_between, front_says}
use Rattle.uf_pull.proofs.Listing.{frames_are, place_first}

module _ (hash : List ℕ → List ℕ) (c : Cid) (more place : ℕ) where
  answer_ended : (at : ℕ) → answer_to hash c more (EndsAt at) ≡ Refused (fault.Ended c) at
  unfolding answer_to
  answer_ended at = refl

  answer_bad : (at : ℕ) → answer_to hash c more (DeviatesAt at) ≡ Refused (fault.Bad at) at
  unfolding answer_to
  answer_bad at = refl

  answer_lacks : (d : Cid) (rest : Frames) → eq_by_cmp cid_cmp d c ≡ true → answer_to hash c more (Next place (Lacking d) rest) ≡ Refused (fault.Lacks c) (first_place rest)
  unfolding answer_to
  answer_lacks d rest e = ap (λ (b : Bool). if b then Refused (fault.Lacks c) (first_place rest) else if_dropped (λ n. answer_to hash c n rest) (first_place rest) more) e

  answer_other : (d : Cid) (rest : Frames) → eq_by_cmp cid_cmp d c ≡ false → answer_to hash c more (Next place (Lacking d) rest) ≡ if_dropped (λ n. answer_to hash c n rest) (first_place rest) more
  unfolding answer_to
  answer_other d rest e = ap (λ (b : Bool). if b then Refused (fault.Lacks c) (first_place rest) else if_dropped (λ n. answer_to hash c n rest) (first_place rest) more) e

  answer_block : (d : Cid) (block : List ℕ) (rest : Frames) → (eq_by_cmp cid_cmp d c && is_block_of hash c block) ≡ true → answer_to hash c more (Next place (Giving d block) rest) ≡ Answered block more rest
  unfolding answer_to
  answer_block d block rest e = ap (λ (b : Bool). if b then Answered block more rest else if_dropped (λ n. answer_to hash c n rest) (first_place rest) more) e

  answer_wrong : (d : Cid) (block : List ℕ) (rest : Frames) → (eq_by_cmp cid_cmp d c && is_block_of hash c block) ≡ false → answer_to hash c more (Next place (Giving d block) rest) ≡ if_dropped (λ n. answer_to hash c n rest) (first_place rest) more
  unfolding answer_to
  answer_wrong d block rest e = ap (λ (b : Bool). if b then Answered block more rest else if_dropped (λ n. answer_to hash c n rest) (first_place rest) more) e

  -- ---- over bytes

  pub of_cut : (bytes : List ℕ) → begins bytes ≡ BreaksOff → answer_to hash c more (frames_from place bytes) ≡ Refused (fault.Ended c) place
  of_cut bytes is = ap (answer_to hash c more) (frames_are place bytes ∙ ap (frames_by frames_from place bytes) is) ∙ answer_ended place

  pub of_wrong : (bytes : List ℕ) → begins bytes ≡ Deviates → answer_to hash c more (frames_from place bytes) ≡ Refused (fault.Bad place) place
  of_wrong bytes is = ap (answer_to hash c more) (frames_are place bytes ∙ ap (frames_by frames_from place bytes) is) ∙ answer_bad place

  pub of_lacks : (bytes : List ℕ) (d : Cid) (used : ℕ) → begins bytes ≡ Stands (Lacking d) used → eq_by_cmp cid_cmp d c ≡ true → answer_to hash c more (frames_from place bytes) ≡ Refused (fault.Lacks c) (place + used)
  of_lacks bytes d used is e = ap (answer_to hash c more) (frames_are place bytes ∙ ap (frames_by frames_from place bytes) is) ∙ answer_lacks d _ e ∙ ap (Refused (fault.Lacks c)) (place_first (place + used) (drop used bytes))

  pub of_other : (bytes : List ℕ) (d : Cid) (used : ℕ) → begins bytes ≡ Stands (Lacking d) used → eq_by_cmp cid_cmp d c ≡ false
      → answer_to hash c more (frames_from place bytes) ≡ if_dropped (λ n. answer_to hash c n (frames_from (place + used) (drop used bytes))) (place + used) more
  of_other bytes d used is e = ap (answer_to hash c more) (frames_are place bytes ∙ ap (frames_by frames_from place bytes) is) ∙ answer_other d _ e
      ∙ ap (λ (u : ℕ). if_dropped (λ n. answer_to hash c n (frames_from (place + used) (drop used bytes))) u more) (place_first (place + used) (drop used bytes))

  pub of_block : (bytes : List ℕ) (d : Cid) (block : List ℕ) (used : ℕ) → begins bytes ≡ Stands (Giving d block) used → (eq_by_cmp cid_cmp d c && is_block_of hash c block) ≡ true
      → answer_to hash c more (frames_from place bytes) ≡ Answered block more (frames_from (place + used) (drop used bytes))
  of_block bytes d block used is e = ap (answer_to hash c more) (frames_are place bytes ∙ ap (frames_by frames_from place bytes) is) ∙ answer_block d block _ e

  pub of_wrong_block : (bytes : List ℕ) (d : Cid) (block : List ℕ) (used : ℕ) → begins bytes ≡ Stands (Giving d block) used → (eq_by_cmp cid_cmp d c && is_block_of hash c block) ≡ false
      → answer_to hash c more (frames_from place bytes) ≡ if_dropped (λ n. answer_to hash c n (frames_from (place + used) (drop used bytes))) (place + used) more
  of_wrong_block bytes d block used is e = ap (answer_to hash c more) (frames_are place bytes ∙ ap (frames_by frames_from place bytes) is) ∙ answer_wrong d block _ e
      ∙ ap (λ (u : ℕ). if_dropped (λ n. answer_to hash c n (frames_from (place + used) (drop used bytes))) u more) (place_first (place + used) (drop used bytes))

-- a frame of n bytes was used
pub uses_frame : (frame : Frame) (used place : ℕ) (bytes : List ℕ) (now : Peer) (left_now : Told) (rest : List ℕ) → begins bytes ≡ Stands frame used → left_now ≡ Some rest → IsLeftBehind bytes (begins bytes) rest
    → now.place ≡ place + used → UsesBytes place bytes now left_now
uses_frame frame used place bytes now left_now rest is left behind moved = record {
  rest = rest;
  used = used;
  left = left;
  moved = moved;
  behind = subst (λ (x : Begins). IsLeftBehind bytes x rest) is behind;
}

-- frames behind others
pub uses_uses : (place : ℕ) (bytes : List ℕ) (mid now : Peer) (mid_left left_now : Told) (first : UsesBytes place bytes mid mid_left) → UsesBytes mid.place first.rest now left_now → UsesBytes place bytes now left_now
uses_uses place bytes mid now mid_left left_now first second = record {
  rest = second.rest;
  used = first.used + second.used;
  left = second.left;
  moved = omega (arith, first.moved, second.moved);
  behind = second.behind ∙ ap (drop second.used) first.behind ∙ drop-drop second.used first.used bytes;
}
