-- What each step of a walk leaves of its course.
use Rattle.std.proofs.Common.{◌≡◌, ℕ, suc, ◌+◌, ◌-◌, ◌≤◌, ◌<◌, List, [], ◌∷◌, ◌++◌, length, false, refl, sym, ap, subst, ◌∙◌, arith, length-append, Ok}
use Rattle.std.specs.Prelude.{Some, None}
use Rattle.uf_cid.specs.declared.cid.Cid.{Cid}
use Rattle.uf_walk.specs.Ahead.{Passed, PassesOver, StartsNew}
use Rattle.uf_walk.specs.Order.{Course, Whole, TooMany, StopsAt, Follow, is_met, block_links, then_follow, visit}
use Rattle.uf_walk.specs.Turns.{AddsRoot, EndsWalk, Follows, HandsOut, IsFull, StaysAt}
use Rattle.uf_walk.specs.Walked.{Walked, course, course_from, room, with_root}
use Rattle.uf_walk.proofs.Visits.{and_then, visit-append, visit-end, visit-full, visit-new, visit-passed}
use Rattle.uf_walk.proofs.Members.{not_among}

-- a walk for which no block is due
course_now : (follow : Follow) (w : Walked) → w.due ≡ None → course follow w ≡ visit follow (room w) w.handed w.ahead
course_now follow w e = ap (course_from follow w) e

course_due : (follow : Follow) (w : Walked) (c : Cid) → w.due ≡ Some c → course follow w ≡ then_follow (λ next. visit follow (room w) w.handed next) c w.ahead (follow c)
course_due follow w c e = ap (course_from follow w) e

module _ (before now : Walked) (free : before.due ≡ None) (most : now.most ≡ before.most) where
  same_room : now.handed ≡ before.handed → room now ≡ room before
  same_room e = λ i. most i - length (e i)

  -- the same CIDs were handed out, and what was met was passed over
  same_visit : (handed : now.handed ≡ before.handed) → Passed before.handed before.ahead now.ahead → (follow : Follow) → visit follow (room now) now.handed now.ahead ≡ visit follow (room before) before.handed before.ahead
  same_visit handed past follow =
      (λ i. visit follow (same_room handed i) (handed i) now.ahead)
      ∙ sym (visit-passed follow (room before) before.handed past.passed now.ahead past.all_met)
      ∙ ap (visit follow (room before) before.handed) (sym past.front)

  same_course : now.handed ≡ before.handed → now.due ≡ None → Passed before.handed before.ahead now.ahead → (follow : Follow) → course follow now ≡ course follow before
  same_course handed due past follow = course_now follow now due ∙ same_visit handed past follow ∙ sym (course_now follow before free)

  stays : now.handed ≡ before.handed → StaysAt before now
  stays handed = record { same_most = most; same_handed = handed }

  pub ends : now.handed ≡ before.handed → now.due ≡ None → PassesOver before.handed before.ahead now.ahead → now.ahead ≡ [] → EndsWalk before now
  ends handed due passes nothing = record {
    stays = stays handed;
    due = due;
    whole = λ follow. sym (same_course handed due passes.past follow) ∙ course_now follow now due ∙ ap (visit follow (room now) now.handed) nothing ∙ visit-end follow (room now) now.handed ∙ ap Whole handed;
    course = same_course handed due passes.past;
  }

  -- the first CID ahead is new
  first_new : (c : Cid) (rest : List Cid) → PassesOver before.handed before.ahead now.ahead → now.ahead ≡ c ∷ rest → is_met before.handed c ≡ false
  first_new c rest passes first = subst (StartsNew before.handed) first passes.starts_new

  pub full : (c : Cid) (rest : List Cid) → now.handed ≡ before.handed → now.due ≡ None → PassesOver before.handed before.ahead now.ahead → now.ahead ≡ c ∷ rest → length before.handed ≡ before.most → IsFull before now
  full c rest handed due passes first is_full =
      let no_room : room now ≡ 0 = same_room handed ∙ (omega arith) in
      record {
        stays = stays handed;
        due = due;
        full = is_full;
        too_many = λ follow. sym (same_course handed due passes.past follow) ∙ course_now follow now due
            ∙ (λ i. visit follow (no_room i) (handed i) (first i)) ∙ visit-full follow before.handed c rest (first_new c rest passes first);
        course = same_course handed due passes.past;
      }

-- a CID was handed out: what was passed over, the CID and the rest were ahead
pub hands : (before now : Walked) (c : Cid) (between : List Cid) → before.due ≡ None → now.most ≡ before.most → now.handed ≡ before.handed ++ c ∷ [] → now.due ≡ Some c
    → PassesOver before.handed before.ahead between → between ≡ c ∷ now.ahead → length before.handed < before.most → HandsOut c before now
hands before now c between free most handed due passes first fits =
    let is_new : is_met before.handed c ≡ false = subst (StartsNew before.handed) first passes.starts_new in
    let size : length (before.handed ++ c ∷ []) ≡ length before.handed + 1 = length-append before.handed (c ∷ []) in
    let more : before.most - length before.handed ≡ suc (before.most - length (before.handed ++ c ∷ [])) = omega (arith, size) in
    record {
      same_most = most;
      handed = handed;
      due = due;
      is_new = not_among before.handed c is_new;
      fits = fits;
      course = λ follow.
          course_due follow now c due
          ∙ (λ i. then_follow (λ next. visit follow (most i - length (handed i)) (handed i) next) c now.ahead (follow c))
          ∙ sym (visit-new follow (before.most - length (before.handed ++ c ∷ [])) before.handed c now.ahead is_new)
          ∙ (λ i. visit follow (sym more i) before.handed (sym first i))
          ∙ sym (visit-passed follow (room before) before.handed passes.past.passed between passes.past.all_met)
          ∙ ap (visit follow (room before) before.handed) (sym passes.past.front)
          ∙ sym (course_now follow before free);
    }

-- the links of the block that was due are ahead
pub follows : (before now : Walked) (c : Cid) (bytes : List ℕ) (links : List Cid) → before.due ≡ Some c → now.most ≡ before.most → now.handed ≡ before.handed → now.due ≡ None
    → block_links c.codec bytes ≡ Ok links → now.ahead ≡ links ++ before.ahead → Follows c bytes before now
follows before now c bytes links due most handed free reads ahead = record {
  stays = record { same_most = most; same_handed = handed };
  due = free;
  links = links;
  reads = reads;
  course = λ follow is.
      course_now follow now free
      ∙ (λ i. visit follow (most i - length (handed i)) (handed i) (ahead i))
      ∙ sym (ap (then_follow (λ next. visit follow (room before) before.handed next) c before.ahead) is)
      ∙ sym (course_due follow before c due);
}

-- a root was added behind all that is ahead
pub adds : (before now : Walked) (root : Cid) → before.due ≡ None → now.due ≡ None → now.most ≡ before.most → now.handed ≡ before.handed → length before.handed ≤ before.most
    → now.ahead ≡ before.ahead ++ root ∷ [] → AddsRoot root before now
adds before now root free due most handed fits ahead = record {
  stays = record { same_most = most; same_handed = handed };
  due = due;
  course = λ follow.
      course_now follow now due
      ∙ (λ i. visit follow (most i - length (handed i)) (handed i) (ahead i))
      ∙ visit-append follow before.most (room before) before.handed before.ahead (root ∷ []) (omega arith)
      ∙ by follow (visit follow (room before) before.handed before.ahead)
      ∙ ap (with_root follow before.most root) (sym (course_now follow before free));
}
  where
    by : (follow : Follow) (r : Course) → and_then follow before.most (root ∷ []) r ≡ with_root follow before.most root r
    by follow (Whole met) = refl
    by follow TooMany = refl
    by follow (StopsAt c) = refl

-- ---- from what is inside a walk

at : (view before : Walked) → view ≡ before → before.due ≡ None → view.due ≡ None
at view before is free = ap (λ (w : Walked). w.due) is ∙ free

pub ends_inside : (view before now : Walked) → view ≡ before → before.due ≡ None → now.most ≡ view.most → now.handed ≡ view.handed → now.due ≡ view.due
    → PassesOver now.handed view.ahead now.ahead → now.ahead ≡ [] → EndsWalk before now
ends_inside view before now is free most handed due passes nothing =
    subst (λ (w : Walked). EndsWalk w now) is
    (ends view now (at view before is free) most handed (due ∙ at view before is free) (subst (λ (h : List Cid). PassesOver h view.ahead now.ahead) handed passes) nothing)

pub full_inside : (view before now : Walked) (c : Cid) (rest : List Cid) → view ≡ before → before.due ≡ None → now.most ≡ view.most → now.handed ≡ view.handed → now.due ≡ view.due
    → PassesOver now.handed view.ahead now.ahead → now.ahead ≡ c ∷ rest → length view.handed ≡ view.most → IsFull before now
full_inside view before now c rest is free most handed due passes first is_full =
    subst (λ (w : Walked). IsFull w now) is
    (full view now (at view before is free) most c rest handed (due ∙ at view before is free) (subst (λ (h : List Cid). PassesOver h view.ahead now.ahead) handed passes) first is_full)

pub hands_inside : (view before now : Walked) (c : Cid) (met between : List Cid) → view ≡ before → before.due ≡ None → now.most ≡ view.most → met ≡ view.handed → now.handed ≡ met ++ c ∷ []
    → now.due ≡ Some c → PassesOver met view.ahead between → between ≡ c ∷ now.ahead → length view.handed < view.most → HandsOut c before now
hands_inside view before now c met between is free most same handed due passes first fits =
    subst (λ (w : Walked). HandsOut c w now) is
    (hands view now c between (at view before is free) most (handed ∙ ap (λ (h : List Cid). h ++ c ∷ []) same) due
    (subst (λ (h : List Cid). PassesOver h view.ahead between) same passes) first fits)

pub adds_inside : (view before now : Walked) (root : Cid) → view ≡ before → before.due ≡ None → now.due ≡ view.due → now.most ≡ view.most → now.handed ≡ view.handed → length view.handed ≤ view.most
    → now.ahead ≡ view.ahead ++ root ∷ [] → AddsRoot root before now
adds_inside view before now root is free due most handed fits ahead =
    subst (λ (w : Walked). AddsRoot root w now) is
    (adds view now root (at view before is free) (due ∙ at view before is free) most handed fits ahead)

-- the first one ahead wasn't met
pub is_new : (met ahead rest : List Cid) (c : Cid) → StartsNew met ahead → ahead ≡ c ∷ rest → is_met met c ≡ false
is_new met ahead rest c starts first = subst (StartsNew met) first starts
