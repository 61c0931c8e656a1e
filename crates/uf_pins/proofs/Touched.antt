-- How many touches a walk takes, by the CIDs that it has handed out.
use Rattle.std.proofs.Common.{◌≡◌, ℕ, ◌+◌, ◌≤◌, List, [], ◌∷◌, ◌++◌, length, ap, subst, ◌∙◌, arith, Result, Ok, Err, length-append}
use Rattle.std.specs.Prelude.{IfOk}
use Rattle.uf_cid.specs.Blocks.{Lookup}
use Rattle.uf_cid.specs.declared.cid.Cid.{Cid}
use Rattle.uf_walk.specs.Order.{Course, Whole, TooMany, StopsAt, OrderFault, follow_held, ordered}
use Rattle.uf_walk.specs.Turns.{HandsOut}
use Rattle.uf_walk.specs.Walked.{Walked, course}
use Rattle.uf_walk.proofs.Reaching.{handed_first}
use Rattle.uf_store.specs.Contents.{Contents, held_at}
use Rattle.uf_pins.specs.Notes.{Lists}
use Rattle.uf_pins.specs.Reach.{HasRoots, reach}
use Rattle.uf_pins.proofs.Collected.{lists-one}

-- one touch for each CID that a walk has handed out is no more than one for each that it hands out
pub each-handed : (held : Lookup) (first now : Walked) (was is : ℕ) → course (follow_held held) now ≡ course (follow_held held) first → is ≤ was + length now.handed
    → IfOk (ordered held (course (follow_held held) first)) (λ list. is ≤ was + length list)
each-handed held first now was is same few = by (course (follow_held held) first) same
  where
    by : (r : Course) → course (follow_held held) now ≡ r → IfOk (ordered held r) (λ list. is ≤ was + length list)
    by (Whole list) e = (let first_ones = handed_first (follow_held held) now list e in omega (arith, few, ap length first_ones.1 ∙ length-append now.handed first_ones.0))
    by TooMany e = tt
    by (StopsAt c) e = tt

-- and still so where one more is handed out, and touched
pub handed-next : (c : Cid) (before now : Walked) (was at is : ℕ) → HandsOut c before now → at ≡ was + length before.handed → is ≡ at + 1 → is ≤ was + length now.handed
handed-next c before now was at is h touched one = omega (arith, touched, one, ap length h.handed ∙ length-append before.handed (c ∷ []))

-- the same of the roots of a walk
pub each-from : (held : Lookup) (most : ℕ) (roots : List Cid) (w : Walked) (was is : ℕ) → HasRoots most roots w → IfOk (ordered held (course (follow_held held) w)) (λ list. is ≤ was + length list)
    → IfOk (reach held most roots) (λ list. is ≤ was + length list)
each-from held most roots w was is h each = subst (λ (r : Course). IfOk (ordered held r) (λ list. is ≤ was + length list)) (h.course (follow_held held)) each

-- and of the roots and the pins that the note lists
pub each-kept : (t : Contents) (most : ℕ) (roots pins other : List Cid) (was is : ℕ) → Lists t.notes.pins pins → Lists t.notes.pins other
    → IfOk (reach (held_at t) most (roots ++ pins)) (λ list. is ≤ was + length list) → IfOk (reach (held_at t) most (roots ++ other)) (λ list. is ≤ was + length list)
each-kept t most roots pins other was is listed also each =
    subst (λ (x : List Cid). IfOk (reach (held_at t) most (roots ++ x)) (λ list. is ≤ was + length list)) (lists-one t.notes.pins pins other listed also) each
