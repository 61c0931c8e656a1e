-- What a contract sees of a walk.
use Rattle.std.specs.Prelude.{ℕ, ◌-◌, List, [], ◌∷◌, length}
use Rattle.std.specs.declared.option.Option.{Option}
use Rattle.std.specs.declared.option.Option.TheVariants.{None, Some}
use Rattle.uf_cid.specs.declared.cid.Cid.{Cid}
use Rattle.uf_walk.specs.Order.{Course, Whole, TooMany, StopsAt, Follow, then_follow, visit}

-- how many CIDs it may hand out, those that it has handed out, what is ahead, and the CID whose block it waits for
pub record Walked : Type 0 where
  pub most : ℕ
  pub handed : List Cid
  pub ahead : List Cid
  pub due : Option Cid

abbrev pub walked : ℕ → List Cid → List Cid → Option Cid → Walked
walked most handed ahead due = record { most = most; handed = handed; ahead = ahead; due = due }

-- how many CIDs it may still hand out
abbrev pub room : Walked → ℕ
room w = w.most - length w.handed

abbrev pub course_from : Follow → Walked → Option Cid → Course
course_from follow w None = visit follow (room w) w.handed w.ahead
course_from follow w (Some c) = then_follow (λ next. visit follow (room w) w.handed next) c w.ahead (follow c)

-- how the whole walk goes, from its first CID on, where these links are followed
abbrev pub course : Follow → Walked → Course
course follow w = course_from follow w w.due

-- a walk that has come to its end goes on from one root more
abbrev pub with_root : Follow → ℕ → Cid → Course → Course
with_root follow most root (Whole met) = visit follow (most - length met) met (root ∷ [])
with_root follow most root TooMany = TooMany
with_root follow most root (StopsAt c) = StopsAt c
