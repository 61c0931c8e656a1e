-- How what is held in two places compares below two CIDs.
use Rattle.std.specs.Prelude.{ℕ, Bool, true, false, List, [], ◌∷◌, nat_eq}
use Rattle.std.specs.Cmp.Lexicographic.{pointwise}
use Rattle.std.specs.Ordering.{eq_by_cmp}
use Rattle.std.specs.declared.option.Option.{Option}
use Rattle.std.specs.declared.option.Option.TheVariants.{None, Some}
use Rattle.std.specs.declared.result.Result.{Result}
use Rattle.std.specs.declared.result.Result.TheVariants.{Ok, Err}
use Rattle.uf_cid.specs.Blocks.{Lookup}
use Rattle.uf_cid.specs.Cid.{cid_cmp}
use Rattle.uf_cid.specs.declared.cid.Cid.{Cid}
use Rattle.uf_store.specs.declared.store.StoreFault.TheVariants.{Missing}
use Rattle.uf_walk.specs.Order.{Course, Whole, TooMany, StopsAt, Follow, goes, block_links, readable}
use Rattle.uf_same.specs.declared.answer.Compared.{Compared}
use Rattle.uf_same.specs.declared.answer.Compared.TheVariants as compared
use Rattle.uf_same.specs.declared.answer.SameFault.{SameFault}
use Rattle.uf_same.specs.declared.answer.SameFault.TheVariants as fault

abbrev pub Verdict : Type 0
Verdict = Result Compared SameFault

-- two blocks are followed where they are one
abbrev pub follow_equal : Bool → Cid → List ℕ → Option (List Cid)
follow_equal true c bytes = readable (block_links c.codec bytes)
follow_equal false c bytes = None

abbrev pub follow_right : Cid → List ℕ → Option (List ℕ) → Option (List Cid)
follow_right c a None = None
follow_right c a (Some b) = follow_equal (pointwise nat_eq a b) c a

abbrev pub follow_left : Cid → Option (List ℕ) → Option (List ℕ) → Option (List Cid)
follow_left c None right = None
follow_left c (Some a) right = follow_right c a right

abbrev pub follow_both : Lookup → Lookup → Follow
follow_both left right c = follow_left c (left c) (right c)

-- why a walk over both stops at a CID: missing on the left, missing on the right, two blocks that differ, or no node
abbrev pub unread_node : Cid → Result (List Cid) ℕ → Verdict
unread_node c (Ok links) = Err (fault.NotDagPb c 0)
unread_node c (Err why) = Err (fault.NotDagPb c why)

abbrev pub stop_equal : Bool → Cid → List ℕ → List ℕ → Verdict
stop_equal true c a b = unread_node c (block_links c.codec a)
stop_equal false c a b = Ok (compared.Clash c a b)

abbrev pub stop_right : Cid → List ℕ → Option (List ℕ) → Verdict
stop_right c a None = Err (fault.Right (Missing c))
stop_right c a (Some b) = stop_equal (pointwise nat_eq a b) c a b

abbrev pub stop_left : Cid → Option (List ℕ) → Option (List ℕ) → Verdict
stop_left c None right = Err (fault.Left (Missing c))
stop_left c (Some a) right = stop_right c a right

-- how a walk over both ends
abbrev pub verdict_of : Lookup → Lookup → Course → Verdict
verdict_of left right (Whole met) = Ok compared.Equal
verdict_of left right TooMany = Err fault.TooMany
verdict_of left right (StopsAt c) = stop_left c (left c) (right c)

abbrev pub by_equal : Lookup → Lookup → ℕ → Cid → Bool → Verdict
by_equal left right most a true = verdict_of left right (goes (follow_both left right) most (a ∷ []))
by_equal left right most a false = Ok compared.Differ

-- the verdict: the CIDs differ, or the first CID in the order that decides, or all blocks are equal
abbrev pub verdict : Lookup → Lookup → ℕ → Cid → Cid → Verdict
verdict left right most a b = by_equal left right most a (eq_by_cmp cid_cmp a b)
