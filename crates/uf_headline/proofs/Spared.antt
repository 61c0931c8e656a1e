-- What a stop in the course of a collection's sweep leaves of what is kept.
use Rattle.std.proofs.Common.{◌≡◌, ◌∙◌, ℕ, zero, suc, List, [], ◌∷◌, ◌++◌, Bool, true, false, refl, sym, ap, subst, Contains, Option, None, Some, Result, Ok, Err}
use Rattle.std.specs.FinMap.{get}
use Rattle.std.proofs.lemmas.List.Elements.{Contains-append_left, Contains-append_right, Contains-push}
use Rattle.uf_cid.specs.Blocks.{Lookup}
use Rattle.uf_cid.specs.declared.cid.Cid.{Cid}
use Rattle.uf_command.specs.Cars.{most_blocks}
use Rattle.uf_command.specs.declared.types.Refusal.{Refusal}
use Rattle.uf_pins.specs.Collecting.{IsSweepOutcome}
use Rattle.uf_pins.specs.Reach.{IsReachedFrom, reach}
use Rattle.uf_pins.proofs.Reached.{reach_whole, what-is-reached}
use Rattle.uf_pins.proofs.Stopped.{firm-synced, plain-synced}
use Rattle.uf_store.specs.Contents.{Contents, HeldMap, Notes, held_at, with_sync}
use Rattle.uf_store.specs.Stops.{IsPart, IsPlain}
use Rattle.uf_top.specs.Collecting.{EachSweepOutcome, kept_below, kept_in, order_told, tree_roots}
use Rattle.uf_walk.specs.Order.{Follow, OrderFault, StopsAt, TooMany, Whole, follow_block, follow_held, is_met, ordered, then_follow, visit}
use Rattle.uf_walk.proofs.Reaching.{visit-extends, whole_followed}
use Rattle.uf_walk.proofs.Visits.{visit-end, visit-full, visit-new, visit-passed}
use Rattle.uf_headline.specs.Spared.{KeepsAgain, LeavesBelow, LeavesKept}

same-option : (o p : Option (List ℕ)) → ((b : List ℕ) → o ≡ Some b → p ≡ Some b) → ((b : List ℕ) → p ≡ Some b → o ≡ Some b) → o ≡ p
same-option None None to from = refl
same-option None (Some b) to from = from b refl
same-option (Some b) p to from = sym (to b refl)

-- ---- a stop in the course of a sweep

module _ (t : Contents) (plain : IsPlain t) (kept : List Cid) (held : HeldMap) (notes : Notes) (o : IsSweepOutcome (with_sync t).writes kept held notes) where
  -- the sweep began with a sync, so all that was held is firm
  stays : (c : Cid) (bytes : List ℕ) → Contains kept c → held_at t c ≡ Some bytes → get held c ≡ Some bytes
  stays c bytes there is = o.kept_stay c bytes there (ap (λ (m : HeldMap). get m c) (firm-synced t.writes ∙ sym plain.held) ∙ is)

  part-left : IsPart held t.held
  part-left = subst (IsPart held) (sym (plain-synced t plain).held) o.part

  kept-left : LeavesKept t kept held notes
  kept-left = record {
    notes_are = o.notes_are ∙ sym (plain-synced t plain).notes;
    part = part-left;
    same = λ c there. same-option (get held c) (get t.held c) (part-left c) (λ bytes is. stays c bytes there is);
  }

pub sweep-keeps : (t : Contents) (kept : List Cid) → IsPlain t → EachSweepOutcome (LeavesKept t kept) kept t
sweep-keeps t kept plain = λ held notes o. kept-left t plain kept held notes o

-- ---- what is below the pins

-- a CID that is followed has a block
followed-held : (c : Cid) (o : Option (List ℕ)) (links : List Cid) → follow_block c o ≡ Some links → (bytes : List ℕ) × (o ≡ Some bytes)
followed-held c None links e = absurd (let no : None ≡ Some links = e in cc)
followed-held c (Some bytes) links e = (bytes, refl)

-- so has each CID of a reach
reached-held : (held : Lookup) (most : ℕ) (roots list : List Cid) → reach held most roots ≡ Ok list → (c : Cid) → Contains list c → (bytes : List ℕ) × (held c ≡ Some bytes)
reached-held held most roots list e c there =
    let next = whole_followed (follow_held held) most roots list (reach_whole held most roots list e) c there in
    followed-held c (held c) next.0 next.1

more-roots : (follow : Follow) (roots pins : List Cid) (c : Cid) → IsReachedFrom follow pins c → IsReachedFrom follow (roots ++ pins) c
more-roots follow roots pins c r = record { root = r.root; is_root = Contains-append_right roots pins r.root r.is_root; chain = r.chain }

order-is : (r : Result (List Cid) OrderFault) (list : List Cid) → order_told r ≡ Ok list → r ≡ Ok list
order-is (Ok other) list e = (let same : other ≡ list = cc in ap (λ (l : List Cid). Ok l) same)
order-is (Err why) list e = absurd cc

-- what is kept is what the Head's root and the pins lead to
reach-of : (held : Lookup) (r : Result (List Cid) Refusal) (pins list : List Cid) → kept_below held r (Some pins) ≡ Ok list
    → (roots : List Cid) × (reach held most_blocks (roots ++ pins) ≡ Ok list)
reach-of held (Ok roots) pins list e = (roots, order-is (reach held most_blocks (roots ++ pins)) list e)
reach-of held (Err why) pins list e = absurd cc

pub sweep-keeps-below : (t : Contents) (pins list : List Cid) → IsPlain t → kept_in t (Some pins) ≡ Ok list → EachSweepOutcome (LeavesBelow t pins) list t
sweep-keeps-below t pins list plain e = λ held notes o c r.
    let found = reach-of (held_at t) (tree_roots t.notes.head) pins list e in
    let all = what-is-reached (follow_held (held_at t)) most_blocks (found.0 ++ pins) list (reach_whole (held_at t) most_blocks (found.0 ++ pins) list found.1) in
    let there = (all c).1 (more-roots (follow_held (held_at t)) found.0 pins c r) in
    let was = reached-held (held_at t) most_blocks (found.0 ++ pins) list found.1 c there in
    record { bytes = was.0; was = was.1; is = stays t plain list held notes o c was.0 there was.1 }

-- ---- what the next collection keeps

-- a walk that comes to its end goes the same way wherever the CIDs that it meets are followed as they were
module _ (f g : Follow) (list : List Cid) (by_both : (c : Cid) (links : List Cid) → Contains list c → f c ≡ Some links → g c ≡ Some links) where
  met-there : (more : ℕ) (met : List Cid) (c : Cid) (ahead : List Cid) → visit f more (met ++ c ∷ []) ahead ≡ Whole list → Contains list c
  met-there more met c ahead e =
      let past = visit-extends f more (met ++ c ∷ []) list ahead e in
      subst (λ (l : List Cid). Contains l c) (sym past.1) (Contains-append_left (met ++ c ∷ []) past.0 c (Contains-push met c))

  module _ (more : ℕ) (met : List Cid) (below : (c : Cid) (ahead : List Cid) → visit f more (met ++ c ∷ []) ahead ≡ Whole list → visit g more (met ++ c ∷ []) ahead ≡ Whole list) where
    same-links : (c : Cid) (ahead : List Cid) (r : Option (List Cid)) → f c ≡ r → then_follow (λ next. visit f more (met ++ c ∷ []) next) c ahead r ≡ Whole list
        → then_follow (λ next. visit g more (met ++ c ∷ []) next) c ahead (g c) ≡ Whole list
    same-links c ahead None is e = absurd (let no : StopsAt c ≡ Whole list = e in cc)
    same-links c ahead (Some links) is e =
        ap (then_follow (λ next. visit g more (met ++ c ∷ []) next) c ahead) (by_both c links (met-there more met c (links ++ ahead) e) is) ∙ below c (links ++ ahead) e

    same-along : (ahead : List Cid) → visit f (suc more) met ahead ≡ Whole list → visit g (suc more) met ahead ≡ Whole list
    same-along [] e = visit-end g (suc more) met ∙ sym (visit-end f (suc more) met) ∙ e
    same-along (c ∷ ahead) e = by (is_met met c) refl (same-along ahead)
      where
        by : (b : Bool) → is_met met c ≡ b → (visit f (suc more) met ahead ≡ Whole list → visit g (suc more) met ahead ≡ Whole list) → visit g (suc more) met (c ∷ ahead) ≡ Whole list
        by true is rest = visit-passed g (suc more) met (c ∷ []) ahead (is, tt) ∙ rest (sym (visit-passed f (suc more) met (c ∷ []) ahead (is, tt)) ∙ e)
        by false is rest = visit-new g more met c ahead is ∙ same-links c ahead (f c) refl (sym (visit-new f more met c ahead is) ∙ e)

  same-full : (met ahead : List Cid) → visit f 0 met ahead ≡ Whole list → visit g 0 met ahead ≡ Whole list
  same-full met [] e = visit-end g 0 met ∙ sym (visit-end f 0 met) ∙ e
  same-full met (c ∷ ahead) e = by (is_met met c) refl (same-full met ahead)
    where
      by : (b : Bool) → is_met met c ≡ b → (visit f 0 met ahead ≡ Whole list → visit g 0 met ahead ≡ Whole list) → visit g 0 met (c ∷ ahead) ≡ Whole list
      by true is rest = visit-passed g 0 met (c ∷ []) ahead (is, tt) ∙ rest (sym (visit-passed f 0 met (c ∷ []) ahead (is, tt)) ∙ e)
      by false is rest = absurd (let no : TooMany ≡ Whole list = sym (visit-full f met c ahead is) ∙ e in cc)

  visit-within : (more : ℕ) (met ahead : List Cid) → visit f more met ahead ≡ Whole list → visit g more met ahead ≡ Whole list
  visit-within zero met ahead e = same-full met ahead e
  visit-within (suc more) met ahead e = same-along more met (λ c next. visit-within more (met ++ c ∷ []) next) ahead e

reach-again : (held left : Lookup) (most : ℕ) (roots list : List Cid) → ((c : Cid) → Contains list c → left c ≡ held c) → reach held most roots ≡ Ok list → reach left most roots ≡ Ok list
reach-again held left most roots list same e =
    ap (ordered left)
    (visit-within (follow_held held) (follow_held left) list (λ c links there is. ap (follow_block c) (same c there) ∙ is) most [] roots (reach_whole held most roots list e))

kept-again : (held left : Lookup) (r : Result (List Cid) Refusal) (pins list : List Cid) → ((c : Cid) → Contains list c → left c ≡ held c) → kept_below held r (Some pins) ≡ Ok list → kept_below left r (Some pins) ≡ Ok list
kept-again held left (Ok roots) pins list same e = ap order_told (reach-again held left most_blocks (roots ++ pins) list same (order-is (reach held most_blocks (roots ++ pins)) list e))
kept-again held left (Err why) pins list same e = absurd cc

pub sweep-again : (t : Contents) (pins list : List Cid) → IsPlain t → kept_in t (Some pins) ≡ Ok list → EachSweepOutcome (KeepsAgain pins list) list t
sweep-again t pins list plain e = λ held notes o writes.
    let k = kept-left t plain list held notes o in
    ap (λ (n : Notes). kept_below (λ cid. get held cid) (tree_roots n.head) (Some pins)) k.notes_are
    ∙ kept-again (held_at t) (λ cid. get held cid) (tree_roots t.notes.head) pins list k.same e
