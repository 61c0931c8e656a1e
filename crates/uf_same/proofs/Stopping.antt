-- Where walks stop.
use Rattle.std.proofs.Common.{◌≡◌, ℕ, zero, suc, List, [], ◌∷◌, ◌++◌, refl, sym, ap, subst, ◌∙◌, Bool, true, false}
use Rattle.std.specs.Prelude.{Option, Some, None}
use Rattle.std.specs.List.{AllByRecursion}
use Rattle.uf_cid.specs.declared.cid.Cid.{Cid}
use Rattle.uf_tree.proofs.Each.{both}
use Rattle.uf_walk.specs.Order.{Whole, TooMany, StopsAt, Follow, is_met, then_follow, visit}
use Rattle.uf_walk.proofs.Visits.{visit-end, visit-full, visit-new, visit-passed}

-- a walk that is over its number is so wherever its links are followed as they were
module _ (f g : Follow) (as_well : (c : Cid) (links : List Cid) → f c ≡ Some links → g c ≡ Some links) where
  module _ (more : ℕ) (met : List Cid) (below : (c : Cid) (ahead : List Cid) → visit f more (met ++ c ∷ []) ahead ≡ TooMany → visit g more (met ++ c ∷ []) ahead ≡ TooMany) where
    over_links : (c : Cid) (ahead : List Cid) (r : Option (List Cid)) → f c ≡ r → then_follow (λ next. visit f more (met ++ c ∷ []) next) c ahead r ≡ TooMany
        → then_follow (λ next. visit g more (met ++ c ∷ []) next) c ahead (g c) ≡ TooMany
    over_links c ahead None is e = absurd (let no : StopsAt c ≡ TooMany = e in cc)
    over_links c ahead (Some links) is e = ap (then_follow (λ next. visit g more (met ++ c ∷ []) next) c ahead) (as_well c links is) ∙ below c (links ++ ahead) e

    over_along : (ahead : List Cid) → visit f (suc more) met ahead ≡ TooMany → visit g (suc more) met ahead ≡ TooMany
    over_along [] e = visit-end g (suc more) met ∙ sym (visit-end f (suc more) met) ∙ e
    over_along (c ∷ ahead) e = by (is_met met c) refl (over_along ahead)
      where
        by : (b : Bool) → is_met met c ≡ b → (visit f (suc more) met ahead ≡ TooMany → visit g (suc more) met ahead ≡ TooMany) → visit g (suc more) met (c ∷ ahead) ≡ TooMany
        by true is then = visit-passed g (suc more) met (c ∷ []) ahead (is, tt) ∙ then (sym (visit-passed f (suc more) met (c ∷ []) ahead (is, tt)) ∙ e)
        by false is then = visit-new g more met c ahead is ∙ over_links c ahead (f c) refl (sym (visit-new f more met c ahead is) ∙ e)

  over_full : (met ahead : List Cid) → visit f 0 met ahead ≡ TooMany → visit g 0 met ahead ≡ TooMany
  over_full met [] e = visit-end g 0 met ∙ sym (visit-end f 0 met) ∙ e
  over_full met (c ∷ ahead) e = by (is_met met c) refl (over_full met ahead)
    where
      by : (b : Bool) → is_met met c ≡ b → (visit f 0 met ahead ≡ TooMany → visit g 0 met ahead ≡ TooMany) → visit g 0 met (c ∷ ahead) ≡ TooMany
      by true is then = visit-passed g 0 met (c ∷ []) ahead (is, tt) ∙ then (sym (visit-passed f 0 met (c ∷ []) ahead (is, tt)) ∙ e)
      by false is then = visit-full g met c ahead is

  pub over-as-well : (more : ℕ) (met ahead : List Cid) → visit f more met ahead ≡ TooMany → visit g more met ahead ≡ TooMany
  over-as-well zero met ahead e = over_full met ahead e
  over-as-well (suc more) met ahead e = over_along more met (λ c next. over-as-well more (met ++ c ∷ []) next) ahead e

-- what holds of roots, and of each CID that is followed from one of which it holds, holds of where a walk stops
module _ (f : Follow) (P : Cid → Type 0) (closed : (c : Cid) (links : List Cid) → P c → f c ≡ Some links → AllByRecursion P links) (d : Cid) where
  -- it holds there, and nothing is followed from there
  pub record IsStopped : Type 0 where
    pub holds : P d
    pub unfollowed : f d ≡ None

  module _ (more : ℕ) (met : List Cid) (below : (c : Cid) (ahead : List Cid) → AllByRecursion P ahead → visit f more (met ++ c ∷ []) ahead ≡ StopsAt d → IsStopped) where
    stops_links : (c : Cid) (ahead : List Cid) (r : Option (List Cid)) → f c ≡ r → P c → AllByRecursion P ahead → then_follow (λ next. visit f more (met ++ c ∷ []) next) c ahead r ≡ StopsAt d → IsStopped
    stops_links c ahead None is here all e =
        let stop : StopsAt c ≡ StopsAt d = e in
        let same : c ≡ d = cc in
        record { holds = subst P same here; unfollowed = subst (λ x. f x ≡ None) same is }
    stops_links c ahead (Some links) is here all e = below c (links ++ ahead) (both P links ahead (closed c links here is) all) e

    stops_along : (ahead : List Cid) → AllByRecursion P ahead → visit f (suc more) met ahead ≡ StopsAt d → IsStopped
    stops_along [] all e = absurd (let no : Whole met ≡ StopsAt d = sym (visit-end f (suc more) met) ∙ e in cc)
    stops_along (c ∷ ahead) all e = by (is_met met c) refl (stops_along ahead all.1)
      where
        by : (b : Bool) → is_met met c ≡ b → (visit f (suc more) met ahead ≡ StopsAt d → IsStopped) → IsStopped
        by true is then = then (sym (visit-passed f (suc more) met (c ∷ []) ahead (is, tt)) ∙ e)
        by false is then = stops_links c ahead (f c) refl all.0 all.1 (sym (visit-new f more met c ahead is) ∙ e)

  stops_full : (met ahead : List Cid) → AllByRecursion P ahead → visit f 0 met ahead ≡ StopsAt d → IsStopped
  stops_full met [] all e = absurd (let no : Whole met ≡ StopsAt d = sym (visit-end f 0 met) ∙ e in cc)
  stops_full met (c ∷ ahead) all e = by (is_met met c) refl (stops_full met ahead all.1)
    where
      by : (b : Bool) → is_met met c ≡ b → (visit f 0 met ahead ≡ StopsAt d → IsStopped) → IsStopped
      by true is then = then (sym (visit-passed f 0 met (c ∷ []) ahead (is, tt)) ∙ e)
      by false is then = absurd (let no : TooMany ≡ StopsAt d = sym (visit-full f met c ahead is) ∙ e in cc)

  pub where-it-stops : (more : ℕ) (met ahead : List Cid) → AllByRecursion P ahead → visit f more met ahead ≡ StopsAt d → IsStopped
  where-it-stops zero met ahead all e = stops_full met ahead all e
  where-it-stops (suc more) met ahead all e = stops_along more met (λ c next. where-it-stops more (met ++ c ∷ []) next) ahead all e
