-- How a walk goes on, step by step, and what it has met.
use Rattle.std.proofs.Common.{◌≡◌, ℕ, zero, suc, ◌+◌, ◌-◌, List, [], ◌∷◌, ◌++◌, length, Bool, true, false, refl, sym, ap, ◌∙◌, arith, append_assoc, length-append}
use Rattle.std.specs.Prelude.{Some, None, Option}
use Rattle.std.specs.List.{AllByRecursion}
use Rattle.uf_cid.specs.declared.cid.Cid.{Cid}
use Rattle.uf_walk.specs.Order.{Course, Whole, TooMany, StopsAt, Follow, is_met, skip, then_follow, visit}

module _ (new : Cid → List Cid → Course) (met : List Cid) where
  pub skip-met : (c : Cid) (ahead : List Cid) → is_met met c ≡ true → skip new met (c ∷ ahead) ≡ skip new met ahead
  skip-met c ahead e = ap (λ (b : Bool). elim b as (λ x. Course) [ true ↦ skip new met ahead | false ↦ new c ahead ]) e

  pub skip-new : (c : Cid) (ahead : List Cid) → is_met met c ≡ false → skip new met (c ∷ ahead) ≡ new c ahead
  skip-new c ahead e = ap (λ (b : Bool). elim b as (λ x. Course) [ true ↦ skip new met ahead | false ↦ new c ahead ]) e

  pub skip-passed : (passed ahead : List Cid) → AllByRecursion (λ c. is_met met c ≡ true) passed → skip new met (passed ++ ahead) ≡ skip new met ahead
  skip-passed [] ahead all = refl
  skip-passed (c ∷ passed) ahead all = skip-met c (passed ++ ahead) all.0 ∙ skip-passed passed ahead all.1

-- what follows where some more is ahead, of at most so many CIDs in all
abbrev pub and_then : Follow → ℕ → List Cid → Course → Course
and_then follow total more (Whole met) = visit follow (total - length met) met more
and_then follow total more TooMany = TooMany
and_then follow total more (StopsAt c) = StopsAt c

module _ (follow : Follow) where
  -- how a walk goes on from a new CID
  abbrev next : ℕ → List Cid → Cid → List Cid → Course
  next more met c rest = then_follow (λ ahead. visit follow more (met ++ c ∷ []) ahead) c rest (follow c)

  -- nothing is ahead
  pub visit-end : (more : ℕ) (met : List Cid) → visit follow more met [] ≡ Whole met
  unfolding visit
  visit-end zero met = refl
  visit-end (suc more) met = refl

  -- what was met is passed over
  pub visit-passed : (more : ℕ) (met passed ahead : List Cid) → AllByRecursion (λ c. is_met met c ≡ true) passed → visit follow more met (passed ++ ahead) ≡ visit follow more met ahead
  unfolding visit
  visit-passed zero met passed ahead all = skip-passed (λ (c : Cid) (rest : List Cid). TooMany) met passed ahead all
  visit-passed (suc more) met passed ahead all = skip-passed (next more met) met passed ahead all

  -- a new CID, and no room for it
  pub visit-full : (met : List Cid) (c : Cid) (ahead : List Cid) → is_met met c ≡ false → visit follow 0 met (c ∷ ahead) ≡ TooMany
  unfolding visit
  visit-full met c ahead e = skip-new (λ (d : Cid) (rest : List Cid). TooMany) met c ahead e

  -- a new CID
  pub visit-new : (more : ℕ) (met : List Cid) (c : Cid) (ahead : List Cid) → is_met met c ≡ false
      → visit follow (suc more) met (c ∷ ahead) ≡ then_follow (λ next. visit follow more (met ++ c ∷ []) next) c ahead (follow c)
  unfolding visit
  visit-new more met c ahead e = skip-new (next more met) met c ahead e

  append-full : (total : ℕ) (met xs ys : List Cid) → total ≡ length met → visit follow 0 met (xs ++ ys) ≡ and_then follow total ys (visit follow 0 met xs)
  append-full total met [] ys e = let none : 0 ≡ total - length met = omega arith in ap (λ (n : ℕ). visit follow n met ys) none ∙ ap (and_then follow total ys) (sym (visit-end 0 met))
  append-full total met (c ∷ xs) ys e = by (is_met met c) refl (append-full total met xs ys e)
    where
      by : (b : Bool) → is_met met c ≡ b → visit follow 0 met (xs ++ ys) ≡ and_then follow total ys (visit follow 0 met xs)
          → visit follow 0 met (c ∷ (xs ++ ys)) ≡ and_then follow total ys (visit follow 0 met (c ∷ xs))
      by true is rest = visit-passed 0 met (c ∷ []) (xs ++ ys) (is, tt) ∙ rest ∙ ap (and_then follow total ys) (sym (visit-passed 0 met (c ∷ []) xs (is, tt)))
      by false is rest = visit-full met c (xs ++ ys) is ∙ ap (and_then follow total ys) (sym (visit-full met c xs is))

  module _ (total more : ℕ) (met ys : List Cid) (e : total ≡ suc more + length met)
      (below : (c : Cid) (rest : List Cid) → visit follow more (met ++ c ∷ []) (rest ++ ys) ≡ and_then follow total ys (visit follow more (met ++ c ∷ []) rest)) where
    links-append : (c : Cid) (rest : List Cid) (r : Option (List Cid))
        → then_follow (λ ahead. visit follow more (met ++ c ∷ []) ahead) c (rest ++ ys) r ≡ and_then follow total ys (then_follow (λ ahead. visit follow more (met ++ c ∷ []) ahead) c rest r)
    links-append c rest None = refl
    links-append c rest (Some found) = ap (visit follow more (met ++ c ∷ [])) (sym (append_assoc found rest ys)) ∙ below c (found ++ rest)

    along : (xs : List Cid) → visit follow (suc more) met (xs ++ ys) ≡ and_then follow total ys (visit follow (suc more) met xs)
    along [] =
        let left : suc more ≡ total - length met = omega arith in
        ap (λ (n : ℕ). visit follow n met ys) left ∙ ap (and_then follow total ys) (sym (visit-end (suc more) met))
    along (c ∷ rest) = by (is_met met c) refl (along rest)
      where
        by : (b : Bool) → is_met met c ≡ b → visit follow (suc more) met (rest ++ ys) ≡ and_then follow total ys (visit follow (suc more) met rest)
            → visit follow (suc more) met (c ∷ (rest ++ ys)) ≡ and_then follow total ys (visit follow (suc more) met (c ∷ rest))
        by true is then =
            visit-passed (suc more) met (c ∷ []) (rest ++ ys) (is, tt) ∙ then
            ∙ ap (and_then follow total ys) (sym (visit-passed (suc more) met (c ∷ []) rest (is, tt)))
        by false is then =
            visit-new more met c (rest ++ ys) is ∙ links-append c rest (follow c)
            ∙ ap (and_then follow total ys) (sym (visit-new more met c rest is))

  -- what is ahead is followed from left to right
  pub visit-append : (total more : ℕ) (met xs ys : List Cid) → total ≡ more + length met → visit follow more met (xs ++ ys) ≡ and_then follow total ys (visit follow more met xs)
  visit-append total zero met xs ys e = append-full total met xs ys (omega arith)
  visit-append total (suc more) met xs ys e =
      along total more met ys e
      (λ c rest. visit-append total more (met ++ c ∷ []) rest ys (let size : length (met ++ c ∷ []) ≡ length met + 1 = length-append met (c ∷ []) in omega (arith, size)))
      xs

-- a walk that comes to its end goes the same way wherever its links are followed as they were
module _ (f g : Follow) (by_both : (c : Cid) (links : List Cid) → f c ≡ Some links → g c ≡ Some links) where
  module _ (more : ℕ) (met list : List Cid) (below : (c : Cid) (ahead : List Cid) → visit f more (met ++ c ∷ []) ahead ≡ Whole list → visit g more (met ++ c ∷ []) ahead ≡ Whole list) where
    same-links : (c : Cid) (ahead : List Cid) (r : Option (List Cid)) → f c ≡ r → then_follow (λ next. visit f more (met ++ c ∷ []) next) c ahead r ≡ Whole list
        → then_follow (λ next. visit g more (met ++ c ∷ []) next) c ahead (g c) ≡ Whole list
    same-links c ahead None is e = absurd (let no : StopsAt c ≡ Whole list = e in cc)
    same-links c ahead (Some links) is e = ap (then_follow (λ next. visit g more (met ++ c ∷ []) next) c ahead) (by_both c links is) ∙ below c (links ++ ahead) e

    same-along : (ahead : List Cid) → visit f (suc more) met ahead ≡ Whole list → visit g (suc more) met ahead ≡ Whole list
    same-along [] e = visit-end g (suc more) met ∙ sym (visit-end f (suc more) met) ∙ e
    same-along (c ∷ ahead) e = by (is_met met c) refl (same-along ahead)
      where
        by : (b : Bool) → is_met met c ≡ b → (visit f (suc more) met ahead ≡ Whole list → visit g (suc more) met ahead ≡ Whole list) → visit g (suc more) met (c ∷ ahead) ≡ Whole list
        by true is then = visit-passed g (suc more) met (c ∷ []) ahead (is, tt) ∙ then (sym (visit-passed f (suc more) met (c ∷ []) ahead (is, tt)) ∙ e)
        by false is then = visit-new g more met c ahead is ∙ same-links c ahead (f c) refl (sym (visit-new f more met c ahead is) ∙ e)

  same-full : (met list ahead : List Cid) → visit f 0 met ahead ≡ Whole list → visit g 0 met ahead ≡ Whole list
  same-full met list [] e = visit-end g 0 met ∙ sym (visit-end f 0 met) ∙ e
  same-full met list (c ∷ ahead) e = by (is_met met c) refl (same-full met list ahead)
    where
      by : (b : Bool) → is_met met c ≡ b → (visit f 0 met ahead ≡ Whole list → visit g 0 met ahead ≡ Whole list) → visit g 0 met (c ∷ ahead) ≡ Whole list
      by true is then = visit-passed g 0 met (c ∷ []) ahead (is, tt) ∙ then (sym (visit-passed f 0 met (c ∷ []) ahead (is, tt)) ∙ e)
      by false is then = absurd (let no : TooMany ≡ Whole list = sym (visit-full f met c ahead is) ∙ e in cc)

  pub visit-by : (more : ℕ) (met list ahead : List Cid) → visit f more met ahead ≡ Whole list → visit g more met ahead ≡ Whole list
  visit-by zero met list ahead e = same-full met list ahead e
  visit-by (suc more) met list ahead e = same-along more met list (λ c next. visit-by more (met ++ c ∷ []) list next) ahead e
