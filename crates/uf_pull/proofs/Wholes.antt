-- A walk over a part of what it goes through whole: it stops at the first CID whose block isn't held.
use Rattle.std.proofs.Common.{◌≡◌, ℕ, zero, suc, ◌≤◌, List, [], ◌∷◌, ◌++◌, length, arith, Bool, true, false, cond, refl, sym, ap, subst, ◌∙◌, ◌⊎◌, inl, inr, Result, Ok, Err, Contains, append_assoc, append-nil}
use Rattle.std.specs.Prelude.{Option, Some, None, is_none}
use Rattle.std.specs.Cmp.{eq_by_cmp_equiv}
use Rattle.std.specs.List.{AllByRecursion}
use Rattle.std.specs.Ordering.{eq_by_cmp}
use Rattle.std.proofs.lemmas.List.Elements.{Contains-append_left, Contains-append_right, Contains-push}
use Rattle.uf_cid.specs.Blocks.{Lookup}
use Rattle.uf_cid.specs.Cid.{cid_cmp}
use Rattle.uf_cid.specs.declared.cid.Cid.{Cid}
use Rattle.uf_store.proofs.Holding.{cid_cmp_total}
use Rattle.uf_store.proofs.Keeping.{same_of}
use Rattle.uf_walk.proofs.Reaching.{order_whole, whole-distinct}
use Rattle.uf_walk.proofs.Visits.{visit-end, visit-full, visit-new, visit-passed}
use Rattle.uf_walk.specs.Order.{Course, Missing, OrderFault, StopsAt, TooMany, Whole, follow_block, follow_held, goes, is_met, order, ordered, stop_at, then_follow, visit}
use Rattle.uf_walk.specs.Reaching.{AreDistinct}
use Rattle.uf_pull.specs.Due.{holding}
use Rattle.uf_pull.specs.Wholes.{unheld}

-- what is held under a CID is what the whole holds, or nothing
abbrev pub IsPart : Lookup → Lookup → Cid → Type 0
IsPart whole held c = (held c ≡ whole c) ⊎ (held c ≡ None)

-- all were met, or the walk stops at the first of these
abbrev stops_first : List Cid → List Cid → Course
stops_first all [] = Whole all
stops_first all (c ∷ cids) = StopsAt c

module _ (whole : Lookup) where
  -- a walk that meets all goes as far as these are held, over each part of the whole
  record GoesThrough (more : ℕ) (met ahead all : List Cid) : Type 0 where
    later : List Cid
    extends : all ≡ met ++ later
    as_well : (held : Lookup) → AllByRecursion (IsPart whole held) later → visit (follow_held held) more met ahead ≡ stops_first all (unheld held later)

  nothing_ahead : (more : ℕ) (met all : List Cid) → Whole met ≡ Whole all → GoesThrough more met [] all
  nothing_ahead more met all e =
      let same : met ≡ all = cc in
      record { later = []; extends = sym same ∙ sym (append-nil met); as_well = λ held parts. visit-end (follow_held held) more met ∙ ap Whole same }

  passed : (more : ℕ) (met ahead all : List Cid) (c : Cid) → is_met met c ≡ true → GoesThrough more met ahead all → GoesThrough more met (c ∷ ahead) all
  passed more met ahead all c is g = record {
    later = g.later;
    extends = g.extends;
    as_well = λ held parts. visit-passed (follow_held held) more met (c ∷ []) ahead (is, tt) ∙ g.as_well held parts;
  }

  went_on : (more : ℕ) (met ahead all links : List Cid) (c : Cid) → is_met met c ≡ false → follow_held whole c ≡ Some links → GoesThrough more (met ++ c ∷ []) (links ++ ahead) all → GoesThrough (suc more) met (c ∷ ahead) all
  went_on more met ahead all links c is follows g = record {
    later = c ∷ g.later;
    extends = g.extends ∙ append_assoc met (c ∷ []) g.later;
    as_well = λ held parts. visit-new (follow_held held) more met c ahead is ∙ by held (held c) refl parts.0 parts.1;
  }
    where
      by : (held : Lookup) (o : Option (List ℕ)) → held c ≡ o → IsPart whole held c → AllByRecursion (IsPart whole held) g.later
          → then_follow (λ next. visit (follow_held held) more (met ++ c ∷ []) next) c ahead (follow_held held c) ≡ stops_first all (unheld held (c ∷ g.later))
      by held None none part parts =
          ap (λ (o : Option (List ℕ)). then_follow (λ next. visit (follow_held held) more (met ++ c ∷ []) next) c ahead (follow_block c o)) none
          ∙ sym (ap (λ (o : Option (List ℕ)). stops_first all (cond (is_none o) (c ∷ unheld held g.later) (unheld held g.later))) none)
      by held (Some block) some (inl same) parts =
          ap (λ (o : Option (List ℕ)). then_follow (λ next. visit (follow_held held) more (met ++ c ∷ []) next) c ahead (follow_block c o)) same
          ∙ ap (then_follow (λ next. visit (follow_held held) more (met ++ c ∷ []) next) c ahead) follows ∙ g.as_well held parts
          ∙ sym (ap (λ (o : Option (List ℕ)). stops_first all (cond (is_none o) (c ∷ unheld held g.later) (unheld held g.later))) some)
      by held (Some block) some (inr none) parts = absurd (let no : ◌≡◌ {A = Option (List ℕ)} (Some block) None = sym some ∙ none in cc)

  module _ (more : ℕ) (met all : List Cid) (below : (c : Cid) (next : List Cid) → visit (follow_held whole) more (met ++ c ∷ []) next ≡ Whole all → GoesThrough more (met ++ c ∷ []) next all) where
    through_links : (c : Cid) (ahead : List Cid) (r : Option (List Cid)) → is_met met c ≡ false → follow_held whole c ≡ r
        → then_follow (λ next. visit (follow_held whole) more (met ++ c ∷ []) next) c ahead r ≡ Whole all → GoesThrough (suc more) met (c ∷ ahead) all
    through_links c ahead None is follows e = absurd (let no : StopsAt c ≡ Whole all = e in cc)
    through_links c ahead (Some links) is follows e = went_on more met ahead all links c is follows (below c (links ++ ahead) e)

    through_along : (ahead : List Cid) → visit (follow_held whole) (suc more) met ahead ≡ Whole all → GoesThrough (suc more) met ahead all
    through_along [] e = nothing_ahead (suc more) met all (sym (visit-end (follow_held whole) (suc more) met) ∙ e)
    through_along (c ∷ ahead) e = by (is_met met c) refl (through_along ahead)
      where
        by : (b : Bool) → is_met met c ≡ b → (visit (follow_held whole) (suc more) met ahead ≡ Whole all → GoesThrough (suc more) met ahead all) → GoesThrough (suc more) met (c ∷ ahead) all
        by true is then = passed (suc more) met ahead all c is (then (sym (visit-passed (follow_held whole) (suc more) met (c ∷ []) ahead (is, tt)) ∙ e))
        by false is then = through_links c ahead (follow_held whole c) is refl (sym (visit-new (follow_held whole) more met c ahead is) ∙ e)

  through_full : (met all ahead : List Cid) → visit (follow_held whole) 0 met ahead ≡ Whole all → GoesThrough 0 met ahead all
  through_full met all [] e = nothing_ahead 0 met all (sym (visit-end (follow_held whole) 0 met) ∙ e)
  through_full met all (c ∷ ahead) e = by (is_met met c) refl (through_full met all ahead)
    where
      by : (b : Bool) → is_met met c ≡ b → (visit (follow_held whole) 0 met ahead ≡ Whole all → GoesThrough 0 met ahead all) → GoesThrough 0 met (c ∷ ahead) all
      by true is then = passed 0 met ahead all c is (then (sym (visit-passed (follow_held whole) 0 met (c ∷ []) ahead (is, tt)) ∙ e))
      by false is then = absurd (let no : TooMany ≡ Whole all = sym (visit-full (follow_held whole) met c ahead is) ∙ e in cc)

  goes_through : (more : ℕ) (met all ahead : List Cid) → visit (follow_held whole) more met ahead ≡ Whole all → GoesThrough more met ahead all
  goes_through zero met all ahead e = through_full met all ahead e
  goes_through (suc more) met all ahead e = through_along more met all (λ c next. goes_through more (met ++ c ∷ []) all next) ahead e

-- ---- the order over a part

-- the order is whole, or the first of these is missing
abbrev pub lacks_first : List Cid → List Cid → Result (List Cid) OrderFault
lacks_first list [] = Ok list
lacks_first list (c ∷ cids) = Err (Missing c)

unheld_first : (held : Lookup) (list cids : List Cid) (c : Cid) → unheld held list ≡ c ∷ cids → held c ≡ None
unheld_first held [] cids c e = cc
unheld_first held (d ∷ list) cids c e = by (held d) refl e (unheld_first held list cids c)
  where
    by : (o : Option (List ℕ)) → held d ≡ o → cond (is_none o) (d ∷ unheld held list) (unheld held list) ≡ c ∷ cids → (unheld held list ≡ c ∷ cids → held c ≡ None) → held c ≡ None
    by None none is later = let same : d ≡ c = cc in subst (λ (x : Cid). held x ≡ None) same none
    by (Some block) some is later = later is

pub order_over : (whole held : Lookup) (most : ℕ) (root : Cid) (list : List Cid) → order whole most root ≡ Ok list → AllByRecursion (IsPart whole held) list → order held most root ≡ lacks_first list (unheld held list)
order_over whole held most root list is parts = ap (ordered held) (through.as_well held later_parts ∙ ap (λ (l : List Cid). stops_first list (unheld held l)) (sym through.extends)) ∙ by (unheld held list) refl
  where
    through : GoesThrough whole most [] (root ∷ []) list
    through = goes_through whole most [] list (root ∷ []) (order_whole whole most root list is)

    later_parts : AllByRecursion (IsPart whole held) through.later
    later_parts = subst (λ (l : List Cid). AllByRecursion (IsPart whole held) l) through.extends parts

    by : (l : List Cid) → unheld held list ≡ l → ordered held (stops_first list l) ≡ lacks_first list l
    by [] e = refl
    by (c ∷ cids) e = ap (λ (o : Option (List ℕ)). Err (stop_at c o)) (unheld_first held list cids c e)

-- ---- one block more is held

-- what is held under another CID is as it was
same_held : (held : Lookup) (c d : Cid) (block : List ℕ) (other : d ≡ c → ⊥) → holding c block held d ≡ held d
same_held held c d block other = by (eq_by_cmp cid_cmp d c) refl
  where
    by : (b : Bool) → eq_by_cmp cid_cmp d c ≡ b → cond b (Some block) (held d) ≡ held d
    by true tie = absurd (other (same_of d c tie))
    by false tie = refl

holds_it : (held : Lookup) (c : Cid) (block : List ℕ) → holding c block held c ≡ Some block
holds_it held c block = ap (λ (b : Bool). cond b (Some block) (held c)) ((eq_by_cmp_equiv cid_cmp_total).refl c)

among_first : (d : Cid) (list : List Cid) → Contains (d ∷ list) d
among_first d list = Contains-append_left (d ∷ []) list d (Contains-push [] d)

among_later : (c d : Cid) (list : List Cid) → Contains list c → Contains (d ∷ list) c
among_later c d list h = Contains-append_right (d ∷ []) list c h

unheld_same : (held : Lookup) (c : Cid) (block : List ℕ) (list : List Cid) → (Contains list c → ⊥) → unheld (holding c block held) list ≡ unheld held list
unheld_same held c block [] none = refl
unheld_same held c block (d ∷ list) none =
    let first : holding c block held d ≡ held d = same_held held c d block (λ same. none (subst (λ (x : Cid). Contains (d ∷ list) x) same (among_first d list))) in
    let later : unheld (holding c block held) list ≡ unheld held list = unheld_same held c block list (λ h. none (among_later c d list h)) in
    λ i. cond (is_none (first i)) (d ∷ later i) (later i)

-- the first that wasn't held is held now
pub unheld_next : (held : Lookup) (c : Cid) (block : List ℕ) (list cids : List Cid) → AreDistinct list → unheld held list ≡ c ∷ cids → unheld (holding c block held) list ≡ cids
unheld_next held c block [] cids apart e = cc
unheld_next held c block (d ∷ list) cids apart e = by (held d) refl e (unheld_next held c block list cids apart.1)
  where
    by : (o : Option (List ℕ)) → held d ≡ o → cond (is_none o) (d ∷ unheld held list) (unheld held list) ≡ c ∷ cids
        → (unheld held list ≡ c ∷ cids → unheld (holding c block held) list ≡ cids) → unheld (holding c block held) (d ∷ list) ≡ cids
    by None none is later =
        let same : d ≡ c = cc in
        let rest : unheld held list ≡ cids = cc in
        let here : holding c block held d ≡ Some block = ap (holding c block held) same ∙ holds_it held c block in
        ap (λ (o : Option (List ℕ)). cond (is_none o) (d ∷ unheld (holding c block held) list) (unheld (holding c block held) list)) here
        ∙ unheld_same held c block list (subst (λ (x : Cid). Contains list x → ⊥) same apart.0) ∙ rest
    by (Some other) some is later =
        held_still (eq_by_cmp cid_cmp d c) refl ∙ later is
      where
        held_still : (b : Bool) → eq_by_cmp cid_cmp d c ≡ b → cond (is_none (cond b (Some block) (held d))) (d ∷ unheld (holding c block held) list) (unheld (holding c block held) list) ≡ unheld (holding c block held) list
        held_still true tie = refl
        held_still false tie = ap (λ (o : Option (List ℕ)). cond (is_none o) (d ∷ unheld (holding c block held) list) (unheld (holding c block held) list)) some

-- what holds of all holds of those that aren't held
pub all_unheld : (P : Cid → Type 0) (held : Lookup) (list : List Cid) → AllByRecursion P list → AllByRecursion P (unheld held list)
all_unheld P held [] all = tt
all_unheld P held (c ∷ list) all = by (is_none (held c)) (all_unheld P held list all.1)
  where
    by : (b : Bool) → AllByRecursion P (unheld held list) → AllByRecursion P (cond b (c ∷ unheld held list) (unheld held list))
    by true rest = (all.0, rest)
    by false rest = rest

pub all_of : (P : Cid → Type 0) (list : List Cid) → ((c : Cid) → P c) → AllByRecursion P list
all_of P [] each = tt
all_of P (c ∷ list) each = (each c, all_of P list each)

-- a part with one block more of the whole is a part
pub part_with : (whole held : Lookup) (c : Cid) (block : List ℕ) (list : List Cid) → whole c ≡ Some block → AllByRecursion (IsPart whole held) list → AllByRecursion (IsPart whole (holding c block held)) list
part_with whole held c block [] is parts = tt
part_with whole held c block (d ∷ list) is parts = (by (eq_by_cmp cid_cmp d c) refl parts.0, part_with whole held c block list is parts.1)
  where
    by : (b : Bool) → eq_by_cmp cid_cmp d c ≡ b → IsPart whole held d → (cond b (Some block) (held d) ≡ whole d) ⊎ (cond b (Some block) (held d) ≡ None)
    by true tie part = inl (sym is ∙ ap whole (sym (same_of d c tie)))
    by false tie part = part

-- they are no more than all
pub few_unheld : (held : Lookup) (list : List Cid) (most : ℕ) → length list ≤ most → length (unheld held list) ≤ most
few_unheld held list most few = let less = fewer list in omega (arith, few, less)
  where
    fewer : (l : List Cid) → length (unheld held l) ≤ length l
    fewer [] = omega arith
    fewer (c ∷ l) = by (is_none (held c)) (fewer l)
      where
        by : (b : Bool) → length (unheld held l) ≤ length l → length (cond b (c ∷ unheld held l) (unheld held l)) ≤ length (c ∷ l)
        by true less = omega (arith, less)
        by false less = omega (arith, less)
