-- A walk meets exactly what chains of links lead to.
use Rattle.std.proofs.Common.{◌≡◌, ℕ, zero, suc, ◌+◌, List, [], ◌∷◌, ◌++◌, length, Bool, true, false, refl, sym, ap, subst, ◌∙◌, arith, append_assoc, append-nil, Contains, ◌≤◌, inl, inr, length-append, Ok}
use Rattle.std.specs.Prelude.{Some, None, Option}
use Rattle.std.proofs.lemmas.List.Elements.{Contains-append_cases, Contains-append_left, Contains-append_right, Contains-push, Contains-push_cases}
use Rattle.uf_cid.specs.declared.cid.Cid.{Cid}
use Rattle.uf_cid.specs.Blocks.{Lookup}
use Rattle.uf_walk.specs.Order.{Course, Whole, TooMany, StopsAt, Follow, follow_block, follow_held, goes, is_met, order, ordered, then_follow, visit}
use Rattle.uf_walk.specs.Walked.{Walked, course, course_from, room}
use Rattle.uf_walk.specs.Reaching.{AreDistinct, IsChain, IsLinked, IsReachedBy, IsWhatIsReached}
use Rattle.uf_walk.proofs.Members.{among, not_among}
use Rattle.uf_walk.proofs.Visits.{visit-end, visit-full, visit-new, visit-passed}

-- each of these has the property
abbrev pub Each : (Cid → Type 0) → List Cid → Type 0
Each P xs = (c : Cid) → Contains xs c → P c

pub each_none : (P : Cid → Type 0) → Each P []
each_none P c h = absurd (let k : ℕ = h.0 in omega (arith, h.1))

pub each_append : (P : Cid → Type 0) (xs ys : List Cid) → Each P xs → Each P ys → Each P (xs ++ ys)
each_append P xs ys p q c h = elim (Contains-append_cases xs ys c h) [ inl a ↦ p c a | inr b ↦ q c b ]

pub each_one : (P : Cid → Type 0) (d : Cid) → P d → Each P (d ∷ [])
each_one P d p c h = elim (Contains-push_cases [] d c h) [ inl none ↦ each_none P c none | inr e ↦ subst P e p ]

each_tail : (P : Cid → Type 0) (d : Cid) (xs : List Cid) → Each P (d ∷ xs) → Each P xs
each_tail P d xs p c h = p c (Contains-append_right (d ∷ []) xs c h)

pub each_head : (P : Cid → Type 0) (d : Cid) (xs : List Cid) → Each P (d ∷ xs) → P d
each_head P d xs p = p d (Contains-append_left (d ∷ []) xs d (Contains-push [] d))

module _ (follow : Follow) where
  -- what a walk meets: all that was met and all that is ahead, and what each new CID links
  pub record Meets (met ahead list : List Cid) : Type 0 where
    pub rest : List Cid
    pub extends : list ≡ met ++ rest
    pub ahead_met : Each (Contains list) ahead
    pub closed : (c : Cid) → Contains rest c → (links : List Cid) × (follow c ≡ Some links) × Each (Contains list) links

  nothing_ahead : (met list : List Cid) → Whole met ≡ Whole list → Meets met [] list
  nothing_ahead met list e =
      let same : met ≡ list = cc in
      record { rest = []; extends = sym same ∙ sym (append-nil met); ahead_met = each_none (Contains list); closed = λ c h. absurd (let k : ℕ = h.0 in omega (arith, h.1)) }

  passed : (met ahead list : List Cid) (c : Cid) → is_met met c ≡ true → Meets met ahead list → Meets met (c ∷ ahead) list
  passed met ahead list c e m = record {
    rest = m.rest;
    extends = m.extends;
    ahead_met = each_append (Contains list) (c ∷ []) ahead (each_one (Contains list) c (subst (λ (l : List Cid). Contains l c) (sym m.extends) (Contains-append_left met m.rest c (among met c e)))) m.ahead_met;
    closed = m.closed;
  }

  went_on : (met ahead list links : List Cid) (c : Cid) → follow c ≡ Some links → Meets (met ++ c ∷ []) (links ++ ahead) list → Meets met (c ∷ ahead) list
  went_on met ahead list links c is m =
      let all : list ≡ met ++ (c ∷ m.rest) = m.extends ∙ append_assoc met (c ∷ []) m.rest in
      let here : Contains list c = subst (λ (l : List Cid). Contains l c) (sym all) (Contains-append_right met (c ∷ m.rest) c (Contains-append_left (c ∷ []) m.rest c (Contains-push [] c))) in
      let of_links : Each (Contains list) links = λ d h. m.ahead_met d (Contains-append_left links ahead d h) in
      let of_ahead : Each (Contains list) ahead = λ d h. m.ahead_met d (Contains-append_right links ahead d h) in
      record {
        rest = c ∷ m.rest;
        extends = all;
        ahead_met = each_append (Contains list) (c ∷ []) ahead (each_one (Contains list) c here) of_ahead;
        closed = each_append (λ d. (next : List Cid) × (follow d ≡ Some next) × Each (Contains list) next) (c ∷ []) m.rest
            (each_one (λ d. (next : List Cid) × (follow d ≡ Some next) × Each (Contains list) next) c (links, is, of_links)) m.closed;
      }

  module _ (more : ℕ) (met list : List Cid) (below : (c : Cid) (next : List Cid) → visit follow more (met ++ c ∷ []) next ≡ Whole list → Meets (met ++ c ∷ []) next list) where
    by_links : (c : Cid) (ahead : List Cid) (r : Option (List Cid)) → follow c ≡ r → then_follow (λ next. visit follow more (met ++ c ∷ []) next) c ahead r ≡ Whole list → Meets met (c ∷ ahead) list
    by_links c ahead None is e = absurd (let no : StopsAt c ≡ Whole list = e in cc)
    by_links c ahead (Some links) is e = went_on met ahead list links c is (below c (links ++ ahead) e)

    meets_along : (ahead : List Cid) → visit follow (suc more) met ahead ≡ Whole list → Meets met ahead list
    meets_along [] e = nothing_ahead met list (sym (visit-end follow (suc more) met) ∙ e)
    meets_along (c ∷ ahead) e = by (is_met met c) refl (meets_along ahead)
      where
        by : (b : Bool) → is_met met c ≡ b → (visit follow (suc more) met ahead ≡ Whole list → Meets met ahead list) → Meets met (c ∷ ahead) list
        by true is then = passed met ahead list c is (then (sym (visit-passed follow (suc more) met (c ∷ []) ahead (is, tt)) ∙ e))
        by false is then = by_links c ahead (follow c) refl (sym (visit-new follow more met c ahead is) ∙ e)

  meets_full : (met list ahead : List Cid) → visit follow 0 met ahead ≡ Whole list → Meets met ahead list
  meets_full met list [] e = nothing_ahead met list (sym (visit-end follow 0 met) ∙ e)
  meets_full met list (c ∷ ahead) e = by (is_met met c) refl (meets_full met list ahead)
    where
      by : (b : Bool) → is_met met c ≡ b → (visit follow 0 met ahead ≡ Whole list → Meets met ahead list) → Meets met (c ∷ ahead) list
      by true is then = passed met ahead list c is (then (sym (visit-passed follow 0 met (c ∷ []) ahead (is, tt)) ∙ e))
      by false is then = absurd (let no : TooMany ≡ Whole list = sym (visit-full follow met c ahead is) ∙ e in cc)

  pub meets : (more : ℕ) (met list ahead : List Cid) → visit follow more met ahead ≡ Whole list → Meets met ahead list
  meets zero met list ahead e = meets_full met list ahead e
  meets (suc more) met list ahead e = meets_along more met list (λ c next. meets more (met ++ c ∷ []) list next) ahead e

  -- where a whole walk ends, it has met first what it had met before
  pub visit-extends : (more : ℕ) (met list ahead : List Cid) → visit follow more met ahead ≡ Whole list → (rest : List Cid) × (list ≡ met ++ rest)
  visit-extends more met list ahead e = let m = meets more met list ahead e in (m.rest, m.extends)

  -- a chain and one link more
  chain_more : (root c e : Cid) (path : List Cid) → IsChain follow root path c → IsLinked follow c e → IsChain follow root (path ++ e ∷ []) e
  chain_more root c e [] chain linked = (subst (λ (d : Cid). IsLinked follow d e) (sym chain) linked, refl)
  chain_more root c e (d ∷ path) chain linked = (chain.0, chain_more d c e path chain.1 linked)

  pub reached_more : (root c e : Cid) → IsReachedBy follow root c → IsLinked follow c e → IsReachedBy follow root e
  reached_more root c e r linked = record { path = r.path ++ e ∷ []; chain = chain_more root c e r.path r.chain linked }

  module _ (P : Cid → Type 0) (closed : (c : Cid) (links : List Cid) → P c → follow c ≡ Some links → Each P links) where
    module _ (more : ℕ) (met list : List Cid) (below : (c : Cid) (next : List Cid) → P c → Each P next → visit follow more (met ++ c ∷ []) next ≡ Whole list → Each P list)
        (of_met : Each P met) where
      kept_by_links : (c : Cid) (ahead : List Cid) (r : Option (List Cid)) → follow c ≡ r → P c → Each P ahead → then_follow (λ next. visit follow more (met ++ c ∷ []) next) c ahead r ≡ Whole list → Each P list
      kept_by_links c ahead None is p of_ahead e = absurd (let no : StopsAt c ≡ Whole list = e in cc)
      kept_by_links c ahead (Some links) is p of_ahead e = below c (links ++ ahead) p (each_append P links ahead (closed c links p is) of_ahead) e

      kept_along : (ahead : List Cid) → Each P ahead → visit follow (suc more) met ahead ≡ Whole list → Each P list
      kept_along [] of_ahead e = let same : Whole met ≡ Whole list = sym (visit-end follow (suc more) met) ∙ e in let is : met ≡ list = cc in subst (Each P) is of_met
      kept_along (c ∷ ahead) of_ahead e = by (is_met met c) refl (kept_along ahead)
        where
          by : (b : Bool) → is_met met c ≡ b → (Each P ahead → visit follow (suc more) met ahead ≡ Whole list → Each P list) → Each P list
          by true is then = then (each_tail P c ahead of_ahead) (sym (visit-passed follow (suc more) met (c ∷ []) ahead (is, tt)) ∙ e)
          by false is then = kept_by_links c ahead (follow c) refl (each_head P c ahead of_ahead) (each_tail P c ahead of_ahead) (sym (visit-new follow more met c ahead is) ∙ e)

    kept_full : (met list ahead : List Cid) → Each P met → visit follow 0 met ahead ≡ Whole list → Each P list
    kept_full met list [] of_met e = let same : Whole met ≡ Whole list = sym (visit-end follow 0 met) ∙ e in let is : met ≡ list = cc in subst (Each P) is of_met
    kept_full met list (c ∷ ahead) of_met e = by (is_met met c) refl (kept_full met list ahead of_met)
      where
        by : (b : Bool) → is_met met c ≡ b → (visit follow 0 met ahead ≡ Whole list → Each P list) → Each P list
        by true is then = then (sym (visit-passed follow 0 met (c ∷ []) ahead (is, tt)) ∙ e)
        by false is then = absurd (let no : TooMany ≡ Whole list = sym (visit-full follow met c ahead is) ∙ e in cc)

    pub kept : (more : ℕ) (met list ahead : List Cid) → Each P met → Each P ahead → visit follow more met ahead ≡ Whole list → Each P list
    kept zero met list ahead of_met of_ahead e = kept_full met list ahead of_met e
    kept (suc more) met list ahead of_met of_ahead e =
        kept_along more met list (λ c next p of_next is. kept more (met ++ c ∷ []) list next (each_append P met (c ∷ []) of_met (each_one P c p)) of_next is) of_met ahead of_ahead e

  module _ (most : ℕ) (root : Cid) (list : List Cid) (e : visit follow most [] (root ∷ []) ≡ Whole list) where
    is_reached : Each (IsReachedBy follow root) list
    is_reached = kept (IsReachedBy follow root) (λ c links r is d h. reached_more root c d r (record { links = links; followed = is; among = h }))
        most [] list (root ∷ []) (each_none (IsReachedBy follow root)) (each_one (IsReachedBy follow root) root (record { path = []; chain = refl })) e

    all_meets : Meets [] (root ∷ []) list
    all_meets = meets most [] list (root ∷ []) e

    next_of : (c d : Cid) → Contains list c → IsLinked follow c d → Contains list d
    next_of c d here linked =
        let m = all_meets in
        let closed = m.closed c (subst (λ (l : List Cid). Contains l c) m.extends here) in
        let same : linked.links ≡ closed.0 = (let both : Some linked.links ≡ Some closed.0 = sym linked.followed ∙ closed.1 in cc) in
        closed.2 d (subst (λ (l : List Cid). Contains l d) same linked.among)

    along_chain : (c : Cid) (path : List Cid) (d : Cid) → Contains list c → IsChain follow c path d → Contains list d
    along_chain c [] d here chain = subst (Contains list) chain here
    along_chain c (x ∷ path) d here chain = along_chain x path d (next_of c x here chain.0) chain.1

    -- the law of the order
    pub what_is_reached : IsWhatIsReached follow root list
    what_is_reached c = (λ h. is_reached c h, λ r. along_chain root r.path c (each_head (Contains list) root [] all_meets.ahead_met) r.chain)

distinct_more : (met : List Cid) (c : Cid) → AreDistinct met → (Contains met c → ⊥) → AreDistinct (met ++ c ∷ [])
distinct_more [] c d new = (λ h. each_none (λ x. ⊥) c h, tt)
distinct_more (x ∷ met) c d new = (
  λ h. elim (Contains-push_cases met c x h) [ inl a ↦ d.0 a | inr e ↦ new (Contains-append_left (x ∷ []) met c (subst (Contains (x ∷ [])) (sym e) (Contains-push [] x))) ],
  distinct_more met c d.1 (λ h. new (Contains-append_right (x ∷ []) met c h)),
)

module _ (follow : Follow) where
  record IsList (total : ℕ) (list : List Cid) : Type 0 where
    distinct : AreDistinct list
    few : length list ≤ total

  module _ (total more : ℕ) (met list : List Cid) (d : AreDistinct met) (size : total ≡ suc more + length met)
      (below : (c : Cid) (next : List Cid) → AreDistinct (met ++ c ∷ []) → visit follow more (met ++ c ∷ []) next ≡ Whole list → IsList total list) where
    list_by_links : (c : Cid) (ahead : List Cid) (r : Option (List Cid)) → is_met met c ≡ false → then_follow (λ next. visit follow more (met ++ c ∷ []) next) c ahead r ≡ Whole list → IsList total list
    list_by_links c ahead None new e = absurd (let no : StopsAt c ≡ Whole list = e in cc)
    list_by_links c ahead (Some links) new e = below c (links ++ ahead) (distinct_more met c d (not_among met c new)) e

    list_along : (ahead : List Cid) → visit follow (suc more) met ahead ≡ Whole list → IsList total list
    list_along [] e = let same : Whole met ≡ Whole list = sym (visit-end follow (suc more) met) ∙ e in let is : met ≡ list = cc in subst (IsList total) is (record { distinct = d; few = omega arith })
    list_along (c ∷ ahead) e = by (is_met met c) refl (list_along ahead)
      where
        by : (b : Bool) → is_met met c ≡ b → (visit follow (suc more) met ahead ≡ Whole list → IsList total list) → IsList total list
        by true is then = then (sym (visit-passed follow (suc more) met (c ∷ []) ahead (is, tt)) ∙ e)
        by false is then = list_by_links c ahead (follow c) is (sym (visit-new follow more met c ahead is) ∙ e)

  list_full : (total : ℕ) (met list ahead : List Cid) → AreDistinct met → total ≡ length met → visit follow 0 met ahead ≡ Whole list → IsList total list
  list_full total met list [] d size e = let same : Whole met ≡ Whole list = sym (visit-end follow 0 met) ∙ e in let is : met ≡ list = cc in subst (IsList total) is (record { distinct = d; few = omega arith })
  list_full total met list (c ∷ ahead) d size e = by (is_met met c) refl (list_full total met list ahead d size)
    where
      by : (b : Bool) → is_met met c ≡ b → (visit follow 0 met ahead ≡ Whole list → IsList total list) → IsList total list
      by true is then = then (sym (visit-passed follow 0 met (c ∷ []) ahead (is, tt)) ∙ e)
      by false is then = absurd (let no : TooMany ≡ Whole list = sym (visit-full follow met c ahead is) ∙ e in cc)

  is_list : (total more : ℕ) (met list ahead : List Cid) → AreDistinct met → total ≡ more + length met → visit follow more met ahead ≡ Whole list → IsList total list
  is_list total zero met list ahead d size e = list_full total met list ahead d (omega arith) e
  is_list total (suc more) met list ahead d size e =
      list_along total more met list d size
      (λ c next dd is. is_list total more (met ++ c ∷ []) list next dd (let more_size : length (met ++ c ∷ []) ≡ length met + 1 = length-append met (c ∷ []) in omega (arith, more_size)) is)
      ahead e

  -- a whole walk meets no CID twice, and at most as many as it may
  pub whole-distinct : (most : ℕ) (roots list : List Cid) → visit follow most [] roots ≡ Whole list → AreDistinct list
  whole-distinct most roots list e = (is_list most most [] list roots tt (omega arith) e).distinct

  pub whole-few : (most : ℕ) (roots list : List Cid) → visit follow most [] roots ≡ Whole list → length list ≤ most
  whole-few most roots list e = (is_list most most [] list roots tt (omega arith) e).few

module _ (held : Lookup) (most : ℕ) (root : Cid) (list : List Cid) where
  -- an order is that of a whole walk
  pub order_whole : order held most root ≡ Ok list → goes (follow_held held) most (root ∷ []) ≡ Whole list
  order_whole e = by (goes (follow_held held) most (root ∷ [])) e
    where
      by : (r : Course) → ordered held r ≡ Ok list → r ≡ Whole list
      by (Whole met) is = let same : met ≡ list = cc in ap Whole same
      by TooMany is = cc
      by (StopsAt c) is = cc

-- what a walk has handed out comes first in its whole course
pub handed_first : (follow : Follow) (w : Walked) (list : List Cid) → course follow w ≡ Whole list → (rest : List Cid) × (list ≡ w.handed ++ rest)
handed_first follow w list e = by w.due e
  where
    links : (c : Cid) (r : Option (List Cid)) → then_follow (λ next. visit follow (room w) w.handed next) c w.ahead r ≡ Whole list → (rest : List Cid) × (list ≡ w.handed ++ rest)
    links c None is = absurd (let no : StopsAt c ≡ Whole list = is in cc)
    links c (Some found) is = visit-extends follow (room w) w.handed list (found ++ w.ahead) is

    by : (due : Option Cid) → course_from follow w due ≡ Whole list → (rest : List Cid) × (list ≡ w.handed ++ rest)
    by None is = visit-extends follow (room w) w.handed list w.ahead is
    by (Some c) is = links c (follow c) is

-- each CID of a whole walk was followed
pub whole_followed : (follow : Follow) (most : ℕ) (roots list : List Cid) → visit follow most [] roots ≡ Whole list → (c : Cid) → Contains list c → (links : List Cid) × (follow c ≡ Some links)
whole_followed follow most roots list e c here =
    let m = meets follow most [] list roots e in
    let closed = m.closed c (subst (λ (l : List Cid). Contains l c) m.extends here) in
    (closed.0, closed.1)

-- each CID of an order is held
pub order_held : (held : Lookup) (most : ℕ) (root : Cid) (list : List Cid) → order held most root ≡ Ok list → (c : Cid) → Contains list c → held c ≡ None → ⊥
order_held held most root list e c here none =
    let m = meets (follow_held held) most [] list (root ∷ []) (order_whole held most root list e) in
    let closed = m.closed c (subst (λ (l : List Cid). Contains l c) m.extends here) in
    let nothing : None ≡ Some closed.0 = sym (ap (follow_block c) none) ∙ closed.1 in
    cc

-- an order is no longer than it may be
pub order_few : (held : Lookup) (most : ℕ) (root : Cid) (list : List Cid) → order held most root ≡ Ok list → length list ≤ most
order_few held most root list e = whole-few (follow_held held) most (root ∷ []) list (order_whole held most root list e)
