-- Two places that compare as equal have one order and the same blocks.
use Rattle.std.proofs.Common.{◌≡◌, ℕ, List, [], ◌∷◌, Bool, true, false, refl, sym, ap, ◌∙◌, Ok, Err, Result}
use Rattle.std.specs.Prelude.{Some, None, Option, nat_eq}
use Rattle.std.specs.Cmp.Lexicographic.{pointwise, same_text}
use Rattle.std.specs.Ordering.{eq_by_cmp}
use Rattle.uf_cid.specs.Blocks.{Lookup}
use Rattle.uf_cid.specs.Cid.{cid_cmp}
use Rattle.uf_cid.specs.declared.cid.Cid.{Cid}
use Rattle.uf_walk.specs.Order.{Course, Whole, TooMany, StopsAt, block_links, follow_block, follow_held, goes, ordered, readable}
use Rattle.uf_walk.proofs.Reaching.{whole_followed}
use Rattle.uf_walk.proofs.Visits.{visit-by}
use Rattle.uf_same.specs.Alike.{AreAlike}
use Rattle.uf_same.specs.Verdict.{by_equal, follow_both, follow_equal, follow_left, stop_equal, stop_left, unread_node, verdict, verdict_of}
use Rattle.uf_same.specs.declared.answer.Compared.TheVariants as compared

module _ (left right : Lookup) where
  -- where both are followed, one block is held in both, and its links are these
  record IsFollowed (c : Cid) (links : List Cid) : Type 0 where
    bytes : List ℕ
    in_left : left c ≡ Some bytes
    in_right : right c ≡ Some bytes
    reads : readable (block_links c.codec bytes) ≡ Some links

  followed : (c : Cid) (links : List Cid) → follow_both left right c ≡ Some links → IsFollowed c links
  followed c links e = by (left c) (right c) refl refl e
    where
      one : (x y : List ℕ) (b : Bool) → pointwise nat_eq x y ≡ b → left c ≡ Some x → right c ≡ Some y → follow_equal b c x ≡ Some links → IsFollowed c links
      one x y true same l r is = record { bytes = x; in_left = l; in_right = r ∙ ap Some (sym (same_text x y (sym same))); reads = is }
      one x y false same l r is = absurd (let no : None ≡ Some links = is in cc)

      by : (a b : Option (List ℕ)) → left c ≡ a → right c ≡ b → follow_left c a b ≡ Some links → IsFollowed c links
      by None b l r is = absurd (let no : None ≡ Some links = is in cc)
      by (Some x) None l r is = absurd (let no : None ≡ Some links = is in cc)
      by (Some x) (Some y) l r is = one x y (pointwise nat_eq x y) refl l r is

  pub by_left : (c : Cid) (links : List Cid) → follow_both left right c ≡ Some links → follow_held left c ≡ Some links
  by_left c links e = let f = followed c links e in ap (follow_block c) f.in_left ∙ f.reads

  pub by_right : (c : Cid) (links : List Cid) → follow_both left right c ≡ Some links → follow_held right c ≡ Some links
  by_right c links e = let f = followed c links e in ap (follow_block c) f.in_right ∙ f.reads

  whole_alike : (most : ℕ) (root : Cid) (list : List Cid) → goes (follow_both left right) most (root ∷ []) ≡ Whole list → AreAlike left right most root
  whole_alike most root list e = record {
    list = list;
    order_left = ap (ordered left) (visit-by (follow_both left right) (follow_held left) by_left most [] list (root ∷ []) e);
    order_right = ap (ordered right) (visit-by (follow_both left right) (follow_held right) by_right most [] list (root ∷ []) e);
    alike = λ c here.
        let links = whole_followed (follow_both left right) most (root ∷ []) list e c here in
        let f = followed c links.0 links.1 in
        record { bytes = f.bytes; held_left = f.in_left; held_right = f.in_right };
  }

  -- a walk over both that stops is no verdict of equal blocks
  stops-other : (c : Cid) → stop_left c (left c) (right c) ≡ Ok compared.Equal → ⊥
  stops-other c e = by (left c) (right c) e
    where
      unread : (r : Result (List Cid) ℕ) → unread_node c r ≡ Ok compared.Equal → ⊥
      unread (Ok links) is = cc
      unread (Err why) is = cc

      one : (x y : List ℕ) (b : Bool) → stop_equal b c x y ≡ Ok compared.Equal → ⊥
      one x y true is = unread (block_links c.codec x) is
      one x y false is = cc

      by : (a b : Option (List ℕ)) → stop_left c a b ≡ Ok compared.Equal → ⊥
      by None b is = cc
      by (Some x) None is = cc
      by (Some x) (Some y) is = one x y (pointwise nat_eq x y) is

  course_alike : (most : ℕ) (root : Cid) (r : Course) → goes (follow_both left right) most (root ∷ []) ≡ r → verdict_of left right r ≡ Ok compared.Equal → AreAlike left right most root
  course_alike most root (Whole list) goes_so is = whole_alike most root list goes_so
  course_alike most root TooMany goes_so is = cc
  course_alike most root (StopsAt c) goes_so is = absurd (stops-other c is)

-- the law of equal verdicts
pub equal_alike : (left right : Lookup) (most : ℕ) (a b : Cid) → verdict left right most a b ≡ Ok compared.Equal → AreAlike left right most a
equal_alike left right most a b e = by (eq_by_cmp cid_cmp a b) e
  where
    by : (x : Bool) → by_equal left right most a x ≡ Ok compared.Equal → AreAlike left right most a
    by true is = course_alike left right most a (goes (follow_both left right) most (a ∷ [])) refl is
    by false is = cc
