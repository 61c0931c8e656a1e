-- What was met is taken away from the front.
use Rattle.std.proofs.Common.{◌≡◌, List, [], ◌∷◌, ◌++◌, drop, true, refl, sym, ap, ◌∙◌, append_assoc}
use Rattle.std.specs.Prelude.{MatchOption, None, Some, Option, slice_get}
use Rattle.std.specs.List.{AllByRecursion}
use Rattle.uf_cid.specs.declared.cid.Cid.{Cid}
use Rattle.uf_walk.specs.Ahead.{Passed}
use Rattle.uf_walk.specs.Order.{is_met}

-- what stood in front was taken
pub popped : (items rest : List Cid) (found : Option Cid) (c : Cid) → Some c ≡ slice_get items 0 → MatchOption found ((items ≡ []) × (rest ≡ [])) (λ d. items ≡ d ∷ rest) → items ≡ c ∷ rest
popped items rest None c first taken = absurd (let no : Some c ≡ None = first ∙ ap (λ (l : List Cid). slice_get l 0) taken.0 in cc)
popped items rest (Some d) c first taken =
    let both : Some c ≡ Some d = first ∙ ap (λ (l : List Cid). slice_get l 0) taken in
    let one : d ≡ c = cc in
    taken ∙ ap (λ (x : Cid). x ∷ rest) one

all_and : (met passed : List Cid) (c : Cid) → AllByRecursion (λ d. is_met met d ≡ true) passed → is_met met c ≡ true → AllByRecursion (λ d. is_met met d ≡ true) (passed ++ c ∷ [])
all_and met [] c all e = (e, tt)
all_and met (d ∷ passed) c all e = (all.0, all_and met passed c all.1 e)

pub passes_one : (met before now rest : List Cid) (c : Cid) → Passed met before now → now ≡ c ∷ rest → is_met met c ≡ true → Passed met before rest
passes_one met before now rest c past is e = record {
  passed = past.passed ++ c ∷ [];
  front = past.front ∙ ap (λ (xs : List Cid). past.passed ++ xs) is ∙ sym (append_assoc past.passed (c ∷ []) rest);
  all_met = all_and met past.passed c past.all_met e;
}

pub nothing : (items : List Cid) → None ≡ slice_get items 0 → items ≡ []
nothing [] h = refl
nothing (c ∷ items) h = absurd (let no : None ≡ Some c = h in cc)

-- the first item, and those behind it
pub first_of : (items : List Cid) (c : Cid) → Some c ≡ slice_get items 0 → items ≡ c ∷ drop 1 items
first_of [] c e = absurd (let no : Some c ≡ None = e in cc)
first_of (d ∷ items) c e = let both : Some c ≡ Some d = e in let one : d ≡ c = cc in ap (λ (x : Cid). x ∷ items) one
