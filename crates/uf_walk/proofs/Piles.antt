-- Chunks put on a pile and taken from it.
use Rattle.std.proofs.Common.{◌≡◌, ℕ, ◌+◌, ◌≤◌, List, [], ◌∷◌, ◌++◌, length, drop, sym, ap, subst, ◌∙◌, arith, append_assoc, append-nil}
use Rattle.std.proofs.lemmas.List.{drop-drop}
use Rattle.std.specs.Prelude.{Option, Some, None, MatchOption, slice_get}
use Rattle.std.specs.Option.{option_to_list}
use Rattle.uf_cid.specs.declared.cid.Cid.{Cid}
use Rattle.uf_walk.proofs.Passing.{nothing}
use Rattle.uf_walk.specs.Piled.{AreSome, IsPiled, piled, whole_pile}

piled-push : (below : List (List Cid)) (chunk : List Cid) → piled (below ++ chunk ∷ []) ≡ chunk ++ piled below
piled-push [] chunk = sym (append-nil chunk)
piled-push (c ∷ below) chunk = ap (λ (l : List Cid). l ++ c) (piled-push below chunk) ∙ append_assoc chunk (piled below) c

some-add : (below : List (List Cid)) (chunk : List Cid) → AreSome below → 1 ≤ length chunk → AreSome (below ++ chunk ∷ [])
some-add [] chunk some one = (one, tt)
some-add (c ∷ below) chunk some one = (some.0, some-add below chunk some.1 one)

some-less : (below : List (List Cid)) (chunk : List Cid) → AreSome (below ++ chunk ∷ []) → AreSome below × (1 ≤ length chunk)
some-less [] chunk some = (tt, some.0)
some-less (c ∷ below) chunk some = let rest = some-less below chunk some.1 in ((some.0, rest.0), rest.1)

not_empty : (chunk : List Cid) → 1 ≤ length chunk → chunk ≡ [] → ⊥
not_empty chunk one is = let none : length chunk ≡ 0 = ap length is in omega (arith, none, one)

pub put-full : (below middle now : List (List Cid)) (top value fresh : List Cid) (cid : Cid) → now ≡ middle ++ value ∷ [] → middle ≡ below → value ≡ top → fresh ≡ cid ∷ [] → whole_pile fresh now ≡ cid ∷ whole_pile top below
put-full below middle now top value fresh cid is same same_top one =
    (λ i. whole_pile (one i) (is i)) ∙ ap (λ (l : List Cid). cid ∷ l) (piled-push middle value ∙ (λ i. same_top i ++ piled (same i)))

pub still-piled : (below middle now : List (List Cid)) (top value fresh : List Cid) (cid : Cid) → now ≡ middle ++ value ∷ [] → middle ≡ below → value ≡ top → fresh ≡ cid ∷ [] → AreSome below → 1 ≤ length top → IsPiled fresh now
still-piled below middle now top value fresh cid is same same_top one some filled = record {
  some = subst AreSome (sym is) (some-add middle value (subst AreSome (sym same) some) (subst (λ (l : List Cid). 1 ≤ length l) (sym same_top) filled));
  first = λ none. absurd (not_empty fresh (subst (λ (l : List Cid). 1 ≤ length l) (sym one) (omega arith)) none);
}

pub record IsRefilled (old now : List (List Cid)) (chunk : List Cid) : Type 0 where
  pub same : whole_pile chunk now ≡ piled old
  pub piled : IsPiled chunk now

pub refilled : (old now : List (List Cid)) (found : Option (List Cid)) (chunk : List Cid) → old ≡ now ++ option_to_list found → found ≡ Some chunk → AreSome old → IsRefilled old now chunk
refilled old now found chunk is here some =
    let all : old ≡ now ++ chunk ∷ [] = is ∙ ap (λ (o : Option (List Cid)). now ++ option_to_list o) here in
    let each = some-less now chunk (subst AreSome all some) in
    record {
      same = sym (ap Rattle.uf_walk.specs.Piled.piled all ∙ piled-push now chunk);
      piled = record { some = each.0; first = λ none. absurd (not_empty chunk each.1 none) };
    }

-- what is ahead without its first CID
pub drop-first : (k : ℕ) (start before now : List Cid) (found : Option Cid) → before ≡ drop k start → MatchOption found ((before ≡ []) × (now ≡ [])) (λ cid. before ≡ cid ∷ now) → now ≡ drop (k + 1) start
drop-first k start before now found is taken = rest found taken ∙ ap (drop 1) is ∙ drop-drop 1 k start
  where
    rest : (o : Option Cid) → MatchOption o ((before ≡ []) × (now ≡ [])) (λ cid. before ≡ cid ∷ now) → now ≡ drop 1 before
    rest None t = t.1 ∙ ap (drop 1) (sym t.0)
    rest (Some cid) t = ap (drop 1) (sym t)

-- nothing lies in front of the roots
pub first-root : (top roots view : List Cid) (below : List (List Cid)) (found : Option Cid) → IsPiled top below → None ≡ slice_get top 0 → whole_pile top below ++ roots ≡ view → found ≡ slice_get roots 0 → found ≡ slice_get view 0
first-root top roots view below found is_piled none all is =
    let empty : top ≡ [] = nothing top none in
    let rest : below ≡ [] = is_piled.first empty in
    is ∙ ap (λ (l : List Cid). slice_get l 0) ((λ i. whole_pile (sym empty i) (sym rest i) ++ roots) ∙ all)
