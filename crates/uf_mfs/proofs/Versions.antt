-- Texts of a Head in both versions.
use Rattle.std.proofs.Common.{Bor, ◌≡◌, ℕ, arith, get_or, List, ◌++◌, ◌⊎◌, inl, inr, refl, ap, sym, ◌∙◌, Bool, Option}
use Rattle.std.specs.Prelude.{Decides, MatchOption, codes, ◌≢◌}
use Rattle.std.specs.Fmt.{decimal}
use Rattle.uf_cid.specs.Cid.{cid_text}
use Rattle.uf_cid.specs.declared.cid.Cid.{Cid}
use Rattle.uf_tree.specs.declared.profile.Profile.{Profile}
use Rattle.uf_tree.specs.Heads.{IsHeadText, head_text, line, text_in}

abbrev pub front : List ℕ → List ℕ
front version = line (codes "unixfs-head ") version

-- both texts have the same lines behind the first one
record Behind (p : Profile) (root : Cid) : Type 0 where
  rest : List ℕ
  second : head_text p root ≡ front (codes "2") ++ rest
  first : text_in (codes "1") p root ≡ front (codes "1") ++ rest

behind-it : (p : Profile) (root : Cid) → Behind p root
unfolding text_in
behind-it p root = record {
  rest = line (codes "chunk ") (decimal p.chunk) ++ line (codes "width ") (decimal p.width) ++ line (codes "threshold ") (decimal p.threshold) ++ line (codes "root ") (cid_text root);
  second = refl;
  first = refl;
}

-- the front of the bytes was taken away, or they don't begin with it
abbrev pub Stripped : List ℕ → List ℕ → Option (Bor (List ℕ)) → Type 0
Stripped bytes front r = MatchOption r ((rest : List ℕ) → bytes ≢ front ++ rest) (λ x. bytes ≡ front ++ x.now)

same-behind : (version a b : List ℕ) → front version ++ a ≡ front version ++ b → version ≡ codes "1" ⊎ version ≡ codes "2" → a ≡ b
same-behind version a b e (inl is) = (let same : front (codes "1") ++ a ≡ front (codes "1") ++ b = ap (λ v. front v ++ a) (sym is) ∙ e ∙ ap (λ v. front v ++ b) is in cc)
same-behind version a b e (inr is) = (let same : front (codes "2") ++ a ≡ front (codes "2") ++ b = ap (λ v. front v ++ a) (sym is) ∙ e ∙ ap (λ v. front v ++ b) is in cc)

apart : (a b : List ℕ) → front (codes "1") ++ a ≡ front (codes "2") ++ b → ⊥
apart a b e = let clash : 49 ≡ 50 = ap (λ (l : List ℕ). get_or l 12 0) e in omega (arith, clash)

module _ (there text : List ℕ) (p : Profile) (root : Cid) (is : text ≡ head_text p root) where
  s : Behind p root
  s = behind-it p root

  -- the first lines are those of both versions: the rest decides
  pub rest-decides : (old new : List ℕ) (b : Bool) → there ≡ front (codes "1") ++ old → text ≡ front (codes "2") ++ new → Decides b (old ≡ new) → Decides b (IsHeadText there p root)
  rest-decides old new b older newer decides = (
    λ yes. inr (older ∙ ap (λ l. front (codes "1") ++ l) (decides.0 yes ∙ rest) ∙ sym s.first),
    λ (h : IsHeadText there p root). decides.1 (by h ∙ sym rest),
  )
    where
      rest : new ≡ s.rest
      rest = same-behind (codes "2") new s.rest (sym newer ∙ is ∙ s.second) (inr refl)

      by : IsHeadText there p root → old ≡ s.rest
      by (inl e) = absurd (apart old s.rest (sym older ∙ e ∙ s.second))
      by (inr e) = same-behind (codes "1") old s.rest (sym older ∙ e ∙ s.first) (inl refl)

  -- the text begins as one of version 2
  pub never-else : ((rest : List ℕ) → text ≢ front (codes "2") ++ rest) → ⊥
  never-else h = h s.rest (is ∙ s.second)

  -- the other isn't of version 1: both texts are compared
  pub text-decides : (b : Bool) → ((rest : List ℕ) → there ≢ front (codes "1") ++ rest) → Decides b (there ≡ text) → Decides b (IsHeadText there p root)
  text-decides b other decides = ((λ yes. inl (decides.0 yes ∙ is)), λ (h : IsHeadText there p root). decides.1 (by h))
    where
      by : IsHeadText there p root → there ≡ text
      by (inl e) = e ∙ sym is
      by (inr e) = absurd (other s.rest (e ∙ s.first))
