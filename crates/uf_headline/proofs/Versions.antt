-- Heads that name one root by one profile are one text, but for their version.
use Rattle.std.proofs.Common.{◌≡◌, ◌⊎◌, ◌∙◌, ℕ, List, ap, sym, inl, inr, Option, None, Some}
use Rattle.uf_cid.specs.declared.cid.Cid.{Cid}
use Rattle.uf_tree.specs.Heads.{IsHeadText}
use Rattle.uf_tree.specs.Standing.{IsHeadNote}
use Rattle.uf_tree.specs.declared.profile.Profile.{Profile}
use Rattle.uf_headline.specs.History.{IsOfVersion1}

pub one-text : (n m : Option (List ℕ)) (p : Profile) (root : Cid) → IsHeadNote n p root → IsHeadNote m p root → (n ≡ m) ⊎ (IsOfVersion1 n ⊎ IsOfVersion1 m)
one-text None m p root h k = absurd h
one-text (Some a) None p root h k = absurd k
one-text (Some a) (Some b) p root h k = by h k
  where
    by : IsHeadText a p root → IsHeadText b p root → (Some a ≡ Some b) ⊎ (IsOfVersion1 (Some a) ⊎ IsOfVersion1 (Some b))
    by (inl new) (inl other) = inl (ap (λ (x : List ℕ). Some x) (new ∙ sym other))
    by (inr old) k = inr (inl (p, root, old))
    by (inl new) (inr old) = inr (inr (p, root, old))
