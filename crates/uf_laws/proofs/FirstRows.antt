-- The first row that has one part.
use Rattle.std.proofs.Common.{◌≡◌, ℕ, zero, suc, ◌<◌, ◌≤◌, List, [], ◌∷◌, ◌++◌, length, refl, ap, arith, sym, ◌∙◌, map, subst, ◌⊎◌, inl, inr, append_assoc}
use Rattle.std.proofs.lemmas.Bool.{cases_lt}
use Rattle.std.proofs.lemmas.List.{append-nil}
use Rattle.uf_cid.specs.Blocks.{Held}
use Rattle.uf_tree.specs.FilePlan.{chunks, climb, file_plan, groups, leaf_held, leaf_part, node_held, node_part, row, row_held, rows_held, top_held, top_part}
use Rattle.uf_tree.specs.FileSub.{IsTop}
use Rattle.uf_tree.specs.Metas.{none}
use Rattle.uf_tree.specs.declared.meta.Meta.{Meta}
use Rattle.uf_tree.specs.declared.nodes.Part.{Part}
use Rattle.uf_tree.specs.declared.profile.Profile.{Profile}
use Rattle.uf_tree.proofs.Behind.{split-short}
use Rattle.uf_laws.specs.FirstRows.{IsFirst}

module _ (X : List ℕ → List ℕ) (p : Profile) (bytes : List ℕ) where
  some-part : (k : ℕ) → 1 ≤ length (row X p bytes k)
  unfolding row
  some-part zero = omega arith
  some-part (suc k) = omega arith

  row-above : (k : ℕ) → row X p bytes (suc k) ≡ map (node_part X) (groups p.width (row X p bytes k))
  unfolding row
  row-above k = refl

  held-above : (k : ℕ) → rows_held X p bytes (suc k) ≡ rows_held X p bytes k ++ map (node_held X) (groups p.width (row X p bytes k))
  unfolding rows_held row_held
  held-above k = refl

  below : (last : ℕ) → 2 ≤ p.width → IsTop X p none bytes (file_plan X p none bytes) last → 2 ≤ length (row X p bytes last) → (k : ℕ) → k < suc last → (k < last) ⊎ (last ≤ k)
      → 2 ≤ length (row X p bytes k)
  below last two h more k less (inl lt) = omega (arith, two, h.first k lt)
  below last two h more k less (inr le) =
      let same : last ≡ k = omega arith in
      subst (λ k. 2 ≤ length (row X p bytes k)) same more

  pub first-row : (last : ℕ) → 2 ≤ p.width → IsTop X p none bytes (file_plan X p none bytes) last → (top : ℕ) × IsFirst X p bytes (file_plan X p none bytes) top
  first-row last two h = by (row X p bytes last) refl
    where
      by : (parts : List Part) → row X p bytes last ≡ parts → (top : ℕ) × IsFirst X p bytes (file_plan X p none bytes) top
      by [] e = absurd (omega (arith, some-part last, ap length e))
      by (m ∷ []) e = (
        last,
        record {
          part = m;
          one = e;
          first = λ k less. omega (arith, two, h.first k less);
          entry = h.entry ∙ ap (λ (l : List Part). (top_part X none l).entry) e;
          blocks = h.blocks ∙ ap (λ (l : List Part). rows_held X p bytes last ++ top_held X none l) e ∙ append-nil _;
        },
      )
      by (m ∷ n ∷ ms) e =
          let fits : length (m ∷ n ∷ ms) ≤ p.width = omega (arith, h.one, ap length e) in
          let one_group = split-short p.width p.width (m ∷ n ∷ ms) fits in
          let nodes : map (node_part X) (groups p.width (row X p bytes last)) ≡ node_part X (m ∷ n ∷ ms) ∷ [] =
          ap (λ (l : List Part). map (node_part X) (groups p.width l)) e ∙ ap (λ (s : List Part × List (List Part)). map (node_part X) (s.0 ∷ s.1)) one_group in
          let held : map (node_held X) (groups p.width (row X p bytes last)) ≡ node_held X (m ∷ n ∷ ms) ∷ [] =
          ap (λ (l : List Part). map (node_held X) (groups p.width l)) e ∙ ap (λ (s : List Part × List (List Part)). map (node_held X) (s.0 ∷ s.1)) one_group in (
            suc last,
            record {
              part = node_part X (m ∷ n ∷ ms);
              one = row-above last ∙ nodes;
              first = λ k less. below last two h (omega (arith, ap length e)) k less (cases_lt k last);
              entry = h.entry ∙ ap (λ (l : List Part). (top_part X none l).entry) e;
              blocks = h.blocks ∙ ap (λ (l : List Part). rows_held X p bytes last ++ top_held X none l) e
                  ∙ sym (held-above last ∙ ap (λ (l : List Held). rows_held X p bytes last ++ l) held);
            },
          )

-- what stands under the root of a file doesn't depend on its metadata
pub under-roots : (X : List ℕ → List ℕ) (p : Profile) (bytes : List ℕ) → (under : List Held) × (parts : List Part) × ((m : Meta) → ((file_plan X p m bytes).entry ≡ (top_part X m parts).entry) × ((file_plan X p m bytes).blocks ≡ under ++ top_held X m parts))
unfolding file_plan
under-roots X p bytes =
    let above = climb X p.width (length (chunks p bytes)) (map (leaf_part X) (chunks p bytes)) in
    (map (leaf_held X) (chunks p bytes) ++ above.0, above.1, λ m. (refl, sym (append_assoc (map (leaf_held X) (chunks p bytes)) above.0 (top_held X m above.1))))
