-- A builder that keeps one open group for each row answers the rows.
use Rattle.std.proofs.Common.{◌≡◌, ℕ, suc, ◌+◌, ◌*◌, ◌<◌, ◌≤◌, List, [], ◌∷◌, ◌++◌, length, refl, ap, arith, sym, ◌∙◌, map, subst, true, false, cond, ◌⊎◌, inl, inr, append_assoc, length-append}
use Rattle.std.specs.Prelude.{nat_lt}
use Rattle.std.specs.List.{AllByRecursion}
use Rattle.std.proofs.lemmas.List.{length-map, append-nil, map-append}
use Rattle.std.proofs.lemmas.Bool.{cases_lt}
use Rattle.std.proofs.lemmas.Bool.Decides.{nat_tests}
use Rattle.uf_cid.specs.Blocks.{Held}
use Rattle.uf_tree.specs.Cutting.{joined}
use Rattle.uf_tree.specs.FilePlan.{groups, climb, with_row, node_part, node_held, top_part, top_held}
use Rattle.uf_tree.specs.declared.meta.Meta.{Meta}
use Rattle.uf_tree.specs.declared.nodes.Part.{Part}
use Rattle.uf_tree.proofs.Climb.{climb-fuel, climb-more, climb-one, groups-fewer}
use Rattle.uf_tree.proofs.Each.{both}
use Rattle.uf_build.proofs.Cutting.{groups-full}
use Rattle.uf_build.specs.Rows.{push_row, push_held, add_row, add_held, close, close_held, close_all, close_all_held, members, saved_over, saved_all, AreAll, AreRows}

pub is_below : (n m : ℕ) → n < m → nat_lt n m ≡ true
is_below n m h = grind (arith, nat_tests)

pub not_below : (n m : ℕ) → m ≤ n → nat_lt n m ≡ false
not_below n m h = grind (arith, nat_tests)

pub length-push : {A : Type 0} (g : List A) (m : A) → length (g ++ m ∷ []) ≡ length g + 1
length-push g m = omega (arith, length-append g (m ∷ []))

pub joined-push : {A : Type 0} (full : List (List A)) (f : List A) → joined (full ++ f ∷ []) ≡ joined full ++ f
joined-push [] f = append-nil f
joined-push (e ∷ full) f = ap (λ l. e ++ l) (joined-push full f) ∙ sym (append_assoc e (joined full) f)

-- the blocks above a row and the part that stands in the end
abbrev pub over : (List ℕ → List ℕ) → Meta → ℕ → List Part → List Held × Part
over X meta w row = let under = climb X w (length row) row in (under.0 ++ top_held X meta under.1, top_part X meta under.1)

module _ (X : List ℕ → List ℕ) (w : ℕ) (two : 2 ≤ w) where
  abbrev IsFull : List Part → Type 0
  IsFull f = length f ≡ w

  length-full : (full : List (List Part)) → AllByRecursion IsFull full → length (joined full) ≡ w * length full
  length-full [] h = omega arith
  length-full (f ∷ full) h = omega (arith, length-full full h.1, length-append f (joined full), h.0)

  -- a row has as many parts as its open groups tell
  pub row-members : (P : Held → Type 0) (rows : List (List Part)) (row : List Part) → AreRows X w P row rows → length row ≡ members w rows
  row-members P [] row h = ap length h
  row-members P (g ∷ gs) row h =
      let above : length h.0 ≡ members w gs = sym (length-map h.0 (node_part X)) ∙ row-members P gs (map (node_part X) h.0) h.6 in
      let full : length (joined h.0) ≡ w * members w gs = length-full h.0 h.2 ∙ ap (λ n. w * n) above in
      omega (arith, ap length h.1, length-append (joined h.0) g, full)

  -- the blocks of the rows above the lowest
  abbrev pub saved_above : List (List Part) → ℕ
  saved_above [] = 0
  saved_above (g ∷ gs) = saved_over w gs

  pub saved-split : (rows : List (List Part)) → saved_over w rows ≡ members w rows + saved_above rows
  saved-split [] = refl
  saved-split (g ∷ gs) = refl

  pub none-above : (full : List (List Part)) → map (node_part X) full ≡ [] → full ≡ []
  none-above [] h = refl
  none-above (f ∷ full) h = absurd (no h)
    where
      no : node_part X f ∷ map (node_part X) full ≡ [] → ⊥
      no e = cc

  module _ (P : Held → Type 0) where
    abbrev Each : List Held → Type 0
    Each l = AllByRecursion P l

    All-push : (full : List (List Part)) (f : List Part) → AllByRecursion IsFull full → IsFull f → AllByRecursion IsFull (full ++ f ∷ [])
    All-push full f h e = both IsFull full (f ∷ []) h (e, tt)

    Each-push : (full : List (List Part)) (f : List Part) → Each (map (node_held X) full) → P (node_held X f) → Each (map (node_held X) (full ++ f ∷ []))
    Each-push full f h e = subst Each (sym (map-append (node_held X) full (f ∷ []))) (both P (map (node_held X) full) (node_held X f ∷ []) h (e, tt))

    -- the rows after one more part of the lowest
    pub rows-push : (rows : List (List Part)) (row : List Part) (m : Part) → Each (push_held X w m rows) → AreRows X w P row rows → AreRows X w P (row ++ m ∷ []) (push_row X w m rows)
    rows-push [] row m each h = ([], ap (λ r. r ++ m ∷ []) h, tt, omega arith, omega (arith, length-push row m), tt, refl)
    rows-push (g ∷ gs) row m each h =
        by (cases_lt (length g + 1) w) each (λ later. rows-push gs (map (node_part X) h.0) (node_part X (g ++ m ∷ [])) later h.6)
      where
        again : row ++ m ∷ [] ≡ joined h.0 ++ (g ++ m ∷ [])
        again = ap (λ r. r ++ m ∷ []) h.1 ∙ append_assoc (joined h.0) g (m ∷ [])

        node : Part
        node = node_part X (g ++ m ∷ [])

        by : (length g + 1 < w) ⊎ (w ≤ length g + 1) → Each (push_held X w m (g ∷ gs))
            → (Each (push_held X w node gs) → AreRows X w P (map (node_part X) h.0 ++ node ∷ []) (push_row X w node gs)) → AreRows X w P (row ++ m ∷ []) (push_row X w m (g ∷ gs))
        by (inl short) now later = subst (λ b. AreRows X w P (row ++ m ∷ []) (cond b ((g ++ m ∷ []) ∷ gs) ([] ∷ push_row X w node gs))) (sym (is_below _ w short))
            (h.0, again, h.2, omega (arith, length-push g m), omega (arith, length-push row m), h.5, h.6)
        by (inr long) now later =
            let held = subst (λ b. Each (cond b [] (node_held X (g ++ m ∷ []) ∷ push_held X w node gs))) (not_below _ w long) now in
            subst (λ b. AreRows X w P (row ++ m ∷ []) (cond b ((g ++ m ∷ []) ∷ gs) ([] ∷ push_row X w node gs))) (sym (not_below _ w long)) (
              h.0 ++ (g ++ m ∷ []) ∷ [],
              again ∙ sym (joined-push h.0 (g ++ m ∷ [])) ∙ sym (append-nil _),
              All-push h.0 (g ++ m ∷ []) h.2 (omega (arith, length-push g m, h.3)),
              omega arith,
              omega (arith, length-push row m),
              Each-push h.0 (g ++ m ∷ []) h.5 held.0,
              subst (λ r. AreRows X w P r (push_row X w node gs)) (sym (map-append (node_part X) h.0 ((g ++ m ∷ []) ∷ []))) (later held.1),
            )

    -- all rows after one more part
    pub all-add : (rows : List (List Part)) (row : List Part) (m : Part) → Each (add_held X w m rows) → AreAll X w P row rows → AreAll X w P (row ++ m ∷ []) (add_row X w m rows)
    all-add [] row m each h = ([], ap (λ r. r ++ m ∷ []) h, omega arith, λ some. omega arith, refl)
    all-add ([] ∷ gs) row m each h = (row, refl, omega arith, λ some. omega arith, subst (λ r. AreRows X w P r gs) (sym (h.1 ∙ append-nil h.0)) h.4)
    all-add ((n ∷ []) ∷ gs) row m each h =
        (row, refl, omega arith, λ some. omega arith, subst (λ r. AreRows X w P r (push_row X w n gs)) (sym h.1) (rows-push gs h.0 n each h.4))
    all-add ((n ∷ k ∷ ns) ∷ gs) row m each h = absurd (omega (arith, h.2))

    module _ (meta : Meta) where
      -- what stands over the nodes of some groups, with those nodes
      abbrev pub above : List (List Part) → List Held × Part
      above gs = (map (node_held X) gs ++ (over X meta w (map (node_part X) gs)).0, (over X meta w (map (node_part X) gs)).1)

      abbrev with_top : List Held × List Part → List Held × Part
      with_top under = (under.0 ++ top_held X meta under.1, top_part X meta under.1)

      -- one row up
      pub over-more : (row : List Part) → w < length row → over X meta w row ≡ above (groups w row)
      over-more row more =
          let up : List Part = map (node_part X) (groups w row) in
          let less : length up < length row = omega (arith, length-map (groups w row) (node_part X), groups-fewer w row two (omega arith)) in
          let climbs : climb X w (length row) row ≡ with_row (map (node_held X) (groups w row)) (climb X w (length up) up) =
          climb-fuel X w (length row) (suc (length row)) row two (omega arith) (omega arith)
          ∙ climb-more X w (length row) row (omega arith) more
          ∙ ap (with_row (map (node_held X) (groups w row))) (climb-fuel X w (length row) (length up) up two (omega arith) (omega arith)) in
          ap with_top climbs
          ∙ ap (λ (l : List Held). (l, (over X meta w up).1)) (append_assoc (map (node_held X) (groups w row)) (climb X w (length up) up).0 (top_held X meta (climb X w (length up) up).1))

      pub over-one : (row : List Part) → length row ≤ w → over X meta w row ≡ (top_held X meta row, top_part X meta row)
      over-one row le = ap with_top (climb-one X w (length row) row le)

      over-full : (full : List (List Part)) (o : List Part) → AllByRecursion IsFull full → 1 ≤ length o → length o ≤ w → 1 ≤ length full
          → over X meta w (joined full ++ o) ≡ above (full ++ o ∷ [])
      over-full full o h j k some = over-more (joined full ++ o) (longer full h some) ∙ ap above (groups-full w (omega arith) full o h j k)
        where
          longer : (full : List (List Part)) → AllByRecursion IsFull full → 1 ≤ length full → w < length (joined full ++ o)
          longer [] h some = absurd (omega arith)
          longer (f ∷ full) h some = omega (arith, h.0, j, length-append f (joined full), length-append (joined (f ∷ full)) o)

      -- the part that stands over a row, and P of the nodes above it, of which there are so many
      abbrev pub Stands : List Part → ℕ → Part → Type 0
      Stands row n top = (top ≡ (over X meta w row).1) × Each (over X meta w row).0 × (length (over X meta w row).0 ≡ n)

      Stands-one : (row : List Part) → length row ≤ w → Each (top_held X meta row) → Stands row (length (top_held X meta row)) (top_part X meta row)
      Stands-one row le each =
          subst (λ (z : List Held × Part). (top_part X meta row ≡ z.1) × Each z.0 × (length z.0 ≡ length (top_held X meta row))) (sym (over-one row le)) (refl, each, refl)

      Stands-above : (row : List Part) (gs : List (List Part)) (n k : ℕ) (top : Part) → over X meta w row ≡ above gs → Each (map (node_held X) gs) → length gs + n ≡ k
          → Stands (map (node_part X) gs) n top → Stands row k top
      Stands-above row gs n k top e held sum stands =
          subst (λ (z : List Held × Part). (top ≡ z.1) × Each z.0 × (length z.0 ≡ k)) (sym e) (
            stands.0,
            both P (map (node_held X) gs) _ held stands.1,
            length-append (map (node_held X) gs) (over X meta w (map (node_part X) gs)).0 ∙ omega (arith, length-map gs (node_held X), stands.2, sum),
          )

      -- how many nodes stand above a row after it was closed
      abbrev closed : List (List Part) → Part → ℕ
      closed rows c = saved_above rows + length (close_held X meta rows c)

      -- what the builder answers is what stands over the whole row
      close-over : (g : List Part) (gs : List (List Part)) (row : List Part) (c : Part) → AreRows X w P row (g ∷ gs) → Each (close_held X meta (g ∷ gs) c)
          → Stands (row ++ c ∷ []) (closed (g ∷ gs) c) (close X meta (g ∷ gs) c)
      close-over g [] row c h each =
          let none : h.0 ≡ [] = none-above h.0 h.6 in
          let whole : row ++ c ∷ [] ≡ g ++ c ∷ [] = ap (λ r. r ++ c ∷ []) (h.1 ∙ ap (λ full. joined full ++ g) none) in
          let same : top_held X meta (g ++ c ∷ []) ++ [] ≡ top_held X meta (g ++ c ∷ []) = append-nil _ in
          let stands = Stands-one (g ++ c ∷ []) (omega (arith, length-push g c, h.3)) (subst Each same each) in
          let sum : length (top_held X meta (g ++ c ∷ []) ++ []) ≡ closed (g ∷ []) c = omega arith in
          subst (λ r. Stands r (closed (g ∷ []) c) (top_part X meta (g ++ c ∷ []))) (sym whole)
          (subst (λ n. Stands (g ++ c ∷ []) n (top_part X meta (g ++ c ∷ []))) sum
          (subst (λ (l : List Held). Stands (g ++ c ∷ []) (length l) (top_part X meta (g ++ c ∷ []))) (sym same) stands))
      close-over g (g' ∷ gs') row c h each =
          let full : List (List Part) = h.0 in
          let o : List Part = g ++ c ∷ [] in
          let d : Part = node_part X o in
          let gs : List (List Part) = g' ∷ gs' in
          let again : row ++ c ∷ [] ≡ joined full ++ o = ap (λ r. r ++ c ∷ []) h.1 ∙ append_assoc (joined full) g (c ∷ []) in
          let count : saved_over w gs ≡ length full + saved_above gs =
          saved-split gs ∙ ap (λ n. n + saved_above gs) (sym (row-members P gs (map (node_part X) full) h.6) ∙ length-map full (node_part X)) in
          let many : 1 ≤ length full = omega (arith, length-map full (node_part X), h.6.4) in
          let stands : Stands (map (node_part X) full ++ d ∷ []) (closed gs d) (close X meta gs d) = close-over g' gs' (map (node_part X) full) d h.6 each.1 in
          subst (λ r. Stands r (saved_over w gs + suc (length (close_held X meta gs d))) (close X meta gs d)) (sym again)
          (Stands-above (joined full ++ o) (full ++ o ∷ []) (closed gs d) _ (close X meta gs d)
          (over-full full o h.2 (omega (arith, length-push g c)) (omega (arith, length-push g c, h.3)) many) (Each-push full o h.5 each.0)
          (omega (arith, count, length-push full o))
          (subst (λ r. Stands r (closed gs d) (close X meta gs d)) (sym (map-append (node_part X) full (o ∷ []))) stands))

      -- the same of all rows behind the last part
      pub all-over : (rows : List (List Part)) (row : List Part) → AreAll X w P row rows → 1 ≤ length row → Each (close_all_held X meta rows)
          → (close_all X meta rows ≡ (over X meta w row).1 ∷ []) × Each (over X meta w row).0 × (saved_all w rows + length (close_all_held X meta rows) ≡ length row + length (over X meta w row).0)
      all-over [] row h some each = absurd (omega (arith, ap length h))
      all-over ([] ∷ gs) row h some each = absurd (omega (arith, h.3 some))
      all-over ((m ∷ []) ∷ []) row h some each =
          let whole : row ≡ m ∷ [] = h.1 ∙ ap (λ r. r ++ m ∷ []) h.4 in
          let same : top_held X meta (m ∷ []) ++ [] ≡ top_held X meta (m ∷ []) = append-nil _ in
          let stands = subst (λ r. Stands r (length (top_held X meta (m ∷ []))) (top_part X meta (m ∷ []))) (sym whole) (Stands-one (m ∷ []) (omega arith) (subst Each same each)) in
          (ap (λ (t : Part). t ∷ []) stands.0, stands.1, omega (arith, ap length whole, ap length same, stands.2))
      all-over ((m ∷ []) ∷ g ∷ gs) row h some each =
          let stands = subst (λ r. Stands r (closed (g ∷ gs) m) (close X meta (g ∷ gs) m)) (sym h.1) (close-over g gs h.0 m h.4 each) in
          (ap (λ (t : Part). t ∷ []) stands.0, stands.1, omega (arith, ap length h.1, length-push h.0 m, row-members P (g ∷ gs) h.0 h.4, stands.2))
      all-over ((m ∷ n ∷ ms) ∷ gs) row h some each = absurd (omega (arith, h.2))
