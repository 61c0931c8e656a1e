-- How many blocks a builder has saved, and how many there are in a plan.
use Rattle.std.proofs.Common.{◌≡◌, ℕ, zero, suc, pred, ◌+◌, ◌*◌, ◌<◌, ◌≤◌, List, [], ◌∷◌, ◌++◌, length, ap, arith, sym, map, subst, Bool, true, false, cond, ◌⊎◌, inl, inr, length-append}
use Rattle.std.proofs.lemmas.List.{length-map}
use Rattle.std.proofs.lemmas.Bool.{cases_lt}
use Rattle.uf_tree.specs.FilePlan.{split_from, groups, chunks, climb, file_plan, node_part, node_held, leaf_part, leaf_held, root_held, top_held}
use Rattle.uf_tree.specs.Metas.{is_bare}
use Rattle.uf_tree.specs.declared.meta.Meta.{Meta}
use Rattle.uf_tree.specs.declared.nodes.Part.{Part}
use Rattle.uf_tree.specs.declared.profile.Profile.{Profile}
use Rattle.uf_tree.proofs.Climb.{by_rest}
use Rattle.uf_build.specs.Rows.{push_row, push_held, add_row, add_held, members, saved_over, saved_all, AreShort, AreShortBehind}
use Rattle.uf_build.proofs.Carry.{is_below, not_below, length-push}

module _ (X : List ℕ → List ℕ) (w : ℕ) where
  -- one more part, and no more than one more row
  pub members-push : (rows : List (List Part)) (m : Part) → AreShort w rows → (members w (push_row X w m rows) ≡ members w rows + 1) × (length (push_row X w m rows) ≤ length rows + 1)
  members-push [] m h = (omega arith, omega arith)
  members-push (g ∷ gs) m h = by (cases_lt (length g + 1) w) (members-push gs node h.1)
    where
      node : Part
      node = node_part X (g ++ m ∷ [])

      Is : List (List Part) → Type 0
      Is rows = (members w rows ≡ members w (g ∷ gs) + 1) × (length rows ≤ length (g ∷ gs) + 1)

      by : (length g + 1 < w) ⊎ (w ≤ length g + 1) → (members w (push_row X w node gs) ≡ members w gs + 1) × (length (push_row X w node gs) ≤ length gs + 1) → Is (push_row X w m (g ∷ gs))
      by (inl short) later = subst (λ b. Is (cond b ((g ++ m ∷ []) ∷ gs) ([] ∷ push_row X w node gs))) (sym (is_below _ w short)) (omega (arith, length-push g m), omega arith)
      by (inr long) later =
          subst (λ b. Is (cond b ((g ++ m ∷ []) ∷ gs) ([] ∷ push_row X w node gs))) (sym (not_below _ w long))
          (let more = ap (λ n. w * n) later.0 in omega (arith, more, h.0), omega (arith, later.1))

  -- one more block, and the nodes of the groups that it fills
  pub saved-push : (rows : List (List Part)) (m : Part) → AreShort w rows → saved_over w (push_row X w m rows) ≡ saved_over w rows + 1 + length (push_held X w m rows)
  saved-push [] m h = omega arith
  saved-push (g ∷ gs) m h = by (cases_lt (length g + 1) w) (members-push gs node h.1).0 (saved-push gs node h.1)
    where
      node : Part
      node = node_part X (g ++ m ∷ [])

      by : (length g + 1 < w) ⊎ (w ≤ length g + 1) → members w (push_row X w node gs) ≡ members w gs + 1 → saved_over w (push_row X w node gs) ≡ saved_over w gs + 1 + length (push_held X w node gs)
          → saved_over w (push_row X w m (g ∷ gs)) ≡ saved_over w (g ∷ gs) + 1 + length (push_held X w m (g ∷ gs))
      by (inl short) one later =
          subst (λ b. saved_over w (cond b ((g ++ m ∷ []) ∷ gs) ([] ∷ push_row X w node gs)) ≡ saved_over w (g ∷ gs) + 1 + length (cond b [] (node_held X (g ++ m ∷ []) ∷ push_held X w node gs)))
          (sym (is_below _ w short)) (omega (arith, length-push g m))
      by (inr long) one later =
          subst (λ b. saved_over w (cond b ((g ++ m ∷ []) ∷ gs) ([] ∷ push_row X w node gs)) ≡ saved_over w (g ∷ gs) + 1 + length (cond b [] (node_held X (g ++ m ∷ []) ∷ push_held X w node gs)))
          (sym (not_below _ w long)) (let more = ap (λ n. w * n) one in omega (arith, more, h.0, later))

  -- the same of all rows with the last part
  pub saved-add : (rows : List (List Part)) (m : Part) → AreShortBehind w rows → saved_all w (add_row X w m rows) ≡ saved_all w rows + 1 + length (add_held X w m rows)
  saved-add [] m h = omega arith
  saved-add ([] ∷ gs) m h = omega arith
  saved-add ((n ∷ []) ∷ gs) m h = omega (arith, saved-push gs n h.1)
  saved-add ((n ∷ k ∷ ns) ∷ gs) m h = absurd (omega (arith, h.0))

-- a longer list has no fewer groups
more-groups : {A B : Type 0} (w r : ℕ) (xs : List A) (ys : List B) → length xs ≤ length ys → length (split_from w r xs).1 ≤ length (split_from w r ys).1
more-groups w r [] ys h = omega arith
more-groups w r (x ∷ xs) [] h = absurd (omega arith)
more-groups w zero (x ∷ xs) (y ∷ ys) h = let more = more-groups w (pred w) xs ys (omega arith) in omega (arith, more)
more-groups w (suc r) (x ∷ xs) (y ∷ ys) h = more-groups w r xs ys (omega arith)

no-more-tops : (X : List ℕ → List ℕ) (meta : Meta) (ms : List Part) → length (top_held X meta ms) ≤ 1
no-more-tops X meta [] = omega arith
no-more-tops X meta (m ∷ []) = by (is_bare meta)
  where
    by : (b : Bool) → length (cond b [] (root_held X meta (m ∷ []) ∷ [])) ≤ 1
    by true = omega arith
    by false = omega arith
no-more-tops X meta (m ∷ n ∷ ms) = omega arith

more-tops : (X : List ℕ → List ℕ) (meta : Meta) (ms ns : List Part) → length ms ≤ length ns → length (top_held X meta ms) ≤ length (top_held X meta ns)
more-tops X meta [] ns h = omega arith
more-tops X meta (m ∷ []) [] h = absurd (omega arith)
more-tops X meta (m ∷ []) (n ∷ []) h = by (is_bare meta)
  where
    by : (b : Bool) → length (cond b [] (root_held X meta (m ∷ []) ∷ [])) ≤ length (cond b [] (root_held X meta (n ∷ []) ∷ []))
    by true = omega arith
    by false = omega arith
more-tops X meta (m ∷ []) (n ∷ k ∷ ns) h = no-more-tops X meta (m ∷ [])
more-tops X meta (m ∷ a ∷ ms) [] h = absurd (omega arith)
more-tops X meta (m ∷ a ∷ ms) (n ∷ []) h = absurd (omega arith)
more-tops X meta (m ∷ a ∷ ms) (n ∷ b ∷ ns) h = omega arith

module _ (X : List ℕ → List ℕ) (w : ℕ) (meta : Meta) where
  -- how many nodes stand over a row
  abbrev nodes_over : ℕ → List Part → ℕ
  nodes_over f ms = length ((climb X w f ms).0 ++ top_held X meta (climb X w f ms).1)

  abbrev nodes_by : ℕ → List Part → List (List Part) → ℕ
  nodes_by f ms rest = length ((by_rest X w f ms rest).0 ++ top_held X meta (by_rest X w f ms rest).1)

  nodes-above : (f : ℕ) (ms g : List Part) (gs : List (List Part)) → nodes_by f ms (g ∷ gs) ≡ length (groups w ms) + nodes_over f (map (node_part X) (groups w ms))
  nodes-above f ms g gs =
      let above = climb X w f (map (node_part X) (groups w ms)) in
      omega (
        arith,
        length-append (map (node_held X) (groups w ms) ++ above.0) (top_held X meta above.1),
        length-append (map (node_held X) (groups w ms)) above.0,
        length-append above.0 (top_held X meta above.1),
        length-map (groups w ms) (node_held X),
      )

  more-rest : (f k : ℕ) (ms ns : List Part) (r s : List (List Part)) → length ms ≤ length ns → length r ≤ length s
      → nodes_over f (map (node_part X) (groups w ms)) ≤ nodes_over k (map (node_part X) (groups w ns)) → length (groups w ms) ≤ length (groups w ns) → nodes_by f ms r ≤ nodes_by k ns s
  more-rest f k ms ns [] [] h j later some = more-tops X meta ms ns h
  more-rest f k ms ns [] (g ∷ gs) h j later some = omega (arith, no-more-tops X meta ms, nodes-above k ns g gs)
  more-rest f k ms ns (e ∷ es) [] h j later some = absurd (omega arith)
  more-rest f k ms ns (e ∷ es) (g ∷ gs) h j later some = omega (arith, nodes-above f ms e es, nodes-above k ns g gs, later)

  tops-under : (k : ℕ) (ms ns : List Part) → length ms ≤ length ns → length (top_held X meta ms) ≤ nodes_over k ns
  unfolding climb
  tops-under zero ms ns h = more-tops X meta ms ns h
  tops-under (suc k) ms ns h = by (split_from w w ns).1
    where
      by : (rest : List (List Part)) → length (top_held X meta ms) ≤ nodes_by k ns rest
      by [] = more-tops X meta ms ns h
      by (g ∷ gs) = omega (arith, no-more-tops X meta ms, nodes-above k ns g gs)

  more-nodes : (f k : ℕ) (ms ns : List Part) → f ≤ k → length ms ≤ length ns → nodes_over f ms ≤ nodes_over k ns
  unfolding climb
  more-nodes zero k ms ns h j = tops-under k ms ns j
  more-nodes (suc f) zero ms ns h j = absurd (omega arith)
  more-nodes (suc f) (suc k) ms ns h j =
      let groups_more : length (split_from w w ms).1 ≤ length (split_from w w ns).1 = more-groups w w ms ns j in
      more-rest f k ms ns (split_from w w ms).1 (split_from w w ns).1 j groups_more
      (more-nodes f k (map (node_part X) (groups w ms)) (map (node_part X) (groups w ns)) (omega arith)
      (omega (arith, groups_more, length-map (groups w ms) (node_part X), length-map (groups w ns) (node_part X))))
      (omega (arith, groups_more))

-- more bytes have no fewer blocks
pub more-blocks : (X : List ℕ → List ℕ) (p : Profile) (meta : Meta) (a b : List ℕ) → length (file_plan X p meta a).blocks ≤ length (file_plan X p meta (a ++ b)).blocks
unfolding file_plan
more-blocks X p meta a b =
    let few = chunks p a in
    let more = chunks p (a ++ b) in
    let count : length few ≤ length more = omega (arith, more-groups p.chunk p.chunk a (a ++ b) (omega (arith, length-append a b))) in
    let above = more-nodes X p.width meta (length few) (length more) (map (leaf_part X) few) (map (leaf_part X) more) count
    (omega (arith, count, length-map few (leaf_part X), length-map more (leaf_part X))) in
    omega (
      arith,
      above,
      count,
      length-append (map (leaf_held X) few) ((climb X p.width (length few) (map (leaf_part X) few)).0 ++ top_held X meta (climb X p.width (length few) (map (leaf_part X) few)).1),
      length-append (map (leaf_held X) more) ((climb X p.width (length more) (map (leaf_part X) more)).0 ++ top_held X meta (climb X p.width (length more) (map (leaf_part X) more)).1),
      length-map few (leaf_held X),
      length-map more (leaf_held X),
    )
