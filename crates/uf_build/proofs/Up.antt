-- The rows after a push, by the cases of the code.
use Rattle.std.proofs.Common.{◌≡◌, ℕ, zero, suc, ◌+◌, ◌<◌, ◌≤◌, List, [], ◌∷◌, ◌++◌, length, refl, ap, arith, sym, ◌∙◌, get_or, set, cond, Bool, true, false, subst, ◌⊎◌, inl, inr, nat_eq, ◌≢◌, ◌-◌}
use Rattle.std.specs.List.{AllByRecursion}
use Rattle.std.proofs.lemmas.List.Sums.{sum_by-cons, sum_by-append}
use Rattle.std.proofs.Math.ListN.{length-set}
use Rattle.std.proofs.lemmas.Bool.{cases_eq}
use Rattle.std.proofs.lemmas.Bool.Decides.{nat_tests}
use Rattle.uf_cid.specs.Blocks.{Held}
use Rattle.uf_tree.specs.FilePlan.{node_part, node_held, root_part, root_held, top_held}
use Rattle.uf_tree.specs.Metas.{is_bare}
use Rattle.uf_tree.specs.declared.meta.Meta.{Meta}
use Rattle.uf_tree.specs.declared.nodes.Part.{Part}
use Rattle.uf_build.specs.Rows.{push_row, push_held, push_up, held_up, carry, carry_held, close_up, close_held_up, is_none, size_of, sizes_of, AreShort}
use Rattle.uf_build.proofs.Carry.{is_below, not_below, length-push}

module _ (X : List ℕ → List ℕ) (w : ℕ) where
  pub push-first : (level : ℕ) (m : Part) (rows : List (List Part)) → level ≡ length rows → rows ++ (m ∷ []) ∷ [] ≡ push_up X w level m rows
  push-first zero m [] e = refl
  push-first zero m (g ∷ gs) e = absurd (omega arith)
  push-first (suc k) m [] e = absurd (omega arith)
  push-first (suc k) m (g ∷ gs) e = ap (λ rows. g ∷ rows) (push-first k m gs (omega arith))

  pub held-first : (level : ℕ) (m : Part) (rows : List (List Part)) → level ≡ length rows → [] ≡ held_up X w level m rows
  held-first zero m [] e = refl
  held-first zero m (g ∷ gs) e = absurd (omega arith)
  held-first (suc k) m [] e = absurd (omega arith)
  held-first (suc k) m (g ∷ gs) e = held-first k m gs (omega arith)

  pub push-short : (level : ℕ) (m : Part) (rows : List (List Part)) (g : List Part) → level < length rows → g ≡ get_or rows level g → length g + 1 < w
      → set rows level (g ++ m ∷ []) ≡ push_up X w level m rows
  push-short zero m [] g h e k = absurd (omega arith)
  push-short zero m (f ∷ gs) g h e k =
      subst (λ f. (g ++ m ∷ []) ∷ gs ≡ push_row X w m (f ∷ gs)) e (sym (ap (λ b. cond b ((g ++ m ∷ []) ∷ gs) ([] ∷ push_row X w (node_part X (g ++ m ∷ [])) gs)) (is_below _ w k)))
  push-short (suc level) m [] g h e k = absurd (omega arith)
  push-short (suc level) m (f ∷ gs) g h e k = ap (λ rows. f ∷ rows) (push-short level m gs g (omega arith) e k)

  pub held-short : (level : ℕ) (m : Part) (rows : List (List Part)) (g : List Part) → level < length rows → g ≡ get_or rows level g → length g + 1 < w
      → [] ≡ held_up X w level m rows
  held-short zero m [] g h e k = absurd (omega arith)
  held-short zero m (f ∷ gs) g h e k =
      subst (λ f. [] ≡ push_held X w m (f ∷ gs)) e (sym (ap (λ b. cond b [] (node_held X (g ++ m ∷ []) ∷ push_held X w (node_part X (g ++ m ∷ [])) gs)) (is_below _ w k)))
  held-short (suc level) m [] g h e k = absurd (omega arith)
  held-short (suc level) m (f ∷ gs) g h e k = held-short level m gs g (omega arith) e k

  pub push-full : (level : ℕ) (m : Part) (rows : List (List Part)) (g : List Part) → level < length rows → g ≡ get_or rows level g → w ≤ length g + 1
      → push_up X w (level + 1) (node_part X (g ++ m ∷ [])) (set rows level []) ≡ push_up X w level m rows
  push-full level m rows g h e k = ap (λ n. push_up X w n (node_part X (g ++ m ∷ [])) (set rows level [])) (next level) ∙ by level rows h e
    where
      next : (n : ℕ) → n + 1 ≡ suc n
      next n = omega arith

      by : (level : ℕ) (rows : List (List Part)) → level < length rows → g ≡ get_or rows level g → push_up X w (suc level) (node_part X (g ++ m ∷ [])) (set rows level []) ≡ push_up X w level m rows
      by zero [] h e = absurd (omega arith)
      by zero (f ∷ gs) h e =
          subst (λ f. [] ∷ push_row X w (node_part X (g ++ m ∷ [])) gs ≡ push_row X w m (f ∷ gs)) e
          (sym (ap (λ b. cond b ((g ++ m ∷ []) ∷ gs) ([] ∷ push_row X w (node_part X (g ++ m ∷ [])) gs)) (not_below _ w k)))
      by (suc level) [] h e = absurd (omega arith)
      by (suc level) (f ∷ gs) h e = ap (λ rows. f ∷ rows) (by level gs (omega arith) e)

  pub held-full : (level : ℕ) (m : Part) (rows : List (List Part)) (g : List Part) → level < length rows → g ≡ get_or rows level g → w ≤ length g + 1
      → node_held X (g ++ m ∷ []) ∷ held_up X w (level + 1) (node_part X (g ++ m ∷ [])) (set rows level []) ≡ held_up X w level m rows
  held-full level m rows g h e k = ap (λ n. node_held X (g ++ m ∷ []) ∷ held_up X w n (node_part X (g ++ m ∷ [])) (set rows level [])) (next level) ∙ by level rows h e
    where
      next : (n : ℕ) → n + 1 ≡ suc n
      next n = omega arith

      by : (level : ℕ) (rows : List (List Part)) → level < length rows → g ≡ get_or rows level g
          → node_held X (g ++ m ∷ []) ∷ held_up X w (suc level) (node_part X (g ++ m ∷ [])) (set rows level []) ≡ held_up X w level m rows
      by zero [] h e = absurd (omega arith)
      by zero (f ∷ gs) h e =
          subst (λ f. node_held X (g ++ m ∷ []) ∷ push_held X w (node_part X (g ++ m ∷ [])) gs ≡ push_held X w m (f ∷ gs)) e
          (sym (ap (λ b. cond b [] (node_held X (g ++ m ∷ []) ∷ push_held X w (node_part X (g ++ m ∷ [])) gs)) (not_below _ w k)))
      by (suc level) [] h e = absurd (omega arith)
      by (suc level) (f ∷ gs) h e = by level gs (omega arith) e

module _ (X : List ℕ → List ℕ) where
  pub close-past : (meta : Meta) (level : ℕ) (c : Part) (rows : List (List Part)) → level ≡ length rows → c ≡ close_up X meta level rows c
  close-past meta zero c [] e = refl
  close-past meta zero c (g ∷ gs) e = absurd (omega arith)
  close-past meta (suc k) c [] e = refl
  close-past meta (suc k) c (g ∷ gs) e = close-past meta k c gs (omega arith)

  pub close_held-past : (meta : Meta) (level : ℕ) (c : Part) (rows : List (List Part)) → level ≡ length rows → [] ≡ close_held_up X meta level rows c
  close_held-past meta zero c [] e = refl
  close_held-past meta zero c (g ∷ gs) e = absurd (omega arith)
  close_held-past meta (suc k) c [] e = refl
  close_held-past meta (suc k) c (g ∷ gs) e = close_held-past meta k c gs (omega arith)

  none_at : (is_top : Bool) (gs : List (List Part)) → ((is_top ≡ true) × (length gs ≡ 0)) ⊎ ((is_top ≡ false) × (1 ≤ length gs)) → is_top ≡ is_none gs
  none_at is_top [] (inl h) = h.0
  none_at is_top [] (inr h) = absurd (omega (arith, h.1))
  none_at is_top (g ∷ gs) (inl h) = absurd (omega (arith, h.1))
  none_at is_top (g ∷ gs) (inr h) = h.0

  pub close-step : (meta : Meta) (level : ℕ) (is_top : Bool) (c : Part) (rows : List (List Part)) (g : List Part) → level < length rows → g ≡ get_or rows level g
      → ((is_top ≡ true) × (level + 1 ≡ length rows)) ⊎ ((is_top ≡ false) × (level + 1 < length rows))
      → close_up X meta (level + 1) (set rows level []) (carry X meta is_top (g ++ c ∷ [])) ≡ close_up X meta level rows c
  close-step meta level is_top c rows g h e k = ap (λ n. close_up X meta n (set rows level []) (carry X meta is_top (g ++ c ∷ []))) (next level) ∙ by level rows h e k
    where
      next : (n : ℕ) → n + 1 ≡ suc n
      next n = omega arith

      by : (level : ℕ) (rows : List (List Part)) → level < length rows → g ≡ get_or rows level g
          → ((is_top ≡ true) × (level + 1 ≡ length rows)) ⊎ ((is_top ≡ false) × (level + 1 < length rows))
          → close_up X meta (suc level) (set rows level []) (carry X meta is_top (g ++ c ∷ [])) ≡ close_up X meta level rows c
      by zero [] h e k = absurd (omega arith)
      by zero (f ∷ gs) h e k =
          ap (λ b. close_up X meta zero gs (carry X meta b (g ++ c ∷ []))) (none_at is_top gs (elim k [ inl p ↦ inl (p.0, omega (arith, p.1)) | inr p ↦ inr (p.0, omega (arith, p.1)) ]))
          ∙ ap (λ f. close_up X meta zero gs (carry X meta (is_none gs) (f ++ c ∷ []))) e
      by (suc level) [] h e k = absurd (omega arith)
      by (suc level) (f ∷ gs) h e k = by level gs (omega arith) e (elim k [ inl p ↦ inl (p.0, omega (arith, p.1)) | inr p ↦ inr (p.0, omega (arith, p.1)) ])

  pub close_held-step : (meta : Meta) (level : ℕ) (is_top : Bool) (c : Part) (rows : List (List Part)) (g : List Part) → level < length rows → g ≡ get_or rows level g
      → ((is_top ≡ true) × (level + 1 ≡ length rows)) ⊎ ((is_top ≡ false) × (level + 1 < length rows))
      → carry_held X meta is_top (g ++ c ∷ []) ++ close_held_up X meta (level + 1) (set rows level []) (carry X meta is_top (g ++ c ∷ [])) ≡ close_held_up X meta level rows c
  close_held-step meta level is_top c rows g h e k = ap (λ n. carry_held X meta is_top (g ++ c ∷ []) ++ close_held_up X meta n (set rows level []) (carry X meta is_top (g ++ c ∷ []))) (next level) ∙ by level rows h e k
    where
      next : (n : ℕ) → n + 1 ≡ suc n
      next n = omega arith

      by : (level : ℕ) (rows : List (List Part)) → level < length rows → g ≡ get_or rows level g
          → ((is_top ≡ true) × (level + 1 ≡ length rows)) ⊎ ((is_top ≡ false) × (level + 1 < length rows))
          → carry_held X meta is_top (g ++ c ∷ []) ++ close_held_up X meta (suc level) (set rows level []) (carry X meta is_top (g ++ c ∷ [])) ≡ close_held_up X meta level rows c
      by zero [] h e k = absurd (omega arith)
      by zero (f ∷ gs) h e k =
          ap (λ b. carry_held X meta b (g ++ c ∷ []) ++ close_held_up X meta zero gs (carry X meta b (g ++ c ∷ []))) (none_at is_top gs (elim k [ inl p ↦ inl (p.0, omega (arith, p.1)) | inr p ↦ inr (p.0, omega (arith, p.1)) ]))
          ∙ ap (λ f. carry_held X meta (is_none gs) (f ++ c ∷ []) ++ close_held_up X meta zero gs (carry X meta (is_none gs) (f ++ c ∷ []))) e
      by (suc level) [] h e k = absurd (omega arith)
      by (suc level) (f ∷ gs) h e k = by level gs (omega arith) e (elim k [ inl p ↦ inl (p.0, omega (arith, p.1)) | inr p ↦ inr (p.0, omega (arith, p.1)) ])

-- an emptied group takes its bytes along, and has room
pub sizes-emptied : (level : ℕ) (rows : List (List Part)) (g : List Part) → level < length rows → g ≡ get_or rows level g → sizes_of (set rows level []) + size_of g ≡ sizes_of rows
sizes-emptied zero [] g h e = absurd (omega arith)
sizes-emptied zero (f ∷ gs) g h e = omega (arith, ap size_of e, sum_by-cons size_of f gs, sum_by-cons size_of [] gs)
sizes-emptied (suc level) [] g h e = absurd (omega arith)
sizes-emptied (suc level) (f ∷ gs) g h e = omega (arith, sizes-emptied level gs g (omega arith) e, sum_by-cons size_of f gs, sum_by-cons size_of f (set gs level []))

pub short-emptied : (w level : ℕ) (rows : List (List Part)) → 1 ≤ w → AreShort w rows → AreShort w (set rows level [])
short-emptied w level [] h all = tt
short-emptied w zero (f ∷ gs) h all = (omega arith, all.1)
short-emptied w (suc level) (f ∷ gs) h all = (all.0, short-emptied w level gs h all.1)

pub short-at : (w level : ℕ) (rows : List (List Part)) (g : List Part) → AreShort w rows → level < length rows → g ≡ get_or rows level g → length g < w
short-at w level [] g all h e = absurd (omega arith)
short-at w zero (f ∷ gs) g all h e = omega (arith, ap length e, all.0)
short-at w (suc level) (f ∷ gs) g all h e = short-at w level gs g all.1 (omega arith) e

pub size-push : (g : List Part) (m : Part) → size_of (g ++ m ∷ []) ≡ size_of g + m.size
size-push g m = omega (arith, sum_by-append (λ (m : Part). m.size) g (m ∷ []), sum_by-cons (λ (m : Part). m.size) m [])

size-one : (m : Part) → m.size ≡ size_of (m ∷ [])
size-one m = omega (arith, sum_by-cons (λ (m : Part). m.size) m [])

pub size-above : (X : List ℕ → List ℕ) (meta : Meta) (is_top : Bool) (g : List Part) → (carry X meta is_top g).size ≡ size_of g
size-above X meta false g = refl
size-above X meta true [] = refl
size-above X meta true (m ∷ []) = by (is_bare meta)
  where
    by : (b : Bool) → (cond b m (root_part X meta (m ∷ []))).size ≡ size_of (m ∷ [])
    by true = size-one m
    by false = refl
size-above X meta true (m ∷ n ∷ ms) = refl

module _ (X : List ℕ → List ℕ) (w : ℕ) where
  -- the same, by what the code has at hand
  pub push-room : (level : ℕ) (m : Part) (rows : List (List Part)) (g h : List Part) → level < length rows → g ≡ get_or rows level g → h ≡ g ++ m ∷ [] → length h < w
      → (set rows level h ≡ push_up X w level m rows) × ([] ≡ held_up X w level m rows)
  push-room level m rows g h lt at is room =
      let short : length g + 1 < w = omega (arith, ap length is, length-push g m) in
      (ap (set rows level) is ∙ push-short X w level m rows g lt at short, held-short X w level m rows g lt at short)

  pub push-node : (level : ℕ) (m node : Part) (rows : List (List Part)) (g h empty : List Part) → level < length rows → g ≡ get_or rows level g → h ≡ g ++ m ∷ [] → w ≤ length h
      → node ≡ node_part X h → empty ≡ []
      → (push_up X w (level + 1) node (set rows level empty) ≡ push_up X w level m rows)
      × (node_held X h ∷ held_up X w (level + 1) node (set rows level empty) ≡ held_up X w level m rows)
  push-node level m node rows g h empty lt at is full made none =
      let long : w ≤ length g + 1 = omega (arith, ap length is, length-push g m) in
      let same : node ≡ node_part X (g ++ m ∷ []) = made ∙ ap (node_part X) is in (
        ap (λ n. push_up X w (level + 1) n (set rows level empty)) same ∙ ap (λ e. push_up X w (level + 1) (node_part X (g ++ m ∷ [])) (set rows level e)) none ∙ push-full X w level m rows g lt at long,
        ap (λ h. node_held X h ∷ held_up X w (level + 1) node (set rows level empty)) is
            ∙ ap (λ n. node_held X (g ++ m ∷ []) ∷ held_up X w (level + 1) n (set rows level empty)) same
            ∙ ap (λ e. node_held X (g ++ m ∷ []) ∷ held_up X w (level + 1) (node_part X (g ++ m ∷ [])) (set rows level e)) none
            ∙ held-full X w level m rows g lt at long,
      )

  pub one-held : (level : ℕ) (m : Part) (rows : List (List Part)) (g h : List Part) → level < length rows → g ≡ get_or rows level g → h ≡ g ++ m ∷ [] → w ≤ length h
      → 1 ≤ length (held_up X w level m rows)
  one-held level m rows g h lt at is full =
      let more : node_held X h ∷ held_up X w (level + 1) (node_part X h) (set rows level []) ≡ held_up X w level m rows = (push-node level m (node_part X h) rows g h [] lt at is full refl refl).1 in
      omega (arith, ap length more)

  -- the bytes of a group go up with its node
  pub sizes-up : (level : ℕ) (m node : Part) (rows : List (List Part)) (g h empty : List Part) → level < length rows → g ≡ get_or rows level g → h ≡ g ++ m ∷ [] → node ≡ node_part X h → empty ≡ []
      → sizes_of (set rows level empty) + node.size ≡ sizes_of rows + m.size
  sizes-up level m node rows g h empty lt at is made none =
      let emptied : sizes_of (set rows level empty) + size_of g ≡ sizes_of rows = ap (λ e. sizes_of (set rows level e) + size_of g) none ∙ sizes-emptied level rows g lt at in
      let size : node.size ≡ size_of g + m.size = ap (λ (p : Part). p.size) made ∙ ap size_of is ∙ size-push g m in
      omega arith

module _ (X : List ℕ → List ℕ) where
  tops : (a b : ℕ) → a ≤ b → ((nat_eq a b ≡ true) × (a ≡ b)) ⊎ ((nat_eq a b ≡ false) × (a < b))
  tops a b h = by (cases_eq a b)
    where
      by : (a ≡ b) ⊎ (a ≢ b) → ((nat_eq a b ≡ true) × (a ≡ b)) ⊎ ((nat_eq a b ≡ false) × (a < b))
      by (inl e) = inl (grind (arith, nat_tests), e)
      by (inr e) = inr (grind (arith, nat_tests), omega arith)

  pub close-next : (meta : Meta) (level n : ℕ) (c up : Part) (rows : List (List Part)) (g row empty : List Part) → level < length rows → g ≡ get_or rows level g → row ≡ g → n ≡ length rows
      → up ≡ carry X meta (nat_eq (level + 1) n) (row ++ c ∷ []) → empty ≡ []
      → (close_up X meta (level + 1) (set rows level empty) up ≡ close_up X meta level rows c)
      × (carry_held X meta (nat_eq (level + 1) n) (row ++ c ∷ []) ++ close_held_up X meta (level + 1) (set rows level empty) up ≡ close_held_up X meta level rows c)
  close-next meta level n c up rows g row empty lt at is count made none =
      let top = tops (level + 1) (length rows) (omega arith) in
      let same : up ≡ carry X meta (nat_eq (level + 1) (length rows)) (g ++ c ∷ []) = made ∙ ap (λ n. carry X meta (nat_eq (level + 1) n) (row ++ c ∷ [])) count ∙ ap (λ g. carry X meta (nat_eq (level + 1) (length rows)) (g ++ c ∷ [])) is in (
        ap (λ e. close_up X meta (level + 1) (set rows level e) up) none ∙ ap (close_up X meta (level + 1) (set rows level [])) same
            ∙ close-step X meta level (nat_eq (level + 1) (length rows)) c rows g lt at top,
        ap (λ n. carry_held X meta (nat_eq (level + 1) n) (row ++ c ∷ []) ++ close_held_up X meta (level + 1) (set rows level empty) up) count
            ∙ ap (λ g. carry_held X meta (nat_eq (level + 1) (length rows)) (g ++ c ∷ []) ++ close_held_up X meta (level + 1) (set rows level empty) up) is
            ∙ ap (λ e. carry_held X meta (nat_eq (level + 1) (length rows)) (g ++ c ∷ []) ++ close_held_up X meta (level + 1) (set rows level e) up) none
            ∙ ap (λ up. carry_held X meta (nat_eq (level + 1) (length rows)) (g ++ c ∷ []) ++ close_held_up X meta (level + 1) (set rows level []) up) same
            ∙ close_held-step X meta level (nat_eq (level + 1) (length rows)) c rows g lt at top,
      )

  pub sizes-closed : (meta : Meta) (level : ℕ) (is_top : Bool) (c up : Part) (rows : List (List Part)) (g row empty : List Part) → level < length rows → g ≡ get_or rows level g → row ≡ g
      → up ≡ carry X meta is_top (row ++ c ∷ []) → empty ≡ [] → sizes_of (set rows level empty) + up.size ≡ sizes_of rows + c.size
  sizes-closed meta level is_top c up rows g row empty lt at is made none =
      let emptied : sizes_of (set rows level empty) + size_of g ≡ sizes_of rows = ap (λ e. sizes_of (set rows level e) + size_of g) none ∙ sizes-emptied level rows g lt at in
      let size : up.size ≡ size_of g + c.size = ap (λ (p : Part). p.size) made ∙ size-above X meta is_top (row ++ c ∷ []) ∙ ap (λ g. size_of (g ++ c ∷ [])) is ∙ size-push g c in
      omega arith

pub short-up : (w level : ℕ) (rows : List (List Part)) (empty : List Part) → 1 ≤ w → empty ≡ [] → AreShort w rows → AreShort w (set rows level empty)
short-up w level rows empty h none all = subst (λ e. AreShort w (set rows level e)) (sym none) (short-emptied w level rows h all)

-- groups that have room in a row have it in a wider one
pub short-wider : (w v : ℕ) (rows : List (List Part)) → w ≤ v → AreShort w rows → AreShort v rows
short-wider w v [] h all = tt
short-wider w v (g ∷ gs) h all = (omega (arith, all.0), short-wider w v gs h all.1)

pub falls : (level : ℕ) (rows : List (List Part)) (empty : List Part) → level < length rows → length (set rows level empty) - (level + 1) < length rows - level
falls level rows empty h = omega (arith, length-set rows level empty)

pub next-level : (level : ℕ) (rows : List (List Part)) (empty : List Part) → level < length rows → level + 1 ≤ length (set rows level empty)
next-level level rows empty h = omega (arith, length-set rows level empty)

-- what a row saves as it ends is under its digest
pub carry-good : (X : List ℕ → List ℕ) (meta : Meta) (is_top : Bool) (g : List Part) → AllByRecursion (λ (b : Held). X b.1 ≡ b.0.digest) (carry_held X meta is_top g)
carry-good X meta false g = (refl, tt)
carry-good X meta true [] = tt
carry-good X meta true (m ∷ []) = by (is_bare meta)
  where
    by : (b : Bool) → AllByRecursion (λ (b : Held). X b.1 ≡ b.0.digest) (cond b [] (root_held X meta (m ∷ []) ∷ []))
    by true = tt
    by false = (refl, tt)
carry-good X meta true (m ∷ n ∷ ms) = (refl, tt)

-- what stands over more than one part, or over one with metadata, is the root
pub top-root : (X : List ℕ → List ℕ) (meta : Meta) (ms : List Part) → (1 < length ms) ⊎ ((1 ≤ length ms) × (is_bare meta ≡ false)) → top_held X meta ms ≡ root_held X meta ms ∷ []
top-root X meta [] (inl h) = absurd (omega arith)
top-root X meta [] (inr h) = absurd (omega (arith, h.0))
top-root X meta (m ∷ []) (inl h) = absurd (omega arith)
top-root X meta (m ∷ []) (inr h) = ap (λ b. cond b [] (root_held X meta (m ∷ []) ∷ [])) h.1
top-root X meta (m ∷ n ∷ ms) h = refl
