-- What a builder keeps as it takes bytes.
use Rattle.std.proofs.Common.{◌≡◌, ℕ, ◌+◌, ◌<◌, ◌≤◌, List, [], ◌∷◌, ◌++◌, length, refl, ap, arith, sym, ◌∙◌, map, subst, cond, ◌⊎◌, inl, inr, append_assoc, length-append}
use Rattle.std.specs.List.{AllByRecursion}
use Rattle.std.proofs.lemmas.List.{append-nil, map-append}
use Rattle.std.proofs.lemmas.Bool.{cases_lt}
use Rattle.std.proofs.lemmas.List.Sums.{sum_by-cons}
use Rattle.uf_cid.specs.Blocks.{Held}
use Rattle.uf_store.specs.Contents.{Told}
use Rattle.uf_store.specs.Keeping.{Holds, KeepsGood}
use Rattle.uf_store.specs.Among.{SavesAmong}
use Rattle.uf_store.proofs.Keeping.{Holds-kept, KeepsGood-trans}
use Rattle.uf_tree.specs.Cutting.{joined}
use Rattle.uf_tree.specs.FilePlan.{node_part, node_held, leaf_part, leaf_held}
use Rattle.uf_tree.specs.declared.nodes.Part.{Part}
use Rattle.uf_tree.specs.declared.profile.Profile.{Profile}
use Rattle.uf_tree.proofs.Each.{both}
use Rattle.uf_build.specs.Building.{ArePieces, Builds, Any, IsHeld, Adds, Feeds}
use Rattle.uf_build.specs.Rows.{AreAll, AreRows, AreShort, AreShortBehind, AreOpen, last_in, saved_all, size_of, sizes_of, push_row, add_row, add_held}
use Rattle.uf_build.proofs.Among.{for-behind, for-none, for-piece}
use Rattle.uf_build.proofs.Carry.{all-add, joined-push, length-push, is_below, not_below}
use Rattle.uf_build.proofs.Counting.{saved-add}
use Rattle.uf_build.proofs.Holding.{each-held}
use Rattle.uf_build.proofs.Up.{size-push}

module _ (X : List ℕ → List ℕ) (w : ℕ) (two : 2 ≤ w) where
  pub short-push : (rows : List (List Part)) (m : Part) → AreShort w rows → AreShort w (push_row X w m rows)
  short-push [] m h = (omega arith, tt)
  short-push (g ∷ gs) m h = by (cases_lt (length g + 1) w) (short-push gs (node_part X (g ++ m ∷ [])) h.1)
    where
      by : (length g + 1 < w) ⊎ (w ≤ length g + 1) → AreShort w (push_row X w (node_part X (g ++ m ∷ [])) gs) → AreShort w (push_row X w m (g ∷ gs))
      by (inl short) later = subst (λ b. AreShort w (cond b ((g ++ m ∷ []) ∷ gs) ([] ∷ push_row X w (node_part X (g ++ m ∷ [])) gs))) (sym (is_below _ w short)) (omega (arith, length-push g m), h.1)
      by (inr long) later = subst (λ b. AreShort w (cond b ((g ++ m ∷ []) ∷ gs) ([] ∷ push_row X w (node_part X (g ++ m ∷ [])) gs))) (sym (not_below _ w long)) (omega arith, later)

  pub sizes-push : (rows : List (List Part)) (m : Part) → sizes_of (push_row X w m rows) ≡ sizes_of rows + m.size
  sizes-push [] m = omega (arith, sum_by-cons size_of (m ∷ []) [], sum_by-cons (λ (m : Part). m.size) m [])
  sizes-push (g ∷ gs) m = by (cases_lt (length g + 1) w) (sizes-push gs (node_part X (g ++ m ∷ [])))
    where
      by : (length g + 1 < w) ⊎ (w ≤ length g + 1) → sizes_of (push_row X w (node_part X (g ++ m ∷ [])) gs) ≡ sizes_of gs + size_of (g ++ m ∷ []) → sizes_of (push_row X w m (g ∷ gs)) ≡ sizes_of (g ∷ gs) + m.size
      by (inl short) later =
          ap (λ b. sizes_of (cond b ((g ++ m ∷ []) ∷ gs) ([] ∷ push_row X w (node_part X (g ++ m ∷ [])) gs))) (is_below _ w short)
          ∙ omega (arith, sum_by-cons size_of (g ++ m ∷ []) gs, sum_by-cons size_of g gs, size-push g m)
      by (inr long) later =
          ap (λ b. sizes_of (cond b ((g ++ m ∷ []) ∷ gs) ([] ∷ push_row X w (node_part X (g ++ m ∷ [])) gs))) (not_below _ w long)
          ∙ omega (arith, later, sum_by-cons size_of [] (push_row X w (node_part X (g ++ m ∷ [])) gs), sum_by-cons size_of g gs, size-push g m)

  pub short-add : (rows : List (List Part)) (m : Part) → AreShortBehind w rows → AreShortBehind w (add_row X w m rows)
  short-add [] m h = (omega arith, tt)
  short-add ([] ∷ gs) m h = (omega arith, h.1)
  short-add ((n ∷ ns) ∷ gs) m h = (omega arith, short-push gs n h.1)

  pub sizes-add : (rows : List (List Part)) (m : Part) → AreShortBehind w rows → sizes_of (add_row X w m rows) ≡ sizes_of rows + m.size
  sizes-add [] m h = omega (arith, sum_by-cons size_of (m ∷ []) [], sum_by-cons (λ (m : Part). m.size) m [])
  sizes-add ([] ∷ gs) m h = omega (arith, sum_by-cons size_of (m ∷ []) gs, sum_by-cons size_of [] gs, sum_by-cons (λ (m : Part). m.size) m [])
  sizes-add ((n ∷ []) ∷ gs) m h =
      omega (arith, sizes-push gs n, sum_by-cons size_of (m ∷ []) (push_row X w n gs), sum_by-cons size_of (n ∷ []) gs, sum_by-cons (λ (m : Part). m.size) m [], sum_by-cons (λ (m : Part). m.size) n [])
  sizes-add ((n ∷ k ∷ ns) ∷ gs) m h = absurd (omega (arith, h.0))

  pub last-add : (rows : List (List Part)) (m : Part) → length (last_in (add_row X w m rows)) ≡ 1
  last-add [] m = refl
  last-add ([] ∷ gs) m = refl
  last-add ((n ∷ ns) ∷ gs) m = refl

module _ (X : List ℕ → List ℕ) (w : ℕ) (P Q : Held → Type 0) (up : (b : Held) → X b.1 ≡ b.0.digest → P b → Q b) where
  nodes-mono : (full : List (List Part)) → AllByRecursion P (map (node_held X) full) → AllByRecursion Q (map (node_held X) full)
  nodes-mono [] h = tt
  nodes-mono (f ∷ full) h = (up (node_held X f) refl h.0, nodes-mono full h.1)

  leaves-mono : (pieces : List (List ℕ)) → AllByRecursion P (map (leaf_held X) pieces) → AllByRecursion Q (map (leaf_held X) pieces)
  leaves-mono [] h = tt
  leaves-mono (f ∷ pieces) h = (up (leaf_held X f) refl h.0, leaves-mono pieces h.1)

  rows-mono : (rows : List (List Part)) (row : List Part) → AreRows X w P row rows → AreRows X w Q row rows
  rows-mono [] row h = h
  rows-mono (g ∷ gs) row h = (h.0, h.1, h.2, h.3, h.4, nodes-mono h.0 h.5, rows-mono gs (map (node_part X) h.0) h.6)

  all-mono : (rows : List (List Part)) (row : List Part) → AreAll X w P row rows → AreAll X w Q row rows
  all-mono [] row h = h
  all-mono (g ∷ gs) row h = (h.0, h.1, h.2, h.3, rows-mono gs h.0 h.4)

module _ (X : List ℕ → List ℕ) (p : Profile) where
  pub pieces-mono : (P Q : Held → Type 0) → ((b : Held) → X b.1 ≡ b.0.digest → P b → Q b) → (pieces : List (List ℕ)) (rows : List (List Part))
      → ArePieces X P p pieces rows → ArePieces X Q p pieces rows
  pieces-mono P Q up pieces rows h = record { held = leaves-mono X p.width P Q up pieces h.held; rows_are = all-mono X p.width P Q up rows (map (leaf_part X) pieces) h.rows_are }

  pub builds-mono : (P Q : Held → Type 0) → ((b : Held) → X b.1 ≡ b.0.digest → P b → Q b) → (bytes begun : List ℕ) (rows : List (List Part)) → Builds X P p bytes begun rows → Builds X Q p bytes begun rows
  builds-mono P Q up bytes begun rows h = record { pieces = h.pieces; cut = h.cut; whole = h.whole; are_pieces = pieces-mono P Q up h.pieces rows h.are_pieces }

  pub held-mono : (told told_now : Told) → KeepsGood X told told_now → (b : Held) → X b.1 ≡ b.0.digest → IsHeld told b → IsHeld told_now b
  held-mono told told_now keeps b good held = Holds-kept X told told_now (b ∷ []) (good, tt) keeps held

module _ (X : List ℕ → List ℕ) (p : Profile) (two : 2 ≤ p.width) where
  -- one piece more
  pub pieces-add : (P : Held → Type 0) (pieces : List (List ℕ)) (piece : List ℕ) (rows : List (List Part)) → P (leaf_held X piece) → AllByRecursion P (add_held X p.width (leaf_part X piece) rows)
      → ArePieces X P p pieces rows → ArePieces X P p (pieces ++ piece ∷ []) (add_row X p.width (leaf_part X piece) rows)
  pieces-add P pieces piece rows leaf nodes h = record {
    held = subst (AllByRecursion P) (sym (map-append (leaf_held X) pieces (piece ∷ []))) (both P (map (leaf_held X) pieces) (leaf_held X piece ∷ []) h.held (leaf, tt));
    rows_are = subst (λ r. AreAll X p.width P r (add_row X p.width (leaf_part X piece) rows)) (sym (map-append (leaf_part X) pieces (piece ∷ [])))
        (all-add X p.width two P rows (map (leaf_part X) pieces) (leaf_part X piece) nodes h.rows_are);
  }

  pub any : (l : List Held) → AllByRecursion Any l
  any [] = tt
  any (b ∷ l) = (tt, any l)

  pub Adds-add : (piece : List ℕ) (part : Part) (rows rows_now : List (List Part)) (told told_mid told_now : Told) (touches touches_now : ℕ) → AreOpen p.width rows → part ≡ leaf_part X piece
      → rows_now ≡ add_row X p.width part rows → KeepsGood X told told_mid → KeepsGood X told_mid told_now → Holds told_mid (leaf_held X piece ∷ []) → Holds told_now (add_held X p.width part rows)
      → touches_now ≡ touches + 1 + length (add_held X p.width part rows) → Adds X p piece rows rows_now told told_now touches touches_now
  Adds-add piece part rows rows_now told told_mid told_now touches touches_now are_open made added first then leaf nodes count =
      let now : rows_now ≡ add_row X p.width (leaf_part X piece) rows = added ∙ ap (λ m. add_row X p.width m rows) made in
      let held = subst (λ m. Holds told_now (add_held X p.width m rows)) made nodes in
      let count_now : touches_now ≡ touches + 1 + length (add_held X p.width (leaf_part X piece) rows) = subst (λ m. touches_now ≡ touches + 1 + length (add_held X p.width m rows)) made count in
      record {
        are_open = subst (AreOpen p.width) (sym now) (record { short = short-add X p.width two rows (leaf_part X piece) are_open.short });
        saves = omega (
          arith,
          count_now,
          ap (saved_all p.width) now,
          saved-add X p.width rows (leaf_part X piece) are_open.short,
        );
        some = omega (arith, ap (λ rows. length (last_in rows)) now, last-add X p.width two rows (leaf_part X piece));
        sizes = ap sizes_of now ∙ sizes-add X p.width two rows (leaf_part X piece) are_open.short;
        fed = λ pieces h. subst (ArePieces X Any p (pieces ++ piece ∷ [])) (sym now) (pieces-add Any pieces piece rows tt (any _) h);
        held = λ pieces h. subst (ArePieces X (IsHeld told_now) p (pieces ++ piece ∷ [])) (sym now)
            (pieces-add (IsHeld told_now) pieces piece rows (held-mono X p told_mid told_now then (leaf_held X piece) refl leaf) (each-held told_now _ held)
            (pieces-mono X p (IsHeld told) (IsHeld told_now) (held-mono X p told told_now (KeepsGood-trans X told told_mid told_now first then)) pieces rows h));
      }

  -- nothing, more bytes of the piece that was begun, a whole piece, and one behind the other
  builds-begun : (P : Held → Type 0) (front bytes begun : List ℕ) (rows : List (List Part)) → Builds X P p front begun rows → Builds X P p (front ++ bytes) (begun ++ bytes) rows
  builds-begun P front bytes begun rows h = record {
    pieces = h.pieces;
    cut = ap (λ l. l ++ bytes) h.cut ∙ append_assoc (joined h.pieces) begun bytes;
    whole = h.whole;
    are_pieces = h.are_pieces;
  }

  pub Feeds-begun : (bytes begun : List ℕ) (rows : List (List Part)) (told : Told) (touches : ℕ) → AreOpen p.width rows → Feeds X p bytes begun (begun ++ bytes) rows rows told told touches touches
  Feeds-begun bytes begun rows told touches are_open = record {
    are_open = are_open;
    sizes = omega (arith, length-append begun bytes);
    saves = refl;
    no_other = for-none X p bytes begun rows told;
    fed = λ front h. builds-begun Any front bytes begun rows h;
    held = λ front h. builds-begun (IsHeld told) front bytes begun rows h;
  }

  pub Feeds-nothing : (begun : List ℕ) (rows : List (List Part)) (told : Told) (touches : ℕ) → AreOpen p.width rows → Feeds X p [] begun begun rows rows told told touches touches
  Feeds-nothing begun rows told touches are_open = subst (λ b. Feeds X p [] begun b rows rows told told touches touches) (append-nil begun) (Feeds-begun [] begun rows told touches are_open)

  pub builds-piece : (P Q : Held → Type 0) (front bytes begun piece : List ℕ) (rows rows_now : List (List Part)) → begun ++ bytes ≡ piece → length piece ≡ p.chunk
      → ((pieces : List (List ℕ)) → ArePieces X P p pieces rows → ArePieces X Q p (pieces ++ piece ∷ []) rows_now)
      → Builds X P p front begun rows → Builds X Q p (front ++ bytes) [] rows_now
  builds-piece P Q front bytes begun piece rows rows_now is whole adds h = record {
    pieces = h.pieces ++ piece ∷ [];
    cut = ap (λ l. l ++ bytes) h.cut ∙ append_assoc (joined h.pieces) begun bytes ∙ ap (λ l. joined h.pieces ++ l) is ∙ sym (joined-push h.pieces piece) ∙ sym (append-nil _);
    whole = both (λ (piece : List ℕ). length piece ≡ p.chunk) h.pieces (piece ∷ []) h.whole (whole, tt);
    are_pieces = adds h.pieces h.are_pieces;
  }

  pub Feeds-piece : (bytes begun begun_now piece : List ℕ) (rows rows_now : List (List Part)) (told told_now : Told) (touches touches_now : ℕ) → 1 ≤ p.chunk → begun ++ bytes ≡ piece → length piece ≡ p.chunk → begun_now ≡ []
      → SavesAmong X (leaf_held X piece ∷ add_held X p.width (leaf_part X piece) rows) told told_now → Adds X p piece rows rows_now told told_now touches touches_now → Feeds X p bytes begun begun_now rows rows_now told told_now touches touches_now
  Feeds-piece bytes begun begun_now piece rows rows_now told told_now touches touches_now pos is whole none among adds = record {
    are_open = adds.are_open;
    saves = adds.saves;
    no_other = for-piece X p pos two bytes begun piece rows told told_now is whole among;
    sizes = omega (arith, adds.sizes, ap length is, length-append begun bytes, ap length none);
    fed = λ front h. subst (λ b. Builds X Any p (front ++ bytes) b rows_now) (sym none) (builds-piece Any Any front bytes begun piece rows rows_now is whole adds.fed h);
    held = λ front h. subst (λ b. Builds X (IsHeld told_now) p (front ++ bytes) b rows_now) (sym none) (builds-piece (IsHeld told) (IsHeld told_now) front bytes begun piece rows rows_now is whole adds.held h);
  }

  pub Feeds-trans : (a b begun begun_mid begun_now : List ℕ) (rows rows_mid rows_now : List (List Part)) (told told_mid told_now : Told) (touches touches_mid touches_now : ℕ)
      → Feeds X p a begun begun_mid rows rows_mid told told_mid touches touches_mid → Feeds X p b begun_mid begun_now rows_mid rows_now told_mid told_now touches_mid touches_now
      → Feeds X p (a ++ b) begun begun_now rows rows_now told told_now touches touches_now
  Feeds-trans a b begun begun_mid begun_now rows rows_mid rows_now told told_mid told_now touches touches_mid touches_now first then = record {
    are_open = then.are_open;
    saves = omega (arith, first.saves, then.saves);
    no_other = for-behind X p a b begun begun_mid rows rows_mid told told_mid told_now first.fed first.no_other then.no_other;
    sizes = omega (arith, first.sizes, then.sizes, length-append a b);
    fed = λ front h. subst (λ l. Builds X Any p l begun_now rows_now) (append_assoc front a b) (then.fed (front ++ a) (first.fed front h));
    held = λ front h. subst (λ l. Builds X (IsHeld told_now) p l begun_now rows_now) (append_assoc front a b) (then.held (front ++ a) (first.held front h));
  }

-- at first
pub builds-new : (X : List ℕ → List ℕ) (P : Held → Type 0) (p : Profile) (begun : List ℕ) (rows : List (List Part)) → begun ≡ [] → rows ≡ [] ∷ [] → Builds X P p [] begun rows
builds-new X P p begun rows none no_rows = record {
  pieces = [];
  cut = sym none;
  whole = tt;
  are_pieces = record { held = tt; rows_are = subst (λ rows. AreAll X p.width P [] rows) (sym no_rows) ([], refl, omega arith, λ some. some, refl) };
}
