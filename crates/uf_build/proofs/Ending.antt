-- The entry that a builder answers is that of the plan.
use Rattle.std.proofs.Common.{◌≡◌, ◌≢◌, ℕ, ◌+◌, ◌<◌, ◌≤◌, List, [], ◌∷◌, ◌++◌, length, refl, ap, arith, sym, ◌∙◌, map, subst, ◌⊎◌, inl, inr, append_assoc, length-append, Option, None, Some}
use Rattle.std.specs.List.{AllByRecursion}
use Rattle.std.specs.Option.{option_to_list}
use Rattle.std.proofs.lemmas.List.{append-nil, length-map}
use Rattle.uf_cid.specs.Blocks.{Held}
use Rattle.uf_store.specs.Contents.{Told}
use Rattle.uf_store.specs.Keeping.{Holds, KeepsGood}
use Rattle.uf_store.specs.Among.{SavesAmong}
use Rattle.uf_tree.specs.Cutting.{joined}
use Rattle.uf_tree.specs.FilePlan.{chunks, groups, file_plan, leaf_part, leaf_held}
use Rattle.uf_tree.specs.Metas.{none}
use Rattle.uf_tree.specs.declared.meta.Meta.{Meta}
use Rattle.uf_tree.specs.declared.nodes.Part.{Part}
use Rattle.uf_tree.specs.declared.profile.Profile.{Profile}
use Rattle.uf_tree.proofs.Each.{both}
use Rattle.uf_build.specs.Building.{ArePieces, Builds, Any, IsHeld, Adds, Ends, Feeds, Building, HasFed, SavesUpTo, saved_by}
use Rattle.uf_build.specs.declared.open.Open.{Open}
use Rattle.uf_build.specs.Rows.{AreAll, AreOpen, add_held, add_row, close_all, close_all_held, groups_in, last_in, saved_all}
use Rattle.uf_build.proofs.Among.{piece-saves, plan-over}
use Rattle.uf_build.proofs.Carry.{over, all-over}
use Rattle.uf_build.proofs.Counting.{more-blocks}
use Rattle.uf_build.proofs.Cutting.{groups-full, groups-exact}
use Rattle.uf_build.proofs.Feeding.{pieces-mono, held-mono, any, builds-piece, pieces-add}
use Rattle.uf_build.proofs.Holding.{each-held, held-each}

module _ (X : List ℕ → List ℕ) (p : Profile) (pos : 1 ≤ p.chunk) (two : 2 ≤ p.width) where
  no-pieces : (pieces : List (List ℕ)) → map (leaf_part X) pieces ≡ [] → pieces ≡ []
  no-pieces [] h = refl
  no-pieces (f ∷ pieces) h = absurd (no h)
    where
      no : leaf_part X f ∷ map (leaf_part X) pieces ≡ [] → ⊥
      no e = cc

  no-parts : (P : Held → Type 0) (row : List Part) (rows : List (List Part)) → last_in rows ≡ [] → AreAll X p.width P row rows → row ≡ []
  no-parts P row [] gone h = h
  no-parts P [] (g ∷ gs) gone h = refl
  no-parts P (m ∷ row) (g ∷ gs) gone h = absurd (omega (arith, h.3 (omega arith), ap length gone))

  -- the pieces of a file where the last was begun, or where there is no other
  cut-last : (P : Held → Type 0) (begun : List ℕ) (rows : List (List Part)) (bytes : List ℕ) → (1 ≤ length begun) ⊎ (last_in rows ≡ []) → length begun < p.chunk
      → (h : Builds X P p bytes begun rows) → h.pieces ++ begun ∷ [] ≡ chunks p bytes
  cut-last P begun rows bytes (inl some) short h = sym (ap (groups p.chunk) h.cut ∙ groups-full p.chunk pos h.pieces begun h.whole some (omega arith))
  cut-last P [] rows bytes (inr gone) short h =
      let row : map (leaf_part X) h.pieces ≡ [] = no-parts P (map (leaf_part X) h.pieces) rows gone h.are_pieces.rows_are in
      let empty : h.pieces ≡ [] = no-pieces h.pieces row in
      let nothing : bytes ≡ [] = h.cut ∙ ap (λ pieces. joined pieces ++ []) empty in
      ap (λ pieces. pieces ++ [] ∷ []) empty ∙ sym (ap (groups p.chunk) nothing)
  cut-last P (b ∷ begun) rows bytes (inr gone) short h = sym (ap (groups p.chunk) h.cut ∙ groups-full p.chunk pos h.pieces (b ∷ begun) h.whole (omega arith) (omega arith))

  pub Ends-saved : (begun : List ℕ) (rows rows_now : List (List Part)) (told told_now : Told) (touches touches_now : ℕ) → (1 ≤ length begun) ⊎ (last_in rows ≡ []) → length begun < p.chunk
      → Adds X p begun rows rows_now told told_now touches touches_now → Ends X p begun rows rows_now told told_now touches touches_now
  Ends-saved begun rows rows_now told told_now touches touches_now last short adds = record {
    are_open = adds.are_open;
    saves = adds.saves;
    some = adds.some;
    sizes = adds.sizes;
    fed = λ bytes h. subst (λ pieces. ArePieces X Any p pieces rows_now) (cut-last Any begun rows bytes last short h) (adds.fed h.pieces h.are_pieces);
    held = λ bytes h. subst (λ pieces. ArePieces X (IsHeld told_now) p pieces rows_now) (cut-last (IsHeld told) begun rows bytes last short h) (adds.held h.pieces h.are_pieces);
  }

  -- the pieces of a file where none was begun
  cut-whole : (P : Held → Type 0) (rows : List (List Part)) (bytes : List ℕ) → 1 ≤ length (last_in rows) → (h : Builds X P p bytes [] rows) → h.pieces ≡ chunks p bytes
  cut-whole P [] bytes some h = absurd (omega arith)
  cut-whole P (g ∷ gs) bytes some h = by h.pieces h.cut h.whole (omega (arith, ap length h.are_pieces.rows_are.1, length-append h.are_pieces.rows_are.0 g))
    where
      by : (pieces : List (List ℕ)) → bytes ≡ joined pieces ++ [] → AllByRecursion (λ piece. length piece ≡ p.chunk) pieces → 1 ≤ length (map (leaf_part X) pieces) → pieces ≡ chunks p bytes
      by [] cut whole some = absurd (omega arith)
      by (f ∷ pieces) cut whole some = sym (ap (groups p.chunk) (cut ∙ append-nil _) ∙ groups-exact p.chunk pos f pieces whole)

  pub Ends-whole : (begun : List ℕ) (rows : List (List Part)) (told : Told) (touches : ℕ) → begun ≡ [] → 1 ≤ length (last_in rows) → AreOpen p.width rows → Ends X p begun rows rows told told touches touches
  Ends-whole [] rows told touches gone some are_open = record {
    are_open = are_open;
    sizes = omega arith;
    saves = refl;
    some = some;
    fed = λ bytes h. subst (λ pieces. ArePieces X Any p pieces rows) (cut-whole Any rows bytes some h) h.are_pieces;
    held = λ bytes h. subst (λ pieces. ArePieces X (IsHeld told) p pieces rows) (cut-whole (IsHeld told) rows bytes some h) h.are_pieces;
  }
  Ends-whole (b ∷ begun) rows told touches gone some are_open = absurd (no gone)
    where
      no : b ∷ begun ≡ [] → ⊥
      no e = cc

  some-piece : (bytes : List ℕ) → 1 ≤ length (map (leaf_part X) (chunks p bytes))
  some-piece bytes = omega (arith, length-map (chunks p bytes) (leaf_part X))

  stands : (P : Held → Type 0) (meta : Meta) (bytes : List ℕ) (rows : List (List Part)) (part : Part) → ArePieces X P p (chunks p bytes) rows → AllByRecursion P (close_all_held X meta rows)
      → part ∷ [] ≡ close_all X meta rows → (part.entry ≡ (file_plan X p meta bytes).entry) × AllByRecursion P (file_plan X p meta bytes).blocks
  stands P meta bytes rows part pieces nodes is =
      let row = map (leaf_part X) (chunks p bytes) in
      let top = all-over X p.width two P meta rows row pieces.rows_are (some-piece bytes) nodes in
      let parts : part ∷ [] ≡ (over X meta p.width row).1 ∷ [] = is ∙ top.0 in
      let part_is : part ≡ (over X meta p.width row).1 = cc in (
        ap (λ (m : Part). m.entry) part_is ∙ ap (λ plan. plan.entry) (plan-over X p meta bytes),
        subst (λ plan. AllByRecursion P plan.blocks) (plan-over X p meta bytes) (both P (map (leaf_held X) (chunks p bytes)) (over X meta p.width row).0 pieces.held top.1),
      )

  -- what was saved and what closing saves are all blocks of the plan
  count-is : (meta : Meta) (bytes : List ℕ) (rows : List (List Part)) → ArePieces X Any p (chunks p bytes) rows → saved_all p.width rows + length (close_all_held X meta rows) ≡ length (file_plan X p meta bytes).blocks
  count-is meta bytes rows pieces =
      let row = map (leaf_part X) (chunks p bytes) in
      let top = all-over X p.width two Any meta rows row pieces.rows_are (some-piece bytes) (any X p two _) in
      omega (
        arith,
        top.2,
        length-map (chunks p bytes) (leaf_part X),
        length-map (chunks p bytes) (leaf_held X),
        length-append (map (leaf_held X) (chunks p bytes)) (over X meta p.width row).0,
        ap (λ plan. length plan.blocks) (plan-over X p meta bytes),
      )

  -- what was saved so far is no more than the plan of what was fed
  pub saved-most : (meta : Meta) (bytes begun : List ℕ) (rows : List (List Part)) → Builds X Any p bytes begun rows → saved_all p.width rows ≤ length (file_plan X p meta bytes).blocks
  saved-most meta bytes begun rows h = by h.pieces h.cut h.whole h.are_pieces
    where
      nothing : (rows : List (List Part)) → AreAll X p.width Any [] rows → saved_all p.width rows ≤ 0
      nothing [] h = omega arith
      nothing (g ∷ []) h = omega (arith, ap length h.1, length-append h.0 g)
      nothing (g ∷ f ∷ gs) h = absurd (omega (arith, ap length h.1, length-append h.0 g, h.4.4))

      by : (pieces : List (List ℕ)) → bytes ≡ joined pieces ++ begun → AllByRecursion (λ piece. length piece ≡ p.chunk) pieces → ArePieces X Any p pieces rows
          → saved_all p.width rows ≤ length (file_plan X p meta bytes).blocks
      by [] cut whole are = omega (arith, nothing rows are.rows_are)
      by (f ∷ pieces) cut whole are =
          let count = count-is meta (joined (f ∷ pieces)) rows (subst (λ l. ArePieces X Any p l rows) (sym (groups-exact p.chunk pos f pieces whole)) are) in
          omega (arith, count, more-blocks X p meta (joined (f ∷ pieces)) begun, ap (λ l. length (file_plan X p meta l).blocks) cut)

  -- a call that touched nothing, one that gave up at a whole piece, and one that gave up before it took all or behind what it took
  pub up-to-none : (bytes begun : List ℕ) (rows : List (List Part)) (touches : ℕ) → SavesUpTo X p bytes begun rows touches touches
  up-to-none bytes begun rows touches = λ front h. omega (arith, saved-most none front begun rows h, more-blocks X p none front bytes)

  pub up-to-piece : (bytes begun piece : List ℕ) (rows : List (List Part)) (touches touches_now : ℕ) → begun ++ bytes ≡ piece → length piece ≡ p.chunk
      → touches_now + saved_all p.width rows ≤ touches + saved_all p.width (add_row X p.width (leaf_part X piece) rows) → SavesUpTo X p bytes begun rows touches touches_now
  up-to-piece bytes begun piece rows touches touches_now is whole most = λ front h.
      let now = builds-piece X p two Any Any front bytes begun piece rows (add_row X p.width (leaf_part X piece) rows) is whole
      (λ pieces are. pieces-add X p two Any pieces piece rows tt (any X p two _) are) h in
      omega (arith, most, saved-most none (front ++ bytes) [] (add_row X p.width (leaf_part X piece) rows) now)

  pub up-to-front : (a b begun : List ℕ) (rows : List (List Part)) (touches touches_now : ℕ) → SavesUpTo X p a begun rows touches touches_now → SavesUpTo X p (a ++ b) begun rows touches touches_now
  up-to-front a b begun rows touches touches_now most = λ front h.
      omega (arith, most front h, more-blocks X p none (front ++ a) b, ap (λ l. length (file_plan X p none l).blocks) (append_assoc front a b))

  pub up-to-behind : (a b begun begun_mid : List ℕ) (rows rows_mid : List (List Part)) (told told_mid : Told) (touches touches_mid touches_now : ℕ)
      → Feeds X p a begun begun_mid rows rows_mid told told_mid touches touches_mid → SavesUpTo X p b begun_mid rows_mid touches_mid touches_now → SavesUpTo X p (a ++ b) begun rows touches touches_now
  up-to-behind a b begun begun_mid rows rows_mid told told_mid touches touches_mid touches_now first most = λ front h.
      omega (arith, first.saves, most (front ++ a) (first.fed front h), ap (λ l. length (file_plan X p none l).blocks) (append_assoc front a b))

  pub up-to-done : (bytes begun begun_now : List ℕ) (rows rows_now : List (List Part)) (told told_now : Told) (touches touches_now : ℕ)
      → Feeds X p bytes begun begun_now rows rows_now told told_now touches touches_now → SavesUpTo X p bytes begun rows touches touches_now
  up-to-done bytes begun begun_now rows rows_now told told_now touches touches_now feeds = λ front h.
      omega (arith, feeds.saves, saved-most none (front ++ bytes) begun_now rows_now (feeds.fed front h))

  -- the last piece
  pub last-most : (meta : Meta) (begun : List ℕ) (rows : List (List Part)) (touches touches_now : ℕ) → (1 ≤ length begun) ⊎ (last_in rows ≡ []) → length begun < p.chunk
      → touches_now + saved_all p.width rows ≤ touches + saved_all p.width (add_row X p.width (leaf_part X begun) rows)
      → (bytes : List ℕ) → Builds X Any p bytes begun rows → touches_now + saved_all p.width rows ≤ touches + length (file_plan X p meta bytes).blocks
  last-most meta begun rows touches touches_now last short most bytes h =
      let now = subst (λ pieces. ArePieces X Any p pieces (add_row X p.width (leaf_part X begun) rows)) (cut-last Any begun rows bytes last short h)
      (pieces-add X p two Any h.pieces begun rows tt (any X p two _) h.are_pieces) in
      omega (arith, most, count-is meta bytes (add_row X p.width (leaf_part X begun) rows) now)

  -- the last piece is saved among the blocks of the plan, with the nodes of the groups that it fills
  pub last-saves : (meta : Meta) (begun : List ℕ) (rows : List (List Part)) (told told_now : Told) → (1 ≤ length begun) ⊎ (last_in rows ≡ []) → length begun < p.chunk
      → SavesAmong X (leaf_held X begun ∷ add_held X p.width (leaf_part X begun) rows) told told_now
      → (bytes : List ℕ) → Builds X Any p bytes begun rows → SavesAmong X (file_plan X p meta bytes).blocks told told_now
  last-saves meta begun rows told told_now last short saves bytes h =
      piece-saves X p two meta bytes h.pieces [] begun rows told told_now (sym (cut-last Any begun rows bytes last short h)) h.are_pieces saves

  -- the nodes that are saved as the rows are closed
  pub closed-most : (meta : Meta) (begun : List ℕ) (rows rows_now : List (List Part)) (told told_mid : Told) (touches touches_mid touches_now : ℕ) → Ends X p begun rows rows_now told told_mid touches touches_mid
      → touches_now ≤ touches_mid + length (close_all_held X meta rows_now)
      → (bytes : List ℕ) → Builds X Any p bytes begun rows → touches_now + saved_all p.width rows ≤ touches + length (file_plan X p meta bytes).blocks
  closed-most meta begun rows rows_now told told_mid touches touches_mid touches_now ends nodes bytes h = omega (arith, nodes, ends.saves, count-is meta bytes rows_now (ends.fed bytes h))

  pub closed-all : (meta : Meta) (begun : List ℕ) (rows rows_now : List (List Part)) (told told_mid : Told) (touches touches_mid touches_now : ℕ) → Ends X p begun rows rows_now told told_mid touches touches_mid
      → touches_now ≡ touches_mid + length (close_all_held X meta rows_now)
      → (bytes : List ℕ) → Builds X Any p bytes begun rows → touches_now + saved_all p.width rows ≡ touches + length (file_plan X p meta bytes).blocks
  closed-all meta begun rows rows_now told told_mid touches touches_mid touches_now ends nodes bytes h = omega (arith, nodes, ends.saves, count-is meta bytes rows_now (ends.fed bytes h))

  pub entry-is : (meta : Meta) (begun : List ℕ) (rows rows_now : List (List Part)) (told told_mid : Told) (touches touches_mid : ℕ) (part : Part) → Ends X p begun rows rows_now told told_mid touches touches_mid
      → part ∷ [] ≡ close_all X meta rows_now → (bytes : List ℕ) → Builds X Any p bytes begun rows → part.entry ≡ (file_plan X p meta bytes).entry
  entry-is meta begun rows rows_now told told_mid touches touches_mid part ends is bytes h = (stands Any meta bytes rows_now part (ends.fed bytes h) (any X p two _) is).0

  pub blocks-held : (meta : Meta) (begun : List ℕ) (rows rows_now : List (List Part)) (told told_mid told_now : Told) (touches touches_mid : ℕ) (part : Part) → Ends X p begun rows rows_now told told_mid touches touches_mid
      → KeepsGood X told_mid told_now → Holds told_now (close_all_held X meta rows_now) → part ∷ [] ≡ close_all X meta rows_now
      → (bytes : List ℕ) → Builds X (IsHeld told) p bytes begun rows → Holds told_now (file_plan X p meta bytes).blocks
  blocks-held meta begun rows rows_now told told_mid told_now touches touches_mid part ends keeps nodes is bytes h =
      held-each told_now (file_plan X p meta bytes).blocks
      (stands (IsHeld told_now) meta bytes rows_now part
      (pieces-mono X p (IsHeld told_mid) (IsHeld told_now) (held-mono X p told_mid told_now keeps) (chunks p bytes) rows_now (ends.held bytes h))
      (each-held told_now _ nodes) is).1

-- the last part, by what the code tests
pub no-last : (o : Open) → o.last ≡ None → last_in (groups_in o) ≡ []
no-last o gone = ap option_to_list gone

pub some-last : (o : Open) → o.last ≢ None → 1 ≤ length (last_in (groups_in o))
some-last o some = by o.last refl
  where
    by : (last : Option Part) → o.last ≡ last → 1 ≤ length (option_to_list last)
    by None e = absurd (some e)
    by (Some m) e = omega arith

-- the same of a builder
pub most-by : (X : List ℕ → List ℕ) (b : Building) (piece : List ℕ) (touches touches_now : ℕ) → SavesUpTo X b.profile piece b.begun b.rows touches touches_now
    → (bytes : List ℕ) → HasFed X bytes b → touches_now + saved_by b ≤ touches + length (file_plan X b.profile none (bytes ++ piece)).blocks
unfolding HasFed saved_by
most-by X b piece touches touches_now most bytes h = most bytes h
