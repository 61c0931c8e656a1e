-- What a builder saves is among the blocks of the plan of each file that begins with what it was fed.
use Rattle.std.proofs.Common.{◌≡◌, ℕ, ◌+◌, ◌<◌, ◌≤◌, List, [], ◌∷◌, ◌++◌, length, ap, arith, sym, ◌∙◌, map, subst, cond, ◌⊎◌, inl, inr, append_assoc, length-append}
use Rattle.std.specs.List.{AllByRecursion, Contains}
use Rattle.std.proofs.lemmas.List.{append-nil, length-map, map-append}
use Rattle.std.proofs.lemmas.Bool.{cases_lt}
use Rattle.uf_cid.specs.Blocks.{Held}
use Rattle.uf_store.specs.Contents.{Told}
use Rattle.uf_store.specs.Among.{SavesAmong}
use Rattle.uf_store.proofs.Among.{SavesAmong-more, SavesAmong-refl, SavesAmong-trans, among-refl}
use Rattle.uf_tree.specs.Cutting.{joined}
use Rattle.uf_tree.specs.FilePlan.{chunks, climb, groups, split_from, file_plan, node_part, node_held, leaf_part, leaf_held, top_part, top_held}
use Rattle.uf_tree.specs.declared.meta.Meta.{Meta}
use Rattle.uf_tree.specs.declared.nodes.Part.{Part}
use Rattle.uf_tree.specs.declared.profile.Profile.{Profile}
use Rattle.uf_tree.proofs.Behind.{groups-behind}
use Rattle.uf_tree.proofs.Each.{front, back}
use Rattle.uf_build.specs.Building.{Any, ArePieces, Builds, SavesForBytes, SavesForFront}
use Rattle.uf_build.specs.Rows.{AreAll, AreRows, push_held, add_held, close_held, close_all_held}
use Rattle.uf_build.proofs.Carry.{above, over, over-more, over-one, none-above, is_below, not_below, length-push}
use Rattle.uf_build.proofs.Cutting.{groups-full, groups-front}

module _ (X : List ℕ → List ℕ) (w : ℕ) (two : 2 ≤ w) (P : Held → Type 0) (meta : Meta) where
  abbrev Each : List Held → Type 0
  Each l = AllByRecursion P l

  -- where P holds of all nodes over a row, it holds of that over one of its groups, and of those over the row above
  group-among : (row : List Part) (full gs : List (List Part)) (o : List Part) → w < length row → groups w row ≡ full ++ o ∷ gs → Each (over X meta w row).0
      → P (node_held X o) × Each (over X meta w (map (node_part X) full ++ node_part X o ∷ map (node_part X) gs)).0
  group-among row full gs o more cut each =
      let all : List (List Part) = full ++ o ∷ gs in
      let is : over X meta w row ≡ above X w two P meta all = over-more X w two P meta row more ∙ ap (above X w two P meta) cut in
      let both : Each (map (node_held X) all ++ (over X meta w (map (node_part X) all)).0) = subst (λ (z : List Held × Part). Each z.0) is each in
      let here = subst Each (map-append (node_held X) full (o ∷ gs)) (front P (map (node_held X) all) (over X meta w (map (node_part X) all)).0 both) in
      let later = back P (map (node_held X) all) (over X meta w (map (node_part X) all)).0 both in (
        (back P (map (node_held X) full) (node_held X o ∷ map (node_held X) gs) here).0,
        subst (λ (r : List Part). Each (over X meta w r).0) (map-append (node_part X) full (o ∷ gs)) later,
      )

  -- the nodes of the groups that a part fills are nodes over the row that goes on behind it
  push-among : (rows : List (List Part)) (row : List Part) (m n : Part) (rest : List Part) → AreRows X w Any row rows → Each (over X meta w (row ++ m ∷ n ∷ rest)).0 → Each (push_held X w m rows)
  push-among [] row m n rest h each = tt
  push-among (g ∷ gs) row m n rest h each =
      by (cases_lt (length g + 1) w) (λ later. push-among gs (map (node_part X) h.0) (node_part X (g ++ m ∷ [])) (node_part X (split_from w w (n ∷ rest)).0) (map (node_part X) (split_from w w (n ∷ rest)).1) h.6 later)
    where
      node : Part
      node = node_part X (g ++ m ∷ [])

      again : row ++ m ∷ n ∷ rest ≡ joined h.0 ++ ((g ++ m ∷ []) ++ n ∷ rest)
      again = ap (λ r. r ++ m ∷ n ∷ rest) h.1 ∙ append_assoc (joined h.0) g (m ∷ n ∷ rest) ∙ ap (λ t. joined h.0 ++ t) (sym (append_assoc g (m ∷ []) (n ∷ rest)))

      by : (length g + 1 < w) ⊎ (w ≤ length g + 1) → (Each (over X meta w (map (node_part X) h.0 ++ node ∷ map (node_part X) (groups w (n ∷ rest)))).0 → Each (push_held X w node gs))
          → Each (push_held X w m (g ∷ gs))
      by (inl short) later = subst (λ b. Each (cond b [] (node_held X (g ++ m ∷ []) ∷ push_held X w node gs))) (sym (is_below _ w short)) tt
      by (inr long) later =
          let o : List Part = g ++ m ∷ [] in
          let t : List Part = n ∷ rest in
          let size : length o ≡ length g + 1 = length-push g m in
          let whole : length o ≡ w = omega (arith, size, h.3, long) in
          let both : length (o ++ t) ≡ length o + length t = length-append o t in
          let cut : groups w (joined h.0 ++ (o ++ t)) ≡ h.0 ++ o ∷ groups w t =
          groups-front w (omega arith) h.0 (o ++ t) h.2 (omega (arith, both, size)) ∙ ap (λ (l : List (List Part)). h.0 ++ l) (groups-behind w (omega arith) o t whole (omega arith)) in
          let more : w < length (joined h.0 ++ (o ++ t)) = omega (arith, whole, both, length-append (joined h.0) (o ++ t)) in
          let nodes = group-among (joined h.0 ++ (o ++ t)) h.0 (groups w t) o more cut (subst (λ (r : List Part). Each (over X meta w r).0) again each) in
          subst (λ b. Each (cond b [] (node_held X (g ++ m ∷ []) ∷ push_held X w node gs))) (sym (not_below _ w long)) (nodes.0, later nodes.1)

  add-among : (rows : List (List Part)) (row : List Part) (m : Part) (rest : List Part) → AreAll X w Any row rows → Each (over X meta w (row ++ m ∷ rest)).0 → Each (add_held X w m rows)
  add-among [] row m rest h each = tt
  add-among ([] ∷ gs) row m rest h each = tt
  add-among ((n ∷ []) ∷ gs) row m rest h each =
      push-among gs h.0 n m rest h.4 (subst (λ (r : List Part). Each (over X meta w r).0) (ap (λ r. r ++ m ∷ rest) h.1 ∙ append_assoc h.0 (n ∷ []) (m ∷ rest)) each)
  add-among ((n ∷ k ∷ ns) ∷ gs) row m rest h each = absurd (omega (arith, h.2))

  -- the nodes that are saved as the rows are closed are nodes over the whole row
  close-among : (g : List Part) (gs : List (List Part)) (row : List Part) (c : Part) → AreRows X w Any row (g ∷ gs) → Each (over X meta w (row ++ c ∷ [])).0 → Each (close_held X meta (g ∷ gs) c)
  close-among g [] row c h each =
      let none : h.0 ≡ [] = none-above X w two h.0 h.6 in
      let whole : row ++ c ∷ [] ≡ g ++ c ∷ [] = ap (λ r. r ++ c ∷ []) (h.1 ∙ ap (λ full. joined full ++ g) none) in
      let one = over-one X w two P meta (g ++ c ∷ []) (omega (arith, length-push g c, h.3)) in
      let top : Each (top_held X meta (g ++ c ∷ [])) = subst (λ (z : List Held × Part). Each z.0) one (subst (λ (r : List Part). Each (over X meta w r).0) whole each) in
      subst Each (sym (append-nil (top_held X meta (g ++ c ∷ [])))) top
  close-among g (g' ∷ gs') row c h each =
      let o : List Part = g ++ c ∷ [] in
      let again : row ++ c ∷ [] ≡ joined h.0 ++ o = ap (λ r. r ++ c ∷ []) h.1 ∙ append_assoc (joined h.0) g (c ∷ []) in
      let many : 1 ≤ length h.0 = omega (arith, length-map h.0 (node_part X), h.6.4) in
      let cut : groups w (joined h.0 ++ o) ≡ h.0 ++ o ∷ [] = groups-full w (omega arith) h.0 o h.2 (omega (arith, length-push g c)) (omega (arith, length-push g c, h.3)) in
      let nodes = group-among (joined h.0 ++ o) h.0 [] o (longer h.0 o h.2 many (omega (arith, length-push g c))) cut (subst (λ (r : List Part). Each (over X meta w r).0) again each) in
      (nodes.0, close-among g' gs' (map (node_part X) h.0) (node_part X o) h.6 nodes.1)
    where
      longer : (full : List (List Part)) (o : List Part) → AllByRecursion (λ f. length f ≡ w) full → 1 ≤ length full → 1 ≤ length o → w < length (joined full ++ o)
      longer [] o h some j = absurd (omega arith)
      longer (f ∷ full) o h some j = omega (arith, h.0, j, length-append f (joined full), length-append (joined (f ∷ full)) o)

  all-among : (rows : List (List Part)) (row : List Part) → AreAll X w Any row rows → Each (over X meta w row).0 → Each (close_all_held X meta rows)
  all-among [] row h each = tt
  all-among ([] ∷ gs) row h each = tt
  all-among ((m ∷ []) ∷ []) row h each =
      let whole : row ≡ m ∷ [] = h.1 ∙ ap (λ r. r ++ m ∷ []) h.4 in
      let top = subst (λ (z : List Held × Part). Each z.0) (over-one X w two P meta (m ∷ []) (omega arith)) (subst (λ (r : List Part). Each (over X meta w r).0) whole each) in
      subst Each (sym (append-nil (top_held X meta (m ∷ [])))) top
  all-among ((m ∷ []) ∷ g ∷ gs) row h each = close-among g gs h.0 m h.4 (subst (λ (r : List Part). Each (over X meta w r).0) h.1 each)
  all-among ((m ∷ n ∷ ms) ∷ gs) row h each = absurd (omega (arith, h.2))

-- a plan has the blocks of the pieces, and those over the row of them
pub plan-over : (X : List ℕ → List ℕ) (p : Profile) (meta : Meta) (bytes : List ℕ) → (record {
  entry = (over X meta p.width (map (leaf_part X) (chunks p bytes))).1.entry;
  blocks = map (leaf_held X) (chunks p bytes) ++ (over X meta p.width (map (leaf_part X) (chunks p bytes))).0;
}) ≡ file_plan X p meta bytes
unfolding file_plan
plan-over X p meta bytes =
    ap (λ n. let under = climb X p.width n (map (leaf_part X) (chunks p bytes)) in record {
      entry = (top_part X meta under.1).entry;
      blocks = map (leaf_held X) (chunks p bytes) ++ (under.0 ++ top_held X meta under.1);
    }) (length-map (chunks p bytes) (leaf_part X))

module _ (X : List ℕ → List ℕ) (p : Profile) (two : 2 ≤ p.width) (meta : Meta) where
  -- a piece of a file, and the nodes of the groups that it fills
  piece-among : (P : Held → Type 0) (bytes : List ℕ) (pieces rest : List (List ℕ)) (piece : List ℕ) (rows : List (List Part)) → chunks p bytes ≡ pieces ++ piece ∷ rest → ArePieces X Any p pieces rows
      → AllByRecursion P (file_plan X p meta bytes).blocks → AllByRecursion P (leaf_held X piece ∷ add_held X p.width (leaf_part X piece) rows)
  piece-among P bytes pieces rest piece rows cut are each =
      let row = map (leaf_part X) (chunks p bytes) in
      let leaves = map (leaf_held X) (chunks p bytes) in
      let all : AllByRecursion P (leaves ++ (over X meta p.width row).0) = subst (λ plan. AllByRecursion P plan.blocks) (sym (plan-over X p meta bytes)) each in
      let leaf = subst (AllByRecursion P) (ap (map (leaf_held X)) cut ∙ map-append (leaf_held X) pieces (piece ∷ rest)) (front P leaves (over X meta p.width row).0 all) in
      let nodes = subst (λ (r : List Part). AllByRecursion P (over X meta p.width r).0) (ap (map (leaf_part X)) cut ∙ map-append (leaf_part X) pieces (piece ∷ rest)) (back P leaves (over X meta p.width row).0 all) in (
        (back P (map (leaf_held X) pieces) (leaf_held X piece ∷ map (leaf_held X) rest) leaf).0,
        add-among X p.width two P meta rows (map (leaf_part X) pieces) (leaf_part X piece) (map (leaf_part X) rest) are.rows_are nodes,
      )

  -- what saves a piece of a file and such nodes saves among the blocks of its plan
  pub piece-saves : (bytes : List ℕ) (pieces rest : List (List ℕ)) (piece : List ℕ) (rows : List (List Part)) (told told_now : Told) → chunks p bytes ≡ pieces ++ piece ∷ rest → ArePieces X Any p pieces rows
      → SavesAmong X (leaf_held X piece ∷ add_held X p.width (leaf_part X piece) rows) told told_now → SavesAmong X (file_plan X p meta bytes).blocks told told_now
  piece-saves bytes pieces rest piece rows told told_now cut are saves =
      SavesAmong-more X (leaf_held X piece ∷ add_held X p.width (leaf_part X piece) rows) (file_plan X p meta bytes).blocks told told_now
      (piece-among (Contains (file_plan X p meta bytes).blocks) bytes pieces rest piece rows cut are (among-refl (file_plan X p meta bytes).blocks)) saves

  -- the same of what closes the rows
  pub close-saves : (bytes : List ℕ) (rows : List (List Part)) (told told_now : Told) → ArePieces X Any p (chunks p bytes) rows
      → SavesAmong X (close_all_held X meta rows) told told_now → SavesAmong X (file_plan X p meta bytes).blocks told told_now
  close-saves bytes rows told told_now are saves =
      let blocks = (file_plan X p meta bytes).blocks in
      let row = map (leaf_part X) (chunks p bytes) in
      let leaves = map (leaf_held X) (chunks p bytes) in
      let all : AllByRecursion (Contains blocks) (leaves ++ (over X meta p.width row).0) = subst (λ plan. AllByRecursion (Contains blocks) plan.blocks) (sym (plan-over X p meta bytes)) (among-refl blocks) in
      SavesAmong-more X (close_all_held X meta rows) blocks told told_now
      (all-among X p.width two (Contains blocks) meta rows row are.rows_are (back (Contains blocks) leaves (over X meta p.width row).0 all)) saves

module _ (X : List ℕ → List ℕ) (p : Profile) where
  -- a front that goes on, calls in a row, and the whole file
  pub front-more : (bytes more : List ℕ) (told told_now : Told) → SavesForFront X p bytes told told_now → SavesForFront X p (bytes ++ more) told told_now
  front-more bytes more told told_now saves = λ meta behind.
      subst (λ (l : List ℕ). SavesAmong X (file_plan X p meta l).blocks told told_now) (sym (append_assoc bytes more behind)) (saves meta (more ++ behind))

  pub front-trans : (bytes : List ℕ) (told told_mid told_now : Told) → SavesForFront X p bytes told told_mid → SavesForFront X p bytes told_mid told_now → SavesForFront X p bytes told told_now
  front-trans bytes told told_mid told_now first then = λ meta behind.
      SavesAmong-trans X (file_plan X p meta (bytes ++ behind)).blocks told told_mid told_now (first meta behind) (then meta behind)

  pub front-same : (bytes : List ℕ) (told : Told) → SavesForFront X p bytes told told
  front-same bytes told = λ meta behind. SavesAmong-refl X (file_plan X p meta (bytes ++ behind)).blocks told

  pub front-whole : (meta : Meta) (bytes : List ℕ) (told told_now : Told) → SavesForFront X p bytes told told_now → SavesAmong X (file_plan X p meta bytes).blocks told told_now
  front-whole meta bytes told told_now saves = subst (λ (l : List ℕ). SavesAmong X (file_plan X p meta l).blocks told told_now) (append-nil bytes) (saves meta [])

  -- what takes nothing, a whole piece, some bytes of the front, and some behind others
  pub for-none : (bytes begun : List ℕ) (rows : List (List Part)) (told : Told) → SavesForBytes X p bytes begun rows told told
  for-none bytes begun rows told = λ front h. front-same (front ++ bytes) told

  pub for-piece : 1 ≤ p.chunk → 2 ≤ p.width → (bytes begun piece : List ℕ) (rows : List (List Part)) (told told_now : Told) → begun ++ bytes ≡ piece → length piece ≡ p.chunk
      → SavesAmong X (leaf_held X piece ∷ add_held X p.width (leaf_part X piece) rows) told told_now → SavesForBytes X p bytes begun rows told told_now
  for-piece pos two bytes begun piece rows told told_now is whole saves = λ front h meta behind.
      let cut = cut-piece h.pieces behind h.whole in
      let all : (front ++ bytes) ++ behind ≡ joined h.pieces ++ (piece ++ behind) =
      ap (λ l. (l ++ bytes) ++ behind) h.cut ∙ ap (λ l. l ++ behind) (append_assoc (joined h.pieces) begun bytes ∙ ap (λ l. joined h.pieces ++ l) is) ∙ append_assoc (joined h.pieces) piece behind in
      piece-saves X p two meta ((front ++ bytes) ++ behind) h.pieces cut.0 piece rows told told_now (ap (chunks p) all ∙ cut.1) h.are_pieces saves
    where
      cut-piece : (pieces : List (List ℕ)) (behind : List ℕ) → AllByRecursion (λ piece. length piece ≡ p.chunk) pieces
          → (rest : List (List ℕ)) × (chunks p (joined pieces ++ (piece ++ behind)) ≡ pieces ++ piece ∷ rest)
      cut-piece pieces [] full = ([], ap (λ l. chunks p (joined pieces ++ l)) (append-nil piece) ∙ groups-full p.chunk pos pieces piece full (omega (arith, whole)) (omega (arith, whole)))
      cut-piece pieces (b ∷ behind) full = (
        groups p.chunk (b ∷ behind),
        groups-front p.chunk pos pieces (piece ++ b ∷ behind) full (omega (arith, length-append piece (b ∷ behind))) ∙ ap (λ gs. pieces ++ gs) (groups-behind p.chunk pos piece (b ∷ behind) whole (omega arith)),
      )

  pub for-front : (a b begun : List ℕ) (rows : List (List Part)) (told told_now : Told) → SavesForBytes X p a begun rows told told_now → SavesForBytes X p (a ++ b) begun rows told told_now
  for-front a b begun rows told told_now saves = λ front h.
      subst (λ (l : List ℕ). SavesForFront X p l told told_now) (append_assoc front a b) (front-more (front ++ a) b told told_now (saves front h))

  pub for-behind : (a b begun begun_mid : List ℕ) (rows rows_mid : List (List Part)) (told told_mid told_now : Told)
      → ((front : List ℕ) → Builds X Any p front begun rows → Builds X Any p (front ++ a) begun_mid rows_mid)
      → SavesForBytes X p a begun rows told told_mid → SavesForBytes X p b begun_mid rows_mid told_mid told_now → SavesForBytes X p (a ++ b) begun rows told told_now
  for-behind a b begun begun_mid rows rows_mid told told_mid told_now fed first then = λ front h.
      front-trans (front ++ (a ++ b)) told told_mid told_now (for-front a b begun rows told told_mid first front h)
      (subst (λ (l : List ℕ). SavesForFront X p l told_mid told_now) (append_assoc front a b) (then (front ++ a) (fed front h)))
