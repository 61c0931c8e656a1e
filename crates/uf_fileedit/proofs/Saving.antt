-- What is saved while a file is changed is of the new file.
use Rattle.std.proofs.Common.{◌≡◌, ℕ, zero, suc, ◌+◌, ◌-◌, ◌*◌, ◌^◌, ◌<◌, ◌≤◌, List, [], ◌∷◌, ◌++◌, length, map, take, drop, min, refl, ap, arith, sym, ◌∙◌, subst, add-one, Option, None, Some, ◌⊎◌, inl, inr, IsTrue}
use Rattle.std.specs.List.{AllByRecursion}
use Rattle.std.proofs.lemmas.Bool.{cases_lt}
use Rattle.std.proofs.lemmas.List.{length-drop}
use Rattle.uf_cid.specs.Blocks.{Held}
use Rattle.uf_cid.specs.declared.cid.Cid.{Cid}
use Rattle.uf_fileread.specs.Ranges.{IsFile}
use Rattle.uf_fileread.specs.declared.node_parts.NodeParts.{NodeParts}
use Rattle.uf_store.specs.Among.{SavesAmong}
use Rattle.uf_store.specs.Contents.{Told}
use Rattle.uf_store.specs.Keeping.{Agrees}
use Rattle.uf_store.specs.Writing.{IsSave, SavesOnly}
use Rattle.uf_store.proofs.Among.{SavesAmong-same, SavesAmong-trans}
use Rattle.uf_store.proofs.Writing.{SavesOnly-trans, agrees-between}
use Rattle.uf_tree.specs.Cutting.{joined}
use Rattle.uf_tree.specs.FilePlan.{file_plan, chunks, groups, leaf_held, node_held, row_held, rows_held, top_held}
use Rattle.uf_tree.specs.FileSub.{IsHeight, blocks_over, part_over, span}
use Rattle.uf_tree.specs.Metas.{none}
use Rattle.uf_tree.specs.Profiles.{is_profile}
use Rattle.uf_tree.specs.Roots.{root_over}
use Rattle.uf_tree.specs.Validity.{IsHash}
use Rattle.uf_tree.specs.declared.meta.Meta.{Meta}
use Rattle.uf_tree.specs.declared.nodes.Part.{Part}
use Rattle.uf_tree.specs.declared.profile.Profile.{Profile}
use Rattle.uf_tree.proofs.Rows.{below-rows}
use Rattle.uf_tree.proofs.Told.{kept}
use Rattle.uf_fileedit.specs.Changes.{AreOld, GivesAll, IsBelow, IsFirstOf, IsIn, IsOld, LiesWithin, blocks_of_all, old_blocks, overlaid, size_after}
use Rattle.uf_fileedit.specs.Planned.{AreHeights, bytes_over}
use Rattle.uf_fileedit.specs.Roots.{IsRootOf, IsRootOver}
use Rattle.uf_fileedit.specs.declared.layout.Heights.{Heights}
use Rattle.uf_fileedit.proofs.Among.{saves-more}
use Rattle.uf_fileedit.proofs.Bytes.{changed-nothing, changed-take, later, later-one, later-some, length-changed}
use Rattle.uf_fileedit.proofs.Edited.{new-length, old-agrees, old-fits, old-length, old-parts, pieces-joined, plan-blocks, row-among}
use Rattle.uf_fileedit.proofs.Kept.{agrees-among, all-in, each-in, in-back, in-front}
use Rattle.uf_fileedit.proofs.Numbers.{last as most_bytes, span-rises}
use Rattle.uf_fileedit.proofs.Remade.{agrees-none, base_at, grown_groups, nothing-old}
use Rattle.uf_fileedit.proofs.Roots.{root-alone}
use Rattle.uf_fileedit.proofs.Steps.{same-place}

-- ---- a leaf

leaf-among : (X : List ℕ → List ℕ) (c w : ℕ) (l : List ℕ) (a b : Told) → SavesAmong X (leaf_held X l ∷ []) a b → SavesAmong X (blocks_over X c w zero l) a b
unfolding blocks_over
leaf-among X c w l a b h = h

pub leaf-saves : (X : List ℕ → List ℕ) (p : Profile) (before now : Told) (top height size offset at : ℕ) (old : Option Part) (b piece : List ℕ) → height ≡ 0 → at ≡ min offset size → LiesWithin size offset piece
    → ((q : Profile) (b : List ℕ) → IsOld X q 0 old b → Agrees before (old_blocks X q 0 old b) → Agrees now (old_blocks X q 0 old b) → SavesAmong X (leaf_held X (overlaid size b at piece) ∷ []) before now)
    → IsOld X p (min top height) old b → Agrees before (old_blocks X p (min top height) old b) → Agrees now (old_blocks X p (min top height) old b)
    → SavesAmong X (blocks_over X p.chunk p.width height (overlaid size b offset piece)) before now
leaf-saves X p before now top height size offset at old b piece zero_is at_is within leaf is agrees agrees_now =
    let low : min top height ≡ 0 = omega arith in
    let same : overlaid size b at piece ≡ overlaid size b offset piece = ap (λ n. overlaid size b n piece) at_is ∙ same-place size offset b piece within in
    subst (λ h. SavesAmong X (blocks_over X p.chunk p.width h (overlaid size b offset piece)) before now) (sym zero_is)
    (leaf-among X p.chunk p.width (overlaid size b offset piece) before now
    (subst (λ l. SavesAmong X (leaf_held X l ∷ []) before now) same
    (leaf p b (subst (λ j. IsOld X p j old b) low is) (subst (λ j. Agrees before (old_blocks X p j old b)) low agrees) (subst (λ j. Agrees now (old_blocks X p j old b)) low agrees_now))))

-- ---- a node, and what is below it

module _ (X : List ℕ → List ℕ) (p : Profile) (k : ℕ) (l : List ℕ) where
  abbrev below_of : List Held
  below_of = blocks_of_all X p k (groups (span p.chunk p.width k) l)

  abbrev own_of : List Held
  own_of = node_held X (map (part_over X p.chunk p.width k) (groups (span p.chunk p.width k) l)) ∷ []

  under-node : (x : Held) → IsIn x below_of → IsIn x (blocks_over X p.chunk p.width (suc k) l)
  unfolding blocks_over
  under-node x h = inr h

  own-node : (x : Held) → IsIn x own_of → IsIn x (blocks_over X p.chunk p.width (suc k) l)
  unfolding blocks_over
  own-node x (inl e) = inl e
  own-node x (inr h) = absurd h

  -- what is saved of the parts below a node, and of the node
  saved-below : (n : ℕ) (a b : Told) → n ≡ k + 1 → SavesAmong X below_of a b → SavesAmong X (blocks_over X p.chunk p.width n l) a b
  saved-below n a b up h = saves-more X below_of (blocks_over X p.chunk p.width n l) a b (λ x is. subst (λ m. IsIn x (blocks_over X p.chunk p.width m l)) (sym (up ∙ add-one k)) (under-node x is)) h

  saved-own : (n : ℕ) (a b : Told) (news slice : List Part) → n ≡ k + 1 → slice ≡ news → news ≡ map (part_over X p.chunk p.width k) (groups (span p.chunk p.width k) l) → SavesAmong X (node_held X slice ∷ []) a b
      → SavesAmong X (blocks_over X p.chunk p.width n l) a b
  saved-own n a b news slice up sliced same h =
      saves-more X own_of (blocks_over X p.chunk p.width n l) a b (λ x is. subst (λ m. IsIn x (blocks_over X p.chunk p.width m l)) (sym (up ∙ add-one k)) (own-node x is))
      (subst (λ (m : List Part). SavesAmong X (node_held X m ∷ []) a b) (sliced ∙ same) h)

module _ (X : List ℕ → List ℕ) (p : Profile) (before low mid : Told) (top k size offset : ℕ) (old : Option Part) (b piece : List ℕ) (parts below : List Part) (same : low ≡ before)
    (is_below : IsBelow X p top k (old_blocks X p (min top (k + 1)) old b) parts b) (sliced_below : below ≡ parts)
    (saved : (gs : List (List ℕ)) → AreOld X p (span p.chunk p.width k) (min top k) below gs → Agrees low (blocks_of_all X p (min top k) gs) → Agrees mid (blocks_of_all X p (min top k) gs)
    → SavesAmong X (blocks_of_all X p k (groups (span p.chunk p.width k) (overlaid size (joined gs) offset piece))) low mid) (agrees : Agrees before (old_blocks X p (min top (k + 1)) old b)) where
  abbrev olds_here : List Held
  olds_here = old_blocks X p (min top (k + 1)) old b

  abbrev olds_below : List Held
  olds_below = blocks_of_all X p (min top k) is_below.gs

  are_here : AreOld X p (span p.chunk p.width k) (min top k) below is_below.gs
  are_here = subst (λ (l : List Part). AreOld X p (span p.chunk p.width k) (min top k) l is_below.gs) (sym sliced_below) is_below.are

  at_low : Agrees low olds_below
  at_low = subst (λ (t : Told). Agrees t olds_below) (sym same) (agrees-among before olds_below olds_here is_below.among agrees)

  bytes_are : overlaid size (joined is_below.gs) offset piece ≡ overlaid size b offset piece
  bytes_are = ap (λ l. overlaid size l offset piece) is_below.whole

  pub below-saves : Agrees mid (old_blocks X p (min top (k + 1)) old b) → SavesAmong X (blocks_over X p.chunk p.width (k + 1) (overlaid size b offset piece)) before mid
  below-saves agrees_mid =
      saved-below X p k (overlaid size b offset piece) (k + 1) before mid refl
      (subst (λ (t : Told). SavesAmong X (blocks_of_all X p k (groups (span p.chunk p.width k) (overlaid size b offset piece))) t mid) same
      (subst (λ l. SavesAmong X (blocks_of_all X p k (groups (span p.chunk p.width k) l)) low mid) bytes_are
      (saved is_below.gs are_here at_low (agrees-among mid olds_below olds_here is_below.among agrees_mid))))

  pub node-saves : (now : Told) (news slice : List Part) → SavesOnly X low mid → SavesOnly X mid now
      → ((gs : List (List ℕ)) → AreOld X p (span p.chunk p.width k) (min top k) below gs → Agrees low (blocks_of_all X p (min top k) gs) → Agrees mid (blocks_of_all X p (min top k) gs)
      → GivesAll X p mid (blocks_of_all X p (min top k) gs) k news (groups (span p.chunk p.width k) (overlaid size (joined gs) offset piece)))
      → slice ≡ news → SavesAmong X (node_held X slice ∷ []) mid now → Agrees now (old_blocks X p (min top (k + 1)) old b)
      → SavesAmong X (blocks_over X p.chunk p.width (k + 1) (overlaid size b offset piece)) before now
  node-saves now news slice adds saves gives sliced node agrees_now =
      let at_mid : Agrees mid olds_here = agrees-between X IsSave low mid now olds_here adds saves (record { first = subst (λ (t : Told). Agrees t olds_here) (sym same) agrees; last = agrees_now }) in
      let made = gives is_below.gs are_here at_low (agrees-among mid olds_below olds_here is_below.among at_mid) in
      SavesAmong-trans X (blocks_over X p.chunk p.width (k + 1) (overlaid size b offset piece)) before mid now (below-saves at_mid)
      (saved-own X p k (overlaid size b offset piece) (k + 1) mid now news slice refl sliced
      (made.same ∙ ap (λ l. map (part_over X p.chunk p.width k) (groups (span p.chunk p.width k) l)) bytes_are) node)

-- ---- a file that grows by a row

pub base-saves : (X : List ℕ → List ℕ) (p : Profile) (top h : ℕ) (low : h < top) (olds : List Part) (a b : Told) (row : List ℕ → List Held)
    → ((gs : List (List ℕ)) → AreOld X p (span p.chunk p.width h) (min top h) olds gs → Agrees a (blocks_of_all X p (min top h) gs) → Agrees b (blocks_of_all X p (min top h) gs) → SavesAmong X (row (joined gs)) a b)
    → (gs : List (List ℕ)) → AreOld X p (span p.chunk p.width (min (top - 1) h)) (min (top - 1) h) olds gs → length (joined gs) ≤ span p.chunk p.width top
    → Agrees a (blocks_of_all X p (min (top - 1) h) gs) → Agrees b (blocks_of_all X p (min (top - 1) h) gs) → SavesAmong X (row (joined gs)) a b
base-saves X p top h low olds a b row saved gs are fits agrees agrees_now =
    let same : min top h ≡ min (top - 1) h = omega arith in
    subst (λ k. Agrees a (blocks_of_all X p k gs) → Agrees b (blocks_of_all X p k gs) → SavesAmong X (row (joined gs)) a b) same
    (saved gs (base_at X p top h low olds gs are)) agrees agrees_now

-- the first part of a row that is higher than the old file, and the others
module _ (X : List ℕ → List ℕ) (good : IsHash X) (p : Profile) (ok : IsTrue (is_profile p)) (top h k size offset count cut : ℕ) (piece : List ℕ) (up : h ≡ k + 1) (low : top ≤ h) (some : 1 ≤ top) (count_is : count ≡ min (span p.chunk p.width h) most_bytes)
    (inside : span p.chunk p.width h < size) (small : size < 2 ^ 63) (cut_is : cut ≡ min (length piece) (count - offset)) (a b : Told) (olds : List Part) (first_saves : SavesOnly X a b)
    (saved : (gs : List (List ℕ)) → AreOld X p (span p.chunk p.width (min (top - 1) k)) (min (top - 1) k) olds gs → length (joined gs) ≤ span p.chunk p.width top → Agrees a (blocks_of_all X p (min (top - 1) k) gs) → Agrees b (blocks_of_all X p (min (top - 1) k) gs)
    → SavesAmong X (blocks_of_all X p k (groups (span p.chunk p.width k) (overlaid count (joined gs) offset (take cut piece)))) a b)
    (gs : List (List ℕ)) (are : AreOld X p (span p.chunk p.width (min (top - 1) h)) (min (top - 1) h) olds gs) (fits : length (joined gs) ≤ span p.chunk p.width top) (agrees : Agrees a (blocks_of_all X p (min (top - 1) h) gs)) where
  abbrev the_row : List Held
  the_row = blocks_of_all X p h (groups (span p.chunk p.width h) (overlaid size (joined gs) offset piece))

  abbrev the_first : List ℕ
  the_first = overlaid count (joined gs) offset (take cut piece)

  abbrev the_rest : List ℕ
  the_rest = overlaid (size - count) [] (offset - count) (take (length piece - cut) (drop cut piece))

  low_same : min (top - 1) k ≡ min (top - 1) h
  low_same = omega arith

  few : length (joined gs) ≤ span p.chunk p.width h
  few =
      let wide : 1 ≤ p.width = (let two : 2 ≤ p.width = (kept p ok).two in omega arith) in
      let rises : span p.chunk p.width top ≤ span p.chunk p.width h = span-rises p.chunk p.width top h wide low in
      omega arith

  row_is : groups (span p.chunk p.width h) (overlaid size (joined gs) offset piece) ≡ overlaid count (joined gs) offset (take cut piece) ∷ groups (span p.chunk p.width h) (overlaid (size - count) [] (offset - count) (take (length piece - cut) (drop cut piece)))
  row_is = grown_groups X good p ok h size offset count count cut piece count_is refl inside small cut_is (joined gs) few

  -- what is saved of the first part
  in_first : (c d : Told) → SavesAmong X (blocks_over X p.chunk p.width h the_first) c d → SavesAmong X the_row c d
  in_first c d h_saved =
      subst (λ l. SavesAmong X (blocks_of_all X p h l) c d) (sym row_is)
      (saves-more X (blocks_over X p.chunk p.width h the_first) (blocks_of_all X p h (the_first ∷ groups (span p.chunk p.width h) the_rest)) c d
      (λ x is. in-front x (blocks_over X p.chunk p.width h the_first) (blocks_of_all X p h (groups (span p.chunk p.width h) the_rest)) is) h_saved)

  -- and of the others
  in_rest : (c d : Told) → SavesAmong X (blocks_of_all X p h (groups (span p.chunk p.width h) the_rest)) c d → SavesAmong X the_row c d
  in_rest c d h_saved =
      subst (λ l. SavesAmong X (blocks_of_all X p h l) c d) (sym row_is)
      (saves-more X (blocks_of_all X p h (groups (span p.chunk p.width h) the_rest)) (blocks_of_all X p h (the_first ∷ groups (span p.chunk p.width h) the_rest)) c d
      (λ x is. in-back x (blocks_over X p.chunk p.width h the_first) (blocks_of_all X p h (groups (span p.chunk p.width h) the_rest)) is) h_saved)

  pub firsts-saves : Agrees b (blocks_of_all X p (min (top - 1) h) gs) → SavesAmong X the_row a b
  firsts-saves agrees_b =
      in_first a b (saved-below X p k the_first h a b up
      (subst (λ n. AreOld X p (span p.chunk p.width n) n olds gs → Agrees a (blocks_of_all X p n gs) → Agrees b (blocks_of_all X p n gs)
      → SavesAmong X (blocks_of_all X p k (groups (span p.chunk p.width k) (overlaid count (joined gs) offset (take cut piece)))) a b) low_same
      (λ x y z. saved gs x fits y z) are agrees agrees_b))

  module _ (c : Told) (firsts slice : List Part) (node_only : SavesOnly X b c)
      (made : (gs : List (List ℕ)) → AreOld X p (span p.chunk p.width (min (top - 1) k)) (min (top - 1) k) olds gs → length (joined gs) ≤ span p.chunk p.width top → Agrees a (blocks_of_all X p (min (top - 1) k) gs) → Agrees b (blocks_of_all X p (min (top - 1) k) gs)
      → GivesAll X p b (blocks_of_all X p (min (top - 1) k) gs) k firsts (groups (span p.chunk p.width k) (overlaid count (joined gs) offset (take cut piece))))
      (sliced : slice ≡ firsts) (node : SavesAmong X (node_held X slice ∷ []) b c) where
    pub first-saves : Agrees c (blocks_of_all X p (min (top - 1) h) gs) → SavesAmong X the_row a c
    first-saves agrees_c =
        let at_b : Agrees b (blocks_of_all X p (min (top - 1) h) gs) = agrees-between X IsSave a b c (blocks_of_all X p (min (top - 1) h) gs) first_saves node_only (record { first = agrees; last = agrees_c }) in
        let one : GivesAll X p b (blocks_of_all X p (min (top - 1) h) gs) k firsts (groups (span p.chunk p.width k) (overlaid count (joined gs) offset (take cut piece)))
        = subst (λ n. AreOld X p (span p.chunk p.width n) n olds gs → Agrees a (blocks_of_all X p n gs) → Agrees b (blocks_of_all X p n gs) → GivesAll X p b (blocks_of_all X p n gs) k firsts (groups (span p.chunk p.width k) (overlaid count (joined gs) offset (take cut piece)))) low_same
        (λ x y z. made gs x fits y z) are agrees at_b in
        SavesAmong-trans X the_row a b c (firsts-saves at_b) (in_first b c (saved-own X p k the_first h b c firsts slice up sliced one.same node))

    pub rest-saves : (d : Told) (none_old : List Part) (away : ℕ) → away ≡ offset - count → none_old ≡ [] → SavesOnly X c d
        → ((gs : List (List ℕ)) → AreOld X p (span p.chunk p.width h) (min top h) none_old gs → Agrees c (blocks_of_all X p (min top h) gs) → Agrees d (blocks_of_all X p (min top h) gs)
        → SavesAmong X (blocks_of_all X p h (groups (span p.chunk p.width h) (overlaid (size - count) (joined gs) away (take (length piece - cut) (drop cut piece))))) c d)
        → Agrees d (blocks_of_all X p (min (top - 1) h) gs) → SavesAmong X the_row a d
    rest-saves d none_old away away_is none_is rest_only saved_rest agrees_d =
        let a_c : SavesOnly X a c = SavesOnly-trans X a b c first_saves node_only in
        let at_c : Agrees c (blocks_of_all X p (min (top - 1) h) gs) = agrees-between X IsSave a c d (blocks_of_all X p (min (top - 1) h) gs) a_c rest_only (record { first = agrees; last = agrees_d }) in
        let more = subst (λ n. SavesAmong X (blocks_of_all X p h (groups (span p.chunk p.width h) (overlaid (size - count) [] n (take (length piece - cut) (drop cut piece))))) c d) away_is
        (saved_rest [] (nothing-old X p (span p.chunk p.width h) (min top h) none_old none_is) (agrees-none c (blocks_of_all X p (min (top - 1) h) gs) at_c) (agrees-none d (blocks_of_all X p (min (top - 1) h) gs) agrees_d)) in
        SavesAmong-trans X the_row a c d (first-saves at_c) (in_rest c d more)

-- ---- a piece of zeros

module _ (X : List ℕ → List ℕ) (c : ℕ) (pos_c : 1 ≤ c) where
  abbrev zeros : Held
  zeros = leaf_held X (overlaid c [] zero [])

  empty_is : (l : List ℕ) → length l ≤ 0 → l ≡ []
  empty_is [] low = refl
  empty_is (y ∷ l) low = absurd (omega arith)

  take_none : (n : ℕ) (l : List ℕ) → (1 ≤ length l → n ≡ 0) → take n l ≡ []
  take_none zero l h = refl
  take_none (suc n) [] h = refl
  take_none (suc n) (y ∷ l) h = absurd (let e : suc n ≡ 0 = h (omega arith) in omega arith)

  -- where no old bytes are left and the gap has room for it, the next piece is one of zeros
  zero-first : (size o : ℕ) (b x : List ℕ) → length b ≤ 0 → c ≤ size → (1 ≤ length x → c ≤ o) → IsIn zeros (map (leaf_held X) (later c size b o x))
  zero-first size o b x low room far =
      let one = later-one c size c b o x pos_c (omega arith) (omega arith) in
      let no_b : take c b ≡ [] = ap (take c) (empty_is b low) ∙ take_none c [] (λ h. absurd (omega arith)) in
      let no_x : take (c - o) x ≡ [] = take_none (c - o) x (λ h. let f = far h in omega arith) in
      let head : overlaid c (take c b) o (take (c - o) x) ≡ overlaid c [] zero [] = ap (λ l. overlaid c l o (take (c - o) x)) no_b ∙ ap (overlaid c [] o) no_x ∙ changed-nothing c [] o in
      subst (λ l. IsIn zeros (map (leaf_held X) l)) (sym one) (inl (ap (leaf_held X) (sym head)))

  zero-leaf : (fuel size o to : ℕ) (b x : List ℕ) → length b ≤ fuel → length b + 2 * c ≤ to → to ≤ size → (1 ≤ length x → to ≤ o) → IsIn zeros (map (leaf_held X) (later c size b o x))
  zero-leaf zero size o to b x few room inside far = zero-first size o b x few (omega arith) (λ h. let f = far h in omega arith)
  zero-leaf (suc fuel) size o to b x few room inside far = by (zero-leaf fuel (size - c) (o - c) (to - c) (drop c b) (drop (c - o) x)) (cases_lt 0 (length b))
    where
      old_left : length (drop c b) ≡ length b - c
      old_left = length-drop c b

      new_left : length (drop (c - o) x) ≡ length x - (c - o)
      new_left = length-drop (c - o) x

      next : IsIn zeros (map (leaf_held X) (later c (size - c) (drop c b) (o - c) (drop (c - o) x))) → IsIn zeros (map (leaf_held X) (later c size b o x))
      next h = subst (λ l. IsIn zeros (map (leaf_held X) l)) (sym (later-one c size c b o x pos_c (omega arith) (omega arith))) (inr h)

      further : (length (drop c b) ≤ fuel → length (drop c b) + 2 * c ≤ to - c → to - c ≤ size - c → (1 ≤ length (drop (c - o) x) → to - c ≤ o - c) → IsIn zeros (map (leaf_held X) (later c (size - c) (drop c b) (o - c) (drop (c - o) x))))
          → (c < length b) ⊎ (length b ≤ c) → IsIn zeros (map (leaf_held X) (later c (size - c) (drop c b) (o - c) (drop (c - o) x)))
      further again (inl more) = again (let e = old_left in omega arith) (let e = old_left in omega arith) (omega arith) (λ h. let e = new_left in let f = far (omega arith) in omega arith)
      further again (inr less) = zero-first (size - c) (o - c) (drop c b) (drop (c - o) x) (let e = old_left in omega arith) (omega arith) (λ h. let e = new_left in let f = far (omega arith) in omega arith)

      by : (length (drop c b) ≤ fuel → length (drop c b) + 2 * c ≤ to - c → to - c ≤ size - c → (1 ≤ length (drop (c - o) x) → to - c ≤ o - c) → IsIn zeros (map (leaf_held X) (later c (size - c) (drop c b) (o - c) (drop (c - o) x))))
          → (0 < length b) ⊎ (length b ≤ 0) → IsIn zeros (map (leaf_held X) (later c size b o x))
      by again (inl some) = next (further again (cases_lt c (length b)))
      by again (inr none_left) = zero-first size o b x none_left (omega arith) (λ h. let f = far h in omega arith)

module _ (X : List ℕ → List ℕ) (p : Profile) (ok : IsTrue (is_profile p)) where
  left-part : (P : Held → Type 0) (l m : List Held) → AllByRecursion P (l ++ m) → AllByRecursion P l
  left-part P [] m h = tt
  left-part P (x ∷ l) m h = (h.0, left-part P l m h.1)

  first-row : (P : Held → Type 0) (b : List ℕ) (k : ℕ) → AllByRecursion P (rows_held X p b k) → AllByRecursion P (map (leaf_held X) (chunks p b))
  unfolding rows_held row_held
  first-row P b zero h = h
  first-row P b (suc k) h = first-row P b k (left-part P (rows_held X p b k) (row_held X p b (suc k)) h)

  -- the leaves are of the parts of each height
  leaves-in : (k : ℕ) (b : List ℕ) (x : Held) → IsIn x (map (leaf_held X) (groups p.chunk b)) → IsIn x (blocks_of_all X p k (groups (span p.chunk p.width k) b))
  leaves-in k b x is =
      let all = blocks_of_all X p k (groups (span p.chunk p.width k) b) in
      all-in (λ (y : Held). IsIn y (blocks_of_all X p k (groups (span p.chunk p.width k) b))) (map (leaf_held X) (groups p.chunk b)) x
      (first-row (λ (y : Held). IsIn y (blocks_of_all X p k (groups (span p.chunk p.width k) b))) b k
      (below-rows X p none b (kept p ok).some (kept p ok).two (λ (y : Held). IsIn y (blocks_of_all X p k (groups (span p.chunk p.width k) b))) k
      (each-in (λ (y : Held). IsIn y (blocks_of_all X p k (groups (span p.chunk p.width k) b))) all (λ y h. h)))) is

  -- a piece of zeros that is saved for a gap is of the new file
  module _ (k size offset from to : ℕ) (b piece : List ℕ) (a c : Told) (from_is : from ≡ min (length b) size) (end_in : to ≤ size) (far : 1 ≤ length piece → to ≤ offset)
      (saved : SavesAmong X (leaf_held X (overlaid p.chunk [] zero []) ∷ []) a c) (nothing : to < from + 2 * p.chunk → c ≡ a) where
    gap-in : from + 2 * p.chunk ≤ to → IsIn (leaf_held X (overlaid p.chunk [] zero [])) (blocks_of_all X p k (groups (span p.chunk p.width k) (overlaid size b offset piece)))
    gap-in room =
        let pos_c : 1 ≤ p.chunk = (kept p ok).some in
        let one : IsIn (leaf_held X (overlaid p.chunk [] zero [])) (map (leaf_held X) (later p.chunk size b offset piece))
        = zero-leaf X p.chunk pos_c (length b) size offset to b piece (omega arith) (omega arith) end_in far in
        leaves-in k (overlaid size b offset piece) (leaf_held X (overlaid p.chunk [] zero []))
        (subst (λ l. IsIn (leaf_held X (overlaid p.chunk [] zero [])) (map (leaf_held X) l)) (later-some p.chunk size b offset piece (omega arith)) one)

    pub zeros-saves : SavesAmong X (blocks_of_all X p k (groups (span p.chunk p.width k) (overlaid size b offset piece))) a c
    zeros-saves = by (cases_lt to (from + 2 * p.chunk))
      where
        one-in : from + 2 * p.chunk ≤ to → (x : Held) → IsIn x (leaf_held X (overlaid p.chunk [] zero []) ∷ []) → IsIn x (blocks_of_all X p k (groups (span p.chunk p.width k) (overlaid size b offset piece)))
        one-in room x (inl e) = subst (λ (y : Held). IsIn y (blocks_of_all X p k (groups (span p.chunk p.width k) (overlaid size b offset piece)))) (sym e) (gap-in room)
        one-in room x (inr h) = absurd h

        by : (to < from + 2 * p.chunk) ⊎ (from + 2 * p.chunk ≤ to) → SavesAmong X (blocks_of_all X p k (groups (span p.chunk p.width k) (overlaid size b offset piece))) a c
        by (inl short) = SavesAmong-same X (blocks_of_all X p k (groups (span p.chunk p.width k) (overlaid size b offset piece))) a c (nothing short)
        by (inr room) = saves-more X (leaf_held X (overlaid p.chunk [] zero []) ∷ []) (blocks_of_all X p k (groups (span p.chunk p.width k) (overlaid size b offset piece))) a c (one-in room) saved

-- a file of no bytes
no-bytes-among : (X : List ℕ → List ℕ) (p : Profile) (a b : Told) → SavesAmong X (leaf_held X [] ∷ []) a b → SavesAmong X (blocks_of_all X p 0 (groups (span p.chunk p.width 0) [])) a b
unfolding blocks_over
no-bytes-among X p a b h = h

pub empty-saves : (X : List ℕ → List ℕ) (p : Profile) (a b : Told) (h size offset : ℕ) (old piece : List ℕ) → h ≡ 0 → size ≡ 0 → SavesAmong X (leaf_held X (overlaid 0 [] 0 []) ∷ []) a b
    → SavesAmong X (blocks_of_all X p h (groups (span p.chunk p.width h) (overlaid size old offset piece))) a b
empty-saves X p a b h size offset old piece low none_is saved =
    subst (λ k. SavesAmong X (blocks_of_all X p k (groups (span p.chunk p.width k) (overlaid size old offset piece))) a b) (sym low)
    (subst (λ n. SavesAmong X (blocks_of_all X p 0 (groups (span p.chunk p.width 0) (overlaid n old offset piece))) a b) (sym none_is) (no-bytes-among X p a b saved))

-- ---- the parts below the new root

module _ (X : List ℕ → List ℕ) (p : Profile) (ok : IsTrue (is_profile p)) (top h size offset from to : ℕ) (piece : List ℕ) (a f b : Told) (fits : size ≤ span p.chunk p.width (h + 1)) (within : LiesWithin size offset piece) (same : f ≡ a)
    (held : ℕ) (from_is : from ≡ min held size) (filled : length piece ≡ 0 → to ≡ size) (laid_at : 1 ≤ length piece → to ≡ offset)
    (zeros_saved : SavesAmong X (leaf_held X (overlaid p.chunk [] zero []) ∷ []) f b) (nothing : to < from + 2 * p.chunk → b ≡ f) (zeros_only : SavesOnly X f b)
    (olds : List Part) (gs : List (List ℕ)) (held_is : held ≡ min (length (joined gs)) (span p.chunk p.width (h + 1))) where
  end_in_file : to ≤ size
  end_in_file = by (cases_lt 0 (length piece))
    where
      by : (0 < length piece) ⊎ (length piece ≤ 0) → to ≤ size
      by (inl more) = let e = laid_at more in let w : offset + length piece ≤ size = within more in omega arith
      by (inr empty) = let e = filled (omega arith) in omega arith

  pub gap-saves : SavesAmong X (blocks_of_all X p h (groups (span p.chunk p.width h) (overlaid size (joined gs) offset piece))) a b
  gap-saves =
      subst (λ (t : Told). SavesAmong X (blocks_of_all X p h (groups (span p.chunk p.width h) (overlaid size (joined gs) offset piece))) t b) same
      (zeros-saves X p ok h size offset from to (joined gs) piece f b (omega arith) end_in_file (λ some. let e = laid_at some in omega arith) zeros_saved nothing)

  pub remade-saves : (c : Told) (fronts slice : List Part) → SavesOnly X b c → slice ≡ fronts
      → ((gs : List (List ℕ)) → AreOld X p (span p.chunk p.width (top - 1)) (top - 1) olds gs → Agrees a (blocks_of_all X p (top - 1) gs) → IsFirstOf X p (h + 1) (min (top - 1) h) (blocks_of_all X p (top - 1) gs) fronts (joined gs))
      → ((gs : List (List ℕ)) → AreOld X p (span p.chunk p.width (min (top - 1) h)) (min (top - 1) h) slice gs → length (joined gs) ≤ span p.chunk p.width top → Agrees b (blocks_of_all X p (min (top - 1) h) gs) → Agrees c (blocks_of_all X p (min (top - 1) h) gs)
      → SavesAmong X (blocks_of_all X p h (groups (span p.chunk p.width h) (overlaid size (joined gs) offset piece))) b c)
      → AreOld X p (span p.chunk p.width (top - 1)) (top - 1) olds gs → length (joined gs) ≤ span p.chunk p.width top → Agrees a (blocks_of_all X p (top - 1) gs) → Agrees c (blocks_of_all X p (top - 1) gs)
      → SavesAmong X (blocks_of_all X p h (groups (span p.chunk p.width h) (overlaid size (joined gs) offset piece))) a c
  remade-saves c fronts slice rest_only sliced firsts saved are few agrees agrees_now =
      let one = firsts gs are agrees in
      let at_b : Agrees b (blocks_of_all X p (top - 1) gs) = agrees-between X IsSave f b c (blocks_of_all X p (top - 1) gs) zeros_only rest_only (record { first = subst (λ (t : Told). Agrees t (blocks_of_all X p (top - 1) gs)) (sym same) agrees; last = agrees_now }) in
      let m = saved one.gs (subst (λ (l : List Part). AreOld X p (span p.chunk p.width (min (top - 1) h)) (min (top - 1) h) l one.gs) (sym sliced) one.are) (omega (arith, one.few))
      (agrees-among b (blocks_of_all X p (min (top - 1) h) one.gs) (blocks_of_all X p (top - 1) gs) one.among at_b) (agrees-among c (blocks_of_all X p (min (top - 1) h) one.gs) (blocks_of_all X p (top - 1) gs) one.among agrees_now) in
      let bytes : overlaid size (joined one.gs) offset piece ≡ overlaid size (joined gs) offset piece
      = sym (changed-take size (span p.chunk p.width (h + 1)) (joined one.gs) offset piece fits) ∙ ap (λ (l : List ℕ). overlaid size l offset piece) one.same ∙ changed-take size (span p.chunk p.width (h + 1)) (joined gs) offset piece fits in
      SavesAmong-trans X (blocks_of_all X p h (groups (span p.chunk p.width h) (overlaid size (joined gs) offset piece))) a b c gap-saves
      (subst (λ (l : List ℕ). SavesAmong X (blocks_of_all X p h (groups (span p.chunk p.width h) l)) b c) bytes m)

-- ---- a whole file

module _ (X : List ℕ → List ℕ) (good : IsHash X) (p : Profile) (ok : IsTrue (is_profile p)) (new : List ℕ) (after k : ℕ) (high : IsHeight p.chunk p.width (length new) after) (k_is : k ≡ after - 1) (m : Meta) (a b : Told) where
  pub plan-saves : SavesAmong X (blocks_of_all X p k (groups (span p.chunk p.width k) new)) a b → SavesAmong X (file_plan X p m new).blocks a b
  plan-saves h =
      saves-more X (blocks_of_all X p (after - 1) (groups (span p.chunk p.width (after - 1)) new)) (file_plan X p m new).blocks a b (row-among X good p ok new after high m)
      (subst (λ n. SavesAmong X (blocks_of_all X p n (groups (span p.chunk p.width n) new)) a b) k_is h)

  pub plan-saves-top : (parts slice : List Part) → slice ≡ parts → parts ≡ map (part_over X p.chunk p.width k) (groups (span p.chunk p.width k) new) → SavesAmong X (top_held X m slice) a b → SavesAmong X (file_plan X p m new).blocks a b
  plan-saves-top parts slice sliced same h =
      let over = top_held X m (map (part_over X p.chunk p.width (after - 1)) (groups (span p.chunk p.width (after - 1)) new)) in
      saves-more X over (file_plan X p m new).blocks a b
      (λ x is. subst (IsIn x) (sym (plan-blocks X good p ok new after high m)) (in-back x (rows_held X p new (after - 1)) over is))
      (subst (λ (l : List Part). SavesAmong X (top_held X m l) a b) (sliced ∙ same ∙ ap (λ n. map (part_over X p.chunk p.width n) (groups (span p.chunk p.width n) new)) k_is) h)

-- what an edit saves, of what its root has below it
module _ (X : List ℕ → List ℕ) (good : IsHash X) (p : Profile) (m : Meta) (b : List ℕ) (cid : Cid) (height : ℕ) (is : IsFile X p m b cid height) (told : Told) (agrees : Agrees told (file_plan X p m b).blocks) (root : NodeParts)
    (gives : (m : Meta) (b : List ℕ) (height : ℕ) → IsFile X p m b cid height → Agrees told (root_over X p.chunk p.width m height b ∷ []) → IsRootOver X p m b root) (old : ℕ) (old_is : old ≡ bytes_over root.parts)
    (size : ℕ) (at : Heights) (are : AreHeights p old size at) (wanted : Option ℕ) (offset : ℕ) (piece : List ℕ) (size_is : size ≡ size_after old wanted offset (length piece)) (loaded mid : Told) (same : loaded ≡ told)
    (saved : (gs : List (List ℕ)) → at.first ≡ min (length (joined gs)) (span p.chunk p.width (at.height + 1)) → AreOld X p (span p.chunk p.width (at.top - 1)) (at.top - 1) root.parts gs → length (joined gs) ≤ span p.chunk p.width at.top
    → Agrees loaded (blocks_of_all X p (at.top - 1) gs) → Agrees mid (blocks_of_all X p (at.top - 1) gs) → SavesAmong X (blocks_of_all X p at.height (groups (span p.chunk p.width at.height) (overlaid size (joined gs) offset piece))) loaded mid) where
  abbrev new_bytes : List ℕ
  new_bytes = overlaid (size_after (length b) wanted offset (length piece)) b offset piece

  abbrev old_cut : List (List ℕ)
  old_cut = groups (span p.chunk p.width (at.top - 1)) b

  over_is : IsRootOver X p m b root
  over_is = gives m b height is (root-alone X good p m b cid height is told agrees)

  length_is : old ≡ length b
  length_is = old-length X good p m b cid height is told agrees root gives old old_is

  size_same : size ≡ size_after (length b) wanted offset (length piece)
  size_same = new-length X good p m b cid height is told agrees root gives old old_is size wanted offset (length piece) size_is

  joined_is : joined (groups (span p.chunk p.width (at.top - 1)) b) ≡ b
  joined_is = pieces-joined X good p is.profile b (at.top - 1)

  high_here : IsHeight p.chunk p.width (bytes_over root.parts) at.rows
  high_here = subst (λ n. IsHeight p.chunk p.width n at.rows) old_is are.before

  high_new : IsHeight p.chunk p.width (length (overlaid (size_after (length b) wanted offset (length piece)) b offset piece)) are.after
  high_new = subst (λ n. IsHeight p.chunk p.width n are.after) (size_same ∙ sym (length-changed (size_after (length b) wanted offset (length piece)) b offset piece)) are.high

  first_is : at.first ≡ min (length (joined (groups (span p.chunk p.width (at.top - 1)) b))) (span p.chunk p.width (at.height + 1))
  first_is = are.first_is ∙ ap (λ n. min n (span p.chunk p.width (at.height + 1))) (length_is ∙ sym (ap length joined_is))

  old_row : AreOld X p (span p.chunk p.width (at.top - 1)) (at.top - 1) root.parts (groups (span p.chunk p.width (at.top - 1)) b)
  old_row = old-parts X good p m b cid height is root over_is at.rows at.top high_here are.top_is root.parts refl

  row_fits : length (joined (groups (span p.chunk p.width (at.top - 1)) b)) ≤ span p.chunk p.width at.top
  row_fits = old-fits X good p m b cid height is root over_is at.rows at.top high_here are.top_is

  row_agrees : (t : Told) → Agrees t (file_plan X p m b).blocks → Agrees t (blocks_of_all X p (at.top - 1) (groups (span p.chunk p.width (at.top - 1)) b))
  row_agrees t h = old-agrees X good p m b cid height is root over_is at.rows at.top high_here are.top_is t h

  first_agrees : Agrees loaded (file_plan X p m b).blocks
  first_agrees = subst (λ (t : Told). Agrees t (file_plan X p m b).blocks) (sym same) agrees

  pub edit-saves-below : Agrees mid (file_plan X p m b).blocks → SavesAmong X (file_plan X p m (overlaid (size_after (length b) wanted offset (length piece)) b offset piece)).blocks told mid
  edit-saves-below agrees_mid =
      subst (λ (t : Told). SavesAmong X (file_plan X p m new_bytes).blocks t mid) same
      (plan-saves X good p is.profile new_bytes are.after at.height high_new are.height_is m loaded mid
      (subst (λ n. SavesAmong X (blocks_of_all X p at.height (groups (span p.chunk p.width at.height) (overlaid n b offset piece))) loaded mid) size_same
      (subst (λ l. SavesAmong X (blocks_of_all X p at.height (groups (span p.chunk p.width at.height) (overlaid size l offset piece))) loaded mid) joined_is
      (saved old_cut first_is old_row row_fits (row_agrees loaded first_agrees) (row_agrees mid agrees_mid)))))

  pub edit-saves : (now : Told) (news slice : List Part) → SavesOnly X loaded mid → SavesOnly X mid now
      → ((gs : List (List ℕ)) → AreOld X p (span p.chunk p.width (at.top - 1)) (at.top - 1) root.parts gs → length (joined gs) ≤ span p.chunk p.width at.top → Agrees loaded (blocks_of_all X p (at.top - 1) gs) → Agrees mid (blocks_of_all X p (at.top - 1) gs)
      → GivesAll X p mid (blocks_of_all X p (at.top - 1) gs) at.height news (groups (span p.chunk p.width at.height) (overlaid size (joined gs) offset piece)))
      → slice ≡ news → SavesAmong X (top_held X root.meta slice) mid now → Agrees now (file_plan X p m b).blocks
      → SavesAmong X (file_plan X p m (overlaid (size_after (length b) wanted offset (length piece)) b offset piece)).blocks told now
  edit-saves now news slice adds saves made sliced top agrees_now =
      let between : Agrees mid (file_plan X p m b).blocks = agrees-between X IsSave loaded mid now (file_plan X p m b).blocks adds saves (record { first = first_agrees; last = agrees_now }) in
      let parts = made old_cut old_row row_fits (row_agrees loaded first_agrees) (row_agrees mid between) in
      SavesAmong-trans X (file_plan X p m new_bytes).blocks told mid now (edit-saves-below between)
      (plan-saves-top X good p is.profile new_bytes are.after at.height high_new are.height_is m mid now news slice sliced
      (parts.same ∙ ap (λ l. map (part_over X p.chunk p.width at.height) (groups (span p.chunk p.width at.height) (overlaid size l offset piece))) joined_is
      ∙ ap (λ n. map (part_over X p.chunk p.width at.height) (groups (span p.chunk p.width at.height) (overlaid n b offset piece))) size_same)
      (subst (λ (n : Meta). SavesAmong X (top_held X n slice) mid now) over_is.meta_is top))

-- a file that is made anew
module _ (X : List ℕ → List ℕ) (good : IsHash X) (p : Profile) (ok : IsTrue (is_profile p)) (size : ℕ) (at : Heights) (are : AreHeights p 0 size at) (m : Meta) (offset : ℕ) (piece : List ℕ) (a b : Told)
    (saved : SavesAmong X (blocks_of_all X p at.height (groups (span p.chunk p.width at.height) (overlaid size [] offset piece))) a b) where
  high_made : IsHeight p.chunk p.width (length (overlaid size [] offset piece)) are.after
  high_made = subst (λ n. IsHeight p.chunk p.width n are.after) (sym (length-changed size [] offset piece)) are.high

  pub new-saves-below : SavesAmong X (file_plan X p m (overlaid size [] offset piece)).blocks a b
  new-saves-below = plan-saves X good p ok (overlaid size [] offset piece) are.after at.height high_made are.height_is m a b saved

  pub new-saves : (c : Told) (parts slice : List Part) → SavesOnly X a b → SavesOnly X b c
      → (Agrees a [] → Agrees b [] → GivesAll X p b [] at.height parts (groups (span p.chunk p.width at.height) (overlaid size [] offset piece))) → slice ≡ parts → SavesAmong X (top_held X m slice) b c
      → Agrees a [] → Agrees c [] → SavesAmong X (file_plan X p m (overlaid size [] offset piece)).blocks a c
  new-saves c parts slice first_only rest_only made sliced top agrees agrees_now =
      let at_b : Agrees b [] = agrees-between X IsSave a b c [] first_only rest_only (record { first = agrees; last = agrees_now }) in
      SavesAmong-trans X (file_plan X p m (overlaid size [] offset piece)).blocks a b c new-saves-below
      (plan-saves-top X good p ok (overlaid size [] offset piece) are.after at.height high_made are.height_is m b c parts slice sliced (made agrees at_b).same top)

-- a store that doesn't tell says nothing of what is saved
pub told-saves : (X : List ℕ → List ℕ) (l : List Held) (a b : Told) → SavesOnly X a b → (Agrees a [] → Agrees b [] → SavesAmong X l a b) → SavesAmong X l a b
told-saves X l None None saves h = tt
told-saves X l None (Some u) saves h = absurd saves
told-saves X l (Some t) None saves h = absurd saves
told-saves X l (Some t) (Some u) saves h = h tt tt

-- a root with other metadata
pub meta-saves : (X : List ℕ → List ℕ) (p : Profile) (m meta : Meta) (b : List ℕ) (root : NodeParts) (slice : List Part) (before loaded now : Told) → IsRootOf X p m b root → slice ≡ root.parts → loaded ≡ before → SavesAmong X (top_held X meta slice) loaded now
    → SavesAmong X (file_plan X p meta b).blocks before now
meta-saves X p m meta b root slice before loaded now is_root sliced same saved =
    subst (λ (t : Told). SavesAmong X (file_plan X p meta b).blocks t now) same
    (saves-more X (top_held X meta root.parts) (file_plan X p meta b).blocks loaded now
    (λ x is. subst (IsIn x) (sym (is_root.stands.blocks meta)) (in-back x is_root.stands.under (top_held X meta root.parts) is))
    (subst (λ (l : List Part). SavesAmong X (top_held X meta l) loaded now) sliced saved))
