-- What a pull has asked for that is whole, and that one from an honest peer is.
use Rattle.std.proofs.Common.{◌≡◌, ℕ, zero, suc, ◌+◌, ◌≤◌, List, [], ◌∷◌, ◌++◌, length, drop, Bool, true, false, cond, ◌&&◌, refl, sym, ap, subst, ◌∙◌, ◌⊎◌, inl, inr, arith, Result, Ok, Err, append_assoc, append-nil, length-append}
use Rattle.std.proofs.lemmas.List.{drop_at}
use Rattle.std.specs.Prelude.{Option, Some, None, IfSome}
use Rattle.std.specs.Cmp.{eq_by_cmp_equiv}
use Rattle.std.specs.Cmp.Lexicographic.{bytes_decides, pointwise}
use Rattle.std.specs.Prelude.{nat_eq}
use Rattle.std.specs.List.{AllByRecursion}
use Rattle.std.specs.Ordering.{eq_by_cmp}
use Rattle.uf_cid.specs.Blocks.{Held, Lookup}
use Rattle.uf_cid.specs.Cid.{cid_cmp}
use Rattle.uf_cid.specs.declared.cid.Cid.{Cid}
use Rattle.uf_store.proofs.Holding.{cid_cmp_total}
use Rattle.uf_store.proofs.Keeping.{same_of}
use Rattle.uf_walk.proofs.Reaching.{order_few, order_whole, whole-distinct}
use Rattle.uf_walk.specs.Order.{Missing, NotDagPb, OrderFault, OverMost, follow_held, order}
use Rattle.uf_pull.specs.declared.fault.PullFault.{PullFault}
use Rattle.uf_pull.specs.declared.fault.PullFault.TheVariants as fault
use Rattle.uf_pull.specs.Due.{Answer, Answered, Due, Refused, answer_to, due, due_asked, due_behind, due_by, due_end, due_within, holding, is_block_of}
use Rattle.uf_pull.specs.Frames.{Frames, Giving, Stands, answer_bytes, begins, first_place, frame_bytes, frame_with, frames_from, serve_text}
use Rattle.uf_pull.specs.Wholes.{AsksForUnheld, EndsWell, GivesBlock, IsHonest, holding_all, unheld}
use Rattle.uf_pull.proofs.Answering.{of_block}
use Rattle.uf_pull.proofs.DueLaws.{missing_asked}
use Rattle.uf_pull.proofs.Dues.{due_missing, due_whole}
use Rattle.uf_pull.proofs.FramesAgain.{reads_giving}
use Rattle.uf_pull.proofs.Listing.{place_first}
use Rattle.uf_pull.proofs.Wholes.{IsPart, all_of, all_unheld, few_unheld, lacks_first, order_over, part_with, unheld_next}

-- ---- what was held stays

module _ (hash : List ℕ → List ℕ) (most : ℕ) (root : Cid) where
  other_kept : (held : Lookup) (c d : Cid) (block b : List ℕ) → held c ≡ None → held d ≡ Some b → holding c block held d ≡ Some b
  other_kept held c d block b none is = by (eq_by_cmp cid_cmp d c) refl
    where
      by : (t : Bool) → eq_by_cmp cid_cmp d c ≡ t → cond t (Some block) (held d) ≡ Some b
      by true tie = absurd (let no : ◌≡◌ {A = Option (List ℕ)} None (Some b) = sym none ∙ ap held (sym (same_of d c tie)) ∙ is in cc)
      by false tie = is

  pub held_stays : (n : ℕ) (held : Lookup) (more : ℕ) (fs : Frames) (d : Cid) (b : List ℕ) → held d ≡ Some b → holding_all (due_within hash most root n held more fs).blocks held d ≡ Some b
  unfolding due_within
  held_stays zero held more fs d b is = by (order held most root)
    where
      by : (o : Result (List Cid) OrderFault) → holding_all (due_by (λ c. due_end (Err fault.TooMany) (first_place fs)) fs o).blocks held d ≡ Some b
      by (Ok list) = is
      by (Err OverMost) = is
      by (Err (NotDagPb c why)) = is
      by (Err (Missing c)) = is
  held_stays (suc n) held more fs d b is = by (λ h m gs is. held_stays n h m gs d b is) (order held most root) refl
    where
      answer : ((h : Lookup) (m : ℕ) (gs : Frames) → h d ≡ Some b → holding_all (due_within hash most root n h m gs).blocks h d ≡ Some b)
          → (c : Cid) (a : Answer) → held c ≡ None → holding_all (due_asked c (λ block m behind. due_within hash most root n (holding c block held) m behind) a).blocks held d ≡ Some b
      answer again c (Answered block left rest) none = again (holding c block held) left rest (other_kept held c d block b none is)
      answer again c (Refused f used) none = is

      by : ((h : Lookup) (m : ℕ) (gs : Frames) → h d ≡ Some b → holding_all (due_within hash most root n h m gs).blocks h d ≡ Some b)
          → (o : Result (List Cid) OrderFault) → order held most root ≡ o
          → holding_all (due_by (λ c. due_asked c (λ block m behind. due_within hash most root n (holding c block held) m behind) (answer_to hash c more fs)) fs o).blocks held d ≡ Some b
      by again (Ok list) at = is
      by again (Err OverMost) at = is
      by again (Err (NotDagPb c why)) at = is
      by again (Err (Missing c)) at = answer again c (answer_to hash c more fs) (missing_asked held most root c at).missing

  -- what is held is a part of what is held at last
  part_of : (n : ℕ) (held : Lookup) (more : ℕ) (fs : Frames) (d : Cid) → IsPart (holding_all (due_within hash most root n held more fs).blocks held) held d
  part_of n held more fs d = by (held d) refl
    where
      by : (o : Option (List ℕ)) → held d ≡ o → IsPart (holding_all (due_within hash most root n held more fs).blocks held) held d
      by None none = inr none
      by (Some b) some = inl (some ∙ sym (held_stays n held more fs d b some))

  -- ---- a pull that is whole

  -- nothing is missing
  none_unheld : (held : Lookup) (list : List Cid) → order held most root ≡ Ok list → unheld held list ≡ []
  none_unheld held list is = by (unheld held list) refl
    where
      by : (l : List Cid) → unheld held list ≡ l → l ≡ []
      by [] e = refl
      by (c ∷ cids) e = absurd (let no : ◌≡◌ {A = Result (List Cid) OrderFault} (Ok list) (Err (Missing c)) = sym is ∙ order_over held held most root list is (all_of (IsPart held held) list (λ d. inl refl)) ∙ ap (lacks_first list) e in cc)

  -- the first that is missing is asked for first
  first_unheld : (held last : Lookup) (c : Cid) (block : List ℕ) (list : List Cid) → order held most root ≡ Err (Missing c) → order last most root ≡ Ok list → ((d : Cid) → IsPart last held d)
      → c ∷ unheld (holding c block held) list ≡ unheld held list
  first_unheld held last c block list lacks whole part = by (unheld held list) refl
    where
      over : order held most root ≡ lacks_first list (unheld held list)
      over = order_over last held most root list whole (all_of (IsPart last held) list part)

      by : (l : List Cid) → unheld held list ≡ l → c ∷ unheld (holding c block held) list ≡ l
      by [] e = absurd (let no : ◌≡◌ {A = Result (List Cid) OrderFault} (Err (Missing c)) (Ok list) = sym lacks ∙ over ∙ ap (lacks_first list) e in cc)
      by (d ∷ cids) e =
          let is : ◌≡◌ {A = Result (List Cid) OrderFault} (Err (Missing c)) (Err (Missing d)) = sym lacks ∙ over ∙ ap (lacks_first list) e in
          let same : c ≡ d = cc in
          let next : unheld (holding c block held) list ≡ cids = unheld_next held c block list cids (whole-distinct (follow_held last) most (root ∷ []) list (order_whole last most root list whole)) (e ∙ ap (λ (x : Cid). x ∷ cids) (sym same)) in
          λ i. same i ∷ next i

  pub whole_asks : (n : ℕ) (held : Lookup) (more : ℕ) (fs : Frames) → (due_within hash most root n held more fs).ends ≡ Ok tt
      → AsksForUnheld most root held (holding_all (due_within hash most root n held more fs).blocks held) (due_within hash most root n held more fs).wants
  unfolding due_within
  whole_asks zero held more fs ends = by (order held most root) refl ends
    where
      by : (o : Result (List Cid) OrderFault) → order held most root ≡ o → (due_by (λ c. due_end (Err fault.TooMany) (first_place fs)) fs o).ends ≡ Ok tt
          → AsksForUnheld most root held (holding_all (due_by (λ c. due_end (Err fault.TooMany) (first_place fs)) fs o).blocks held) (due_by (λ c. due_end (Err fault.TooMany) (first_place fs)) fs o).wants
      by (Ok list) at e = record { list = list; whole = at; asked = sym (none_unheld held list at) }
      by (Err OverMost) at e = absurd (let no : ◌≡◌ {A = Result Unit PullFault} (Err fault.TooMany) (Ok tt) = e in cc)
      by (Err (NotDagPb c why)) at e = absurd (let no : ◌≡◌ {A = Result Unit PullFault} (Err (fault.NotDagPb c why)) (Ok tt) = e in cc)
      by (Err (Missing c)) at e = absurd (let no : ◌≡◌ {A = Result Unit PullFault} (Err fault.TooMany) (Ok tt) = e in cc)
  whole_asks (suc n) held more fs ends = by (λ h m gs e. whole_asks n h m gs e) (order held most root) refl (λ d. part_of (suc n) held more fs d) ends
    where
      ask : Cid → Due
      ask c = due_asked c (λ block m behind. due_within hash most root n (holding c block held) m behind) (answer_to hash c more fs)

      answer : ((h : Lookup) (m : ℕ) (gs : Frames) → (due_within hash most root n h m gs).ends ≡ Ok tt
          → AsksForUnheld most root h (holding_all (due_within hash most root n h m gs).blocks h) (due_within hash most root n h m gs).wants)
          → (c : Cid) (a : Answer) → order held most root ≡ Err (Missing c)
          → ((d : Cid) → IsPart (holding_all (due_asked c (λ block m behind. due_within hash most root n (holding c block held) m behind) a).blocks held) held d)
          → (due_asked c (λ block m behind. due_within hash most root n (holding c block held) m behind) a).ends ≡ Ok tt
          → AsksForUnheld most root held (holding_all (due_asked c (λ block m behind. due_within hash most root n (holding c block held) m behind) a).blocks held)
          (due_asked c (λ block m behind. due_within hash most root n (holding c block held) m behind) a).wants
      answer again c (Answered block left rest) at part e =
          let later = again (holding c block held) left rest e in
          record {
            list = later.list;
            whole = later.whole;
            asked = ap (λ (l : List Cid). c ∷ l) later.asked ∙ first_unheld held _ c block later.list at later.whole part;
          }
      answer again c (Refused f used) at part e = absurd (let no : ◌≡◌ {A = Result Unit PullFault} (Err f) (Ok tt) = e in cc)

      by : ((h : Lookup) (m : ℕ) (gs : Frames) → (due_within hash most root n h m gs).ends ≡ Ok tt
          → AsksForUnheld most root h (holding_all (due_within hash most root n h m gs).blocks h) (due_within hash most root n h m gs).wants)
          → (o : Result (List Cid) OrderFault) → order held most root ≡ o
          → ((d : Cid) → IsPart (holding_all (due_by ask fs (order held most root)).blocks held) held d)
          → (due_by ask fs o).ends ≡ Ok tt
          → AsksForUnheld most root held (holding_all (due_by ask fs o).blocks held) (due_by ask fs o).wants
      by again (Ok list) at part e = record { list = list; whole = at; asked = sym (none_unheld held list at) }
      by again (Err OverMost) at part e = absurd (let no : ◌≡◌ {A = Result Unit PullFault} (Err fault.TooMany) (Ok tt) = e in cc)
      by again (Err (NotDagPb c why)) at part e = absurd (let no : ◌≡◌ {A = Result Unit PullFault} (Err (fault.NotDagPb c why)) (Ok tt) = e in cc)
      by again (Err (Missing c)) at part e =
          answer again c (answer_to hash c more fs) at
          (λ d. subst (λ (o : Result (List Cid) OrderFault). IsPart (holding_all (due_by ask fs o).blocks held) held d) at (part d)) e

  -- ---- an honest peer

  module _ (first peer : Lookup) (list : List Cid) (rest : List ℕ) (honest : IsHonest hash most root first peer list) where
    first_parts : (l : List Cid) → AllByRecursion (GivesBlock hash first peer) l → AllByRecursion (IsPart peer first) l
    first_parts [] all = tt
    first_parts (c ∷ l) all = (by (first c) refl, first_parts l all.1)
      where
        by : (o : Option (List ℕ)) → first c ≡ o → IsPart peer first c
        by None none = inr none
        by (Some b) some =
            let same : b ≡ all.0.block = subst (λ (o : Option (List ℕ)). IfSome o (λ other. other ≡ all.0.block)) some all.0.agrees in
            inl (some ∙ ap (λ (x : List ℕ). Some x) same ∙ sym all.0.gives)

    is_block : (c : Cid) (block : List ℕ) → hash block ≡ c.digest → (eq_by_cmp cid_cmp c c && is_block_of hash c block) ≡ true
    is_block c block digest =
        let tie : eq_by_cmp cid_cmp c c ≡ true = (eq_by_cmp_equiv cid_cmp_total).refl c in
        let same : is_block_of hash c block ≡ true = (bytes_decides (hash block) c.digest).1 digest in
        λ i. tie i && same i

    -- the text of these answers begins with that of the first
    text_of_first : (c : Cid) (block : List ℕ) (cids : List Cid) → peer c ≡ Some block → serve_text peer (c ∷ cids) ++ rest ≡ frame_bytes (Giving c block) ++ (serve_text peer cids ++ rest)
    text_of_first c block cids gives =
        append_assoc (answer_bytes peer c) (serve_text peer cids) rest
        ∙ ap (λ (o : Option (List ℕ)). frame_bytes (frame_with c o) ++ (serve_text peer cids ++ rest)) gives

    size_of_first : (c : Cid) (block : List ℕ) (cids : List Cid) → peer c ≡ Some block → length (serve_text peer (c ∷ cids)) ≡ length (frame_bytes (Giving c block)) + length (serve_text peer cids)
    size_of_first c block cids gives =
        length-append (answer_bytes peer c) (serve_text peer cids)
        ∙ ap (λ (o : Option (List ℕ)). length (frame_bytes (frame_with c o)) + length (serve_text peer cids)) gives

    -- it has come so far
    record EndsThere (d : Due) (place : ℕ) (cids : List Cid) : Type 0 where
      ends : d.ends ≡ Ok tt
      asked : d.wants ≡ cids
      used : d.used ≡ place + length (serve_text peer cids)

    goes_well : (cids : List Cid) (n : ℕ) (held : Lookup) (more place : ℕ) (bytes : List ℕ) → unheld held list ≡ cids → length cids ≤ n → bytes ≡ serve_text peer cids ++ rest
        → AllByRecursion (IsPart peer held) list → AllByRecursion (GivesBlock hash first peer) cids → EndsThere (due_within hash most root n held more (frames_from place bytes)) place cids
    goes_well [] n held more place bytes none few text parts gives =
        let whole : order held most root ≡ Ok list = order_over peer held most root list honest.whole parts ∙ ap (lacks_first list) none in
        let is : due_within hash most root n held more (frames_from place bytes) ≡ due_end (Ok tt) place =
        due_whole hash most root n held more (frames_from place bytes) list whole ∙ ap (due_end (Ok tt)) (place_first place bytes) in
        subst (λ (d : Due). EndsThere d place []) (sym is) (record { ends = refl; asked = refl; used = omega arith })
    goes_well (c ∷ cids) zero held more place bytes first_is few text parts gives = absurd (omega arith)
    goes_well (c ∷ cids) (suc n) held more place bytes first_is few text parts gives =
        let block = gives.0.block in
        let frame = frame_bytes (Giving c block) in
        let lacks : order held most root ≡ Err (Missing c) = order_over peer held most root list honest.whole parts ∙ ap (lacks_first list) first_is in
        let whole : bytes ≡ frame ++ (serve_text peer cids ++ rest) = text ∙ text_of_first c block cids gives.0.gives in
        let stands : begins bytes ≡ Stands (Giving c block) (length frame) = ap begins whole ∙ reads_giving c gives.0.cid block (serve_text peer cids ++ rest) gives.0.size in
        let behind : drop (length frame) bytes ≡ serve_text peer cids ++ rest = ap (drop (length frame)) whole ∙ drop_at frame (serve_text peer cids ++ rest) (length frame) refl in
        let answered = of_block hash c more place bytes c block (length frame) stands (is_block c block gives.0.digest) in
        let is : due_within hash most root (suc n) held more (frames_from place bytes)
        ≡ due_behind ((c, block) ∷ []) (due_within hash most root n (holding c block held) more (frames_from (place + length frame) (drop (length frame) bytes))) =
        due_missing hash most root n held more (frames_from place bytes) c lacks
        ∙ ap (due_asked c (λ b m later. due_within hash most root n (holding c b held) m later)) answered in
        let next = goes_well cids n (holding c block held) more (place + length frame) (drop (length frame) bytes)
        (unheld_next held c block list cids (whole-distinct (follow_held peer) most (root ∷ []) list (order_whole peer most root list honest.whole)) first_is)
        (omega (arith, few)) behind (part_with peer held c block list gives.0.gives parts) gives.1 in
        let size = size_of_first c block cids gives.0.gives in
        subst (λ (d : Due). EndsThere d place (c ∷ cids)) (sym is)
        (record { ends = next.ends; asked = ap (λ (l : List Cid). c ∷ l) next.asked; used = omega (arith, next.used, size) })

    pub honest_ends : EndsWell (due hash most root first (serve_text peer (unheld first list) ++ rest)) peer (unheld first list)
    honest_ends =
        let few : length (unheld first list) ≤ most = few_unheld first list most (order_few peer most root list honest.whole) in
        let e = goes_well (unheld first list) most first 1024 0 (serve_text peer (unheld first list) ++ rest) refl few refl (first_parts list honest.gives)
        (all_unheld (GivesBlock hash first peer) first list honest.gives) in
        record { ends = e.ends; asked = e.asked; used = omega (arith, e.used) }
