-- What holds of all that is due.
use Rattle.std.proofs.Common.{◌≡◌, ◌≢◌, ℕ, zero, suc, List, [], ◌∷◌, ◌++◌, Bool, true, false, cond, ◌&&◌, ◌||◌, refl, sym, ap, subst, ◌∙◌, ◌⊎◌, inl, inr, Result, Ok, Err, Contains, append_assoc, append-nil}
use Rattle.std.specs.Prelude.{Option, Some, None, nat_eq, ⊤, if◌then◌else◌}
use Rattle.std.specs.Cmp.{eq_by_cmp_equiv}
use Rattle.std.specs.Cmp.Lexicographic.{pointwise, same_text}
use Rattle.std.specs.List.{AllByRecursion}
use Rattle.std.specs.Ordering.{eq_by_cmp}
use Rattle.std.proofs.lemmas.List.Elements.{Contains-append_left, Contains-append_right, Contains-push}
use Rattle.uf_cid.specs.Blocks.{Held, Lookup}
use Rattle.uf_cid.specs.Cid.{cid_cmp}
use Rattle.uf_cid.specs.declared.cid.Cid.{Cid}
use Rattle.uf_store.proofs.Holding.{cid_cmp_total}
use Rattle.uf_store.proofs.Keeping.{same_of}
use Rattle.uf_store.specs.Keeping.{AreGood}
use Rattle.uf_walk.proofs.Members.{not_among}
use Rattle.uf_walk.specs.Order.{Course, Missing, NotDagPb, OrderFault, OverMost, StopsAt, TooMany, Whole, block_links, follow_block, follow_held, goes, is_met, order, ordered, readable, stop_at, unreadable}
use Rattle.uf_walk.specs.Reaching.{AreDistinct}
use Rattle.uf_pull.specs.declared.fault.PullFault.{PullFault}
use Rattle.uf_pull.specs.declared.fault.PullFault.TheVariants as fault
use Rattle.uf_pull.specs.Due.{Answer, Answered, Due, Refused, answer_to, due_asked, due_behind, due_by, due_end, due_within, holding, if_dropped, is_block_of}
use Rattle.uf_pull.specs.Frames.{DeviatesAt, EndsAt, Frame, Frames, Giving, Lacking, Next, first_place}
use Rattle.uf_pull.specs.Laws.{AreNextAsked, IsLinkedIn, IsNextAsked, NoneHeld}
use Rattle.uf_pull.proofs.Stopping.{where-it-stops}

-- ---- a block that answers has its CID's digest

same_digest : (xs ys : List ℕ) → pointwise nat_eq xs ys ≡ true → xs ≡ ys
same_digest xs ys e = same_text xs ys (sym e)

pub answer_good : (hash : List ℕ → List ℕ) (c : Cid) (more : ℕ) (fs : Frames) (block : List ℕ) (left : ℕ) (rest : Frames) → answer_to hash c more fs ≡ Answered block left rest → hash block ≡ c.digest
unfolding answer_to
answer_good hash c more (EndsAt place) block left rest e = cc
answer_good hash c more (DeviatesAt place) block left rest e = cc
answer_good hash c more (Next place (Lacking d) fs) block left rest e = by (eq_by_cmp cid_cmp d c) more e (λ n x l r. answer_good hash c n fs x l r)
  where
    by : (b : Bool) (m : ℕ) → (if b then Refused (fault.Lacks c) (first_place fs) else if_dropped (λ n. answer_to hash c n fs) (first_place fs) m) ≡ Answered block left rest
        → ((n : ℕ) (x : List ℕ) (l : ℕ) (r : Frames) → answer_to hash c n fs ≡ Answered x l r → hash x ≡ c.digest) → hash block ≡ c.digest
    by true m is again = cc
    by false zero is again = cc
    by false (suc m) is again = again m block left rest is
answer_good hash c more (Next place (Giving d given) fs) block left rest e = by (eq_by_cmp cid_cmp d c) (is_block_of hash c given) refl more e (λ n x l r. answer_good hash c n fs x l r)
  where
    by : (b x : Bool) → is_block_of hash c given ≡ x → (m : ℕ) → (if b && x then Answered given more fs else if_dropped (λ n. answer_to hash c n fs) (first_place fs) m) ≡ Answered block left rest
        → ((n : ℕ) (y : List ℕ) (l : ℕ) (r : Frames) → answer_to hash c n fs ≡ Answered y l r → hash y ≡ c.digest) → hash block ≡ c.digest
    by true true good m is again = let same : given ≡ block = cc in subst (λ (y : List ℕ). hash y ≡ c.digest) same (same_digest (hash given) c.digest good)
    by true false good zero is again = cc
    by true false good (suc m) is again = again m block left rest is
    by false x good zero is again = cc
    by false x good (suc m) is again = again m block left rest is

pub due_good : (hash : List ℕ → List ℕ) (most : ℕ) (root : Cid) (n : ℕ) (held : Lookup) (more : ℕ) (fs : Frames) → AreGood hash (due_within hash most root n held more fs).blocks
unfolding due_within
due_good hash most root zero held more fs = by (order held most root)
  where
    by : (o : Result (List Cid) OrderFault) → AreGood hash (due_by (λ c. due_end (Err fault.TooMany) (first_place fs)) fs o).blocks
    by (Ok list) = tt
    by (Err OverMost) = tt
    by (Err (NotDagPb c why)) = tt
    by (Err (Missing c)) = tt
due_good hash most root (suc n) held more fs = by (λ h m gs. due_good hash most root n h m gs) (order held most root)
  where
    answer : ((h : Lookup) (m : ℕ) (gs : Frames) → AreGood hash (due_within hash most root n h m gs).blocks)
        → (c : Cid) (a : Answer) → answer_to hash c more fs ≡ a → AreGood hash (due_asked c (λ block m behind. due_within hash most root n (holding c block held) m behind) a).blocks
    answer again c (Answered block left rest) is = (answer_good hash c more fs block left rest is, again (holding c block held) left rest)
    answer again c (Refused f used) is = tt

    by : ((h : Lookup) (m : ℕ) (gs : Frames) → AreGood hash (due_within hash most root n h m gs).blocks)
        → (o : Result (List Cid) OrderFault) → AreGood hash (due_by (λ c. due_asked c (λ block m behind. due_within hash most root n (holding c block held) m behind) (answer_to hash c more fs)) fs o).blocks
    by again (Ok list) = tt
    by again (Err OverMost) = tt
    by again (Err (NotDagPb c why)) = tt
    by again (Err (Missing c)) = answer again c (answer_to hash c more fs) refl

-- ---- what is asked for is linked and missing

all_linked : (held : Lookup) (root c : Cid) (links front rest : List Cid) → follow_held held c ≡ Some links → links ≡ front ++ rest → AllByRecursion (λ (e : Cid). (e ≡ root) ⊎ IsLinkedIn held e) rest
all_linked held root c links front [] followed is = tt
all_linked held root c links front (e ∷ rest) followed is =
    let there : Contains links e = subst (λ (l : List Cid). Contains l e) (sym is) (Contains-append_right front (e ∷ rest) e (Contains-append_left (e ∷ []) rest e (Contains-push [] e))) in
    (inr (record { above = c; links = links; followed = followed; among = there }), all_linked held root c links (front ++ e ∷ []) rest followed (is ∙ sym (append_assoc front (e ∷ []) rest)))

pub missing_asked : (held : Lookup) (most : ℕ) (root c : Cid) → order held most root ≡ Err (Missing c) → IsNextAsked root held c
missing_asked held most root c is = by (goes (follow_held held) most (root ∷ [])) refl is
  where
    stop : (d : Cid) → goes (follow_held held) most (root ∷ []) ≡ StopsAt d → (o : Option (List ℕ)) → held d ≡ o → ◌≡◌ {A = Result (List Cid) OrderFault} (Err (stop_at d o)) (Err (Missing c)) → IsNextAsked root held c
    stop d at None nothing e =
        let same : d ≡ c = cc in
        let s = where-it-stops (follow_held held) (λ (e : Cid). (e ≡ root) ⊎ IsLinkedIn held e) (λ x links p f. all_linked held root x links [] links f refl) d most [] (root ∷ []) (inl refl, tt) at in
        subst (IsNextAsked root held) same (record { missing = nothing; linked = s.holds })
    stop d at (Some bytes) there e = links (block_links d.codec bytes) refl e
      where
        links : (r : Result (List Cid) ℕ) → block_links d.codec bytes ≡ r → ◌≡◌ {A = Result (List Cid) OrderFault} (Err (unreadable d r)) (Err (Missing c)) → IsNextAsked root held c
        links (Ok l) reads e =
            let s = where-it-stops (follow_held held) (λ (e : Cid). (e ≡ root) ⊎ IsLinkedIn held e) (λ x links p f. all_linked held root x links [] links f refl) d most [] (root ∷ []) (inl refl, tt) at in
            absurd (let no : ◌≡◌ {A = Option (List Cid)} (Some l) None = sym (follows l reads) ∙ s.unfollowed in cc)
          where
            follows : (l : List Cid) → block_links d.codec bytes ≡ Ok l → follow_held held d ≡ Some l
            follows l reads = ap (follow_block d) there ∙ ap readable reads
        links (Err why) reads e = cc

    by : (course : Course) → goes (follow_held held) most (root ∷ []) ≡ course → ordered held course ≡ Err (Missing c) → IsNextAsked root held c
    by (Whole met) at e = cc
    by TooMany at e = cc
    by (StopsAt d) at e = stop d at (held d) refl e

pub due_asks : (hash : List ℕ → List ℕ) (most : ℕ) (root : Cid) (n : ℕ) (held : Lookup) (more : ℕ) (fs : Frames)
    → AreNextAsked root held (due_within hash most root n held more fs).wants (due_within hash most root n held more fs).blocks
unfolding due_within
due_asks hash most root zero held more fs = by (order held most root)
  where
    by : (o : Result (List Cid) OrderFault) → AreNextAsked root held (due_by (λ c. due_end (Err fault.TooMany) (first_place fs)) fs o).wants (due_by (λ c. due_end (Err fault.TooMany) (first_place fs)) fs o).blocks
    by (Ok list) = tt
    by (Err OverMost) = tt
    by (Err (NotDagPb c why)) = tt
    by (Err (Missing c)) = tt
due_asks hash most root (suc n) held more fs = by (λ h m gs. due_asks hash most root n h m gs) (order held most root) refl
  where
    answer : ((h : Lookup) (m : ℕ) (gs : Frames) → AreNextAsked root h (due_within hash most root n h m gs).wants (due_within hash most root n h m gs).blocks)
        → (c : Cid) (a : Answer) → IsNextAsked root held c → AreNextAsked root held (due_asked c (λ block m behind. due_within hash most root n (holding c block held) m behind) a).wants (due_asked c (λ block m behind. due_within hash most root n (holding c block held) m behind) a).blocks
    answer again c (Answered block left rest) asked = (asked, refl, again (holding c block held) left rest)
    answer again c (Refused f used) asked = (asked, refl)

    by : ((h : Lookup) (m : ℕ) (gs : Frames) → AreNextAsked root h (due_within hash most root n h m gs).wants (due_within hash most root n h m gs).blocks)
        → (o : Result (List Cid) OrderFault) → order held most root ≡ o
        → AreNextAsked root held (due_by (λ c. due_asked c (λ block m behind. due_within hash most root n (holding c block held) m behind) (answer_to hash c more fs)) fs o).wants (due_by (λ c. due_asked c (λ block m behind. due_within hash most root n (holding c block held) m behind) (answer_to hash c more fs)) fs o).blocks
    by again (Ok list) is = tt
    by again (Err OverMost) is = tt
    by again (Err (NotDagPb c why)) is = tt
    by again (Err (Missing c)) is = answer again c (answer_to hash c more fs) (missing_asked held most root c is)

-- ---- none of it was held, and no CID is asked for twice

still_missing : (held : Lookup) (c d : Cid) (block : List ℕ) → holding c block held d ≡ None → (d ≢ c) × (held d ≡ None)
still_missing held c d block none = by (eq_by_cmp cid_cmp d c) refl none
  where
    by : (b : Bool) → eq_by_cmp cid_cmp d c ≡ b → cond b (Some block) (held d) ≡ None → (d ≢ c) × (held d ≡ None)
    by true tie is = absurd (let no : ◌≡◌ {A = Option (List ℕ)} (Some block) None = is in cc)
    by false tie is = (λ same. absurd (let no : true ≡ false = sym ((eq_by_cmp_equiv cid_cmp_total).refl d) ∙ ap (eq_by_cmp cid_cmp d) same ∙ tie in cc), is)

none_before : (held : Lookup) (c : Cid) (block : List ℕ) (wants : List Cid) → NoneHeld (holding c block held) wants → NoneHeld held wants
none_before held c block [] h = tt
none_before held c block (d ∷ wants) h = ((still_missing held c d block h.0).1, none_before held c block wants h.1)

pub none_held : (root : Cid) (held : Lookup) (wants : List Cid) (blocks : List Held) → AreNextAsked root held wants blocks → NoneHeld held wants
none_held root held [] blocks h = tt
none_held root held (c ∷ wants) [] h = (h.0.missing, subst (NoneHeld held) (sym h.1) tt)
none_held root held (c ∷ wants) (b ∷ blocks) h = (h.0.missing, none_before held b.0 b.1 wants (none_held root (holding b.0 b.1 held) wants blocks h.2))

-- none of these is the block that is held now
not_again : (held : Lookup) (c : Cid) (block : List ℕ) (wants : List Cid) → NoneHeld (holding c block held) wants → AllByRecursion (λ (d : Cid). d ≢ c) wants
not_again held c block [] h = tt
not_again held c block (d ∷ wants) h = ((still_missing held c d block h.0).0, not_again held c block wants h.1)

not_met : (c : Cid) (wants : List Cid) → AllByRecursion (λ (d : Cid). d ≢ c) wants → is_met wants c ≡ false
not_met c [] h = refl
not_met c (d ∷ wants) h = by (eq_by_cmp cid_cmp c d) refl (not_met c wants h.1)
  where
    by : (b : Bool) → eq_by_cmp cid_cmp c d ≡ b → is_met wants c ≡ false → (b || is_met wants c) ≡ false
    by true tie rest = absurd (h.0 (sym (same_of c d tie)))
    by false tie rest = rest

pub asked_once : (root : Cid) (held : Lookup) (wants : List Cid) (blocks : List Held) → AreNextAsked root held wants blocks → AreDistinct wants
asked_once root held [] blocks h = tt
asked_once root held (c ∷ wants) [] h = subst (λ (l : List Cid). AreDistinct (c ∷ l)) (sym h.1) (not_among [] c refl, tt)
asked_once root held (c ∷ wants) (b ∷ blocks) h =
    let others : AllByRecursion (λ (d : Cid). d ≢ b.0) wants = not_again held b.0 b.1 wants (none_held root (holding b.0 b.1 held) wants blocks h.2) in
    (not_among wants c (not_met c wants (subst (λ (x : Cid). AllByRecursion (λ (d : Cid). d ≢ x) wants) h.1 others)), asked_once root (holding b.0 b.1 held) wants blocks h.2)
