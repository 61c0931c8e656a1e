-- What the bytes that are there say of the lines that are ahead.
use Rattle.std.proofs.Common.{◌≡◌, ℕ, ◌+◌, ◌-◌, ◌≤◌, ◌<◌, List, [], ◌∷◌, ◌++◌, length, take, drop, get_or, true, false, refl, sym, ap, ◌∙◌, subst, arith, append_assoc, append-nil, length-drop, length-take-le, ◌⊎◌, inl, inr}
use Rattle.std.proofs.lemmas.Bool.{cases_lt}
use Rattle.std.proofs.lemmas.List.{drop_all, drop_more, take-append-drop, take_all}
use Rattle.std.specs.Prelude.{None, Option, Some, IfSome}
use Rattle.uf_edge.specs.Streams.{Told, before as in_front}
use Rattle.uf_lines.specs.LinesIn.{HasNoFeed, LinesIn, last_line, lines_in, long_lines, with_lines}
use Rattle.uf_lines.specs.Reading.{AnswersNext, GivesNone, HasEnded, IsShorter, all_ahead, bytes_ahead, lines_ahead, lines_told, may_read}
use Rattle.uf_lines.specs.Seeking.{Goes, IsAsBefore, Looks, LooksAt, StandsAtFeed}
use Rattle.uf_lines.specs.Windows.{in_window}
use Rattle.uf_lines.specs.declared.lines.Line.{Line}
use Rattle.uf_lines.specs.declared.lines.Line.TheVariants.{Given, End, TooLong, Failed, Memory}
use Rattle.uf_lines.specs.declared.lines.Lines.{Lines}
use Rattle.uf_lines.proofs.Cuts.{at_end, ended_late, ended_line, too_many, unended}

-- ---- bytes with LF behind the first so many

module _ (most room n : ℕ) (bytes left : List ℕ) (none : HasNoFeed (take n bytes)) (inside : n < length bytes) (feed : get_or bytes n 0 ≡ 10) where
  size : length (take n bytes) ≡ n
  size = length-take-le n bytes (omega arith)

  cut : bytes ++ left ≡ take n bytes ++ 10 ∷ (drop (n + 1) bytes ++ left)
  cut =
      ap (λ (xs : List ℕ). xs ++ left) (sym (take-append-drop n bytes) ∙ ap (λ (xs : List ℕ). take n bytes ++ xs) (drop_more bytes n 0 inside ∙ ap (λ b. b ∷ drop (n + 1) bytes) feed))
      ∙ append_assoc (take n bytes) (10 ∷ drop (n + 1) bytes) left

  feed_plain : n ≤ most → n < room → lines_in most room (bytes ++ left) ≡ with_lines (take n bytes ∷ []) (lines_in most (room - (n + 1)) (drop (n + 1) bytes ++ left))
  feed_plain fits few =
      ap (lines_in most room) cut
      ∙ ended_line most room (take n bytes) (drop (n + 1) bytes ++ left) none (omega (arith, size)) (omega (arith, size))
      ∙ (λ i. with_lines (take n bytes ∷ []) (lines_in most (room - (size i + 1)) (drop (n + 1) bytes ++ left)))

  feed_long : (most < n) ⊎ (room ≤ n) → lines_in most room (bytes ++ left) ≡ long_lines
  feed_long (inl long) = ap (lines_in most room) cut ∙ too_many most room [] (take n bytes) (10 ∷ (drop (n + 1) bytes ++ left)) none (omega arith) (inl (omega (arith, size)))
  feed_long (inr late) = ap (lines_in most room) cut ∙ by (cases_lt room n) (cases_lt most n)
    where
      by : (room < n) ⊎ (n ≤ room) → (most < n) ⊎ (n ≤ most) → lines_in most room (take n bytes ++ 10 ∷ (drop (n + 1) bytes ++ left)) ≡ long_lines
      by (inl over) m = too_many most room [] (take n bytes) (10 ∷ (drop (n + 1) bytes ++ left)) none (omega arith) (inr (omega (arith, size)))
      by (inr same) (inl long) = too_many most room [] (take n bytes) (10 ∷ (drop (n + 1) bytes ++ left)) none (omega arith) (inl (omega (arith, size)))
      by (inr same) (inr fits) = ended_late most room (take n bytes) (drop (n + 1) bytes ++ left) none (omega (arith, size)) (omega (arith, size))

-- ---- bytes without LF

rest_long : (most room : ℕ) (bytes left : List ℕ) → HasNoFeed bytes → (most < length bytes) ⊎ (room < length bytes) → lines_in most room (bytes ++ left) ≡ long_lines
rest_long most room bytes left none (inl long) = too_many most room [] bytes left none (omega arith) (inl (omega arith))
rest_long most room bytes left none (inr over) = too_many most room [] bytes left none (omega arith) (inr over)

rest_last : (most room rest : ℕ) (bytes left : List ℕ) → HasNoFeed bytes → length bytes ≤ most → length bytes ≤ room → left ≡ [] → 0 < length bytes
    → lines_in most room (bytes ++ left) ≡ with_lines (bytes ∷ []) (lines_in most rest (drop (length bytes) bytes ++ left))
rest_last most room rest bytes left none fits few ended some =
    ap (λ (xs : List ℕ). lines_in most room (bytes ++ xs)) ended
    ∙ ap (lines_in most room) (append-nil bytes)
    ∙ unended most room bytes none fits few
    ∙ last_is bytes some
    ∙ ap (with_lines (bytes ∷ [])) (sym (ap (λ (xs : List ℕ). lines_in most rest (xs ++ left)) (drop_all (length bytes) bytes (omega arith)) ∙ ap (lines_in most rest) ended ∙ at_end most rest []))
  where
    last_is : (xs : List ℕ) → 0 < length xs → last_line xs ≡ with_lines (xs ∷ []) (last_line [])
    last_is [] h = absurd (omega arith)
    last_is (x ∷ xs) h = refl

-- ---- the lines of a state

module _ (w : Lines) (passed : w.used ≡ 0) where
  pub bytes_are : bytes_ahead w ≡ in_window w.window
  bytes_are = ap (λ k. drop k (in_window w.window)) passed

  pub no_feed : HasNoFeed (take w.seen (in_window w.window))
  no_feed = let P : List ℕ → Type 0 = λ xs. HasNoFeed (take w.seen xs) in subst P bytes_are w.searched

  -- it is given
  module _ (now : Lines) (used : ℕ) (goes : Goes used w now) where
    as_goes : (left : List ℕ) → with_lines (take w.seen (in_window w.window) ∷ []) (lines_in w.most (w.room - used) (drop used (in_window w.window) ++ left))
        ≡ with_lines (take now.given (in_window now.window) ∷ []) (lines_in now.most now.room (bytes_ahead now ++ left))
    as_goes left = λ i.
        with_lines (take (sym goes.given i) (in_window (sym goes.same_window i)) ∷ [])
        (lines_in (sym goes.same_most i) (sym goes.room i) (drop (sym goes.used_is i) (in_window (sym goes.same_window i)) ++ left))

    same_reads : used ≤ w.room → used ≤ length (bytes_ahead w) → may_read now ≡ may_read w
    same_reads few fits =
        let a : length (bytes_ahead now) ≡ length (in_window w.window) - used = (λ i. length (drop (goes.used_is i) (in_window (goes.same_window i)))) ∙ length-drop used (in_window w.window) in
        let b : length (bytes_ahead w) ≡ length (in_window w.window) = ap length bytes_are in
        let r = goes.room in
        omega (arith, a, b, r)

    looks_given : (answer : (left : Told) → HasEnded w left → AnswersNext Given w now left left) → 0 < used → used ≤ w.room → used ≤ length (bytes_ahead w) → Looks (Some Given) w now
    looks_given answer some few fits = let shorter : now.room < w.room = let r = goes.room in omega arith in record { says = record { answer = answer; no_fault = refl; shorter = shorter; same_reads = same_reads few fits }; same_most = goes.same_most; same_end = goes.same_end }

    feed_given : (stands : StandsAtFeed w) → used ≡ w.seen + 1 → w.seen ≤ w.most → w.seen < w.room → (left : Told) → HasEnded w left → AnswersNext Given w now left left
    feed_given stands one fits few None ended = refl
    feed_given stands one fits few (Some left) ended =
        let inside : w.seen < length (in_window w.window) = let h = stands.inside in omega (arith, ap length bytes_are) in
        let feed : get_or (in_window w.window) w.seen 0 ≡ 10 = ap (λ (xs : List ℕ). get_or xs w.seen 0) (sym bytes_are) ∙ stands.feed in
        ap Some (ap (λ (xs : List ℕ). lines_in w.most w.room (xs ++ left)) bytes_are
        ∙ feed_plain w.most w.room w.seen (in_window w.window) left no_feed inside feed fits few
        ∙ (λ i. with_lines (take w.seen (in_window w.window) ∷ []) (lines_in w.most (w.room - sym one i) (drop (sym one i) (in_window w.window) ++ left)))
        ∙ as_goes left)

    rest_given : w.seen ≡ length (bytes_ahead w) → used ≡ w.seen → w.ended ≡ true → w.seen ≤ w.most → w.seen ≤ w.room → 0 < w.seen → (left : Told) → HasEnded w left → AnswersNext Given w now left left
    rest_given stands all end fits few some None ended = refl
    rest_given stands all end fits few some (Some left) ended =
        let whole : w.seen ≡ length (in_window w.window) = stands ∙ ap length bytes_are in
        let none : HasNoFeed (in_window w.window) = let P : List ℕ → Type 0 = HasNoFeed in subst P (take_all w.seen (in_window w.window) (omega (arith, whole))) no_feed in
        ap Some (ap (λ (xs : List ℕ). lines_in w.most w.room (xs ++ left)) bytes_are
        ∙ rest_last w.most w.room (w.room - used) (in_window w.window) left none (omega (arith, whole)) (omega (arith, whole)) (ended end) (omega (arith, whole))
        ∙ (λ i. with_lines (sym (take_all w.seen (in_window w.window) (omega (arith, whole))) i ∷ []) (lines_in w.most (w.room - used) (drop ((sym whole ∙ sym all) i) (in_window w.window) ++ left)))
        ∙ as_goes left)

  -- it is too long
  looks_long : ((left : List ℕ) → lines_in w.most w.room (in_window w.window ++ left) ≡ long_lines) → Looks (Some TooLong) w w
  looks_long long = record { says = record { answer = by; no_fault = refl; shorter = tt; same_reads = refl }; same_most = refl; same_end = refl }
    where
      by : (left : Told) → HasEnded w left → AnswersNext TooLong w w left left
      by None ended = (tt, record { same_bytes = refl; same_room = refl })
      by (Some left) ended = (ap (λ (xs : List ℕ). lines_in w.most w.room (xs ++ left)) bytes_are ∙ long left, record { same_bytes = refl; same_room = refl })

  pub feed_too_long : StandsAtFeed w → (w.most < w.seen) ⊎ (w.room ≤ w.seen) → Looks (Some TooLong) w w
  feed_too_long stands many = looks_long (λ left.
      let inside : w.seen < length (in_window w.window) = let h = stands.inside in omega (arith, ap length bytes_are) in
      let feed : get_or (in_window w.window) w.seen 0 ≡ 10 = ap (λ (xs : List ℕ). get_or xs w.seen 0) (sym bytes_are) ∙ stands.feed in
      feed_long w.most w.room w.seen (in_window w.window) left no_feed inside feed many)

  pub feed_gives : (now : Lines) → StandsAtFeed w → w.seen ≤ w.most → w.seen < w.room → Goes (w.seen + 1) w now → Looks (Some Given) w now
  feed_gives now stands fits few goes = looks_given now (w.seen + 1) goes (feed_given now (w.seen + 1) goes stands refl fits few) (omega arith) (omega arith) (let h = stands.inside in omega arith)

  -- at the end of what is there
  module _ (stands : w.seen ≡ length (bytes_ahead w)) where
    whole_is : w.seen ≡ length (in_window w.window)
    whole_is = stands ∙ ap length bytes_are

    none_there : HasNoFeed (in_window w.window)
    none_there = let P : List ℕ → Type 0 = HasNoFeed in subst P (take_all w.seen (in_window w.window) (omega (arith, whole_is))) no_feed

    pub rest_too_long : (w.most < w.seen) ⊎ (w.room < w.seen) → Looks (Some TooLong) w w
    rest_too_long many = looks_long (λ left. rest_long w.most w.room (in_window w.window) left none_there (by many))
      where
        by : (w.most < w.seen) ⊎ (w.room < w.seen) → (w.most < length (in_window w.window)) ⊎ (w.room < length (in_window w.window))
        by (inl long) = inl (omega (arith, whole_is))
        by (inr over) = inr (omega (arith, whole_is))

    pub rest_gives : (now : Lines) → w.ended ≡ true → w.seen ≤ w.most → w.seen ≤ w.room → 0 < w.seen → Goes w.seen w now → Looks (Some Given) w now
    rest_gives now end fits few some goes = looks_given now w.seen goes (rest_given now w.seen goes stands refl end fits few some) some few (omega arith)

    pub rest_ends : w.ended ≡ true → w.seen ≡ 0 → Looks (Some End) w w
    rest_ends end nothing = record { says = record { answer = by; no_fault = refl; shorter = tt; same_reads = refl }; same_most = refl; same_end = refl }
      where
        empty : bytes_ahead w ≡ []
        empty = is_nil (bytes_ahead w) (omega (arith, stands))
          where
            is_nil : (xs : List ℕ) → length xs ≡ 0 → xs ≡ []
            is_nil [] h = refl
            is_nil (x ∷ xs) h = absurd (omega arith)

        by : (left : Told) → HasEnded w left → AnswersNext End w w left left
        by None ended = (tt, empty, tt, record { same_bytes = refl; same_room = refl })
        by (Some left) ended = ((λ i. lines_in w.most w.room (empty i ++ ended end i)) ∙ at_end w.most w.room [], empty, ended end, record { same_bytes = refl; same_room = refl })

    pub rest_wants : w.ended ≡ false → w.seen ≤ w.most → w.seen ≤ w.room → Looks None w w
    rest_wants open_yet fits few = record {
      says = record {
        needs = record {
          passed = passed;
          open_yet = open_yet;
          no_feed = let P : List ℕ → Type 0 = HasNoFeed in subst P (sym bytes_are) none_there;
          fits = omega (arith, stands);
          few = omega (arith, stands);
        };
        same_bytes = refl;
        same_room = refl;
      };
      same_most = refl;
      same_end = refl;
    }

-- ---- one step behind another

-- what is answered of the lines that are ahead is answered of those that were
pub answers_from : (line : Line) (a b c : Lines) (left middle now : Told) → all_ahead b middle ≡ all_ahead a left → b.room ≡ a.room → b.most ≡ a.most → AnswersNext line b c middle now → AnswersNext line a c left now
answers_from line a b c left middle now bytes room most = by line
  where
    lines : lines_ahead a left ≡ lines_ahead b middle
    lines = λ i. lines_told (sym most i) (sym room i) (sym bytes i)

    onto : (r : LinesIn) → IfSome (lines_ahead b middle) (λ x. x ≡ r) → IfSome (lines_ahead a left) (λ x. x ≡ r)
    onto r h = let P : Option LinesIn → Type 0 = λ o. IfSome o (λ x. x ≡ r) in subst P (sym lines) h

    none : GivesNone b c middle now → GivesNone a c left now
    none h = record { same_bytes = h.same_bytes ∙ bytes; same_room = h.same_room ∙ room }

    by : (line : Line) → AnswersNext line b c middle now → AnswersNext line a c left now
    by Given h = lines ∙ h
    by End h = (onto (last_line []) h.0, h.1, h.2, none h.3)
    by TooLong h = (onto long_lines h.0, none h.1)
    by Failed h = none h
    by Memory h = none h

-- a line takes some of the limit
pub shorter_from : (line : Line) (a b c : Lines) → b.room ≡ a.room → IsShorter line b c → IsShorter line a c
shorter_from Given a b c same h = omega (arith, same)
shorter_from End a b c same h = tt
shorter_from TooLong a b c same h = tt
shorter_from Failed a b c same h = tt
shorter_from Memory a b c same h = tt

pub looks_from : (answer : Option Line) (a b c : Lines) → IsAsBefore a b → Looks answer b c → Looks answer a c
looks_from answer a b c same looks = record { says = by answer looks.says; same_most = looks.same_most ∙ same.same_most; same_end = looks.same_end ∙ same.same_end }
  where
    bytes : bytes_ahead b ≡ bytes_ahead a
    bytes = λ i. drop (same.same_used i) (in_window (same.same_window i))

    by : (answer : Option Line) → LooksAt answer b c → LooksAt answer a c
    by None h = record { needs = h.needs; same_bytes = h.same_bytes ∙ bytes; same_room = h.same_room ∙ same.same_room }
    by (Some line) h = record {
      answer = λ left ended. answers_from line a b c left left left (ap (λ (xs : List ℕ). in_front xs left) bytes) same.same_room same.same_most (h.answer left (λ end. ended (sym same.same_end ∙ end)));
      no_fault = h.no_fault;
      shorter = shorter_from line a b c same.same_room h.shorter;
      same_reads = h.same_reads ∙ (λ i. same.same_room i + 1 - length (bytes i));
    }
