-- What is ahead of a window, and what its bytes say of that.
use Rattle.std.proofs.Common.{◌≡◌, ℕ, ◌+◌, ◌-◌, ◌≤◌, ◌<◌, List, [], ◌∷◌, ◌++◌, length, take, drop, Bool, true, false, refl, sym, ap, ◌∙◌, arith, append-nil, length-append, length-drop, Ok, Err, Result, ◌⊎◌, inl, inr, true≢false}
use Rattle.std.proofs.lemmas.List.{drop-append-le, take-append-le}
use Rattle.std.specs.Prelude.{nat_lt, Some, None, Option, IfSome, ◌==◌, ◌||◌, if◌then◌else◌, nat_eq}
use Rattle.uf_cid.specs.Blocks.{Held}
use Rattle.uf_cid.specs.declared.cid.Cid.{Cid}
use Rattle.uf_edge.specs.Streams.{IsAtEnd, Told}
use Rattle.uf_store.specs.Contents.{Told as Kept}
use Rattle.uf_store.specs.Keeping.{HoldsOne}
use Rattle.uf_store.specs.declared.store.StoreFault.{StoreFault}
use Rattle.uf_varint.proofs.Varints.{not_below}
use Rattle.uf_varint.specs.Varint.{read_multi_of}
use Rattle.uf_varint.specs.declared.varint.Var.{Var}
use Rattle.uf_varint.specs.declared.varint.Var.TheVariants.{Value, Short}
use Rattle.uf_car.specs.declared.fault.CarFault.{CarFault}
use Rattle.uf_car.specs.declared.fault.CarFault.TheVariants as fault
use Rattle.uf_car.specs.declared.section.Opening.{Opening}
use Rattle.uf_car.specs.declared.section.Opening.TheVariants.{End, Cut, Wrong, Found}
use Rattle.uf_car.specs.declared.window.Supply.{Supply}
use Rattle.uf_car.specs.declared.window.Supply.TheVariants.{Open, Ended, Over}
use Rattle.uf_car.specs.declared.window.Window.{Window}
use Rattle.uf_car.specs.declared.begun.Begun.{Begun}
use Rattle.uf_car.specs.Importing.{ClashesInFront, ClashesWith, begun, checked_block, cut_fault, section_said, no_more, stops}
use Rattle.std.specs.Cmp.Lexicographic.{pointwise}
use Rattle.std.proofs.lemmas.Bool.Decides.{nat_tests}
use Rattle.uf_car.specs.Headers.{header_of}
use Rattle.uf_car.specs.Reading.{EndsInside, Has, IsWrong, Section, checked, ended_over, header_at, header_with, opening_of, section_of, sized_roots, with_opening}
use Rattle.uf_car.specs.Windows.{Ahead, ComesTo, NoMoreComes, HasEnough, ahead, ahead_of, ahead_with, window_bytes, is_over_at}
use Rattle.uf_car.proofs.Openings.{length_stable, long_enough, opening_none, opening_end, opening_stable, opening_long}
use Rattle.uf_car.proofs.Stops.{clash_as}

-- ---- what is ahead

-- where the bytes end in a section, no more comes
pub closed_at : (w : Window) (place : ℕ) (o : Opening) → HasEnough 45 w → opening_of place (window_bytes w) ≡ o → (o ≡ End) ⊎ (o ≡ Cut) → NoMoreComes w.supply
closed_at w place o (inl enough) e ends = absurd (opening_long place (window_bytes w) o enough e ends)
closed_at w place o (inr closed) e ends = closed

-- a source that gives no more and not too much has ended
pub has_ended : (supply : Supply) (told : Told) → NoMoreComes supply → is_over_at supply ≡ false → ComesTo supply told → IsAtEnd told
has_ended Open told closed over comes = absurd closed
has_ended Ended told closed over comes = comes
has_ended Over told closed over comes = absurd (true≢false over)

module _ (w : Window) (told : Told) (a : Ahead) (is : ahead w told ≡ Some a) where
  -- the bytes that are there are its front
  pub front_ahead : (more : List ℕ) × (a.0 ≡ window_bytes w ++ more)
  front_ahead = by told is
    where
      at : (supply : Supply) (left : List ℕ) → ahead_with (window_bytes w) w.room supply left ≡ a → (more : List ℕ) × (a.0 ≡ window_bytes w ++ more)
      at Open left e = (take w.room left, ap (λ (x : Ahead). x.0) (sym e))
      at Ended left e = ([], ap (λ (x : Ahead). x.0) (sym e) ∙ sym (append-nil (window_bytes w)))
      at Over left e = ([], ap (λ (x : Ahead). x.0) (sym e) ∙ sym (append-nil (window_bytes w)))

      by : (t : Told) → ahead_of (window_bytes w) w.room w.supply t ≡ Some a → (more : List ℕ) × (a.0 ≡ window_bytes w ++ more)
      by None e = cc
      by (Some left) e = at w.supply left (let same : ahead_with (window_bytes w) w.room w.supply left ≡ a = cc in same)

  -- where no more comes, they are all of it
  pub closed_ahead : NoMoreComes w.supply → (a.0 ≡ window_bytes w) × (a.1 ≡ is_over_at w.supply)
  closed_ahead closed = by told is
    where
      at : (supply : Supply) (left : List ℕ) → NoMoreComes supply → ahead_with (window_bytes w) w.room supply left ≡ a → (a.0 ≡ window_bytes w) × (a.1 ≡ is_over_at supply)
      at Open left shut e = absurd shut
      at Ended left shut e = (ap (λ (x : Ahead). x.0) (sym e), ap (λ (x : Ahead). x.1) (sym e))
      at Over left shut e = (ap (λ (x : Ahead). x.0) (sym e), ap (λ (x : Ahead). x.1) (sym e))

      by : (t : Told) → ahead_of (window_bytes w) w.room w.supply t ≡ Some a → (a.0 ≡ window_bytes w) × (a.1 ≡ is_over_at w.supply)
      by None e = cc
      by (Some left) e = at w.supply left closed (let same : ahead_with (window_bytes w) w.room w.supply left ≡ a = cc in same)

  -- ---- a section

  -- the bytes that are there say how it begins
  opening_ahead : (place : ℕ) → HasEnough 45 w → opening_of place a.0 ≡ opening_of place (window_bytes w)
  opening_ahead place (inl enough) = ap (opening_of place) front_ahead.1 ∙ opening_stable place (window_bytes w) front_ahead.0 enough
  opening_ahead place (inr closed) = ap (opening_of place) (closed_ahead closed).0

  pub begun_is : (place : ℕ) (o : Opening) → HasEnough 45 w → o ≡ opening_of place (window_bytes w) → begun a.1 place (opening_of place a.0) ≡ begun (is_over_at w.supply) place o
  begun_is place o settled e = ap (begun a.1 place) (opening_ahead place settled ∙ sym e) ∙ by o (sym e)
    where
      by : (o : Opening) → opening_of place (window_bytes w) ≡ o → begun a.1 place o ≡ begun (is_over_at w.supply) place o
      by End is_end = ap no_more (closed_ahead (closed_at w place End settled is_end (inl refl))).1
      by Cut is_cut = ap (λ (b : Bool). Err (cut_fault b place)) (closed_ahead (closed_at w place Cut settled is_cut (inr refl))).1
      by (Wrong f) is_wrong = refl
      by (Found c front size) is_found = refl

  -- ---- the header

  length_ahead : HasEnough 9 w → read_multi_of a.0 ≡ read_multi_of (window_bytes w)
  length_ahead (inl enough) = ap read_multi_of front_ahead.1 ∙ length_stable (window_bytes w) front_ahead.0 (long_enough (window_bytes w) enough)
  length_ahead (inr closed) = ap read_multi_of (closed_ahead closed).0

  short_closed : HasEnough 9 w → read_multi_of (window_bytes w) ≡ Short → NoMoreComes w.supply
  short_closed (inl enough) e = absurd (long_enough (window_bytes w) enough e)
  short_closed (inr closed) e = closed

  pub header_read : (r : Var) → HasEnough 9 w → r ≡ read_multi_of (window_bytes w) → header_at a.1 a.0 ≡ header_with a.1 a.0 r
  header_read r settled e = ap (header_with a.1 a.0) (length_ahead settled ∙ sym e)

  pub header_short : HasEnough 9 w → Short ≡ read_multi_of (window_bytes w) → header_at a.1 a.0 ≡ Err (cut_fault (is_over_at w.supply) 0)
  header_short settled e = header_read Short settled e ∙ by a.1 (is_over_at w.supply) (closed_ahead (short_closed settled (sym e))).1
    where
      by : (x y : Bool) → x ≡ y → header_with x a.0 Short ≡ Err (cut_fault y 0)
      by true true s = refl
      by false false s = refl
      by true false s = absurd (true≢false s)
      by false true s = absurd (true≢false (sym s))

  pub header_wrong : (n used : ℕ) → HasEnough 9 w → Value n used ≡ read_multi_of (window_bytes w) → (n ≡ 0) ⊎ (16384 < n) → header_at a.1 a.0 ≡ Err fault.Header
  header_wrong n used settled e wrong = header_read (Value n used) settled e ∙ ap (λ (b : Bool). elim b as (λ x. Result (List Cid × ℕ) CarFault) [ true ↦ Err fault.Header | false ↦ elim (nat_lt (length a.0) (used + n)) as (λ x. Result (List Cid × ℕ) CarFault) [ true ↦ ended_over a.1 (Err (fault.Truncated 0)) | false ↦ sized_roots (used + n) (header_of (take n (drop used a.0))) ] ]) (test wrong)
    where
      test : (n ≡ 0) ⊎ (16384 < n) → ((n == 0) || nat_lt 16384 n) ≡ true
      test (inl z) = grind (arith, nat_tests)
      test (inr h) = grind (arith, nat_tests)

-- ---- a block

abbrev said_by : ℕ → Cid → Bool → Result Unit CarFault
said_by place c x = if x then Ok tt else Err (fault.WrongDigest place c)

abbrev section_by : ℕ → Held → ℕ → Bool → Section
section_by place b used x = if x then Has b used else IsWrong (fault.WrongDigest place b.0)

-- some of the bytes that are there were used
pub used_ahead : (w v : Window) (told : Told) (a : Ahead) (n : ℕ) → ahead w told ≡ Some a → n ≤ length (window_bytes w) → window_bytes v ≡ drop n (window_bytes w) → v.room ≡ w.room → v.supply ≡ w.supply
    → ahead v told ≡ Some (drop n a.0, a.1)
used_ahead w v told a n is few bytes room supply = (λ i. ahead_of (bytes i) (room i) (supply i) told) ∙ by told is
  where
    at : (s : Supply) (left : List ℕ) → ahead_with (window_bytes w) w.room s left ≡ a → ahead_with (drop n (window_bytes w)) w.room s left ≡ (drop n a.0, a.1)
    at Open left e = λ i. ((sym (drop-append-le n (window_bytes w) (take w.room left) few) ∙ ap (λ (x : Ahead). drop n x.0) e) i, (e i).1)
    at Ended left e = λ i. (drop n (e i).0, (e i).1)
    at Over left e = λ i. (drop n (e i).0, (e i).1)

    by : (t : Told) → ahead_of (window_bytes w) w.room w.supply t ≡ Some a → ahead_of (drop n (window_bytes w)) w.room w.supply t ≡ Some (drop n a.0, a.1)
    by None e = cc
    by (Some left) e = ap Some (at w.supply left (let same : ahead_with (window_bytes w) w.room w.supply left ≡ a = cc in same))

module _ (hash : List ℕ → List ℕ) (place : ℕ) (a : Ahead) (b : Begun) (found : opening_of place a.0 ≡ Found b.cid b.front b.size) where
  -- all bytes of the section are there
  section_is : b.front + b.size ≤ length a.0 → section_of hash place a.0 ≡ checked hash place b.cid (take b.size (drop b.front a.0)) (b.front + b.size)
  section_is enough =
      ap (with_opening hash place a.0) found
      ∙ ap (λ (x : Bool). elim x as (λ y. Section) [ true ↦ EndsInside | false ↦ checked hash place b.cid (take b.size (drop b.front a.0)) (b.front + b.size) ]) (not_below (length a.0) (b.front + b.size) enough)

  module _ (w : Window) (told : Told) (is : ahead w told ≡ Some a) (enough : b.front + b.size ≤ length (window_bytes w)) where
    all_there : b.front + b.size ≤ length a.0
    all_there =
        let front = front_ahead w told a is in
        let size : length a.0 ≡ length (window_bytes w) + length front.0 = ap length front.1 ∙ length-append (window_bytes w) front.0 in
        omega (arith, size)

    -- its block is among the bytes that are there
    block_is : take (b.front + b.size - b.front) (drop b.front (window_bytes w)) ≡ take b.size (drop b.front a.0)
    block_is =
        let front = front_ahead w told a is in
        let n : b.front + b.size - b.front ≡ b.size = omega arith in
        let left : length (drop b.front (window_bytes w)) ≡ length (window_bytes w) - b.front = length-drop b.front (window_bytes w) in
        (λ i. take (n i) (drop b.front (window_bytes w)))
        ∙ sym (take-append-le b.size (drop b.front (window_bytes w)) front.0 (omega (arith, left)))
        ∙ ap (take b.size) (sym (drop-append-le b.front (window_bytes w) front.0 (omega arith)) ∙ ap (drop b.front) (sym front.1))

    -- the block was refused
    pub refused : (block : List ℕ) (f : CarFault) → block ≡ take (b.front + b.size - b.front) (drop b.front (window_bytes w)) → (stops f ≡ false → checked_block hash place b.cid block ≡ Err f)
        → stops f ≡ false → section_said a.1 place (section_of hash place a.0) ≡ Err f
    refused block f same says plain =
        ap (section_said a.1 place) (section_is all_there)
        ∙ by (pointwise nat_eq (hash (take b.size (drop b.front a.0))) b.cid.digest) (ap (checked_block hash place b.cid) (sym (same ∙ block_is)) ∙ says plain)
      where
        by : (x : Bool) → said_by place b.cid x ≡ Err f → section_said a.1 place (section_by place (b.cid, take b.size (drop b.front a.0)) (b.front + b.size) x) ≡ Err f
        by true e = cc
        by false e = let same : fault.WrongDigest place b.cid ≡ f = cc in ap Err same

    -- the block is that of its CID
    pub accepted : (block : List ℕ) → block ≡ take (b.front + b.size - b.front) (drop b.front (window_bytes w)) → checked_block hash place b.cid block ≡ Ok tt
        → section_of hash place a.0 ≡ Has (b.cid, block) (b.front + b.size)
    accepted block same says =
        section_is all_there
        ∙ ap (λ (x : List ℕ). checked hash place b.cid x (b.front + b.size)) (sym (same ∙ block_is))
        ∙ by (pointwise nat_eq (hash block) b.cid.digest) says
      where
        by : (x : Bool) → said_by place b.cid x ≡ Ok tt → section_by place (b.cid, block) (b.front + b.size) x ≡ Has (b.cid, block) (b.front + b.size)
        by true e = refl
        by false e = cc

    -- a save of the block meets a block that is held
    pub met : (block : List ℕ) → block ≡ take (b.front + b.size - b.front) (drop b.front (window_bytes w)) → (mid : Kept) (o : Option StoreFault) → IfSome o (ClashesWith hash place b.cid block mid) → IfSome o (ClashesInFront (section_of hash place a.0) mid)
    met block same mid o h = clash_as With Front front o h
      where
        With : Cid → List ℕ → List ℕ → Type 0
        With c first second = (c ≡ b.cid) × (second ≡ block) × (checked_block hash place b.cid block ≡ Ok tt) × HoldsOne mid c first

        Front : Cid → List ℕ → List ℕ → Type 0
        Front c first second = (used : ℕ) × (section_of hash place a.0 ≡ Has (c, second) used) × HoldsOne mid c first

        front : (c : Cid) (first second : List ℕ) → With c first second → Front c first second
        front c first second g = (b.front + b.size, accepted block same g.2 ∙ (λ i. Has (sym g.0 i, sym g.1 i) (b.front + b.size)), g.3)

-- ---- what was begun

pub begun_none : (over : Bool) (place : ℕ) (xs : List ℕ) → begun over place (opening_of place xs) ≡ Ok None → ◌≡◌ {A = Ahead} (xs, over) ([], false)
begun_none over place [] e = λ i. ([], by over (ap (begun over place) (sym (opening_none place [] refl)) ∙ e) i)
  where
    by : (b : Bool) → no_more {A = Begun} b ≡ Ok None → b ≡ false
    by true is = cc
    by false is = refl
begun_none over place (b ∷ bytes) e = absurd (by (opening_of place (b ∷ bytes)) refl e)
  where
    by : (o : Opening) → opening_of place (b ∷ bytes) ≡ o → begun over place o ≡ Ok None → ⊥
    by End is e2 = opening_end place (b ∷ bytes) (omega arith) is
    by Cut is e2 = cc
    by (Wrong f) is e2 = cc
    by (Found c front size) is e2 = cc

pub begun_some : (over : Bool) (place : ℕ) (o : Opening) (b : Begun) → begun over place o ≡ Ok (Some b) → o ≡ Found b.cid b.front b.size
begun_some over place End b e = by over e
  where
    by : (x : Bool) → no_more {A = Begun} x ≡ Ok (Some b) → End ≡ Found b.cid b.front b.size
    by true is = cc
    by false is = cc
begun_some over place Cut b e = cc
begun_some over place (Wrong f) b e = cc
begun_some over place (Found c front size) b e =
    let same : record { cid = c; front = front; size = size } ≡ b = cc in λ i. Found (same i).cid (same i).front (same i).size
