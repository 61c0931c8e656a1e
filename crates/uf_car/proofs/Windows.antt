-- What a window shows behind each step.
use Rattle.std.proofs.Common.{◌≡◌, ℕ, zero, suc, ◌+◌, ◌-◌, ◌≤◌, ◌<◌, List, [], ◌++◌, length, take, drop, Bool, true, false, refl, sym, ap, ◌∙◌, arith, append_assoc, append-nil, length-append, length-take, length-take-le}
use Rattle.std.proofs.Math.Seq.{take-add, take-append-add}
use Rattle.std.proofs.lemmas.List.{drop-append-le, drop-drop, drop-take, take-append-le, take-take}
use Rattle.std.proofs.lemmas.Bool.Decides.{nat_tests}
use Rattle.std.specs.Prelude.{nat_lt, min, Some, None}
use Rattle.uf_edge.specs.Streams.{Gives, IsAtEnd, Told, before as in_front}
use Rattle.uf_varint.proofs.Varints.{below, not_below}
use Rattle.uf_car.specs.declared.window.Supply.{Supply}
use Rattle.uf_car.specs.declared.window.Supply.TheVariants.{Open, Ended, Over}
use Rattle.uf_car.specs.declared.window.Window.{Window}
use Rattle.uf_car.specs.Windows.{KeepsAhead, ahead_of, ahead_with, window_bytes}

nat_lt-true : (n m : ℕ) → nat_lt n m ≡ true → n < m
nat_lt-true n m e = grind (arith, nat_tests)

nat_lt-false : (n m : ℕ) → nat_lt n m ≡ false → m ≤ n
nat_lt-false n m e = grind (arith, nat_tests)

-- the bytes from one place up to another
pub part_is : (from to : ℕ) (xs : List ℕ) → from ≤ to → take (to - from) (drop from xs) ≡ drop from (take to xs)
part_is from to xs h = sym (drop-take from (to - from) xs) ∙ ap (λ (n : ℕ). drop from (take n xs)) (let e : from + (to - from) ≡ to = omega arith in e)

-- some of the first bytes were used
pub part_used : (from to n : ℕ) (xs : List ℕ) → from + n ≤ to → take (to - (from + n)) (drop (from + n) xs) ≡ drop n (take (to - from) (drop from xs))
part_used from to n xs h =
    part_is (from + n) to xs h ∙ sym (drop-drop n from (take to xs)) ∙ ap (drop n) (sym (part_is from to xs (omega arith)))

-- some bytes were put behind those that are there
pub part_more : (old now : List ℕ) (from to k : ℕ) → from ≤ to → to ≤ length old → take to now ≡ take to old → take (to + k - from) (drop from now) ≡ take (to - from) (drop from old) ++ take k (drop to now)
part_more old now from to k order fits same =
    let size : length (take to old) ≡ to = length-take-le to old fits in
    part_is from (to + k) now (omega arith)
    ∙ ap (drop from) (take-add to k now ∙ ap (λ (xs : List ℕ). xs ++ take k (drop to now)) same)
    ∙ drop-append-le from (take to old) (take k (drop to now)) (omega (arith, size))
    ∙ ap (λ (xs : List ℕ). xs ++ take k (drop to now)) (sym (part_is from to old order))

pub part_same : (old now : List ℕ) (from to : ℕ) → from ≤ to → take to now ≡ take to old → take (to - from) (drop from now) ≡ take (to - from) (drop from old)
part_same old now from to order same = part_is from to now order ∙ ap (drop from) same ∙ sym (part_is from to old order)

-- what is ahead where a source gave some bytes, of which as many are taken as may be
module _ (bytes given left : List ℕ) (room : ℕ) where
  took_all : length given ≤ room → ahead_with (bytes ++ given) (room - length given) Open left ≡ ahead_with bytes room Open (given ++ left)
  took_all h =
      let e : room ≡ length given + (room - length given) = omega arith in
      let front : take room (given ++ left) ≡ given ++ take (room - length given) left = ap (λ (n : ℕ). take n (given ++ left)) e ∙ take-append-add given left (room - length given) in
      let size : length (given ++ left) ≡ length given + length left = length-append given left in
      λ i. ((append_assoc bytes given (take (room - length given) left) ∙ ap (λ (xs : List ℕ). bytes ++ xs) (sym front)) i, same_lt (room - length given) (length left) room (length (given ++ left)) (omega (arith, size)) i)
    where
      same_lt : (a b c d : ℕ) → c + b ≡ a + d → nat_lt a b ≡ nat_lt c d
      same_lt a b c d e = grind (arith, nat_tests)

  took_some : room < length given → ahead_with (bytes ++ take room given) 0 Over left ≡ ahead_with bytes room Open (given ++ left)
  took_some h =
      let size : length (given ++ left) ≡ length given + length left = length-append given left in
      λ i. (ap (λ (xs : List ℕ). bytes ++ xs) (sym (take-append-le room given left (omega arith))) i, sym (below room (length (given ++ left)) (omega (arith, size))) i)

take-none : (n : ℕ) → take {A = ℕ} n [] ≡ []
take-none zero = refl
take-none (suc n) = refl

-- nothing is left
at_end : (bytes : List ℕ) (room : ℕ) → ahead_with bytes room Ended [] ≡ ahead_with bytes room Open []
at_end bytes room = λ i. ((sym (ap (λ (xs : List ℕ). bytes ++ xs) (take-none room) ∙ append-nil bytes)) i, sym (not_below room 0 (omega arith)) i)

-- no more bytes are used than are there
pub used_fits : (from to n : ℕ) (xs : List ℕ) → from ≤ to → n ≤ length (take (to - from) (drop from xs)) → from + n ≤ to
used_fits from to n xs order h = let size : length (take (to - from) (drop from xs)) ≡ min (to - from) (length (drop from xs)) = length-take (to - from) (drop from xs) in omega (arith, size)

-- ---- a window

module _ (before now : Window) (told told_now : Told) (open_was : before.supply ≡ Open) (fits : before.to ≤ length before.buffer.items) where
  bytes_now : (middle : List ℕ) (k : ℕ) → take before.to middle ≡ take before.to before.buffer.items → now.from ≡ before.from → now.to ≡ before.to + k → now.buffer.items ≡ middle
      → window_bytes now ≡ window_bytes before ++ take k (drop before.to middle)
  bytes_now middle k same from to buffer =
      (λ i. take (to i - from i) (drop (from i) (buffer i))) ∙ part_more before.buffer.items middle before.from before.to k before.in_order fits same

  -- all that was given was taken
  gave_all : (given : List ℕ) → length given ≤ before.room → window_bytes now ≡ window_bytes before ++ given → now.room ≡ before.room - length given → now.supply ≡ Open
      → told ≡ in_front given told_now → KeepsAhead before now told told_now
  gave_all given all bytes room supply taken = record {
    same = (λ i. ahead_of (bytes i) (room i) (supply i) told_now) ∙ by told_now ∙ (λ i. ahead_of (window_bytes before) before.room (sym open_was i) (sym taken i));
    few = let size : length (window_bytes now) ≡ length (window_bytes before) + length given = ap length bytes ∙ length-append (window_bytes before) given in omega (arith, size, room);
  }
    where
      by : (t : Told) → ahead_of (window_bytes before ++ given) (before.room - length given) Open t ≡ ahead_of (window_bytes before) before.room Open (in_front given t)
      by None = refl
      by (Some left) = ap Some (took_all (window_bytes before) given left before.room all)

  -- more was given than may be taken
  gave_over : (given : List ℕ) → before.room < length given → window_bytes now ≡ window_bytes before ++ take before.room given → now.room ≡ 0 → now.supply ≡ Over
      → told ≡ in_front given told_now → KeepsAhead before now told told_now
  gave_over given over bytes room supply taken = record {
    same = (λ i. ahead_of (bytes i) (room i) (supply i) told_now) ∙ by told_now ∙ (λ i. ahead_of (window_bytes before) before.room (sym open_was i) (sym taken i));
    few = let size : length (window_bytes now) ≡ length (window_bytes before) + length (take before.room given) = ap length bytes ∙ length-append (window_bytes before) (take before.room given) in
        let part : length (take before.room given) ≡ before.room = length-take-le before.room given (omega arith) in omega (arith, size, room, part);
  }
    where
      by : (t : Told) → ahead_of (window_bytes before ++ take before.room given) 0 Over t ≡ ahead_of (window_bytes before) before.room Open (in_front given t)
      by None = refl
      by (Some left) = ap Some (took_some (window_bytes before) given left before.room over)

  -- the source gave bytes, of which as many were taken as may be
  pub gave : (middle : List ℕ) (got : ℕ) → take before.to middle ≡ take before.to before.buffer.items → Gives got (drop before.to middle) told told_now
      → now.from ≡ before.from → now.to ≡ before.to + min got before.room → now.room ≡ before.room - got → now.buffer.items ≡ middle
      → now.supply ≡ (elim (nat_lt before.room got) as (λ b. Supply) [ true ↦ Over | false ↦ before.supply ]) → KeepsAhead before now told told_now
  gave middle got same gives from to room buffer supply = by (nat_lt before.room got) refl supply
    where
      by : (b : Bool) → nat_lt before.room got ≡ b → now.supply ≡ (elim b as (λ x. Supply) [ true ↦ Over | false ↦ before.supply ]) → KeepsAhead before now told told_now
      by true over is =
          let many : before.room < got = nat_lt-true before.room got over in
          let size : length (take got (drop before.to middle)) ≡ got = length-take-le got (drop before.to middle) gives.fits in
          gave_over (take got (drop before.to middle)) (omega arith)
          (bytes_now middle before.room same from (to ∙ (let e : before.to + min got before.room ≡ before.to + before.room = omega arith in e)) buffer
          ∙ ap (λ (xs : List ℕ). window_bytes before ++ xs) (sym (take-take before.room got (drop before.to middle) (omega arith))))
          (room ∙ (omega arith)) is gives.taken
      by false over is =
          let few : got ≤ before.room = nat_lt-false before.room got over in
          let size : length (take got (drop before.to middle)) ≡ got = length-take-le got (drop before.to middle) gives.fits in
          gave_all (take got (drop before.to middle)) (omega arith)
          (bytes_now middle got same from (to ∙ (let e : before.to + min got before.room ≡ before.to + got = omega arith in e)) buffer)
          (room ∙ ap (λ (n : ℕ). before.room - n) (sym size)) (is ∙ open_was) gives.taken

-- no bytes were read
module _ (before now : Window) (told told_now : Told) (from : now.from ≡ before.from) (to : now.to ≡ before.to) (same : take before.to now.buffer.items ≡ take before.to before.buffer.items)
    (room : now.room ≡ before.room) (left : told_now ≡ told) where
  bytes_same : window_bytes now ≡ window_bytes before
  bytes_same = (λ i. take (to i - from i) (drop (from i) now.buffer.items)) ∙ part_same before.buffer.items now.buffer.items before.from before.to before.in_order same

  few_same : length (window_bytes now) + now.room ≤ length (window_bytes before) + before.room
  few_same = let size : length (window_bytes now) ≡ length (window_bytes before) = ap length bytes_same in omega (arith, size, room)

  -- the source failed
  pub failed : now.supply ≡ before.supply → KeepsAhead before now told told_now
  failed supply = record { same = λ i. ahead_of (bytes_same i) (room i) (supply i) (left i); few = few_same }

  -- the source has ended
  pub ended : before.supply ≡ Open → now.supply ≡ Ended → IsAtEnd told → KeepsAhead before now told told_now
  ended open_was supply at = record {
    same = (λ i. ahead_of (bytes_same i) (room i) (supply i) (left i)) ∙ by told at ∙ (λ i. ahead_of (window_bytes before) before.room (sym open_was i) told);
    few = few_same;
  }
    where
      by : (t : Told) → IsAtEnd t → ahead_of (window_bytes before) before.room Ended t ≡ ahead_of (window_bytes before) before.room Open t
      by None h = refl
      by (Some xs) h = ap Some (ap (ahead_with (window_bytes before) before.room Ended) h ∙ at_end (window_bytes before) before.room ∙ ap (ahead_with (window_bytes before) before.room Open) (sym h))
