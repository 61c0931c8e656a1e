-- What a window shows behind each step.
use Rattle.std.proofs.Common.{◌≡◌, ℕ, ◌+◌, ◌-◌, ◌≤◌, List, ◌++◌, length, take, drop, sym, ap, ◌∙◌, arith, length-drop, length-take, length-take-le}
use Rattle.std.proofs.Math.Seq.{take-add}
use Rattle.std.proofs.lemmas.List.{drop-append-le, drop-drop, drop-take, take-take}
use Rattle.std.specs.Prelude.{min}
use Rattle.uf_edge.specs.Streams.{Gives, Told}
use Rattle.uf_lines.specs.Windows.{TakesBehind, in_window}
use Rattle.uf_lines.specs.declared.window.SourceBuffer.{SourceBuffer}

-- the bytes from one place up to another
part_is : (from to : ℕ) (xs : List ℕ) → from ≤ to → take (to - from) (drop from xs) ≡ drop from (take to xs)
part_is from to xs h = sym (drop-take from (to - from) xs) ∙ ap (λ (n : ℕ). drop from (take n xs)) (let e : from + (to - from) ≡ to = omega arith in e)

-- some of the first bytes were used
pub part_used : (from to n : ℕ) (xs : List ℕ) → from + n ≤ to → take (to - (from + n)) (drop (from + n) xs) ≡ drop n (take (to - from) (drop from xs))
part_used from to n xs h =
    part_is (from + n) to xs h ∙ sym (drop-drop n from (take to xs)) ∙ ap (drop n) (sym (part_is from to xs (omega arith)))

-- some bytes were put behind those that are there
part_more : (old now : List ℕ) (from to k : ℕ) → from ≤ to → to ≤ length old → take to now ≡ take to old → take (to + k - from) (drop from now) ≡ take (to - from) (drop from old) ++ take k (drop to now)
part_more old now from to k order fits same =
    let size : length (take to old) ≡ to = length-take-le to old fits in
    part_is from (to + k) now (omega arith)
    ∙ ap (drop from) (take-add to k now ∙ ap (λ (xs : List ℕ). xs ++ take k (drop to now)) same)
    ∙ drop-append-le from (take to old) (take k (drop to now)) (omega (arith, size))
    ∙ ap (λ (xs : List ℕ). xs ++ take k (drop to now)) (sym (part_is from to old order))

pub part_same : (old now : List ℕ) (from to : ℕ) → from ≤ to → take to now ≡ take to old → take (to - from) (drop from now) ≡ take (to - from) (drop from old)
part_same old now from to order same = part_is from to now order ∙ ap (drop from) same ∙ sym (part_is from to old order)

-- no more bytes are used than are there
pub used_fits : (from to n : ℕ) (xs : List ℕ) → from ≤ to → n ≤ length (take (to - from) (drop from xs)) → from + n ≤ to
used_fits from to n xs order h = let size : length (take (to - from) (drop from xs)) ≡ min (to - from) (length (drop from xs)) = length-take (to - from) (drop from xs) in omega (arith, size)

-- the source gave bytes into the buffer, up to a place in it
module _ (before : SourceBuffer) (items : List ℕ) (got end : ℕ) (left left_now : Told) (gives : Gives got (take (end - before.to) (drop before.to items)) left left_now) where
  given_size : length (take got (take (end - before.to) (drop before.to items))) ≡ got
  given_size = length-take-le got (take (end - before.to) (drop before.to items)) gives.fits

  pub got_fits : (got ≤ end - before.to) × (got ≤ length items - before.to)
  got_fits =
      let part : length (take (end - before.to) (drop before.to items)) ≡ min (end - before.to) (length (drop before.to items)) = length-take (end - before.to) (drop before.to items) in
      let rest : length (drop before.to items) ≡ length items - before.to = length-drop before.to items in
      let fits = gives.fits in
      (omega (arith, part, rest), omega (arith, part, rest))

  pub gave : (count : ℕ) (bytes : List ℕ) → in_window before ≡ bytes → before.to ≤ length before.buffer.items → end ≤ before.to + count → take before.to items ≡ take before.to before.buffer.items
      → TakesBehind count bytes (take (before.to + got - before.from) (drop before.from items)) left left_now
  gave count bytes same fits few front = record {
    given = take got (take (end - before.to) (drop before.to items));
    some = let h = gives.some in omega (arith, given_size);
    few = let h = got_fits.0 in omega (arith, given_size);
    behind =
        part_more before.buffer.items items before.from before.to got before.in_order fits front
        ∙ (λ i. same i ++ sym (take-take got (end - before.to) (drop before.to items) got_fits.0) i);
    taken = gives.taken;
  }
