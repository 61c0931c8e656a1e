-- How often an edit touches the store, in numbers.
use Rattle.std.proofs.Common.{◌≡◌, ◌≢◌, ℕ, zero, suc, ◌+◌, ◌-◌, ◌*◌, ◌/◌, ◌<◌, ◌≤◌, ◌^◌, List, [], ◌∷◌, length, take, drop, min, max, refl, ap, arith, sym, ◌∙◌, subst, Bool, true, false, Option, None, Some, ◌⊎◌, inl, inr, mul_assoc, mul_comm, IsTrue}
use Rattle.std.specs.Prelude.{◌==◌, ◌&&◌, nat_lt, slice_get, get_or, cond, Result, IfErr, IfOk, Ok, Err}
use Rattle.std.proofs.Math.Nat.{add-mul, mul-add, mul-sub, mul-le-mul, mul-le-mul_left, mul-le-mul_right, div-mul-le_self, lt-div-mul-add, lt_of_mul-lt-mul_right}
use Rattle.std.proofs.lemmas.Bool.{cases_lt}
use Rattle.std.proofs.lemmas.Bool.Decides.{nat_tests}
use Rattle.uf_store.specs.Clashes.{IsSaving}
use Rattle.uf_store.specs.declared.store.StoreFault.{StoreFault}
use Rattle.uf_store.specs.declared.store.StoreFault.TheVariants.{Failed, Damaged, Missing, BadBlock, Clash, Memory}
use Rattle.uf_tree.specs.declared.nodes.Part.{Part}
use Rattle.uf_tree.specs.declared.profile.Profile.{Profile}
use Rattle.uf_tree.specs.FileSub.{span}
use Rattle.uf_tree.specs.Profiles.{is_profile}
use Rattle.uf_fileedit.specs.Planned.{are_planned, is_of_height}
use Rattle.uf_fileedit.specs.Touches.{AreBelow, BlamedAfter, Climbs, IsChangeWithin, IsEditWithin, IsLeft, chunks_met, cut_chunks, edit_touches, old_size, written_chunks}
use Rattle.uf_tree.proofs.Sub.{span-pos}
use Rattle.uf_tree.proofs.Told.{kept}
use Rattle.std.proofs.lemmas.List.{take_rest, length-drop, length-take}
use Rattle.uf_fileedit.proofs.Numbers.{Room, last, span-rises}

pub sub_mul : (a b c : ℕ) → (a - b) * c ≡ a * c - b * c
sub_mul a b c = mul_comm (a - b) c ∙ mul-sub c a b ∙ (λ i. mul_comm c a i - mul_comm c b i)

-- how many chunks a part of this height has at most
unfoldable pub chunks_in : ℕ → ℕ → ℕ
chunks_in w zero = 1
chunks_in w (suc k) = w * chunks_in w k

pub span-chunks : (c w k : ℕ) → span c w k ≡ chunks_in w k * c
unfolding span chunks_in
span-chunks c w zero = let e : c ≡ 1 * c = omega arith in e
span-chunks c w (suc k) = ap (λ n. w * n) (span-chunks c w k) ∙ sym (mul_assoc w (chunks_in w k) c)

-- ---- the parts of a planned node, by their sizes

first_true : (a b c d : Bool) → (a && b && c && d) ≡ true → b ≡ true
first_true a b c d h = grind arith

last_true : (a b c d : Bool) → (a && b && c && d) ≡ true → d ≡ true
last_true a b c d h = grind arith

eq_true : (a b : ℕ) → (a == b) ≡ true → a ≡ b
eq_true a b h = grind (arith, nat_tests)

one_more : (i s : ℕ) → suc i * s ≡ s + i * s
one_more i s = omega arith

pub planned-sizes : (s k n : ℕ) (ms : List Part) → are_planned s k n ms ≡ true → (i : ℕ) → old_size (slice_get ms i) ≡ min (n - i * s) s
planned-sizes s k n [] h i = let e : n ≡ 0 = eq_true n 0 h in omega arith
planned-sizes s k n (m ∷ ms) h zero = let e : m.size ≡ min n s = eq_true m.size (min n s) (first_true (nat_lt 0 m.size) (m.size == min n s) (is_of_height k m.entry.cid.codec) (are_planned s k (n - m.size) ms) h) in omega arith
planned-sizes s k n (m ∷ ms) h (suc i) =
    let e : m.size ≡ min n s = eq_true m.size (min n s) (first_true (nat_lt 0 m.size) (m.size == min n s) (is_of_height k m.entry.cid.codec) (are_planned s k (n - m.size) ms) h) in
    let later : old_size (slice_get ms i) ≡ min ((n - m.size) - i * s) s = planned-sizes s k (n - m.size) ms (last_true (nat_lt 0 m.size) (m.size == min n s) (is_of_height k m.entry.cid.codec) (are_planned s k (n - m.size) ms) h) i in
    let more = one_more i s in
    omega arith

pub planned-ends : (s k n : ℕ) (ms : List Part) → are_planned s k n ms ≡ true → (i : ℕ) → slice_get ms i ≡ None → n ≤ i * s
planned-ends s k n [] h i none = let e : n ≡ 0 = eq_true n 0 h in omega arith
planned-ends s k n (m ∷ ms) h zero none = absurd (let no : Some m ≡ None = none in cc)
planned-ends s k n (m ∷ ms) h (suc i) none =
    let e : m.size ≡ min n s = eq_true m.size (min n s) (first_true (nat_lt 0 m.size) (m.size == min n s) (is_of_height k m.entry.cid.codec) (are_planned s k (n - m.size) ms) h) in
    let later : n - m.size ≤ i * s = planned-ends s k (n - m.size) ms (last_true (nat_lt 0 m.size) (m.size == min n s) (is_of_height k m.entry.cid.codec) (are_planned s k (n - m.size) ms) h) i none in
    let more = one_more i s in
    omega arith

pub planned-below : (s k : ℕ) (old : Option Part) (part : Part) (ms : List Part) → old ≡ Some part → are_planned s k part.size ms ≡ true → AreBelow s old ms
planned-below s k old part ms is h = record {
  sizes = λ i. planned-sizes s k part.size ms h i ∙ ap (λ (o : Option Part). min (old_size o - i * s) s) (sym is);
  ends = λ i none. subst (λ (o : Option Part). old_size o ≤ i * s) (sym is) (planned-ends s k part.size ms h i none);
}

-- a part that is no higher is the only one
pub just-below : (s : ℕ) (old : Option Part) (part : Part) (ms : List Part) → old ≡ Some part → ms ≡ part ∷ [] → part.size ≤ s → AreBelow s old ms
just-below s old part ms is one few = record {
  sizes = λ i. ap (λ (l : List Part). old_size (slice_get l i)) one ∙ size i ∙ ap (λ (o : Option Part). min (old_size o - i * s) s) (sym is);
  ends = λ i none. subst (λ (o : Option Part). old_size o ≤ i * s) (sym is) (end i (ap (λ (l : List Part). slice_get l i) (sym one) ∙ none));
}
  where
    size : (i : ℕ) → old_size (slice_get (part ∷ []) i) ≡ min (part.size - i * s) s
    size zero = omega arith
    size (suc i) = let more = one_more i s in omega arith

    end : (i : ℕ) → slice_get (part ∷ []) i ≡ None → part.size ≤ i * s
    end zero none = absurd (let no : Some part ≡ None = none in cc)
    end (suc i) none = let more = one_more i s in omega arith

pub none-below : (s : ℕ) (old : Option Part) (ms : List Part) → old ≡ None → ms ≡ [] → AreBelow s old ms
none-below s old ms is none = record {
  sizes = λ i. ap (λ (l : List Part). old_size (slice_get l i)) none ∙ (let e : 0 ≡ min (0 - i * s) s = omega arith in e) ∙ ap (λ (o : Option Part). min (old_size o - i * s) s) (sym is);
  ends = λ i gone. subst (λ (o : Option Part). old_size o ≤ i * s) (sym is) (let e : 0 ≤ i * s = omega arith in e);
}

pub loaded-below : (p : Profile) (k : ℕ) (old : Option Part) (part : Part) (r : Result (List Part) StoreFault) → old ≡ Some part → IfOk r (λ parts. IsTrue (are_planned (span p.chunk p.width k) k part.size parts))
    → IfOk r (AreBelow (span p.chunk p.width k) old)
loaded-below p k old part (Ok parts) is planned = planned-below (span p.chunk p.width k) k old part parts is planned
loaded-below p k old part (Err fault) is planned = tt

pub just-few : (p : Profile) → IsTrue (is_profile p) → (top k : ℕ) (old : Option Part) (part : Part) (parts : List Part) → old ≡ Some part → parts ≡ part ∷ [] → top ≤ k → old_size old ≤ span p.chunk p.width (min top (k + 1))
    → AreBelow (span p.chunk p.width k) old parts
just-few p ok top k old part parts is one high fits =
    let same : min top (k + 1) ≡ top = omega arith in
    let few : old_size old ≤ span p.chunk p.width top = subst (λ n. old_size old ≤ span p.chunk p.width n) same fits in
    let size : old_size old ≡ part.size = ap old_size is in
    let wide : 1 ≤ p.width = (let two : 2 ≤ p.width = (kept p ok).two in omega arith) in
    let rises : span p.chunk p.width top ≤ span p.chunk p.width k = span-rises p.chunk p.width top k wide high in
    just-below (span p.chunk p.width k) old part parts is one (omega arith)

pub below-slice : (s : ℕ) (old : Option Part) (slice parts : List Part) → slice ≡ parts → AreBelow s old parts → AreBelow s old slice
below-slice s old slice parts same h = subst (AreBelow s old) (sym same) h

-- ---- a change of a part changes at least one chunk

pub some-chunk : (p : Profile) (top height : ℕ) (old : Option Part) (size offset more a z : ℕ) → IsChangeWithin p top height old size offset more a z
    → (IsLeft top height size old → ⊥) ⊎ (1 ≤ more) → a < z
some-chunk p top height old size offset more a z is (inl changed) = (is.ends changed).2
some-chunk p top height old size offset more a z is (inr laid) =
    let from : a * p.chunk ≤ offset = (is.laid laid).0 in
    let to : offset + more ≤ z * p.chunk = (is.laid laid).1 in
    lt_of_mul-lt-mul_right p.chunk {m = a} {n = z} (omega arith)

-- ---- what is spent part by part

-- so many touches for each chunk that is left
pub spent : (f q a z i t0 t1 t2 : ℕ) → t1 + f * ((z - i * q) - (a - i * q)) ≤ t0 + f * (z - a) → t2 ≤ t1 + f * (min (z - i * q) q - (a - i * q))
    → t2 + f * ((z - (i + 1) * q) - (a - (i + 1) * q)) ≤ t0 + f * (z - a)
spent f q a z i t0 t1 t2 before one =
    let next : (i + 1) * q ≡ i * q + q = omega arith in
    let split : (min (z - i * q) q - (a - i * q)) + ((z - (i + 1) * q) - (a - (i + 1) * q)) ≤ (z - i * q) - (a - i * q) = omega arith in
    let both = mul-add f (min (z - i * q) q - (a - i * q)) ((z - (i + 1) * q) - (a - (i + 1) * q)) in
    let less = mul-le-mul_left f split in
    omega arith

-- ---- one of the parts below

module _ (p : Profile) (some : 1 ≤ p.width) (top k : ℕ) (pos : 1 ≤ span p.chunk p.width k) (old child : Option Part) (parts : List Part) (size offset more a z i : ℕ) (is : IsChangeWithin p top (k + 1) old size offset more a z)
    (below : AreBelow (span p.chunk p.width k) old parts) (child_is : child ≡ slice_get parts i) (inside : i * span p.chunk p.width k < size)
    (count place rest cut : ℕ) (count_is : count ≡ min (size - i * span p.chunk p.width k) (span p.chunk p.width k)) (cut_is : cut ≡ min rest (count - place))
    (place_is : offset ≤ place + i * span p.chunk p.width k) (rest_is : 1 ≤ rest → i * span p.chunk p.width k + place + rest ≤ offset + more) where
  abbrev s : ℕ
  s = span p.chunk p.width k

  abbrev q : ℕ
  q = chunks_in p.width k

  -- a number of chunks that begins or ends behind this part, told from its begin
  from_here : (n : ℕ) → (n - i * q) * p.chunk ≡ n * p.chunk - i * s
  from_here n = sub_mul n (i * q) p.chunk ∙ ap (λ m. n * p.chunk - m) (mul_assoc i q p.chunk ∙ ap (λ m. i * m) (sym (span-chunks p.chunk p.width k)))

  -- what ends within this part and before the last chunk, ends before the last chunk of this part
  within_part : (n : ℕ) → n ≤ s → n + i * s ≤ z * p.chunk → n ≤ min (z - i * q) q * p.chunk
  within_part n few ends = by (cases_lt q (z - i * q))
    where
      by : (q < z - i * q) ⊎ (z - i * q ≤ q) → n ≤ min (z - i * q) q * p.chunk
      by (inl more) = subst (λ m. n ≤ m * p.chunk) (let e : q ≡ min (z - i * q) q = omega arith in e) (subst (λ m. n ≤ m) (span-chunks p.chunk p.width k) few)
      by (inr less) = subst (λ m. n ≤ m * p.chunk) (let e : z - i * q ≡ min (z - i * q) q = omega arith in e) (let h = from_here z in omega arith)

  size_child : old_size child ≡ min (old_size old - i * s) s
  size_child = ap old_size child_is ∙ below.sizes i

  -- where the part above is left, so is this one
  left_too : (old child : Option Part) → old_size child ≡ min (old_size old - i * s) s → (child ≡ None → old_size old ≤ i * s) → IsLeft top (k + 1) size old → IsLeft top k count child
  left_too None child sizes none h = absurd h
  left_too (Some m) None sizes none h = absurd (let few : m.size ≤ i * s = none refl in let e : m.size ≡ size = h.1 in omega arith)
  left_too (Some m) (Some n) sizes none h = (let high : k + 1 ≤ top = h.0 in omega arith, let e : m.size ≡ size = h.1 in omega arith)

  changed_above : (IsLeft top k count child → ⊥) → IsLeft top (k + 1) size old → ⊥
  changed_above changed h = changed (left_too old child size_child (λ none. below.ends i (sym child_is ∙ none)) h)

  -- where this part is changed, the old end and the new one don't both lie behind it
  near : (IsLeft top k count child → ⊥) → min (old_size old) size - i * s ≤ s
  near changed = by child size_child (λ none. below.ends i (sym child_is ∙ none)) changed
    where
      by : (child : Option Part) → old_size child ≡ min (old_size old - i * s) s → (child ≡ None → old_size old ≤ i * s) → (IsLeft top k count child → ⊥) → min (old_size old) size - i * s ≤ s
      by None sizes none changed = let few : old_size old ≤ i * s = none refl in omega arith
      by (Some n) sizes none changed = high (cases_lt top k)
        where
          high : (top < k) ⊎ (k ≤ top) → min (old_size old) size - i * s ≤ s
          high (inl low) =
              let same : min top (k + 1) ≡ top = omega arith in
              let fits : old_size old ≤ span p.chunk p.width top = subst (λ n. old_size old ≤ span p.chunk p.width n) same is.fits in
              let rises : span p.chunk p.width top ≤ span p.chunk p.width k = span-rises p.chunk p.width top k some (omega arith) in
              omega arith
          high (inr no_low) = differ (cases_lt s (min (old_size old) size - i * s))
            where
              differ : (s < min (old_size old) size - i * s) ⊎ (min (old_size old) size - i * s ≤ s) → min (old_size old) size - i * s ≤ s
              differ (inl far) = absurd (changed (no_low, omega arith))
              differ (inr near) = near

  pub child-within : IsChangeWithin p top k child count place cut (a - i * q) (min (z - i * q) q)
  child-within = record {
    fits = fits (cases_lt top k);
    laid = λ laid.
        let r : i * s + place + rest ≤ offset + more = rest_is (omega arith) in
        let both = is.laid (omega arith) in
        let from : a * p.chunk ≤ offset = both.0 in
        let to : offset + more ≤ z * p.chunk = both.1 in
        ((let h = from_here a in omega arith), within_part (place + cut) (omega arith) (omega arith));
    ends = λ changed.
        let above = is.ends (changed_above changed) in
        let close = near changed in
        let from : (a - i * q) * p.chunk ≤ min (old_size child) count - 1 = (let h = from_here a in let f : a * p.chunk ≤ min (old_size old) size - 1 = above.0 in let n = size_child in omega arith) in
        let to : count ≤ min (z - i * q) q * p.chunk = within_part count (omega arith) (let t : size ≤ z * p.chunk = above.1 in omega arith) in
        (from, to, lt_of_mul-lt-mul_right p.chunk {m = a - i * q} {n = min (z - i * q) q} (omega arith));
  }
    where
      fits : (top < k) ⊎ (k ≤ top) → old_size child ≤ span p.chunk p.width (min top k)
      fits (inl low) =
          let same : min top (k + 1) ≡ min top k = omega arith in
          let f : old_size old ≤ span p.chunk p.width (min top k) = subst (λ n. old_size old ≤ span p.chunk p.width n) same is.fits in
          let n = size_child in
          omega arith
      fits (inr no_low) = subst (λ n. old_size child ≤ span p.chunk p.width n) (let e : k ≡ min top k = omega arith in e) (let n = size_child in omega arith)

  -- what is spent with one part more
  pub turn-spent : (t0 t1 t2 : ℕ) → t1 + 2 * (k + 1) * ((z - i * chunks_in p.width k) - (a - i * chunks_in p.width k)) ≤ t0 + 2 * (k + 1) * (z - a)
      → ((a z : ℕ) → IsChangeWithin p top k child count place cut a z → t2 ≤ t1 + 2 * (k + 1) * (z - a))
      → t2 + 2 * (k + 1) * ((z - (i + 1) * chunks_in p.width k) - (a - (i + 1) * chunks_in p.width k)) ≤ t0 + 2 * (k + 1) * (z - a)
  turn-spent t0 t1 t2 before one = spent (2 * (k + 1)) q a z i t0 t1 t2 before (one (a - i * q) (min (z - i * q) q) child-within)

-- where a part is, and where what is left of the piece is
pub rest-next : (at s place next r left count cut more end : ℕ) → count ≡ min left s → cut ≡ min r (count - place) → next ≡ place - count → (1 ≤ r → place + r ≤ left) → (1 ≤ r → at * s + place + r ≤ end)
    → more ≡ r - cut → 1 ≤ more → (at + 1) * s + next + more ≤ end
rest-next at s place next r left count cut more end count_is cut_is next_is within rest_is more_is some =
    let one : (at + 1) * s ≡ at * s + s = omega arith in
    let w : place + r ≤ left = within (omega arith) in
    let e : at * s + place + r ≤ end = rest_is (omega arith) in
    omega arith

pub place-next : (at s place next left count offset : ℕ) → count ≡ min left s → next ≡ place - count → offset ≤ place + at * s → offset ≤ next + (at + 1) * s
place-next at s place next left count offset count_is next_is place_is = let one : (at + 1) * s ≡ at * s + s = omega arith in omega arith

pub left-at : (at n s left size : ℕ) → at ≡ n → n * s + left ≡ size → at * s + left ≡ size
left-at at n s left size same full = subst (λ m. m * s + left ≡ size) (sym same) full

pub spent-none : (f q a z t : ℕ) → t + f * ((z - 0 * q) - (a - 0 * q)) ≤ t + f * (z - a)
spent-none f q a z t = subst (λ n. t + f * n ≤ t + f * (z - a)) (let e : z - a ≡ (z - 0 * q) - (a - 0 * q) = omega arith in e) (let r : t + f * (z - a) ≤ t + f * (z - a) = omega arith in r)

pub rest-length : (rest : List ℕ) (cut : ℕ) → length (take (length rest - cut) (drop cut rest)) ≡ length rest - cut
rest-length rest cut = ap (λ (l : List ℕ). length l) (take_rest rest cut) ∙ length-drop cut rest

pub less-spent : (t x u : ℕ) → t + x ≤ u → t ≤ u
less-spent t x u h = omega arith

-- one turn of the loop over the parts of a node
pub turn-costs : (p : Profile) → IsTrue (is_profile p) → (top k : ℕ) (old child : Option Part) (parts : List Part) (size offset more a z at left n most count place cut : ℕ) (rest : List ℕ)
    → IsChangeWithin p top (k + 1) old size offset more a z → AreBelow (span p.chunk p.width k) old parts → child ≡ slice_get parts at → size < 2 ^ 63 → most ≡ min (span p.chunk p.width k) last → count ≡ min left most → cut ≡ min (length rest) (count - place)
    → at ≡ n → Room (span p.chunk p.width k) size left n → 1 ≤ left → left ≤ size → offset ≤ place + at * span p.chunk p.width k → (1 ≤ length rest → at * span p.chunk p.width k + place + length rest ≤ offset + more)
    → (t0 t1 t2 : ℕ) → t1 + 2 * (k + 1) * ((z - at * chunks_in p.width k) - (a - at * chunks_in p.width k)) ≤ t0 + 2 * (k + 1) * (z - a)
    → ((a z : ℕ) → IsChangeWithin p top k child count place (length (take cut rest)) a z → t2 ≤ t1 + 2 * (k + 1) * (z - a))
    → t2 + 2 * (k + 1) * ((z - (at + 1) * chunks_in p.width k) - (a - (at + 1) * chunks_in p.width k)) ≤ t0 + 2 * (k + 1) * (z - a)
turn-costs p ok top k old child parts size offset more a z at left n most count place cut rest is below child_is small most_is count_is cut_is at_is room some few place_is rest_is t0 t1 t2 before one =
    let here : at * span p.chunk p.width k + left ≡ size = left-at at n (span p.chunk p.width k) left size at_is (room.full some) in
    let wide : 1 ≤ p.width = (let two : 2 ≤ p.width = (kept p ok).two in omega arith) in
    let counted : count ≡ min (size - at * span p.chunk p.width k) (span p.chunk p.width k) = omega arith in
    let taken : length (take cut rest) ≡ min (length rest) (count - place) = (let e = length-take cut rest in omega arith) in
    let pos : 1 ≤ span p.chunk p.width k = span-pos p.chunk p.width k (kept p ok).some wide in
    turn-spent p wide top k pos old child parts size offset more a z at is below child_is (omega arith) count place (length rest) (length (take cut rest)) counted taken place_is rest_is t0 t1 t2 before one

-- ---- what is spent

-- a node costs a load and a save more
pub node-spent : (k d t0 t1 t2 t3 : ℕ) → 1 ≤ d → t1 ≤ t0 + 1 → t2 ≤ t1 + 2 * (k + 1) * d → t3 ≤ t2 + 1 → t3 ≤ t0 + 2 * (k + 1 + 1) * d
node-spent k d t0 t1 t2 t3 some load below save =
    let more : 2 * (k + 1 + 1) * d ≡ 2 * (k + 1) * d + 2 * d = ap (λ n. n * d) (let e : 2 * (k + 1 + 1) ≡ 2 * (k + 1) + 2 = omega arith in e) ∙ add-mul (2 * (k + 1)) 2 d in
    omega arith

pub leaf-spent : (d t0 t1 : ℕ) → 1 ≤ d → t1 ≤ t0 + 2 → t1 ≤ t0 + 2 * (0 + 1) * d
leaf-spent d t0 t1 some h = omega arith

-- a leaf, where it is changed
pub leaf-touches : (p : Profile) (top height : ℕ) (old : Option Part) (size offset more a z t0 t1 : ℕ) → height ≡ 0 → IsChangeWithin p top height old size offset more a z
    → (IsLeft top height size old → ⊥) ⊎ (1 ≤ more) → t1 ≤ t0 + 2 → t1 ≤ t0 + 2 * (height + 1) * (z - a)
leaf-touches p top height old size offset more a z t0 t1 low is changed few =
    let some : a < z = some-chunk p top height old size offset more a z is changed in
    subst (λ n. t1 ≤ t0 + 2 * (n + 1) * (z - a)) (sym low) (leaf-spent (z - a) t0 t1 (omega arith) few)

-- a node, where it is changed
pub node-touches : (p : Profile) (top height k : ℕ) (old : Option Part) (size offset more a z t0 t1 : ℕ) → height ≡ k + 1 → IsChangeWithin p top height old size offset more a z
    → (IsLeft top height size old → ⊥) ⊎ (1 ≤ more) → ((a z : ℕ) → IsChangeWithin p top (k + 1) old size offset more a z → a < z → t1 ≤ t0 + 2 * (k + 1 + 1) * (z - a)) → t1 ≤ t0 + 2 * (height + 1) * (z - a)
node-touches p top height k old size offset more a z t0 t1 high is changed node =
    let some : a < z = some-chunk p top height old size offset more a z is changed in
    subst (λ n. t1 ≤ t0 + 2 * (n + 1) * (z - a)) (sym high) (node a z (subst (λ n. IsChangeWithin p top n old size offset more a z) high is) some)

-- what an edit costs in all
pub edit-spent : (rows after d t0 t1 : ℕ) → t1 ≤ t0 + 3 + (rows - after) + 2 * (after + 1) * d → t1 ≤ t0 + edit_touches d (max rows after)
edit-spent rows after d t0 t1 h =
    let few : 2 * (after + 1) ≤ 2 * (max rows after + 2) = omega arith in
    let one = mul-le-mul_right d few in
    let two : 2 * (d + 2) * (max rows after + 2) ≡ 2 * (max rows after + 2) * d + 4 * (max rows after + 2)
    = ap (λ n. n * (max rows after + 2)) (let e : 2 * (d + 2) ≡ 2 * d + 4 = omega arith in e) ∙ add-mul (2 * d) 4 (max rows after + 2) ∙ ap (λ n. n + 4 * (max rows after + 2)) (turned d (max rows after + 2)) in
    omega arith
  where
    turned : (d n : ℕ) → 2 * d * n ≡ 2 * n * d
    turned d n = mul_assoc 2 d n ∙ ap (λ m. 2 * m) (mul_comm d n) ∙ sym (mul_assoc 2 n d)

-- ---- the chunks of an edit

pub chunk-before : (c n : ℕ) → n / c * c ≤ n
chunk-before c n = div-mul-le_self n c

pub chunk-behind : (c n : ℕ) → 1 ≤ c → n ≤ (n + c - 1) / c * c
chunk-behind c n some = let h = lt-div-mul-add {a = n + c - 1} {b = c} some in omega arith

pub write-within : (c old offset more : ℕ) → 1 ≤ c → 1 ≤ more → IsEditWithin c old (max old (offset + more)) offset more (min offset (old - 1) / c) ((offset + more + c - 1) / c)
write-within c old offset more pos some =
    let from = chunk-before c (min offset (old - 1)) in
    let to = chunk-behind c (offset + more) pos in
    record {
      laid = λ h. (omega arith, to);
      ends = λ differs. (omega arith, omega arith, lt_of_mul-lt-mul_right c {m = min offset (old - 1) / c} {n = (offset + more + c - 1) / c} (omega arith));
    }

pub cut-within : (c old size : ℕ) → 1 ≤ c → old ≢ size → IsEditWithin c old size 0 0 ((min old size - 1) / c) ((max size 1 + c - 1) / c)
cut-within c old size pos differs =
    let from = chunk-before c (min old size - 1) in
    let to = chunk-behind c (max size 1) pos in
    record {
      laid = λ h. absurd (omega arith);
      ends = λ h. (from, omega arith, lt_of_mul-lt-mul_right c {m = (min old size - 1) / c} {n = (max size 1 + c - 1) / c} (omega arith));
    }

-- the first part of a lesser height
pub front-size : (p : Profile) → 1 ≤ p.width → (top height below : ℕ) (root first d : Part) (parts : List Part) → height < top → below ≡ top - 1 → first ≡ get_or parts 0 d → 1 ≤ length parts
    → are_planned (span p.chunk p.width below) below root.size parts ≡ true → (r : Result Part StoreFault)
    → (first.size ≤ span p.chunk p.width below → IfOk r (λ m. m.size ≡ min first.size (span p.chunk p.width (min below height)))) → IfOk r (λ m. m.size ≡ min root.size (span p.chunk p.width (min top height)))
front-size p some top height below root first d [] low is first_is few planned r rec = absurd (omega arith)
front-size p some top height below root first d (m ∷ ms) low is first_is few planned (Err fault) rec = tt
front-size p some top height below root first d (m ∷ ms) low is first_is few planned (Ok x) rec =
    let size : m.size ≡ min (root.size - 0 * span p.chunk p.width below) (span p.chunk p.width below) = planned-sizes (span p.chunk p.width below) below root.size (m ∷ ms) planned 0 in
    let same : first.size ≡ m.size = ap (λ (y : Part). y.size) first_is in
    let one : min below height ≡ min top height = omega arith in
    let here : x.size ≡ min first.size (span p.chunk p.width (min top height)) = subst (λ n. x.size ≡ min first.size (span p.chunk p.width n)) one (rec (omega arith)) in
    let rises : span p.chunk p.width (min top height) ≤ span p.chunk p.width below = span-rises p.chunk p.width (min top height) below some (omega arith) in
    omega arith

pub write-costs : (c old size offset more rows after t0 t1 : ℕ) → 1 ≤ c → 1 ≤ more → size ≡ max old (offset + more) → ((a z : ℕ) → IsEditWithin c old size offset more a z → t1 ≤ t0 + 3 + (rows - after) + 2 * (after + 1) * (z - a))
    → t1 ≤ t0 + edit_touches (written_chunks c old offset more) (max rows after)
write-costs c old size offset more rows after t0 t1 pos some is cost = by (more == 0) refl
  where
    by : (t : Bool) → t ≡ (more == 0) → t1 ≤ t0 + edit_touches (written_chunks c old offset more) (max rows after)
    by true e = absurd (let none : more ≡ 0 = eq_true more 0 (sym e) in omega arith)
    by false e =
        subst (λ n. t1 ≤ t0 + edit_touches n (max rows after)) (ap (λ (t : Bool). cond t 0 (chunks_met c (min offset (old - 1)) (offset + more))) e)
        (edit-spent rows after (chunks_met c (min offset (old - 1)) (offset + more)) t0 t1 (cost (min offset (old - 1) / c) ((offset + more + c - 1) / c) (subst (λ n. IsEditWithin c old n offset more (min offset (old - 1) / c) ((offset + more + c - 1) / c)) (sym is) (write-within c old offset more pos some))))

differs_test : (a b : ℕ) → a ≡ b → (a == b) ≡ false → ⊥
differs_test a b h e = grind (arith, nat_tests)

-- a file that is made of no bytes
pub empty-costs : (c offset more after rows t0 t1 : ℕ) → more ≡ 0 → after ≤ rows → ((a z : ℕ) → IsEditWithin c 0 0 offset more a z → t1 ≤ t0 + 3 + 2 * (after + 1) * (z - a)) → t1 ≤ t0 + edit_touches (written_chunks c 0 offset more) rows
empty-costs c offset more after rows t0 t1 none low cost =
    let few : t1 ≤ t0 + 3 + 2 * (after + 1) * 0 = cost 0 0 (record { laid = λ h. absurd (omega arith); ends = λ h. absurd (h refl) }) in
    let most : 2 * 2 * 2 ≤ edit_touches (written_chunks c 0 offset more) rows = mul-le-mul (let e : 2 * 2 ≤ 2 * (written_chunks c 0 offset more + 2) = omega arith in e) (let e : 2 ≤ rows + 2 = omega arith in e) in
    omega arith

-- and one of some bytes
pub new-within : (p : Profile) (top h size offset more a z : ℕ) → size ≢ 0 → IsEditWithin p.chunk 0 size offset more a z → IsChangeWithin p top (h + 1) None size offset more a z
new-within p top h size offset more a z some is =
    let ends = is.ends (λ same. some (sym same)) in
    record {
      fits = (let e : 0 ≤ span p.chunk p.width (min top (h + 1)) = omega arith in e);
      laid = is.laid;
      ends = λ changed. ((let from : a * p.chunk ≤ min 0 size - 1 = ends.0 in from), ends.1, ends.2);
    }

pub cut-costs : (c old size rows after t0 t1 : ℕ) → 1 ≤ c → ((a z : ℕ) → IsEditWithin c old size 0 0 a z → t1 ≤ t0 + 3 + (rows - after) + 2 * (after + 1) * (z - a))
    → t1 ≤ t0 + edit_touches (cut_chunks c old size) (max rows after)
cut-costs c old size rows after t0 t1 pos cost = by (old == size) refl
  where
    by : (t : Bool) → t ≡ (old == size) → t1 ≤ t0 + edit_touches (cut_chunks c old size) (max rows after)
    by true e =
        let same : old ≡ size = eq_true old size (sym e) in
        subst (λ n. t1 ≤ t0 + edit_touches n (max rows after)) (ap (λ (t : Bool). cond t 0 (chunks_met c (min old size - 1) (max size 1))) e)
        (edit-spent rows after 0 t0 t1 (cost 0 0 (record { laid = λ h. absurd (omega arith); ends = λ differs. absurd (differs same) })))
    by false e =
        let differs : old ≢ size = λ same. differs_test old size same (sym e) in
        subst (λ n. t1 ≤ t0 + edit_touches n (max rows after)) (ap (λ (t : Bool). cond t 0 (chunks_met c (min old size - 1) (max size 1))) e)
        (edit-spent rows after (chunks_met c (min old size - 1) (max size 1)) t0 t1 (cost ((min old size - 1) / c) ((max size 1 + c - 1) / c) (cut-within c old size pos differs)))

-- ---- the count of touches climbs

pub blamed-after : (fault : StoreFault) (a b c : ℕ) → a ≤ b → BlamedAfter fault b c → BlamedAfter fault a c
blamed-after Failed a b c low h = omega (arith, low, h)
blamed-after (Damaged cid) a b c low h = omega (arith, low, h)
blamed-after (Missing cid) a b c low h = omega (arith, low, h)
blamed-after (BadBlock cid role) a b c low h = omega arith
blamed-after (Clash cid held bytes) a b c low h = omega (arith, low, h)
blamed-after Memory a b c low h = omega (arith, low, h)

pub blamed-then : (fault : StoreFault) (a b : ℕ) → a < b → BlamedAfter fault a b
blamed-then Failed a b low = omega (arith, low)
blamed-then (Damaged cid) a b low = omega (arith, low)
blamed-then (Missing cid) a b low = omega (arith, low)
blamed-then (BadBlock cid role) a b low = low
blamed-then (Clash cid held bytes) a b low = omega (arith, low)
blamed-then Memory a b low = omega (arith, low)

module _ {A : Type 0} where
  -- a call that touches once more
  pub climbs-one : (r : Result A StoreFault) (a b : ℕ) → a < b → Climbs r a b
  climbs-one (Ok x) a b low = omega arith
  climbs-one (Err fault) a b low = blamed-then fault a b low

  -- a save blames no block
  pub climbs-save : (r : Result A StoreFault) (a b c : ℕ) → a ≤ b → b ≤ c → IfErr r IsSaving → Climbs r a c
  climbs-save (Ok x) a b c low more saving = omega arith
  climbs-save (Err Failed) a b c low more saving = omega (arith, low, more)
  climbs-save (Err (Damaged cid)) a b c low more saving = omega (arith, low, more)
  climbs-save (Err (Missing cid)) a b c low more saving = omega (arith, low, more)
  climbs-save (Err (BadBlock cid role)) a b c low more saving = absurd saving
  climbs-save (Err (Clash cid held bytes)) a b c low more saving = omega (arith, low, more)
  climbs-save (Err Memory) a b c low more saving = omega (arith, low, more)

  -- it doesn't fall
  pub climbs-low : (r : Result A StoreFault) (a b : ℕ) → Climbs r a b → a ≤ b
  climbs-low (Ok x) a b h = h
  climbs-low (Err Failed) a b h = h
  climbs-low (Err (Damaged cid)) a b h = h
  climbs-low (Err (Missing cid)) a b h = h
  climbs-low (Err (BadBlock cid role)) a b h = let low : a < b = h in omega arith
  climbs-low (Err (Clash cid held bytes)) a b h = h
  climbs-low (Err Memory) a b h = h
