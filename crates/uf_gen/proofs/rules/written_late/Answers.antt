use Rattle.std.proofs.Common.{◌≡◌, ◌+◌, ◌-◌, ◌++◌, ◌∷◌, [], ℕ, zero, suc, List, refl, sym, ap, ◌∙◌, arith, length, replicate, take, drop, ◌⊎◌, inl, inr, ◌≤◌, ◌<◌, min}
use Rattle.std.proofs.lemmas.List.{append-nil, append_assoc, length-drop, take_all}
use Rattle.std.proofs.lemmas.Bool.{cases_lt}
use Rattle.std.proofs.Math.ListN.{drop_of_length-le}
use Rattle.uf_tree.specs.Laying.{laid}
use Rattle.uf_gen.proofs.rules.written_late.Goals as goal

one-zero-more : (n : ℕ) → ◌++◌ {A = ℕ} (replicate n 0) (0 ∷ []) ≡ replicate (suc n) 0
one-zero-more zero = refl
one-zero-more (suc n) = ap (λ l. 0 ∷ l) (one-zero-more n)

none-behind : (b : List ℕ) → b ++ replicate (length b - length b) 0 ≡ b
none-behind b = ap (λ n. b ++ replicate n 0) {x = length b - length b} {y = 0} (omega arith) ∙ append-nil b

pub loop-init : goal.loop-init
loop-init c = (
  c.in_ok-extend.ensures.ok ∙ ap (λ l. l ++ c.as_slice-bytes.result.now) c.new-padded.ensures
      ∙ sym (none-behind c.as_slice-bytes.result.now),
  inr refl,
)

pub loop-preserved : goal.loop-preserved
loop-preserved c =
    let b = c.as_slice-bytes.result.now in
    let n = c.loop.counter - length b in (
      c.in_ok-extend-2.ensures.ok
          ∙ ap (λ l. l ++ 0 ∷ []) c.loop.invariant.0
          ∙ append_assoc b (replicate n 0) (0 ∷ [])
          ∙ ap (λ l. b ++ l) (one-zero-more n)
          ∙ ap (λ n. b ++ replicate n 0) {x = suc n} {y = (c.loop.counter + 1) - length b} (omega (arith, c.loop.auto.counter)),
      inl (omega (arith, c.loop-test.true)),
    )

-- what is in front of a place, behind zeros up to it
front : (b : List ℕ) (offset count : ℕ) → length b ≤ count → (offset ≤ count) → (count ≤ offset) ⊎ (count ≡ length b)
    → take offset (b ++ replicate (count - length b) 0) ≡ take offset (b ++ replicate (offset - length b) 0)
front b offset count most le (inl few) = ap (λ n. take offset (b ++ replicate (n - length b) 0)) {x = count} {y = offset} (omega arith)
front b offset count most le (inr same) = ap (λ n. take offset (b ++ replicate n 0)) {x = count - length b} {y = offset - length b} (omega arith)

-- what is behind a place, up to the end
all-behind : (b : List ℕ) (place : ℕ) → take (length b - place) (drop place b) ≡ drop place b
all-behind b place = take_all (length b - place) (drop place b) (omega (arith, length-drop place b))

back : (b : List ℕ) (place least : ℕ) → least ≡ min (length b) place
    → take (length b - least) (drop least b) ≡ drop place b
back b place least e = by (cases_lt (length b) place)
  where
    by : (length b < place) ⊎ (place ≤ length b) → take (length b - least) (drop least b) ≡ drop place b
    by (inl past) =
        all-behind b least ∙ drop_of_length-le b (omega (arith, e))
        ∙ sym (drop_of_length-le b (omega arith))
    by (inr inside) = all-behind b least ∙ ap (λ n. drop n b) {x = least} {y = place} (omega (arith, e))

pub returns : goal.returns
returns c =
    let b = c.as_slice-bytes.result.now in
    let offset = c.args.offset in
    c.in_ok-extend-5.ensures.ok
    ∙ ap (λ l. c.extend-3.new.self ++ l) (back b (offset + 1) c.min.result c.min.ensures)
    ∙ ap (λ l. l ++ drop (offset + 1) b) (c.in_ok-extend-4.ensures.ok
    ∙ ap (λ l. l ++ 120 ∷ []) (c.in_ok-extend-3.ensures.ok
    ∙ ap (λ l. l ++ take offset c.as_slice.result.now) c.new-after.ensures
    ∙ ap (take offset) (c.as_slice.ensures ∙ c.loop.invariant.0)
    ∙ front b offset c.loop.counter c.loop.auto.counter (omega (arith, c.loop-test.false)) c.loop.invariant.1))
    ∙ ap (λ b. laid b offset (120 ∷ [])) c.as_slice-bytes.ensures
